-- What the options of `cwt` require, as the code reads them.
use Rattle.std.proofs.Common.{◌≡◌, ◌∙◌, ℕ, ℤ, List, [], ◌∷◌, ◌++◌, append_assoc, Option, Some, None, Result, Ok, refl, ap, subst, sym, option_map, codes}
use Rattle.std.specs.Prelude.{Bool, is_some, map, not, unwrap_or}
use Rattle.std.specs.Borrow.{Bor}
use Rattle.std.specs.Str.Parse.{ParsesUnsigned, digits_value, without_leading_plus}
use Rattle.clap.specs.Matches.{TriesOne, found_of, one_text, matched_of, raw_values}
use Rattle.clap.specs.Walk.{Text}
use Rattle.clap.specs.declared.parser.matches.ArgMatches.{ArgMatches}
use Rattle.clap.proofs.WalkLemmas.{one_text-rows, raw_values-rows}
use Rattle.cose_cwt.specs.declared.requirements.Claim.{Claim}
use Rattle.cose_answers.specs.declared.required.Required.{Required}
use Rattle.cose_cwt.specs.Claims.Audience.{text_value}
use Rattle.cosecmd.specs.Options.{Options, flag_in, number_in, options_of, text_in}
use Rattle.cosecmd.specs.Requirements.{RequiredFields, and_named, audience_required, claims_named, present_in, requirements_with, texts_in, wants_any_audience, with_audience}
use Rattle.cose_answers.specs.Requirements.{requirements_for}

-- ---- the claims of `--require`

-- The texts that clap gives for an option.
pub texts_given : (matches : ArgMatches) (name : Text) (names : List (Bor Text)) → Some (map (λ (text : Bor Text). text.now) names) ≡ option_map raw_values (matched_of (found_of matches) name) →
    texts_in name (options_of matches) ≡ map (λ (text : Bor Text). text.now) names
texts_given matches name names is = ap (λ (all : Option (List Text)). unwrap_or all []) (sym (is ∙ raw_values-rows (found_of matches) name))

pub no_texts : (matches : ArgMatches) (name : Text) → None ≡ option_map raw_values (matched_of (found_of matches) name) → texts_in name (options_of matches) ≡ []
no_texts matches name is = ap (λ (all : Option (List Text)). unwrap_or all []) (sym (is ∙ raw_values-rows (found_of matches) name))

pub one_more_claim : (claims : List Claim) (named : Option Claim) (claim : Claim) (others : Option (List Claim)) → named ≡ Some claim →
    option_map (λ rest. (claims ++ claim ∷ []) ++ rest) others ≡ option_map (λ rest. claims ++ rest) (and_named named others)
one_more_claim claims named claim None is = rw is refl
one_more_claim claims named claim (Some rest) is = rw is (ap Some (append_assoc claims (claim ∷ []) rest))

-- ---- numbers that may be left out

tried : {E : Type 0} (gives : List ℕ → Result ℕ E → Type 0) (bits : ℕ) (text : Text) (number : Option ℕ) → ((t : List ℕ) (r : Result ℕ E) → gives t r → ParsesUnsigned bits 10 t r) →
    TriesOne gives text (Ok number) → number ≡ Some (digits_value 10 (without_leading_plus text))
tried gives bits text (Some value) parses read = ap Some (parses text (Ok value) read).1
tried gives bits text None parses read = absurd read

pub number_tried : {E : Type 0} (gives : List ℕ → Result ℕ E → Type 0) (bits : ℕ) (matches : ArgMatches) (name : Text) (read : Result (Option ℕ) E) (number : Option ℕ)
    → ((t : List ℕ) (r : Result ℕ E) → gives t r → ParsesUnsigned bits 10 t r)
    → (one_text (found_of matches) name ≡ None → read ≡ Ok None) → ((t : List ℕ) → one_text (found_of matches) name ≡ Some t → TriesOne gives t read)
    → read ≡ Ok number → number ≡ number_in name (options_of matches)
number_tried {E} gives bits matches name read number parses none some is = go (one_text (found_of matches) name) refl
  where
    numbered : Option Text → Option ℕ
    numbered = option_map (λ (t : Text). digits_value 10 (without_leading_plus t))

    go : (text : Option Text) → one_text (found_of matches) name ≡ text → number ≡ number_in name (options_of matches)
    go None e =
        let gone : Ok number ≡ Ok None = sym is ∙ none e in
        let left_out : number ≡ None = cc in
        left_out ∙ ap numbered (sym e ∙ one_text-rows (found_of matches) name)
    go (Some text) e =
        let there : TriesOne gives text (Ok number) = subst (TriesOne gives text) is (some text e) in
        tried gives bits text number parses there ∙ ap numbered (sym e ∙ one_text-rows (found_of matches) name)

-- ---- the audience

some_of_map : (found : Option (Bor Text)) → not (is_some (option_map text_value found)) ≡ not (is_some found)
some_of_map None = refl
some_of_map (Some text) = refl

pub none_given : (name : Text) (options : Options) (found : Option (Bor Text)) → option_map text_value found ≡ text_in name options → not (is_some found) ≡ not (is_some (text_in name options))
none_given name options found e = sym (some_of_map found) ∙ ap (λ (t : Option Text). not (is_some t)) e

pub audience_where : (options : Options) (flag : Bool) (found : Option (Bor Text)) → flag ≡ flag_in (codes "require-aud") options → option_map text_value found ≡ audience_required flag (text_in (codes "aud") options) →
    option_map text_value found ≡ audience_required (flag_in (codes "require-aud") options) (text_in (codes "aud") options)
audience_where options flag found is e = e ∙ ap (λ (f : Bool). audience_required f (text_in (codes "aud") options)) is

-- ---- what is required

pub present_known : (options : Options) (wants : Bool) (claims : List Claim) → claims_named (texts_in (codes "require") options) ≡ Some claims → wants ≡ wants_any_audience options →
    present_in options ≡ Some (with_audience wants claims)
present_known options wants claims known is =
    ap (option_map (with_audience (wants_any_audience options))) known ∙ ap (λ (w : Bool). Some (with_audience w claims)) (sym is)

pub same_requirements : (now : ℤ) (leeway : ℕ) (options : Options) (required : Required) → RequiredFields options required →
    requirements_for now leeway required ≡ requirements_with now leeway options required.present.items
same_requirements now leeway options required fields = rw (fields.iss, fields.sub, fields.aud, fields.lifetime, fields.age) refl
