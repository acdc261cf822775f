-- What clap's getters give is what the options say.
use Rattle.std.proofs.Common.{◌≡◌, ◌∙◌, ℕ, ℤ, List, [], Option, Some, None, Result, Ok, Err, Bor, ap, sym, refl, option_map, codes}
use Rattle.std.specs.Prelude.{IfOk, find, option_and_then, pos, slice_get, unwrap_or}
use Rattle.std.specs.Str.{bytes_eq}
use Rattle.std.specs.Str.Parse.{ParsesSigned, ParsesUnsigned, digits_value, signed_digits_value, without_leading_plus}
use mir.Syntax.{Width}
use Rattle.clap.specs.Matches.{ReadsOne, found_of, one_text}
use Rattle.clap.specs.Values.{read_as}
use Rattle.clap.specs.Walk.{Row, Text, one_of, row_text}
use Rattle.clap.specs.declared.parser.matches.ArgMatches.{ArgMatches}
use Rattle.clap.proofs.WalkLemmas.{one_text-rows}
use Rattle.cose_cwt.specs.Claims.Audience.{text_value}
use Rattle.cose_head.specs.declared.algorithm.Alg.{Alg}
use Rattle.cose_head.specs.Algorithm.{algorithm_numbered}
use Rattle.cosecmd.specs.Options.{Options, algorithm_in, bytes_or_none, integer_in, number_in, of_file, options_of, text_in}

-- ---- texts

pub given : (name : Text) (options : Options) (found : Option (Bor Text)) (text : Bor Text) → option_map text_value found ≡ text_in name options → found ≡ Some text → text_in name options ≡ Some text.now
given name options found text e is = sym e ∙ ap (option_map text_value) is

pub left_out : (name : Text) (options : Options) (found : Option (Bor Text)) → option_map text_value found ≡ text_in name options → found ≡ None → text_in name options ≡ None
left_out name options found e is = sym e ∙ ap (option_map text_value) is

or_value : (found : Option (Bor Text)) (other : Bor Text) → (unwrap_or found other).now ≡ unwrap_or (option_map text_value found) other.now
or_value None other = refl
or_value (Some text) other = refl

pub given_or : (name : Text) (options : Options) (found : Option (Bor Text)) (other text : Bor Text) → option_map text_value found ≡ text_in name options → text ≡ unwrap_or found other →
    text.now ≡ unwrap_or (text_in name options) other.now
given_or name options found other text e is = ap text_value is ∙ or_value found other ∙ ap (λ (o : Option Text). unwrap_or o other.now) e

pub same_argument : (argument : Option Text) (text other : Text) → argument ≡ Some text → argument ≡ Some other → text ≡ other
same_argument argument text other is is_other = cc

pub not_given : {Holds : Type 0} (argument : Option Text) (text : Text) → argument ≡ None → argument ≡ Some text → Holds
not_given argument text none is =
    let both : None ≡ Some text = sym none ∙ is in
    cc

pub no_bytes : (argument : Option Text) (bytes : List ℕ) → argument ≡ None → bytes ≡ [] → bytes_or_none argument ≡ Some bytes
no_bytes argument bytes none empty = rw (none, empty) refl

-- ---- numbers

number_read : {E : Type 0} (gives : List ℕ → Result ℕ E → Type 0) (bits : ℕ) (text : Text) (number : Option ℕ) (n : ℕ)
    → ((t : List ℕ) (r : Result ℕ E) → gives t r → ParsesUnsigned bits 10 t r) → ReadsOne gives text number → number ≡ Some n → digits_value 10 (without_leading_plus text) ≡ n
number_read gives bits text (Some value) n parses read is =
    let same : value ≡ n = cc in
    sym (parses text (Ok value) read).1 ∙ same
number_read gives bits text None n parses read is = cc

pub number_found : {E : Type 0} (gives : List ℕ → Result ℕ E → Type 0) (bits : ℕ) (matches : ArgMatches) (name : Text) (number : Option ℕ) (n : ℕ)
    → ((t : List ℕ) (r : Result ℕ E) → gives t r → ParsesUnsigned bits 10 t r)
    → (one_text (found_of matches) name ≡ None → number ≡ None) → ((t : List ℕ) → one_text (found_of matches) name ≡ Some t → ReadsOne gives t number)
    → number ≡ Some n → number_in name (options_of matches) ≡ Some n
number_found gives bits matches name number n parses none some is = go (one_text (found_of matches) name) refl
  where
    go : (text : Option Text) → one_text (found_of matches) name ≡ text → number_in name (options_of matches) ≡ Some n
    go None e =
        let gone = none e in
        cc
    go (Some text) e =
        let there : one_of name (options_of matches) ≡ Some text = sym (one_text-rows (found_of matches) name) ∙ e in
        ap (option_map (λ (t : Text). digits_value 10 (without_leading_plus t))) there ∙ ap Some (number_read gives bits text number n parses (some text e) is)

-- An option that isn't there states no number.
number_of_row : (found : Option Row) → option_and_then (λ row. slice_get row.values 0) found ≡ None
    → option_map (λ text. digits_value 10 (without_leading_plus text)) (option_and_then row_text found) ≡ None
number_of_row None none = refl
number_of_row (Some row) none = ap (λ (text : Option Text). option_map (λ it. digits_value 10 (without_leading_plus it)) (option_map (read_as row.reading) text)) none

pub no_number : (name : Text) (options : Options) → text_in name options ≡ None → number_in name options ≡ None
no_number name options none = number_of_row (find (λ row. bytes_eq row.id name) options) none

integer_read : {E : Type 0} (gives : List ℕ → Result ℤ E → Type 0) (width : Width) (text : Text) (number : Option ℤ) (n : ℤ)
    → ((t : List ℕ) (r : Result ℤ E) → gives t r → ParsesSigned width 10 t r) → ReadsOne gives text number → number ≡ Some n → signed_digits_value 10 text ≡ n
integer_read gives width text (Some value) n parses read is =
    let same : value ≡ n = cc in
    sym (parses text (Ok value) read).1 ∙ same
integer_read gives width text None n parses read is = cc

pub integer_found : {E : Type 0} (gives : List ℕ → Result ℤ E → Type 0) (width : Width) (matches : ArgMatches) (name : Text) (number : Option ℤ) (n : ℤ)
    → ((t : List ℕ) (r : Result ℤ E) → gives t r → ParsesSigned width 10 t r)
    → (one_text (found_of matches) name ≡ None → number ≡ None) → ((t : List ℕ) → one_text (found_of matches) name ≡ Some t → ReadsOne gives t number)
    → number ≡ Some n → integer_in name (options_of matches) ≡ Some n
integer_found gives width matches name number n parses none some is = go (one_text (found_of matches) name) refl
  where
    go : (text : Option Text) → one_text (found_of matches) name ≡ text → integer_in name (options_of matches) ≡ Some n
    go None e =
        let gone = none e in
        cc
    go (Some text) e =
        let there : one_of name (options_of matches) ≡ Some text = sym (one_text-rows (found_of matches) name) ∙ e in
        ap (option_map (signed_digits_value 10)) there ∙ ap Some (integer_read gives width text number n parses (some text e) is)

pub algorithm_found : (options : Options) (number : ℕ) (alg : Alg) (found : Option Alg) → number_in (codes "alg") options ≡ Some number → found ≡ algorithm_numbered (pos number) →
    found ≡ Some alg → algorithm_in options ≡ Some alg
algorithm_found options number alg found read is some =
    let whole : algorithm_in options ≡ algorithm_numbered (pos number) = rw read refl in
    whole ∙ sym is ∙ some

-- ---- files

pub of_named_file : (content : List ℕ → Option (List ℕ)) (named : Option Text) (argument : Option (List ℕ)) (name : Text) (bytes : List ℕ) → named ≡ Some name →
    of_file content named argument ≡ Some bytes → content name ≡ Some bytes
of_named_file content named argument name bytes is e = rw is at e

pub of_no_file : (content : List ℕ → Option (List ℕ)) (named : Option Text) (argument : Option (List ℕ)) (read bytes : List ℕ) → named ≡ None → argument ≡ Some read →
    of_file content named argument ≡ Some bytes → read ≡ bytes
of_no_file content named argument read bytes is has e =
    let same : Some read ≡ Some bytes = sym has ∙ (rw is at e) in
    cc

-- What holds of a result for all bytes that are known.
pub where_known : {A E : Type 0} (result : Result A E) (Known : List ℕ → Type 0) (Holds : A → List ℕ → Type 0) → ((bytes : List ℕ) → Known bytes → IfOk result (λ value. Holds value bytes)) →
    IfOk result (λ value. (bytes : List ℕ) → Known bytes → Holds value bytes)
where_known (Ok value) Known Holds all = all
where_known (Err error) Known Holds all = tt
