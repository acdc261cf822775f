-- A request whose fields are the values of the options asks for what is printed for these options.
use Rattle.std.proofs.Common.{◌≡◌, ◌≢◌, ◌∙◌, true, false, ℕ, List, Option, Some, None, ap, subst, sym, refl, option_map, codes}
use Rattle.std.specs.Prelude.{string_bytes}
use Rattle.clap.specs.Matches.{subcommand_name_of}
use Rattle.clap.specs.Simple.{subcommand_rows_of}
use Rattle.clap.specs.Walk.{Text}
use Rattle.clap.specs.declared.parser.matches.ArgMatches.{ArgMatches}
use Rattle.clap.specs.declared.parser.matches.ArgMatches.TheViews.{out-ArgMatches}
use Rattle.cose_map.specs.Key.{key_of}
use Rattle.cose_cwt.specs.Claims.Audience.{text_value}
use Rattle.cose_cwt.specs.Requirements.{RequirementsValue}
use Rattle.cose_msg.specs.declared.context.Wanted.{Wanted}
use Rattle.cose_answers.specs.Admitted.{program_policy}
use Rattle.cose_answers.specs.AskedKeys.{asked}
use Rattle.cosecmd.specs.CommandLine.{IsFoundIn, IsReadFrom, ask_for_help, begins_as_answer, command_prints, keys_prints, line_prints, make_prints, matches_print, payload_named, tokens_print}
use Rattle.cosecmd.specs.Fields.{AreChecks, CwtFields, IsListedAs, KeysFields, MakeFields, checks_in}
use Rattle.cosecmd.specs.Options.{Options, ◌>>=◌, key_in, key_set_in, message_in, printing_in, text_in}
use Rattle.cosecmd.specs.PayloadTo.{checks_named, new_file_of}
use Rattle.cose_answers.specs.Printed.{Admits, Output, items_listed, items_listed_for, keys_said, made_under}
use Rattle.cosecmd.specs.Requirements.{requirements_with}
use Rattle.cose_answers.specs.Under.{Under, under_of}
use Rattle.cose_answers.specs.Requests.{admits_for_words, made_for}
use Rattle.cose_answers.specs.declared.request.Cwt.{Cwt}
use Rattle.cose_answers.specs.declared.request.Keys.{Keys}
use Rattle.cose_answers.specs.declared.request.Make.{Make}
use Rattle.cose_answers.specs.declared.request.Printing.{Printing}
use Rattle.cose_answers.specs.declared.request.Checks.{Checks}
use Rattle.cose_answers.specs.declared.reply.Reply.{Reply}
use Rattle.cose_answers.specs.declared.reply.Status.TheVariants as statuses
use Rattle.cosecmd.specs.declared.arguments.Parsed.{Parsed}
use Rattle.cosecmd.specs.declared.arguments.Parsed.TheVariants.{Matches, Text as ClapText}
use Rattle.cosecmd.proofs.lemmas.Arguments.RequiredOptions.{same_requirements}

-- The checks and the payload that the options state are those that they ask for, and this is printed for them.
pub payload_asks : (prints : Under → Option (List ℕ) → List ℕ → Output) (under : Option Under) (found : Option (Option (List ℕ))) (checks : Checks) (payload : Option (Option (List ℕ))) (bytes : List ℕ) (said : Output)
    → AreChecks under checks → payload ≡ found → (do under ← under; payload ← found; Some (prints under payload bytes)) ≡ Some said
    → (detached : Option (List ℕ)) × (payload ≡ Some detached) × (prints (under_of checks) detached bytes ≡ said)
payload_asks prints None found checks payload bytes said are is e = cc
payload_asks prints (Some under) None checks payload bytes said are is e = cc
payload_asks prints (Some under) (Some detached) checks payload bytes said are is e =
    let same : prints under detached bytes ≡ said = cc in
    (detached, is, ap (λ (u : Under). prints u detached bytes) (are under refl) ∙ same)

-- What the options state of a token, or of each of a sequence, is what they ask for.
pub cwt_asks : (admits : Admits) (content : List ℕ → Option (List ℕ)) (options : Options) (words : Cwt) (bytes : List ℕ) (said : Output) → CwtFields content options words → tokens_print admits content options bytes ≡ Some said →
    admits_for_words admits words bytes ≡ said
cwt_asks admits content options words bytes said fields prints = go (checks_in content options) refl
  where
    go : (known : Option Under) → checks_in content options ≡ known →
        admits_for_words admits words bytes ≡ said
    go None checks =
        let none : None ≡ Some said = rw checks at prints in
        cc
    go (Some under) checks =
        let required : RequirementsValue = requirements_with words.now words.leeway options words.required.present.items in
        let some : Some (admits under (program_policy words.now words.leeway (text_in (codes "aud") options)) required (printing_in options) bytes) ≡ Some said =
        rw (checks, fields.now, fields.leeway, fields.required.present) at prints in
        let same : admits under (program_policy words.now words.leeway (text_in (codes "aud") options)) required (printing_in options) bytes ≡ said = cc in
        ap (λ (r : RequirementsValue). admits (under_of words.checks) (program_policy words.now words.leeway (option_map text_value words.aud)) r words.printing bytes)
        (same_requirements words.now words.leeway options words.required fields.required) ∙ ap (λ (aud : Option (List ℕ)). admits (under_of words.checks) (program_policy words.now words.leeway aud) required words.printing bytes) fields.aud
        ∙ ap (λ (printing : Printing). admits (under_of words.checks) (program_policy words.now words.leeway (text_in (codes "aud") options)) required printing bytes) fields.printing
        ∙ ap (λ (u : Under). admits u (program_policy words.now words.leeway (text_in (codes "aud") options)) required (printing_in options) bytes) (fields.checks under checks) ∙ same

-- For a message or for none, the lines of these bytes are those of the argument or of the file.
listed_as : (content : List ℕ → Option (List ℕ)) (options : Options) (keys known : List ℕ) (message : Option Wanted) (bytes : List ℕ) → IsListedAs content options keys → key_set_in content options ≡ Some known →
    keys_said message keys bytes ≡ keys_said message known bytes
listed_as content options keys known None bytes listed is = listed known is (items_listed None)
listed_as content options keys known (Some wanted) bytes listed is = listed known is (items_listed_for (asked wanted bytes))

pub keys_asks : (content : List ℕ → Option (List ℕ)) (options : Options) (words : Keys) (bytes : List ℕ) (said : Output) → KeysFields content options words →
    keys_prints content options bytes ≡ Some said → keys_said words.message words.keys.items bytes ≡ said
keys_asks content options words bytes said fields prints = go (key_set_in content options) refl
  where
    go : (known : Option (List ℕ)) → key_set_in content options ≡ known → keys_said words.message words.keys.items bytes ≡ said
    go None keys =
        let none : None ≡ Some said = rw keys at prints in
        cc
    go (Some known) keys =
        let some : Some (keys_said (message_in options) known bytes) ≡ Some said = rw keys at prints in
        let same : keys_said (message_in options) known bytes ≡ said = cc in
        listed_as content options words.keys.items known words.message bytes fields.keys keys
        ∙ ap (λ (message : Option Wanted). keys_said message known bytes) fields.message ∙ same

pub make_asks : (content : List ℕ → Option (List ℕ)) (options : Options) (words : Make) (bytes : List ℕ) (said : Output) → MakeFields content options words →
    make_prints content options bytes ≡ Some said → made_for words bytes ≡ said
make_asks content options words bytes said fields prints = go (key_in content options) refl
  where
    kid : Option (List ℕ)
    kid = option_map (λ bytes. bytes.items) words.kid

    go : (known : Option (List ℕ)) → key_in content options ≡ known → made_for words bytes ≡ said
    go None keys =
        let none : None ≡ Some said = rw (fields.alg, keys) at prints in
        cc
    go (Some known) keys =
        let some : Some (made_under (key_of (record { bytes = known; place = 0 })) words.alg words.length kid words.aad.items bytes) ≡ Some said =
        rw (fields.alg, keys, fields.payload_length, fields.kid, fields.aad) at prints in
        let same : made_under (key_of (record { bytes = known; place = 0 })) words.alg words.length kid words.aad.items bytes ≡ said = cc in
        rw (fields.key known keys) same

-- ---- the command

abbrev pub both : {A : Type 0} → (A → Text) → (A → Options) → A → Text × Options
both name_of options_of a = (name_of a, options_of a)

named : {A : Type 0} (name_of : A → Text) (options_of : A → Options) (found : Option A) (name : Text) (options : Options) → option_map name_of found ≡ Some name
    → option_map (λ (command : Text × Options). command.1) (option_map (both name_of options_of) found) ≡ Some options
    → option_map (both name_of options_of) found ≡ Some (name, options)
named name_of options_of None name options n o = cc
named name_of options_of (Some found) name options n o =
    let same_name : name_of found ≡ name = cc in
    let same_options : options_of found ≡ options = cc in
    rw (same_name, same_options) refl

-- The command that clap met, by its name and its options.
pub command_met : (matches : ArgMatches) (name : Text) (options : Options) → subcommand_name_of matches ≡ Some name →
    option_map (λ (command : Text × Options). command.1) (subcommand_rows_of matches) ≡ Some options → subcommand_rows_of matches ≡ Some (name, options)
command_met matches name options n o = named _ _ (out-ArgMatches matches).subcommand name options n o

-- What is printed for the matches is what is printed for the command that clap met.
pub command_asked : (content : List ℕ → Option (List ℕ)) (matches : ArgMatches) (name : Text) (options : Options) (bytes : List ℕ) (said : Output) → subcommand_name_of matches ≡ Some name →
    option_map (λ (command : Text × Options). command.1) (subcommand_rows_of matches) ≡ Some options → matches_print content matches bytes ≡ Some said → command_prints content name options bytes ≡ Some said
command_asked content matches name options bytes said n o prints =
    sym (ap (λ (command : Option (Text × Options)). line_prints content command bytes) (command_met matches name options n o)) ∙ prints

-- Of the command that clap met, only `verify` names a new file.
pub file_named : (matches : ArgMatches) (name : Text) (options : Options) (file : Option Text) → subcommand_name_of matches ≡ Some name →
    option_map (λ (command : Text × Options). command.1) (subcommand_rows_of matches) ≡ Some options → file ≡ new_file_of (Some (name, options)) → file ≡ new_file_of (subcommand_rows_of matches)
file_named matches name options file n o is = is ∙ sym (ap new_file_of (command_met matches name options n o))

-- Its payload is that of the command that clap met.
pub payload_met : (content : List ℕ → Option (List ℕ)) (matches : ArgMatches) (name : Text) (options : Options) (payload : Option (Option (List ℕ))) → subcommand_name_of matches ≡ Some name →
    option_map (λ (command : Text × Options). command.1) (subcommand_rows_of matches) ≡ Some options → payload ≡ payload_named content (Some (name, options)) → payload ≡ payload_named content (subcommand_rows_of matches)
payload_met content matches name options payload n o is = is ∙ sym (ap (payload_named content) (command_met matches name options n o))

-- What the options say that a message is verified under is what those of the command say that clap met.
pub checks_met : (content : List ℕ → Option (List ℕ)) (matches : ArgMatches) (name : Text) (options : Options) (under : Under) → subcommand_name_of matches ≡ Some name →
    option_map (λ (command : Text × Options). command.1) (subcommand_rows_of matches) ≡ Some options → checks_named content (subcommand_rows_of matches) ≡ Some under → checks_in content options ≡ Some under
checks_met content matches name options under n o said = sym (ap (checks_named content) (command_met matches name options n o)) ∙ said

-- What was parsed, where it is the options that clap found.
pub found_in : (words : List Text) (parsed : Parsed) (matches : ArgMatches) → parsed ≡ Matches matches → IsReadFrom words parsed → IsFoundIn words matches
found_in words parsed matches is read = subst (IsReadFrom words) is read

-- And where it is a text of clap's.
pub text_read : (words : List Text) (parsed : Parsed) (reply : Reply) → parsed ≡ ClapText reply → IsReadFrom words parsed →
    (reply.status ≢ statuses.Refused) × (begins_as_answer (string_bytes reply.text) ≡ false) × (reply.status ≡ statuses.Done → ask_for_help words ≡ true)
text_read words parsed reply is read = subst (IsReadFrom words) is read
