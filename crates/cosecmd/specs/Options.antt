-- What the options of a command say: the value of each, by the argument that clap found for its name.
use Rattle.std.specs.Prelude.{ℕ, ℤ, Bool, List, [], Option, Some, None, Result, Ok, Err, option_and_then, option_map, unwrap_or, codes, pos, if◌then◌else◌}
use Rattle.std.specs.Str.{bytes_eq}
use Rattle.std.specs.Str.Parse.{digits_value, signed_digits_value, without_leading_plus}
use Rattle.clap.specs.Matches.{found_of}
use Rattle.clap.specs.Walk.{Row, Text, first_of, one_of, rows_of}
use Rattle.clap.specs.declared.parser.matches.ArgMatches.{ArgMatches}
use Rattle.hex.specs.Hex.{decode_of}
use Rattle.hex.specs.declared.error.FromHexError.{FromHexError}
use Rattle.cose_head.specs.declared.algorithm.Alg.{Alg}
use Rattle.cose_head.specs.Algorithm.{algorithm_numbered}
use Rattle.cose_msg.specs.declared.context.Wanted.{Wanted}
use Rattle.cose_msg.specs.declared.context.Wanted.TheVariants as wants
use Rattle.cose_answers.specs.declared.request.Details.{Details}
use Rattle.cose_answers.specs.declared.request.Printing.{Printing}
use Rattle.cose_answers.specs.Payload.{part_of_file}
use Rattle.cose_answers.specs.declared.limits.Limits.{Limits}
use Rattle.cose_answers.specs.declared.limits.Limits.TheVariants as limits

-- The options of one command, each with its arguments, and with its default where it is left out.
abbrev pub Options : Type 0
Options = List Row

abbrev pub options_of : ArgMatches → Options
options_of matches = rows_of (found_of matches)

-- A value of values that are all in order.
infixl 10 ◌>>=◌
abbrev pub ◌>>=◌ : {A B : Type 0} → Option A → (A → Option B) → Option B
None >>= f = None
Some x >>= f = f x

-- The argument of an option.
abbrev pub text_in : Text → Options → Option Text
text_in name options = first_of name options

-- ---- bytes

abbrev pub decoded : Result (List ℕ) FromHexError → Option (List ℕ)
decoded (Ok bytes) = Some bytes
decoded (Err error) = None

-- The bytes that a text writes in hexadecimal, where it does.
abbrev pub hex_bytes : Text → Option (List ℕ)
hex_bytes text = decoded (decode_of text)

-- The bytes of an option's argument. Where the option is left out, it has no bytes.
abbrev pub bytes_or_none : Option Text → Option (List ℕ)
bytes_or_none None = Some []
bytes_or_none (Some text) = hex_bytes text

abbrev pub bytes_in : Text → Options → Option (List ℕ)
bytes_in name options = bytes_or_none (text_in name options)

-- The same of an option that, where it is left out, differs from one without bytes.
abbrev pub bytes_where_given : Option Text → Option (Option (List ℕ))
bytes_where_given None = Some None
bytes_where_given (Some text) = option_map Some (hex_bytes text)

abbrev pub optional_bytes_in : Text → Options → Option (Option (List ℕ))
optional_bytes_in name options = bytes_where_given (text_in name options)

-- ---- numbers

-- The number that an option's argument writes in decimal, where a plus and zeros may come first. Where no negative number is
-- in the option's range, as of `--now`, `--leeway`, `--max-age` and `--alg`, clap's getters leave out a minus (`one_of`): clap accepts one
-- before zeros alone.
abbrev pub number_in : Text → Options → Option ℕ
number_in name options = option_map (λ text. digits_value 10 (without_leading_plus text)) (one_of name options)

abbrev pub integer_in : Text → Options → Option ℤ
integer_in name options = option_map (signed_digits_value 10) (one_of name options)

-- ---- kinds, limits and algorithms

abbrev pub kind_named : Text → Wanted
kind_named text = if bytes_eq text (codes "mac0") then wants.Mac0 else if bytes_eq text (codes "sign1") then wants.Sign1 else wants.Tagged

abbrev pub kind_in : Options → Wanted
kind_in options = kind_named (unwrap_or (text_in (codes "kind") options) (codes "tagged"))

-- The limits are small where they aren't large.
abbrev pub limits_named : Text → Limits
limits_named text = if bytes_eq text (codes "large") then limits.Large else limits.Small

abbrev pub limits_in : Options → Limits
limits_in options = limits_named (unwrap_or (text_in (codes "limits") options) (codes "small"))

-- An option without an argument: clap gives it the argument `true`, and `false` where it is left out.
abbrev pub flag_in : Text → Options → Bool
flag_in name options = bytes_eq (unwrap_or (text_in name options) (codes "false")) (codes "true")

-- What is printed of a message that is shown, in addition.
abbrev pub details_in : Options → Details
details_in options = record {
  diagnostic = flag_in (codes "diagnostic") options;
  detached = flag_in (codes "detached") options;
  payload = flag_in (codes "with-payload") options;
}

-- How the claims of a token are printed: in quotes too, and all of them.
abbrev pub printing_in : Options → Printing
printing_in options = record {
  readable = flag_in (codes "text") options;
  others = bytes_eq (unwrap_or (text_in (codes "claims") options) []) (codes "all");
}

-- The kinds of messages that keys are listed for, where they are.
abbrev pub message_in : Options → Option Wanted
message_in options = if flag_in (codes "for-message") options then Some (kind_in options) else None

abbrev pub algorithm_in : Options → Option Alg
algorithm_in options = option_and_then (λ number. algorithm_numbered (pos number)) (number_in (codes "alg") options)

-- ---- what may be in a file: the bytes of the file that is named, as far as they are known, and else those of the argument

abbrev pub of_file : (List ℕ → Option (List ℕ)) → Option Text → Option (List ℕ) → Option (List ℕ)
of_file content (Some name) argument = content name
of_file content None argument = argument

abbrev pub key_set_in : (List ℕ → Option (List ℕ)) → Options → Option (List ℕ)
key_set_in content options = of_file content (text_in (codes "keys-file") options) (bytes_in (codes "keys") options)

abbrev pub key_in : (List ℕ → Option (List ℕ)) → Options → Option (List ℕ)
key_in content options = of_file content (text_in (codes "key-file") options) (bytes_in (codes "key") options)

-- The detached payload, where there is one. Of a file with fewer bytes than are stated there is none.
abbrev pub payload_from : (List ℕ → Option (List ℕ)) → Option ℕ → Option Text → Option (Option (List ℕ)) → Option (Option (List ℕ))
payload_from content stated (Some name) argument = option_map Some (part_of_file content name stated)
payload_from content stated None argument = argument

abbrev pub payload_in : (List ℕ → Option (List ℕ)) → Options → Option (Option (List ℕ))
payload_in content options =
    payload_from content (number_in (codes "payload-length") options) (text_in (codes "payload-file") options) (optional_bytes_in (codes "payload") options)
