-- How the arguments say that standard input is written, and the bytes that are read of it.
use Rattle.std.specs.Prelude.{ℕ, List, Option, Some, None, codes, unwrap_or, if◌then◌else◌}
use Rattle.std.specs.Str.{bytes_eq}
use Rattle.clap.specs.Simple.{subcommand_rows_of}
use Rattle.clap.specs.Walk.{Text}
use Rattle.clap.specs.declared.parser.matches.ArgMatches.{ArgMatches}
use Rattle.cose_text.specs.TextInput.{bytes_in}
use Rattle.cose_text.specs.declared.text_input.InputForm.{InputForm}
use Rattle.cose_text.specs.declared.text_input.InputForm.TheVariants as forms
use Rattle.cosecmd.specs.Options.{Options, text_in}

-- By the value of `--input`. Without it the input is CBOR.
abbrev pub form_named : Text → InputForm
form_named text =
    if bytes_eq text (codes "hex") then forms.Hexadecimal else if bytes_eq text (codes "base64url") then forms.Base64url else if bytes_eq text (codes "auto") then forms.Either else forms.Cbor

abbrev pub form_in : Option (Text × Options) → InputForm
form_in None = forms.Cbor
form_in (Some command) = form_named (unwrap_or (text_in (codes "input") command.1) (codes "cbor"))

-- What the proved part reads: the bytes that standard input stands for.
abbrev pub input_bytes : ArgMatches → List ℕ → List ℕ
input_bytes matches input = bytes_in (form_in (subcommand_rows_of matches)) input
