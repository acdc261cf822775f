-- What is said of arguments that are refused. clap's text may repeat one of them, and that may be a key that lacks its option. So of
-- this text there is only what names options.
use Rattle.std.specs.Prelude.{ℕ, Bool, true, false, List, [], ◌∷◌, ◌++◌, length, take, drop, Option, Some, None, option_and_then, unwrap_or, codes, nat_lt, ◌==◌, if◌then◌else◌}
use Rattle.std.specs.List.{before_first, position_or_len}
use Rattle.std.specs.Option.{option_or}
use Rattle.std.specs.Str.{bytes_eq}
use Rattle.clap.specs.Values.{kind_text}
use Rattle.clap.specs.declared.error.kind.ErrorKind.{ErrorKind}
use Rattle.clap.specs.declared.error.kind.ErrorKind.TheVariants.{ArgumentConflict, DisplayHelp, DisplayHelpOnMissingArgumentOrSubcommand, DisplayVersion, InvalidValue, MissingRequiredArgument, ValueValidation}

-- clap's text names options alone.
abbrev pub names_options : ErrorKind → Bool
names_options DisplayHelp = true
names_options DisplayVersion = true
names_options DisplayHelpOnMissingArgumentOrSubcommand = true
names_options MissingRequiredArgument = true
names_options ArgumentConflict = true
names_options kind = false

-- It is about the value of an option.
abbrev pub is_of_value : ErrorKind → Bool
is_of_value InvalidValue = true
is_of_value ValueValidation = true
is_of_value kind = false

-- ---- parts of a text

abbrev pub begins_with : List ℕ → List ℕ → Bool
begins_with mark text = bytes_eq mark (take (length mark) text)

-- What follows a mark that the text begins with.
abbrev pub after_mark : List ℕ → List ℕ → Option (List ℕ)
after_mark mark text = if begins_with mark text then Some (drop (length mark) text) else None

-- What follows a mark where it stands last.
abbrev pub after_last : List ℕ → List ℕ → Option (List ℕ)
after_last mark [] = None
after_last mark (c ∷ text) = option_or (after_last mark text) (after_mark mark (c ∷ text))

-- What comes before the first quotation mark (39).
abbrev pub before_quote : List ℕ → Option (List ℕ)
before_quote text =
    if nat_lt (position_or_len (λ c. c == 39) text) (length text) then Some (before_first (λ c. c == 39) text) else None

-- ---- what is said

-- The words for a kind, alone.
abbrev pub kind_words : ErrorKind → List ℕ
kind_words kind = unwrap_or (kind_text kind) []

abbrev pub kind_line : ErrorKind → List ℕ
kind_line kind = codes "error: " ++ kind_words kind ++ codes "\n"

-- That a value is missing is said by a text without one.
abbrev pub lacks_value : List ℕ → Bool
lacks_value text = begins_with (codes "error: a value is required for '") text

-- Of a value that isn't among the possible ones, these follow the option, and no value that was given. Else why it is wrong
-- follows, after a quotation mark, which may repeat it.
abbrev pub option_of : ErrorKind → List ℕ → Option (List ℕ)
option_of InvalidValue option = Some option
option_of kind option = before_quote option

-- The option that a text about a value names last: what the value itself says comes before it.
abbrev pub option_named : ErrorKind → List ℕ → Option (List ℕ)
option_named kind text = option_and_then (option_of kind) (after_last (codes "' for '") text)

-- What is said of the value of this option.
abbrev pub value_text : ErrorKind → Option (List ℕ) → List ℕ
value_text kind None = kind_line kind
value_text InvalidValue (Some option) = codes "error: invalid value for '" ++ option
value_text kind (Some option) =
    codes "error: invalid value for '" ++ option ++ codes "'\n\nFor more information, try '--help'.\n"

-- What is said of another argument: how the command is used, which names the options that it has.
abbrev pub usage_in : List ℕ → Option (List ℕ)
usage_in text = after_last (codes "\n\nUsage: ") text

abbrev pub argument_text : ErrorKind → Option (List ℕ) → List ℕ
argument_text kind None = kind_line kind
argument_text kind (Some usage) = codes "error: " ++ kind_words kind ++ codes "\n\nUsage: " ++ usage
