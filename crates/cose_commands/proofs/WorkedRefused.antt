-- Worked examples: what is said of refused arguments.
use Rattle.std.proofs.Common.{◌≡◌, true, false, [], Some, None, codes, refl}
use Rattle.cose_commands.specs.Refused.{after_last, after_mark, argument_text, before_quote, begins_with, is_of_value, kind_line, kind_words, lacks_value, names_options, option_named, option_of, usage_in, value_text}
use Rattle.clap.specs.declared.error.kind.ErrorKind.TheVariants.{ArgumentConflict, DisplayHelp, InvalidValue, MissingRequiredArgument, TooManyValues, UnknownArgument, ValueValidation}

-- ---- kinds

missing_option : names_options MissingRequiredArgument ≡ true
missing_option = refl

options_in_conflict : names_options ArgumentConflict ≡ true
options_in_conflict = refl

unknown_argument : names_options UnknownArgument ≡ false
unknown_argument = refl

wrong_value_is_repeated : names_options InvalidValue ≡ false
wrong_value_is_repeated = refl

value_of_no_number : is_of_value ValueValidation ≡ true
value_of_no_number = refl

one_value_more : is_of_value TooManyValues ≡ false
one_value_more = refl

-- ---- parts of a text

begins_so : begins_with (codes "ab") (codes "abc") ≡ true
begins_so = refl

begins_otherwise : begins_with (codes "ab") (codes "acb") ≡ false
begins_otherwise = refl

begins_shorter : begins_with (codes "ab") (codes "a") ≡ false
begins_shorter = refl

past_first : after_mark (codes "ab") (codes "abc") ≡ Some (codes "c")
past_first = refl

past_none : after_mark (codes "ab") (codes "cab") ≡ None
past_none = refl

past_last : after_last (codes "ab") (codes "ab1ab2") ≡ Some (codes "2")
past_last = refl

-- Marks that overlap.
past_overlap : after_last (codes "aa") (codes "aaab") ≡ Some (codes "b")
past_overlap = refl

past_end : after_last (codes "ab") (codes "1ab") ≡ Some []
past_end = refl

past_cut : after_last (codes "ab") (codes "1a") ≡ None
past_cut = refl

up_to_quote : before_quote (codes "--now <N>': 'x' is no number") ≡ Some (codes "--now <N>")
up_to_quote = refl

no_quote : before_quote (codes "--now <N>") ≡ None
no_quote = refl

-- ---- what is said

words_of_unknown : kind_words UnknownArgument ≡ codes "unexpected argument found"
words_of_unknown = refl

-- Help is no mistake, and has no words.
words_of_help : kind_words DisplayHelp ≡ []
words_of_help = refl

line_of_wrong : kind_line ValueValidation ≡ codes "error: invalid value for one of the arguments\n"
line_of_wrong = refl

value_missing : lacks_value (codes "error: a value is required for '--keys <HEX>' but none was supplied\n") ≡ true
value_missing = refl

value_wrong : lacks_value (codes "error: invalid value 'a2010420444a656665' for '--now <N>'\n") ≡ false
value_wrong = refl

possible_values_stay : option_of InvalidValue (codes "--kind <KIND>'\n  [possible values: mac0]\n") ≡ Some (codes "--kind <KIND>'\n  [possible values: mac0]\n")
possible_values_stay = refl

why_goes : option_of ValueValidation (codes "--alg <N>': 9 is not in 4..=7\n") ≡ Some (codes "--alg <N>")
why_goes = refl

-- A value that reads like the text about it.
last_option : option_named ValueValidation (codes "error: invalid value 'x' for '4a656665' for '--now <N>': invalid digit found in string\n") ≡ Some (codes "--now <N>")
last_option = refl

no_option : option_named ValueValidation (codes "error: invalid value\n") ≡ None
no_option = refl

said_of_kind : value_text InvalidValue (option_named InvalidValue (codes "error: invalid value 'x' for '4a656665' for '--kind <KIND>'\n  [possible values: mac0]\n"))
    ≡ codes "error: invalid value for '--kind <KIND>'\n  [possible values: mac0]\n"
said_of_kind = refl

said_of_time : value_text ValueValidation (Some (codes "--now <N>")) ≡ codes "error: invalid value for '--now <N>'\n\nFor more information, try '--help'.\n"
said_of_time = refl

said_of_no_option : value_text InvalidValue None ≡ codes "error: one of the values isn't valid for an argument\n"
said_of_no_option = refl

last_usage : usage_in (codes "error: unexpected argument 'x\n\nUsage: 4a656665' found\n\nUsage: cosecmd keys\n") ≡ Some (codes "cosecmd keys\n")
last_usage = refl

no_usage : usage_in (codes "error: unexpected argument 'a2010420444a656665' found\n") ≡ None
no_usage = refl

said_with_usage : argument_text UnknownArgument (Some (codes "cosecmd keys\n")) ≡ codes "error: unexpected argument found\n\nUsage: cosecmd keys\n"
said_with_usage = refl

said_without_usage : argument_text UnknownArgument None ≡ codes "error: unexpected argument found\n"
said_without_usage = refl
