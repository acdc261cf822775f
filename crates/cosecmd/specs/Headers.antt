-- The labels of the header parameters that `verify --header` names.
use Rattle.std.specs.Prelude.{ℕ, Bool, false, ◌==◌, ◌&&◌, ◌||◌, nat_le, List, [], ◌∷◌, map, codes, if◌then◌else◌}
use Rattle.std.specs.Fmt.{signed_decimal}
use Rattle.std.specs.Str.Parse.{signed_digits_value}
use Rattle.clap.specs.Walk.{Text}
use Rattle.cose_text.specs.Quoted.{quoted}
use Rattle.cosecmd.specs.Options.{Options}
use Rattle.cosecmd.specs.Requirements.{texts_in}

-- A plus (43), a minus (45) or a digit (48 to 57) comes first.
abbrev pub begins_as_number : Text → Bool
begins_as_number [] = false
begins_as_number (c ∷ rest) = c == 43 || (c == 45 || (nat_le 48 c && nat_le c 57))

-- A quote (34) comes first.
abbrev pub begins_in_quotes : Text → Bool
begins_in_quotes [] = false
begins_in_quotes (c ∷ rest) = c == 34

-- The notation of the label that an argument names: an integer, where a plus and zeros may come first; a text in quotes, as
-- `show` writes it; any other text as it is, without quotes.
abbrev pub label_named : Text → List ℕ
label_named word =
    if begins_as_number word then signed_decimal (signed_digits_value 10 word)
    else if begins_in_quotes word then word
    else quoted word

-- The labels that the options name, in their order.
abbrev pub labels_in : Options → List (List ℕ)
labels_in options = map label_named (texts_in (codes "header") options)
