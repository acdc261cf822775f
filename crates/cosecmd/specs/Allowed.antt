-- Which of the usable keys of a set the options `--algs` and `--least-secret` allow.
use Rattle.std.specs.Prelude.{ℕ, ℤ, ◌==◌, ◌&&◌, Bool, List, [], ◌∷◌, Option, Some, None, length, nat_lt, option_and_then, option_map, unwrap_or, codes, if◌then◌else◌}
use Rattle.std.specs.Char.{is_digit}
use Rattle.std.specs.List.{list_all, slice_split}
use Rattle.std.specs.Str.Parse.{signed_digits_value, without_leading_sign}
use Rattle.clap.specs.Walk.{Text}
use Rattle.cose_head.specs.Algorithm.{algorithm_number, algorithm_numbered}
use Rattle.cose_map.specs.Restrictions.{RestrictionsValue}
use Rattle.cose_answers.specs.Allowed.{restricted}
use Rattle.cosecmd.specs.Options.{Options, number_in, text_in}

-- ---- the list of algorithms

-- One decimal digit or more, and nothing else.
abbrev pub is_decimal : Text → Bool
is_decimal text = nat_lt 0 (length text) && list_all (λ byte. is_digit byte 10) text

-- A number, where an algorithm has it.
abbrev pub number_known : ℤ → Option ℤ
number_known number = option_map algorithm_number (algorithm_numbered number)

-- The number of an algorithm that a text writes in decimal, where a sign and zeros may come first.
abbrev pub algorithm_written : Text → Option ℤ
algorithm_written word = if is_decimal (without_leading_sign word) then number_known (signed_digits_value 10 word) else None

-- The numbers of the algorithms that all these words write, unless one of them writes none.
abbrev pub and_number : Option ℤ → Option (List ℤ) → Option (List ℤ)
and_number number numbers = option_and_then (λ first. option_map (λ others. first ∷ others) numbers) number

abbrev pub algorithms_written : List Text → Option (List ℤ)
algorithms_written [] = Some []
algorithms_written (word ∷ words) = and_number (algorithm_written word) (algorithms_written words)

-- The words of a list are what is between its commas. There is at least one, and it may be empty.
abbrev pub words_listed : Text → List Text
words_listed list = slice_split (λ byte. byte == 44) list

abbrev pub algorithms_listed : Text → Option (List ℤ)
algorithms_listed list = algorithms_written (words_listed list)

-- Without the option any algorithm is allowed.
abbrev pub algorithms_where_given : Option Text → Option (Option (List ℤ))
algorithms_where_given None = Some None
algorithms_where_given (Some list) = option_map Some (algorithms_listed list)

abbrev pub algorithms_in : Options → Option (Option (List ℤ))
algorithms_in options = algorithms_where_given (text_in (codes "algs") options)

-- ---- both options

abbrev pub least_secret_in : Options → ℕ
least_secret_in options = unwrap_or (number_in (codes "least-secret") options) 0

abbrev pub restrictions_in : Options → Option RestrictionsValue
restrictions_in options = option_map (restricted (least_secret_in options)) (algorithms_in options)
