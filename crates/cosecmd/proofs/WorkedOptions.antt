-- What the options of a command say, and what is printed for a command line, on examples, by computing.
use Rattle.std.specs.Prelude.{◌≡◌, ℕ, true, List, [], ◌∷◌, Option, Some, None, codes, pos, refl}
use Rattle.clap.specs.Walk.{Row, Text}
use Rattle.clap.specs.declared.builder.value_parser.Reading.TheVariants as readings
use Rattle.clap.specs.declared.parser.matches.ValueSource.TheVariants.{CommandLine}
use Rattle.hex.specs.Hex.{decode_pairs}
use Rattle.cose_head.specs.declared.algorithm.Alg.TheVariants.{Hmac256}
use Rattle.cose_map.specs.Key.{key_of}
use Rattle.cose_msg.specs.declared.context.Wanted.TheVariants.{Mac0, Sign1, Tagged}
use Rattle.cose_answers.specs.Admitted.{program_policy}
use Rattle.cose_answers.specs.Allowed.{unrestricted}
use Rattle.cosecmd.specs.CommandLine.{line_prints}
use Rattle.cose_answers.specs.Limits.{room_of}
use Rattle.cosecmd.specs.Options.{algorithm_in, bytes_in, integer_in, key_set_in, kind_in, limits_in, number_in, optional_bytes_in, payload_in, text_in}
use Rattle.cose_answers.specs.Printed.{admitted_under, made_under, shown, verified_under}
use Rattle.cose_answers.specs.Requirements.{required_at}
use Rattle.cose_answers.specs.Under.{Under, program_keys}
use Rattle.cose_answers.specs.declared.limits.Limits.TheVariants.{Small, Large}
use Rattle.cose_answers.proofs.WorkedPrinted.{briefly, plainly}

-- An option with this argument; and one whose range has no negative number.
abbrev pub given : Text → Text → Row
given name argument = record {
  id = name;
  values = argument ∷ [];
  count = None;
  source = Some CommandLine;
  reading = readings.AsWritten;
}

abbrev pub number : Text → Text → Row
number name argument = record (given name argument) { reading = readings.WithoutMinus }

-- No file is known; and each file has a byte and then its name.
abbrev no_file : List ℕ → Option (List ℕ)
no_file name = None

abbrev any_file : List ℕ → Option (List ℕ)
any_file name = Some (1 ∷ name)

either_case : bytes_in (codes "aad") (given (codes "aad") (codes "00fFA5") ∷ []) ≡ Some (0 ∷ 255 ∷ 165 ∷ [])
unfolding decode_pairs
either_case = refl

odd_digits : bytes_in (codes "aad") (given (codes "aad") (codes "000") ∷ []) ≡ None
odd_digits = refl

no_digit : bytes_in (codes "aad") (given (codes "aad") (codes "0g") ∷ []) ≡ None
unfolding decode_pairs
no_digit = refl

none_without_option : bytes_in (codes "aad") [] ≡ Some []
none_without_option = refl

no_bytes : optional_bytes_in (codes "kid") (given (codes "kid") [] ∷ []) ≡ Some (Some [])
unfolding decode_pairs
no_bytes = refl

no_option : optional_bytes_in (codes "kid") [] ≡ Some None
no_option = refl

another_option : text_in (codes "aud") (given (codes "aad") (codes "00") ∷ []) ≡ None
another_option = refl

plus_and_zeros : number_in (codes "length") (number (codes "length") (codes "+002") ∷ []) ≡ Some 2
plus_and_zeros = refl

minus_zero : integer_in (codes "now") (number (codes "now") (codes "-0") ∷ []) ≡ Some (pos 0)
minus_zero = refl

algorithm : algorithm_in (number (codes "alg") (codes "+05") ∷ []) ≡ Some Hmac256
algorithm = refl

kind : kind_in (given (codes "kind") (codes "mac0") ∷ []) ≡ Mac0
kind = refl

no_kind : kind_in [] ≡ Tagged
no_kind = refl

limits : limits_in (given (codes "limits") (codes "large") ∷ []) ≡ Large
limits = refl

small_limits : limits_in (given (codes "limits") (codes "small") ∷ []) ≡ Small
small_limits = refl

no_limits : limits_in [] ≡ Small
no_limits = refl

of_the_file : key_set_in any_file (given (codes "keys") (codes "00") ∷ given (codes "keys-file") (codes "a") ∷ []) ≡ Some (1 ∷ 97 ∷ [])
of_the_file = refl

unknown_file : key_set_in no_file (given (codes "keys-file") (codes "a") ∷ []) ≡ None
unknown_file = refl

in_the_message : payload_in no_file [] ≡ Some None
in_the_message = refl

-- The file `ab` has the bytes 1, 97 and 98.
abbrev of_stated : Text → List Row
of_stated stated = given (codes "payload-file") (codes "ab") ∷ number (codes "payload-length") stated ∷ []

stated_fewer : payload_in any_file (of_stated (codes "2")) ≡ Some (Some (1 ∷ 97 ∷ []))
stated_fewer = refl

stated_all : payload_in any_file (of_stated (codes "3")) ≡ Some (Some (1 ∷ 97 ∷ 98 ∷ []))
stated_all = refl

stated_more : payload_in any_file (of_stated (codes "4")) ≡ None
stated_more = refl

stated_none : payload_in any_file (given (codes "payload-file") (codes "ab") ∷ []) ≡ Some (Some (1 ∷ 97 ∷ 98 ∷ []))
stated_none = refl

-- ---- command lines

show_line : (bytes : List ℕ) → line_prints no_file (Some (codes "show", given (codes "kind") (codes "sign1") ∷ [])) bytes ≡ Some (shown Small Sign1 plainly bytes)
show_line bytes = refl

diagnostic_line : (bytes : List ℕ) → line_prints no_file (Some (codes "show", given (codes "kind") (codes "mac0") ∷ given (codes "diagnostic") (codes "true") ∷ [])) bytes ≡ Some (shown Small Mac0 (record plainly { diagnostic = true }) bytes)
diagnostic_line bytes = refl

-- Where a flag is left out, clap gives it this argument.
plain_line : (bytes : List ℕ) → line_prints no_file (Some (codes "show", given (codes "diagnostic") (codes "false") ∷ [])) bytes ≡ Some (shown Small Tagged plainly bytes)
plain_line bytes = refl

detached_line : (bytes : List ℕ) → line_prints no_file (Some (codes "show", given (codes "detached") (codes "true") ∷ [])) bytes ≡ Some (shown Small Tagged (record plainly { detached = true }) bytes)
detached_line bytes = refl

payload_line : (bytes : List ℕ) → line_prints no_file (Some (codes "show", given (codes "with-payload") (codes "true") ∷ [])) bytes ≡ Some (shown Small Tagged (record plainly { payload = true }) bytes)
payload_line bytes = refl

large_line : (bytes : List ℕ) → line_prints no_file (Some (codes "show", given (codes "limits") (codes "large") ∷ [])) bytes ≡ Some (shown Large Tagged plainly bytes)
large_line bytes = refl

-- Under the key set without keys, the array 80, and with this argument of `--vouch`.
abbrev no_keys : Option (List ℕ) → Under
no_keys vouch = record { room = room_of Small; keys = program_keys (room_of Small) unrestricted (128 ∷ []); aad = []; wanted = Tagged; vouch = vouch }

verify_line : (bytes : List ℕ) → line_prints any_file (Some (codes "verify", given (codes "keys") (codes "80") ∷ given (codes "payload-file") (codes "a") ∷ given (codes "vouch") (codes "01") ∷ [])) bytes ≡
    Some (verified_under (no_keys (Some (1 ∷ []))) (Some (1 ∷ 97 ∷ [])) bytes)
unfolding decode_pairs
verify_line bytes = refl

large_verify_line : (bytes : List ℕ) → line_prints no_file (Some (codes "verify", given (codes "keys") (codes "80") ∷ given (codes "limits") (codes "large") ∷ [])) bytes ≡
    Some (verified_under (record (no_keys None) { room = room_of Large; keys = program_keys (room_of Large) unrestricted (128 ∷ []) }) None bytes)
unfolding decode_pairs
large_verify_line bytes = refl

cwt_line : (bytes : List ℕ) → line_prints no_file (Some (codes "cwt", given (codes "keys") (codes "80") ∷ number (codes "now") (codes "9") ∷ number (codes "leeway") (codes "5") ∷ given (codes "aud") (codes "x") ∷ [])) bytes ≡
    Some (admitted_under (no_keys None) (program_policy (pos 9) 5 (Some (120 ∷ []))) (required_at (pos 9) 5 [] None None None None None) briefly bytes)
unfolding decode_pairs
cwt_line bytes = refl

text_line : (bytes : List ℕ) → line_prints no_file (Some (codes "cwt", given (codes "keys") (codes "80") ∷ number (codes "now") (codes "9") ∷ number (codes "leeway") (codes "5") ∷ given (codes "text") (codes "true") ∷ [])) bytes ≡
    Some (admitted_under (no_keys None) (program_policy (pos 9) 5 None) (required_at (pos 9) 5 [] None None None None None) (record briefly { readable = true }) bytes)
unfolding decode_pairs
text_line bytes = refl

claims_line : (bytes : List ℕ) → line_prints no_file (Some (codes "cwt", given (codes "keys") (codes "80") ∷ number (codes "now") (codes "9") ∷ number (codes "leeway") (codes "5") ∷ given (codes "claims") (codes "all") ∷ [])) bytes ≡
    Some (admitted_under (no_keys None) (program_policy (pos 9) 5 None) (required_at (pos 9) 5 [] None None None None None) (record briefly { others = true }) bytes)
unfolding decode_pairs
claims_line bytes = refl

make_line : (bytes : List ℕ) → line_prints no_file (Some (codes "make", number (codes "alg") (codes "5") ∷ given (codes "key") (codes "a0") ∷ number (codes "length") (codes "2") ∷ given (codes "kid") (codes "0b") ∷ [])) bytes ≡
    Some (made_under (key_of (record { bytes = 160 ∷ []; place = 0 })) Hmac256 2 (Some (11 ∷ [])) [] bytes)
unfolding decode_pairs
make_line bytes = refl
