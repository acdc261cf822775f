-- The key that was chosen, and the result of both buckets, without where they are in memory.
use Rattle.std.specs.Prelude.{◌≡◌, ℕ, Bool, List, length, Option, Some, None, Result, Ok, Err, option_map, nat_le, ◌==◌}
use Rattle.cose_head.specs.declared.algorithm.Alg.{Alg}
use Rattle.cose_head.specs.Algorithm.{auth_length_of}
use Rattle.cose_head.specs.declared.reason.Reason.{Reason}
use Rattle.cose_head.specs.declared.refusal.Refusal.{Refusal}
use Rattle.cose_map.specs.Key.View.{key_value}
use Rattle.cose_map.specs.Map.Pairs.{Pair}
use Rattle.cose_map.specs.Map.Read.{Read}
use Rattle.cose_msg.specs.declared.reader.Chosen as code
use Rattle.cose_msg.specs.Answer.{Chosen}

abbrev pub chosen_value : code.Chosen → Chosen
chosen_value chosen = record { key = key_value chosen.key; alg = chosen.alg }

-- Whether a tag or signature may have this length, by its algorithm alone.
abbrev pub has_length_of : Option Alg → ℕ → Bool
has_length_of (Some alg) n = n == auth_length_of alg
has_length_of None n = nat_le n 65535

-- What is in the place of the chosen key, unless there is a reason why none is chosen.
abbrev pub choice_seen : Result (Unit {0}) Reason → Option code.Chosen → Result (Option Chosen) Reason
choice_seen (Ok _) place = Ok (option_map chosen_value place)
choice_seen (Err reason) place = Err reason

-- The code's choice, in its place, is that of the definition; it also says whether the protected bucket has no pair.
abbrev pub ChoiceIs : List Pair → Result Bool Refusal → Option code.Chosen → Read (Option Chosen) → Type 0
ChoiceIs pairs (Ok is_bare) place (Ok chosen) = (option_map chosen_value place ≡ chosen) × (is_bare ≡ (length pairs == 0))
ChoiceIs pairs (Err refusal) place (Err fault) = refusal ≡ fault
ChoiceIs pairs _ place _ = ⊥
