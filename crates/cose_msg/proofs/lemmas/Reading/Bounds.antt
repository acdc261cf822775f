-- The numbers of bytes that settle a message which is verified or inspected.
use Rattle.std.proofs.Common.{◌≡◌, ℕ, ◌≤◌, true, Option, Some, None, Result, Ok, Err, refl, arith, leb}
use Rattle.std.proofs.lemmas.Bool.{eqb-true, leb-true}
use Rattle.cose_head.specs.declared.reason.Reason.{Reason}
use Rattle.cose_head.specs.declared.algorithm.Alg.{Alg}
use Rattle.cose_head.specs.Algorithm.{auth_length_of}
use Rattle.cose_head.proofs.lemmas.Algorithms.{each_algorithm}
use Rattle.cose_msg.specs.Answer.{Answer, Chosen, Whole}
use Rattle.cose_msg.specs.Laws.{AuthIsAtMost, MessageIsVerifiedWithin, MessageIsInspectedWithin}
use Rattle.cose_msg.specs.Message.{Setting, rules_with, found_key, as_choice, key_choice_of, has_auth_length, uncompared, comparing, verifying, inspecting}
use Rattle.cose_msg.proofs.lemmas.Reading.Settles.{BoundLaws, message_is_bounded}

pub algorithms_are_short : (alg : Alg) → auth_length_of alg ≤ 132
algorithms_are_short alg = leb-true (auth_length_of alg) 132 (each_algorithm (λ a. leb (auth_length_of a) 132) refl alg)

-- Where a key is to be chosen, one is.
abbrev FitsIn : ℕ → Option Chosen → Type 0
FitsIn most chosen = (n : ℕ) → has_auth_length chosen n ≡ true → n ≤ most

found-fits : (found : Chosen) → FitsIn 132 (Some found)
found-fits found n e = omega (arith, eqb-true n (auth_length_of found.alg) e, algorithms_are_short found.alg)

as_choice-fits : (found : Result Chosen Reason) (chosen : Option Chosen) → as_choice found ≡ Ok chosen → FitsIn 132 chosen
as_choice-fits (Ok found) (Some other) e = found-fits other
as_choice-fits (Ok found) None e = absurd cc
as_choice-fits (Err reason) chosen e = absurd cc

verified-fits : (room nesting : ℕ) (setting : Setting) (finish : Whole → Answer) → AuthIsAtMost 132 (rules_with room nesting setting (key_choice_of setting.keys) finish)
verified-fits room nesting setting finish headers found n is e = as_choice-fits (found_key setting.keys headers) found is n e

abbrev no_key : Result (Option Chosen) Reason
no_key = Ok None

none-fits : (chosen : Option Chosen) → no_key ≡ Ok chosen → FitsIn 65535 chosen
none-fits (Some found) is = absurd cc
none-fits None is = λ n e. leb-true n 65535 e

pub verified_within : BoundLaws → MessageIsVerifiedWithin
verified_within laws = (
  λ room nesting setting bytes le. message_is_bounded laws (uncompared room nesting setting) 132 (verified-fits room nesting setting (uncompared room nesting setting).finish) bytes (omega arith),
  λ room nesting setting bytes le. message_is_bounded laws (comparing room nesting setting) 132 (verified-fits room nesting setting (comparing room nesting setting).finish) bytes (omega arith),
  λ decides room nesting setting bytes le. message_is_bounded laws (verifying room nesting setting decides) 132 (verified-fits room nesting setting (verifying room nesting setting decides).finish) bytes (omega arith),
)

pub inspected_within : BoundLaws → MessageIsInspectedWithin
inspected_within laws room nesting setting bytes le = message_is_bounded laws (inspecting room nesting setting) 65535 (λ headers chosen n is e. none-fits chosen is n e) bytes (omega arith)
