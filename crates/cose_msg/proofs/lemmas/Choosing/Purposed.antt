-- What a message is read for, by whether a key is chosen and whether it is authenticated elsewhere.
use Rattle.std.proofs.Common.{◌≡◌, Bool, true, false, Some, refl, ap, ◌∙◌}
use Rattle.std.specs.Prelude.{Option, ◌&&◌, not}
use Rattle.cose_head.specs.Algorithm.{is_mac_of}
use Rattle.cose_msg.specs.Answer.{Chosen, Whole, complete}
use Rattle.cose_msg.specs.Message.{Setting, compared}
use Rattle.cose_msg.specs.Task.{Task, asks, finish_for, is_keyless}

pub both_true : (a b : Bool) → (a && b) ≡ true → (a ≡ true) × (b ≡ true)
both_true true true e = (refl, refl)
both_true true false e = absurd cc
both_true false b e = absurd cc

pub is_not : (a : Bool) → not a ≡ true → a ≡ false
is_not false e = refl
is_not true e = absurd cc

-- Where a key is chosen here, the message is verified.
pub verifies_here : (inspects elsewhere : Bool) → (inspects && not elsewhere) ≡ false → (inspects && elsewhere) ≡ false → inspects ≡ false
verifies_here false elsewhere chooses here = refl
verifies_here true true chooses here = absurd cc
verifies_here true false chooses here = absurd cc

-- Where nothing is compared here, there is no tag.
pub untagged : (away is_mac : Bool) → (not away && is_mac) ≡ false → away ≡ false → is_mac ≡ false
untagged false is_mac e here = e
untagged true is_mac e here = absurd cc

-- A message with a key, whose tag isn't compared here, is complete.
completes : (inspects elsewhere : Bool) (setting : Setting) (found : Chosen) (whole : Whole) → whole.chosen ≡ Some found → (inspects && not elsewhere) ≡ false → ((inspects && elsewhere) ≡ false → is_mac_of found.alg ≡ false)
    → finish_for inspects elsewhere setting whole ≡ complete whole
completes true true setting found whole chosen keyless none = refl
completes true false setting found whole chosen keyless none = absurd cc
completes false elsewhere setting found whole chosen keyless none = ap (λ (c : Option Chosen). compared setting.aad c whole) chosen ∙ rw (none refl) refl

pub finishes_complete : (task : Task) (found : Chosen) (whole : Whole) → whole.chosen ≡ Some found → is_keyless task ≡ false → (asks task ≡ false → is_mac_of found.alg ≡ false)
    → finish_for task.inspects task.setting.elsewhere task.setting whole ≡ complete whole
finishes_complete task found whole = completes task.inspects task.setting.elsewhere task.setting found whole
