-- Whether an intake has failed, and what is answered then.
use Rattle.std.proofs.Common.{◌≡◌, ◌⊎◌, Bool, true, false, List, Result, Ok, Err, inl, inr, refl, sym, ap, ◌∙◌}
use Rattle.std.specs.Prelude.{◌||◌, ◌↔◌, IfErr, is_some}
use Rattle.cose_head.specs.declared.refusal.Refusal.{Refusal}
use Rattle.cose_map.specs.Key.Value.{KeyValue}
use Rattle.cose_map.specs.Map.Read.{Read}
use Rattle.cose_cwt.specs.Token.{Outcome, is_for_intake, is_for_store, stop_in}
use Rattle.cose_cwt.specs.declared.token.CwtStop.TheVariants.{Claims, Message, Stopped}
use Rattle.cose_msg.specs.declared.verdict.Stop.TheVariants.{Again, Intake, Sink}
use Rattle.cose_answers.specs.declared.fault.Fault.{Fault}
use Rattle.cose_answers.specs.declared.fault.Fault.TheVariants as faults
use Rattle.cose_answers.specs.Faults.{FailsForKeys, fails_by_input, is_of_input}

pub not_failed : (failed : Bool) → failed ≡ (failed || false)
not_failed true = refl
not_failed false = refl

-- Two calls of an intake that didn't fail.
pub none_failed : (before between after : Bool) → between ≡ (before || false) → after ≡ (between || false) → after ≡ before
none_failed before between after first second = second ∙ sym (not_failed between) ∙ first ∙ sym (not_failed before)

-- A call of an intake that didn't fail, and one that may.
pub then_failed : (before between after failed : Bool) → between ≡ (before || false) → after ≡ (between || failed) → after ≡ (before || failed)
then_failed before between after failed first second = second ∙ ap (λ (b : Bool). b || failed) (first ∙ sym (not_failed before))

-- What is answered then has no fault of the input.
pub answered_unfailed : {A : Type 0} (before after : Bool) (reply : Result A Fault) → after ≡ before → IfErr reply (λ fault. fault ≡ faults.Memory) → after ≡ (before || fails_by_input reply)
answered_unfailed before after (Ok answer) same memory = same ∙ not_failed before
answered_unfailed before after (Err fault) same memory = rw memory (same ∙ not_failed before)

pub failed_as_answered : {A : Type 0} (before after stopped : Bool) (reply : Result A Fault) → after ≡ (before || stopped) → fails_by_input reply ≡ stopped → after ≡ (before || fails_by_input reply)
failed_as_answered before after stopped reply failed answered = failed ∙ ap (λ (b : Bool). before || b) (sym answered)

-- A verifier that hadn't stopped, over a store that suffices, stops only for its intake.
only_for_intake : (outcome : Outcome) (stopped : Bool) → is_for_store (stop_in outcome) ≡ false → (outcome ≡ Err (Stopped Again) ↔ stopped ≡ true) → stopped ≡ false →
    is_for_intake (stop_in outcome) ≡ is_some (stop_in outcome)
only_for_intake (Ok claims) stopped store again goes_on = refl
only_for_intake (Err (Message refusal)) stopped store again goes_on = refl
only_for_intake (Err (Claims refusal)) stopped store again goes_on = refl
only_for_intake (Err (Stopped Intake)) stopped store again goes_on = refl
only_for_intake (Err (Stopped Sink)) stopped store again goes_on = absurd cc
only_for_intake (Err (Stopped Again)) stopped store again goes_on = let yes : stopped ≡ true = again.0 refl in absurd cc

pub stopped_for_intake : (before after : Bool) (outcome : Outcome) (stopped : Bool) → after ≡ (before || is_for_intake (stop_in outcome)) → is_for_store (stop_in outcome) ≡ false →
    (outcome ≡ Err (Stopped Again) ↔ stopped ≡ true) → stopped ≡ false → after ≡ (before || is_some (stop_in outcome))
stopped_for_intake before after outcome stopped failed store again goes_on =
    failed ∙ ap (λ (b : Bool). before || b) (only_for_intake outcome stopped store again goes_on)

-- Where the second of two intakes has failed in this call, the call stopped for it.
pub stopped_by_second : (stops first first_after second second_after : Bool) →
    ((first_after ≡ (first || stops)) × (second_after ≡ second)) ⊎ ((first_after ≡ first) × (second_after ≡ (second || stops))) → second ≡ false → second_after ≡ true → stops ≡ true
stopped_by_second stops first first_after second second_after (inl both) sound failed =
    let contrary : true ≡ false = sym failed ∙ both.1 ∙ sound in
    absurd cc
stopped_by_second stops first first_after second second_after (inr both) sound failed =
    let stopped : true ≡ stops = sym failed ∙ both.1 ∙ ap (λ (b : Bool). b || stops) sound in
    sym stopped

-- A fault of the input isn't one of the keys.
pub keys_unrefused : {A : Type 0} (keys : Read (List KeyValue)) (fault : Fault) (refusal : Refusal) → FailsForKeys {A = A} keys (Err fault) → is_of_input fault ≡ true → keys ≡ Err refusal → ⊥
keys_unrefused {A = A} keys fault refusal fails of_input refused =
    let same = (fails refusal).0 refused in
    let is : fault ≡ faults.Keys refusal = cc in
    let contrary : false ≡ true = rw is at of_input in
    absurd cc
