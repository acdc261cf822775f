-- What is known of a call whose answer was kept before.
use Rattle.std.proofs.Common.{◌≡◌, ◌↔◌, Bool, true, false, Option, Some, None, Result, Ok, Err, refl, sym, ap, subst, ◌∙◌}
use Rattle.std.specs.Prelude.{◌||◌, if◌then◌else◌}
use Rattle.cose_msg.specs.declared.status.Status.{Status}
use Rattle.cose_msg.specs.declared.status.Status.TheVariants.{Stopped}
use Rattle.cose_msg.specs.declared.verdict.Stop.{Stop}
use Rattle.cose_msg.specs.declared.verdict.Stop.TheVariants as stops
use Rattle.cose_msg.specs.declared.verdict.Verdict.{Verdict}
use Rattle.cose_msg.specs.Kept.{answer_kept, answered_again}
use Rattle.cose_msg.specs.Run.{stops_for_intake, stops_for_sink}
use Rattle.cose_msg.specs.Status.{is_complete}

pub kept_again : {A : Type 0} (stopped : Bool) (answer : Option A) (result : Result A Stop) → answer_kept stopped answer ≡ Some result → answer_kept stopped answer ≡ Some (answered_again result)
kept_again true answer result e = let is : Err stops.Again ≡ result = cc in ap (λ r. Some (answered_again r)) is
kept_again false (Some answer) result e = let is : Ok answer ≡ result = cc in ap (λ r. Some (answered_again r)) is
kept_again false None result e = absurd cc

pub kept_stop : {A : Type 0} (stopped : Bool) (answer : Option A) (result : Result A Stop) → answer_kept stopped answer ≡ Some result → (result ≡ Err stops.Again) ↔ (stopped ≡ true)
kept_stop true answer result e = (λ again. refl, λ yes. cc)
kept_stop false (Some answer) result e = (λ again. absurd cc, λ yes. absurd cc)
kept_stop false None result e = absurd cc

pub kept_intake : {A : Type 0} (stopped : Bool) (answer : Option A) (result : Result A Stop) → answer_kept stopped answer ≡ Some result → stops_for_intake result ≡ false
kept_intake true answer result e = let is : Err stops.Again ≡ result = cc in subst (λ r. stops_for_intake r ≡ false) is refl
kept_intake false (Some answer) result e = let is : Ok answer ≡ result = cc in subst (λ r. stops_for_intake r ≡ false) is refl
kept_intake false None result e = absurd cc

pub kept_sink : {A : Type 0} (stopped : Bool) (answer : Option A) (result : Result A Stop) → answer_kept stopped answer ≡ Some result → stops_for_sink result ≡ false
kept_sink true answer result e = let is : Err stops.Again ≡ result = cc in subst (λ r. stops_for_sink r ≡ false) is refl
kept_sink false (Some answer) result e = let is : Ok answer ≡ result = cc in subst (λ r. stops_for_sink r ≡ false) is refl
kept_sink false None result e = absurd cc

-- A call that stops for nothing adds no failure.
pub unfailed : (failed stops : Bool) → stops ≡ false → failed ≡ (failed || stops)
unfailed true stops e = refl
unfailed false stops e = sym e

-- A call that failed as little as before, and one after it that may fail.
pub then_failed : (before between after failed : Bool) → between ≡ before → after ≡ (between || failed) → after ≡ (before || failed)
then_failed before between after failed first second = second ∙ ap (λ (b : Bool). b || failed) first

-- The verdict on a complete message, which is known, is kept.
pub known_is_kept : (stopped : Bool) (said : Status) (known : Option Verdict) (verdict : Verdict) → is_complete (if stopped then Stopped else said) ≡ true → known ≡ Some verdict →
    answer_kept stopped known ≡ Some (Ok verdict)
known_is_kept true said known verdict complete is = absurd cc
known_is_kept false said known verdict complete is = rw is refl
