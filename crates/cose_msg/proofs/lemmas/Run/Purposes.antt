-- What a verifier was made for stays, step by step.
use Rattle.std.proofs.Common.{◌≡◌, ℕ, Bool, List, refl, sym, ap, ◌∙◌}
use Rattle.cose_msg.specs.declared.verifier.Verifier.{Verifier}
use Rattle.cose_msg.specs.Kept.{HasTaken, SamePurpose, is_inspecting}
use Rattle.cose_msg.specs.Message.{Setting}
use Rattle.cose_msg.specs.Source.{is_detached_from}
use Rattle.cose_msg.specs.Task.{Task}
use Rattle.cose_msg.specs.Verifier.{setting_in, task_of}

-- Nothing was done.
pub unchanged : {H D : ℕ} {S : Type 0} {K : _} (v : Verifier H D S K) → SamePurpose v v
unchanged v = record { inspects = refl; detached = refl; context = λ h. refl }

-- The last step leaves the task as it is.
pub then_same_task : {H D : ℕ} {S : Type 0} {K : _} {old now new : Verifier H D S K} → SamePurpose old now → task_of new ≡ task_of now → SamePurpose old new
then_same_task purpose same = record {
  inspects = ap (λ (t : Task). t.inspects) same ∙ purpose.inspects;
  detached = ap (λ (t : Task). is_detached_from t.setting.source) same ∙ purpose.detached;
  context = λ h. ap (λ (t : Task). t.setting) same ∙ purpose.context h;
}

-- A verifier that has taken bytes for the same task has the same setting.
pub same_setting_of : {H D : ℕ} {S : Type 0} {K : _} {task : Task} {s B s' B' : List ℕ} {old new : Verifier H D S K} → HasTaken task s B old → HasTaken task s' B' new → setting_in new ≡ setting_in old
same_setting_of before now = ap (λ (t : Task). t.setting) (now.made_for ∙ sym before.made_for)

-- Where it is known what had been taken, the whole task stays.
pub same_task : {H D : ℕ} {S : Type 0} {K : _} {task : Task} {s B : List ℕ} {old new : Verifier H D S K} → SamePurpose old new → HasTaken task s B old → task_of new ≡ task_of old
same_task {old = old} {new = new} purpose h =
    let task : Setting → Bool → Task = λ setting inspects. record { setting = setting; inspects = inspects } in
    ap (λ (s : Setting). task s (is_inspecting new)) (purpose.context h) ∙ ap (task (setting_in old)) purpose.inspects
