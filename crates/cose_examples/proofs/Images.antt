-- An image that is written as it comes, and the verdict on it.
use Rattle.std.proofs.Common.{◌≡◌, ℕ, ◌-◌, ◌≤◌, Bool, true, false, List, [], ◌++◌, length, take, drop, Option, None, Some, Ok, refl, sym, ap, subst, ◌∙◌, append_assoc}
use Rattle.std.specs.Io.KnownBytes.{Appends, Consumes}
use Rattle.std.proofs.KnownBytes.{Consumes-nil, Consumes-trans, Appends-nil, Appends-trans}
use Rattle.std.proofs.lemmas.List.{append-nil, length-drop, take-append-drop}
use Rattle.std.proofs.Math.Seq.{take-length}
use Rattle.std.specs.Prelude.{nat_lt}
use Rattle.cose_msg.specs.declared.verdict.Verdict.{Verdict}
use Rattle.cose_msg.specs.declared.verdict.Verdict.TheVariants.{Authentic, Refused}
use Rattle.cose_msg.specs.declared.verifier.Verifier.{Verifier}
use Rattle.cose_msg.specs.Answer.{decided}
use Rattle.cose_msg.specs.Kept.{HasTaken, is_inspecting}
use Rattle.cose_msg.specs.Laws.{VerdictStays, VerifyingGoesLast}
use Rattle.cose_msg.specs.Message.{Decides, Setting, comparing, given, message, verdict_of, verifying}
use Rattle.cose_msg.specs.Reading.{Reading}
use Rattle.cose_msg.specs.Source.{Source, attached, detached, is_detached_from, source_with, with_came}
use Rattle.cose_msg.specs.Status.{is_complete, status_of_reading}
use Rattle.cose_msg.specs.Task.{Task, given_to, rules_of, to_verify}
use Rattle.cose_msg.specs.Verifier.{setting_in, task_of}
use Rattle.cose_msg.proofs.lemmas.Detached.PayloadRuns.{given_as_known}
use Rattle.cose_msg.proofs.lemmas.Detached.PayloadTaken.{given_again}
use Rattle.cose_examples.specs.Firmware.{AloneIs, IsOfImage, TakesImage, WhereAuthentic}

module _ {S : Type 0} {K : _} {task : Task} {taken before : List ℕ} {v : Verifier 256 4 S K} where
  pub takes_nothing : (come contents : Option (List ℕ)) → HasTaken task taken before v → TakesImage task taken before come come contents contents v
  takes_nothing come contents h = record { image = []; came = Consumes-nil come; written = Appends-nil contents; has_taken = given_as_known h }

  pub takes_more : {next : Verifier 256 4 S K} (come come_now come_after contents contents_now contents_after : Option (List ℕ)) (a : TakesImage task taken before come come_now contents contents_now v) (piece : List ℕ) (used : ℕ) → used ≡ length piece →
      Consumes come_now come_after piece → Appends contents_now contents_after piece →
      HasTaken (given_to ((before ++ a.image) ++ take used piece) (given_to (before ++ a.image) task)) taken ((before ++ a.image) ++ take used piece) next → TakesImage task taken before come come_after contents contents_after next
  takes_more {next} come come_now come_after contents contents_now contents_after a piece used e came written h =
      let all : take used piece ≡ piece = ap (λ (n : ℕ). take n piece) e ∙ take-length piece in
      let whole : (before ++ a.image) ++ take used piece ≡ before ++ (a.image ++ piece) = ap (λ (t : List ℕ). (before ++ a.image) ++ t) all ∙ append_assoc before a.image piece in
      let same : HasTaken (given_to ((before ++ a.image) ++ take used piece) task) taken ((before ++ a.image) ++ take used piece) next =
      subst (λ (t : Task). HasTaken t taken ((before ++ a.image) ++ take used piece) next) (given_again task ((before ++ a.image) ++ take used piece) (before ++ a.image)) h in
      record {
        image = a.image ++ piece;
        came = Consumes-trans come come_now come_after a.image piece a.came came;
        written = Appends-trans contents contents_now contents_after a.image piece a.written written;
        has_taken = subst (λ (t : List ℕ). HasTaken (given_to t task) taken t next) whole same;
      }

  pub takes_none : (come come_now come_after contents contents_now : Option (List ℕ)) (a : TakesImage task taken before come come_now contents contents_now v) → Consumes come_now come_after [] → TakesImage task taken before come come_after contents contents_now v
  takes_none come come_now come_after contents contents_now a none = record {
    image = a.image;
    came = subst (λ (t : List ℕ). Consumes come come_after t) (append-nil a.image) (Consumes-trans come come_now come_after a.image [] a.came none);
    written = a.written;
    has_taken = a.has_taken;
  }

-- ---- the verdict

-- What a verifier for a detached payload has of it is what came.
came_is : (source : Source) (came more : List ℕ) → is_detached_from source ≡ true → with_came more (with_came came source) ≡ with_came came source → more ≡ came
came_is (detached first detached_length) came more known e = cc
came_is attached came more known e = absurd cc

pub payload_is : {S : Type 0} {K : _} {v : Verifier 256 4 S K} (setting : Setting) (came more taken : List ℕ) → is_detached_from setting.source ≡ true → HasTaken (to_verify (given came setting)) taken more v → more ≡ came
payload_is setting came more taken known h = came_is setting.source came more known (ap (λ (t : Task). t.setting.source) h.came)

-- At first none has come.
none_yet : (detached_length : Option ℕ) → with_came [] (source_with [] detached_length) ≡ source_with [] detached_length
none_yet None = refl
none_yet (Some n) = refl

pub as_given : {S : Type 0} {K : _} (v : Verifier 256 4 S K) → given [] (setting_in v) ≡ setting_in v
as_given v = ap (λ (s : Source). record (setting_in v) { source = s }) (none_yet v.detached_length)

-- What a verifier was made for.
pub verifies : {S : Type 0} {K : _} (old v : Verifier 256 4 S K) → is_inspecting old ≡ false → HasTaken (task_of old) [] [] v → HasTaken (to_verify (setting_in old)) [] [] v
verifies old v known h = subst (λ (i : Bool). HasTaken (record { setting = setting_in old; inspects = i }) [] [] v) known h

-- The image is all that has come of the payload.
pub image_taken : {S : Type 0} {K : _} {v : Verifier 256 4 S K} (setting : Setting) (taken before image : List ℕ) → before ≡ [] → HasTaken (given_to (before ++ image) (to_verify setting)) taken (before ++ image) v → HasTaken (to_verify (given image setting)) taken image v
image_taken {v = v} setting taken before image none h = subst (λ (b : List ℕ). HasTaken (given_to (b ++ image) (to_verify setting)) taken (b ++ image) v) none h

-- A complete message is settled.
settled_as : (wanted settled : Bool) (reading : Reading) → nat_lt 0 reading.payload_wanted ≡ wanted → reading.settled ≡ settled → is_complete (status_of_reading reading) ≡ true → reading.settled ≡ true
settled_as true settled reading w s done = let here : is_complete (status_of_reading reading) ≡ false = rw w refl in absurd cc
settled_as false true reading w s done = s
settled_as false false reading w s done = let here : is_complete (status_of_reading reading) ≡ false = rw (w, s) refl in absurd cc

-- The bytes of a slice from a place on.
pub slice_from : (a : ℕ) (bytes : List ℕ) → take (length bytes - a) (drop a bytes) ≡ drop a bytes
slice_from a bytes = ap (λ (n : ℕ). take n (drop a bytes)) (sym (length-drop a bytes)) ∙ take-length (drop a bytes)

-- The verdict on the bytes that made a message complete is that on all of it, which was fed in two parts.
pub judged_whole : VerdictStays → VerifyingGoesLast → (setting : Setting) (decides : Decides) (bytes rest : List ℕ) (a b : ℕ) (verdict : Verdict) → rest ≡ drop a bytes →
    is_complete (status_of_reading (message (rules_of 256 4 (to_verify setting)) (take a bytes ++ take b rest))) ≡ true →
    verdict_of 256 4 setting decides (take a bytes ++ take b rest) ≡ decided verdict → verdict_of 256 4 setting decides bytes ≡ decided verdict
judged_whole stays last setting decides bytes rest a b verdict left done e =
    let fed : List ℕ = take a bytes ++ take b rest in
    let more : List ℕ = drop b rest in
    let all : fed ++ more ≡ bytes = append_assoc (take a bytes) (take b rest) more ∙ ap (λ (t : List ℕ). take a bytes ++ t) (take-append-drop b rest ∙ left) ∙ take-append-drop a bytes in
    let reading : Reading = message (comparing 256 4 setting) fed in
    let settled : (message (verifying 256 4 setting decides) fed).settled ≡ true = ap (λ (r : Reading). r.settled) (last 256 4 setting decides fed) ∙ settled_as (nat_lt 0 reading.payload_wanted) reading.settled reading refl refl done in
    ap (verdict_of 256 4 setting decides) (sym all) ∙ stays 256 4 setting decides fed more settled ∙ e

-- An image is approved by such a verdict.
pub approves : (setting : Setting) (decides : Decides) (bytes : List ℕ) (come come_after contents contents_after : Option (List ℕ)) (image : List ℕ) (verdict said : Verdict) →
    Consumes come come_after image → Appends contents contents_after image → verdict_of 256 4 (given image setting) decides bytes ≡ decided verdict → AloneIs (length bytes) verdict said →
    WhereAuthentic (Ok said) (IsOfImage setting decides bytes come come_after contents contents_after)
approves setting decides bytes come come_after contents contents_after image verdict (Authentic kind alg payload taken) came written judged alone =
    record { image = image; came = came; written = written; judged = judged ∙ ap decided alone.0; alone = alone.1 }
approves setting decides bytes come come_after contents contents_after image verdict (Refused refusal) came written judged alone = tt
