use Rattle.std.proofs.Common.{◌≡◌, ◌+◌, ◌++◌, length, refl, sym, ap, subst, arith, length-append, append_assoc}
use Rattle.cose_msg.specs.Message.{message}
use Rattle.cose_msg.specs.Reader.{SoFar}
use Rattle.cose_msg.specs.Source.{attached}
use Rattle.cose_msg.specs.Task.{Task, rules_of}
use Rattle.cose_msg.proofs.lemmas.Detached.PayloadTaken.{given_attached}
use Rattle.cose_msg.proofs.lemmas.Reader.Meanings.{moved, whole_task}
use Rattle.cose_msg.proofs.lemmas.Run.Purposes.{same_setting_of}
use Rattle.cose_msg.proofs.lemmas.Run.Runs.{reads_on_attached}
use Rattle.cose_msg.proofs.verifier.Verifier.take_payload_part.Goals as goal

pub returns-clause-taken : goal.returns-clause-taken
returns-clause-taken g c = λ task s B h.
    let piece = c.args.bytes.now in
    let next = c.payload_part.new.self in
    let is_attached : task.setting.source ≡ attached = reads_on_attached h.so_far c.requires.inside in
    let count : length s + length piece ≡ length (s ++ piece) = omega (arith, length-append s piece) in
    let now : SoFar task (s ++ piece) (B ++ piece) next =
    moved next _ _ refl count (λ z. ap (message (rules_of g.row.H g.row.D task)) (append_assoc s piece z)) (c.payload_part.ensures.reads_on task B _ _ h.so_far) in
    record {
      made_for = whole_task task _ next.terms _ _ _ (ap (λ (t : Task). t.setting.keys) h.made_for) (ap (λ (t : Task). t.inspects) h.made_for) (ap (λ (t : Task). t.setting.source) h.made_for) (ap (λ (t : Task). t.setting.elsewhere) h.made_for) now.shows.0;
      so_far = now;
      came = given_attached task (B ++ piece) is_attached;
      whatever_comes = λ more. subst (λ (t : Task). SoFar t (s ++ piece) (B ++ piece) next) (sym (given_attached task ((B ++ piece) ++ more) is_attached)) now;
      counted = omega (arith, h.counted, length-append s piece);
      goes_on = h.goes_on;
    }

pub returns-clause-purpose : goal.returns-clause-purpose
returns-clause-purpose g c = record { inspects = refl; detached = refl; context = λ h. same_setting_of h (returns-clause-taken g c _ _ _ h) }
