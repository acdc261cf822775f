use Rattle.std.proofs.Common.{◌≡◌, true, ◌++◌, [], refl, sym, ap, ◌∙◌, arith, length-append}
use Rattle.cose_msg.specs.Message.{message}
use Rattle.cose_msg.specs.Phase.{grown, in_payload}
use Rattle.cose_msg.specs.Reader.{SoFar}
use Rattle.cose_msg.specs.Source.{attached}
use Rattle.cose_msg.specs.Task.{Task, asks, given_to, keys_for, rules_of}
use Rattle.cose_msg.proofs.lemmas.Detached.PayloadTaken.{given_again, stated_for, still_comes, whatever_then}
use Rattle.cose_msg.proofs.lemmas.Run.Purposes.{same_setting_of}
use Rattle.cose_msg.proofs.lemmas.Run.Runs.{reads_on_attached}
use Rattle.cose_msg.proofs.lemmas.Reader.Meanings.{took_piece, whole_task}
use Rattle.cose_msg.proofs.verifier.Verifier.take_piece.Goals as goal

pub returns-clause-taken : goal.returns-clause-taken
returns-clause-taken g c = λ task s B h.
    let phase = c.args.self.now.reader.phase in
    let piece = c.args.piece.now in
    let among = (rw c.is_keyless-keyless.ensures at c.keys_to_choose_from-keys.ensures) ∙ ap keys_for h.made_for in
    let source = ap (λ (t : Task). t.setting.source) h.made_for in
    let away = c.is_elsewhere-elsewhere.ensures ∙ ap asks h.made_for in
    let taken : (t : Task) → keys_for t ≡ keys_for task → asks t ≡ asks task → given_to [] t ≡ given_to [] task → SoFar t s B c.args.self.now.reader → SoFar t (s ++ piece) (grown phase B piece) c.advance.new.self =
    λ t same aside others so. took_piece c.advance.new.self s piece (grown phase B) c.advance.result (message (rules_of g.row.H g.row.D t)) (c.advance.ensures.whole c.requires.wanted) (c.advance.ensures.reads_on t B _ _ (among ∙ sym same) (away ∙ sym aside) (stated_for c.args.self.now.detached_length task t source others) so) in
    let now : SoFar task (s ++ piece) (grown phase B piece) c.advance.new.self = taken task refl refl refl h.so_far in
    let inside : in_payload phase ≡ true → task.setting.source ≡ attached = λ is. reads_on_attached h.so_far is in
    record {
      made_for = whole_task task _ c.advance.new.self.terms _ _ _ (ap (λ (t : Task). t.setting.keys) h.made_for) (ap (λ (t : Task). t.inspects) h.made_for) source (ap (λ (t : Task). t.setting.elsewhere) h.made_for) now.shows.0;
      so_far = now;
      came = still_comes task phase B piece (in_payload phase) refl inside h.came;
      whatever_comes = whatever_then task phase (s ++ piece) B piece c.advance.new.self (in_payload phase) refl inside now (λ more. taken (given_to (B ++ more) task) refl refl (given_again task [] (B ++ more)) (h.whatever_comes more));
      counted = omega (arith, h.counted, length-append s piece);
      goes_on = h.goes_on;
    }

pub returns-clause-purpose : goal.returns-clause-purpose
returns-clause-purpose g c = record { inspects = refl; detached = refl; context = λ h. same_setting_of h (returns-clause-taken g c _ _ _ h) }
