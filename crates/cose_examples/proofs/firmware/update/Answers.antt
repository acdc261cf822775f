use Rattle.std.proofs.Common.{◌≡◌, [], take, subst, sym, ap, ◌∙◌}
use Rattle.cose_msg.specs.Feed.{payload_in}
use Rattle.cose_msg.specs.Kept.{HasTaken}
use Rattle.cose_msg.specs.Message.{Setting, given}
use Rattle.cose_msg.specs.Status.{is_complete}
use Rattle.cose_msg.specs.Task.{to_verify}
use Rattle.cose_msg.specs.Verifier.{setting_in}
use Rattle.cose_examples.proofs.Images.{approves, as_given, image_taken, judged_whole, payload_is, slice_from, verifies}
use Rattle.cose_examples.proofs.firmware.update.Goals as goal

pub returns-then-is_complete : goal.returns-then-is_complete
returns-then-is_complete g c = record {
  approved =
      let setting = setting_in c.args.verifier.now in
      let bytes = c.args.message.now in
      let start = verifies c.args.verifier.now c.reset.new.self c.requires.verifies c.reset.ensures.none_taken in
      let at_nil = c.feed-at_nil.ensures.taken (to_verify setting) [] [] start in
      let part = payload_in c.feed-at_nil.result bytes in
      let nil : HasTaken (to_verify (given [] setting)) (take c.feed-at_nil.result.used bytes) part c.feed-at_nil.new.self =
      subst (λ (s : Setting). HasTaken (to_verify s) (take c.feed-at_nil.result.used bytes) part c.feed-at_nil.new.self) (sym (as_given c.args.verifier.now)) at_nil in
      let before : part ≡ [] = payload_is setting [] part (take c.feed-at_nil.result.used bytes) c.requires.detached nil in
      let t = c.in_ok-write_image.ensures.takes (to_verify setting) _ _ at_nil in
      let imaged = image_taken setting _ part t.image before t.has_taken in
      let fed = c.feed.ensures.taken (to_verify (given t.image setting)) _ _ imaged in
      let done = ap is_complete (sym (c.feed.ensures.status (to_verify (given t.image setting)) _ _ imaged) ∙ c.feed.ensures.current) ∙ sym c.is_complete.ensures ∙ c.if-is_complete.true in
      let judged = judged_whole c.settled_stays.ensures.verdict c.deciding_goes_last.ensures.verifying (given t.image setting) (g.E.EcVerifier.decides c.args.ec.now) bytes _ c.feed-at_nil.result.used c.feed.result.used c.verdict.result (slice_from c.feed-at_nil.result.used bytes) done
      (c.verdict.ensures.answer (given t.image setting) _ _ fed) in
      approves setting (g.E.EcVerifier.decides c.args.ec.now) bytes _ _ _ _ t.image c.verdict.result c.alone.result t.came t.written judged c.alone.ensures;
}
