use Rattle.cose_msg.proofs.lemmas.Reading.Bounds.{verified_within, inspected_within}
use Rattle.cose_msg.proofs.lemmas.Reading.Settles.{BoundLaws, message_is_bounded}
use Rattle.cose_msg.proofs.laws.messages_are_bounded.Goals as goal

pub returns : goal.returns
returns c =
    let laws : BoundLaws = record {
      short = c.bare_head_is_spelling.ensures.short;
      fits = c.bare_head_is_spelling.ensures.fits;
      steps = c.read_steps.ensures.steps;
    } in
    record { any = message_is_bounded laws; verified = verified_within laws; inspected = inspected_within laws }
