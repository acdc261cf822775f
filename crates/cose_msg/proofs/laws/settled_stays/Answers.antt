use Rattle.cose_msg.proofs.lemmas.Reading.HeadFaults.{head_definite}
use Rattle.cose_msg.proofs.lemmas.Reading.Forms.{HeadLaws}
use Rattle.cose_msg.proofs.lemmas.Reading.StablePhases.{message_stays, message_ends_truncated, open_earlier, verdict_stays}
use Rattle.cose_msg.proofs.laws.settled_stays.Goals as goal

pub returns : goal.returns
returns c =
    let laws : HeadLaws = record {
      faults = head_definite c.bare_head_is_spelling.ensures.reasons;
      spelled = c.bare_head_is_spelling.ensures.spelled;
      head_stays = c.bare_head_is_spelling.ensures.stays;
      read_stays = c.read_stays.ensures.stays;
      steps = c.read_steps.ensures.steps;
    } in
    record { message = message_stays laws; truncated = message_ends_truncated laws; earlier = open_earlier laws; verdict = verdict_stays laws }
