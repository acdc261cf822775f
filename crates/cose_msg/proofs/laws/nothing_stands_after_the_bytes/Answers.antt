use Rattle.cose_msg.proofs.lemmas.Reading.HeadFaults.{head_definite}
use Rattle.cose_msg.proofs.lemmas.Reading.FairRules.{all_are_fair}
use Rattle.cose_msg.proofs.lemmas.Reading.Forms.{HeadLaws}
use Rattle.cose_msg.proofs.lemmas.Reading.DefinitePhases.{MapLaws, message_is_definite, open_is_truncated, message_stands_inside}
use Rattle.cose_msg.proofs.laws.nothing_stands_after_the_bytes.Goals as goal

pub returns : goal.returns
returns c =
    let laws : HeadLaws = record {
      faults = head_definite c.bare_head_is_spelling.ensures.reasons;
      spelled = c.bare_head_is_spelling.ensures.spelled;
      head_stays = c.bare_head_is_spelling.ensures.stays;
      read_stays = c.read_stays.ensures.stays;
      steps = c.read_steps.ensures.steps;
    } in
    let maps : MapLaws = record {
      bucket_inside = c.refusals_stand_inside.ensures.bucket;
      bucket_ends = c.refusals_stand_inside.ensures.pairs;
      pair_inside = c.refusals_stand_inside.ensures.two_buckets;
      bucket_definite = c.refusals_are_not_truncated.ensures.bucket;
      pair_definite = c.refusals_are_not_truncated.ensures.two_buckets;
      choice_definite = c.refusals_are_not_truncated.ensures.choice;
    } in
    record { fair = all_are_fair maps.choice_definite; definite = message_is_definite laws maps; unsettled = open_is_truncated laws maps; inside = message_stands_inside laws maps }
