use Rattle.cose_msg.specs.Elsewhere.{VerdictIsInstance}
use Rattle.cose_msg.proofs.lemmas.Deciding.StatedElsewhere.{decided_before, other_mac_is_refused, stated_answer_is_verdict, stated_mac_is_verdict, verdict_is_instance}
use Rattle.cose_msg.proofs.laws.authentication_is_stated.Goals as goal

pub returns : goal.returns
returns c =
    let instance : VerdictIsInstance = verdict_is_instance c.deciding_goes_last.ensures.comparing c.deciding_goes_last.ensures.verifying in
    record {
      instance = instance;
      mac = stated_mac_is_verdict instance;
      answer = stated_answer_is_verdict instance;
      other = other_mac_is_refused;
      before = decided_before instance;
    }
