use Rattle.cose_head.proofs.lemmas.Reasons.{head_reason}
use Rattle.cose_head.proofs.lemmas.Head.HalfHead.{short_half, head_fits}
use Rattle.cose_head.proofs.lemmas.Head.BareHeads.{bare_sound, bare_complete, bare_stays, bare_wants, bare_ends}
use Rattle.cose_head.proofs.laws.bare_head_is_spelling.Goals as goal

pub returns-clause-spelled : goal.returns-clause-spelled
returns-clause-spelled c = λ bytes h used. (bare_sound bytes h used, bare_complete bytes h used)

pub returns-clause-stays : goal.returns-clause-stays
returns-clause-stays c = bare_stays

pub returns-clause-wants : goal.returns-clause-wants
returns-clause-wants c = bare_wants

pub returns-clause-ends : goal.returns-clause-ends
returns-clause-ends c = bare_ends

pub returns-clause-short : goal.returns-clause-short
returns-clause-short c = short_half

pub returns-clause-fits : goal.returns-clause-fits
returns-clause-fits c = head_fits

pub returns-clause-reasons : goal.returns-clause-reasons
returns-clause-reasons c = head_reason
