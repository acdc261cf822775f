use Rattle.cose_head.proofs.lemmas.Reasons.{item_reason}
use Rattle.cose_head.proofs.lemmas.Reading.ReadMoves.{read_moves}
use Rattle.cose_head.proofs.lemmas.Reading.ReadSteps.{read_steps}
use Rattle.cose_head.proofs.lemmas.Reading.ReadLaws.{adds_up, truncated_has_room}
use Rattle.cose_head.proofs.laws.read_steps.Goals as goal

pub returns-clause-steps : goal.returns-clause-steps
returns-clause-steps c = read_steps

pub returns-clause-adds_up : goal.returns-clause-adds_up
returns-clause-adds_up c = adds_up

pub returns-clause-truncated : goal.returns-clause-truncated
returns-clause-truncated c = truncated_has_room

pub returns-clause-reasons : goal.returns-clause-reasons
returns-clause-reasons c = item_reason

pub returns-clause-moves : goal.returns-clause-moves
returns-clause-moves c = read_moves
