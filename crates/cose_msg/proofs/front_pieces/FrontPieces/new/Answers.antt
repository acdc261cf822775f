use Rattle.cose_msg.proofs.lemmas.Fronts.{pieces_completed, pieces_joined}
use Rattle.cose_msg.proofs.front_pieces.FrontPieces.new.Goals as goal

pub returns-clause-joined : goal.returns-clause-joined
returns-clause-joined c = rw (c.context.ensures, c.write_head.ensures, c.write_head-2.ensures, c.write_head-3.ensures) (pieces_joined c.args.kind c.args.protected.now c.args.aad.now c.args.payload_length)

pub returns-clause-completes : goal.returns-clause-completes
returns-clause-completes c = λ payload count. rw (c.context.ensures, c.write_head.ensures, c.write_head-2.ensures, c.write_head-3.ensures) (pieces_completed c.args.kind c.args.protected.now c.args.aad.now payload c.args.payload_length count)
