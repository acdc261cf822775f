use Rattle.cose_answers.proofs.lemmas.Payloads.WrittenPieces.{more_written}
use Rattle.cose_answers.proofs.output.write_bytes.Goals as goal

pub bytes-preserved-in-Ok : goal.bytes-preserved-in-Ok
bytes-preserved-in-Ok g c = more_written _ c.in-Ok.count _ c.bytes.invariant c.in-Ok.ensures.bytes c.split_at.ensures.back
