use Rattle.cose_answers.proofs.lemmas.Payloads.WrittenPieces.{more_written}
use Rattle.cose_answers.proofs.write_sink.WriteSinkSink.put.Goals as goal

pub bytes-preserved : goal.bytes-preserved
bytes-preserved g c = (
  more_written _ c.in-Ok.count _ c.bytes.invariant.0 c.in-Ok.ensures.bytes c.split_at.ensures.back,
  c.bytes.invariant.1,
  c.bytes.invariant.2,
)
