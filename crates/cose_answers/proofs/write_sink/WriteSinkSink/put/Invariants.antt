use Rattle.std.proofs.Common.{◌≡◌, length}
use Rattle.cose_answers.proofs.lemmas.Payloads.WrittenPieces.{Written}
use Rattle.cose_answers.proofs.write_sink.WriteSinkSink.put.Given as goal

abbrev pub invariant-bytes : goal.invariant-bytes
invariant-bytes g l =
    Written l.fn.piece (g.W.Write.contents l.initial.self.writer.now) (g.W.Write.contents l.self.writer.now) l.rest
    × (l.self.writer.ghost_name ≡ l.initial.self.writer.ghost_name)
    × (l.self.failed ≡ l.initial.self.failed)

abbrev pub decreases-bytes : goal.decreases-bytes
decreases-bytes g l = length l.rest
