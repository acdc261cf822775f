use Rattle.std.proofs.Common.{◌+◌, length}
use Rattle.cose_answers.proofs.lemmas.Payloads.WrittenPieces.{Written}
use Rattle.cose_answers.proofs.output.write_bytes.Given as goal

abbrev pub invariant-bytes : goal.invariant-bytes
invariant-bytes g l = Written l.fn.bytes (g.W.Write.contents l.initial.output) (g.W.Write.contents l.output) l.rest

abbrev pub decreases-bytes : goal.decreases-bytes
decreases-bytes g l = length l.rest + l.interruptions_left
