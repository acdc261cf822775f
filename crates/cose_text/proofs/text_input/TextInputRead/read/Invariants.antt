use Rattle.std.proofs.Common.{◌≡◌, length}
use Rattle.std.specs.Io.KnownBytes.{Keeps}
use Rattle.cose_text.specs.TextInput.{to_come}
use Rattle.cose_text.proofs.text_input.TextInputRead.read.Given as goal

abbrev pub invariant-reads : goal.invariant-reads
invariant-reads g l =
    (length l.buffer ≡ length l.initial.buffer)
    × Keeps (to_come l.initial.self.next (g.R.Read.remaining l.initial.self.reader)) (to_come l.self.next (g.R.Read.remaining l.self.reader))

abbrev pub decreases-reads : goal.decreases-reads
decreases-reads g l = l.reads_left
