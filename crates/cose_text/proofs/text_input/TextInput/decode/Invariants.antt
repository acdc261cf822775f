use Rattle.std.proofs.Common.{◌≡◌, ◌≤◌, ◌++◌, length, take}
use Rattle.cose_text.specs.TextInput.{bytes_from}
use Rattle.cose_text.proofs.TextInputs.{InPlace}
use Rattle.cose_text.proofs.text_input.TextInput.decode.Given as goal

abbrev pub invariant-bytes : goal.invariant-bytes
invariant-bytes g l =
    (l.decoded ≤ l.at)
    × (length l.buffer ≡ length l.initial.buffer)
    × (l.self.reader ≡ l.initial.self.reader)
    × InPlace (λ rest. bytes_from l.initial.self.next (take l.count l.initial.buffer ++ rest)) l.self.next l.count l.at l.decoded l.buffer
