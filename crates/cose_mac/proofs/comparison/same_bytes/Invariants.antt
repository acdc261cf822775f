use Rattle.std.proofs.Common.{◌≡◌, ◌&&◌, drop, bytes_eq}
use Rattle.cose_mac.proofs.comparison.same_bytes.Given as goal

abbrev pub invariant-bytes : goal.invariant-bytes
invariant-bytes l = (l.same && bytes_eq (drop l.i l.left) (drop l.i l.right)) ≡ bytes_eq l.left l.right
