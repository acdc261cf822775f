-- The count so far, and as many as come before a zero among the numbers that are left.
use Rattle.std.proofs.Common.{◌≡◌, ◌+◌, ◌≤◌, drop, length}
use Rattle.cose_c.specs.Stated.{count_before_zero}
use Rattle.cose_c.proofs.stated.count_before_zero.Given as goal

abbrev pub invariant-numbers : goal.invariant-numbers
invariant-numbers l =
    (l.count ≡ l.number-index) × (l.count ≤ length l.numbers) × (l.count + count_before_zero (drop l.number-index l.numbers) ≡ count_before_zero l.numbers)
