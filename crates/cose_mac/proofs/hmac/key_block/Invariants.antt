use Rattle.std.proofs.Common.{◌≡◌, ◌-◌, ◌++◌, length, replicate}
use Rattle.cose_mac.proofs.hmac.key_block.Given as goal

abbrev pub invariant-zeros : goal.invariant-zeros
invariant-zeros l =
    l.block.items ≡ l.initial.block.items ++ replicate (l._i - length l.initial.block.items) 0
