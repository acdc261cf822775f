use Rattle.std.proofs.Common.{◌≡◌, take}
use Rattle.cose_mac.specs.Hmac.{xor_pad}
use Rattle.cose_mac.proofs.hmac.xor_pad.Given as goal

abbrev pub invariant-bytes : goal.invariant-bytes
invariant-bytes l = l.padded.items ≡ xor_pad (take l.byte-index l.block.items) l.pad
