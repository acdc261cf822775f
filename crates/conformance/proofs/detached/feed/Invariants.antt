use Rattle.std.proofs.Common.{◌≡◌, false}
use Rattle.cose_msg.specs.Kept.{is_inspecting}
use Rattle.conformance.proofs.detached.feed.Given as goal

abbrev pub invariant-pieces : goal.invariant-pieces
invariant-pieces g l = is_inspecting l.verifier ≡ false
