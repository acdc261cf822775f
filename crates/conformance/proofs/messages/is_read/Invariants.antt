use Rattle.std.proofs.Common.{◌≡◌, false}
use Rattle.cose_msg.specs.Kept.{is_inspecting}
use Rattle.cose_msg.specs.Verifier.{is_detached}
use Rattle.conformance.proofs.messages.is_read.Given as goal

abbrev pub invariant-prefixes : goal.invariant-prefixes
invariant-prefixes g l = (is_inspecting l.verifier ≡ false) × (is_detached l.verifier ≡ false)
