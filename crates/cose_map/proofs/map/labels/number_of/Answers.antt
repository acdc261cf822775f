use Rattle.std.proofs.Common.{◌≡◌, ◌∙◌, ◌^◌, false, arith}
use Rattle.std.specs.Prelude.{nat_lt}
use Rattle.std.proofs.lemmas.Bool.Decides.{nat_tests}
use Rattle.cose_map.proofs.lemmas.Map.Labels.Key.{too_large}
use Rattle.cose_map.proofs.map.labels.number_of.Goals as goal

pub returns-then-number-clause-value : goal.returns-then-number-clause-value
returns-then-number-clause-value c =
    let large : nat_lt c.bytes.number (2 ^ 104) ≡ false = grind (arith, nat_tests, c.if-number.true) in
    too_large c.bytes.number c.bytes.byte-index c.args.text.now c.bytes-test.true large ∙ c.bytes.invariant.onward
