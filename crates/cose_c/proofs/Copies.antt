-- Bytes that are copied where there is room for all of them.
use Rattle.std.proofs.Common.{◌≡◌, ℕ, ◌≤◌, List, length, take, ap, ◌∙◌, arith}
use Rattle.std.proofs.lemmas.Bool.Decides.{nat_tests}
use Rattle.std.proofs.Math.Seq.{take-length}
use Rattle.cose_c.specs.Input.{Gives, GivesWhole}

pub all_given : (bytes field : List ℕ) (room count : ℕ) → length bytes ≤ room → Gives bytes field room count → GivesWhole bytes field count
all_given bytes field room count fits gives =
    let counted : count ≡ length bytes = grind (arith, nat_tests, gives.counted) in
    record { counted = counted; copied = gives.copied ∙ ap (λ (n : ℕ). take n bytes) counted ∙ take-length bytes }
