use Rattle.std.proofs.Common.{true, List, [], ◌∷◌, refl}
use Rattle.std.specs.Prelude.{ℤ, pos}
use Rattle.cose_c.proofs.Permitting.{each}
use Rattle.cose_c.proofs.permitted.everything.Goals as goal

abbrev zeros : List ℤ
zeros = pos 0 ∷ pos 0 ∷ pos 0 ∷ pos 0 ∷ pos 0 ∷ pos 0 ∷ pos 0 ∷ pos 0 ∷ pos 0 ∷ pos 0 ∷ pos 0 ∷ pos 0 ∷ pos 0 ∷ pos 0 ∷ pos 0 ∷ pos 0 ∷ []

pub returns : goal.returns
returns c = λ key. each (record { algorithms = zeros; least_secret = 0; short_mac = true; without_alg = true }) refl refl refl refl key
