-- Keys that are prepared for MACs.
use Rattle.std.proofs.Common.{◌≡◌, ℕ, List, Option, Some, true}
use Rattle.std.proofs.Math.Logic.{∥∥₁_elim}
use Rattle.std.proofs.lemmas.Slice.Eq.{bytes_eq-Decides}
use Rattle.std.specs.Option.{ForSome}
use Rattle.std.specs.Str.{bytes_eq}
use Rattle.cose_mac.proofs.PreparedKeys.{IsPrepared-prop}
use Rattle.cose_mac.specs.Prepared.{IsPrepared}
use Rattle.cose_mac.specs.declared.prepared.Prepared.{Prepared}

held : (place : Option Prepared) (prepared : Prepared) (secret : List ℕ) → ∥ ForSome place (λ other. IsPrepared other secret) ∥₁
    → place ≡ Some prepared → IsPrepared prepared secret
held place prepared secret ready is =
    let opened : ForSome place (λ other. IsPrepared other secret) → IsPrepared prepared secret = λ facts. facts prepared is in
    ∥∥₁_elim ready (IsPrepared-prop prepared secret) opened

-- What is prepared for the secret of a place is prepared for an equal one.
pub prepared_for_equal : (place : Option Prepared) (prepared : Prepared) (secret asked : List ℕ)
    → ∥ ForSome place (λ other. IsPrepared other secret) ∥₁ → place ≡ Some prepared → bytes_eq secret asked ≡ true → IsPrepared prepared asked
prepared_for_equal place prepared secret asked ready is equal =
    let same : secret ≡ asked = (bytes_eq-Decides secret asked).0 equal in
    rw same at (held place prepared secret ready is)
