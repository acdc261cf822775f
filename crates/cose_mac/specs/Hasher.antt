-- The contents of a hasher.
use Rattle.std.specs.Prelude.{ℕ, Bool, true, false, List}
use Rattle.sha2.specs.Hashers.{Holds256, Holds384, Holds512}
use Rattle.cose_head.specs.declared.algorithm.Hash.{Hash}
use Rattle.cose_head.specs.declared.algorithm.Hash.TheVariants.{Sha256, Sha384, Sha512}
use Rattle.cose_mac.specs.declared.hasher.Hasher.{Hasher}
use Rattle.cose_mac.specs.declared.hasher.Hasher.TheVariants as Hashers

-- The hasher is one of this hash function, and was fed this message.
abbrev pub Holds : Hash → Hasher → List ℕ → Type 0
Holds Sha256 (Hashers.Sha256 hasher) message = Holds256 hasher message
Holds Sha384 (Hashers.Sha384 hasher) message = Holds384 hasher message
Holds Sha512 (Hashers.Sha512 hasher) message = Holds512 hasher message
Holds _ _ _ = ⊥

-- Whether it is one of this hash function.
abbrev pub is_of : Hash → Hasher → Bool
is_of Sha256 (Hashers.Sha256 hasher) = true
is_of Sha384 (Hashers.Sha384 hasher) = true
is_of Sha512 (Hashers.Sha512 hasher) = true
is_of _ _ = false
