-- Which algorithms a prepared key is prepared for, on examples, by computing.
use Rattle.std.proofs.Common.{◌≡◌, List, [], ◌∷◌, true, false, map, refl}
use Rattle.sha2.specs.declared.Sha256.{Sha256}
use Rattle.sha2.specs.declared.Sha512.{Sha512}
use Rattle.cose_head.specs.declared.algorithm.Alg.{Alg}
use Rattle.cose_head.specs.declared.algorithm.Alg.TheVariants.{Hmac64, Hmac256, Hmac384, Hmac512, Es256}
use Rattle.cose_mac.specs.Prepared.{serves}
use Rattle.cose_mac.specs.declared.hasher.Hasher.TheVariants as Hashers

unfoldable algorithms : List Alg
algorithms = Hmac64 ∷ Hmac256 ∷ Hmac384 ∷ Hmac512 ∷ Es256 ∷ []

-- HMAC 256/64 and 256/256 hash by SHA-256. ES256 does too, and makes no MAC.
by_sha256 : (inner outer : Sha256) → map (serves (record { inner = Hashers.Sha256 inner; outer = Hashers.Sha256 outer })) algorithms
    ≡ true ∷ true ∷ false ∷ false ∷ false ∷ []
unfolding algorithms
by_sha256 inner outer = refl

by_sha512 : (inner outer : Sha512) → map (serves (record { inner = Hashers.Sha512 inner; outer = Hashers.Sha512 outer })) algorithms
    ≡ false ∷ false ∷ false ∷ true ∷ false ∷ []
unfolding algorithms
by_sha512 inner outer = refl
