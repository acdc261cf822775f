-- The tables of RFC 9053 (section 2.1, table 1, and section 3.1, table 3) and RFC 9864 (section 2.1, table 1), row by row, by
-- computing.
use Rattle.std.proofs.Common.{◌≡◌, pos, negsuc, true, false, [], ◌∷◌, Some, None, map, replicate, ◌++◌, refl}
use Rattle.cose_head.specs.declared.kind.Kind.TheVariants.{Mac0, Sign1}
use Rattle.cose_head.specs.declared.algorithm.Hash.TheVariants.{Sha256, Sha384, Sha512}
use Rattle.cose_head.specs.declared.algorithm.KeyType.TheVariants.{Symmetric, Elliptic}
use Rattle.cose_head.specs.declared.algorithm.Alg.TheVariants.{Hmac64, Hmac256, Hmac384, Hmac512, Es256, Es384, Es512, Esp256, Esp384, Esp512}
use Rattle.cose_head.specs.Algorithm.{row, row_of, is_mac_of, algorithms, algorithm_numbered}

all_rows : map row_of algorithms ≡
    row (pos 4) Mac0 Symmetric Sha256 8 ∷
    row (pos 5) Mac0 Symmetric Sha256 32 ∷
    row (pos 6) Mac0 Symmetric Sha384 48 ∷
    row (pos 7) Mac0 Symmetric Sha512 64 ∷
    row (negsuc 6) Sign1 (Elliptic 1) Sha256 64 ∷
    row (negsuc 34) Sign1 (Elliptic 2) Sha384 96 ∷
    row (negsuc 35) Sign1 (Elliptic 3) Sha512 132 ∷
    row (negsuc 8) Sign1 (Elliptic 1) Sha256 64 ∷
    row (negsuc 50) Sign1 (Elliptic 2) Sha384 96 ∷
    row (negsuc 51) Sign1 (Elliptic 3) Sha512 132 ∷ []
all_rows = refl

macs : map is_mac_of algorithms ≡ replicate 4 true ++ replicate 6 false
macs = refl

by_number : map algorithm_numbered (pos 4 ∷ pos 5 ∷ pos 6 ∷ pos 7 ∷ negsuc 6 ∷ negsuc 34 ∷ negsuc 35 ∷ negsuc 8 ∷ negsuc 50 ∷ negsuc 51 ∷ []) ≡
    Some Hmac64 ∷ Some Hmac256 ∷ Some Hmac384 ∷ Some Hmac512 ∷ Some Es256 ∷ Some Es384 ∷ Some Es512 ∷ Some Esp256 ∷ Some Esp384 ∷ Some Esp512 ∷ []
by_number = refl

-- the numbers next to these, the same numbers with the other sign, and EdDSA (-8)
by_no_other_number : map algorithm_numbered (pos 3 ∷ pos 8 ∷ pos 35 ∷ pos 36 ∷ pos 9 ∷ pos 51 ∷ pos 52 ∷ negsuc 3 ∷ negsuc 4 ∷ negsuc 5 ∷ negsuc 7 ∷ negsuc 9 ∷ negsuc 33 ∷ negsuc 36 ∷ negsuc 49 ∷ negsuc 52 ∷ []) ≡
    replicate 16 None
by_no_other_number = refl

-- numbers that equal 5 or -7 in the low 8, 16, 32 or 64 bits
by_no_number_alike : map algorithm_numbered (pos 261 ∷ pos 65541 ∷ pos 4294967301 ∷ negsuc 250 ∷ negsuc 262 ∷ negsuc 65542 ∷ negsuc 4294967302 ∷ pos 249 ∷ pos 18446744073709551609 ∷ []) ≡
    replicate 9 None
by_no_number_alike = refl
