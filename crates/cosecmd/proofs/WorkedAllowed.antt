-- Which keys `--algs` and `--least-secret` allow, on examples, by computing; and that without them all usable keys are allowed.
use Rattle.std.proofs.Common.{◌≡◌, ℕ, true, List, [], ◌∷◌, Some, None, Ok, Err, refl, ap, length, map, codes}
use Rattle.std.specs.Prelude.{negsuc, pos}
use Rattle.std.proofs.Math.Dec.{leb-zero}
use Rattle.cose_map.specs.Key.Value.{KeyValue, MaterialValue, symmetric, elliptic}
use Rattle.cose_map.specs.KeySet.{keys_of}
use Rattle.cose_map.specs.KeyTable.{table_of}
use Rattle.cose_map.specs.Map.Read.{Read}
use Rattle.cose_map.specs.Restrictions.{allowed_in, allowed_of, allows_material}
use Rattle.cosecmd.specs.Allowed.{algorithms_listed, restrictions_in}
use Rattle.cose_answers.specs.Allowed.{restricted, unrestricted}
use Rattle.cose_answers.specs.Limits.{Room}
use Rattle.cose_answers.specs.Under.{program_keys}
use Rattle.cosecmd.proofs.WorkedOptions.{given, number}

-- ---- lists of algorithms

signs_and_zeros : algorithms_listed (codes "-7,4,+005,-007") ≡ Some (negsuc 6 ∷ pos 4 ∷ pos 5 ∷ negsuc 6 ∷ [])
signs_and_zeros = refl

all_algorithms : algorithms_listed (codes "4,5,6,7,-7,-35,-36,-9,-51,-52") ≡
    Some (pos 4 ∷ pos 5 ∷ pos 6 ∷ pos 7 ∷ negsuc 6 ∷ negsuc 34 ∷ negsuc 35 ∷ negsuc 8 ∷ negsuc 50 ∷ negsuc 51 ∷ [])
all_algorithms = refl

-- An empty list, an empty part, something else than digits after a sign, and a number that no algorithm has.
no_lists : map algorithms_listed (codes "" ∷ codes "," ∷ codes "5," ∷ codes ",5" ∷ codes "5,,7" ∷ codes "5, 7" ∷ codes "5;7" ∷ codes "-" ∷ codes "--7" ∷ codes "+-7" ∷ codes "5.0" ∷ codes "0x5"
    ∷ codes "HS256" ∷ codes "5,8" ∷ codes "3" ∷ codes "-8" ∷ codes "0" ∷ codes "261" ∷ codes "18446744073709551621" ∷ [])
    ≡ None ∷ None ∷ None ∷ None ∷ None ∷ None ∷ None ∷ None ∷ None ∷ None ∷ None ∷ None ∷ None ∷ None ∷ None ∷ None ∷ None ∷ None ∷ None ∷ []
no_lists = refl

-- ---- both options

neither : restrictions_in [] ≡ Some unrestricted
neither = refl

both : restrictions_in (given (codes "algs") (codes "5") ∷ number (codes "least-secret") (codes "032") ∷ []) ≡ Some (restricted 32 (Some (pos 5 ∷ [])))
both = refl

secrets_alone : restrictions_in (number (codes "least-secret") (codes "32") ∷ []) ≡ Some (restricted 32 None)
secrets_alone = refl

no_list : restrictions_in (given (codes "algs") (codes "5,") ∷ []) ≡ None
no_list = refl

-- ---- without them

any_material : (material : MaterialValue) → allows_material 0 material ≡ true
any_material (symmetric secret) = leb-zero (length secret)
any_material (elliptic curve x y) = refl

all_allowed : (keys : List KeyValue) → allowed_of unrestricted keys ≡ keys
all_allowed [] = refl
all_allowed (key ∷ keys) = rw (any_material key.material) (ap (λ (rest : List KeyValue). key ∷ rest) (all_allowed keys))

all_in : (read : Read (List KeyValue)) → allowed_in unrestricted read ≡ read
all_in (Ok keys) = ap Ok (all_allowed keys)
all_in (Err refusal) = refl

unrestricted_keys : (room : Room) (bytes : List ℕ) → program_keys room unrestricted bytes ≡ table_of room.keys (keys_of bytes)
unrestricted_keys room bytes = ap (table_of room.keys) (all_in (keys_of bytes))
