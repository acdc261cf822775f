-- The OKP key that is chosen is one of the list and fits, and no other one fits. Of each key x is as long as its curve says.
use Rattle.std.specs.Prelude.{◌≡◌, true, List, ◌∷◌, ◌++◌, length, None, Some, Ok, Err, option_and_then}
use Rattle.std.specs.List.{AllByRecursion, Contains, slice_get}
use Rattle.cose_head.specs.declared.further.FurtherAlg.{FurtherAlg}
use Rattle.cose_head.specs.declared.kind.Kind.TheVariants.{Sign1}
use Rattle.cose_head.specs.declared.reason.Reason.{Reason}
use Rattle.cose_head.specs.Further.{public_key_length_of, takes_curve}
use Rattle.cose_head.specs.Placed.{Placed}
use Rattle.cose_map.specs.Choice.{Question}
use Rattle.cose_map.specs.Choice.Further.{chosen, fits, fitting, further_with, place_of}
use Rattle.cose_map.specs.Key.Okp.{OkpValue, okp_of}
use Rattle.cose_map.specs.KeySet.Okp.{okp_keys_in}

-- What holds of each key that is chosen, and of its algorithm.
abbrev pub OfChosen : (Question → List OkpValue → OkpValue → FurtherAlg → Type 0) → Type 0
OfChosen fact = (q : Question) (keys : List OkpValue) (key : OkpValue) (alg : FurtherAlg) → chosen q keys ≡ Ok (key, alg) → fact q keys key alg

abbrev pub OkpKeyIsAmong : Type 0
OkpKeyIsAmong = OfChosen (λ q keys key alg. Contains keys key)

abbrev pub OkpKeyFits : Type 0
OkpKeyFits = OfChosen (λ q keys key alg. fits q key alg ≡ true)

-- The algorithm is the one that the message names, or the key, where the message names none.
abbrev pub FurtherIsNamed : Type 0
FurtherIsNamed = OfChosen (λ q keys key alg. further_with q key.alg ≡ Some alg)

-- It takes the key's curve.
abbrev pub FurtherTakesCurve : Type 0
FurtherTakesCurve = OfChosen (λ q keys key alg. takes_curve alg key.curve ≡ true)

-- The message is signed.
abbrev pub FurtherIsSigned : Type 0
FurtherIsSigned = OfChosen (λ q keys key alg. q.kind ≡ Sign1)

-- None of the keys before it or after it fits.
abbrev pub NoOtherOkpKeyFits : Type 0
NoOtherOkpKeyFits = (q : Question) (before after : List OkpValue) (key : OkpValue) (alg : FurtherAlg) → chosen q (before ++ key ∷ after) ≡ Ok (key, alg) →
    AllByRecursion (λ other. fitting q other ≡ None) (before ++ after)

-- It stands at the place that is given, and there is a place only where one is chosen.
abbrev pub OkpKeyStandsThere : Type 0
OkpKeyStandsThere = OfChosen (λ q keys key alg. option_and_then (slice_get keys) (place_of q keys) ≡ Some key)

abbrev pub NoPlaceOfNoOkpKey : Type 0
NoPlaceOfNoOkpKey = (q : Question) (keys : List OkpValue) (reason : Reason) → chosen q keys ≡ Err reason → place_of q keys ≡ None

abbrev pub HasFullX : OkpValue → Type 0
HasFullX key = length key.x ≡ public_key_length_of key.curve

abbrev pub OkpKeyIsFull : Type 0
OkpKeyIsFull = (p : Placed) (key : OkpValue) → okp_of p ≡ Ok key → HasFullX key

abbrev pub OkpKeysAreFull : Type 0
OkpKeysAreFull = (set : Placed) → AllByRecursion HasFullX (okp_keys_in set)
