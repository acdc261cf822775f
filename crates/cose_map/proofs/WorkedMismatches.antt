-- Why a key doesn't fit on examples, by computing: each condition alone, and the first where several fail.
use Rattle.std.proofs.Common.{◌≡◌, ℕ, ℤ, pos, negsuc, true, List, [], ◌∷◌, Option, Some, None, refl}
use Rattle.cose_head.specs.declared.kind.Kind.TheVariants.{Mac0, Sign1}
use Rattle.cose_map.specs.declared.choice.mismatch.Mismatch.{Mismatch}
use Rattle.cose_map.specs.declared.choice.mismatch.Mismatch.TheVariants.{Algorithm, KeyType, Curve, Operation, Identifier}
use Rattle.cose_map.specs.Choice.{Question}
use Rattle.cose_map.specs.Choice.Mismatch.{failed, mismatch}
use Rattle.cose_map.specs.Key.Value.{KeyValue, MaterialValue, symmetric, elliptic, sign}
use Rattle.cose_map.specs.Label.{LabelValue, number, words}

abbrev key_of : Option (List ℕ) → Option LabelValue → Option (List ℤ) → MaterialValue → KeyValue
key_of kid alg operations material = record { kid = kid; alg = alg; operations = operations; material = material }

abbrev secret : MaterialValue
secret = symmetric (0x4a ∷ [])

abbrev point : ℕ → MaterialValue
point curve = elliptic curve (7 ∷ []) (sign true)

-- A COSE_Mac0 that names algorithms in its buckets, and maybe a key; and a COSE_Sign1 under ES256 (-7).
abbrev asks : Option LabelValue → Option LabelValue → Option (List ℕ) → Question
asks protected unprotected kid = record { kind = Mac0; operation = pos 10; protected_alg = protected; unprotected_alg = unprotected; kid = kid }

abbrev five : Option LabelValue
five = Some (number (pos 5))

abbrev one : Option (List ℕ)
one = Some (0x31 ∷ [])

abbrev two : Option (List ℕ)
two = Some (0x32 ∷ [])

abbrev signed : Question
signed = record { kind = Sign1; operation = pos 2; protected_alg = Some (number (negsuc 6)); unprotected_alg = None; kid = one }

unfoldable first : Question → KeyValue → Option Mismatch
unfolding mismatch
first q key = mismatch q key

-- Each condition alone.
fitting_key : first (asks five None one) (key_of one five (Some (pos 9 ∷ pos 10 ∷ [])) secret) ≡ None
unfolding first
fitting_key = refl

plain_key : first (asks five None one) (key_of None None None secret) ≡ None
unfolding first
plain_key = refl

another_algorithm : first (asks five None one) (key_of one (Some (number (pos 6))) None secret) ≡ Some Algorithm
unfolding first
another_algorithm = refl

another_type : first (asks five None one) (key_of one None None (point 1)) ≡ Some KeyType
unfolding first
another_type = refl

another_curve : first signed (key_of one None None (point 2)) ≡ Some Curve
unfolding first
another_curve = refl

its_curve : first signed (key_of one None None (point 1)) ≡ None
unfolding first
its_curve = refl

a_secret_for_signatures : first signed (key_of one None None secret) ≡ Some KeyType
unfolding first
a_secret_for_signatures = refl

another_operation : first (asks five None one) (key_of one None (Some (pos 9 ∷ [])) secret) ≡ Some Operation
unfolding first
another_operation = refl

another_identifier : first (asks five None one) (key_of two None None secret) ≡ Some Identifier
unfolding first
another_identifier = refl

-- The algorithm that is used: an unprotected one has to be the key's own, and without either it is the key's own.
confirmed : first (asks None five None) (key_of None five None secret) ≡ None
unfolding first
confirmed = refl

unconfirmed : first (asks None five None) (key_of None None None secret) ≡ Some Algorithm
unfolding first
unconfirmed = refl

its_own : first (asks None None None) (key_of None five None secret) ≡ None
unfolding first
its_own = refl

its_own_of_another_kind : first (asks None None None) (key_of None (Some (number (negsuc 6))) None (point 1)) ≡ Some Algorithm
unfolding first
its_own_of_another_kind = refl

no_own : first (asks None None None) (key_of None None None secret) ≡ Some Algorithm
unfolding first
no_own = refl

-- An algorithm that isn't known for the kind, also where the key names the same.
unknown_algorithm : first (asks (Some (number (pos 3))) None None) (key_of None (Some (number (pos 3))) None secret) ≡ Some Algorithm
unfolding first
unknown_algorithm = refl

a_text : first (asks (Some (words (0x35 ∷ []))) None None) (key_of None (Some (words (0x35 ∷ []))) None secret) ≡ Some Algorithm
unfolding first
a_text = refl

-- All that fail, in their order. Of a secret no curve is required, and without an algorithm nothing of the material.
abbrev creates : Option (List ℤ)
creates = Some (pos 9 ∷ [])

all_of_a_secret : failed signed (key_of two five creates secret) ≡ Algorithm ∷ Operation ∷ Identifier ∷ []
all_of_a_secret = refl

all_but_the_algorithm : failed signed (key_of two None creates secret) ≡ KeyType ∷ Operation ∷ Identifier ∷ []
all_but_the_algorithm = refl

from_the_curve_on : failed signed (key_of two None creates (point 3)) ≡ Curve ∷ Operation ∷ Identifier ∷ []
from_the_curve_on = refl

from_the_operation_on : failed signed (key_of two None creates (point 1)) ≡ Operation ∷ Identifier ∷ []
from_the_operation_on = refl
