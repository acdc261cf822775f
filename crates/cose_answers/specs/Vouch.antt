-- What is vouched for.
use Rattle.std.specs.Prelude.{ℕ, Bool, true, false, List, [], ◌∷◌, ◌++◌, Option, Some, None}
use Rattle.std.specs.Str.{bytes_eq}
use Rattle.cose_map.specs.Key.Value.{MaterialValue, symmetric, elliptic, YValue, coordinate, sign}
use Rattle.cose_msg.specs.Message.{Decides}
use Rattle.cose_msg.specs.Shown.{SignInput}

-- The coordinate y: its bytes, or one byte for its sign.
abbrev pub sign_byte : Bool → ℕ
sign_byte true = 1
sign_byte false = 0

abbrev pub vouched_y : YValue → List ℕ
vouched_y (coordinate y) = y
vouched_y (sign s) = sign_byte s ∷ []

-- The argument of `--vouch` for a signature: the curve of the key, the digest, the signature, x and y.
abbrev pub word_for : ℕ → List ℕ → YValue → List ℕ → List ℕ → List ℕ
word_for curve x y digest signature = (curve ∷ []) ++ digest ++ signature ++ x ++ vouched_y y

-- An argument of `--vouch` vouches for the signature whose argument it is, and for no other; without one none is
-- vouched for.
abbrev pub vouches : List ℕ → MaterialValue → List ℕ → List ℕ → Bool
vouches word (symmetric secret) digest signature = false
vouches word (elliptic curve x y) digest signature = bytes_eq word (word_for curve x y digest signature)

abbrev pub vouching : Option (List ℕ) → Decides
vouching None key digest signature = false
vouching (Some word) key digest signature = vouches word key.material digest signature

-- The argument of `--vouch` for what a signature is verified with, no matter who verified it. No signature is verified
-- with a symmetric key.
abbrev pub word_under : MaterialValue → List ℕ → List ℕ → List ℕ
word_under (symmetric secret) digest signature = []
word_under (elliptic curve x y) digest signature = word_for curve x y digest signature

abbrev pub vouch_word : SignInput → List ℕ
vouch_word input = word_under input.key.material input.digest input.signature

-- Whether what was left of an argument is this.
abbrev pub is_then : Option (List ℕ) → List ℕ → Bool
is_then (Some left) rest = bytes_eq left rest
is_then None rest = false
