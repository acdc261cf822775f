-- What the worked examples of messages share: keys, contexts, and the beginning of a message.
use Rattle.std.specs.Prelude.{◌≡◌, ℕ, zero, suc, ◌+◌, ◌-◌, ◌*◌, ℤ, pos, not, ◌==◌, nat_lt, if◌then◌else◌, List, [], ◌∷◌, map, filter, replicate, codes, true, false, Option, None, Some}
use Prim.Native.String.{String}
use Rattle.std.specs.Str.{is_utf8, chars}
use Rattle.cose_head.specs.Head.{bare_head}
use Rattle.cose_head.specs.Item.{depth_of}
use Rattle.cose_head.specs.Open.{open_in}
use Rattle.cose_head.specs.Reading.{read, head}
use Rattle.cose_head.specs.Placed.{look, children_of, items_from, head_of_item}
use Rattle.cose_map.specs.Bucket.{bucket_of}
use Rattle.cose_map.specs.Bucket.Form.{bucket_table}
use Rattle.cose_map.specs.Choice.{chosen}
use Rattle.cose_map.specs.Key.Value.{KeyValue, symmetric, elliptic, coordinate}
use Rattle.cose_map.specs.Label.{LabelValue, number}
use Rattle.cose_map.specs.Map.Pairs.{Pair}
use Rattle.cose_map.specs.Map.Read.{check_pairs}
use Rattle.cose_map.specs.Bucket.Both.{pair_faults}
use Rattle.cose_msg.specs.declared.context.Wanted.TheVariants as wants
use Rattle.cose_msg.specs.Answer.{Answer}
use Rattle.cose_msg.specs.Reading.{Reading, with_head, with_string, with_item}
use Rattle.cose_msg.specs.Message.{Setting, Decides, message, verifying}
use Rattle.cose_msg.specs.Rules.{Rules}
use Rattle.cose_msg.specs.Source.{attached}

-- Bytes in hexadecimal. Spaces are skipped.
abbrev digit : ℕ → ℕ
digit code = if nat_lt code 0x61 then code - 0x30 else code - 0x57

abbrev bytes_of : List ℕ → List ℕ
bytes_of [] = []
bytes_of (high ∷ []) = []
bytes_of (high ∷ low ∷ others) = (16 * digit high + digit low) ∷ bytes_of others

abbrev pub hex : String → List ℕ
hex text = bytes_of (filter (λ code. not (code == 0x20)) (codes text))

-- This many bytes, whatever they are.
abbrev pub any : (ℕ → ℕ) → ℕ → List ℕ
any byte zero = []
any byte (suc n) = byte n ∷ any byte n

-- A table: bytes, and the answer for them.
abbrev pub Gives : {A : Type 0} → (List ℕ → A) → List (List ℕ × A) → Type 0
Gives f rows = map (λ row. f row.0) rows ≡ map (λ row. row.1) rows

-- The answer for all bytes of a message.
unfoldable pub reading : Rules → List ℕ → Reading
unfolding message with_head with_string with_item bucket_of bucket_table check_pairs pair_faults chosen children_of items_from look head_of_item bare_head read head open_in depth_of is_utf8 chars lib.Utf8.encode
reading rules bytes = message rules bytes

-- The `EcVerifier` refuses every signature, no external data are supplied, and no further label is understood.
abbrev pub never : Decides
never key digest signature = false

abbrev pub under : List KeyValue → Setting
under keys = record { keys = keys; aad = []; wanted = wants.Tagged; cwt = true; understood = []; payload_limit = 0xffffffffffffff; source = attached; elsewhere = false }

-- The verdict with room for 1024 bytes in each header bucket, and a nesting of 4.
abbrev pub verdict_in : Setting → List ℕ → Answer
verdict_in setting bytes = (reading (verifying 1024 4 setting never) bytes).answer

abbrev pub verdict : List KeyValue → List ℕ → Answer
verdict keys bytes = verdict_in (under keys) bytes

-- A symmetric key, the bytes of 'Jefe'. It may name an identifier, an algorithm and operations.
abbrev pub jefe : List ℕ
jefe = hex "4a656665"

abbrev pub secret : Option (List ℕ) → Option LabelValue → Option (List ℤ) → KeyValue
secret kid alg operations = record { kid = kid; alg = alg; operations = operations; material = symmetric jefe }

abbrev pub plain : List KeyValue
plain = secret None None None ∷ []

-- The same for HMAC 256/256 alone.
abbrev pub for_five : List KeyValue
for_five = secret None (Some (number (pos 5))) None ∷ []

-- A point of P-256, any one, which may name operations.
abbrev pub point : Option (List ℤ) → KeyValue
point operations = record { kid = None; alg = None; operations = operations; material = elliptic 1 (replicate 32 7) (coordinate (replicate 32 8)) }

-- A point on another curve, by the curve's number and the number of bytes of a coordinate.
abbrev pub point_on : ℕ → ℕ → KeyValue
point_on curve size = record { kid = None; alg = None; operations = None; material = elliptic curve (replicate size 7) (coordinate (replicate size 8)) }

-- The pair of an algorithm: its label is at this place, and its value after that.
abbrev pub algorithm_at : ℕ → ℕ → Pair
algorithm_at place value = record {
  name = number (pos 1);
  label = record { bytes = 1 ∷ []; place = place };
  value = record { bytes = value ∷ []; place = place + 1 };
}

-- In a protected bucket of this pair alone.
abbrev pub algorithm : ℕ → Pair
algorithm value = algorithm_at 4 value
