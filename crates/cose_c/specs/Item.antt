-- What a caller gets of a data item (RFC 8949 section 3) of a payload.
use Rattle.std.specs.Prelude.{◌≡◌, ℕ, ◌+◌, List, length, drop, Option, Some, None, Ok, Err, option_and_then}
use Rattle.cose_head.specs.declared.head.Head.{Head}
use Rattle.cose_head.specs.Placed.{Placed, head_of_item}
use Rattle.cose_map.specs.Label.{LabelValue, words_of}
use Rattle.cose_map.specs.Map.Pairs.{value_of}
use Rattle.cose_map.specs.Map.Read.{Read}
use Rattle.cose_cwt.specs.Claims.{ClaimsValue}
use Rattle.cose_c.specs.declared.item.CoseItem.{CoseItem}
use Rattle.cose_c.specs.CoseClaims.{first_in}
use Rattle.cose_c.specs.Message.{Covers}

abbrev pub no_item : CoseItem
no_item = record { at = 0; length = 0; content_at = 0; number = 0; present = 0; major = 0 }

-- Its place, the number of its bytes, and what its head says (section 3): the major type, the argument, and where the head ends.
abbrev pub item_with : Head → Placed → CoseItem
item_with head item = record {
  at = item.place;
  length = length item.bytes;
  content_at = item.place + head.width;
  number = head.arg;
  present = 1;
  major = head.major;
}

abbrev pub item_numbers : Option Placed → CoseItem
item_numbers None = no_item
item_numbers (Some item) = item_with (head_of_item item) item

-- The claim of a label (RFC 8392 section 3), of claims that were read.
abbrev pub claim_in : LabelValue → Read ClaimsValue → Option Placed
claim_in label (Ok claims) = value_of label claims.pairs
claim_in label (Err refusal) = None

-- The same of a label that is a text string (RFC 8949 section 3.1: in UTF-8).
abbrev pub claim_named : List ℕ → Read ClaimsValue → Option Placed
claim_named name claims = option_and_then (λ label. claim_in label claims) (words_of name)

-- The item that the bytes from a place on begin with.
abbrev pub item_at : List ℕ → ℕ → Option Placed
item_at payload place = first_in (record { bytes = drop place payload; place = place })

-- The range of an item in the payload has the bytes of the item.
abbrev pub HoldsItem : List ℕ → Option Placed → CoseItem → Type 0
HoldsItem payload (Some item) numbers = Covers payload item.bytes numbers.at numbers.length
HoldsItem payload None numbers = numbers ≡ no_item
