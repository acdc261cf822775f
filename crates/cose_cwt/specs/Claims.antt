-- The claims of a token (RFC 8392 section 3).
pub mod Known
pub mod Labels
pub mod Form
pub mod Audience
pub mod View
use Rattle.std.specs.Prelude.{ℕ, ℤ, Bool, true, false, List, [], ◌∷◌, Option, Some, None, Ok, nat_eq, if◌then◌else◌, option_map, option_and_then}
use Rattle.std.specs.List.{list_any}
use Rattle.cose_head.specs.declared.reason.Reason.TheVariants.{NestedCwt}
use Rattle.cose_head.specs.Placed.{Placed, look, integer_in, bytes_in, text_in, tag_in, is_an_array, children_of}
use Rattle.cose_head.specs.Whole.{whole}
use Rattle.cose_map.specs.Key.Value.{KeyValue}
use Rattle.cose_map.specs.Label.{LabelValue}
use Rattle.cose_map.specs.Map.Pairs.{Pair, value_of}
use Rattle.cose_map.specs.Map.Read.{Read, refuse, check_map, ◌>>=◌}
use Rattle.cose_cwt.specs.Claims.Form.{claims_table}
use Rattle.cose_cwt.specs.Claims.Labels.{iss, sub, aud, exp, nbf, iat, cti, cnf}
use Rattle.cose_cwt.specs.Confirmation.{CnfValue, confirmation_of}

-- The pairs of the claims, each known one in its form, and the confirmation.
pub record ClaimsValue : Type 0 where
  pub pairs : List Pair
  pub confirmation : Option CnfValue

-- A token in a token (RFC 8392 section 7): a tag of COSE (RFC 9052 section 2) or that of CWT, 61 (RFC 8392 section 6).
abbrev pub is_token_tag : ℕ → Bool
is_token_tag n = list_any (nat_eq n) (16 ∷ 17 ∷ 18 ∷ 61 ∷ 96 ∷ 97 ∷ 98 ∷ [])

abbrev pub is_token : Option (ℕ × Placed) → Bool
is_token None = false
is_token (Some found) = is_token_tag found.0

abbrev pub not_nested : Placed → Read Placed
not_nested item = if is_token (tag_in item) then refuse NestedCwt item else Ok item

abbrev pub some_confirmation : CnfValue → Read (Option CnfValue)
some_confirmation confirmation = Ok (Some confirmation)

abbrev pub confirmation_at : Option Placed → Read (Option CnfValue)
confirmation_at None = Ok None
confirmation_at (Some value) = confirmation_of value >>= some_confirmation

abbrev pub claims_with : List Pair → Option CnfValue → ClaimsValue
claims_with pairs confirmation = record { pairs = pairs; confirmation = confirmation }

-- The claims of an item: it must not be a token, it must be a map, then its pairs must have no fault, and last its
-- confirmation.
abbrev pub claims_at : Placed → Read ClaimsValue
claims_at item = do
  claims ← not_nested item
  pairs ← check_map claims_table claims
  confirmation ← confirmation_at (value_of cnf pairs)
  Ok (claims_with pairs confirmation)

-- The claims of a payload, exactly one item, or the first fault.
unfoldable pub claims_of : ℕ → Placed → Read ClaimsValue
claims_of depth payload = do
  item ← whole depth payload
  claims_at item

-- The getters of the claims (RFC 8392 section 3.1).
abbrev pub text_under : LabelValue → ClaimsValue → Option (List ℕ)
text_under name claims = option_and_then (λ value. text_in (look value)) (value_of name claims.pairs)

abbrev pub integer_under : LabelValue → ClaimsValue → Option ℤ
integer_under name claims = option_and_then (λ value. integer_in (look value)) (value_of name claims.pairs)

abbrev pub iss_of : ClaimsValue → Option (List ℕ)
iss_of claims = text_under iss claims

abbrev pub sub_of : ClaimsValue → Option (List ℕ)
sub_of claims = text_under sub claims

abbrev pub exp_of : ClaimsValue → Option ℤ
exp_of claims = integer_under exp claims

abbrev pub nbf_of : ClaimsValue → Option ℤ
nbf_of claims = integer_under nbf claims

abbrev pub iat_of : ClaimsValue → Option ℤ
iat_of claims = integer_under iat claims

-- The confirmation key (RFC 8747 section 3.2).
abbrev pub confirmed_key_of : ClaimsValue → Option KeyValue
confirmed_key_of claims = option_and_then (λ confirmation. confirmation.key) claims.confirmation

abbrev pub cti_of : ClaimsValue → Option (List ℕ)
cti_of claims = option_and_then (λ value. bytes_in (look value)) (value_of cti claims.pairs)

-- The text strings of an audience: the one that it is, or the elements. They end before an element that isn't a text
-- string, which an audience that was read doesn't have.
abbrev pub text_before : List (List ℕ) → Option (List ℕ) → List (List ℕ)
text_before others None = []
text_before others (Some text) = text ∷ others

unfoldable pub texts_from : List Placed → List (List ℕ)
texts_from [] = []
texts_from (element ∷ others) = text_before (texts_from others) (text_in (look element))

abbrev pub texts_of : Placed → List (List ℕ)
texts_of value = if is_an_array (look value) then texts_from (children_of value) else text_before [] (text_in (look value))

abbrev pub texts_at : Option Placed → List (List ℕ)
texts_at None = []
texts_at (Some value) = texts_of value

abbrev pub auds_of : ClaimsValue → List (List ℕ)
auds_of claims = texts_at (value_of aud claims.pairs)
