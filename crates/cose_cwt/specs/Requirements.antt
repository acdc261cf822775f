-- What a caller requires of claims beyond their admission: claims that are present, an issuer, a subject, an audience, and limits
-- of the dates over whole numbers (RFC 8392 section 3.1).
pub mod View
use Rattle.std.specs.Prelude.{ℕ, ℤ, pos, ◌+ℤ◌, ◌-ℤ◌, int_le, Bool, true, false, ◌&&◌, List, [], ◌∷◌, ◌++◌, Option, Some, None, Result, Ok, Err, if◌then◌else◌, bytes_eq, codes, filter_map, find}
use Rattle.std.specs.List.{list_any}
use Rattle.cose_head.specs.Placed.{Placed, look, integer_in, text_in}
use Rattle.cose_map.specs.Label.{LabelValue}
use Rattle.cose_map.specs.Map.Pairs.{value_of}
use Rattle.cose_cwt.specs.declared.requirements.Claim.{Claim}
use Rattle.cose_cwt.specs.declared.requirements.Claim.TheVariants.{Iss, Sub, Aud, Exp, Nbf, Iat, Cti}
use Rattle.cose_cwt.specs.declared.requirements.Requirement.{Requirement}
use Rattle.cose_cwt.specs.declared.requirements.Requirement.TheVariants.{Present, Issuer, Subject, Audience, Lifetime, Age, Issued}
use Rattle.cose_cwt.specs.declared.requirements.Unmet.{Unmet}
use Rattle.cose_cwt.specs.Claims.{ClaimsValue, texts_of, iat_of}
use Rattle.cose_cwt.specs.Claims.Labels as labels

-- The current time, in seconds since 1970, and the seconds by which clocks may differ; then each requirement, if there is one.
pub record RequirementsValue : Type 0 where
  pub now : ℤ
  pub leeway : ℕ
  pub present : List Claim
  pub iss : Option (List ℕ)
  pub sub : Option (List ℕ)
  pub aud : Option (List ℕ)
  pub lifetime : Option ℕ
  pub age : Option ℕ
  pub issued : Bool

-- The registered claims, with their names and labels (RFC 8392 sections 3.1 and 4).
abbrev pub registered : List Claim
registered = Iss ∷ Sub ∷ Aud ∷ Exp ∷ Nbf ∷ Iat ∷ Cti ∷ []

abbrev pub name_of : Claim → List ℕ
name_of Iss = codes "iss"
name_of Sub = codes "sub"
name_of Aud = codes "aud"
name_of Exp = codes "exp"
name_of Nbf = codes "nbf"
name_of Iat = codes "iat"
name_of Cti = codes "cti"

-- The claim of a name, if there is one.
abbrev pub claim_named : List ℕ → Option Claim
claim_named name = find (λ claim. bytes_eq (name_of claim) name) registered

abbrev pub label_of : Claim → LabelValue
label_of Iss = labels.iss
label_of Sub = labels.sub
label_of Aud = labels.aud
label_of Exp = labels.exp
label_of Nbf = labels.nbf
label_of Iat = labels.iat
label_of Cti = labels.cti

-- The place is that of the claim's value. Where the claim is absent it is 0, the head of the map.
abbrev pub unmet_at : Requirement → ℕ → Unmet
unmet_at requirement place = record { requirement = requirement; place = place }

abbrev pub unless_met : Requirement → Bool → ℕ → List Unmet
unless_met requirement true place = []
unless_met requirement false place = unmet_at requirement place ∷ []

-- A rule for the value of a claim: one for a claim that has to be present, and one for a claim that may be absent.
abbrev pub required : Requirement → (Placed → Bool) → Option Placed → List Unmet
required requirement meets None = unmet_at requirement 0 ∷ []
required requirement meets (Some value) = unless_met requirement (meets value) value.place

abbrev pub where_present : Requirement → (Placed → Bool) → Option Placed → List Unmet
where_present requirement meets None = []
where_present requirement meets (Some value) = unless_met requirement (meets value) value.place

-- A rule that is stated with a value, if it is.
abbrev pub where_stated : {A : Type 0} → (A → List Unmet) → Option A → List Unmet
where_stated rule None = []
where_stated rule (Some stated) = rule stated

-- The required claims that are absent, in the order in which they are stated.
abbrev pub absent_at : Claim → Option Placed → Option Unmet
absent_at claim None = Some (unmet_at (Present claim) 0)
absent_at claim (Some value) = None

abbrev pub absent_of : List Claim → ClaimsValue → List Unmet
absent_of present claims = filter_map (λ claim. absent_at claim (value_of (label_of claim) claims.pairs)) present

-- The issuer and the subject are these text strings, and this one is among those of the audience.
abbrev pub is_same_text : List ℕ → Option (List ℕ) → Bool
is_same_text stated None = false
is_same_text stated (Some text) = bytes_eq text stated

abbrev pub is_text : List ℕ → Placed → Bool
is_text stated value = is_same_text stated (text_in (look value))

abbrev pub text_unmet : Requirement → Option (List ℕ) → Option Placed → List Unmet
text_unmet requirement stated value = where_stated (λ text. required requirement (is_text text) value) stated

abbrev pub names : List ℕ → Placed → Bool
names stated value = list_any (bytes_eq stated) (texts_of value)

abbrev pub audience_unmet : Option (List ℕ) → Option Placed → List Unmet
audience_unmet stated value = where_stated (λ text. required Audience (names text) value) stated

-- A rule for a date.
abbrev pub date_meets : (ℤ → Bool) → Option ℤ → Bool
date_meets meets None = false
date_meets meets (Some date) = meets date

abbrev pub is_date : (ℤ → Bool) → Placed → Bool
is_date meets value = date_meets meets (integer_in (look value))

-- The current time on a clock that is ahead by the leeway, and on one that is behind by it, and as many seconds later and earlier.
abbrev pub latest : RequirementsValue → ℕ → ℤ
latest r seconds = r.now +ℤ pos r.leeway +ℤ pos seconds

abbrev pub earliest : RequirementsValue → ℕ → ℤ
earliest r seconds = r.now -ℤ pos r.leeway -ℤ pos seconds

-- exp is at most as many seconds after iat, if iat is present.
abbrev pub lasts : ℕ → Option ℤ → ℤ → Bool
lasts seconds None exp = true
lasts seconds (Some iat) exp = int_le exp (iat +ℤ pos seconds)

-- exp is at most as many seconds after the current time too.
abbrev pub ends_within : RequirementsValue → Option ℤ → ℕ → ℤ → Bool
ends_within r iat seconds exp = int_le exp (latest r seconds) && lasts seconds iat exp

abbrev pub lifetime_unmet : RequirementsValue → Option ℤ → Option Placed → List Unmet
lifetime_unmet r iat exp = where_stated (λ seconds. required Lifetime (is_date (ends_within r iat seconds)) exp) r.lifetime

-- iat is at most as many seconds before the current time.
abbrev pub age_unmet : RequirementsValue → Option Placed → List Unmet
age_unmet r iat = where_stated (λ seconds. required Age (is_date (int_le (earliest r seconds))) iat) r.age

-- iat isn't after the current time.
abbrev pub is_issued : RequirementsValue → ℤ → Bool
is_issued r iat = int_le iat (latest r 0)

abbrev pub issued_unmet : RequirementsValue → Option Placed → List Unmet
issued_unmet r iat = if r.issued then where_present Issued (is_date (is_issued r)) iat else []

-- All that is unmet, in this order.
unfoldable pub unmet : RequirementsValue → ClaimsValue → List Unmet
unmet r claims =
    absent_of r.present claims
    ++ (text_unmet Issuer r.iss (value_of labels.iss claims.pairs)
    ++ (text_unmet Subject r.sub (value_of labels.sub claims.pairs)
    ++ (audience_unmet r.aud (value_of labels.aud claims.pairs)
    ++ (lifetime_unmet r (iat_of claims) (value_of labels.exp claims.pairs)
    ++ (age_unmet r (value_of labels.iat claims.pairs)
    ++ issued_unmet r (value_of labels.iat claims.pairs))))))

-- Claims meet the requirements where nothing is unmet. Else the first is the answer.
abbrev pub first_of : List Unmet → Result (Unit {0}) Unmet
first_of [] = Ok tt
first_of (first ∷ others) = Err first

abbrev pub met : RequirementsValue → ClaimsValue → Result (Unit {0}) Unmet
met r claims = first_of (unmet r claims)
