-- Whether claims are admitted: exp and nbf over whole numbers, then the audience (RFC 8392 sections 3.1.3 to 3.1.5, RFC 7519
-- sections 4.1.3 to 4.1.5).
pub mod View
use Rattle.std.specs.Prelude.{ℕ, ℤ, pos, ◌+ℤ◌, int_le, int_lt, Bool, false, not, List, Option, Some, None, Ok, if◌then◌else◌, bytes_eq}
use Rattle.std.specs.List.{list_any}
use Rattle.cose_head.specs.declared.reason.Reason.{Reason}
use Rattle.cose_head.specs.declared.reason.Reason.TheVariants.{Expired, NotYet, WrongAudience}
use Rattle.cose_head.specs.Placed.{Placed, look, integer_in}
use Rattle.cose_map.specs.Map.Pairs.{value_of}
use Rattle.cose_map.specs.Map.Read.{Read, refuse, ◌>>=◌}
use Rattle.cose_cwt.specs.Claims.{ClaimsValue, claims_of, texts_of}
use Rattle.cose_cwt.specs.Claims.Labels.{aud, exp, nbf}

-- The current time, in seconds since 1970, the seconds by which clocks may differ, and the text strings that name the
-- caller in an audience. Without them the audience is left to the caller.
pub record PolicyValue : Type 0 where
  pub now : ℤ
  pub leeway : ℕ
  pub mine : Option (List (List ℕ))

abbrev pub has_expired : PolicyValue → ℤ → Bool
has_expired policy exp = int_le (exp +ℤ pos policy.leeway) policy.now

abbrev pub is_early : PolicyValue → ℤ → Bool
is_early policy nbf = int_lt (policy.now +ℤ pos policy.leeway) nbf

-- Whether one of the text strings is one of the policy's; and whether none is, where the policy has a list.
abbrev pub is_one_of : List (List ℕ) → List ℕ → Bool
is_one_of mine text = list_any (bytes_eq text) mine

abbrev pub names_one : List (List ℕ) → List (List ℕ) → Bool
names_one mine texts = list_any (is_one_of mine) texts

abbrev pub names_none : Option (List (List ℕ)) → List (List ℕ) → Bool
names_none None texts = false
names_none (Some mine) texts = not (names_one mine texts)

abbrev pub is_for_others : PolicyValue → List (List ℕ) → Bool
is_for_others policy texts = names_none policy.mine texts

abbrev pub date_breaks : (ℤ → Bool) → Option ℤ → Bool
date_breaks breaks None = false
date_breaks breaks (Some date) = breaks date

-- A rule. The place of its refusal is the claim's value, and a claim that is absent isn't refused.
abbrev pub unless : Reason → (Placed → Bool) → Option Placed → Read (Unit {0})
unless reason breaks None = Ok tt
unless reason breaks (Some value) = if breaks value then refuse reason value else Ok tt

abbrev pub not_expired : PolicyValue → ClaimsValue → Read (Unit {0})
not_expired policy claims = unless Expired (λ value. date_breaks (has_expired policy) (integer_in (look value))) (value_of exp claims.pairs)

abbrev pub not_early : PolicyValue → ClaimsValue → Read (Unit {0})
not_early policy claims = unless NotYet (λ value. date_breaks (is_early policy) (integer_in (look value))) (value_of nbf claims.pairs)

abbrev pub not_for_others : PolicyValue → ClaimsValue → Read (Unit {0})
not_for_others policy claims = unless WrongAudience (λ value. is_for_others policy (texts_of value)) (value_of aud claims.pairs)

unfoldable pub admitted : PolicyValue → ClaimsValue → Read (Unit {0})
admitted policy claims = do
  in_time ← not_expired policy claims
  begun ← not_early policy claims
  not_for_others policy claims

-- The claims of a payload, if they are admitted.
abbrev pub admitted_claims : ℕ → PolicyValue → List ℕ → Read ClaimsValue
admitted_claims depth policy payload = do
  claims ← claims_of depth (record { bytes = payload; place = 0 })
  admission ← admitted policy claims
  Ok claims
