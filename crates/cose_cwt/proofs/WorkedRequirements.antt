-- Requirements of claims on examples, by computing.
use Rattle.std.proofs.Common.{◌≡◌, ℕ, pos, true, false, List, [], ◌∷◌, Option, Some, None, Ok, Err, refl}
use Rattle.std.specs.Str.{is_utf8, chars}
use Rattle.cose_head.specs.Head.{bare_head}
use Rattle.cose_head.specs.Item.{depth_of}
use Rattle.cose_head.specs.Reading.{read, head}
use Rattle.cose_head.specs.Placed.{look, children_of, items_from, head_of_item}
use Rattle.cose_map.specs.Map.Read.{Read, check_pairs}
use Rattle.cose_cwt.specs.declared.requirements.Claim.{Claim}
use Rattle.cose_cwt.specs.declared.requirements.Claim.TheVariants.{Exp, Nbf, Cti}
use Rattle.cose_cwt.specs.declared.requirements.Requirement.TheVariants.{Present, Issuer, Subject, Audience, Lifetime, Age, Issued}
use Rattle.cose_cwt.specs.declared.requirements.Unmet.{Unmet}
use Rattle.cose_cwt.specs.Claims.{ClaimsValue, claims_of, texts_from}
use Rattle.cose_cwt.specs.Claims.Form.{claims_table}
use Rattle.cose_cwt.specs.Confirmation.{confirmation_of, members_table}
use Rattle.cose_cwt.specs.Requirements.{RequirementsValue, unmet, unmet_at}

abbrev of_claims : RequirementsValue → Read ClaimsValue → Option (List Unmet)
of_claims r (Ok claims) = Some (unmet r claims)
of_claims r (Err refusal) = None

-- All that the claims of a payload leave unmet.
unfoldable pub left : RequirementsValue → List ℕ → Option (List Unmet)
unfolding unmet claims_of claims_table members_table confirmation_of texts_from check_pairs children_of items_from look head_of_item bare_head read head depth_of is_utf8 chars lib.Utf8.encode
left r bytes = of_claims r (claims_of 4 (record { bytes = bytes; place = 0 }))

-- At a current time, with a leeway: nothing is required, and then one of the requirements.
abbrev at : ℕ → ℕ → RequirementsValue
at now leeway = record { now = pos now; leeway = leeway; present = []; iss = None; sub = None; aud = None; lifetime = None; age = None; issued = false }

abbrev for_present : List Claim → RequirementsValue
for_present names = record { now = pos 0; leeway = 0; present = names; iss = None; sub = None; aud = None; lifetime = None; age = None; issued = false }

abbrev from : List ℕ → RequirementsValue
from issuer = record { now = pos 0; leeway = 0; present = []; iss = Some issuer; sub = None; aud = None; lifetime = None; age = None; issued = false }

abbrev lasting : ℕ → ℕ → ℕ → RequirementsValue
lasting now leeway seconds = record { now = pos now; leeway = leeway; present = []; iss = None; sub = None; aud = None; lifetime = Some seconds; age = None; issued = false }

abbrev aged : ℕ → ℕ → ℕ → RequirementsValue
aged now leeway seconds = record { now = pos now; leeway = leeway; present = []; iss = None; sub = None; aud = None; lifetime = None; age = Some seconds; issued = false }

abbrev issued_at : ℕ → ℕ → RequirementsValue
issued_at now leeway = record { now = pos now; leeway = leeway; present = []; iss = None; sub = None; aud = None; lifetime = None; age = None; issued = true }

abbrev all : RequirementsValue
all = record { now = pos 30; leeway = 0; present = Nbf ∷ Cti ∷ []; iss = Some (0x78 ∷ []); sub = Some (0x78 ∷ []); aud = Some (0x78 ∷ []); lifetime = Some 0; age = Some 0; issued = true }

-- iss "a", sub "b", aud "c", exp 100 and iat 40; the places of their values are 2, 5, 8, 11 and 14.
abbrev example : List ℕ
example = 0xa5 ∷ 1 ∷ 0x61 ∷ 0x61 ∷ 2 ∷ 0x61 ∷ 0x62 ∷ 3 ∷ 0x61 ∷ 0x63 ∷ 4 ∷ 0x18 ∷ 100 ∷ 6 ∷ 0x18 ∷ 40 ∷ []

nothing_required : left (at 0 0) (0xa0 ∷ []) ≡ Some []
unfolding left
nothing_required = refl

two_absent : left (for_present (Nbf ∷ Exp ∷ Cti ∷ [])) example ≡ Some (unmet_at (Present Nbf) 0 ∷ unmet_at (Present Cti) 0 ∷ [])
unfolding left
two_absent = refl

this_issuer : left (from (0x61 ∷ [])) example ≡ Some []
unfolding left
this_issuer = refl

another_issuer : left (from (0x62 ∷ [])) example ≡ Some (unmet_at Issuer 2 ∷ [])
unfolding left
another_issuer = refl

no_issuer : left (from (0x61 ∷ [])) (0xa0 ∷ []) ≡ Some (unmet_at Issuer 0 ∷ [])
unfolding left
no_issuer = refl

-- exp is 60 after iat. So it may last 60 seconds, and not 59, whatever the time and the leeway are.
lasts_as_long : left (lasting 40 0 60) example ≡ Some []
unfolding left
lasts_as_long = refl

lasts_longer : left (lasting 99 9 59) example ≡ Some (unmet_at Lifetime 11 ∷ [])
unfolding left
lasts_longer = refl

-- 60 seconds after 39 are 99, and 100 with a leeway of 1.
ends_late : left (lasting 39 0 60) example ≡ Some (unmet_at Lifetime 11 ∷ [])
unfolding left
ends_late = refl

ends_within_leeway : left (lasting 39 1 60) example ≡ Some []
unfolding left
ends_within_leeway = refl

never_ends : left (lasting 0 0 60) (0xa0 ∷ []) ≡ Some (unmet_at Lifetime 0 ∷ [])
unfolding left
never_ends = refl

-- 5 seconds before 45 are 40; a leeway of 1 allows one more.
just_young : left (aged 45 0 5) example ≡ Some []
unfolding left
just_young = refl

too_old : left (aged 46 0 5) example ≡ Some (unmet_at Age 14 ∷ [])
unfolding left
too_old = refl

young_with_leeway : left (aged 46 1 5) example ≡ Some []
unfolding left
young_with_leeway = refl

issued_now : left (issued_at 40 0) example ≡ Some []
unfolding left
issued_now = refl

issued_later : left (issued_at 39 0) example ≡ Some (unmet_at Issued 14 ∷ [])
unfolding left
issued_later = refl

issued_within_leeway : left (issued_at 39 1) example ≡ Some []
unfolding left
issued_within_leeway = refl

-- All that is unmet, in its order. The token is no older than is required, since it was issued later.
all_unmet : left all example ≡ Some (unmet_at (Present Nbf) 0 ∷ unmet_at (Present Cti) 0 ∷ unmet_at Issuer 2 ∷ unmet_at Subject 5 ∷ unmet_at Audience 8 ∷ unmet_at Lifetime 11 ∷ unmet_at Issued 14 ∷ [])
unfolding left
all_unmet = refl
