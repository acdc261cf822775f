-- Admission on examples, by computing.
use Rattle.std.proofs.Common.{◌≡◌, ◌-◌, ◌^◌, ℕ, pos, List, [], ◌∷◌, Some, None, Ok, Err, refl}
use Rattle.std.specs.Str.{is_utf8, chars}
use Rattle.cose_head.specs.declared.reason.Reason.{Reason}
use Rattle.cose_head.specs.declared.reason.Reason.TheVariants as reasons
use Rattle.cose_head.specs.Head.{bare_head}
use Rattle.cose_head.specs.Item.{depth_of}
use Rattle.cose_head.specs.Reading.{read, head}
use Rattle.cose_head.specs.Placed.{look, children_of, items_from, head_of_item}
use Rattle.cose_map.specs.Map.Read.{Read, check_pairs}
use Rattle.cose_cwt.specs.Admission.{PolicyValue, admitted, admitted_claims}
use Rattle.cose_cwt.specs.Claims.{ClaimsValue, claims_of, texts_from}
use Rattle.cose_cwt.specs.Claims.Form.{claims_table}
use Rattle.cose_cwt.specs.Confirmation.{confirmation_of, members_table}

abbrev done : Read ClaimsValue → Read (Unit {0})
done (Ok claims) = Ok tt
done (Err refusal) = Err refusal

-- Whether the claims of a payload are admitted.
unfoldable pub admission : PolicyValue → List ℕ → Read (Unit {0})
unfolding admitted claims_of claims_table members_table confirmation_of texts_from check_pairs children_of items_from look head_of_item bare_head read head depth_of is_utf8 chars lib.Utf8.encode
admission policy bytes = done (admitted_claims 4 policy bytes)

abbrev pub refused : Reason → ℕ → Read (Unit {0})
refused reason place = Err (record { reason = reason; place = place })

-- At a current time, with a leeway, and with the audience left to the caller.
abbrev at : ℕ → ℕ → PolicyValue
at now leeway = record { now = pos now; leeway = leeway; mine = None }

abbrev for : List (List ℕ) → ℕ → PolicyValue
for mine now = record { now = pos now; leeway = 0; mine = Some mine }

-- The claims of RFC 8392 appendix A.1: exp is 1444064944 at 59, nbf is 1443944944 at 65, and the audience is at 32.
abbrev example : List ℕ
example =
    0xa7 ∷ 1 ∷ 0x75 ∷ 0x63 ∷ 0x6f ∷ 0x61 ∷ 0x70 ∷ 0x3a ∷ 0x2f ∷ 0x2f ∷ 0x61 ∷ 0x73 ∷ 0x2e ∷ 0x65 ∷ 0x78 ∷ 0x61 ∷ 0x6d ∷ 0x70 ∷ 0x6c ∷ 0x65 ∷ 0x2e ∷ 0x63 ∷ 0x6f ∷ 0x6d ∷ 2 ∷ 0x65 ∷ 0x65 ∷ 0x72 ∷ 0x69 ∷ 0x6b ∷ 0x77 ∷ 3 ∷ 0x78 ∷ 0x18 ∷ 0x63 ∷ 0x6f ∷ 0x61 ∷ 0x70 ∷ 0x3a ∷ 0x2f ∷
    0x2f ∷ 0x6c ∷ 0x69 ∷ 0x67 ∷ 0x68 ∷ 0x74 ∷ 0x2e ∷ 0x65 ∷ 0x78 ∷ 0x61 ∷ 0x6d ∷ 0x70 ∷ 0x6c ∷ 0x65 ∷ 0x2e ∷ 0x63 ∷ 0x6f ∷ 0x6d ∷ 4 ∷ 0x1a ∷ 0x56 ∷ 0x12 ∷ 0xae ∷ 0xb0 ∷ 5 ∷ 0x1a ∷ 0x56 ∷ 0x10 ∷ 0xd9 ∷ 0xf0 ∷ 6 ∷ 0x1a ∷ 0x56 ∷ 0x10 ∷ 0xd9 ∷ 0xf0 ∷ 7 ∷ 0x42 ∷ 0xb ∷ 0x71 ∷ []

last_second : admission (at 1444064943 0) example ≡ Ok tt
unfolding admission
last_second = refl

expired : admission (at 1444064944 0) example ≡ refused reasons.Expired 59
unfolding admission
expired = refl

first_second : admission (at 1443944944 0) example ≡ Ok tt
unfolding admission
first_second = refl

too_early : admission (at 1443944943 0) example ≡ refused reasons.NotYet 65
unfolding admission
too_early = refl

last_second_with_leeway : admission (at 1444064944 1) example ≡ Ok tt
unfolding admission
last_second_with_leeway = refl

expired_with_leeway : admission (at 1444064945 1) example ≡ refused reasons.Expired 59
unfolding admission
expired_with_leeway = refl

first_second_with_leeway : admission (at 1443944943 1) example ≡ Ok tt
unfolding admission
first_second_with_leeway = refl

too_early_with_leeway : admission (at 1443944942 1) example ≡ refused reasons.NotYet 65
unfolding admission
too_early_with_leeway = refl

for_others : admission (for ((0x6f ∷ 0x74 ∷ 0x68 ∷ 0x65 ∷ 0x72 ∷ []) ∷ []) 1444064943) example ≡ refused reasons.WrongAudience 32
unfolding admission
for_others = refl

-- Of several text strings one is enough, on either side.
abbrev two_audiences : List ℕ
two_audiences = 0xa1 ∷ 3 ∷ 0x82 ∷ 0x61 ∷ 0x61 ∷ 0x61 ∷ 0x62 ∷ []

for_the_second : admission (for ((0x62 ∷ []) ∷ []) 0) two_audiences ≡ Ok tt
unfolding admission
for_the_second = refl

for_neither : admission (for ((0x63 ∷ []) ∷ []) 0) two_audiences ≡ refused reasons.WrongAudience 2
unfolding admission
for_neither = refl

for_one_of_mine : admission (for ((0x63 ∷ []) ∷ (0x61 ∷ []) ∷ []) 0) two_audiences ≡ Ok tt
unfolding admission
for_one_of_mine = refl

for_nobody : admission (for [] 0) two_audiences ≡ refused reasons.WrongAudience 2
unfolding admission
for_nobody = refl

-- A claim that is absent isn't refused.
without_claims : admission (for [] 0) (0xa0 ∷ []) ≡ Ok tt
unfolding admission
without_claims = refl

unknown_claim : admission (for [] 0) (0xa1 ∷ 0x18 ∷ 0x64 ∷ 0xf9 ∷ 0x3c ∷ 0 ∷ []) ≡ Ok tt
unfolding admission
unknown_claim = refl

-- The sums are over whole numbers, without limit.
latest_expiry : admission (at (2 ^ 63 - 1) 0) (0xa1 ∷ 4 ∷ 0x1b ∷ 0xff ∷ 0xff ∷ 0xff ∷ 0xff ∷ 0xff ∷ 0xff ∷ 0xff ∷ 0xff ∷ []) ≡ Ok tt
unfolding admission
latest_expiry = refl

earliest_begin : admission (at 0 0) (0xa1 ∷ 5 ∷ 0x3b ∷ 0xff ∷ 0xff ∷ 0xff ∷ 0xff ∷ 0xff ∷ 0xff ∷ 0xff ∷ 0xff ∷ []) ≡ Ok tt
unfolding admission
earliest_begin = refl

earliest_expiry : admission (at 0 0) (0xa1 ∷ 4 ∷ 0x3b ∷ 0xff ∷ 0xff ∷ 0xff ∷ 0xff ∷ 0xff ∷ 0xff ∷ 0xff ∷ 0xff ∷ []) ≡ refused reasons.Expired 2
unfolding admission
earliest_expiry = refl
