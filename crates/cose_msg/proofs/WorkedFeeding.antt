-- The status of a message that is fed, how many bytes are wanted, and how many of a piece are used, on examples, by
-- computing.
use Rattle.std.proofs.Common.{◌≡◌, ℕ, zero, suc, ◌<◌, Bool, true, false, inl, inr, List, [], ◌∷◌, ◌++◌, length, take, None, sym, ◌∙◌, arith, refl}
use Rattle.std.specs.Prelude.{if◌then◌else◌, not, ◌&&◌, ◌||◌, ◌==◌, nat_le}
use Rattle.std.proofs.lemmas.Bool.{cases_lt, and_parts, or_cases, not-true, leb-true, eqb-true}
use Rattle.std.specs.Str.{bytes_eq}
use Rattle.cose_head.specs.declared.algorithm.Alg.TheVariants.{Hmac256}
use Rattle.cose_head.specs.declared.kind.Kind.TheVariants.{Mac0}
use Rattle.cose_head.specs.declared.reason.Reason.{Reason}
use Rattle.cose_head.specs.declared.reason.Reason.TheVariants.{NotFour, SeveralParties, PastRoom, BadAuth, BadAuthLength}
use Rattle.cose_head.specs.Head.{shortest_head}
use Rattle.cose_head.specs.Shortest.{shortest, shortest_all}
use Rattle.cose_mac.specs.Hmac.{mac}
use Rattle.cose_mac.specs.Structure.{mac_structure}
use Rattle.cose_msg.specs.declared.status.Status.{Status}
use Rattle.cose_msg.specs.declared.status.Status.TheVariants.{More, Complete}
use Rattle.cose_msg.specs.declared.status.Status.TheVariants as statuses
use Rattle.cose_msg.specs.declared.verdict.Verdict.TheVariants.{Authentic}
use Rattle.cose_msg.specs.Answer.{Answer, decided}
use Rattle.cose_msg.specs.Answer as answers
use Rattle.cose_msg.specs.Feed.{Uses}
use Rattle.cose_msg.specs.Message.{comparing, inspecting, message, structure}
use Rattle.cose_msg.specs.Rules.{Rules}
use Rattle.cose_msg.specs.Status.{status_of_reading, status_of_answer}
use Rattle.cose_msg.proofs.WorkedMessages.{hex, any, Gives, reading, under, jefe, plain, point}

abbrev mac_rules : Rules
mac_rules = comparing 1024 4 (under plain)

abbrev sign_rules : Rules
sign_rules = comparing 1024 4 (under (point None ∷ []))

abbrev shape_rules : Rules
shape_rules = inspecting 1024 4 (under [])

-- ---- the status

abbrev status : Rules → List ℕ → Status
status rules bytes = status_of_reading (reading rules bytes)

abbrev refused : Reason → ℕ → Status
refused reason place = statuses.Refused (record { reason = reason; place = place })

-- A message is open until it is refused.
of_a_mac0 : Gives (status mac_rules) (
    (hex "", More) ∷
    (hex "d18443a1", More) ∷
    (hex "d18443a10105a042686958", More) ∷
    (hex "d862", refused SeveralParties 0) ∷
    (hex "d183", refused NotFour 1) ∷
    (hex "d184590401", refused PastRoom 2) ∷
    (hex "d18443a10105a0 426869 48", refused BadAuthLength 10) ∷ [])
unfolding reading
of_a_mac0 = refl

-- With the last byte of its tag it is complete, or refused for the tag.
either_status : (holds : Bool) (one other : Answer) → status_of_answer (if holds then one else other) ≡ (if holds then status_of_answer one else status_of_answer other)
either_status true one other = refl
either_status false one other = refl

by_its_tag : (byte : ℕ → ℕ) →
    status mac_rules (hex "d18443a10105a0 426869 5820" ++ any byte 32) ≡
    (if bytes_eq (any byte 32) (mac Hmac256 jefe (hex "84644d41433043a1010540426869")) then Complete else refused BadAuth 10)
unfolding reading structure mac_structure shortest shortest_all shortest_head
by_its_tag byte =
    either_status (bytes_eq (any byte 32) (mac Hmac256 jefe (hex "84644d41433043a1010540426869"))) (decided (Authentic Mac0 Hmac256 2 44)) (answers.refused BadAuth 10)

-- A COSE_Sign1 is complete with the last byte of its signature, whatever that is.
of_a_sign1 : (byte : ℕ → ℕ) → Gives (λ signature. status sign_rules (hex "d28443a10126a0 40 5840" ++ signature)) (
    ([], More) ∷
    (any byte 63, More) ∷
    (any byte 64, Complete) ∷
    (any byte 65, Complete) ∷ [])
unfolding reading
of_a_sign1 byte = refl

-- So is a message that is only inspected.
of_a_shape : (byte : ℕ → ℕ) → Gives (λ tag. status shape_rules (hex "d18443a10105a0 426869 48" ++ tag)) (
    (any byte 7, More) ∷
    (any byte 8, Complete) ∷ [])
unfolding reading
of_a_shape byte = refl

-- ---- how many bytes are wanted

abbrev wanted : Rules → List ℕ → ℕ
wanted rules bytes = (reading rules bytes).wanted

-- Those that are left of the protected header, of a string of the unprotected header, of the payload and of the tag; one of a head;
-- none once the message is settled.
by_a_mac0 : (byte : ℕ → ℕ) → Gives (wanted mac_rules) (
    (hex "", 1) ∷
    (hex "d8", 1) ∷
    (hex "d1", 1) ∷
    (hex "d184", 1) ∷
    (hex "d18459", 1) ∷
    (hex "d184590400", 1024) ∷
    (hex "d18443", 3) ∷
    (hex "d18443a1", 2) ∷
    (hex "d18443a101", 1) ∷
    (hex "d18443a10105", 1) ∷
    (hex "d18443a10105 a104", 1) ∷
    (hex "d18443a10105 a10445", 5) ∷
    (hex "d18443a10105 a1044561", 4) ∷
    (hex "d18443a10105 a1044561626364", 1) ∷
    (hex "d18443a10105 a10a8258", 1) ∷
    (hex "d18443a10105 a10a825903f0", 1008) ∷
    (hex "d18443a10105 a10a82590400", 0) ∷
    (hex "d18443a10105a0", 1) ∷
    (hex "d18443a10105a0 5b", 1) ∷
    (hex "d18443a10105a0 5a00989680", 10000000) ∷
    (hex "d18443a10105a0 42", 2) ∷
    (hex "d18443a10105a0 4268", 1) ∷
    (hex "d18443a10105a0 426869", 1) ∷
    (hex "d18443a10105a0 426869 58", 1) ∷
    (hex "d18443a10105a0 426869 5820", 32) ∷
    (hex "d18443a10105a0 426869 5820" ++ any byte 1, 31) ∷
    (hex "d18443a10105a0 426869 5820" ++ any byte 31, 1) ∷
    (hex "d18443a10105a0 426869 5820" ++ any byte 32, 0) ∷
    (hex "d18443a10105a0 426869 48", 0) ∷
    (hex "d862", 0) ∷
    (hex "d183", 0) ∷ [])
unfolding reading
by_a_mac0 byte = refl

by_a_sign1 : (byte : ℕ → ℕ) → Gives (λ signature. wanted sign_rules (hex "d28443a10126a0 40 5840" ++ signature)) (
    ([], 64) ∷
    (any byte 60, 4) ∷
    (any byte 64, 0) ∷ [])
unfolding reading
by_a_sign1 byte = refl

by_a_shape : (byte : ℕ → ℕ) → Gives (λ tag. wanted shape_rules (hex "d18443a10105a0 426869 59ffff" ++ tag)) (
    ([], 65535) ∷
    (any byte 35, 65500) ∷ [])
unfolding reading
by_a_shape byte = refl

-- ---- how many bytes of a piece are used

abbrev is_settled : Rules → List ℕ → Bool
is_settled rules bytes = (reading rules bytes).settled

abbrev is_open_below : Rules → List ℕ → List ℕ → ℕ → Bool
is_open_below rules so_far piece zero = true
is_open_below rules so_far piece (suc n) = not (is_settled rules (so_far ++ take n piece)) && is_open_below rules so_far piece n

open_below : (rules : Rules) (so_far piece : List ℕ) (used : ℕ) → is_open_below rules so_far piece used ≡ true → (n : ℕ) → n < used → (message rules (so_far ++ take n piece)).settled ≡ false
unfolding reading
open_below rules so_far piece zero e n lt = absurd (omega (arith, lt))
open_below rules so_far piece (suc used) e n lt = elim (cases_lt n used) [
  | inl earlier ↦ open_below rules so_far piece used (and_parts _ _ e).1 n earlier
  | inr not_earlier ↦ (
      let same : n ≡ used = omega (arith, lt, not_earlier) in
      rw same (not-true _ (and_parts _ _ e).0))
]

not_both : (b : Bool) → b ≡ true → b ≡ false → ⊥
not_both b is not = let never : true ≡ false = sym is ∙ not in cc

-- How many bytes of this piece are used after these bytes.
abbrev is_used : Rules → List ℕ → List ℕ → ℕ → Bool
is_used rules so_far piece used =
    nat_le used (length piece) && (is_open_below rules so_far piece used && (is_settled rules (so_far ++ take used piece) || used == length piece))

uses_so_many : (rules : Rules) (so_far piece : List ℕ) (used : ℕ) → is_used rules so_far piece used ≡ true → Uses rules so_far piece used
unfolding reading
uses_so_many rules so_far piece used e =
    let rest = (and_parts _ _ e).1 in
    record {
      within = leb-true _ _ (and_parts _ _ e).0;
      none_earlier = open_below rules so_far piece used (and_parts _ _ rest).0;
      all = λ unsettled. elim (or_cases _ _ (and_parts _ _ rest).1) [
        | inl done ↦ absurd (not_both _ done unsettled)
        | inr same ↦ eqb-true _ _ same
      ];
    }

-- The whole piece, where the message is still open after it.
by_the_front : Uses mac_rules [] (hex "d18443a1") 4
unfolding reading
by_the_front = uses_so_many mac_rules [] (hex "d18443a1") 4 refl

by_the_middle : Uses mac_rules (hex "d18443a1") (hex "0105a042686958") 7
unfolding reading
by_the_middle = uses_so_many mac_rules (hex "d18443a1") (hex "0105a042686958") 7 refl

-- Otherwise the fewest bytes of it that settle the message, by its tag or by a refusal.
by_the_end : (byte : ℕ → ℕ) → Uses mac_rules (hex "d18443a10105a042686958") (hex "20" ++ (any byte 32 ++ hex "ff")) 33
unfolding reading
by_the_end byte = uses_so_many mac_rules (hex "d18443a10105a042686958") (hex "20" ++ (any byte 32 ++ hex "ff")) 33 refl

by_a_refusal : Uses mac_rules (hex "d1") (hex "83ff") 1
unfolding reading
by_a_refusal = uses_so_many mac_rules (hex "d1") (hex "83ff") 1 refl

-- None after a message.
by_what_follows : Uses mac_rules (hex "d183") (hex "ff") 0
unfolding reading
by_what_follows = uses_so_many mac_rules (hex "d183") (hex "ff") 0 refl
