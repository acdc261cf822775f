-- The rules, orders, bounds and signs of claims and of their admission, on examples, by computing. Each row would have another
-- answer if its rule were another.
use Rattle.std.specs.Prelude.{◌≡◌, ℕ, ◌+◌, ◌-◌, ◌*◌, ◌^◌, ℤ, pos, negsuc, not, ◌==◌, nat_lt, if◌then◌else◌, List, [], ◌∷◌, map, filter, codes, Option, Some, None, Ok, option_map, refl}
use Prim.Native.String.{String}
use Rattle.cose_head.specs.declared.reason.Reason.TheVariants as reasons
use Rattle.cose_map.specs.Map.Read.{Read}
use Rattle.cose_cwt.specs.Admission.{PolicyValue}
use Rattle.cose_cwt.proofs.WorkedAdmission.{admission}
use Rattle.cose_cwt.proofs.WorkedAdmission as admissions
use Rattle.cose_cwt.proofs.WorkedClaims.{Said, said, silent, refused}

-- Bytes in hexadecimal. Spaces are ignored.
abbrev digit : ℕ → ℕ
digit code = if nat_lt code 0x61 then code - 0x30 else code - 0x57

abbrev bytes_of : List ℕ → List ℕ
bytes_of [] = []
bytes_of (high ∷ []) = []
bytes_of (high ∷ low ∷ others) = (16 * digit high + digit low) ∷ bytes_of others

abbrev hex : String → List ℕ
hex text = bytes_of (filter (λ code. not (code == 0x20)) (codes text))

-- A table: a payload, and the values of its claims.
abbrev Says : List (String × Read Said) → Type 0
Says rows = map (λ row. said (hex row.0)) rows ≡ map (λ row. row.1) rows

-- A confirmation with neither a key nor its identifier.
abbrev neither : Said
neither = record silent { cnf = Some (record { key = None; kid = None }) }

-- The payload is one item, within the room of its bytes and within the nesting. A fault in it has precedence over its
-- tag, and a byte after it over what the item is.
whole_items : Says (
    ("a101", refused reasons.PastRoom 0) ∷
    ("a1 01 61", refused reasons.PastRoom 2) ∷
    ("a1 1864 81818100", Ok silent) ∷
    ("a1 1864 8181818100", refused reasons.TooDeep 6) ∷
    ("d1 1c", refused reasons.Reserved 1) ∷
    ("00 00", refused reasons.Trailing 1) ∷
    ("d1 00 00", refused reasons.Trailing 2) ∷
    ("a1 0100 00", refused reasons.Trailing 3) ∷
    ("a1 4000 00", refused reasons.Trailing 3) ∷ [])
unfolding said
whole_items = refl

-- Seven tags are those of a token, however wide their heads are and whatever their content is. Items with the tags next
-- to them aren't maps, and a token in a claim is left to the application.
tokens : Says (
    ("d000", refused reasons.NestedCwt 0) ∷
    ("d100", refused reasons.NestedCwt 0) ∷
    ("d200", refused reasons.NestedCwt 0) ∷
    ("d83d00", refused reasons.NestedCwt 0) ∷
    ("d86000", refused reasons.NestedCwt 0) ∷
    ("d86100", refused reasons.NestedCwt 0) ∷
    ("d86200", refused reasons.NestedCwt 0) ∷
    ("d9003d a0", refused reasons.NestedCwt 0) ∷
    ("cf00", refused reasons.NotMap 0) ∷
    ("d300", refused reasons.NotMap 0) ∷
    ("d81800", refused reasons.NotMap 0) ∷
    ("d83c00", refused reasons.NotMap 0) ∷
    ("d83e00", refused reasons.NotMap 0) ∷
    ("d85f00", refused reasons.NotMap 0) ∷
    ("d86300", refused reasons.NotMap 0) ∷
    ("d9011000", refused reasons.NotMap 0) ∷
    ("d9011100", refused reasons.NotMap 0) ∷
    ("d9011200", refused reasons.NotMap 0) ∷
    ("d9013d00", refused reasons.NotMap 0) ∷
    ("80", refused reasons.NotMap 0) ∷
    ("40", refused reasons.NotMap 0) ∷
    ("10", refused reasons.NotMap 0) ∷
    ("183d", refused reasons.NotMap 0) ∷
    ("a1 1864 d83d00", Ok silent) ∷ [])
unfolding said
tokens = refl

-- A pair has precedence over the next, and a label over its value. Labels are compared by value.
pairs : Says (
    ("a2 0100 4000", refused reasons.BadValue 2) ∷
    ("a2 4000 0100", refused reasons.BadLabel 1) ∷
    ("a1 61ff 00", refused reasons.BadLabel 1) ∷
    ("a2 0400 0460", refused reasons.DuplicateLabel 3) ∷
    ("a3 0100 0400 0400", refused reasons.BadValue 2) ∷
    ("a3 0400 0400 0100", refused reasons.DuplicateLabel 3) ∷
    ("a1 1804 f93c00", refused reasons.FloatDate 3) ∷ [])
unfolding said
pairs = refl

-- Other claims have any value: the labels next to those of the claims, their negatives, text strings, and the labels that equal
-- those of the claims in the low byte.
others : Says (
    ("a1 0060", Ok silent) ∷
    ("a1 0960", Ok silent) ∷
    ("a1 2060", Ok silent) ∷
    ("a1 2360", Ok silent) ∷
    ("a1 2760", Ok silent) ∷
    ("a1 6134 60", Ok silent) ∷
    ("a1 190101 00", Ok silent) ∷
    ("a1 190102 00", Ok silent) ∷
    ("a1 190103 00", Ok silent) ∷
    ("a1 190104 60", Ok silent) ∷
    ("a1 190105 60", Ok silent) ∷
    ("a1 190106 60", Ok silent) ∷
    ("a1 190107 60", Ok silent) ∷
    ("a1 190108 60", Ok silent) ∷ [])
unfolding said
others = refl

-- iss and sub are text strings; aud is one, or an array of one or more.
texts : Says (
    ("a1 0100", refused reasons.BadValue 2) ∷
    ("a1 0140", refused reasons.BadValue 2) ∷
    ("a1 0161ff", refused reasons.BadValue 2) ∷
    ("a1 0160", Ok (record silent { iss = Some [] })) ∷
    ("a1 0200", refused reasons.BadValue 2) ∷
    ("a1 0240", refused reasons.BadValue 2) ∷
    ("a1 0261ff", refused reasons.BadValue 2) ∷
    ("a1 0260", Ok (record silent { sub = Some [] })) ∷
    ("a1 0300", refused reasons.BadValue 2) ∷
    ("a1 0340", refused reasons.BadValue 2) ∷
    ("a1 0361ff", refused reasons.BadValue 2) ∷
    ("a1 03a0", refused reasons.BadValue 2) ∷
    ("a1 0380", refused reasons.BadValue 2) ∷
    ("a1 03 8100", refused reasons.BadValue 2) ∷
    ("a1 03 8161ff", refused reasons.BadValue 2) ∷
    ("a1 03 81816161", refused reasons.BadValue 2) ∷
    ("a1 03 82616161ff", refused reasons.BadValue 2) ∷
    ("a1 0360", Ok (record silent { auds = [] ∷ [] })) ∷
    ("a1 036161", Ok (record silent { auds = (0x61 ∷ []) ∷ [] })) ∷
    ("a1 03 8160", Ok (record silent { auds = [] ∷ [] })) ∷ [])
unfolding said
texts = refl

-- A float isn't a date, whatever its width.
floats : Says (
    ("a1 04 f93c00", refused reasons.FloatDate 2) ∷
    ("a1 04 fa3f800000", refused reasons.FloatDate 2) ∷
    ("a1 04 fb3ff0000000000000", refused reasons.FloatDate 2) ∷
    ("a1 05 f93c00", refused reasons.FloatDate 2) ∷
    ("a1 05 fa3f800000", refused reasons.FloatDate 2) ∷
    ("a1 05 fb3ff0000000000000", refused reasons.FloatDate 2) ∷
    ("a1 06 f93c00", refused reasons.FloatDate 2) ∷
    ("a1 06 fa3f800000", refused reasons.FloatDate 2) ∷
    ("a1 06 fb3ff0000000000000", refused reasons.FloatDate 2) ∷ [])
unfolding said
floats = refl

-- A date has no tag. The tag 1 has a reason of its own, whatever its content is and however wide its head is.
tagged : Says (
    ("a1 04 c100", refused reasons.TaggedDate 2) ∷
    ("a1 05 c100", refused reasons.TaggedDate 2) ∷
    ("a1 06 c100", refused reasons.TaggedDate 2) ∷
    ("a1 04 c1f93c00", refused reasons.TaggedDate 2) ∷
    ("a1 04 d80100", refused reasons.TaggedDate 2) ∷
    ("a1 04 c000", refused reasons.BadValue 2) ∷
    ("a1 04 c24100", refused reasons.BadValue 2) ∷
    ("a1 04 c34100", refused reasons.BadValue 2) ∷ [])
unfolding said
tagged = refl

-- Other values are refused: text strings, byte strings, arrays, maps, Boolean values, nil and a simple value. Integers
-- have either sign.
other_dates : Says (
    ("a1 04 60", refused reasons.BadValue 2) ∷
    ("a1 05 60", refused reasons.BadValue 2) ∷
    ("a1 06 60", refused reasons.BadValue 2) ∷
    ("a1 04 40", refused reasons.BadValue 2) ∷
    ("a1 04 80", refused reasons.BadValue 2) ∷
    ("a1 04 a0", refused reasons.BadValue 2) ∷
    ("a1 04 f4", refused reasons.BadValue 2) ∷
    ("a1 04 f6", refused reasons.BadValue 2) ∷
    ("a1 04 f820", refused reasons.BadValue 2) ∷
    ("a1 0400", Ok (record silent { exp = Some (pos 0) })) ∷
    ("a1 0420", Ok (record silent { exp = Some (negsuc 0) })) ∷
    ("a1 0500", Ok (record silent { nbf = Some (pos 0) })) ∷
    ("a1 0520", Ok (record silent { nbf = Some (negsuc 0) })) ∷
    ("a1 0600", Ok (record silent { iat = Some (pos 0) })) ∷
    ("a1 0620", Ok (record silent { iat = Some (negsuc 0) })) ∷ [])
unfolding said
other_dates = refl

-- cti is a byte string.
identifiers : Says (
    ("a1 0700", refused reasons.BadValue 2) ∷
    ("a1 0760", refused reasons.BadValue 2) ∷
    ("a1 0740", Ok (record silent { cti = Some [] })) ∷
    ("a2 074101 08a1034131", Ok (record silent { cti = Some (1 ∷ []); cnf = Some (record { key = None; kid = Some (0x31 ∷ []) }) })) ∷ [])
unfolding said
identifiers = refl

-- A confirmation is a map. Members of other labels are ignored.
confirmations : Says (
    ("a1 0800", refused reasons.BadValue 2) ∷
    ("a1 0880", refused reasons.BadValue 2) ∷
    ("a1 08c1a0", refused reasons.BadValue 2) ∷
    ("a1 08 a10060", Ok neither) ∷
    ("a1 08 a10460", Ok neither) ∷
    ("a1 08 a12060", Ok neither) ∷
    ("a1 08 a12260", Ok neither) ∷
    ("a1 08 a1613160", Ok neither) ∷
    ("a1 08 a10340", Ok (record silent { cnf = Some (record { key = None; kid = Some [] }) })) ∷
    ("a1 08 a10360", refused reasons.BadValue 4) ∷ [])
unfolding said
confirmations = refl

-- Every claim has precedence over every fault of the confirmation.
claims_before_confirmation : Says (
    ("a2 08a10280 0100", refused reasons.BadValue 6) ∷
    ("a2 08a10280 4000", refused reasons.BadLabel 5) ∷
    ("a2 08a14000 0100", refused reasons.BadValue 6) ∷
    ("a2 08a10280 0880", refused reasons.DuplicateLabel 5) ∷ [])
unfolding said
claims_before_confirmation = refl

-- The labels of a confirmation have precedence over its values, in their order.
labels_of_members : Says (
    ("a1 08 a3 0300 0300 4000", refused reasons.DuplicateLabel 5) ∷
    ("a1 08 a3 0300 4000 0300", refused reasons.BadLabel 5) ∷
    ("a1 08 a3 01a0 0280 4000", refused reasons.BadLabel 7) ∷
    ("a1 08 a4 01a0 0280 0300 0300", refused reasons.DuplicateLabel 9) ∷
    ("a1 08 a2 0280 0280", refused reasons.DuplicateLabel 5) ∷
    ("a1 08 a2 0280 4000", refused reasons.BadLabel 5) ∷
    ("a1 08 a2 01a0 01a0", refused reasons.DuplicateLabel 5) ∷
    ("a1 08 a2 01a20104204161 4000", refused reasons.BadLabel 10) ∷ [])
unfolding said
labels_of_members = refl

-- A key next to an encrypted key has precedence over either of them, and an encrypted key over the identifier. The
-- encrypted key may have any value, and its label any head.
encrypted_keys : Says (
    ("a1 08 a2 01a20104204161 0280", refused reasons.BadConfirmation 2) ∷
    ("a1 08 a2 0280 01a0", refused reasons.BadConfirmation 2) ∷
    ("a1 08 a3 0300 0280 01a0", refused reasons.BadConfirmation 2) ∷
    ("a1 08 a2 0280 0300", refused reasons.EncryptedKey 3) ∷
    ("a1 08 a2 0300 0280", refused reasons.EncryptedKey 5) ∷
    ("a1 08 a10200", refused reasons.EncryptedKey 3) ∷
    ("a1 08 a1180200", refused reasons.EncryptedKey 3) ∷ [])
unfolding said
encrypted_keys = refl

-- A fault of the key has precedence over the key being symmetric, and both have precedence over the identifier.
plain_keys : Says (
    ("a1 08 a10100", refused reasons.BadConfirmation 4) ∷
    ("a1 08 a10180", refused reasons.BadConfirmation 4) ∷
    ("a1 08 a101a0", refused reasons.BadConfirmation 4) ∷
    ("a1 08 a101a10104", refused reasons.BadConfirmation 4) ∷
    ("a1 08 a101a201042040", refused reasons.BadConfirmation 4) ∷
    ("a1 08 a101a201044000", refused reasons.BadConfirmation 4) ∷
    ("a1 08 a101a30104204161 0200", refused reasons.BadConfirmation 4) ∷
    ("a1 08 a101a20104204161", refused reasons.PlainKey 4) ∷
    ("a1 08 a2 01a0 0300", refused reasons.BadConfirmation 4) ∷
    ("a1 08 a2 0300 01a0", refused reasons.BadConfirmation 6) ∷
    ("a1 08 a2 01a20104204161 0300", refused reasons.PlainKey 4) ∷
    ("a1 08 a2 0300 01a20104204161", refused reasons.PlainKey 6) ∷ [])
unfolding said
plain_keys = refl

-- The current time, the leeway, the text strings of the policy, a payload, and whether its claims are admitted.
record Row : Type 0 where
  now : ℤ
  leeway : ℕ
  mine : Option (List String)
  payload : String
  outcome : Read (Unit {0})

abbrev policy_of : Row → PolicyValue
policy_of row = record { now = row.now; leeway = row.leeway; mine = option_map (map codes) row.mine }

abbrev Admits : List Row → Type 0
Admits rows = map (λ row. admission (policy_of row) (hex row.payload)) rows ≡ map (λ row. row.outcome) rows

abbrev row : ℤ → ℕ → Option (List String) → String → Read (Unit {0}) → Row
row now leeway mine payload outcome = record { now = now; leeway = leeway; mine = mine; payload = payload; outcome = outcome }

-- Every claim and the confirmation have precedence over admission; there exp has precedence over nbf, and both over the
-- audience, whatever their places are. iat has no rule.
orders : Admits (
    row (pos 0) 0 (Some ("b" ∷ [])) "a2 0400 0100" (admissions.refused reasons.BadValue 4) ∷
    row (pos 0) 0 (Some ("b" ∷ [])) "a2 036161 0100" (admissions.refused reasons.BadValue 5) ∷
    row (pos 0) 0 (Some ("b" ∷ [])) "a2 0400 08a10280" (admissions.refused reasons.EncryptedKey 5) ∷
    row (pos 0) 0 None "a2 0400 0501" (admissions.refused reasons.Expired 2) ∷
    row (pos 0) 0 None "a2 0501 0400" (admissions.refused reasons.Expired 4) ∷
    row (pos 1) 0 None "a2 0400 0502" (admissions.refused reasons.Expired 2) ∷
    row (pos 0) 0 (Some ("b" ∷ [])) "a2 036161 0400" (admissions.refused reasons.Expired 5) ∷
    row (pos 1) 0 (Some ("b" ∷ [])) "a2 036161 0400" (admissions.refused reasons.Expired 5) ∷
    row (pos 0) 0 (Some ("b" ∷ [])) "a2 0400 036161" (admissions.refused reasons.Expired 2) ∷
    row (pos 0) 0 (Some ("b" ∷ [])) "a2 036161 0501" (admissions.refused reasons.NotYet 5) ∷
    row (pos 0) 0 (Some ("b" ∷ [])) "a2 0501 036161" (admissions.refused reasons.NotYet 2) ∷
    row (pos 0) 0 (Some ("b" ∷ [])) "a3 036161 0501 0400" (admissions.refused reasons.Expired 7) ∷
    row (pos 0) 0 None "a1 061b7fffffffffffffff" (Ok tt) ∷
    row (pos 0) 0 None "a1 0620" (Ok tt) ∷
    [])
unfolding admission
orders = refl

-- The leeway is added to exp, and to the current time for nbf. Dates and the current time have a sign.
signs : Admits (
    row (pos 4) 0 None "a1 0405" (Ok tt) ∷
    row (pos 5) 0 None "a1 0405" (admissions.refused reasons.Expired 2) ∷
    row (pos 6) 2 None "a1 0405" (Ok tt) ∷
    row (pos 7) 2 None "a1 0405" (admissions.refused reasons.Expired 2) ∷
    row (pos 5) 0 None "a1 0505" (Ok tt) ∷
    row (pos 4) 0 None "a1 0505" (admissions.refused reasons.NotYet 2) ∷
    row (pos 3) 2 None "a1 0505" (Ok tt) ∷
    row (pos 2) 2 None "a1 0505" (admissions.refused reasons.NotYet 2) ∷
    row (negsuc 1) 0 None "a1 0420" (Ok tt) ∷
    row (negsuc 0) 0 None "a1 0420" (admissions.refused reasons.Expired 2) ∷
    row (negsuc 0) 1 None "a1 0420" (Ok tt) ∷
    row (negsuc 0) 0 None "a1 0520" (Ok tt) ∷
    row (negsuc 1) 0 None "a1 0520" (admissions.refused reasons.NotYet 2) ∷
    row (negsuc 1) 1 None "a1 0520" (Ok tt) ∷
    [])
unfolding admission
signs = refl

-- The sums have no limit: the latest and the earliest current time, the greatest leeway, and dates on both sides of each sum.
bounds : Admits (
    row (pos 4294967294) (2 ^ 32 - 1) None "a1 0400" (Ok tt) ∷
    row (pos 4294967295) (2 ^ 32 - 1) None "a1 0400" (admissions.refused reasons.Expired 2) ∷
    row (pos 0) (2 ^ 32 - 1) None "a1 051affffffff" (Ok tt) ∷
    row (pos 0) (2 ^ 32 - 1) None "a1 051b0000000100000000" (admissions.refused reasons.NotYet 2) ∷
    row (pos (2 ^ 63 - 2)) 0 None "a1 041b7fffffffffffffff" (Ok tt) ∷
    row (pos (2 ^ 63 - 1)) 0 None "a1 041b7fffffffffffffff" (admissions.refused reasons.Expired 2) ∷
    row (pos (2 ^ 63 - 1)) 1 None "a1 041b7fffffffffffffff" (Ok tt) ∷
    row (pos (2 ^ 63 - 1)) 0 None "a1 041b8000000000000000" (Ok tt) ∷
    row (pos (2 ^ 63 - 1)) 0 None "a1 051b7fffffffffffffff" (Ok tt) ∷
    row (pos (2 ^ 63 - 1)) 0 None "a1 051b8000000000000000" (admissions.refused reasons.NotYet 2) ∷
    row (pos (2 ^ 63 - 1)) (2 ^ 32 - 1) None "a1 051b80000000fffffffe" (Ok tt) ∷
    row (pos (2 ^ 63 - 1)) (2 ^ 32 - 1) None "a1 051b80000000ffffffff" (admissions.refused reasons.NotYet 2) ∷
    row (negsuc (2 ^ 63 - 1)) (2 ^ 32 - 1) None "a1 043b8000000000000000" (Ok tt) ∷
    row (negsuc (2 ^ 63 - 1)) 2 None "a1 043b8000000000000000" (Ok tt) ∷
    row (negsuc (2 ^ 63 - 1)) 1 None "a1 043b8000000000000000" (admissions.refused reasons.Expired 2) ∷
    row (negsuc (2 ^ 63 - 1)) 0 None "a1 043b7fffffffffffffff" (admissions.refused reasons.Expired 2) ∷
    row (negsuc (2 ^ 63 - 1)) 0 None "a1 053b7fffffffffffffff" (Ok tt) ∷
    row (negsuc (2 ^ 63 - 1)) 0 None "a1 053b7ffffffffffffffe" (admissions.refused reasons.NotYet 2) ∷
    row (negsuc (2 ^ 63 - 1)) (2 ^ 32 - 1) None "a1 053b7fffffff00000000" (Ok tt) ∷
    row (negsuc (2 ^ 63 - 1)) (2 ^ 32 - 1) None "a1 053b7ffffffeffffffff" (admissions.refused reasons.NotYet 2) ∷
    [])
unfolding admission
bounds = refl

-- A text string of the audience equals one of the policy's in all bytes. Without such text strings the audience is left
-- to the caller.
audiences : Admits (
    row (pos 0) 0 None "a1 036161" (Ok tt) ∷
    row (pos 0) 0 (Some ("a" ∷ [])) "a1 036161" (Ok tt) ∷
    row (pos 0) 0 (Some ("b" ∷ "a" ∷ [])) "a1 036161" (Ok tt) ∷
    row (pos 0) 0 (Some []) "a1 036161" (admissions.refused reasons.WrongAudience 2) ∷
    row (pos 0) 0 (Some ("" ∷ [])) "a1 036161" (admissions.refused reasons.WrongAudience 2) ∷
    row (pos 0) 0 (Some ("" ∷ [])) "a1 0360" (Ok tt) ∷
    row (pos 0) 0 (Some ("A" ∷ [])) "a1 036161" (admissions.refused reasons.WrongAudience 2) ∷
    row (pos 0) 0 (Some ("ab" ∷ [])) "a1 036161" (admissions.refused reasons.WrongAudience 2) ∷
    row (pos 0) 0 (Some ("a" ∷ [])) "a1 03626162" (admissions.refused reasons.WrongAudience 2) ∷
    row (pos 0) 0 (Some ("b" ∷ [])) "a1 03626162" (admissions.refused reasons.WrongAudience 2) ∷
    row (pos 0) 0 (Some ("abcdefghi" ∷ [])) "a1 03 69616263646566676869" (Ok tt) ∷
    row (pos 0) 0 (Some ("abcdefghj" ∷ [])) "a1 03 69616263646566676869" (admissions.refused reasons.WrongAudience 2) ∷
    row (pos 0) 0 (Some ("abcdefgh" ∷ [])) "a1 03 69616263646566676869" (admissions.refused reasons.WrongAudience 2) ∷
    row (pos 0) 0 (Some ("ab" ∷ [])) "a1 03 8261616162" (admissions.refused reasons.WrongAudience 2) ∷
    row (pos 0) 0 (Some ("a" ∷ [])) "a1 03 8261616162" (Ok tt) ∷
    row (pos 0) 0 (Some ("b" ∷ [])) "a1 03 8261616162" (Ok tt) ∷
    row (pos 0) 0 (Some ("b" ∷ [])) "a2 026162 036161" (admissions.refused reasons.WrongAudience 5) ∷
    [])
unfolding admission
audiences = refl
