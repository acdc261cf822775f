-- Buckets and pairs of buckets on examples, by computing.
use Rattle.std.proofs.Common.{◌≡◌, ℕ, pos, negsuc, List, [], ◌∷◌, ◌++◌, Option, Some, None, Ok, Err, map, replicate, refl}
use Rattle.std.specs.Str.{is_utf8, chars}
use Rattle.cose_head.specs.declared.reason.Reason.{Reason}
use Rattle.cose_head.specs.declared.reason.Reason.TheVariants.{NotMap, BadLabel, DuplicateLabel, BothBuckets, BadValue, CritUnprotected, CritAbsent, CritUnknown, BothIvs, PastRoom, TooDeep, Trailing}
use Rattle.cose_head.specs.declared.refusal.Refusal.{Refusal}
use Rattle.cose_head.specs.Head.{bare_head}
use Rattle.cose_head.specs.Item.{depth_of}
use Rattle.cose_head.specs.Reading.{read, head}
use Rattle.cose_head.specs.Placed.{Placed, look, children_of, items_from, head_of_item}
use Rattle.cose_map.specs.Label.{LabelValue, number, words}
use Rattle.cose_map.specs.Map.Read.{Read, check_pairs}
use Rattle.cose_map.specs.Map.Pairs.{Pair}
use Rattle.cose_map.specs.Map.View.{refusal_in}
use Rattle.cose_map.specs.Bucket.{bucket_of, alg_of, kid_of}
use Rattle.cose_map.specs.Bucket.Form.{bucket_table}
use Rattle.cose_map.specs.Bucket.Both.{pair_faults, least}

abbrev placed : ℕ → List ℕ → Placed
placed place bytes = record { bytes = bytes; place = place }

unfoldable bucket : ℕ → List ℕ → Read (List Pair)
unfolding bucket_of bucket_table check_pairs children_of items_from look head_of_item bare_head read head depth_of is_utf8 chars lib.Utf8.encode
bucket place bytes = bucket_of 4 (placed place bytes)

abbrev refused : Reason → ℕ → Read (List Pair)
refused reason place = Err (record { reason = reason; place = place })

empty : bucket 0 [] ≡ Ok []
unfolding bucket
empty = refl

empty_map : bucket 0 (0xa0 ∷ []) ≡ Ok []
unfolding bucket
empty_map = refl

empty_crit : bucket 0 (0xa2 ∷ 1 ∷ 5 ∷ 2 ∷ 0x80 ∷ []) ≡ refused BadValue 4
unfolding bucket
empty_crit = refl

bytes_as_alg : bucket 0 (0xa1 ∷ 1 ∷ 0x40 ∷ []) ≡ refused BadValue 2
unfolding bucket
bytes_as_alg = refl

negative_content_type : bucket 0 (0xa1 ∷ 3 ∷ 0x20 ∷ []) ≡ refused BadValue 2
unfolding bucket
negative_content_type = refl

bytes_in_crit : bucket 0 (0xa1 ∷ 2 ∷ 0x81 ∷ 0x40 ∷ []) ≡ refused BadValue 2
unfolding bucket
bytes_in_crit = refl

no_utf8 : bucket 0 (0xa1 ∷ 0x61 ∷ 0xff ∷ 0 ∷ []) ≡ refused BadLabel 1
unfolding bucket
no_utf8 = refl

-- Neither an integer nor a text string: bytes, an array, a map, a tag, a Boolean value, nil and a float.
other_labels : map (bucket 0) (
    (0xa1 ∷ 0x40 ∷ 0 ∷ []) ∷
    (0xa1 ∷ 0x80 ∷ 0 ∷ []) ∷
    (0xa1 ∷ 0xa0 ∷ 0 ∷ []) ∷
    (0xa1 ∷ 0xc1 ∷ 1 ∷ 0 ∷ []) ∷
    (0xa1 ∷ 0xf4 ∷ 0 ∷ []) ∷
    (0xa1 ∷ 0xf6 ∷ 0 ∷ []) ∷
    (0xa1 ∷ 0xf9 ∷ 0 ∷ 0 ∷ 0 ∷ []) ∷ [])
    ≡ refused BadLabel 1 ∷ refused BadLabel 1 ∷ refused BadLabel 1 ∷ refused BadLabel 1 ∷ refused BadLabel 1 ∷ refused BadLabel 1 ∷
    refused BadLabel 1 ∷ []
unfolding bucket
other_labels = refl

-- The values that a label may have. Of these: an unsigned integer, a negative one, bytes, a text string, and one that
-- isn't UTF-8; arrays: the empty one, of a number, of a text string, of bytes, of a text string that isn't UTF-8, and
-- of a number and bytes; a map; a tag of bytes; false, nil, a float.
abbrev pub values : List (List ℕ)
values =
    (0 ∷ []) ∷ (0x20 ∷ []) ∷ (0x40 ∷ []) ∷ (0x61 ∷ 0x61 ∷ []) ∷ (0x61 ∷ 0xff ∷ []) ∷
    (0x80 ∷ []) ∷ (0x81 ∷ 1 ∷ []) ∷ (0x81 ∷ 0x61 ∷ 0x61 ∷ []) ∷ (0x81 ∷ 0x40 ∷ []) ∷ (0x81 ∷ 0x61 ∷ 0xff ∷ []) ∷ (0x82 ∷ 1 ∷ 0x40 ∷ []) ∷
    (0xa1 ∷ 1 ∷ 1 ∷ []) ∷ (0xc1 ∷ 0x40 ∷ []) ∷ (0xf4 ∷ []) ∷ (0xf6 ∷ []) ∷ (0xf9 ∷ 0 ∷ 0 ∷ []) ∷ []

abbrev good : Option Refusal
good = None

abbrev bad : Option Refusal
bad = Some (record { reason = BadValue; place = 2 })

unfoldable refused_for : ℕ → List (Option Refusal)
unfolding bucket
refused_for label = map (λ value. refusal_in (bucket 0 (0xa1 ∷ label ∷ value))) values

alg_values : refused_for 1 ≡
    good ∷ good ∷ bad ∷ good ∷ bad ∷ bad ∷ bad ∷ bad ∷ bad ∷ bad ∷ bad ∷ bad ∷ bad ∷ bad ∷ bad ∷ bad ∷ []
unfolding refused_for
alg_values = refl

crit_values : refused_for 2 ≡
    bad ∷ bad ∷ bad ∷ bad ∷ bad ∷ bad ∷ good ∷ good ∷ bad ∷ bad ∷ bad ∷ bad ∷ bad ∷ bad ∷ bad ∷ bad ∷ []
unfolding refused_for
crit_values = refl

content_type_values : refused_for 3 ≡
    good ∷ bad ∷ bad ∷ good ∷ bad ∷ bad ∷ bad ∷ bad ∷ bad ∷ bad ∷ bad ∷ bad ∷ bad ∷ bad ∷ bad ∷ bad ∷ []
unfolding refused_for
content_type_values = refl

-- The identifier, IV and Partial IV.
bytes_values : map refused_for (4 ∷ 5 ∷ 6 ∷ []) ≡ replicate 3 (bad ∷ bad ∷ good ∷ replicate 13 bad)
unfolding refused_for
bytes_values = refl

-- The labels next to these, and -1: any value.
other_values : map refused_for (0 ∷ 7 ∷ 0x20 ∷ []) ≡ replicate 3 (replicate 16 good)
unfolding refused_for
other_values = refl

-- "b", "a" and "b": the third equals the first.
words_twice : bucket 0 (0xa3 ∷ 0x61 ∷ 0x62 ∷ 0 ∷ 0x61 ∷ 0x61 ∷ 0 ∷ 0x61 ∷ 0x62 ∷ 0 ∷ []) ≡ refused DuplicateLabel 7
unfolding bucket
words_twice = refl

-- "1" with a head of one byte, and of two.
same_words_twice : bucket 0 (0xa2 ∷ 0x61 ∷ 0x31 ∷ 0 ∷ 0x78 ∷ 1 ∷ 0x31 ∷ 0 ∷ []) ≡ refused DuplicateLabel 4
unfolding bucket
same_words_twice = refl

-- A label has precedence over its value, and a pair over the next one.
label_before_value : bucket 0 (0xa2 ∷ 4 ∷ 0x41 ∷ 0 ∷ 4 ∷ 0 ∷ []) ≡ refused DuplicateLabel 4
unfolding bucket
label_before_value = refl

value_before_next_label : bucket 0 (0xa2 ∷ 4 ∷ 0 ∷ 0x40 ∷ 0 ∷ []) ≡ refused BadValue 2
unfolding bucket
value_before_next_label = refl

-- -1 and 0, and "a" and "ab", are two labels.
numbers_that_differ : bucket 0 (0xa2 ∷ 0x20 ∷ 0 ∷ 0 ∷ 0 ∷ []) ≡ Ok (
    record { name = number (negsuc 0); label = placed 1 (0x20 ∷ []); value = placed 2 (0 ∷ []) } ∷
    record { name = number (pos 0); label = placed 3 (0 ∷ []); value = placed 4 (0 ∷ []) } ∷ [])
unfolding bucket
numbers_that_differ = refl

words_that_differ : bucket 0 (0xa2 ∷ 0x61 ∷ 0x61 ∷ 0 ∷ 0x62 ∷ 0x61 ∷ 0x62 ∷ 0 ∷ []) ≡ Ok (
    record { name = words (0x61 ∷ []); label = placed 1 (0x61 ∷ 0x61 ∷ []); value = placed 3 (0 ∷ []) } ∷
    record { name = words (0x61 ∷ 0x62 ∷ []); label = placed 4 (0x62 ∷ 0x61 ∷ 0x62 ∷ []); value = placed 7 (0 ∷ []) } ∷ [])
unfolding bucket
words_that_differ = refl

minus_one_twice : bucket 0 (0xa2 ∷ 0x20 ∷ 0 ∷ 0x38 ∷ 0 ∷ 0 ∷ []) ≡ refused DuplicateLabel 3
unfolding bucket
minus_one_twice = refl

number_and_words : bucket 0 (0xa2 ∷ 1 ∷ 5 ∷ 0x61 ∷ 0x31 ∷ 0 ∷ []) ≡ Ok (
    record { name = number (pos 1); label = placed 1 (1 ∷ []); value = placed 2 (5 ∷ []) } ∷
    record { name = words (0x31 ∷ []); label = placed 3 (0x61 ∷ 0x31 ∷ []); value = placed 5 (0 ∷ []) } ∷ [])
unfolding bucket
number_and_words = refl

reading_goes_first : bucket 0 (0xa2 ∷ 0x0a ∷ 0 ∷ 0x0a ∷ 0x41 ∷ []) ≡ refused PastRoom 4
unfolding bucket
reading_goes_first = refl

same_number_twice : bucket 3 (0xa2 ∷ 1 ∷ 5 ∷ 0x18 ∷ 1 ∷ 5 ∷ []) ≡ refused DuplicateLabel 6
unfolding bucket
same_number_twice = refl

as_deep_as_allowed : refusal_in (bucket 6 (0xa1 ∷ 0x0a ∷ 0x81 ∷ 0x81 ∷ 0x81 ∷ 0 ∷ [])) ≡ None
unfolding bucket
as_deep_as_allowed = refl

too_deep : bucket 6 (0xa1 ∷ 0x0a ∷ 0x81 ∷ 0x81 ∷ 0x81 ∷ 0x81 ∷ 0 ∷ []) ≡ refused TooDeep 11
unfolding bucket
too_deep = refl

byte_after : bucket 3 (0xa1 ∷ 1 ∷ 5 ∷ 0 ∷ []) ≡ refused Trailing 6
unfolding bucket
byte_after = refl

no_map : bucket 3 (0x80 ∷ []) ≡ refused NotMap 3
unfolding bucket
no_map = refl

-- An integer or a string isn't a map, nor is a tag of a map, nil or a float.
no_maps : map (bucket 3) ((0 ∷ []) ∷ (0x20 ∷ []) ∷ (0x40 ∷ []) ∷ (0x60 ∷ []) ∷ (0xc1 ∷ 0xa0 ∷ []) ∷ (0xf6 ∷ []) ∷ (0xf9 ∷ 0 ∷ 0 ∷ []) ∷ []) ≡
    replicate 7 (refused NotMap 3)
unfolding bucket
no_maps = refl

past_room : bucket 3 (0xa2 ∷ 1 ∷ 5 ∷ []) ≡ refused PastRoom 3
unfolding bucket
past_room = refl

bytes_as_label : bucket 6 (0xa1 ∷ 0x40 ∷ 0 ∷ []) ≡ refused BadLabel 7
unfolding bucket
bytes_as_label = refl

number_as_kid : bucket 6 (0xa1 ∷ 4 ∷ 0 ∷ []) ≡ refused BadValue 8
unfolding bucket
number_as_kid = refl

-- the pairs of a bucket, if it has no fault
abbrev pairs_in : Read (List Pair) → List Pair
pairs_in (Ok pairs) = pairs
pairs_in (Err refusal) = []

-- An empty identifier is an identifier, and an algorithm may be named by a text string.
empty_kid : kid_of (pairs_in (bucket 0 (0xa1 ∷ 4 ∷ 0x40 ∷ []))) ≡ Some []
unfolding bucket look head_of_item bare_head
empty_kid = refl

no_kid : kid_of (pairs_in (bucket 0 (0xa1 ∷ 5 ∷ 0x40 ∷ []))) ≡ None
unfolding bucket look head_of_item bare_head
no_kid = refl

named_algorithm : alg_of (pairs_in (bucket 0 (0xa1 ∷ 1 ∷ 0x61 ∷ 0x35 ∷ []))) ≡ Some (words (0x35 ∷ []))
unfolding bucket look head_of_item bare_head is_utf8 chars lib.Utf8.encode
named_algorithm = refl

unfoldable both : List ℕ → ℕ → List ℕ → List LabelValue → ℕ → Option Refusal
unfolding bucket pair_faults children_of items_from look head_of_item bare_head read head depth_of is_utf8 chars lib.Utf8.encode
both protected place unprotected understood after = least (pair_faults (pairs_in (bucket 3 protected)) (pairs_in (bucket place unprotected)) understood after)

abbrev wrong : Reason → ℕ → Option Refusal
wrong reason place = Some (record { reason = reason; place = place })

least_number_at_one_place : both (0xa2 ∷ 1 ∷ 5 ∷ 2 ∷ 0x81 ∷ 1 ∷ []) 9 (0xa1 ∷ 2 ∷ 0x81 ∷ 1 ∷ []) [] 13 ≡ wrong BothBuckets 10
unfolding both
least_number_at_one_place = refl

alg_in_both : both (0xa1 ∷ 1 ∷ 5 ∷ []) 6 (0xa1 ∷ 1 ∷ 5 ∷ []) [] 9 ≡ wrong BothBuckets 7
unfolding both
alg_in_both = refl

critical_absent : both (0xa2 ∷ 1 ∷ 5 ∷ 2 ∷ 0x81 ∷ 0x18 ∷ 0x2a ∷ []) 10 (0xa0 ∷ []) [] 11 ≡ wrong CritAbsent 8
unfolding both
critical_absent = refl

critical_unknown : both (0xa3 ∷ 1 ∷ 5 ∷ 2 ∷ 0x81 ∷ 0x18 ∷ 0x2a ∷ 0x18 ∷ 0x2a ∷ 0 ∷ []) 13 (0xa0 ∷ []) [] 14 ≡ wrong CritUnknown 8
unfolding both
critical_unknown = refl

critical_understood : both (0xa3 ∷ 1 ∷ 5 ∷ 2 ∷ 0x81 ∷ 0x18 ∷ 0x2a ∷ 0x18 ∷ 0x2a ∷ 0 ∷ []) 13 (0xa0 ∷ []) (number (pos 42) ∷ []) 14 ≡ None
unfolding both
critical_understood = refl

-- The application may understand several labels, and text strings; a number isn't a text string.
critical_understood_too : both (0xa3 ∷ 1 ∷ 5 ∷ 2 ∷ 0x81 ∷ 0x18 ∷ 0x2a ∷ 0x18 ∷ 0x2a ∷ 0 ∷ []) 13 (0xa0 ∷ []) (words (0x31 ∷ []) ∷ number (pos 42) ∷ []) 14 ≡ None
unfolding both
critical_understood_too = refl

critical_words_understood : both (0xa2 ∷ 0x61 ∷ 0x31 ∷ 0 ∷ 2 ∷ 0x81 ∷ 0x61 ∷ 0x31 ∷ []) 11 (0xa0 ∷ []) (words (0x31 ∷ []) ∷ []) 12 ≡ None
unfolding both
critical_words_understood = refl

critical_words_and_number : both (0xa2 ∷ 0x61 ∷ 0x31 ∷ 0 ∷ 2 ∷ 0x81 ∷ 0x61 ∷ 0x31 ∷ []) 11 (0xa0 ∷ []) (number (pos 1) ∷ []) 12 ≡ wrong CritUnknown 9
unfolding both
critical_words_and_number = refl

crit_unprotected : both (0xa1 ∷ 1 ∷ 5 ∷ []) 6 (0xa1 ∷ 2 ∷ 0x81 ∷ 1 ∷ []) [] 10 ≡ wrong CritUnprotected 7
unfolding both
crit_unprotected = refl

both_are_there : both (0xa2 ∷ 1 ∷ 5 ∷ 5 ∷ 0x41 ∷ 0 ∷ []) 9 (0xa1 ∷ 6 ∷ 0x41 ∷ 0 ∷ []) [] 13 ≡ wrong BothIvs 13
unfolding both
both_are_there = refl

-- Labels of both buckets, and those that crit lists, are compared by value too: 1 with a head of two bytes.
wider_in_the_unprotected : both (0xa1 ∷ 1 ∷ 5 ∷ []) 6 (0xa1 ∷ 0x18 ∷ 1 ∷ 5 ∷ []) [] 10 ≡ wrong BothBuckets 7
unfolding both
wider_in_the_unprotected = refl

wider_crit : both (0xa2 ∷ 1 ∷ 5 ∷ 0x18 ∷ 2 ∷ 0x81 ∷ 4 ∷ []) 10 (0xa0 ∷ []) [] 11 ≡ wrong CritAbsent 9
unfolding both
wider_crit = refl

wider_crit_unprotected : both (0xa1 ∷ 1 ∷ 5 ∷ []) 6 (0xa1 ∷ 0x18 ∷ 2 ∷ 0x81 ∷ 1 ∷ []) [] 11 ≡ wrong CritUnprotected 7
unfolding both
wider_crit_unprotected = refl

wider_ivs : both (0xa1 ∷ 0x18 ∷ 5 ∷ 0x40 ∷ []) 7 (0xa1 ∷ 0x18 ∷ 6 ∷ 0x40 ∷ []) [] 11 ≡ wrong BothIvs 11
unfolding both
wider_ivs = refl

words_in_both : both (0xa1 ∷ 0x61 ∷ 0x31 ∷ 0 ∷ []) 7 (0xa1 ∷ 0x61 ∷ 0x31 ∷ 0 ∷ []) [] 11 ≡ wrong BothBuckets 8
unfolding both
words_in_both = refl

wider_in_crit : both (0xa2 ∷ 1 ∷ 5 ∷ 2 ∷ 0x81 ∷ 0x18 ∷ 1 ∷ []) 10 (0xa0 ∷ []) [] 11 ≡ None
unfolding both
wider_in_crit = refl

-- Both are in one bucket, or in the other order.
both_in_the_protected : both (0xa2 ∷ 5 ∷ 0x41 ∷ 0 ∷ 6 ∷ 0x41 ∷ 0 ∷ []) 10 (0xa0 ∷ []) [] 11 ≡ wrong BothIvs 11
unfolding both
both_in_the_protected = refl

both_in_the_unprotected : both (0xa0 ∷ []) 4 (0xa2 ∷ 5 ∷ 0x41 ∷ 0 ∷ 6 ∷ 0x41 ∷ 0 ∷ []) [] 11 ≡ wrong BothIvs 11
unfolding both
both_in_the_unprotected = refl

partial_in_the_protected : both (0xa1 ∷ 6 ∷ 0x41 ∷ 0 ∷ []) 7 (0xa1 ∷ 5 ∷ 0x41 ∷ 0 ∷ []) [] 11 ≡ wrong BothIvs 11
unfolding both
partial_in_the_protected = refl

one_iv : both (0xa1 ∷ 5 ∷ 0x41 ∷ 0 ∷ []) 7 (0xa1 ∷ 4 ∷ 0x41 ∷ 0 ∷ []) [] 11 ≡ None
unfolding both
one_iv = refl

-- A label that every implementation knows must also be present, and in the protected bucket; the same holds for a later
-- element.
known_and_absent : both (0xa2 ∷ 1 ∷ 5 ∷ 2 ∷ 0x81 ∷ 4 ∷ []) 9 (0xa1 ∷ 4 ∷ 0x41 ∷ 7 ∷ []) [] 13 ≡ wrong CritAbsent 8
unfolding both
known_and_absent = refl

second_is_absent : both (0xa2 ∷ 1 ∷ 5 ∷ 2 ∷ 0x82 ∷ 1 ∷ 0x18 ∷ 0x2a ∷ []) 11 (0xa0 ∷ []) [] 12 ≡ wrong CritAbsent 9
unfolding both
second_is_absent = refl

-- The labels 1 to 6 are known, and those next to them and text strings are not.
seven_is_unknown : both (0xa3 ∷ 1 ∷ 5 ∷ 2 ∷ 0x81 ∷ 7 ∷ 7 ∷ 0 ∷ []) 11 (0xa0 ∷ []) [] 12 ≡ wrong CritUnknown 8
unfolding both
seven_is_unknown = refl

zero_is_unknown : both (0xa2 ∷ 0 ∷ 0 ∷ 2 ∷ 0x81 ∷ 0 ∷ []) 9 (0xa0 ∷ []) [] 10 ≡ wrong CritUnknown 8
unfolding both
zero_is_unknown = refl

minus_one_is_unknown : both (0xa2 ∷ 0x20 ∷ 0 ∷ 2 ∷ 0x81 ∷ 0x20 ∷ []) 9 (0xa0 ∷ []) [] 10 ≡ wrong CritUnknown 8
unfolding both
minus_one_is_unknown = refl

words_are_unknown : both (0xa2 ∷ 0x61 ∷ 0x31 ∷ 0 ∷ 2 ∷ 0x81 ∷ 0x61 ∷ 0x31 ∷ []) 11 (0xa0 ∷ []) [] 12 ≡ wrong CritUnknown 9
unfolding both
words_are_unknown = refl

six_is_known : both (0xa2 ∷ 2 ∷ 0x81 ∷ 6 ∷ 6 ∷ 0x40 ∷ []) 9 (0xa0 ∷ []) [] 10 ≡ None
unfolding both
six_is_known = refl

-- Each of them that may be together with another, all but 5 and 6: 3 alone, crit itself, and 1 to 5.
three_is_known : both (0xa2 ∷ 2 ∷ 0x81 ∷ 3 ∷ 3 ∷ 0 ∷ []) 9 (0xa0 ∷ []) [] 10 ≡ None
unfolding both
three_is_known = refl

two_is_known : both (0xa1 ∷ 2 ∷ 0x81 ∷ 2 ∷ []) 7 (0xa0 ∷ []) [] 8 ≡ None
unfolding both
two_is_known = refl

one_to_five_are_known : both (0xa5 ∷ 1 ∷ 5 ∷ 2 ∷ 0x85 ∷ 1 ∷ 2 ∷ 3 ∷ 4 ∷ 5 ∷ 3 ∷ 0 ∷ 4 ∷ 0x40 ∷ 5 ∷ 0x40 ∷ []) 19 (0xa0 ∷ []) [] 20 ≡ None
unfolding both
one_to_five_are_known = refl

-- Of the elements of crit the first one with a fault is the answer, whatever its fault is.
first_of_two_absent : both (0xa2 ∷ 1 ∷ 5 ∷ 2 ∷ 0x82 ∷ 0x18 ∷ 0x2a ∷ 0x18 ∷ 0x2b ∷ []) 12 (0xa0 ∷ []) [] 13 ≡ wrong CritAbsent 8
unfolding both
first_of_two_absent = refl

unknown_before_a_later_absent : both (0xa3 ∷ 1 ∷ 5 ∷ 2 ∷ 0x82 ∷ 0x18 ∷ 0x2a ∷ 0x18 ∷ 0x2b ∷ 0x18 ∷ 0x2a ∷ 0 ∷ []) 15 (0xa0 ∷ []) [] 16
    ≡ wrong CritUnknown 8
unfolding both
unknown_before_a_later_absent = refl

-- The places decide and not the order of the buckets: here the unprotected one is at a lower place, or its label is at
-- the place of the element of crit.
least_place_in_the_unprotected : both (0xa2 ∷ 1 ∷ 5 ∷ 2 ∷ 0x81 ∷ 4 ∷ []) 0 (0xa1 ∷ 1 ∷ 5 ∷ []) [] 12 ≡ wrong BothBuckets 1
unfolding both
least_place_in_the_unprotected = refl

smaller_number_in_the_unprotected : both (0xa2 ∷ 1 ∷ 5 ∷ 2 ∷ 0x81 ∷ 4 ∷ []) 7 (0xa1 ∷ 1 ∷ 5 ∷ []) [] 12 ≡ wrong BothBuckets 8
unfolding both
smaller_number_in_the_unprotected = refl

both_ivs_at_the_least_place : both (0xa2 ∷ 1 ∷ 5 ∷ 5 ∷ 0x41 ∷ 0 ∷ []) 9 (0xa2 ∷ 1 ∷ 5 ∷ 6 ∷ 0x41 ∷ 0 ∷ []) [] 2 ≡ wrong BothIvs 2
unfolding both
both_ivs_at_the_least_place = refl

-- Labels are compared in all bits and all bytes: -1 and 2^64 - 1, 1 and 257, and two text strings of 9 bytes that differ in the
-- last one are no duplicates.
alike_in_the_low_bits : refusal_in (bucket 0 (0xa2 ∷ 0x1b ∷ replicate 8 0xff ++ 0 ∷ 0x20 ∷ 0 ∷ [])) ≡ None
unfolding bucket
alike_in_the_low_bits = refl

alike_in_the_low_byte : refusal_in (bucket 0 (0xa2 ∷ 1 ∷ 5 ∷ 0x19 ∷ 1 ∷ 1 ∷ 0x40 ∷ [])) ≡ None
unfolding bucket
alike_in_the_low_byte = refl

alike_in_eight_bytes : refusal_in (bucket 0 (0xa2 ∷ 0x69 ∷ replicate 8 0x61 ++ 0x61 ∷ 0 ∷ 0x69 ∷ replicate 8 0x61 ++ 0x62 ∷ 0 ∷ [])) ≡ None
unfolding bucket
alike_in_eight_bytes = refl

-- The labels 257 to 262 equal 1 to 6 in the low byte: they have any value, and an application has to understand them.
values_alike_in_the_low_byte : map (λ low. refusal_in (bucket 0 (0xa1 ∷ 0x19 ∷ 1 ∷ low ∷ 0xf6 ∷ []))) (1 ∷ 2 ∷ 3 ∷ 4 ∷ 5 ∷ 6 ∷ []) ≡ replicate 6 good
unfolding bucket
values_alike_in_the_low_byte = refl

critical_alike_in_the_low_byte : both (0xa3 ∷ 1 ∷ 5 ∷ 2 ∷ 0x81 ∷ 0x19 ∷ 1 ∷ 4 ∷ 0x19 ∷ 1 ∷ 4 ∷ 0 ∷ []) 15 (0xa0 ∷ []) (number (pos 4) ∷ []) 16 ≡ wrong CritUnknown 8
unfolding both
critical_alike_in_the_low_byte = refl
