-- The header parameters that are printed of a message, on examples, by computing.
use Rattle.std.specs.Prelude.{◌≡◌, ℕ, List, [], ◌∷◌, map, codes, Option, None, refl}
use Prim.Native.String.{String}
use Rattle.std.specs.Fmt.{digits}
use Rattle.std.specs.Str.{is_utf8, chars}
use Rattle.cose_head.specs.Head.{bare_head}
use Rattle.cose_head.specs.Item.{depth_of}
use Rattle.cose_head.specs.Placed.{look, children_of, items_from, head_of_item}
use Rattle.cose_head.specs.Reading.{read, head}
use Rattle.cose_head.specs.declared.algorithm.Alg.TheVariants.{Hmac256}
use Rattle.cose_head.specs.declared.kind.Kind.TheVariants.{Mac0}
use Rattle.cose_head.specs.declared.reason.Reason.TheVariants.{BadAuth}
use Rattle.cose_map.specs.Bucket.{bucket_of}
use Rattle.cose_map.specs.Bucket.Form.{bucket_table}
use Rattle.cose_map.specs.Map.Pairs.{Pair}
use Rattle.cose_map.specs.Map.Read.{check_pairs}
use Rattle.cose_msg.specs.Shown.{value_of}
use Rattle.cose_msg.specs.declared.verdict.Verdict.TheVariants.{Authentic, Refused}
use Rattle.cose_text.specs.Diagnostic.{diagnostic}
use Rattle.cose_answers.specs.Headers.{parameter_lines}
use Rattle.cose_answers.specs.Printed.{Output, said_with}
use Rattle.cose_answers.specs.declared.reply.Status.TheVariants as statuses
use Rattle.cose_answers.proofs.WorkedPrinted.{hex, line}
use Rattle.cose_answers.proofs.WorkedShown.{lines}
use Rattle.hex.specs.Hex.{encode_with}

-- ---- lines

-- The pairs of a bucket.
unfoldable pairs : String → Option (List Pair)
unfolding bucket_of bucket_table check_pairs children_of items_from look head_of_item bare_head read head depth_of is_utf8 chars lib.Utf8.encode digits encode_with
pairs bytes = value_of (bucket_of 8 (record { bytes = hex bytes; place = 0 }))

-- The lines for these labels, in diagnostic notation, of a message whose buckets are these.
unfoldable printed : List String → String → String → List ℕ
unfolding diagnostic pairs is_utf8 chars lib.Utf8.encode digits encode_with
printed labels protected unprotected = parameter_lines (map codes labels) (pairs protected) (pairs unprotected)

-- The alg 5 and the content type 60 in the protected bucket, and the kid '11' in the unprotected one. In the order of the request.
both_buckets : printed ("4" ∷ "1" ∷ "3" ∷ []) "a2010503183c" "a104423131" ≡ (lines ("unprotected 4: h'3131'" ∷ "protected 1: 5" ∷ "protected 3: 60" ∷ [])).text
unfolding printed
both_buckets = refl

-- An integer and a text are different labels, however they are encoded.
same_digits : printed ("\"42\"" ∷ "42" ∷ "5" ∷ []) "a3 19002a 00 78023432 01 01 05" "" ≡ (lines ("protected \"42\": 1" ∷ "protected 42: 0" ∷ "absent 5" ∷ [])).text
unfolding printed
same_digits = refl

-- A text ends no line.
no_line_of_a_text : printed ("\"x\"" ∷ []) "" "a16178 6f0a70726f74656374656420313a2035" ≡ (lines ("unprotected \"x\": \"\\u000aprotected 1: 5\"" ∷ [])).text
unfolding printed
no_line_of_a_text = refl

-- ---- after the verdict

-- The lines follow that of an authentic message, and no other.
unfoldable said : Option (List Pair) → Output
unfolding printed
said protected = said_with (codes "1" ∷ []) protected None (Authentic Mac0 Hmac256 2 44)

authentic : said (pairs "a10105") ≡ lines ("authentic mac0 alg 5 payload 2 taken 44" ∷ "protected 1: 5" ∷ [])
unfolding said
authentic = refl

refused : (protected unprotected : Option (List Pair)) → said_with (codes "1" ∷ []) protected unprotected (Refused (record { reason = BadAuth; place = 12 })) ≡ line "refused BadAuth at 12" statuses.Refused
unfolding digits
refused protected unprotected = refl
