-- What the program prints for messages that it shows, on examples, by computing.
use Rattle.std.specs.Prelude.{◌≡◌, ℕ, true, List, [], ◌∷◌, ◌++◌, replicate, codes, refl}
use Prim.Native.String.{String}
use Rattle.std.specs.Fmt.{digits}
use Rattle.std.specs.Str.{is_utf8, chars}
use Rattle.cose_head.specs.Head.{bare_head}
use Rattle.cose_head.specs.Item.{depth_of}
use Rattle.cose_head.specs.Placed.{look, children_of, items_from, head_of_item}
use Rattle.cose_head.specs.Reading.{read, head}
use Rattle.cose_map.specs.Bucket.{bucket_of}
use Rattle.cose_map.specs.Bucket.Both.{pair_faults}
use Rattle.cose_map.specs.Bucket.Form.{bucket_table}
use Rattle.cose_map.specs.Map.Read.{check_pairs}
use Rattle.cose_msg.specs.Message.{message}
use Rattle.cose_msg.specs.Reading.{with_head, with_string, with_item}
use Rattle.cose_msg.specs.declared.context.Wanted.TheVariants as wants
use Rattle.cose_text.specs.Diagnostic.{diagnostic}
use Rattle.cose_answers.specs.declared.limits.Limits.TheVariants.{Small}
use Rattle.cose_answers.specs.declared.reply.Status.TheVariants as statuses
use Rattle.cose_answers.specs.Printed.{Output, shown}
use Rattle.cose_answers.proofs.WorkedPrinted.{hex, line, plainly, Prints}
use Rattle.hex.specs.Hex.{encode_with}

unfoldable prints : (List ℕ → Output) → List ℕ → Output
unfolding diagnostic message with_head with_string with_item bucket_of bucket_table check_pairs pair_faults children_of items_from look head_of_item bare_head read head depth_of is_utf8 chars lib.Utf8.encode digits encode_with
prints said input = said input

-- Lines of a run that ends with status `Done`.
abbrev pub lines : List String → Output
lines texts = record { text = all texts; status = statuses.Done }
  where
    all : List String → List ℕ
    all [] = []
    all (text ∷ others) = codes text ++ codes "\n" ++ all others

-- Zeros for a tag of 32 bytes, and for a signature of 64.
abbrev after : String → ℕ → List ℕ
after front n = hex front ++ replicate n 0

shape_of_mac0 : prints (shown Small wants.Tagged plainly) (after "d18443a10105a0 426869 5820" 32) ≡ lines ("shape mac0 payload 2 auth 32 taken 44" ∷ "protected 01 05" ∷ [])
unfolding prints
shape_of_mac0 = refl

shape_of_sign1 : prints (shown Small wants.Tagged plainly) (after "d28443a10126a0 40 5840" 64) ≡ lines ("shape sign1 payload 0 auth 64 taken 74" ∷ "protected 01 26" ∷ [])
unfolding prints
shape_of_sign1 = refl

nested_value : prints (shown Small wants.Tagged plainly) (after "d18443a10105a10a81818100 426869 5820" 32) ≡
    lines ("shape mac0 payload 2 auth 32 taken 49" ∷ "protected 01 05" ∷ "unprotected 0a 81818100" ∷ [])
unfolding prints
nested_value = refl

-- In the order of the message, the bytes as they were received; no key is required, and no length of the tag.
order_of_message : prints (shown Small wants.Mac0 plainly) (hex "8447a2180a61780105a0 40 40") ≡ lines ("shape mac0 payload 0 auth 0 taken 12" ∷ "protected 180a 6178" ∷ "protected 01 05" ∷ [])
unfolding prints
order_of_message = refl

-- In diagnostic notation too: a text ends no line, and no quotes.
in_notation : prints (shown Small wants.Mac0 (record plainly { diagnostic = true })) (hex "844ba2180a6522203a0a0a0105a1186482f943c1a16101f6 40 40") ≡ lines (
    "shape mac0 payload 0 auth 0 taken 26" ∷ "protected 180a 6522203a0a0a 10: \"\\\" :\\u000a\\u000a\"" ∷ "protected 01 05 1: 5" ∷
    "unprotected 1864 82f943c1a16101f6 100: [float'43c1', {\"\\u0001\": null}]" ∷ [])
unfolding prints
in_notation = refl

-- The tag of a CWT may come first.
in_cwt : prints (shown Small wants.Tagged plainly) (hex "d83dd18443a10105a0 40 40") ≡ lines ("shape mac0 payload 0 auth 0 taken 11" ∷ "protected 01 05" ∷ [])
unfolding prints
in_cwt = refl

-- Of a message whose payload is elsewhere the place of the nil and the headers, where they are asked for. What follows isn't read.
without_payload : prints (shown Small wants.Tagged (record plainly { detached = true })) (hex "d18443a10105a0 f6") ≡ lines ("detached at 7" ∷ "protected 01 05" ∷ [])
unfolding prints
without_payload = refl

without_payload_in_notation : prints (shown Small wants.Tagged (record plainly { diagnostic = true; detached = true })) (hex "d28443a10126a104423131 f6 40 00") ≡
    lines ("detached at 11" ∷ "protected 01 26 1: -7" ∷ "unprotected 04 423131 4: h'3131'" ∷ [])
unfolding prints
without_payload_in_notation = refl

-- Any other input gives what it gives without the option.
that_has_its_payload : Prints (prints (shown Small wants.Tagged (record plainly { detached = true }))) (
    ("d18443a10105a0 40 40", lines ("shape mac0 payload 0 auth 0 taken 9" ∷ "protected 01 05" ∷ [])) ∷
    ("d18443a10105a0 40 40 f6", line "refused Trailing at 9" statuses.Refused) ∷
    ("d18443a10105a0", line "refused Truncated at 7" statuses.Refused) ∷
    ("d18443a10105f6 f6", line "refused NotMap at 6" statuses.Refused) ∷ [])
unfolding prints
that_has_its_payload = refl

-- The payload comes last, where it is asked for: one item in diagnostic notation, or bytes that are none.
with_payload : Prints (prints (shown Small wants.Mac0 (record plainly { payload = true }))) (
    ("8440a0 4ea2026565 72696b77041a5612aeb0 40", lines ("shape mac0 payload 14 auth 0 taken 19" ∷ "payload {2: \"erikw\", 4: 1444064944}" ∷ [])) ∷
    ("8440a0 43426869 40", lines ("shape mac0 payload 3 auth 0 taken 8" ∷ "payload h'6869'" ∷ [])) ∷
    ("8440a0 426869 40", lines ("shape mac0 payload 2 auth 0 taken 7" ∷ "payload h'6869' refused PastRoom at 0" ∷ [])) ∷
    ("8440a0 40 40", lines ("shape mac0 payload 0 auth 0 taken 5" ∷ "payload h'' refused PastRoom at 0" ∷ [])) ∷
    ("8440a0 420102 40", lines ("shape mac0 payload 2 auth 0 taken 7" ∷ "payload h'0102' refused Trailing at 1" ∷ [])) ∷
    ("8440a0 49818181818181818100 40", lines ("shape mac0 payload 9 auth 0 taken 14" ∷ "payload [[[[[[[[0]]]]]]]]" ∷ [])) ∷
    ("8440a0 4a81818181818181818100 40", lines ("shape mac0 payload 10 auth 0 taken 15" ∷ "payload h'81818181818181818100' refused TooDeep at 8" ∷ [])) ∷ [])
unfolding prints
with_payload = refl

-- It has as much room as claims. Where it is elsewhere, this is said.
about_the_payload : Prints (prints (shown Small wants.Mac0 (record plainly { detached = true; payload = true }))) (
    ("8440a0 591000", line "refused Truncated at 6" statuses.Refused) ∷
    ("8440a0 591001", line "refused PayloadTooLong at 3" statuses.Refused) ∷
    ("8443a10105a0 f6", lines ("detached at 6" ∷ "protected 01 05" ∷ "payload elsewhere" ∷ [])) ∷
    ("8440a0 41f6 40 00", line "refused Trailing at 6" statuses.Refused) ∷ [])
unfolding prints
about_the_payload = refl

-- The limits are those of `verify`, and no label is understood in addition to the standard's.
at_the_limits : Prints (prints (shown Small wants.Tagged plainly)) (
    ("d184590400", line "refused Truncated at 5" statuses.Refused) ∷
    ("d184590401", line "refused PastRoom at 2" statuses.Refused) ∷
    ("d1844aa10a8181818181818100", line "refused Truncated at 13" statuses.Refused) ∷
    ("d1844ba10a818181818181818100", line "refused TooDeep at 12" statuses.Refused) ∷
    ("d18443a10105a10a5903fb", line "refused Truncated at 11" statuses.Refused) ∷
    ("d18443a10105a10a5903fc", line "refused PastRoom at 8" statuses.Refused) ∷
    ("d18443a10105a10a8181818181818100", line "refused Truncated at 16" statuses.Refused) ∷
    ("d18443a10105a10a818181818181818100", line "refused TooDeep at 15" statuses.Refused) ∷
    ("d18443a10105a05b00ffffffffffffff", line "refused Truncated at 16" statuses.Refused) ∷
    ("d18443a10105a05b0100000000000000", line "refused PayloadTooLong at 7" statuses.Refused) ∷
    ("d1844aa301050281182a182a00a0", line "refused CritUnknown at 8" statuses.Refused) ∷ [])
unfolding prints
at_the_limits = refl

not_shown : Prints (prints (shown Small wants.Tagged plainly)) (
    ("", line "refused Truncated at 0" statuses.Refused) ∷
    ("d18443a10105a0 40 40 ff", line "refused Trailing at 9" statuses.Refused) ∷
    ("8443a10105a0 40 40", line "refused WrongTag at 0" statuses.Refused) ∷
    ("d18443a10105a0 f6", line "refused Detached at 7" statuses.Refused) ∷
    ("d18443a10105a0 426869 5a00010000", line "refused BadAuthLength at 10" statuses.Refused) ∷ [])
unfolding prints
not_shown = refl
