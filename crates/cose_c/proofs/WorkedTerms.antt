-- The arguments and the numbers of a call, on examples, by computing.
use Rattle.std.specs.Prelude.{ℕ, pos, negsuc, List, [], ◌∷◌, map, replicate, Some, None, Ok, Err, refl, ◌≡◌}
use Rattle.cose_head.specs.declared.algorithm.Alg.TheVariants.{Hmac256, Es256}
use Rattle.cose_head.specs.declared.kind.Kind.TheVariants as kinds
use Rattle.cose_head.specs.declared.reason.Reason.TheVariants.{BadAuth, BadKeySet, Trailing}
use Rattle.std.specs.Str.{is_utf8, chars}
use Rattle.cose_head.specs.Head.{bare_head}
use Rattle.cose_head.specs.Item.{depth_of}
use Rattle.cose_head.specs.Reading.{read, head}
use Rattle.cose_head.specs.Placed.{look, children_of, items_from, head_of_item}
use Rattle.cose_map.specs.Map.Read.{Read, check_pairs}
use Rattle.cose_map.specs.Key.{key_of}
use Rattle.cose_map.specs.Key.Form.{key_table}
use Rattle.cose_map.specs.Key.Material.{material_of}
use Rattle.cose_map.specs.Key.Value.{KeyValue}
use Rattle.cose_map.specs.KeySet.{keys_of}
use Rattle.cose_c.specs.Item.{item_numbers, no_item}
use Rattle.cose_c.specs.Shape.{no_keys}
use Rattle.cose_msg.specs.declared.context.Wanted.TheVariants.{Mac0, Sign1, Tagged}
use Rattle.cose_msg.specs.declared.verdict.Verdict.TheVariants.{Authentic}
use Rattle.cose_msg.specs.Answer.{decided, refused}
use Rattle.cose_c.specs.Numbers.{accepted_as, always_authentic, one_message, plain_status, unless_signed, verdict_numbers}
use Rattle.cose_c.specs.Terms.{kinds_given, setting_given}

-- The numbers that name kinds, and the numbers next to them.
kinds_named : map (kinds_given []) (0 ∷ 1 ∷ 16 ∷ 17 ∷ 18 ∷ 19 ∷ 255 ∷ []) ≡
    Ok Tagged ∷ Err (plain_status 12) ∷ Err (plain_status 12) ∷ Ok Mac0 ∷ Ok Sign1 ∷ Err (plain_status 12) ∷ Err (plain_status 12) ∷ []
kinds_named = refl

-- A fault of the arguments has precedence over one of the keys, and the number of the kinds over the external data.
abbrev too_long : List ℕ
too_long = replicate 65536 0

refused_set : setting_given (Err (record { reason = BadKeySet; place = 0 })) [] 17 ≡ Err (record { status = 4; reason = 31; place = 0 })
refused_set = refl

refused_number : setting_given (Err (record { reason = BadKeySet; place = 0 })) [] 16 ≡ Err (plain_status 12)
refused_number = refl

-- A COSE_Mac0 is authentic, and a COSE_Sign1 signed, in one call; and both are authentic where the caller has passed its decision.
authentic_mac : verdict_numbers unless_signed 6 (decided (Authentic kinds.Mac0 Hmac256 4 45)) ≡ accepted_as 1 6 kinds.Mac0 Hmac256 4 45
authentic_mac = refl

signed : verdict_numbers unless_signed 6 (decided (Authentic kinds.Sign1 Es256 4 77)) ≡
    record { status = 2; reason = 0; kind = 18; alg = negsuc 6; place = 0; payload_at = 6; payload_length = 4; taken = 77 }
signed = refl

decided_by_caller : verdict_numbers always_authentic 0 (decided (Authentic kinds.Sign1 Es256 4 77)) ≡
    record { status = 1; reason = 0; kind = 18; alg = negsuc 6; place = 0; payload_at = 0; payload_length = 4; taken = 77 }
decided_by_caller = refl

-- A refusal has no kind, no payload and no length.
bad_auth : verdict_numbers unless_signed 0 (refused BadAuth 10) ≡
    record { status = 3; reason = 28; kind = 0; alg = pos 0; place = 10; payload_at = 0; payload_length = 0; taken = 0 }
bad_auth = refl

-- A message is all bytes, and one more refuses it.
whole : one_message 45 (decided (Authentic kinds.Mac0 Hmac256 4 45)) ≡ decided (Authentic kinds.Mac0 Hmac256 4 45)
whole = refl

followed : one_message 46 (decided (Authentic kinds.Mac0 Hmac256 4 45)) ≡ refused Trailing 45
followed = refl

refused_already : one_message 46 (refused BadAuth 10) ≡ refused BadAuth 10
refused_already = refl

-- The key set under which shapes are read has no key.
unfoldable keys_read : List ℕ → Read (List KeyValue)
unfolding keys_of key_of key_table material_of check_pairs children_of items_from look head_of_item bare_head read head depth_of is_utf8 chars lib.Utf8.encode
keys_read bytes = keys_of bytes

without_keys : keys_read no_keys ≡ Ok []
unfolding keys_read
without_keys = refl

-- The text string "hi" at place 7 has three bytes, of which two follow its head; the integer -5 is one byte; and where nothing is, zeros.
text_item : item_numbers (Some (record { bytes = 98 ∷ 104 ∷ 105 ∷ []; place = 7 })) ≡ record { at = 7; length = 3; content_at = 8; number = 2; present = 1; major = 3 }
unfolding head_of_item bare_head
text_item = refl

negative_item : item_numbers (Some (record { bytes = 36 ∷ []; place = 0 })) ≡ record { at = 0; length = 1; content_at = 1; number = 4; present = 1; major = 1 }
unfolding head_of_item bare_head
negative_item = refl

no_item_here : item_numbers None ≡ no_item
no_item_here = refl
