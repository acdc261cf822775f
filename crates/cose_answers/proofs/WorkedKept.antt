-- The payload that goes into a new file, on examples, by computing (RFC 9052 sections 4.2 and 6.2). The MAC is left as it is
-- defined.
use Rattle.std.specs.Prelude.{◌≡◌, ℕ, List, [], ◌∷◌, ◌++◌, None, map, refl}
use Rattle.cose_head.specs.Head.{bare_head}
use Rattle.cose_head.specs.Item.{depth_of}
use Rattle.cose_head.specs.Placed.{look, children_of, items_from, head_of_item}
use Rattle.cose_head.specs.Reading.{read, head}
use Rattle.cose_map.specs.Bucket.{bucket_of}
use Rattle.cose_map.specs.Bucket.Both.{pair_faults}
use Rattle.cose_map.specs.Bucket.Form.{bucket_table}
use Rattle.cose_map.specs.Choice.{chosen}
use Rattle.cose_map.specs.Key.{key_of}
use Rattle.cose_map.specs.Key.Form.{key_table}
use Rattle.cose_map.specs.Key.Material.{material_of}
use Rattle.cose_map.specs.KeySet.{keys_of}
use Rattle.cose_map.specs.Map.Read.{check_pairs}
use Rattle.cose_msg.specs.declared.context.Wanted.TheVariants as wants
use Rattle.cose_msg.specs.Message.{message}
use Rattle.cose_msg.specs.Reading.{with_head, with_string, with_item}
use Rattle.cose_answers.specs.PayloadTo.{payload_under}
use Rattle.cose_answers.proofs.WorkedPrinted.{any, checks_for, hex, plain}

unfoldable payload : List ℕ → List ℕ → List ℕ
unfolding keys_of key_of key_table material_of message with_head with_string with_item bucket_of bucket_table check_pairs pair_faults chosen children_of items_from look head_of_item bare_head read head depth_of
payload keys input = payload_under (checks_for keys [] wants.Tagged None) input

-- What is there of it, up to its end, and then all of it. Nothing of a message that has none, nor under keys that are refused.
parts : map (λ input. payload plain (hex input)) ("" ∷ "d18443a10105a0" ∷ "d18443a10105a042" ∷ "d18443a10105a04268" ∷ "d18443a10105a0426869" ∷ "d18443a10105a042686958200102" ∷ "d18443a10105a0f6" ∷ [])
    ≡ map hex ("" ∷ "" ∷ "" ∷ "68" ∷ "6869" ∷ "6869" ∷ "" ∷ [])
unfolding payload
parts = refl

refused_keys : (input : List ℕ) → payload (hex "80") input ≡ []
unfolding payload
refused_keys input = refl

-- Of a whole message it is the same whatever the tag is and whatever follows.
whole : (byte : ℕ → ℕ) → payload plain (hex "d18443a10105a0426869 5820" ++ any byte 32) ≡ hex "6869"
unfolding payload
whole byte = refl

followed : (byte : ℕ → ℕ) → payload plain (hex "d18443a10105a0426869 5820" ++ (any byte 32 ++ hex "ff")) ≡ hex "6869"
unfolding payload
followed byte = refl
