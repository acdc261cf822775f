-- What the program prints at the large limits, and at the small ones, on examples, by computing.
use Rattle.std.specs.Prelude.{◌≡◌, ℕ, true, List, [], ◌∷◌, ◌++◌, replicate, None, pos, refl}
use Rattle.std.specs.List.{concat}
use Rattle.std.specs.Fmt.{digits}
use Rattle.std.specs.Str.{is_utf8, chars}
use Rattle.cose_head.specs.Head.{bare_head}
use Rattle.cose_head.specs.Item.{depth_of}
use Rattle.cose_head.specs.Placed.{look, children_of, items_from, head_of_item}
use Rattle.cose_head.specs.Reading.{read, head}
use Rattle.cose_map.specs.Bucket.{bucket_of}
use Rattle.cose_map.specs.Bucket.Both.{pair_faults}
use Rattle.cose_map.specs.Bucket.Form.{bucket_table}
use Rattle.cose_map.specs.Choice.{chosen}
use Rattle.cose_map.specs.Key.{key_of}
use Rattle.cose_map.specs.Key.Form.{key_table}
use Rattle.cose_map.specs.Key.Material.{material_of}
use Rattle.cose_map.specs.KeySet.{keys_of}
use Rattle.cose_map.specs.Map.Read.{check_pairs}
use Rattle.cose_msg.specs.declared.context.Wanted.TheVariants as wants
use Rattle.cose_msg.specs.Message.{message}
use Rattle.cose_msg.specs.Reading.{with_head, with_string, with_item}
use Rattle.cose_answers.specs.Admitted.{program_policy}
use Rattle.cose_answers.specs.declared.limits.Limits.{Limits}
use Rattle.cose_answers.specs.declared.limits.Limits.TheVariants.{Small, Large}
use Rattle.cose_answers.specs.declared.reply.Status.TheVariants as statuses
use Rattle.cose_answers.specs.Printed.{Output, admitted_under, digested_under, shown, verified_under}
use Rattle.cose_answers.proofs.WorkedAdmitted.{nothing}
use Rattle.cose_answers.proofs.WorkedPrinted.{Prints, briefly, checks_within, hex, line, plain, plainly, point}

unfoldable prints : (List ℕ → Output) → List ℕ → Output
unfolding keys_of key_of key_table material_of message with_head with_string with_item bucket_of bucket_table check_pairs pair_faults chosen children_of items_from look head_of_item bare_head read head depth_of is_utf8 chars lib.Utf8.encode digits
prints said input = said input

-- To verify a message, and to admit a token at the time 0, within limits.
abbrev verifying : Limits → List ℕ → List ℕ → Output
verifying limits keys = verified_under (checks_within limits keys [] wants.Tagged None) None

abbrev admitting : Limits → List ℕ → Output
admitting limits = admitted_under (checks_within limits plain [] wants.Tagged None) (program_policy (pos 0) 0 None) (nothing 0 0) briefly

-- A header bucket has at most 65,535 bytes and nests at most 16 deep.
at_the_large_limits : Prints (prints (verifying Large plain)) (
    ("d18459ffff", line "refused Truncated at 5" statuses.Refused) ∷
    ("d1845a00010000", line "refused PastRoom at 2" statuses.Refused) ∷
    ("d18452a10a81818181818181818181818181818100", line "refused Truncated at 21" statuses.Refused) ∷
    ("d18453a10a8181818181818181818181818181818100", line "refused TooDeep at 20" statuses.Refused) ∷
    ("d18443a10105a10a59fffa", line "refused Truncated at 11" statuses.Refused) ∷
    ("d18443a10105a10a59fffb", line "refused PastRoom at 8" statuses.Refused) ∷
    ("d18443a10105a10a81818181818181818181818181818100", line "refused Truncated at 24" statuses.Refused) ∷
    ("d18443a10105a10a8181818181818181818181818181818100", line "refused TooDeep at 23" statuses.Refused) ∷
    ("d18443a10105a05b00ffffffffffffff", line "refused Truncated at 16" statuses.Refused) ∷
    ("d18443a10105a05b0100000000000000", line "refused PayloadTooLong at 7" statuses.Refused) ∷ [])
unfolding prints
at_the_large_limits = refl

shown_at_the_large_limits : Prints (prints (shown Large wants.Tagged plainly)) (
    ("d18459ffff", line "refused Truncated at 5" statuses.Refused) ∷
    ("d1845a00010000", line "refused PastRoom at 2" statuses.Refused) ∷
    ("d18452a10a81818181818181818181818181818100", line "refused Truncated at 21" statuses.Refused) ∷
    ("d18453a10a8181818181818181818181818181818100", line "refused TooDeep at 20" statuses.Refused) ∷ [])
unfolding prints
shown_at_the_large_limits = refl

-- A payload that is shown has at most as many bytes as the claims of a token.
payload_at_the_large_limits : Prints (prints (shown Large wants.Tagged (record plainly { payload = true }))) (
    ("d18443a10105a059ffff", line "refused Truncated at 10" statuses.Refused) ∷
    ("d18443a10105a05a00010000", line "refused PayloadTooLong at 7" statuses.Refused) ∷ [])
unfolding prints
payload_at_the_large_limits = refl

compared_at_the_large_limits : Prints (prints (digested_under (checks_within Large point [] wants.Sign1 None) None)) (
    ("d28459ffff", line "refused Truncated at 5" statuses.Refused) ∷
    ("d2845a00010000", line "refused PastRoom at 2" statuses.Refused) ∷
    ("d28452a10a81818181818181818181818181818100", line "refused Truncated at 21" statuses.Refused) ∷
    ("d28453a10a8181818181818181818181818181818100", line "refused TooDeep at 20" statuses.Refused) ∷ [])
unfolding prints
compared_at_the_large_limits = refl

-- The claims of a token have at most 4,096 bytes, or 65,535.
claims_at_the_limits : Prints (prints (admitting Small)) (
    ("d18443a10105a0591000", line "refused message Truncated at 10" statuses.Refused) ∷
    ("d18443a10105a0591001", line "refused message PayloadTooLong at 7" statuses.Refused) ∷ [])
unfolding prints
claims_at_the_limits = refl

claims_at_the_large_limits : Prints (prints (admitting Large)) (
    ("d18443a10105a059ffff", line "refused message Truncated at 10" statuses.Refused) ∷
    ("d18443a10105a05a00010000", line "refused message PayloadTooLong at 7" statuses.Refused) ∷
    ("d1845a00010000", line "refused message PastRoom at 2" statuses.Refused) ∷ [])
unfolding prints
claims_at_the_large_limits = refl

-- A key set has at most 16 usable keys, or 256. Its items nest at most 8 deep.
abbrev set_of_16 : List ℕ
set_of_16 = hex "90" ++ concat (replicate 16 plain)

abbrev set_of_17 : List ℕ
set_of_17 = hex "91" ++ concat (replicate 17 plain)

sixteen_keys : prints (verifying Small set_of_16) [] ≡ line "refused Truncated at 0" statuses.Refused
unfolding prints
sixteen_keys = refl

seventeen_keys : prints (verifying Small set_of_17) [] ≡ line "fault keys BadKeySet at 0" statuses.Fault
unfolding prints
seventeen_keys = refl

many_keys : prints (verifying Large set_of_17) [] ≡ line "refused Truncated at 0" statuses.Refused
unfolding prints
many_keys = refl

nested_keys : prints (verifying Large (hex "818181818181818181a0")) [] ≡ line "fault keys TooDeep at 8" statuses.Fault
unfolding prints
nested_keys = refl
