-- What the program prints for a sequence, on examples, by computing.
use Rattle.std.specs.Prelude.{◌≡◌, ℕ, zero, suc, List, [], ◌∷◌, None, refl}
use Rattle.std.specs.Fmt.{digits}
use Rattle.std.specs.Str.{is_utf8, chars}
use Rattle.cose_head.specs.Head.{bare_head}
use Rattle.cose_head.specs.Item.{depth_of}
use Rattle.cose_head.specs.Placed.{look, children_of, items_from, head_of_item}
use Rattle.cose_head.specs.Reading.{read, head}
use Rattle.cose_head.specs.declared.algorithm.Alg.TheVariants.{Hmac256}
use Rattle.cose_head.specs.declared.kind.Kind.TheVariants.{Mac0}
use Rattle.cose_head.specs.declared.reason.Reason.TheVariants.{BadAuth, NoKey}
use Rattle.cose_map.specs.Bucket.{bucket_of}
use Rattle.cose_map.specs.Bucket.Both.{pair_faults}
use Rattle.cose_map.specs.Bucket.Form.{bucket_table}
use Rattle.cose_map.specs.Choice.{chosen}
use Rattle.cose_map.specs.Key.{key_of}
use Rattle.cose_map.specs.Key.Form.{key_table}
use Rattle.cose_map.specs.Key.Material.{material_of}
use Rattle.cose_map.specs.KeySet.{keys_of}
use Rattle.cose_map.specs.Map.Read.{check_pairs}
use Rattle.cose_msg.specs.declared.context.Wanted.TheVariants as wants
use Rattle.cose_msg.specs.declared.verdict.Verdict.TheVariants.{Authentic}
use Rattle.cose_msg.specs.Answer.{Answer, decided, refused}
use Rattle.cose_msg.specs.Message.{message}
use Rattle.cose_msg.specs.Phases.{nothing_so_far}
use Rattle.cose_msg.specs.Reading.{cut, settled, with_head, with_string, with_item}
use Rattle.cose_answers.specs.declared.reply.Status.TheVariants as statuses
use Rattle.cose_answers.specs.Printed.{Output, output_of}
use Rattle.cose_answers.specs.Sequence.{Reads, front_size, messages_said, nothing_said, sequence_said, verified_sequence}
use Rattle.cose_answers.proofs.WorkedPrinted.{Prints, checks_for, line, plain}

-- ---- under the key set of one key

sequence : List ℕ → Output
unfolding front_size messages_said keys_of key_of key_table material_of message with_head with_string with_item bucket_of bucket_table check_pairs pair_faults chosen children_of items_from look head_of_item bare_head read head depth_of is_utf8 chars lib.Utf8.encode digits
sequence input = verified_sequence (checks_for plain [] wants.Tagged None) input

-- A message that is refused before its end is the last, whatever follows it. None is a sequence.
refused_first : Prints sequence (
    ("", nothing_said) ∷
    ("d0", line "at 0\nrefused Encrypted at 0\nended at 0: the next message can't be found" statuses.Refused) ∷
    ("d0d0", line "at 0\nrefused Encrypted at 0\nended at 0: the next message can't be found" statuses.Refused) ∷
    ("d18443a10105a04268", line "at 0\nrefused Truncated at 9\nended at 0: the next message can't be found" statuses.Refused) ∷ [])
unfolding sequence digits
refused_first = refl

-- ---- messages of two bytes, the second of which is 1 where it is authentic, 0 where its tag isn't good, and otherwise without a key

abbrev judged : ℕ → Answer
judged zero = refused BadAuth 1
judged (suc zero) = decided (Authentic Mac0 Hmac256 0 2)
judged (suc (suc n)) = refused NoKey 0

abbrev pairs : Reads
pairs [] = cut nothing_so_far 1 0
pairs (one ∷ []) = cut nothing_so_far 1 1
pairs (one ∷ other ∷ more) = settled nothing_so_far (judged other)

abbrev in_pairs : List ℕ → Output
in_pairs input = sequence_said pairs (λ message. output_of (pairs message).answer) input

three : in_pairs (7 ∷ 1 ∷ 7 ∷ 1 ∷ 7 ∷ 1 ∷ []) ≡
    line "at 0\nauthentic mac0 alg 5 payload 0 taken 2\nat 2\nauthentic mac0 alg 5 payload 0 taken 2\nat 4\nauthentic mac0 alg 5 payload 0 taken 2" statuses.Done
unfolding front_size messages_said digits
three = refl

another_tag : in_pairs (7 ∷ 1 ∷ 7 ∷ 0 ∷ 7 ∷ 1 ∷ []) ≡
    line "at 0\nauthentic mac0 alg 5 payload 0 taken 2\nat 2\nrefused BadAuth at 1\nat 4\nauthentic mac0 alg 5 payload 0 taken 2" statuses.Refused
unfolding front_size messages_said digits
another_tag = refl

no_key : in_pairs (7 ∷ 1 ∷ 7 ∷ 2 ∷ 7 ∷ 1 ∷ []) ≡
    line "at 0\nauthentic mac0 alg 5 payload 0 taken 2\nat 2\nrefused NoKey at 0\nended at 2: the next message can't be found" statuses.Refused
unfolding front_size messages_said digits
no_key = refl

cut_short : in_pairs (7 ∷ 1 ∷ 7 ∷ []) ≡
    line "at 0\nauthentic mac0 alg 5 payload 0 taken 2\nat 2\nrefused Truncated at 1\nended at 2: the next message can't be found" statuses.Refused
unfolding front_size messages_said digits
cut_short = refl
