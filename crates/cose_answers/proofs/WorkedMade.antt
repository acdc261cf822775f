-- What the program prints for messages that it makes, on examples, by computing. The MAC is left as it is defined.
use Rattle.std.specs.Prelude.{◌≡◌, ℕ, List, [], ◌∷◌, replicate, Option, Some, None, refl}
use Rattle.std.specs.Fmt.{digits}
use Rattle.std.specs.Str.{is_utf8, chars}
use Rattle.cose_head.specs.Head.{bare_head, shortest_head}
use Rattle.cose_head.specs.Item.{depth_of}
use Rattle.cose_head.specs.Placed.{look, children_of, items_from, head_of_item}
use Rattle.cose_head.specs.Reading.{read, head}
use Rattle.cose_head.specs.Shortest.{shortest, shortest_all}
use Rattle.cose_head.specs.declared.algorithm.Alg.{Alg}
use Rattle.cose_head.specs.declared.algorithm.Alg.TheVariants.{Hmac64, Hmac256, Hmac512}
use Rattle.cose_map.specs.Key.{key_of}
use Rattle.cose_map.specs.Key.Form.{key_table}
use Rattle.cose_map.specs.Key.Material.{material_of}
use Rattle.cose_map.specs.Map.Read.{check_pairs}
use Rattle.cose_msg.specs.Making.{made}
use Rattle.cose_answers.specs.declared.reply.Status.TheVariants as statuses
use Rattle.cose_answers.specs.Printed.{Output, made_under}
use Rattle.cose_answers.proofs.WorkedPrinted.{hex, line, Prints, plain, jefe}

unfoldable prints : (List ℕ → Output) → List ℕ → Output
unfolding key_of key_table material_of check_pairs children_of items_from look head_of_item bare_head read head depth_of is_utf8 chars lib.Utf8.encode digits
prints said input = said input

-- To make a message under this key.
abbrev making : Alg → List ℕ → ℕ → Option (List ℕ) → List ℕ → Output
making alg key length kid = made_under (key_of (record { bytes = key; place = 0 })) alg length kid []

-- The message that is made, whose bytes are in the examples of cose_msg.
abbrev made_of : Alg → Option (List ℕ) → List ℕ → Output
made_of alg kid payload = record { text = made alg jefe kid [] payload; status = statuses.Done }

-- Further input isn't read.
messages_made : prints (making Hmac256 plain 2 None) (hex "6869") ∷ prints (making Hmac256 plain 2 None) (hex "6869ff")
    ∷ prints (making Hmac256 plain 2 (Some (hex "31"))) (hex "6869") ∷ prints (making Hmac512 plain 0 None) [] ∷ [] ≡
    made_of Hmac256 None (hex "6869") ∷ made_of Hmac256 None (hex "6869") ∷ made_of Hmac256 (Some (hex "31")) (hex "6869") ∷ made_of Hmac512 None [] ∷ []
unfolding prints
messages_made = refl

-- The input ends before the payload's length.
short_payload : prints (making Hmac256 plain 2 None) (hex "68") ≡ record { text = hex "d18443a10105a0 4268"; status = statuses.Fault }
unfolding prints shortest shortest_all shortest_head
short_payload = refl

not_made : Prints (λ key. prints (making Hmac64 key 0 None) []) (
    ("a30104030520444a656665", line "fault make WrongKey" statuses.Fault) ∷
    ("a3010404810a204161", line "fault make WrongKey" statuses.Fault) ∷
    ("a201012006", line "fault key UnknownKey at 0" statuses.Fault) ∷
    ("", line "fault key PastRoom at 0" statuses.Fault) ∷ [])
unfolding prints
not_made = refl

long_identifier : prints (making Hmac256 plain 2 (Some (replicate 256 0x61))) (hex "6869") ≡ line "fault make TooLong" statuses.Fault
unfolding prints
long_identifier = refl
