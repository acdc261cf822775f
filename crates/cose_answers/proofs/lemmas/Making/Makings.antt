-- A message that was made, and what is printed for it.
use Rattle.std.proofs.Common.{◌≡◌, ℕ, ◌≤◌, List, length, take, Option, Some, None, Ok, refl, sym, ap, subst, ◌∙◌, arith, length-append}
use Rattle.std.specs.Io.KnownBytes.{Appends, Consumes}
use Rattle.std.proofs.lemmas.Bool.{le-ltb}
use Rattle.std.proofs.Math.Seq.{take-append_seam}
use Rattle.cose_head.specs.declared.algorithm.Alg.{Alg}
use Rattle.cose_map.specs.Key.Value.{KeyValue}
use Rattle.cose_map.specs.Map.Read.{Read}
use Rattle.cose_msg.specs.Make.{Makes, make_fault}
use Rattle.cose_msg.specs.Making.{made}
use Rattle.cose_msg.specs.Message.{secret_of}
use Rattle.cose_answers.specs.declared.reply.Status.TheVariants as statuses
use Rattle.cose_answers.specs.Printed.{Output, Prints, made_under, message_made, unless_faulty}
use Rattle.cose_answers.specs.WriteSink.{held_through}
use Rattle.cose_answers.proofs.lemmas.Payloads.WrittenPieces.{lent}

-- The bytes that were taken are the first ones of the input, as many as the payload has.
pub taken_first : (come_after : Option (List ℕ)) (bytes taken : List ℕ) → Consumes (Some bytes) come_after taken → (take (length taken) bytes ≡ taken) × (length taken ≤ length bytes)
taken_first None bytes taken consumes = absurd consumes
taken_first (Some rest) bytes taken consumes = (
  ap (take (length taken)) consumes ∙ take-append_seam taken rest,
  rw (consumes) (omega (arith, length-append taken rest)),
)

abbrev message_of : KeyValue → Alg → Option (List ℕ) → List ℕ → List ℕ → Output
message_of key alg kid aad payload = record { text = made alg (secret_of key.material) kid aad payload; status = statuses.Done }

whole_message : (key : KeyValue) (alg : Alg) (kid : Option (List ℕ)) (aad bytes taken : List ℕ) → take (length taken) bytes ≡ taken → length taken ≤ length bytes →
    message_made key alg (length taken) kid aad bytes ≡ message_of key alg kid aad taken
whole_message key alg kid aad bytes taken first enough =
    rw (le-ltb (length bytes) (length taken) enough, first) refl

made_output : (read : Read KeyValue) (key : KeyValue) (alg : Alg) (payload_length : ℕ) (kid : Option (List ℕ)) (aad bytes taken : List ℕ) →
    read ≡ Ok key → make_fault alg key kid aad payload_length ≡ None → take (length taken) bytes ≡ taken → length taken ≤ length bytes → length taken ≡ payload_length →
    made_under read alg payload_length kid aad bytes ≡ message_of key alg kid aad taken
made_output read key alg payload_length kid aad bytes taken d fault first enough count =
    let whole : message_made key alg payload_length kid aad bytes ≡ message_of key alg kid aad taken =
    subst (λ (n : ℕ). message_made key alg n kid aad bytes ≡ message_of key alg kid aad taken) count (whole_message key alg kid aad bytes taken first enough) in
    let by_key : made_under read alg payload_length kid aad bytes ≡ unless_faulty (make_fault alg key kid aad payload_length) (message_made key alg payload_length kid aad bytes) =
    ap (λ (t : Read KeyValue). made_under t alg payload_length kid aad bytes) d in
    by_key ∙ ap (λ (t : Option _). unless_faulty t (message_made key alg payload_length kid aad bytes)) fault ∙ whole

pub makes_printed : (read : Read KeyValue) (key : KeyValue) (alg : Alg) (payload_length : ℕ) (kid : Option (List ℕ)) (aad bytes : List ℕ) {come come_after contents contents_after : Option (List ℕ)} (begun_name name : ℕ) (begun written given : Option (List ℕ)) {ended : _} {n : ℕ} {taken : List ℕ} →
    read ≡ Ok key → make_fault alg key kid aad payload_length ≡ None → come ≡ Some bytes → contents ≡ held_through begun_name begun →
    Makes (made alg (secret_of key.material) kid aad) payload_length come come_after ended contents contents_after (Ok n) taken →
    held_through name written ≡ contents_after → (name ≡ begun_name → given ≡ written) →
    Prints (made_under read alg payload_length kid aad bytes) begun given statuses.Done
makes_printed read key alg payload_length kid aad bytes {come} {come_after} {contents} {contents_after} begun_name name begun written given {ended} {n} {taken} d fault told held makes holds found done =
    let message : List ℕ = made alg (secret_of key.material) kid aad taken in
    let consumed : Consumes (Some bytes) come_after taken = subst (λ (t : Option (List ℕ)). Consumes t come_after taken) told makes.bytes in
    let first = taken_first come_after bytes taken consumed in
    let through : Appends (held_through begun_name begun) (held_through name written) message = rw holds (rw (sym held) makes.grows.0) in
    let grown : Appends begun given message = lent begun written given message begun_name name found through in
    let e = made_output read key alg payload_length kid aad bytes taken d fault first.0 first.1 makes.count in
    subst (λ (o : Output). (statuses.Done ≡ o.status) × Appends begun given o.text) (sym e) (refl, grown)
