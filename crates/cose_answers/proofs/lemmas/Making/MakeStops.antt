-- What `make` has written of a message where it stopped.
use Rattle.std.proofs.Common.{◌≡◌, ◌⊎◌, ℕ, ◌≤◌, Bool, true, false, List, [], ◌∷◌, ◌++◌, length, take, drop, nat_lt, Option, Some, None, Ok, Err, Result, inl, inr, refl, sym, ap, subst, ◌∙◌, arith, length-append, append_assoc, append-nil, take-append-drop}
use Rattle.std.specs.Io.KnownBytes.{Appends}
use Rattle.std.proofs.lemmas.Bool.{ltb-false}
use Rattle.std.proofs.lemmas.List.{take-take, length-take-le, take-append-le}
use Rattle.std.proofs.Math.Seq.{take-append_seam}
use Rattle.cose_head.specs.declared.algorithm.Alg.{Alg}
use Rattle.cose_map.specs.Key.Value.{KeyValue}
use Rattle.cose_map.specs.Map.Read.{Read}
use Rattle.cose_msg.specs.declared.make.MakeFault.{MakeFault}
use Rattle.cose_msg.specs.declared.make.MakeFault.TheVariants as faults
use Rattle.cose_msg.specs.Make.{Makes, TakesPayload, TakesSome, Grows, make_fault}
use Rattle.cose_msg.specs.Making.{made}
use Rattle.cose_msg.specs.Message.{secret_of}
use Rattle.cose_msg.specs.Sink.{AppendsFront, IsPrefix}
use Rattle.cose_answers.specs.declared.reply.Status.TheVariants as statuses
use Rattle.cose_answers.specs.declared.fault.Fault.{Fault}
use Rattle.cose_answers.specs.declared.fault.Fault.TheVariants as program
use Rattle.cose_answers.specs.Faults.{WritesLine}
use Rattle.cose_answers.specs.MakeStops.{AgreeInFront, LeavesPrefix, StopsMaking}
use Rattle.cose_answers.specs.Printed.{Output, made_under, message_made, unless_faulty}
use Rattle.cose_answers.specs.WriteSink.{held_through}
use Rattle.cose_answers.proofs.lemmas.Payloads.WrittenPieces.{lent, whole_front}

-- What was taken are the first bytes of the input.
first_taken : (bytes taken : List ℕ) (come_after : Option (List ℕ)) (result : Result ℕ MakeFault) → TakesPayload (Some bytes) come_after result taken → IsPrefix bytes taken
first_taken bytes taken None (Ok n) takes = absurd takes
first_taken bytes taken (Some rest) (Ok n) takes = (rest, takes)
first_taken bytes taken None (Err faults.ShortPayload) takes = absurd takes
first_taken bytes taken (Some rest) (Err faults.ShortPayload) takes = (rest, takes)
first_taken bytes taken after (Err faults.WrongKey) takes = absurd takes
first_taken bytes taken None (Err faults.Intake) takes = takes
first_taken bytes taken (Some rest) (Err faults.Intake) takes = (rest, takes)
first_taken bytes taken None (Err faults.Sink) takes = absurd takes
first_taken bytes taken (Some rest) (Err faults.Sink) takes = (rest, takes)
first_taken bytes taken after (Err faults.TooLong) takes = absurd takes

no_more : (n count : ℕ) (ended : Bool) (come_after : Option (List ℕ)) (result : Result ℕ MakeFault) → TakesSome n ended come_after result count → count ≤ n
no_more n count ended after (Ok m) some = omega (arith, some)
no_more n count ended after (Err faults.ShortPayload) some = let few = some.0 in omega (arith, few)
no_more n count ended after (Err faults.WrongKey) some = absurd some
no_more n count ended after (Err faults.Intake) some = omega (arith, some)
no_more n count ended after (Err faults.Sink) some = some
no_more n count ended after (Err faults.TooLong) some = absurd some

-- A payload of this length that begins with as many bytes is these.
same_payload : (taken rest : List ℕ) → length (taken ++ rest) ≡ length taken → taken ++ rest ≡ taken
same_payload taken [] long = append-nil taken
same_payload taken (byte ∷ rest) long = absurd (omega (arith, long, length-append taken (byte ∷ rest)))

grows_front : (message : List ℕ → List ℕ) (n : ℕ) (ended : Bool) (come_after contents contents_after : Option (List ℕ)) (result : Result ℕ MakeFault) (taken : List ℕ) →
    TakesSome n ended come_after result (length taken) → Grows message n contents contents_after result taken →
    (payload : List ℕ) → length payload ≡ n → IsPrefix payload taken → AppendsFront contents contents_after (message payload)
grows_front message n ended after contents contents_after (Ok m) taken count grows payload long (rest, begins) =
    let same : payload ≡ taken = begins ∙ same_payload taken rest (ap length (sym begins) ∙ long ∙ sym count) in
    whole_front contents contents_after (message payload) (subst (λ (t : List ℕ). Appends contents contents_after (message t)) (sym same) grows.0)
grows_front message n ended after contents contents_after (Err fault) taken count grows payload long begins = grows payload long begins

-- They are the first ones of another input too that has them, and at least as many.
first_of_other : (bytes other taken : List ℕ) → IsPrefix bytes taken → AgreeInFront bytes other → length taken ≤ length other → take (length taken) other ≡ taken
first_of_other bytes other taken (rest, first) (inl (more, longer)) enough =
    ap (take (length taken)) (longer ∙ ap (λ (t : List ℕ). t ++ more) first ∙ append_assoc taken rest more) ∙ take-append_seam taken (rest ++ more)
first_of_other bytes other taken (rest, first) (inr (more, shorter)) enough =
    sym (take-append-le (length taken) other more enough) ∙ ap (take (length taken)) (sym shorter ∙ first) ∙ take-append_seam taken rest

-- So they are those of its payload.
front_of_payload : (other taken : List ℕ) (n : ℕ) → length taken ≤ n → take (length taken) other ≡ taken → IsPrefix (take n other) taken
front_of_payload other taken n few first =
    let own : take (length taken) (take n other) ≡ taken = take-take (length taken) n other few ∙ first in
    (drop (length taken) (take n other), sym (take-append-drop (length taken) (take n other)) ∙ ap (λ (t : List ℕ). t ++ drop (length taken) (take n other)) own)

-- The caller that lent the writer finds in it what the sink got.
lent_front : (old new given : Option (List ℕ)) (bytes : List ℕ) (old_name name : ℕ) → (name ≡ old_name → given ≡ new) → AppendsFront (held_through old_name old) (held_through name new) bytes → AppendsFront old given bytes
lent_front old new given bytes old_name name found (front, is, grown) = (front, is, lent old new given front old_name name found grown)

-- A prefix of the message for each input that goes on so.
front_of_made : (key : KeyValue) (alg : Alg) (n : ℕ) (kid : Option (List ℕ)) (aad bytes taken other : List ℕ) (old given : Option (List ℕ)) →
    ((payload : List ℕ) → length payload ≡ n → IsPrefix payload taken → AppendsFront old given (made alg (secret_of key.material) kid aad payload)) →
    IsPrefix bytes taken → length taken ≤ n → AgreeInFront bytes other →
    (message_made key alg n kid aad other).status ≡ statuses.Done → AppendsFront old given (message_made key alg n kid aad other).text
front_of_made key alg n kid aad bytes taken other old given grows first few agree = go (nat_lt (length other) n) refl
  where
    go : (is : Bool) → nat_lt (length other) n ≡ is → (message_made key alg n kid aad other).status ≡ statuses.Done → AppendsFront old given (message_made key alg n kid aad other).text
    go true is done = let clash : statuses.Fault ≡ statuses.Done = rw is at done in absurd cc
    go false is done =
        let enough : n ≤ length other = ltb-false (length other) n is in
        let own = first_of_other bytes other taken first agree (omega (arith, enough, few)) in
        rw is (grows (take n other) (length-take-le n other enough) (front_of_payload other taken n few own))

pub leaves_prefix : (read : Read KeyValue) (key : KeyValue) (alg : Alg) (n : ℕ) (kid : Option (List ℕ)) (aad bytes : List ℕ) {come come_after contents contents_after : Option (List ℕ)} (begun_name name : ℕ) (begun written given : Option (List ℕ)) {ended : Bool} (result : Result ℕ MakeFault) {taken : List ℕ} →
    read ≡ Ok key → make_fault alg key kid aad n ≡ None → come ≡ Some bytes → contents ≡ held_through begun_name begun →
    Makes (made alg (secret_of key.material) kid aad) n come come_after ended contents contents_after result taken →
    held_through name written ≡ contents_after → (name ≡ begun_name → given ≡ written) →
    LeavesPrefix (made_under read alg n kid aad) bytes begun given
leaves_prefix read key alg n kid aad bytes {come} {come_after} {contents} {contents_after} begun_name name begun written given {ended} result {taken} d sound told held makes holds found = λ other agree done.
    let same : made_under read alg n kid aad other ≡ message_made key alg n kid aad other =
    ap (λ (t : Read KeyValue). made_under t alg n kid aad other) d ∙ ap (λ (t : Option MakeFault). unless_faulty t (message_made key alg n kid aad other)) sound in
    let first = first_taken bytes taken come_after result (subst (λ (t : Option (List ℕ)). TakesPayload t come_after result taken) told makes.bytes) in
    let few = no_more n (length taken) ended come_after result makes.count in
    let grows : (payload : List ℕ) → length payload ≡ n → IsPrefix payload taken → AppendsFront begun given (made alg (secret_of key.material) kid aad payload) =
    λ payload long whole. lent_front begun written given _ begun_name name found (rw (← held) (rw holds (grows_front (made alg (secret_of key.material) kid aad) n ended come_after contents contents_after result taken makes.count makes.grows payload long whole))) in
    subst (λ (o : Output). AppendsFront begun given o.text) (sym same)
    (front_of_made key alg n kid aad bytes taken other begun given grows first few agree (subst (λ (o : Output). o.status ≡ statuses.Done) same done))

-- Of an equal output.
pub leaves_same : (said asked : List ℕ → Output) (bytes : List ℕ) (old new : Option (List ℕ)) → ((input : List ℕ) → said input ≡ asked input) → LeavesPrefix said bytes old new → LeavesPrefix asked bytes old new
leaves_same said asked bytes old new same leaves = λ other agree done.
    subst (λ (o : Output). AppendsFront old new o.text) (same other) (leaves other agree (subst (λ (o : Output). o.status ≡ statuses.Done) (sym (same other)) done))

pub stops_same : (said asked : List ℕ → Output) (bytes : List ℕ) (old new : Option (List ℕ)) → ((input : List ℕ) → said input ≡ asked input) → StopsMaking said bytes old new → StopsMaking asked bytes old new
stops_same said asked bytes old new same (inl line) = inl line
stops_same said asked bytes old new same (inr leaves) = inr (leaves_same said asked bytes old new same leaves)

-- The line of a fault, which may be that of another one.
pub stops_by_line : (said : List ℕ → Output) (bytes : List ℕ) (old mid new : Option (List ℕ)) (fault : Fault) → mid ≡ old → WritesLine fault mid new ⊎ WritesLine program.Memory mid new → StopsMaking said bytes old new
stops_by_line said bytes old mid new fault kept (inl line) = inl (fault, subst (λ (t : Option (List ℕ)). WritesLine fault t new) kept line)
stops_by_line said bytes old mid new fault kept (inr line) = inl (program.Memory, subst (λ (t : Option (List ℕ)). WritesLine program.Memory t new) kept line)
