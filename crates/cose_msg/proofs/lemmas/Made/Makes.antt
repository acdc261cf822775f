-- The result of a call of `make_mac0`, from the results of its parts.
use Rattle.std.proofs.Common.{◌≡◌, ℕ, ◌+◌, ◌≤◌, Bool, true, false, List, [], ◌++◌, length, take, Option, None, Some, Ok, Err, refl, sym, ap, subst, ◌∙◌, append_assoc, append-nil, arith, length-append, IsTrue}
use Rattle.std.specs.Prelude.{Result, IsOk, if◌then◌else◌}
use Rattle.std.specs.Io.KnownBytes.{Appends}
use Rattle.std.proofs.KnownBytes.{Consumes-nil, Appends-trans}
use Rattle.std.proofs.Math.Seq.{take-append_seam}
use Rattle.std.proofs.lemmas.Bool.{false≢true, le-ltb, true≢false}
use Rattle.std.proofs.lemmas.List.{nil_from_length}
use Rattle.std.proofs.lemmas.Option.{none-some}
use Rattle.cose_head.specs.Algorithm.{is_mac_of}
use Rattle.cose_head.specs.Head.{shortest_head}
use Rattle.cose_head.specs.declared.algorithm.Alg.{Alg}
use Rattle.cose_head.specs.declared.kind.Kind.TheVariants.{Mac0}
use Rattle.cose_mac.specs.Hmac.{mac}
use Rattle.cose_mac.specs.Laws.{MacHasItsLength}
use Rattle.cose_mac.specs.Running.{FedMac, IsMacOf}
use Rattle.cose_mac.specs.Structure.{encoded_string, structure_of}
use Rattle.cose_mac.specs.declared.running.Running.{Running}
use Rattle.cose_msg.specs.declared.make.MakeFault.{MakeFault}
use Rattle.cose_msg.specs.declared.make.MakeFault.TheVariants as faults
use Rattle.cose_msg.specs.Make.{Makes, answer_over, stops_for_sink}
use Rattle.cose_msg.specs.Writes.{Feeds, Seen, Streams, Writes, front_of}
use Rattle.cose_msg.specs.Making.{auth_made, made, protected_made}
use Rattle.cose_msg.specs.Sink.{AppendsFront, IsPrefix}
use Rattle.cose_msg.proofs.lemmas.Made.Making.{in_parts}
use Rattle.cose_msg.proofs.lemmas.Made.Puts.{front_of_more}
use Rattle.cose_msg.proofs.lemmas.Run.Runs.{AppendsFront-then}

-- The fault of the arguments, from what is known of the key and of the lengths.
pub wrong_key : (fits : Bool) (own : List ℕ) (other : Option MakeFault) → None ≡ (if fits then Some own else None) → Some faults.WrongKey ≡ (if fits then other else Some faults.WrongKey)
wrong_key true own other e = absurd (none-some own e)
wrong_key false own other e = refl

pub too_long : (fits long : Bool) (secret own : List ℕ) → Some secret ≡ (if fits then Some own else None) → long ≡ true →
    Some faults.TooLong ≡ (if fits then (if long then Some faults.TooLong else None) else Some faults.WrongKey)
too_long true true secret own e is_long = refl
too_long true false secret own e is_long = absurd (false≢true is_long)
too_long false long secret own e is_long = absurd (none-some secret (sym e))

pub no_fault : (fits long : Bool) (secret own : List ℕ) → Some secret ≡ (if fits then Some own else None) → long ≡ false →
    None ≡ (if fits then (if long then Some faults.TooLong else None) else Some faults.WrongKey)
no_fault true true secret own e is_short = absurd (true≢false is_short)
no_fault true false secret own e is_short = refl
no_fault false long secret own e is_short = absurd (none-some secret (sym e))

-- The message of each payload of this length is this prefix, the payload, and what follows it.
abbrev pub IsInParts : (List ℕ → List ℕ) → ℕ → List ℕ → (List ℕ → List ℕ) → Type 0
IsInParts message payload_length front tail = (payload : List ℕ) → length payload ≡ payload_length → message payload ≡ front ++ (payload ++ tail payload)

all_appended : (old new : Option (List ℕ)) (bytes : List ℕ) → Appends old new bytes → AppendsFront old new bytes
all_appended old new bytes p = (bytes, ([], sym (append-nil bytes)), p)

-- Where a prefix of what was taken went to the sink, it is a prefix of the message of every payload that begins so.
front_of_each : (message : List ℕ → List ℕ) (n : ℕ) (front : List ℕ) (tail : List ℕ → List ℕ) (taken : List ℕ) (old new : Option (List ℕ)) → IsInParts message n front tail → AppendsFront old new (front ++ taken) →
    (payload : List ℕ) → length payload ≡ n → IsPrefix payload taken → AppendsFront old new (message payload)
front_of_each message n front tail taken old new parts p payload count (rest, whole) =
    let regrouped : message payload ≡ (front ++ taken) ++ (rest ++ tail payload) =
    parts payload count ∙ ap (λ (t : List ℕ). front ++ (t ++ tail payload)) whole ∙ ap (λ (t : List ℕ). front ++ t) (append_assoc taken rest (tail payload)) ∙ sym (append_assoc front taken (rest ++ tail payload)) in
    subst (λ (t : List ℕ). AppendsFront old new t) (sym regrouped) (front_of_more old new (front ++ taken) (rest ++ tail payload) p)

-- A payload that begins with these bytes, and has as many, is these bytes.
same_payload : (n : ℕ) (payload taken : List ℕ) → length payload ≡ n → length taken ≡ n → IsPrefix payload taken → payload ≡ taken
same_payload n payload taken count all (rest, whole) =
    let none : rest ≡ [] = nil_from_length rest (omega (arith, count, all, ap length whole, length-append taken rest)) in
    whole ∙ ap (λ (t : List ℕ). taken ++ t) none ∙ append-nil taken

module _ (message : List ℕ → List ℕ) (n : ℕ) (front : List ℕ) (tail : List ℕ → List ℕ) (parts : IsInParts message n front tail) where
  -- The sink failed before the payload.
  pub front_failed : {old new : Seen} {fault : MakeFault} (come : Option (List ℕ)) (ended : Bool) → Writes old new (Err fault) front → Makes message n come come ended old.contents new.contents (Err fault) []
  front_failed {old} {new} {fault} come ended p =
      subst (λ (f : MakeFault). Makes message n come come ended old.contents new.contents (Err f) []) (sym p.put.1) (record {
        bytes = Consumes-nil come;
        count = omega arith;
        grows = front_of_each message n front tail [] old.contents new.contents parts (front_of_more old.contents new.contents front [] p.put.0);
      })

  -- The payload ended early, or the intake or the sink failed in it.
  pub payload_failed : {old now new : Seen} {k : ℕ} {come come_after : Option (List ℕ)} {ended : Bool} {before after : Running} (taken : List ℕ) (fault : MakeFault) → Writes old now (Ok k) front →
      Streams n come come_after ended now new before after (Err fault) taken → Makes message n come come_after ended old.contents new.contents (Err fault) taken
  payload_failed {old} {now} {new} {k} {come} {come_after} {ended} {before} {after} taken faults.ShortPayload p q = record {
    bytes = q.bytes;
    count = q.count;
    grows = front_of_each message n front tail taken old.contents new.contents parts (all_appended old.contents new.contents (front ++ taken) (Appends-trans old.contents now.contents new.contents front taken p.put q.put));
  }
  payload_failed {old} {now} {new} {k} {come} {come_after} {ended} {before} {after} taken faults.Intake p q = record {
    bytes = q.bytes;
    count = q.count;
    grows = front_of_each message n front tail taken old.contents new.contents parts (all_appended old.contents new.contents (front ++ taken) (Appends-trans old.contents now.contents new.contents front taken p.put q.put));
  }
  payload_failed {old} {now} {new} {k} {come} {come_after} {ended} {before} {after} taken faults.Sink p q = record {
    bytes = q.bytes;
    count = q.count;
    grows = front_of_each message n front tail taken old.contents new.contents parts (AppendsFront-then old.contents now.contents new.contents front taken p.put q.put);
  }
  payload_failed {old} {now} {new} {k} {come} {come_after} {ended} {before} {after} taken faults.WrongKey p q = absurd q.bytes
  payload_failed {old} {now} {new} {k} {come} {come_after} {ended} {before} {after} taken faults.TooLong p q = absurd q.bytes

  -- The sink failed at the tag.
  pub tail_failed : {old now next new : Seen} {k m : ℕ} {come come_after : Option (List ℕ)} {ended : Bool} {before after : Running} {fault : MakeFault} (taken : List ℕ) → Writes old now (Ok k) front →
      Streams n come come_after ended now next before after (Ok m) taken → Writes next new (Err fault) (tail taken) → Makes message n come come_after ended old.contents new.contents (Err fault) taken
  tail_failed {old} {now} {next} {new} {k} {m} {come} {come_after} {ended} {before} {after} {fault} taken p q r =
      let grown : AppendsFront old.contents new.contents (front ++ (taken ++ tail taken)) =
      AppendsFront-then old.contents now.contents new.contents front (taken ++ tail taken) p.put (AppendsFront-then now.contents next.contents new.contents taken (tail taken) q.put r.put.0) in
      let whole : AppendsFront old.contents new.contents (message taken) = subst (λ (t : List ℕ). AppendsFront old.contents new.contents t) (sym (parts taken q.count)) grown in
      subst (λ (f : MakeFault). Makes message n come come_after ended old.contents new.contents (Err f) taken) (sym r.put.1) (record {
        bytes = q.bytes;
        count = omega (arith, q.count);
        grows = λ payload count begins. subst (λ (t : List ℕ). AppendsFront old.contents new.contents (message t)) (sym (same_payload n payload taken count q.count begins)) whole;
      })

  -- Nothing failed.
  pub all_made : {old now next new : Seen} {k m j : ℕ} {come come_after : Option (List ℕ)} {ended : Bool} {before after : Running} (taken : List ℕ) → Writes old now (Ok k) front →
      Streams n come come_after ended now next before after (Ok m) taken → Writes next new (Ok j) (tail taken) → Makes message n come come_after ended old.contents new.contents (Ok (k + m + j)) taken
  all_made {old} {now} {next} {new} {k} {m} {j} {come} {come_after} {ended} {before} {after} taken p q r =
      let whole = parts taken q.count in
      let grown : Appends old.contents new.contents (front ++ (taken ++ tail taken)) =
      Appends-trans old.contents now.contents new.contents front (taken ++ tail taken) p.put (Appends-trans now.contents next.contents new.contents taken (tail taken) q.put r.put) in
      record {
        bytes = q.bytes;
        count = q.count;
        grows = (subst (λ (t : List ℕ). Appends old.contents new.contents t) (sym whole) grown, omega (arith, p.count, q.count, q.answer, r.count, ap length whole, length-append front (taken ++ tail taken), length-append taken (tail taken)));
      }

  -- A sink that is sure of the whole message fails nowhere.
  pub front_sure : {old new : Seen} {fault : MakeFault} (payload : List ℕ) → length payload ≡ n → length (message payload) ≤ old.sure → Writes old new (Err fault) front → ⊥
  front_sure {old} {new} {fault} payload count enough p =
      let failed : IsOk {T = ℕ} (Err fault) = p.promised (omega (arith, enough, ap length (parts payload count), length-append front (payload ++ tail payload))) in
      absurd cc

  pub tail_sure : {old now next new : Seen} {k m : ℕ} {come come_after : Option (List ℕ)} {ended : Bool} {before after : Running} {fault : MakeFault} (taken payload : List ℕ) → length payload ≡ n → length (message payload) ≤ old.sure →
      length (tail taken) ≡ length (tail payload) → Writes old now (Ok k) front → Streams n come come_after ended now next before after (Ok m) taken → Writes next new (Err fault) (tail taken) → ⊥
  tail_sure {old} {now} {next} {new} {k} {m} {come} {come_after} {ended} {before} {after} {fault} taken payload count enough same p q r =
      let failed : IsOk {T = ℕ} (Err fault) = r.promised (omega (arith, enough, count, same, p.promise, q.promise, ap length (parts payload count), length-append front (payload ++ tail payload), length-append payload (tail payload))) in
      absurd cc

  pub payload_sure : {old now new : Seen} {k : ℕ} {come come_after : Option (List ℕ)} {ended : Bool} {before after : Running} {result : Result ℕ MakeFault} (taken payload : List ℕ) → length payload ≡ n → length (message payload) ≤ old.sure →
      Writes old now (Ok k) front → Streams n come come_after ended now new before after result taken → stops_for_sink result ≡ false
  payload_sure {old} {now} {new} {k} {come} {come_after} {ended} {before} {after} {result} taken payload count enough p q =
      q.promised (omega (arith, enough, count, p.promise, ap length (parts payload count), length-append front (payload ++ tail payload), length-append payload (tail payload)))

-- ---- the parts of the message

pub parts_of : (alg : Alg) (secret : List ℕ) (kid : Option (List ℕ)) (aad : List ℕ) (n : ℕ) →
    IsInParts (made alg secret kid aad) n (front_of (protected_made alg) kid n) (λ (payload : List ℕ). encoded_string 2 (auth_made alg secret aad payload))
parts_of alg secret kid aad n payload count =
    in_parts alg secret kid aad payload ∙ ap (λ (k : ℕ). front_of (protected_made alg) kid k ++ (payload ++ encoded_string 2 (auth_made alg secret aad payload))) count

-- The secret is that of the key, and the MAC is the one of the structure.
pub secret_is : (fits : Bool) (secret own : List ℕ) → Some secret ≡ (if fits then Some own else None) → secret ≡ own
secret_is true secret own e = cc
secret_is false secret own e = absurd cc

pub auth_is : {first fed after : Running} {alg : Alg} {secret own protected front items : List ℕ} (aad taken : List ℕ) → secret ≡ own → protected ≡ protected_made alg →
    FedMac first alg secret [] → Feeds first fed front → Feeds fed after taken → front ++ taken ≡ structure_of Mac0 protected aad taken → IsMacOf after items → items ≡ auth_made alg own aad taken
auth_is {first} {fed} {after} {alg} {secret} {own} {protected} {front} {items} aad taken key header begun opened fed_all structure is_mac =
    let message : FedMac after alg secret (front ++ taken) = fed_all alg secret front (opened alg secret [] begun) in
    is_mac alg secret (front ++ taken) message
    ∙ ap (λ (t : List ℕ). mac alg secret t) (structure ∙ ap (λ (t : List ℕ). structure_of Mac0 t aad taken) header)
    ∙ ap (λ (t : List ℕ). mac alg t (structure_of Mac0 (protected_made alg) aad taken)) key

-- All tags of an algorithm have one length.
pub same_length : MacHasItsLength → (alg : Alg) → IsTrue (is_mac_of alg) → (secret aad one other : List ℕ) → length (encoded_string 2 (auth_made alg secret aad one)) ≡ length (encoded_string 2 (auth_made alg secret aad other))
same_length law alg is_mac secret aad one other =
    let same : length (auth_made alg secret aad one) ≡ length (auth_made alg secret aad other) = law alg secret _ is_mac ∙ sym (law alg secret _ is_mac) in
    length-append (shortest_head 2 (length (auth_made alg secret aad one))) (auth_made alg secret aad one) ∙ ap (λ (k : ℕ). length (shortest_head 2 k) + k) same
    ∙ sym (length-append (shortest_head 2 (length (auth_made alg secret aad other))) (auth_made alg secret aad other))

-- ---- where the bytes to come are known to the contract

pub answered : {message : List ℕ → List ℕ} {n m : ℕ} {come contents contents_after : Option (List ℕ)} {ended : Bool} (come_after : Option (List ℕ)) (taken bytes : List ℕ) → Makes message n come come_after ended contents contents_after (Ok m) taken → come ≡ Some bytes →
    Ok m ≡ answer_over message n bytes
answered {message} {n} {m} {come} {contents} {contents_after} {ended} None taken bytes made e = let none = rw e at made.bytes in absurd none
answered {message} {n} {m} {come} {contents} {contents_after} {ended} (Some rest) taken bytes made e =
    let whole : bytes ≡ taken ++ rest = rw e at made.bytes in
    let enough : n ≤ length bytes = omega (arith, made.count, ap length whole, length-append taken rest) in
    let first : take n bytes ≡ taken = ap (λ (t : List ℕ). take n t) whole ∙ ap (λ (k : ℕ). take k (taken ++ rest)) (sym made.count) ∙ take-append_seam taken rest in
    rw (le-ltb (length bytes) n enough, first, made.grows.1) refl
