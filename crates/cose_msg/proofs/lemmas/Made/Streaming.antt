-- A payload that is streamed so far.
use Rattle.std.proofs.Common.{◌≡◌, ℕ, ◌+◌, ◌-◌, ◌≤◌, Bool, true, false, List, ◌++◌, length, take, Option, Ok, Err, refl, sym, subst, ◌∙◌, append_assoc, arith, length-append}
use Rattle.std.specs.Prelude.{Result, is_err, ◌||◌}
use Rattle.std.specs.Io.KnownBytes.{Appends, Consumes}
use Rattle.std.proofs.KnownBytes.{Consumes-trans, Appends-trans}
use Rattle.std.proofs.lemmas.List.{length-take}
use Rattle.cose_mac.specs.Running.{FedMac}
use Rattle.cose_mac.specs.declared.running.Running.{Running}
use Rattle.cose_msg.specs.declared.make.MakeFault.TheVariants as faults
use Rattle.cose_msg.specs.declared.sink.SinkFault.{SinkFault}
use Rattle.cose_msg.specs.Intake.{marks}
use Rattle.cose_msg.specs.Writes.{Feeds, Seen, Streams}
use Rattle.cose_msg.specs.Sink.{AppendsFront}
use Rattle.cose_msg.proofs.lemmas.Run.Runs.{AppendsFront-then}

pub feeds_both : (a b c : Running) (x y : List ℕ) → Feeds a b x → Feeds b c y → Feeds a c (x ++ y)
feeds_both a b c x y p q = λ alg key message fed.
    subst (λ (t : List ℕ). FedMac c alg key t) (append_assoc message x y) (q alg key (message ++ x) (p alg key message fed))

-- This many bytes of the payload's length are left.
pub record Along (payload_length left : ℕ) (come come_now : Option (List ℕ)) (old now : Seen) (before fed : Running) : Type 0 where
  pub taken : List ℕ
  pub bytes : Consumes come come_now taken
  pub count : length taken + left ≡ payload_length
  pub put : Appends old.contents now.contents taken
  pub feeds : Feeds before fed taken
  pub failure : now.has_failed ≡ old.has_failed
  pub promise : old.sure ≤ now.sure + length taken

pub goes_on : {payload_length left : ℕ} {come come_now come_after : Option (List ℕ)} {old now next : Seen} {before fed fed_next : Running} (left_next : ℕ) (piece : List ℕ) →
    Along payload_length left come come_now old now before fed → Consumes come_now come_after piece → length piece + left_next ≡ left →
    Appends now.contents next.contents piece → Feeds fed fed_next piece → next.has_failed ≡ now.has_failed → now.sure ≤ next.sure + length piece →
    Along payload_length left_next come come_after old next before fed_next
goes_on {payload_length} {left} {come} {come_now} {come_after} {old} {now} {next} {before} {fed} {fed_next} left_next piece a took count grew feeds failure promise = record {
  taken = a.taken ++ piece;
  bytes = Consumes-trans come come_now come_after a.taken piece a.bytes took;
  count = omega (arith, a.count, count, length-append a.taken piece);
  put = Appends-trans old.contents now.contents next.contents a.taken piece a.put grew;
  feeds = feeds_both before fed fed_next a.taken piece a.feeds feeds;
  failure = failure ∙ a.failure;
  promise = omega (arith, a.promise, promise, length-append a.taken piece);
}

-- A put that failed marks the sink as failed; and how many bytes of a chunk were taken.
pub marks_failure : (was : Bool) (result : Result (Unit {0}) SinkFault) → is_err result ≡ true → marks was result ≡ true
marks_failure was (Ok u) e = absurd cc
marks_failure was (Err fault) e = refl

pub first_is_taken : (n left : ℕ) (into rest : List ℕ) → n ≤ length into → n ≤ left → length (take n (into ++ rest)) + (left - n) ≡ left
first_is_taken n left into rest within fits = omega (arith, length-take n (into ++ rest), length-append into rest)

or_failed : (b : Bool) → (b || true) ≡ true
or_failed true = refl
or_failed false = refl

-- The sink failed at a piece.
pub sink_failed : {payload_length left : ℕ} {come come_now : Option (List ℕ)} {old now : Seen} {before fed : Running} (come_after : Option (List ℕ)) (ended : Bool) (next : Seen) (fed_after : Running) (left_next : ℕ) (piece : List ℕ) →
    (a : Along payload_length left come come_now old now before fed) → Consumes come_now come_after piece → length piece + left_next ≡ left →
    AppendsFront now.contents next.contents piece → next.has_failed ≡ true → (length piece ≤ now.sure → ⊥) →
    Streams payload_length come come_after ended old next before fed_after (Err faults.Sink) (a.taken ++ piece)
sink_failed {payload_length} {left} {come} {come_now} {old} {now} {before} {fed} come_after ended next fed_after left_next piece a took fits grew failed unsure = record {
  bytes = Consumes-trans come come_now come_after a.taken piece a.bytes took;
  count = omega (arith, a.count, fits, length-append a.taken piece);
  put = AppendsFront-then old.contents now.contents next.contents a.taken piece a.put grew;
  answer = tt;
  fed = λ done. absurd cc;
  failure = failed ∙ sym (or_failed old.has_failed);
  promised = λ enough. absurd (unsure (omega (arith, a.promise, a.count, fits, enough)));
  promise = tt;
}
