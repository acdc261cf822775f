-- What comes of a detached payload changes nothing where none of it is wanted.
use Rattle.std.proofs.Common.{◌≡◌, ℕ, Bool, true, false, cond, List, [], ◌++◌, length, take, Option, refl, arith, length-append}
use Rattle.std.specs.Prelude.{◌-◌, ◌≤◌, nat_lt}
use Rattle.std.proofs.lemmas.Bool.{le-ltb, ltb-false, ltb-true}
use Rattle.std.proofs.lemmas.List.{take-append-le}
use Rattle.cose_head.specs.declared.head.Head.{Head}
use Rattle.cose_head.specs.declared.reason.Reason.{Reason}
use Rattle.cose_msg.specs.Answer.{Chosen, Headers}
use Rattle.cose_msg.specs.Laws.{OpenStays, PayloadStays, receiving}
use Rattle.cose_msg.specs.Message.{message}
use Rattle.cose_msg.specs.Phases.{headers_so_far, auth_head, nil_fault_within, detached_payload, past_payload_head_from}
use Rattle.cose_msg.specs.Reading.{Findings, Reading, awaits, stop, cut}
use Rattle.cose_msg.specs.Rules.{Rules}
use Rattle.cose_msg.specs.Source.{Source, attached, detached, with_came}
use Rattle.cose_msg.proofs.lemmas.Detached.PayloadElsewhere.{Goes, first_head-goes, unless_fault-goes}

-- One reading is another, unless that one wants bytes of the payload; and so where it isn't settled.
abbrev Keeps : Reading → Reading → Type 0
Keeps reading other = (reading.payload_wanted ≡ 0 → other ≡ reading) × (reading.settled ≡ false → other ≡ reading)

cuts : (so_far : Findings) (wanted place : ℕ) → Keeps (cut so_far wanted place) (cut so_far wanted place)
cuts so_far wanted place = (λ none. refl, λ unsettled. refl)

stops : (so_far : Findings) (reason : Reason) (place : ℕ) → Keeps (stop so_far reason place) (stop so_far reason place)
stops so_far reason place = (λ none. refl, λ unsettled. refl)

module _ (came more : List ℕ) (rules : Rules) (source other : Source) where
  abbrev before : Rules
  before = record rules { source = source }

  abbrev after : Rules
  after = record rules { source = other }

  module _ (headers : Headers) (chosen : Option Chosen) (detached_length at place : ℕ) (bytes : List ℕ) where
    after_nil : (missing : Bool) → nat_lt (length came) detached_length ≡ missing →
        Keeps (cond missing (awaits (headers_so_far headers came) (detached_length - length came) at) (auth_head before headers chosen (take detached_length came) place bytes)) (detached_payload after headers chosen (came ++ more) detached_length at place bytes)
    after_nil true short = (λ none. absurd (omega (arith, ltb-true (length came) detached_length short, none)), λ unsettled. absurd cc)
    after_nil false whole =
        let le : detached_length ≤ length came = ltb-false (length came) detached_length whole in
        let there : nat_lt (length (came ++ more)) detached_length ≡ false = le-ltb _ _ (omega (arith, le, length-append came more)) in
        let same : detached_payload after headers chosen (came ++ more) detached_length at place bytes ≡ auth_head before headers chosen (take detached_length came) place bytes = rw (there, take-append-le detached_length came more le) refl in
        (λ none. same, λ unsettled. same)

  after_head : (payload : Source) (headers : Headers) (chosen : Option Chosen) (at : ℕ) (head : Head) →
      Goes Keeps cuts stops (past_payload_head_from (with_came came payload) before headers chosen at head) (past_payload_head_from (with_came (came ++ more) payload) after headers chosen at head)
  after_head attached headers chosen at head = λ place bytes. (λ none. refl, λ unsettled. refl)
  after_head (detached earlier detached_length) headers chosen at head = unless_fault-goes Keeps cuts stops (headers_so_far headers []) at (nil_fault_within rules.payload_limit detached_length head)
      (detached_payload before headers chosen came detached_length at) (detached_payload after headers chosen (came ++ more) detached_length at)
      (λ place bytes. after_nil headers chosen detached_length at place bytes (nat_lt (length came) detached_length) refl)

stays : (rules : Rules) (came more bytes : List ℕ) → Keeps (message (receiving came rules) bytes) (message (receiving (came ++ more) rules) bytes)
unfolding message
stays rules came more bytes = first_head-goes Keeps cuts stops (receiving came rules) (with_came (came ++ more) rules.source) rules.finish
    (after_head came more rules (with_came came rules.source) (with_came (came ++ more) rules.source) rules.source) 0 bytes

pub payload_stays : PayloadStays
payload_stays rules came more bytes = (stays rules came more bytes).0

pub open_stays : OpenStays
open_stays rules came more bytes = (stays rules came more bytes).1
