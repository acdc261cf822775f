-- One message of a sequence, and what was written for it.
use Rattle.std.proofs.Common.{◌≡◌, ◌≢◌, ℕ, ◌+◌, Bool, true, false, List, [], ◌++◌, length, Option, Some, refl, sym, ap, subst, ◌∙◌, append-nil, append_assoc}
use Rattle.std.specs.Prelude.{string_bytes}
use Rattle.std.specs.Io.KnownBytes.{Appends}
use Rattle.cose_msg.specs.Sink.{AppendsFront}
use Rattle.cose_answers.specs.declared.answers.sequence.Part.{Part}
use Rattle.cose_answers.specs.declared.answers.sequence.Step.{Step}
use Rattle.cose_answers.specs.declared.reply.Status.{Status}
use Rattle.cose_answers.specs.declared.reply.Status.TheVariants as statuses
use Rattle.cose_answers.specs.Printed.{Output, Prints}
use Rattle.cose_answers.specs.Part.{Follows, IsNext, IsNextOf, Steps, part_text}
use Rattle.cose_answers.specs.Sequence.{FailsAfter, Reads, is_whole, joined_status, lost, lost_line, message_then, messages_from, place_line, placed, then_said}
use Rattle.cose_answers.proofs.lemmas.Sequences.EachMessage.{from_first, text_fails}

-- What is printed for an input that begins with a message.
abbrev after_message : Reads → (List ℕ → Output) → ℕ → List ℕ → List ℕ → Output
after_message reads alone place message rest = messages_from reads alone (place + length message) rest

said_from : (reads : Reads) (alone : List ℕ → Output) (place : ℕ) (bytes : List ℕ) (come_after : Option (List ℕ)) (part : Part) (next : IsNext reads alone bytes come_after part) →
    messages_from reads alone place bytes ≡ message_then reads alone place next.message (after_message reads alone place next.message next.rest)
said_from reads alone place bytes come_after part next = ap (messages_from reads alone place) next.split ∙ from_first reads alone place next.message next.rest next.begins

said_whole : (reads : Reads) (alone : List ℕ → Output) (place : ℕ) (bytes : List ℕ) (come_after : Option (List ℕ)) (part : Part) (next : IsNext reads alone bytes come_after part) → part.whole ≡ true →
    messages_from reads alone place bytes ≡ then_said (placed place (alone next.message)) (after_message reads alone place next.message next.rest)
said_whole reads alone place bytes come_after part next is =
    let whole : is_whole (reads next.message).answer ≡ true = sym next.whole ∙ is in
    said_from reads alone place bytes come_after part next ∙ rw whole refl

said_lost : (reads : Reads) (alone : List ℕ → Output) (place : ℕ) (bytes : List ℕ) (come_after : Option (List ℕ)) (part : Part) (next : IsNext reads alone bytes come_after part) → part.whole ≡ false →
    messages_from reads alone place bytes ≡ then_said (placed place (alone next.message)) (lost place)
said_lost reads alone place bytes come_after part next is =
    let whole : is_whole (reads next.message).answer ≡ false = sym next.whole ∙ is in
    said_from reads alone place bytes come_after part next ∙ rw whole refl

-- The text that is written for a part.
text_whole : (place : ℕ) (part : Part) (said : Output) → string_bytes part.reply.text ≡ said.text → part.whole ≡ true → part_text place part ≡ (placed place said).text
text_whole place part said same is = rw is (ap (λ (t : List ℕ). place_line place ++ t) (append-nil (string_bytes part.reply.text) ∙ same))

text_lost : (place : ℕ) (part : Part) (said : Output) → string_bytes part.reply.text ≡ said.text → part.whole ≡ false → part_text place part ≡ (then_said (placed place said) (lost place)).text
text_lost place part said same is =
    rw is (ap (λ (t : List ℕ). place_line place ++ (t ++ lost_line place)) same ∙ sym (append_assoc (place_line place) said.text (lost_line place)))

pub is_next : (reads : Reads) (alone : List ℕ → Output) (bytes : List ℕ) (come_after : Option (List ℕ)) (found : Option Part) (part : Part) → found ≡ Some part → IsNextOf reads alone bytes come_after found →
    IsNext reads alone bytes come_after part
is_next reads alone bytes come_after found part is next = subst (IsNextOf reads alone bytes come_after) is next

-- What a step did is the same under the same reading.
pub same_step : (reads others : Reads) (alone other : List ℕ → Output) (place : ℕ) (bytes : List ℕ) (come_after old new : Option (List ℕ)) (step : Step) → reads ≡ others → alone ≡ other →
    Steps reads alone place bytes come_after old new step → Steps others other place bytes come_after old new step
same_step reads others alone other place bytes come_after old new step reading lines steps =
    subst (λ (f : List ℕ → Output). Steps others f place bytes come_after old new step) lines (subst (λ (f : Reads). Steps f alone place bytes come_after old new step) reading steps)

pub joined_sound : (first later : Status) → first ≢ statuses.Fault → later ≢ statuses.Fault → joined_status first later ≢ statuses.Fault
joined_sound statuses.Done later first_well later_well = later_well
joined_sound statuses.Refused later first_well later_well = first_well
joined_sound statuses.Fault later first_well later_well = first_well

pub part_printed : (reads : Reads) (alone : List ℕ → Output) (place : ℕ) (bytes : List ℕ) (come_after old new : Option (List ℕ)) (part : Part) (text : List ℕ) (status : Status) → IsNext reads alone bytes come_after part →
    part.whole ≡ true → text ≡ part_text place part → status ≡ part.reply.status → Appends old new text → Follows reads alone place bytes come_after old new part.taken status
part_printed reads alone place bytes come_after old new part text status next is same ends written = record {
  message = next.message;
  rest = next.rest;
  split = next.split;
  left = next.left;
  begins = next.begins;
  whole = sym next.whole ∙ is;
  counted = next.counted;
  written = subst (λ (t : List ℕ). Appends old new t) (same ∙ text_whole place part (alone next.message) next.says.text is) written;
  ends_so = ends ∙ next.says.status;
}

refused_last : (status said : Status) → status ≡ said → status ≢ statuses.Fault → statuses.Refused ≡ joined_status said statuses.Refused
refused_last status statuses.Done is well = refl
refused_last status statuses.Refused is well = refl
refused_last status statuses.Fault is well = absurd (well is)

pub part_lost : (reads : Reads) (alone : List ℕ → Output) (place : ℕ) (bytes : List ℕ) (come_after old new : Option (List ℕ)) (part : Part) (text : List ℕ) (status : Status) → IsNext reads alone bytes come_after part →
    part.whole ≡ false → text ≡ part_text place part → status ≡ part.reply.status → status ≢ statuses.Fault → Appends old new text → Prints (messages_from reads alone place bytes) old new statuses.Refused
part_lost reads alone place bytes come_after old new part text status next is same ends well written = λ _.
    let said = said_lost reads alone place bytes come_after part next is in (
      refused_last status (alone next.message).status (ends ∙ next.says.status) well ∙ sym (ap (λ (o : Output). o.status) said),
      subst (λ (t : List ℕ). Appends old new t) (same ∙ text_lost place part (alone next.message) next.says.text is ∙ sym (ap (λ (o : Output). o.text) said)) written,
    )

pub part_fails : (reads : Reads) (alone : List ℕ → Output) (place : ℕ) (bytes : List ℕ) (come_after old new : Option (List ℕ)) (part : Part) (text : List ℕ) → IsNext reads alone bytes come_after part →
    text ≡ part_text place part → AppendsFront old new text → FailsAfter (messages_from reads alone place) bytes old new
part_fails reads alone place bytes come_after old new part text next same front = go part.whole refl
  where
    go : (whole : Bool) → part.whole ≡ whole → FailsAfter (messages_from reads alone place) bytes old new
    go true is =
        let later : Output = after_message reads alone place next.message next.rest in
        let said : (messages_from reads alone place bytes).text ≡ (placed place (alone next.message)).text ++ later.text = ap (λ (o : Output). o.text) (said_whole reads alone place bytes come_after part next is) in
        text_fails reads alone place bytes old new text later.text (said ∙ ap (λ (t : List ℕ). t ++ later.text) (sym (same ∙ text_whole place part (alone next.message) next.says.text is))) front
    go false is =
        let said = ap (λ (o : Output). o.text) (said_lost reads alone place bytes come_after part next is) in
        text_fails reads alone place bytes old new text [] (said ∙ sym (same ∙ text_lost place part (alone next.message) next.says.text is) ∙ sym (append-nil text)) front
