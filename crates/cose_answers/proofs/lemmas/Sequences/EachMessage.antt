-- The messages of a sequence, one after the other.
use Rattle.std.proofs.Common.{◌≡◌, ◌≢◌, ◌⊎◌, ℕ, zero, suc, ◌+◌, ◌<◌, ◌≤◌, Bool, true, false, List, [], ◌∷◌, ◌++◌, length, take, drop, Option, Some, inl, inr, refl, sym, ap, subst, ◌∙◌, arith, append-nil, append_assoc, length-append, length-drop}
use Rattle.std.specs.Prelude.{codes}
use Rattle.std.specs.Io.KnownBytes.{Appends}
use Rattle.std.proofs.KnownBytes.{Appends-nil, Appends-trans}
use Rattle.std.proofs.Math.Seq.{drop-append_seam, take-append_seam}
use Rattle.cose_msg.specs.Sink.{AppendsFront}
use Rattle.cose_answers.specs.Faults.{WritesLine, fault_text}
use Rattle.cose_answers.specs.declared.fault.Fault.{Fault}
use Rattle.cose_answers.specs.declared.fault.Fault.TheVariants as faults
use Rattle.cose_answers.specs.declared.reply.Status.{Status}
use Rattle.cose_answers.specs.declared.reply.Status.TheVariants as statuses
use Rattle.cose_answers.specs.Printed.{Output, Prints}
use Rattle.cose_answers.specs.Part.{Begins, Follows}
use Rattle.cose_answers.specs.Sequence.{FailsAfter, Reads, after_first, first_message, front_size, is_whole, joined_status, message_size, message_then, messages_from, messages_said, nothing_said, placed, sequence_said, then_said}

-- ---- the first message

front_size_is : (test : List ℕ → Bool) (front rest : List ℕ) → ((n : ℕ) → n < length front → test (take n front) ≡ false) → (test front ≡ false → rest ≡ []) →
    front_size test (front ++ rest) ≡ length front
unfolding front_size
front_size_is test [] [] open_before open_at_end = refl
front_size_is test [] (byte ∷ rest) open_before open_at_end = go (test []) refl
  where
    go : (settled : Bool) → test [] ≡ settled → front_size test (byte ∷ rest) ≡ 0
    go true is = rw is refl
    go false is = let none : byte ∷ rest ≡ [] = open_at_end is in absurd cc
front_size_is test (byte ∷ front) rest open_before open_at_end =
    let first : test [] ≡ false = open_before 0 (omega arith) in
    let others = front_size_is (λ more. test (byte ∷ more)) front rest (λ n short. open_before (suc n) (omega (arith, short))) open_at_end in
    rw first (ap suc others)

pub size_is : (reads : Reads) (message rest : List ℕ) → Begins reads message rest → message_size reads (message ++ rest) ≡ length message
size_is reads [] rest begins = let some : 0 < 0 = begins.some in absurd (omega (arith, some))
size_is reads (byte ∷ message) rest begins =
    ap suc (front_size_is (λ front. (reads (byte ∷ front)).settled) message rest (λ n short. begins.open_before (suc n) (omega (arith, short))) begins.open_at_end)

-- A message that was read to its end ends there whatever follows it.
pub whatever_follows : (reads : Reads) (message rest more : List ℕ) → Begins reads message rest → is_whole (reads message).answer ≡ true → Begins reads message more
whatever_follows reads message rest more begins whole = record {
  some = begins.some;
  open_before = begins.open_before;
  open_at_end = λ unsettled. let settled : true ≡ false = sym (begins.whole_is_settled whole) ∙ unsettled in absurd cc;
  whole_is_settled = begins.whole_is_settled;
}

-- ---- what is printed for all

-- So many messages as there are bytes are all messages.
same_counts : (reads : Reads) (alone : List ℕ → Output) (count other place : ℕ) (bytes : List ℕ) → length bytes ≤ count → length bytes ≤ other →
    messages_said reads alone count place bytes ≡ messages_said reads alone other place bytes
unfolding messages_said
same_counts reads alone zero zero place bytes few fewer = refl
same_counts reads alone zero (suc other) place [] few fewer = refl
same_counts reads alone zero (suc other) place (byte ∷ bytes) few fewer = absurd (omega (arith, few))
same_counts reads alone (suc count) zero place [] few fewer = refl
same_counts reads alone (suc count) zero place (byte ∷ bytes) few fewer = absurd (omega (arith, fewer))
same_counts reads alone (suc count) (suc other) place [] few fewer = refl
same_counts reads alone (suc count) (suc other) place (byte ∷ bytes) few fewer =
    let size : ℕ = front_size (λ front. (reads (byte ∷ front)).settled) bytes in
    let left : length (after_first reads (byte ∷ bytes)) ≤ length bytes = omega (arith, length-drop size bytes) in
    ap (message_then reads alone place (first_message reads (byte ∷ bytes)))
    (same_counts reads alone count other (place + message_size reads (byte ∷ bytes)) (after_first reads (byte ∷ bytes)) (omega (arith, left, few)) (omega (arith, left, fewer)))

pub from_first : (reads : Reads) (alone : List ℕ → Output) (place : ℕ) (message rest : List ℕ) → Begins reads message rest →
    messages_from reads alone place (message ++ rest) ≡ message_then reads alone place message (messages_from reads alone (place + length message) rest)
unfolding messages_said
from_first reads alone place [] rest begins = let some : 0 < 0 = begins.some in absurd (omega (arith, some))
from_first reads alone place (byte ∷ message) rest begins =
    let bytes : List ℕ = byte ∷ (message ++ rest) in
    let size : message_size reads bytes ≡ length (byte ∷ message) = size_is reads (byte ∷ message) rest begins in
    let first : first_message reads bytes ≡ byte ∷ message = ap (λ (n : ℕ). take n bytes) size ∙ take-append_seam (byte ∷ message) rest in
    let after : after_first reads bytes ≡ rest = ap (λ (n : ℕ). drop n bytes) size ∙ drop-append_seam (byte ∷ message) rest in
    let others : messages_said reads alone (length (message ++ rest)) (place + message_size reads bytes) (after_first reads bytes) ≡ messages_from reads alone (place + length (byte ∷ message)) rest =
    ap (λ (n : ℕ). messages_said reads alone (length (message ++ rest)) (place + n) (after_first reads bytes)) size
    ∙ ap (messages_said reads alone (length (message ++ rest)) (place + length (byte ∷ message))) after
    ∙ same_counts reads alone (length (message ++ rest)) (length rest) (place + length (byte ∷ message)) rest (omega (arith, length-append message rest)) (omega arith) in
    ap (λ (m : List ℕ). message_then reads alone place m (messages_said reads alone (length (message ++ rest)) (place + message_size reads bytes) (after_first reads bytes))) first
    ∙ ap (message_then reads alone place (byte ∷ message)) others

-- ---- one output after the other

joined_assoc : (first second third : Status) → joined_status first (joined_status second third) ≡ joined_status (joined_status first second) third
joined_assoc statuses.Done second third = refl
joined_assoc statuses.Refused second third = refl
joined_assoc statuses.Fault second third = refl

joined_done : (status : Status) → joined_status status statuses.Done ≡ status
joined_done statuses.Done = refl
joined_done statuses.Refused = refl
joined_done statuses.Fault = refl

abbrev output : List ℕ → Status → Output
output text status = record { text = text; status = status }

pub said_assoc : (first second third : Output) → then_said first (then_said second third) ≡ then_said (then_said first second) third
said_assoc first second third =
    let text : first.text ++ (second.text ++ third.text) ≡ (first.text ++ second.text) ++ third.text = sym (append_assoc first.text second.text third.text) in
    ap (λ (t : List ℕ). output t (joined_status first.status (joined_status second.status third.status))) text
    ∙ ap (output ((first.text ++ second.text) ++ third.text)) (joined_assoc first.status second.status third.status)

pub said_alone : (said : Output) → then_said said nothing_said ≡ said
said_alone said = ap (λ (t : List ℕ). output t (joined_status said.status statuses.Done)) (append-nil said.text) ∙ ap (output said.text) (joined_done said.status)

nothing_from : (reads : Reads) (alone : List ℕ → Output) (place : ℕ) → messages_from reads alone place [] ≡ nothing_said
unfolding messages_said
nothing_from reads alone place = refl

-- ---- what was printed so far

-- The messages of a prefix of the input were printed: this text, whose run would end so.
pub record SoFar (reads : Reads) (alone : List ℕ → Output) (bytes : List ℕ) (come old now : Option (List ℕ)) (place : ℕ) (status : Status) : Type 0 where
  pub first : List ℕ
  pub rest : List ℕ
  pub split : bytes ≡ first ++ rest
  pub left : come ≡ Some rest
  pub written : List ℕ
  pub grown : Appends old now written
  pub said : (more : List ℕ) → sequence_said reads alone (first ++ more) ≡ then_said (output written status) (messages_from reads alone place more)

pub none_so_far : (reads : Reads) (alone : List ℕ → Output) (bytes : List ℕ) (come old : Option (List ℕ)) → come ≡ Some bytes → SoFar reads alone bytes come old old 0 statuses.Done
none_so_far reads alone bytes come old known = record {
  first = [];
  rest = bytes;
  split = refl;
  left = known;
  written = [];
  grown = Appends-nil old;
  said = λ more. refl;
}

-- One message more.
pub one_more : (reads : Reads) (alone : List ℕ → Output) (bytes : List ℕ) (come come_after old mid new : Option (List ℕ)) (place next taken : ℕ) (status latest after : Status) →
    SoFar reads alone bytes come old mid place status → ((rest : List ℕ) → come ≡ Some rest → Follows reads alone place rest come_after mid new taken latest) → next ≡ place + taken →
    after ≡ joined_status status latest → SoFar reads alone bytes come_after old new next after
one_more reads alone bytes come come_after old mid new place next taken status latest after so_far step moved joined =
    let part = step so_far.rest so_far.left in
    let text : List ℕ = (placed place (alone part.message)).text in
    record {
      first = so_far.first ++ part.message;
      rest = part.rest;
      split = so_far.split ∙ ap (λ (t : List ℕ). so_far.first ++ t) part.split ∙ sym (append_assoc so_far.first part.message part.rest);
      left = part.left;
      written = so_far.written ++ text;
      grown = Appends-trans old mid new so_far.written text so_far.grown part.written;
      said = λ more.
          (let later : Output = messages_from reads alone next more in
          let there : messages_from reads alone (place + length part.message) more ≡ later = ap (λ (n : ℕ). messages_from reads alone n more) (sym (moved ∙ ap (λ (n : ℕ). place + n) part.counted)) in
          let goes_on : message_then reads alone place part.message later ≡ then_said (placed place (alone part.message)) later = rw part.whole refl in
          let ends_so : joined_status status (alone part.message).status ≡ after = ap (joined_status status) (sym part.ends_so) ∙ sym joined in
          ap (sequence_said reads alone) (append_assoc so_far.first part.message more)
          ∙ so_far.said (part.message ++ more)
          ∙ ap (then_said (output so_far.written status))
          (from_first reads alone place part.message more (whatever_follows reads part.message part.rest more part.begins part.whole)
          ∙ ap (message_then reads alone place part.message) there ∙ goes_on)
          ∙ said_assoc (output so_far.written status) (placed place (alone part.message)) later
          ∙ ap (λ (s : Status). then_said (output (so_far.written ++ text) s) later) ends_so);
    }

-- ---- how a run ends

-- All were printed.
pub all_printed : (reads : Reads) (alone : List ℕ → Output) (bytes : List ℕ) (come old mid new : Option (List ℕ)) (place : ℕ) (status : Status) → SoFar reads alone bytes come old mid place status →
    ((rest : List ℕ) → come ≡ Some rest → (rest ≡ []) × (new ≡ mid)) → Prints (sequence_said reads alone bytes) old new status
all_printed reads alone bytes come old mid new place status so_far ends =
    let end = ends so_far.rest so_far.left in
    let whole : bytes ≡ so_far.first ++ [] = so_far.split ∙ ap (λ (t : List ℕ). so_far.first ++ t) end.0 in
    let said : sequence_said reads alone bytes ≡ output so_far.written status =
    ap (sequence_said reads alone) whole ∙ so_far.said [] ∙ ap (then_said (output so_far.written status)) (nothing_from reads alone place) ∙ said_alone (output so_far.written status) in
    λ well. (sym (ap (λ (o : Output). o.status) said), subst (λ (o : Output). Appends old new o.text) (sym said) (rw end.1 so_far.grown))

-- The status of a run whose last message is refused.
ends_refused : (before last later : Status) → before ≢ statuses.Fault → last ≢ statuses.Done → last ≢ statuses.Fault → last ≡ later → last ≡ joined_status before later
ends_refused statuses.Done last later sound some well is = is
ends_refused statuses.Refused statuses.Done later sound some well is = absurd (some refl)
ends_refused statuses.Refused statuses.Refused later sound some well is = refl
ends_refused statuses.Refused statuses.Fault later sound some well is = absurd (well refl)
ends_refused statuses.Fault last later sound some well is = absurd (sound refl)

-- The next message can't be found.
pub ends_lost : (reads : Reads) (alone : List ℕ → Output) (bytes : List ℕ) (come old mid new : Option (List ℕ)) (place : ℕ) (status last : Status) → SoFar reads alone bytes come old mid place status →
    status ≢ statuses.Fault → last ≢ statuses.Done → ((rest : List ℕ) → come ≡ Some rest → Prints (messages_from reads alone place rest) mid new last) → Prints (sequence_said reads alone bytes) old new last
ends_lost reads alone bytes come old mid new place status last so_far sound some step = λ well.
    let later : Output = messages_from reads alone place so_far.rest in
    let end = step so_far.rest so_far.left well in
    let said : sequence_said reads alone bytes ≡ then_said (output so_far.written status) later = ap (sequence_said reads alone) so_far.split ∙ so_far.said so_far.rest in (
      ends_refused status last later.status sound some well end.0 ∙ sym (ap (λ (o : Output). o.status) said),
      subst (λ (o : Output). Appends old new o.text) (sym said) (Appends-trans old mid new so_far.written later.text so_far.grown end.1),
    )

-- What follows a text that was written.
front_after : (old mid new : Option (List ℕ)) (written text : List ℕ) → Appends old mid written → AppendsFront mid new text → AppendsFront old new (written ++ text)
front_after old mid new written text grown (front, (rest, whole), more) =
    (written ++ front, (rest, ap (λ (t : List ℕ). written ++ t) whole ∙ sym (append_assoc written front rest)), Appends-trans old mid new written front grown more)

pub fails_later : (reads : Reads) (alone : List ℕ → Output) (bytes : List ℕ) (come old mid new : Option (List ℕ)) (place : ℕ) (status : Status) → SoFar reads alone bytes come old mid place status →
    ((rest : List ℕ) → come ≡ Some rest → FailsAfter (messages_from reads alone place) rest mid new) → FailsAfter (sequence_said reads alone) bytes old new
fails_later reads alone bytes come old mid new place status so_far step =
    let (fault, first, rest, split, front) = step so_far.rest so_far.left in
    let line : List ℕ = fault_text fault ++ codes "\n" in
    let text : List ℕ = (messages_from reads alone place first).text in
    let said : (sequence_said reads alone (so_far.first ++ first)).text ≡ so_far.written ++ text = ap (λ (o : Output). o.text) (so_far.said first) in
    let all : so_far.written ++ (text ++ line) ≡ (sequence_said reads alone (so_far.first ++ first)).text ++ line =
    sym (append_assoc so_far.written text line) ∙ ap (λ (t : List ℕ). t ++ line) (sym said) in (
      fault,
      so_far.first ++ first,
      rest,
      so_far.split ∙ ap (λ (t : List ℕ). so_far.first ++ t) split ∙ sym (append_assoc so_far.first first rest),
      subst (AppendsFront old new) all (front_after old mid new so_far.written (text ++ line) so_far.grown front),
    )

-- The line of a fault where nothing was printed.
pub line_first : (reads : Reads) (alone : List ℕ → Output) (place : ℕ) (bytes : List ℕ) (old new : Option (List ℕ)) (fault : Fault) → WritesLine fault old new ⊎ WritesLine faults.Memory old new →
    FailsAfter (messages_from reads alone place) bytes old new
unfolding messages_said
line_first reads alone place bytes old new fault (inl line) = (fault, [], bytes, refl, line)
line_first reads alone place bytes old new fault (inr line) = (faults.Memory, [], bytes, refl, line)

-- A front of the text of a message.
pub text_fails : (reads : Reads) (alone : List ℕ → Output) (place : ℕ) (bytes : List ℕ) (old new : Option (List ℕ)) (text after : List ℕ) → (messages_from reads alone place bytes).text ≡ text ++ after →
    AppendsFront old new text → FailsAfter (messages_from reads alone place) bytes old new
text_fails reads alone place bytes old new text after is (front, (rest, whole), grown) =
    let line : List ℕ = fault_text faults.Memory ++ codes "\n" in
    let all : (messages_from reads alone place bytes).text ++ line ≡ front ++ (rest ++ (after ++ line)) =
    ap (λ (t : List ℕ). t ++ line) (is ∙ ap (λ (t : List ℕ). t ++ after) whole) ∙ append_assoc (front ++ rest) after line ∙ append_assoc front rest (after ++ line) in
    (faults.Memory, bytes, [], sym (append-nil bytes), (front, (rest ++ (after ++ line), all), grown))
