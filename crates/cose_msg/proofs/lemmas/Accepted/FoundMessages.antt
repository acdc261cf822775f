-- Bytes that aren't refused begin with a message by the grammar, and what begins with one is read so: whole, or with its shape.
use Rattle.std.proofs.Common.{◌≡◌, ℕ, ◌+◌, ◌≤◌, List, ◌++◌, length, take, drop, refl, sym, ap, subst, ◌∙◌, arith, length-append}
use Rattle.std.proofs.lemmas.List.{take_at, take-append-drop}
use Rattle.cose_head.specs.declared.kind.Kind.{Kind}
use Rattle.cose_msg.specs.declared.verdict.Verdict.TheVariants.{Authentic, Refused}
use Rattle.cose_msg.specs.Answer.{Answer, decided, complete, shaped, Headers, Whole}
use Rattle.cose_msg.specs.Grammar.{IsFront, untagged, tagged, in_cwt, Spellings, spelling, auth_at, IsMessage}
use Rattle.cose_msg.specs.Message.{message, inspecting, shape_of}
use Rattle.cose_msg.specs.Phases.{headers_of, headers_so_far}
use Rattle.cose_msg.specs.Reading.{Reading, settled}
use Rattle.cose_msg.specs.Rules.{Rules}
use Rattle.cose_msg.specs.Unrefused.{IsUnrefused, BeginsWithMessage, OneMessage, UnrefusedIsMessage, WholeIsMessage, HasShape, ShapedIsMessage}
use Rattle.cose_msg.proofs.lemmas.Accepted.Found.{whole_of}
use Rattle.cose_msg.proofs.lemmas.Accepted.FoundForms.{NotRefused}
use Rattle.cose_msg.proofs.lemmas.Accepted.FoundFronts.{FrontFound, front_found}
use Rattle.cose_msg.proofs.lemmas.Spelling.Spelled.{SpellingLaws}
use Rattle.cose_msg.proofs.lemmas.Spelling.SpelledMessages.{message_read}
use Rattle.cose_msg.proofs.lemmas.Spelling.Spellings.{all_apart, spelled_length}

-- ---- the parts together

pub record MessageFound (rules : Rules) (bytes : List ℕ) (answer : Answer) : Type 0 where
  pub whole : Whole
  pub begins : BeginsWithMessage rules bytes whole
  pub comes : rules.finish whole ≡ answer

module _ (rules : Rules) (bytes : List ℕ) (answer : Answer) (f : FrontFound rules bytes answer) where
  abbrev parts : Spellings
  parts = record { front = f.part; protected = f.next.part; unprotected = f.next.next.part; payload = f.next.next.next.part; auth = f.next.next.next.next.part }

  abbrev left : List ℕ
  left = f.next.next.next.next.rest

  abbrev end : ℕ
  end = auth_at parts + length parts.auth

  abbrev headers : Headers
  headers = headers_of f.kind f.next.protected f.next.found f.next.next.found

  abbrev whole_found : Whole
  whole_found = whole_of headers f.next.next.chosen f.next.next.next.payload (auth_at parts) f.next.next.next.next.auth end

  bytes_are : bytes ≡ spelling parts ++ left
  bytes_are =
      let p = f.next in let u = p.next in let b = u.next in let a = b.next in
      f.is ∙ ap (λ (list : List ℕ). f.part ++ list) (p.is ∙ ap (λ (list : List ℕ). p.part ++ list) (u.is ∙ ap (λ (list : List ℕ). u.part ++ list) (b.is ∙ ap (λ (list : List ℕ). b.part ++ list) a.is)))
      ∙ sym (all_apart parts left)

  begins_so : take end bytes ≡ spelling parts
  begins_so = ap (λ (list : List ℕ). take end list) bytes_are ∙ take_at (spelling parts) left end (spelled_length parts)

  is_message : IsMessage rules (take end bytes) whole_found
  is_message =
      let p = f.next in let u = p.next in let b = u.next in let a = b.next in
      record {
        spelled = parts;
        is = begins_so;
        front = f.front;
        protected = p.spelled;
        protected_fits = p.fits;
        protected_read = p.read;
        bucket = u.bucket;
        unprotected = u.spelled;
        unprotected_fits = u.fits;
        unprotected_nests = u.nests;
        unprotected_read = u.read;
        together = u.together;
        chosen = u.chosen_is;
        payload = b.spelled;
        payload_comes = b.come;
        payload_fits = b.fits;
        auth = a.spelled;
        auth_fits = a.fits;
        auth_place = refl;
        ends = sym (ap (λ (list : List ℕ). length list) begins_so ∙ spelled_length parts);
      }

  in_bytes : end ≤ length bytes
  in_bytes = omega (arith, ap (λ (list : List ℕ). length list) bytes_are, length-append (spelling parts) left, spelled_length parts)

  message_of : MessageFound rules bytes answer
  message_of = record { whole = whole_found; begins = record { within = in_bytes; message = is_message }; comes = f.next.next.next.next.comes }

pub message_found : SpellingLaws → (rules : Rules) (bytes : List ℕ) (answer : Answer) → NotRefused answer → (message rules bytes).answer ≡ answer → MessageFound rules bytes answer
unfolding message
message_found laws rules bytes answer unrefused comes = message_of rules bytes answer (front_found answer unrefused laws rules bytes comes)

unrefused_so : (answer : Answer) → IsUnrefused answer → NotRefused answer
unrefused_so (decided (Refused refusal)) h reason place e = h
unrefused_so (decided (Authentic kind alg payload taken)) h reason place e = cc
unrefused_so (complete whole) h reason place e = cc
unrefused_so (shaped kind payload auth taken) h reason place e = cc

pub unrefused_is_message : SpellingLaws → UnrefusedIsMessage
unrefused_is_message laws rules bytes unrefused =
    let m = message_found laws rules bytes (message rules bytes).answer (unrefused_so (message rules bytes).answer unrefused) refl in
    (m.whole, m.begins, sym m.comes)

-- A message at the beginning of the bytes is read, whatever follows it.
pub begins_read : SpellingLaws → (rules : Rules) (bytes : List ℕ) (whole : Whole) → BeginsWithMessage rules bytes whole → (message rules bytes).answer ≡ rules.finish whole
begins_read laws rules bytes whole b =
    let parts : take whole.taken bytes ++ drop whole.taken bytes ≡ bytes = take-append-drop whole.taken bytes in
    let read : message rules bytes ≡ settled (headers_so_far whole.headers whole.payload) (rules.finish whole) =
    sym (ap (message rules) parts) ∙ message_read laws rules (take whole.taken bytes) (drop whole.taken bytes) whole b.message in
    ap (λ (reading : Reading). reading.answer) read

-- ---- what a message is, whatever its answer

front_finished : (rules : Rules) (finish : Whole → Answer) (kind : Kind) (front : List ℕ) → IsFront rules kind front → IsFront (record rules { finish = finish }) kind front
front_finished rules finish kind front (untagged wanted is) = untagged wanted is
front_finished rules finish kind front (tagged wanted begins) = tagged wanted begins
front_finished rules finish kind front (in_cwt admitted wanted begins) = in_cwt admitted wanted begins

-- Two rules that differ only in the answer for a whole message have the same messages.
pub finished : (rules : Rules) (finish : Whole → Answer) (bytes : List ℕ) (whole : Whole) → IsMessage rules bytes whole → IsMessage (record rules { finish = finish }) bytes whole
finished rules finish bytes whole m = record {
  spelled = m.spelled;
  is = m.is;
  front = front_finished rules finish whole.headers.kind m.spelled.front m.front;
  protected = m.protected;
  protected_fits = m.protected_fits;
  protected_read = m.protected_read;
  bucket = m.bucket;
  unprotected = m.unprotected;
  unprotected_fits = m.unprotected_fits;
  unprotected_nests = m.unprotected_nests;
  unprotected_read = m.unprotected_read;
  together = m.together;
  chosen = m.chosen;
  payload = m.payload;
  payload_comes = m.payload_comes;
  payload_fits = m.payload_fits;
  auth = m.auth;
  auth_fits = m.auth_fits;
  auth_place = m.auth_place;
  ends = m.ends;
}

-- ---- a message that is read whole

same_whole : (one other : Whole) → complete one ≡ complete other → one ≡ other
same_whole one other e = cc

pub whole_is_message : SpellingLaws → WholeIsMessage
whole_is_message laws rules finish bytes whole = (there, back)
  where
    there : (message rules bytes).answer ≡ complete whole → BeginsWithMessage rules bytes whole
    there e =
        let m = message_found laws rules bytes (complete whole) (λ reason place never. cc) e in
        let same : m.whole ≡ whole = same_whole m.whole whole (sym (finish m.whole) ∙ m.comes) in
        subst (λ (w : Whole). BeginsWithMessage rules bytes w) same m.begins

    back : BeginsWithMessage rules bytes whole → (message rules bytes).answer ≡ complete whole
    back b = begins_read laws rules bytes whole b ∙ finish whole

-- Where nothing is decided, the bytes are read as the message that they begin with: so it is one.
undecided : (rules : Rules) (bytes : List ℕ) (whole : Whole) → BeginsWithMessage rules bytes whole → BeginsWithMessage (record rules { finish = complete }) bytes whole
undecided rules bytes whole b = record { within = b.within; message = finished rules complete (take whole.taken bytes) whole b.message }

pub one_message : SpellingLaws → OneMessage
one_message laws rules bytes one other b c =
    let whole_rules : Rules = record rules { finish = complete } in
    same_whole one other (sym (begins_read laws whole_rules bytes one (undecided rules bytes one b)) ∙ begins_read laws whole_rules bytes other (undecided rules bytes other c))

-- ---- a message that has a shape

pub shaped_is_message : SpellingLaws → ShapedIsMessage
shaped_is_message laws room nesting setting bytes kind payload auth taken = (there, back)
  where
    rules : Rules
    rules = inspecting room nesting setting

    there : (message rules bytes).answer ≡ shaped kind payload auth taken → HasShape room nesting setting bytes kind payload auth taken
    there e =
        let m = message_found laws rules bytes (shaped kind payload auth taken) (λ reason place never. cc) e in
        let shape : shape_of m.whole ≡ shaped kind payload auth taken = m.comes in
        record { whole = m.whole; begins = m.begins; kind_is = cc; payload_is = cc; auth_is = cc; taken_is = cc }

    back : HasShape room nesting setting bytes kind payload auth taken → (message rules bytes).answer ≡ shaped kind payload auth taken
    back h = begins_read laws rules bytes h.whole h.begins ∙ rw (h.kind_is, h.payload_is, h.auth_is, h.taken_is) refl
