-- What inspecting finds of an input, and the reply that prints it.
use Rattle.std.proofs.Common.{◌≡◌, ℕ, Bool, true, false, List, [], ◌∷◌, ◌++◌, length, Option, Some, None, Result, refl, sym, ap, subst, ◌∙◌, append_assoc}
use Rattle.std.specs.Prelude.{IfOk}
use Rattle.std.specs.Io.KnownBytes.{Appends, Consumes, IsAtEnd}
use Rattle.cose_head.specs.declared.kind.Kind.{Kind}
use Rattle.cose_head.specs.declared.refusal.Refusal.{Refusal}
use Rattle.cose_map.specs.Key.Value.{KeyValue}
use Rattle.cose_map.specs.Map.Pairs.{Pair}
use Rattle.cose_msg.specs.declared.context.Wanted.{Wanted}
use Rattle.cose_msg.specs.declared.verdict.Inspected.{Inspected}
use Rattle.cose_msg.specs.declared.verdict.Inspected.TheVariants as inspected
use Rattle.cose_msg.specs.declared.verifier.Verifier.{Verifier}
use Rattle.cose_msg.specs.Answer.{Answer, decided, complete, shaped}
use Rattle.cose_msg.specs.Laws.{MessageStays}
use Rattle.cose_msg.specs.Message.{Setting, inspecting, message}
use Rattle.cose_msg.specs.Reading.{Reading}
use Rattle.cose_msg.specs.Rules.{Rules}
use Rattle.cose_msg.specs.Run.{inspection}
use Rattle.cose_msg.specs.Shown.{protected_of, unprotected_of}
use Rattle.cose_answers.specs.declared.request.Details.{Details}
use Rattle.cose_answers.specs.declared.reply.Reply.{Reply}
use Rattle.cose_answers.specs.Inspection.{IsInspection}
use Rattle.cose_answers.specs.Printed.{Output, Says, trailing_refusal, bucket_lines, pair_line, show_setting, shown_as, shown_in, shown_of, trailed}
use Rattle.cose_answers.specs.Readable.{payload_shown}
use Rattle.cose_answers.proofs.lemmas.Messages.MessageReplies.{all_come_to}
use Rattle.cose_answers.proofs.lemmas.Messages.Trailing.{all_taken, kept_at_end, left_of_input, refused_past}

-- ---- what inspecting finds

-- The verifier and the sink have what there is of the bytes taken. That is what there is of the whole input.
module _ (stays : MessageStays) (header nesting : ℕ) (setting : Setting) (bytes taken : List ℕ) {H D : ℕ} {S : Type 0} {K : _} (verifier : Verifier H D S K) (come come_after contents contents_after : Option (List ℕ))
    (told : come ≡ Some bytes) (consumes : Consumes come come_after taken) (ends : (message (inspecting header nesting setting) taken).settled ≡ false → IsAtEnd come_after)
    (protected : protected_of verifier ≡ (message (inspecting header nesting setting) taken).so_far.protected) (unprotected : unprotected_of verifier ≡ (message (inspecting header nesting setting) taken).so_far.unprotected)
    (grown : List ℕ) (payload : (message (inspecting header nesting setting) taken).so_far.payload ≡ grown) (grows : Appends contents contents_after grown) where
  abbrev rules : Rules
  rules = inspecting header nesting setting

  same_reading : message rules taken ≡ message rules bytes
  same_reading =
      let o = left_of_input come come_after bytes taken told consumes in
      sym (all_come_to stays rules bytes taken o.0 o.2 (λ unsettled. subst IsAtEnd o.1 (ends unsettled)))

  pub finds : (found : Inspected) → trailed (length bytes) (message rules bytes).answer ≡ inspection found → IsInspection header nesting setting bytes verifier contents contents_after found
  finds found e = record {
    answer = e;
    protected_is = protected ∙ ap (λ (r : Reading). r.so_far.protected) same_reading;
    unprotected_is = unprotected ∙ ap (λ (r : Reading). r.so_far.unprotected) same_reading;
    payload = subst (Appends contents contents_after) (sym payload ∙ ap (λ (r : Reading). r.so_far.payload) same_reading) grows;
  }

  module _ (kind : Kind) (payload_length auth count : ℕ) (counted : count ≡ length taken) (shape : (message rules bytes).answer ≡ shaped kind payload_length auth count) where
    -- A byte after a shape makes it a refusal.
    pub finds_trailing : (refusal : Refusal) → ((rest : List ℕ) → come_after ≡ Some rest → Some refusal ≡ trailing_refusal rest count) →
        IsInspection header nesting setting bytes verifier contents contents_after (inspected.Refused refusal)
    finds_trailing refusal h =
        let o = left_of_input come come_after bytes taken told consumes in
        finds (inspected.Refused refusal)
        (ap (λ (a : Answer). trailed (length bytes) a) shape ∙ refused_past bytes taken o.0 (shaped kind payload_length auth count) count refusal refl o.2 counted (h o.0 o.1))

    pub finds_shape : ((rest : List ℕ) → come_after ≡ Some rest → None ≡ trailing_refusal rest count) →
        IsInspection header nesting setting bytes verifier contents contents_after (inspected.Shape kind payload_length auth count)
    finds_shape h =
        let o = left_of_input come come_after bytes taken told consumes in
        finds (inspected.Shape kind payload_length auth count)
        (ap (λ (a : Answer). trailed (length bytes) a) shape ∙ kept_at_end bytes taken (shaped kind payload_length auth count) count refl (all_taken bytes taken o.0 count o.2 (h o.0 o.1)) counted)

-- ---- the reply

-- What is printed depends on the payload by its line alone.
same_line : (details : Details) (nesting : ℕ) (protected unprotected : Option (List Pair)) (content other : List ℕ) (answer : Answer) → payload_shown details.payload nesting content ≡ payload_shown details.payload nesting other →
    shown_as details nesting protected unprotected content answer ≡ shown_as details nesting protected unprotected other answer
same_line details nesting protected unprotected content other (shaped kind payload auth count) e = rw e refl
same_line details nesting protected unprotected content other (decided verdict) e = refl
same_line details nesting protected unprotected content other (complete whole) e = refl

-- A payload that isn't asked for has no line.
pub unasked_line : (asked : Bool) (nesting : ℕ) (content other : List ℕ) → asked ≡ false → payload_shown asked nesting content ≡ payload_shown asked nesting other
unasked_line asked nesting content other is = rw is refl

-- A sink that held nothing holds what it got.
pub got_line : (asked : Bool) (nesting : ℕ) (content payload : List ℕ) (contents contents_after : Option (List ℕ)) → contents ≡ Some [] → contents_after ≡ Some content → Appends contents contents_after payload →
    payload_shown asked nesting content ≡ payload_shown asked nesting payload
got_line asked nesting content payload contents contents_after none is grows =
    let got : content ≡ payload = rw (none, is) at grows in
    ap (payload_shown asked nesting) got

module _ (header nesting claims : ℕ) (wanted : Wanted) (details : Details) (keys : List KeyValue) (aad bytes : List ℕ) where
  -- Inspecting looks at no key and at no external data.
  same_rules : (asked : Bool) → inspecting header nesting (show_setting asked claims keys aad wanted) ≡ inspecting header nesting (show_setting asked claims [] [] wanted)
  same_rules true = refl
  same_rules false = refl

  -- A message is shown as it is found.
  pub says_found : {F : Type 0} {H D : ℕ} {S : Type 0} {K : _} (setting : Setting) (verifier : Verifier H D S K) (contents contents_after : Option (List ℕ)) (found : Inspected) (content : List ℕ) (reply : Result Reply F) →
      setting ≡ show_setting details.payload claims keys aad wanted → IsInspection header nesting setting bytes verifier contents contents_after found →
      payload_shown details.payload nesting content ≡ payload_shown details.payload nesting (message (inspecting header nesting setting) bytes).so_far.payload →
      IfOk reply (Says (shown_as details nesting (protected_of verifier) (unprotected_of verifier) content (inspection found))) → IfOk reply (Says (shown_in header nesting claims wanted details bytes))
  says_found setting verifier contents contents_after found content reply is finds line says =
      let reading : Reading = message (inspecting header nesting setting) bytes in
      let as_found : shown_as details nesting (protected_of verifier) (unprotected_of verifier) content (inspection found) ≡ shown_as details nesting reading.so_far.protected reading.so_far.unprotected content (trailed (length bytes) reading.answer) =
      rw (finds.protected_is, finds.unprotected_is, finds.answer) refl in
      let same : shown_of details nesting (length bytes) reading ≡ shown_in header nesting claims wanted details bytes =
      ap (λ (rules : Rules). shown_of details nesting (length bytes) (message rules bytes)) (ap (inspecting header nesting) is ∙ same_rules details.payload) in
      subst (λ (o : Output). IfOk reply (Says o)) (as_found ∙ same_line details nesting _ _ content reading.so_far.payload (trailed (length bytes) reading.answer) line ∙ same) says

-- One line more, and one pair fewer is left.
pub one_line_more : (diagnostic : Bool) (bucket text text_after all : List ℕ) (pair : Pair) (left : List Pair) → text ++ bucket_lines diagnostic bucket (Some (pair ∷ left)) ≡ all →
    text_after ≡ text ++ pair_line diagnostic bucket pair → text_after ++ bucket_lines diagnostic bucket (Some left) ≡ all
one_line_more diagnostic bucket text text_after all pair left e more =
    ap (λ (t : List ℕ). t ++ bucket_lines diagnostic bucket (Some left)) more ∙ append_assoc text (pair_line diagnostic bucket pair) (bucket_lines diagnostic bucket (Some left)) ∙ e
