-- What a message asks of its key: under no key nothing is authentic, and its first bytes decide it.
use Rattle.std.proofs.Common.{◌≡◌, ℕ, ◌+◌, ◌*◌, ◌<◌, ◌≤◌, Bool, true, false, List, [], ◌∷◌, ◌++◌, take, drop, length, Option, Some, Result, Ok, Err, refl, sym, ap, subst, ◌∙◌, arith}
use Rattle.std.specs.Prelude.{IfOk, IsOk, nat_lt, if◌then◌else◌, string_bytes}
use Rattle.std.proofs.lemmas.Bool.{ltb-false, ltb-true}
use Rattle.std.proofs.lemmas.List.{drop-append-le, length-drop, length-take, take-append-drop, take_all}
use Rattle.cose_head.specs.declared.algorithm.Alg.{Alg}
use Rattle.cose_head.specs.declared.kind.Kind.{Kind}
use Rattle.cose_head.specs.declared.reason.Reason.TheVariants.{UnknownAlg}
use Rattle.cose_head.specs.declared.refusal.Refusal.{Refusal}
use Rattle.cose_head.specs.declared.head.HeadStep.{HeadStep}
use Rattle.cose_head.specs.declared.head.HeadStep.TheVariants.{Got, More, Fault}
use Rattle.cose_head.specs.Head.{IsMore, IsWhole, bare_head}
use Rattle.cose_head.specs.Laws.{HalfIsShort, HeadFits, HeadStays}
use Rattle.cose_head.specs.Item.{depth_of}
use Rattle.cose_head.specs.Placed.{Placed, children_of, head_of_item, items_from, look}
use Rattle.cose_head.specs.Reading.{read, head}
use Rattle.cose_map.specs.Choice.{Question, chosen, is_answerable, only_one}
use Rattle.cose_map.specs.Key.{key_of}
use Rattle.cose_map.specs.Key.Material.{material_of}
use Rattle.cose_map.specs.Key.Value.{KeyValue}
use Rattle.cose_map.specs.KeySet.{items_in, keys_of}
use Rattle.cose_map.specs.KeySet.View.{keys}
use Rattle.cose_map.specs.Map.Pairs.{Pair}
use Rattle.cose_map.specs.Map.Read.{Read, check_pairs}
use Rattle.cose_map.specs.Map.View.{seen_by}
use Rattle.cose_map.specs.declared.key_set.KeySet.{KeySet}
use Rattle.cose_msg.specs.declared.context.Wanted.{Wanted}
use Rattle.cose_msg.specs.declared.context.Wanted.TheVariants as wants
use Rattle.cose_msg.specs.declared.verdict.Verdict.TheVariants.{Authentic, Refused}
use Rattle.cose_msg.specs.Answer.{Answer, Chosen, Headers, decided, complete, shaped}
use Rattle.cose_msg.specs.Front.{is_cwt_tag}
use Rattle.cose_msg.specs.GrammarLaws.{AuthenticIsMessage}
use Rattle.cose_msg.specs.Laws.{MessageIsBounded, MessageStays, payload_inside}
use Rattle.cose_msg.specs.Message.{Setting, as_choice, comparing, key_choice_of, message, past_chosen, question_of, verdict_of, verifying}
use Rattle.cose_msg.specs.Reading.{Findings, Reading}
use Rattle.cose_msg.specs.Rules.{Rules}
use Rattle.cose_msg.specs.Slice.{outcome_of}
use Rattle.cose_answers.specs.declared.reply.Reply.{Reply}
use Rattle.cose_answers.specs.AskedKeys.{asked, headers_found, headers_setting, headers_verdict, is_of_choice, kind_asked, kind_tagged, number_after, number_of_tag, cose_tag, question_in, question_with, unless_refused}
use Rattle.cose_answers.specs.Printed.{ItemsPrint, Output, Says, items_listed, items_listed_for, keys_print, said_of}

-- ---- under no key

none_chosen : (q : Question) (answerable : Bool) (found : Option Chosen) → as_choice (past_chosen (if answerable then only_one q [] else Err UnknownAlg)) ≡ Ok found → ⊥
none_chosen q true found e = cc
none_chosen q false found e = cc

no_choice : (headers : Headers) (found : Option Chosen) → key_choice_of [] headers ≡ Ok found → ⊥
unfolding chosen
no_choice headers found e = let q = question_of headers in none_chosen q (is_answerable q.kind q.protected_alg q.unprotected_alg) found e

-- What is authentic has a key.
never : AuthenticIsMessage → (wanted : Wanted) (bytes : List ℕ) (kind : Kind) (alg : Alg) (payload taken : ℕ) → headers_verdict wanted bytes ≡ decided (Authentic kind alg payload taken) → ⊥
never law wanted bytes kind alg payload taken e =
    let authentic = (law 65535 16 (headers_setting wanted) (λ key digest signature. false) bytes kind alg payload taken).0 e in
    no_choice authentic.whole.headers authentic.whole.chosen authentic.message.chosen

module _ (law : AuthenticIsMessage) (wanted : Wanted) (bytes : List ℕ) (count : ℕ) (setting : Setting) (same : setting ≡ headers_setting wanted) (result : Option (Result (Kind × Alg) Refusal))
    (told : outcome_of count (verdict_of 65535 16 setting (λ key digest signature. false) bytes) ≡ result) where
  outcome : outcome_of count (headers_verdict wanted bytes) ≡ result
  outcome = subst (λ (s : Setting). outcome_of count (verdict_of 65535 16 s (λ key digest signature. false) bytes) ≡ result) same told

  by_answer : (refusal : Refusal) (answer : Answer) → headers_verdict wanted bytes ≡ answer → outcome_of count answer ≡ Some (Err refusal) → answer ≡ decided (Refused refusal)
  by_answer refusal (decided (Refused other)) is e = let one : other ≡ refusal = cc in ap (λ (r : Refusal). decided (Refused r)) one
  by_answer refusal (decided (Authentic kind alg payload taken)) is e = absurd (never law wanted bytes kind alg payload taken is)
  by_answer refusal (complete whole) is e = cc
  by_answer refusal (shaped kind payload auth taken) is e = cc

  -- So the outcome is a refusal ..
  pub refused_so : (refusal : Refusal) → result ≡ Some (Err refusal) → headers_verdict wanted bytes ≡ decided (Refused refusal)
  unfolding outcome
  refused_so refusal is = by_answer refusal (headers_verdict wanted bytes) refl (outcome ∙ is)

  by_other : (found : Kind × Alg) (answer : Answer) → headers_verdict wanted bytes ≡ answer → outcome_of count answer ≡ Some (Ok found) → ⊥
  by_other found (decided (Refused other)) is e = cc
  by_other found (decided (Authentic kind alg payload taken)) is e = never law wanted bytes kind alg payload taken is
  by_other found (complete whole) is e = cc
  by_other found (shaped kind payload auth taken) is e = cc

  -- .. and no other.
  pub not_authentic : (found : Kind × Alg) → result ≡ Some (Ok found) → ⊥
  unfolding outcome
  not_authentic found is = by_other found (headers_verdict wanted bytes) refl (outcome ∙ is)

-- The set of no item has no key.
empty_set : keys_of (160 ∷ []) ≡ Ok []
unfolding keys_of key_of material_of check_pairs children_of items_from look head_of_item bare_head read head depth_of
empty_set = refl

-- It is read as such.
pub read_so : (set : Read KeySet) → seen_by keys set ≡ keys_of (160 ∷ []) → IsOk set × IfOk set (λ set. keys set ≡ [])
unfolding empty_set
read_so (Ok set) e = let none : Ok (keys set) ≡ Ok [] = e ∙ empty_set in (refl, cc)
read_so (Err refusal) e = let none : Err refusal ≡ Ok [] = e ∙ empty_set in cc

-- ---- the reply

module _ {F : Type 0} (wanted : Wanted) (bytes : List ℕ) (items : List Placed) (usable : ℕ) (reply : Result Reply F) (refusal : Refusal) (is : headers_verdict wanted bytes ≡ decided (Refused refusal)) where
  answered_so : (output : Output) (answer : Result Question Answer) → unless_refused (question_with (kind_asked wanted bytes) (headers_found wanted bytes)) (decided (Refused refusal)) ≡ answer →
      items_listed_for answer items usable ≡ output → IfOk reply (Says output) → IfOk reply (Says (items_listed_for (asked wanted bytes) items usable))
  answered_so output answer e o says =
      let given : asked wanted bytes ≡ answer = ap (λ (a : Answer). unless_refused (question_with (kind_asked wanted bytes) (headers_found wanted bytes)) a) is ∙ e in
      subst (λ (said : Output). IfOk reply (Says said)) (sym (ap (λ (a : Result Question Answer). items_listed_for a items usable) given ∙ o)) says

  -- Its headers are refused.
  pub says_refused : is_of_choice refusal.reason ≡ false → IfOk reply (Says (said_of (Refused refusal))) → IfOk reply (Says (items_listed_for (asked wanted bytes) items usable))
  says_refused choice says =
      answered_so (said_of (Refused refusal)) (Err (decided (Refused refusal)))
      (ap (λ (b : Bool). if b then Ok (question_with (kind_asked wanted bytes) (headers_found wanted bytes)) else Err (decided (Refused refusal))) choice) refl says

  -- It asks for a key.
  pub says_listed : is_of_choice refusal.reason ≡ true → (kind : Kind) (protected unprotected : Option (List Pair)) (q : Question) → kind ≡ kind_asked wanted bytes →
      protected ≡ (headers_found wanted bytes).protected → unprotected ≡ (headers_found wanted bytes).unprotected → q ≡ question_in kind protected unprotected →
      IfOk reply (λ reply. string_bytes reply.text ≡ (items_listed (Some q) items usable).text) → IfOk reply (λ reply. reply.status ≡ (items_listed (Some q) items usable).status) →
      IfOk reply (Says (items_listed_for (asked wanted bytes) items usable))
  says_listed choice kind protected unprotected q k p u asks text status =
      let whole : q ≡ question_with (kind_asked wanted bytes) (headers_found wanted bytes) = asks ∙ rw (k, p, u) refl in
      answered_so (items_listed (Some q) items usable) (Ok q)
      (ap (λ (b : Bool). if b then Ok (question_with (kind_asked wanted bytes) (headers_found wanted bytes)) else Err (decided (Refused refusal))) choice
      ∙ ap (λ (question : Question). Ok question) (sym whole)) refl (both reply text status)
    where
      both : (r : Result Reply F) → IfOk r (λ reply. string_bytes reply.text ≡ (items_listed (Some q) items usable).text) → IfOk r (λ reply. reply.status ≡ (items_listed (Some q) items usable).status) →
          IfOk r (Says (items_listed (Some q) items usable))
      both (Ok said) t s = record { text = t; status = s }
      both (Err fault) t s = tt

-- What is printed for the items of a key set that was read.
pub says_of_items : {F : Type 0} (said : ItemsPrint) (bytes : List ℕ) (set : List KeyValue) (item : Placed) (count : ℕ) (reply : Result Reply F) → keys_of bytes ≡ Ok set → item ≡ record { bytes = bytes; place = 0 } → count ≡ length set →
    IfOk reply (Says (said (items_in item) count)) → IfOk reply (Says (keys_print said bytes))
says_of_items said bytes set item count reply read is counted says =
    let printed : keys_print said bytes ≡ said (items_in item) count = rw (read, is, counted) refl in
    subst (λ (output : Output). IfOk reply (Says output)) (sym printed) says

-- ---- the first bytes

-- So many bytes have the head that they begin with.
long_head : HeadStays → HalfIsShort → (front rest : List ℕ) → 9 ≤ length front → bare_head (front ++ rest) ≡ bare_head front
long_head stays short front rest long = stays front rest (whole (bare_head front) refl)
  where
    whole : (step : HeadStep) → bare_head front ≡ step → IsWhole (bare_head front)
    whole (Got head used) e = subst IsWhole (sym e) tt
    whole (More missing) e =
        let few : length front < 9 = short front (subst IsMore (sym e) tt) in
        absurd (omega (arith, few, long))
    whole (Fault reason) e = subst IsWhole (sym e) tt

-- And those of both tags.
long_tags : HeadStays → HalfIsShort → HeadFits → (front rest : List ℕ) → 18 ≤ length front → cose_tag (front ++ rest) ≡ cose_tag front
long_tags stays short fits front rest long =
    ap (number_after (front ++ rest)) (long_head stays short front rest (omega (arith, long))) ∙ go (bare_head front) refl
  where
    go : (step : HeadStep) → bare_head front ≡ step → number_after (front ++ rest) step ≡ number_after front step
    go (Got head used) e =
        let fit = fits front head used e in
        let few : used ≤ 9 = fit.1 in
        let there : used ≤ length front = fit.2 in
        let left : 9 ≤ length (drop used front) = rw (length-drop used front) (omega (arith, few, long)) in
        let next : bare_head (drop used (front ++ rest)) ≡ bare_head (drop used front) =
        ap bare_head (drop-append-le used front rest there) ∙ long_head stays short (drop used front) rest left in
        ap (λ (step : HeadStep). if is_cwt_tag true head then number_of_tag step else number_of_tag (Got head used)) next
    go (More missing) e = refl
    go (Fault reason) e = refl

module _ (bounded : MessageIsBounded) (stays : MessageStays) (head_stays : HeadStays) (half_short : HalfIsShort) (head_fits : HeadFits) where
  enough : (rules : Rules) → ((headers : Headers) (found : Option Chosen) → rules.choice headers ≡ Ok found → ⊥) → (2 * rules.room + 54 + payload_inside rules.source rules.payload_limit + 0 ≤ 131124) →
      (bytes : List ℕ) → message rules (take 131124 bytes) ≡ message rules bytes
  enough rules none room bytes = go (nat_lt 131124 (length bytes)) refl
    where
      go : (long : Bool) → nat_lt 131124 (length bytes) ≡ long → message rules (take 131124 bytes) ≡ message rules bytes
      go false e =
          let fits : length bytes ≤ 131124 = let f = ltb-false 131124 (length bytes) e in omega (arith, f) in
          ap (message rules) (take_all 131124 bytes fits)
      go true e =
          let more : 131124 < length bytes = ltb-true 131124 (length bytes) e in
          let n : length (take 131124 bytes) ≡ 131124 = let m = length-take 131124 bytes in omega (arith, m, more) in
          let settled : (message rules (take 131124 bytes)).settled ≡ true = bounded rules 0 (λ headers found count is fits. absurd (none headers found is)) (take 131124 bytes) (omega (arith, room, n)) in
          sym (stays rules (take 131124 bytes) (drop 131124 bytes) settled) ∙ ap (message rules) (take-append-drop 131124 bytes)

  same_verdict : (wanted : Wanted) (bytes : List ℕ) → headers_verdict wanted (take 131124 bytes) ≡ headers_verdict wanted bytes
  same_verdict wanted bytes =
      ap (λ (r : Reading). r.answer) (enough (verifying 65535 16 (headers_setting wanted) (λ key digest signature. false)) no_choice (omega arith) bytes)

  same_found : (wanted : Wanted) (bytes : List ℕ) → headers_found wanted (take 131124 bytes) ≡ headers_found wanted bytes
  same_found wanted bytes = ap (λ (r : Reading). r.so_far) (enough (comparing 65535 16 (headers_setting wanted)) no_choice (omega arith) bytes)

  kind_said : (wanted : Wanted) (bytes : List ℕ) → kind_asked wanted (take 131124 bytes) ≡ kind_asked wanted bytes
  kind_said wants.Mac0 bytes = refl
  kind_said wants.Sign1 bytes = refl
  kind_said wants.Tagged bytes = ap kind_tagged (go (nat_lt 131124 (length bytes)) refl)
    where
      go : (long : Bool) → nat_lt 131124 (length bytes) ≡ long → cose_tag (take 131124 bytes) ≡ cose_tag bytes
      go false e =
          let fits : length bytes ≤ 131124 = let f = ltb-false 131124 (length bytes) e in omega (arith, f) in
          ap cose_tag (take_all 131124 bytes fits)
      go true e =
          let more : 131124 < length bytes = ltb-true 131124 (length bytes) e in
          let n : length (take 131124 bytes) ≡ 131124 = let m = length-take 131124 bytes in omega (arith, m, more) in
          sym (long_tags head_stays half_short head_fits (take 131124 bytes) (drop 131124 bytes) (omega (arith, n))) ∙ ap cose_tag (take-append-drop 131124 bytes)

  -- What a message asks is what its first bytes ask.
  pub same_asked : (wanted : Wanted) (bytes : List ℕ) → asked wanted (take 131124 bytes) ≡ asked wanted bytes
  same_asked wanted bytes =
      ap (λ (k : Kind). unless_refused (question_with k (headers_found wanted (take 131124 bytes))) (headers_verdict wanted (take 131124 bytes))) (kind_said wanted bytes)
      ∙ ap (λ (f : Findings). unless_refused (question_with (kind_asked wanted bytes) f) (headers_verdict wanted (take 131124 bytes))) (same_found wanted bytes)
      ∙ ap (λ (a : Answer). unless_refused (question_with (kind_asked wanted bytes) (headers_found wanted bytes)) a) (same_verdict wanted bytes)

  pub says_of_front : {F : Type 0} (wanted : Wanted) (front bytes : List ℕ) (items : List Placed) (usable : ℕ) (reply : Result Reply F) → front ≡ take 131124 bytes →
      IfOk reply (Says (items_listed_for (asked wanted front) items usable)) → IfOk reply (Says (items_listed_for (asked wanted bytes) items usable))
  says_of_front wanted front bytes items usable reply is says =
      subst (λ (a : Result Question Answer). IfOk reply (Says (items_listed_for a items usable))) (ap (asked wanted) is ∙ same_asked wanted bytes) says
