-- A reply to what is asked of the message of an input: its verdict, or what its signature is verified with.
use Rattle.std.proofs.Common.{◌≡◌, ℕ, ◌<◌, ◌≤◌, Bool, true, false, List, [], ◌∷◌, ◌++◌, length, take, Option, Some, None, Result, refl, sym, ap, subst, ◌∙◌, arith, append-nil}
use Rattle.std.specs.Prelude.{IfOk, map, nat_lt, option_map, string_bytes}
use Rattle.std.specs.Str.{bytes_eq}
use Rattle.std.specs.Io.KnownBytes.{Consumes, IsAtEnd}
use Rattle.std.proofs.lemmas.Bool.{ltb-true, ltb-false}
use Rattle.cose_head.specs.Algorithm.{is_mac_of}
use Rattle.cose_head.specs.declared.reason.Reason.TheVariants.{Trailing}
use Rattle.cose_head.specs.declared.refusal.Refusal.{Refusal}
use Rattle.cose_map.specs.Map.Pairs.{Pair}
use Rattle.cose_msg.specs.declared.verdict.Verdict.{Verdict}
use Rattle.cose_msg.specs.declared.verdict.Verdict.TheVariants.{Refused}
use Rattle.cose_msg.specs.Answer.{Answer, decided, complete, shaped, Chosen, Whole}
use Rattle.cose_msg.specs.GrammarLaws.{MessageIsRead}
use Rattle.cose_msg.specs.Laws.{MessageStays, VerifyingGoesLast, answered, then_verified}
use Rattle.cose_msg.specs.Message.{Decides, Setting, compare_tag, comparing, compared, judged, message, tag_of, verified, verifying}
use Rattle.cose_msg.specs.Reading.{Reading}
use Rattle.cose_msg.specs.Rules.{Rules}
use Rattle.cose_msg.specs.Shown.{SignInput, sign_input_in, signed_with}
use Rattle.cose_msg.specs.Unrefused.{BeginsWithMessage, IsUnrefused, UnrefusedIsMessage}
use Rattle.cose_msg.specs.Reader.{Counts}
use Rattle.cose_answers.proofs.lemmas.Messages.Trailing.{all_taken, kept_at_end, left_of_input, refused_past, trails}
use Rattle.cose_answers.specs.declared.request.Question.{Question}
use Rattle.cose_answers.specs.declared.request.Question.TheVariants as questions
use Rattle.cose_answers.specs.declared.reply.Reply.{Reply}
use Rattle.cose_answers.specs.Printed.{Output, Says, answered_in, digested, digested_as, digested_before, digested_in, followed_by, headed_in, headed_of, input_answer, output_of, output_with, said_before, said_of, said_with, trailed, trailing_refusal, vouched}
use Rattle.cose_answers.specs.Stated.{payload_wanted_of}
use Rattle.cose_answers.specs.Vouch.{vouch_word}

-- ---- a message without a signature

keyless : (aad : List ℕ) (decides : Decides) (chosen : Option Chosen) (whole : Whole) (verdict : Verdict) → None ≡ option_map (signed_with aad whole) chosen →
    verified aad decides chosen (complete whole) ≡ decided verdict → complete whole ≡ decided verdict
keyless aad decides None whole verdict none e = e
keyless aad decides (Some found) whole verdict none e = absurd cc

-- The `EcVerifier` isn't asked about it.
undecided : (aad : List ℕ) (decides : Decides) (answer : Answer) (verdict : Verdict) → None ≡ sign_input_in aad answer →
    then_verified aad decides answer ≡ decided verdict → answer ≡ decided verdict
undecided aad decides (decided other) verdict none e = e
undecided aad decides (complete whole) verdict none e = keyless aad decides whole.chosen whole verdict none e
undecided aad decides (shaped kind payload auth taken) verdict none e = absurd cc

-- ---- a message with one

signed_whole : (aad : List ℕ) (answer : Answer) (input : SignInput) → Some input ≡ sign_input_in aad answer → (whole : Whole) × (answer ≡ complete whole)
signed_whole aad (complete whole) input e = (whole, refl)
signed_whole aad (decided verdict) input e = absurd cc
signed_whole aad (shaped kind payload auth taken) input e = absurd cc

-- A tag that is compared leaves nothing complete: so what is complete is as it was read.
judged_is_decided : (holds : Bool) (found : Chosen) (one whole : Whole) → judged holds found one ≡ complete whole → ⊥
judged_is_decided true found one whole e = cc
judged_is_decided false found one whole e = cc

uncompared_key : (aad : List ℕ) (chosen : Option Chosen) (one whole : Whole) → compared aad chosen one ≡ complete whole → one ≡ whole
uncompared_key aad None one whole e = cc
uncompared_key aad (Some found) one whole e = by_kind (is_mac_of found.alg) refl
  where
    by_kind : (b : Bool) → is_mac_of found.alg ≡ b → one ≡ whole
    by_kind true is = let tagged : compare_tag aad found one ≡ complete whole = rw is at e in absurd (judged_is_decided (bytes_eq one.auth (tag_of aad found one)) found one whole tagged)
    by_kind false is = let signed = rw is at e in cc

module _ (stays : MessageStays) (rules : Rules) where
  by_settled : (taken rest : List ℕ) (b : Bool) → (message rules taken).settled ≡ b → ((message rules taken).settled ≡ false → rest ≡ []) → message rules (taken ++ rest) ≡ message rules taken
  by_settled taken rest true s ends = stays rules taken rest s
  by_settled taken rest false s ends = ap (λ (r : List ℕ). message rules (taken ++ r)) (ends s) ∙ ap (message rules) (append-nil taken)

  -- The reading of the bytes taken is that of all bytes, where no byte was left unless the bytes taken settled it.
  pub all_come_to : (bytes taken rest : List ℕ) → bytes ≡ taken ++ rest → ((message rules taken).settled ≡ false → rest ≡ []) → message rules bytes ≡ message rules taken
  all_come_to bytes taken rest whole ends = ap (message rules) whole ∙ by_settled taken rest (message rules taken).settled refl ends

-- Where no byte before the last settled it, a message that is complete ends with the bytes.
module _ (is_read : MessageIsRead) (is_message : UnrefusedIsMessage) (rules : Rules) (aad : List ℕ) (compares : (whole : Whole) → rules.finish whole ≡ compared aad whole.chosen whole) (taken : List ℕ) (whole : Whole)
    (is : (message rules taken).answer ≡ complete whole) (earlier : (n : ℕ) → n < length taken → (message rules (take n taken)).settled ≡ false) where
  begins : BeginsWithMessage rules taken whole
  begins =
      let found = is_message rules taken (subst IsUnrefused (sym is) tt) in
      let same : found.0 ≡ whole = uncompared_key aad found.0.chosen found.0 whole (sym (compares found.0) ∙ sym found.2 ∙ is) in
      subst (BeginsWithMessage rules taken) same found.1

  settled_by_it : (message rules (take whole.taken taken)).settled ≡ true
  settled_by_it =
      ap (λ (bytes : List ℕ). (message rules bytes).settled) (sym (append-nil (take whole.taken taken))) ∙
      ap (λ (reading : Reading). reading.settled) (is_read rules (take whole.taken taken) [] whole begins.message)

  pub ends_with_it : whole.taken ≡ length taken
  ends_with_it = from (nat_lt whole.taken (length taken)) refl
    where
      from : (b : Bool) → nat_lt whole.taken (length taken) ≡ b → whole.taken ≡ length taken
      from true e = let contrary : false ≡ true = sym (earlier whole.taken (ltb-true whole.taken (length taken) e)) ∙ settled_by_it in absurd cc
      from false e = let far : length taken ≤ whole.taken = ltb-false whole.taken (length taken) e in omega (arith, far, begins.within)

-- A run over the input, whatever decides on signatures in it, has taken these bytes and left the rest.
module _ (header nesting : ℕ) (setting : Setting) (bytes : List ℕ) (stays : MessageStays) (last : VerifyingGoesLast) (decides : Decides) (taken rest : List ℕ) (split : bytes ≡ taken ++ rest)
    (ended : (message (verifying header nesting setting decides) taken).settled ≡ false → rest ≡ []) where
  rules : Rules
  rules = comparing header nesting setting

  verified_after : (s : List ℕ) → message (verifying header nesting setting decides) s ≡ answered (then_verified setting.aad decides) (message rules s)
  unfolding rules
  verified_after s = last header nesting setting decides s

  as_settled : (s : List ℕ) → (message (verifying header nesting setting decides) s).settled ≡ (message rules s).settled
  as_settled s = ap (λ (r : Reading). r.settled) (verified_after s)

  read_whole : message rules bytes ≡ message rules taken
  read_whole = all_come_to stays rules bytes taken rest split (λ unsettled. ended (as_settled taken ∙ unsettled))

  -- So many bytes of a payload are wanted.
  pub wanted_whole : payload_wanted_of header nesting setting bytes ≡ (message (verifying header nesting setting decides) taken).payload_wanted
  unfolding rules
  wanted_whole = ap (λ (r : Reading). r.payload_wanted) read_whole ∙ sym (ap (λ (r : Reading). r.payload_wanted) (verified_after taken))

  module _ (is_read : MessageIsRead) (is_message : UnrefusedIsMessage) (earlier : (n : ℕ) → n < length taken → (message (verifying header nesting setting decides) (take n taken)).settled ≡ false)
      (verdict : Verdict) (answer : (message (verifying header nesting setting decides) taken).answer ≡ decided verdict) (counts : Counts verdict (length taken)) (count : ℕ) (counted : count ≡ length taken) where
    undigested : None ≡ sign_input_in setting.aad (message (comparing header nesting setting) taken).answer → said_of (followed_by rest verdict) ≡ digested_in header nesting setting bytes
    unfolding rules
    undigested none =
        let compared : (message rules taken).answer ≡ decided verdict =
        undecided setting.aad decides (message rules taken).answer verdict none (sym (ap (λ (r : Reading). r.answer) (verified_after taken)) ∙ answer) in
        let all : (message rules bytes).answer ≡ decided verdict = ap (λ (r : Reading). r.answer) read_whole ∙ compared in
        let ends : trailed (length bytes) (message rules bytes).answer ≡ decided (followed_by rest verdict) =
        ap (λ (a : Answer). trailed (length bytes) a) all ∙ trails bytes taken rest verdict split counts in
        sym (ap (digested_as setting.aad) ends)

    module _ (input : SignInput) (signed : Some input ≡ sign_input_in setting.aad (message (comparing header nesting setting) taken).answer) where
      -- The message is whole, and ends with the bytes taken.
      is_whole : (whole : Whole) × ((message rules bytes).answer ≡ complete whole) × (whole.taken ≡ count) × (Some input ≡ sign_input_in setting.aad (complete whole))
      unfolding rules
      is_whole =
          let w = signed_whole setting.aad (message rules taken).answer input signed in
          let ends = ends_with_it is_read is_message rules setting.aad (λ whole. refl) taken w.0 w.1 (λ n short. sym (as_settled (take n taken)) ∙ earlier n short) in
          (w.0, ap (λ (r : Reading). r.answer) read_whole ∙ w.1, ends ∙ sym counted, signed ∙ ap (sign_input_in setting.aad) w.1)

      longer : (refusal : Refusal) → Some refusal ≡ trailing_refusal rest count → said_of (Refused refusal) ≡ digested_in header nesting setting bytes
      unfolding rules
      longer refusal far =
          let w = is_whole in
          let e : trailed (length bytes) (message rules bytes).answer ≡ decided (Refused refusal) =
          ap (λ (a : Answer). trailed (length bytes) a) w.1 ∙ refused_past bytes taken rest (complete w.0) count refusal (ap Some w.2) split counted far in
          sym (ap (digested_as setting.aad) e)

      whole_and_signed : None ≡ trailing_refusal rest count → vouched (vouch_word input) ≡ digested_in header nesting setting bytes
      unfolding rules
      whole_and_signed none =
          let w = is_whole in
          let all = all_taken bytes taken rest count split none in
          let e : trailed (length bytes) (message rules bytes).answer ≡ complete w.0 =
          ap (λ (a : Answer). trailed (length bytes) a) w.1 ∙ kept_at_end bytes taken (complete w.0) count (ap Some w.2) all counted in
          sym (ap (digested_as setting.aad) e ∙ ap (λ (i : Option SignInput). digested i (complete w.0)) (sym w.3))

    by_rest : (left : List ℕ) → left ≡ rest → (input : SignInput) → Some input ≡ sign_input_in setting.aad (message (comparing header nesting setting) taken).answer →
        digested_before left (Some input) count verdict ≡ digested_in header nesting setting bytes
    by_rest [] is input signed = whole_and_signed input signed (ap (λ (l : List ℕ). trailing_refusal l count) is)
    by_rest (byte ∷ more) is input signed = longer input signed (record { reason = Trailing; place = count }) (ap (λ (l : List ℕ). trailing_refusal l count) is)

    is_digested : (input : Option SignInput) → input ≡ sign_input_in setting.aad (message (comparing header nesting setting) taken).answer → digested_before rest input count verdict ≡ digested_in header nesting setting bytes
    is_digested None none = undigested none
    is_digested (Some input) signed = by_rest rest refl input signed

    -- Where the verdict is asked for, a further byte is its matter.
    is_verified : said_of (followed_by rest verdict) ≡ output_of (input_answer header nesting setting decides bytes)
    is_verified =
        let same : message (verifying header nesting setting decides) bytes ≡ message (verifying header nesting setting decides) taken =
        all_come_to stays (verifying header nesting setting decides) bytes taken rest split ended in
        let all : input_answer header nesting setting decides bytes ≡ decided (followed_by rest verdict) =
        ap (λ (r : Reading). trailed (length bytes) r.answer) same ∙ ap (trailed (length bytes)) answer ∙ trails bytes taken rest verdict split counts in
        sym (ap output_of all)

    -- Where header parameters are asked for too, the buckets are those of the bytes taken.
    is_headed : (labels : List (List ℕ)) (protected unprotected : Option (List Pair)) → protected ≡ (message (comparing header nesting setting) taken).so_far.protected →
        unprotected ≡ (message (comparing header nesting setting) taken).so_far.unprotected → said_with labels protected unprotected (followed_by rest verdict) ≡ headed_in labels header nesting setting decides bytes
    unfolding rules
    is_headed labels protected unprotected is_protected is_unprotected =
        let reading : Reading = message (verifying header nesting setting decides) taken in
        let same : message (verifying header nesting setting decides) bytes ≡ reading = all_come_to stays (verifying header nesting setting decides) bytes taken rest split ended in
        let all : trailed (length bytes) reading.answer ≡ decided (followed_by rest verdict) = ap (trailed (length bytes)) answer ∙ trails bytes taken rest verdict split counts in
        let one : reading.so_far.protected ≡ protected = ap (λ (r : Reading). r.so_far.protected) (verified_after taken) ∙ sym is_protected in
        let other : reading.so_far.unprotected ≡ unprotected = ap (λ (r : Reading). r.so_far.unprotected) (verified_after taken) ∙ sym is_unprotected in
        sym (ap (headed_of labels (length bytes)) same ∙ ap (output_with labels reading.so_far.protected reading.so_far.unprotected) all
        ∙ ap (λ (p : Option (List Pair)). said_with labels p reading.so_far.unprotected (followed_by rest verdict)) one
        ∙ ap (λ (p : Option (List Pair)). said_with labels protected p (followed_by rest verdict)) other)

    pub is_answered : (question : Question) (input : Option SignInput) (protected unprotected : Option (List Pair)) → input ≡ sign_input_in setting.aad (message (comparing header nesting setting) taken).answer →
        protected ≡ (message (comparing header nesting setting) taken).so_far.protected → unprotected ≡ (message (comparing header nesting setting) taken).so_far.unprotected →
        said_before question rest input count protected unprotected verdict ≡ answered_in question header nesting setting decides bytes
    is_answered questions.Verdict input protected unprotected signed is_protected is_unprotected = is_verified
    is_answered questions.Digest input protected unprotected signed is_protected is_unprotected = is_digested input signed
    is_answered (questions.Headers labels) input protected unprotected signed is_protected is_unprotected = is_headed (map string_bytes labels.items) protected unprotected is_protected is_unprotected

-- ---- replies

pub says_equal : {F : Type 0} (reply : Result Reply F) (said asked : Output) → said ≡ asked → IfOk reply (Says said) → IfOk reply (Says asked)
says_equal reply said asked same says = subst (λ (o : Output). IfOk reply (Says o)) same says

-- The reply to an input whose bytes are known.
pub says_answered : {F : Type 0} (question : Question) (header nesting : ℕ) (setting : Setting) (bytes : List ℕ) (stays : MessageStays) (last : VerifyingGoesLast) (decides : Decides) (is_read : MessageIsRead) (is_message : UnrefusedIsMessage)
    (come come_after : Option (List ℕ)) (taken : List ℕ) (verdict : Verdict) (count : ℕ) (input : Option SignInput) (protected unprotected : Option (List Pair)) (reply : Result Reply F) → come ≡ Some bytes → Consumes come come_after taken →
    ((message (verifying header nesting setting decides) taken).settled ≡ false → IsAtEnd come_after) →
    ((n : ℕ) → n < length taken → (message (verifying header nesting setting decides) (take n taken)).settled ≡ false) → (message (verifying header nesting setting decides) taken).answer ≡ decided verdict →
    Counts verdict (length taken) → count ≡ length taken → input ≡ sign_input_in setting.aad (message (comparing header nesting setting) taken).answer →
    protected ≡ (message (comparing header nesting setting) taken).so_far.protected → unprotected ≡ (message (comparing header nesting setting) taken).so_far.unprotected →
    ((rest : List ℕ) → come_after ≡ Some rest → IfOk reply (Says (said_before question rest input count protected unprotected verdict))) → IfOk reply (Says (answered_in question header nesting setting decides bytes))
says_answered question header nesting setting bytes stays last decides is_read is_message come come_after taken verdict count input protected unprotected reply told consumes ended earlier answer counts counted is is_protected is_unprotected says =
    let o = left_of_input come come_after bytes taken told consumes in
    let at_end : (message (verifying header nesting setting decides) taken).settled ≡ false → o.0 ≡ [] = λ unsettled. let end = rw o.1 at ended unsettled in end in
    says_equal reply _ _ (is_answered header nesting setting bytes stays last decides taken o.0 o.2 at_end is_read is_message earlier verdict answer counts count counted question input protected unprotected is is_protected is_unprotected) (says o.0 o.1)

-- The replies of the three cases.
pub says_unsigned : {F : Type 0} (rest : List ℕ) (input : Option SignInput) (count : ℕ) (verdict : Verdict) (reply : Result Reply F) → None ≡ input →
    IfOk reply (Says (said_of (followed_by rest verdict))) → IfOk reply (Says (digested_before rest input count verdict))
says_unsigned rest input count verdict reply none says =
    says_equal reply _ _ (ap (λ (i : Option SignInput). digested_before rest i count verdict) none) says

says_followed : {F : Type 0} (rest : List ℕ) (sign_input : SignInput) (count : ℕ) (verdict : Verdict) (refusal : Refusal) (reply : Result Reply F) → Some refusal ≡ trailing_refusal rest count →
    IfOk reply (Says (said_of (Refused refusal))) → IfOk reply (Says (digested_before rest (Some sign_input) count verdict))
says_followed [] sign_input count verdict refusal reply is says = absurd cc
says_followed (byte ∷ rest) sign_input count verdict refusal reply is says =
    let same : refusal ≡ record { reason = Trailing; place = count } = cc in
    says_equal reply _ _ (ap (λ (r : Refusal). said_of (Refused r)) same) says

pub says_longer : {F : Type 0} (rest : List ℕ) (input : Option SignInput) (sign_input : SignInput) (count : ℕ) (verdict : Verdict) (refusal : Refusal) (reply : Result Reply F) → Some sign_input ≡ input →
    Some refusal ≡ trailing_refusal rest count → IfOk reply (Says (said_of (Refused refusal))) → IfOk reply (Says (digested_before rest input count verdict))
says_longer rest input sign_input count verdict refusal reply some is says =
    says_equal reply _ _ (ap (λ (i : Option SignInput). digested_before rest i count verdict) some) (says_followed rest sign_input count verdict refusal reply is says)

says_alone : {F : Type 0} (rest : List ℕ) (sign_input : SignInput) (count : ℕ) (verdict : Verdict) (reply : Result Reply F) → None ≡ trailing_refusal rest count →
    IfOk reply (Says (vouched (vouch_word sign_input))) → IfOk reply (Says (digested_before rest (Some sign_input) count verdict))
says_alone [] sign_input count verdict reply is says = says
says_alone (byte ∷ rest) sign_input count verdict reply is says = absurd cc

pub says_vouched : {F : Type 0} (rest : List ℕ) (input : Option SignInput) (sign_input : SignInput) (count : ℕ) (verdict : Verdict) (word : List ℕ) (reply : Result Reply F) → Some sign_input ≡ input →
    None ≡ trailing_refusal rest count → word ≡ vouch_word sign_input → IfOk reply (Says (vouched word)) → IfOk reply (Says (digested_before rest input count verdict))
says_vouched rest input sign_input count verdict word reply some none is says =
    says_equal reply _ _ (ap (λ (i : Option SignInput). digested_before rest i count verdict) some)
    (says_alone rest sign_input count verdict reply none (says_equal reply _ _ (ap vouched is) says))
