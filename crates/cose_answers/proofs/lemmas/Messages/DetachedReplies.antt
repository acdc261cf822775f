-- A reply to what is asked of a message whose payload is detached.
use Rattle.std.proofs.Common.{◌≡◌, ℕ, zero, suc, ◌<◌, ◌≤◌, ◌^◌, Bool, true, false, List, [], ◌++◌, take, length, Option, Some, None, Result, Ok, Err, refl, sym, ap, subst, ◌∙◌, arith, append-nil}
use Rattle.std.specs.Prelude.{IfOk, map, nat_lt, string_bytes}
use Rattle.std.specs.Io.KnownBytes.{Consumes, IsAtEnd}
use Rattle.std.proofs.lemmas.Bool.{ltb-true, ltb-false}
use Rattle.std.proofs.lemmas.List.{length-take-le}
use Rattle.cose_map.specs.Key.Value.{KeyValue}
use Rattle.cose_map.specs.Map.Pairs.{Pair}
use Rattle.cose_map.specs.Map.Read.{Read}
use Rattle.cose_msg.specs.declared.verdict.Verdict.{Verdict}
use Rattle.cose_msg.specs.Answer.{decided}
use Rattle.cose_msg.specs.GrammarLaws.{MessageIsRead}
use Rattle.cose_msg.specs.Laws.{MessageStays, PayloadStays, VerifyingGoesLast, answered, then_verified}
use Rattle.cose_msg.specs.Message.{Decides, Setting, comparing, message, verifying}
use Rattle.cose_msg.specs.Reader.{Counts}
use Rattle.cose_msg.specs.Reading.{Reading}
use Rattle.cose_msg.specs.Shown.{SignInput, sign_input_in}
use Rattle.cose_msg.specs.Unrefused.{UnrefusedIsMessage}
use Rattle.cose_answers.specs.declared.fault.Fault.{Fault}
use Rattle.cose_answers.specs.declared.fault.Fault.TheVariants as faults
use Rattle.cose_answers.specs.declared.request.Question.{Question}
use Rattle.cose_answers.specs.declared.request.Question.TheVariants as questions
use Rattle.cose_answers.specs.declared.reply.Reply.{Reply}
use Rattle.cose_answers.specs.Faults.{FailsForKeys}
use Rattle.cose_answers.specs.PayloadFile.{counted, never}
use Rattle.cose_answers.specs.Printed.{Output, Says, answered_in, answered_under, digested_as, headed_of, output_of, said_before, setting_under, trailed, with_payload}
use Rattle.cose_answers.specs.Stated.{AnsweredOf, RepliesWith, answered_from, answered_of_short, answered_short, payload_wanted_of, stating, unless_missing}
use Rattle.cose_answers.specs.Under.{Under}
use Rattle.cose_answers.specs.Vouch.{vouching}
use Rattle.cose_answers.proofs.lemmas.Messages.MessageReplies.{is_answered, says_equal, wanted_whole}
use Rattle.cose_answers.proofs.lemmas.Messages.Replies.{said_with_keys}
use Rattle.cose_answers.proofs.lemmas.Payloads.ShortPayloads.{came_of_short, none_of}
use Rattle.cose_answers.proofs.lemmas.Messages.Trailing.{left_of_input}

-- What is printed is a function of the reading before anybody decides on the signature.
abbrev answered_by : Question → List ℕ → Decides → ℕ → Reading → Output
answered_by questions.Verdict aad decides n reading = output_of (trailed n (then_verified aad decides reading.answer))
answered_by questions.Digest aad decides n reading = digested_as aad (trailed n reading.answer)
answered_by (questions.Headers labels) aad decides n reading = headed_of (map string_bytes labels.items) n (answered (then_verified aad decides) reading)

by_reading : (last : VerifyingGoesLast) (question : Question) (header nesting : ℕ) (setting : Setting) (decides : Decides) (bytes : List ℕ) →
    answered_in question header nesting setting decides bytes ≡ answered_by question setting.aad decides (length bytes) (message (comparing header nesting setting) bytes)
by_reading last questions.Verdict header nesting setting decides bytes = ap (λ (r : Reading). output_of (trailed (length bytes) r.answer)) (last header nesting setting decides bytes)
by_reading last questions.Digest header nesting setting decides bytes = refl
by_reading last (questions.Headers labels) header nesting setting decides bytes = ap (headed_of (map string_bytes labels.items) (length bytes)) (last header nesting setting decides bytes)

module _ (question : Question) (header nesting : ℕ) (last : VerifyingGoesLast) (decides : Decides) where
  -- ---- the reply after a run over both inputs

  says_of : {F : Type 0} (setting : Setting) (stated : ℕ) (bytes came : List ℕ) (beside beside_after : Option (List ℕ)) (ended : Bool) (reply : Result Reply F) → Consumes beside beside_after came →
      length came ≤ stated → (0 < payload_wanted_of header nesting (stating came stated setting) bytes → (ended ≡ true) × IsAtEnd beside_after) →
      IfOk reply (Says (answered_in question header nesting (stating came stated setting) decides bytes)) → IfOk reply (AnsweredOf question header nesting setting decides stated bytes beside beside_after ended)
  says_of setting stated bytes came beside beside_after ended (Err fault) consumes within ends says = tt
  says_of setting stated bytes came beside beside_after ended (Ok said) consumes within ends says = record {
    came = came;
    consumes = consumes;
    within = within;
    ends = ends;
    says = says;
  }

  pub answered_of_run : {F : Type 0} (setting : Setting) (stated : ℕ) (bytes : List ℕ) (stays : MessageStays) (is_read : MessageIsRead) (is_message : UnrefusedIsMessage)
      (come come_after : Option (List ℕ)) (taken came : List ℕ) (beside beside_after : Option (List ℕ)) (beside_ended : Bool) (verdict : Verdict) (count : ℕ) (input : Option SignInput) (protected unprotected : Option (List Pair)) (reply : Result Reply F) →
      come ≡ Some bytes → Consumes come come_after taken → Consumes beside beside_after came → length came ≤ stated →
      ((message (verifying header nesting (stating came stated setting) decides) taken).settled ≡ false → IsAtEnd come_after) →
      ((n : ℕ) → n < length taken → (message (verifying header nesting (stating came stated setting) decides) (take n taken)).settled ≡ false) →
      (message (verifying header nesting (stating came stated setting) decides) taken).answer ≡ decided verdict →
      Counts verdict (length taken) → count ≡ length taken → input ≡ sign_input_in setting.aad (message (comparing header nesting (stating came stated setting)) taken).answer →
      protected ≡ (message (comparing header nesting (stating came stated setting)) taken).so_far.protected → unprotected ≡ (message (comparing header nesting (stating came stated setting)) taken).so_far.unprotected →
      (0 < (message (verifying header nesting (stating came stated setting) decides) taken).payload_wanted → (beside_ended ≡ true) × IsAtEnd beside_after) →
      ((rest : List ℕ) → come_after ≡ Some rest → IfOk reply (Says (said_before question rest input count protected unprotected verdict))) →
      IfOk reply (AnsweredOf question header nesting setting decides stated bytes beside beside_after beside_ended)
  answered_of_run setting stated bytes stays is_read is_message come come_after taken came beside beside_after beside_ended verdict count input protected unprotected reply told consumes both within ended earlier answer counts counted is is_protected is_unprotected wants says =
      let at = stating came stated setting in
      let o = left_of_input come come_after bytes taken told consumes in
      let at_end : (message (verifying header nesting (stating came stated setting) decides) taken).settled ≡ false → o.0 ≡ [] = λ unsettled. let end = rw o.1 at ended unsettled in end in
      let wanted = wanted_whole header nesting at bytes stays last decides taken o.0 o.2 at_end in
      says_of setting stated bytes came beside beside_after beside_ended reply both within (λ some. wants (subst (λ (n : ℕ). 0 < n) wanted some))
      (says_equal reply _ _ (is_answered header nesting at bytes stays last decides taken o.0 o.2 at_end is_read is_message earlier verdict answer counts count counted question input protected unprotected is is_protected is_unprotected) (says o.0 o.1))

  -- ---- a payload whose bytes are known

  -- Where none of it is wanted, more of it changes nothing.
  with_more : (stays : PayloadStays) (setting : Setting) (stated : ℕ) (bytes came rest : List ℕ) → payload_wanted_of header nesting (stating came stated setting) bytes ≡ 0 →
      message (comparing header nesting (stating (came ++ rest) stated setting)) bytes ≡ message (comparing header nesting (stating came stated setting)) bytes
  with_more stays setting stated bytes came rest none = stays (comparing header nesting (stating [] stated setting)) came rest bytes none

  answered_with_more : (stays : PayloadStays) (setting : Setting) (stated : ℕ) (bytes came rest : List ℕ) → payload_wanted_of header nesting (stating came stated setting) bytes ≡ 0 →
      answered_in question header nesting (stating came stated setting) decides bytes ≡ answered_in question header nesting (stating (came ++ rest) stated setting) decides bytes
  answered_with_more stays setting stated bytes came rest none =
      by_reading last question header nesting (stating came stated setting) decides bytes
      ∙ ap (answered_by question setting.aad decides (length bytes)) (sym (with_more stays setting stated bytes came rest none))
      ∙ sym (by_reading last question header nesting (stating (came ++ rest) stated setting) decides bytes)

  by_wanted : (stays : PayloadStays) (setting : Setting) (stated : ℕ) (bytes came rest : List ℕ) (wanted : ℕ) → payload_wanted_of header nesting (stating came stated setting) bytes ≡ wanted → (0 < wanted → rest ≡ []) →
      answered_in question header nesting (stating came stated setting) decides bytes ≡ answered_in question header nesting (stating (came ++ rest) stated setting) decides bytes
  by_wanted stays setting stated bytes came rest zero is ends = answered_with_more stays setting stated bytes came rest is
  by_wanted stays setting stated bytes came rest (suc more) is ends =
      ap (λ (c : List ℕ). answered_in question header nesting (stating c stated setting) decides bytes) (sym (ap (λ (r : List ℕ). came ++ r) (ends (omega arith)) ∙ append-nil came))

  whole_payload : (stays : PayloadStays) (setting : Setting) (stated : ℕ) (bytes more came : List ℕ) (after : Option (List ℕ)) → Consumes (Some more) after came →
      (0 < payload_wanted_of header nesting (stating came stated setting) bytes → IsAtEnd after) →
      answered_in question header nesting (stating came stated setting) decides bytes ≡ answered_in question header nesting (stating more stated setting) decides bytes
  whole_payload stays setting stated bytes more came None consumes ends = absurd consumes
  whole_payload stays setting stated bytes more came (Some rest) consumes ends =
      by_wanted stays setting stated bytes came rest (payload_wanted_of header nesting (stating came stated setting) bytes) refl ends
      ∙ ap (λ (c : List ℕ). answered_in question header nesting (stating c stated setting) decides bytes) (sym consumes)

  says_of_whole : {F : Type 0} (stays : PayloadStays) (setting : Setting) (stated : ℕ) (bytes more : List ℕ) (come after : Option (List ℕ)) (ended : Bool) (reply : Result Reply F) → come ≡ Some more →
      IfOk reply (AnsweredOf question header nesting setting decides stated bytes come after ended) → IfOk reply (Says (answered_in question header nesting (stating more stated setting) decides bytes))
  says_of_whole stays setting stated bytes more come after ended (Err fault) told of = tt
  says_of_whole stays setting stated bytes more come after ended (Ok said) told of =
      let consumes : Consumes (Some more) after of.came = rw told at of.consumes in
      subst (λ (o : Output). Says o said) (whole_payload stays setting stated bytes more of.came after consumes (λ some. (of.ends some).1)) of.says

  -- ---- a reader that has fewer bytes than are stated

  short_answered : (stays : PayloadStays) (setting : Setting) (stated : ℕ) (bytes content came rest : List ℕ) → content ≡ came ++ rest → payload_wanted_of header nesting (stating came stated setting) bytes ≡ 0 →
      answered_of_short question header nesting (stating content stated setting) decides bytes ≡ answered_in question header nesting (stating came stated setting) decides bytes
  short_answered stays setting stated bytes content came rest split none =
      ap (λ (c : List ℕ). answered_of_short question header nesting (stating c stated setting) decides bytes) split
      ∙ ap (λ (n : ℕ). unless_missing n (answered_in question header nesting (stating (came ++ rest) stated setting) decides bytes))
      (ap (λ (r : Reading). r.payload_wanted) (with_more stays setting stated bytes came rest none) ∙ none)
      ∙ sym (answered_with_more stays setting stated bytes came rest none)

-- ---- under the keys of a key set

-- A key set that is refused leaves no reply.
unless_refused : (said : Output) (read : Read (List KeyValue)) (result : Result Reply Fault) → FailsForKeys read result → ((keys : List KeyValue) → read ≡ Ok keys → IfOk result (Says said)) → IfOk result (Says said)
unless_refused said (Ok keys) result fails says = says keys refl
unless_refused said (Err refusal) result fails says = let none : result ≡ Err (faults.Keys refusal) = (fails refusal).0 refl in rw none tt

-- The reply under the keys that were read of it.
pub replies_under : {F : Type 0} (question : Question) (under : Under) (keys read_keys : List KeyValue) (setting : Setting) (stated : ℕ) (bytes : List ℕ) (come after : Option (List ℕ)) (ended : Bool) (result : Result Reply F) →
    under.keys ≡ Ok keys → under.keys ≡ Ok read_keys → setting ≡ setting_under under read_keys →
    IfOk result (AnsweredOf question under.room.header under.room.nesting setting (vouching under.vouch) stated bytes come after ended) →
    IfOk result (AnsweredOf question under.room.header under.room.nesting (setting_under under keys) (vouching under.vouch) stated bytes come after ended)
replies_under question under keys read_keys setting stated bytes come after ended result is read program of =
    let both = sym read ∙ is in
    let one : read_keys ≡ keys = cc in
    subst (λ (x : Setting). IfOk result (AnsweredOf question under.room.header under.room.nesting x (vouching under.vouch) stated bytes come after ended)) (program ∙ ap (setting_under under) one) of

module _ (question : Question) (under : Under) (last : VerifyingGoesLast) (stays : PayloadStays) (bytes : List ℕ) where
  pub says_with_bytes : (payload : List ℕ) (after : Option (List ℕ)) (ended : Bool) (come : Option (List ℕ)) (result : Result Reply Fault) → come ≡ Some payload → FailsForKeys under.keys result →
      RepliesWith question under (length payload) (Some bytes) come after ended result → IfOk result (Says (answered_under question under (Some payload) bytes))
  says_with_bytes payload after ended come result told fails replies = unless_refused _ under.keys result fails (λ keys read.
      says_equal result _ _ (sym (said_with_keys under.keys keys _ read))
      (says_of_whole question under.room.header under.room.nesting last (vouching under.vouch) stays (setting_under under keys) (length payload) bytes payload come after ended result told (replies bytes keys refl read)))

module _ (question : Question) (under : Under) (payload_length : ℕ) (last : VerifyingGoesLast) (stays : PayloadStays) (content bytes : List ℕ) (left : ℕ) (after : Option (List ℕ)) (ended : Bool) (small : payload_length < 2 ^ 64) (small_left : left < 2 ^ 64) where
  short_said : (keys : List KeyValue) (said : Reply) → under.keys ≡ Ok keys → nat_lt (length content) payload_length ≡ true →
      AnsweredOf question under.room.header under.room.nesting (setting_under under keys) (vouching under.vouch) payload_length bytes (counted payload_length (Some content)) (counted left after) ended said → (ended ≡ true → left ≡ 0) →
      Says (answered_from question under payload_length content bytes) said
  short_said keys said read e of ends =
      let setting = setting_under under keys in
      let fewer : length content < payload_length = ltb-true (length content) payload_length e in
      let consumes : Consumes (Some (content ++ never (2 ^ 65))) (counted left after) of.came = rw e at of.consumes in
      let part = came_of_short payload_length left content after of.came fewer small small_left of.within consumes in
      let none : payload_wanted_of under.room.header under.room.nesting (stating of.came payload_length setting) bytes ≡ 0 =
      none_of _ (λ some. let zero_left = ends (of.ends some).0 in omega (arith, zero_left, part.2)) in
      let same = short_answered question under.room.header under.room.nesting last (vouching under.vouch) stays setting payload_length bytes content of.came part.0 part.1 none in
      let from : answered_from question under payload_length content bytes ≡ answered_short question under payload_length content bytes = rw e refl in
      let short : answered_short question under payload_length content bytes ≡ answered_of_short question under.room.header under.room.nesting (stating content payload_length setting) (vouching under.vouch) bytes =
      said_with_keys under.keys keys _ read in
      subst (λ (o : Output). Says o said) (sym (from ∙ short ∙ same)) of.says

  whole_said : (keys : List KeyValue) (result : Result Reply Fault) → under.keys ≡ Ok keys → nat_lt (length content) payload_length ≡ false →
      IfOk result (AnsweredOf question under.room.header under.room.nesting (setting_under under keys) (vouching under.vouch) payload_length bytes (counted payload_length (Some content)) (counted left after) ended) →
      IfOk result (Says (answered_from question under payload_length content bytes))
  whole_said keys result read e of =
      let setting = setting_under under keys in
      let enough : payload_length ≤ length content = let f = ltb-false (length content) payload_length e in omega (arith, f) in
      let count : length (take payload_length content) ≡ payload_length = length-take-le payload_length content enough in
      let told : counted payload_length (Some content) ≡ Some (take payload_length content) = rw e refl in
      let said = says_of_whole question under.room.header under.room.nesting last (vouching under.vouch) stays setting payload_length bytes (take payload_length content) (counted payload_length (Some content)) (counted left after) ended result told of in
      let stated : answered_in question under.room.header under.room.nesting (stating (take payload_length content) payload_length setting) (vouching under.vouch) bytes
      ≡ answered_in question under.room.header under.room.nesting (with_payload (Some (take payload_length content)) setting) (vouching under.vouch) bytes =
      ap (λ (n : ℕ). answered_in question under.room.header under.room.nesting (stating (take payload_length content) n setting) (vouching under.vouch) bytes) (sym count) in
      let from : answered_from question under payload_length content bytes ≡ answered_under question under (Some (take payload_length content)) bytes = rw e refl in
      let by_keys : answered_under question under (Some (take payload_length content)) bytes
      ≡ answered_in question under.room.header under.room.nesting (with_payload (Some (take payload_length content)) setting) (vouching under.vouch) bytes =
      said_with_keys under.keys keys _ read in
      says_equal result _ _ (stated ∙ sym (from ∙ by_keys)) said

  by_length : (keys : List KeyValue) (short : Bool) → nat_lt (length content) payload_length ≡ short → (result : Result Reply Fault) → under.keys ≡ Ok keys →
      IfOk result (AnsweredOf question under.room.header under.room.nesting (setting_under under keys) (vouching under.vouch) payload_length bytes (counted payload_length (Some content)) (counted left after) ended) →
      (ended ≡ true → left ≡ 0) → IfOk result (Says (answered_from question under payload_length content bytes))
  by_length keys true e (Err fault) read of ends = tt
  by_length keys true e (Ok said) read of ends = short_said keys said read e of ends
  by_length keys false e result read of ends = whole_said keys result read e of

  pub says_from_reader : (come : Option (List ℕ)) (result : Result Reply Fault) → come ≡ counted payload_length (Some content) → FailsForKeys under.keys result →
      RepliesWith question under payload_length (Some bytes) come (counted left after) ended result → (ended ≡ true → left ≡ 0) → IfOk result (Says (answered_from question under payload_length content bytes))
  says_from_reader come result told fails replies ends = unless_refused _ under.keys result fails (λ keys read.
      by_length keys (nat_lt (length content) payload_length) refl result read
      (subst (λ (t : Option (List ℕ)). IfOk result (AnsweredOf question under.room.header under.room.nesting (setting_under under keys) (vouching under.vouch) payload_length bytes t (counted left after) ended)) told (replies bytes keys refl read))
      ends)
