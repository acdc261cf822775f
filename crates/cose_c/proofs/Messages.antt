-- The verdict on bytes in memory, of which the first ones were fed.
use Rattle.std.proofs.Common.{◌≡◌, inl, inr, ℕ, zero, suc, ◌-◌, ◌<◌, ◌≤◌, ℤ, Bool, true, false, List, [], ◌∷◌, ◌++◌, length, take, drop, Option, Some, None, Result, Ok, Err, refl, sym, ap, subst, ◌∙◌, ◌||◌, not, arith}
use Rattle.std.proofs.lemmas.Bool.Decides.{nat_tests}
use Rattle.std.proofs.lemmas.List.{append-nil, length-drop, length-take, take-append-drop}
use Rattle.std.proofs.Math.Seq.{drop-length, take-length}
use Rattle.std.specs.Io.KnownBytes.{Consumes, IsAtEnd}
use Rattle.std.specs.Prelude.{IfOk, IsSomeAnd, min, nat_lt, ◌⊎◌}
use Rattle.cose_head.specs.declared.algorithm.Alg.{Alg}
use Rattle.cose_head.specs.declared.kind.Kind.{Kind}
use Rattle.cose_head.specs.declared.kind.Kind.TheVariants as kinds
use Rattle.cose_head.specs.declared.reason.Reason.{Reason}
use Rattle.cose_head.specs.Algorithm.{algorithm_numbered, is_mac_of, key_type_of, kind_of}
use Rattle.cose_head.proofs.lemmas.Algorithms.{each_algorithm}
use Rattle.cose_map.specs.Choice.{chosen}
use Rattle.cose_map.specs.Choice.Algorithm.{has_type}
use Rattle.cose_map.specs.Key.Value.{KeyValue, MaterialValue, elliptic, symmetric}
use Rattle.cose_map.specs.Laws.Chosen.{ChosenIsOfKind, ChosenIsOfType}
use Rattle.cose_msg.specs.declared.verdict.Stop.{Stop}
use Rattle.cose_msg.specs.declared.verdict.Stop.TheVariants.{Again, Intake, Sink}
use Rattle.cose_msg.specs.declared.verdict.Verdict.{Verdict}
use Rattle.cose_msg.specs.declared.verdict.Verdict.TheVariants.{Authentic, Refused}
use Rattle.cose_msg.specs.Answer.{Answer, Chosen, Headers, Whole, decided, complete, shaped}
use Rattle.cose_msg.specs.Feed.{Uses, part_of}
use Rattle.cose_msg.specs.GrammarLaws.{AuthenticIsMessage, MessageIsRead}
use Rattle.cose_msg.specs.Laws.{ComparingGoesLast, MessageStays, PayloadStays, VerifyingGoesLast, answered, receiving, then_compared}
use Rattle.cose_msg.specs.Message.{Decides, Setting, as_choice, comparing, given, key_choice_of, message, past_chosen, question_of, uncompared, verdict_of, verifying, with_algorithm}
use Rattle.cose_msg.specs.Phases.{headers_so_far}
use Rattle.cose_msg.specs.Reading.{Reading, settled}
use Rattle.cose_msg.specs.Rules.{Rules}
use Rattle.cose_msg.specs.Run.{stops_for_intake, stops_for_sink}
use Rattle.cose_msg.specs.Shown.{SignaturesAreOfSign1, sign_input_in, signature_in, signed_with}
use Rattle.cose_c.specs.declared.numbers.CoseVerdict.{CoseVerdict}
use Rattle.cose_c.specs.Deciding.{always}
use Rattle.cose_c.specs.Input.{is_point, has_point}
use Rattle.cose_c.specs.Message.{Covers, is_accepted}
use Rattle.cose_c.specs.Numbers.{accepted_as, one_message, unless_signed, verdict_numbers}

-- The verdict on what was fed and on the rest is that on all bytes.
pub verdict_on_all : (H D : ℕ) (setting : Setting) (decides : Decides) (bytes rest : List ℕ) (used : ℕ) (result : Result Verdict Stop) (verdict : Verdict) → rest ≡ drop used bytes →
    result ≡ Ok verdict → IfOk result (λ v. verdict_of H D setting decides (take used bytes ++ rest) ≡ decided v) → verdict_of H D setting decides bytes ≡ decided verdict
verdict_on_all H D setting decides bytes rest used result verdict left is answer =
    let here : verdict_of H D setting decides (take used bytes ++ rest) ≡ decided verdict = rw is at answer in
    let whole : take used bytes ++ rest ≡ bytes = rw left (take-append-drop used bytes) in
    ap (verdict_of H D setting decides) (sym whole) ∙ here

-- The numbers of an answer, with the place of the payload that they have.
pub at_its_place : (status : Kind → ℕ) (at : ℕ) (answer : Answer) (v : CoseVerdict) → v ≡ verdict_numbers status at answer → v ≡ verdict_numbers status v.payload_at answer
at_its_place status at (decided (Authentic kind alg payload taken)) v e =
    e ∙ ap (λ (place : ℕ). accepted_as (status kind) place kind alg payload taken) (sym (ap (λ (x : CoseVerdict). x.payload_at) e))
at_its_place status at (decided (Refused refusal)) v e = e
at_its_place status at (complete whole) v e = e
at_its_place status at (shaped kind payload auth taken) v e = e

-- The numbers of a message that is accepted are those of an authentic one that ends with the bytes.
pub record Accepts (count at : ℕ) (verdict : Verdict) (v : CoseVerdict) : Type 0 where
  pub kind : Kind
  pub alg : Alg
  pub payload : ℕ
  pub taken : ℕ
  pub is : verdict ≡ Authentic kind alg payload taken
  pub all : count ≤ taken
  pub place : v.payload_at ≡ at
  pub length : v.payload_length ≡ payload
  pub status : v.status ≡ unless_signed kind

accepts_taken : (count at : ℕ) (kind : Kind) (alg : Alg) (payload taken : ℕ) (v : CoseVerdict) (ends : Bool) → nat_lt taken count ≡ ends →
    v ≡ verdict_numbers unless_signed at (one_message count (decided (Authentic kind alg payload taken))) → is_accepted v ≡ true → Accepts count at (Authentic kind alg payload taken) v
accepts_taken count at kind alg payload taken v true e is accepted =
    let refused : is_accepted v ≡ false = ap is_accepted is ∙ rw e refl in
    absurd cc
accepts_taken count at kind alg payload taken v false e is accepted =
    let here : v ≡ accepted_as (unless_signed kind) at kind alg payload taken = is ∙ rw e refl in
    record {
      kind = kind;
      alg = alg;
      payload = payload;
      taken = taken;
      is = refl;
      all = grind (arith, nat_tests);
      place = ap (λ (x : CoseVerdict). x.payload_at) here;
      length = ap (λ (x : CoseVerdict). x.payload_length) here;
      status = ap (λ (x : CoseVerdict). x.status) here;
    }

pub accepts : (count at : ℕ) (verdict : Verdict) (v : CoseVerdict) → v ≡ verdict_numbers unless_signed at (one_message count (decided verdict)) → is_accepted v ≡ true → Accepts count at verdict v
accepts count at (Authentic kind alg payload taken) v is accepted = accepts_taken count at kind alg payload taken v (nat_lt taken count) refl is accepted
accepts count at (Refused refusal) v is accepted = let refused : is_accepted v ≡ false = ap is_accepted is in absurd cc

-- ---- the parts of an authentic message

-- It is read as a message by the grammar with its payload.
module _ (law : AuthenticIsMessage) (read : MessageIsRead) (last : ComparingGoesLast) (room nesting : ℕ) (setting : Setting) (bytes : List ℕ) where
  pub record Parts (kind : Kind) (payload : ℕ) : Type 0 where
    pub whole : Whole
    pub read_whole : (message (uncompared room nesting setting) bytes).answer ≡ complete whole
    pub counted : payload ≡ length (message (comparing room nesting setting) bytes).so_far.payload
    pub named : kind ≡ whole.headers.kind
    pub found : Chosen
    pub chosen : whole.chosen ≡ Some found
    pub choice : key_choice_of setting.keys whole.headers ≡ Ok whole.chosen

  pub parts : (kind : Kind) (alg : Alg) (payload taken : ℕ) → verdict_of room nesting setting always bytes ≡ decided (Authentic kind alg payload taken) → Parts kind payload
  parts kind alg payload taken e =
      let is = (law room nesting setting always bytes kind alg payload taken).0 e in
      let whole = is.whole in
      let all : bytes ≡ take taken bytes ++ drop taken bytes = sym (take-append-drop taken bytes) in
      let first : message (uncompared room nesting setting) bytes ≡ settled (headers_so_far whole.headers whole.payload) (complete whole) =
      ap (message (uncompared room nesting setting)) all ∙ read (uncompared room nesting setting) (take taken bytes) (drop taken bytes) whole is.message in
      let then : message (comparing room nesting setting) bytes ≡ answered (then_compared setting.aad) (settled (headers_so_far whole.headers whole.payload) (complete whole)) =
      last room nesting setting bytes ∙ ap (answered (then_compared setting.aad)) first in
      record {
        whole = whole;
        read_whole = ap (λ (r : Reading). r.answer) first;
        counted = is.payload_is ∙ sym (ap (λ (r : Reading). length r.so_far.payload) then);
        named = is.kind_is;
        found = is.found;
        chosen = is.chosen;
        choice = is.message.chosen;
      }

-- What was fed is read as all bytes are.
reads : MessageStays → (rules : Rules) (bytes : List ℕ) (used : ℕ) (settled : Bool) → (message rules (take used bytes)).settled ≡ settled → Uses rules [] bytes used →
    message rules bytes ≡ message rules (take used bytes)
reads stays rules bytes used true e uses = ap (message rules) (sym (take-append-drop used bytes)) ∙ stays rules (take used bytes) (drop used bytes) e
reads stays rules bytes used false e uses =
    let all : used ≡ length bytes = uses.all e in
    let same : take used bytes ≡ bytes = ap (λ (n : ℕ). take n bytes) all ∙ take-length bytes in
    ap (message rules) (sym same)

pub read_as_fed : MessageStays → (rules : Rules) (bytes : List ℕ) (used : ℕ) → Uses rules [] bytes used → message rules bytes ≡ message rules (take used bytes)
read_as_fed stays rules bytes used uses = reads stays rules bytes used (message rules (take used bytes)).settled refl uses

-- And what was taken after that: where it isn't settled no byte is left.
nothing_before : (taken rest : List ℕ) → taken ++ rest ≡ [] → taken ≡ []
nothing_before [] rest e = refl
nothing_before (b ∷ taken) rest e = absurd cc

then_reads : MessageStays → (rules : Rules) (bytes taken rest : List ℕ) (used : ℕ) (settled : Bool) → (message rules (take used bytes)).settled ≡ settled → Uses rules [] bytes used →
    drop used bytes ≡ taken ++ rest → message rules (take used bytes ++ taken) ≡ message rules (take used bytes)
then_reads stays rules bytes taken rest used true e uses left = stays rules (take used bytes) taken e
then_reads stays rules bytes taken rest used false e uses left =
    let all : used ≡ length bytes = uses.all e in
    let none : taken ++ rest ≡ [] = sym left ∙ ap (λ (n : ℕ). drop n bytes) all ∙ drop-length bytes in
    ap (λ (t : List ℕ). message rules (take used bytes ++ t)) (nothing_before taken rest none) ∙ ap (message rules) (append-nil (take used bytes))

pub read_as_taken : MessageStays → (rules : Rules) (bytes taken : List ℕ) (used : ℕ) (come come_after : Option (List ℕ)) → Uses rules [] bytes used → come ≡ Some (drop used bytes) →
    Consumes come come_after taken → message rules bytes ≡ message rules (take used bytes ++ taken)
read_as_taken stays rules bytes taken used come None uses told of_bytes = let none = rw told at of_bytes in absurd none
read_as_taken stays rules bytes taken used come (Some rest) uses told of_bytes =
    read_as_fed stays rules bytes used uses ∙ sym (then_reads stays rules bytes taken rest used (message rules (take used bytes)).settled refl uses (rw told at of_bytes))

-- A part of bytes covers what it has.
pub covers : (bytes content : List ℕ) (from to at count : ℕ) → from ≤ to → to ≤ length bytes → content ≡ part_of bytes from to → at ≡ from → count ≡ length content → Covers bytes content at count
covers bytes content from to at count ordered fits is place number =
    let all : to - from ≤ length bytes - from = omega (arith, ordered, fits) in
    let least : min (to - from) (length bytes - from) ≡ to - from = grind (arith, nat_tests) in
    let n : count ≡ to - from = number ∙ ap length is ∙ length-take (to - from) (drop from bytes) ∙ ap (min (to - from)) (length-drop from bytes) ∙ least in
    record { inside = omega (arith, n, place, ordered, fits); has = rw (n, place) (sym is) }

-- ---- a message with a signature

-- A key that is chosen for a COSE_Sign1 is a point.
of_alg : (alg : Alg) (material : MaterialValue) → kind_of alg ≡ kinds.Sign1 → has_type material (key_type_of alg) ≡ true → is_point material ≡ true
of_alg alg (elliptic curve x y) signs typed = refl
of_alg alg (symmetric secret) signs typed =
    let here : (is_mac_of alg || not (has_type (symmetric secret) (key_type_of alg))) ≡ true = each_algorithm (λ a. is_mac_of a || not (has_type (symmetric secret) (key_type_of a))) refl alg in
    let clash : false ≡ true = rw (signs, typed) at here in
    absurd cc

chosen_point : (key : KeyValue) (kind : Kind) (found : Chosen) (alg : Option Alg) → kind ≡ kinds.Sign1 → IsSomeAnd alg (λ a. kind_of a ≡ kind) → IsSomeAnd alg (λ a. has_type key.material (key_type_of a) ≡ true) →
    as_choice (with_algorithm key alg) ≡ Ok (Some found) → is_point found.key.material ≡ true
chosen_point key kind found (Some alg) signs of_kind of_type e =
    let same : record { key = key; alg = alg } ≡ found = cc in
    subst (λ (x : Chosen). is_point x.key.material ≡ true) same (of_alg alg key.material (of_kind ∙ signs) of_type)
chosen_point key kind found None signs of_kind of_type e = absurd of_kind

found_point : ChosenIsOfKind → ChosenIsOfType → (keys : List KeyValue) (headers : Headers) (found : Chosen) (result : Result (KeyValue × ℤ) Reason) → chosen (question_of headers) keys ≡ result →
    headers.kind ≡ kinds.Sign1 → as_choice (past_chosen result) ≡ Ok (Some found) → is_point found.key.material ≡ true
found_point of_kind of_type keys headers found (Ok pair) is signs e =
    chosen_point pair.0 headers.kind found (algorithm_numbered pair.1) signs (of_kind (question_of headers) keys pair.0 pair.1 is) (of_type (question_of headers) keys pair.0 pair.1 is) e
found_point of_kind of_type keys headers found (Err reason) is signs e = absurd cc

-- So what is verified with it is known, where an authentic message is a COSE_Sign1.
pub signed_input : ChosenIsOfKind → ChosenIsOfType → SignaturesAreOfSign1 → (room nesting : ℕ) (setting : Setting) (bytes : List ℕ) (whole : Whole) (found : Chosen) →
    (message (uncompared room nesting setting) bytes).answer ≡ complete whole → whole.chosen ≡ Some found → key_choice_of setting.keys whole.headers ≡ Ok whole.chosen →
    whole.headers.kind ≡ kinds.Sign1 → has_point (sign_input_in setting.aad (message (comparing room nesting setting) bytes).answer) ≡ true
signed_input of_kind of_type law room nesting setting bytes whole found is chose choice signs =
    let input : sign_input_in setting.aad (message (comparing room nesting setting) bytes).answer ≡ Some (signed_with setting.aad whole found) =
    law room nesting setting bytes ∙ ap (signature_in setting.aad) is ∙ rw (signs, chose) refl in
    ap has_point input ∙ found_point of_kind of_type setting.keys whole.headers found (chosen (question_of whole.headers) setting.keys) refl signs (choice ∙ ap Ok chose)

-- ---- a detached payload

-- What a message has been read as stays, once no byte of its payload is wanted, and no byte of it or none is left.
module _ (stays : MessageStays) (payload_stays : PayloadStays) (rules : Rules) (taken came rest left : List ℕ) where
  with_left : (wanted : ℕ) → (message (receiving came rules) taken).payload_wanted ≡ wanted → (0 < wanted → left ≡ []) →
      message (receiving (came ++ left) rules) taken ≡ message (receiving came rules) taken
  with_left zero is none = payload_stays rules came left taken is
  with_left (suc n) is none = ap (λ (c : List ℕ). message (receiving c rules) taken) (ap (λ (l : List ℕ). came ++ l) (none (omega arith)) ∙ append-nil came)

  with_rest : (settled : Bool) → (message (receiving came rules) taken).settled ≡ settled → (settled ≡ false → rest ≡ []) → (0 < (message (receiving came rules) taken).payload_wanted → left ≡ []) →
      message (receiving (came ++ left) rules) (taken ++ rest) ≡ message (receiving came rules) taken
  with_rest true is ended none =
      let same = with_left (message (receiving came rules) taken).payload_wanted refl none in
      stays (receiving (came ++ left) rules) taken rest (ap (λ (r : Reading). r.settled) same ∙ is) ∙ same
  with_rest false is ended none =
      ap (message (receiving (came ++ left) rules)) (ap (λ (l : List ℕ). taken ++ l) (ended refl) ∙ append-nil taken)
      ∙ with_left (message (receiving came rules) taken).payload_wanted refl none

-- All bytes of a message and of its payload are read as those that a run took of both.
pub read_on_both : MessageStays → PayloadStays → VerifyingGoesLast → (H D : ℕ) (setting : Setting) (decides : Decides) (bytes payload taken came : List ℕ) (come come_after beside beside_after : Option (List ℕ)) →
    come ≡ Some bytes → beside ≡ Some payload → Consumes come come_after taken → Consumes beside beside_after came →
    ((message (verifying H D (given came setting) decides) taken).settled ≡ false → IsAtEnd come_after) → (0 < (message (verifying H D (given came setting) decides) taken).payload_wanted → IsAtEnd beside_after) →
    message (comparing H D (given payload setting)) bytes ≡ message (comparing H D (given came setting)) taken
read_on_both stays payload_stays last H D setting decides bytes payload taken came come None beside beside_after told beside_told of_bytes of_payload ended missing = let none = rw told at of_bytes in absurd none
read_on_both stays payload_stays last H D setting decides bytes payload taken came come (Some rest) beside None told beside_told of_bytes of_payload ended missing = let none = rw beside_told at of_payload in absurd none
read_on_both stays payload_stays last H D setting decides bytes payload taken came come (Some rest) beside (Some left) told beside_told of_bytes of_payload ended missing =
    let all : bytes ≡ taken ++ rest = rw told at of_bytes in
    let both : payload ≡ came ++ left = rw beside_told at of_payload in
    let compared = last H D (given came setting) decides taken in
    let open_too : (message (verifying H D (given came setting) decides) taken).settled ≡ (message (comparing H D (given came setting)) taken).settled = ap (λ (r : Reading). r.settled) compared in
    let wanted_too : (message (comparing H D (given came setting)) taken).payload_wanted ≡ (message (verifying H D (given came setting) decides) taken).payload_wanted = sym (ap (λ (r : Reading). r.payload_wanted) compared) in
    ap (λ (p : List ℕ). message (comparing H D (given p setting)) bytes) both ∙ ap (message (comparing H D (given (came ++ left) setting))) all
    ∙ with_rest stays payload_stays (comparing H D setting) taken came rest left (message (comparing H D (given came setting)) taken).settled refl
    (λ unsettled. ended (open_too ∙ unsettled)) (λ some. missing (subst (λ (n : ℕ). 0 < n) wanted_too some))

-- ---- what a call answers

-- The numbers of the verdict on all bytes.
pub on_all : (count at : ℕ) (verdict : Verdict) (answer : Answer) (v : CoseVerdict) → answer ≡ decided verdict → v ≡ verdict_numbers unless_signed at (one_message count (decided verdict)) →
    v ≡ verdict_numbers unless_signed v.payload_at (one_message count answer)
on_all count at verdict answer v e is = at_its_place unless_signed at (one_message count answer) v (is ∙ ap (λ (a : Answer). verdict_numbers unless_signed at (one_message count a)) (sym e))

-- The status of a message with a signature.
pub signs : (kind : Kind) (v : CoseVerdict) → v.status ≡ unless_signed kind → v.status ≡ 2 → kind ≡ kinds.Sign1
signs kinds.Mac0 v is two = absurd cc
signs kinds.Sign1 v is two = refl

pub signed_is_accepted : (v : CoseVerdict) → v.status ≡ 2 → is_accepted v ≡ true
signed_is_accepted v two = rw two refl

-- An intake and a sink that never fail stop nothing.
pub never_stops : {A : Type 0} (result : Result A Stop) (stop : Stop) → result ≡ Err stop → stops_for_intake result ≡ false → stops_for_sink result ≡ false → (result ≡ Err Again → ⊥) → ⊥
never_stops result Intake is intake sink again = let stopped : stops_for_intake result ≡ true = ap stops_for_intake is in absurd cc
never_stops result Sink is intake sink again = let stopped : stops_for_sink result ≡ true = ap stops_for_sink is in absurd cc
never_stops result Again is intake sink again = again is

pub either_fails : (stops : Bool) → ((false ≡ (false || stops)) × (false ≡ false)) ⊎ ((false ≡ false) × (false ≡ (false || stops))) → stops ≡ false
either_fails stops (inl fails) = sym fails.0
either_fails stops (inr fails) = sym fails.1
