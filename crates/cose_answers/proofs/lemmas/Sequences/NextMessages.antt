-- The next message of a sequence, by what a run of the verifier did.
use Rattle.std.proofs.Common.{◌≡◌, ℕ, ◌<◌, Bool, true, false, List, [], ◌∷◌, ◌++◌, length, take, Option, Some, Ok, refl, sym, ap, subst, ◌∙◌, arith, append-nil}
use Rattle.std.specs.Io.KnownBytes.{IsAtEnd}
use Rattle.cose_head.specs.Head.{bare_head}
use Rattle.cose_msg.specs.declared.verdict.Verdict.{Verdict}
use Rattle.cose_msg.specs.declared.verifier.Verifier.{Verifier}
use Rattle.cose_msg.specs.Answer.{decided}
use Rattle.cose_msg.specs.Change.{SinkChange, intake_from}
use Rattle.cose_msg.specs.Kept.{HasTaken, is_inspecting}
use Rattle.cose_msg.specs.Laws.{MessageEndsTruncated}
use Rattle.cose_msg.specs.Message.{Decides, Setting, message, verifying}
use Rattle.cose_msg.specs.Reader.{Counts}
use Rattle.cose_msg.specs.Reading.{with_head}
use Rattle.cose_msg.specs.Rules.{Rules}
use Rattle.cose_msg.specs.Run.{Run}
use Rattle.cose_msg.specs.Task.{to_verify}
use Rattle.cose_msg.specs.Verifier.{setting_in, task_of}
use Rattle.cose_answers.specs.declared.answers.sequence.Part.{Part}
use Rattle.cose_answers.specs.Part.{IsNext}
use Rattle.cose_answers.specs.Printed.{Output, Says, followed_by, input_answer, output_of, said_of, trailed}
use Rattle.cose_answers.specs.Sequence.{is_whole}
use Rattle.cose_answers.proofs.lemmas.Messages.Trailing.{left_of_input, trails}

-- A verifier that was reset, for what it was made for.
pub anew : {H D : ℕ} {S : Type 0} {K : _} (made reset : Verifier H D S K) → is_inspecting made ≡ false → HasTaken (task_of made) [] [] reset → HasTaken (to_verify (setting_in made)) [] [] reset
anew made reset is has = subst (λ (b : Bool). HasTaken (record { setting = setting_in made; inspects = b }) [] [] reset) is has

-- What isn't settled is Truncated.
settled_if_whole : MessageEndsTruncated → (rules : Rules) (bytes : List ℕ) → is_whole (message rules bytes).answer ≡ true → (message rules bytes).settled ≡ true
settled_if_whole truncated rules bytes whole = go (message rules bytes).settled refl
  where
    go : (settled : Bool) → (message rules bytes).settled ≡ settled → settled ≡ true
    go true is = refl
    go false is =
        let open_yet : is_whole (message rules bytes).answer ≡ false = ap is_whole (truncated rules bytes is) in
        let clash : true ≡ false = sym whole ∙ open_yet in
        absurd cc

-- The bytes that a run took of an input, and what is left.
pub record Took (rules : Rules) (bytes : List ℕ) (come_after : Option (List ℕ)) (taken : List ℕ) (verdict : Verdict) : Type 0 where
  pub rest : List ℕ
  pub left : come_after ≡ Some rest
  pub split : bytes ≡ taken ++ rest
  pub answer : (message rules taken).answer ≡ decided verdict
  pub counted : Counts verdict (length taken)
  pub open_before : (n : ℕ) → n < length taken → (message rules (take n taken)).settled ≡ false
  pub open_at_end : (message rules taken).settled ≡ false → rest ≡ []
  pub whole_is_settled : is_whole (message rules taken).answer ≡ true → (message rules taken).settled ≡ true

at_end : (come : Option (List ℕ)) (rest : List ℕ) → come ≡ Some rest → IsAtEnd come → rest ≡ []
at_end come rest is ends = subst IsAtEnd is ends

pub took : MessageEndsTruncated → (rules : Rules) (come come_after : Option (List ℕ)) (ended : Bool) (sink : SinkChange) (verdict : Verdict) (taken bytes : List ℕ) → come ≡ Some bytes →
    Run rules decided [] [] (intake_from come come_after ended) sink (Ok verdict) taken → Took rules bytes come_after taken verdict
took truncated rules come come_after ended sink verdict taken bytes known run =
    let left = left_of_input come come_after bytes taken known run.bytes in record {
      rest = left.0;
      left = left.1;
      split = left.2;
      answer = run.answer.answer;
      counted = run.answer.counted;
      open_before = run.none_after_end;
      open_at_end = λ unsettled. at_end come_after left.0 left.1 (run.answer.ends.unsettled unsettled).1;
      whole_is_settled = settled_if_whole truncated rules taken;
    }

-- No message is settled before its first byte.
none_settled : (rules : Rules) → (message rules []).settled ≡ false
unfolding message with_head bare_head
none_settled rules = refl

empty : (bytes : List ℕ) → length bytes ≡ 0 → bytes ≡ []
empty [] none = refl
empty (byte ∷ bytes) none = absurd (omega (arith, none))

-- A run that took none found the end.
pub none_left : (rules : Rules) (bytes : List ℕ) (come_after : Option (List ℕ)) (taken : List ℕ) (verdict : Verdict) (count : ℕ) → Took rules bytes come_after taken verdict →
    count ≡ length taken → count ≡ 0 → bytes ≡ []
none_left rules bytes come_after taken verdict count took_these counted none =
    let no_bytes : taken ≡ [] = empty taken (sym counted ∙ none) in
    let unsettled : (message rules taken).settled ≡ false = ap (λ (t : List ℕ). (message rules t).settled) no_bytes ∙ none_settled rules in
    took_these.split ∙ ap (λ (t : List ℕ). t ++ took_these.rest) no_bytes ∙ took_these.open_at_end unsettled

-- A run that took some found a message.
pub next_found : (rules : Rules) (alone : List ℕ → Output) (bytes : List ℕ) (come_after : Option (List ℕ)) (taken : List ℕ) (verdict : Verdict) (part : Part) → Took rules bytes come_after taken verdict → part.taken ≡ length taken →
    0 < part.taken → part.whole ≡ is_whole (decided verdict) → Says (alone taken) part.reply → IsNext (message rules) alone bytes come_after part
next_found rules alone bytes come_after taken verdict part took_these counted some whole says = record {
  message = taken;
  rest = took_these.rest;
  split = took_these.split;
  left = took_these.left;
  begins = record {
    some = omega (arith, some, counted);
    open_before = took_these.open_before;
    open_at_end = took_these.open_at_end;
    whole_is_settled = took_these.whole_is_settled;
  };
  counted = counted;
  says = says;
  whole = whole ∙ sym (ap is_whole took_these.answer);
}

-- The verdict on the message alone, in buckets of at most `header` bytes that nest at most `nesting` deep.
pub verdict_alone : (header nesting : ℕ) (setting : Setting) (decides : Decides) (taken : List ℕ) (verdict : Verdict) → (message (verifying header nesting setting decides) taken).answer ≡ decided verdict → Counts verdict (length taken) →
    said_of verdict ≡ output_of (input_answer header nesting setting decides taken)
verdict_alone header nesting setting decides taken verdict answer counted =
    sym (ap output_of (ap (trailed (length taken)) answer ∙ trails taken taken [] verdict (sym (append-nil taken)) counted ∙ ap decided (unfollowed verdict)))
  where
    unfollowed : (v : Verdict) → followed_by [] v ≡ v
    unfollowed v = refl
