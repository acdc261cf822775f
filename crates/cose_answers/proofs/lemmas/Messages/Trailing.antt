-- What follows a message in an input.
use Rattle.std.proofs.Common.{◌≡◌, ℕ, ◌<◌, ◌≤◌, List, [], ◌∷◌, ◌++◌, length, Option, Some, None, Result, Ok, Err, refl, ap, ◌∙◌, arith, length-append, append-nil}
use Rattle.std.specs.Prelude.{IfOk}
use Rattle.std.specs.Io.KnownBytes.{Consumes}
use Rattle.std.proofs.lemmas.Bool.{lt-ltb, le-ltb}
use Rattle.cose_head.specs.declared.algorithm.Alg.{Alg}
use Rattle.cose_head.specs.declared.kind.Kind.{Kind}
use Rattle.cose_head.specs.declared.refusal.Refusal.{Refusal}
use Rattle.cose_msg.specs.declared.verdict.Verdict.{Verdict}
use Rattle.cose_msg.specs.declared.verdict.Verdict.TheVariants.{Authentic, Refused}
use Rattle.cose_msg.specs.Answer.{Answer, decided}
use Rattle.cose_msg.specs.Reader.{Counts}
use Rattle.cose_answers.specs.Printed.{trailing_refusal, message_length, trailed, unless_longer, followed_by}

-- The answer that a further byte after the bytes taken results in, where the message ends with them.
pub refused_past : (bytes taken rest : List ℕ) (answer : Answer) (count : ℕ) (refusal : Refusal) → message_length answer ≡ Some count → bytes ≡ taken ++ rest → count ≡ length taken →
    Some refusal ≡ trailing_refusal rest count → trailed (length bytes) answer ≡ decided (Refused refusal)
refused_past bytes taken [] answer count refusal ends whole counted e = absurd cc
refused_past bytes taken (byte ∷ rest) answer count refusal ends whole counted e =
    let long : count < length bytes = rw (whole, counted) (omega (arith, length-append taken (byte ∷ rest))) in
    ap (λ (end : Option ℕ). unless_longer (length bytes) end answer) ends ∙ rw (lt-ltb count (length bytes) long) cc

-- And where no byte is after them.
pub kept_at_end : (bytes taken : List ℕ) (answer : Answer) (count : ℕ) → message_length answer ≡ Some count → bytes ≡ taken → count ≡ length taken →
    trailed (length bytes) answer ≡ answer
kept_at_end bytes taken answer count ends whole counted =
    let short : length bytes ≤ count = rw (whole, counted) (omega arith) in
    ap (λ (end : Option ℕ). unless_longer (length bytes) end answer) ends ∙ rw (le-ltb count (length bytes) short) refl

pub all_taken : (bytes taken rest : List ℕ) (count : ℕ) → bytes ≡ taken ++ rest → None ≡ trailing_refusal rest count → bytes ≡ taken
all_taken bytes taken [] count whole e = whole ∙ append-nil taken
all_taken bytes taken (byte ∷ rest) count whole e = absurd cc

-- What is left of an input whose bytes are known.
pub left_of_input : (come come_after : Option (List ℕ)) (bytes taken : List ℕ) → come ≡ Some bytes → Consumes come come_after taken →
    (rest : List ℕ) × (come_after ≡ Some rest) × (bytes ≡ taken ++ rest)
left_of_input come None bytes taken told consumes = let none = rw told at consumes in absurd none
left_of_input come (Some rest) bytes taken told consumes = (rest, refl, rw told at consumes)

-- A message that took these bytes of an input leaves the rest.
pub trails : (bytes taken rest : List ℕ) (verdict : Verdict) → bytes ≡ taken ++ rest → Counts verdict (length taken) → trailed (length bytes) (decided verdict) ≡ decided (followed_by rest verdict)
trails bytes taken [] (Authentic kind alg payload count) whole counted =
    let short : length bytes ≤ count = rw (whole, counted) (omega (arith, length-append taken [])) in
    rw (le-ltb count (length bytes) short) refl
trails bytes taken (byte ∷ rest) (Authentic kind alg payload count) whole counted =
    let long : count < length bytes = rw (whole, counted) (omega (arith, length-append taken (byte ∷ rest))) in
    rw (lt-ltb count (length bytes) long) refl
trails bytes taken [] (Refused refusal) whole counted = refl
trails bytes taken (byte ∷ rest) (Refused refusal) whole counted = refl

pub verdict_of_whole : {F : Type 0} (come come_after : Option (List ℕ)) (bytes taken : List ℕ) (answer : Answer) (verdict : Verdict) (whole : Result Verdict F) →
    come ≡ Some bytes → Consumes come come_after taken → Counts verdict (length taken) → answer ≡ decided verdict →
    ((rest : List ℕ) → come_after ≡ Some rest → IfOk whole (λ w. w ≡ followed_by rest verdict)) → IfOk whole (λ w. trailed (length bytes) answer ≡ decided w)
verdict_of_whole come None bytes taken answer verdict whole e consumes counted a h = let none = rw e at consumes in absurd none
verdict_of_whole come (Some rest) bytes taken answer verdict (Err fault) e consumes counted a h = tt
verdict_of_whole come (Some rest) bytes taken answer verdict (Ok w) e consumes counted a h = rw (a, h rest refl) (trails bytes taken rest verdict (rw e at consumes) counted)

-- A further byte refuses an authentic message, and nothing else does.
pub refused_if_followed : (rest : List ℕ) (verdict : Verdict) (kind : Kind) (alg : Alg) (payload taken : ℕ) (refusal : Refusal) → verdict ≡ Authentic kind alg payload taken →
    Some refusal ≡ trailing_refusal rest taken → Refused refusal ≡ followed_by rest verdict
refused_if_followed [] verdict kind alg payload taken refusal is e = absurd cc
refused_if_followed (byte ∷ rest) verdict kind alg payload taken refusal is e = rw is cc

pub same_if_last : (rest : List ℕ) (verdict : Verdict) (kind : Kind) (alg : Alg) (payload taken : ℕ) → verdict ≡ Authentic kind alg payload taken →
    None ≡ trailing_refusal rest taken → Authentic kind alg payload taken ≡ followed_by rest verdict
same_if_last [] verdict kind alg payload taken is e = rw is refl
same_if_last (byte ∷ rest) verdict kind alg payload taken is e = absurd cc
