-- The labels of `--header`, and the reply with the lines of header parameters.
use Rattle.std.proofs.Common.{◌≡◌, ◌∙◌, ℕ, true, false, List, [], ◌∷◌, ◌++◌, Option, Result, Ok, Err, refl, ap, arith, length}
use Rattle.std.specs.Prelude.{IfOk, map, string_bytes, ◌==◌}
use Rattle.std.proofs.lemmas.Bool.{eqb-true}
use Rattle.cose_head.specs.declared.algorithm.Alg.{Alg}
use Rattle.cose_head.specs.declared.kind.Kind.{Kind}
use Rattle.cose_map.specs.Map.Pairs.{Pair}
use Rattle.cose_msg.specs.declared.verdict.Verdict.{Verdict}
use Rattle.cose_msg.specs.declared.verdict.Verdict.TheVariants.{Authentic}
use Rattle.cose_answers.specs.Headers.{parameter_lines}
use Rattle.cose_answers.specs.Printed.{Says, headed_under, said_of, said_with, verified_for}
use Rattle.cose_answers.specs.Under.{Under}
use Rattle.cose_answers.specs.declared.reply.Reply.{Reply}
use Rattle.cose_answers.proofs.lemmas.Messages.MessageReplies.{says_equal}

-- Where there is a label, its line is asked for; where there is none, the verdict alone.
pub some_headed : {A : Type 0} (notation : A → List ℕ) (labels : List A) (under : Under) (payload : Option (List ℕ)) (bytes : List ℕ) → (length labels == 0) ≡ false →
    headed_under (map notation labels) under payload bytes ≡ verified_for (map notation labels) under payload bytes
some_headed notation [] under payload bytes some = absurd cc
some_headed notation (label ∷ labels) under payload bytes some = refl

pub no_labels : {A : Type 0} (notation : A → List ℕ) (labels : List A) → (length labels == 0) ≡ true → [] ≡ map notation labels
no_labels notation [] none = refl
no_labels notation (label ∷ labels) none =
    let zero_long : length (label ∷ labels) ≡ 0 = eqb-true (length (label ∷ labels)) 0 none in
    absurd (omega (arith, zero_long))

-- The lines that follow that of an authentic message.
pub says_more : {F : Type 0} (labels : List (List ℕ)) (protected unprotected : Option (List Pair)) (kind : Kind) (alg : Alg) (payload taken : ℕ) (first : Reply) (reply : Result Reply F) → Says (said_of (Authentic kind alg payload taken)) first →
    IfOk reply (λ (more : Reply). string_bytes more.text ≡ string_bytes first.text ++ parameter_lines labels protected unprotected) → IfOk reply (λ (more : Reply). more.status ≡ first.status) →
    IfOk reply (Says (said_with labels protected unprotected (Authentic kind alg payload taken)))
says_more labels protected unprotected kind alg payload taken first (Err fault) says text status = tt
says_more labels protected unprotected kind alg payload taken first (Ok more) says text status = record {
  text = text ∙ ap (λ (t : List ℕ). t ++ parameter_lines labels protected unprotected) says.text;
  status = status ∙ says.status;
}

-- A reply by equal buckets, after an equal verdict.
pub says_headed : {F : Type 0} (labels : List (List ℕ)) (protected one unprotected other : Option (List Pair)) (verdict whole : Verdict) (reply : Result Reply F) → protected ≡ one → unprotected ≡ other → verdict ≡ whole →
    IfOk reply (Says (said_with labels protected unprotected verdict)) → IfOk reply (Says (said_with labels one other whole))
says_headed labels protected one unprotected other verdict whole reply is_protected is_unprotected is says =
    let same : said_with labels protected unprotected verdict ≡ said_with labels one other whole = rw (is_protected, is_unprotected, is) refl in
    says_equal reply _ _ same says
