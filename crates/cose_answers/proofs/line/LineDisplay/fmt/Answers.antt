use Rattle.std.proofs.Common.{◌≡◌, ◌++◌, List, SFits, codes, of_z, refl, rules, subst, sym, to_z, ℕ}
use Rattle.std.specs.Fmt.{HasWritten, decimal, signed_decimal}
use Rattle.std.specs.Int.{w128}
use Rattle.std.proofs.lemmas.Int.{to_z-of_z}
use Rattle.std.proofs.lemmas.List.{append_assoc}
use Rattle.cose_head.specs.Algorithm.{algorithm_number}
use Rattle.cose_msg.specs.declared.verdict.Verdict.TheVariants.{Authentic}
use Rattle.cose_answers.specs.Printed.{verdict_line, word_of_kind}
use Rattle.cose_answers.proofs.line.LineDisplay.fmt.Goals as goal

pub returns-in-Authentic-clause-writes : goal.returns-in-Authentic-clause-writes
returns-in-Authentic-clause-writes g c = λ plain ok.
    let kind = c.in-Authentic.kind in
    let alg = c.in-Authentic.alg in
    let payload = decimal c.in-Authentic.payload in
    let taken = decimal c.in-Authentic.taken in
    let number = c.number-alg.result in
    let in_range : SFits w128 number = search rules in
    let flat : (s t u v w x y z : List ℕ) → s ++ t ++ u ++ v ++ w ++ x ++ y ++ z ≡ s ++ (t ++ (u ++ (v ++ (w ++ (x ++ (y ++ z)))))) = λ s t u v w x y z. rw (append_assoc, append_assoc, append_assoc, append_assoc, append_assoc, append_assoc) refl in
    let line : codes "authentic " ++ (c.word_of-kind.result.now ++ (codes " alg " ++ (signed_decimal (to_z w128 (of_z w128 number)) ++ (codes " payload " ++ (payload ++ (codes " taken " ++ taken)))))) ≡ verdict_line (Authentic kind alg c.in-Authentic.payload c.in-Authentic.taken) =
    rw (to_z-of_z w128 number in_range, c.word_of-kind.ensures, c.number-alg.ensures.value) (sym (flat (codes "authentic ") (word_of_kind kind) (codes " alg ") (signed_decimal (algorithm_number alg)) (codes " payload ") payload (codes " taken ") taken)) in
    rw c.in-Authentic.is (subst (λ (text : List ℕ). HasWritten g.W.Write.write_str_gives c.args.f.now text c.write.new.self) line (c.write.ensures.writes plain ok))

pub returns-in-Refused-clause-writes : goal.returns-in-Refused-clause-writes
returns-in-Refused-clause-writes g c = λ plain ok. rw c.in-Refused.is (c.write-in-Refused.ensures.writes plain ok)
