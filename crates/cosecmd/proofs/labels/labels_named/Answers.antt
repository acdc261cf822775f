use Rattle.std.proofs.Common.{◌≡◌, ◌∙◌, ◌++◌, ◌∷◌, [], ◌<◌, ◌+◌, Bor, List, ap, drop, get_or, length, map, rules, string_bytes, sym, ℕ}
use Rattle.std.proofs.lemmas.List.{append_assoc, at_drop_more, map-append}
use Rattle.cosecmd.specs.Headers.{label_named}
use Rattle.cosecmd.proofs.labels.labels_named.Goals as goal

pub words-preserved : goal.words-preserved
words-preserved c =
    let words = c.args.words.now in
    let at = c.words.word-index in
    let so_far = c.words.labels.items in
    let label = c.in_ok-label.label in
    let none : Bor (List ℕ) = record { ref_ptr = (0, 0); now = [] } in
    let within : at < length words = search rules in
    let texts = map string_bytes so_far in
    let left = map label_named (map (λ (it : Bor (List ℕ)). it.now) (drop (at + 1) words)) in
    let pushed : c.push.new.self.items ≡ so_far ++ (label ∷ []) = rw c.if-is_err.ensures.negation at c.push.ensures.items in
    let grown = ap (map string_bytes) pushed ∙ map-append string_bytes so_far (label ∷ []) in
    let labelled : texts ++ (string_bytes label ∷ left) ≡ texts ++ (label_named (get_or words at none).now ∷ left) = ap (λ (text : List ℕ). texts ++ (text ∷ left)) c.in_ok-label.ensures in
    let opened = at_drop_more (λ (rest : List (Bor (List ℕ))). texts ++ map label_named (map (λ it. it.now) rest)) words at none within in
    ap (λ all. all ++ left) grown ∙ append_assoc texts (string_bytes label ∷ []) left ∙ labelled ∙ sym opened ∙ c.words.invariant
