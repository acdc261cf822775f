-- The text of an item by what its head says.
use Rattle.std.proofs.Common.{◌≡◌, ℕ, zero, suc, ◌-◌, Bool, true, false, List, ◌++◌, codes, map, Some, None, Result, refl, sym, ap, subst, ◌∙◌, append-nil, ne_eqb, arith}
use Rattle.std.specs.Prelude.{IfOk}
use Rattle.std.specs.Str.{IsUtf8, is_utf8}
use Rattle.std.proofs.lemmas.Str.{IsUtf8-from_is_utf8, is_utf8-from_IsUtf8}
use Rattle.cose_head.specs.declared.head.Head.{Head}
use Rattle.cose_head.specs.Placed.{Placed, children_of, head_of_item, tag_in}
use Rattle.cose_text.specs.Diagnostic.{bytes_text, string_text, tag_text}
use Rattle.cose_text.specs.Quoted.{quoted}
use Rattle.cose_text.specs.Shown.{item_text, leaf_text, level_text, list_text}

pub appended : {A E : Type 0} (result : Result A E) (text text_after one other : List ℕ) → one ≡ other → IfOk result (λ _. text_after ≡ text ++ one) →
    IfOk result (λ _. text_after ≡ text ++ other)
appended result text text_after one other same = subst (λ t. IfOk result (λ _. text_after ≡ text ++ t)) same

pub no_level : (text : List ℕ) (depth : ℕ) (p : Placed) → depth ≡ 0 → text ≡ text ++ item_text depth p
unfolding item_text
no_level text depth p none = rw none (sym (append-nil text))

one_level : (depth : ℕ) (p : Placed) → (depth ≡ 0 → ⊥) → level_text (item_text (depth - 1)) (head_of_item p) p ≡ item_text depth p
unfolding item_text
one_level zero p some = absurd (some refl)
one_level (suc depth) p some = let less : suc depth - 1 ≡ depth = omega arith in
    ap (λ n. level_text (item_text n) (head_of_item p) p) less

pub array_level : (depth : ℕ) (p : Placed) → (depth ≡ 0 → ⊥) → (head_of_item p).major ≡ 4 →
    list_text (codes "[") (codes ", ") (codes "]") (map (item_text (depth - 1)) (children_of p)) ≡ item_text depth p
array_level depth p some four = sym (rw four refl) ∙ one_level depth p some

pub map_level : (depth : ℕ) (p : Placed) → (depth ≡ 0 → ⊥) → (head_of_item p).major ≡ 5 →
    list_text (codes "{") (codes ": ") (codes "}") (map (item_text (depth - 1)) (children_of p)) ≡ item_text depth p
map_level depth p some five = sym (rw five refl) ∙ one_level depth p some

pub tag_level : (depth : ℕ) (p : Placed) (number : ℕ) (enclosed : Placed) → (depth ≡ 0 → ⊥) → ((head_of_item p).major ≡ 4 → ⊥) →
    ((head_of_item p).major ≡ 5 → ⊥) → Some (number, enclosed) ≡ tag_in p → tag_text number (item_text (depth - 1) enclosed) ≡ item_text depth p
tag_level depth p number enclosed some no_array no_map found =
    sym (rw (ne_eqb _ _ no_array, ne_eqb _ _ no_map, ← found) refl) ∙ one_level depth p some

pub leaf_level : (depth : ℕ) (p : Placed) → (depth ≡ 0 → ⊥) → ((head_of_item p).major ≡ 4 → ⊥) → ((head_of_item p).major ≡ 5 → ⊥) →
    None ≡ tag_in p → leaf_text (head_of_item p) p ≡ item_text depth p
leaf_level depth p some no_array no_map none = sym (rw (ne_eqb _ _ no_array, ne_eqb _ _ no_map, ← none) refl) ∙ one_level depth p some

pub utf8_string : (content text : List ℕ) → text ≡ content → IsUtf8 content → quoted text ≡ string_text content
utf8_string content text same utf8 = rw (same, is_utf8-from_IsUtf8 content utf8) refl

pub other_string : (content : List ℕ) → (IsUtf8 content → ⊥) → bytes_text (codes "text") content ≡ string_text content
other_string content none = go (is_utf8 content) refl
  where
    go : (b : Bool) → is_utf8 content ≡ b → bytes_text (codes "text") content ≡ string_text content
    go true e = absurd (none (IsUtf8-from_is_utf8 content e))
    go false e = rw e refl

pub not_major : (found h : Head) (n : ℕ) → found ≡ h → (found.major ≡ n → ⊥) → h.major ≡ n → ⊥
not_major found h n same other is = other (ap (λ (x : Head). x.major) same ∙ is)
