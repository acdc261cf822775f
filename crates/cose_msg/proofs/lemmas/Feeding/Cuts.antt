-- Pieces fed in a row have the result of all their bytes, however they were cut.
use Rattle.std.proofs.Common.{◌≡◌, ℕ, ◌+◌, ◌-◌, ◌<◌, ◌≤◌, false, List, [], ◌∷◌, ◌++◌, length, take, refl, sym, ap, subst, ◌∙◌, append_assoc, arith, inl, inr, length-append}
use Rattle.std.specs.List.{concat}
use Rattle.std.proofs.lemmas.Bool.{cases_lt}
use Rattle.std.proofs.lemmas.List.{append-nil, take_all, take-append-le}
use Rattle.std.proofs.Math.Seq.{take-append-add}
use Rattle.cose_msg.specs.Feed.{CutsDontMatter, FedAfter, PiecesJoin, Uses}
use Rattle.cose_msg.specs.Message.{message}
use Rattle.cose_msg.specs.Rules.{Rules}

-- ---- one piece

no_more_used : (rules : Rules) (so_far piece : List ℕ) (a b : ℕ) → Uses rules so_far piece a → Uses rules so_far piece b → a < b → ⊥
no_more_used rules so_far piece a b p q lt = let all : a ≡ length piece = p.all (q.none_earlier a lt) in omega (arith, all, lt, q.within)

pub uses_once : (rules : Rules) (so_far piece : List ℕ) (a b : ℕ) → Uses rules so_far piece a → Uses rules so_far piece b → a ≡ b
uses_once rules so_far piece a b p q = elim (cases_lt a b) [
  | inl lt ↦ absurd (no_more_used rules so_far piece a b p q lt)
  | inr ge ↦ elim (cases_lt b a) [
    | inl lt ↦ absurd (no_more_used rules so_far piece b a q p lt)
    | inr le ↦ omega (arith, ge, le)
  ]
]

-- ---- two pieces

module _ (rules : Rules) (s x y : List ℕ) (a b : ℕ) (p : Uses rules s x a) (q : Uses rules (s ++ take a x) y b) where
  -- Where not all of the first is used, it settles the message, and nothing is used of the second.
  nothing_after : a < length x → b ≡ 0
  nothing_after lt = elim (cases_lt 0 b) [
    | inl some ↦ (
        let unsettled : (message rules (s ++ take a x)).settled ≡ false = subst (λ (t : List ℕ). (message rules t).settled ≡ false) (append-nil (s ++ take a x)) (q.none_earlier 0 some) in
        let all : a ≡ length x = p.all unsettled in
        absurd (omega (arith, all, lt)))
    | inr none ↦ omega (arith, none)
  ]

  all_of_first : (message rules ((s ++ take a x) ++ take b y)).settled ≡ false → a ≡ length x
  all_of_first unsettled = elim (cases_lt a (length x)) [
    | inl lt ↦ (
        let none : b ≡ 0 = nothing_after lt in
        p.all (subst (λ (t : List ℕ). (message rules t).settled ≡ false) (append-nil (s ++ take a x)) (rw none at unsettled)))
    | inr ge ↦ omega (arith, ge, p.within)
  ]

  used_of_both : (n : ℕ) → n ≤ b → take (a + n) (x ++ y) ≡ take a x ++ take n y
  used_of_both n le = elim (cases_lt a (length x)) [
    | inl lt ↦ (
        let none : n ≡ 0 = omega (arith, le, nothing_after lt) in
        let place : a + n ≡ a = omega (arith, none) in
        let within : a ≤ length x = p.within in
        rw (place, none) (take-append-le a x y within ∙ sym (append-nil (take a x))))
    | inr ge ↦ (
        let whole : a ≡ length x = omega (arith, ge, p.within) in
        ap (λ (k : ℕ). take (k + n) (x ++ y)) whole ∙ take-append-add x y n ∙ ap (λ (t : List ℕ). t ++ take n y) (sym (take_all a x (omega (arith, whole)))))
  ]

  at_both : (n : ℕ) → n ≤ b → s ++ take (a + n) (x ++ y) ≡ (s ++ take a x) ++ take n y
  at_both n le = ap (λ (t : List ℕ). s ++ t) (used_of_both n le) ∙ sym (append_assoc s (take a x) (take n y))

  earlier : (n : ℕ) → n < a + b → (message rules (s ++ take n (x ++ y))).settled ≡ false
  earlier n lt = elim (cases_lt n a) [
    | inl first ↦ (let within : n ≤ length x = omega (arith, first, p.within) in rw (take-append-le n x y within) (p.none_earlier n first))
    | inr second ↦ (
        let m : ℕ = n - a in
        let place : n ≡ a + m = omega (arith, second) in
        let short : m < b = omega (arith, lt, second) in
        let le : m ≤ b = omega (arith, short) in
        rw (place, at_both m le) (q.none_earlier m short))
  ]

  pub uses_both : Uses rules s (x ++ y) (a + b)
  uses_both = record {
    within = omega (arith, p.within, q.within, length-append x y);
    none_earlier = earlier;
    all = λ unsettled.
        (let there : (message rules ((s ++ take a x) ++ take b y)).settled ≡ false = subst (λ (t : List ℕ). (message rules t).settled ≡ false) (at_both b (omega arith)) unsettled in
        omega (arith, all_of_first there, q.all there, length-append x y));
  }

  pub same_bytes : (s ++ take a x) ++ take b y ≡ s ++ take (a + b) (x ++ y)
  same_bytes = sym (at_both b (omega arith))

-- ---- any number of them

none_of_nothing : (rules : Rules) (so_far : List ℕ) → Uses rules so_far [] 0
none_of_nothing rules so_far = record { within = omega arith; none_earlier = λ n lt. absurd (omega (arith, lt)); all = λ e. refl }

pub pieces_join : PiecesJoin
pieces_join rules before [] so_far e = (0, none_of_nothing rules before, e ∙ sym (append-nil before))
pieces_join rules before (piece ∷ pieces) so_far (a, p, rest) =
    let joined = pieces_join rules (before ++ take a piece) pieces so_far rest in
    (a + joined.0, uses_both rules before piece (concat pieces) a joined.0 p joined.1, joined.2 ∙ same_bytes rules before piece (concat pieces) a joined.0 p joined.1)

one_piece : (rules : Rules) (before piece so_far other : List ℕ) → FedAfter rules before (piece ∷ []) so_far → FedAfter rules before (piece ∷ []) other → so_far ≡ other
one_piece rules before piece so_far other (a, p, e) (b, q, f) = e ∙ ap (λ (n : ℕ). before ++ take n piece) (uses_once rules before piece a b p q) ∙ sym f

pub cuts_dont_matter : CutsDontMatter
cuts_dont_matter rules before pieces others so_far other same h k =
    let joined : FedAfter rules before (concat others ∷ []) so_far = subst (λ (piece : List ℕ). FedAfter rules before (piece ∷ []) so_far) same (pieces_join rules before pieces so_far h) in
    one_piece rules before (concat others) so_far other joined (pieces_join rules before others other k)
