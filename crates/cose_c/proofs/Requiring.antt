-- The claims that have to be present, one after the other.
use Rattle.std.proofs.Common.{◌≡◌, ◌∙◌, ℕ, ◌+◌, ◌<◌, Bool, true, List, [], ◌∷◌, ◌++◌, length, drop, get_or, Ok, Err, refl, sym, ap, if◌then◌else◌}
use Rattle.std.specs.Prelude.{filter}
use Rattle.std.proofs.lemmas.List.{append-nil, drop_more}
use Rattle.std.proofs.lemmas.List.Elements.{filter-append, filter_map-append}
use Rattle.cose_map.specs.Map.Pairs.{value_of}
use Rattle.cose_cwt.specs.declared.requirements.Claim.{Claim}
use Rattle.cose_cwt.specs.declared.requirements.Unmet.{Unmet}
use Rattle.cose_cwt.specs.Claims.{ClaimsValue}
use Rattle.cose_cwt.specs.Requirements.{absent_at, absent_of, first_of, label_of, met, unmet}
use Rattle.cose_cwt.proofs.FirstUnmet.{past, stays}
use Rattle.cose_c.specs.Required.{presence}

-- The requirement that one claim is present is that alone.
pub met_presence : (claim : Claim) (claims : ClaimsValue) → met (presence claim) claims ≡ first_of (absent_of (claim ∷ []) claims)
unfolding unmet
met_presence claim claims = ap first_of (append-nil (absent_of (claim ∷ []) claims))

pub where_required : (b : Bool) (claim : Claim) (claims : ClaimsValue) → b ≡ true →
    first_of (absent_of (claim ∷ []) claims) ≡ first_of (absent_of (if b then claim ∷ [] else []) claims)
where_required b claim claims e = rw e refl

module _ (p : Claim → Bool) (claims : ClaimsValue) where
  absent_split : (claim : Claim) (others : List Claim) → absent_of (filter p (claim ∷ [])) claims ++ absent_of (filter p others) claims ≡ absent_of (filter p (claim ∷ others)) claims
  absent_split claim others =
      sym (filter_map-append (λ c. absent_at c (value_of (label_of c) claims.pairs)) (filter p (claim ∷ [])) (filter p others))
      ∙ ap (λ l. absent_of l claims) (sym (filter-append p (claim ∷ []) others))

  absent_from : (all : List Claim) (i : ℕ) (d : Claim) → i < length all →
      absent_of (filter p (get_or all i d ∷ [])) claims ++ absent_of (filter p (drop (i + 1) all)) claims ≡ absent_of (filter p (drop i all)) claims
  absent_from all i d lt = absent_split (get_or all i d) (drop (i + 1) all) ∙ ap (λ l. absent_of (filter p l) claims) (sym (drop_more all i d lt))

  pub next_unmet : (all : List Claim) (i : ℕ) (d : Claim) (unmet : Unmet) → i < length all → Err unmet ≡ first_of (absent_of (filter p (get_or all i d ∷ [])) claims) →
      Err unmet ≡ first_of (absent_of (filter p (drop i all)) claims)
  next_unmet all i d unmet lt e = stays _ _ unmet e ∙ ap first_of (absent_from all i d lt)

  pub next_met : (all : List Claim) (i : ℕ) (d : Claim) → i < length all → Ok tt ≡ first_of (absent_of (filter p (get_or all i d ∷ [])) claims) →
      first_of (absent_of (filter p (drop (i + 1) all)) claims) ≡ first_of (absent_of (filter p (drop i all)) claims)
  next_met all i d lt e = past _ _ _ e refl ∙ ap first_of (absent_from all i d lt)
