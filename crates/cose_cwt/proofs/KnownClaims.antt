-- The known claims, found in one pass over the pairs.
use Rattle.std.proofs.Common.{◌≡◌, List, [], ◌∷◌, Option, Some, None, refl, option_map}
use Rattle.std.specs.Prelude.{Bool, true, false, cond}
use Rattle.std.specs.Option.{option_or}
use Rattle.cose_head.specs.Placed.{Placed}
use Rattle.cose_map.specs.Label.{LabelValue}
use Rattle.cose_map.specs.Map.Pairs.{Pair, is_named, pair_of, value_of}
use Rattle.cose_cwt.specs.Claims.Known.{KnownValue, each, kept_or_first}
use Rattle.cose_cwt.specs.Claims.Labels.{iss, sub, aud, exp, nbf, iat, cti, cnf}

-- The first value of a label is kept past a pair, whatever pairs follow.
value_past : (label : LabelValue) (kept : Option Placed) (pair : Pair) (others : List Pair) →
    option_or (option_or kept (value_of label (pair ∷ []))) (value_of label others) ≡ option_or kept (value_of label (pair ∷ others))
value_past label (Some value) pair others = refl
value_past label None pair others = by (is_named label pair)
  where
    value_in : Option Pair → Option Placed
    value_in = option_map (λ (p : Pair). p.value)

    by : (named : Bool) → option_or (value_in (cond named (Some pair) None)) (value_of label others) ≡ value_in (cond named (Some pair) (pair_of label others))
    by true = refl
    by false = refl

pub past_pair : (kept : KnownValue) (pair : Pair) (others : List Pair) →
    kept_or_first (kept_or_first kept (pair ∷ [])) others ≡ kept_or_first kept (pair ∷ others)
past_pair kept pair others = λ i. each (λ label value. value_past label value pair others i) kept

-- Where no pair is left, what is kept is the result.
value_at_end : (kept : Option Placed) → option_or kept None ≡ kept
value_at_end None = refl
value_at_end (Some value) = refl

pub no_pair_left : (kept : KnownValue) → kept_or_first kept [] ≡ kept
no_pair_left kept = λ i. each (λ label value. value_at_end value i) kept

-- A pair of another label changes nothing.
value_stays : (label : LabelValue) (kept : Option Placed) (pair : Pair) → is_named label pair ≡ false → kept ≡ option_or kept (value_of label (pair ∷ []))
value_stays label (Some value) pair e = refl
value_stays label None pair e = rw e refl

pub other_pair : (kept : KnownValue) (pair : Pair) → is_named iss pair ≡ false → is_named sub pair ≡ false → is_named aud pair ≡ false → is_named exp pair ≡ false →
    is_named nbf pair ≡ false → is_named iat pair ≡ false → is_named cti pair ≡ false → is_named cnf pair ≡ false → kept ≡ kept_or_first kept (pair ∷ [])
other_pair kept pair e1 e2 e3 e4 e5 e6 e7 e8 = λ i. record {
  iss = value_stays iss kept.iss pair e1 i;
  sub = value_stays sub kept.sub pair e2 i;
  aud = value_stays aud kept.aud pair e3 i;
  exp = value_stays exp kept.exp pair e4 i;
  nbf = value_stays nbf kept.nbf pair e5 i;
  iat = value_stays iat kept.iat pair e6 i;
  cti = value_stays cti kept.cti pair e7 i;
  cnf = value_stays cnf kept.cnf pair e8 i;
}
