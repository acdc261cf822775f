use Rattle.std.proofs.Common.{◌∙◌, List, ap, sym}
use Rattle.cose_map.specs.Map.Pairs.{Pair}
use Rattle.cose_map.specs.Map.View.{pair_value, pairs_left}
use Rattle.cose_cwt.specs.Claims.Known.{KnownValue, kept_or_first}
use Rattle.cose_cwt.specs.Claims.Known.View.{known_value}
use Rattle.cose_cwt.proofs.KnownClaims.{no_pair_left, past_pair}
use Rattle.cose_cwt.proofs.claims.known.Known.of.Goals as goal

pub pairs-preserved : goal.pairs-preserved
pairs-preserved c =
    let kept = known_value c.pairs.known in
    let others = pairs_left c.next.new.self in
    ap (λ (now : KnownValue). kept_or_first now others) c.keep.ensures
    ∙ past_pair kept (pair_value c.in-Some.pair) others
    ∙ ap (λ (left : List Pair). kept_or_first kept left) (sym c.in-Some.ensures.steps)
    ∙ c.pairs.invariant

pub returns : goal.returns
returns c =
    let kept = known_value c.pairs.known in
    sym (no_pair_left kept)
    ∙ ap (λ (left : List Pair). kept_or_first kept left) (sym c.in-None.ensures.steps.0)
    ∙ c.pairs.invariant
