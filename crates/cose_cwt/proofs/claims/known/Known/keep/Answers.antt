-- A label below the known ones, one above them, and a text string.
use Rattle.std.proofs.Common.{arith}
use Rattle.cose_map.specs.Map.View.{pair_value}
use Rattle.cose_cwt.proofs.KnownClaims.{other_pair}
use Rattle.cose_cwt.proofs.claims.known.Known.keep.Goals as goal

pub returns-then-name-lt1 : goal.returns-then-name-lt1
returns-then-name-lt1 c =
    other_pair _ (pair_value c.args.pair.now) (grind (arith)) (grind (arith)) (grind (arith)) (grind (arith)) (grind (arith)) (grind (arith)) (grind (arith)) (grind (arith))

pub returns-else-name-lt9 : goal.returns-else-name-lt9
returns-else-name-lt9 c =
    other_pair _ (pair_value c.args.pair.now) (grind (arith)) (grind (arith)) (grind (arith)) (grind (arith)) (grind (arith)) (grind (arith)) (grind (arith)) (grind (arith))

pub returns : goal.returns
returns c =
    other_pair _ (pair_value c.args.pair.now) (grind (arith)) (grind (arith)) (grind (arith)) (grind (arith)) (grind (arith)) (grind (arith)) (grind (arith)) (grind (arith))
