use Rattle.std.proofs.Common.{◌≡◌, Bool, true, false, ap, if◌then◌else◌}
use Rattle.cose_c.specs.Elsewhere.{is_asked}
use Rattle.cose_c.proofs.elsewhere.large.cose_edge_large_front_pieces.Goals as goal

pub returns-then-front_pieces-clause-some : goal.returns-then-front_pieces-clause-some
returns-then-front_pieces-clause-some c = λ setting taken payload read.
    let asked : true ≡ is_asked c.args.verifier.now.value.content = (rw c.lend.ensures.value at c.if-front_pieces.ensures.some) setting taken payload read in
    ap (λ (b : Bool). if b then 1 else 0) asked

pub returns-else-front_pieces-clause-some : goal.returns-else-front_pieces-clause-some
returns-else-front_pieces-clause-some c = λ setting taken payload read.
    let asked : false ≡ is_asked c.args.verifier.now.value.content = (rw c.lend.ensures.value at c.if-front_pieces.ensures.some) setting taken payload read in
    ap (λ (b : Bool). if b then 1 else 0) asked
