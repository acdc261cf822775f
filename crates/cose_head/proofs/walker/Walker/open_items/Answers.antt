use Rattle.std.proofs.Common.{◌≡◌, ap, length, arith}
use Rattle.cose_head.specs.Measured.{left_of}
use Rattle.cose_head.specs.Open.{Open, open_in}
use Rattle.cose_head.proofs.lemmas.Walker.WalkerSteps.{open_so_far}
use Rattle.cose_head.proofs.walker.Walker.open_items.Goals as goal

pub returns-in-Going-clause-open : goal.returns-in-Going-clause-open
returns-in-Going-clause-open g c = λ room put has.
    let open_items : (open_in g.row.D (left_of put room 0)).items ≡ length c.args.self.now.counts.items = ap (λ (o : Open). o.items) (open_so_far c.args.self.now room put has) in
    omega arith
