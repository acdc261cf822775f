use Rattle.std.proofs.Common.{◌≡◌, ap, arith}
use Rattle.cose_head.specs.Open.{Open, open_in}
use Rattle.cose_head.specs.Measured.{left_of}
use Rattle.cose_head.proofs.lemmas.Walker.WalkerSteps.{open_so_far, early_content, early_none}
use Rattle.cose_head.proofs.walker.Walker.want.Goals as goal

pub returns-then-self-gt0-clause-content : goal.returns-then-self-gt0-clause-content
returns-then-self-gt0-clause-content g c = λ room put has.
    let content : (open_in g.row.D (left_of put room 0)).content ≡ c.args.self.now.string = ap (λ (o : Open). o.content) (open_so_far c.args.self.now room put has) in
    omega arith

pub returns-then-self-gt0-clause-early : goal.returns-then-self-gt0-clause-early
returns-then-self-gt0-clause-early g c = λ room put more has some short. early_content c.args.self.now room put has more short

pub returns-else-self-gt0-clause-content : goal.returns-else-self-gt0-clause-content
returns-else-self-gt0-clause-content g c = λ room put has.
    let content : (open_in g.row.D (left_of put room 0)).content ≡ c.args.self.now.string = ap (λ (o : Open). o.content) (open_so_far c.args.self.now room put has) in
    omega arith

pub returns-else-self-gt0-clause-early : goal.returns-else-self-gt0-clause-early
returns-else-self-gt0-clause-early g c = λ room put more has some short. early_none c.args.self.now room put has more some short
