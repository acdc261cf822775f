use Rattle.std.proofs.Common.{◌≡◌, Bool, true, false, refl, ap, if◌then◌else◌}
use Rattle.cose_c.specs.Elsewhere.{is_asked}
use Rattle.cose_c.proofs.elsewhere.large.cose_edge_large_asked_key.Goals as goal

pub returns-then-asked_key-clause-key : goal.returns-then-asked_key-clause-key
returns-then-asked_key-clause-key c = λ _. (rw c.lend.ensures.value at c.if-asked_key.ensures.key) refl

pub returns-then-asked_key-clause-some : goal.returns-then-asked_key-clause-some
returns-then-asked_key-clause-some c = λ setting taken payload read.
    let asked : true ≡ is_asked c.args.verifier.now.value.content = (rw c.lend.ensures.value at c.if-asked_key.ensures.some) setting taken payload read in
    ap (λ (b : Bool). if b then 1 else 0) asked

pub returns-else-asked_key-clause-some : goal.returns-else-asked_key-clause-some
returns-else-asked_key-clause-some c = λ setting taken payload read.
    let asked : false ≡ is_asked c.args.verifier.now.value.content = (rw c.lend.ensures.value at c.if-asked_key.ensures.some) setting taken payload read in
    ap (λ (b : Bool). if b then 1 else 0) asked
