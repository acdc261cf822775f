use Rattle.std.proofs.Common.{refl, subst}
use Rattle.cose_c.specs.Stream.{HasRead}
use Rattle.cose_c.proofs.Streams.{read_in}
use Rattle.cose_c.proofs.stream.wanted.Goals as goal

pub returns-in-Some-clause-reads : goal.returns-in-Some-clause-reads
returns-in-Some-clause-reads g c = λ task taken payload read.
    c.want.ensures.reads task taken payload (read_in task taken payload _ c.in-Some.verifier c.in-Some.is read).0

pub returns-in-Some-clause-value : goal.returns-in-Some-clause-value
returns-in-Some-clause-value g c = rw c.in-Some.is c.want.ensures.value

pub returns-in-None-clause-value : goal.returns-in-None-clause-value
returns-in-None-clause-value g c = rw c.in-None.is refl

pub returns-in-None-clause-reads : goal.returns-in-None-clause-reads
returns-in-None-clause-reads g c = λ task taken payload read. absurd (subst (HasRead task taken payload) c.in-None.is read)
