use Rattle.std.proofs.Common.{refl, sym, ◌∙◌}
use Rattle.std.proofs.lemmas.Result.{err_from_is_err_and}
use Rattle.cose_map.specs.Bucket.View.{bucket_pairs}
use Rattle.cose_msg.specs.FurtherView.{rules_for}
use Rattle.cose_msg.specs.Phases.{headers_of}
use Rattle.cose_msg.proofs.lemmas.InMemory.{begins}
use Rattle.cose_msg.proofs.further.whole.read_whole.Goals as goal

pub returns-in_err-kind-clause-reads : goal.returns-in_err-kind-clause-reads
returns-in_err-kind-clause-reads g c =
    let R = rules_for g.row.H g.row.D c.args.detached c.args.context.now in
    let p = err_from_is_err_and c.from_residual.result c.from_residual.ensures.1 in
    rw (p.1, p.2) (
    begins R c.args.message.now c.of-rest.result.bytes.now c.of-rest.result.place c.of-rest.ensures.bytes c.of-rest.ensures.place
    ∙ c.in_err-kind.ensures R refl refl)

pub returns-in_err-protected-clause-reads : goal.returns-in_err-protected-clause-reads
returns-in_err-protected-clause-reads g c =
    let R = rules_for g.row.H g.row.D c.args.detached c.args.context.now in
    let kind = c.in_ok-kind.kind in
    let p = err_from_is_err_and c.from_residual-in_err-protected.result c.from_residual-in_err-protected.ensures.1 in
    rw (p.1, p.2) (
    begins R c.args.message.now c.of-rest.result.bytes.now c.of-rest.result.place c.of-rest.ensures.bytes c.of-rest.ensures.place
    ∙ c.in_ok-kind.ensures R refl refl
    ∙ c.in_err-protected.ensures R kind refl refl)

pub returns-in_err-unprotected-clause-reads : goal.returns-in_err-unprotected-clause-reads
returns-in_err-unprotected-clause-reads g c =
    let R = rules_for g.row.H g.row.D c.args.detached c.args.context.now in
    let kind = c.in_ok-kind.kind in
    let content = c.in_ok-protected.protected.content.now in
    let pairs = bucket_pairs c.in_ok-protected.protected.bucket in
    let p = err_from_is_err_and c.from_residual-in_err-unprotected.result c.from_residual-in_err-unprotected.ensures.1 in
    rw (p.1, p.2) (
    begins R c.args.message.now c.of-rest.result.bytes.now c.of-rest.result.place c.of-rest.ensures.bytes c.of-rest.ensures.place
    ∙ c.in_ok-kind.ensures R refl refl
    ∙ c.in_ok-protected.ensures R kind refl refl
    ∙ c.in_err-unprotected.ensures R kind content pairs refl refl)

pub returns-in_err-found-clause-reads : goal.returns-in_err-found-clause-reads
returns-in_err-found-clause-reads g c =
    let R = rules_for g.row.H g.row.D c.args.detached c.args.context.now in
    let kind = c.in_ok-kind.kind in
    let content = c.in_ok-protected.protected.content.now in
    let pairs = bucket_pairs c.in_ok-protected.protected.bucket in
    let third = c.read_unprotected.new.rest in
    let p = err_from_is_err_and c.from_residual-in_err-found.result c.from_residual-in_err-found.ensures.1 in
    rw (p.1, p.2) (
    begins R c.args.message.now c.of-rest.result.bytes.now c.of-rest.result.place c.of-rest.ensures.bytes c.of-rest.ensures.place
    ∙ c.in_ok-kind.ensures R refl refl
    ∙ c.in_ok-protected.ensures R kind refl refl
    ∙ c.in_ok-unprotected.ensures R kind content pairs refl refl
    ∙ c.in_err-found.ensures.reads R content third refl refl (sym c.place.ensures))

pub returns-in_err-payload-clause-reads : goal.returns-in_err-payload-clause-reads
returns-in_err-payload-clause-reads g c =
    let R = rules_for g.row.H g.row.D c.args.detached c.args.context.now in
    let kind = c.in_ok-kind.kind in
    let content = c.in_ok-protected.protected.content.now in
    let pairs = bucket_pairs c.in_ok-protected.protected.bucket in
    let third = c.read_unprotected.new.rest in
    let headers = headers_of kind content pairs (bucket_pairs c.in_ok-unprotected.unprotected) in
    let p = err_from_is_err_and c.from_residual-in_err-payload.result c.from_residual-in_err-payload.ensures.1 in
    rw (p.1, p.2) (
    begins R c.args.message.now c.of-rest.result.bytes.now c.of-rest.result.place c.of-rest.ensures.bytes c.of-rest.ensures.place
    ∙ c.in_ok-kind.ensures R refl refl
    ∙ c.in_ok-protected.ensures R kind refl refl
    ∙ c.in_ok-unprotected.ensures R kind content pairs refl refl
    ∙ c.in_ok-found.ensures.reads R content third refl refl (sym c.place.ensures)
    ∙ c.in_err-payload.ensures R headers refl refl)

pub returns-in_err-signature-clause-reads : goal.returns-in_err-signature-clause-reads
returns-in_err-signature-clause-reads g c =
    let R = rules_for g.row.H g.row.D c.args.detached c.args.context.now in
    let kind = c.in_ok-kind.kind in
    let content = c.in_ok-protected.protected.content.now in
    let pairs = bucket_pairs c.in_ok-protected.protected.bucket in
    let third = c.read_unprotected.new.rest in
    let headers = headers_of kind content pairs (bucket_pairs c.in_ok-unprotected.unprotected) in
    let p = err_from_is_err_and c.from_residual-in_err-signature.result c.from_residual-in_err-signature.ensures.1 in
    rw (p.1, p.2) (
    begins R c.args.message.now c.of-rest.result.bytes.now c.of-rest.result.place c.of-rest.ensures.bytes c.of-rest.ensures.place
    ∙ c.in_ok-kind.ensures R refl refl
    ∙ c.in_ok-protected.ensures R kind refl refl
    ∙ c.in_ok-unprotected.ensures R kind content pairs refl refl
    ∙ c.in_ok-found.ensures.reads R content third refl refl (sym c.place.ensures)
    ∙ c.in_ok-payload.ensures R headers refl refl
    ∙ c.in_err-signature.ensures R headers c.in_ok-payload.payload.now refl)

pub returns-clause-reads : goal.returns-clause-reads
returns-clause-reads g c =
    let R = rules_for g.row.H g.row.D c.args.detached c.args.context.now in
    let kind = c.in_ok-kind.kind in
    let content = c.in_ok-protected.protected.content.now in
    let pairs = bucket_pairs c.in_ok-protected.protected.bucket in
    let third = c.read_unprotected.new.rest in
    let headers = headers_of kind content pairs (bucket_pairs c.in_ok-unprotected.unprotected) in
    rw c.place-2.ensures (
    begins R c.args.message.now c.of-rest.result.bytes.now c.of-rest.result.place c.of-rest.ensures.bytes c.of-rest.ensures.place
    ∙ c.in_ok-kind.ensures R refl refl
    ∙ c.in_ok-protected.ensures R kind refl refl
    ∙ c.in_ok-unprotected.ensures R kind content pairs refl refl
    ∙ c.in_ok-found.ensures.reads R content third refl refl (sym c.place.ensures)
    ∙ c.in_ok-payload.ensures R headers refl refl
    ∙ c.in_ok-signature.ensures R headers c.in_ok-payload.payload.now refl)

pub returns-clause-found : goal.returns-clause-found
returns-clause-found g c = c.in_ok-found.ensures.found c.in_ok-protected.protected.content.now
