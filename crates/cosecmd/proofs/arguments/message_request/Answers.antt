use Rattle.std.proofs.Common.{List, Some, ap, ◌∙◌, ℕ}
use Rattle.std.proofs.lemmas.Result.{IfOk-weaker}
use Rattle.cosecmd.specs.Headers.{labels_in}
use Rattle.cosecmd.specs.Options.{options_of}
use Rattle.cose_answers.specs.Printed.{verified_for}
use Rattle.cose_answers.specs.Under.{under_of}
use Rattle.cosecmd.proofs.lemmas.Arguments.CommandLines.{payload_asks}
use Rattle.cosecmd.proofs.arguments.message_request.Goals as goal

pub returns-clause-asks : goal.returns-clause-asks
returns-clause-asks g c =
    let content = g.F.NamedFiles.content c.args.files.now in
    let labels = labels_in (options_of c.args.matches.now) in
    IfOk-weaker c.verify_for.result _ _ (λ request verifies bytes said prints.
    let asks = payload_asks (verified_for labels) _ _ c.in_ok-checks.checks _ bytes said c.in_ok-checks.ensures (c.in_ok-payload.ensures.value content) prints in
    (asks.0, verifies.payload_is content ∙ asks.1, verifies.asked asks.0 bytes ∙ ap (λ (named : List (List ℕ)). verified_for named (under_of c.in_ok-checks.checks) asks.0 bytes) c.in_ok-labels.ensures ∙ asks.2)) c.verify_for.ensures.asks

pub returns-clause-verifies : goal.returns-clause-verifies
returns-clause-verifies g c = IfOk-weaker c.verify_for.result _ _ (λ request verifies. verifies.makes_none) c.verify_for.ensures.asks

pub returns-clause-one : goal.returns-clause-one
returns-clause-one g c = IfOk-weaker c.verify_for.result _ _ (λ request verifies. verifies.one) c.verify_for.ensures.asks

pub returns-clause-keeps : goal.returns-clause-keeps
returns-clause-keeps g c = IfOk-weaker c.verify_for.result _ _ (λ request keeps. keeps ∙ c.text_of.ensures) c.verify_for.ensures.keeps

pub returns-clause-payload : goal.returns-clause-payload
returns-clause-payload g c =
    let content = g.F.NamedFiles.content c.args.files.now in
    IfOk-weaker c.verify_for.result _ _ (λ request verifies. verifies.payload_is content ∙ c.in_ok-payload.ensures.value content) c.verify_for.ensures.asks

pub returns-clause-kept : goal.returns-clause-kept
returns-clause-kept g c = IfOk-weaker c.verify_for.result _ _ (λ request verifies name under named said. verifies.kept name named ∙ ap Some (c.in_ok-checks.ensures under said)) c.verify_for.ensures.asks
