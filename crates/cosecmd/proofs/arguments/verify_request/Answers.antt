use Rattle.std.proofs.Common.{◌≡◌, ◌∙◌, Bool, ap, codes, false, sym, true}
use Rattle.std.proofs.lemmas.Result.{IfOk-weaker}
use Rattle.cosecmd.specs.CommandLine.{unless_sequence}
use Rattle.cosecmd.specs.Options.{flag_in, options_of, payload_in}
use Rattle.cosecmd.proofs.arguments.verify_request.Goals as goal

pub returns-then-flag_of-clause-payload : goal.returns-then-flag_of-clause-payload
returns-then-flag_of-clause-payload g c =
    let options = options_of c.args.matches.now in
    let own = payload_in (g.F.NamedFiles.content c.args.files.now) options in
    let is : flag_in (codes "sequence") options ≡ true = sym c.flag_of.ensures ∙ c.if-flag_of.true in
    IfOk-weaker c.sequence_request.result _ _ (λ request none. none ∙ sym (ap (λ (sequence : Bool). unless_sequence sequence own) is)) c.sequence_request.ensures.payload

pub returns-clause-payload : goal.returns-clause-payload
returns-clause-payload g c =
    let options = options_of c.args.matches.now in
    let own = payload_in (g.F.NamedFiles.content c.args.files.now) options in
    let is : flag_in (codes "sequence") options ≡ false = sym c.flag_of.ensures ∙ c.if-flag_of.false in
    IfOk-weaker c.message_request.result _ _ (λ request named. named ∙ sym (ap (λ (sequence : Bool). unless_sequence sequence own) is)) c.message_request.ensures.payload
