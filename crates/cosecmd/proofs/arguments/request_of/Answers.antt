use Rattle.std.proofs.Common.{◌≡◌, ◌∙◌, None, Some, ap, codes, refl}
use Rattle.std.proofs.lemmas.Result.{IfOk-weaker}
use Rattle.cosecmd.specs.CommandLine.{cwt_prints, has_sequence, keys_prints, make_prints}
use Rattle.cosecmd.specs.Options.{options_of}
use Rattle.cosecmd.proofs.lemmas.Arguments.CommandLines.{checks_met, command_asked, command_met, keys_asks, make_asks, payload_met}
use Rattle.cosecmd.proofs.lemmas.Arguments.KeptRequests.{keeps_none}
use Rattle.cose_answers.proofs.lemmas.Requests.KeptRequests.{none_named}
use Rattle.cosecmd.proofs.arguments.request_of.Goals as goal

pub returns-in-Some-subcommand_matches-2-clause-asks : goal.returns-in-Some-subcommand_matches-2-clause-asks
returns-in-Some-subcommand_matches-2-clause-asks g c =
    let content = g.F.NamedFiles.content c.args.files.now in
    let met = c.in-Some-subcommand_matches-2 in
    let options = options_of met.cwt.now in
    IfOk-weaker c.cwt_request.result _ _ (λ request asks bytes said prints.
    let asked : cwt_prints content options bytes ≡ Some said = command_asked content c.args.matches.now (codes "cwt") options bytes said (met.ensures.found.0 refl) met.ensures.rows prints in
    asks bytes said asked) c.cwt_request.ensures.asks

pub returns-in-Some-subcommand_matches-4-clause-asks : goal.returns-in-Some-subcommand_matches-4-clause-asks
returns-in-Some-subcommand_matches-4-clause-asks g c = λ bytes said prints.
    let content = g.F.NamedFiles.content c.args.files.now in
    let met = c.in-Some-subcommand_matches-4 in
    let options = options_of met.keys.now in
    let asked : keys_prints content options bytes ≡ Some said = command_asked content c.args.matches.now (codes "keys") options bytes said (met.ensures.found.0 refl) met.ensures.rows prints in
    (None, refl, keys_asks content options c.in_ok-keys_of.field-0 bytes said c.in_ok-keys_of.ensures asked)

pub returns-in_ok-make_of-in-Some-subcommand_matches-5-clause-asks : goal.returns-in_ok-make_of-in-Some-subcommand_matches-5-clause-asks
returns-in_ok-make_of-in-Some-subcommand_matches-5-clause-asks g c = λ bytes said prints.
    let content = g.F.NamedFiles.content c.args.files.now in
    let met = c.in-Some-subcommand_matches-5 in
    let options = options_of met.make.now in
    let made = c.in_ok-make_of-in-Some-subcommand_matches-5 in
    let asked : make_prints content options bytes ≡ Some said = command_asked content c.args.matches.now (codes "make") options bytes said (met.ensures.found.0 refl) met.ensures.rows prints in
    (None, refl, make_asks content options made.field-0 bytes said made.ensures asked)

pub returns-in-Some-subcommand_matches-clause-sequence : goal.returns-in-Some-subcommand_matches-clause-sequence
returns-in-Some-subcommand_matches-clause-sequence g c =
    let met = c.in-Some-subcommand_matches in
    let command = command_met c.args.matches.now (codes "verify") (options_of met.verify.now) (met.ensures.found.0 refl) met.ensures.rows in
    IfOk-weaker c.verify_request.result _ _ (λ request only is. ap has_sequence command ∙ only is) c.verify_request.ensures.sequence

pub returns-in-Some-subcommand_matches-2-clause-sequence : goal.returns-in-Some-subcommand_matches-2-clause-sequence
returns-in-Some-subcommand_matches-2-clause-sequence g c =
    let met = c.in-Some-subcommand_matches-2 in
    let command = command_met c.args.matches.now (codes "cwt") (options_of met.cwt.now) (met.ensures.found.0 refl) met.ensures.rows in
    IfOk-weaker c.cwt_request.result _ _ (λ request only is. ap has_sequence command ∙ only is) c.cwt_request.ensures.sequence

pub returns-in-Some-clause-payload : goal.returns-in-Some-clause-payload
returns-in-Some-clause-payload g c =
    let content = g.F.NamedFiles.content c.args.files.now in
    let met = c.in-Some in
    payload_met content c.args.matches.now (codes "show") (options_of met.show.now) (Some None) (met.ensures.found.0 refl) met.ensures.rows refl

pub returns-in-Some-subcommand_matches-clause-payload : goal.returns-in-Some-subcommand_matches-clause-payload
returns-in-Some-subcommand_matches-clause-payload g c =
    let content = g.F.NamedFiles.content c.args.files.now in
    let met = c.in-Some-subcommand_matches in
    IfOk-weaker c.verify_request.result _ _ (λ request is. payload_met content c.args.matches.now (codes "verify") (options_of met.verify.now) _ (met.ensures.found.0 refl) met.ensures.rows is) c.verify_request.ensures.payload

pub returns-in-Some-subcommand_matches-2-clause-payload : goal.returns-in-Some-subcommand_matches-2-clause-payload
returns-in-Some-subcommand_matches-2-clause-payload g c =
    let content = g.F.NamedFiles.content c.args.files.now in
    let met = c.in-Some-subcommand_matches-2 in
    IfOk-weaker c.cwt_request.result _ _ (λ request is. payload_met content c.args.matches.now (codes "cwt") (options_of met.cwt.now) _ (met.ensures.found.0 refl) met.ensures.rows is) c.cwt_request.ensures.payload

pub returns-in-Some-subcommand_matches-3-clause-payload : goal.returns-in-Some-subcommand_matches-3-clause-payload
returns-in-Some-subcommand_matches-3-clause-payload g c =
    let content = g.F.NamedFiles.content c.args.files.now in
    let met = c.in-Some-subcommand_matches-3 in
    IfOk-weaker c.digest_request.result _ _ (λ request is. payload_met content c.args.matches.now (codes "digest") (options_of met.digest.now) _ (met.ensures.found.0 refl) met.ensures.rows is) c.digest_request.ensures.payload

pub returns-in-Some-subcommand_matches-4-clause-payload : goal.returns-in-Some-subcommand_matches-4-clause-payload
returns-in-Some-subcommand_matches-4-clause-payload g c =
    let content = g.F.NamedFiles.content c.args.files.now in
    let met = c.in-Some-subcommand_matches-4 in
    payload_met content c.args.matches.now (codes "keys") (options_of met.keys.now) (Some None) (met.ensures.found.0 refl) met.ensures.rows refl

pub returns-in_ok-make_of-in-Some-subcommand_matches-5-clause-payload : goal.returns-in_ok-make_of-in-Some-subcommand_matches-5-clause-payload
returns-in_ok-make_of-in-Some-subcommand_matches-5-clause-payload g c =
    let content = g.F.NamedFiles.content c.args.files.now in
    let met = c.in-Some-subcommand_matches-5 in
    payload_met content c.args.matches.now (codes "make") (options_of met.make.now) (Some None) (met.ensures.found.0 refl) met.ensures.rows refl

pub returns-in-Some-clause-kept : goal.returns-in-Some-clause-kept
returns-in-Some-clause-kept g c = λ name under named said. none_named name _ named

pub returns-in-Some-subcommand_matches-clause-kept : goal.returns-in-Some-subcommand_matches-clause-kept
returns-in-Some-subcommand_matches-clause-kept g c =
    let content = g.F.NamedFiles.content c.args.files.now in
    let met = c.in-Some-subcommand_matches in
    IfOk-weaker c.verify_request.result _ _ (λ request kept name under named said.
    kept name under named (checks_met content c.args.matches.now (codes "verify") (options_of met.verify.now) under (met.ensures.found.0 refl) met.ensures.rows said)) c.verify_request.ensures.kept

pub returns-in-Some-subcommand_matches-2-clause-kept : goal.returns-in-Some-subcommand_matches-2-clause-kept
returns-in-Some-subcommand_matches-2-clause-kept g c = IfOk-weaker c.cwt_request.result _ _ (λ request none. keeps_none _ request none) c.cwt_request.ensures.keeps

pub returns-in-Some-subcommand_matches-3-clause-kept : goal.returns-in-Some-subcommand_matches-3-clause-kept
returns-in-Some-subcommand_matches-3-clause-kept g c = IfOk-weaker c.digest_request.result _ _ (λ request none. keeps_none _ request none) c.digest_request.ensures.keeps

pub returns-in-Some-subcommand_matches-4-clause-kept : goal.returns-in-Some-subcommand_matches-4-clause-kept
returns-in-Some-subcommand_matches-4-clause-kept g c = λ name under named said. none_named name _ named

pub returns-in_ok-make_of-in-Some-subcommand_matches-5-clause-kept : goal.returns-in_ok-make_of-in-Some-subcommand_matches-5-clause-kept
returns-in_ok-make_of-in-Some-subcommand_matches-5-clause-kept g c = λ name under named said. none_named name _ named
