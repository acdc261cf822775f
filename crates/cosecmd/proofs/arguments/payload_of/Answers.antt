use Rattle.std.proofs.Common.{◌∙◌, Option, ap, codes, sym}
use Rattle.std.proofs.lemmas.Result.{IfOk-weaker}
use Rattle.clap.specs.Matches.{found_of}
use Rattle.clap.specs.Walk.{Text}
use Rattle.clap.proofs.WalkLemmas.{first_value-rows}
use Rattle.cosecmd.specs.Options.{number_in, optional_bytes_in, options_of, payload_from}
use Rattle.cose_answers.specs.Payload.{detached_in}
use Rattle.cosecmd.proofs.lemmas.Arguments.Options.{given, left_out, not_given, same_argument}
use Rattle.cosecmd.proofs.arguments.payload_of.Goals as goal

pub returns-in-Some-clause-value : goal.returns-in-Some-clause-value
returns-in-Some-clause-value c =
    let options = options_of c.args.matches.now in
    let stated = number_in (codes "payload-length") options in
    let named = given (codes "payload-file") options c.text_of.result c.in-Some.name c.text_of.ensures c.in-Some.is in
    IfOk-weaker c.payload_in_file.result _ _ (λ payload is content. ap (detached_in content) is
    ∙ sym (ap (λ (name : Option Text). payload_from content stated name (optional_bytes_in (codes "payload") options)) named)) c.payload_in_file.ensures

pub returns-in-None-clause-value : goal.returns-in-None-clause-value
returns-in-None-clause-value c =
    let options = options_of c.args.matches.now in
    let stated = number_in (codes "payload-length") options in
    let unnamed = left_out (codes "payload-file") options c.text_of.result c.text_of.ensures c.in-None.is in
    IfOk-weaker c.payload_in_line.result _ _ (λ payload is content. is content
    ∙ sym (ap (λ (name : Option Text). payload_from content stated name (optional_bytes_in (codes "payload") options)) unnamed)) c.payload_in_line.ensures

pub returns-in-Some-clause-file : goal.returns-in-Some-clause-file
returns-in-Some-clause-file c = λ name is.
    let named = given (codes "payload-file") (options_of c.args.matches.now) c.text_of.result c.in-Some.name c.text_of.ensures c.in-Some.is in
    let same = same_argument _ c.in-Some.name.now name named (sym (first_value-rows (found_of c.args.matches.now) (codes "payload-file")) ∙ is) in
    IfOk-weaker c.payload_in_file.result _ _ (λ payload is. rw is same) c.payload_in_file.ensures

pub returns-in-None-clause-file : goal.returns-in-None-clause-file
returns-in-None-clause-file c = λ name is.
    let unnamed = left_out (codes "payload-file") (options_of c.args.matches.now) c.text_of.result c.text_of.ensures c.in-None.is in
    not_given _ name unnamed (sym (first_value-rows (found_of c.args.matches.now) (codes "payload-file")) ∙ is)
