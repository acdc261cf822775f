use Rattle.std.proofs.Common.{◌≡◌, ◌∙◌, None, Some, codes, false, refl, sym, true}
use Rattle.cosecmd.specs.CommandLine.{tokens_print}
use Rattle.cosecmd.specs.Options.{flag_in, options_of}
use Rattle.cose_answers.specs.Printed.{admitted_under}
use Rattle.cose_answers.specs.Sequence.{admitted_sequence}
use Rattle.cosecmd.proofs.lemmas.Arguments.CommandLines.{cwt_asks}
use Rattle.cosecmd.proofs.arguments.cwt_request.Goals as goal

pub returns-then-flag_of-clause-asks : goal.returns-then-flag_of-clause-asks
returns-then-flag_of-clause-asks g c = λ bytes said prints.
    let content = g.F.NamedFiles.content c.args.files.now in
    let options = options_of c.args.matches.now in
    let is : flag_in (codes "sequence") options ≡ true = sym c.flag_of.ensures ∙ c.if-flag_of.true in
    let asked : tokens_print admitted_sequence content options bytes ≡ Some said = rw is at prints in
    (None, refl, cwt_asks admitted_sequence content options c.in_ok-words.words bytes said c.in_ok-words.ensures asked)

pub returns-clause-asks : goal.returns-clause-asks
returns-clause-asks g c = λ bytes said prints.
    let content = g.F.NamedFiles.content c.args.files.now in
    let options = options_of c.args.matches.now in
    let is : flag_in (codes "sequence") options ≡ false = sym c.flag_of.ensures ∙ c.if-flag_of.false in
    let asked : tokens_print admitted_under content options bytes ≡ Some said = rw is at prints in
    (None, refl, cwt_asks admitted_under content options c.in_ok-words.words bytes said c.in_ok-words.ensures asked)
