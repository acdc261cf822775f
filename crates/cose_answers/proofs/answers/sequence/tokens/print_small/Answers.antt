use Rattle.cose_answers.specs.declared.fault.Fault.TheVariants as faults
use Rattle.cose_answers.specs.Requests.{admitted_each_for}
use Rattle.cose_answers.proofs.lemmas.Requests.AskedSequences.{line_alone}
use Rattle.cose_answers.proofs.answers.sequence.tokens.print_small.Goals as goal

pub returns-in-Err-clause-fails : goal.returns-in-Err-clause-fails
returns-in-Err-clause-fails g c = λ bytes e two. line_alone (admitted_each_for c.args.words.now) bytes _ _ (faults.Keys c.in-Err.refusal) c.print_fault.ensures.line
