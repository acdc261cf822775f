use Rattle.cose_answers.specs.declared.fault.Fault.TheVariants as faults
use Rattle.cose_answers.specs.Sequence.{verified_sequence}
use Rattle.cose_answers.specs.Under.{under_of}
use Rattle.cose_answers.proofs.lemmas.Requests.AskedSequences.{line_alone}
use Rattle.cose_answers.proofs.answers.sequence.messages.print_small.Goals as goal

pub returns-in-Err-clause-fails : goal.returns-in-Err-clause-fails
returns-in-Err-clause-fails g c = λ bytes e two. line_alone (verified_sequence (under_of c.args.checks.now)) bytes _ _ (faults.Keys c.in-Err.refusal) c.print_fault.ensures.line
