use Rattle.std.proofs.Common.{arith}
use Rattle.std.proofs.lemmas.Grind.{common_steps}
use Rattle.cose_answers.proofs.vouch.word_for.Goals as goal

pub returns-in_default : goal.returns-in_default
returns-in_default c = grind (arith, common_steps)

pub returns-in_err-push : goal.returns-in_err-push
returns-in_err-push c = grind (arith, common_steps)

pub returns-in_err-extend_from_slice : goal.returns-in_err-extend_from_slice
returns-in_err-extend_from_slice c = grind (arith, common_steps)

pub returns-in_err-extend_from_slice-2 : goal.returns-in_err-extend_from_slice-2
returns-in_err-extend_from_slice-2 c = grind (arith, common_steps)

pub returns-in_err-extend_from_slice-3 : goal.returns-in_err-extend_from_slice-3
returns-in_err-extend_from_slice-3 c = grind (arith, common_steps)

pub returns-in_err-extend_from_slice-in-Bytes : goal.returns-in_err-extend_from_slice-in-Bytes
returns-in_err-extend_from_slice-in-Bytes c = grind (arith, common_steps)

pub returns-in_err-push-in-Sign : goal.returns-in_err-push-in-Sign
returns-in_err-push-in-Sign c = grind (arith, common_steps)

pub returns : goal.returns
returns c = grind (arith, common_steps)
