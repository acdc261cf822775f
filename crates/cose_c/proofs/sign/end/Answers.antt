use Rattle.cose_c.proofs.Signers.{makes_none, to_sign}
use Rattle.cose_c.proofs.sign.end.Goals as goal

pub returns-in-None-clause-wrong : goal.returns-in-None-clause-wrong
returns-in-None-clause-wrong c = λ alg aad payload signs different.
    let ended = c.end_payload.ensures.making alg aad payload (rw c.take.ensures.value signs) in
    absurd (makes_none c.in-None.is alg aad payload ended)

pub returns-in-None-clause-making : goal.returns-in-None-clause-making
returns-in-None-clause-making c = λ alg aad payload signs fault.
    let ended = c.end_payload.ensures.making alg aad payload (rw c.take.ensures.value signs) in
    ended

pub returns-in-None-clause-ends : goal.returns-in-None-clause-ends
returns-in-None-clause-ends c = λ alg aad payload signs same short room.
    let ended = c.end_payload.ensures.making alg aad payload (rw c.take.ensures.value signs) in
    absurd (makes_none c.in-None.is alg aad payload ended)

pub returns-then-made-ne-COMPLETE-clause-wrong : goal.returns-then-made-ne-COMPLETE-clause-wrong
returns-then-made-ne-COMPLETE-clause-wrong c = λ alg aad payload signs different.
    let ended = c.end_payload.ensures.making alg aad payload (rw c.take.ensures.value signs) in
    let asked = to_sign c.in-Some-Signature.is c.in-Some-Signature.field-0-is alg aad payload ended in
    c.write_signature-made.ensures.wrong (rw asked.1.algorithm different)

pub returns-then-made-ne-COMPLETE-clause-making : goal.returns-then-made-ne-COMPLETE-clause-making
returns-then-made-ne-COMPLETE-clause-making c = λ alg aad payload signs fault.
    let ended = c.end_payload.ensures.making alg aad payload (rw c.take.ensures.value signs) in
    to_sign c.in-Some-Signature.is c.in-Some-Signature.field-0-is alg aad payload ended

pub returns-then-made-ne-COMPLETE-clause-ends : goal.returns-then-made-ne-COMPLETE-clause-ends
returns-then-made-ne-COMPLETE-clause-ends c = λ alg aad payload signs same short room.
    let ended = c.end_payload.ensures.making alg aad payload (rw c.take.ensures.value signs) in
    let asked = to_sign c.in-Some-Signature.is c.in-Some-Signature.field-0-is alg aad payload ended in
    c.write_signature-made.ensures.ends (rw asked.1.algorithm same) short room

pub returns-clause-wrong : goal.returns-clause-wrong
returns-clause-wrong c = λ alg aad payload signs different.
    let ended = c.end_payload.ensures.making alg aad payload (rw c.take.ensures.value signs) in
    let asked = to_sign c.in-Some-Signature.is c.in-Some-Signature.field-0-is alg aad payload ended in
    c.write_signature-made.ensures.wrong (rw asked.1.algorithm different)
