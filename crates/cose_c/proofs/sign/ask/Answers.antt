use Rattle.std.proofs.Common.{◌∙◌}
use Rattle.cose_c.proofs.Signers.{makes_none, to_sign}
use Rattle.cose_c.proofs.sign.ask.Goals as goal

pub returns-in-Some-Signature-clause-made : goal.returns-in-Some-Signature-clause-made
returns-in-Some-Signature-clause-made c = λ alg aad payload signs is_whole.
    let ended = c.end_payload.ensures.making alg aad payload (rw c.take.ensures.value signs) in
    let asked = to_sign c.in-Some-Signature.is c.in-Some-Signature.field-0-is alg aad payload ended in
    c.write_digest.ensures.made is_whole ∙ asked.1.digest

pub returns-in-Some-Signature-clause-making : goal.returns-in-Some-Signature-clause-making
returns-in-Some-Signature-clause-making c = λ alg aad payload signs.
    let ended = c.end_payload.ensures.making alg aad payload (rw c.take.ensures.value signs) in
    to_sign c.in-Some-Signature.is c.in-Some-Signature.field-0-is alg aad payload ended

pub returns-in-Some-Signature-clause-asks : goal.returns-in-Some-Signature-clause-asks
returns-in-Some-Signature-clause-asks c = λ alg aad payload signs room.
    let ended = c.end_payload.ensures.making alg aad payload (rw c.take.ensures.value signs) in
    let asked = to_sign c.in-Some-Signature.is c.in-Some-Signature.field-0-is alg aad payload ended in
    c.write_digest.ensures.asks (rw asked.1.digest room)

pub returns-in-None-clause-making : goal.returns-in-None-clause-making
returns-in-None-clause-making c = λ alg aad payload signs. c.end_payload.ensures.making alg aad payload (rw c.take.ensures.value signs)

pub returns-in-None-clause-asks : goal.returns-in-None-clause-asks
returns-in-None-clause-asks c = λ alg aad payload signs room.
    let ended = c.end_payload.ensures.making alg aad payload (rw c.take.ensures.value signs) in
    absurd (makes_none c.in-None.is alg aad payload ended)
