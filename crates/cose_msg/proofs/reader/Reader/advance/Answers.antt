use Rattle.std.proofs.Common.{◌≡◌, ◌≤◌, length, take, true, false, sym, subst, ◌∙◌, arith}
use Rattle.std.proofs.lemmas.Grind.{common_steps}
use Rattle.cose_msg.specs.declared.phase.Phase.{Phase}
use Rattle.cose_msg.specs.Phase.{takes_bytes, want_of}
use Rattle.cose_msg.proofs.lemmas.Deciding.PhaseCases.{takes_byte}
use Rattle.cose_msg.proofs.lemmas.Reader.PhaseSteps.{first_byte, grown_by_byte}
use Rattle.cose_msg.proofs.reader.Reader.advance.Goals as goal

pub returns-in-Protected-clause-reads_on : goal.returns-in-Protected-clause-reads_on
returns-in-Protected-clause-reads_on g c = λ task B n reading among away st h.
    rw (c.in-Protected.is, ← c.front_of-part.ensures.front) (c.protected_piece.ensures.reads_on task B n reading h)

pub returns-in-Unprotected-clause-reads_on : goal.returns-in-Unprotected-clause-reads_on
returns-in-Unprotected-clause-reads_on g c = λ task B n reading among away st h.
    rw (c.in-Unprotected.is, ← c.front_of-part-in-Unprotected.ensures.front) (c.unprotected_piece.ensures.reads_on task B n reading among away h)

pub returns-in-Payload-clause-reads_on : goal.returns-in-Payload-clause-reads_on
returns-in-Payload-clause-reads_on g c = λ task B n reading among away st h.
    rw (c.in-Payload.is, ← c.front_of-part-in-Payload.ensures.front) (c.payload.ensures.reads_on task B n reading h)

pub returns-in-Auth-clause-reads_on : goal.returns-in-Auth-clause-reads_on
returns-in-Auth-clause-reads_on g c = λ task B n reading among away st h.
    rw (c.in-Auth.is, ← c.front_of-part-in-Auth.ensures.front) (c.auth.ensures.reads_on task B n reading h)

pub returns-in_default-2-clause-reads_on : goal.returns-in_default-2-clause-reads_on
returns-in_default-2-clause-reads_on g c = λ task B n reading among away st h.
    let byte : takes_bytes c.args.self.now.phase ≡ true = takes_byte c.args.self.now.phase c.in_default-2.not-Protected c.in_default-2.not-Unprotected c.in_default-2.not-Payload c.in_default-2.not-Auth (sym c.is_settled.ensures ∙ c.if-is_settled.false) in
    rw (grown_by_byte c.args.self.now.phase B (take 1 c.args.piece.now) byte, first_byte c.args.piece.now c.requires.some) (c.take_byte.ensures task B n reading st h)

pub bounds-piece-0 : goal.bounds-piece-0
bounds-piece-0 g c = grind (arith, common_steps)

pub returns-in-Protected-clause-fits : goal.returns-in-Protected-clause-fits
returns-in-Protected-clause-fits g c = grind (arith, common_steps)

pub returns-in-Protected-clause-uses : goal.returns-in-Protected-clause-uses
returns-in-Protected-clause-uses g c = grind (arith, common_steps)

pub returns-in-Protected-clause-whole : goal.returns-in-Protected-clause-whole
returns-in-Protected-clause-whole g c = λ le.
    let all : length c.front_of-part.result.now ≡ length c.args.piece.now = c.front_of-part.ensures.all (subst (λ (p : Phase). length c.args.piece.now ≤ want_of p) c.in-Protected.is le) in
    cc

pub returns-in-Unprotected-clause-fits : goal.returns-in-Unprotected-clause-fits
returns-in-Unprotected-clause-fits g c = grind (arith, common_steps)

pub returns-in-Unprotected-clause-uses : goal.returns-in-Unprotected-clause-uses
returns-in-Unprotected-clause-uses g c = grind (arith, common_steps)

pub returns-in-Unprotected-clause-whole : goal.returns-in-Unprotected-clause-whole
returns-in-Unprotected-clause-whole g c = λ le.
    let all : length c.front_of-part-in-Unprotected.result.now ≡ length c.args.piece.now = c.front_of-part-in-Unprotected.ensures.all (subst (λ (p : Phase). length c.args.piece.now ≤ want_of p) c.in-Unprotected.is le) in
    cc

pub returns-in-Payload-clause-fits : goal.returns-in-Payload-clause-fits
returns-in-Payload-clause-fits g c = grind (arith, common_steps)

pub returns-in-Payload-clause-uses : goal.returns-in-Payload-clause-uses
returns-in-Payload-clause-uses g c = grind (arith, common_steps)

pub returns-in-Payload-clause-whole : goal.returns-in-Payload-clause-whole
returns-in-Payload-clause-whole g c = λ le.
    let all : length c.front_of-part-in-Payload.result.now ≡ length c.args.piece.now = c.front_of-part-in-Payload.ensures.all (subst (λ (p : Phase). length c.args.piece.now ≤ want_of p) c.in-Payload.is le) in
    cc

pub returns-in-Auth-clause-fits : goal.returns-in-Auth-clause-fits
returns-in-Auth-clause-fits g c = grind (arith, common_steps)

pub returns-in-Auth-clause-uses : goal.returns-in-Auth-clause-uses
returns-in-Auth-clause-uses g c = grind (arith, common_steps)

pub returns-in-Auth-clause-whole : goal.returns-in-Auth-clause-whole
returns-in-Auth-clause-whole g c = λ le.
    let all : length c.front_of-part-in-Auth.result.now ≡ length c.args.piece.now = c.front_of-part-in-Auth.ensures.all (subst (λ (p : Phase). length c.args.piece.now ≤ want_of p) c.in-Auth.is le) in
    cc

pub returns-in_default-clause-uses : goal.returns-in_default-clause-uses
returns-in_default-clause-uses g c = λ unsettled. absurd (let settled = sym c.is_settled.ensures ∙ c.if-is_settled.true in let clash : true ≡ false = sym settled ∙ unsettled in cc)
