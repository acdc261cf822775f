use Rattle.std.proofs.Common.{◌≡◌, ◌≤◌, ℕ, List, length, take, sym, ap, ◌∙◌, arith}
use Rattle.std.proofs.Math.Seq.{take-length}
use Rattle.cose_head.specs.Walker.{HasPut}
use Rattle.cose_msg.specs.Reading.{wanted_after}
use Rattle.cose_msg.proofs.lemmas.Reader.PhaseSteps.{one_wanted, piece_of_string, single}
use Rattle.cose_msg.proofs.reader.headers.walk_on.Goals as goal

pub returns-then-pass-eq0-clause-put : goal.returns-then-pass-eq0-clause-put
returns-then-pass-eq0-clause-put g c = λ room bytes put fits going.
    let none = c.pass.ensures.none c.if-pass-eq0.true in
    let short : length c.args.piece.now ≤ 1 = one_wanted _ _ (sym (c.pass.ensures.used room bytes put) ∙ c.if-pass-eq0.true) c.requires.some fits in
    rw (← single c.args.piece.now c.requires.some short) (c.put.ensures.put room bytes (rw none put) going)

pub returns-then-pass-eq0-clause-among : goal.returns-then-pass-eq0-clause-among
returns-then-pass-eq0-clause-among g c = λ room bytes put fits.
    let none = c.pass.ensures.none c.if-pass-eq0.true in
    let short : length c.args.piece.now ≤ 1 = one_wanted _ _ (sym (c.pass.ensures.used room bytes put) ∙ c.if-pass-eq0.true) c.requires.some fits in
    rw (← single c.args.piece.now c.requires.some short) (c.put.ensures.among room bytes (rw none put))

-- The whole piece is of the open string.
all_of_it : (g : Rattle.cose_msg.proofs.reader.headers.walk_on.Given.Over) (c : goal.After-step g) (room : ℕ) (bytes : List ℕ) → HasPut room bytes c.args.walker.now → length c.args.piece.now ≤ wanted_after room g.row.D bytes → take c.pass.result c.args.piece.now ≡ c.args.piece.now
all_of_it g c room bytes put fits =
    let used = c.pass.ensures.used room bytes put in
    let all = used ∙ piece_of_string _ _ (λ none. c.if-pass-eq0.false (used ∙ none)) fits in
    ap (λ (n : ℕ). take n c.args.piece.now) all ∙ take-length c.args.piece.now

pub returns-clause-answer : goal.returns-clause-answer
returns-clause-answer g c = λ room bytes put fits. rw (← all_of_it g c room bytes put fits, c.step.ensures) (c.pass.ensures.answer room bytes put (omega (arith, c.if-pass-eq0.false)))

pub returns-clause-put : goal.returns-clause-put
returns-clause-put g c = λ room bytes put fits going. rw (← all_of_it g c room bytes put fits) (c.pass.ensures.put room bytes put (sym c.step.ensures ∙ going))

pub returns-clause-among : goal.returns-clause-among
returns-clause-among g c = λ room bytes put fits. rw (← all_of_it g c room bytes put fits, c.step.ensures) (c.pass.ensures.among room bytes put (omega (arith, c.if-pass-eq0.false)))
