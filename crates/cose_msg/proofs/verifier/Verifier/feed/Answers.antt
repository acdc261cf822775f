use Rattle.std.proofs.Common.{rules, ◌≡◌, ◌-◌, ◌<◌, ℕ, true, false, List, ◌++◌, length, take, refl, sym, ap, subst, ◌∙◌, arith}
use Rattle.std.proofs.lemmas.Bool.{true≢false}
use Rattle.std.proofs.lemmas.List.{length-take-le}
use Rattle.std.proofs.Math.Seq.{take-length}
use Rattle.cose_msg.specs.declared.verifier.Verifier.{Verifier}
use Rattle.cose_msg.specs.Kept.{HasTaken}
use Rattle.cose_msg.specs.Reading.{Reading}
use Rattle.cose_msg.specs.Status.{is_more, status_in, status_of_reading}
use Rattle.cose_msg.specs.declared.status.Status.TheVariants.{More}
use Rattle.cose_msg.specs.Task.{Task}
use Rattle.cose_msg.proofs.lemmas.Deciding.PhaseCases.{payload_is_more}
use Rattle.cose_msg.proofs.lemmas.Feeding.Feeds.{shows_now}
use Rattle.cose_msg.proofs.lemmas.Feeding.Statuses.{status_going}
use Rattle.cose_msg.proofs.lemmas.Run.Runs.{without_more}
use Rattle.cose_msg.proofs.verifier.Verifier.feed.Goals as goal

all_of : (piece : List ℕ) → take (length piece - 0) piece ≡ piece
all_of piece = let all : length piece - 0 ≡ length piece = omega arith in ap (λ (n : ℕ). take n piece) all ∙ take-length piece

fewer_of : (n most : ℕ) (piece : List ℕ) → n < length piece → length piece < most → length (take n piece) < most
fewer_of n most piece lt fewer = omega (arith, length-take-le n piece (omega (arith, lt)), lt, fewer)

took_all : {H D : ℕ} {S : Type 0} {K : _} {task : Task} (s B : List ℕ) (v : Verifier H D S K) (piece : List ℕ) → HasTaken task (s ++ piece) (B ++ piece) v → HasTaken task (s ++ take (length piece) piece) (B ++ take (length piece - 0) piece) v
took_all {H} {D} {S} {K} {task} s B v piece h =
    let grown : HasTaken task (s ++ piece) (B ++ take (length piece - 0) piece) v = subst (λ (t : List ℕ). HasTaken task (s ++ piece) (B ++ t) v) (sym (all_of piece)) h in
    subst (λ (t : List ℕ). HasTaken task (s ++ t) (B ++ take (length piece - 0) piece) v) (sym (take-length piece)) grown

pub take_payload_part-requires : goal.take_payload_part-requires
take_payload_part-requires g c κs =
    let more = c.if-has_more_payload_than.true in
    (search rules, ((refl, tt), (c.has_more_payload_than.ensures.some more, (c.has_more_payload_than.ensures.fewer more, (c.has_more_payload_than.ensures.inside more, c.has_more_payload_than.ensures.early more)))))

pub returns-then-has_more_payload_than-clause-uses : goal.returns-then-has_more_payload_than-clause-uses
returns-then-has_more_payload_than-clause-uses g c = λ task s B h. record {
  within = omega arith;
  none_earlier = λ n lt. c.lemma_reading_so_far.ensures.open task B _ _ (take n c.args.piece.now) h.so_far (fewer_of n _ c.args.piece.now lt (c.has_more_payload_than.ensures.fewer c.if-has_more_payload_than.true));
  all = λ _. refl;
}

pub returns-then-has_more_payload_than-clause-taken : goal.returns-then-has_more_payload_than-clause-taken
returns-then-has_more_payload_than-clause-taken g c = λ task s B h. took_all s B c.take_payload_part.new.self c.args.piece.now (c.take_payload_part.ensures.taken task s B h)

pub returns-then-has_more_payload_than-clause-status : goal.returns-then-has_more_payload_than-clause-status
returns-then-has_more_payload_than-clause-status g c = λ task s B h.
    let now = took_all s B c.take_payload_part.new.self c.args.piece.now (c.take_payload_part.ensures.taken task s B h) in
    sym (payload_is_more c.take_payload_part.new.self.reader.phase c.take_payload_part.ensures.inside) ∙ c.lemma_reading_so_far-then-has_more_payload_than.ensures.status task _ _ _ now.so_far now.came ∙ ap status_of_reading (without_more g.row.H g.row.D task _)

pub returns-then-has_more_payload_than-clause-attached : goal.returns-then-has_more_payload_than-clause-attached
returns-then-has_more_payload_than-clause-attached g c = λ task s B h is e. cc

pub returns-then-has_more_payload_than-clause-payload : goal.returns-then-has_more_payload_than-clause-payload
returns-then-has_more_payload_than-clause-payload g c = λ task s B h.
    let now = took_all s B c.take_payload_part.new.self c.args.piece.now (c.take_payload_part.ensures.taken task s B h) in
    let payload : Reading → List ℕ = λ reading. reading.so_far.payload in
    let after = sym (ap payload (without_more g.row.H g.row.D task _)) ∙ c.lemma_reading_so_far-then-has_more_payload_than.ensures.payload task _ _ _ now.so_far now.came in
    let before = sym (c.lemma_reading_so_far.ensures.payload task B _ _ h.so_far h.came) ∙ ap payload (without_more g.row.H g.row.D task s) in
    after ∙ ap (λ (t : List ℕ). t ++ take (length c.args.piece.now - 0) c.args.piece.now) before

pub returns-then-has_more_payload_than-clause-shows : goal.returns-then-has_more_payload_than-clause-shows
returns-then-has_more_payload_than-clause-shows g c = λ task s B h.
    let now = took_all s B c.take_payload_part.new.self c.args.piece.now (c.take_payload_part.ensures.taken task s B h) in
    shows_now task _ c.take_payload_part.new.self (c.lemma_reading_so_far-then-has_more_payload_than.ensures.shows task _ _ _ now.so_far now.came)

pub returns-then-has_more_payload_than-clause-fits : goal.returns-then-has_more_payload_than-clause-fits
returns-then-has_more_payload_than-clause-fits g c = omega arith

pub returns-then-has_more_payload_than-clause-ordered : goal.returns-then-has_more_payload_than-clause-ordered
returns-then-has_more_payload_than-clause-ordered g c = omega arith

pub returns-then-has_more_payload_than-clause-among : goal.returns-then-has_more_payload_than-clause-among
returns-then-has_more_payload_than-clause-among g c = omega arith

pub returns-then-has_more_payload_than-clause-none : goal.returns-then-has_more_payload_than-clause-none
returns-then-has_more_payload_than-clause-none g c = λ e. sym e

pub returns-then-has_more_payload_than-clause-current : goal.returns-then-has_more_payload_than-clause-current
returns-then-has_more_payload_than-clause-current g c = sym (status_going c.take_payload_part.new.self More (c.take_payload_part.ensures.marked ∙ c.has_more_payload_than.ensures.goes_on c.if-has_more_payload_than.true) (payload_is_more c.take_payload_part.new.self.reader.phase c.take_payload_part.ensures.inside))

pub returns-then-has_more_payload_than-clause-counted : goal.returns-then-has_more_payload_than-clause-counted
returns-then-has_more_payload_than-clause-counted g c = c.take_payload_part.ensures.counted

pub returns-then-has_more_payload_than-clause-again : goal.returns-then-has_more_payload_than-clause-again
returns-then-has_more_payload_than-clause-again g c = λ none.
    let more : status_in c.args.self.now ≡ More = status_going c.args.self.now More (c.has_more_payload_than.ensures.goes_on c.if-has_more_payload_than.true) (payload_is_more c.args.self.now.reader.phase (c.has_more_payload_than.ensures.inside c.if-has_more_payload_than.true)) in
    absurd (true≢false (sym (ap is_more more) ∙ none))

pub returns-then-has_more_payload_than-clause-purpose : goal.returns-then-has_more_payload_than-clause-purpose
returns-then-has_more_payload_than-clause-purpose g c = c.take_payload_part.ensures.purpose

pub returns-clause-uses : goal.returns-clause-uses
returns-clause-uses g c = c.feed_across.ensures.uses

pub returns-clause-taken : goal.returns-clause-taken
returns-clause-taken g c = c.feed_across.ensures.taken

pub returns-clause-status : goal.returns-clause-status
returns-clause-status g c = c.feed_across.ensures.status

pub returns-clause-attached : goal.returns-clause-attached
returns-clause-attached g c = c.feed_across.ensures.attached

pub returns-clause-payload : goal.returns-clause-payload
returns-clause-payload g c = c.feed_across.ensures.payload

pub returns-clause-shows : goal.returns-clause-shows
returns-clause-shows g c = c.feed_across.ensures.shows

pub returns-clause-fits : goal.returns-clause-fits
returns-clause-fits g c = c.feed_across.ensures.fits

pub returns-clause-ordered : goal.returns-clause-ordered
returns-clause-ordered g c = c.feed_across.ensures.ordered

pub returns-clause-among : goal.returns-clause-among
returns-clause-among g c = c.feed_across.ensures.among

pub returns-clause-none : goal.returns-clause-none
returns-clause-none g c = c.feed_across.ensures.none

pub returns-clause-current : goal.returns-clause-current
returns-clause-current g c = c.feed_across.ensures.current

pub returns-clause-counted : goal.returns-clause-counted
returns-clause-counted g c = c.feed_across.ensures.counted

pub returns-clause-again : goal.returns-clause-again
returns-clause-again g c = c.feed_across.ensures.again

pub returns-clause-purpose : goal.returns-clause-purpose
returns-clause-purpose g c = c.feed_across.ensures.purpose
