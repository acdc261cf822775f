use Rattle.std.proofs.Common.{◌∙◌, ap, sym, Ok}
use Rattle.cose_map.proofs.lemmas.Map.Again.{bucket_again, none_again}
use Rattle.cose_map.proofs.bucket.Bucket.again.Goals.{then-is_empty, else-is_empty+in_ok-read}
use Rattle.cose_map.proofs.bucket.Bucket.again.Goals as goal

pub returns-clause-good : goal.returns-clause-good
returns-clause-good c = λ pairs e. elim c.if-is_empty.branch [
  | then-is_empty w ↦ ap Ok (c.of.ensures ∙ none_again c.args.depth (record { bytes = c.args.bytes.now; place = c.args.at }) pairs _ (sym c.is_empty.ensures ∙ w.if-is_empty.true) (rw w.items-is w.none-items.ensures) e)
  | else-is_empty+in_ok-read w ↦ ap Ok (c.of.ensures ∙ bucket_again c.args.depth (record { bytes = c.args.bytes.now; place = c.args.at }) pairs _ _ (sym c.is_empty.ensures ∙ w.if-is_empty.false) (rw w.items-is w.of-items.ensures) w.in_ok-read.ensures.exact e)
]
