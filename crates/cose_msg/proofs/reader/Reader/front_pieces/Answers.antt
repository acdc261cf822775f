use Rattle.std.proofs.Common.{◌≡◌, cond, [], length, Some, sym, refl, ap, ◌∙◌}
use Rattle.std.specs.Prelude.{◌==◌, option_map}
use Rattle.std.specs.List.{concat}
use Rattle.cose_map.specs.Bucket.View.{bucket_pairs}
use Rattle.cose_msg.specs.FrontPieces.{pieces_of}
use Rattle.cose_msg.specs.Shown.{protected_by}
use Rattle.cose_msg.proofs.lemmas.Deciding.Frames.{front_is}
use Rattle.cose_msg.proofs.lemmas.Fronts.{short_context}
use Rattle.cose_msg.proofs.reader.Reader.front_pieces.Goals as goal

pub returns-in-Some-protected-clause-front : goal.returns-in-Some-protected-clause-front
returns-in-Some-protected-clause-front g c = λ task B n reading h away.
    let shown : Some (bucket_pairs c.in-Some-protected.bucket) ≡ protected_by c.args.self.now = ap (option_map bucket_pairs) (sym c.in-Some-protected.is) ∙ c.protected.ensures in
    let content : c.empty_if-protected.result.now ≡ cond (length (bucket_pairs c.in-Some-protected.bucket) == 0) [] c.args.self.now.protected.items = c.empty_if-protected.ensures ∙ rw (c.is_empty.ensures, c.as_slice.ensures.value) refl in
    front_is c.in-Some.frame (sym c.frame.ensures ∙ c.in-Some.is) h away (concat (pieces_of c.new.result)) c.empty_if-protected.result.now (bucket_pairs c.in-Some-protected.bucket) c.new.ensures.completes shown content

pub returns-in-Some-protected-clause-context : goal.returns-in-Some-protected-clause-context
returns-in-Some-protected-clause-context g c = rw c.new.ensures.context (short_context c.in-Some.frame.kind)
