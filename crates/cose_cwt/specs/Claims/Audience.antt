-- The text strings that an iterator over an audience still gives.
use Rattle.std.specs.Prelude.{ℕ, List, [], ◌∷◌}
use Rattle.std.specs.Borrow.{Bor}
use Rattle.cose_head.specs.Items.{items_left}
use Rattle.cose_cwt.specs.declared.claims.audience.Auds.{Auds}
use Rattle.cose_cwt.specs.declared.claims.audience.Texts.{Texts}
use Rattle.cose_cwt.specs.declared.claims.audience.Texts.TheVariants.{Nothing, One, Several}
use Rattle.cose_cwt.specs.Claims.{texts_from}

abbrev pub text_value : Bor (List ℕ) → List ℕ
text_value text = text.now

abbrev pub left_of : Texts → List (List ℕ)
left_of Nothing = []
left_of (One text) = text.now ∷ []
left_of (Several items) = texts_from (items_left items)

abbrev pub texts_left : Auds → List (List ℕ)
texts_left auds = left_of auds.texts
