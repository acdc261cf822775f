-- The label of an item, by what the item is.
pub mod Bytes
pub mod Order
use Rattle.std.proofs.Common.{◌≡◌, ℕ, ℤ, Bool, true, false, List, Option, Some, None, refl}
use Rattle.std.specs.Prelude.{if◌then◌else◌}
use Rattle.std.specs.Str.{is_utf8}
use Rattle.cose_head.specs.Placed.{Look, integer, byte_content, text_content, an_array, a_map, a_tag, truth, a_float, other, integer_in, text_in}
use Rattle.cose_map.specs.Label.{LabelValue, number, words, label_like}

pub integer_label : (l : Look) (z : ℤ) → Some z ≡ integer_in l → label_like l ≡ Some (number z)
integer_label (integer y) z e = let same : z ≡ y = cc in rw same refl
integer_label (byte_content content) z e = cc
integer_label (text_content content) z e = cc
integer_label an_array z e = cc
integer_label a_map z e = cc
integer_label (a_tag n) z e = cc
integer_label (truth b) z e = cc
integer_label a_float z e = cc
integer_label other z e = cc

utf8_words : (b : Bool) (content text : List ℕ) → Some text ≡ (if b then Some content else None) → (if b then Some (words content) else None) ≡ Some (words text)
utf8_words true content text e = let same : text ≡ content = cc in rw same refl
utf8_words false content text e = cc

no_words : (b : Bool) (content : List ℕ) → ◌≡◌ {A = Option (List ℕ)} None (if b then Some content else None) → ◌≡◌ {A = Option LabelValue} (if b then Some (words content) else None) None
no_words true content e = cc
no_words false content e = refl

pub text_label : (l : Look) (text : List ℕ) → Some text ≡ text_in l → label_like l ≡ Some (words text)
text_label (integer y) text e = cc
text_label (byte_content content) text e = cc
text_label (text_content content) text e = utf8_words (is_utf8 content) content text e
text_label an_array text e = cc
text_label a_map text e = cc
text_label (a_tag n) text e = cc
text_label (truth b) text e = cc
text_label a_float text e = cc
text_label other text e = cc

pub no_label : (l : Look) → None ≡ integer_in l → None ≡ text_in l → label_like l ≡ None
no_label (integer y) p q = cc
no_label (byte_content content) p q = refl
no_label (text_content content) p q = no_words (is_utf8 content) content q
no_label an_array p q = refl
no_label a_map p q = refl
no_label (a_tag n) p q = refl
no_label (truth b) p q = refl
no_label a_float p q = refl
no_label other p q = refl
