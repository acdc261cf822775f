-- The order of labels on the example of RFC 8949 section 4.2.1: 10, 100, -1, "z", "aa".
use Rattle.std.proofs.Common.{◌≡◌, pos, negsuc, true, false, [], ◌∷◌, refl}
use Rattle.cose_map.specs.Label.{number, words}
use Rattle.cose_map.specs.Label.Order.{precedes}

numbers : precedes (number (pos 10)) (number (pos 100)) ≡ true
numbers = refl

number_and_negative : precedes (number (pos 100)) (number (negsuc 0)) ≡ true
number_and_negative = refl

negative_and_text : precedes (number (negsuc 0)) (words (0x7a ∷ [])) ≡ true
negative_and_text = refl

shorter_text : precedes (words (0x7a ∷ [])) (words (0x61 ∷ 0x61 ∷ [])) ≡ true
shorter_text = refl

-- Of the same kind: -1 (20) and -2 (21), "a" (61 61) and "b" (61 62), and no label precedes itself.
negatives : precedes (number (negsuc 0)) (number (negsuc 1)) ≡ true
negatives = refl

texts : precedes (words (0x61 ∷ [])) (words (0x62 ∷ [])) ≡ true
texts = refl

texts_back : precedes (words (0x62 ∷ [])) (words (0x61 ∷ [])) ≡ false
texts_back = refl

itself : precedes (words (0x61 ∷ [])) (words (0x61 ∷ [])) ≡ false
itself = refl
