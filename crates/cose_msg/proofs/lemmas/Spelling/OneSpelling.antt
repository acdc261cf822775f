-- Bytes are at most one array of four in its tags.
use Rattle.std.proofs.Common.{◌≡◌, ℕ, List, [], refl}
use Rattle.cose_head.specs.declared.kind.Kind.{Kind}
use Rattle.cose_head.specs.Item.{Item, Items, array, Spells}
use Rattle.cose_head.specs.Laws.{OneItem}
use Rattle.cose_msg.specs.Grammar.{SpellsMessage, bare, in_tag, in_cwt_tag}
use Rattle.cose_msg.specs.GrammarLaws.{OneArrayOfFour}

same_item : OneItem → (bytes : List ℕ) (tree other : Item) → Spells bytes tree → Spells bytes other → tree ≡ other
same_item law bytes tree other one two = (law bytes bytes [] [] tree other one two refl).1

-- Arrays that are spelled by the same bytes, each perhaps in tags.
same_array : OneItem → (bytes : List ℕ) (kind other : Kind) (items others : Items) → SpellsMessage bytes kind (array items) → SpellsMessage bytes other (array others) → array items ≡ array others
same_array law bytes kind other items others (bare one) (bare two) = same_item law bytes (array items) (array others) one two
same_array law bytes kind other items others (bare one) (in_tag two) = absurd (let same = same_item law bytes _ _ one two in cc)
same_array law bytes kind other items others (bare one) (in_cwt_tag two) = absurd (let same = same_item law bytes _ _ one two in cc)
same_array law bytes kind other items others (in_tag one) (bare two) = absurd (let same = same_item law bytes _ _ one two in cc)
same_array law bytes kind other items others (in_tag one) (in_tag two) = let same = same_item law bytes _ _ one two in cc
same_array law bytes kind other items others (in_tag one) (in_cwt_tag two) = absurd (let same = same_item law bytes _ _ one two in cc)
same_array law bytes kind other items others (in_cwt_tag one) (bare two) = absurd (let same = same_item law bytes _ _ one two in cc)
same_array law bytes kind other items others (in_cwt_tag one) (in_tag two) = absurd (let same = same_item law bytes _ _ one two in cc)
same_array law bytes kind other items others (in_cwt_tag one) (in_cwt_tag two) = let same = same_item law bytes _ _ one two in cc

pub one_array_of_four : OneItem → OneArrayOfFour
one_array_of_four law bytes kind other protected auth other_protected other_auth bucket payload other_bucket other_payload one two = same_array law bytes kind other _ _ one two
