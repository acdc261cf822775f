-- The two header buckets of a message that is made: their pairs, and what they ask of the key.
use Rattle.std.proofs.Common.{◌≡◌, ℕ, ◌+◌, ◌^◌, ◌<◌, ◌≤◌, true, false, not, List, [], ◌∷◌, ◌++◌, length, Option, Some, None, refl, ap, ◌∙◌, ◌||◌, arith, length-append, leb, ltb}
use Rattle.std.specs.Prelude.{Bool, Ok, ℤ, pos, negsuc}
use Rattle.std.specs.Result.{is_err}
use Rattle.std.proofs.lemmas.Bool.{leb-true, ltb-true}
use Rattle.cose_head.specs.Algorithm.{algorithm_number, is_mac_of}
use Rattle.cose_head.specs.Head.{shortest_head}
use Rattle.cose_head.specs.Item.{unsigned, byte_string, depth_of}
use Rattle.cose_head.specs.Placed.{look, bytes_in}
use Rattle.cose_head.specs.Shortest.{shortest, shortest_all, HasShortest}
use Rattle.cose_head.specs.declared.algorithm.Alg.{Alg}
use Rattle.cose_head.specs.declared.kind.Kind.{Kind}
use Rattle.cose_head.specs.declared.kind.Kind.TheVariants.{Mac0, Sign1}
use Rattle.cose_head.proofs.lemmas.Algorithms.{each_algorithm}
use Rattle.cose_map.specs.Bucket.{bucket_of}
use Rattle.cose_map.specs.Bucket.Both.{pair_fault, pair_faults}
use Rattle.cose_map.specs.Bucket.Form.{bucket_table}
use Rattle.cose_map.specs.Choice.{chosen}
use Rattle.cose_map.specs.Key.Value.{KeyValue}
use Rattle.cose_map.specs.Label.{LabelValue, number, label_of}
use Rattle.cose_map.specs.Laws.Tree.{label_of_tree}
use Rattle.cose_map.specs.Map.Pairs.{Pair}
use Rattle.cose_msg.specs.Answer.{Headers}
use Rattle.cose_msg.specs.Making.{integer_item, protected_made, unprotected_made}
use Rattle.cose_msg.specs.MakingLaws.{question_asked}
use Rattle.cose_msg.specs.Message.{question_of}
use Rattle.cose_msg.specs.Phases.{placed_at, headers_of}
use Rattle.cose_msg.proofs.lemmas.Made.SpelledItems.{look_spelled}
use Rattle.cose_msg.proofs.lemmas.Made.SpelledBuckets.{ShortestLaws, shortest_label, empty_bucket, pair_at, one_pair_bucket}

-- ---- algorithms by their numbers

abbrev is_short : ℤ → Bool
is_short (pos n) = ltb n (2 ^ 64)
is_short (negsuc n) = ltb n (2 ^ 64)

integer_short : (n : ℤ) → is_short n ≡ true → HasShortest (integer_item n)
unfolding HasShortest
integer_short (pos n) short = ltb-true n (2 ^ 64) short
integer_short (negsuc n) short = ltb-true n (2 ^ 64) short

number_short : (alg : Alg) → HasShortest (integer_item (algorithm_number alg))
number_short alg = integer_short (algorithm_number alg) (each_algorithm (λ a. is_short (algorithm_number a)) refl alg)

-- A key is chosen for a message that is made only where the algorithm is one of the message's kind.
pub chosen_is_mac : (alg : Alg) (kid : Option (List ℕ)) (keys : List KeyValue) (found : KeyValue × ℤ) → chosen (question_asked Mac0 alg kid) keys ≡ Ok found → is_mac_of alg ≡ true
unfolding chosen
chosen_is_mac alg kid keys found e =
    let here : (is_mac_of alg || is_err (chosen (question_asked Mac0 alg kid) keys)) ≡ true = each_algorithm (λ a. is_mac_of a || is_err (chosen (question_asked Mac0 a kid) keys)) refl alg in
    grind (arith, e, here)

pub chosen_is_signing : (alg : Alg) (kid : Option (List ℕ)) (keys : List KeyValue) (found : KeyValue × ℤ) → chosen (question_asked Sign1 alg kid) keys ≡ Ok found → is_mac_of alg ≡ false
unfolding chosen
chosen_is_signing alg kid keys found e =
    let here : (not (is_mac_of alg) || is_err (chosen (question_asked Sign1 alg kid) keys)) ≡ true = each_algorithm (λ a. not (is_mac_of a) || is_err (chosen (question_asked Sign1 a kid) keys)) refl alg in
    grind (arith, e, here)

flat_integer : (n : ℤ) → depth_of (integer_item n) ≡ 0
unfolding depth_of
flat_integer (pos n) = refl
flat_integer (negsuc n) = refl

integer_label : (n : ℤ) → label_of_tree (integer_item n) ≡ Some (number n)
integer_label (pos n) = refl
integer_label (negsuc n) = refl

-- The protected header has three bytes, or four where the algorithm's number takes two.
pub protected_length : (alg : Alg) → length (protected_made alg) ≤ 4
unfolding shortest shortest_all shortest_head
protected_length alg = leb-true (length (protected_made alg)) 4 (each_algorithm (λ a. leb (length (protected_made a)) 4) refl alg)

-- A map that holds the kid has at least as many bytes as the kid.
inside : (front label head kid : List ℕ) → length kid ≤ length (front ++ (label ++ ((head ++ kid) ++ [])))
inside front label head kid = omega (arith, length-append front (label ++ ((head ++ kid) ++ [])), length-append label ((head ++ kid) ++ []), length-append (head ++ kid) [], length-append head kid)

pub kid_length : (kid : List ℕ) → length kid ≤ length (shortest (unprotected_made (Some kid)))
unfolding shortest shortest_all
kid_length kid = inside (shortest_head 5 1) (shortest_head 0 4) (shortest_head 2 (length kid)) kid

-- ---- the buckets

abbrev pub protected_pairs : ℕ → Alg → List Pair
protected_pairs place alg = pair_at (place + 1) (number (pos 1)) (unsigned 1) (integer_item (algorithm_number alg)) ∷ []

abbrev pub unprotected_pairs : ℕ → Option (List ℕ) → List Pair
unprotected_pairs place None = []
unprotected_pairs place (Some kid) = pair_at (place + 1) (number (pos 4)) (unsigned 4) (byte_string kid) ∷ []

abbrev pub headers_made : Kind → Alg → Option (List ℕ) → ℕ → ℕ → Headers
headers_made kind alg kid protected_place unprotected_place = headers_of kind (protected_made alg) (protected_pairs protected_place alg) (unprotected_pairs unprotected_place kid)

-- A kid that has a shortest spelling.
abbrev pub KidIsShort : Option (List ℕ) → Type 0
KidIsShort None = Unit {0}
KidIsShort (Some kid) = length kid < 2 ^ 64

-- The labels of the two buckets differ, and the pair of buckets has no other fault.
pub good_together : (alg : Alg) (kid : Option (List ℕ)) (place other after : ℕ) (understood : List LabelValue) → pair_fault (protected_pairs place alg) (unprotected_pairs other kid) understood after ≡ None
unfolding pair_faults
good_together alg None place other after understood = refl
good_together alg (Some kid) place other after understood = refl

module _ (laws : ShortestLaws) where
  algorithm_label : (place : ℕ) (alg : Alg) → label_of (placed_at place (shortest (integer_item (algorithm_number alg)))) ≡ Some (number (algorithm_number alg))
  algorithm_label place alg = shortest_label laws place (integer_item (algorithm_number alg)) (number_short alg) ∙ integer_label (algorithm_number alg)

  kid_content : (place : ℕ) (kid : List ℕ) → length kid < 2 ^ 64 → bytes_in (look (placed_at place (shortest (byte_string kid)))) ≡ Some kid
  unfolding HasShortest
  kid_content place kid short = ap bytes_in (look_spelled laws.items (placed_at place (shortest (byte_string kid))) (byte_string kid) (laws.shortest (byte_string kid) short))

  algorithm_form : (place : ℕ) (alg : Alg) → bucket_table (number (pos 1)) (placed_at place (shortest (integer_item (algorithm_number alg)))) ≡ None
  unfolding bucket_table
  algorithm_form place alg = rw (algorithm_label place alg) refl

  kid_form : (place : ℕ) (kid : List ℕ) → length kid < 2 ^ 64 → bucket_table (number (pos 4)) (placed_at place (shortest (byte_string kid))) ≡ None
  unfolding bucket_table
  kid_form place kid short = rw (kid_content place kid short) refl

  pub protected_bucket : (depth place : ℕ) (alg : Alg) → 1 ≤ depth → bucket_of depth (placed_at place (protected_made alg)) ≡ Ok (protected_pairs place alg)
  unfolding HasShortest depth_of
  protected_bucket depth place alg nests =
      one_pair_bucket laws depth place (number (pos 1)) (unsigned 1) (integer_item (algorithm_number alg)) nests (omega arith) (number_short alg) refl (flat_integer (algorithm_number alg)) refl (algorithm_form _ alg)

  pub unprotected_bucket : (depth place : ℕ) (kid : Option (List ℕ)) → KidIsShort kid → 1 ≤ depth → bucket_of depth (placed_at place (shortest (unprotected_made kid))) ≡ Ok (unprotected_pairs place kid)
  unfolding HasShortest depth_of
  unprotected_bucket depth place None short nests = empty_bucket laws depth place nests
  unprotected_bucket depth place (Some kid) short nests =
      one_pair_bucket laws depth place (number (pos 4)) (unsigned 4) (byte_string kid) nests (omega arith) short refl refl refl (kid_form _ kid short)

  pub asks : (kind : Kind) (alg : Alg) (kid : Option (List ℕ)) (place other : ℕ) → KidIsShort kid → question_of (headers_made kind alg kid place other) ≡ question_asked kind alg kid
  asks kind alg None place other short = rw (algorithm_label (place + 1 + length (shortest (unsigned 1))) alg) refl
  asks kind alg (Some kid) place other short = rw (algorithm_label (place + 1 + length (shortest (unsigned 1))) alg, kid_content (other + 1 + length (shortest (unsigned 4))) kid short) refl
