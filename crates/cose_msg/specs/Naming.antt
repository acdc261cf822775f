-- What a message names (RFC 9052 section 3.1): its key, by the key identifier, and its algorithm.
use Rattle.std.specs.Prelude.{◌≡◌, ℕ, Bool, ◌||◌, List, [], Option, Some, None, option_and_then, is_some}
use Rattle.std.specs.List.{slice_get}
use Rattle.cose_head.specs.declared.kind.Kind.{Kind}
use Rattle.cose_map.specs.Bucket.{alg_of, kid_of}
use Rattle.cose_map.specs.Choice.{Question}
use Rattle.cose_map.specs.Choice.Place.{place_of}
use Rattle.cose_map.specs.Map.Pairs.{Pair}
use Rattle.cose_msg.specs.Answer.{Chosen, Whole}
use Rattle.cose_msg.specs.Grammar.{IsMessage}
use Rattle.cose_msg.specs.Message.{Setting, question_of, uncompared}
use Rattle.cose_msg.specs.Phases.{headers_of}

-- A bucket that wasn't found good has neither.
abbrev pub has_kid : Option (List Pair) → Bool
has_kid bucket = is_some (option_and_then kid_of bucket)

abbrev pub has_alg : Option (List Pair) → Bool
has_alg bucket = is_some (option_and_then alg_of bucket)

-- The key identifier is in either bucket.
abbrev pub names_key : Option (List Pair) → Option (List Pair) → Bool
names_key protected unprotected = has_kid protected || has_kid unprotected

-- What a message of this kind asks of its key (section 7.1), where both buckets were found good.
abbrev pub asked_by : Kind → Option (List Pair) → Option (List Pair) → Option Question
asked_by kind (Some protected) (Some unprotected) = Some (question_of (headers_of kind [] protected unprotected))
asked_by kind _ _ = None

-- Of a message that is whole, what its buckets ask for is the key that was chosen: it is the usable key at the place that is
-- given.
abbrev pub ChosenStandsThere : Type 0
ChosenStandsThere = (room nesting : ℕ) (setting : Setting) (bytes : List ℕ) (whole : Whole) (found : Chosen) →
    IsMessage (uncompared room nesting setting) bytes whole → whole.chosen ≡ Some found →
    option_and_then (λ q. option_and_then (slice_get setting.keys) (place_of q setting.keys))
    (asked_by whole.headers.kind (Some whole.headers.protected_pairs) (Some whole.headers.unprotected_pairs)) ≡ Some found.key
