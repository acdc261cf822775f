-- The tags of a message, and the head of its array (RFC 9052 section 2, RFC 8392 section 6), the last first.
use Rattle.std.specs.Prelude.{ℕ, Bool, true, false, Option, Some, None, Result, Ok, Err, ◌==◌, ◌&&◌, ◌||◌, if◌then◌else◌}
use Rattle.cose_head.specs.declared.head.Head.{Head}
use Rattle.cose_head.specs.declared.kind.Kind.{Kind}
use Rattle.cose_head.specs.declared.kind.Kind.TheVariants as kinds
use Rattle.cose_head.specs.declared.reason.Reason.{Reason}
use Rattle.cose_head.specs.declared.reason.Reason.TheVariants.{WrongTag, Encrypted, SeveralParties, NotFour, WrongType, CwtTagAlone}
use Rattle.cose_msg.specs.declared.context.Wanted.{Wanted}
use Rattle.cose_msg.specs.declared.context.Wanted.TheVariants as wants
use Rattle.cose_msg.specs.Phases.{nothing_so_far, protected_head}
use Rattle.cose_msg.specs.Reading.{Phase, Next, stop, with_head, unless_fault}
use Rattle.cose_msg.specs.Rules.{Rules}

abbrev pub is_tag : Head → Bool
is_tag head = head.major == 6

abbrev pub is_array : Head → Bool
is_array head = head.major == 4

-- The array of a message has four elements (RFC 9052 sections 4.2 and 6.2).
abbrev pub array_head_fault : Head → Option Reason
array_head_fault head = if is_array head then (if head.arg == 4 then None else Some NotFour) else Some WrongType

abbrev pub past_array_head : Rules → Kind → Next Head
past_array_head rules kind at head = unless_fault nothing_so_far at (array_head_fault head) (protected_head rules kind)

abbrev pub array_head : Rules → Kind → Phase
array_head rules kind = with_head nothing_so_far (past_array_head rules kind)

-- The kind that is wanted under a tag: any, where tagged messages are wanted, or one.
abbrev pub wants_kind : Wanted → Kind → Bool
wants_kind wants.Mac0 kinds.Mac0 = true
wants_kind wants.Mac0 kinds.Sign1 = false
wants_kind wants.Sign1 kinds.Mac0 = false
wants_kind wants.Sign1 kinds.Sign1 = true
wants_kind wants.Tagged kind = true

abbrev pub wanted_kind : Wanted → Kind → Result Kind Reason
wanted_kind wanted kind = if wants_kind wanted kind then Ok kind else Err WrongTag

-- The tags of RFC 9052 section 2, table 1: 17 is COSE_Mac0, 18 COSE_Sign1, 16 COSE_Encrypt0, 96 COSE_Encrypt, 97 COSE_Mac
-- and 98 COSE_Sign.
abbrev pub kind_of_tag : Wanted → ℕ → Result Kind Reason
kind_of_tag wanted number =
    if number == 17 then wanted_kind wanted kinds.Mac0 else
    if number == 18 then wanted_kind wanted kinds.Sign1 else
    if number == 16 || number == 96 then Err Encrypted else
    if number == 97 || number == 98 then Err SeveralParties else Err WrongTag

abbrev pub past_tag : Rules → ℕ → Result Kind Reason → Phase
past_tag rules at (Ok kind) place bytes = array_head rules kind place bytes
past_tag rules at (Err reason) place bytes = stop nothing_so_far reason at

-- After the tag of a CWT, 61, comes a COSE tag (RFC 8392 section 6).
abbrev pub tag_after_cwt : Wanted → Head → Result Kind Reason
tag_after_cwt wanted head = if is_tag head then kind_of_tag wanted head.arg else Err CwtTagAlone

abbrev pub past_second_head : Rules → Next Head
past_second_head rules at head = past_tag rules at (tag_after_cwt rules.wanted head)

abbrev pub second_head : Rules → Phase
second_head rules = with_head nothing_so_far (past_second_head rules)

-- An array without a tag is of the one kind that is wanted.
abbrev pub past_untagged : Rules → Wanted → Next Head
past_untagged rules wants.Mac0 at head place bytes = past_array_head rules kinds.Mac0 at head place bytes
past_untagged rules wants.Sign1 at head place bytes = past_array_head rules kinds.Sign1 at head place bytes
past_untagged rules wants.Tagged at head place bytes = stop nothing_so_far WrongTag at

-- The first head is a tag or the array. The CWT tag counts where one is admitted.
abbrev pub is_cwt_tag : Bool → Head → Bool
is_cwt_tag admitted head = admitted && (is_tag head && head.arg == 61)

abbrev pub past_first_head : Rules → Next Head
past_first_head rules at head place bytes =
    if is_cwt_tag rules.cwt head then second_head rules place bytes else
    if is_tag head then past_tag rules at (kind_of_tag rules.wanted head.arg) place bytes else
    if is_array head then past_untagged rules rules.wanted at head place bytes else stop nothing_so_far WrongType at

abbrev pub first_head : Rules → Phase
first_head rules = with_head nothing_so_far (past_first_head rules)
