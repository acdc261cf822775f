-- The tags and the array of messages, on examples, by computing (RFC 9052 section 2, RFC 8392 section 6).
use Rattle.std.specs.Prelude.{ℕ, List, [], ◌∷◌, false, refl}
use Rattle.cose_head.specs.declared.reason.Reason.TheVariants.{Truncated, Reserved, Indefinite, WrongTag, Encrypted, SeveralParties, NotFour, WrongType, CwtTagAlone}
use Rattle.cose_msg.specs.declared.context.Wanted.{Wanted}
use Rattle.cose_msg.specs.declared.context.Wanted.TheVariants as wants
use Rattle.cose_msg.specs.Answer.{Answer, refused}
use Rattle.cose_msg.proofs.WorkedMessages.{hex, Gives, reading, verdict, verdict_in, under, plain}

-- Where one kind is wanted, and where no CWT tag may precede the message's own.
abbrev wanting : Wanted → List ℕ → Answer
wanting wanted bytes = verdict_in (record (under plain) { wanted = wanted }) bytes

abbrev without_cwt : List ℕ → Answer
without_cwt bytes = verdict_in (record (under plain) { cwt = false }) bytes

-- The first head: a tag of another kind of message, of none, and no tag. Bytes that can't be a head are refused for
-- that first.
first_heads : Gives (verdict plain) (
    (hex "", refused Truncated 0) ∷
    (hex "d8", refused Truncated 1) ∷
    (hex "9c", refused Reserved 0) ∷
    (hex "5f", refused Indefinite 0) ∷
    (hex "d0", refused Encrypted 0) ∷
    (hex "d860", refused Encrypted 0) ∷
    (hex "d861", refused SeveralParties 0) ∷
    (hex "d862", refused SeveralParties 0) ∷
    (hex "cf", refused WrongTag 0) ∷
    (hex "d3", refused WrongTag 0) ∷
    (hex "d83c", refused WrongTag 0) ∷
    (hex "d83e", refused WrongTag 0) ∷
    (hex "d85f", refused WrongTag 0) ∷
    (hex "d863", refused WrongTag 0) ∷
    (hex "d9d9f7", refused WrongTag 0) ∷
    (hex "d90111", refused WrongTag 0) ∷
    (hex "d90112", refused WrongTag 0) ∷
    (hex "d9013d", refused WrongTag 0) ∷
    (hex "da00010011", refused WrongTag 0) ∷
    (hex "00", refused WrongType 0) ∷
    (hex "20", refused WrongType 0) ∷
    (hex "43", refused WrongType 0) ∷
    (hex "60", refused WrongType 0) ∷
    (hex "a4", refused WrongType 0) ∷
    (hex "f6", refused WrongType 0) ∷ [])
unfolding reading
first_heads = refl

-- An array without a tag is of no kind, whatever its count.
untagged : Gives (verdict plain) ((hex "84", refused WrongTag 0) ∷ (hex "83", refused WrongTag 0) ∷ [])
unfolding reading
untagged = refl

-- After a tag comes an array of four: first its type is looked at, then its count.
after_a_tag : Gives (verdict plain) (
    (hex "d1", refused Truncated 1) ∷
    (hex "d2", refused Truncated 1) ∷
    (hex "d811", refused Truncated 2) ∷
    (hex "d184", refused Truncated 2) ∷
    (hex "d183", refused NotFour 1) ∷
    (hex "d185", refused NotFour 1) ∷
    (hex "d1990104", refused NotFour 1) ∷
    (hex "d19bffffffffffffffff", refused NotFour 1) ∷
    (hex "d1a0", refused WrongType 1) ∷
    (hex "d1a4", refused WrongType 1) ∷
    (hex "d1d1", refused WrongType 1) ∷
    (hex "d1d83d", refused WrongType 1) ∷
    (hex "d19c", refused Reserved 1) ∷
    (hex "d19f", refused Indefinite 1) ∷ [])
unfolding reading
after_a_tag = refl

-- Where COSE_Mac0 is wanted, and where COSE_Sign1 is: its own tag, or the array alone. The tags of other kinds are
-- refused as such.
wanting_mac0 : Gives (wanting wants.Mac0) (
    (hex "d1", refused Truncated 1) ∷
    (hex "d2", refused WrongTag 0) ∷
    (hex "d0", refused Encrypted 0) ∷
    (hex "d861", refused SeveralParties 0) ∷
    (hex "84", refused Truncated 1) ∷
    (hex "9804", refused Truncated 2) ∷
    (hex "990104", refused NotFour 0) ∷
    (hex "83", refused NotFour 0) ∷
    (hex "85", refused NotFour 0) ∷
    (hex "04", refused WrongType 0) ∷
    (hex "44", refused WrongType 0) ∷
    (hex "a4", refused WrongType 0) ∷
    (hex "d83dd2", refused WrongTag 2) ∷ [])
unfolding reading
wanting_mac0 = refl

wanting_sign1 : Gives (wanting wants.Sign1) (
    (hex "d2", refused Truncated 1) ∷
    (hex "d1", refused WrongTag 0) ∷
    (hex "d0", refused Encrypted 0) ∷
    (hex "d861", refused SeveralParties 0) ∷
    (hex "84", refused Truncated 1) ∷
    (hex "83", refused NotFour 0) ∷
    (hex "85", refused NotFour 0) ∷
    (hex "a4", refused WrongType 0) ∷
    (hex "d83dd1", refused WrongTag 2) ∷ [])
unfolding reading
wanting_sign1 = refl

-- After the tag of a CWT the array alone is refused, also where the one kind that is wanted may come without its tag.
behind_the_cwt_tag_wanting_mac0 : Gives (wanting wants.Mac0) (
    (hex "d83dd1", refused Truncated 3) ∷
    (hex "d83d84", refused CwtTagAlone 2) ∷
    (hex "d83dd83d", refused WrongTag 2) ∷ [])
unfolding reading
behind_the_cwt_tag_wanting_mac0 = refl

behind_the_cwt_tag_wanting_sign1 : Gives (wanting wants.Sign1) (
    (hex "d83dd2", refused Truncated 3) ∷
    (hex "d83d84", refused CwtTagAlone 2) ∷ [])
unfolding reading
behind_the_cwt_tag_wanting_sign1 = refl

-- The number of a head is that of a tag where its type is.
numbers_of_no_tags : Gives (verdict plain) (
    (hex "11", refused WrongType 0) ∷
    (hex "183d", refused WrongType 0) ∷
    (hex "583d", refused WrongType 0) ∷
    (hex "983d", refused WrongTag 0) ∷
    (hex "d83d11", refused CwtTagAlone 2) ∷
    (hex "d83d92", refused CwtTagAlone 2) ∷
    (hex "d104", refused WrongType 1) ∷
    (hex "d124", refused WrongType 1) ∷
    (hex "d144", refused WrongType 1) ∷
    (hex "d164", refused WrongType 1) ∷
    (hex "d1c4", refused WrongType 1) ∷
    (hex "d1e4", refused WrongType 1) ∷ [])
unfolding reading
numbers_of_no_tags = refl

-- After the tag of a CWT comes a COSE tag, and no second one of a CWT.
after_the_cwt_tag : Gives (verdict plain) (
    (hex "d83d", refused Truncated 2) ∷
    (hex "d83d84", refused CwtTagAlone 2) ∷
    (hex "d83d83", refused CwtTagAlone 2) ∷
    (hex "d83d00", refused CwtTagAlone 2) ∷
    (hex "d83d9c", refused Reserved 2) ∷
    (hex "d83dd83d", refused WrongTag 2) ∷
    (hex "d83dcf", refused WrongTag 2) ∷
    (hex "d83dd3", refused WrongTag 2) ∷
    (hex "d83dd90111", refused WrongTag 2) ∷
    (hex "d83dd9013d", refused WrongTag 2) ∷
    (hex "d83dd0", refused Encrypted 2) ∷
    (hex "d83dd860", refused Encrypted 2) ∷
    (hex "d83dd861", refused SeveralParties 2) ∷
    (hex "d83dd862", refused SeveralParties 2) ∷
    (hex "d83dd1", refused Truncated 3) ∷
    (hex "d9003dd1", refused Truncated 4) ∷
    (hex "d83dd183", refused NotFour 3) ∷
    (hex "d83dd2a4", refused WrongType 3) ∷
    (hex "d83dd1d1", refused WrongType 3) ∷ [])
unfolding reading
after_the_cwt_tag = refl

no_cwt_tag : Gives without_cwt ((hex "d83d", refused WrongTag 0) ∷ (hex "d83dd1", refused WrongTag 0) ∷ (hex "d1", refused Truncated 1) ∷ [])
unfolding reading
no_cwt_tag = refl
