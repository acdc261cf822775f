-- What a message is verified under by the values of the options is what the options state.
use Rattle.std.proofs.Common.{◌≡◌, ℕ, List, Option, Some, None, refl, codes}
use Rattle.cose_msg.specs.declared.context.Wanted.{Wanted}
use Rattle.cose_msg.specs.declared.context.Wanted.TheVariants as wants
use Rattle.cose_map.specs.Restrictions.{RestrictionsValue}
use Rattle.cosecmd.specs.Allowed.{restrictions_in}
use Rattle.cosecmd.specs.Fields.{HasKeysOf, checks_in, digest_checks_in}
use Rattle.cose_answers.specs.Limits.{Room, room_of}
use Rattle.cosecmd.specs.Options.{Options, bytes_in, key_set_in, kind_in, limits_in, optional_bytes_in}
use Rattle.cose_answers.specs.declared.limits.Limits.{Limits}
use Rattle.cose_answers.specs.Under.{Under, program_keys}

abbrev pub stated : Room → RestrictionsValue → List ℕ → List ℕ → Wanted → Option (List ℕ) → Under
stated room restrictions keys aad wanted vouch = record { room = room; keys = program_keys room restrictions keys; aad = aad; wanted = wanted; vouch = vouch }

pub checks_said : (content : List ℕ → Option (List ℕ)) (options : Options) (limits : Limits) (restrictions : RestrictionsValue) (keys aad : List ℕ) (wanted : Wanted) (vouch : Option (List ℕ)) → HasKeysOf content options keys → restrictions_in options ≡ Some restrictions → bytes_in (codes "aad") options ≡ Some aad →
    wanted ≡ kind_in options → optional_bytes_in (codes "vouch") options ≡ Some vouch → limits ≡ limits_in options → (under : Under) → checks_in content options ≡ Some under → stated (room_of limits) restrictions keys aad wanted vouch ≡ under
checks_said content options limits restrictions keys aad wanted vouch has allowed said kind vouched within under e = go (key_set_in content options) refl
  where
    go : (known : Option (List ℕ)) → key_set_in content options ≡ known → stated (room_of limits) restrictions keys aad wanted vouch ≡ under
    go None is =
        let none : None ≡ Some under = rw is at e in
        cc
    go (Some known) is =
        let some : Some (stated (room_of (limits_in options)) restrictions known aad (kind_in options) vouch) ≡ Some under = rw (is, allowed, said, vouched) at e in
        let same : stated (room_of (limits_in options)) restrictions known aad (kind_in options) vouch ≡ under = cc in
        rw (within, has known is, kind) same

pub digest_checks_said : (content : List ℕ → Option (List ℕ)) (options : Options) (limits : Limits) (restrictions : RestrictionsValue) (keys aad : List ℕ) → HasKeysOf content options keys → restrictions_in options ≡ Some restrictions → bytes_in (codes "aad") options ≡ Some aad → limits ≡ limits_in options →
    (under : Under) → digest_checks_in content options ≡ Some under → stated (room_of limits) restrictions keys aad wants.Sign1 None ≡ under
digest_checks_said content options limits restrictions keys aad has allowed said within under e = go (key_set_in content options) refl
  where
    go : (known : Option (List ℕ)) → key_set_in content options ≡ known → stated (room_of limits) restrictions keys aad wants.Sign1 None ≡ under
    go None is =
        let none : None ≡ Some under = rw is at e in
        cc
    go (Some known) is =
        let some : Some (stated (room_of (limits_in options)) restrictions known aad wants.Sign1 None) ≡ Some under = rw (is, allowed, said) at e in
        let same : stated (room_of (limits_in options)) restrictions known aad wants.Sign1 None ≡ under = cc in
        rw (within, has known is) same
