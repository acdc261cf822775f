-- The sizes under the limits.
use Rattle.std.proofs.Common.{◌≡◌, refl}
use Rattle.cose_answers.specs.Limits.{AreSizesUnder, room_of}
use Rattle.cose_answers.specs.declared.limits.Limits.{Limits}
use Rattle.cose_answers.specs.declared.limits.Limits.TheVariants.{Small, Large}

pub under_small : (limits : Limits) → limits ≡ Small → AreSizesUnder limits 1024 8 16
under_small limits is = record { header_is = rw is refl; nesting_is = rw is refl; keys_are = rw is refl }

pub under_large : (limits : Limits) → limits ≡ Large → AreSizesUnder limits 65535 16 256
under_large limits is = record { header_is = rw is refl; nesting_is = rw is refl; keys_are = rw is refl }

pub small_claims : (limits : Limits) → limits ≡ Small → (room_of limits).claims ≡ 4096
small_claims limits is = rw is refl

pub large_claims : (limits : Limits) → limits ≡ Large → (room_of limits).claims ≡ 65535
large_claims limits is = rw is refl
