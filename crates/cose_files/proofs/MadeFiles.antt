-- The record of the new file of the process, where it isn't kept.
use Rattle.std.proofs.Common.{◌≡◌, Bool, Option, Some, None, Result, Ok, Err, option_map, refl}
use Rattle.std.specs.Prelude.{IfErr}
use Rattle.cose_files.specs.HostFile.{made_file}
use Rattle.cose_files.specs.NewFile.{IsSettled}
use Rattle.cose_files.specs.declared.host_file.HostFile.{HostFile}
use Rattle.cose_files.specs.declared.new_file.Standing.TheVariants as standings

pub where_err : {A E : Type 0} (result : Result A E) (P : Type 0) → P → IfErr result (λ _. P)
where_err (Ok x) P p = tt
where_err (Err e) P p = p

-- One that isn't changed is settled as it is.
pub as_it_is : (is_taken : Option Bool) (file : Option HostFile) → IsSettled (record { is_taken = is_taken; file = option_map made_file file }) (record { is_taken = is_taken; file = option_map made_file file })
as_it_is is_taken None = (standings.Unnamed, None, refl)
as_it_is is_taken (Some file) = (file.standing, None, refl)

-- And one of the same name, however it stands.
pub of_same_name : (is_taken : Option Bool) (file : Option HostFile) (old new : HostFile) → file ≡ Some old → new.name ≡ old.name →
    IsSettled (record { is_taken = is_taken; file = option_map made_file file }) (record { is_taken = is_taken; file = Some (made_file new) })
of_same_name is_taken file old new is same = (new.standing, None, rw (is, same) refl)
