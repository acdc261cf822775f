-- Who decides on signatures.
use Rattle.std.specs.Prelude.{Bool, true, false}
use Rattle.cose_msg.specs.Message.{Decides}

-- The caller found this of the signature.
abbrev pub deciding : Bool → Decides
deciding is_good key digest signature = is_good

-- Every signature is good, and none is.
abbrev pub always : Decides
always = deciding true

abbrev pub never : Decides
never = deciding false
