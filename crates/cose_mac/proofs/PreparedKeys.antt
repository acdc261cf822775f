-- What a prepared key holds.
use Rattle.std.proofs.Common.{ℕ, List}
use Rattle.std.proofs.Props as std_props
use Rattle.sha2.specs.Sha256 as S256
use Rattle.sha2.specs.Sha512 as S512
use Rattle.cose_head.specs.declared.algorithm.Hash.{Hash}
use Rattle.cose_head.specs.declared.algorithm.Hash.TheVariants.{Sha256, Sha384, Sha512}
use Rattle.cose_mac.specs.Hasher.{Holds}
use Rattle.cose_mac.specs.Prepared.{IsPrepared}
use Rattle.cose_mac.specs.declared.hasher.Hasher.{Hasher}
use Rattle.cose_mac.specs.declared.hasher.Hasher.TheVariants as Hashers
use Rattle.cose_mac.specs.declared.prepared.Prepared.{Prepared}

-- A hasher was fed a message in one way at most.
Holds-prop : (hash : Hash) (hasher : Hasher) (message : List ℕ) → IsProp (Holds hash hasher message)
unfolding S256.Holds S512.Holds
Holds-prop Sha256 (Hashers.Sha256 hasher) message = Prim.hlevel std_props.props
Holds-prop Sha256 (Hashers.Sha384 hasher) message = Prim.hlevel std_props.props
Holds-prop Sha256 (Hashers.Sha512 hasher) message = Prim.hlevel std_props.props
Holds-prop Sha384 (Hashers.Sha256 hasher) message = Prim.hlevel std_props.props
Holds-prop Sha384 (Hashers.Sha384 hasher) message = Prim.hlevel std_props.props
Holds-prop Sha384 (Hashers.Sha512 hasher) message = Prim.hlevel std_props.props
Holds-prop Sha512 (Hashers.Sha256 hasher) message = Prim.hlevel std_props.props
Holds-prop Sha512 (Hashers.Sha384 hasher) message = Prim.hlevel std_props.props
Holds-prop Sha512 (Hashers.Sha512 hasher) message = Prim.hlevel std_props.props

pub IsPrepared-prop : (prepared : Prepared) (key : List ℕ) → IsProp (IsPrepared prepared key)
IsPrepared-prop prepared key = Prim.hlevel (std_props.props, Holds-prop)
