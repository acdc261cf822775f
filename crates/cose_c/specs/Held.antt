-- Blocks in the caller's memory: what a handle lends, and how it gets it back.
use Rattle.std.specs.Borrow.{Lends, MutBor, Fml}
use Rattle.cose_c.specs.declared.held.verifier.CoseVerifier.{CoseVerifier}
use Rattle.cose_c.specs.declared.held.verifier.HeldVerifier.{HeldVerifier}
use Rattle.cose_c.specs.contracts.held.verifier.CoseVerifier.{the_row as verifier_handle}
use Rattle.cose_c.specs.contracts.held.verifier.HeldVerifier.{the_row as held_verifier}
use Rattle.cose_c.specs.declared.held.large_verifier.CoseLargeVerifier.{CoseLargeVerifier}
use Rattle.cose_c.specs.declared.held.large_verifier.HeldLargeVerifier.{HeldLargeVerifier}
use Rattle.cose_c.specs.contracts.held.large_verifier.CoseLargeVerifier.{the_row as large_verifier_handle}
use Rattle.cose_c.specs.contracts.held.large_verifier.HeldLargeVerifier.{the_row as held_large_verifier}
use Rattle.cose_c.specs.declared.held.device_verifier.CoseDeviceVerifier.{CoseDeviceVerifier}
use Rattle.cose_c.specs.declared.held.device_verifier.HeldDeviceVerifier.{HeldDeviceVerifier}
use Rattle.cose_c.specs.contracts.held.device_verifier.CoseDeviceVerifier.{the_row as device_verifier_handle}
use Rattle.cose_c.specs.contracts.held.device_verifier.HeldDeviceVerifier.{the_row as held_device_verifier}
use Rattle.cose_c.specs.declared.held.maker.CoseMaker.{CoseMaker}
use Rattle.cose_c.specs.declared.held.maker.HeldMaker.{HeldMaker}
use Rattle.cose_c.specs.contracts.held.maker.CoseMaker.{the_row as maker_handle}
use Rattle.cose_c.specs.contracts.held.maker.HeldMaker.{the_row as held_maker}
use Rattle.cose_c.specs.declared.held.signer.CoseSigner.{CoseSigner}
use Rattle.cose_c.specs.declared.held.signer.HeldSigner.{HeldSigner}
use Rattle.cose_c.specs.contracts.held.signer.CoseSigner.{the_row as signer_handle}
use Rattle.cose_c.specs.contracts.held.signer.HeldSigner.{the_row as held_signer}
use Rattle.cose_c.specs.declared.held.table.CoseTable.{CoseTable}
use Rattle.cose_c.specs.declared.held.table.HeldTable.{HeldTable}
use Rattle.cose_c.specs.contracts.held.table.CoseTable.{the_row as table_handle}
use Rattle.cose_c.specs.contracts.held.table.HeldTable.{the_row as held_table}

-- The handle with another value in its block.
abbrev pub with_verifier : CoseVerifier → HeldVerifier → CoseVerifier
with_verifier handle held = record handle { value = held }

-- The value in the block is the last one after the reference.
abbrev pub LendsVerifier : MutBor CoseVerifier → MutBor HeldVerifier → Fml
LendsVerifier handle held = Lends verifier_handle held_verifier handle held (with_verifier handle.now)

abbrev pub with_large_verifier : CoseLargeVerifier → HeldLargeVerifier → CoseLargeVerifier
with_large_verifier handle held = record handle { value = held }

abbrev pub LendsLargeVerifier : MutBor CoseLargeVerifier → MutBor HeldLargeVerifier → Fml
LendsLargeVerifier handle held = Lends large_verifier_handle held_large_verifier handle held (with_large_verifier handle.now)

abbrev pub with_device_verifier : CoseDeviceVerifier → HeldDeviceVerifier → CoseDeviceVerifier
with_device_verifier handle held = record handle { value = held }

abbrev pub LendsDeviceVerifier : MutBor CoseDeviceVerifier → MutBor HeldDeviceVerifier → Fml
LendsDeviceVerifier handle held = Lends device_verifier_handle held_device_verifier handle held (with_device_verifier handle.now)

abbrev pub with_table : CoseTable → HeldTable → CoseTable
with_table handle held = record handle { value = held }

abbrev pub LendsTable : MutBor CoseTable → MutBor HeldTable → Fml
LendsTable handle held = Lends table_handle held_table handle held (with_table handle.now)

abbrev pub with_maker : CoseMaker → HeldMaker → CoseMaker
with_maker handle held = record handle { value = held }

abbrev pub LendsMaker : MutBor CoseMaker → MutBor HeldMaker → Fml
LendsMaker handle held = Lends maker_handle held_maker handle held (with_maker handle.now)

abbrev pub with_signer : CoseSigner → HeldSigner → CoseSigner
with_signer handle held = record handle { value = held }

abbrev pub LendsSigner : MutBor CoseSigner → MutBor HeldSigner → Fml
LendsSigner handle held = Lends signer_handle held_signer handle held (with_signer handle.now)
