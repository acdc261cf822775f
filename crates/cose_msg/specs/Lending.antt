-- What a store ends as whose bytes were lent.
use Rattle.std.specs.Prelude.{Bool}
use Rattle.std.specs.Borrow.{Fml, Lends, MutBor, RattleType, bool}
use Rattle.cose_msg.specs.contracts.store.Store.{the_row}

module _ (L : RattleType) (store : MutBor (the_row L).Denot) where
  -- It has its bytes still, and whether they are dropped is what its lender left.
  abbrev pub LendsDropped : MutBor Bool → Fml
  LendsDropped dropped = Lends (the_row L) bool store dropped (λ last. record store.now { dropped = last })
