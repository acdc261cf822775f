use Rattle.std.proofs.Common.{sym, ◌∙◌}
use Rattle.cose_map.proofs.lemmas.ReadyKeys.{prepared_for_equal}
use Rattle.cose_map.proofs.prepared_table.prepared_key.PreparedKey.prepared_for.Goals as goal

pub returns-then-same_bytes : goal.returns-then-same_bytes
returns-then-same_bytes c =
    let equal = sym c.same_bytes.ensures ∙ c.if-same_bytes.true in
    (sym c.serves.ensures ∙ c.if-serves.true, prepared_for_equal c.args.self.now.prepared c.in-Some.prepared _ _ c.args.self.now.ready c.in-Some.is equal)
