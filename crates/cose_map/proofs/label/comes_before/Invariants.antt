use Rattle.std.proofs.Common.{◌≡◌, ◌≤◌, drop, length, min}
use Rattle.cose_map.proofs.lemmas.Label.Bytes.{before}
use Rattle.cose_map.proofs.label.comes_before.Given as goal

-- the bytes so far are equal
abbrev pub invariant-bytes : goal.invariant-bytes
invariant-bytes l = record {
  end : l.i-end ≡ min (length l.text) (length l.other);
  within : l.i ≤ l.i-end;
  left : before (drop l.i l.text) (drop l.i l.other) ≡ before l.text l.other;
}
