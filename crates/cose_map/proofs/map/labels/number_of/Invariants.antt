use Rattle.std.proofs.Common.{◌≡◌, ◌<◌, ◌^◌, drop}
use Rattle.cose_map.specs.Map.Labels.{number_after}
use Rattle.cose_map.proofs.map.labels.number_of.Given as goal

-- the number of the bytes so far, with those that are left, is that of all
abbrev pub invariant-bytes : goal.invariant-bytes
invariant-bytes l = record {
  onward : number_after l.number (drop l.byte-index l.text) ≡ number_after 0 l.text;
  small : l.number < 2 ^ 112;
}
