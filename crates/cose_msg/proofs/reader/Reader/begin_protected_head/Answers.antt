use Rattle.std.proofs.Common.{[], refl, sym, add-zero}
use Rattle.cose_head.specs.Head.{bare_head}
use Rattle.cose_msg.specs.Phases.{nothing_so_far}
use Rattle.cose_msg.proofs.lemmas.Reader.Meanings.{unknown}
use Rattle.cose_msg.proofs.reader.Reader.begin_protected_head.Goals as goal

pub returns : goal.returns
unfolding bare_head
returns g c = record {
  reads_on = λ task e. record {
    known = unknown [];
    so_far = nothing_so_far;
    shows = e;
    payload_known = refl;
    payload_so_far = refl;
    holds = rw c.clear.ensures (refl, (tt, sym (add-zero c.args.at)));
    left = λ z. rw c.clear.ensures refl;
  };
}
