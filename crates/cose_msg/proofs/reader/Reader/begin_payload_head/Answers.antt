use Rattle.std.proofs.Common.{[], refl, sym, add-zero}
use Rattle.cose_head.specs.Head.{bare_head}
use Rattle.cose_msg.specs.Phases.{headers_so_far}
use Rattle.cose_msg.proofs.reader.Reader.begin_payload_head.Goals as goal

pub returns : goal.returns
unfolding bare_head
returns g c = record {
  reads_on = λ task known e none key same bare fed. record {
    known = known;
    so_far = headers_so_far known.headers [];
    shows = e;
    payload_known = none;
    payload_so_far = refl;
    holds = (refl, rw c.clear.ensures (tt, sym (add-zero c.args.at)), key, same, bare, fed);
    left = λ z. rw c.clear.ensures refl;
  };
}
