use Rattle.std.proofs.Common.{refl, sym, add-zero}
use Rattle.cose_head.specs.Head.{bare_head}
use Rattle.cose_msg.specs.Phases.{headers_so_far}
use Rattle.cose_msg.proofs.reader.Reader.begin_auth_head.Goals as goal

pub returns : goal.returns
unfolding bare_head
returns g c = record {
  further = refl;
  unawaited = refl;
  reads_on = λ task known e key count fed. record {
    known = known;
    so_far = headers_so_far known.headers known.payload;
    shows = e;
    payload_known = refl;
    payload_so_far = refl;
    holds = (refl, rw c.clear.ensures (tt, sym (add-zero c.args.at)), key, count, fed);
    left = λ z. rw c.clear.ensures refl;
  };
}
