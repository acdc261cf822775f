use Rattle.std.proofs.Common.{refl}
use Rattle.cose_msg.proofs.lemmas.Reader.Meanings.{unknown}
use Rattle.cose_msg.proofs.reader.Reader.refuse.Goals as goal

pub returns : goal.returns
returns g c = λ task B n so_far shows so_far_payload. record {
  known = unknown B;
  so_far = so_far;
  shows = shows;
  payload_known = refl;
  payload_so_far = so_far_payload;
  holds = (tt, λ e. absurd cc);
  left = λ z. refl;
}
