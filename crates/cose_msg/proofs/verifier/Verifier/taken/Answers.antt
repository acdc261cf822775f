use Rattle.std.proofs.Common.{refl}
use Rattle.cose_msg.proofs.lemmas.Deciding.Untouched.{untouched_is_anew, untouched_is_truncated}
use Rattle.cose_msg.proofs.verifier.Verifier.taken.Goals as goal

pub returns : goal.returns
returns g c = record {
  value = refl;
  anew = untouched_is_anew c.args.self.now;
  kept = untouched_is_truncated c.args.self.now;
}
