use Rattle.cosecmd.proofs.arguments.make_of.Goals as goal

pub returns : goal.returns
returns g c = record {
  alg = c.in_ok-alg.ensures;
  key = c.in_ok-key.ensures;
  payload_length = c.in_ok-length.ensures;
  kid = c.in_ok-kid.ensures;
  aad = c.in_ok-aad.ensures.value;
}
