use Rattle.cosecmd.proofs.requirements.required_of.Goals as goal

pub returns : goal.returns
returns c = record {
  present = c.in_ok-present.ensures;
  iss = c.text_of-iss.ensures;
  sub = c.text_of-sub.ensures;
  aud = c.audience_of-aud.ensures;
  lifetime = c.in_ok-lifetime.ensures;
  age = c.in_ok-age.ensures;
}
