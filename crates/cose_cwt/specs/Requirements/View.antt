-- Requirements of the code, without where their text strings are in memory.
use Rattle.std.specs.Prelude.{option_map}
use Rattle.cose_cwt.specs.declared.requirements.Requirements.{Requirements}
use Rattle.cose_cwt.specs.Claims.Audience.{text_value}
use Rattle.cose_cwt.specs.Requirements.{RequirementsValue}

abbrev pub requirements_value : Requirements → RequirementsValue
requirements_value r = record {
  now = r.now;
  leeway = r.leeway;
  present = r.present.now;
  iss = option_map text_value r.iss;
  sub = option_map text_value r.sub;
  aud = option_map text_value r.aud;
  lifetime = r.lifetime;
  age = r.age;
  issued = r.issued;
}
