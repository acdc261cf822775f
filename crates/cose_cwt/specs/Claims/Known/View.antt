-- Known claims of the code, without where they are in memory.
use Rattle.std.specs.Prelude.{option_map}
use Rattle.cose_head.specs.ItemRef.{placed}
use Rattle.cose_cwt.specs.declared.claims.known.Known.{Known}
use Rattle.cose_cwt.specs.Claims.Known.{KnownValue}

abbrev pub known_value : Known → KnownValue
known_value known = record {
  iss = option_map placed known.iss;
  sub = option_map placed known.sub;
  aud = option_map placed known.aud;
  exp = option_map placed known.exp;
  nbf = option_map placed known.nbf;
  iat = option_map placed known.iat;
  cti = option_map placed known.cti;
  cnf = option_map placed known.cnf;
}
