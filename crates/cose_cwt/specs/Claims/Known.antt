-- The values of the known claims, and the first of each among the pairs of a map.
pub mod View
use Rattle.std.specs.Prelude.{List, Option}
use Rattle.std.specs.Option.{option_or}
use Rattle.cose_head.specs.Placed.{Placed}
use Rattle.cose_map.specs.Label.{LabelValue}
use Rattle.cose_map.specs.Map.Pairs.{Pair, value_of}
use Rattle.cose_cwt.specs.Claims.Labels as labels

-- The values of the registered claims (RFC 8392 section 3.1) and of the confirmation (RFC 8747 section 3.1), where a token has them.
pub record KnownValue : Type 0 where
  pub iss : Option Placed
  pub sub : Option Placed
  pub aud : Option Placed
  pub exp : Option Placed
  pub nbf : Option Placed
  pub iat : Option Placed
  pub cti : Option Placed
  pub cnf : Option Placed

-- The first value of each label among the pairs.
abbrev pub first_values : List Pair → KnownValue
first_values pairs = record {
  iss = value_of labels.iss pairs;
  sub = value_of labels.sub pairs;
  aud = value_of labels.aud pairs;
  exp = value_of labels.exp pairs;
  nbf = value_of labels.nbf pairs;
  iat = value_of labels.iat pairs;
  cti = value_of labels.cti pairs;
  cnf = value_of labels.cnf pairs;
}

-- Each value made anew, of its label and of itself.
abbrev pub each : (LabelValue → Option Placed → Option Placed) → KnownValue → KnownValue
each anew known = record {
  iss = anew labels.iss known.iss;
  sub = anew labels.sub known.sub;
  aud = anew labels.aud known.aud;
  exp = anew labels.exp known.exp;
  nbf = anew labels.nbf known.nbf;
  iat = anew labels.iat known.iat;
  cti = anew labels.cti known.cti;
  cnf = anew labels.cnf known.cnf;
}

-- The values that are kept, and where none is, the first among the pairs.
abbrev pub kept_or_first : KnownValue → List Pair → KnownValue
kept_or_first kept pairs = each (λ label value. option_or value (value_of label pairs)) kept
