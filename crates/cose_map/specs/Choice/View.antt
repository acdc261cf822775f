-- What a query requires and what is found, without where they are in memory.
use Rattle.std.specs.Prelude.{ℤ, List, [], ◌∷◌, Result, Ok, Err, option_map}
use Rattle.cose_head.specs.declared.reason.Reason.{Reason}
use Rattle.cose_head.specs.declared.reason.Reason.TheVariants.{AmbiguousKey}
use Rattle.cose_map.specs.declared.choice.query.Query.{Query}
use Rattle.cose_map.specs.declared.choice.fitting.Fitting.{Fitting}
use Rattle.cose_map.specs.declared.choice.fitting.Fitting.TheVariants.{Nothing, One, Several}
use Rattle.cose_map.specs.declared.key.Key.{Key}
use Rattle.cose_map.specs.Choice.{Question, only_one}
use Rattle.cose_map.specs.Key.Value.{KeyValue}
use Rattle.cose_map.specs.Key.View.{contents, key_value}
use Rattle.cose_map.specs.Label.View.{label_value}

abbrev pub question : Query → Question
question q = record { kind = q.kind; operation = q.operation; protected_alg = option_map label_value q.protected_alg; unprotected_alg = option_map label_value q.unprotected_alg; kid = option_map contents q.kid }

abbrev pub found_value : Result (Key × ℤ) Reason → Result (KeyValue × ℤ) Reason
found_value (Ok found) = Ok (key_value found.0, found.1)
found_value (Err reason) = Err reason

-- The choice where the code has checked some of the keys, and these are the others that fit. Of those that were checked
-- and fit it keeps none, the one, or that there are several: which ones doesn't matter then.
abbrev pub with_rest : Question → Fitting → List (KeyValue × ℤ) → Result (KeyValue × ℤ) Reason
with_rest q Nothing rest = only_one q rest
with_rest q (One key n) [] = Ok (key_value key, n)
with_rest q (One key n) (another ∷ others) = Err AmbiguousKey
with_rest q Several rest = Err AmbiguousKey
