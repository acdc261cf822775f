use Rattle.cose_map.proofs.lemmas.Laws.Reasons.{map_refused_for, read_refused_for, bucket_refused_for, key_refused_for, key_set_refused_for, pair_refused_for, choice_refused_for}
use Rattle.cose_map.proofs.laws.refusals_have_their_reasons.Goals as goal

pub returns-clause-map : goal.returns-clause-map
returns-clause-map c = map_refused_for

pub returns-clause-read : goal.returns-clause-read
returns-clause-read c = read_refused_for c.whole_is_one_item.ensures.reasons

pub returns-clause-bucket : goal.returns-clause-bucket
returns-clause-bucket c = bucket_refused_for c.whole_is_one_item.ensures.reasons

pub returns-clause-key : goal.returns-clause-key
returns-clause-key c = key_refused_for c.whole_is_one_item.ensures.reasons

pub returns-clause-key_set : goal.returns-clause-key_set
returns-clause-key_set c = key_set_refused_for c.whole_is_one_item.ensures.reasons

pub returns-clause-two_buckets : goal.returns-clause-two_buckets
returns-clause-two_buckets c = pair_refused_for

pub returns-clause-choice : goal.returns-clause-choice
returns-clause-choice c = choice_refused_for
