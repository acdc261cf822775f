use Rattle.cose_map.proofs.lemmas.Laws.Reasons.{bucket_not_truncated, key_not_truncated, key_set_not_truncated, pair_not_truncated, choice_not_truncated}
use Rattle.cose_map.proofs.laws.refusals_are_not_truncated.Goals as goal

pub returns-clause-bucket : goal.returns-clause-bucket
returns-clause-bucket c = bucket_not_truncated c.whole_is_one_item.ensures.reasons

pub returns-clause-key : goal.returns-clause-key
returns-clause-key c = key_not_truncated c.whole_is_one_item.ensures.reasons

pub returns-clause-key_set : goal.returns-clause-key_set
returns-clause-key_set c = key_set_not_truncated c.whole_is_one_item.ensures.reasons

pub returns-clause-two_buckets : goal.returns-clause-two_buckets
returns-clause-two_buckets c = pair_not_truncated

pub returns-clause-choice : goal.returns-clause-choice
returns-clause-choice c = choice_not_truncated
