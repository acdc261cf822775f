use Rattle.cose_head.proofs.lemmas.Walker.WalkerLaws.{put_has_room, put_is_truncated, put_is_open, done_is_whole}
use Rattle.cose_head.proofs.laws.walker_is_reading.Goals as goal

pub returns-clause-room : goal.returns-clause-room
returns-clause-room c = λ depth. put_has_room {D = depth}

pub returns-clause-truncated : goal.returns-clause-truncated
returns-clause-truncated c = λ depth. put_is_truncated {D = depth}

pub returns-clause-open : goal.returns-clause-open
returns-clause-open c = λ depth. put_is_open {D = depth}

pub returns-clause-done : goal.returns-clause-done
returns-clause-done c = done_is_whole
