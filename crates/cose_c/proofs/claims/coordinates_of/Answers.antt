use Rattle.std.proofs.Common.{◌≤◌, arith}
use Rattle.cose_head.specs.ItemRef.{placed}
use Rattle.cose_head.specs.PlacedLaws.{end_of}
use Rattle.cose_c.proofs.Members.{none_lies}
use Rattle.cose_c.proofs.claims.coordinates_of.Goals as goal

pub returns-in-Some-clause-x : goal.returns-in-Some-clause-x
returns-in-Some-clause-x c = λ item read.
    let ends : end_of (placed c.in-Some.key) ≤ end_of item = c.in-Some.ensures item read in
    let here = c.coordinates_in.ensures.x in omega (arith, ends, here)

pub returns-in-Some-clause-y : goal.returns-in-Some-clause-y
returns-in-Some-clause-y c = λ item read.
    let ends : end_of (placed c.in-Some.key) ≤ end_of item = c.in-Some.ensures item read in
    let here = c.coordinates_in.ensures.y in omega (arith, ends, here)

pub returns-in-None-clause-x : goal.returns-in-None-clause-x
returns-in-None-clause-x c = λ item read. none_lies item _ c.no_coordinates-in-None.ensures.x

pub returns-in-None-clause-y : goal.returns-in-None-clause-y
returns-in-None-clause-y c = λ item read. none_lies item _ c.no_coordinates-in-None.ensures.y
