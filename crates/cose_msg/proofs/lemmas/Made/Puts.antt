-- Bytes that are put one piece after another.
use Rattle.std.proofs.Common.{◌≡◌, ℕ, ◌+◌, List, ◌++◌, Option, Ok, Err, refl, ap, subst, ◌∙◌, append_assoc, arith, length-append}
use Rattle.std.proofs.KnownBytes.{Appends-trans}
use Rattle.cose_msg.specs.declared.make.MakeFault.{MakeFault}
use Rattle.cose_msg.specs.Writes.{Seen, Writes}
use Rattle.cose_msg.specs.Sink.{AppendsFront}
use Rattle.cose_msg.proofs.lemmas.Run.Runs.{AppendsFront-then}

-- A prefix of the bytes is a prefix of more.
pub front_of_more : (old new : Option (List ℕ)) (x y : List ℕ) → AppendsFront old new x → AppendsFront old new (x ++ y)
front_of_more old new x y (front, (rest, whole), grown) =
    (front, (rest ++ y, ap (λ (t : List ℕ). t ++ y) whole ∙ append_assoc front rest y), grown)

-- Both pieces were put.
pub writes_both : {a b c : Seen} {n m : ℕ} {x y : List ℕ} → Writes a b (Ok n) x → Writes b c (Ok m) y → Writes a c (Ok (n + m)) (x ++ y)
writes_both {a} {b} {c} {n} {m} {x} {y} p q = record {
  put = Appends-trans a.contents b.contents c.contents x y p.put q.put;
  count = omega (arith, p.count, q.count, length-append x y);
  failure = q.failure ∙ p.failure;
  promised = λ enough. refl;
  promise = omega (arith, p.promise, q.promise, length-append x y);
}

-- The sink failed at the second.
pub writes_one : {a b c : Seen} {n : ℕ} {fault : MakeFault} {x y : List ℕ} → Writes a b (Ok n) x → Writes b c (Err fault) y → Writes a c (Err fault) (x ++ y)
writes_one {a} {b} {c} {n} {fault} {x} {y} p q = record {
  put = (AppendsFront-then a.contents b.contents c.contents x y p.put q.put.0, q.put.1);
  count = tt;
  failure = q.failure;
  promised = λ enough. q.promised (omega (arith, p.promise, enough, length-append x y));
  promise = tt;
}

-- It failed at the first.
pub writes_none : {a b : Seen} {fault : MakeFault} {x : List ℕ} (y : List ℕ) → Writes a b (Err fault) x → Writes a b (Err fault) (x ++ y)
writes_none {a} {b} {fault} {x} y p = record {
  put = (front_of_more a.contents b.contents x y p.put.0, p.put.1);
  count = tt;
  failure = p.failure;
  promised = λ enough. p.promised (omega (arith, enough, length-append x y));
  promise = tt;
}

pub writes_counted : {a b : Seen} {n : ℕ} {x : List ℕ} (m : ℕ) → n ≡ m → Writes a b (Ok n) x → Writes a b (Ok m) x
writes_counted {a} {b} {n} {x} m e p = subst (λ (k : ℕ). Writes a b (Ok k) x) e p
