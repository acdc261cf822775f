-- `read` meets its contract: a walk of its MIR by hand. That the value is lent for good can be had twice: once for the result, and once
-- for the handle.
use Rattle.cose_c.proofs.Imports.{List, [], ◌∷◌, refl, sym, ap, ◌∙◌, proved, after, full_share, ftrue, flft, id⊢, tables, Ptr, in_a_block, cell_at, MutRef, mut_Tells, mut_vals, plain, nothing, opens, closes, peeks, shows, hide, unhide, shr_dup, Goes-ref, Stays, ends_at, says, stay_ref, walk_of, named, Val, vptr, alloc_all, env, free_all, get, look_at, pass_all, sets, sets_last, through, !, at_ret, done, feq_i, fjoin, fjoin3, frame, fsplit, fsplit3, join, keep, move, qed, rewrite, split, suffices, ◌$◌, ◌∵◌, ◌⊛◌, ‵, look_in, sub, whole, addr, blocks, enter, exec, first, fld, load, of_opd, returns, stop}
use Rattle.cose_c.specs.HeldShared.{lent_table}
use Rattle.cose_c.specs.contracts.held.table.HeldTable.{the_row as R}
use Rattle.cose_c.proofs.held.table.HeldTable.TheLaws.{the_row_laws}
use Rattle.cose_c.specs.contracts.held.shared_table.CoseSharedTable.{the_row as B}
use Rattle.cose_c.proofs.held.shared_table.CoseSharedTable.TheLaws.{lowers}
use Rattle.cose_c.specs.contracts.held.shared_table.CoseSharedTable.read as f
use Rattle.cose_c.proofs.held.shared_table.CoseSharedTable.read.Statement.{statement}
use Rattle.cose_c.proofs.held.shared_table.CoseSharedTable.read.Code as code

abbrev stayed : Stays f.ended.signature.params f.ended.kept
stayed = (stay_ref (0 ∷ []) tt (plain (λ _. B)), tt)

pub read_spec : {M : Type 1} → statement M
read_spec 𝓤 𝓛 𝓜 𝓡 wired =
    let c = f.clauses 𝓛 𝓜.mem 𝓡.returns in let W = walk_of 𝓛 f.ended stayed c in let 𝓣 = tables 𝓤 𝓛.H 𝓜 𝓡 𝓡.env in
    proved 𝓛 f.ended stayed c 𝓜 𝓡 (Goes-ref 𝓛 1 0 tt (plain (λ _. B)), tt)
    f.Key.name code.function (code.unfolded 𝓤 𝓛.H 𝓜 𝓡 wired)
    (λ κs. (mut_vals, tt)) (λ κs. (mut_Tells (named 0) κs.0 B, tt)) (λ κs qs bounds a _ are.
    let κ = κs.0 in let q = qs.0 in let h = a.0.now in let rb = a.0.ref_ptr.0 in let ro = a.0.ref_ptr.1 in let vs = mut_vals a.0 in
    let y : W.Ghost = ((κs, qs, bounds, a, (vs, tt)), tt) in
    qed 𝓛 (((‵ (flft κ q) ⊛ ‵ ftrue) ⊛ ‵ ((MutRef (named 0) κ B).own_val a.0 vs) ⊛ ‵ ftrue) ∷ ‵ ftrue ∷ []) ∵
    split ! $ split ! $ move ! (2 ∷ []) $ split ! $ keep ! (0 ∷ 2 ∷ []) $
    enter ! _ _ _ _ _ $ alloc_all ! (λ l. pass_all ! refl ((tt, tt), tt) $
    fsplit3 ! $ move ! (1 ∷ 2 ∷ 3 ∷ []) $ opens ! tt B rb ro (λ us.
    move ! (1 ∷ []) $ peeks ! B _ (shows 𝓛 B) h us (λ is. fsplit ! $ move ! (1 ∷ []) $
    in_a_block ! h.at (λ p. lent_table p h.value) (id⊢ 𝓤 _) (λ b o e.
    let word = lowers.val_is h us is ∙ ap (λ (p : Ptr). lowers.lowered (record h { at = p }) ∷ []) e in
    let Cell = λ (ws : List Val). ‵ (cell_at full_share B.mir ws rb ro) in
    hide ! $ shr_dup ! R the_row_laws.shr_laws h.value b o [] $
    rewrite ! 3 Cell word refl $
    -- [the value, lent twice; what the fields own; the handle's cell; the open borrow, in three entries]
    first ! $ blocks ! $
    sets ! (of_opd ! (load ! (through ! refl (fld ! refl (stop !))) (look_in ! 3 (sub ! 0 refl (whole !))))) refl (tt, tt) $
    sets ! (of_opd ! (get ! refl)) refl (tt, tt) $
    sets_last ! (addr ! (through ! refl (stop !))) refl (tt, tt) $
    exec ! 𝓣.C 𝓣.Λ (env code.Mir.locals l) (after 1 (code.function).body) (at_ret _ (W.post y)) $
    sets ! (of_opd ! (get ! refl)) refl (tt, tt) $
    rewrite ! 3 Cell (sym word) refl $
    unhide ! $ rewrite ! 0 (λ (p : Ptr). ‵ (lent_table p h.value)) (sym e) refl $ move ! (2 ∷ 0 ∷ []) $ fjoin ! $
    move ! (2 ∷ 0 ∷ 3 ∷ 4 ∷ 5 ∷ []) $ closes ! tt B h us rb ro $
    -- [the handle's borrow, in three entries; the value, lent]
    move ! (3 ∷ []) $ feq_i ! (List Val) (vptr b o ∷ []) (vptr b o ∷ []) refl $ fjoin ! $
    returns ! (look_at ! 0 refl) $ free_all ! refl $ keep ! (1 ∷ 2 ∷ 3 ∷ 0 ∷ []) $
    suffices ! _ (ends_at 𝓛 f.ended stayed c y (vptr b o) (record { ref_ptr = (b, o); now = h.value }) (h, tt) (tt, tt)) $ says ! (refl, refl) $
    nothing ! $ move ! (3 ∷ 0 ∷ []) $ join ! $ frame ! $
    feq_i ! (List Val) vs vs refl $ fjoin3 ! $ nothing ! $ move ! (1 ∷ 0 ∷ []) $ fjoin ! $ done !)))))
