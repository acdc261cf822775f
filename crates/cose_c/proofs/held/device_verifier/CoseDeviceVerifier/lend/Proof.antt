-- `lend` meets its contract: a walk of its MIR by hand. The value in the block is lent, and the handle has its last value then.
use Rattle.cose_c.proofs.Imports.{◌≡◌, ℕ, List, [], ◌∷◌, MutBor, refl, sym, ap, ◌∙◌, proved, after, Ura, full_share, GName, Fml, ftrue, flft, fsep, ent, id⊢, sep, tables, no, follows, Part, lends_Part, shows, cell_at, mem, part_at, part_of, Ptr, block_ptr, in_a_block, lies_at, MutRef, mut_Tells, mut_vals, mut_ref_to, plain, nothing, opens, peeks, shape, Struct, Goes-spent_ref, Stays, ends_at, says, stay_dropped, walk_of, named, Val, vptr, alloc_all, env, free_all, get, look_at, pass_all, sets, sets_last, through, !, at_ret, await, done, fjoin, fpack, frame, fsplit, fsplit3, group, join, keep, later, move, pick, qed, raw, rewrite, some, split, suffices, use1, ◌$◌, ◌∵◌, ◌⊛◌, ‵, Logic, sem, look_in, sub, whole, addr, blocks, enter, exec, first, fld, load, of_opd, returns, stop}
use Rattle.cose_c.specs.declared.held.device_verifier.HeldDeviceVerifier.{HeldDeviceVerifier}
use Rattle.cose_c.specs.declared.held.device_verifier.CoseDeviceVerifier.{CoseDeviceVerifier}
use Rattle.cose_c.specs.Held.{with_device_verifier}
use Rattle.cose_c.specs.contracts.held.device_verifier.HeldDeviceVerifier.{the_row as R}
use Rattle.cose_c.specs.contracts.held.device_verifier.CoseDeviceVerifier.{the_row as B, the_type}
use Rattle.cose_c.proofs.held.device_verifier.CoseDeviceVerifier.TheLaws.{lowers}
use Rattle.cose_c.specs.contracts.held.device_verifier.CoseDeviceVerifier.lend as f
use Rattle.cose_c.proofs.held.device_verifier.CoseDeviceVerifier.lend.Statement.{statement}
use Rattle.cose_c.proofs.held.device_verifier.CoseDeviceVerifier.lend.Code as code

abbrev stayed : Stays f.ended.signature.params f.ended.kept
stayed = (stay_dropped (mut_ref_to (0 ∷ []) tt (plain (λ _. B))) no, tt)

module _ {M : Type 1} {𝓤 : Ura M} (𝓛 : Logic 𝓤) (rb ro b o : ℕ) (h : CoseDeviceVerifier) (us : List Val) where
  -- All of the handle but the value in the block.
  abbrev Rest : Fml
  Rest = fsep ((Struct (shape the_type)).own_val (h.at, tt) us) (cell_at full_share B.mir us rb ro)

  back : h.at ≡ block_ptr b o → (w : HeldDeviceVerifier) → ent 𝓤 (sep 𝓤 (sem 𝓛 ((mem R).own_at w b o)) (sem 𝓛 Rest)) (sem 𝓛 ((mem B).own_at (with_device_verifier h w) rb ro))
  unfolding part_of
  back e w =
      qed 𝓛 (‵ (part_at R full_share w b o) ∷ ‵ Rest ∷ []) ∵ move ! (1 ∷ []) $ fsplit ! $ move ! (2 ∷ []) $
      rewrite ! 0 (λ (p : Ptr). ‵ (lies_at R full_share p w)) (sym e) refl $ move ! (1 ∷ 0 ∷ []) $ fjoin ! $ move ! (1 ∷ 0 ∷ []) $ fjoin ! $
      fpack ! (List Val) (λ vs. fsep (cell_at full_share B.mir vs rb ro) (B.own_val (with_device_verifier h w) vs)) us $ done !

pub lend_spec : {M : Type 1} → statement M
lend_spec 𝓤 𝓛 𝓜 𝓡 wired =
    let c = f.clauses 𝓛 𝓜.mem 𝓡.returns in let W = walk_of 𝓛 f.ended stayed c in let 𝓣 = tables 𝓤 𝓛.H 𝓜 𝓡 𝓡.env in
    proved 𝓛 f.ended stayed c 𝓜 𝓡 (Goes-spent_ref 𝓛 1 (0 ∷ []) tt (plain (λ _. B)), tt)
    f.Key.name code.function (code.unfolded 𝓤 𝓛.H 𝓜 𝓡 wired)
    (λ κs. (mut_vals, tt)) (λ κs. (mut_Tells (named 0) κs.0 B, tt)) (λ κs qs bounds a _ are.
    let κ = κs.0 in let q = qs.0 in let h = a.0.now in let γ = a.0.ghost_name in let rb = a.0.ref_ptr.0 in let ro = a.0.ref_ptr.1 in let vs = mut_vals a.0 in
    let y : W.Ghost = ((κs, qs, bounds, a, (vs, tt)), tt) in
    let Lent : GName → ℕ → ℕ → MutBor HeldDeviceVerifier = λ γ' b o. record { ref_ptr = (b, o); ghost_name = γ'; now = h.value } in
    qed 𝓛 (((‵ (flft κ q) ⊛ ‵ ftrue) ⊛ ‵ ((MutRef (named 0) κ B).own_val a.0 vs) ⊛ ‵ ftrue) ∷ ‵ ftrue ∷ []) ∵
    split ! $ split ! $ move ! (2 ∷ []) $ split ! $ keep ! (0 ∷ 2 ∷ []) $
    enter ! _ _ _ _ _ $ alloc_all ! (λ l. pass_all ! refl ((tt, tt), tt) $
    fsplit3 ! $ move ! (1 ∷ 2 ∷ 3 ∷ []) $ opens ! tt B rb ro (λ us.
    move ! (1 ∷ []) $ peeks ! B _ (shows 𝓛 B) h us (λ is. fsplit ! $ move ! (1 ∷ []) $
    in_a_block ! h.at (λ p. lies_at R full_share p h.value) (id⊢ 𝓤 _) (λ b o e.
    let word = lowers.val_is h us is ∙ ap (λ (p : Ptr). lowers.lowered (record h { at = p }) ∷ []) e in
    let Cell = λ (ws : List Val). ‵ (cell_at full_share B.mir ws rb ro) in
    rewrite ! 2 Cell word refl $
    -- [the value; what the fields own; the handle's cell; the open borrow, in three entries]
    first ! $ blocks ! $
    sets ! (of_opd ! (load ! (through ! refl (fld ! refl (stop !))) (look_in ! 2 (sub ! 0 refl (whole !))))) refl (tt, tt) $
    sets ! (of_opd ! (get ! refl)) refl (tt, tt) $
    sets_last ! (addr ! (through ! refl (stop !))) refl (tt, tt) $
    exec ! 𝓣.C 𝓣.Λ (env code.Mir.locals l) (after 1 (code.function).body) (at_ret _ (W.post y)) $
    sets ! (of_opd ! (get ! refl)) refl (tt, tt) $
    rewrite ! 2 Cell (sym word) refl $
    move ! (1 ∷ 2 ∷ []) $ fjoin ! $ move ! (2 ∷ 3 ∷ 4 ∷ 1 ∷ 0 ∷ []) $ group ! 5 $
    use1 𝓛 (later (some (λ (γ' : GName). raw (Part 𝓛 B R (with_device_verifier h) (named 0) κ q rb ro b o γ (sem 𝓛 (Rest 𝓛 rb ro b o h us)) (back 𝓛 rb ro b o h us e) h.value γ'))))
    (lends_Part 𝓛 B R (with_device_verifier h) (named 0) κ q rb ro b o γ (sem 𝓛 (Rest 𝓛 rb ro b o h us)) (back 𝓛 rb ro b o h us e) (B.coded.code h) (B.coded.code h) h.value) $
    await ! tt $ pick ! (λ γ'.
    returns ! (look_at ! 0 refl) $ free_all ! refl $ keep ! (0 ∷ []) $
    use1 𝓛 (‵ ((MutRef (named 0) κ R).own_val (Lent γ' b o) (vptr b o ∷ [])) ⊛ ‵ (flft κ q) ⊛ ‵ (follows B R γ γ' (with_device_verifier h))) (id⊢ 𝓤 _) $ split ! $ move ! (1 ∷ []) $ split ! $ move ! (2 ∷ []) $
    -- [the reference; the token; what follows]
    suffices ! _ (ends_at 𝓛 f.ended stayed c y (vptr b o) (Lent γ' b o) (tt, tt) (tt, tt)) $
    nothing ! $ nothing ! $ fjoin ! $ join ! $ nothing ! $ move ! (2 ∷ 0 ∷ []) $ join ! $ join ! $ frame ! $ says ! refl $ done !))))))
