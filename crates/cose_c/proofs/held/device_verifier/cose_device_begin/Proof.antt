-- `cose_device_begin` meets its contract: a walk of its MIR by hand. The value that `closed` gives is written to the caller's room.
use Rattle.cose_c.proofs.Imports.{◌≡◌, List, [], ◌∷◌, None, refl, proved, full_share, ftrue, froom, ex_e, id⊢, sep, snd∗, part_in_at, reroom, wt_as, fact, tables, yes, Is, shows, lone, part_at, Ptr, RawPtr, block_ptr, in_a_block, rawptr_Tells, rawptr_vals, room_at, plain, heard, nothing, peeks, calls_at, ensured, lasts, on_entry, triple_of, framed, Goes-dropped, Stays, ends_at, says, stay_dropped, walk_of, Local, Ty, local, ty_ptr, Val, vunit, WpFn, alloc_all, free_all, get, lands_as, look_at, pass_all, sets, through, !, await, done, drop, feq_i, frame, group, join, later, move, pick, prop, qed, raw, regoal, show, some, split, suffices, use1, use2, ◌$◌, ◌∵◌, ◌⊛◌, ‵, sem, assigns, enter, init, no_more, of_opd, returns, stop, unit_lit}
use Rattle.cose_c.specs.declared.held.device_verifier.HeldDeviceVerifier.{HeldDeviceVerifier}
use Rattle.cose_c.specs.contracts.held.device_verifier.HeldDeviceVerifier.{the_row as R}
use Rattle.cose_c.proofs.held.device_verifier.HeldDeviceVerifier.TheLaws.{the_row_laws}
use Rattle.cose_c.specs.contracts.held.device_verifier.closed as g
use Rattle.cose_c.proofs.held.device_verifier.closed.Met.{met}
use Rattle.cose_c.specs.contracts.held.device_verifier.cose_device_begin as f
use Rattle.cose_c.proofs.held.device_verifier.cose_device_begin.Statement.{statement}
use Rattle.cose_c.proofs.held.device_verifier.cose_device_begin.Code as code

abbrev stayed : Stays f.ended.signature.params f.ended.kept
stayed = (stay_dropped _ yes, tt)

-- The type of the value, and as the code names it.
abbrev τ : Ty
τ = lone R.mir

abbrev type_at : List Local → Ty
type_at (result ∷ at ∷ to ∷ local t held ∷ rest) = t
type_at _ = ty_ptr

abbrev δ : Ty
δ = type_at (code.function).locals

pub cose_device_begin_spec : {M : Type 1} → statement M
cose_device_begin_spec 𝓤 𝓛 𝓜 𝓡 wired =
    let c = f.clauses 𝓛 𝓜.mem 𝓡.returns in let W = walk_of 𝓛 f.ended stayed c in let 𝓣 = tables 𝓤 𝓛.H 𝓜 𝓡 𝓡.env in
    proved 𝓛 f.ended stayed c 𝓜 𝓡 (Goes-dropped 𝓛 0 (plain (λ _. RawPtr)) yes (λ κs x w. refl), tt)
    f.Key.name code.function (code.unfolded 𝓤 𝓛.H 𝓜 𝓡 wired)
    (λ κs. (rawptr_vals, tt)) (λ κs. (rawptr_Tells, tt)) (λ κs qs bounds a _ are.
    let y : Ptr → W.Ghost = λ p. ((κs, qs, bounds, (p, tt), (rawptr_vals p, tt)), tt) in
    qed 𝓛 (raw (on_entry 𝓛 f.signature κs qs a (y a.0).0.4) ∷ ‵ (room_at R a.0) ∷ []) ∵ drop ! $
    in_a_block ! a.0 (λ p. room_at R p) (id⊢ 𝓤 _) (λ b o e.
    regoal ! (λ p. prop (WpFn 𝓤 𝓛.H 𝓣.C 𝓣.Λ code.function (rawptr_vals p) (W.post (y p)))) e refl $
    use1 𝓛 (‵ (froom δ b o)) (reroom 𝓛 τ δ refl b o) $
    enter ! _ _ _ _ _ $ alloc_all ! (λ l. pass_all ! refl ((tt, tt), tt) $
    -- at as *mut HeldDeviceVerifier
    sets ! (of_opd ! (get ! refl)) refl (tt, tt) $
    -- closed()
    let G = triple_of 𝓛 g.signature (g.spec 𝓛 𝓜.mem 𝓡.returns) in
    let z : G.Ghost = ((tt, tt, tt, tt, tt), tt) in
    nothing ! $ nothing ! $ join ! $ nothing ! $ move ! (1 ∷ 0 ∷ []) $ join ! $ use1 𝓛 (raw (G.pre z)) (id⊢ 𝓤 _) $
    calls_at ! (framed 𝓤 𝓛.H 𝓜 𝓣) G (met 𝓤 𝓛 𝓜 𝓡 (code.calls-cose_c::held::device_verifier::closed 𝓡.env wired)) z (no_more !) (λ v.
    use1 𝓛 (later (some (λ (made : HeldDeviceVerifier). (‵ ftrue ⊛ ‵ (R.own_val made (v ∷ []))) ⊛ raw (ensured 𝓛 g.ended (g.clauses 𝓛 𝓜.mem 𝓡.returns) tt tt tt made)))) (id⊢ 𝓤 _) $
    await ! tt $ pick ! (λ made. split ! $ move ! (1 ∷ []) $
    use1 𝓛 (raw (fact 𝓤 (made.content ≡ None))) (ex_e 𝓤 _ (λ ws. snd∗ 𝓤 (sem 𝓛 (lasts g.ended tt tt ws)) (fact 𝓤 (made.content ≡ None)))) $
    heard ! (made.content ≡ None) (λ empty. split ! $ drop ! $
    peeks ! R (Is R) (shows 𝓛 R) made (v ∷ []) (λ is. lands_as ! refl refl ((the_row_laws.lawful 𝓛).typed made _ is).0 $
    -- ptr::write(..)
    assigns ! (of_opd ! (get ! refl)) (through ! refl (stop !)) (init ! 1 refl (wt_as τ δ refl v ((the_row_laws.lawful 𝓛).typed made _ is).0)) $
    sets ! (of_opd ! (unit_lit !)) refl (tt, tt) $
    returns ! (look_at ! 0 refl) $ free_all ! refl $
    -- [what the value owns; the cell]
    move ! (1 ∷ 0 ∷ []) $ use2 𝓛 (‵ (part_at R full_share made b o)) (part_in_at 𝓛 R refl full_share made b o δ refl v) $
    suffices ! _ (ends_at 𝓛 f.ended stayed c (y (block_ptr b o)) vunit tt (tt, tt) (tt, tt)) $
    feq_i ! (List Val) (vunit ∷ []) (vunit ∷ []) refl $ nothing ! $ nothing ! $ join ! $ nothing ! $ group ! 3 $
    frame ! $ show ! (λ (w : HeldDeviceVerifier). sep 𝓤 (sem 𝓛 (part_at R full_share w b o)) (fact 𝓤 (w.content ≡ None))) made $ says ! empty $ done !)))))))
