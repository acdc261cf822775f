-- The imports of the proofs under held/.
pub use Rattle.std.proofs.Common.{◌≡◌, ℕ, List, [], ◌∷◌, None, MutBor, refl, sym, ap, ◌∙◌}
pub use Rattle.std.proofs.raw_atomic.Walks.{proved}
pub use Rattle.std.proofs.VecSteps.Shapes.{after}
pub use seplogic.Ra.Ura.{Ura}
pub use base.Fraction.{full_share}
pub use base.Fml.{GName, Fml, ftrue, flft, froom, fsep}
pub use base.Logic.{ent, ex_e, id⊢, sep, snd∗}
pub use borrow.Table.OneValue.{part_in_at, reroom, wt_as}
pub use contract.Monad.{fact}
pub use contract.Running.{tables}
pub use denote.Exit.{no, yes}
pub use denote.Follow.{follows, Part, lends_Part}
pub use denote.Laws.{Is, shows}
pub use denote.Memory.{cell_at, lone, mem, part_at}
pub use denote.Opens.{hide, shr_dup, unhide}
unfoldable pub use denote.Memory.{part_of}
pub use denote.RawPtr.{Ptr, RawPtr, block_ptr, in_a_block, lies_at, rawptr_Tells, rawptr_vals, room_at}
pub use denote.Ref.{MutRef, mut_Tells, mut_vals}
pub use denote.Signature.{mut_ref_to, plain, type_at}
pub use denote.Steps.{closes, heard, nothing, opens, peeks}
pub use denote.Struct.Owning.{shape}
pub use denote.Struct.Struct.{Struct}
pub use denote.Triple.Call.{calls_at}
pub use denote.Triple.Clauses.{ensured, lasts}
pub use denote.Triple.Entry.{on_entry}
pub use denote.Triple.Spec.{triple_of}
pub use denote.Triple.Table.{framed}
pub use denote.Triple.Walked.{Goes-dropped, Goes-ref, Goes-spent_ref, Stays, ends_at, says, stay_dropped, stay_ref, walk_of}
pub use mir.Syntax.{Local, Ty, local, named, ty_ptr}
pub use mir.Val.{Val, vptr, vunit}
pub use prog.Wp.{WpFn}
pub use types.ByLocal.{alloc_all, env, free_all, get, lands_as, look_at, pass_all, sets, sets_last, through}
pub use types.Kit.{ !, at_ret, await, done, drop, feq_i, fjoin, fjoin3, fpack, frame, fsplit, fsplit3, group, join, keep, later, move, pick, prop, qed, raw, regoal, rewrite, show, some, split, suffices, use1, use2, ◌$◌, ◌∵◌, ◌⊛◌, ‵}
pub use types.Logic.{Logic, sem}
pub use types.Part.{look_in, sub, whole}
pub use types.Run.{addr, assigns, blocks, enter, exec, first, fld, init, load, no_more, of_opd, returns, stop, unit_lit}
