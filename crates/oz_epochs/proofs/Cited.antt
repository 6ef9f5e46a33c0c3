-- The names that the proofs about `RawBlock` cite.
pub use Rattle.std.proofs.Common.{ℕ, [], ◌∷◌, refl, lit<, true, false, ◌≡◌, List, arith, ◌+◌, ◌^◌, ◌<◌, ◌≤◌, ◌-◌, sym, subst, length, ap, ◌++◌, suc}
pub use Rattle.std.proofs.Words.{pointer_in, pointer_out}
pub use Rattle.std.proofs.alloc.Calls.{Answer, Answer-typed, answer_val}
pub use Rattle.std.proofs.alloc.Resizes.{wider, Flagged, by_flag, flagged}
pub use Rattle.std.proofs.alloc.Shapes.{after}
pub use Rattle.std.proofs.mem.Facts.{says_two}
pub use Rattle.std.proofs.mem.Param.{one}
pub use Rattle.std.proofs.ptr.Rows.{times_below}
pub use Rattle.std.proofs.raw_atomic.Walks.{proved, proved_at}
pub use Rattle.std.specs.Allocator.{array_of, HasLayout, FitsBlock, block_if_ok, resized_if_ok}
pub use Rattle.std.specs.Prelude.{MatchResult, Ok, Err, Bool, slice_set}
pub use Rattle.std.specs.contracts.impls.GlobalAllocator.TheImpl.{ghosts}
pub use base.Fml.{ftrue, flft, Fml, fobs, fbor, ffalse, fsep, GName, froom, fat}
pub use base.Fraction.{full_share}
pub use base.Logic.{emp, ex, never, fst∗, id⊢, SProp, ent, sep}
pub use borrow.Table.OneValue.{part_in, part_out}
pub use contract.BorrowLft.{◌⊑◌}
pub use contract.Monad.{fact, fact_i}
pub use contract.Running.{tables}
pub use denote.Builtin.{usize, RefOf, unit}
pub use denote.Exit.{yes, no}
pub use denote.Follow.{follows, lends_Part}
pub use denote.Laws.{Is}
pub use denote.Memory.{lone, mem, part_at, hidden_shr}
pub use denote.Opens.{hide, unhide}
pub use denote.Param.{param, layouts, layout}
pub use denote.Param.Laws.{param_laws}
pub use denote.Plain.{uint_Makes, uint_vals, uint_Tells}
pub use denote.RattleType.{RattleType, owns}
pub use denote.RawPtr.{null_ptr, block_ptr, Ptr, rawptr_vals, RawPtr, in_a_block, ptr_row_laws, rawptr_Lawful}
pub use denote.Ref.{shr_vals, shr_Tells, mut_vals, mut_Tells, Bor, MutBor, MutRef}
pub use denote.SharingLaws.{contraction}
pub use denote.Signature.{plain, types_at}
pub use denote.Slice.{slice_val}
pub use denote.Steps.{owned, nothing, heard, only}
pub use denote.Struct.Laws.{RawPtr-laws}
pub use denote.Struct.OwningLaws.{Tells-lowered, lawful}
pub use denote.Triple.Call.{calls_at, calls_at_last}
pub use denote.Triple.Clauses.{lasts}
pub use denote.Triple.Entry.{alive}
pub use denote.Triple.Spec.{triple_of}
pub use denote.Triple.Table.{framed}
pub use denote.Triple.Walked.{walk_of, ends_at, says, Stays, stay_ref, stay_dropped, Goes-ref, Goes-dropped, Goes-spent_ref}
pub use lib.Dec.{T, ltb→lt}
pub use lib.ListN.{length-set, length-append}
pub use mir.MapTy.{inst_fn}
pub use mir.Syntax.{a_type, w64, named, ty_unit}
pub use mir.Val.{vint, Val, has_ty, WT, vptr, vunit}
pub use native.Mathlib.Nat.{add_comm}
pub use prog.Capped.{capped_fits}
pub use prog.Memory.{size, capped, align}
pub use prog.Wp.{WpFn}
pub use types.ByLocal.{alloc_all, pass_all, free_all, look_at, sets, get_tag, through, sets_last, lands_as, get, get_in, env, lands_last, is}
pub use types.Kit.{‵, raw, ◌⊛◌, ◌$◌, ◌∵◌, !, qed, done, keep, move, split, suffices, feq_i, at_ret, some, later, await, pick, drop, use0, use1, use2, by, split3, join, fsplit, fsplit3, fjoin, fjoin3, rewrite, flt_l, flt_i, group, frame, prop, regoal, feq_l}
pub use types.Logic.{sem}
pub use types.Match.{vrt, in_variant}
pub use types.Mut.{open_ref, close_ref}
pub use types.Part.{agg, store_in, whole, sub, look_in}
pub use types.Run.{enter, of_opd, size_word, returns, lit, and_then, no_more, assigns, switches, unit_lit, fld, stop, align_word, first, exec, load, blocks, look, bin, addr, init, assigns_last, well_typed, forget, branches, skips}
pub use types.SemTy.{Body, cells}
