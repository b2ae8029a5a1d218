-- The names that the walks of pointers cite.
pub use Rattle.std.proofs.Common.{◌≡◌, ℕ, List, [], ◌∷◌, ◌++◌, refl, sym, ap, ◌∙◌, subst}
pub use Rattle.std.specs.Prelude.{Option, Some, None, is_some, true}
pub use mir.Val.{Val, vptr}
pub use base.Logic.{SProp, ent, emp, id⊢, fst∗, sep}
pub use base.Fml.{ftrue, Fml, GName, fsep, flft}
pub use prog.Wp.{WpFn}
pub use types.Kit.{‵, raw, ◌⊛◌, ◌$◌, ◌∵◌, !, qed, by, move, keep, drop, split, fsplit, fjoin, suffices, use0, use1, some, later, at_ret, done, split3, join, fsplit3, fpack, pick, await, rewrite, frame, group}
pub use types.Run.{stop, fld, of_opd, lit, no_more, and_then, returns, enter, load, addr, first, blocks, exec}
pub use types.ByLocal.{alloc_all, pass_all, free_all, look_at, get, get_in, sets, through, sets_last, env}
pub use types.Part.{agg, sub, whole, look_in}
pub use contract.Monad.{fact, fact_i}
pub use contract.Running.{tables}
pub use denote.Exit.{yes, no}
pub use denote.RattleType.{RattleType, owns}
pub use denote.Signature.{types_at, plain, mut_ref_to}
pub use denote.RawPtr.{block_ptr, null_ptr, Ptr}
pub use denote.Steps.{nothing, heard, opens}
pub use denote.Triple.Walked.{Stays, stay_dropped, walk_of, Goes-dropped, says, ends_at, Goes-spent_ref}
pub use Rattle.core.proofs.alloc.Calls.{handle_tells, Goes-blank}
pub use Rattle.core.proofs.atomic.Steps.{Ptr-Good, tail}
pub use Rattle.std.specs.contracts.alloc.Global.{the_row as Heap}
pub use Rattle.std.proofs.alloc.Global.TheLaws.{the_row_laws as heap_laws}
pub use Rattle.std.specs.contracts.impls.GlobalAllocator.TheImpl.{ghosts}
pub use Rattle.std.proofs.raw_atomic.Walks.{proved_at, leaves, proved}
pub use Rattle.hedrugal.specs.Owned.{owned, heap}
pub use Rattle.hedrugal.proofs.RawBoxValues.{PartsType, allocator, two_words, parts_fit, open_parts, close_parts}
pub use Rattle.hedrugal.proofs.OwnedPointerValues.{one_word, open_held, close_owned}
pub use mir.Syntax.{named, a_type, dcons, dnil}
pub use base.Fraction.{full_share}
pub use seplogic.Ra.Ura.{Ura}
pub use types.Logic.{Logic, sem}
pub use denote.Follow.{follows, Part, lends_Part}
pub use denote.Memory.{part_at, cell_at, lone, mem}
pub use denote.Ref.{MutRef, mut_vals, mut_Tells}
pub use mir.Raw.{raw as bare}
pub use mir.MapTy.{inst_fn}
pub use Rattle.core.proofs.alloc.Shapes.{after}
pub use contract.BorrowLft.{◌⊑◌}
pub use denote.Param.{param, bounded}
