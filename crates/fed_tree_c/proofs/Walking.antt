-- The names that the proofs by hand cite.
pub use Rattle.std.proofs.Common.{◌≡◌, List, [], ◌∷◌, refl, sym, ap, subst, ◌∙◌, Option, Some, None, is_some, Bool, true, lit<}
pub use Rattle.std.proofs.raw_atomic.Walks.{proved}
pub use base.Fraction.{full_share}
pub use base.Logic.{id⊢}
pub use base.Fml.{ftrue, flft}
pub use mir.Val.{Val, vstruct, vcons, vnil}
pub use contract.Monad.{fact}
pub use contract.Running.{tables}
pub use types.Kit.{‵, raw, ◌⊛◌, some, later, ◌$◌, ◌∵◌, !, qed, done, move, keep, drop, use1, use2, split, join, fsplit, fjoin, fpick, fpack, feq_l, pick, await, rewrite, suffices}
pub use types.Part.{agg, whole, sub}
pub use types.Run.{enter, of_opd, lit, and_then, no_more, stop, fld, returns}
pub use types.ByLocal.{alloc_all, pass_all, free_all, look_at, get, get_in, sets, lands_as}
pub use denote.Exit.{yes, no}
pub use denote.RawPtr.{Ptr, block_ptr, null_ptr, ptr_val}
pub use denote.Signature.{plain}
pub use denote.Steps.{nothing, owned, heard}
pub use denote.Struct.Struct.{Struct, Struct-Makes}
pub use denote.Struct.Owning.{shape}
pub use denote.Triple.Call.{calls_at}
pub use denote.Triple.Clauses.{lasts}
pub use denote.Triple.Entry.{on_entry}
pub use denote.Triple.Spec.{triple_of}
pub use denote.Triple.Table.{framed}
pub use denote.Triple.Walked.{Stays, walk_of, says, stay_dropped, Goes-dropped, ends_at}
pub use lib.Dec.{T}
