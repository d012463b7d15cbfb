-- The allocator of the heap as a type argument of a box, and a box as the machine has it.
use Rattle.fed_tree_c.proofs.Walking.{[], ◌∷◌, refl, ◌∙◌, no, Val, vstruct, vcons, vnil, ptr_val}
use mir.Raw.{raw as bare}
use mir.Syntax.{Dict, impl, dnil, tcons, tnil}
use mir.Val.{of_list}
use seplogic.Ra.Ura.{Ura}
use types.Logic.{Logic}
use prog.Model.{Model}
use prog.Wired.{Wired}
use contract.Running.{Running}
use denote.Laws.{Is, Tells}
use denote.Param.{arg, layout}
use denote.Param.Laws.{Laws, arg_laws}
use denote.Param.Glue.{Met}
use denote.Param.NoDrop.{glues}
use denote.RattleType.{RattleType, flat}
use denote.Struct.Owning.{shape}
use Rattle.std.specs.contracts.alloc.Global.{the_row as heap_row}
use Rattle.std.proofs.alloc.Global.TheLaws.{lowers as heap_lowers, the_row_laws as heap_laws}
use Rattle.std.specs.contracts.impls.GlobalAllocator.TheImpl.{ghosts}
use Rattle.std_alloc.specs.contracts.boxed.Box.{the_row as box_row, the_type as box_type}
use Rattle.fed_tree_c.proofs.Destruct++none.drop.Code as no_drop_code

abbrev pub heap_arg : RattleType
heap_arg = arg (bare (layout heap_row)) no heap_row

pub heap_arg_laws : Laws heap_arg
heap_arg_laws = arg_laws (bare (layout heap_row)) no heap_row heap_laws refl

-- it needs no drop
abbrev pub no_drop : Dict
no_drop = impl ("fed_tree_c::Destruct++none::drop" ∷ []) (tcons (layout heap_arg) tnil) dnil

pub heap_glue : {M : Type 1} {𝓤 : Ura M} (𝓛 : Logic 𝓤) (𝓜 : Model 𝓤 𝓛.H) (𝓡 : Running 𝓤 𝓛.H 𝓜) → Wired 𝓡.env no_drop_code.code → Met 𝓛 𝓜 𝓡 𝓡.env heap_arg no_drop
unfolding no_drop_code.code
heap_glue {M} {𝓤} 𝓛 𝓜 𝓡 wired = glues "fed_tree_c::Destruct++none::drop" 𝓡.env wired heap_arg heap_arg_laws M 𝓤 𝓛 𝓜 𝓡

module _ (R : RattleType) where
  abbrev B : RattleType
  B = box_row R heap_row ghosts

  abbrev pub box_word : B.Denot → Val
  box_word d = vstruct (vcons (ptr_val d.ptr) (vcons (heap_lowers.lowered d.alloc) vnil))

  pub box_tells : Tells B (Is B) (λ d. box_word d ∷ [])
  box_tells d vs p = p.0.1.0 ∙ (λ i. vstruct (of_list (flat (shape (box_type R heap_row ghosts)).fields (p.0.1.1.0 i, (heap_lowers.val_is d.alloc p.0.0.1.0 p.0.1.1.1.0 i, tt)))) ∷ [])
