-- What a block of the heap owns.
use Rattle.std.specs.Prelude.{Option, Some, None}
use Rattle.std.specs.Box.Ownership.{box_owns}
use Rattle.std.specs.contracts.impls.GlobalAllocator.TheImpl.{ghosts}
use Rattle.std.specs.declared.alloc.Global.{Global}
use Rattle.fed_tree.specs.Fed.{Fed}
use Rattle.fed_tree.specs.contracts.feeding.FedTree.{the_row}
use base.Fml.{Fml, fex, ftrue}
use denote.RattleType.{RattleType}
use denote.RawPtr.{Ptr}

-- a value in a block of the heap at this address, and the right to free that block
abbrev pub lies_boxed : (R : RattleType) → Ptr → R.Denot → Fml
lies_boxed R at value = fex Global (λ heap. box_owns (ghosts.dealloc_token heap) R at value)

-- a tree in its block, or nothing
abbrev pub holds : Ptr → Option Fed → Fml
holds at None = ftrue
holds at (Some tree) = lies_boxed the_row at tree
