use Rattle.std.proofs.Common.{rules, ◌≡◌, ◌++◌, ◌∷◌, [], ◌+◌, length, None, refl, ap, sym, subst, ◌∙◌, length-append}
use Rattle.tree_store.specs.declared.cell_list.Slot.TheVariants.{Free}
use Rattle.tree_store.specs.declared.cell_list.Cell.{Cell}
use Rattle.tree_store.specs.CellLists.{AreFree}
use Rattle.tree_store.proofs.CellLists.{free_more}
use Rattle.tree_store.proofs.cell_list.free_cells.Goals as goal

abbrev new : Cell
new = record { id = record { tree = 0; node = record { 0 = 0 } }; place = None; slot = Free }

pub loop-preserved : goal.loop-preserved
loop-preserved c =
    let is : c.push.new.self.items ≡ c.loop.cells.items ++ new ∷ [] = search rules in
    record {
      count = ap length is ∙ length-append c.loop.cells.items (new ∷ []) ∙ ap (λ n. n + 1) c.loop.invariant.count;
      free = subst AreFree (sym is) (free_more c.loop.cells.items new refl c.loop.invariant.free);
    }
