use Rattle.std.proofs.Common.{◌≡◌, ◌++◌, map}
use Rattle.std.specs.List.{FoldsTo}
use Rattle.std.specs.Prelude.{reverse}
use Rattle.page_states.specs.Again.{no_folds, row_shown, Leads}
use Rattle.page_states.specs.Subtrees.{AreSames}
use Rattle.page_states.proofs.again.rows_of.Given as goal

-- the rows so far, and the nodes that are left
abbrev pub invariant-loop-one : goal.invariant-loop-one
invariant-loop-one l = record {
  shown : map row_shown l.rows.items ≡ l.yielded;
  all : l.fn.shown.items ≡ l.yielded ++ l.one-iterator.rest.items;
  sames : AreSames l.fn.kept l.one-iterator.rest.items (reverse l.sames.items);
  ways : FoldsTo (Leads l.fn.kept) (no_folds, l.fn.shown.items) l.rows.items (l.folds, l.one-iterator.rest.items);
}
