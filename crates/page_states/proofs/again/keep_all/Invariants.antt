use Rattle.std.proofs.Common.{◌≡◌, ◌++◌}
use Rattle.std.specs.List.{FoldsTo}
use Rattle.page_states.specs.Again.{Puts}
use Rattle.page_states.proofs.again.keep_all.Given as goal

-- the rows so far are kept, and these are left
abbrev pub invariant-loop-row : goal.invariant-loop-row
invariant-loop-row l = record {
  kept : FoldsTo (Puts l.fn.number l.fn.has_picture) l.fn.kept l.yielded l.kept;
  all : l.fn.rows.items ≡ l.yielded ++ l.row-iterator.rest.items;
}
