use Rattle.std.proofs.Common.{◌≡◌, drop}
use Rattle.std.specs.Prelude.{bytes_eq}
use Rattle.std.specs.List.{list_all}
use Rattle.model.specs.TextRuns.{cut_by}
use Rattle.views.proofs.node.run_texts.has_only.Given as goal

-- the characters so far are this one
abbrev pub invariant-loop-length : goal.invariant-loop-length
invariant-loop-length l = list_all (bytes_eq l.fn.character) (cut_by l.rest (drop l.length-index l.fn.lengths)) ≡ list_all (bytes_eq l.fn.character) (cut_by l.fn.text l.fn.lengths)
