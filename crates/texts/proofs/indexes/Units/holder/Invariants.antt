use Rattle.std.proofs.Common.{◌≡◌, ◌+◌, true, drop}
use Rattle.std.specs.Str.{IsUtf8}
use Rattle.schema.specs.RunFits.{is_cut_by}
use Rattle.model.specs.TextRuns.{cut_by, run_value}
use Rattle.views.specs.Runs.{sent_of}
use Rattle.texts.specs.GlobalIndexes.{length_to}
use Rattle.texts.proofs.indexes.Units.holder.Given as goal

abbrev pub invariant-loop-length : goal.invariant-loop-length
invariant-loop-length l = record {
  text : IsUtf8 l.rest;
  counted : l.number ≡ l.length-index;
  cut : is_cut_by l.rest (drop l.length-index l.lengths) ≡ true;
  same : drop l.length-index (cut_by (run_value (sent_of l.fn.run)) l.lengths) ≡ cut_by l.rest (drop l.length-index l.lengths);
  passed : l.left + length_to l.fn.self l.fn.masked (sent_of l.fn.run) l.length-index ≡ l.fn.index;
}
