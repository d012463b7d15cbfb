use Rattle.std.proofs.Common.{◌≡◌, true, drop}
use Rattle.std.specs.Str.{IsUtf8}
use Rattle.texts.specs.PieceTexts.{are_cut_off, left_by}
use Rattle.texts.proofs.traversals.past.Given as goal

abbrev pub invariant-loop-length : goal.invariant-loop-length
invariant-loop-length l = record {
  same : left_by l.rest (drop l.length-index l.lengths) ≡ left_by l.text l.lengths;
  cut : are_cut_off l.rest (drop l.length-index l.lengths) ≡ true;
  text : IsUtf8 l.rest;
}
