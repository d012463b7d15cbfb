use Rattle.std.proofs.Common.{◌≡◌, drop}
use Rattle.std.specs.Str.{IsUtf8}
use Rattle.schema.specs.RunFits.{is_cut_by}
use Rattle.schema.proofs.run_fits.is_cut_by.Given as goal

abbrev pub invariant-loop-length : goal.invariant-loop-length
invariant-loop-length l = record { same : is_cut_by l.value l.lengths ≡ is_cut_by l.rest (drop l.length-index l.lengths); text : IsUtf8 l.rest }
