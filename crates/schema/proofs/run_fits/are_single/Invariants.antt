use Rattle.std.proofs.Common.{◌≡◌, take}
use Rattle.std.specs.Prelude.{◌==◌, nat_lt}
use Rattle.std.specs.List.{list_all}
use Rattle.schema.proofs.run_fits.are_single.Given as goal

abbrev pub invariant-loop-index : goal.invariant-loop-index
invariant-loop-index l = record {
  ones : l.are_ones ≡ list_all (λ n. n == 1) (take l.index l.lengths);
  ascii : nat_lt l.most 128 ≡ list_all (λ b. nat_lt b 128) (take l.index l.bytes);
}
