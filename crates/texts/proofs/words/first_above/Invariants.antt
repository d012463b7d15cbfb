use Rattle.std.proofs.Common.{◌≡◌, nat_lt, find, drop}
use Rattle.texts.proofs.words.first_above.Given as goal

abbrev pub invariant-loop-number : goal.invariant-loop-number
invariant-loop-number l = find (λ k. nat_lt l.other k) l.numbers ≡ find (λ k. nat_lt l.other k) (drop l.number-index l.numbers)
