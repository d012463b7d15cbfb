use Rattle.std.proofs.Common.{◌≡◌, nat_lt, find, reverse, take}
use Rattle.texts.proofs.words.last_below.Given as goal

abbrev pub invariant-loop-number : goal.invariant-loop-number
invariant-loop-number l = l.found ≡ find (λ k. nat_lt k l.other) (reverse (take l.number-index l.numbers))
