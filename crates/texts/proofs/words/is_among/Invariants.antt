use Rattle.std.proofs.Common.{◌≡◌, ◌==◌, drop}
use Rattle.std.specs.List.{list_any}
use Rattle.texts.proofs.words.is_among.Given as goal

abbrev pub invariant-loop-number : goal.invariant-loop-number
invariant-loop-number l = list_any (λ k. k == l.sought) l.numbers ≡ list_any (λ k. k == l.sought) (drop l.number-index l.numbers)
