-- What is proved of the order of a filter's answers.
use Rattle.std.specs.Prelude.{◌≡◌, ℕ}
use Rattle.std.specs.Ordering.{nat_cmp}
use Rattle.model.specs.declared.filters.FilterResult.{FilterResult}
use Rattle.model.specs.declared.filters.FilterResult.TheVariants.{Include, ExcludeNode, ExcludeSubtree}
use Rattle.model.specs.contracts.filters.FilterResultOrd.TheImpl as ord

-- how much an answer excludes: nothing, the node, or the node with its subtree
abbrev pub exclusion : FilterResult → ℕ
exclusion Include = 0
exclusion ExcludeNode = 1
exclusion ExcludeSubtree = 2

-- `cmp` of two answers compares how much they exclude
abbrev pub OrderIsByExclusion : Type 0
OrderIsByExclusion = (a b : FilterResult) → ord.ghosts.cmp a b ≡ nat_cmp (exclusion a) (exclusion b)
