-- What is new in live regions in a step.
use Rattle.std.specs.Prelude.{◌≡◌, ℕ, List, [], length, Bool, Option, Some, None}
use Rattle.std.specs.BTreeSet.{contains, insert_key}
use Rattle.model.specs.declared.FullNodeId.{FullNodeId}
use Rattle.model.specs.FullIds.{full_cmp}
use Rattle.speaking.specs.declared.news.News.{News}

abbrev pub no_news : News
no_news = record { nodes = record { keys = [] }; regions = record { keys = [] } }

-- the node's text is new
abbrev pub is_new : News → FullNodeId → Bool
is_new n id = contains full_cmp n.nodes id

-- anything is new in the region
abbrev pub is_region_of : News → FullNodeId → Bool
is_region_of n region = contains full_cmp n.regions region

-- nothing is new
abbrev pub HasNoRegion : News → Type 0
HasNoRegion n = length n.regions.keys ≡ 0

-- one more node is new, in this region
pub record IsNoted (node region : FullNodeId) (m n : News) : Type 0 where
  pub nodes : n.nodes.keys ≡ insert_key full_cmp m.nodes.keys node
  pub regions : n.regions.keys ≡ insert_key full_cmp m.regions.keys region

-- that is noted where there is a text, and the node is in a region
abbrev pub Notes : FullNodeId → Option FullNodeId → Option (List ℕ) → News → News → Type 0
Notes node None text m n = n ≡ m
Notes node (Some region) None m n = n ≡ m
Notes node (Some region) (Some text) m n = IsNoted node region m n
