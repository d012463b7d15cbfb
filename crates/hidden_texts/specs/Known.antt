-- What is known of the nodes of a state.
use Rattle.std.specs.Prelude.{◌≡◌, Bool, Option, Some, None}
use Rattle.std.specs.Borrow.{Bor}
use Rattle.model.specs.declared.FullNodeId.{FullNodeId}
use Rattle.model.specs.World.{World}
use Rattle.values_by_id.specs.Cells.{value_at}
use Rattle.hidden_texts.specs.declared.passwords.Passwords.{Passwords}
use Rattle.hidden_texts.specs.Hidden.{is_in_password}

-- whatever is known of a node is right in this world
abbrev pub AreRight : World → Passwords → Type 0
AreRight w passwords = (id : FullNodeId) (is_within : Bool) → value_at passwords.known id ≡ Some is_within → is_within ≡ is_in_password w id

-- or nothing is known
abbrev pub AreRightIf : World → Option (Bor Passwords) → Type 0
AreRightIf w None = Unit {0}
AreRightIf w (Some passwords) = AreRight w passwords.now

-- what is known of a node's state is right
abbrev pub IsKnownAt : Option (Bor Passwords) → World × FullNodeId → Type 0
IsKnownAt passwords node = AreRightIf node.0 passwords
