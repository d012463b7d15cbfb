-- What is known of the nodes of a state.
use Rattle.std.proofs.Common.{◌≡◌, Bool, true, false, cond, ◌||◌, List, [], ◌∷◌, map, Option, Some, None, Bor, refl, sym, ap, ◌∙◌}
use Rattle.std.specs.Prelude.{All}
use Rattle.std.specs.BTreeMap.{is_at}
use Rattle.std.specs.List.{list_any}
use Rattle.std.proofs.lemmas.List.Elements.{All-nil, All-cons}
use Rattle.std.proofs.lemmas.Option.{same_Some}
use Rattle.model.specs.declared.FullNodeId.{FullNodeId}
use Rattle.model.specs.World.{World}
use Rattle.model.specs.Forest.{IsFormed}
use Rattle.model.specs.FullIds.{full_cmp}
use Rattle.model.specs.TextRuns.{is_password}
use Rattle.views.specs.PlainWalks.{node_in}
use Rattle.views.proofs.Climbing.{parent_of, parent_above, nothing_above}
use Rattle.values_by_id.specs.Cells.{value_at}
use Rattle.values_by_id.proofs.Entries.{same_id}
use Rattle.hidden_texts.specs.declared.passwords.Passwords.{Passwords}
use Rattle.hidden_texts.specs.Hidden.{is_in_password}
use Rattle.hidden_texts.specs.Known.{AreRight, AreRightIf, IsKnownAt}

-- what is known of a state is known of each of these nodes
pub known_of_each : (known : Option (Bor Passwords)) (w : World) (ids : List FullNodeId) → AreRightIf w known → All (IsKnownAt known) (map (node_in w) ids)
known_of_each known w [] right = All-nil (IsKnownAt known)
known_of_each known w (id ∷ ids) right = All-cons (IsKnownAt known) (node_in w id) (map (node_in w) ids) right (known_of_each known w ids right)

-- these are nodes of the world
pub of_world : (w : World) (ids : List FullNodeId) → All (λ (n : World × FullNodeId). n.0 ≡ w) (map (node_in w) ids)
of_world w [] = All-nil (λ (n : World × FullNodeId). n.0 ≡ w)
of_world w (id ∷ ids) = All-cons (λ (n : World × FullNodeId). n.0 ≡ w) (node_in w id) (map (node_in w) ids) refl (of_world w ids)

-- nothing is known at first
pub none_known : (w : World) (passwords : Passwords) → passwords.known ≡ [] → AreRight w passwords
none_known w passwords none id b at = let clash : None ≡ Some b = sym (ap (λ es. value_at es id) none) ∙ at in cc

-- what is noted is right, and so is the rest
pub noted : (w : World) (old new : Passwords) (id : FullNodeId) (b : Bool) → ((q : FullNodeId) → value_at new.known q ≡ cond (is_at (full_cmp id) q) (Some b) (value_at old.known q)) →
    b ≡ is_in_password w id → AreRight w old → AreRight w new
noted w old new id b set is right q found at = by_case (is_at (full_cmp id) q) refl (sym (set q) ∙ at)
  where
    by_case : (here : Bool) → is_at (full_cmp id) q ≡ here → cond here (Some b) (value_at old.known q) ≡ Some found → found ≡ is_in_password w q
    by_case true e h = sym (same_Some b found h) ∙ is ∙ ap (is_in_password w) (same_id id q e)
    by_case false e h = right q found h

-- a node is in a password if its parent is one, or is in one
pub by_parent : (w : World) → IsFormed w → (id q : FullNodeId) → Some q ≡ parent_of w id → (is_password w q || is_in_password w q) ≡ is_in_password w id
by_parent w formed id q e = sym (ap (list_any (is_password w)) (parent_above w formed id q e))

-- and in none if it has none
pub by_none : (w : World) → IsFormed w → (id : FullNodeId) → None ≡ parent_of w id → false ≡ is_in_password w id
by_none w formed id e = sym (ap (list_any (is_password w)) (nothing_above w formed id e))
