-- What is kept of a range, and looked for in a later state.
use Rattle.std.proofs.Common.{◌≡◌, Bool, true, false, Some, refl, sym, ap, subst}
use Rattle.std.specs.Prelude.{None, Option, is_some, ◌||◌, nat_lt, length}
use Rattle.std.specs.Option.{option_map_or}
use Rattle.std.proofs.lemmas.Bool.{and_parts}
use Rattle.model.specs.declared.FullNodeId.{FullNodeId}
use Rattle.model.specs.World.{World, IsNode, data_of}
use Rattle.model.specs.Forest.{is_same}
use Rattle.model.specs.Beside.{is_below}
use Rattle.model.specs.Lists.{IsWithin}
use Rattle.model.specs.RoleClasses.{holds_text}
use Rattle.model.specs.Upward.{says}
use Rattle.model.specs.TextRuns.{sent_runs, supports_text_ranges}
use Rattle.model.proofs.Forest.WaysUp.{within_is_tested}
use Rattle.model.proofs.Text.TextFacts.{is_text}
use Rattle.views.specs.declared.node.node_ref.NodeRef.{NodeRef}
use Rattle.views.specs.declared.runs.Run.{Run}
use Rattle.views.specs.Nodes.{world_at, id_at}
use Rattle.views.specs.Runs.{text_root_of, run_world, root_id, run_id}

or_right : (a b : Bool) → b ≡ true → (a || b) ≡ true
or_right true b e = refl
or_right false b e = e

-- a run is below its root
run_within : (r : Run) → IsWithin (run_world r) (root_id r) (run_id r)
run_within r = (within_is_tested (run_world r) (root_id r) (run_id r)).0 (or_right (is_same (root_id r) (run_id r)) (is_below (run_world r) (root_id r) (run_id r)) r.known.below)

pub view_within : (r : Run) (node root : NodeRef) → world_at node ≡ run_world r → id_at node ≡ run_id r → root ≡ text_root_of r → IsWithin (world_at node) (id_at root) (id_at node)
view_within r node root worlds ids is =
    subst (λ (x : World × (FullNodeId × FullNodeId)). IsWithin x.0 x.1.0 x.1.1) (λ k. (sym worlds k, (sym (ap id_at is) k, sym ids k))) (run_within r)

-- a node that isn't there has no text
pub absent_no_text : (w : World) (id : FullNodeId) → (IsNode w id → ⊥) → supports_text_ranges w id ≡ false
absent_no_text w id off = go (supports_text_ranges w id) refl
  where
    there : (o : Option _) → data_of w id ≡ o → option_map_or (λ d. holds_text d.role) o false ≡ true → IsNode w id
    there None e says_so = cc
    there (Some d) e says_so = ap is_some e

    go : (b : Bool) → supports_text_ranges w id ≡ b → supports_text_ranges w id ≡ false
    go false e = e
    go true e =
        let held = and_parts (says (λ d. holds_text d.role) w id) (nat_lt 0 (length (sent_runs w id))) (is_text w id e).runs in
        absurd (off (there (data_of w id) refl held.0))
