-- A world of whose nodes none is a password has none.
use Rattle.std.proofs.Common.{◌≡◌, ℕ, ◌+◌, ◌<◌, Bool, true, false, ◌||◌, List, [], ◌∷◌, map, get_or, length, take, Option, Some, None, is_some, refl, sym, ap, ◌∙◌}
use Rattle.std.specs.Prelude.{All}
use Rattle.std.specs.List.{list_any}
use Rattle.std.specs.Option.{option_map_or}
use Rattle.std.proofs.lemmas.List.{take_more}
use Rattle.std.proofs.lemmas.List.Elements.{All-head, All-tail}
use Rattle.std.proofs.lemmas.List.Folds.{list_any-append}
use Rattle.schema.specs.NodeData.{NodeData}
use Rattle.model.specs.declared.FullNodeId.{FullNodeId}
use Rattle.model.specs.Lists.{preorder}
use Rattle.model.specs.RoleClasses.{is_password_input}
use Rattle.model.specs.State.{IsState}
use Rattle.model.specs.TextRuns.{is_password}
use Rattle.model.specs.World.{World, data_of, root_of}
use Rattle.model.proofs.Lists.StateLists.{in_root_preorder}
use Rattle.views.specs.declared.node.node_ref.NodeRef.{NodeRef}
use Rattle.views.specs.Nodes.{world_at, id_at, data_at}
use Rattle.views.proofs.Climbing.{says_shown}
use Rattle.hidden_texts.proofs.Apart.{passes_at}
use Rattle.page_states.specs.Places.{AreNodes, IsOpenUnless, from_root, is_password_at, shown_nodes}

or_false : (b : Bool) → b ≡ (b || false)
or_false true = refl
or_false false = refl

-- one more node
pub any_more : (nodes : List NodeRef) (i : ℕ) (n : NodeRef) (found : Bool) → i < length nodes → n ≡ get_or nodes i n → found ≡ list_any is_password_at (take i nodes) →
    (found || is_password_input (data_at n).role) ≡ list_any is_password_at (take (i + 1) nodes)
any_more nodes i n found within is so =
    (λ j. so j || sym (says_shown (λ d. is_password_input d.role) (world_at n) n refl) j)
    ∙ ap (λ b. list_any is_password_at (take i nodes) || b) (or_false (is_password_at n))
    ∙ ap (λ m. list_any is_password_at (take i nodes) || list_any is_password_at (m ∷ [])) is
    ∙ sym (list_any-append is_password_at (take i nodes) (get_or nodes i n ∷ []))
    ∙ ap (list_any is_password_at) (sym (take_more nodes i n within))

any_of_views : (w : World) (nodes : List NodeRef) → All (λ n. world_at n ≡ w) nodes → list_any is_password_at nodes ≡ list_any (is_password w) (map id_at nodes)
any_of_views w [] of = refl
any_of_views w (n ∷ nodes) of =
    λ i. is_password (All-head (λ n. world_at n ≡ w) n nodes of i) (id_at n) || any_of_views w nodes (All-tail (λ n. world_at n ≡ w) n nodes of) i

module _ (w : World) (state : IsState w) (r : FullNodeId) (root : root_of w 0 ≡ Some r) where
  all_nodes : shown_nodes w ≡ preorder w r
  all_nodes = ap (from_root w) root

  found_there : (ids : List FullNodeId) → ids ≡ shown_nodes w → (id : FullNodeId) (d : NodeData) → data_of w id ≡ Some d → is_password w id ≡ true → list_any (is_password w) ids ≡ true
  found_there ids all id d has secret =
      ap (list_any (is_password w)) (all ∙ all_nodes) ∙ passes_at (is_password w) (preorder w r) id ((in_root_preorder state r root id).1 (ap is_some has)) secret

  pub open_unless : (nodes : List NodeRef) (has : Bool) → AreNodes w (shown_nodes w) nodes → has ≡ list_any is_password_at nodes → IsOpenUnless has w
  open_unless nodes has are is none id = go (data_of w id) refl (is_password w id) refl
    where
      go : (o : Option NodeData) → data_of w id ≡ o → (b : Bool) → is_password w id ≡ b → is_password w id ≡ false
      go None e b f = ap (λ o. option_map_or (λ (d : NodeData). is_password_input d.role) o false) e
      go (Some d) e false f = f
      go (Some d) e true f =
          absurd (let clash : true ≡ false = sym (found_there (map id_at nodes) are.same id d e f) ∙ sym (any_of_views w nodes are.world) ∙ sym is ∙ none in cc)
