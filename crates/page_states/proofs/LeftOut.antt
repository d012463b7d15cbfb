-- Whether the common filter excludes a node above another one with its subtree.
use Rattle.std.proofs.Common.{◌≡◌, Bool, true, false, ◌||◌, List, [], ◌∷◌, Option, refl, sym, ap, ◌∙◌}
use Rattle.std.specs.Prelude.{is_some, option_map, if◌then◌else◌}
use Rattle.std.specs.List.{list_any}
use Rattle.model.specs.declared.FullNodeId.{FullNodeId}
use Rattle.model.specs.declared.filters.FilterResult.TheVariants.{Include, ExcludeNode}
use Rattle.model.specs.World.{World}
use Rattle.model.specs.Lists.{ancestors}
use Rattle.model.specs.Covers.{is_cut_off, is_included, filtered_parent}
use Rattle.model.specs.Filters.{common_filter}
use Rattle.views.specs.declared.node.node_ref.NodeRef.{NodeRef}
use Rattle.views.specs.Nodes.{id_at}
use Rattle.views.proofs.Climbing.{any_found, some_mapped}
use Rattle.page_states.specs.Known.{is_below_left_out, is_left_out, left_out_filter}

by_answer : (b : Bool) → is_included (if b then Include else ExcludeNode) ≡ b
by_answer true = refl
by_answer false = refl

any_left_out : (w : World) (ids : List FullNodeId) → list_any (λ a. is_included (left_out_filter w a)) ids ≡ list_any (λ a. is_cut_off (common_filter w a)) ids
any_left_out w [] = refl
any_left_out w (id ∷ ids) =
    ap (λ b. b || list_any (λ a. is_included (left_out_filter w a)) ids) (by_answer (is_cut_off (common_filter w id)))
    ∙ ap (λ b. is_cut_off (common_filter w id) || b) (any_left_out w ids)

module _ (w : World) (id : FullNodeId) where
  pub left_out_above : (found : Option NodeRef) → option_map id_at found ≡ filtered_parent (left_out_filter w) w id → is_some found ≡ is_below_left_out w id
  left_out_above found e = some_mapped found ∙ ap is_some e ∙ any_found (λ a. is_included (left_out_filter w a)) (ancestors w id) ∙ any_left_out w (ancestors w id)

  -- the node itself decides, or else those above it do
  pub left_out_itself : is_cut_off (common_filter w id) ≡ true → true ≡ is_left_out w id
  left_out_itself e = sym (ap (λ b. b || is_below_left_out w id) e)

  pub left_out_by_others : is_cut_off (common_filter w id) ≡ false → is_below_left_out w id ≡ is_left_out w id
  left_out_by_others e = sym (ap (λ b. b || is_below_left_out w id) e)

  -- what the filter says of it
  pub left_out_said : (b : Bool) → is_cut_off (common_filter w id) ≡ b → (if b then Include else ExcludeNode) ≡ left_out_filter w id
  left_out_said b e = ap (λ b. if b then Include else ExcludeNode) (sym e)
