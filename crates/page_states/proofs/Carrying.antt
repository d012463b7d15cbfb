-- What is known of a node by what is known of its parent.
use Rattle.std.proofs.Common.{◌≡◌, ◌+◌, ◌-◌, ◌^◌, suc, min, length, Bool, true, false, cond, ◌&&◌, ◌||◌, List, [], Option, Some, None, refl, sym, ap, subst, ◌∙◌, arith}
use Rattle.std.specs.Prelude.{find, not, unwrap_or, option_and_then, IfSome, if◌then◌else◌}
use Rattle.std.specs.Option.{option_map_or}
use Rattle.std.specs.List.{list_any}
use Rattle.schema.specs.declared.geometry.WideRect.{WideRect}
use Rattle.model.specs.declared.FullNodeId.{FullNodeId}
use Rattle.model.specs.declared.filters.FilterResult.TheVariants.{Include, ExcludeSubtree}
use Rattle.model.specs.World.{World}
use Rattle.model.specs.Forest.{IsFormed}
use Rattle.model.specs.Lists.{ancestors}
use Rattle.model.specs.Upward.{says, upward}
use Rattle.model.specs.RoleClasses.{is_password_input}
use Rattle.model.specs.Geometry.{direct_transform, sum_of_moves, transform, bounding_box, meets}
use Rattle.model.specs.Covers.{is_included, is_cut_off, following_filtered_siblings, preceding_filtered_siblings}
use Rattle.model.specs.Filters.{is_hidden, first_answer, base_filter, is_first_inside, is_far_outside, is_clipped_by, is_clipped, answer_at, common_filter}
use Rattle.views.proofs.Climbing.{parent_of, parent_above, nothing_above}
use Rattle.page_states.specs.Known.{depth_at, sum_of, clip_frame, clip_of, frame_below, is_below_left_out, is_clear, is_left_out, is_secret}
use Rattle.hidden_texts.specs.Hidden.{is_in_password}

abbrev is_shown : World → FullNodeId → Bool
is_shown w a = is_included (base_filter w a)

-- a node that is shown clips what is below it by itself
pub frame_of_shown : (w : World) (id : FullNodeId) → is_shown w id ≡ true → clip_frame w id ≡ frame_below w id
frame_of_shown w id shown = sym (ap (λ b. option_and_then (clip_frame w) (cond b (Some id) (find (is_shown w) (ancestors w id)))) shown)

frame_of_other : (w : World) (id : FullNodeId) (up : List FullNodeId) → ancestors w id ≡ up → is_shown w id ≡ false → option_and_then (clip_frame w) (find (is_shown w) up) ≡ frame_below w id
frame_of_other w id up above hides =
    sym (ap (λ b. option_and_then (clip_frame w) (cond b (Some id) (find (is_shown w) (ancestors w id)))) hides ∙ ap (λ ids. option_and_then (clip_frame w) (find (is_shown w) ids)) above)

-- a node with a box that meets the frame isn't far outside of it, nor is one without a box
not_outside : (frame : WideRect) (rect : Option WideRect) → is_clear (Some (Some frame)) rect ≡ true → option_map_or (λ box. not (meets box frame)) rect false ≡ false
not_outside frame None e = refl
not_outside frame (Some rect) e = ap not e

module _ (w : World) (id : FullNodeId) where
  by_clip : (clips : Bool) (box frame : Option WideRect) → frame ≡ (if clips then box else None) → is_clear (Some frame) (bounding_box w id) ≡ true → (clips && option_map_or (λ b. is_far_outside w b id) box false) ≡ false
  by_clip false box frame is e = refl
  by_clip true None frame is e = refl
  by_clip true (Some box) frame is e =
      ap (λ out. out && not (is_first_inside w box (following_filtered_siblings (base_filter w) w id) || is_first_inside w box (preceding_filtered_siblings (base_filter w) w id))) (not_outside box (bounding_box w id) (subst (λ f. is_clear (Some f) (bounding_box w id) ≡ true) is e))

  by_found : (o : Option FullNodeId) (frame : Option WideRect) → frame ≡ option_and_then (clip_frame w) o → is_clear (Some frame) (bounding_box w id) ≡ true → option_map_or (λ p. is_clipped_by w p id) o false ≡ false
  by_found None frame is e = refl
  by_found (Some p) frame is e = by_clip (says (λ d. d.clips_children) w p) (bounding_box w p) frame is e

module _ (w : World) (formed : IsFormed w) (id : FullNodeId) where
  -- nothing is above the root
  pub depth_of_root : None ≡ parent_of w id → length (ancestors w id) ≡ 0
  depth_of_root root = ap length (nothing_above w formed id root)

  -- the root passes nothing on
  pub frame_of_root : None ≡ parent_of w id → is_shown w id ≡ false → None ≡ frame_below w id
  frame_of_root root hides = frame_of_other w id [] (nothing_above w formed id root) hides

  module _ (q : FullNodeId) (parent : Some q ≡ parent_of w id) where
    above : ancestors w id ≡ upward w q
    above = parent_above w formed id q parent

    pub one_higher : length (ancestors w id) ≡ suc (length (ancestors w q))
    one_higher = ap length above

    pub depth_below : min (depth_at w q + 1) (2 ^ 64 - 1) ≡ depth_at w id
    depth_below = let e = one_higher in omega arith

    pub shift_below : sum_of (direct_transform w id) (transform w q) ≡ transform w id
    shift_below = ap (λ ids. sum_of (direct_transform w id) (sum_of_moves w ids)) (sym above)

    pub hidden_below : (says (λ d. d.hidden) w id || is_hidden w q) ≡ is_hidden w id
    hidden_below = ap (λ ids. says (λ d. d.hidden) w id || list_any (says (λ d. d.hidden) w) ids) (sym above)

    pub secret_below : is_secret w q ≡ is_in_password w id
    secret_below = ap (list_any (says (λ d. is_password_input d.role) w)) (sym above)

    pub left_out_below : is_left_out w q ≡ is_below_left_out w id
    left_out_below = ap (list_any (λ a. is_cut_off (common_filter w a))) (sym above)

    pub frame_passed_on : is_shown w id ≡ false → frame_below w q ≡ frame_below w id
    frame_passed_on hides = frame_of_other w id (upward w q) above hides

    pub clip_below : frame_below w q ≡ clip_of w id
    clip_below = ap (λ ids. option_and_then (clip_frame w) (find (is_shown w) ids)) (sym above)

    unclipped : (frame : Option (Option WideRect)) → IfSome frame (λ f. f ≡ frame_below w q) → is_clear frame (bounding_box w id) ≡ true → is_clipped w id ≡ false
    unclipped None is e = cc
    unclipped (Some frame) is e =
        ap (λ ids. option_map_or (λ p. is_clipped_by w p id) (find (is_shown w) ids) false) above ∙ by_found w id (find (is_shown w) (upward w q)) frame is e

    module _ (undecided : first_answer w id ≡ None) where
      by_parent : common_filter w id ≡ cond (is_cut_off (common_filter w q) || is_clipped w id) ExcludeSubtree Include
      by_parent =
          ap (λ ids. unwrap_or (first_answer w id) (cond (is_cut_off (answer_at w ids) || is_clipped w id) ExcludeSubtree Include)) above
          ∙ ap (λ o. unwrap_or o (cond (is_cut_off (common_filter w q) || is_clipped w id) ExcludeSubtree Include)) undecided

      pub cut_off_below : is_cut_off (common_filter w q) ≡ true → ExcludeSubtree ≡ common_filter w id
      cut_off_below cut = sym (by_parent ∙ ap (λ c. cond (c || is_clipped w id) ExcludeSubtree Include) cut)

      pub clear_below : (frame : Option (Option WideRect)) → is_cut_off (common_filter w q) ≡ false → IfSome frame (λ f. f ≡ frame_below w q) → is_clear frame (bounding_box w id) ≡ true → Include ≡ common_filter w id
      clear_below frame uncut is e =
          sym (by_parent ∙ ap (λ c. cond (c || is_clipped w id) ExcludeSubtree Include) uncut ∙ ap (λ c. cond c ExcludeSubtree Include) (unclipped frame is e))
