-- What a node says together with those above it follows from what its parent does.
use Rattle.std.proofs.Common.{◌≡◌, Bool, true, false, not, ◌||◌, cond, List, [], ◌∷◌, Option, Some, None, find, filter_map, slice_get, unwrap_or, is_none, is_some, if◌then◌else◌, refl, sym, ap, ◌∙◌}
use Rattle.std.specs.BTreeMap.{BTreeMap, get, is_at}
use Rattle.std.specs.List.{cons_option, list_any}
use Rattle.std.specs.Option.{option_map_or, option_and_then}
use Rattle.std.proofs.lemmas.Option.{same_Some}
use Rattle.schema.specs.NodeData.{NodeData}
use Rattle.schema.specs.declared.values.Live.{Live}
use Rattle.schema.specs.declared.values.Live.TheVariants.{Off}
use Rattle.model.specs.declared.FullNodeId.{FullNodeId}
use Rattle.model.specs.declared.filters.FilterResult.TheVariants.{Include, ExcludeNode}
use Rattle.model.specs.Covers.{is_included}
use Rattle.model.specs.Filters.{is_hidden}
use Rattle.model.specs.FullIds.{full_cmp}
use Rattle.model.specs.Lists.{ancestors}
use Rattle.model.specs.RoleClasses.{is_password_input}
use Rattle.model.specs.TextRuns.{is_password}
use Rattle.model.specs.Upward.{says, says_upward, field_at}
use Rattle.model.specs.Views.{live}
use Rattle.model.specs.World.{World, HasData}
use Rattle.model.proofs.Forest.PlaceOf.{same_from_test}
use Rattle.hidden_texts.specs.Hidden.{is_in_password}
use Rattle.speaking.specs.declared.above.Above.{Above}
use Rattle.speaking.specs.Above.{above_of, region_of, region_or, AreRight}
use Rattle.speaking.specs.Holders.{speaks_for_runs, holder_answer, speaks_itself}

-- ---- one step

-- of a node with these data, below nodes of which this is known
abbrev pub said_below : FullNodeId → NodeData → Bool → Bool → Above → Above
said_below id d secret held a = record {
  live = unwrap_or d.live a.live;
  is_hidden = d.hidden || a.is_hidden;
  is_busy = d.busy || a.is_busy;
  is_in_password = secret || a.is_in_password;
  is_held = held || a.is_held;
  region = region_or id d a.region;
}

nearest_live : (o : Option Live) (rest : List Live) → unwrap_or (slice_get (cons_option o rest) 0) Off ≡ unwrap_or o (unwrap_or (slice_get rest 0) Off)
nearest_live None rest = refl
nearest_live (Some x) rest = refl

held_above : (b : Bool) (q : FullNodeId) (rest : Option FullNodeId) → not (is_none (cond (is_included (if b then Include else ExcludeNode)) (Some q) rest)) ≡ (b || not (is_none rest))
held_above true q rest = refl
held_above false q rest = refl

module _ (w : World) (id : FullNodeId) (d : NodeData) (has : HasData w id d) where
  says_of : (test : NodeData → Bool) → says test w id ≡ test d
  says_of test = ap (λ o. option_map_or test o false) has

  own_live : field_at (λ e. e.live) w id ≡ d.live
  own_live = ap (option_and_then (λ (e : NodeData). e.live)) has

  or_false : (b : Bool) → (b || false) ≡ b
  or_false true = refl
  or_false false = refl

  -- a test of the node or those above it, where there is nothing above
  root_any : (test : NodeData → Bool) → ancestors w id ≡ [] → test d ≡ says_upward test w id
  root_any test none = sym (ap (λ up. list_any (says test w) (id ∷ up)) none ∙ ap (λ b. b || false) (says_of test) ∙ or_false (test d))

  pub root_says : ancestors w id ≡ [] →
      record { live = unwrap_or d.live Off; is_hidden = d.hidden; is_busy = d.busy; is_in_password = false; is_held = false; region = region_or id d None } ≡ above_of w id
  root_says none =
      let lives : unwrap_or d.live Off ≡ live w id =
      sym (nearest_live d.live [])
      ∙ sym (ap (λ o. unwrap_or (slice_get (cons_option o []) 0) Off) own_live)
      ∙ sym (ap (λ up. unwrap_or (slice_get (filter_map (field_at (λ e. e.live) w) (id ∷ up)) 0) Off) none) in
      let hides : d.hidden ≡ is_hidden w id = root_any (λ e. e.hidden) none in
      let busy : d.busy ≡ says_upward (λ e. e.busy) w id = root_any (λ e. e.busy) none in
      let secret : false ≡ is_in_password w id = sym (ap (list_any (is_password w)) none) in
      let held : false ≡ not (speaks_itself w id) = sym (ap (λ up. not (is_none (find (λ a. is_included (holder_answer w a)) up))) none) in
      let region : region_or id d None ≡ region_of w id =
      sym (ap (λ b. cond b (Some id) None) (says_of (λ e. is_some e.live)))
      ∙ sym (ap (λ up. find (says (λ e. is_some e.live) w) (id ∷ up)) none) in
      λ i. record { live = lives i; is_hidden = hides i; is_busy = busy i; is_in_password = secret i; is_held = held i; region = region i }

  module _ (q : FullNodeId) (e : NodeData) (above : HasData w q e) (up : ancestors w id ≡ q ∷ ancestors w q) where
    child_any : (test : NodeData → Bool) → (test d || says_upward test w q) ≡ says_upward test w id
    child_any test = sym (ap (λ xs. list_any (says test w) (id ∷ xs)) up ∙ ap (λ b. b || list_any (says test w) (q ∷ ancestors w q)) (says_of test))

    pub child_says : said_below id d (is_password_input e.role) (speaks_for_runs e) (above_of w q) ≡ above_of w id
    child_says =
        let lives : unwrap_or d.live (live w q) ≡ live w id =
        sym (nearest_live d.live (filter_map (field_at (λ x. x.live) w) (q ∷ ancestors w q)))
        ∙ sym (ap (λ o. unwrap_or (slice_get (cons_option o (filter_map (field_at (λ x. x.live) w) (q ∷ ancestors w q))) 0) Off) own_live)
        ∙ sym (ap (λ xs. unwrap_or (slice_get (filter_map (field_at (λ x. x.live) w) (id ∷ xs)) 0) Off) up) in
        let hides : (d.hidden || is_hidden w q) ≡ is_hidden w id = child_any (λ x. x.hidden) in
        let busy : (d.busy || says_upward (λ x. x.busy) w q) ≡ says_upward (λ x. x.busy) w id = child_any (λ x. x.busy) in
        let secret : (is_password_input e.role || is_in_password w q) ≡ is_in_password w id =
        sym (ap (list_any (is_password w)) up ∙ ap (λ b. b || list_any (is_password w) (ancestors w q)) (ap (λ o. option_map_or (λ (x : NodeData). is_password_input x.role) o false) above)) in
        let held : (speaks_for_runs e || not (speaks_itself w q)) ≡ not (speaks_itself w id) =
        sym (ap (λ xs. not (is_none (find (λ a. is_included (holder_answer w a)) xs))) up
        ∙ held_above (says speaks_for_runs w q) q (find (λ a. is_included (holder_answer w a)) (ancestors w q))
        ∙ ap (λ b. b || not (speaks_itself w q)) (ap (λ o. option_map_or speaks_for_runs o false) above)) in
        let region : region_or id d (region_of w q) ≡ region_of w id =
        sym (ap (λ b. cond b (Some id) (region_of w q)) (says_of (λ x. is_some x.live)))
        ∙ sym (ap (λ xs. find (says (λ x. is_some x.live) w) (id ∷ xs)) up) in
        λ i. record { live = lives i; is_hidden = hides i; is_busy = busy i; is_in_password = secret i; is_held = held i; region = region i }

-- ---- what is known

-- one more node is known
pub known_more : (w : World) (m n : BTreeMap FullNodeId Above) (k : FullNodeId) (a : Above) → ((q : FullNodeId) → get full_cmp n q ≡ cond (is_at (full_cmp k) q) (Some a) (get full_cmp m q)) →
    a ≡ above_of w k → AreRight w m → AreRight w n
known_more w m n k a put is right q b found = go (is_at (full_cmp k) q) refl
  where
    go : (t : Bool) → is_at (full_cmp k) q ≡ t → b ≡ above_of w q
    go true e =
        let same : Some a ≡ Some b = sym (ap (λ t. cond t (Some a) (get full_cmp m q)) e) ∙ sym (put q) ∙ found in
        sym (same_Some a b same) ∙ is ∙ ap (above_of w) (same_from_test k q e)
    go false e = right q b (sym (ap (λ t. cond t (Some a) (get full_cmp m q)) e) ∙ sym (put q) ∙ found)
