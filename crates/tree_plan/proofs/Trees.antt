-- The records of trees afterwards.
use Rattle.std.proofs.Common.{Contains, ◌≡◌, ◌≢◌, ℕ, ◌<◌, List, [], ◌∷◌, ◌++◌, length, get_or, suc, Option, Some, None, option_map, option_and_then, ◌⊎◌, inl, inr, ⊎_elim, ◌↔◌, refl, sym, ap, ◌∙◌, subst, arith}
use Rattle.std.specs.FinMap.{get, insert}
use Rattle.std.specs.Option.{option_map_or}
use Rattle.std.proofs.lemmas.Option.{same_Some, slice_get-get_or}
use Rattle.schema.specs.declared.TreeId.{TreeId}
use Rattle.schema.specs.declared.NodeId.{NodeId}
use Rattle.model.specs.declared.FullNodeId.{FullNodeId}
use Rattle.model.specs.World.{ROOT_NAME, World, Tree, in_tree, index_of, graft_name, root_of}
use Rattle.model.specs.Update.{UpdateData, IsNamed, IsRebuild, KeepsRules, index_for, root_after, merged_world}
use Rattle.model.specs.Surgery.{IsOld, IsDropped, IsOpened, IsPassed, IsChanged, Gone}
use Rattle.model.proofs.Update.AcceptedOrFault.{decide_name}
use Rattle.model.proofs.Worlds.Names.{cases_name, certain, index_of_once}
use Rattle.model.proofs.State.StatePlaces.{IsSome_is, root_of_parts}
use Rattle.model.proofs.Update.Merges.{tree_named as tree_after_named, root_stays}
use Rattle.model.proofs.Update.RulesOrFault.{no_some}
use Rattle.model.proofs.Update.RebuildKeeps.{tree_same, index_of_same}
use Rattle.model.proofs.Members.{contains_none, contains_head, contains_later, contains_cases}
use Rattle.std.specs.Prelude.{AllPairs}
use Rattle.std.proofs.lemmas.List.Kept.{AllPairs-cons}
use Rattle.std.proofs.lemmas.List.Elements.{All-append}
use Rattle.model.proofs.Surgery.Spots.{index_stays, index_here, name_here, index_before}
use Rattle.model.proofs.Surgery.LiveAndGone.{named_kept, graft_live, gone_unlive}
use Rattle.model.proofs.Surgery.RulesKept.{root_ungrafted}
use Rattle.model.proofs.Surgery.RulesArePassed.{rules_passed}
use Rattle.model.proofs.Surgery.ChangesAreTheRebuild.{rebuild_changed}
use Rattle.model.proofs.Surgery.Grafts.{named_graft, lost_graft, same_graft}
use Rattle.tree_changes.specs.declared.look_ups.TreeRecord.{TreeRecord}
use Rattle.tree_changes.specs.LookUps.{IsTreeRecord, tree_named}
use Rattle.tree_changes.specs.Changes.{tree_change}
use Rattle.tree_changes.specs.Decisions.{TreeDiffers}
use Rattle.tree_plan.specs.declared.passes.Opened.{Opened}
use Rattle.tree_plan.specs.Passes.{IsOfName, HoldsOpened, IsUngrafted, cut_record, IsGained, GainsGraft}
use Rattle.tree_plan.specs.Writing.{own_record, IsOwnPart}
use Rattle.tree_changes.proofs.Overlays.{tree_change_none}
use Rattle.tree_plan.proofs.Adding.{in_either}
use Rattle.std.proofs.lemmas.List.Elements.{Contains-append_left, Contains-append_right}

-- ---- options

pub same_option : {A : Type 0} (x y : Option A) → ((a : A) → x ≡ Some a → y ≡ Some a) → ((a : A) → y ≡ Some a → x ≡ Some a) → x ≡ y
same_option None None f g = refl
same_option None (Some b) f g = g b refl
same_option (Some a) y f g = sym (f a refl)

no_value : {A : Type 0} (x : Option A) → ((a : A) → x ≢ Some a) → x ≡ None
no_value None h = refl
no_value (Some a) h = absurd (h a refl)

-- ---- lists

AllPairs-tail : {A : Type 0} (R : A → A → Type 0) (x : A) (xs : List A) → AllPairs R (x ∷ xs) → AllPairs R xs
AllPairs-tail R x xs h i j d below within = h (suc i) (suc j) d (omega arith) (omega arith)

at_index : {A : Type 0} (xs : List A) (k : ℕ) (d : A) → k < length xs → Contains xs (get_or xs k d)
at_index xs k d within = (k, within, same_Some (get_or xs k (get_or xs k d)) (get_or xs k d) (sym (slice_get-get_or xs k (get_or xs k d) within) ∙ slice_get-get_or xs k d within))

-- two lists one after the other
AllPairs-append : {A : Type 0} (R : A → A → Type 0) (xs ys : List A) → AllPairs R xs → AllPairs R ys → ((x y : A) → Contains xs x → Contains ys y → R x y) → AllPairs R (xs ++ ys)
AllPairs-append R [] ys f g apart = g
AllPairs-append R (x ∷ xs) ys f g apart = AllPairs-cons R x (xs ++ ys)
    (All-append (R x) xs ys (λ k d within. f 0 (suc k) d (omega arith) (omega arith)) (λ k d within. apart x (get_or ys k d) (contains_head x x xs refl) (at_index ys k d within)))
    (AllPairs-append R xs ys (AllPairs-tail R x xs f) g (λ a b c e. apart a b (contains_later x a xs c) e))

-- a tree by its root and its focus
pub both_parts : (x : Option Tree) (a b : NodeId) → option_map (λ t. t.root) x ≡ Some a → option_map (λ t. t.focus) x ≡ Some b → x ≡ Some (record { root = a; focus = b })
both_parts None a b e f = cc
both_parts (Some t) a b e f =
    let root : t.root ≡ a = same_Some t.root a e in
    let focus : t.focus ≡ b = same_Some t.focus b f in
    ap Some (λ j. record { root = root j; focus = focus j })

-- what is known of a name is the same in two worlds
pub record KnownAlike (v new : World) (name : TreeId) : Type 0 where
  pub index : index_of v name ≡ index_of new name
  pub graft : (g : FullNodeId) → (graft_name v g ≡ Some name) ↔ (graft_name new g ≡ Some name)
  pub tree : tree_named v name ≡ tree_named new name

module _ (w : World) (u : UpdateData) (o : IsOld w) (k : KeepsRules w u) (new : World) (r : IsRebuild (merged_world w u) new) where
  abbrev m : World
  m = merged_world w u

  abbrev i : ℕ
  i = index_for w u.name

  passed : IsPassed w u
  passed = rules_passed w u o k

  opened : IsOpened w u
  opened = passed.climbed.refined.removed.settled.compared.opened

  changed : IsChanged w u new
  changed = rebuild_changed w u o passed.climbed new r

  index_new : (name : TreeId) → index_of new name ≡ index_of m name
  index_new name = index_of_same r name

  -- ---- the named tree

  -- no named node gains the named tree
  own_ungained : (n : FullNodeId) → IsNamed w u n → graft_name m n ≡ Some u.name → graft_name w n ≡ Some u.name
  own_ungained n named grafts = certain (decide_name (graft_name w n) u.name) (λ gained. by_name gained (cases_name u.name ROOT_NAME))
    where
      by_name : (graft_name w n ≢ Some u.name) → (u.name ≡ ROOT_NAME) ⊎ (u.name ≢ ROOT_NAME) → ⊥
      by_name gained (inl top) = root_ungrafted w u o passed.climbed.refined.removed.settled.compared n (grafts ∙ ap Some top)
      by_name gained (inr other) =
          let g = graft_live w u o opened other in
          ⊎_elim (λ gone. gone_unlive w u o g.0 (g.1.2, g.1.3) gone) (λ x. g.1.1 x.0) (passed.rival_gone n g.0 u.name named grafts gained g.1.0)

  -- and its graft isn't lost
  own_unlost : (g : FullNodeId) → graft_name w g ≡ Some u.name → Gone w u g ⊎ IsNamed w u g → ⊥
  own_unlost g was lost = by_name (cases_name u.name ROOT_NAME)
    where
      by_name : (u.name ≡ ROOT_NAME) ⊎ (u.name ≢ ROOT_NAME) → ⊥
      by_name (inl top) = o.root_ungrafted g (was ∙ ap Some top)
      by_name (inr other) =
          let h = graft_live w u o opened other in
          let same : g ≡ h.0 = o.grafted_once g h.0 u.name was h.1.0 in
          ⊎_elim (λ gone. gone_unlive w u o h.0 (h.1.2, h.1.3) (subst (Gone w u) same gone)) (λ named. h.1.1 (ap (λ x. x.tree) (sym same) ∙ named.0)) lost

  own_graft : (g : FullNodeId) → (graft_name new g ≡ Some u.name) ↔ (graft_name w g ≡ Some u.name)
  own_graft g = same_graft w u o passed r u.name own_ungained (λ g was lost none. own_unlost g was lost) g

  focus_is : (t : Tree) → get m.trees i ≡ Some t → t.focus ≡ u.focus
  focus_is t is = go (root_after w u) refl
    where
      go : (x : Option NodeId) → root_after w u ≡ x → t.focus ≡ u.focus
      go (Some root) e = ap (λ x. x.focus) (same_Some t _ (sym is ∙ tree_after_named w u root e))
      go None e =
          let was : get w.trees i ≡ Some t = ap (λ x. get (option_map_or (λ root. insert w.trees i (record { root = root; focus = u.focus })) x w.trees) i) (sym e) ∙ is in
          absurd (no_some (root_after w u) e (root_stays w u (IsSome_is t was)))

  own_index : index_of new u.name ≡ Some i
  own_index = index_new u.name ∙ index_here w u o

  own_tree : (op : Opened) → HoldsOpened w u op → tree_named new u.name ≡ Some (record { root = op.root; focus = u.focus })
  own_tree op is =
      let at : root_of m i ≡ Some (in_tree i op.root) = subst (λ j. root_of m j ≡ Some (in_tree j op.root)) is.index is.root in
      let t = root_of_parts m i (in_tree i op.root) at in
      let root : t.0.root ≡ op.root = ap (λ x. x.node) t.2 in
      let focus : t.0.focus ≡ u.focus = focus_is t.0 t.1 in
      let one : t.0 ≡ record { root = op.root; focus = u.focus } = λ j. record { root = root j; focus = focus j } in
      ap (option_and_then (λ j. get new.trees j)) own_index ∙ tree_same r i (named_kept w u o opened) ∙ t.1 ∙ ap Some one

  pub own_is : (op : Opened) → HoldsOpened w u op → IsOfName new u.name (own_record u.name u.focus op)
  own_is op is = record {
    id = refl;
    index = ap Some is.index ∙ sym own_index;
    graft = λ g. let a = is.record_of.graft g in let b = own_graft g in (λ e. b.1 (a.0 e), λ e. a.1 (b.0 e));
    root = sym (ap (option_map (λ t. t.root)) (own_tree op is));
    focus = sym (ap (option_map (λ t. t.focus)) (own_tree op is));
  }

  -- where its record is as before, so is what is known of the named tree
  pub own_alike : (op : Opened) → HoldsOpened w u op → own_record u.name u.focus op ≡ op.record → KnownAlike w new u.name
  own_alike op is same = record {
    index = sym is.record_of.index ∙ sym (ap (λ x. x.index) same) ∙ (own_is op is).index;
    graft = λ g. let f = own_graft g in (f.1, f.0);
    tree = both_parts (tree_named w u.name) op.root u.focus (sym is.record_of.root ∙ sym (ap (λ x. x.root) same)) (sym is.record_of.focus ∙ sym (ap (λ x. x.focus) same)) ∙ sym (own_tree op is);
  }

  -- ---- other trees

  index_other : (name : TreeId) → name ≢ u.name → index_of w name ≡ index_of new name
  index_other name other = same_option (index_of w name) (index_of m name)
      (λ j is. index_stays w u o name j is)
      (λ j is. index_before w u o name j (λ e. other (name_here w u o name (is ∙ ap Some e))) is)
      ∙ sym (index_new name)

  other_index : (name : TreeId) (j : ℕ) → name ≢ u.name → index_of w name ≡ Some j → j ≢ i
  other_index name j other is e = other (name_here w u o name (index_stays w u o name j is ∙ ap Some e))

  tree_other : (name : TreeId) → name ≢ u.name → ¬ (IsUngrafted w u name) → tree_named w name ≡ tree_named new name
  tree_other name other uncut = go (index_of w name) refl
    where
      spared : (j : ℕ) → index_of w name ≡ Some j → ¬ (IsDropped w u j)
      spared j is d = uncut (subst (IsUngrafted w u) (index_of_once w d.0 name j d.1 is) (d.2, d.3, d.4, d.5))

      go : (x : Option ℕ) → index_of w name ≡ x → tree_named w name ≡ tree_named new name
      go None e = ap (option_and_then (λ j. get w.trees j)) e ∙ sym (ap (option_and_then (λ j. get new.trees j)) (sym (index_other name other) ∙ e))
      go (Some j) e =
          let f = changed.other_trees j in
          let same : get w.trees j ≡ get new.trees j = same_option (get w.trees j) (get new.trees j) (λ t is. (f t (other_index name j other e)).1 (spared j e, is)) (λ t is. ((f t (other_index name j other e)).0 is).1) in
          ap (option_and_then (λ j. get w.trees j)) e ∙ same ∙ sym (ap (option_and_then (λ j. get new.trees j)) (sym (index_other name other) ∙ e))

  pub others_alike : (name : TreeId) → name ≢ u.name → ¬ (IsUngrafted w u name) → ((n : FullNodeId) → ¬ (GainsGraft w u n name)) → KnownAlike w new name
  others_alike name other uncut ungained = record {
    index = index_other name other;
    graft = λ g. let f = same_graft w u o passed r name
        (λ n named grafts. certain (decide_name (graft_name w n) name) (λ before. ungained n (named, grafts, before)))
        (λ g was lost none. uncut (none, g, was, lost)) g in (f.1, f.0);
    tree = tree_other name other uncut;
  }

  cut_other : (name : TreeId) → IsUngrafted w u name → name ≢ u.name
  cut_other name cut same = own_unlost cut.1 (cut.2 ∙ ap Some same) cut.3

  -- a tree that loses its graft has none, and is present no more
  pub cut_is : (name : TreeId) → IsUngrafted w u name → IsOfName new name (cut_record w name)
  cut_is name cut = record {
    id = refl;
    index = index_other name (cut_other name cut);
    graft = λ g. (λ e. cc, λ is. absurd (lost_graft w u o passed r cut.1 name cut.2 cut.3 cut.0 g is));
    root = sym (ap (option_map (λ t. t.root)) none);
    focus = sym (ap (option_map (λ t. t.focus)) none);
  }
    where
      go : (x : Option ℕ) → index_of w name ≡ x → tree_named new name ≡ None
      go None e = ap (option_and_then (λ j. get new.trees j)) (sym (index_other name (cut_other name cut)) ∙ e)
      go (Some j) e =
          ap (option_and_then (λ j. get new.trees j)) (sym (index_other name (cut_other name cut)) ∙ e)
          ∙ no_value (get new.trees j) (λ t is. ((changed.other_trees j t (other_index name j (cut_other name cut) e)).0 is).0 (name, e, cut.0, cut.1, cut.2, cut.3))

      none : tree_named new name ≡ None
      none = go (index_of w name) refl

  gained_other : (t : TreeRecord) → IsGained w u t → t.id ≢ u.name
  gained_other t is e = is.gains.2 (own_ungained is.n is.gains.0 (is.gains.1 ∙ ap Some e) ∙ ap Some (sym e))

  -- a tree that a named node gains has that graft
  pub gained_is : (t : TreeRecord) → IsGained w u t → IsOfName new t.id t
  gained_is t is = record {
    id = refl;
    index = is.index ∙ index_other t.id other;
    graft = λ g. let f = named_graft w u o passed r is.n t.id is.gains.0 is.gains.1 g in (λ e. f.1 (same_Some g is.n (sym e ∙ is.graft)), λ e. is.graft ∙ ap Some (sym (f.0 e)));
    root = is.root ∙ ap (option_map (λ t. t.root)) same;
    focus = is.focus ∙ ap (option_map (λ t. t.focus)) same;
  }
    where
      other : t.id ≢ u.name
      other = gained_other t is

      same : tree_named w t.id ≡ tree_named new t.id
      same = tree_other t.id other (λ cut. cut.0 (is.n, is.gains.0, is.gains.1))

  -- ---- each is another than before

  -- where a name has one record in both worlds, the same node grafts it
  one_graft : (name : TreeId) (x : Option TreeRecord) → IsTreeRecord w name x → IsTreeRecord new name x → (g : FullNodeId) → (graft_name w g ≡ Some name) ↔ (graft_name new g ≡ Some name)
  one_graft name x before now g = let a = before.graft g in let b = now.graft g in (λ e. b.0 (a.1 e), λ e. a.0 (b.1 e))

  cut_differs : (name : TreeId) → IsUngrafted w u name → TreeDiffers w new name
  cut_differs name cut x before now = lost_graft w u o passed r cut.1 name cut.2 cut.3 cut.0 cut.1 ((one_graft name x before now cut.1).0 cut.2)

  gained_differs : (t : TreeRecord) → IsGained w u t → TreeDiffers w new t.id
  gained_differs t is x before now = is.gains.2 ((one_graft t.id x before now is.n).1 (((gained_is t is).graft is.n).0 is.graft))

  own_differs : (op : Opened) → HoldsOpened w u op → own_record u.name u.focus op ≢ op.record → TreeDiffers w new u.name
  own_differs op is other x before now =
      let a = is.record_of in
      let b = own_is op is in
      let id : u.name ≡ op.record.id = sym a.id in
      let index : Some op.index ≡ op.record.index = b.index ∙ sym now.index ∙ before.index ∙ sym a.index in
      let root : Some op.root ≡ op.record.root = b.root ∙ sym now.root ∙ before.root ∙ sym a.root in
      let focus : Some u.focus ≡ op.record.focus = b.focus ∙ sym now.focus ∙ before.focus ∙ sym a.focus in
      other (λ j. record { id = id j; index = index j; graft = op.record.graft; root = root j; focus = focus j })

  -- ---- all of them

  -- the records say what is known afterwards, each is another than before, and of other names the same is known as before
  pub record AreAfter (rs : List TreeRecord) : Type 0 where
    pub each : (t : TreeRecord) → Contains rs t → IsOfName new t.id t
    pub differ : (t : TreeRecord) → Contains rs t → TreeDiffers w new t.id
    pub others : (name : TreeId) → tree_change rs name ≡ None → KnownAlike w new name

  -- each is of another name
  pub all_once : (op : Opened) (cuts gained own : List TreeRecord)
      → ((t : TreeRecord) → Contains cuts t ↔ (IsUngrafted w u t.id × (t ≡ cut_record w t.id)))
      → ((t : TreeRecord) → Contains gained t ↔ IsGained w u t)
      → IsOwnPart op.record (own_record u.name u.focus op) own
      → AllPairs (λ a b. a.id ≢ b.id) cuts → AllPairs (λ a b. a.id ≢ b.id) gained → AllPairs (λ a b. a.id ≢ b.id) (cuts ++ gained ++ own)
  all_once op cuts gained own are_cut are_gained is_own cut_once gained_once =
      AllPairs-append Apart (cuts ++ gained) own
      (AllPairs-append Apart cuts gained cut_once gained_once (λ x y c d same. let g = (are_gained y).0 d in ((are_cut x).0 c).0.0 (g.n, g.gains.0, g.gains.1 ∙ ap Some (sym same))))
      (own_once is_own)
      (λ x y c d same. apart x (in_either cuts gained x c) (same ∙ own_name is_own y d))
    where
      Apart : TreeRecord → TreeRecord → Type 0
      Apart a b = a.id ≢ b.id

      own_once : IsOwnPart op.record (own_record u.name u.focus op) own → AllPairs (λ (a : TreeRecord) (b : TreeRecord). a.id ≢ b.id) own
      own_once (inl x) = subst (AllPairs (λ (a : TreeRecord) (b : TreeRecord). a.id ≢ b.id)) (sym x.1) (λ i j d below within. absurd (omega arith))
      own_once (inr x) = subst (AllPairs (λ (a : TreeRecord) (b : TreeRecord). a.id ≢ b.id)) (sym x.1) (λ i j d below within. absurd (omega arith))

      own_name : IsOwnPart op.record (own_record u.name u.focus op) own → (t : TreeRecord) → Contains own t → t.id ≡ u.name
      own_name (inl x) t c = absurd (contains_none t (subst (λ ts. Contains ts t) x.1 c))
      own_name (inr x) t c = ⊎_elim (λ same. ap (λ y. y.id) (sym same)) (λ h. absurd (contains_none t h)) (contains_cases (own_record u.name u.focus op) t [] (subst (λ ts. Contains ts t) x.1 c))

      apart : (x : TreeRecord) → Contains cuts x ⊎ Contains gained x → x.id ≡ u.name → ⊥
      apart x (inl c) = cut_other x.id ((are_cut x).0 c).0
      apart x (inr c) = gained_other x ((are_gained x).0 c)

  pub all_after : (op : Opened) (cuts gained own : List TreeRecord) → HoldsOpened w u op
      → ((t : TreeRecord) → Contains cuts t ↔ (IsUngrafted w u t.id × (t ≡ cut_record w t.id)))
      → ((t : TreeRecord) → Contains gained t ↔ IsGained w u t)
      → IsOwnPart op.record (own_record u.name u.focus op) own
      → AreAfter (cuts ++ gained ++ own)
  all_after op cuts gained own is are_cut are_gained is_own = record { each = each; differ = differ; others = others }
    where
      by_own : IsOwnPart op.record (own_record u.name u.focus op) own → (t : TreeRecord) → Contains own t → IsOfName new t.id t
      by_own (inl x) t c = absurd (contains_none t (subst (λ ts. Contains ts t) x.1 c))
      by_own (inr x) t c = ⊎_elim (λ same. subst (λ y. IsOfName new y.id y) same (own_is op is)) (λ h. absurd (contains_none t h)) (contains_cases (own_record u.name u.focus op) t [] (subst (λ ts. Contains ts t) x.1 c))

      each : (t : TreeRecord) → Contains (cuts ++ gained ++ own) t → IsOfName new t.id t
      each t c = ⊎_elim
          (λ d. ⊎_elim
          (λ x. let f = (are_cut t).0 x in subst (IsOfName new t.id) (sym f.1) (cut_is t.id f.0))
          (λ x. gained_is t ((are_gained t).0 x))
          (in_either cuts gained t d))
          (λ x. by_own is_own t x)
          (in_either (cuts ++ gained) own t c)

      differ : (t : TreeRecord) → Contains (cuts ++ gained ++ own) t → TreeDiffers w new t.id
      differ t c = ⊎_elim
          (λ d. ⊎_elim
          (λ x. cut_differs t.id ((are_cut t).0 x).0)
          (λ x. gained_differs t ((are_gained t).0 x))
          (in_either cuts gained t d))
          (λ x. own_part is_own x)
          (in_either (cuts ++ gained) own t c)
        where
          own_part : IsOwnPart op.record (own_record u.name u.focus op) own → Contains own t → TreeDiffers w new t.id
          own_part (inl x) d = absurd (contains_none t (subst (λ ts. Contains ts t) x.1 d))
          own_part (inr x) d = ⊎_elim
              (λ same. subst (λ y. TreeDiffers w new y.id) same (own_differs op is x.0))
              (λ h. absurd (contains_none t h))
              (contains_cases (own_record u.name u.focus op) t [] (subst (λ ts. Contains ts t) x.1 d))

      own_in : own ≡ own_record u.name u.focus op ∷ [] → Contains own (own_record u.name u.focus op)
      own_in e = subst (λ ts. Contains ts (own_record u.name u.focus op)) (sym e) (contains_head (own_record u.name u.focus op) (own_record u.name u.focus op) [] refl)

      others : (name : TreeId) → tree_change (cuts ++ gained ++ own) name ≡ None → KnownAlike w new name
      others name none = go is_own (cases_name name u.name)
        where
          out : (t : TreeRecord) → Contains (cuts ++ gained ++ own) t → t.id ≢ name
          out = tree_change_none (cuts ++ gained ++ own) name none

          in_cuts : (t : TreeRecord) → Contains cuts t → Contains (cuts ++ gained ++ own) t
          in_cuts t c = Contains-append_left (cuts ++ gained) own t (Contains-append_left cuts gained t c)

          in_gained : (t : TreeRecord) → Contains gained t → Contains (cuts ++ gained ++ own) t
          in_gained t c = Contains-append_left (cuts ++ gained) own t (Contains-append_right cuts gained t c)

          uncut : ¬ (IsUngrafted w u name)
          uncut cut = out (cut_record w name) (in_cuts (cut_record w name) ((are_cut (cut_record w name)).1 (cut, refl))) refl

          gain : FullNodeId → TreeRecord
          gain n = record { id = name; index = index_of w name; graft = Some n; root = option_map (λ t. t.root) (tree_named w name); focus = option_map (λ t. t.focus) (tree_named w name) }

          ungained : (n : FullNodeId) → ¬ (GainsGraft w u n name)
          ungained n gains = out (gain n) (in_gained (gain n) ((are_gained (gain n)).1 (record { n = n; gains = gains; graft = refl; index = refl; root = refl; focus = refl }))) refl

          go : IsOwnPart op.record (own_record u.name u.focus op) own → (name ≡ u.name) ⊎ (name ≢ u.name) → KnownAlike w new name
          go x (inr other) = others_alike name other uncut ungained
          go (inl x) (inl e) = subst (KnownAlike w new) (sym e) (own_alike op is x.0)
          go (inr x) (inl e) = absurd (out (own_record u.name u.focus op) (Contains-append_right (cuts ++ gained) own (own_record u.name u.focus op) (own_in x.1)) (sym e))
