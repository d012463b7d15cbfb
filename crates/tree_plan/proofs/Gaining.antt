-- Trees that get another graft, one after another.
use Rattle.std.proofs.Common.{◌≡◌, ◌≢◌, ◌⊎◌, ℕ, ◌<◌, ◌≤◌, List, [], ◌∷◌, ◌++◌, length, map, take, get_or, Some, None, IsSome, ◌↔◌, refl, sym, ap, subst, ◌∙◌, inl, inr, ⊎_elim, arith}
use Rattle.std.specs.List.{Contains, AllPairs}
use Rattle.std.proofs.lemmas.List.{get_or-take, map-append, get_or-map, length-map, length-take-le, get_or_default, take_all}
use Rattle.std.proofs.lemmas.List.Elements.{Contains-get_or, Contains-append_left, Contains-push, Contains-push_cases}
use Rattle.schema.specs.declared.TreeId.{TreeId}
use Rattle.model.specs.declared.FullNodeId.{FullNodeId}
use Rattle.model.specs.World.{World, root_named}
use Rattle.model.specs.Update.{UpdateData, GraftedTwice, Stands, IsNamed}
use Rattle.model.specs.Surgery.{IsOld, Gone, IsClimbed}
use Rattle.model.proofs.Worlds.Names.{index_of_once}
use Rattle.model.proofs.State.StatePlaces.{root_named_parts, value_of}
use Rattle.model.proofs.Surgery.FaultsStand.{rival_stands}
use Rattle.tree_changes.specs.declared.look_ups.TreeRecord.{TreeRecord}
use Rattle.tree_plan.specs.declared.passes.Compared.{Compared}
use Rattle.tree_plan.specs.declared.passes.Removed.{Removed}
use Rattle.tree_plan.specs.declared.regrafting.Regrafted.{Regrafted}
use Rattle.tree_plan.specs.Passes.{at, at_name, has, GainsGraft, HoldsCompared, HoldsRemoved, IsGained, HoldsRegrafted}
use Rattle.tree_plan.specs.Regrafts.{HasRival, HasNoRival, MovesIn, AreRegrafted, grafted_record}

-- the root of a tree of one of these names, which the node gains
abbrev pub IsMoved : World → UpdateData → List TreeId → FullNodeId → FullNodeId → Type 0
IsMoved w u names id g = (name : TreeId) × Contains names name × GainsGraft w u g name × (root_named w name ≡ Some id)

module _ (w : World) (u : UpdateData) (c : Compared) (r : Removed) (compared : HoldsCompared w u c) where
  -- the named node that grafts a gained tree gains it
  pub gainer : (name : TreeId) → Contains c.gained.items name → (g : FullNodeId) → at_name c.grafted name ≡ Some g → GainsGraft w u g name
  gainer name «in» g is =
      let h = (compared.gained name).0 «in» in
      let grafts = (compared.grafted name g).0 is in
      let same : h.0 ≡ g = compared.compared.named_apart h.0 g name h.1.0 grafts.0 h.1.1 grafts.1 in
      subst (λ x. GainsGraft w u x name) same h.1

  pub grafted_there : (name : TreeId) → Contains c.gained.items name → (g : FullNodeId) × (at_name c.grafted name ≡ Some g)
  grafted_there name «in» = let h = (compared.gained name).0 «in» in (h.0, (compared.grafted name h.0).1 (h.1.0, h.1.1))

  pub regrafts_nothing : (found : Regrafted) → found.trees.items ≡ [] → ((id : FullNodeId) → at found.moved_in.entries id ≡ None) → AreRegrafted w u c r [] found
  regrafts_nothing found trees roots = record {
    free = λ name «in». absurd (omega (arith, «in».1));
    trees = trees;
    moved_in = λ id g. ((λ is. let no : None ≡ Some g = sym (roots id) ∙ is in cc), (λ h. absurd (omega (arith, h.1.1))));
  }

  pub regrafts_more : (names : List TreeId) (name : TreeId) (a b : Regrafted) → Contains c.gained.items name → ¬ (Contains names name) → AreRegrafted w u c r names a
      → HasNoRival w c r name → b.trees.items ≡ a.trees.items ++ grafted_record w c name ∷ [] → MovesIn w c name a.moved_in b.moved_in → AreRegrafted w u c r (names ++ name ∷ []) b
  regrafts_more names name a b gained new before free trees moves = record {
    free = λ other «in». ⊎_elim (λ h. before.free other h) (λ same. subst (HasNoRival w c r) same free) (Contains-push_cases names name other «in»);
    trees = trees ∙ ap (λ xs. xs ++ grafted_record w c name ∷ []) before.trees ∙ sym (map-append (grafted_record w c) names (name ∷ []));
    moved_in = λ id g. (to id g, from id g);
  }
    where
      to : (id g : FullNodeId) → at b.moved_in.entries id ≡ Some g → IsMoved w u (names ++ name ∷ []) id g
      to id g is = ⊎_elim
          (λ h. (name, Contains-push names name, gainer name gained g h.1, h.0))
          (λ h. let f = (before.moved_in id g).0 h.1 in (f.0, Contains-append_left names (name ∷ []) f.0 f.1, f.2, f.3))
          ((moves id g).0 is)

      from : (id g : FullNodeId) → IsMoved w u (names ++ name ∷ []) id g → at b.moved_in.entries id ≡ Some g
      from id g h = (moves id g).1 (⊎_elim
          (λ «in». inr (
            (λ root.
                let same : h.0 ≡ name = index_of_once w h.0 name id.tree (root_named_parts w h.0 id h.3).0 (root_named_parts w name id root).0 in
                new (subst (Contains names) same «in»)),
            (before.moved_in id g).1 (h.0, «in», h.2, h.3),
          ))
          (λ same. inl (ap (root_named w) same ∙ h.3, ap (at_name c.grafted) same ∙ (compared.grafted h.0 g).1 (h.2.0, h.2.1)))
          (Contains-push_cases names name h.0 h.1))

  -- the gained names are apart
  pub not_before : (k : ℕ) (d : TreeId) → k < length c.gained.items → ¬ (Contains (take k c.gained.items) (get_or c.gained.items k d))
  not_before k d fits h =
      let xs = c.gained.items in
      let x = get_or xs k d in
      let same : length (take k xs) ≡ k = length-take-le k xs (omega arith) in
      let low : h.0 < k = omega (arith, h.1) in
      compared.gained_once h.0 k x low fits (sym (get_or-take k xs h.0 x low) ∙ h.2 ∙ get_or_default xs k d x fits)

  regrafted_all : (removed : HoldsRemoved w u r) → IsClimbed w u → (found : Regrafted) → AreRegrafted w u c r c.gained.items found → HoldsRegrafted w u found.trees.items found.moved_in
  regrafted_all removed climbed found all = record {
    passed = record { climbed = climbed; rival_gone = λ n g name named grafts gained was. apart g (all.free name ((compared.gained name).1 (n, (named, grafts, gained))) g was) };
    gained = λ t. subst (λ xs. Contains xs t ↔ IsGained w u t) (sym all.trees) (to t, from t);
    gained_once = subst (AllPairs (λ a b. a.id ≢ b.id)) (sym all.trees) once;
    moved_in = λ id g. ((λ is. let h = (all.moved_in id g).0 is in (h.0, h.2, h.3)), (λ h. (all.moved_in id g).1 (h.0, (compared.gained h.0).1 (g, h.1), h.1, h.2)));
  }
    where
      apart : (g : FullNodeId) → has r.gone g ⊎ IsSome (at c.named g) → Gone w u g ⊎ IsNamed w u g
      apart g (inl gone) = inl ((removed.gone g).0 gone)
      apart g (inr named) = let n = value_of (at c.named g) named in inr (compared.is_named g n.0 n.1).named

      to : (t : TreeRecord) → Contains (map (grafted_record w c) c.gained.items) t → IsGained w u t
      to t h =
          let xs = c.gained.items in
          let same : length (map (grafted_record w c) xs) ≡ length xs = length-map xs (grafted_record w c) in
          let fits : h.0 < length xs = omega (arith, h.1) in
          let name = get_or xs h.0 t.id in
          let «in» = Contains-get_or xs h.0 t.id fits in
          let f = grafted_there name «in» in
          subst (IsGained w u) (sym (get_or-map (grafted_record w c) xs h.0 t.id t fits) ∙ h.2) (record { n = f.0; gains = gainer name «in» f.0 f.1; graft = f.1; index = refl; root = refl; focus = refl })

      from : (t : TreeRecord) → IsGained w u t → Contains (map (grafted_record w c) c.gained.items) t
      from t h =
          let xs = c.gained.items in
          let «in» = (compared.gained t.id).1 (h.n, h.gains) in
          let same : length (map (grafted_record w c) xs) ≡ length xs = length-map xs (grafted_record w c) in
          let graft : at_name c.grafted t.id ≡ t.graft = (compared.grafted t.id h.n).1 (h.gains.0, h.gains.1) ∙ sym h.graft in
          let t_same : grafted_record w c t.id ≡ t = λ i. record { id = t.id; index = (sym h.index) i; graft = graft i; root = (sym h.root) i; focus = (sym h.focus) i } in
          subst (Contains (map (grafted_record w c) xs)) t_same («in».0, omega (arith, «in».1), get_or-map (grafted_record w c) xs «in».0 t.id (grafted_record w c t.id) «in».1 ∙ ap (grafted_record w c) «in».2)

      once : AllPairs (λ a b. a.id ≢ b.id) (map (grafted_record w c) c.gained.items)
      once i j d below fits e =
          let xs = c.gained.items in
          let same : length (map (grafted_record w c) xs) ≡ length xs = length-map xs (grafted_record w c) in
          let high : j < length xs = omega (arith, fits) in
          let low : i < length xs = omega (arith, below) in
          compared.gained_once i j d.id below high (sym (ap (λ t. t.id) (get_or-map (grafted_record w c) xs i d.id d low)) ∙ e ∙ ap (λ t. t.id) (get_or-map (grafted_record w c) xs j d.id d high))

  pub rival_refused : IsOld w → (removed : HoldsRemoved w u r) → IsClimbed w u → (name : TreeId) → Contains c.gained.items name → HasRival w c r name → Stands w u (GraftedTwice name)
  rival_refused o removed climbed name gained h =
      let f = (compared.gained name).0 gained in
      rival_stands w u o climbed f.0 h.0 name f.1.0 f.1.1 f.1.2 h.1 (λ gone. h.2 ((removed.gone h.0).1 gone)) (λ named. let n = value_of (at c.named h.0) (compared.has_named h.0 named) in let no : None ≡ Some n.0 = sym h.3 ∙ n.1 in cc)

  -- once all names are gone over
  pub regrafted_in_the_end : (k : ℕ) → length c.gained.items ≤ k → HoldsRemoved w u r → IsClimbed w u → (found : Regrafted) → AreRegrafted w u c r (take k c.gained.items) found → HoldsRegrafted w u found.trees.items found.moved_in
  regrafted_in_the_end k fits removed climbed found all = regrafted_all removed climbed found (subst (λ names. AreRegrafted w u c r names found) (take_all k c.gained.items fits) all)
