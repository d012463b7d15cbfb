-- What a node's settling says, and keeps.
use Rattle.std.proofs.Common.{◌≡◌, ◌≢◌, ◌⊎◌, List, ◌++◌, ◌∷◌, [], ℕ, Bool, true, false, ◌||◌, Option, Some, None, ⊎_elim, inl, inr, refl, sym, ap, subst, ◌∙◌}
use Rattle.std.specs.Prelude.{Contains, is_some, slice_get, option_map, option_and_then, option_to_list, if◌then◌else◌}
use Rattle.std.proofs.lemmas.List.{append-nil}
use Rattle.std.proofs.lemmas.List.Elements.{Contains-append_left, Contains-append_right, Contains-append_cases}
use Rattle.std.specs.BTreeSet.{BTreeSet, contains}
use Rattle.std.proofs.lemmas.Option.{same_Some}
use Rattle.model.specs.declared.FullNodeId.{FullNodeId}
use Rattle.model.specs.FullIds.{full_cmp}
use Rattle.model.specs.World.{World, Place, StandsAt, IsNode, root_of, graft_name, in_tree}
use Rattle.model.specs.State.{Lists}
use Rattle.model.specs.Update.{UpdateData, MissingData, ListedTwice, Stands, index_for, merged_world}
use Rattle.model.specs.Surgery.{IsOld, Seat, IsAt, Left, Entered, HasEntered, Adopts}
use Rattle.model.proofs.Worlds.Names.{cases_id}
use Rattle.model.proofs.State.StatePlaces.{by_place, stands_listed, root_named_parts}
use Rattle.model.proofs.Surgery.Spots.{at_or_left, spot_once, at_is_node, node_stays, entered_tree, named_is_node}
use Rattle.model.proofs.Surgery.FaultsStand.{entered_missing_stands, root_entered_stands}
use Rattle.tree_changes.specs.LookUps.{IsPlaceOf}
use Rattle.tree_plan.specs.declared.passes.Opened.{Opened}
use Rattle.tree_plan.specs.declared.passes.Arrival.{Arrival}
use Rattle.tree_plan.specs.declared.passes.Named.{Named}
use Rattle.tree_plan.specs.declared.passes.Compared.{Compared}
use Rattle.tree_plan.specs.declared.passes.Settled.{Settled}
use Rattle.tree_plan.specs.declared.settling.Before.{Before}
use Rattle.tree_plan.specs.Passes.{at, has, HoldsOpened, IsShift, IsNamedAs, HoldsCompared, HoldsSettled}
use Rattle.tree_plan.specs.Settling.{Comes, StoodAt, StoodBefore, place_kept, WasBelow, KeepsDouble, KeepsAdopter, IsSettledSoFar, IsSettledAt, Settles, SettlesOne}
use Rattle.model.proofs.Update.RulesOrFault.{no_some}
use Rattle.model.proofs.Members.{contains_none, contains_first, contains_cases}
use Rattle.tree_plan.proofs.Arrived.{arrived, arrival_of}
use Rattle.tree_plan.proofs.IdMaps.{Put, put_here, put_apart, none_or_some}

-- ---- what is kept

abbrev Double : Type 0
Double = FullNodeId × Place

abbrev Doubles : Type 0
Doubles = List Double

abbrev entry_of : FullNodeId → Place → Double
entry_of id place = (id, place)

pub kept_none : (id : FullNodeId) (place : Option Place) (a : Settled) → place ≡ None → KeepsDouble id place a a
kept_none id place a none = record {
  doubles = sym (ap (λ o. a.doubles.items ++ option_to_list (option_map (λ (p : Place). entry_of id p) o)) none ∙ append-nil a.doubles.items);
  adopters = refl;
  moved = refl;
}

pub kept_some : (id : FullNodeId) (place : Option Place) (p : Place) (a b : Settled) → place ≡ Some p → b ≡ record a { doubles = b.doubles } → b.doubles.items ≡ a.doubles.items ++ entry_of id p ∷ [] → KeepsDouble id place a b
kept_some id place p a b is same pushed = record {
  doubles = pushed ∙ ap (λ o. a.doubles.items ++ option_to_list (option_map (λ (p : Place). entry_of id p) o)) (sym is);
  adopters = ap (λ (x : Settled). x.adopters) same;
  moved = ap (λ (x : Settled). x.has_moved) same;
}

pub adopted_below : (parent : FullNodeId) (was : Option (Option Place)) (a : Settled) → WasBelow was parent → KeepsAdopter parent was a a
adopted_below parent was a below = record {
  below = λ _. refl;
  here = λ other. absurd (other below);
  others = λ n other. (λ h. h, λ h. h);
  doubles = refl;
}

pub adopted_here : (parent : FullNodeId) (was : Option (Option Place)) (a : Settled) (s : BTreeSet FullNodeId) (moved : Bool) → ¬ (WasBelow was parent) → Put parent true (λ n. contains full_cmp a.adopters n) (λ n. contains full_cmp s n) → moved ≡ (a.has_moved || is_some was) → KeepsAdopter parent was a (record a { adopters = s; has_moved = moved })
adopted_here parent was a s moved other put is = record {
  below = λ h. absurd (other h);
  here = λ _. (put_here parent true (λ n. contains full_cmp a.adopters n) (λ n. contains full_cmp s n) put, is);
  others = λ n apart. let same : contains full_cmp s n ≡ contains full_cmp a.adopters n = put_apart parent true (λ n. contains full_cmp a.adopters n) (λ n. contains full_cmp s n) put n apart in (λ h. sym same ∙ h, λ h. same ∙ h);
  doubles = refl;
}

no_place : (s : Seat) (p : Place) → None ≡ s → s ≡ Some p → ⊥
no_place s p e f = let no : None ≡ Some p = e ∙ f in cc

-- ---- where a node stood

module _ (w : World) (u : UpdateData) (o : IsOld w) where
  abbrev m : World
  m = merged_world w u

  pub stood_left : (s : Seat) (c : FullNodeId) → Left w u s c → StoodAt w c (Some s)
  stood_left s c l = record {
    new = λ e. cc;
    old = λ t e. at_is_node w u o s c l.0;
    place = λ t p e. let same : s ≡ t = same_Some s t e in (
      λ is. subst (λ x. IsAt w x c) (same ∙ is) l.0,
      λ lists. sym same ∙ spot_once w u o s (Some p) c l.0 lists,
    );
  }

  -- a root that hasn't left hasn't entered as anything else
  no_root : (c : FullNodeId) → Comes w u c → ((s : Seat) → ¬ (Left w u s c)) → root_of w c.tree ≢ Some c
  no_root c comes stays is = ⊎_elim after (stays None) (at_or_left w u None c is)
    where
      after : IsAt m None c → ⊥
      after root = (comes.root (subst (λ k. root_of m k ≡ Some c) (entered_tree w u comes.entered.0 c comes.entered.1) root)).1 is

  pub stood_stays : (c : FullNodeId) (place : Option Place) → Comes w u c → ((s : Seat) → ¬ (Left w u s c)) → IsNode w c → IsPlaceOf w c place → StoodAt w c (Some place)
  stood_stays c place comes stays there stands = record {
    new = λ e. cc;
    old = λ t e. there;
    place = λ t p e. let same : place ≡ t = same_Some place t e in (
      λ is. listed p ((stands p).0 (same ∙ is)),
      λ lists. sym same ∙ (stands p).1 (stands_listed w p c (ungrafting p lists) lists),
    );
  }
    where
      listed : (p : Place) → StandsAt w p c → Lists w p c
      listed p at = ⊎_elim (λ h. h.1) (λ h. absurd (no_root c comes stays (root_named_parts w h.0 c h.2).1)) (by_place w p c at)

      ungrafting : (p : Place) → Lists w p c → graft_name w p.0 ≡ None
      ungrafting p lists = ⊎_elim (λ none. none) (λ f. let none : None ≡ Some c = ap (λ xs. slice_get xs p.1) (sym (o.graft_childless p.0 f.0 f.1)) ∙ lists in absurd cc) (none_or_some (graft_name w p.0))

  -- the place that a node hasn't left is one where it is listed before and after
  module _ (c : FullNodeId) (b : Before) (h : StoodBefore w u c b) where
    pub kept_is : (q : Place) → place_kept b ≡ Some q → Lists w q c × Lists m q c
    kept_is q is = go b.has_left refl is
      where
        there : (o : Option (Option Place)) → b.was ≡ o → b.has_left ≡ false → option_and_then (λ s. s) o ≡ Some q → Lists w q c × Lists m q c
        there None e f g = let no : None ≡ Some q = g in absurd cc
        there (Some s) e f g =
            let was : Lists w q c = (h.stood.place s q e).0 g in
            (was, ⊎_elim (λ still. still) (λ l. absurd (h.stays f (Some q) l)) (at_or_left w u (Some q) c was))

        go : (l : Bool) → b.has_left ≡ l → (if l then None else option_and_then (λ s. s) b.was) ≡ Some q → Lists w q c × Lists m q c
        go true e f = let no : None ≡ Some q = f in absurd cc
        go false e f = there b.was refl e f

    pub is_kept : (q : Place) → Lists w q c → Lists m q c → place_kept b ≡ Some q
    is_kept q was still = there b.was refl
      where
        here : (s : Option Place) → b.was ≡ Some s → s ≡ Some q → (l : Bool) → b.has_left ≡ l → (if l then None else option_and_then (λ s. s) b.was) ≡ Some q
        here s e f true g = absurd ((h.left g s e).1 (subst (λ t. IsAt m t c) (sym f) still))
        here s e f false g = ap (option_and_then (λ s. s)) e ∙ f

        there : (o : Option (Option Place)) → b.was ≡ o → place_kept b ≡ Some q
        there None e = absurd (h.stood.new e (o.listed_is_node q c was))
        there (Some s) e = here s e ((h.stood.place s q e).1 was) b.has_left refl

  pub stood_and_left : (s : Seat) (c : FullNodeId) → Left w u s c → StoodBefore w u c (record { was = Some s; has_left = true })
  stood_and_left s c l = record {
    stood = stood_left s c l;
    left = λ yes t e. subst (λ x. Left w u x c) (same_Some s t e) l;
    stays = λ no. cc;
  }

  pub stood_and_stays : (c : FullNodeId) (was : Option (Option Place)) → StoodAt w c was → ((s : Seat) → ¬ (Left w u s c)) → StoodBefore w u c (record { was = was; has_left = false })
  stood_and_stays c was stood stays = record {
    stood = stood;
    left = λ no. cc;
    stays = λ _. stays;
  }

  module _ (d : Compared) (k : HoldsCompared w u d) where
    pub stood_named : (c : FullNodeId) (n : Named) → Comes w u c → ((s : Seat) → ¬ (Left w u s c)) → at d.named c ≡ Some n → StoodAt w c n.was
    stood_named c n comes stays is = go n.was refl
      where
        entry : IsNamedAs w u c n
        entry = k.is_named c n is

        go : (x : Option (Option Place)) → n.was ≡ x → StoodAt w c x
        go None e = record {
          new = λ _. entry.new e;
          old = λ t e. cc;
          place = λ t p e. cc;
        }
        go (Some place) e = let f = entry.old place e in stood_stays c place comes stays f.0 f.1

    pub named_there : (c : FullNodeId) (n : Named) → at d.named c ≡ Some n → IsNode m c
    named_there c n is = named_is_node w u c (k.is_named c n is).named

    pub missing_stands : (c : FullNodeId) → HasEntered w u c → at d.named c ≡ None → ¬ (IsNode w c) → Stands w u (MissingData c.node)
    missing_stands c e none absent = entered_missing_stands w u o e.0 c e.1 (λ n. no_some (at d.named c) none (k.has_named c n)) absent

    module _ (p : Opened) (opening : HoldsOpened w u p) where
      root_is : (c : FullNodeId) → root_of m (index_for w u.name) ≡ Some c → c ≡ in_tree p.index p.root
      root_is c is = same_Some c (in_tree p.index p.root) (sym is ∙ ap (root_of m) (sym opening.index) ∙ opening.root)

      pub comes_root : (c : FullNodeId) → Entered w u None c → Comes w u c
      comes_root c e = record { entered = (None, e); root = λ _. e }

      pub comes_below : (c : FullNodeId) (s : Seat) → Entered w u s c → c ≢ in_tree p.index p.root → Comes w u c
      comes_below c s e other = record { entered = (s, e); root = λ is. absurd (other (root_is c is)) }

      pub root_below_stands : (c : FullNodeId) (q : Place) → Entered w u (Some q) c → c ≡ in_tree p.index p.root → Stands w u (ListedTwice c.node)
      root_below_stands c q e same = root_entered_stands w u o q c (ap (root_of m) (sym opening.index) ∙ opening.root ∙ ap Some (sym same)) e

      pub free_below : (c : FullNodeId) → c ≢ in_tree p.index p.root → root_of m (index_for w u.name) ≢ Some c
      free_below c other is = other (root_is c is)

    -- ---- a node that has only shifted

    -- it was listed by the same parent, in a place that it left, and it isn't the root
    pub shifted_settled : (c : FullNodeId) (x : Arrival) → at d.entered c ≡ Some x → x.is_shifted ≡ true → (a : Settled) → IsSettledSoFar w u a → SettlesOne w u c x.spot a a
    shifted_settled c x is shifted a so_far = record {
      so_far = so_far;
      keeps = record { doubles = λ x q h. h; adopters = λ n h. h; moved = λ h. h };
      here = record {
        is_node = node_stays w u c (o.listed_is_node (f.0, f.1) c f.3.0);
        unlisted = λ p at_p root. absurd (not_root root);
        doubled = λ q was still. absurd (f.3.1 (subst (λ y. Lists m y c) (o.listed_once q (f.0, f.1) c was f.3.0) still));
        adopter = λ p at_p none. absurd (none f.1 (subst (λ y. Lists w (y, f.1) c) (parent_of p at_p) f.3.0));
        unmoved = λ still p at_p old. (f.1, subst (λ y. Lists w (y, f.1) c) (parent_of p at_p) f.3.0);
      };
    }
      where
        f : IsShift w u c x.spot
        f = k.shifted c x is shifted

        entered : Entered w u x.spot c
        entered = arrived w u d k c x is

        not_root : root_of m (index_for w u.name) ≡ Some c → ⊥
        not_root root =
            let tree : c.tree ≡ index_for w u.name = entered_tree w u x.spot c entered in
            let here : IsAt m None c = subst (λ j. root_of m j ≡ Some c) (sym tree) root in
            let as_root : Entered w u None c = (here, λ before. o.root_unlisted (f.0, f.1) c.tree c before f.3.0) in
            no_place x.spot (f.0, f.2) (k.compared.entered_once None x.spot c as_root entered) f.4

        parent_of : (p : Place) → x.spot ≡ Some p → f.0 ≡ p.0
        parent_of p at_p = ap (λ (y : Place). y.0) (same_Some (f.0, f.2) p (sym f.4 ∙ at_p))

  -- ---- one node

  module _ (c : FullNodeId) (s : Seat) (stood_at : Before) (e : Entered w u s c) (stood_before : StoodBefore w u c stood_at) (there : IsNode m c) where
    abbrev was : Option (Option Place)
    was = stood_at.was

    abbrev stood : StoodAt w c was
    stood = stood_before.stood

    abbrev IsFree : Type 0
    IsFree = (p : Place) → s ≡ Some p → root_of m (index_for w u.name) ≢ Some c

    -- an old node stood at the place that is kept
    was_some : IsNode w c → (t : Option Place) × (was ≡ Some t)
    was_some is = ⊎_elim (λ none. absurd (stood.new none is)) (λ h. h) (none_or_some was)

    module _ (a k : Settled) (so_far : IsSettledSoFar w u a) (kept : KeepsDouble c (place_kept stood_at) a k) where
      abbrev own : Doubles
      own = option_to_list (option_map (λ (p : Place). entry_of c p) (place_kept stood_at))

      in_all : (e : Double) → Contains (a.doubles.items ++ own) e → Contains k.doubles.items e
      in_all e h = subst (λ (xs : Doubles). Contains xs e) (sym kept.doubles) h

      places_kept : (x : FullNodeId) (q : Place) → Contains a.doubles.items (entry_of x q) → Contains k.doubles.items (entry_of x q)
      places_kept x q h = in_all (entry_of x q) (Contains-append_left a.doubles.items own (entry_of x q) h)

      listed_kept : (q : Place) → Lists w q c → Lists m q c → Contains k.doubles.items (entry_of c q)
      listed_kept q lists still =
          let is : place_kept stood_at ≡ Some q = is_kept c stood_at stood_before q lists still in
          let here : own ≡ entry_of c q ∷ [] = ap (λ (z : Option Place). option_to_list (option_map (λ (p : Place). entry_of c p) z)) is in
          in_all (entry_of c q) (Contains-append_right a.doubles.items own (entry_of c q) (subst (λ (xs : Doubles). Contains xs (entry_of c q)) (sym here) (contains_first (entry_of c q) [])))

      found_kept : (x : FullNodeId) (q : Place) → Contains k.doubles.items (entry_of x q) → HasEntered w u x × Lists w q x × Lists m q x
      found_kept x q h = ⊎_elim (so_far.found x q) (here (place_kept stood_at) refl) (Contains-append_cases a.doubles.items own (entry_of x q) (subst (λ (xs : Doubles). Contains xs (entry_of x q)) kept.doubles h))
        where
          here : (t : Option Place) → place_kept stood_at ≡ t → Contains (option_to_list (option_map (λ (p : Place). entry_of c p) t)) (entry_of x q) → HasEntered w u x × Lists w q x × Lists m q x
          here None none h = absurd (contains_none (entry_of x q) h)
          here (Some t) some h =
              let same : entry_of c t ≡ entry_of x q = ⊎_elim (λ e. e) (λ h. absurd (contains_none (entry_of x q) h)) (contains_cases (entry_of c t) (entry_of x q) [] h) in
              let key : c ≡ x = ap (λ (z : Double). z.0) same in
              let place : t ≡ q = ap (λ (z : Double). z.1) same in
              let f = kept_is c stood_at stood_before q (some ∙ ap Some place) in
              (subst (HasEntered w u) key (s, e), subst (Lists w q) key f.0, subst (Lists m q) key f.1)

      module _ (b : Settled) (doubles : b.doubles ≡ k.doubles) where
        lists_are : b.doubles.items ≡ k.doubles.items
        lists_are = ap (λ f. f.items) doubles

        in_b : (e : Double) → Contains k.doubles.items e → Contains b.doubles.items e
        in_b e h = subst (λ (xs : Doubles). Contains xs e) (sym lists_are) h

        in_k : (e : Double) → Contains b.doubles.items e → Contains k.doubles.items e
        in_k e h = subst (λ (xs : Doubles). Contains xs e) lists_are h

        -- as a root
        pub rooted_so_far : b.adopters ≡ a.adopters → IsSettledSoFar w u b
        rooted_so_far same = record {
          found = λ x q h. found_kept x q (in_k (entry_of x q) h);
          adopters = λ n h. so_far.adopters n (subst (λ f. has f n) same h);
        }

        pub rooted_settles : b.adopters ≡ a.adopters → b.has_moved ≡ a.has_moved → Settles a b
        rooted_settles same moved = record {
          doubles = λ x q h. in_b (entry_of x q) (places_kept x q h);
          adopters = λ n h. subst (λ f. has f n) (sym same) h;
          moved = λ h. sym moved ∙ h;
        }

        pub rooted_here : s ≡ None → IsSettledAt w u c s b
        rooted_here none = record {
          is_node = there;
          unlisted = λ p is. cc;
          doubled = λ q lists still. in_b (entry_of c q) (listed_kept q lists still);
          adopter = λ p is. cc;
          unmoved = λ h p is. cc;
        }

      -- at a place of a parent
      module _ (b : Settled) (parent : FullNodeId) (k' : ℕ) (at_place : s ≡ Some (parent, k')) (adopted : KeepsAdopter parent was k b) where
        doubles' : b.doubles ≡ k.doubles
        doubles' = adopted.doubles

        below_listed : WasBelow was parent → (j : ℕ) × Lists w (parent, j) c
        below_listed h = (h.0, (stood.place (Some (parent, h.0)) (parent, h.0) h.1).0 refl)

        adopts : ¬ (WasBelow was parent) → Adopts w u parent
        adopts other = (k', c, subst (λ t. Entered w u t c) at_place e, λ j lists. let t = was_some (o.listed_is_node (parent, j) c lists) in other (j, t.1 ∙ ap Some ((stood.place t.0 (parent, j) t.1).1 lists)))

        cases_below : WasBelow was parent ⊎ ¬ (WasBelow was parent)
        cases_below = go was refl
          where
            at_parent : (x : FullNodeId) (j : ℕ) → was ≡ Some (Some (x, j)) → (x ≡ parent) ⊎ (x ≢ parent) → WasBelow was parent ⊎ ¬ (WasBelow was parent)
            at_parent x j is (inl same) = inl (j, is ∙ ap (λ y. Some (Some (y, j))) same)
            at_parent x j is (inr other) = inr (λ h. other (ap (λ z. z.0) (same_Some (x, j) (parent, h.0) (same_Some (Some (x, j)) (Some (parent, h.0)) (sym is ∙ h.1)))))

            go : (o : Option (Option Place)) → was ≡ o → WasBelow was parent ⊎ ¬ (WasBelow was parent)
            go None is = inr (λ h. cc)
            go (Some None) is = inr (λ h. let f : None ≡ Some (parent, h.0) = same_Some None (Some (parent, h.0)) (sym is ∙ h.1) in cc)
            go (Some (Some p)) is = at_parent p.0 p.1 is (cases_id p.0 parent)

        sound : (n : FullNodeId) → has b.adopters n → Adopts w u n
        sound n h = go (cases_id parent n) cases_below
          where
            before : has k.adopters n → Adopts w u n
            before h = so_far.adopters n (subst (λ f. has f n) kept.adopters h)

            go : (parent ≡ n) ⊎ (parent ≢ n) → WasBelow was parent ⊎ ¬ (WasBelow was parent) → Adopts w u n
            go (inr other) b' = before ((adopted.others n other).0 h)
            go (inl same) (inl below) = before (subst (λ f. has f n) (ap (λ x. x.adopters) (adopted.below below)) h)
            go (inl same) (inr other) = subst (Adopts w u) same (adopts other)

        kept_adopter : (n : FullNodeId) → has k.adopters n → has b.adopters n
        kept_adopter n h = go (cases_id parent n) cases_below
          where
            go : (parent ≡ n) ⊎ (parent ≢ n) → WasBelow was parent ⊎ ¬ (WasBelow was parent) → has b.adopters n
            go (inr other) b' = (adopted.others n other).1 h
            go (inl same) (inl below) = subst (λ f. has f n) (ap (λ x. x.adopters) (sym (adopted.below below))) h
            go (inl same) (inr other) = subst (has b.adopters) same (adopted.here other).0

        unmoved_or : (x y : Bool) → (x || y) ≡ false → (x ≡ false) × (y ≡ false)
        unmoved_or true y h = cc
        unmoved_or false y h = (refl, h)

        unmoved_before : b.has_moved ≡ false → (k.has_moved ≡ false) × (¬ (WasBelow was parent) → is_some was ≡ false)
        unmoved_before h = go cases_below
          where
            go : WasBelow was parent ⊎ ¬ (WasBelow was parent) → (k.has_moved ≡ false) × (¬ (WasBelow was parent) → is_some was ≡ false)
            go (inl below) = (ap (λ x. x.has_moved) (sym (adopted.below below)) ∙ h, λ other. absurd (other below))
            go (inr other) = let f = unmoved_or k.has_moved (is_some was) (sym (adopted.here other).1 ∙ h) in (f.0, λ _. f.1)

        pub placed_so_far : IsSettledSoFar w u b
        placed_so_far = record {
          found = λ x q h. found_kept x q (in_k b doubles' (entry_of x q) h);
          adopters = sound;
        }

        pub placed_settles : Settles a b
        placed_settles = record {
          doubles = λ x q h. in_b b doubles' (entry_of x q) (places_kept x q h);
          adopters = λ n h. kept_adopter n (subst (λ f. has f n) (sym kept.adopters) h);
          moved = λ h. sym kept.moved ∙ (unmoved_before h).0;
        }

        pub placed_here : root_of m (index_for w u.name) ≢ Some c → IsSettledAt w u c s b
        placed_here free = record {
          is_node = there;
          unlisted = λ p is. free;
          doubled = λ q lists still. in_b b doubles' (entry_of c q) (listed_kept q lists still);
          adopter = λ p is none.
              let same : parent ≡ p.0 = ap (λ z. z.0) (same_Some (parent, k') p (sym at_place ∙ is)) in
              let other : ¬ (WasBelow was parent) = λ h. let f = below_listed h in none f.0 (subst (λ x. Lists w (x, f.0) c) same f.1) in
              subst (has b.adopters) same (adopted.here other).0;
          unmoved = λ h p is old.
              let same : parent ≡ p.0 = ap (λ z. z.0) (same_Some (parent, k') p (sym at_place ∙ is)) in
              let t = was_some old in
              let below : WasBelow was parent = ⊎_elim (λ b. b) (λ other. let f : is_some was ≡ false = (unmoved_before h).1 other in let g : is_some was ≡ true = ap is_some t.1 in absurd cc) cases_below in
              let f = below_listed below in
              (f.0, subst (λ x. Lists w (x, f.0) c) same f.1);
        }

    pub rooted : (a b : Settled) → IsSettledSoFar w u a → KeepsDouble c (place_kept stood_at) a b → s ≡ None → SettlesOne w u c s a b
    rooted a b so_far kept none = record {
      so_far = rooted_so_far a b so_far kept b refl kept.adopters;
      keeps = rooted_settles a b so_far kept b refl kept.adopters kept.moved;
      here = rooted_here a b so_far kept b refl none;
    }

    pub placed : (a k b : Settled) → IsSettledSoFar w u a → KeepsDouble c (place_kept stood_at) a k → (p : Place) → s ≡ Some p → KeepsAdopter p.0 was k b → root_of m (index_for w u.name) ≢ Some c → SettlesOne w u c s a b
    placed a k b so_far kept p is adopted free = record {
      so_far = placed_so_far a k so_far kept b p.0 p.1 is adopted;
      keeps = placed_settles a k so_far kept b p.0 p.1 is adopted;
      here = placed_here a k so_far kept b p.0 p.1 is adopted free;
    }

-- ---- all of them

pub settles_start : (w : World) (u : UpdateData) (a : Settled) → a.doubles.items ≡ [] → ((n : FullNodeId) → ¬ (has a.adopters n)) → IsSettledSoFar w u a
settles_start w u a none empty = record {
  found = λ c q h. absurd (contains_none (entry_of c q) (subst (λ (xs : Doubles). Contains xs (entry_of c q)) none h));
  adopters = λ n h. absurd (empty n h);
}

pub settled_stays : (w : World) (u : UpdateData) (a b : Settled) → Settles a b → (c : FullNodeId) (s : Seat) → IsSettledAt w u c s a → IsSettledAt w u c s b
settled_stays w u a b keeps c s h = record {
  is_node = h.is_node;
  unlisted = h.unlisted;
  doubled = λ q lists still. keeps.doubles c q (h.doubled q lists still);
  adopter = λ p is none. keeps.adopters p.0 (h.adopter p is none);
  unmoved = λ still. h.unmoved (keeps.moved still);
}

pub settlement : (w : World) (u : UpdateData) (d : Compared) (a : Settled) → HoldsCompared w u d → IsSettledSoFar w u a → ((c : FullNodeId) (x : Arrival) → at d.entered c ≡ Some x → IsSettledAt w u c x.spot a) → HoldsSettled w u a
settlement w u d a k so_far all = record {
  settled = record {
    compared = k.compared;
    root_unlisted = λ p c root e. (here (Some p) c e).unlisted p refl root;
    entered_is_node = λ s c e. (here s c e).is_node;
  };
  doubled = λ c q. (so_far.found c q, λ f. (here f.0.0 c f.0.1).doubled q f.1 f.2);
  adopters = λ n. (so_far.adopters n, λ h. (here (Some (n, h.0)) h.1 h.2).adopter (n, h.0) refl h.3);
  unmoved = λ still p c e there. (here (Some p) c e).unmoved still p refl there;
}
  where
    here : (s : Seat) (c : FullNodeId) → Entered w u s c → IsSettledAt w u c s a
    here s c e = let x = arrival_of w u d k c s e in subst (λ t. IsSettledAt w u c t a) x.2 (all c x.0 x.1)
