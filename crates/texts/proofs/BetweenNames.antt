-- A position that is looked for by its name, in the text of another position.
use Rattle.std.proofs.Common.{◌≡◌, ◌<◌, ℕ, zero, suc, Bool, true, false, List, [], ◌∷◌, Some, refl, sym, ap, subst, ◌∙◌, arith}
use Rattle.std.specs.Prelude.{◌==◌, ◌↔◌, Option, None, slice_get, option_map, if◌then◌else◌}
use Rattle.std.specs.List.{list_all}
use Rattle.std.proofs.lemmas.Bool.{and_parts, eqb-true}
use Rattle.std.proofs.lemmas.Option.{same_Some}
use Rattle.schema.specs.declared.values.TextPosition.{TextPosition as Raw}
use Rattle.model.specs.declared.FullNodeId.{FullNodeId}
use Rattle.model.specs.Forest.{is_same}
use Rattle.model.specs.TextRuns.{sent_runs, said_count, supports_text_ranges}
use Rattle.model.specs.FlatText.{ShownRun, Position, count_in}
use Rattle.model.specs.Ranges.{Range, range_between, IsRaw, run_named, position_named}
use Rattle.model.proofs.Forest.PlaceOf.{same_from_test, test_self}
use Rattle.model.proofs.Text.Indexes.{eq_same}
use Rattle.model.proofs.Text.TextFacts.{is_text}
use Rattle.model.proofs.Worlds.Names.{position_none, position_gives}
use Rattle.views.specs.declared.node.node_ref.NodeRef.{NodeRef}
use Rattle.views.specs.declared.runs.Run.{Run}
use Rattle.views.specs.Nodes.{world_at, id_at}
use Rattle.views.specs.Runs.{text_root_of, run_world, root_id, run_id, sent_of}
use Rattle.texts.specs.declared.position.TextPosition.{TextPosition}
use Rattle.texts.specs.declared.range.TextRange.{TextRange}
use Rattle.text_boundaries.specs.RunNumbers.{number_in}
use Rattle.texts.specs.Positions.{root_at, node_text, position_text, flat_position}
use Rattle.texts.specs.TextRanges.{IsRangeOf}
use Rattle.texts.specs.FoundRanges.{IsRangeFound}
use Rattle.texts.specs.Betweens.{if_one_root, between_names}
use Rattle.text_boundaries.proofs.FlatRuns.{shown_of, shown_at_number, sent_at_number, count_at_number}
use Rattle.texts.proofs.FoundSteps.{range_absent, range_there}
use Rattle.texts.proofs.RangeSteps.{same_text}
use Rattle.texts.proofs.RunOrder.{number_of_one}

listed_passes : {X : Type 0} (test : X → Bool) (xs : List X) (k : ℕ) (x : X) → list_all test xs ≡ true → slice_get xs k ≡ Some x → test x ≡ true
listed_passes test [] k x all at = (let no : None ≡ Some x = at in cc)
listed_passes test (y ∷ ys) zero x all at = sym (ap test (same_Some y x at)) ∙ (and_parts (test y) (list_all test ys) all).0
listed_passes test (y ∷ ys) (suc k) x all at = listed_passes test ys k x (and_parts (test y) (list_all test ys) all).1 at

-- a run of a text is in the tree of its root
in_tree : (r : Run) → supports_text_ranges (run_world r) (root_id r) ≡ true → (run_id r).tree ≡ (root_id r).tree
in_tree r text =
    eqb-true (run_id r).tree (root_id r).tree
    (listed_passes (λ s. s.id.tree == (root_id r).tree) (sent_runs (run_world r) (root_id r)) (number_in r) (sent_of r) (is_text (run_world r) (root_id r) text).one_tree (sent_at_number r))

-- one name is said of a position
one_name : (p : TextPosition) (a b : Raw) → IsRaw (position_text p) (flat_position p) a → IsRaw (position_text p) (flat_position p) b → a ≡ b
one_name p a b first second =
    let nodes = same_Some a.node b.node (sym first.0 ∙ second.0) in
    let indexes = first.1 ∙ sym second.1 in
    λ i. record { node = nodes i; character_index = indexes i }

-- the run that it names is its own
own_node : (q : TextPosition) (raw : Raw) → IsRaw (position_text q) (flat_position q) raw → (run_id q.run).node ≡ raw.node
own_node q raw is = same_Some (run_id q.run).node raw.node (sym (ap (option_map (λ (s : ShownRun). s.id.node)) (shown_at_number q.run)) ∙ is.0)

-- what was asked of the ids of two roots
pub same_roots : (p q : TextPosition) (t : Bool) (m n : NodeRef) (x y : FullNodeId) → m ≡ root_at p → n ≡ root_at q → x ≡ id_at m → y ≡ id_at n → ((t ≡ true) ↔ (x ≡ y)) →
    (t ≡ true) ↔ (id_at (root_at p) ≡ id_at (root_at q))
same_roots p q t m n x y ms ns xs ys is = subst (λ (v : FullNodeId × FullNodeId). (t ≡ true) ↔ (v.0 ≡ v.1)) (λ i. ((xs ∙ ap id_at ms) i, (ys ∙ ap id_at ns) i)) is

module _ (p q : TextPosition) (t : Bool) (tested : (t ≡ true) ↔ (id_at (root_at p) ≡ id_at (root_at q))) where
  two_roots : t ≡ false → is_same (id_at (root_at p)) (id_at (root_at q)) ≡ false
  two_roots e = go (is_same (id_at (root_at p)) (id_at (root_at q))) refl
    where
      go : (b : Bool) → is_same (id_at (root_at p)) (id_at (root_at q)) ≡ b → is_same (id_at (root_at p)) (id_at (root_at q)) ≡ false
      go true is = (let on : t ≡ true = tested.1 (same_from_test (id_at (root_at p)) (id_at (root_at q)) is) in let no : true ≡ false = sym on ∙ e in cc)
      go false is = is

  one_root : t ≡ true → is_same (id_at (root_at p)) (id_at (root_at q)) ≡ true
  one_root e = ap (is_same (id_at (root_at p))) (sym (tested.0 e)) ∙ test_self (id_at (root_at p))

  -- of two roots there is no range
  pub none_of_two : (range : Option Range) → t ≡ false → IsRangeFound (world_at (root_at p)) (id_at (root_at p)) (if_one_root p q range) None
  none_of_two range e = range_absent _ _ (if_one_root p q range) (sym (ap (λ b. if b then range else None) (two_roots e)))

  -- of one root it is what is found by the name
  module _ (raw : Raw) (is : IsRaw (position_text q) (flat_position q) raw) (e : t ≡ true) where
    pub none_named_so : (other : Raw) → IsRaw (position_text q) (flat_position q) other → None ≡ position_named (position_text p) raw → IsRangeFound (world_at (root_at p)) (id_at (root_at p)) (between_names p q other) None
    none_named_so other also none =
        range_absent _ _ (between_names p q other)
        (ap (option_map (range_between (position_text p) (flat_position p))) (none ∙ ap (position_named (position_text p)) (one_name q raw other is also))
        ∙ sym (ap (λ b. if b then option_map (range_between (position_text p) (flat_position p)) (position_named (position_text p) other) else None) (one_root e)))

    pub found_by_name : (other : Raw) → IsRaw (position_text q) (flat_position q) other → (f : Position) (r : TextRange) → Some f ≡ position_named (position_text p) raw →
        IsRangeOf (world_at (root_at p)) (id_at (root_at p)) (range_between (position_text p) (flat_position p) f) r → IsRangeFound (world_at (root_at p)) (id_at (root_at p)) (between_names p q other) (Some r)
    found_by_name other also f r named range =
        range_there _ _ (range_between (position_text p) (flat_position p) f) (between_names p q other) r range
        (ap (option_map (range_between (position_text p) (flat_position p))) (named ∙ ap (position_named (position_text p)) (one_name q raw other is also))
        ∙ sym (ap (λ b. if b then option_map (range_between (position_text p) (flat_position p)) (position_named (position_text p) other) else None) (one_root e)))

    module _ (worlds : world_at (root_at q) ≡ world_at (root_at p)) where
      texts : position_text q ≡ position_text p
      texts = same_text (root_at q) (root_at p) worlds (sym (tested.0 e))

      -- in one state the run is there
      pub run_is_there : None ≡ run_named (position_text p) raw → {A : Type 0} → A
      run_is_there none =
          let at : slice_get (position_text p) (number_in q.run) ≡ Some (shown_of q.run) = sym (ap (λ t. slice_get t (number_in q.run)) texts) ∙ shown_at_number q.run in
          let off = position_none (λ (s : ShownRun). s.id.node.0 == raw.node.0) (position_text p) (number_in q.run) (shown_of q.run) (sym none) at in
          let on : ((run_id q.run).node.0 == raw.node.0) ≡ true = ap (λ n. n.0 == raw.node.0) (own_node q raw is) ∙ eq_same raw.node.0 in
          absurd (let no : true ≡ false = sym on ∙ off in cc)

      -- and it is the second position's own run
      pub run_is_own : (r : Run) → text_root_of r ≡ root_at p → Some (number_in r) ≡ run_named (position_text p) raw → number_in r ≡ number_in q.run
      run_is_own r same named =
          let found = position_gives (λ (s : ShownRun). s.id.node.0 == raw.node.0) (position_text p) (number_in r) (sym named) in
          let shown : found.0 ≡ shown_of r = same_Some found.0 (shown_of r) (sym found.1 ∙ sym (ap (λ n. slice_get (node_text n) (number_in r)) same) ∙ shown_at_number r) in
          let node : (run_id r).node.0 ≡ raw.node.0 = eqb-true (run_id r).node.0 raw.node.0 (sym (ap (λ (s : ShownRun). s.id.node.0 == raw.node.0) shown) ∙ found.2) in
          let own : raw.node.0 ≡ (run_id q.run).node.0 = sym (ap (λ n. n.0) (own_node q raw is)) in
          let roots : root_id r ≡ root_id q.run = ap id_at same ∙ tested.0 e in
          let ws : run_world r ≡ run_world q.run = ap world_at same ∙ sym worlds in
          let text : supports_text_ranges (run_world r) (root_id r) ≡ true = (λ i. supports_text_ranges (ws i) (roots i)) ∙ q.text in
          let trees : (run_id r).tree ≡ (run_id q.run).tree = in_tree r text ∙ ap (λ n. n.tree) roots ∙ sym (in_tree q.run q.text) in
          let ids : run_id r ≡ run_id q.run = (let nodes = node ∙ own in λ i. record { tree = trees i; node = record { 0 = nodes i } }) in
          number_of_one r q.run ws roots ids

      -- so it has that many characters
      pub index_within : (r : Run) (count : ℕ) → text_root_of r ≡ root_at p → Some (number_in r) ≡ run_named (position_text p) raw → count ≡ said_count (sent_of r) → count < raw.character_index → {A : Type 0} → A
      index_within r count same named counted past =
          let numbers = run_is_own r same named in
          let counts : count ≡ said_count (sent_of q.run) =
          counted ∙ sym (count_at_number r) ∙ ap (λ n. count_in (node_text n) (number_in r)) same ∙ ap (count_in (position_text p)) numbers ∙ sym (ap (λ t. count_in t (number_in q.run)) texts) ∙ count_at_number q.run in
          absurd (let within = q.within in let index = is.1 in omega (arith, within, counts, past, index))

      pub found_in_one_state : (r : Run) (f : Position) (s : TextRange) → text_root_of r ≡ root_at p → Some (number_in r) ≡ run_named (position_text p) raw → f.run ≡ number_in r → f.index ≡ raw.character_index →
          IsRangeOf (world_at (root_at p)) (id_at (root_at p)) (range_between (position_text p) (flat_position p) f) s →
          IsRangeFound (world_at (root_at p)) (id_at (root_at p)) (if_one_root p q (Some (range_between (position_text p) (flat_position p) (flat_position q)))) (Some s)
      found_in_one_state r f s same named runs indexes range =
          let place : f ≡ flat_position q = (let a = runs ∙ run_is_own r same named in let b = indexes ∙ is.1 in λ i. record { run = a i; index = b i }) in
          range_there _ _ (range_between (position_text p) (flat_position p) f) (if_one_root p q (Some (range_between (position_text p) (flat_position p) (flat_position q)))) s range
          (ap (λ g. Some (range_between (position_text p) (flat_position p) g)) place
          ∙ sym (ap (λ b. if b then Some (range_between (position_text p) (flat_position p) (flat_position q)) else None) (one_root e)))
