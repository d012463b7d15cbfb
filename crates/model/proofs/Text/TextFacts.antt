-- Small facts of texts.
use Rattle.std.proofs.Common.{◌≡◌, ℕ, suc, zero, ◌+◌, ◌-◌, ◌<◌, Bool, true, false, List, [], ◌∷◌, length, take, Option, Some, None, refl, sym, ap, ◌∙◌, arith, add-one}
use Rattle.std.specs.Prelude.{is_some, ◌&&◌, ◌||◌, ◌==◌, nat_lt, if◌then◌else◌, sum_by, option_map, filter_map}
use Rattle.std.specs.Option.{option_or}
use Rattle.std.specs.List.{list_any, cons_option}
use Rattle.std.proofs.lemmas.Bool.{and_parts, and_from, ltb-true, eqb-true}
use Rattle.std.proofs.lemmas.List.Sums.{sum_by-cons}
use Rattle.model.specs.declared.FullNodeId.{FullNodeId}
use Rattle.model.specs.World.{World}
use Rattle.model.specs.TextRuns.{sent_runs, has_runs, lie_in_tree, are_cut, have_rising_words, are_empty_last, are_linked_in_order, have_size, IsText, supports_text_ranges}
use Rattle.model.specs.FlatText.{FlatText, count, count_in, start_of, Position, offset, start_at, end_at, biased_to_start, biased_to_end}
use Rattle.model.specs.Values.{own_value, shown_value, has_value_in_runs, document_text, value_of, has_value}
use Rattle.model.specs.Labels.{own_label, label_part, labelled_by, joined_text, label_of, has_label}

pub is_text : (w : World) (root : FullNodeId) → supports_text_ranges w root ≡ true → IsText w root
unfolding supports_text_ranges
is_text w root e =
    let runs = sent_runs w root in
    let a = and_parts (has_runs w root runs) _ e in
    let b = and_parts (lie_in_tree root.tree runs) _ a.1 in
    let c = and_parts (are_cut runs) _ b.1 in
    let d = and_parts (have_rising_words runs) _ c.1 in
    let f = and_parts (are_empty_last runs) _ d.1 in
    let g = and_parts (are_linked_in_order runs) _ f.1 in
    let h = and_parts (have_size runs) _ g.1 in
    record { runs = a.0; one_tree = b.0; cut = c.0; words = d.0; empty_last = f.0; links = g.0; size = h.0; metrics = h.1 }

pub supports : (w : World) (root : FullNodeId) → IsText w root → supports_text_ranges w root ≡ true
unfolding supports_text_ranges
supports w root t =
    and_from _ _ t.runs (and_from _ _ t.one_tree (and_from _ _ t.cut (and_from _ _ t.words (and_from _ _ t.empty_last (and_from _ _ t.links (and_from _ _ t.size t.metrics))))))

-- ---- values and labels

value_there : (o : Option (List ℕ)) (f : List ℕ → List ℕ) (b : Bool) (doc : List ℕ) → (is_some o || b) ≡ is_some (option_or (option_map f o) (if b then Some doc else None))
value_there None f true doc = refl
value_there None f false doc = refl
value_there (Some v) f b doc = refl

pub has_value_is : (w : World) (id : FullNodeId) → has_value w id ≡ is_some (value_of w id)
unfolding value_of
has_value_is w id = value_there (own_value w id) (shown_value w id) (has_value_in_runs w id) (document_text w id)

any_part : (part : FullNodeId → Option (List ℕ)) (ids : List FullNodeId) → list_any (λ m. is_some (part m)) ids ≡ is_some (joined_text (filter_map part ids))
any_part part [] = refl
any_part part (id ∷ ids) = go (part id) (any_part part ids)
  where
    go : (o : Option (List ℕ)) → list_any (λ m. is_some (part m)) ids ≡ is_some (joined_text (filter_map part ids)) → (is_some o || list_any (λ m. is_some (part m)) ids) ≡ is_some (joined_text (cons_option o (filter_map part ids)))
    go None rest = rest
    go (Some t) rest = refl

pub has_label_is : (w : World) (id : FullNodeId) → has_label w id ≡ is_some (label_of w id)
unfolding label_of
has_label_is w id = go (own_label w id)
  where
    go : (own : Option (List ℕ)) → (is_some own || list_any (λ m. is_some (label_part w m)) (labelled_by w id)) ≡ is_some (option_or own (joined_text (filter_map (label_part w) (labelled_by w id))))
    go None = any_part (label_part w) (labelled_by w id)
    go (Some t) = refl

-- ---- offsets

pub start_next : (t : FlatText) (r : ℕ) → start_of t (r + 1) ≡ start_of t r + count_in t r
start_next [] zero = refl
start_next [] (suc r) = rw add-one refl
start_next (s ∷ t) zero = refl
start_next (s ∷ t) (suc r) =
    let ih = start_next t r in
    rw add-one (sum_by-cons count s (take (suc r) t) ∙ (let e : sum_by count (take (suc r) t) ≡ sum_by count (take r t) + count_in t r = rw (sym (add-one r)) ih in omega (arith, e, sum_by-cons count s (take r t))))

pub start_bias : (t : FlatText) (p : Position) → offset t (biased_to_start t p) ≡ offset t p
start_bias t p = go (p.index == count_in t p.run) refl (nat_lt (p.run + 1) (length t))
  where
    go : (a : Bool) → (p.index == count_in t p.run) ≡ a → (b : Bool) → offset t (if a && b then start_at (p.run + 1) else p) ≡ offset t p
    go true e true = let same : p.index ≡ count_in t p.run = eqb-true _ _ e in omega (arith, start_next t p.run, same)
    go true e false = refl
    go false e b = refl

pub end_bias : (t : FlatText) (p : Position) → offset t (biased_to_end t p) ≡ offset t p
end_bias t p = go (p.index == 0) refl (nat_lt 0 p.run) refl
  where
    go : (a : Bool) → (p.index == 0) ≡ a → (b : Bool) → nat_lt 0 p.run ≡ b → offset t (if a && b then end_at t (p.run - 1) else p) ≡ offset t p
    go true e true f =
        let none : p.index ≡ 0 = eqb-true _ _ e in
        let some : 0 < p.run = ltb-true 0 p.run f in
        let back : p.run - 1 + 1 ≡ p.run = omega arith in
        omega (arith, start_next t (p.run - 1), ap (start_of t) back, none)
    go true e false f = refl
    go false e b f = refl
