-- Searches for a run by its name, run by run.
use Rattle.std.proofs.Common.{◌≡◌, ℕ, suc, ◌+◌, ◌<◌, ◌≤◌, Bool, true, false, cond, List, [], ◌∷◌, length, drop, Some, refl, sym, ap, ◌∙◌, arith, add-one}
use Rattle.std.specs.Prelude.{None, not, ◌==◌, nat_lt, nat_le, min, map, slice_get, position, option_map, option_and_then, if◌then◌else◌}
use Rattle.std.specs.List.{position_or_len}
use Rattle.std.proofs.Math.Seq.{drop-cons}
use Rattle.std.proofs.lemmas.Bool.{lt-ltb, le-ltb, leb-true, le-leb}
use Rattle.std.proofs.lemmas.Option.{slice_get_within, get_or_from_slice_get}
use Rattle.schema.specs.declared.values.TextPosition.{TextPosition}
use Rattle.model.specs.TextRuns.{run_ids, sent_run, said_count, is_password}
use Rattle.model.specs.FlatText.{Position, count_in, ShownRun, shown_run, needs_masking, flat_text}
use Rattle.model.specs.Ranges.{run_named, position_named, nearest_named}
use Rattle.views.specs.declared.node.node_ref.NodeRef.{NodeRef}
use Rattle.views.specs.declared.runs.Run.{Run}
use Rattle.views.specs.Nodes.{world_at, id_at}
use Rattle.views.specs.Runs.{text_root_of, run_id, sent_of, ids_after, IsFirstOf, IsAfter}
use Rattle.text_boundaries.specs.RunNumbers.{number_in}
use Rattle.texts.specs.Positions.{node_text}
use Rattle.texts.proofs.TextEnds.{counted_in}
use Rattle.text_boundaries.proofs.FlatRuns.{shown_of, shown_at_number, first_number, last_number, number_next}

module _ {X : Type 0} (test : X → Bool) (xs : List X) where
  -- none of the first so many passes
  abbrev pub NonePasses : ℕ → Type 0
  NonePasses n = position_or_len test xs ≡ n + position_or_len test (drop n xs)

  module _ (n : ℕ) (x : X) (at : slice_get xs n ≡ Some x) where
    from_here : drop n xs ≡ x ∷ drop (suc n) xs
    from_here = drop-cons xs n x (slice_get_within xs n x at) ∙ ap (λ y. y ∷ drop (suc n) xs) (get_or_from_slice_get xs n x x at)

    counted : (b : Bool) → test x ≡ b → position_or_len test (drop n xs) ≡ cond (not b) (1 + position_or_len test (drop (suc n) xs)) 0
    counted b e = ap (position_or_len test) from_here ∙ ap (λ c. cond (not c) (1 + position_or_len test (drop (suc n) xs)) 0) e

    pub first_passes : NonePasses n → test x ≡ true → position test xs ≡ Some n
    first_passes before e =
        let here = counted true e in
        let is : position_or_len test xs ≡ n = omega (arith, before, here) in
        ap (λ k. cond (nat_lt k (length xs)) (Some k) None) is ∙ ap (λ b. cond b (Some n) None) (lt-ltb n (length xs) (slice_get_within xs n x at))

    pub one_more_fails : NonePasses n → test x ≡ false → NonePasses (n + 1)
    one_more_fails before e =
        let here = counted false e in
        let same : position_or_len test (drop (n + 1) xs) ≡ position_or_len test (drop (suc n) xs) = ap (λ k. position_or_len test (drop k xs)) (add-one n) in
        omega (arith, before, here, same)

  pub all_fail : (n : ℕ) → NonePasses n → length xs ≤ n → position test xs ≡ None
  all_fail n before past = ap (λ b. cond b (Some (position_or_len test xs)) None) (le-ltb (position_or_len test xs) (length xs) (omega (arith, before, past)))

module _ (n : NodeRef) (raw : TextPosition) where
  abbrev pub has_name : ShownRun → Bool
  has_name s = s.id.node.0 == raw.node.0

  -- no run before this one has the name
  abbrev pub IsSought : Run → Type 0
  IsSought r = NonePasses has_name (node_text n) (number_in r)

  pub sought_first : (r : Run) → IsFirstOf n r → IsSought r
  sought_first r first =
      let at = first_number r first.order in
      let all : position_or_len has_name (drop (number_in r) (node_text n)) ≡ position_or_len has_name (node_text n) = ap (λ k. position_or_len has_name (drop k (node_text n))) at in
      omega (arith, at, all)

  module _ (r : Run) (same : text_root_of r ≡ n) (before : IsSought r) where
    there : slice_get (node_text n) (number_in r) ≡ Some (shown_of r)
    there = sym (ap (λ m. slice_get (node_text m) (number_in r)) same) ∙ shown_at_number r

    pub named_here : (b : Bool) → b ≡ ((run_id r).node.0 == raw.node.0) → b ≡ true → Some (number_in r) ≡ run_named (node_text n) raw
    named_here b is e = sym (first_passes has_name (node_text n) (number_in r) (shown_of r) there before (sym is ∙ e))

    pub named_later : (b : Bool) (s : Run) → IsAfter r s → b ≡ ((run_id r).node.0 == raw.node.0) → b ≡ false → IsSought s
    named_later b s after is e =
        let more = one_more_fails has_name (node_text n) (number_in r) (shown_of r) there before (sym is ∙ e) in
        let next = number_next r s after in
        let same : position_or_len has_name (drop (number_in s) (node_text n)) ≡ position_or_len has_name (drop (number_in r + 1) (node_text n)) = ap (λ k. position_or_len has_name (drop k (node_text n))) next in
        omega (arith, more, next, same)

    pub named_never : (b : Bool) → ids_after r ≡ [] → b ≡ ((run_id r).node.0 == raw.node.0) → b ≡ false → None ≡ run_named (node_text n) raw
    named_never b last is e =
        let more = one_more_fails has_name (node_text n) (number_in r) (shown_of r) there before (sym is ∙ e) in
        let end = last_number r last in
        let size : length (node_text n) ≡ number_in r + 1 = sym (ap (λ m. length (node_text m)) same) ∙ sym end in
        sym (all_fail has_name (node_text n) (number_in r + 1) more (omega (arith, size)))

pub none_named : (n : NodeRef) (raw : TextPosition) → run_ids (world_at n) (id_at n) ≡ [] → None ≡ run_named (node_text n) raw
unfolding flat_text
none_named n raw none =
    let w = world_at n in
    sym (ap (λ ids. run_named (map (shown_run w (id_at n) (is_password w (id_at n)) (needs_masking w (id_at n))) (map (sent_run w) ids)) raw) none)

-- ---- positions by their names

module _ (n : NodeRef) (raw : TextPosition) (r : Run) (count : ℕ) (same : text_root_of r ≡ n) (named : Some (number_in r) ≡ run_named (node_text n) raw) (is : count ≡ said_count (sent_of r)) where
  counts : count ≡ count_in (node_text n) (number_in r)
  counts = counted_in n r count same is

  abbrev place : ℕ → Position
  place i = record { run = number_in r; index = i }

  by_name : nearest_named (node_text n) raw ≡ Some (place (min raw.character_index count))
  by_name =
      sym (ap (option_map (λ (k : ℕ). let p : Position = record { run = k; index = min raw.character_index (count_in (node_text n) k) } in p)) named)
      ∙ ap (λ m. Some (place (min raw.character_index m))) (sym counts)

  pub nearest_cut : count < raw.character_index → Some (place count) ≡ nearest_named (node_text n) raw
  nearest_cut past = sym (by_name ∙ ap (λ i. Some (place i)) (let e : min raw.character_index count ≡ count = omega (arith, past) in e))

  pub nearest_within : raw.character_index ≤ count → Some (place raw.character_index) ≡ nearest_named (node_text n) raw
  nearest_within upto = sym (by_name ∙ ap (λ i. Some (place i)) (let e : min raw.character_index count ≡ raw.character_index = omega (arith, upto) in e))

  tested : position_named (node_text n) raw ≡ (if nat_le raw.character_index count then Some (place raw.character_index) else None)
  tested =
      sym (ap (option_and_then (λ (k : ℕ). if nat_le raw.character_index (count_in (node_text n) k) then Some (let p : Position = record { run = k; index = raw.character_index } in p) else None)) named)
      ∙ ap (λ m. if nat_le raw.character_index m then Some (place raw.character_index) else None) (sym counts)

  pub named_past : count < raw.character_index → None ≡ position_named (node_text n) raw
  named_past past = sym (tested ∙ ap (λ b. if b then Some (place raw.character_index) else None) (go (nat_le raw.character_index count) refl))
    where
      go : (b : Bool) → nat_le raw.character_index count ≡ b → nat_le raw.character_index count ≡ false
      go true e = absurd (let no = leb-true raw.character_index count e in omega (arith, no, past))
      go false e = e

  pub named_within : raw.character_index ≤ count → Some (place raw.character_index) ≡ position_named (node_text n) raw
  named_within upto = sym (tested ∙ ap (λ b. if b then Some (place raw.character_index) else None) (le-leb raw.character_index count upto))
