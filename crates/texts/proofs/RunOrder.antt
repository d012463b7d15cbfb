-- Which of two runs of one root is before the other, looked for to both sides, and the order of the positions in them.
use Rattle.std.proofs.Common.{◌≡◌, ◌≢◌, ℕ, ◌+◌, ◌<◌, ◌≤◌, Bool, true, false, length, refl, sym, ap, subst, ◌∙◌, arith, None, Some, Less, Equal, Greater}
use Rattle.std.specs.Prelude.{[], Option, MatchOption, nat_lt, slice_get}
use Rattle.std.specs.Ordering.{nat_cmp, MatchOrdering}
use Rattle.std.specs.Cmp.{nat_cmp_is, ranks}
use Rattle.std.specs.declared.cmp.Ordering.{Ordering}
use Rattle.std.proofs.lemmas.Bool.{ltb-true, ltb-false, lt-ltb, le-ltb}
use Rattle.std.proofs.lemmas.Option.{same_Some}
use Rattle.model.specs.TextRuns.{run_ids}
use Rattle.model.specs.FlatText.{FlatText, flat_text, Position, offset, start_of, biased_to_start, position_cmp}
use Rattle.model.proofs.Text.TextFacts.{start_next, start_bias}
use Rattle.model.proofs.Text.Sides.{IsOnStartSide, start_bias_side, start_rises}
use Rattle.views.specs.declared.runs.Run.{Run}
use Rattle.texts.specs.declared.position.TextPosition.{TextPosition}
use Rattle.views.specs.Nodes.{world_at, id_at}
use Rattle.views.specs.Runs.{text_root_of, run_world, root_id, run_id, ids_after, ids_before, IsAfter, IsPreviousRun}
use Rattle.views.specs.RunPlaces.{runs_before}
use Rattle.text_boundaries.specs.RunNumbers.{number_in, text_around}
use Rattle.texts.specs.Positions.{IsPositionAt, root_at, node_text, position_text, flat_position}
use Rattle.text_boundaries.proofs.FlatRuns.{id_at_number, runs_counted, last_number, first_number, number_next, number_previous}
use Rattle.texts.proofs.FlatPositions.{text_is_whole, is_position}

-- two runs of one root in one state are one run exactly if they have one number
module _ (p q : Run) (worlds : run_world p ≡ run_world q) (roots : root_id p ≡ root_id q) where
  pub number_of_one : run_id p ≡ run_id q → number_in p ≡ number_in q
  number_of_one e = λ i. length (runs_before (worlds i) (roots i) (e i))

  pub one_of_number : number_in p ≡ number_in q → run_id p ≡ run_id q
  one_of_number e = same_Some (run_id p) (run_id q) (sym (id_at_number p) ∙ (λ i. slice_get (run_ids (worlds i) (roots i)) (e i)) ∙ id_at_number q)

-- what is left to look at on each side
abbrev pub length_after : Option Run → ℕ
length_after None = 0
length_after (Some r) = 1 + length (ids_after r)

-- a walk from a run has come to n, and the runs that it has passed are not the other run
pub record IsOnWay (less upto : ℕ → ℕ → Type 0) (run other n : Run) : Type 0 where
  pub same : text_root_of n ≡ text_root_of run
  pub past : less (number_in run) (number_in n)
  pub left : less (number_in run) (number_in other) → upto (number_in n) (number_in other)

-- forwards, and backwards
abbrev pub IsAheadAt : Run → Run → Run → Type 0
IsAheadAt = IsOnWay (λ a b. a < b) (λ a b. a ≤ b)

abbrev pub IsBehindAt : Run → Run → Run → Type 0
IsBehindAt = IsOnWay (λ a b. b < a) (λ a b. b ≤ a)

-- or no run is left on the way
abbrev pub IsAhead : Run → Run → Option Run → Type 0
IsAhead run other None = number_in other ≤ number_in run
IsAhead run other (Some n) = IsAheadAt run other n

abbrev pub IsBehind : Run → Run → Option Run → Type 0
IsBehind run other None = number_in run ≤ number_in other
IsBehind run other (Some b) = IsBehindAt run other b

module _ (run other : Run) (worlds : run_world other ≡ run_world run) (roots : root_id other ≡ root_id run) where
  is_run : number_in other < length (text_around run)
  is_run = let n = runs_counted other in let e : length (text_around other) ≡ length (text_around run) = (λ i. length (flat_text (worlds i) (roots i))) in omega (arith, n, e)

  module _ (r : Run) (same : text_root_of r ≡ text_root_of run) where
    one_text : length (text_around r) ≡ length (text_around run)
    one_text = ap (λ n. length (node_text n)) same

    pub ahead_of : number_in run ≤ number_in r → (number_in run < number_in other → number_in r ≤ number_in other) → (number_in run < number_in other → number_in r ≢ number_in other) →
        (o : Option Run) → MatchOption o (ids_after r ≡ []) (IsAfter r) → IsAhead run other o
    ahead_of past left apart None none = go (nat_lt (number_in run) (number_in other)) refl
      where
        go : (b : Bool) → nat_lt (number_in run) (number_in other) ≡ b → number_in other ≤ number_in run
        go true e = absurd (let less : number_in run < number_in other = ltb-true _ _ e in let le = left less in let ne = apart less in omega (arith, is_run, le, ne, last_number r none, one_text))
        go false e = ltb-false _ _ e
    ahead_of past left apart (Some n) after = record {
      same = after.root ∙ same;
      past = (let next = number_next r n after in omega (arith, past, next));
      left = λ less. (let le = left less in let ne = apart less in let next = number_next r n after in omega (arith, le, ne, next));
    }

    pub behind_of : number_in r ≤ number_in run → (number_in other < number_in run → number_in other ≤ number_in r) → (number_in other < number_in run → number_in r ≢ number_in other) →
        (o : Option Run) → MatchOption o (ids_before r ≡ []) (IsPreviousRun r) → IsBehind run other o
    behind_of short left apart None none = go (nat_lt (number_in other) (number_in run)) refl
      where
        go : (b : Bool) → nat_lt (number_in other) (number_in run) ≡ b → number_in run ≤ number_in other
        go true e = absurd (let less : number_in other < number_in run = ltb-true _ _ e in let le = left less in let ne = apart less in omega (arith, less, le, ne, first_number r none))
        go false e = ltb-false _ _ e
    behind_of short left apart (Some b) before = record {
      same = before.root ∙ same;
      past = (let previous = number_previous r b before in omega (arith, short, previous));
      left = λ less. (let le = left less in let ne = apart less in let previous = number_previous r b before in omega (arith, le, ne, previous));
    }

    number_apart : run_id r ≢ run_id other → number_in r ≢ number_in other
    number_apart apart e = apart (one_of_number r other (ap world_at same ∙ sym worlds) (ap id_at same ∙ sym roots) e)

    number_is : run_id r ≡ run_id other → number_in r ≡ number_in other
    number_is e = number_of_one r other (ap world_at same ∙ sym worlds) (ap id_at same ∙ sym roots) e

  pub first_ahead : (o : Option Run) → MatchOption o (ids_after run ≡ []) (IsAfter run) → IsAhead run other o
  first_ahead o next = ahead_of run refl (omega arith) (λ less. omega (arith, less)) (λ less e. omega (arith, less, e)) o next

  pub first_behind : (o : Option Run) → MatchOption o (ids_before run ≡ []) (IsPreviousRun run) → IsBehind run other o
  first_behind o previous = behind_of run refl (omega arith) (λ less. omega (arith, less)) (λ less e. omega (arith, less, e)) o previous

  pub next_ahead : (n : Run) → IsAheadAt run other n → run_id n ≢ run_id other → (o : Option Run) → MatchOption o (ids_after n ≡ []) (IsAfter n) → IsAhead run other o
  next_ahead n at apart o next = ahead_of n at.same (let past = at.past in omega (arith, past)) at.left (λ _. number_apart n at.same apart) o next

  pub next_behind : (b : Run) → IsBehindAt run other b → run_id b ≢ run_id other → (o : Option Run) → MatchOption o (ids_before b ≡ []) (IsPreviousRun b) → IsBehind run other o
  next_behind b at apart o previous = behind_of b at.same (let past = at.past in omega (arith, past)) at.left (λ _. number_apart b at.same apart) o previous

  pub none_ahead : IsAhead run other None → false ≡ nat_lt (number_in run) (number_in other)
  none_ahead le = sym (le-ltb (number_in run) (number_in other) le)

  pub none_behind : run_id other ≢ run_id run → IsBehind run other None → true ≡ nat_lt (number_in run) (number_in other)
  none_behind apart le = sym (lt-ltb (number_in run) (number_in other) (let ne = number_apart run refl (λ e. apart (sym e)) in omega (arith, le, ne)))

  pub met_ahead : (n : Run) → IsAheadAt run other n → run_id n ≡ run_id other → true ≡ nat_lt (number_in run) (number_in other)
  met_ahead n at e = sym (lt-ltb (number_in run) (number_in other) (let past = at.past in omega (arith, past, number_is n at.same e)))

  pub met_behind : (b : Run) → IsBehindAt run other b → run_id b ≡ run_id other → false ≡ nat_lt (number_in run) (number_in other)
  met_behind b at e = sym (le-ltb (number_in run) (number_in other) (let past = at.past in omega (arith, past, number_is b at.same e)))

pub less_left : (n : Run) (o : Option Run) → MatchOption o (ids_after n ≡ []) (IsAfter n) → length_after o < length_after (Some n)
less_left n None none = omega arith
less_left n (Some m) after = let e = ap length after.after in omega (arith, e)

-- positions in two runs, on their start sides, are in the order of the runs
pub runs_tell : (t : FlatText) (p q : Position) → IsOnStartSide t p → IsOnStartSide t q → p.run < q.run → offset t p < offset t q
runs_tell t p q ps qs less =
    let last = qs.run in
    let in_run = ps.within (omega (arith, less, last)) in
    let rise = start_rises t (p.run + 1) q.run (omega (arith, less)) in
    omega (arith, in_run, rise, start_next t p.run)

-- the order of two positions of one root in one state, by their start sides
module _ (p q a b : TextPosition) (worlds : world_at (root_at q) ≡ world_at (root_at p)) (roots : id_at (root_at q) ≡ id_at (root_at p))
    (first : IsPositionAt (root_at p) (biased_to_start (position_text p) (flat_position p)) a) (second : IsPositionAt (root_at q) (biased_to_start (position_text q) (flat_position q)) b) where
  same_texts : position_text q ≡ position_text p
  same_texts = λ i. flat_text (worlds i) (roots i)

  first_side : IsOnStartSide (position_text p) (flat_position a)
  first_side = subst (IsOnStartSide (position_text p)) (sym first.at) (start_bias_side (position_text p) (flat_position p) (text_is_whole p) (is_position p))

  second_side : IsOnStartSide (position_text p) (flat_position b)
  second_side = subst (λ t. IsOnStartSide t (flat_position b)) same_texts (subst (IsOnStartSide (position_text q)) (sym second.at) (start_bias_side (position_text q) (flat_position q) (text_is_whole q) (is_position q)))

  first_offset : offset (position_text p) (flat_position a) ≡ offset (position_text p) (flat_position p)
  first_offset = ap (offset (position_text p)) first.at ∙ start_bias (position_text p) (flat_position p)

  second_offset : offset (position_text p) (flat_position b) ≡ offset (position_text q) (flat_position q)
  second_offset = ap (λ t. offset t (flat_position b)) (sym same_texts) ∙ ap (offset (position_text q)) second.at ∙ start_bias (position_text q) (flat_position q)

  side_worlds : run_world a.run ≡ run_world b.run
  side_worlds = ap world_at first.same ∙ sym worlds ∙ sym (ap world_at second.same)

  side_roots : root_id a.run ≡ root_id b.run
  side_roots = ap id_at first.same ∙ sym roots ∙ sym (ap id_at second.same)

  abbrev is_order : Ordering → Type 0
  is_order o = o ≡ position_cmp (position_text p) (flat_position p) (position_text q) (flat_position q)

  pub less_by_run : number_in a.run < number_in b.run → is_order Less
  less_by_run less =
      let told = runs_tell (position_text p) (flat_position a) (flat_position b) first_side second_side less in
      nat_cmp_is (offset (position_text p) (flat_position p)) (offset (position_text q) (flat_position q)) Less (omega (arith, first_offset, second_offset, told))

  pub greater_by_run : run_id a.run ≢ run_id b.run → number_in b.run ≤ number_in a.run → is_order Greater
  greater_by_run other le =
      let apart : number_in a.run ≢ number_in b.run = λ e. other (one_of_number a.run b.run side_worlds side_roots e) in
      let told = runs_tell (position_text p) (flat_position b) (flat_position a) second_side first_side (omega (arith, le, apart)) in
      nat_cmp_is (offset (position_text p) (flat_position p)) (offset (position_text q) (flat_position q)) Greater (omega (arith, first_offset, second_offset, told))

  pub order_in_run : run_id a.run ≡ run_id b.run → is_order (nat_cmp a.index b.index)
  order_in_run e = go (nat_cmp a.index b.index) (ranks a.index b.index)
    where
      starts : start_of (position_text p) (number_in a.run) ≡ start_of (position_text p) (number_in b.run)
      starts = ap (start_of (position_text p)) (number_of_one a.run b.run side_worlds side_roots e)

      go : (o : Ordering) → MatchOrdering o (a.index < b.index) (a.index ≡ b.index) (b.index < a.index) → is_order o
      go Less h = nat_cmp_is (offset (position_text p) (flat_position p)) (offset (position_text q) (flat_position q)) Less (omega (arith, first_offset, second_offset, starts, h))
      go Equal h = nat_cmp_is (offset (position_text p) (flat_position p)) (offset (position_text q) (flat_position q)) Equal (omega (arith, first_offset, second_offset, starts, h))
      go Greater h = nat_cmp_is (offset (position_text p) (flat_position p)) (offset (position_text q) (flat_position q)) Greater (omega (arith, first_offset, second_offset, starts, h))
