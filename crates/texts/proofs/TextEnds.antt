-- Positions at the ends of runs and of texts, and one move after another.
use Rattle.std.proofs.Common.{◌≡◌, ℕ, ◌+◌, ◌-◌, Bool, true, false, [], length, Some, refl, sym, ap, subst, ◌∙◌, arith}
use Rattle.std.specs.Prelude.{Option, None, MatchOption, IsSome}
use Rattle.std.specs.Option.{option_map_or}
use Rattle.model.specs.TextRuns.{run_ids, said_count, supports_text_ranges}
use Rattle.model.specs.FlatText.{FlatText, Position, count_in, start_at, end_at, document_start, document_end, first_run, last_run, biased_to_start, biased_to_end}
use Rattle.model.specs.Moves.{end_from, start_before}
use Rattle.views.specs.declared.node.node_ref.NodeRef.{NodeRef}
use Rattle.views.specs.declared.runs.Run.{Run}
use Rattle.texts.specs.declared.position.TextPosition.{TextPosition}
use Rattle.views.specs.Nodes.{world_at, id_at}
use Rattle.views.specs.Runs.{text_root_of, sent_of, IsLastOf, IsAfter, IsPreviousRun}
use Rattle.text_boundaries.specs.RunNumbers.{number_in}
use Rattle.texts.specs.Positions.{root_at, node_text, position_text, flat_position, IsPositionAt, IsMoved}
use Rattle.views.proofs.FitRuns.{no_runs_no_text}
use Rattle.text_boundaries.proofs.FlatRuns.{count_at_number, last_number, more_runs, number_next, number_previous}
use Rattle.texts.proofs.CharacterMoves.{same_place, goes_to_next, goes_to_previous}

-- the run that was found
pub run_found : (P : NodeRef → Run → Type 0) (n : NodeRef) (o : Option Run) (r : Run) → MatchOption o (run_ids (world_at n) (id_at n) ≡ []) (P n) → o ≡ Some r → P n r
run_found P n o r found is = subst (λ x. MatchOption x (run_ids (world_at n) (id_at n) ≡ []) (P n)) is found

-- a text has a run
pub some_run : (P : Run → Type 0) (n : NodeRef) (o : Option Run) → supports_text_ranges (world_at n) (id_at n) ≡ true → MatchOption o (run_ids (world_at n) (id_at n) ≡ []) P → IsSome o
some_run P n None text none = absurd (let off : true ≡ false = sym text ∙ no_runs_no_text (world_at n) (id_at n) none in cc)
some_run P n (Some r) text found = refl

pub counted_in : (n : NodeRef) (r : Run) (count : ℕ) → text_root_of r ≡ n → count ≡ said_count (sent_of r) → count ≡ count_in (node_text n) (number_in r)
counted_in n r count same is = is ∙ sym (count_at_number r) ∙ ap (λ m. count_in (node_text m) (number_in r)) same

pub at_document_end : (n : NodeRef) (r : Run) (count : ℕ) → IsLastOf n r → count ≡ said_count (sent_of r) → (let p : Position = record { run = number_in r; index = count } in p) ≡ document_end (node_text n)
at_document_end n r count last is =
    let at : number_in r ≡ length (node_text n) - 1 = (let e = last_number r last.order in let l = ap (λ m. length (node_text m)) last.root in omega (arith, e, l)) in
    same_place (document_end (node_text n)) (number_in r) count at (counted_in n r count last.root is ∙ ap (count_in (node_text n)) at)

pub at_end_from : (n : NodeRef) (r : Run) (from count : ℕ) (test : ℕ → Bool) → text_root_of r ≡ n → first_run (node_text n) from test ≡ Some (number_in r) → count ≡ said_count (sent_of r) →
    (let p : Position = record { run = number_in r; index = count } in p) ≡ end_from (node_text n) from test
at_end_from n r from count test same found is =
    same_place (end_at (node_text n) (number_in r)) (number_in r) count refl (counted_in n r count same is) ∙ sym (ap (λ o. option_map_or (end_at (node_text n)) o (document_end (node_text n))) found)

pub at_start_before : (t : FlatText) (number many : ℕ) (test : ℕ → Bool) → last_run t many test ≡ Some number → start_at number ≡ start_before t many test
at_start_before t number many test found = sym (ap (λ o. option_map_or start_at o document_start) found)

-- a move from where another one led
pub then_at : (move : FlatText → Position → Position) (n : NodeRef) (q : Position) (b r : TextPosition) → IsPositionAt n q b → IsPositionAt (root_at b) (move (position_text b) (flat_position b)) r → IsPositionAt n (move (node_text n) q) r
then_at move n q b r there on = record { same = on.same ∙ there.same; at = on.at ∙ ap (λ m. move (node_text m) (flat_position b)) there.same ∙ ap (move (node_text n)) there.at }

-- a move from where another one led is the move that consists of both
pub then_moved : (first second : FlatText → Position → Position) (p b r : TextPosition) → IsMoved first p b → IsMoved second b r → IsMoved (λ t q. second t (first t q)) p r
then_moved first second p b r there on = then_at second (root_at p) (first (position_text p) (flat_position p)) b r there on

-- a move that leads nowhere else
pub stays : (move : FlatText → Position → Position) (p : TextPosition) → move (position_text p) (flat_position p) ≡ flat_position p → IsMoved move p p
stays move p e = record { same = refl; at = sym e }

-- over the end of a run, and over its start
pub goes_on : (p b : TextPosition) → IsAfter p.run b.run → p.index ≡ said_count (sent_of p.run) → b.index ≡ 0 → IsMoved biased_to_start p b
goes_on p b after at_end at_start = record {
  same = after.root;
  at = same_place (start_at (number_in p.run + 1)) (number_in b.run) b.index (number_next p.run b.run after) at_start
      ∙ sym (goes_to_next (position_text p) (flat_position p) (at_end ∙ sym (count_at_number p.run)) (more_runs p.run b.run after));
}

pub goes_back : (p b : TextPosition) → IsPreviousRun p.run b.run → p.index ≡ 0 → b.index ≡ said_count (sent_of b.run) → IsMoved biased_to_end p b
goes_back p b before at_start at_end = record {
  same = before.root;
  at = same_place (end_at (position_text p) (number_in b.run)) (number_in b.run) b.index refl (counted_in (root_at p) b.run b.index before.root at_end)
      ∙ sym (goes_to_previous (position_text p) (flat_position p) (number_in b.run) at_start (number_previous p.run b.run before));
}
