-- What the runs of a range have in common, piece by piece.
use Rattle.std.proofs.Common.{◌≡◌, suc, Bool, true, false, List, [], ◌∷◌, Some, refl, sym, ap, subst, ◌∙◌, arith}
use Rattle.std.specs.Prelude.{◌↔◌, All, Contains, option_map, filter_map, slice_get}
use Rattle.std.specs.List.{cons_option}
use Rattle.std.proofs.lemmas.List.Elements.{All-cons}
use Rattle.model.specs.declared.FullNodeId.{FullNodeId}
use Rattle.model.specs.TextRuns.{SentRun}
use Rattle.model.specs.FlatText.{FlatText, ShownRun}
use Rattle.model.specs.Ranges.{Piece as PieceData, pieces, passed_runs}
use Rattle.views.specs.declared.node.node_ref.NodeRef.{NodeRef}
use Rattle.texts.specs.declared.range.TextRange.{TextRange}
use Rattle.texts.specs.declared.pieces.Piece.{Piece}
use Rattle.texts.specs.declared.looks.Look.{Look}
use Rattle.views.specs.Nodes.{world_at, id_at}
use Rattle.views.specs.Runs.{text_root_of, run_id, run_of, sent_of}
use Rattle.texts.specs.Positions.{node_text}
use Rattle.text_boundaries.specs.RunNumbers.{number_in}
use Rattle.texts.specs.TextRanges.{world_in, text_in, range_at}
use Rattle.texts.specs.Pieces.{pieces_past, IsNextPiece}
use Rattle.texts.specs.Looks.{AreSame}
use Rattle.texts.specs.RangeProperties.{SomeDiffer}
use Rattle.views.proofs.Focusing.{is_not}
use Rattle.text_boundaries.proofs.FlatRuns.{shown_of, shown_at_number}
use Rattle.texts.proofs.PieceSteps.{pieces_from, as_next}

-- the runs of these pieces
abbrev pub runs_in : FlatText → List PieceData → List FullNodeId
runs_in t ps = filter_map (λ p. option_map (λ s. s.id) (slice_get t p.run)) ps

all_of_none : {X : Type 0} (P : X → Type 0) → All P []
all_of_none P k d h = absurd (omega (arith, h))

module _ (r : TextRange) where
  run_first : (p : Piece) → text_root_of p.run ≡ r.root → runs_in (text_in r) (pieces_from r p) ≡ run_id p.run ∷ runs_in (text_in r) (pieces_past (text_in r) (range_at r) (number_in p.run))
  run_first p same =
      let rest = runs_in (text_in r) (pieces_past (text_in r) (range_at r) (number_in p.run)) in
      let here : slice_get (text_in r) (number_in p.run) ≡ Some (shown_of p.run) = ap (λ n. slice_get (node_text n) (number_in p.run)) (sym same) ∙ shown_at_number p.run in
      ap (λ o. cons_option (option_map (λ (s : ShownRun). s.id) o) rest) here

  contains_own : (p : Piece) → text_root_of p.run ≡ r.root → Contains (runs_in (text_in r) (pieces_from r p)) (run_id p.run)
  contains_own p same = subst (λ xs. Contains xs (run_id p.run)) (sym (run_first p same)) (0, omega arith, refl)

  -- the view of a piece's run stands in the world of the range
  pub world_of_view : (left : List PieceData) (p : Piece) (v : NodeRef) → IsNextPiece r left p → world_at v ≡ world_at (text_root_of p.run) → world_at v ≡ world_in r
  world_of_view left p v there e = e ∙ ap world_at there.same

  -- the run of the first piece is one of those that the range passes
  pub passes_first : (p : Piece) (v : NodeRef) → IsNextPiece r (pieces (text_in r) (range_at r)) p → run_of v ≡ sent_of p.run → Contains (passed_runs (text_in r) (range_at r)) (id_at v)
  passes_first p v first is =
      subst (λ id. Contains (passed_runs (text_in r) (range_at r)) id) (sym (ap (λ (s : SentRun). s.id) is))
      (subst (λ ps. Contains (runs_in (text_in r) ps) (run_id p.run)) (sym first.is) (contains_own p first.same))

  module _ (what : Look) (node : NodeRef) where
    abbrev IsLike : FullNodeId → Type 0
    IsLike run = AreSame what (world_in r) run (id_at node)

    -- what is found of the runs from this piece on is found of all
    pub record IsFarAs (p : Piece) : Type 0 where
      pub there : IsNextPiece r (pieces_from r p) p
      pub all : All IsLike (runs_in (text_in r) (pieces_from r p)) → All IsLike (passed_runs (text_in r) (range_at r))
      pub some : (run : FullNodeId) → Contains (runs_in (text_in r) (pieces_from r p)) run → Contains (passed_runs (text_in r) (range_at r)) run

    pub look_starts : (p : Piece) → IsNextPiece r (pieces (text_in r) (range_at r)) p → IsFarAs p
    look_starts p first =
        let same : runs_in (text_in r) (pieces (text_in r) (range_at r)) ≡ runs_in (text_in r) (pieces_from r p) = ap (runs_in (text_in r)) first.is in
        record {
          there = as_next r (pieces (text_in r) (range_at r)) p first;
          all = λ h. subst (All IsLike) (sym same) h;
          some = λ run h. subst (λ xs. Contains xs run) (sym same) h;
        }

    module _ (at : world_at node ≡ world_in r) (p : Piece) (far : IsFarAs p) (v : NodeRef) (b : Bool) (is : run_of v ≡ sent_of p.run) (tested : (b ≡ true) ↔ AreSame what (world_at node) (id_at v) (id_at node)) where
      tested_here : (b ≡ true) ↔ IsLike (run_id p.run)
      tested_here = subst (λ id. (b ≡ true) ↔ AreSame what (world_in r) id (id_at node)) (ap (λ (s : SentRun). s.id) is) (subst (λ w. (b ≡ true) ↔ AreSame what w (id_at v) (id_at node)) at tested)

      abbrev past : List FullNodeId
      past = runs_in (text_in r) (pieces_past (text_in r) (range_at r) (number_in p.run))

      all_past : b ≡ true → All IsLike past → All IsLike (passed_runs (text_in r) (range_at r))
      all_past e h = far.all (subst (All IsLike) (sym (run_first p far.there.same)) (All-cons IsLike (run_id p.run) past (tested_here.0 e) h))

      pub look_stops : b ≡ false → Contains (passed_runs (text_in r) (range_at r)) (id_at node) → SomeDiffer what r
      look_stops e own = (run_id p.run, id_at node, far.some (run_id p.run) (contains_own p far.there.same), own, is_not b (IsLike (run_id p.run)) tested_here e)

      pub look_ends : b ≡ true → pieces_past (text_in r) (range_at r) (number_in p.run) ≡ [] → All IsLike (passed_runs (text_in r) (range_at r))
      look_ends e none = all_past e (subst (All IsLike) (sym (ap (runs_in (text_in r)) none)) (all_of_none IsLike))

      pub look_goes_on : b ≡ true → (n : Piece) → IsNextPiece r (pieces_past (text_in r) (range_at r) (number_in p.run)) n → IsFarAs n
      look_goes_on e n next =
          let same : past ≡ runs_in (text_in r) (pieces_from r n) = ap (runs_in (text_in r)) next.is in
          record {
            there = as_next r (pieces_past (text_in r) (range_at r) (number_in p.run)) n next;
            all = λ h. all_past e (subst (All IsLike) (sym same) h);
            some = λ run h. far.some run (subst (λ xs. Contains xs run) (sym (run_first p far.there.same)) (later (subst (λ xs. Contains xs run) (sym same) h)));
          }
        where
          later : {run : FullNodeId} → Contains past run → Contains (run_id p.run ∷ past) run
          later h = (suc h.0, (let l = h.1 in omega (arith, l)), h.2)
