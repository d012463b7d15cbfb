-- A function is called with piece after piece, and bullets are enough for each.
use Rattle.std.proofs.Common.{◌≡◌, ℕ, zero, suc, ◌+◌, ◌-◌, ◌*◌, ◌≤◌, Bool, List, [], ◌∷◌, ◌++◌, length, map, take, Option, Some, None, refl, sym, ap, subst, ◌∙◌, arith}
use Rattle.std.specs.Prelude.{slice_get, option_map}
use Rattle.std.specs.Str.{IsUtf8, IsCharBoundary}
use Rattle.std.specs.Fn.{Called, Mut}
use denote.Ref.{Bor}
use Rattle.std.proofs.Math.Nat.{le-max_right}
use Rattle.std.proofs.Math.Seq.{take-append_seam}
use Rattle.std.proofs.lemmas.Str.{IsUtf8-nil, IsUtf8-append, IsCharBoundary-at_seam}
use Rattle.model.specs.declared.FullNodeId.{FullNodeId}
use Rattle.model.specs.TextRuns.{SentRun}
use Rattle.model.specs.FlatText.{BULLET, ShownRun, FlatText, needs_masking}
use Rattle.model.specs.Ranges.{Piece as PieceData, piece_text, pieces, passed_texts}
use Rattle.model.specs.Values.{bullets}
use Rattle.views.specs.declared.node.node_ref.NodeRef.{NodeRef}
use Rattle.texts.specs.declared.range.TextRange.{TextRange}
use Rattle.texts.specs.declared.pieces.Piece.{Piece}
use Rattle.views.specs.Nodes.{world_at}
use Rattle.views.specs.Runs.{text_root_of, run_of, sent_of}
use Rattle.text_boundaries.specs.RunNumbers.{number_in}
use Rattle.texts.specs.Positions.{node_text}
use Rattle.texts.specs.TextRanges.{world_in, root_in, text_in, range_at}
use Rattle.texts.specs.Pieces.{piece_data, pieces_past, IsNextPiece}
use Rattle.texts.specs.PieceTexts.{shown_piece}
use Rattle.texts.specs.Traversals.{longest, IsEnough, IsCallWith, PassesAll}
use Rattle.text_boundaries.proofs.FlatRuns.{shown_at_number}
use Rattle.texts.proofs.PieceSteps.{pieces_from, shown_there}

-- ---- bullets

three_each : (n : ℕ) → length (bullets n) ≡ 3 * n
three_each zero = refl
three_each (suc n) = let e = three_each n in omega (arith, e)

one_is_text : IsUtf8 BULLET
unfolding lib.Utf8.encode
one_is_text = (8226 ∷ [], (refl, refl))

are_text : (n : ℕ) → IsUtf8 (bullets n)
are_text zero = IsUtf8-nil
are_text (suc n) = IsUtf8-append BULLET (bullets n) one_is_text (are_text n)

some_and_rest : (n k : ℕ) → bullets (n + k) ≡ bullets n ++ bullets k
some_and_rest zero k = let e : 0 + k ≡ k = omega arith in ap bullets e
some_and_rest (suc n) k = let e : suc n + k ≡ suc (n + k) = omega arith in ap bullets e ∙ ap (λ xs. 226 ∷ 128 ∷ 162 ∷ xs) (some_and_rest n k)

-- of a text of so many bullets
module _ (text : List ℕ) (n : ℕ) (enough : (count : ℕ) × (text ≡ bullets count) × (n ≤ count)) where
  seam : text ≡ bullets n ++ bullets (enough.0 - n)
  seam =
      let fits = enough.2 in
      let e : enough.0 ≡ n + (enough.0 - n) = omega (arith, fits) in
      enough.1 ∙ ap bullets e ∙ some_and_rest n (enough.0 - n)

  pub fit_in : 3 * n ≤ length text
  fit_in = let e = ap length enough.1 in let fits = enough.2 in omega (arith, e, fits, three_each enough.0)

  pub ends_at_bullet : IsCharBoundary text (3 * n)
  ends_at_bullet = subst (IsCharBoundary text) (three_each n) (IsCharBoundary-at_seam text (bullets n) (bullets (enough.0 - n)) seam (are_text (enough.0 - n)))

  pub so_many : take (3 * n) text ≡ bullets n
  so_many = ap (λ k. take k text) (sym (three_each n)) ∙ ap (take (length (bullets n))) seam ∙ take-append_seam (bullets n) (bullets (enough.0 - n))

-- ---- enough bullets for all pieces

pub enough_for : {masked : Bool} {text : List ℕ} {n m : ℕ} → n ≤ m → IsEnough masked text m → IsEnough masked text n
enough_for le enough is = let e = enough is in let fits = e.2 in (e.0, e.1, omega (arith, le, fits))

-- those for all pieces are for the next one and those past it
pub enough_past : (r : TextRange) (p next : Piece) {masked : Bool} {text : List ℕ} → IsNextPiece r (pieces_past (text_in r) (range_at r) (number_in p.run)) next → IsEnough masked text (longest (pieces_from r p)) →
    IsEnough masked text (longest (pieces_from r next))
enough_past r p next {masked} {text} there enough =
    enough_for {masked = masked} {text = text} (subst (λ ps. longest ps ≤ longest (pieces_from r p)) there.is (le-max_right (p.to - p.from) (longest (pieces_past (text_in r) (range_at r) (number_in p.run))))) enough

-- ---- the calls

-- the texts that are passed of these pieces
abbrev pub passed_of : FlatText → List PieceData → List (Option FullNodeId × List ℕ)
passed_of t ps = map (λ p. (option_map (λ (s : ShownRun). s.id) (slice_get t p.run), piece_text t p)) ps

module _ {F T : Type 0} (g : Mut F (Bor NodeRef × (Bor (List ℕ) × Unit {0})) (Option T)) (r : TextRange) where
  -- the function was called with the texts of the range before these pieces, and answered nothing
  pub record IsPassing (left : List PieceData) (f now : F) : Type 0 where
    pub rest : (answer : Option T) (last : F) → PassesAll g (world_in r) (passed_of (text_in r) left) now answer last → PassesAll g (world_in r) (passed_texts (text_in r) (range_at r)) f answer last

  pub none_passed : (left : List PieceData) (f : F) → pieces (text_in r) (range_at r) ≡ left → IsPassing left f f
  none_passed left f e = record { rest = λ answer last h. subst (λ ps. PassesAll g (world_in r) (passed_of (text_in r) ps) f answer last) (sym e) h }

  -- a call with a piece
  pub call_is : {view : Bor NodeRef} {text : Bor (List ℕ)} {f : F} {a : Option T} {h : F} → Called g f (view, (text, tt)) a h → (p : Piece) (masked : Bool) → IsNextPiece r (pieces_from r p) p → masked ≡ needs_masking (world_in r) (root_in r) →
      world_at view.now ≡ world_at (text_root_of p.run) → run_of view.now ≡ sent_of p.run → text.now ≡ shown_piece masked p →
      IsCallWith g (world_in r) (option_map (λ (s : ShownRun). s.id) (slice_get (text_in r) (number_in p.run)), piece_text (text_in r) (piece_data p)) f a h
  call_is {view = view} {text = text} called p masked there is world run shows = record {
    view = view;
    text = text;
    world = world ∙ ap world_at there.same;
    run = ap (λ (s : SentRun). Some s.id) run ∙ sym (ap (λ n. option_map (λ (s : ShownRun). s.id) (slice_get (node_text n) (number_in p.run))) (sym there.same) ∙ ap (option_map (λ (s : ShownRun). s.id)) (shown_at_number p.run));
    shows = shows ∙ sym (shown_there r (pieces_from r p) p masked there is);
    called = called;
  }

  module _ (p : Piece) {f now : F} (way : IsPassing (pieces_from r p) f now) where
    abbrev first : Option FullNodeId × List ℕ
    first = (option_map (λ (s : ShownRun). s.id) (slice_get (text_in r) (number_in p.run)), piece_text (text_in r) (piece_data p))

    abbrev past : List PieceData
    past = pieces_past (text_in r) (range_at r) (number_in p.run)

    -- something was answered
    pub passed_with : {h : F} (x : T) → IsCallWith g (world_in r) first now (Some x) h → PassesAll g (world_in r) (passed_texts (text_in r) (range_at r)) f (Some x) h
    passed_with {h} x call = way.rest (Some x) h (Some x, h, call, (refl, refl))

    -- nothing was, and there are more pieces, or none
    pub passed_on : {h : F} (left : List PieceData) → past ≡ left → IsCallWith g (world_in r) first now None h → IsPassing left f h
    passed_on {h} left e call = record { rest = λ answer last more. way.rest answer last (None, h, call, subst (λ ps. PassesAll g (world_in r) (passed_of (text_in r) ps) h answer last) (sym e) more) }

    pub passed_all : {h : F} → past ≡ [] → IsCallWith g (world_in r) first now None h → PassesAll g (world_in r) (passed_texts (text_in r) (range_at r)) f None h
    passed_all {h} e call = (passed_on [] e call).rest None h (refl, refl)
