-- What a function is called with in a traversal of a range.
use Rattle.std.specs.Prelude.{◌≡◌, ◌≤◌, ◌-◌, ℕ, max, Bool, true, List, [], ◌∷◌, Option, Some, None}
use Rattle.std.specs.Fn.{Called, Mut}
use Rattle.std.specs.Borrow.{Bor}
use Rattle.model.specs.declared.FullNodeId.{FullNodeId}
use Rattle.model.specs.World.{World}
use Rattle.model.specs.Ranges.{Piece as PieceData}
use Rattle.model.specs.Values.{bullets}
use Rattle.views.specs.declared.node.node_ref.NodeRef.{NodeRef}
use Rattle.views.specs.Nodes.{world_at, id_at}

-- how many characters the longest of these pieces has
abbrev pub longest : List PieceData → ℕ
longest [] = 0
longest (p ∷ ps) = max (p.to - p.from) (longest ps)

-- if masking is needed, the text is at least this many bullets
abbrev pub IsEnough : Bool → List ℕ → ℕ → Type 0
IsEnough masked text n = masked ≡ true → (count : ℕ) × (text ≡ bullets count) × (n ≤ count)

-- a call with a view of this run in this world, and this text
pub record IsCallWith {F T : Type 0} (g : Mut F (Bor NodeRef × (Bor (List ℕ) × Unit {0})) (Option T)) (w : World)
    (passed : Option FullNodeId × List ℕ) (f : F) (answer : Option T) (f' : F) : Type 0 where
  pub view : Bor NodeRef
  pub text : Bor (List ℕ)
  pub world : world_at view.now ≡ w
  pub run : Some (id_at view.now) ≡ passed.0
  pub shows : text.now ≡ passed.1
  pub called : Called g f (view, (text, tt)) answer f'

-- a result ends it; otherwise the rest follows
abbrev pub EndsOr : {F T : Type 0} → Type 0 → Option T → F → Option T → F → Type 0
EndsOr rest (Some x) h answer last = (answer ≡ Some x) × (last ≡ h)
EndsOr rest None h answer last = rest

-- the function is called with these, one after another, until it returns something, which is the result
abbrev pub PassesAll : {F T : Type 0} → Mut F (Bor NodeRef × (Bor (List ℕ) × Unit {0})) (Option T) → World
    → List (Option FullNodeId × List ℕ) → F → Option T → F → Type 0
PassesAll g w [] f answer last = (answer ≡ None) × (last ≡ f)
PassesAll {F} {T} g w (x ∷ xs) f answer last =
    (a : Option T) × (h : F) × IsCallWith g w x f a h × EndsOr (PassesAll g w xs h answer last) a h answer last
