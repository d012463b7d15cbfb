-- Whether a walk gives a node that passes a test.
use Rattle.std.proofs.Common.{◌≡◌, Bool, true, false, ◌||◌, List, [], ◌∷◌, map, refl, sym, ap, ◌∙◌}
use Rattle.std.specs.List.{list_any}
use Rattle.model.specs.declared.FullNodeId.{FullNodeId}
use Rattle.model.specs.World.{World}
use Rattle.views.specs.PlainWalks.{node_in}

-- the first passes
pub first_passes : {A : Type 0} (P : A → Bool) (left rest : List A) (x : A) → left ≡ x ∷ rest → P x ≡ true → true ≡ list_any P left
first_passes P left rest x is passes = sym (ap (list_any P) is ∙ ap (λ b. b || list_any P rest) passes)

-- the first doesn't
pub others_pass : {A : Type 0} (P : A → Bool) (left rest : List A) (x : A) → left ≡ x ∷ rest → P x ≡ false → list_any P rest ≡ list_any P left
others_pass P left rest x is fails = sym (ap (list_any P) is ∙ ap (λ b. b || list_any P rest) fails)

pub none_passes : {A : Type 0} (P : A → Bool) (left : List A) → left ≡ [] → false ≡ list_any P left
none_passes P left is = sym (ap (list_any P) is)

-- the test of nodes of a world
pub any_in : (P : World → FullNodeId → Bool) (w : World) (ids : List FullNodeId) → list_any (λ (n : World × FullNodeId). P n.0 n.1) (map (node_in w) ids) ≡ list_any (P w) ids
any_in P w [] = refl
any_in P w (id ∷ ids) = ap (λ b. P w id || b) (any_in P w ids)
