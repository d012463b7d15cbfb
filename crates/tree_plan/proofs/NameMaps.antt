-- Maps by names of trees as functions.
use Rattle.std.proofs.Common.{◌≡◌, ◌≢◌, Bool, true, false, cond, refl, ap, ◌∙◌}
use Rattle.std.specs.BTreeMap.{is_at}
use Rattle.schema.specs.declared.TreeId.{TreeId}
use Rattle.model.proofs.Worlds.Names.{is_name-true, is_name-itself}
use Rattle.model.specs.FullIds.{name_cmp}

-- f has v at the name, and is g elsewhere
abbrev pub PutName : {X : Type 0} → TreeId → X → (TreeId → X) → (TreeId → X) → Type 0
PutName name v before after = (q : TreeId) → after q ≡ cond (is_at (name_cmp name) q) v (before q)

pub put_name_here : {X : Type 0} (name : TreeId) (v : X) (f g : TreeId → X) → PutName name v f g → g name ≡ v
put_name_here name v f g h = h name ∙ ap (λ b. cond b v (f name)) (is_name-itself name)

pub put_name_apart : {X : Type 0} (name : TreeId) (v : X) (f g : TreeId → X) → PutName name v f g → (q : TreeId) → name ≢ q → g q ≡ f q
put_name_apart {X} name v f g h q other = go (is_at (name_cmp name) q) refl (h q)
  where
    go : (b : Bool) → is_at (name_cmp name) q ≡ b → g q ≡ cond b v (f q) → g q ≡ f q
    go true e k = absurd (other (is_name-true q name e))
    go false e k = k
