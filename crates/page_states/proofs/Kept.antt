-- What is found of a node in what is kept.
use Rattle.std.proofs.Common.{◌≡◌, ℕ, Option, Some, None, sym, subst, ◌∙◌}
use Rattle.std.specs.BTreeMap.{BTreeMap, get}
use Rattle.model.specs.declared.FullNodeId.{FullNodeId}
use Rattle.model.specs.FullIds.{full_cmp}
use Rattle.page_states.specs.declared.again.Last.{Last}
use Rattle.page_states.specs.Again.{Finds}

module _ (kept : BTreeMap FullNodeId Last) (id : FullNodeId) (Is : Last → ℕ → Type 0) where
  abbrev pub IsKeptSo : ℕ → Type 0
  IsKeptSo state = (last : Last) × (get full_cmp kept id ≡ Some last) × Is last state

  same_last : (one other : Last) → get full_cmp kept id ≡ Some one → get full_cmp kept id ≡ Some other → one ≡ other
  same_last one other p q = let e : Some one ≡ Some other = sym p ∙ q in cc

  pub found_kept : (last : Last) → get full_cmp kept id ≡ Some last → (r : Option ℕ) → Finds (Is last) r → Finds IsKeptSo r
  found_kept last found None none = λ state h. none state (subst (λ l. Is l state) (same_last h.0 last h.1 found) h.2)
  found_kept last found (Some state) is = (last, found, is)

  pub none_kept : get full_cmp kept id ≡ None → Finds IsKeptSo None
  none_kept none = λ state h. let last = h.0 in let e : None ≡ Some last = sym none ∙ h.1 in cc
