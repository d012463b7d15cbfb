-- The text of runs, one after another.
use Rattle.std.proofs.Common.{◌≡◌, ℕ, true, false, List, [], ◌∷◌, ◌++◌, map, refl, sym, ap, ◌∙◌, eq-eqb}
use Rattle.std.specs.Prelude.{Option, Some, None, IfSome, MatchOption, ◌&&◌, slice_get, bytes_eq}
use Rattle.std.specs.Option.{option_or}
use Rattle.std.specs.List.{list_all}
use Rattle.std.proofs.lemmas.List.Folds.{list_all-append}
use Rattle.model.specs.TextRuns.{sent_run, sent_runs, run_ids}
use Rattle.views.specs.declared.node.node_ref.NodeRef.{NodeRef}
use Rattle.views.specs.declared.runs.Run.{Run}
use Rattle.views.specs.Nodes.{world_at, id_at}
use Rattle.views.specs.Runs.{text_root_of, run_world, ids_after, sents_after, IsFirstOf, IsAfter}
use Rattle.views.proofs.FitRuns.{first_sents, sents_next}
use Rattle.views.specs.RunTexts.{sents_from, are_like, are_all}

-- the runs from the first on are all of them
pub from_first : (n : NodeRef) (o : Option Run) → MatchOption o (run_ids (world_at n) (id_at n) ≡ []) (IsFirstOf n) → (sents_from o ≡ sent_runs (world_at n) (id_at n)) × IfSome o (λ r. text_root_of r ≡ n)
from_first n None e = (sym (ap (map (sent_run (world_at n))) e), tt)
from_first n (Some r) first = (sym (first_sents r first.order) ∙ ap (λ m. sent_runs (world_at m) (id_at m)) first.root, first.root)

-- those from the next one on are those after the run
pub from_next : (r : Run) (o : Option Run) → MatchOption o (ids_after r ≡ []) (IsAfter r) → (sents_from o ≡ sents_after r) × IfSome o (λ s. text_root_of s ≡ text_root_of r)
from_next r None e = (sym (ap (map (sent_run (run_world r))) e), tt)
from_next r (Some s) after = (sym (sents_next r s after), after.root)

-- ---- whether characters are alike

same_bytes : (c : List ℕ) → bytes_eq c c ≡ true
same_bytes [] = refl
same_bytes (b ∷ c) = ap (λ t. t && bytes_eq c c) (eq-eqb b b refl) ∙ same_bytes c

-- where none is left, none differs
pub none_differs : (seen : Option (List ℕ)) → true ≡ are_like seen []
none_differs None = refl
none_differs (Some c) = refl

-- the characters of a run, and then the others
compared : (seen : Option (List ℕ)) (cs ds : List (List ℕ)) →
    are_like seen (cs ++ ds) ≡ (are_all (option_or seen (slice_get cs 0)) cs && are_like (option_or seen (slice_get cs 0)) ds)
compared (Some c) cs ds = list_all-append (bytes_eq c) cs ds
compared None [] ds = refl
compared None (c ∷ cs) ds = list_all-append (bytes_eq c) cs ds ∙ ap (λ b. (b && list_all (bytes_eq c) cs) && list_all (bytes_eq c) ds) (sym (same_bytes c))

-- a run, of whose characters one is seen first
module _ (seen next : Option (List ℕ)) (cs ds : List (List ℕ)) (is : next ≡ option_or seen (slice_get cs 0)) where
  compared_next : are_like seen (cs ++ ds) ≡ (are_all next cs && are_like next ds)
  compared_next = compared seen cs ds ∙ ap (λ s. are_all s cs && are_like s ds) (sym is)

  pub run_differs : are_all next cs ≡ false → are_like seen (cs ++ ds) ≡ false
  run_differs e = compared_next ∙ ap (λ b. b && are_like next ds) e

  pub run_is_like : are_all next cs ≡ true → are_like seen (cs ++ ds) ≡ are_like next ds
  run_is_like e = compared_next ∙ ap (λ b. b && are_like next ds) e
