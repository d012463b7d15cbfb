-- What a mirror keeps follows what its maps have.
use Rattle.std.proofs.Common.{◌≡◌, List, [], ◌∷◌, Bool, true, false, cond, Option, Some, None, refl, sym, ap, subst, ◌∙◌}
use Rattle.std.specs.Option.{option_map}
use Rattle.std.specs.FinMap.{get, insert, remove, get-empty, get-insert, get-remove, same_map}
use Rattle.std.specs.Cmp.{eq_by_cmp_equiv}
use Rattle.std.specs.BTreeMap.{BTreeMap, is_at}
use Rattle.model.specs.declared.FullNodeId.{FullNodeId}
use Rattle.model.specs.FullIds.{full_cmp, full_total, exact_full}
use Rattle.model.specs.Forest.{is_same}
use Rattle.model.specs.World.{World}
use Rattle.model.specs.Focus.{IsFocus}
use Rattle.model.specs.Mirror.{IsRecordOf, AreRecordsOf}
use Rattle.tree_store.specs.declared.copies.MirrorRecord.{MirrorRecord}
use Rattle.tree_store.specs.Copied.{copy_at, IsCopyOf}
use Rattle.views.proofs.Showing.{place_known}
use Rattle.trees.specs.Mirrored.{nodes_kept, record_shown}

shown_cond : (b : Bool) (x : MirrorRecord) (o : Option MirrorRecord) → cond b (Some (record_shown x)) (option_map record_shown o) ≡ option_map record_shown (cond b (Some x) o)
shown_cond true x o = refl
shown_cond false x o = refl

pub get-nodes_kept : (es : List (FullNodeId × MirrorRecord)) (q : FullNodeId) → get (nodes_kept es) q ≡ option_map record_shown (copy_at es q)
get-nodes_kept [] q = get-empty full_cmp q
get-nodes_kept (e ∷ es) q =
    get-insert full_total (nodes_kept es) e.0 (record_shown e.1) q
    ∙ ap (cond (is_at (full_cmp q) e.0) (Some (record_shown e.1))) (get-nodes_kept es q)
    ∙ shown_cond (is_at (full_cmp q) e.0) e.1 (copy_at es q)

gone_cond : (b : Bool) (o : Option MirrorRecord) → option_map record_shown (cond b None o) ≡ cond b None (option_map record_shown o)
gone_cond true o = refl
gone_cond false o = refl

by_copy : (w : World) (id : FullNodeId) (o : Option MirrorRecord) → IsCopyOf w id o → IsRecordOf w id (option_map record_shown o)
by_copy w id None h = h
by_copy w id (Some r) h = (place_known w id r.place h.0, h.1)

turned : (a b : FullNodeId) → is_same a b ≡ is_same b a
turned a b = (eq_by_cmp_equiv full_total).symm a b

module _ (before after : BTreeMap FullNodeId MirrorRecord) (id : FullNodeId) where
  -- a record that is put in
  pub kept_put : (x : MirrorRecord) → ((q : FullNodeId) → copy_at after.entries q ≡ cond (is_same id q) (Some x) (copy_at before.entries q))
      → nodes_kept after.entries ≡ insert (nodes_kept before.entries) id (record_shown x)
  kept_put x updates = same_map full_total exact_full (nodes_kept after.entries) (insert (nodes_kept before.entries) id (record_shown x)) (λ q.
      get-nodes_kept after.entries q ∙ ap (option_map record_shown) (updates q) ∙ sym (shown_cond (is_same id q) x (copy_at before.entries q))
      ∙ ap (cond (is_same id q) (Some (record_shown x))) (sym (get-nodes_kept before.entries q))
      ∙ ap (λ b. cond b (Some (record_shown x)) (get (nodes_kept before.entries) q)) (turned id q)
      ∙ sym (get-insert full_total (nodes_kept before.entries) id (record_shown x) q))

  -- a record that is taken out
  pub kept_without : ((q : FullNodeId) → copy_at after.entries q ≡ cond (is_same id q) None (copy_at before.entries q)) → nodes_kept after.entries ≡ remove (nodes_kept before.entries) id
  kept_without updates = same_map full_total exact_full (nodes_kept after.entries) (remove (nodes_kept before.entries) id) (λ q.
      get-nodes_kept after.entries q ∙ ap (option_map record_shown) (updates q) ∙ gone_cond (is_same id q) (copy_at before.entries q)
      ∙ ap (cond (is_same id q) None) (sym (get-nodes_kept before.entries q))
      ∙ ap (λ b. cond b None (get (nodes_kept before.entries) q)) (turned id q)
      ∙ sym (get-remove full_total (nodes_kept before.entries) id q))

-- the copies of a state's records are its records
pub records_copied : (w : World) (es : List (FullNodeId × MirrorRecord)) (focus : Option FullNodeId) → ((id : FullNodeId) → IsCopyOf w id (copy_at es id)) → IsFocus w focus
    → AreRecordsOf w (record { nodes = nodes_kept es; focus = focus })
records_copied w es focus copied is = record {
  nodes = λ id. subst (IsRecordOf w id) (sym (get-nodes_kept es id)) (by_copy w id (copy_at es id) (copied id));
  focus = is;
}
