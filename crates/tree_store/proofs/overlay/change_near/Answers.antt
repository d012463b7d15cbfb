use Rattle.std.proofs.Common.{rules, sym}
use Rattle.std.proofs.lemmas.List.Sorted.{answers_always}
use Rattle.tree_store.proofs.Searches.{found, not_found}
use Rattle.tree_store.proofs.overlay.change_near.Goals as goal

pub returns-in-Ok : goal.returns-in-Ok
returns-in-Ok c = sym (found c.args.changes.now c.requires c.args.id c.in-Ok.found _ c.in-Ok.ensures.bound (c.in-Ok.ensures.position (λ entry. entry.0) (answers_always _ _ _ (λ f a r g called. search rules)) _))

pub returns-in-Err : goal.returns-in-Err
returns-in-Err c = sym (not_found c.args.changes.now c.requires c.args.id _ (c.in-Err.ensures.position (λ entry. entry.0) (answers_always _ _ _ (λ f a r g called. search rules))))
