use Rattle.std.proofs.Common.{◌≡◌, Some, None, List, [], ◌∷◌, length, true, ◌==◌, refl, sym, ap, subst, ◌∙◌, arith}
use Rattle.std.proofs.lemmas.Option.{same_Some}
use borrow.Author.Tests.{eqb-true}
use Rattle.schema.specs.declared.NodeId.{NodeId}
use Rattle.model.specs.World.{ROOT_NAME}
use Rattle.tree_plan.specs.Passes.{at_name}
use Rattle.model.proofs.State.StatePlaces.{value_of}
use Rattle.tree_plan.proofs.IdMaps.{none_if_not}
use Rattle.tree_plan.proofs.NameMaps.{put_name_here, put_name_apart}
use Rattle.tree_plan.proofs.passes.Comparing.take_graft.Goals as goal

nil_if : (xs : List NodeId) → (length xs == 0) ≡ true → xs ≡ []
nil_if [] e = refl
nil_if (x ∷ xs) e = absurd (omega (arith, eqb-true (length (x ∷ xs)) 0 e))

pub returns-then-contains_key-clause-err : goal.returns-then-contains_key-clause-err
returns-then-contains_key-clause-err c =
    let k = value_of (at_name c.args.self.now.grafted c.in-Some.name) (sym c.if-contains_key.ensures) in
    (sym c.in-Some.ensures, k.0, k.1)

pub returns-clause-ok : goal.returns-clause-ok
returns-clause-ok c =
    let name = c.in-Some.name in
    let f = at_name c.args.self.now.grafted in
    let g = at_name c.insert.new.self in
    let is : Some name ≡ c.args.node.now.tree_id = c.in-Some.ensures in
    let none : f name ≡ None = none_if_not _ c.if-contains_key.ensures in
    let nil : c.children.result.now ≡ [] = nil_if c.children.result.now (sym c.is_empty.ensures ∙ c.if-not-is_empty.false) in
    record {
      ungrafting = λ e. let t : c.is_root_tree.result ≡ true = c.is_root_tree.ensures.1 (same_Some name ROOT_NAME (is ∙ e)) in cc;
      childless = λ v e. sym c.children.ensures ∙ nil;
      taken = λ v e. let same : name ≡ v = same_Some name v (is ∙ e) in (subst (λ x. f x ≡ None) same none, subst (λ x. g x ≡ Some c.args.id) same (put_name_here name (Some c.args.id) f g c.in_ok-insert.ensures.updates.0));
      others = λ v e. put_name_apart name (Some c.args.id) f g c.in_ok-insert.ensures.updates.0 v (λ same. e (sym is ∙ ap Some same));
    }
