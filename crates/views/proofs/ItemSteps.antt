-- Walks over items are walks by the filter of items.
use Rattle.std.proofs.Common.{◌≡◌, false, not, cond, ◌&&◌, List, [], ◌∷◌, ◌++◌, sym, ◌∙◌, ap, subst}
use Rattle.std.specs.Prelude.{Option, Some, MatchOption}
use Rattle.std.specs.Option.{option_map_or}
use Rattle.model.specs.declared.FullNodeId.{FullNodeId}
use Rattle.model.specs.declared.filters.FilterResult.{FilterResult}
use Rattle.model.specs.declared.filters.FilterResult.TheVariants.{ExcludeNode}
use Rattle.model.specs.World.{World, data_of}
use Rattle.model.specs.RoleClasses.{is_item_like}
use Rattle.model.specs.Covers.{is_included}
use Rattle.model.specs.Views.{item_filter}
use Rattle.views.specs.declared.node.node_ref.NodeRef.{NodeRef}
use Rattle.views.specs.declared.walks.course.Course.{Course}
use Rattle.views.specs.Nodes.{id_at, data_at}
use Rattle.views.specs.Follows.{Follows}
use Rattle.views.specs.ItemAnswers.{item_answer, AnswersItems}
use Rattle.views.specs.Walks.{walked_world, IsOnCourse, ids_left, TakesFront, TakesBack}

pub follows_items : {answers : NodeRef → FilterResult → Type 0} {w : World} {f : FullNodeId → FilterResult} → Follows answers w f → Follows (AnswersItems answers) w (item_filter f w)
follows_items {w = w} {f = f} follows = record {
  at = λ n r same said.
      let known : data_of w (id_at n) ≡ Some (data_at n) = subst (λ v. data_of v (id_at n) ≡ Some (data_at n)) same n.known in
      said.2 ∙ ap (λ q. item_answer q (data_at n)) (follows.at n said.0 same said.1)
      ∙ ap (λ o. cond (is_included (f (id_at n)) && not (option_map_or (λ d. is_item_like d.role) o false)) ExcludeNode (f (id_at n))) (sym known);
}

module _ {answers : NodeRef → FilterResult → Type 0} (s : Course) (r : Option NodeRef) (t : Course) (f : FullNodeId → FilterResult) (follows : Follows answers (walked_world s) f) where
  -- the world is the same one
  abbrev before : List FullNodeId
  before = ids_left (item_filter f (walked_world s)) s

  abbrev after : World → List FullNodeId
  after w = ids_left (item_filter f w) t

  pub items_first : TakesFront (AnswersItems answers) s r t → IsOnCourse (item_filter f (walked_world s)) s →
      IsOnCourse (item_filter f (walked_world t)) t × MatchOption r ((before ≡ []) × (after (walked_world t) ≡ [])) (λ x. before ≡ id_at x ∷ after (walked_world t))
  items_first steps on =
      subst (λ w. IsOnCourse (item_filter f w) t × MatchOption r ((before ≡ []) × (after w ≡ [])) (λ x. before ≡ id_at x ∷ after w))
      (sym steps.goes.world) (steps.list (item_filter f (walked_world s)) (follows_items follows) on)

  pub items_last : TakesBack (AnswersItems answers) s r t → IsOnCourse (item_filter f (walked_world s)) s →
      IsOnCourse (item_filter f (walked_world t)) t × MatchOption r ((before ≡ []) × (after (walked_world t) ≡ [])) (λ x. before ≡ after (walked_world t) ++ id_at x ∷ [])
  items_last steps on =
      subst (λ w. IsOnCourse (item_filter f w) t × MatchOption r ((before ≡ []) × (after w ≡ [])) (λ x. before ≡ after w ++ id_at x ∷ []))
      (sym steps.goes.world) (steps.list (item_filter f (walked_world s)) (follows_items follows) on)
