-- Calls at both ends of a walk over what a filter shows, in any mixture, take what is left, by what the filter follows.
use Rattle.std.proofs.Common.{◌≡◌, List, [], ◌∷◌, sym, subst}
use Rattle.std.specs.Iterator.{YieldsFirstBy, YieldsLastBy}
use Rattle.model.specs.declared.FullNodeId.{FullNodeId}
use Rattle.model.specs.declared.filters.FilterResult.{FilterResult}
use Rattle.model.specs.Mixtures.{front, back, Call, AreCalls}
use Rattle.model.proofs.Mixtures.{views_are_taken}
use Rattle.views.specs.declared.node.node_ref.NodeRef.{NodeRef}
use Rattle.views.specs.Nodes.{id_at}
use Rattle.views.specs.Follows.{Follows}
use Rattle.views.specs.Walks.{walked_world}
use Rattle.views.specs.FilteredWalks.{WalkOf, GivesFirst, GivesLast, MixturesTakeShown}

module _ {S F : Type 0} (answers : F → NodeRef → FilterResult → Type 0) (walk : WalkOf S F) (f : FullNodeId → FilterResult) where
  abbrev IsFollowed : S → Type 0
  IsFollowed s = Follows (answers (walk.filter s)) (walked_world (walk.course s)) f

  -- after a call the filter is the same, and so is the world
  still : (s u : S) → walk.filter u ≡ walk.filter s → walked_world (walk.course u) ≡ walked_world (walk.course s) → IsFollowed s → IsFollowed u
  still s u filter world h = subst (λ g. Follows (answers g) (walked_world (walk.course u)) f) (sym filter) (subst (λ w. Follows (answers (walk.filter s)) w f) (sym world) h)

  by_list : (s t : S) (calls : List (Call NodeRef)) → AreCalls (GivesFirst answers walk) (GivesLast answers walk) s calls t → IsFollowed s → walk.OnCourse f s →
      AreCalls (YieldsFirstBy id_at (walk.left f)) (YieldsLastBy id_at (walk.left f)) s calls t
  by_list s t [] h follows shown = h
  by_list s t ((front, answer) ∷ later) h follows shown =
      let step = h.1.list f follows shown in (h.0, step.1, by_list h.0 t later h.2 (still s h.0 h.1.filter h.1.goes.world follows) step.0)
  by_list s t ((back, answer) ∷ later) h follows shown =
      let step = h.1.list f follows shown in (h.0, step.1, by_list h.0 t later h.2 (still s h.0 h.1.filter h.1.goes.world follows) step.0)

pub shown_are_taken : {S F : Type 0} (answers : F → NodeRef → FilterResult → Type 0) (walk : WalkOf S F) → MixturesTakeShown (GivesFirst answers walk) (GivesLast answers walk) answers walk
shown_are_taken answers walk s t calls h f follows shown = views_are_taken id_at (walk.left f) s t calls (by_list answers walk f s t calls h follows shown)
