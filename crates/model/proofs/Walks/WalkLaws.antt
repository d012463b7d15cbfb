-- The laws of siblings, walks and hits, put together.
use Rattle.std.proofs.Common.{◌≡◌, arith, refl, sym, ◌∙◌, ap, true}
use Rattle.std.specs.Prelude.{reverse}
use Rattle.model.specs.Forest.{is_same}
use Rattle.model.specs.Upward.{is_within}
use Rattle.model.specs.Hits.{is_hit, seen_within}
use Rattle.model.specs.Beside.{cover_through, is_not_passed}
use Rattle.model.specs.Covers.{cover}
use Rattle.model.specs.SiblingLaws.{UncoveredMayBeFollowed, FollowingIsByPlace, PrecedingIsByPlace, SiblingsAreOfAWalk, UncoveredHasNoSiblings, CoverIsOfParent, RootHasNoCover, CoverIsFilteredParent, FilteredSiblingsAreAround, FilteredChildrenAreCovered, NextIsThere, PreviousIsThere, StepsForwards, StepsUpForwards, StepsBackwards, StepsUpBackwards, StepsLeaveLess, ShownIsAround, FrontComesOff, BackComesOff, WalkHasAll, WalkHasFollowing, WalkHasPreceding, HitIsOfChildren, HitIsSeen, SearchStarts, SearchSteps, SearchStepsUp, LastIsTested, TopSeesPoint, ItemIsInItsSet, PositionIsInSet}
use Rattle.model.proofs.Forest.WaysUp.{within_is_tested}
use Rattle.model.proofs.Walks.Beside as step
use Rattle.model.proofs.Walks.Siblings as siblings
use Rattle.model.proofs.Walks.Between as walk
use Rattle.model.proofs.Walks.Hits as search_back
use Rattle.model.proofs.Walks.Sets as sets

pub following_is_by_place : FollowingIsByPlace
following_is_by_place f w formed id top covers = siblings.following_by_place f w formed id top covers

pub preceding_is_by_place : PrecedingIsByPlace
preceding_is_by_place f w formed id top covers = siblings.preceding_by_place f w formed id top covers

pub siblings_are_of_a_walk : SiblingsAreOfAWalk
siblings_are_of_a_walk f w formed id top covers p e = siblings.siblings_at f w formed id top covers p e

pub uncovered_has_no_siblings : UncoveredHasNoSiblings
uncovered_has_no_siblings f w formed id none = siblings.none_uncovered f w formed id none

pub uncovered_may_be_followed : UncoveredMayBeFollowed
uncovered_may_be_followed f w formed root id later no_place out first second kept = (
  (siblings.none_uncovered f w formed id
      (siblings.cover_is_of_parent f w formed (root, 0) id first ∙ ap (λ r. cover_through r root (cover f w root)) out ∙ siblings.cover_of_root f w formed root no_place)).0,
  step.after_child w formed f (is_not_passed f) (root, 0) id first ∙ step.left_include w formed f (is_not_passed f) (root, 1) later second kept,
)

pub cover_is_of_parent : CoverIsOfParent
cover_is_of_parent f w formed p id e = siblings.cover_is_of_parent f w formed p id e

pub root_has_no_cover : RootHasNoCover
root_has_no_cover f w formed id e = siblings.cover_of_root f w formed id e

pub cover_is_filtered_parent : CoverIsFilteredParent
cover_is_filtered_parent f w id top covers = siblings.cover_is_parent f w id top covers

pub filtered_siblings_are_around : FilteredSiblingsAreAround
filtered_siblings_are_around f w formed id top kept covers = siblings.siblings_around f w formed id top covers kept

pub filtered_children_are_covered : FilteredChildrenAreCovered
filtered_children_are_covered f w formed top id kept m = siblings.covers_shown f w formed top id kept m

pub next_is_there : NextIsThere
next_is_there f w formed top p within = walk.next_there w formed f top p within

pub previous_is_there : PreviousIsThere
previous_is_there f w formed top p inside within = walk.previous_there w formed f top p inside within

pub steps_forwards : StepsForwards
steps_forwards f w formed top p c e within = (
  λ kept. step.left_include w formed f (is_same top) p c e kept,
  λ out. (step.left_descend w formed f (is_same top) p c e out (walk.child_is_other w formed top p c e within), walk.child_within w formed top p c e within),
  λ cut. step.left_skip w formed f (is_same top) p c e cut,
)

pub steps_backwards : StepsBackwards
steps_backwards f w formed top p c e within = (
  λ kept. step.prior_include w formed f (is_same top) p c e kept,
  λ out. (step.prior_descend w formed f (is_same top) p c e out (walk.child_is_other w formed top p c e within), walk.child_within w formed top p c e within),
  λ cut. step.prior_skip w formed f (is_same top) p c e cut,
)

pub steps_up_forwards : StepsUpForwards
steps_up_forwards f w formed top p past within = (
  λ here. step.left_end w formed f (is_same top) p past here,
  λ q other e. (step.left_up w formed f (is_same top) p q past e other, walk.parent_within w formed top q p.0 e within other),
)

pub steps_up_backwards : StepsUpBackwards
steps_up_backwards f w formed top p start within = (
  λ here. step.prior_end w formed f (is_same top) p start here,
  λ q other e. (step.prior_up w formed f (is_same top) p q start e other, walk.parent_within w formed top q p.0 e within other),
)

pub steps_leave_less : StepsLeaveLess
steps_leave_less w formed top = (
  λ p c e. (
    step.work_from_descend w formed top p c e,
    omega (arith, step.work_from_step w formed top p c e),
    step.work_until_descend w formed top p c e,
    omega (arith, step.work_until_step w formed top p c e),
  ),
  λ p q e other. (λ past. step.work_from_up w formed top p q past e other, λ start. step.work_until_up w formed top p q start e other),
)

pub shown_is_around : ShownIsAround
shown_is_around f w formed top id s = step.splits_at w formed f top id s

pub front_comes_off : FrontComesOff
front_comes_off f w formed top front back s = (
  λ same. walk.last_one w formed f top front back s same,
  λ other. (walk.not_stuck w formed f top front back s other, λ next e. walk.first_off w formed f top front back next s other e),
)

pub back_comes_off : BackComesOff
back_comes_off f w formed top front back s = (
  λ same. walk.last_one_back w formed f top front back s same,
  λ other. (walk.not_stuck_back w formed f top front back s other, λ last e. walk.last_off w formed f top front back last s other e),
)

pub walk_has_all : WalkHasAll
walk_has_all f w formed top front back first last = walk.all_between w formed f top front back first last

pub walk_has_following : WalkHasFollowing
walk_has_following f w formed id top front back covers first last =
    let h = walk.after_between w formed f top id (siblings.cover_leads f w id top covers).0 front back first last in
    (h.0, h.1 ∙ sym (siblings.following_in f w formed id top covers))

pub walk_has_preceding : WalkHasPreceding
walk_has_preceding f w formed id top front back covers first last =
    let h = walk.before_between w formed f top id (siblings.cover_leads f w id top covers).0 front back first last in
    (h.0, ap reverse h.1 ∙ sym (siblings.preceding_in f w formed id top covers))

pub hit_is_of_children : HitIsOfChildren
hit_is_of_children f w formed id q = search_back.hit_is f w formed id q

pub hit_is_seen : HitIsSeen
hit_is_seen f w top p = refl

pub search_starts : SearchStarts
search_starts f w formed top kept = search_back.search_start f w formed top kept

pub search_steps : SearchSteps
search_steps f w formed top p c e within = (
  λ cut. search_back.search_over f w formed top p c e cut,
  λ kept. (search_back.search_down f w formed top p c e kept (walk.child_is_other w formed top p c e within), walk.child_within w formed top p c e within),
  λ q. search_back.seen_down w formed top p c q e ((within_is_tested w top p.0).0 within),
)

pub search_steps_up : SearchStepsUp
search_steps_up f w formed top p start within = (
  λ here. search_back.search_end f w formed top p start here,
  λ q other e.
      let higher : is_within w top q.0 ≡ true = walk.parent_within w formed top q p.0 e within other in
      (search_back.search_up f w formed top p q start e other, higher, λ at. search_back.seen_up w formed top q p.0 at e ((within_is_tested w top q.0).0 higher)),
)

pub last_is_tested : LastIsTested
last_is_tested f w top q ids id = search_back.last_tested (λ m. is_hit f w m (seen_within w top m q)) ids id

pub top_sees_point : TopSeesPoint
top_sees_point w top q = search_back.seen_itself w top q

pub item_is_in_its_set : ItemIsInItsSet
item_is_in_its_set f w formed id set h = (sets.in_set f w id set formed h, sets.set_has_none_twice f w id set formed h)

pub position_is_in_set : PositionIsInSet
position_is_in_set f w formed id set h = (sets.stands_in_set f w id set formed h, sets.position_below_size f w id set formed h)
