-- A mirror of a world, told of its differences to the next world, is a mirror of that.
use Rattle.std.proofs.Common.{◌≡◌, List, [], ◌∷◌, ◌++◌, Option, Some, None, ◌⊎◌, inl, inr, refl, sym, ap, subst, ◌∙◌, map}
use Rattle.std.specs.Prelude.{Contains, IsSome}
use Rattle.std.specs.Coded.{coded_option, coded×, coded_ℕ}
use Rattle.std.specs.FinMap.{get}
use Rattle.model.specs.declared.FullNodeId.{FullNodeId}
use Rattle.model.specs.FullIds.{coded_full}
use Rattle.model.specs.World.{World, IsNode, data_of}
use Rattle.model.specs.Forest.{place_of}
use Rattle.model.specs.Focus.{IsFocus}
use Rattle.model.specs.Events.{Told}
use Rattle.model.specs.Differences.{PlanEvent, Added, Updated, FocusMoved, Removed, events, IsAdded, AreOfFocus, AreDifferences}
use Rattle.model.specs.Mirror.{Mirrored, Records, IsRecordOf, Mirrors, AreRecordsOf}
use Rattle.model.proofs.Decisions.{same_unless, same_data_unless, node_or_not, contained_or_not}
use Rattle.model.proofs.Focus.FocusIsOne.{focus_unique}
use Rattle.model.proofs.Mirror.RecordsOfEvents.{IsOf, Mention, AllFit, moved_to, after_events, focus_after}
use Rattle.model.proofs.Members.{contains_cases, contains_first, contains_later, contains_none}

-- ---- lists of differences

mention_left : (ds es : List PlanEvent) (j : FullNodeId) → Mention ds j → Mention (ds ++ es) j
mention_left [] es j h = absurd h
mention_left (d ∷ ds) es j (inl h) = inl h
mention_left (d ∷ ds) es j (inr h) = inr (mention_left ds es j h)

mention_right : (ds es : List PlanEvent) (j : FullNodeId) → Mention es j → Mention (ds ++ es) j
mention_right [] es j h = h
mention_right (d ∷ ds) es j h = inr (mention_right ds es j h)

mention_each : (f : FullNodeId → PlanEvent) → ((id : FullNodeId) → IsOf (f id) id) → (ids : List FullNodeId) (j : FullNodeId) → Contains ids j → Mention (map f ids) j
mention_each f of [] j h = absurd (contains_none j h)
mention_each f of (x ∷ ids) j h = elim (contains_cases x j ids h) [ inl e ↦ inl (subst (λ y. IsOf (f x) y) e (of x)) | inr g ↦ inr (mention_each f of ids j g) ]

module _ (new : World) where
  fit_append : (ds es : List PlanEvent) → AllFit new ds → AllFit new es → AllFit new (ds ++ es)
  fit_append [] es h g = g
  fit_append (d ∷ ds) es h g = (h.0, fit_append ds es h.1 g)

  fit_added : (ids : List FullNodeId) → AllFit new (map Added ids)
  fit_added [] = tt
  fit_added (x ∷ ids) = (tt, fit_added ids)

  fit_updated : (ids : List FullNodeId) → AllFit new (map Updated ids)
  fit_updated [] = tt
  fit_updated (x ∷ ids) = (tt, fit_updated ids)

  fit_removed : (ids : List FullNodeId) → ((j : FullNodeId) → Contains ids j → ¬ (IsNode new j)) → AllFit new (map Removed ids)
  fit_removed [] gone = tt
  fit_removed (x ∷ ids) gone = (gone x (contains_first x ids), fit_removed ids (λ j h. gone j (contains_later x j ids h)))

moved_append : (focus : Option FullNodeId) (ds es : List PlanEvent) → moved_to focus (ds ++ es) ≡ moved_to (moved_to focus ds) es
moved_append focus [] es = refl
moved_append focus (Added id ∷ ds) es = moved_append focus ds es
moved_append focus (Updated id ∷ ds) es = moved_append focus ds es
moved_append focus (FocusMoved before after ∷ ds) es = moved_append after ds es
moved_append focus (Removed id ∷ ds) es = moved_append focus ds es

moved_added : (focus : Option FullNodeId) (ids : List FullNodeId) → moved_to focus (map Added ids) ≡ focus
moved_added focus [] = refl
moved_added focus (x ∷ ids) = moved_added focus ids

moved_updated : (focus : Option FullNodeId) (ids : List FullNodeId) → moved_to focus (map Updated ids) ≡ focus
moved_updated focus [] = refl
moved_updated focus (x ∷ ids) = moved_updated focus ids

moved_removed : (focus : Option FullNodeId) (ids : List FullNodeId) → moved_to focus (map Removed ids) ≡ focus
moved_removed focus [] = refl
moved_removed focus (x ∷ ids) = moved_removed focus ids

-- ---- the part of the focus

-- the foci of the two worlds, and where the part of the focus moves a focus to
focus_part : (old new : World) (told : List FullNodeId) (ds : List PlanEvent) (h : AreOfFocus old new told ds) → moved_to h.0 ds ≡ h.1
focus_part old new told ds h = elim (h.4) [
  | inl same ↦ ap (moved_to h.0) same.1 ∙ same.0
  | inr moved ↦ ap (moved_to h.0) moved.5 ∙ moved_append h.0 (map Updated moved.1 ++ map Updated moved.2) (FocusMoved h.0 h.1 ∷ [])
]

fit_focus : (old new : World) (told : List FullNodeId) (ds : List PlanEvent) → AreOfFocus old new told ds → AllFit new ds
fit_focus old new told ds h = elim (h.4) [
  | inl same ↦ subst (AllFit new) (sym same.1) tt
  | inr moved ↦ subst (AllFit new) (sym moved.5) (fit_append new (map Updated moved.1 ++ map Updated moved.2) _ (fit_append new (map Updated moved.1) _ (fit_updated new moved.1) (fit_updated new moved.2)) (tt, tt))
]

-- ---- the law

module _ (old new : World) where
  absent_still : (j : FullNodeId) (o : Option Mirrored) → ¬ (IsNode old j) → ¬ (IsNode new j) → IsRecordOf old j o → IsRecordOf new j o
  absent_still j None was is h = is
  absent_still j (Some m) was is h = absurd (was (subst IsSome (sym h.1) refl))

  unchanged_still : (j : FullNodeId) (o : Option Mirrored) → data_of old j ≡ data_of new j → place_of old j ≡ place_of new j → IsRecordOf old j o → IsRecordOf new j o
  unchanged_still j None alike place h = subst (λ x. ¬ (IsSome x)) alike h
  unchanged_still j (Some m) alike place h = (h.0 ∙ place, sym alike ∙ h.1)

module _ (old new : World) (root : Option FullNodeId) (ds : List PlanEvent) (h : AreDifferences old new root ds) where
  -- the groups, with the parts of the list that they are
  in_added : (j : FullNodeId) → Mention (map Added h.added) j → Mention ds j
  in_added j m = subst (λ x. Mention x j) (sym h.all) (mention_left _ (map Removed h.removed) j (mention_left _ h.of_focus j (mention_left _ (map Updated h.updated) j m)))

  in_updated : (j : FullNodeId) → Mention (map Updated h.updated) j → Mention ds j
  in_updated j m = subst (λ x. Mention x j) (sym h.all) (mention_left _ (map Removed h.removed) j (mention_left _ h.of_focus j (mention_right (map Added h.added) _ j m)))

  in_removed : (j : FullNodeId) → Mention (map Removed h.removed) j → Mention ds j
  in_removed j m = subst (λ x. Mention x j) (sym h.all) (mention_right (map Added h.added ++ map Updated h.updated ++ h.of_focus) _ j m)

  mention_added : (j : FullNodeId) → IsAdded old new j → Mention ds j
  mention_added j a = in_added j (mention_each Added (λ id. refl) h.added j ((h.are_added.members j).1 a))

  mention_updated : (j : FullNodeId) → Contains h.updated j → Mention ds j
  mention_updated j c = in_updated j (mention_each Updated (λ id. refl) h.updated j c)

  mention_removed : (j : FullNodeId) → IsAdded new old j → Mention ds j
  mention_removed j a = in_removed j (mention_each Removed (λ id. refl) h.removed j ((h.are_removed.members j).1 a))

  all_fit : AllFit new ds
  all_fit =
      let first : AllFit new (map Added h.added ++ map Updated h.updated) = fit_append new (map Added h.added) _ (fit_added new h.added) (fit_updated new h.updated) in
      let most : AllFit new (map Added h.added ++ map Updated h.updated ++ h.of_focus) = fit_append new _ h.of_focus first (fit_focus old new h.updated h.of_focus h.are_of_focus) in
      subst (AllFit new) (sym h.all) (fit_append new _ (map Removed h.removed) most (fit_removed new h.removed (λ j c. ((h.are_removed.members j).0 c).1)))

  same_data : (j : FullNodeId) → IsNode old j → IsNode new j → ¬ (Contains h.updated j) → data_of old j ≡ data_of new j
  same_data j was is not = same_data_unless _ _ (λ n. not ((h.are_updated.members j).1 ((was, is), inl n)))

  same_place : (j : FullNodeId) → IsNode old j → IsNode new j → ¬ (Contains h.updated j) → place_of old j ≡ place_of new j
  same_place j was is not = same_unless (coded_option (coded× coded_full coded_ℕ)) _ _ (λ n. not ((h.are_updated.members j).1 ((was, is), inr (inl n))))

  kept_or_told : (j : FullNodeId) (o : Option Mirrored) → IsRecordOf old j o → IsNode old j → IsNode new j → Contains h.updated j ⊎ ¬ (Contains h.updated j) → Mention ds j ⊎ IsRecordOf new j o
  kept_or_told j o r was is (inl told) = inl (mention_updated j told)
  kept_or_told j o r was is (inr not) = inr (unchanged_still old new j o (same_data j was is not) (same_place j was is not) r)

  right_or_told : (j : FullNodeId) (o : Option Mirrored) → IsRecordOf old j o → IsNode old j ⊎ ¬ (IsNode old j) → IsNode new j ⊎ ¬ (IsNode new j) → Mention ds j ⊎ IsRecordOf new j o
  right_or_told j o r (inl was) (inl is) = kept_or_told j o r was is (contained_or_not j h.updated)
  right_or_told j o r (inl was) (inr is) = inl (mention_removed j (was, is))
  right_or_told j o r (inr was) (inl is) = inl (mention_added j (is, was))
  right_or_told j o r (inr was) (inr is) = inr (absent_still old new j o was is r)

  moved_by_all : (focus : Option FullNodeId) → moved_to focus ds ≡ moved_to focus h.of_focus
  moved_by_all focus =
      let first : moved_to focus (map Added h.added ++ map Updated h.updated) ≡ focus =
      moved_append focus (map Added h.added) (map Updated h.updated) ∙ ap (λ f. moved_to f (map Updated h.updated)) (moved_added focus h.added) ∙ moved_updated focus h.updated in
      let most : moved_to focus (map Added h.added ++ map Updated h.updated ++ h.of_focus) ≡ moved_to focus h.of_focus =
      moved_append focus (map Added h.added ++ map Updated h.updated) h.of_focus ∙ ap (λ f. moved_to f h.of_focus) first in
      ap (moved_to focus) h.all ∙ moved_append focus (map Added h.added ++ map Updated h.updated ++ h.of_focus) (map Removed h.removed) ∙ moved_removed _ h.removed ∙ most

  pub records_follow : (r s : Records) → AreRecordsOf old r → Told Mirrors r (events old new ds) s → AreRecordsOf new s
  records_follow r s are told =
      let before : r.focus ≡ h.are_of_focus.0 = focus_unique old r.focus h.are_of_focus.0 are.focus h.are_of_focus.2 in
      let after : s.focus ≡ h.are_of_focus.1 =
      focus_after old new ds r s told ∙ moved_by_all r.focus ∙ ap (λ f. moved_to f h.of_focus) before ∙ focus_part old new h.updated h.of_focus h.are_of_focus in
      record {
        nodes = λ j. after_events old new ds r s j all_fit told (right_or_told j (get r.nodes j) (are.nodes j) (node_or_not old j) (node_or_not new j));
        focus = subst (IsFocus new) (sym after) h.are_of_focus.3;
      }
