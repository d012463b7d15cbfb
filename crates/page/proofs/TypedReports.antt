-- What is reported of two steps between worlds that differ in what is typed into a password.
use Rattle.std.proofs.Common.{◌≡◌, ℕ, Bool, true, false, cond, List, [], ◌∷◌, ◌++◌, codes, map, Option, Some, None, Ok, refl, sym, ap, subst, ◌∙◌}
use Rattle.std.specs.Prelude.{IfSome, option_map, if◌then◌else◌, ⊤}
use Rattle.std.specs.BTreeMap.{IsEmpty, Updates, get, is_at}
use Rattle.std.specs.Map.{lookup}
use Rattle.model.specs.AlikeRuns.{difference_of}
use Rattle.model.specs.Differences.{event}
use Rattle.model.specs.declared.FullNodeId.{FullNodeId}
use Rattle.model.specs.declared.events.PlanEvent.{PlanEvent}
use Rattle.model.specs.declared.events.PlanEvent.TheVariants.{Added, Updated, FocusMoved, Removed}
use Rattle.model.specs.Events.{Told, seen_in}
use Rattle.model.specs.Forest.{IsFormed}
use Rattle.model.specs.FullIds.{full_cmp}
use Rattle.model.specs.World.{World}
use Rattle.session.proofs.StepEvents.{step_differences}
use Rattle.session.specs.declared.commands.Command.{Command}
use Rattle.session.specs.declared.commands.Reply.{Reply}
use Rattle.session.specs.declared.commands.Reply.TheVariants as reply
use Rattle.tree_changes.specs.declared.error.UpdateError.{UpdateError}
use Rattle.views.specs.Nodes.{world_at, seen_node}
use Rattle.page_states.specs.declared.found.View.{View}
use Rattle.page_states.specs.declared.marks.Mark.{Mark}
use Rattle.page_states.specs.declared.marks.Mark.TheVariants.{Added as WasAdded, Updated as WasUpdated}
use Rattle.page_states.specs.Found.{view_seen, IsRight}
use Rattle.page_states.specs.Named.{linked_text, name_text}
use Rattle.page_states.specs.Said.{arrow}
use Rattle.page_states.specs.ShownLaws.{MayDiffer}
use Rattle.page_states.specs.ToldLaws.{ViewAlike}
use Rattle.page_states.specs.WrittenLaws.{HaveSame, MarkAlike}
use Rattle.page_states.proofs.TypedEvents.{typing_names_the_same, typing_tells_the_same}
use Rattle.page_states.proofs.WrittenAlike.{appended}
use Rattle.page.specs.declared.sections.Outcome.{Outcome}
use Rattle.page.specs.declared.sections.Outcome.TheVariants.{Begun, Changed, Same, Refused}
use Rattle.page.specs.declared.tally.Tally.{Tally}
use Rattle.page.specs.Reports.{item_begun, item_ended, list_ended, new_focus, no_events, old_focus, Bytes, Marked, Report, Reports, ReportsStep}
use Rattle.page.specs.States.{counted, is_quiet, outcome_of}
use Rattle.page.specs.TypedLaws.{refusal_of, StepAlike}

-- the same is reported so far
pub record ReportSame (s u : Report) : Type 0 where
  pub written : HaveSame s.written u.written
  pub tally : s.tally ≡ u.tally
  pub marks : MarkAlike s.marks u.marks

marked_more : (a b c d : Marked) (id : FullNodeId) (mark : Mark) → MarkAlike a b → Updates full_cmp a c id (Some mark) → Updates full_cmp b d id (Some mark) → MarkAlike c d
marked_more a b c d id mark same h g q = h.0 q ∙ ap (cond (is_at (full_cmp id) q) (Some mark)) (same q) ∙ sym (g.0 q)

marked_on : (a b c d : Marked) → MarkAlike a b → c ≡ a → d ≡ b → MarkAlike c d
marked_on a b c d same h g q = ap (λ m. get full_cmp m q) h ∙ same q ∙ sym (ap (λ m. get full_cmp m q) g)

pub unmarked : (a b : Marked) → IsEmpty a → IsEmpty b → MarkAlike a b
unmarked a b none empty q = ap (lookup (is_at (full_cmp q))) (none ∙ sym empty)

-- ---- views

module _ (p : FullNodeId) (w v : World) (formed : IsFormed w) (alike : MayDiffer p w v) where
  viewed : (id : FullNodeId) (a b : View) → seen_node a.node ≡ seen_in w id → seen_node b.node ≡ seen_in v id → IsRight a → IsRight b → ViewAlike p a b
  viewed id a b is at right other = record {
    formed = subst IsFormed (λ i. (sym is i).world) formed;
    worlds = subst (λ x. MayDiffer p x (world_at b.node)) (λ i. (sym is i).world) (subst (λ y. MayDiffer p w y) (λ i. (sym at i).world) alike);
    id = (λ i. (is i).id) ∙ sym (λ i. (at i).id);
    right = right;
    other = other;
  }

  abbrev AreViewsIf : Option View → Option View → Type 0
  AreViewsIf None None = ⊤
  AreViewsIf None (Some b) = ⊥
  AreViewsIf (Some a) None = ⊥
  AreViewsIf (Some a) (Some b) = ViewAlike p a b

  viewed_if : (id : Option FullNodeId) (a b : Option View) → view_seen a ≡ option_map (seen_in w) id → view_seen b ≡ option_map (seen_in v) id → IfSome a IsRight → IfSome b IsRight → AreViewsIf a b
  viewed_if None None None is at right other = tt
  viewed_if None None (Some b) is at right other = let no : ⊥ = cc in no
  viewed_if None (Some a) b is at right other = let no : ⊥ = cc in absurd no
  viewed_if (Some id) None b is at right other = let no : ⊥ = cc in absurd no
  viewed_if (Some id) (Some a) None is at right other = let no : ⊥ = cc in no
  viewed_if (Some id) (Some a) (Some b) is at right other =
      let here : seen_node a.node ≡ seen_in w id = cc in
      let there : seen_node b.node ≡ seen_in v id = cc in
      viewed id a b here there right other

  new_same : (state : ℕ) (a b : Option View) → AreViewsIf a b → new_focus state a ≡ new_focus state b
  new_same state None None h = refl
  new_same state None (Some b) h = absurd h
  new_same state (Some a) None h = absurd h
  new_same state (Some a) (Some b) h = (typing_names_the_same p a b h).linked state

  old_same : (a b : Option View) → AreViewsIf a b → old_focus a ≡ old_focus b
  old_same None None h = refl
  old_same None (Some b) h = absurd h
  old_same (Some a) None h = absurd h
  old_same (Some a) (Some b) h = (typing_names_the_same p a b h).name

-- ---- events

module _ (p : FullNodeId) (state : ℕ) (old new former later : World) (formed : IsFormed old) (formed_after : IsFormed new) (before : MayDiffer p old former) (after : MayDiffer p new later) where
  one_reported : (d : PlanEvent) (s t u v : Report) → ReportSame s u → Reports state s (event old new d) t → Reports state u (event former later d) v → ReportSame t v
  one_reported (Added id) s t u v same h g =
      let names = typing_names_the_same p h.node g.node (viewed p new later formed_after after id h.node g.node h.seen g.seen h.right g.right) in
      let text : Tally → List ℕ → List ℕ = λ tally name. item_begun tally (codes "a") (codes "added") ++ name ++ item_ended in
      record {
        written = appended s.written u.written t.written v.written (text s.tally (linked_text state h.node)) (text u.tally (linked_text state g.node))
            (λ i. text (same.tally i) (names.linked state i)) same.written h.told g.told;
        tally = h.tally ∙ (λ i. record (same.tally i) { added = counted (same.tally i).added }) ∙ sym g.tally;
        marks = marked_more s.marks u.marks t.marks v.marks id WasAdded same.marks h.marks g.marks;
      }
  one_reported (Updated id) s t u v same h g =
      let is = viewed p new later formed_after after id h.node g.node h.seen g.seen h.right g.right in
      let was = viewed p old former formed before id h.before g.before h.seen_before g.seen_before h.right_before g.right_before in
      let names = typing_names_the_same p h.node g.node is in
      let text : Tally → List ℕ → List ℕ = λ tally name. item_begun tally (codes "u") (codes "updated") ++ name in
      let named = appended s.written u.written h.told.named g.told.named (text s.tally (linked_text state h.node)) (text u.tally (linked_text state g.node))
      (λ i. text (same.tally i) (names.linked state i)) same.written h.told.names g.told.names in
      let compared = typing_tells_the_same p h.before h.node g.before g.node was is h.told.named h.told.compared g.told.named g.told.compared named h.told.differs g.told.differs in
      record {
        written = appended h.told.compared g.told.compared t.written v.written item_ended item_ended refl compared h.told.ends g.told.ends;
        tally = h.tally ∙ (λ i. record (same.tally i) { updated = counted (same.tally i).updated }) ∙ sym g.tally;
        marks = marked_more s.marks u.marks t.marks v.marks id WasUpdated same.marks h.marks g.marks;
      }
  one_reported (FocusMoved left entered) s t u v same h g =
      let was = old_same p old former formed before h.before g.before (viewed_if p old former formed before left h.before g.before h.seen_before g.seen_before h.right_before g.right_before) in
      let is = new_same p new later formed_after after state h.node g.node (viewed_if p new later formed_after after entered h.node g.node h.seen g.seen h.right g.right) in
      let text : Tally → List ℕ → List ℕ → List ℕ = λ tally one other. item_begun tally (codes "f") (codes "focus") ++ one ++ arrow ++ other ++ item_ended in
      record {
        written = appended s.written u.written t.written v.written (text s.tally (old_focus h.before) (new_focus state h.node)) (text u.tally (old_focus g.before) (new_focus state g.node))
            (λ i. text (same.tally i) (was i) (is i)) same.written h.told g.told;
        tally = h.tally ∙ (λ i. record (same.tally i) { moved = counted (same.tally i).moved }) ∙ sym g.tally;
        marks = marked_on s.marks u.marks t.marks v.marks same.marks h.marks g.marks;
      }
  one_reported (Removed id) s t u v same h g =
      let names = typing_names_the_same p h.node g.node (viewed p old former formed before id h.node g.node h.seen g.seen h.right g.right) in
      let text : Tally → List ℕ → List ℕ = λ tally name. item_begun tally (codes "r") (codes "removed") ++ name ++ item_ended in
      record {
        written = appended s.written u.written t.written v.written (text s.tally (name_text h.node)) (text u.tally (name_text g.node))
            (λ i. text (same.tally i) (names.name i)) same.written h.told g.told;
        tally = h.tally ∙ (λ i. record (same.tally i) { removed = counted (same.tally i).removed }) ∙ sym g.tally;
        marks = marked_on s.marks u.marks t.marks v.marks same.marks h.marks g.marks;
      }

  all_reported : (ds : List PlanEvent) (s t u v : Report) → ReportSame s u → Told (Reports state) s (map (event old new) ds) t → Told (Reports state) u (map (event former later) ds) v → ReportSame t v
  all_reported [] s t u v same h g = subst (λ x. ReportSame x v) h (subst (ReportSame s) g same)
  all_reported (d ∷ ds) s t u v same h g = all_reported ds h.0 t g.0 v (one_reported d s h.0 u g.0 same h.1.0 g.1.0) h.1.1 g.1.1

-- ---- steps

same_ids : (w : World) (o : Option FullNodeId) → option_map (λ s. s.id) (option_map (seen_in w) o) ≡ o
same_ids w None = refl
same_ids w (Some id) = refl

kind_is : (old new : World) (d : PlanEvent) → difference_of (event old new d) ≡ d
kind_is old new (Added id) = refl
kind_is old new (Updated id) = refl
kind_is old new (FocusMoved before after) = λ i. FocusMoved (same_ids old before i) (same_ids new after i)
kind_is old new (Removed id) = refl

kinds_are : (old new : World) (ds : List PlanEvent) → map difference_of (map (event old new) ds) ≡ ds
kinds_are old new [] = refl
kinds_are old new (d ∷ ds) = λ i. kind_is old new d i ∷ kinds_are old new ds i

-- why a state's update is refused, if it is
abbrev reason_of : Outcome → Option UpdateError
reason_of (Refused why) = Some why
reason_of Begun = None
reason_of Changed = None
reason_of Same = None

quiet_or_not : (b : Bool) → reason_of (if b then Same else Changed) ≡ None
quiet_or_not true = refl
quiet_or_not false = refl

reason_is : (r : Reply) (tally : Tally) → reason_of (outcome_of r tally) ≡ refusal_of r
reason_is (reply.Refused why) tally = refl
reason_is reply.Accepted tally = quiet_or_not (is_quiet tally)
reason_is (reply.Ids ids) tally = quiet_or_not (is_quiet tally)
reason_is (reply.Text text) tally = quiet_or_not (is_quiet tally)
reason_is (reply.Set size position) tally = quiet_or_not (is_quiet tally)
reason_is (reply.Node node) tally = quiet_or_not (is_quiet tally)
reason_is (reply.Position position) tally = quiet_or_not (is_quiet tally)
reason_is (reply.Indexes usv utf16 line) tally = quiet_or_not (is_quiet tally)
reason_is reply.NoNode tally = quiet_or_not (is_quiet tally)
reason_is reply.NotText tally = quiet_or_not (is_quiet tally)

-- the same was told of a step, counted and marked
pub record StepSame (after told : Bytes) (one other : Tally) (mine others : Marked) : Type 0 where
  pub written : HaveSame after told
  pub tally : one ≡ other
  pub marks : MarkAlike mine others

pub step_reported : (p : FullNodeId) (state : ℕ) (old : World) (c : Command) (new former : World) (d : Command) (later : World) → StepAlike p old c new former d later →
    (before after heard told : Bytes) (outcome result : Outcome) (tally count : Tally) (marks others : Marked) → outcome ≡ result → HaveSame before heard →
    ReportsStep state old c new before outcome tally marks after → ReportsStep state former d later heard result count others told → StepSame after told tally count marks others
step_reported p state old c new former d later alike before after heard told outcome result tally count marks others came same h g =
    let ds = step_differences old c new h.events (Ok h.reply) h.step in
    let es = step_differences former d later g.events (Ok g.reply) g.step in
    let reason : refusal_of h.reply ≡ refusal_of g.reply =
    sym (ap reason_of h.comes ∙ reason_is h.reply h.told.tally) ∙ ap reason_of came ∙ ap reason_of g.comes ∙ reason_is g.reply g.told.tally in
    let kinds : ds.0 ≡ es.0 =
    sym (kinds_are old new ds.0) ∙ sym (ap (map difference_of) ds.1) ∙ alike.reports new later h.events g.events h.reply g.reply h.step g.step reason
    ∙ ap (map difference_of) es.1 ∙ kinds_are former later es.0 in
    let begun : ReportSame (no_events before h.unmarked) (no_events heard g.unmarked) = record { written = same; tally = refl; marks = unmarked h.unmarked g.unmarked h.empty g.empty } in
    let first : Told (Reports state) (no_events before h.unmarked) (map (event old new) ds.0) h.told =
    subst (λ events. Told (Reports state) (no_events before h.unmarked) events h.told) ds.1 h.tells in
    let second : Told (Reports state) (no_events heard g.unmarked) (map (event former later) ds.0) g.told =
    subst (λ events. Told (Reports state) (no_events heard g.unmarked) events g.told) (es.1 ∙ ap (map (event former later)) (sym kinds)) g.tells in
    let all = all_reported p state old new former later alike.formed alike.formed_after alike.before alike.after ds.0 (no_events before h.unmarked) h.told (no_events heard g.unmarked) g.told begun first second in
    record {
      written = appended h.told.written g.told.written after told (list_ended h.told.tally) (list_ended g.told.tally) (ap list_ended all.tally) all.written h.ends g.ends;
      tally = h.counted ∙ all.tally ∙ sym g.counted;
      marks = marked_on h.told.marks g.told.marks marks others all.marks h.marked g.marked;
    }
