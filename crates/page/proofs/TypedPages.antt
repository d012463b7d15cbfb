-- Pages of turns that differ in what is typed into a password.
use Rattle.std.proofs.Common.{arith, ◌≡◌, ℕ, Bool, List, [], ◌∷◌, ◌++◌, length, map, Option, Some, None, Result, Ok, refl, sym, ap, subst, ◌∙◌}
use Rattle.std.specs.Prelude.{MatchOption}
use Rattle.std.specs.Io.KnownBytes.{Appends}
use Rattle.std.proofs.lemmas.List.{length-map, map-append}
use Rattle.std.proofs.lemmas.Simd.{map-map}
use Rattle.atree_script.specs.Playing.{Turn, Begun as TreeBegun, FirstRefused, Ran, Asked, Printed}
use Rattle.model.specs.declared.FullNodeId.{FullNodeId}
use Rattle.model.specs.Forest.{IsFormed}
use Rattle.model.specs.World.{World}
use Rattle.script_words.specs.declared.stops.Stop.{Stop}
use Rattle.session.specs.declared.commands.Command.{Command}
use Rattle.session.specs.declared.commands.Command.TheVariants as command
use Rattle.page_states.specs.ShownLaws.{MayDiffer}
use Rattle.page_states.specs.WrittenLaws.{HaveSame, KeepAlike, MarkAlike}
use Rattle.page_states.proofs.TypedStates.{outlines_one, typing_writes_the_same}
use Rattle.page_states.proofs.WrittenAlike.{appended}
use Rattle.page.specs.declared.sections.Cause.{Cause}
use Rattle.page.specs.declared.sections.Cause.TheVariants.{Update}
use Rattle.page.specs.declared.sections.Outcome.{Outcome}
use Rattle.page.specs.declared.sections.Outcome.TheVariants.{Begun, Changed, Same, Refused}
use Rattle.page.specs.declared.sections.Summary.{Summary}
use Rattle.page.specs.declared.sections.Titled.{Titled}
use Rattle.page.specs.Reports.{Bytes, Marked, ReportsStep}
use Rattle.page.specs.Shown.{first_summary, pages_of, report_text, summary, unwritten, Kept, Notes, Opens, Pages, Shown, Shows, ShowsState, ShowsStep, ShowsTurn, WritesTree}
use Rattle.page.specs.States.{cause_of, counted, next_number, outcome_text, state_begun, updates_after}
use Rattle.page.specs.TypedLaws.{titled_text, IsSameKind, PageAlike, ShownAlike, StepAlike, TurnAlike, TypingMakesTheSamePage}
use Rattle.page.proofs.TypedReports.{step_reported, unmarked}

-- ---- lists

-- the last of as many
last_same : {X : Type 0} (xs ys : List X) (x y : X) → length xs ≡ length ys → xs ++ x ∷ [] ≡ ys ++ y ∷ [] → x ≡ y
last_same [] [] x y long e = cc
last_same [] (b ∷ ys) x y long e = absurd (omega arith)
last_same (a ∷ xs) [] x y long e = absurd (omega arith)
last_same (a ∷ xs) (b ∷ ys) x y long e =
    let shorter : length xs ≡ length ys = omega arith in
    let rest : xs ++ x ∷ [] ≡ ys ++ y ∷ [] = cc in
    last_same xs ys x y shorter rest

abbrev outcome_in : Titled → Outcome
outcome_in it = it.summary.outcome

as_many : (s u : List Titled) → map titled_text s ≡ map titled_text u → length s ≡ length u
as_many s u e = sym (length-map s titled_text) ∙ ap length e ∙ length-map u titled_text

-- ---- what is noted of a state

nothing_more : (a b c d : Kept × Bytes) → KeepAlike a.0 b.0 × HaveSame a.1 b.1 → (c.0 ≡ a.0) × (c.1 ≡ a.1) → (d.0 ≡ b.0) × (d.1 ≡ b.1) → KeepAlike c.0 d.0 × HaveSame c.1 d.1
nothing_more a b c d same h g =
    (subst (λ k. KeepAlike k d.0) (sym h.0) (subst (KeepAlike a.0) (sym g.0) same.0), subst (λ o. HaveSame o d.1) (sym h.1) (subst (HaveSame a.1) (sym g.1) same.1))

module _ (number : ℕ) (w v : World) (marks others : Marked) (p : FullNodeId) (formed : IsFormed w) (alike : MayDiffer p w v) (marked : MarkAlike marks others) where
  tree_same : (outcome : Outcome) (a b c d : Kept × Bytes) → KeepAlike a.0 b.0 × HaveSame a.1 b.1 → WritesTree number w marks outcome a c → WritesTree number v others outcome b d → KeepAlike c.0 d.0 × HaveSame c.1 d.1
  tree_same Begun a b c d same h g = typing_writes_the_same p w v formed alike number marks others marked a c b d same h g
  tree_same Changed a b c d same h g = typing_writes_the_same p w v formed alike number marks others marked a c b d same h g
  tree_same Same a b c d same h g = nothing_more a b c d same h g
  tree_same (Refused why) a b c d same h g = nothing_more a b c d same h g

outcomes_same : (s u : List Titled) → map titled_text s ≡ map titled_text u → map outcome_in s ≡ map outcome_in u
outcomes_same s u e =
    let of : List ℕ × Summary → Outcome = λ text. text.1.outcome in
    sym (map-map of titled_text s) ∙ ap (map of) e ∙ map-map of titled_text u

module _ (title other : List ℕ) (titles : title ≡ other) where
  notes_same : (it its : Summary) → it ≡ its → (s t u v : Pages) → PageAlike s u → Notes title it s t → Notes other its u v → PageAlike t v
  notes_same it its sums s t u v same h g =
      let number = ap counted (as_many s.states u.states same.states) in
      let titled : titled_text h.state ≡ titled_text g.state = λ i. ((h.titled ∙ titles ∙ sym g.titled) i, (h.summary ∙ sums ∙ sym g.summary) i) in
      record {
        updates = h.updates ∙ (λ i. updates_after (sums i).cause (same.updates i)) ∙ sym g.updates;
        states =
            ap (map titled_text) h.states ∙ map-append titled_text s.states (h.state ∷ []) ∙ (λ i. same.states i ++ titled i ∷ [])
            ∙ sym (ap (map titled_text) g.states ∙ map-append titled_text u.states (g.state ∷ []));
        kept = subst (λ k. KeepAlike k v.kept) (sym h.kept) (subst (KeepAlike s.kept) (sym g.kept) same.kept);
        written = appended s.written u.written t.written v.written (outcome_text (next_number s.states) it.outcome) (outcome_text (next_number u.states) its.outcome)
            (λ i. outcome_text (number i) (sums i).outcome) same.written h.outcome g.outcome;
      }

  opens_same : (it its : Summary) → it ≡ its → (s t u v : Pages) → PageAlike s u → Opens title it s t → Opens other its u v → PageAlike t v
  opens_same it its sums s t u v same h g =
      let number = ap counted (as_many s.states u.states same.states) in
      let begun = appended s.written u.written h.begun g.begun (state_begun (next_number s.states) title it.cause) (state_begun (next_number u.states) other its.cause)
      (λ i. state_begun (number i) (titles i) (sums i).cause) same.written h.begins g.begins in
      notes_same it its sums (pages_of s.updates s.states s.kept h.begun) t (pages_of u.updates u.states u.kept g.begun) v
      (record { updates = same.updates; states = same.states; kept = same.kept; written = begun }) h.notes g.notes

  -- what came of the one is what came of the other
  came_same : (it its : Summary) (s t u v : Pages) → map titled_text s.states ≡ map titled_text u.states → Notes title it s t → Notes other its u v → map outcome_in t.states ≡ map outcome_in v.states → it.outcome ≡ its.outcome
  came_same it its s t u v same h g came =
      let before = outcomes_same s.states u.states same in
      let first = ap (map outcome_in) h.states ∙ map-append outcome_in s.states (h.state ∷ []) in
      let second = ap (map outcome_in) g.states ∙ map-append outcome_in u.states (g.state ∷ []) in
      let last = last_same (map outcome_in s.states) (map outcome_in u.states) (outcome_in h.state) (outcome_in g.state) (ap length before) (sym first ∙ came ∙ second) in
      sym (λ i. (h.summary i).outcome) ∙ last ∙ (λ i. (g.summary i).outcome)

  module _ (p : FullNodeId) where
    begun_same : (it its : Summary) → it ≡ its → (w v : World) → IsFormed w → MayDiffer p w v → (s t u r : Pages) → PageAlike s u → ShowsState title it w s t → ShowsState other its v u r → PageAlike t r
    begun_same it its sums w v formed alike s t u r same h g =
        let number = ap counted (as_many s.states u.states same.states) in
        let opened = opens_same it its sums s (pages_of t.updates t.states s.kept h.noted) u (pages_of r.updates r.states u.kept g.noted) same h.opens g.opens in
        let tree : WritesTree (next_number s.states) v g.unmarked it.outcome (u.kept, g.noted) (r.kept, r.written) =
        subst (λ n. WritesTree n v g.unmarked it.outcome (u.kept, g.noted) (r.kept, r.written)) (sym number)
        (subst (λ (x : Summary). WritesTree (next_number u.states) v g.unmarked x.outcome (u.kept, g.noted) (r.kept, r.written)) (sym sums) g.tree) in
        let all = tree_same (next_number s.states) w v h.unmarked g.unmarked p formed alike (unmarked h.unmarked g.unmarked h.empty g.empty) it.outcome (s.kept, h.noted) (u.kept, g.noted)
        (t.kept, t.written) (r.kept, r.written) (opened.kept, opened.written) h.tree tree in
        record { updates = opened.updates; states = opened.states; kept = all.0; written = all.1 }

    step_same : (cause reason : Cause) → cause ≡ reason → (outcome result : Outcome) (old : World) (c : Command) (new former : World) (d : Command) (later : World) → StepAlike p old c new former d later →
        (s t u v : Pages) → PageAlike s u → ShowsStep title cause outcome s old c new t → ShowsStep other reason result u former d later v → map outcome_in t.states ≡ map outcome_in v.states →
        (outcome ≡ result) × PageAlike t v
    step_same cause reason causes outcome result old c new former d later alike s t u v same h g came =
        let number = ap counted (as_many s.states u.states same.states) in
        let begun = appended s.written u.written h.begun g.begun (state_begun (next_number s.states) title cause) (state_begun (next_number u.states) other reason)
        (λ i. state_begun (number i) (titles i) (causes i)) same.written h.begins g.begins in
        let one = pages_of s.updates s.states s.kept h.told in
        let two = pages_of u.updates u.states u.kept g.told in
        let noted = pages_of t.updates t.states s.kept h.noted in
        let marked = pages_of v.updates v.states u.kept g.noted in
        let ends : outcome ≡ result = came_same (summary cause outcome h.tally) (summary reason result g.tally) one noted two marked
        same.states h.notes g.notes came in
        let told = step_reported p (next_number s.states) old c new former d later alike h.begun h.told g.begun g.told outcome result h.tally g.tally h.marks g.marks ends begun h.reports
        (subst (λ n. ReportsStep n former d later g.begun result g.tally g.marks g.told) (sym number) g.reports) in
        let page = notes_same (summary cause outcome h.tally) (summary reason result g.tally) (λ i. summary (causes i) (ends i) (told.tally i)) one noted two marked
        (record { updates = same.updates; states = same.states; kept = same.kept; written = told.written }) h.notes g.notes in
        let tree : WritesTree (next_number s.states) later g.marks outcome (u.kept, g.noted) (v.kept, v.written) =
        subst (λ n. WritesTree n later g.marks outcome (u.kept, g.noted) (v.kept, v.written)) (sym number)
        (subst (λ o. WritesTree (next_number u.states) later g.marks o (u.kept, g.noted) (v.kept, v.written)) (sym ends) g.tree) in
        let all = tree_same (next_number s.states) new later h.marks g.marks p alike.formed_after alike.after told.marks outcome (s.kept, h.noted) (u.kept, g.noted)
        (t.kept, t.written) (v.kept, v.written) (page.kept, page.written) h.tree tree in
        (ends, record { updates = page.updates; states = page.states; kept = all.0; written = all.1 })

-- ---- what is drawn, and then written

same_text : (a b : List ℕ) → Some a ≡ Some b → a ≡ b
same_text a b e = cc

none_written : (s u : Pages) → PageAlike s u → PageAlike (unwritten s) (unwritten u)
none_written s u same = record { updates = same.updates; states = same.states; kept = same.kept; written = ([], refl, refl) }

abbrev drawn_of : Pages → List ℕ → Pages
drawn_of t text = pages_of t.updates t.states t.kept (Some text)

written_same : (s t u v : Pages) (text other : List ℕ) → PageAlike s u → PageAlike (drawn_of t text) (drawn_of v other) → Appends s.written t.written text → Appends u.written v.written other → PageAlike t v
written_same s t u v text other same drawn h g =
    let all = drawn.written in
    let texts : text ≡ other = same_text text all.0 all.1 ∙ sym (same_text other all.0 all.2) in
    record { updates = drawn.updates; states = drawn.states; kept = drawn.kept; written = appended s.written u.written t.written v.written text other texts same.written h g }

-- ---- turns

cause_same : (c d : Command) → IsSameKind c d → (a b : Bool) → a ≡ b → (m n : ℕ) → m ≡ n → cause_of a m c ≡ cause_of b n d
cause_same (command.Update u) (command.Update x) same a b host m n e = λ i. Some (Update (counted (e i)))
cause_same (command.Update u) (command.HostFocus f) same a b host m n e = let no : ⊥ = cc in absurd no
cause_same (command.Update u) (command.Query q) same a b host m n e = let no : ⊥ = cc in absurd no
cause_same (command.HostFocus f) d same a b host m n e = λ i. cause_of (host i) (e i) (same i)
cause_same (command.Query q) d same a b host m n e = λ i. cause_of (host i) (e i) (same i)

abbrev done : Result Unit Stop
done = Ok tt

stayed : (s t u v : Shown) → ShownAlike s u → t ≡ s → v ≡ u → ShownAlike t v
stayed s t u v same h g = subst (λ x. ShownAlike x v) (sym h) (subst (ShownAlike s) (sym g) same)

module _ (p : FullNodeId) where
  run_same : (title other : List ℕ) → title ≡ other → (line at : ℕ) → line ≡ at → (old : World) (c : Command) (new former : World) (d : Command) (later : World) → StepAlike p old c new former d later →
      (s t u v : Shown) → ShownAlike s u → map outcome_in t.0.states ≡ map outcome_in v.0.states → (one two : Option Cause) → one ≡ two →
      MatchOption one ((new ≡ old) × (t ≡ s) × (done ≡ done)) (λ cause. ShowsTurn title line cause s old c new done t) →
      MatchOption two ((later ≡ former) × (v ≡ u) × (done ≡ done)) (λ cause. ShowsTurn other at cause u former d later done v) → ShownAlike t v
  run_same title other titles line at lines old c new former d later alike s t u v same came None None causes h g = stayed s t u v same h.1 g.1
  run_same title other titles line at lines old c new former d later alike s t u v same came None (Some two) causes h g = let no : ⊥ = cc in absurd no
  run_same title other titles line at lines old c new former d later alike s t u v same came (Some one) None causes h g = let no : ⊥ = cc in absurd no
  run_same title other titles line at lines old c new former d later alike s t u v same came (Some one) (Some two) causes h g =
      let cause : one ≡ two = cc in
      let mine = h.shows.0 in
      let others = g.shows.0 in
      let both = step_same title other titles p one two cause h.outcome g.outcome old c new former d later alike (unwritten s.0) (drawn_of t.0 mine.text) (unwritten u.0) (drawn_of v.0 others.text)
      (none_written s.0 u.0 same.0) mine.shown others.shown came in (
        written_same s.0 t.0 u.0 v.0 mine.text others.text same.0 both.1 mine.written others.written,
        appended s.1 u.1 t.1 v.1 (report_text line one h.outcome) (report_text at two g.outcome) (λ i. report_text (lines i) (cause i) (both.0 i)) same.1 h.shows.1 g.shows.1,
      )

  one_turn : (turn other : Turn) → TurnAlike p turn other → (s t u v : Shown) → ShownAlike s u → map outcome_in t.0.states ≡ map outcome_in v.0.states → Shows s turn (Ok tt) t → Shows u other (Ok tt) v → ShownAlike t v
  one_turn (TreeBegun comment w) (TreeBegun other v) alike s t u r same came h g =
      let mine = h.0 in
      let others = g.0 in
      let drawn = begun_same comment other alike.0 p (first_summary s.0.updates Begun) (first_summary u.0.updates Begun) (λ i. first_summary (same.0.updates i) Begun) w v alike.1 alike.2
      (unwritten s.0) (drawn_of t.0 mine.text) (unwritten u.0) (drawn_of r.0 others.text) (none_written s.0 u.0 same.0) mine.shown others.shown in (
        written_same s.0 t.0 u.0 r.0 mine.text others.text same.0 drawn mine.written others.written,
        subst (λ o. HaveSame o r.1) (sym h.1) (subst (HaveSame s.1) (sym g.1) same.1),
      )
  one_turn (FirstRefused comment line why) (FirstRefused other at reason) alike s t u r same came h g =
      let it : Summary = first_summary s.0.updates (Refused why) in
      let its : Summary = first_summary u.0.updates (Refused reason) in
      let mine = h.0 in
      let others = g.0 in
      let ends : Refused why ≡ Refused reason = came_same comment other alike.0 it its (pages_of s.0.updates s.0.states s.0.kept mine.shown.begun) (drawn_of t.0 mine.text)
      (pages_of u.0.updates u.0.states u.0.kept others.shown.begun) (drawn_of r.0 others.text) same.0.states mine.shown.notes others.shown.notes came in
      let sums : it ≡ its = λ i. first_summary (same.0.updates i) (ends i) in
      let drawn = opens_same comment other alike.0 it its sums (unwritten s.0) (drawn_of t.0 mine.text) (unwritten u.0) (drawn_of r.0 others.text) (none_written s.0 u.0 same.0) mine.shown others.shown in (
        written_same s.0 t.0 u.0 r.0 mine.text others.text same.0 drawn mine.written others.written,
        appended s.1 u.1 t.1 r.1 (report_text line it.cause it.outcome) (report_text at its.cause its.outcome) (λ i. report_text (alike.1 i) (sums i).cause (sums i).outcome) same.1 h.1 g.1,
      )
  one_turn (Ran comment line old c new) (Ran other at former d later) alike s t u r same came h g =
      let step = alike.2 in
      run_same comment other alike.0 line at alike.1 old c new former d later step s t u r same came (cause_of old.host_focused s.0.updates c) (cause_of former.host_focused u.0.updates d)
      (cause_same c d step.kind old.host_focused former.host_focused (λ i. (outlines_one p old former step.before i).host_focused) s.0.updates u.0.updates same.0.updates) h g
  one_turn (Asked old q new) (Asked former a later) alike s t u r same came h g = stayed s t u r same h.1 g.1
  one_turn (Printed w) (Printed v) alike s t u r same came h g = stayed s t u r same h.0 g.0
  one_turn (TreeBegun comment w) (FirstRefused other at reason) alike s t u r same came h g = absurd alike
  one_turn (TreeBegun comment w) (Ran other at former d later) alike s t u r same came h g = absurd alike
  one_turn (TreeBegun comment w) (Asked former a later) alike s t u r same came h g = absurd alike
  one_turn (TreeBegun comment w) (Printed v) alike s t u r same came h g = absurd alike
  one_turn (FirstRefused comment line why) (TreeBegun other v) alike s t u r same came h g = absurd alike
  one_turn (FirstRefused comment line why) (Ran other at former d later) alike s t u r same came h g = absurd alike
  one_turn (FirstRefused comment line why) (Asked former a later) alike s t u r same came h g = absurd alike
  one_turn (FirstRefused comment line why) (Printed v) alike s t u r same came h g = absurd alike
  one_turn (Ran comment line old c new) (TreeBegun other v) alike s t u r same came h g = absurd alike
  one_turn (Ran comment line old c new) (FirstRefused other at reason) alike s t u r same came h g = absurd alike
  one_turn (Ran comment line old c new) (Asked former a later) alike s t u r same came h g = absurd alike
  one_turn (Ran comment line old c new) (Printed v) alike s t u r same came h g = absurd alike
  one_turn (Asked old q new) (TreeBegun other v) alike s t u r same came h g = absurd alike
  one_turn (Asked old q new) (FirstRefused other at reason) alike s t u r same came h g = absurd alike
  one_turn (Asked old q new) (Ran other at former d later) alike s t u r same came h g = absurd alike
  one_turn (Asked old q new) (Printed v) alike s t u r same came h g = absurd alike
  one_turn (Printed w) (TreeBegun other v) alike s t u r same came h g = absurd alike
  one_turn (Printed w) (FirstRefused other at reason) alike s t u r same came h g = absurd alike
  one_turn (Printed w) (Ran other at former d later) alike s t u r same came h g = absurd alike
  one_turn (Printed w) (Asked former a later) alike s t u r same came h g = absurd alike

pub typing_makes_the_same_page : TypingMakesTheSamePage
typing_makes_the_same_page p [] [] zip s t u v same h g = subst (λ x. ShownAlike x v) h (subst (ShownAlike s) g same)
typing_makes_the_same_page p [] (y ∷ ys) zip s t u v same h g = absurd zip
typing_makes_the_same_page p (x ∷ xs) [] zip s t u v same h g = absurd zip
typing_makes_the_same_page p (x ∷ xs) (y ∷ ys) zip s t u v same h g =
    let came : map outcome_in h.0.0.states ≡ map outcome_in g.0.0.states =
    h.1.1 ∙ (λ i. outcomes_same s.0.states u.0.states same.0.states i ++ zip.0.1 i) ∙ sym g.1.1 in
    let first = one_turn p x.0 y.0 zip.0.0 s h.0 u g.0 same came h.1.0 g.1.0 in
    typing_makes_the_same_page p xs ys zip.1 h.0 t g.0 v first h.2 g.2
