-- Runs whose turns differ in what is typed into a password.
use Rattle.std.proofs.Common.{arith, ◌≡◌, ◌≤◌, ℕ, ◌+◌, inl, inr, List, [], ◌∷◌, ◌++◌, codes, map, Some, None, Result, Ok, Err, refl, sym, ap, subst, ◌∙◌}
use Rattle.std.specs.Prelude.{◌≢◌, option_map}
use Rattle.std.specs.BTreeMap.{IsEmpty, is_at}
use Rattle.std.specs.Io.KnownBytes.{Appends, Keeps}
use Rattle.std.specs.List.{FoldsTo}
use Rattle.std.specs.Map.{lookup}
use Rattle.atree_script.specs.Input.{start_of}
use Rattle.atree_script.specs.declared.playing.Played.{Played}
use Rattle.atree_script.specs.Playing.{no_tree}
use Rattle.model.specs.FullIds.{full_cmp}
use Rattle.script_lines.specs.Ends.{Tells, status_at_end}
use Rattle.script_words.specs.declared.stops.Stop.{Stop}
use Rattle.script_words.specs.declared.stops.Stop.TheVariants.{Memory, WriteFault}
use Rattle.script_words.specs.declared.stops.Stop.TheVariants as stop
use Rattle.page_states.specs.WrittenLaws.{last_text, HaveSame, KeepAlike}
use Rattle.page_states.proofs.WrittenAlike.{appended}
use Rattle.page.specs.declared.sections.Summary.{Summary}
use Rattle.page.specs.declared.sections.Titled.{Titled}
use Rattle.page.specs.declared.stops.Ending.{Ending}
use Rattle.page.specs.Endings.{EndsAs, EndsBy, told_text}
use Rattle.page.specs.Heads.{page_head}
use Rattle.page.specs.Reports.{Bytes}
use Rattle.page.specs.Runs.{EndsPage, PagesFrom, WritesEnd}
use Rattle.page.specs.Shown.{shown_of, Kept, Shown}
use Rattle.page.specs.States.{items_from, list_head, page_end, page_foot, section_end, state_link, stop_text, summary_text}
use Rattle.page.specs.Turns.{ShowsTaken, TurnTaken}
use Rattle.page.specs.TypedLaws.{titled_text, ShownAlike, TypingWritesTheSamePage}
use Rattle.page.proofs.Turned.{played_through}
use Rattle.page.proofs.TypedPages.{typing_makes_the_same_page}

-- ---- the end of a page

-- what the list of all has of a state's title and summary
abbrev item_read : ℕ → List ℕ × Summary → List ℕ
item_read number it = state_link number it.0 ++ summary_text it.1 ++ codes "</li>\n"

abbrev items_read : ℕ → List (List ℕ × Summary) → List ℕ
items_read number [] = []
items_read number (it ∷ its) = item_read number it ++ items_read (number + 1) its

items_are : (number : ℕ) (its : List Titled) → items_from number its ≡ items_read number (map titled_text its)
items_are number [] = refl
items_are number (it ∷ its) = ap (λ (rest : List ℕ). item_read number (titled_text it) ++ rest) (items_are (number + 1) its)

abbrev section_read : List (List ℕ × Summary) → List ℕ
section_read [] = []
section_read (it ∷ its) = codes "</section>\n"

section_is : (its : List Titled) → section_end its ≡ section_read (map titled_text its)
section_is [] = refl
section_is (it ∷ its) = refl

page_end_same : (s u : List Titled) (e f : Ending) → map titled_text s ≡ map titled_text u →
    stop_text e.ended e.line e.message.items ≡ stop_text f.ended f.line f.message.items →
    page_end s e.ended e.line e.message.items ≡ page_end u f.ended f.line f.message.items
page_end_same s u e f same said =
    let sections : section_end s ≡ section_end u = section_is s ∙ ap section_read same ∙ sym (section_is u) in
    let items : items_from 1 s ≡ items_from 1 u = items_are 1 s ∙ ap (items_read 1) same ∙ sym (items_are 1 u) in
    λ i. sections i ++ said i ++ list_head ++ items i ++ page_foot

-- ---- bytes

still : (a c : Bytes) (bytes : List ℕ) → a ≡ Some bytes → Keeps a c → c ≡ Some bytes
still a c bytes e h = go c (subst (λ (o : Bytes). Keeps o c) e h)
  where
    go : (o : Bytes) → Keeps (Some bytes) o → o ≡ Some bytes
    go None g = absurd g
    go (Some all) g = λ i. Some (g i)

kept_same : (a b c d : Bytes) → HaveSame a b → Keeps a c → Keeps b d → HaveSame c d
kept_same a b c d same h g = (same.0, still a c same.0 same.1 h, still b d same.0 same.2 g)

-- ---- how a run ended

-- at the end of the input or at a bad line, the whole page was written
whole_end : (ended result : Result Unit Stop) (text : List ℕ) (written closed : Bytes) → WritesEnd ended text result written closed → result ≢ Err WriteFault → (result ≡ ended) × Appends written closed text
whole_end (Ok done) result text written closed (inl h) out = absurd (out h.0)
whole_end (Ok done) result text written closed (inr h) out = h
whole_end (Err stop.BadLine) result text written closed (inl h) out = absurd (out h.0)
whole_end (Err stop.BadLine) result text written closed (inr h) out = h
whole_end (Err stop.ReadFault) result text written closed (inl h) out = absurd (out h.0)
whole_end (Err stop.ReadFault) result text written closed (inr h) out = h
whole_end (Err stop.Memory) result text written closed (inl h) out = absurd (out h.0)
whole_end (Err stop.Memory) result text written closed (inr h) out = h
whole_end (Err stop.WriteFault) result text written closed h out = absurd (out h.0)

whole_page : (states : List Titled) (ending : Ending) (result : Result Unit Stop) (written closed told told_after : Bytes) (status : ℕ) → status ≤ 2 →
    EndsPage states ending result written closed → Tells told told_after (told_text result ending.line ending.message.items) (status_at_end result) status →
    Appends written closed (page_end states ending.ended ending.line ending.message.items)
    × Appends told told_after (told_text ending.ended ending.line ending.message.items) × (status ≡ status_at_end ending.ended)
whole_page states ending result written closed told told_after status small ends (inr failed) = absurd (omega arith)
whole_page states ending result written closed told told_after status small ends (inl h) =
    let out : result ≢ Err WriteFault = λ failed. let three : status ≡ 3 = h.0 ∙ ap status_at_end failed in absurd (omega arith) in
    let k = whole_end ending.ended result (page_end states ending.ended ending.line ending.message.items) written closed ends out in (
      k.1,
      subst (λ (r : Result Unit Stop). Appends told told_after (told_text r ending.line ending.message.items)) k.0 h.1,
      h.0 ∙ ap status_at_end k.0,
    )

no_memory : (played : Played) (ending : Ending) → EndsAs played ending → played.ended ≡ Err Memory → ending.ended ≡ Err Memory
no_memory played ending h e = (subst (λ (r : Result Unit Stop). EndsBy r played ending) e h).1 ∙ e

no_output : (played : Played) (ending : Ending) → EndsAs played ending → played.ended ≡ Err WriteFault → ending.ended ≡ Err WriteFault
no_output played ending h e = (subst (λ (r : Result Unit Stop). EndsBy r played ending) e h).1 ∙ e

-- ---- the turns of a run

module _ (input head after told_before told_after : Bytes) (status : ℕ) (small : status ≤ 2) (h : PagesFrom input head after told_before told_after status) where
  abbrev begun : Shown
  begun = shown_of 0 [] h.unshown head told_before

  written : Appends h.end.0.written h.closed (page_end h.end.0.states h.ending.ended h.ending.line h.ending.message.items)
      × Appends h.end.1 told_after (told_text h.ending.ended h.ending.line h.ending.message.items) × (status ≡ status_at_end h.ending.ended)
  written = whole_page h.end.0.states h.ending h.result h.end.0.written h.closed h.end.1 told_after status small h.ends h.tells

  with_memory : h.played.ended ≢ Err Memory
  with_memory e = let four : status ≡ 4 = written.2 ∙ ap status_at_end (no_memory h.played h.ending h.ends_as e) in absurd (omega arith)

  with_output : h.played.ended ≢ Err WriteFault
  with_output e = let three : status ≡ 3 = written.2 ∙ ap status_at_end (no_output h.played h.ending h.ends_as e) in absurd (omega arith)

  shown : FoldsTo ShowsTaken begun h.turns h.end
  shown =
      let went = played_through (start_of input) (no_tree, (begun, [])) (h.stage, (h.end, h.turns)) h.commands h.played.ended h.played.number with_memory with_output h.plays in
      subst (λ (turns : List TurnTaken). FoldsTo ShowsTaken begun turns h.end) (sym went.1) went.2

-- ---- two runs

nothing_kept : (a b : Kept) → IsEmpty a → IsEmpty b → KeepAlike a b
nothing_kept a b none empty id = ap (option_map last_text) (ap (lookup (is_at (full_cmp id))) (none ∙ sym empty))

pub typing_writes_the_same_page : TypingWritesTheSamePage
typing_writes_the_same_page p one two alike =
    let h = one.writes.pages in
    let g = two.writes.pages in
    let head = one.writes.head in
    let top = two.writes.head in
    let heads = appended one.before two.before head top page_head page_head refl alike.before one.writes.begins two.writes.begins in
    let start : ShownAlike (shown_of 0 [] h.unshown head one.told_before) (shown_of 0 [] g.unshown top two.told_before) =
    (record { updates = refl; states = refl; kept = nothing_kept h.unshown g.unshown h.nothing g.nothing; written = heads }, alike.told_before) in
    let first = shown one.input head one.after one.told_before one.told_after one.status alike.status h in
    let second = shown two.input top two.after two.told_before two.told_after two.status alike.other_status g in
    let pages = typing_makes_the_same_page p h.turns g.turns alike.turns (shown_of 0 [] h.unshown head one.told_before) h.end (shown_of 0 [] g.unshown top two.told_before) g.end start first second in
    let mine = written one.input head one.after one.told_before one.told_after one.status alike.status h in
    let others = written two.input top two.after two.told_before two.told_after two.status alike.other_status g in
    let closed = appended h.end.0.written g.end.0.written h.closed g.closed (page_end h.end.0.states h.ending.ended h.ending.line h.ending.message.items)
    (page_end g.end.0.states g.ending.ended g.ending.line g.ending.message.items) (page_end_same h.end.0.states g.end.0.states h.ending g.ending pages.0.states alike.ending.said) pages.0.written mine.0 others.0 in (
      kept_same h.closed g.closed one.after two.after closed h.kept g.kept,
      appended h.end.1 g.end.1 one.told_after two.told_after (told_text h.ending.ended h.ending.line h.ending.message.items) (told_text g.ending.ended g.ending.line g.ending.message.items) alike.ending.told pages.1 mine.1 others.1,
      mine.2 ∙ ap status_at_end alike.ending.ended ∙ sym others.2,
    )
