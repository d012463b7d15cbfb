-- How a reader goes from one place to the next.
use Rattle.std.proofs.Common.{◌≡◌, ◌≢◌, ℕ, List, [], ◌∷◌, ◌++◌, Option, Some, None, Result, Ok, Err, IfSome, MatchOption, inl, inr, option_map, refl, sym, ap, ap₂, subst, ◌∙◌}
use Rattle.std.proofs.lemmas.Option.{none-some}
use Rattle.std.specs.Io.BufRead.{DropsThrough, drop_through, take_through}
use Rattle.std.specs.Result.{IsErrAnd}
use Rattle.schema.specs.UpdateData.{UpdateData}
use Rattle.script_lines.specs.Commands.{Said, said}
use Rattle.script_lines.specs.Comments.{comment_after}
use Rattle.script_lines.specs.InputLines.{ReadsNext, next_number, without_end}
use Rattle.script_words.specs.Reading.{Reads}
use Rattle.script_lines.specs.ScriptReading.{GoesTo, IsPlace, Passes, PassesLines, Place, Steps, place}
use Rattle.script_lines.specs.Taking.{Taken, TakesAs, begun_of, comment_of, number_of, taken}
use Rattle.script_lines.specs.declared.lines.Line.{Line}
use Rattle.script_lines.specs.declared.lines.Line.TheVariants as says
use Rattle.script_lines.specs.declared.reader.ScriptCommand.{ScriptCommand}
use Rattle.script_lines.specs.declared.reader.ScriptReader.{ScriptReader}
use Rattle.script_words.specs.declared.stops.Stop.{Stop}
use Rattle.script_words.specs.declared.stops.Stop.TheVariants.{BadLine, Memory, ReadFault, WriteFault}

pub passes_none : (at : Place) → PassesLines at at
unfolding Passes
passes_none at = ([], refl)

passes_one_more : (before : Place) (lines : List Line) (mid next : Place) (line : Line) → Passes before lines mid → Steps mid line None next → Passes before (lines ++ line ∷ []) next
unfolding Passes
passes_one_more before [] mid next line p s = (next, subst (λ m. Steps m line None next) p s, refl)
passes_one_more before (first ∷ others) mid next line p s = (p.0, p.1, passes_one_more p.0 others mid next line p.2 s)

pub passes_more : (before mid next : Place) (line : Line) → PassesLines before mid → Steps mid line None next → PassesLines before next
passes_more before mid next line p s = (p.0 ++ line ∷ [], passes_one_more before p.0 mid next line p.1 s)

-- ---- what a reader answers to a line, read the other way

abbrev some_taken : Option Said → Option UpdateData → Option Taken
some_taken given begun = Some (record { gives = given; begun = begun })

pub took : (o : Option Taken) (r : Result (Option ScriptCommand) Stop) (begun : Option UpdateData) (command : Option ScriptCommand) → TakesAs o r begun → r ≡ Ok command → o ≡ Some (record { gives = option_map said command; begun = begun })
took None r begun command h e = let wrong : Ok command ≡ Err BadLine = sym e ∙ h in cc
took (Some t) r begun command h e = let k = subst (λ x. Reads x (λ c. (option_map said c ≡ t.gives) × (begun ≡ t.begun))) e h in ap₂ some_taken (sym k.0) (sym k.1)

pub took_none : (o : Option Taken) (r : Result (Option ScriptCommand) Stop) (begun : Option UpdateData) → TakesAs o r begun → r ≡ Err BadLine → o ≡ None
took_none None r begun h e = refl
took_none (Some t) r begun h e = let wrong : BadLine ≡ Memory = subst (λ x. Reads x (λ c. (option_map said c ≡ t.gives) × (begun ≡ t.begun))) e h in cc

-- a line that gives a command ends the update, if one is begun
abbrev EndsUpdate : Option Taken → Type 0
EndsUpdate o = IfSome o (λ t. IfSome t.gives (λ command. t.begun ≡ None))

ends_update : (begun : Option UpdateData) (line : Line) → EndsUpdate (taken begun line)
ends_update None says.Nothing = tt
ends_update None (says.Update update) = tt
ends_update None (says.Node id n) = tt
ends_update None says.End = tt
ends_update None (says.HostFocus is_focused) = refl
ends_update None says.Print = refl
ends_update None (says.Query q) = refl
ends_update (Some u) says.Nothing = tt
ends_update (Some u) (says.Update update) = tt
ends_update (Some u) (says.Node id n) = tt
ends_update (Some u) says.End = refl
ends_update (Some u) (says.HostFocus is_focused) = tt
ends_update (Some u) says.Print = tt
ends_update (Some u) (says.Query q) = tt

pub comes_whole : (begun : Option UpdateData) (line : Line) (command : Said) (after : Option UpdateData) → taken begun line ≡ Some (record { gives = Some command; begun = after }) → after ≡ None
comes_whole begun line command after e = subst EndsUpdate e (ends_update begun line)

-- ---- a reader with what its input has left

-- where the bytes were known as the reader began, it has passed lines since then, and is before those that are left
abbrev pub IsAt : Option (List ℕ) → ScriptReader → Option (List ℕ) → ScriptReader → Type 0
IsAt before first left reader = IfSome before (λ bytes. (xs : List ℕ) × (left ≡ Some xs) × PassesLines (place first bytes) (place reader xs))

pub at_first : (before : Option (List ℕ)) (first : ScriptReader) → IsAt before first before first
at_first None first = tt
at_first (Some bytes) first = (bytes, refl, passes_none (place first bytes))

-- what a reader answers, as its contract has it
abbrev pub Answers : Option (List ℕ) → ScriptReader → Result (Option ScriptCommand) Stop → ScriptReader → Option (List ℕ) → Type 0
Answers before first result reader left = IfSome before (λ bytes. (next : Place) × GoesTo (place first bytes) result next × IsPlace next result reader left)

pub err_is : {T : Type 0} (result : Result T Stop) (stop : Stop) → IsErrAnd result (λ s. s ≡ stop) → result ≡ Err stop
err_is (Ok x) stop h = absurd h
err_is (Err s) stop h = ap Err h

module _ (before : Option (List ℕ)) (first : ScriptReader) (left after : Option (List ℕ)) (reader next : ScriptReader) (is_at : IsAt before first left reader) where
  -- what the next line is to the comment, where the reader has its bytes
  abbrev Notes : List ℕ → Type 0
  Notes line = comment_of next ≡ comment_after (begun_of reader) (comment_of reader) (without_end line)

  -- the next line is read and taken
  stepped : (xs : List ℕ) (line : Line) (given : Option Said) → left ≡ Some xs → IfSome left (λ bytes. ReadsNext bytes (Ok (Some line))) → DropsThrough left after 10 → number_of next ≡ next_number (number_of reader)
      → Notes (take_through 10 xs) → taken (begun_of reader) line ≡ Some (record { gives = given; begun = begun_of next }) → (after ≡ Some (drop_through 10 xs)) × Steps (place reader xs) line given (place next (drop_through 10 xs))
  stepped xs line given e reads drops number notes takes =
      let k = subst (λ o. IfSome o (λ bytes. ReadsNext bytes (Ok (Some line)))) e reads in
      (subst (λ o. DropsThrough o after 10) e drops, record { some = k.0; reads = k.1; takes = takes; left = refl; comment = notes; number = number })

  noted : (xs : List ℕ) → left ≡ Some xs → IfSome left (λ bytes. Notes (take_through 10 bytes)) → Notes (take_through 10 xs)
  noted xs e notes = subst (λ o. IfSome o (λ bytes. Notes (take_through 10 bytes))) e notes

  pub went_on : (line : Line) → IfSome left (λ bytes. ReadsNext bytes (Ok (Some line))) → DropsThrough left after 10 → number_of next ≡ next_number (number_of reader) → IfSome left (λ bytes. Notes (take_through 10 bytes)) → taken (begun_of reader) line ≡ Some (record { gives = None; begun = begun_of next }) → IsAt before first after next
  went_on line reads drops number notes takes = known before is_at
    where
      known : (o : Option (List ℕ)) → IsAt o first left reader → IsAt o first after next
      known None at = tt
      known (Some bytes) at = let s = stepped at.0 line None at.1 reads drops number (noted at.0 at.1 notes) takes in (drop_through 10 at.0, s.0, passes_more (place first bytes) (place reader at.0) (place next (drop_through 10 at.0)) line at.2 s.1)

  pub gave : (line : Line) (command : ScriptCommand) → IfSome left (λ bytes. ReadsNext bytes (Ok (Some line))) → DropsThrough left after 10 → number_of next ≡ next_number (number_of reader) → IfSome left (λ bytes. Notes (take_through 10 bytes))
      → taken (begun_of reader) line ≡ Some (record { gives = Some (said command); begun = begun_of next })
      → Answers before first (Ok (Some command)) next after
  gave line command reads drops number notes takes = known before is_at
    where
      known : (o : Option (List ℕ)) → IsAt o first left reader → Answers o first (Ok (Some command)) next after
      known None at = tt
      known (Some bytes) at = let s = stepped at.0 line (Some (said command)) at.1 reads drops number (noted at.0 at.1 notes) takes in (place next (drop_through 10 at.0), (place reader at.0, line, at.2, s.1), (refl, (refl, s.0, refl)))

  -- the input has ended
  pub ended_well : IfSome left (λ bytes. ReadsNext bytes (Ok None)) → DropsThrough left after 10 → number_of next ≡ number_of reader → begun_of next ≡ begun_of reader → comment_of next ≡ comment_of reader → begun_of reader ≡ None → Answers before first (Ok None) next after
  ended_well reads drops number same heard none = known before is_at
    where
      known : (o : Option (List ℕ)) → IsAt o first left reader → Answers o first (Ok None) next after
      known None at = tt
      known (Some bytes) at =
          let end : at.0 ≡ [] = subst (λ o. IfSome o (λ bytes. ReadsNext bytes (Ok None))) at.1 reads in
          (place reader at.0, (at.2, end, none), (number, (same, subst (λ o. DropsThrough o after 10) at.1 drops ∙ ap (λ xs. Some (drop_through 10 xs)) end ∙ ap Some (sym end), heard)))

  pub ended_inside : IfSome left (λ bytes. ReadsNext bytes (Ok None)) → number_of next ≡ number_of reader → begun_of reader ≢ None → Answers before first (Err BadLine) next after
  ended_inside reads number some = known before is_at
    where
      known : (o : Option (List ℕ)) → IsAt o first left reader → Answers o first (Err BadLine) next after
      known None at = tt
      known (Some bytes) at = (place next at.0, (place reader at.0, at.2, inl (subst (λ o. IfSome o (λ bytes. ReadsNext bytes (Ok None))) at.1 reads, some, number)), (refl, tt))

  -- as `end` has it
  pub ended : (result : Result (Option ScriptCommand) Stop) → IfSome left (λ bytes. ReadsNext bytes (Ok None)) → DropsThrough left after 10 → number_of next ≡ number_of reader → begun_of next ≡ begun_of reader → comment_of next ≡ comment_of reader
      → MatchOption (begun_of reader) (result ≡ Ok None) (λ u. result ≡ Err BadLine) → Answers before first result next after
  ended result reads drops number same heard h = of (begun_of reader) refl h
    where
      of : (b : Option UpdateData) → b ≡ begun_of reader → MatchOption b (result ≡ Ok None) (λ u. result ≡ Err BadLine) → Answers before first result next after
      of None e k = subst (λ (r : Result (Option ScriptCommand) Stop). Answers before first r next after) (sym k) (ended_well reads drops number same heard (sym e))
      of (Some u) e k = subst (λ (r : Result (Option ScriptCommand) Stop). Answers before first r next after) (sym k) (ended_inside reads number (λ n. none-some u (sym n ∙ sym e)))

  -- the reading is stopped, though no line is bad
  stopped : (stop : Stop) → stop ≢ BadLine → (o : Option (List ℕ)) → Answers o first (Err stop) next after
  stopped stop other None = tt
  stopped BadLine other (Some bytes) = absurd (other refl)
  stopped Memory other (Some bytes) = (place next [], tt, (refl, tt))
  stopped ReadFault other (Some bytes) = (place next [], tt, (refl, tt))
  stopped WriteFault other (Some bytes) = (place next [], tt, (refl, tt))

  pub given_up : Answers before first (Err ReadFault) next after
  given_up = stopped ReadFault (λ e. cc) before

  -- memory runs out for the comment
  pub no_memory : Answers before first (Err Memory) next after
  no_memory = stopped Memory (λ e. cc) before

  -- the next line is bad, or the reading is stopped
  pub stopped_at : (stop : Stop) → IfSome left (λ bytes. ReadsNext bytes (Err stop)) → (stop ≡ BadLine → number_of next ≡ next_number (number_of reader)) → Answers before first (Err stop) next after
  stopped_at stop reads number = known before is_at
    where
      bad : (s : Stop) (bytes : List ℕ) → IsAt (Some bytes) first left reader → IfSome left (λ bytes. ReadsNext bytes (Err s)) → (s ≡ BadLine → number_of next ≡ next_number (number_of reader)) → Answers (Some bytes) first (Err s) next after
      bad BadLine bytes at r n = let k = subst (λ o. IfSome o (λ bytes. ReadsNext bytes (Err BadLine))) at.1 r refl in (place next at.0, (place reader at.0, at.2, inr (k.0, n refl, inl k.1)), (refl, tt))
      bad Memory bytes at r n = stopped Memory (λ e. cc) (Some bytes)
      bad ReadFault bytes at r n = stopped ReadFault (λ e. cc) (Some bytes)
      bad WriteFault bytes at r n = stopped WriteFault (λ e. cc) (Some bytes)

      known : (o : Option (List ℕ)) → IsAt o first left reader → Answers o first (Err stop) next after
      known None at = tt
      known (Some bytes) at = bad stop bytes at reads number

  -- the next line is out of place, or there is no memory for it
  pub refused : (line : Line) (stop : Stop) → IfSome left (λ bytes. ReadsNext bytes (Ok (Some line))) → number_of next ≡ next_number (number_of reader) → TakesAs (taken (begun_of reader) line) (Err stop) (begun_of next) → Answers before first (Err stop) next after
  refused line stop reads number takes = known before is_at
    where
      out : (s : Stop) (bytes : List ℕ) → IsAt (Some bytes) first left reader → TakesAs (taken (begun_of reader) line) (Err s) (begun_of next) → Answers (Some bytes) first (Err s) next after
      out BadLine bytes at t =
          let k = subst (λ o. IfSome o (λ bytes. ReadsNext bytes (Ok (Some line)))) at.1 reads in
          (place next at.0, (place reader at.0, at.2, inr (k.0, number, inr (line, k.1, took_none (taken (begun_of reader) line) (Err BadLine) (begun_of next) t refl))), (refl, tt))
      out Memory bytes at t = stopped Memory (λ e. cc) (Some bytes)
      out ReadFault bytes at t = stopped ReadFault (λ e. cc) (Some bytes)
      out WriteFault bytes at t = stopped WriteFault (λ e. cc) (Some bytes)

      known : (o : Option (List ℕ)) → IsAt o first left reader → Answers o first (Err stop) next after
      known None at = tt
      known (Some bytes) at = out stop bytes at takes
