-- The turns of a script, as a page takes them.
use Rattle.std.specs.Prelude.{◌≡◌, List, [], ◌∷◌, ◌++◌, map, MatchResult, Result, Ok}
use Rattle.atree_script.specs.Playing.{Turn}
use Rattle.script_words.specs.declared.stops.Stop.{Stop}
use Rattle.page.specs.declared.sections.Outcome.{Outcome}
use Rattle.page.specs.Shown.{Shown, Shows}

-- what came of each state
abbrev pub outcomes : Shown → List Outcome
outcomes s = map (λ it. it.summary.outcome) s.0.states

-- a turn, and what came of the state that it makes, if it makes one
abbrev pub TurnTaken : Type 0
TurnTaken = Turn × List Outcome

-- it is shown so, and the script goes on
abbrev pub ShowsTaken : Shown → TurnTaken → Shown → Type 0
ShowsTaken s turn t = Shows s turn.0 (Ok tt) t × (outcomes t ≡ outcomes s ++ turn.1)

-- a page while it is written, and the turns that were taken so far
abbrev pub Taken : Type 0
Taken = Shown × List TurnTaken

-- a turn is shown: it is one more that was taken, with what came of it, or it stops the script
abbrev pub Takes : Taken → Turn → Result Unit Stop → Taken → Type 0
Takes s turn result t =
    Shows s.0 turn result t.0
    × MatchResult result (λ _. (came : List Outcome) × (outcomes t.0 ≡ outcomes s.0 ++ came) × (t.1 ≡ s.1 ++ (turn, came) ∷ []))
    (λ stop. t.1 ≡ s.1)
