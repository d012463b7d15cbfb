-- What is noted of the trees that a script has after its updates.
use Rattle.std.specs.Prelude.{◌≡◌, ◌⊎◌, ℕ, Bool, true, false, ◌||◌, ◌==◌, List, [], ◌++◌, codes, length, Option, Some, None, Result, Ok, Err, if◌then◌else◌}
use Rattle.std.specs.Fmt.{decimal}
use Rattle.std.specs.Str.{bytes_eq}
use Rattle.model.specs.World.{World}
use Rattle.script_words.specs.declared.stops.Stop.{Stop}
use Rattle.script_words.specs.declared.stops.Stop.TheVariants.{Memory}
use Rattle.session.specs.declared.commands.Command.{Command}
use Rattle.session.specs.declared.commands.Command.TheVariants as command
use Rattle.atree_script.specs.Played.{Bytes}
use Rattle.atree_script.specs.Playing.{Turn, Begun, FirstRefused, Ran, Asked, Printed}
use Rattle.atree_script.specs.Reports.{Reports}
use Rattle.find.specs.Found.{found_in, is_enough}
use Rattle.find.specs.Told.{told_in}
use Rattle.find.specs.Wanted.{sought_of}
use Rattle.find.specs.declared.noting.Notes.{Notes}
use Rattle.find.specs.declared.wanted.Wanted.{Wanted}
use Rattle.find.specs.declared.wanted.When.{When}
use Rattle.find.specs.declared.wanted.When.TheVariants.{AtEnd, After, Each}

-- ---- of one tree, or where there is none

-- what is told of it, with the nodes that come near or without
abbrev pub text_of : Bool → Wanted → Option World → List ℕ
text_of near wanted None = codes "no tree\n"
text_of near wanted (Some w) = told_in near (sought_of wanted) w

abbrev pub answer_text : Wanted → Option World → List ℕ
answer_text = text_of true

-- the nodes that are found alone, or that none is
abbrev pub found_text : Wanted → Option World → List ℕ
found_text = text_of false

-- whether as many are found as are asked for
abbrev pub is_answered : Wanted → Option World → Bool
is_answered wanted None = false
is_answered wanted (Some w) = is_enough wanted.any_number (length (found_in (sought_of wanted) w))

-- ---- of the updates so far

-- what is to be printed, what was found after the last one, and whether as many as are asked for were found after one that was searched
pub record Noted : Type 0 where
  pub text : List ℕ
  pub found : List ℕ
  pub enough : Bool

abbrev pub noted_of : Notes → Noted
noted_of notes = record { text = notes.text.items; found = notes.found.items; enough = notes.is_enough }

abbrev pub nothing_noted : Noted
nothing_noted = record { text = []; found = []; enough = false }

-- the answer after an update, below its number
abbrev pub numbered : ℕ → List ℕ → List ℕ
numbered number answer = codes "update " ++ decimal number ++ codes ":\n" ++ answer

-- the answer, if the update is the one that is asked for
abbrev pub one_noted : Bool → Wanted → Option World → Noted → Noted
one_noted is wanted tree so_far =
    if is then record so_far { text = so_far.text ++ answer_text wanted tree; enough = is_answered wanted tree } else so_far

-- the answer, unless the same is found as after the update before
abbrev pub each_noted : Wanted → ℕ → Option World → Noted → Noted
each_noted wanted number tree so_far =
    record {
      text = so_far.text ++ (if bytes_eq (found_text wanted tree) so_far.found then [] else numbered number (answer_text wanted tree));
      found = found_text wanted tree;
      enough = so_far.enough || is_answered wanted tree;
    }

abbrev pub noted_when : When → Wanted → ℕ → Option World → Noted → Noted
noted_when AtEnd wanted number tree so_far = so_far
noted_when (After last) wanted number tree so_far = one_noted (number == last) wanted tree so_far
noted_when Each wanted number tree so_far = each_noted wanted number tree so_far

-- of the tree after an update with this number, if this is one
abbrev pub noted_after : Wanted → ℕ → Option (Option World) → Noted → Noted
noted_after wanted number None so_far = so_far
noted_after wanted number (Some tree) so_far = noted_when wanted.when wanted number tree so_far

-- ---- turns

abbrev pub is_update : Command → Bool
is_update (command.Update u) = true
is_update c = false

-- the tree after a turn that is an update: the first one may be refused, and there is none then
abbrev pub tree_after : Turn → Option (Option World)
tree_after (Begun comment w) = Some (Some w)
tree_after (FirstRefused comment line why) = Some None
tree_after (Ran comment line old c new) = if is_update c then Some (Some new) else None
tree_after (Asked old q new) = None
tree_after (Printed w) = None

-- a script as far as it is read: what is wanted, the number of updates, the bytes reported, and what is noted
pub record Seen : Type 0 where
  pub wanted : Wanted
  pub updates : ℕ
  pub reported : Bytes
  pub noted : Noted

-- a turn is reported as of any script, with this result
abbrev pub ReportsTurn : Seen → Turn → Result Unit Stop → Seen → Type 0
ReportsTurn s turn result t = (t.wanted ≡ s.wanted) × Reports (s.updates, s.reported) turn result (t.updates, t.reported)

-- and then noted, unless memory runs out
abbrev pub NotesTurn : Seen → Turn → Result Unit Stop → Seen → Type 0
NotesTurn s turn (Ok done) t = ReportsTurn s turn (Ok tt) t × (t.noted ≡ noted_after s.wanted t.updates (tree_after turn) s.noted)
NotesTurn s turn (Err stop) t = ReportsTurn s turn (Err stop) t ⊎ (ReportsTurn s turn (Ok tt) t × (stop ≡ Memory))
