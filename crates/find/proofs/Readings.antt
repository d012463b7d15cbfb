-- Scripts that are read, and what is noted of their turns.
use Rattle.std.proofs.Common.{◌≡◌, ℕ, Bool, false, List, [], Option, inl, inr, refl, sym, ap, subst, ◌∙◌}
use Rattle.std.specs.Prelude.{OnOk, IfErr, Result, Ok, Err}
use Rattle.model.specs.World.{World}
use Rattle.script_lines.specs.Ends.{TellsStop}
use Rattle.script_lines.specs.Taking.{number_of}
use Rattle.script_words.specs.declared.stops.Stop.{Stop}
use Rattle.script_words.specs.declared.stops.Stop.TheVariants.{Memory}
use Rattle.atree_script.specs.Input.{start_of}
use Rattle.atree_script.specs.Played.{Bytes, PlaysOut}
use Rattle.atree_script.specs.Playing.{Turn, Stage, no_tree, Plays}
use Rattle.atree_script.specs.declared.playing.Played.{Played}
use Rattle.atree_script.proofs.Plays.{plays_to_last, kept_out}
use Rattle.find.specs.Finding.{nothing_seen}
use Rattle.find.specs.Noted.{Seen, NotesTurn, ReportsTurn, noted_after, tree_after}
use Rattle.find.specs.Reading.{ReadsNoted, seen_of}
use Rattle.find.specs.declared.noting.Notes.{Notes}
use Rattle.find.specs.declared.reading.Read.{Read}
use Rattle.find.specs.declared.wanted.Wanted.{Wanted}

-- ---- a turn

-- what is wanted stays
wanted_kept : (s : Seen) (turn : Turn) (r : Result Unit Stop) (t : Seen) → NotesTurn s turn r t → t.wanted ≡ s.wanted
wanted_kept s turn (Ok done) t h = h.0.0
wanted_kept s turn (Err stop) t (inl h) = h.0
wanted_kept s turn (Err stop) t (inr h) = h.0.0

-- one that is reported well, and then noted unless memory runs out
pub turn_noted : (s : Seen) (turn : Turn) (r : Result Unit Stop) (t : Seen) → ReportsTurn s turn (Ok tt) t →
    OnOk r (t.noted ≡ noted_after s.wanted t.updates (tree_after turn) s.noted) → IfErr r (λ stop. stop ≡ Memory) → NotesTurn s turn r t
turn_noted s turn (Ok done) t reported noted stopped = (reported, noted)
turn_noted s turn (Err stop) t reported noted stopped = inr (reported, stopped)

-- ---- a whole script

-- nothing is seen at first
pub begun : (wanted : Wanted) (before : Bytes) (notes : Notes) → notes.text.items ≡ [] → notes.found.items ≡ [] → notes.is_enough ≡ false → seen_of wanted 0 before notes ≡ nothing_seen wanted before
begun wanted before notes text found enough i = record { wanted = wanted; updates = 0; reported = before; noted = record { text = text i; found = found i; enough = enough i } }

module _ (wanted : Wanted) (input before after : Bytes) (start : Seen) (played : Played) (end : Seen) (h : PlaysOut NotesTurn input start played end) (is_start : start ≡ nothing_seen wanted before) where
  abbrev stage : Stage
  stage = record { world = played.session; host = h.host }

  whole : Plays NotesTurn (start_of input) (no_tree, nothing_seen wanted before) h.commands played.ended (number_of played.script) (stage, end)
  whole = subst (λ (s : Seen). Plays NotesTurn (start_of input) (no_tree, s) h.commands played.ended (number_of played.script) (stage, end)) is_start (plays_to_last NotesTurn input start played end h)

  same_wanted : end.wanted ≡ wanted
  same_wanted = kept_out NotesTurn input start played end h (λ (s : Seen). s.wanted) wanted_kept ∙ ap (λ (s : Seen). s.wanted) is_start

  -- it is read to its end
  pub reads_well : (read : Read) → played.ended ≡ Ok tt → read.session ≡ played.session → seen_of end.wanted read.updates after read.notes ≡ end → ReadsNoted wanted input before after (Ok read)
  reads_well read ended tree seen = record {
    commands = h.commands;
    ended = played.ended;
    script = played.script;
    end = (stage, end);
    plays = whole;
    gives = (ended, (tree, ap (λ (it : Wanted). seen_of it read.updates after read.notes) (sym same_wanted) ∙ seen));
  }

  -- or up to what stops it
  pub reads_badly : (stop : Stop) (status : ℕ) → played.ended ≡ Err stop → TellsStop played.script stop end.reported after status → ReadsNoted wanted input before after (Err status)
  reads_badly stop status ended told = record {
    commands = h.commands;
    ended = played.ended;
    script = played.script;
    end = (stage, end);
    plays = whole;
    gives = (stop, ended, told);
  }
