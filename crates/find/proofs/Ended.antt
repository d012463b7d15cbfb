-- The end of a script that is read.
use Rattle.std.proofs.Common.{◌≡◌, ℕ, Option, refl, sym, subst}
use Rattle.std.specs.Prelude.{MatchResult, Result, Ok, Err}
use Rattle.model.specs.World.{World}
use Rattle.script_lines.specs.Ends.{TellsStop}
use Rattle.script_words.specs.declared.stops.Stop.{Stop}
use Rattle.atree_script.specs.Played.{Bytes}
use Rattle.find.specs.Finding.{Answers, FindsInScript}
use Rattle.find.specs.Noted.{Seen}
use Rattle.find.specs.Reading.{ReadsNoted, seen_of}
use Rattle.find.specs.declared.reading.Read.{Read}
use Rattle.find.specs.declared.wanted.Wanted.{Wanted}

module _ (wanted : Wanted) (input before : Bytes) where
  -- to its end: its answer is that of what is seen there
  pub given_well : (after told reported told_after : Bytes) (status : ℕ) (read : Read) → ReadsNoted wanted input told reported (Ok read) →
      Answers read.session (seen_of wanted read.updates reported read.notes) before after told_after status → FindsInScript wanted input before after told told_after status
  given_well after told reported told_after status read reads answers =
      let answered : Answers reads.end.0.world reads.end.1 before after told_after status =
      subst (λ (tree : Option World). Answers tree reads.end.1 before after told_after status) reads.gives.1.0
      (subst (λ (seen : Seen). Answers read.session seen before after told_after status) reads.gives.1.1 answers) in
      record {
        commands = reads.commands;
        ended = reads.ended;
        script = reads.script;
        end = reads.end;
        plays = reads.plays;
        gives = subst (λ (ended : Result Unit Stop). MatchResult ended
            (λ done. Answers reads.end.0.world reads.end.1 before after told_after status)
            (λ stop. TellsStop reads.script stop reads.end.1.reported told_after status × (after ≡ before))) (sym reads.gives.0) answered;
      }

  -- up to what stopped it
  pub given_badly : (told told_after : Bytes) (status : ℕ) → ReadsNoted wanted input told told_after (Err status) → FindsInScript wanted input before before told told_after status
  given_badly told told_after status reads = record {
    commands = reads.commands;
    ended = reads.ended;
    script = reads.script;
    end = reads.end;
    plays = reads.plays;
    gives = subst (λ (ended : Result Unit Stop). MatchResult ended
        (λ done. Answers reads.end.0.world reads.end.1 before before told_after status)
        (λ stop. TellsStop reads.script stop reads.end.1.reported told_after status × (before ≡ before))) (sym reads.gives.1) (reads.gives.2, refl);
  }
