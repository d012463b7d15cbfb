use Rattle.std.proofs.Common.{false, refl, sym, ap, subst}
use Rattle.script_lines.specs.Ends.{TellsStop}
use Rattle.find.specs.Noted.{Seen}
use Rattle.find.specs.Reading.{seen_of}
use Rattle.find.specs.declared.noting.Notes.{Notes}
use Rattle.find.proofs.Readings.{begun, reads_well, reads_badly}
use Rattle.find.proofs.reading.read_noted.Goals as goal

pub returns-in-Ok-clause-reads : goal.returns-in-Ok-clause-reads
returns-in-Ok-clause-reads g c =
    let wanted = c.args.wanted.now in
    let told = g.E.Write.contents c.args.errors.now in
    let notes : Notes = record { text = c.new.result; found = c.new-2.result; is_enough = false } in
    let reader = c.play_noted-played.new.reader in
    let end : Seen = seen_of reader.wanted.now reader.updates (g.E.Write.contents reader.errors.now) reader.notes in
    reads_well wanted (g.R.Read.remaining c.args.input.now) told _ (seen_of wanted 0 told notes) c.play_noted-played.result end c.play_noted-played.ensures.plays
    (begun wanted told notes c.new.ensures.items c.new-2.ensures.items refl) _ c.in-Ok.is refl
    (ap (λ bytes. seen_of reader.wanted.now reader.updates bytes reader.notes) (ap g.E.Write.contents (c.errors-1.given.1 (sym c.play_noted-played.ensures.errors))))

pub returns-in-Err-clause-reads : goal.returns-in-Err-clause-reads
returns-in-Err-clause-reads g c =
    let wanted = c.args.wanted.now in
    let told = g.E.Write.contents c.args.errors.now in
    let notes : Notes = record { text = c.new.result; found = c.new-2.result; is_enough = false } in
    let reader = c.play_noted-played.new.reader in
    let end : Seen = seen_of reader.wanted.now reader.updates (g.E.Write.contents reader.errors.now) reader.notes in
    reads_badly wanted (g.R.Read.remaining c.args.input.now) told _ (seen_of wanted 0 told notes) c.play_noted-played.result end c.play_noted-played.ensures.plays
    (begun wanted told notes c.new.ensures.items c.new-2.ensures.items refl) c.in-Err.stop _ c.in-Err.is
    (subst (λ x. TellsStop c.play_noted-played.result.script c.in-Err.stop (g.E.Write.contents x) (g.E.Write.contents c.tell_script_stop.new.errors) c.tell_script_stop.result) (c.errors-1.given.1 (sym c.play_noted-played.ensures.errors))
    (record { bad = c.tell_script_stop.ensures.bad; told = c.tell_script_stop.ensures.told }))
