use Rattle.std.proofs.Common.{List, [], sym, subst}
use Rattle.atree_script.specs.Input.{start_of}
use Rattle.atree_script.specs.Playing.{Stage, no_tree, Plays}
use Rattle.script_lines.specs.Ends.{Tells, status_at_end}
use Rattle.page.specs.Endings.{told_text}
use Rattle.page.specs.Runs.{EndsPage}
use Rattle.page.specs.Shown.{Shown, Shows, shown_of}
use Rattle.page.specs.declared.sections.Titled.{Titled}
use Rattle.page.proofs.Turned.{turns_taken}
use Rattle.page.proofs.pager.show_script.Goals as goal

pub returns-clause-shows : goal.returns-clause-shows
returns-clause-shows g c =
    let h = c.play_shown-played.ensures.plays in
    let played = c.play_shown-played.result in
    let pager = c.play_shown-played.new.pager in
    let stage : Stage = record { world = played.session; host = h.host } in
    let end : Shown = shown_of pager.updates pager.states.items pager.kept (g.O.Write.contents pager.output.now) (g.E.Write.contents pager.errors.now) in
    let ending = c.ending_of-ending.result in
    let closed = g.O.Write.contents c.end_page-ended.new.output in
    let head = g.O.Write.contents c.args.output.now in
    let told = g.E.Write.contents c.args.errors.now in
    let unshown = c.new-2.result in
    let begun : Shown = shown_of 0 [] unshown head told in
    let shown : Plays Shows (start_of (g.R.Read.remaining c.args.input.now)) (no_tree, begun) h.commands played.ended played.number (stage, end) =
    subst (λ (states : List Titled). Plays Shows (start_of (g.R.Read.remaining c.args.input.now)) (no_tree, shown_of 0 states unshown head told) h.commands played.ended played.number (stage, end)) c.new.ensures.items h.plays in
    let taken = turns_taken (start_of (g.R.Read.remaining c.args.input.now)) (no_tree, begun) (stage, end) [] h.commands played.ended played.number shown in
    record {
      unshown = unshown;
      nothing = c.new-2.ensures.empty;
      commands = h.commands;
      played = played;
      stage = stage;
      end = end;
      turns = taken.0;
      plays = taken.1;
      ending = ending;
      ends_as = c.ending_of-ending.ensures;
      result = c.end_page-ended.result;
      closed = closed;
      ends =
          subst (λ (its : List Titled). EndsPage its ending c.end_page-ended.result (g.O.Write.contents pager.output.now) closed) c.deref.ensures.value
          (subst (λ x. EndsPage c.deref.result.now ending c.end_page-ended.result (g.O.Write.contents x) closed) (c.output-1.given.1 (sym c.play_shown-played.ensures.output)) c.end_page-ended.ensures);
      kept = c.end_told.ensures.printed;
      tells =
          subst (λ x. Tells (g.E.Write.contents x) (g.E.Write.contents c.end_told.new.errors) (told_text c.end_page-ended.result ending.line ending.message.items) (status_at_end c.end_page-ended.result) c.end_told.result)
          (c.errors-1.given.1 (sym c.play_shown-played.ensures.errors)) c.end_told.ensures.told;
    }
