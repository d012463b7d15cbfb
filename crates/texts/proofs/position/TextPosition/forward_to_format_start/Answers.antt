use Rattle.std.proofs.Common.{◌+◌, ◌∙◌}
use Rattle.model.specs.FlatText.{begins_format}
use Rattle.text_boundaries.specs.RunNumbers.{number_in}
use Rattle.texts.specs.Positions.{root_at, position_text}
use Rattle.texts.proofs.TextEnds.{at_document_end}
use Rattle.texts.proofs.FormatStarts.{starts_nowhere, at_no_start, sought_next, found_next}
use Rattle.texts.proofs.Secrecy.{moved_in_each}
use Rattle.model.specs.Moves.{forward_to_format_start}
use Rattle.texts.proofs.position.TextPosition.forward_to_format_start.Goals as goal

pub returns-in_default-clause-moved : goal.returns-in_default-clause-moved
returns-in_default-clause-moved c =
    let p = c.args.self.now in
    let r = c.loop-next.run in
    let loop = c.loop-next.invariant in
    record {
      same = loop.same;
      at = at_document_end (root_at p) r c.character_count.result (record { root = loop.same; order = c.in_default.ensures }) c.character_count.ensures
          ∙ at_no_start (position_text p) (number_in p.run + 1) (begins_format (position_text p)) (loop.sought ∙ starts_nowhere p.run r loop.same c.in_default.ensures);
    }

pub returns-then-begins_format_after-clause-moved : goal.returns-then-begins_format_after-clause-moved
returns-then-begins_format_after-clause-moved c =
    let way = c.loop-next.invariant in
    record {
      same = c.in-Some.ensures.root ∙ way.same;
      at = found_next c.args.self.now.run c.loop-next.run c.in-Some.next c.begins_format_after.result way c.in-Some.ensures c.begins_format_after.ensures c.if-begins_format_after.true;
    }

pub loop-next-preserved : goal.loop-next-preserved
loop-next-preserved c =
    sought_next c.args.self.now.run c.loop-next.run c.in-Some.next c.begins_format_after.result c.loop-next.invariant c.in-Some.ensures c.begins_format_after.ensures c.if-begins_format_after.false

pub returns-in_default-clause-secret : goal.returns-in_default-clause-secret
returns-in_default-clause-secret c = moved_in_each forward_to_format_start c.args.self.now _ (returns-in_default-clause-moved c)

pub returns-then-begins_format_after-clause-secret : goal.returns-then-begins_format_after-clause-secret
returns-then-begins_format_after-clause-secret c = moved_in_each forward_to_format_start c.args.self.now _ (returns-then-begins_format_after-clause-moved c)
