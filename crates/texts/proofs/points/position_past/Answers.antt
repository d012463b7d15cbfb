use Rattle.std.proofs.Common.{◌∙◌}
use Rattle.texts.proofs.PointPlaces.{at_past, at_document_end}
use Rattle.texts.proofs.points.position_past.Goals as goal

pub returns-in_default : goal.returns-in_default
returns-in_default c = record {
  same = c.document_end.ensures.same;
  at = c.document_end.ensures.at ∙ at_document_end c.args.root c.args.point c.requires.outside c.requires.beyond c.in_default.ensures.found;
}

pub returns : goal.returns
returns c = record {
  same = c.in-Some.ensures.same;
  at = at_past c.args.root c.args.point c.requires.outside c.requires.beyond c.in-Some.run' c.shown_count.result c.in-Some.ensures.same c.in-Some.ensures.found c.shown_count.ensures.exact;
}
