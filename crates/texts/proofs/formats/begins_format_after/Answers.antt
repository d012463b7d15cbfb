use Rattle.std.proofs.Common.{sym, ap, ◌∙◌}
use Rattle.std.specs.Prelude.{not}
use Rattle.views.specs.Nodes.{world_at}
use Rattle.texts.proofs.FormatStarts.{begins_after_views}
use Rattle.texts.proofs.formats.begins_format_after.Goals as goal

pub has_same_format-requires : goal.has_same_format-requires
has_same_format-requires c = c.view.ensures.world ∙ ap world_at (sym c.requires.root) ∙ sym c.view-2.ensures.world

pub returns : goal.returns
returns c =
    ap not c.has_same_format.ensures
    ∙ begins_after_views c.args.previous c.args.run c.requires c.view.result c.view-2.result c.view.ensures.world c.view.ensures.is c.view-2.ensures.world c.view-2.ensures.is
