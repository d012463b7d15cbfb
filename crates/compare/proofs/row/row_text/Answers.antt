use Rattle.std.proofs.Common.{rules, ◌≡◌, ◌∙◌}
use Rattle.compare.specs.Rows.{row_seen}
use Rattle.compare.proofs.ShownRows.{row_is}
use Rattle.compare.proofs.row.row_text.Goals as goal

pub returns-in-Ok : goal.returns-in-Ok
returns-in-Ok c =
    let seen : c.write_row.new.out.items ≡ row_seen c.args.node = search rules in
    seen ∙ row_is c.args.node
