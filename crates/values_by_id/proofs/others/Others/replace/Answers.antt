use Rattle.std.proofs.Common.{Some, cond, ap, ◌∙◌}
use Rattle.std.specs.BTreeMap.{is_at}
use Rattle.std.proofs.lemmas.Map.{length-set_value}
use Rattle.model.specs.FullIds.{full_cmp}
use Rattle.values_by_id.specs.Cells.{value_at}
use Rattle.values_by_id.proofs.Led.{set_value_at}
use Rattle.values_by_id.proofs.others.Others.replace.Goals as goal

pub returns-clause-updates : goal.returns-clause-updates
returns-clause-updates g c q =
    set_value_at c.args.self.now c.args.id c.replace.new.dest c.requires q
    ∙ ap (λ v. cond (is_at (full_cmp c.args.id) q) (Some v) (value_at c.args.self.now q)) c.replace.ensures.after

pub returns-clause-count : goal.returns-clause-count
returns-clause-count g c = length-set_value (is_at (full_cmp c.args.id)) c.args.self.now c.replace.new.dest
