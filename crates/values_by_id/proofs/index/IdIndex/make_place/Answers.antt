use Rattle.std.proofs.Common.{◌++◌, length, ap, ◌∙◌}
use Rattle.values_by_id.proofs.Kept.{apart_same}
use Rattle.values_by_id.proofs.index.IdIndex.make_place.Goals as goal

pub invariant_of-self : goal.invariant_of-self
invariant_of-self g c =
    let same = c.make_cell.ensures.same in
    record {
      apart = apart_same c.make_cell.new.self c.self.inside.rows c.self.inside.others same c.self.invariant.apart;
      count = ap (λ es. length (es ++ c.self.inside.others)) same ∙ c.self.invariant.count;
      bound = c.self.invariant.bound;
    }
