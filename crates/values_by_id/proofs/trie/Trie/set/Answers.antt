use Rattle.std.proofs.Common.{sym, ap, ◌∙◌}
use Rattle.values_by_id.specs.Ways.{is_last, number_of}
use Rattle.values_by_id.proofs.Ways.{put_ends, put_others}
use Rattle.values_by_id.proofs.trie.Trie.set.Goals as goal
use Rattle.values_by_id.proofs.trie.Trie.set.Goals.{in-Some, in-None}

pub returns-clause-ends : goal.returns-clause-ends
returns-clause-ends c id e =
    rw c.self.view_is
    (elim c.match-number.branch [
      | in-Some w ↦ put_ends c.args.self.now c.args.place c.match-number.cell c.requires.within c.requires.last (ap is_last w.cell-is) id e ∙ ap number_of w.cell-is ∙ sym w.in-Some.is
      | in-None w ↦ put_ends c.args.self.now c.args.place c.match-number.cell c.requires.within c.requires.last (ap is_last w.cell-is) id e ∙ ap number_of w.cell-is ∙ sym w.in-None.is
    ])

pub returns-clause-others : goal.returns-clause-others
returns-clause-others c id k h other =
    rw c.self.view_is
    (elim c.match-number.branch [
      | in-Some w ↦ put_others c.args.self.now c.args.place c.match-number.cell c.requires.within c.requires.last (ap is_last w.cell-is) id k h other
      | in-None w ↦ put_others c.args.self.now c.args.place c.match-number.cell c.requires.within c.requires.last (ap is_last w.cell-is) id k h other
    ])
