use Rattle.page_states.proofs.again.kept_of.Goals as goal

pub returns : goal.returns
returns c = (c.new-kept.result, c.new-kept.ensures.empty, c.in_ok-keep_all.ensures)
