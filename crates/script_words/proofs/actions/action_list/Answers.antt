use Rattle.script_words.proofs.actions.action_list.Goals as goal

pub returns : goal.returns
returns c = record { reads = c.items.ensures.reads; only = c.items.ensures.only; means = c.items.ensures.means }
