use Rattle.script_words.proofs.word_lists.ids.Goals as goal

pub returns : goal.returns
returns c = record { reads = c.items.ensures.reads; only = c.items.ensures.only; means = c.items.ensures.means }
