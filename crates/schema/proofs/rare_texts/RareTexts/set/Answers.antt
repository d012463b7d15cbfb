-- The new text stands under its key, and the others are as before.
use Rattle.schema.proofs.Entries.{texts_with}
use Rattle.schema.proofs.rare_texts.RareTexts.set.Goals as goal

pub returns-clause-ok : goal.returns-clause-ok
returns-clause-ok c = rw (c.in_ok-put.ensures.ok, ← c.self.view_is) (texts_with c.self.inside.entries.items c.args.key c.args.text)
