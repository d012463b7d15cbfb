-- What is left says the same but for the key.
use Rattle.schema.proofs.Entries.{texts_without}
use Rattle.schema.proofs.rare_texts.RareTexts.clear.Goals as goal

pub returns : goal.returns
returns c = rw (c.take_out.ensures.items, ← c.self.view_is) (texts_without c.self.inside.entries.items c.args.key)
