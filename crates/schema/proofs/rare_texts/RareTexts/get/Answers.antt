-- The entry that is found says the text.
use Rattle.std.proofs.Common.{ap, ◌∙◌, map}
use Rattle.schema.specs.RareTexts.{entry_seen, text_under}
use Rattle.schema.proofs.Entries.{text_found}
use Rattle.schema.proofs.rare_texts.RareTexts.get.Goals as goal

pub returns : goal.returns
returns c =
    c.entry_of.ensures ∙ text_found c.as_slice.result.now c.args.key
    ∙ ap (λ es. text_under c.args.key (map entry_seen es)) c.as_slice.ensures.value ∙ ap (text_under c.args.key) c.self.view_is
