-- So far the copy says what the first of the entries say.
use Rattle.std.proofs.Common.{◌≡◌, take, map}
use Rattle.schema.specs.RareTexts.{entry_seen}
use Rattle.schema.proofs.rare_texts.copy_of_entries.Given as goal

abbrev pub invariant-loop-entry : goal.invariant-loop-entry
invariant-loop-entry l = map entry_seen l.copy.items ≡ map entry_seen (take l.entry-index l.entries)
