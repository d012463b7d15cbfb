use Rattle.std.proofs.Common.{refl, subst, sym, ◌∙◌}
use Rattle.script_words.specs.NamedIn.{IsNamed}
use Rattle.script_words.specs.NameLists.{all_moves}
use Rattle.script_words.specs.Names.{move_name}
use Rattle.script_words.proofs.NamedTables.{first_move, named_in_table, reads_in_table}
use Rattle.script_words.proofs.names.move_named.Goals as goal

pub returns-clause-reads : goal.returns-clause-reads
returns-clause-reads c = λ value e. c.named.ensures ∙ reads_in_table move_name _ all_moves refl refl first_move c.args.word.now value e

pub returns-clause-only : goal.returns-clause-only
returns-clause-only c = subst (IsNamed move_name c.args.word.now) (sym c.named.ensures) (named_in_table move_name _ refl c.args.word.now)
