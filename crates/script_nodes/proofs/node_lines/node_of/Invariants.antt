use Rattle.std.proofs.Common.{◌≡◌, option_copied}
use Rattle.script_nodes.specs.FieldMeaning.{field_means, fields_mean, takes_text}
use Rattle.script_words.specs.Fields.{each_word, fields_of}
use Rattle.script_words.specs.Words.{left}
use Rattle.script_nodes.proofs.node_lines.node_of.Given as goal

-- the fields that are left mean, with those that were read, what all mean
abbrev pub invariant-loop-words : goal.invariant-loop-words
invariant-loop-words l = each_word field_means (fields_of takes_text (option_copied l.words.rest)) l.node ≡ fields_mean l.fn.role (option_copied l.fn.words.rest)

abbrev pub decreases-loop-words : goal.decreases-loop-words
decreases-loop-words l = left (option_copied l.words.rest)
