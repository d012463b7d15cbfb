use Rattle.std.proofs.Common.{◌≡◌, option_copied}
use Rattle.script_lines.specs.HeadMeaning.{field_means, takes_text}
use Rattle.script_lines.specs.LineReading.{head_data}
use Rattle.script_words.specs.Fields.{each_word, fields_of}
use Rattle.script_words.specs.Words.{left}
use Rattle.script_lines.proofs.heads.Head.read_fields.Given as goal

-- the fields that are left mean, with those that were read, what all mean
abbrev pub invariant-loop-alloc : goal.invariant-loop-alloc
invariant-loop-alloc l = each_word field_means (fields_of takes_text (option_copied l.words.rest)) (head_data l.self)
    ≡ each_word field_means (fields_of takes_text (option_copied l.initial.words.rest)) (head_data l.initial.self)

abbrev pub decreases-loop-alloc : goal.decreases-loop-alloc
decreases-loop-alloc l = left (option_copied l.words.rest)
