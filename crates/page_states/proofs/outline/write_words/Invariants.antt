use Rattle.std.proofs.Common.{take}
use Rattle.std.specs.Io.KnownBytes.{Appends}
use Rattle.page_states.proofs.Writing.{words_given}
use Rattle.page_states.proofs.outline.write_words.Given as goal

-- the words so far are written
abbrev pub invariant-loop-word : goal.invariant-loop-word
invariant-loop-word g l = Appends (g.O.Write.contents l.fn.out) (g.O.Write.contents l.out) (words_given (take l.word-index l.words))
