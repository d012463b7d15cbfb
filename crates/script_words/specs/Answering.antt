-- What a reader answers, where the value that is meant is one that the reader can be seen as.
use Rattle.std.specs.Prelude.{ℕ, ◌≡◌, List, Option, Some, None, Result, Ok, Err, ⊤}
use Rattle.script_words.specs.declared.stops.Stop.{Stop}
use Rattle.script_words.specs.declared.stops.Stop.TheVariants.{BadLine, Memory, ReadFault, WriteFault}

-- What is meant is answered; where nothing is meant, that the line is bad; or there is no memory.
abbrev pub AnswersAs : {T U : Type 0} → Option T → Result U Stop → (U → T) → Type 0
AnswersAs meant (Ok read) seen = meant ≡ Some (seen read)
AnswersAs meant (Err BadLine) seen = meant ≡ None
AnswersAs meant (Err Memory) seen = ⊤
AnswersAs meant (Err ReadFault) seen = ⊥
AnswersAs meant (Err WriteFault) seen = ⊥

-- what is made of a value that comes next, and what is left behind it
abbrev pub put_next : {T D : Type 0} → (T → D) → T × Option (List ℕ) → D × Option (List ℕ)
put_next put read = (put read.0, read.1)
