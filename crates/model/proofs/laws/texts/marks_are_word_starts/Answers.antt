use Rattle.model.proofs.Text.WordMarks as proof
use Rattle.model.proofs.laws.texts.marks_are_word_starts.Goals as goal

pub returns : goal.returns
returns c = proof.word_marks_are_starts
