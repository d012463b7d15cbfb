use Rattle.model.specs.Moves.{backward_to_word_start}
use Rattle.texts.proofs.RunWords.{word_before_end}
use Rattle.texts.proofs.Secrecy.{moved_in_each}
use Rattle.texts.proofs.position.TextPosition.backward_to_word_start.Goals as goal

pub returns : goal.returns
returns c =
    let moved = word_before_end c.args.self.now c.biased_to_end.result c.word_before.result c.biased_to_end.ensures c.word_before.ensures in
    record { moved = moved; secret = moved_in_each backward_to_word_start c.args.self.now c.word_before.result moved }
