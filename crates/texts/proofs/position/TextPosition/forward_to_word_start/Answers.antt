use Rattle.model.specs.Moves.{forward_to_word_start}
use Rattle.texts.proofs.RunWords.{word_after_start}
use Rattle.texts.proofs.Secrecy.{moved_in_each}
use Rattle.texts.proofs.position.TextPosition.forward_to_word_start.Goals as goal

pub returns : goal.returns
returns c =
    let moved = word_after_start c.args.self.now c.biased_to_start.result c.word_after.result c.biased_to_start.ensures c.word_after.ensures in
    record { moved = moved; secret = moved_in_each forward_to_word_start c.args.self.now c.word_after.result moved }
