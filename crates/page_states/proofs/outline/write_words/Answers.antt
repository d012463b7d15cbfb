use Rattle.std.proofs.Common.{◌≡◌, get_or, take, None, arith, ap, subst, ◌∙◌}
use Rattle.std.specs.Io.KnownBytes.{Appends}
use Rattle.std.proofs.KnownBytes.{Appends-nil, Appends-trans}
use Rattle.std.proofs.lemmas.List.{take_all}
use Rattle.page_states.proofs.Writing.{each_more, word_given, words_given, words_one}
use Rattle.page_states.proofs.outline.write_words.Goals as goal

pub loop-word-init : goal.loop-word-init
loop-word-init g c = Appends-nil (g.O.Write.contents c.args.out.now)

pub loop-word-preserved : goal.loop-word-preserved
loop-word-preserved g c =
    let i = c.loop-word.word-index in let words = c.args.words.now in
    let before = g.O.Write.contents c.args.out.now in let after = g.O.Write.contents c.write_word.new.out in
    subst (Appends before after) (each_more word_given words i None c.loop-word-test.true)
    (Appends-trans before (g.O.Write.contents c.loop-word.out) after (words_given (take i words)) (word_given (get_or words i None)) c.loop-word.invariant c.in_ok-write_word.ensures)

pub returns : goal.returns
returns g c =
    let all : take c.loop-word.word-index c.args.words.now ≡ c.args.words.now = take_all c.loop-word.word-index c.args.words.now (omega arith) in
    subst (Appends (g.O.Write.contents c.args.out.now) (g.O.Write.contents c.loop-word.out)) (ap words_given all ∙ words_one c.args.words.now) c.loop-word.invariant
