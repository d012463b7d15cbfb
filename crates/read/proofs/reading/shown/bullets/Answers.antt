use Rattle.std.proofs.Common.{◌++◌, length, ap, ◌∙◌}
use Rattle.std.specs.Prelude.{string_bytes}
use Rattle.model.specs.Values.{bullets}
use Rattle.texts.specs.Cuts.{character_ranges}
use Rattle.texts.specs.RangeCuts.{located, characters_left, parts_of}
use Rattle.read.proofs.Characters.{parts_counted}
use Rattle.read.proofs.Counted.{next_bullet, all_bullets}
use Rattle.read.proofs.reading.shown.bullets.Goals as goal

pub loop-character-preserved : goal.loop-character-preserved
unfolding lib.Utf8.encode
loop-character-preserved c =
    let rest = characters_left c.next.new.self in
    ap (λ t. t ++ bullets (length rest)) c.in_ok-push.ensures.bytes
    ∙ next_bullet (characters_left c.loop-character.left) rest (located c.in-Some._character) c.in-Some.ensures.steps (string_bytes c.loop-character.text) (bullets (length (parts_of character_ranges c.args.range))) c.loop-character.invariant

pub returns : goal.returns
returns c =
    all_bullets (characters_left c.loop-character.left) c.in_default.ensures.steps.0 (string_bytes c.loop-character.text) (bullets (length (parts_of character_ranges c.args.range))) c.loop-character.invariant
    ∙ ap bullets (parts_counted c.args.range)
