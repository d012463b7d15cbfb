use Rattle.std.proofs.Common.{arith, length, refl, ap, ◌∙◌}
use Rattle.texts.specs.RangeCuts.{located, characters_left}
use Rattle.read.specs.Shown.{further}
use Rattle.read.proofs.Counted.{next_count, all_counted}
use Rattle.read.proofs.reading.shown.count.Goals as goal

pub loop-character-init : goal.loop-character-init
loop-character-init c = record { low = omega arith; counted = refl }

pub loop-character-preserved : goal.loop-character-preserved
loop-character-preserved c =
    let inv = c.loop-character.invariant in
    record {
      low = omega (arith, c.saturating_add-count.ensures);
      counted =
          ap (λ k. further k (length (characters_left c.next.new.self))) c.saturating_add-count.ensures
          ∙ next_count (characters_left c.loop-character.left) (characters_left c.next.new.self) (located c.in-Some._character) c.in-Some.ensures.steps c.loop-character.count (further 0 (length (characters_left c.args.characters))) inv.counted;
    }

pub returns : goal.returns
returns c =
    let inv = c.loop-character.invariant in
    all_counted (characters_left c.loop-character.left) c.in_default.ensures.steps.0 c.loop-character.count (further 0 (length (characters_left c.args.characters))) inv.low inv.counted
