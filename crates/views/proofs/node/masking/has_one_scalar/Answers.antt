use Rattle.std.proofs.Common.{◌≡◌, ◌++◌, sym, ◌∙◌, ap}
use Rattle.std.specs.Prelude.{encode_utf8}
use Rattle.std.specs.Str.Iter.{chars_rest}
use Rattle.std.proofs.lemmas.Str.{IsUtf8-past_char}
use Rattle.views.proofs.Alike.{by_first, next_like, next_unlike, none_left}
use Rattle.views.proofs.node.masking.has_one_scalar.Goals as goal

pub loop-scalar-init : goal.loop-scalar-init
loop-scalar-init c =
    let rest = chars_rest c.into_iter-scalar-iterator.result in
    let spells : c.args.text.now ≡ encode_utf8 c.in-Some.first ++ rest =
    sym c.chars-scalars.ensures.rest ∙ c.in-Some.ensures.steps.0 ∙ ap (λ s. encode_utf8 c.in-Some.first ++ chars_rest s) (sym c.into_iter-scalar-iterator.ensures.into_iter_gives) in
    record {
      can = tt;
      ends = tt;
      text = IsUtf8-past_char c.args.text.now rest c.in-Some.first c.utf8.text spells;
      alike = by_first c.args.text.now rest c.in-Some.first c.utf8.text spells;
    }

pub loop-scalar-preserved : goal.loop-scalar-preserved
loop-scalar-preserved c =
    let inv = c.loop-scalar.invariant in
    let bs = chars_rest c.loop-scalar.scalar-iterator in
    let rest = chars_rest c.next-in-loop-scalar.new.self in
    let spells = c.in-Some-scalar.ensures.steps.0 in
    record {
      can = tt;
      ends = tt;
      text = IsUtf8-past_char bs rest c.in-Some-scalar.scalar inv.text spells;
      alike = next_like bs rest c.in-Some-scalar.scalar inv.text spells c.in-Some.first c.if-scalar-first.false ∙ inv.alike;
    }

pub returns-then-scalar-first : goal.returns-then-scalar-first
returns-then-scalar-first c =
    let inv = c.loop-scalar.invariant in
    sym (next_unlike (chars_rest c.loop-scalar.scalar-iterator) (chars_rest c.next-in-loop-scalar.new.self) c.in-Some-scalar.scalar inv.text c.in-Some-scalar.ensures.steps.0 c.in-Some.first c.if-scalar-first.true) ∙ inv.alike

pub returns : goal.returns
returns c = sym (none_left (chars_rest c.loop-scalar.scalar-iterator) c.in-Some.first c.in-None.ensures.steps.0.0) ∙ c.loop-scalar.invariant.alike
