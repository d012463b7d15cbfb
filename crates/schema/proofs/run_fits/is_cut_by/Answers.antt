use Rattle.std.proofs.Common.{◌≡◌, false, true, ◌∙◌, sym, ap, refl, arith}
use Rattle.std.specs.Prelude.{◌==◌, nat_lt}
use Rattle.std.specs.List.{list_all}
use Rattle.std.specs.Str.{IsCharBoundary}
use Rattle.std.proofs.lemmas.Str.{IsUtf8-drop}
use Rattle.std.proofs.lemmas.Bool.{and_parts}
use Rattle.schema.proofs.CutTexts.{one_cut, no_cut, ones_cut}
use Rattle.schema.proofs.run_fits.is_cut_by.Goals as goal

pub returns-then-are_single : goal.returns-then-are_single
returns-then-are_single c =
    let single = and_parts (list_all (λ n. n == 1) c.args.lengths.now) (list_all (λ b. nat_lt b 128) c.as_bytes.result.now) (sym c.are_single.ensures ∙ c.if-are_single.true) in
    sym (ones_cut c.args.value.now c.args.lengths.now c.if-value-lengths.true single.0 (sym (ap (list_all (λ b. nat_lt b 128)) c.as_bytes.ensures.value) ∙ single.1))

pub split_at_checked-requires-text-self : goal.split_at_checked-requires-text-self
split_at_checked-requires-text-self c κs = c.loop-length.invariant.text

pub is_empty-requires-text-self : goal.is_empty-requires-text-self
is_empty-requires-text-self c κs = c.loop-length.invariant.text

pub returns-in_default : goal.returns-in_default
returns-in_default c =
    sym (c.loop-length.invariant.same
    ∙ no_cut c.loop-length.rest.now c.args.lengths.now c.loop-length.length-index c.from.result (omega arith) (sym c.from.ensures) c.loop-length.invariant.text (λ at. let no : false ≡ true = c.in_default.ensures.variant.1 at in cc))

pub loop-length-preserved : goal.loop-length-preserved
loop-length-preserved c =
    let at : IsCharBoundary c.loop-length.rest.now c.from.result = c.in-Some.ensures.variant.0 refl in
    record {
      same = c.loop-length.invariant.same
          ∙ one_cut c.loop-length.rest.now c.args.lengths.now c.loop-length.length-index c.from.result (omega arith) (sym c.from.ensures) (omega arith) c.loop-length.invariant.text at
          ∙ (rw (sym c.in-Some.ensures.back) refl);
      text = rw c.in-Some.ensures.back (IsUtf8-drop c.loop-length.rest.now c.from.result c.loop-length.invariant.text at);
    }
