use Rattle.std.proofs.Common.{◌≡◌, ◌==◌}
use Rattle.std.specs.Str.{IsUtf8, chars}
use Rattle.std.specs.Str.Iter.{chars_rest}
use Rattle.std.specs.List.{list_all}
use Rattle.model.specs.FlatText.{are_alike}
use Rattle.views.proofs.node.masking.has_one_scalar.Given as goal

-- the scalars so far are the first one
abbrev pub invariant-loop-scalar : goal.invariant-loop-scalar
invariant-loop-scalar l = record {
  can : (goal.iterator-loop-scalar).can_next l.scalar-iterator;
  ends : (goal.iterator-loop-scalar).is_finite l.scalar-iterator;
  text : IsUtf8 (chars_rest l.scalar-iterator);
  alike : list_all (λ b. l.first == b) (chars (chars_rest l.scalar-iterator)) ≡ are_alike (λ a b. a == b) (chars l.fn.text);
}
