use Rattle.std.proofs.Common.{◌+◌, arith, length-drop, refl, ap, ◌∙◌}
use Rattle.line_text.specs.Starts.{name_length}
use Rattle.line_faults.proofs.KnownNames.{rest_from}
use Rattle.line_faults.proofs.explaining.fields_fault.Goals as goal

pub returns-in-Some-clause-field : goal.returns-in-Some-clause-field
returns-in-Some-clause-field c =
    let start = c.args.at + c.in-Some.place in
    λ which e. (
      cc,
      record {
        place = c.in-Some.place;
        unknown = c.in-Some.ensures.0;
        first = c.in-Some.ensures.1;
        start = refl;
        end = ap (λ length. start + length) (c.name_length.ensures.exact ∙ ap name_length (rest_from c.args.line.now start));
      },
    )

pub returns-in-None-clause-field_found : goal.returns-in-None-clause-field_found
returns-in-None-clause-field_found c = λ some. absurd (c.in-None.ensures some.0 some.1)

pub overflow_add-start : goal.overflow_add-start
overflow_add-start c = let within = c.in-Some.ensures.0.within in omega (arith, within, length-drop c.args.at c.args.line.now)

pub overflow_add-result : goal.overflow_add-result
overflow_add-result c = let within = c.in-Some.ensures.0.within in omega (arith, within, c.name_length.ensures.bound, length-drop c.args.at c.args.line.now)
