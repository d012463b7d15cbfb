use Rattle.std.proofs.Common.{rules, ◌≡◌, Bool, List, ℕ, is_some, length, arith, subst}
use Rattle.std.proofs.lemmas.Grind.{common_steps}
use Rattle.line_faults.specs.Faults.{Explains}
use Rattle.line_faults.specs.declared.reasons.OtherReason.TheVariants as other
use Rattle.line_faults.proofs.LinesFound.{nothing_explained}
use Rattle.script_lines.specs.Taking.{last_line}
use Rattle.script_lines.proofs.reader.ScriptReader.fault.Goals as goal

pub returns-then-is_empty : goal.returns-then-is_empty
returns-then-is_empty c =
    let empty : length c.last_line-line.result.now ≡ 0 = first_of (search rules, grind (arith, common_steps)) in
    let P : List ℕ → Type 0 = λ line. Explains (is_some c.args.self.now.begun) line c.input_ended.result in
    subst P c.last_line-line.ensures (nothing_explained (is_some c.args.self.now.begun) c.last_line-line.result.now c.input_ended.result other.EndsInside empty c.input_ended.ensures)

pub returns : goal.returns
returns c =
    let at_line : Explains c.is_some.result c.last_line-line.result.now c.explain.result = record {
      role = c.explain.ensures.role;
      role_found = c.explain.ensures.role_found;
      field = c.explain.ensures.field;
      field_found = c.explain.ensures.field_found;
    } in
    let P : List ℕ → Type 0 = λ line. Explains c.is_some.result line c.explain.result in
    let Q : Bool → Type 0 = λ is_inside. Explains is_inside (last_line c.args.self.now) c.explain.result in
    subst Q c.is_some.ensures (subst P c.last_line-line.ensures at_line)
