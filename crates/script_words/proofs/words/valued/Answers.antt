use Rattle.std.proofs.Common.{Some, None, subst, sym, arith}
use Rattle.script_words.proofs.TextSteps.{CutsValue, part_lacks_too, space_first}
use Rattle.std.proofs.lemmas.Str.Pattern.{split_parts}
use Rattle.script_words.specs.Reading.{Lacks}
use Rattle.script_words.proofs.Cuts.{cut_at_equals, lacks_not_found, flag_has_no_cut}
use Rattle.script_words.proofs.words.valued.Goals as goal

pub returns-in_err-name-clause-named : goal.returns-in_err-name-clause-named
returns-in_err-name-clause-named c = λ name more h e. absurd (cut_at_equals c.args.line.now name more None h e c.in_err-name.ensures.cases)

pub returns-in-Some-clause-named : goal.returns-in-Some-clause-named
returns-in-Some-clause-named c = λ name more h e.
    let k = cut_at_equals c.args.line.now name more (Some (c.in_ok-name.name, c.in_ok-name.value)) h e c.in_ok-name.ensures.cases in
    let no = lacks_not_found 32 c.in_ok-name.name.now (Some c.in-Some.field-0) (subst (Lacks 32) (sym k.0) h.0.0) c.in-Some.ensures.cases (omega arith) in cc

pub returns-in-None-clause-named : goal.returns-in-None-clause-named
returns-in-None-clause-named c = λ name more h e. cut_at_equals c.args.line.now name more (Some (c.in_ok-name.name, c.in_ok-name.value)) h e c.in_ok-name.ensures.cases

pub returns-in-None-clause-flag : goal.returns-in-None-clause-flag
returns-in-None-clause-flag c = λ name rest h e. absurd (flag_has_no_cut c.args.line.now name c.in_ok-name.name.now c.in_ok-name.value.now rest h.1 (split_parts 32 c.in_ok-name.name.now None c.in-None.ensures.cases (omega arith)) e (split_parts 61 c.args.line.now (Some (c.in_ok-name.name, c.in_ok-name.value)) c.in_ok-name.ensures.cases (omega arith)).0)

pub returns-in_err-name-clause-cut : goal.returns-in_err-name-clause-cut
returns-in_err-name-clause-cut c =
    subst (CutsValue c.args.line.now) (sym c.from_residual.ensures) (part_lacks_too 61 32 c.args.line.now (split_parts 61 c.args.line.now None c.in_err-name.ensures.cases (omega arith)))

pub returns-in-Some-clause-cut : goal.returns-in-Some-clause-cut
returns-in-Some-clause-cut c =
    let p = split_parts 61 c.args.line.now (Some (c.in_ok-name.name, c.in_ok-name.value)) c.in_ok-name.ensures.cases (omega arith) in
    let q = split_parts 32 c.in_ok-name.name.now (Some c.in-Some.field-0) c.in-Some.ensures.cases (omega arith) in
    space_first c.args.line.now c.in_ok-name.name.now c.in_ok-name.value.now c.in-Some.field-0.0.now c.in-Some.field-0.1.now p.0 p.1 q.0 q.1

pub returns-in-None-clause-cut : goal.returns-in-None-clause-cut
returns-in-None-clause-cut c =
    let p = split_parts 61 c.args.line.now (Some (c.in_ok-name.name, c.in_ok-name.value)) c.in_ok-name.ensures.cases (omega arith) in
    (p.0, p.1, split_parts 32 c.in_ok-name.name.now None c.in-None.ensures.cases (omega arith))
