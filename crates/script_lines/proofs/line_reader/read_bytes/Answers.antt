use Rattle.std.proofs.Common.{◌≡◌, ◌≢◌, All, IfSome, Ok, Err, true, false, arith, inl, inr, ap, refl, sym, subst, rules, ◌∙◌}
use Rattle.script_lines.specs.InputLines.{next_number}
use Rattle.script_lines.proofs.Places.{err_is}
use Rattle.script_words.specs.declared.stops.Stop.TheVariants.{ReadFault}
use Rattle.std.specs.Io.BufRead.{take_through}
use Rattle.std.specs.Io.KnownBytes.{Consumes}
use Rattle.std.proofs.BufReadLemmas.{Consumes_through}
use Rattle.std.proofs.KnownBytes.{Consumes-nil, Consumes-trans, starts_with_rest}
use Rattle.std.proofs.lemmas.List.Elements.{All-append, All-nil}
use Rattle.script_lines.proofs.line_reader.read_bytes.Goals as goal

pub looking-init : goal.looking-init
looking-init g c = (subst (Consumes _ _) (sym c.clear.ensures.items) (Consumes-nil _), subst (All (λ byte. byte ≢ 10)) (sym c.clear.ensures.items) (All-nil (λ byte. byte ≢ 10)), refl, omega arith)

pub looking-preserved : goal.looking-preserved
looking-preserved g c =
    let step = c.read_part.ensures in
    let on : c.read_part.result ≡ Ok false = search rules in
    let whole = starts_with_rest _ _ step.appends in (
      subst (Consumes _ _) (sym whole) (Consumes-trans _ _ _ _ _ c.looking.invariant.0 step.bytes),
      subst (All (λ byte. byte ≢ 10)) (sym whole) (All-append (λ byte. byte ≢ 10) _ _ c.looking.invariant.1 (step.goes_on on)),
      step.kept (λ e. cc) ∙ c.looking.invariant.2,
      omega (arith, step.looks),
    )

pub looking-smaller : goal.looking-smaller
looking-smaller g c = omega (arith, c.read_part.ensures.looks, c.looking-test.true)

pub returns-in_err-read_part-clause-faults : goal.returns-in_err-read_part-clause-faults
returns-in_err-read_part-clause-faults g c =
    let is = err_is c.from_residual.result c.in_err-read_part.field-0.0 c.from_residual.ensures.1 in (
      (λ e. let both = sym is ∙ e in let fault : c.in_err-read_part.field-0.0 ≡ ReadFault = cc in
          inl (c.in_err-read_part.ensures.fails (ap Err fault) ∙ ap next_number c.looking.invariant.2)),
      (λ n. c.in_err-read_part.ensures.kept (λ e. let fault : c.in_err-read_part.field-0.0 ≡ ReadFault = cc in n (is ∙ ap Err fault)) ∙ c.looking.invariant.2),
    )

pub returns-then-branch-clause-faults : goal.returns-then-branch-clause-faults
returns-then-branch-clause-faults g c = (
  (λ e. cc),
  (λ n. c.read_part.ensures.kept (λ e. let done : c.read_part.result ≡ Ok true = search rules in cc) ∙ c.looking.invariant.2),
)

pub returns-clause-faults : goal.returns-clause-faults
returns-clause-faults g c = ((λ e. inr (omega (arith, c.looking-test.false, c.looking.invariant.3))), (λ n. absurd (n refl)))

pub returns-then-branch-clause-bytes : goal.returns-then-branch-clause-bytes
returns-then-branch-clause-bytes g c =
    let step = c.read_part.ensures in
    let done : c.read_part.result ≡ Ok true = search rules in
    let ended = step.ended done in
    let read = Consumes_through 10 _ _ _ _ _ c.looking.invariant.0 c.looking.invariant.1 step.bytes ended.0 ended.1 (step.end done) in
    subst (λ bytes. IfSome (g.R.Read.remaining c.args.input.now) (λ left. bytes ≡ take_through 10 left)) (sym (starts_with_rest _ _ step.appends)) read.0

pub returns-then-branch-clause-rest : goal.returns-then-branch-clause-rest
returns-then-branch-clause-rest g c =
    let step = c.read_part.ensures in
    let done : c.read_part.result ≡ Ok true = search rules in
    let ended = step.ended done in
    (Consumes_through 10 _ _ _ _ _ c.looking.invariant.0 c.looking.invariant.1 step.bytes ended.0 ended.1 (step.end done)).1
