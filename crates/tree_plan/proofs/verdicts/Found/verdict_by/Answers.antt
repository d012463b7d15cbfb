use Rattle.std.proofs.Common.{Some, inl, inr, sym, ◌∙◌, subst}
use Rattle.tree_plan.specs.declared.verdicts.Verdict.TheVariants.{Added, Renewed}
use Rattle.tree_plan.specs.Verdicts.{Becomes}
use Rattle.tree_plan.proofs.Becoming.{gone_by, stays_if, new_by, news_by, same_by, unnamed_same_by}
use Rattle.tree_plan.proofs.verdicts.Found.verdict_by.Goals as goal

pub is_removed-requires : goal.is_removed-requires
is_removed-requires g c = (c.requires.0, (c.requires.1.0, λ some. c.requires.1.1 (inr some)))

pub returns-then-is_removed : goal.returns-then-is_removed
returns-then-is_removed g c = gone_by g.step c.args.self.now c.requires.0 c.args.id (c.is_removed.ensures.0 c.if-is_removed.true)

pub moved_or_told-requires : goal.moved_or_told-requires
moved_or_told-requires g c =
    let stays = stays_if g.step c.args.self.now c.requires.0 c.is_removed.result c.is_removed.ensures c.if-is_removed.false in (
      c.requires.0,
      (
        unnamed_same_by g.step c.args.self.now c.requires.0 c.args.id stays (sym c.requires.1.0 ∙ c.in_default.is),
        c.requires.1.1 (inl stays),
      ),
    )

pub returns-in_default-was : goal.returns-in_default-was
returns-in_default-was g c =
    let stays = stays_if g.step c.args.self.now c.requires.0 c.is_removed.result c.is_removed.ensures c.if-is_removed.false in
    subst (λ p. Becomes g.step c.args.id (Some (Added p c.in-Some.named.entry))) (sym c.unwrap_or-place.ensures)
    (new_by g.step c.args.self.now c.requires.0 c.args.id c.in-Some.named c.args.moved (sym c.requires.1.0 ∙ c.in-Some.is) c.in_default-was.is (c.requires.1.1 (inl stays)))

pub returns-then-named : goal.returns-then-named
returns-then-named g c =
    let stays = stays_if g.step c.args.self.now c.requires.0 c.is_removed.result c.is_removed.ensures c.if-is_removed.false in
    subst (λ p. Becomes g.step c.args.id (Some (Renewed p c.in-Some.named.entry))) (sym c.unwrap_or-place-then-named.ensures)
    (news_by g.step c.args.self.now c.requires.0 c.args.id c.in-Some.named c.in-Some-was.was c.args.moved (sym c.requires.1.0 ∙ c.in-Some.is) c.in-Some-was.is c.if-named.true (c.requires.1.1 (inl stays)))

pub moved_or_told-requires-2 : goal.moved_or_told-requires-2
moved_or_told-requires-2 g c =
    let stays = stays_if g.step c.args.self.now c.requires.0 c.is_removed.result c.is_removed.ensures c.if-is_removed.false in (
      c.requires.0,
      (
        same_by g.step c.args.self.now c.requires.0 c.args.id c.in-Some.named (sym c.requires.1.0 ∙ c.in-Some.is) c.if-named.false,
        c.requires.1.1 (inl stays),
      ),
    )
