use Rattle.std.proofs.Common.{ℕ, ◌-◌, ◌++◌, subst}
use Rattle.std.proofs.KnownBytes.{Appends-trans}
use Rattle.std.proofs.lemmas.Result.{on_ok_weaker}
use Rattle.std.specs.Io.KnownBytes.{Appends}
use Rattle.page.specs.States.{cause_line, heading, next_link, previous_link}
use Rattle.page.proofs.sections.begin_state.Goals as goal

pub returns : goal.returns
returns g c =
    let link = next_link c.args.number in
    let head = heading c.args.number c.args.title.now in
    let cause = cause_line c.args.cause in
    let described = g.O.Write.contents c.write_cause_line.new.out in
    let after = g.O.Write.contents c.write_previous_link.new.out in
    let headed = Appends-trans _ _ _ link head c.in_ok-write_next_link.ensures c.in_ok-write_heading.ensures in
    let so_far = Appends-trans _ _ _ (link ++ head) cause headed c.in_ok-write_cause_line.ensures in
    on_ok_weaker c.write_previous_link.result
    (λ linked. Appends-trans _ _ _ (link ++ head ++ cause) (previous_link (c.args.number - 1)) so_far (subst (λ (n : ℕ). Appends described after (previous_link n)) c.saturating_sub.ensures linked))
    c.write_previous_link.ensures
