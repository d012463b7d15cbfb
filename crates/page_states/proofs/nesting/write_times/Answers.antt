use Rattle.std.proofs.Common.{◌≡◌, ℕ, arith, ap, subst}
use Rattle.std.specs.Io.KnownBytes.{Appends}
use Rattle.std.proofs.KnownBytes.{Appends-nil, Appends-trans}
use Rattle.page_states.specs.Nesting.{times}
use Rattle.page_states.proofs.Writing.{once_more}
use Rattle.page_states.proofs.nesting.write_times.Goals as goal

pub loop-init : goal.loop-init
loop-init g c = Appends-nil (g.O.Write.contents c.args.out.now)

pub loop-preserved : goal.loop-preserved
loop-preserved g c =
    let before = g.O.Write.contents c.args.out.now in
    let after = g.O.Write.contents c.write_all.new.self in
    let text = c.args.text.now in
    subst (Appends before after) (once_more c.loop.counter text)
    (Appends-trans before (g.O.Write.contents c.loop.out) after (times c.loop.counter text) text c.loop.invariant c.in_ok-write_all.ensures.bytes)

pub returns : goal.returns
returns g c =
    let e : c.loop.counter ≡ c.args.count = omega arith in
    subst (Appends (g.O.Write.contents c.args.out.now) (g.O.Write.contents c.loop.out)) (ap (λ (n : ℕ). times n c.args.text.now) e) c.loop.invariant
