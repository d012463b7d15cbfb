use Rattle.std.proofs.Common.{sym, ap}
use Rattle.std.specs.Prelude.{true}
use Rattle.views.specs.Nodes.{world_at, id_at}
use Rattle.views.specs.RunTexts.{shown_of_all, shown_text, sents_from}
use Rattle.views.proofs.RunTexts.{from_first, from_next}
use Rattle.views.proofs.Writing.{starts, goes_on, ends, rest_is, text_is}
use Rattle.model.specs.Values.{bullets}
use Rattle.hidden_texts.proofs.showing.write_masked.Goals as goal

pub loop-rest-init : goal.loop-rest-init
loop-rest-init g c =
    let all = sym (from_first c.args.root c.first-rest.result c.first-rest.ensures).0 in
    rest_is (ap (shown_of_all true) all) (starts (shown_text true (world_at c.args.root) (id_at c.args.root)) c.args.writer.now)

pub loop-rest-preserved : goal.loop-rest-preserved
loop-rest-preserved g c =
    let run = c.in-Some.run' in
    rest_is (ap (shown_of_all true) (sym (from_next run c.next-rest.result c.next-rest.ensures).0))
    (goes_on (rest_is (ap (λ o. shown_of_all true (sents_from o)) c.in-Some.is) c.loop-rest.invariant) (text_is (ap bullets c.character_count.ensures) c.in_ok-write_bullets.ensures.ok))

pub returns : goal.returns
returns g c = ends (rest_is (ap (λ o. shown_of_all true (sents_from o)) c.in_default.is) c.loop-rest.invariant)
