use Rattle.std.proofs.Common.{sym, ◌∙◌, ap}
use Rattle.std.specs.Prelude.{None, option_copied}
use Rattle.std.specs.List.{flat_map}
use Rattle.model.specs.TextRuns.{sent_characters}
use Rattle.views.specs.Runs.{sent_of, sents_after}
use Rattle.views.specs.RunTexts.{sents_from, are_like}
use Rattle.views.proofs.RunTexts.{from_first, from_next, run_differs, run_is_like, none_differs}
use Rattle.views.proofs.node.run_texts.has_one_character.Goals as goal

pub loop-rest-init : goal.loop-rest-init
loop-rest-init c = ap (λ runs. are_like None (flat_map sent_characters runs)) (from_first c.args.root c.first-rest.result c.first-rest.ensures).0

pub returns-then-not-is_like : goal.returns-then-not-is_like
returns-then-not-is_like c =
    let run = c.in-Some.run' in
    let seen = option_copied c.loop-rest.seen in
    sym (run_differs seen (option_copied c.seen_first-seen.result) (sent_characters (sent_of run)) (flat_map sent_characters (sents_after run)) c.seen_first-seen.ensures (sym c.is_like.ensures ∙ c.if-not-is_like.true))
    ∙ sym (ap (λ o. are_like seen (flat_map sent_characters (sents_from o))) c.in-Some.is) ∙ c.loop-rest.invariant

pub loop-rest-preserved : goal.loop-rest-preserved
loop-rest-preserved c =
    let run = c.in-Some.run' in
    let seen = option_copied c.loop-rest.seen in
    let next = option_copied c.seen_first-seen.result in
    ap (λ runs. are_like next (flat_map sent_characters runs)) (from_next run c.next-rest.result c.next-rest.ensures).0
    ∙ sym (run_is_like seen next (sent_characters (sent_of run)) (flat_map sent_characters (sents_after run)) c.seen_first-seen.ensures (sym c.is_like.ensures ∙ c.if-not-is_like.false))
    ∙ sym (ap (λ o. are_like seen (flat_map sent_characters (sents_from o))) c.in-Some.is) ∙ c.loop-rest.invariant

pub returns : goal.returns
returns c =
    let seen = option_copied c.loop-rest.seen in
    none_differs seen ∙ sym (ap (λ o. are_like seen (flat_map sent_characters (sents_from o))) c.in_default.is) ∙ c.loop-rest.invariant
