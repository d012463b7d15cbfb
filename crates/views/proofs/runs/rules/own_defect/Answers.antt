use Rattle.std.proofs.Common.{rules, sym, ◌∙◌}
use Rattle.std.specs.Prelude.{◌==◌}
use Rattle.schema.specs.RunFits.{is_cut_by}
use Rattle.model.specs.TextRuns.{run_value, has_rising_words}
use Rattle.views.specs.Runs.{sent_as}
use Rattle.views.specs.TextDefects.{metrics_defect}
use Rattle.views.proofs.DefectRules.{none_if_fit, words_broken, metrics_left}
use Rattle.views.proofs.runs.rules.own_defect.Goals as goal

pub returns-then-is_known_to_fit : goal.returns-then-is_known_to_fit
returns-then-is_known_to_fit c =
    none_if_fit c.args.tree c.args.password (sent_as c.args.run) (search rules) (c.is_known_to_fit.ensures c.if-is_known_to_fit.true)

pub returns-then-not-has_rising_word_starts : goal.returns-then-not-has_rising_word_starts
returns-then-not-has_rising_word_starts c =
    let r = sent_as c.args.run in
    words_broken (metrics_defect c.args.password r) (r.id.tree == c.args.tree) (is_cut_by (run_value r) r.node.character_lengths) (has_rising_words r) (search rules) (search rules)
    (sym c.has_rising_word_starts.ensures ∙ c.if-not-has_rising_word_starts.true)

pub returns : goal.returns
returns c =
    let r = sent_as c.args.run in
    c.metrics_defect.ensures
    ∙ metrics_left (metrics_defect c.args.password r) (r.id.tree == c.args.tree) (is_cut_by (run_value r) r.node.character_lengths) (has_rising_words r) (search rules) (search rules)
    (sym c.has_rising_word_starts.ensures ∙ c.if-not-has_rising_word_starts.false)
