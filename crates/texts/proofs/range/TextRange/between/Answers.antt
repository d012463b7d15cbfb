use Rattle.std.proofs.Common.{refl, ap, ◌∙◌}
use Rattle.model.specs.Ranges.{run_named}
use Rattle.text_boundaries.specs.RunNumbers.{number_in}
use Rattle.texts.specs.Positions.{node_text, root_at}
use Rattle.texts.proofs.BetweenNames.{same_roots, none_named_so, found_by_name, run_is_there, index_within, found_in_one_state}
use Rattle.texts.proofs.NamedRuns.{named_past, named_within}
use Rattle.texts.proofs.range.TextRange.between.Goals as goal

pub returns-in_default-clause-one_state : goal.returns-in_default-clause-one_state
returns-in_default-clause-one_state c worlds =
    run_is_there c.args.first c.args.second c.is_same.result
    (same_roots c.args.first c.args.second c.is_same.result c.root-root.result c.root.result c.id.result c.id-2.result c.root-root.ensures c.root.ensures c.id.ensures c.id-2.ensures c.is_same.ensures)
    c.to_raw-raw.result c.to_raw-raw.ensures c.if-not-is_same.false worlds
    (c.in_default.ensures.named ∙ ap (λ n. run_named (node_text n) c.to_raw-raw.result) c.root-root.ensures)

pub returns-then-index-character_count-clause-one_state : goal.returns-then-index-character_count-clause-one_state
returns-then-index-character_count-clause-one_state c worlds =
    index_within c.args.first c.args.second c.is_same.result
    (same_roots c.args.first c.args.second c.is_same.result c.root-root.result c.root.result c.id.result c.id-2.result c.root-root.ensures c.root.ensures c.id.ensures c.id-2.ensures c.is_same.ensures)
    c.to_raw-raw.result c.to_raw-raw.ensures c.if-not-is_same.false worlds
    c.in-Some.run' c.character_count.result (c.in-Some.ensures.same ∙ c.root-root.ensures) (c.in-Some.ensures.named ∙ ap (λ n. run_named (node_text n) c.to_raw-raw.result) c.root-root.ensures) c.character_count.ensures c.if-index-character_count.true

pub returns-then-index-character_count-clause-by_name : goal.returns-then-index-character_count-clause-by_name
returns-then-index-character_count-clause-by_name c other also =
    none_named_so c.args.first c.args.second c.is_same.result
    (same_roots c.args.first c.args.second c.is_same.result c.root-root.result c.root.result c.id.result c.id-2.result c.root-root.ensures c.root.ensures c.id.ensures c.id-2.ensures c.is_same.ensures)
    c.to_raw-raw.result c.to_raw-raw.ensures c.if-not-is_same.false other also
    (named_past (root_at c.args.first) c.to_raw-raw.result c.in-Some.run' c.character_count.result (c.in-Some.ensures.same ∙ c.root-root.ensures) (c.in-Some.ensures.named ∙ ap (λ n. run_named (node_text n) c.to_raw-raw.result) c.root-root.ensures) c.character_count.ensures c.if-index-character_count.true)

pub returns-clause-one_state : goal.returns-clause-one_state
returns-clause-one_state c worlds =
    found_in_one_state c.args.first c.args.second c.is_same.result
    (same_roots c.args.first c.args.second c.is_same.result c.root-root.result c.root.result c.id.result c.id-2.result c.root-root.ensures c.root.ensures c.id.ensures c.id-2.ensures c.is_same.ensures)
    c.to_raw-raw.result c.to_raw-raw.ensures c.if-not-is_same.false worlds
    c.in-Some.run' (record { run = number_in c.in-Some.run'; index = c.to_raw-raw.result.character_index }) c.in_order.result (c.in-Some.ensures.same ∙ c.root-root.ensures) (c.in-Some.ensures.named ∙ ap (λ n. run_named (node_text n) c.to_raw-raw.result) c.root-root.ensures) refl refl c.in_order.ensures.range

pub returns-clause-by_name : goal.returns-clause-by_name
returns-clause-by_name c other also =
    found_by_name c.args.first c.args.second c.is_same.result
    (same_roots c.args.first c.args.second c.is_same.result c.root-root.result c.root.result c.id.result c.id-2.result c.root-root.ensures c.root.ensures c.id.ensures c.id-2.ensures c.is_same.ensures)
    c.to_raw-raw.result c.to_raw-raw.ensures c.if-not-is_same.false other also
    (record { run = number_in c.in-Some.run'; index = c.to_raw-raw.result.character_index }) c.in_order.result
    (named_within (root_at c.args.first) c.to_raw-raw.result c.in-Some.run' c.character_count.result (c.in-Some.ensures.same ∙ c.root-root.ensures) (c.in-Some.ensures.named ∙ ap (λ n. run_named (node_text n) c.to_raw-raw.result) c.root-root.ensures) c.character_count.ensures c.if-index-character_count.false)
    c.in_order.ensures.range
