use Rattle.std.proofs.Common.{◌≡◌, length}
use Rattle.std.specs.Prelude.{bytes_eq, option_copied}
use Rattle.std.specs.List.{flat_map}
use Rattle.model.specs.TextRuns.{sent_characters, sent_runs}
use Rattle.model.specs.FlatText.{are_alike}
use Rattle.views.specs.Nodes.{world_at, id_at}
use Rattle.views.specs.RunTexts.{sents_from, are_like}
use Rattle.views.proofs.node.run_texts.has_one_character.Given as goal

-- those that are left decide
abbrev pub invariant-loop-rest : goal.invariant-loop-rest
invariant-loop-rest l = are_like (option_copied l.seen) (flat_map sent_characters (sents_from l.rest)) ≡ are_alike bytes_eq (flat_map sent_characters (sent_runs (world_at l.fn.root) (id_at l.fn.root)))

abbrev pub decreases-loop-rest : goal.decreases-loop-rest
decreases-loop-rest l = length (sents_from l.rest)
