use Rattle.std.proofs.Common.{refl, sym, subst, ◌∙◌}
use Rattle.std.specs.Prelude.{All}
use Rattle.std.proofs.lemmas.List.Elements.{All-head, All-tail}
use Rattle.views.specs.LabelWalks.{labels_left}
use Rattle.views.specs.PlainWalks.{node_of}
use Rattle.hidden_texts.specs.Known.{IsKnownAt}
use Rattle.hidden_texts.specs.Walked.{hides_part_of}
use Rattle.hidden_texts.proofs.Anys.{first_passes, others_pass, none_passes}
use Rattle.hidden_texts.proofs.hiding.has_hidden_part.Goals as goal

pub loop-node-init : goal.loop-node-init
loop-node-init c = record { rest = refl; known = c.requires }

pub hides_part-requires : goal.hides_part-requires
hides_part-requires c =
    let P = IsKnownAt c.args.known in
    All-head P (node_of c.in-Some.node) (labels_left c.next.new.self) (subst (All P) c.in-Some.ensures.steps c.loop-node.invariant.known)

pub returns-then-hides_part : goal.returns-then-hides_part
returns-then-hides_part c =
    first_passes hides_part_of (labels_left c.loop-node.nodes) (labels_left c.next.new.self) (node_of c.in-Some.node) c.in-Some.ensures.steps (sym c.hides_part.ensures ∙ c.if-hides_part.true)
    ∙ c.loop-node.invariant.rest

pub loop-node-preserved : goal.loop-node-preserved
loop-node-preserved c =
    let P = IsKnownAt c.args.known in
    record {
      rest =
          others_pass hides_part_of (labels_left c.loop-node.nodes) (labels_left c.next.new.self) (node_of c.in-Some.node) c.in-Some.ensures.steps (sym c.hides_part.ensures ∙ c.if-hides_part.false)
          ∙ c.loop-node.invariant.rest;
      known = All-tail P (node_of c.in-Some.node) (labels_left c.next.new.self) (subst (All P) c.in-Some.ensures.steps c.loop-node.invariant.known);
    }

pub returns : goal.returns
returns c = none_passes hides_part_of (labels_left c.loop-node.nodes) c.in_default.ensures.steps.0 ∙ c.loop-node.invariant.rest
