use Rattle.std.proofs.Common.{◌∙◌}
use Rattle.texts.proofs.CutPieces.{whole_as_sent, before_cut_off, part_cut_off, part_as_sent, after_fits, part_ends}
use Rattle.texts.proofs.pieces.Piece.sent.Goals as goal

pub returns-then-self-lengths : goal.returns-then-self-lengths
returns-then-self-lengths c =
    whole_as_sent c.args.self c.requires c.value-value.result.now c.character_lengths-lengths.result.now c.node.result.now c.value-value.ensures c.character_lengths-lengths.ensures c.node.ensures
    c.if-self-eq0.true c.if-self-lengths.true

pub past-rest-requires : goal.past-rest-requires
past-rest-requires c =
    before_cut_off c.args.self c.requires c.value-value.result.now c.character_lengths-lengths.result.now c.node.result.now c.value-value.ensures c.character_lengths-lengths.ensures c.node.ensures

pub past-after-requires : goal.past-after-requires
past-after-requires c =
    part_cut_off c.args.self c.requires c.value-value.result.now c.character_lengths-lengths.result.now c.node.result.now c.value-value.ensures c.character_lengths-lengths.ensures c.node.ensures
    c.past-rest.result.now c.past-rest.ensures

pub overflow_sub-rest : goal.overflow_sub-rest
overflow_sub-rest c =
    after_fits c.value-value.result.now c.character_lengths-lengths.result.now c.args.self.from c.args.self.to c.past-rest.result.now c.past-after.result.now c.past-rest.ensures c.past-after.ensures

pub split_at-requires : goal.split_at-requires
split_at-requires c =
    part_ends c.value-value.result.now c.character_lengths-lengths.result.now c.args.self.from c.args.self.to c.past-rest.result.now c.past-after.result.now c.past-rest.ensures c.past-after.ensures c.past-after.utf8

pub returns : goal.returns
returns c =
    c.split_at.ensures.front
    ∙ part_as_sent c.args.self c.requires c.value-value.result.now c.character_lengths-lengths.result.now c.node.result.now c.value-value.ensures c.character_lengths-lengths.ensures c.node.ensures
    c.past-rest.result.now c.past-rest.ensures c.past-after.result.now c.past-after.ensures
