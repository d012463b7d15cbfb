use Rattle.std.proofs.Common.{◌-◌, ◌∙◌, sym, ap, arith}
use Rattle.texts.specs.PieceTexts.{shown_piece}
use Rattle.texts.proofs.CutPieces.{plain_part, masked_part}
use Rattle.texts.proofs.Passing.{fit_in, ends_at_bullet, so_many}
use Rattle.texts.proofs.pieces.Piece.shown.Goals as goal

pub prove-unreachable-requires : goal.prove-unreachable-requires
prove-unreachable-requires c =
    let room = fit_in c.args.bullets.now (c.args.self.to - c.args.self.from) (c.requires.enough c.if-masked.true) in
    omega (arith, room, c.if-prove.true)

pub split_at-requires : goal.split_at-requires
split_at-requires c = ends_at_bullet c.args.bullets.now (c.args.self.to - c.args.self.from) (c.requires.enough c.if-masked.true)

pub returns-then-masked : goal.returns-then-masked
returns-then-masked c =
    c.split_at.ensures.front ∙ so_many c.args.bullets.now (c.args.self.to - c.args.self.from) (c.requires.enough c.if-masked.true)
    ∙ masked_part c.args.self c.requires.part ∙ ap (λ b. shown_piece b c.args.self) (sym c.if-masked.true)

pub returns : goal.returns
returns c = c.sent.ensures ∙ plain_part c.args.self ∙ ap (λ b. shown_piece b c.args.self) (sym c.if-masked.false)
