use Rattle.std.proofs.Common.{◌≡◌, ℕ, ◌-◌, Bool, false, List, [], ◌∷◌, ◌∙◌, sym, ap}
use Rattle.std.specs.Prelude.{if◌then◌else◌}
use Rattle.schema.specs.TextCalls.{WithText}
use Rattle.views.specs.Writes.{bullet_calls}
use Rattle.texts.specs.PieceTexts.{shown_piece}
use Rattle.texts.specs.declared.pieces.Piece.{Piece}
use Rattle.texts.proofs.CutPieces.{plain_part, masked_part}
use Rattle.views.proofs.Writing.{written_as, cut_short_as, taken_as}
use Rattle.views.proofs.Calling.{called_as, broken_off_as, taken_by, failed_by}
use Rattle.texts.proofs.pieces.Piece.write.Goals as goal

-- what is written of a piece that isn't masked
plain_call : (p : Piece) (masked : Bool) (sent : List ℕ) → sent ≡ shown_piece false p → masked ≡ false → (WithText sent ∷ []) ≡ (if masked then bullet_calls (p.to - p.from) else WithText (shown_piece masked p) ∷ [])
plain_call p masked sent is off =
    ap (λ text. WithText text ∷ []) (is ∙ ap (λ b. shown_piece b p) (sym off)) ∙ ap (λ b. if b then bullet_calls (p.to - p.from) else WithText (shown_piece masked p) ∷ []) (sym off)

pub returns-then-masked-clause-ok : goal.returns-then-masked-clause-ok
returns-then-masked-clause-ok g c =
    written_as g.W.TextWrite.received g.W.TextWrite.faults c.args.writer.now c.write_bullets.new.writer c.write_bullets.result
    (masked_part c.args.self c.requires.part ∙ ap (λ b. shown_piece b c.args.self) (sym c.if-masked.true)) c.write_bullets.ensures.ok

pub returns-then-masked-clause-err : goal.returns-then-masked-clause-err
returns-then-masked-clause-err g c =
    cut_short_as g.W.TextWrite.received g.W.TextWrite.faults c.args.writer.now c.write_bullets.new.writer c.write_bullets.result
    (masked_part c.args.self c.requires.part ∙ ap (λ b. shown_piece b c.args.self) (sym c.if-masked.true)) c.write_bullets.ensures.err

pub returns-clause-ok : goal.returns-clause-ok
returns-clause-ok g c =
    taken_as g.W.TextWrite.received g.W.TextWrite.faults c.args.writer.now c.write_str.new.self c.write_str.result
    (c.sent.ensures ∙ plain_part c.args.self ∙ ap (λ b. shown_piece b c.args.self) (sym c.if-masked.false)) c.write_str.ensures.ok

pub returns-then-masked-clause-called : goal.returns-then-masked-clause-called
returns-then-masked-clause-called g c =
    let p = c.args.self in
    called_as g.W.TextWrite.steps c.args.writer.now c.write_bullets.new.writer c.write_bullets.result
    (ap (λ b. if b then bullet_calls (p.to - p.from) else WithText (shown_piece c.args.masked p) ∷ []) (sym c.if-masked.true)) c.write_bullets.ensures.called

pub returns-then-masked-clause-stopped : goal.returns-then-masked-clause-stopped
returns-then-masked-clause-stopped g c =
    let p = c.args.self in
    broken_off_as g.W.TextWrite.steps c.args.writer.now c.write_bullets.new.writer c.write_bullets.result
    (ap (λ b. if b then bullet_calls (p.to - p.from) else WithText (shown_piece c.args.masked p) ∷ []) (sym c.if-masked.true)) c.write_bullets.ensures.stopped

pub returns-clause-called : goal.returns-clause-called
returns-clause-called g c =
    called_as g.W.TextWrite.steps c.args.writer.now c.write_str.new.self c.write_str.result
    (plain_call c.args.self c.args.masked c.sent.result.now (c.sent.ensures ∙ plain_part c.args.self) c.if-masked.false)
    (taken_by g.W.TextWrite.steps c.args.writer.now c.write_str.new.self (WithText c.sent.result.now) c.write_str.result c.write_str.ensures.called)

pub returns-clause-stopped : goal.returns-clause-stopped
returns-clause-stopped g c =
    broken_off_as g.W.TextWrite.steps c.args.writer.now c.write_str.new.self c.write_str.result
    (plain_call c.args.self c.args.masked c.sent.result.now (c.sent.ensures ∙ plain_part c.args.self) c.if-masked.false)
    (failed_by g.W.TextWrite.steps c.args.writer.now c.write_str.new.self (WithText c.sent.result.now) c.write_str.result c.write_str.ensures.called)
