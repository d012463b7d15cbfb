use Rattle.std.proofs.Common.{ℕ, List, ◌≡◌, ◌+◌, ◌++◌, [], drop, get_or, arith, refl, subst, sym}
use Rattle.std.specs.Io.KnownBytes.{Appends}
use Rattle.std.proofs.KnownBytes.{Appends-nil, Appends-trans}
use Rattle.line_text.specs.Shown.{shown, shown_after, shown_byte}
use Rattle.line_text.specs.declared.shown.Held.{Held}
use Rattle.line_text.proofs.ShownSteps.{shown_more, all_shown}
use Rattle.line_text.proofs.shown.write_shown.Goals as goal

pub loop-byte-init : goal.loop-byte-init
loop-byte-init g c = ([], refl, Appends-nil _)

pub loop-byte-preserved : goal.loop-byte-preserved
loop-byte-preserved g c =
    let so_far = c.loop-byte.invariant in
    let held = c.loop-byte.held in
    let text = c.args.text.now in
    let byte = get_or text c.loop-byte.byte-index 0 in
    let written = so_far.0 ++ shown_byte held byte in
    let more = shown_more held text so_far.0 _ c.loop-byte.byte-index (omega arith) so_far.1 in
    (written, subst (λ (h : Held). written ++ shown_after h (drop (c.loop-byte.byte-index + 1) text) ≡ shown text) (sym c.held_after-held.ensures) more, Appends-trans _ _ _ so_far.0 (shown_byte held byte) so_far.2 c.in_ok-write_byte.ensures)

pub returns : goal.returns
returns g c =
    let so_far = c.loop-byte.invariant in
    let P : List ℕ → Type 0 = λ written. Appends (g.O.Write.contents c.args.out.now) (g.O.Write.contents c.loop-byte.out) written in
    subst P (all_shown c.loop-byte.held c.args.text.now so_far.0 _ c.loop-byte.byte-index (omega arith) so_far.1) so_far.2
