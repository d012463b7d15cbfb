use Rattle.std.proofs.Common.{◌-◌, ◌≤◌, arith, drop, length, ◌∙◌}
use Rattle.std.proofs.lemmas.List.{length-drop, take_all}
use Rattle.script_lines.proofs.CommentTexts.{after_these}
use Rattle.script_lines.proofs.comments.after_signs.Goals as goal

pub returns : goal.returns
returns c =
    let line = c.args.line.now in
    let n = c.sign_count.result in
    let left : length (drop n line) ≤ length line - n = let e = length-drop n line in omega arith in
    take_all (length line - n) (drop n line) left ∙ after_these line n c.sign_count.ensures.bound c.sign_count.ensures.passes c.sign_count.ensures.stops
