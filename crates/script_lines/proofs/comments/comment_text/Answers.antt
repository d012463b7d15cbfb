use Rattle.std.proofs.Common.{ℕ, List, ap, ◌∙◌}
use Rattle.script_lines.specs.Comments.{without_space_after, without_space_before}
use Rattle.script_lines.proofs.CommentTexts.{trimmed}
use Rattle.script_lines.proofs.comments.comment_text.Goals as goal

pub returns : goal.returns
returns c =
    trimmed c.after_signs.result.now c.trim_ascii.result.now c.trim_ascii.ensures.value
    ∙ ap (λ (s : List ℕ). without_space_after (without_space_before s)) c.after_signs.ensures
