use Rattle.std.proofs.Common.{length, ap, sym, ◌∙◌, Some}
use Rattle.page_states.specs.Differences.{flag_word, value_after}
use Rattle.page_states.proofs.FieldsTold.{flag_sent, if_ok_same, value_sent}
use Rattle.page_states.proofs.differences.sent_value.Goals as goal

pub returns-then-is_flag : goal.returns-then-is_flag
returns-then-is_flag c =
    let word = c.in_ok-from_slice.ensures.items ∙ c.as_bytes.ensures.value ∙ c.flag_word-word.ensures in
    ap Some (word ∙ ap flag_word (c.deref.ensures.value ∙ c.in_ok-written.ensures))
    ∙ flag_sent c.args.node.now c.args.field (sym c.is_flag.ensures ∙ c.if-is_flag.true)

pub returns : goal.returns
returns c =
    let written = c.deref-2.ensures.value ∙ c.in_ok-written.ensures in
    let sent = value_sent c.args.node.now c.args.field (sym c.is_flag.ensures ∙ c.if-is_flag.false) in
    if_ok_same c.value_after.result _ _ _ ((λ i. value_after (length (c.requires i)) (written i)) ∙ sent) c.value_after.ensures
