use Rattle.std.proofs.Common.{◌≡◌, List, ℕ, sym, subst, ◌∙◌}
use Rattle.std.specs.String.{string_bytes}
use Rattle.std.proofs.lemmas.Result.{on_ok_weaker}
use Rattle.views.specs.Nodes.{world_at, id_at}
use Rattle.phrases.specs.Differences.{IsEdit}
use Rattle.speaking.specs.Edits.{SaysEdit}
use Rattle.speaking.proofs.edits.say_edit.Goals as goal

pub returns-in-Some : goal.returns-in-Some
returns-in-Some c =
    let change = c.in-Some.change in
    let caret = c.args.now.now.caret in
    let was : c.as_str.result.now ≡ string_bytes c.args.before.now.text = c.as_str.ensures.value in
    let is : c.as_str-2.result.now ≡ string_bytes c.args.now.now.text = c.as_str-2.ensures.value in
    let made = subst (λ (t : List ℕ). IsEdit caret (string_bytes c.args.before.now.text) t change.removed.now change.typed.now) is
    (subst (λ (t : List ℕ). IsEdit caret t c.as_str-2.result.now change.removed.now change.typed.now) was c.in-Some.ensures.some) in
    on_ok_weaker {Q = SaysEdit (world_at c.args.node) (id_at c.args.node) c.args.before.now c.args.now.now c.args.voice.now c.say_later.new.self} _ (λ said. record {
      typed = λ far. (change, made, said);
      same = λ e. absurd (c.in-Some.ensures.other (was ∙ e ∙ sym is));
    }) c.say_later.ensures.ok
