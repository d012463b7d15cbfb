use Rattle.std.proofs.Common.{◌≡◌, ap, subst, ◌∙◌}
use Rattle.std.specs.Prelude.{OnOk}
use Rattle.phrases.specs.Voices.{Speech}
use Rattle.views.specs.Nodes.{seen_node, seen_through}
use Rattle.speaking.specs.Groups.{group_said}
use Rattle.speaking.specs.Headers.{headers_said}
use Rattle.speaking.specs.Landmarks.{list_said}
use Rattle.speaking.proofs.dialogs.say_around.Goals as goal

pub returns : goal.returns
returns c =
    let o = seen_through c.args.old in
    let n = seen_node c.args.new in
    let grouped = c.in_ok-say_group.ensures ∙ ap (group_said o n) c.in_ok-say_landmark.ensures in
    let around = c.in_ok-say_list.ensures ∙ ap (list_said o n) grouped in
    subst (λ (v : Speech). OnOk c.say_headers.result (c.say_headers.new.voice ≡ headers_said o n v)) around c.say_headers.ensures
