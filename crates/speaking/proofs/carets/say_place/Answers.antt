use Rattle.std.proofs.Common.{◌≡◌, OnOk, subst}
use Rattle.model.specs.Ranges.{selection_focus}
use Rattle.views.specs.Nodes.{world_at, id_at}
use Rattle.phrases.specs.Voices.{Speech}
use Rattle.speaking.proofs.FoundPlaces.{place_reached}
use Rattle.speaking.proofs.carets.say_place.Goals as goal

pub returns-in-Some : goal.returns-in-Some
returns-in-Some c =
    let n = c.args.node in
    let same = place_reached n (selection_focus (world_at n) (id_at n)) c.in-Some.caret c.args.before c.args.voice.now c.in-Some.ensures in
    subst (λ (s : Speech). OnOk c.say_reached.result (c.say_reached.new.voice ≡ s)) same c.say_reached.ensures
