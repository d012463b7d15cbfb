use Rattle.std.proofs.Common.{◌≡◌, sym, subst, ◌∙◌}
use Rattle.std.specs.Prelude.{length, Some, IfOk, OnOk}
use Rattle.std.specs.Io.KnownBytes.{Appends}
use Rattle.model.specs.World.{root_of}
use Rattle.views.specs.Nodes.{id_at}
use Rattle.find.specs.Found.{found, is_enough}
use Rattle.find.specs.Told.{told_with}
use Rattle.find.specs.Wanted.{sought_of}
use Rattle.find.proofs.Rooted.{found_from_root, told_from_root}
use Rattle.find.proofs.search.tell_in.Goals as goal

pub returns-clause-printed : goal.returns-clause-printed
returns-clause-printed g c =
    let before = g.O.Write.contents c.args.output.now in
    let after = g.O.Write.contents c.tell_found.new.output in
    let sought = sought_of c.args.wanted.now in
    let top = id_at c.root.result in
    let shown = c.state.ensures ∙ c.tree.ensures in
    let is_root = subst (λ w. root_of w 0 ≡ Some top) shown c.root.ensures.node in
    subst (λ text. OnOk c.tell_found.result (Appends before after text)) (sym (told_from_root sought c.args.session.now top is_root c.args.near))
    (subst (λ w. OnOk c.tell_found.result (Appends before after (told_with c.args.near sought w top))) (c.root.ensures.world ∙ shown) c.tell_found.ensures.printed)

pub returns-clause-enough : goal.returns-clause-enough
returns-clause-enough g c =
    let sought = sought_of c.args.wanted.now in
    let top = id_at c.root.result in
    let shown = c.state.ensures ∙ c.tree.ensures in
    let is_root = subst (λ w. root_of w 0 ≡ Some top) shown c.root.ensures.node in
    subst (λ ids. IfOk c.tell_found.result (λ is. is ≡ is_enough c.args.wanted.now.any_number (length ids))) (sym (found_from_root sought c.args.session.now top is_root))
    (subst (λ w. IfOk c.tell_found.result (λ is. is ≡ is_enough c.args.wanted.now.any_number (length (found sought w top)))) (c.root.ensures.world ∙ shown) c.tell_found.ensures.enough)
