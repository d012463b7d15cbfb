use Rattle.std.proofs.Common.{rules, ◌≡◌, true, ◌∙◌, refl, sym, ap, subst}
use Rattle.std.specs.Prelude.{false, ◌&&◌, IfOk}
use Rattle.std.proofs.lemmas.Result.{IfOk-weaker}
use Rattle.views.specs.Nodes.{world_at, id_at}
use Rattle.hidden_texts.specs.Known.{AreRight}
use Rattle.find.specs.Wanted.{has_texts, is_wanted, sought_of}
use Rattle.find.proofs.Wanting.{seen_is_wanted}
use Rattle.find.proofs.search.is_wanted.Goals as goal

pub has_texts-requires : goal.has_texts-requires
has_texts-requires c = subst (λ v. AreRight v c.args.passwords.now) (sym c.requires.world) c.requires.known

pub returns-then-not-has_role : goal.returns-then-not-has_role
returns-then-not-has_role c =
    let n = c.args.node in
    let sought = sought_of c.args.wanted.now in
    let out : c.has_role.result ≡ false = search rules in
    sym (seen_is_wanted sought (world_at c.args.top) (id_at n) n c.has_role.result c.requires.world refl c.has_role.ensures
    ∙ ap (λ b. b && has_texts sought (world_at n) (id_at n)) out)

pub returns : goal.returns
returns c =
    let n = c.args.node in
    let sought = sought_of c.args.wanted.now in
    let has : c.has_role.result ≡ true = search rules in
    IfOk-weaker c.has_texts.result _ _ (λ is same. same
    ∙ sym (seen_is_wanted sought (world_at c.args.top) (id_at n) n c.has_role.result c.requires.world refl c.has_role.ensures
    ∙ ap (λ b. b && has_texts sought (world_at n) (id_at n)) has)) c.has_texts.ensures
