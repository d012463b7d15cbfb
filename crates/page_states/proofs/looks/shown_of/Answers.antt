use Rattle.std.proofs.Common.{◌++◌, ◌∷◌, [], map, take, sym, ap, subst, ◌∙◌}
use Rattle.std.specs.Prelude.{All}
use Rattle.std.proofs.lemmas.List.{map-append, take_more}
use Rattle.std.proofs.lemmas.List.Elements.{All-get_or, All-push}
use Rattle.views.specs.ShownWorlds.{world_of}
use Rattle.page_states.specs.declared.rows.Shown.{Shown}
use Rattle.page_states.specs.Found.{IsPlaceIn}
use Rattle.page_states.specs.Looks.{place_shown, IsShownIn}
use Rattle.page_states.specs.Texts.{IsTold}
use Rattle.page_states.proofs.looks.shown_of.Goals as goal

pub next_look-requires-clause-place : goal.next_look-requires-clause-place
next_look-requires-clause-place c =
    let w = world_of c.args.state in
    let x = c.place-item.result in
    let placed : IsPlaceIn w x = subst (IsPlaceIn w) (sym c.place-item.is) (All-get_or (IsPlaceIn w) c.args.places.now c.loop-place.place-index x c.loop-place-test.true c.requires) in
    placed.1

pub next_look-requires-clause-told : goal.next_look-requires-clause-told
next_look-requires-clause-told c =
    let w = world_of c.args.state in
    let x = c.place-item.result in
    let placed : IsPlaceIn w x = subst (IsPlaceIn w) (sym c.place-item.is) (All-get_or (IsPlaceIn w) c.args.places.now c.loop-place.place-index x c.loop-place-test.true c.requires) in
    subst (λ v. IsTold v c.loop-place.told) (sym placed.0) c.loop-place.invariant.told

pub loop-place-preserved : goal.loop-place-preserved
loop-place-preserved c =
    let w = world_of c.args.state in
    let x = c.place-item.result in
    let i = c.loop-place.place-index in
    let inv = c.loop-place.invariant in
    let old = c.loop-place.shown.items in
    let placed : IsPlaceIn w x = subst (IsPlaceIn w) (sym c.place-item.is) (All-get_or (IsPlaceIn w) c.args.places.now i x c.loop-place-test.true c.requires) in
    let one : Shown = record { place = x; look = c.in_ok-look.look } in
    record {
      told = subst (λ v. IsTold v c.next_look.new.told) placed.0 c.next_look.ensures.told;
      places =
          ap (map place_shown) c.in_ok-push.ensures.items ∙ map-append place_shown old (one ∷ []) ∙ ap (λ l. l ++ x ∷ []) inv.places
          ∙ ap (λ n. take i c.args.places.now ++ n ∷ []) c.place-item.is ∙ sym (take_more c.args.places.now i x c.loop-place-test.true);
      looks = subst (All (IsShownIn c.args.frame)) (sym c.in_ok-push.ensures.items) (All-push (IsShownIn c.args.frame) old one inv.looks c.in_ok-look.ensures.look);
    }
