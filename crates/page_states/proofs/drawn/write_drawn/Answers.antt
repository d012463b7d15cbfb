use Rattle.std.proofs.Common.{◌≡◌, List, ℕ, subst}
use Rattle.std.specs.Prelude.{option_copied}
use Rattle.std.specs.Io.KnownBytes.{Appends}
use Rattle.std.proofs.KnownBytes.{Appends-trans}
use Rattle.std.proofs.lemmas.Result.{on_ok_weaker}
use Rattle.page_states.specs.Drawn.{box_class, caption_in, is_leaf, text_in_box}
use Rattle.page_states.specs.Pictures.{rect_text}
use Rattle.page_states.proofs.drawn.write_drawn.Goals as goal

pub returns : goal.returns
returns g c =
    let contents = g.O.Write.contents in
    let place = c.args.place.now in
    let rect = c.args.rect in
    let old = contents c.args.out.now in let boxed = contents c.write_rect.new.out in let new = contents c.write_caption.new.out in
    let caption = caption_in c.args.frame rect in
    let first = subst (λ (class : List ℕ). Appends old boxed (rect_text class rect)) c.box_class.ensures c.in_ok-write_rect.ensures in
    let same : caption c.is_leaf-is_leaf.result (option_copied c.text_in_box.result) ≡ caption (is_leaf place) (text_in_box place) =
    λ i. caption (c.is_leaf-is_leaf.ensures i) (c.text_in_box.ensures i) in
    on_ok_weaker _ (λ last. Appends-trans old boxed new (rect_text (box_class place) rect) (caption (is_leaf place) (text_in_box place)) first
    (subst (λ (text : List ℕ). Appends boxed new text) same last)) c.write_caption.ensures
