use Rattle.std.proofs.Common.{◌≡◌, ℕ, List, subst, ◌∙◌}
use Rattle.std.specs.Io.KnownBytes.{Appends}
use Rattle.std.proofs.KnownBytes.{Appends-trans}
use Rattle.std.proofs.lemmas.Result.{on_ok_weaker}
use Rattle.page_states.specs.Drawn.{caption_place, caption_size, caption_tag, clip_begun, fitting_size}
use Rattle.page_states.proofs.drawn.begin_caption.Goals as goal

pub returns : goal.returns
returns g c =
    let contents = g.O.Write.contents in
    let begun = contents c.begin_clip.new.out in
    let done = contents c.write_caption_tag.new.out in
    let fitting = fitting_size c.args.rect c.args.length in
    let size = caption_size c.args.frame c.args.rect c.args.length in
    let placed : c.caption_place.result.now ≡ caption_place fitting size = c.caption_place.ensures ∙ λ i. caption_place (c.fitting_size.ensures i) (c.caption_size-size.ensures i) in
    let same : caption_tag c.caption_place.result.now c.caption_size-size.result ≡ caption_tag (caption_place fitting size) size = λ i. caption_tag (placed i) (c.caption_size-size.ensures i) in
    on_ok_weaker _ (λ last. Appends-trans (contents c.args.out.now) begun done (clip_begun c.args.rect) (caption_tag (caption_place fitting size) size) c.in_ok-begin_clip.ensures
    (subst (λ (text : List ℕ). Appends begun done text) same last)) c.write_caption_tag.ensures
