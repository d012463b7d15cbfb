use Rattle.std.proofs.Common.{ℕ, subst}
use Rattle.std.specs.Io.KnownBytes.{Appends}
use Rattle.std.proofs.KnownBytes.{Appends-trans}
use Rattle.std.proofs.lemmas.Result.{on_ok_weaker}
use Rattle.page_states.specs.Drawn.{clip_begun, heading_size, heading_tag}
use Rattle.page_states.proofs.drawn.begin_heading.Goals as goal

pub returns : goal.returns
returns g c =
    let contents = g.O.Write.contents in
    let begun = contents c.begin_clip.new.out in
    let done = contents c.write_heading.new.out in
    on_ok_weaker _ (λ last. Appends-trans (contents c.args.out.now) begun done (clip_begun c.args.rect) (heading_tag (heading_size c.args.frame c.args.rect)) c.in_ok-begin_clip.ensures
    (subst (λ (n : ℕ). Appends begun done (heading_tag n)) c.heading_size.ensures last)) c.write_heading.ensures
