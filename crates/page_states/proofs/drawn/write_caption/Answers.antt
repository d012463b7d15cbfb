use Rattle.std.proofs.Common.{◌++◌, codes, length}
use Rattle.std.specs.Prelude.{option_copied}
use Rattle.std.specs.Io.KnownBytes.{Appends}
use Rattle.std.proofs.KnownBytes.{Appends-trans}
use Rattle.std.proofs.lemmas.Result.{on_ok_weaker}
use Rattle.html.specs.Escaped.{escaped}
use Rattle.page_states.specs.Drawn.{caption_in, text_begun}
use Rattle.page_states.proofs.drawn.write_caption.Goals as goal

pub returns : goal.returns
returns g c =
    let contents = g.O.Write.contents in
    let text = c.in-Some.text.now in
    let begun = text_begun c.args.frame c.args.rect c.args.is_leaf (length text) in
    let ended = codes "</text></svg>" in
    let old = contents c.args.out.now in
    let new = contents c.write_all.new.self in
    let before = Appends-trans _ _ _ begun (escaped text) c.in_ok-begin_text.ensures c.in_ok-write_escaped.ensures.written in
    let said = caption_in c.args.frame c.args.rect c.args.is_leaf (option_copied c.args.text) in
    on_ok_weaker {Q = Appends old new said} _ (λ last. rw c.in-Some.is (Appends-trans _ _ _ (begun ++ escaped text) ended before last)) c.write_all.ensures.bytes
