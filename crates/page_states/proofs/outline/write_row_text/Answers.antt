use Rattle.std.proofs.Common.{ℕ, List, ◌++◌, codes, Option, subst}
use Rattle.std.specs.Io.KnownBytes.{Appends}
use Rattle.std.proofs.KnownBytes.{Appends-trans}
use Rattle.std.proofs.lemmas.Result.{on_ok_weaker}
use Rattle.model.specs.declared.FullNodeId.{FullNodeId}
use Rattle.views.specs.Nodes.{world_at, id_at, data_at}
use Rattle.page_states.specs.Named.{role_bold}
use Rattle.page_states.specs.Rows.{focus_word, left_out_word, words_text}
use Rattle.page_states.specs.Said.{row_texts, state_words}
use Rattle.page_states.specs.Written.{small_id, word_text}
use Rattle.page_states.proofs.outline.write_row_text.Goals as goal

pub returns : goal.returns
returns g c =
    let contents = g.O.Write.contents in
    let place = c.args.place.now in
    let w = world_at place.node in let id = id_at place.node in
    let role = role_bold (data_at place.node).role in
    let texts = row_texts place.hidden w id in
    let words = words_text (state_words (data_at place.node)) in
    let focus = word_text (codes "em") (codes "f") (focus_word w id) in
    let why = word_text (codes "em") (codes "h") (left_out_word place) in
    let space = codes " " in
    let worded = subst (λ (all : List (Option (List ℕ))). Appends (contents c.write_texts.new.out) (contents c.write_words.new.out) (words_text all)) c.state_words.ensures c.in_ok-write_words.ensures in
    let focused = subst (λ (o : Option (List ℕ)). Appends (contents c.write_words.new.out) (contents c.write_word.new.out) (word_text (codes "em") (codes "f") o)) c.focus_word.ensures c.in_ok-write_word.ensures in
    let left = subst (λ (o : Option (List ℕ)). Appends (contents c.write_word.new.out) (contents c.write_word-2.new.out) (word_text (codes "em") (codes "h") o)) c.left_out_word.ensures c.in_ok-write_word-2.ensures in
    let one = Appends-trans _ _ _ role texts c.in_ok-write_role.ensures c.in_ok-write_texts.ensures in
    let two = Appends-trans _ _ _ (role ++ texts) words one worded in
    let three = Appends-trans _ _ _ (role ++ texts ++ words) focus two focused in
    let four = Appends-trans _ _ _ (role ++ texts ++ words ++ focus) why three left in
    let five = Appends-trans _ _ _ (role ++ texts ++ words ++ focus ++ why) space four c.in_ok-write_all.ensures.bytes in
    on_ok_weaker _ (λ last. Appends-trans _ _ _ (role ++ texts ++ words ++ focus ++ why ++ space) (small_id id) five
    (subst (λ (i : FullNodeId). Appends (contents c.write_all.new.self) (contents c.write_id.new.out) (small_id i)) c.id.ensures last)) c.write_id.ensures
