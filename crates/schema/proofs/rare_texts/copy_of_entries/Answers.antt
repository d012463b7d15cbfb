-- The new entry of the copy says what the next entry says.
use Rattle.std.proofs.Common.{ap, ◌∙◌, sym, map, take, get_or, ◌≡◌, ◌++◌, ◌∷◌, []}
use Rattle.std.specs.Prelude.{string_bytes}
use Rattle.std.proofs.lemmas.List.{map-append, take_more}
use Rattle.schema.specs.RareTexts.{entry_seen}
use Rattle.schema.proofs.rare_texts.copy_of_entries.Goals as goal

pub loop-entry-preserved : goal.loop-entry-preserved
loop-entry-preserved c =
    let x = c.entry-item.result in let i = c.loop-entry.entry-index in let es = c.args.entries.now in
    let before = map entry_seen (take i es) in let text = c.in_ok-text.text in
    let bytes : string_bytes text ≡ string_bytes x.1 = c.in_ok-text.ensures.ok ∙ c.as_str.ensures.value in
    ap (λ l. map entry_seen l) c.in_ok-push.ensures.items ∙ map-append entry_seen c.loop-entry.copy.items ((x.0, text) ∷ [])
    ∙ ap (λ l. l ++ (x.0, string_bytes text) ∷ []) c.loop-entry.invariant
    ∙ ap (λ b. before ++ (x.0, b) ∷ []) bytes ∙ ap (λ y. before ++ entry_seen y ∷ []) c.entry-item.is
    ∙ sym (map-append entry_seen (take i es) (get_or es i x ∷ [])) ∙ ap (λ l. map entry_seen l) (sym (take_more es i x c.loop-entry-test.true))
