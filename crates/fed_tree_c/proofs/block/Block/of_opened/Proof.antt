-- The pointer moves from the opened box into the block, and what it owned goes with it.
use Rattle.fed_tree_c.proofs.Walking.{[], ◌∷◌, refl, Some, proved, ftrue, ‵, ◌⊛◌, ◌$◌, ◌∵◌, !, qed, done, keep, drop, split, join, fsplit, fjoin, suffices, agg, whole, sub, enter, of_opd, and_then, no_more, stop, fld, returns, alloc_all, pass_all, free_all, look_at, get, get_in, sets, yes, plain, nothing, owned, Struct, shape, Stays, says, stay_dropped, Goes-dropped, ends_at}
use Rattle.fed_tree_c.proofs.Words.{is_word, ptr_fits, word, word_fits, word_makes}
use Rattle.fed_tree.specs.contracts.feeding.FedTree.{the_row as tree_row}
use Rattle.fed_tree_c.specs.contracts.block.Block.{the_type}
use Rattle.fed_tree_c.specs.contracts.block.Block.of_opened as f
use Rattle.fed_tree_c.specs.contracts.opened.Opened.{the_row as opened_row, the_type as opened_type}
use denote.Struct.Laws.{RawPtr-laws}
use denote.Struct.OwningLaws.{Tells-lowered}
use Rattle.fed_tree_c.proofs.block.Block.of_opened.Statement.{statement}
use Rattle.fed_tree_c.proofs.block.Block.of_opened.Code as code

abbrev stayed : Stays f.ended.signature.params f.ended.kept
stayed = (stay_dropped _ yes, tt)

pub of_opened_spec : {M : Type 1} → statement M
of_opened_spec 𝓤 𝓛 𝓜 𝓡 wired =
    let c = f.clauses 𝓛 𝓜.mem 𝓡.returns in let R = opened_row tree_row in
    proved 𝓛 f.ended stayed c 𝓜 𝓡 (Goes-dropped 𝓛 0 (plain (λ _. R)) yes (λ κs x w. refl), tt)
    f.Key.name code.function (code.unfolded 𝓤 𝓛.H 𝓜 𝓡 wired)
    (λ κs. ((λ d. word d.at ∷ []), tt)) (λ κs. (Tells-lowered (opened_type tree_row) (RawPtr-laws, tt), tt)) (λ κs qs bounds a n are.
    let p = a.0.at in let tree = a.0.value in
    qed 𝓛 ((‵ ftrue ⊛ ‵ (R.own_val a.0 (word p ∷ [])) ⊛ ‵ ftrue) ∷ ‵ ftrue ∷ []) ∵
    split ! $ drop ! $ split ! $ fsplit ! $ drop ! $
    -- [the block; nothing, twice]
    enter ! _ _ _ _ _ $ alloc_all ! (λ l. pass_all ! refl (word_fits p, tt) $
    sets ! (of_opd ! (get_in ! (fld ! refl (stop !)) (sub ! 0 refl (whole !)))) refl (ptr_fits p) $
    sets ! (of_opd ! (get ! refl)) refl (ptr_fits p) $
    sets ! (agg ! (and_then ! (get ! refl) (no_more !))) refl (word_fits p) $
    returns ! (look_at ! 0 refl) $ free_all ! refl $
    suffices ! _ (ends_at 𝓛 f.ended stayed c ((κs, qs, bounds, a, (word p ∷ [], tt)), tt) (word p) (record { at = p; fed = Some tree }) (tt, tt) (tt, tt)) $ says ! refl $
    keep ! (0 ∷ []) $ owned ! (Struct (shape the_type)) _ (word_makes (shape the_type).name [] [] 𝓛) (p, tt) (word p ∷ []) (is_word (shape the_type).name [] [] p) $ fjoin ! $
    nothing ! $ nothing ! $ join ! $ nothing ! $ done !))
