-- The pointer moves from the block into an opened box. The block has a value, so it owned what the opened box owns.
use Rattle.fed_tree_c.proofs.Walking.{◌≡◌, Bool, T, None, subst, sym, is_some, true, [], ◌∷◌, refl, Some, Option, proved, ftrue, fact, ‵, raw, ◌⊛◌, ◌$◌, ◌∵◌, !, qed, done, keep, drop, split, join, fsplit, fjoin, rewrite, suffices, agg, whole, sub, enter, of_opd, and_then, no_more, stop, fld, returns, alloc_all, pass_all, free_all, look_at, get, get_in, sets, yes, plain, nothing, owned, heard, Struct, shape, Stays, says, stay_dropped, Goes-dropped, ends_at}
use Rattle.fed_tree_c.proofs.Words.{is_word, ptr_fits, word, word_fits, word_makes}
use Rattle.fed_tree.specs.Fed.{Fed}
use Rattle.fed_tree.specs.contracts.feeding.FedTree.{the_row as tree_row}
use Rattle.fed_tree_c.specs.Held.{holds}
use Rattle.fed_tree_c.specs.contracts.block.Block.{the_row}
use Rattle.fed_tree_c.specs.contracts.block.Block.into_opened as f
use Rattle.fed_tree_c.specs.contracts.opened.Opened.{the_type as opened_type}
use Rattle.fed_tree_c.proofs.block.Block.TheLaws.{lowers}
use Rattle.fed_tree_c.proofs.block.Block.into_opened.Statement.{statement}
use Rattle.fed_tree_c.proofs.block.Block.into_opened.Code as code

abbrev stayed : Stays f.ended.signature.params f.ended.kept
stayed = (stay_dropped _ yes, tt)

the_tree : (o : Option Fed) → is_some o ≡ true → (tree : Fed) × (o ≡ Some tree)
the_tree (Some tree) there = (tree, refl)
the_tree None there = absurd (subst (λ (b : Bool). T b) (sym there) tt)

pub into_opened_spec : {M : Type 1} → statement M
into_opened_spec 𝓤 𝓛 𝓜 𝓡 wired =
    let c = f.clauses 𝓛 𝓜.mem 𝓡.returns in
    proved 𝓛 f.ended stayed c 𝓜 𝓡 (Goes-dropped 𝓛 0 (plain (λ _. the_row)) yes (λ κs x w. refl), tt)
    f.Key.name code.function (code.unfolded 𝓤 𝓛.H 𝓜 𝓡 wired)
    (λ κs. ((λ d. word d.at ∷ []), tt)) (λ κs. (lowers.val_is, tt)) (λ κs qs bounds a n are.
    let p = a.0.at in let S = shape (opened_type tree_row) in
    qed 𝓛 ((‵ ftrue ⊛ ‵ (the_row.own_val a.0 (word p ∷ [])) ⊛ ‵ ftrue) ∷ raw (fact 𝓤 (is_some a.0.fed ≡ true)) ∷ []) ∵
    split ! $ drop ! $ split ! $ fsplit ! $ drop ! $ keep ! (2 ∷ 0 ∷ []) $
    heard ! _ (λ there. let found = the_tree a.0.fed there in let tree = found.0 in let is = found.1 in rewrite ! 0 (λ (o : Option Fed). ‵ (holds p o)) is refl $
    -- [the block]
    enter ! _ _ _ _ _ $ alloc_all ! (λ l. pass_all ! refl (word_fits p, tt) $
    sets ! (of_opd ! (get_in ! (fld ! refl (stop !)) (sub ! 0 refl (whole !)))) refl (ptr_fits p) $
    sets ! (of_opd ! (get ! refl)) refl (ptr_fits p) $
    sets ! (agg ! (and_then ! (get ! refl) (no_more !))) refl (word_fits p) $
    returns ! (look_at ! 0 refl) $ free_all ! refl $
    suffices ! _ (ends_at 𝓛 f.ended stayed c ((κs, qs, bounds, a, (word p ∷ [], tt)), tt) (word p) (record { at = p; value = tree }) (tt, tt) (tt, tt)) $ says ! (sym is) $
    owned ! (Struct S) _ (word_makes S.name [] S.types 𝓛) (p, tt) (word p ∷ []) (is_word S.name [] S.types p) $ fjoin ! $
    nothing ! $ nothing ! $ join ! $ nothing ! $ done !)))
