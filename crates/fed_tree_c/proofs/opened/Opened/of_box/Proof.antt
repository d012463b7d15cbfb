-- The call takes the box and gives the pointer with what the box owned, which then belongs to the opened box.
-- A call that is generic takes a lifetime for each of its types: here the value's, and a new one for the allocator.
use Rattle.fed_tree_c.proofs.Walking.{[], ◌∷◌, refl, ap, proved, ftrue, flft, fact, ‵, raw, ◌⊛◌, some, later, id⊢, tables, ◌$◌, ◌∵◌, !, qed, done, keep, move, drop, split, join, fjoin, fpack, pick, await, use1, use2, suffices, agg, enter, of_opd, and_then, no_more, returns, alloc_all, pass_all, free_all, look_at, get, sets, lands_as, no, plain, nothing, owned, heard, feq_l, full_share, Ptr, Struct, shape, Stays, says, stay_dropped, Goes-dropped, ends_at, triple_of, framed, walk_of, calls_at}
use Rattle.fed_tree_c.proofs.Heap.{box_tells, box_word, heap_arg, heap_arg_laws, heap_glue, no_drop}
use Rattle.fed_tree_c.proofs.Words.{is_word, ptr_fits, word, word_fits, word_makes}
use mir.Syntax.{a_type, dnil, dcons, Dict, Args}
use mir.MapTy.{inst_fn}
use base.Logic.{emp}
use contract.Monad.{fact_i}
use contract.Lifetimes.{Lfts}
use contract.BorrowLft.{◌⊑◌}
use types.Kit.{use0}
use types.Tokens.{lft_new}
use denote.Builtin.{RawPtr}
use denote.Param.{bounded, param}
use denote.Param.Laws.{param_laws}
use denote.RattleType.{RattleType}
use denote.Steps.{only}
use denote.Triple.Clauses.{Lasts, lasts}
use denote.Triple.Entry.{Args as Values}
use Rattle.std.specs.Box.Ownership.{box_owns}
use Rattle.std.specs.declared.alloc.Global.{Global}
use Rattle.std.specs.contracts.alloc.Global.{the_row as heap_row}
use Rattle.std.proofs.alloc.Global.TheLaws.{the_within as static, the_row_laws as heap_laws}
use Rattle.std.specs.contracts.impls.GlobalAllocator.TheImpl.{ghosts, dict}
use Rattle.std.proofs.impls.GlobalAllocator.TheImpl.Met.{passed}
use Rattle.std_alloc.specs.contracts.boxed.Box.{the_row as box_row}
use Rattle.std_alloc.proofs.boxed.Box.TheLaws as box_laws
use Rattle.std_alloc.specs.contracts.boxed.Box.into_raw as g
use Rattle.std_alloc.proofs.boxed.Box.into_raw.Met.{met}
use Rattle.fed_tree_c.specs.contracts.opened.Opened.{the_type}
use Rattle.fed_tree_c.specs.contracts.opened.Opened.of_box as f
use Rattle.fed_tree_c.proofs.opened.Opened.of_box.Statement.{statement}
use Rattle.fed_tree_c.proofs.opened.Opened.of_box.Code as code

abbrev at : RattleType → Dict → Args
at T drops = bounded (a_type ∷ []) (T, tt) (dcons drops dnil)

module _ (T : RattleType) (drops : Dict) where
  abbrev stayed : Stays (f.ended T drops).signature.params (f.ended T drops).kept
  stayed = (stay_dropped _ no, tt)

pub of_box_spec : {M : Type 1} → statement M
of_box_spec {M} 𝓤 𝓛 𝓜 𝓡 wired T laws drops dropped =
    let c = f.clauses T drops 𝓛 𝓜.mem 𝓡.returns in let R = param 0 T in let B = box_row R heap_row ghosts in let 𝓣 = tables 𝓤 𝓛.H 𝓜 𝓡 𝓡.env in
    proved 𝓛 (f.ended T drops) (stayed T drops) c 𝓜 𝓡 (Goes-dropped 𝓛 1 (plain (λ _. B)) no (λ κs x w. refl), tt)
    (f.Key.name (at T drops)) (inst_fn (at T drops) code.function) (code.unfolded 𝓤 𝓛.H 𝓜 𝓡 wired (T, tt) drops)
    (λ κs. ((λ d. box_word R d ∷ []), tt)) (λ κs. (box_tells R, tt)) (λ κs qs bounds a n are.
    let κ = κs.0 in let q = qs.0 in let b = a.0 in let vs = box_word R b ∷ [] in let S = shape (the_type R) in
    let fits = (((box_laws.the_field_loose R heap_row ghosts (param_laws 0 T laws) heap_laws).lawful 𝓛).typed b vs are.0).0 in
    let W = walk_of 𝓛 (f.ended T drops) (stayed T drops) c in let y : W.Ghost = ((κs, qs, bounds, a, (vs, tt)), tt) in
    qed 𝓛 (((‵ (flft κ q) ⊛ ‵ ftrue) ⊛ ‵ (B.own_val b vs) ⊛ ‵ ftrue) ∷ (raw (fact 𝓤 (κ ⊑ T.lives)) ⊛ raw (emp 𝓤)) ∷ []) ∵
    split ! $ split ! $ move ! (2 ∷ []) $ split ! $ keep ! (4 ∷ 0 ∷ 2 ∷ []) $ split ! $ heard ! _ (λ le. drop ! $
    -- [the box; the token]
    enter ! _ _ _ _ _ $ alloc_all ! (λ l. pass_all ! refl (fits, tt) $
    sets ! (of_opd ! (get ! refl)) refl fits $
    lft_new ! tt (λ α. let at_call : Lfts 2 = (κ, (α ∷ [], tt)) in let E = g.ended T heap_arg ghosts dict no_drop drops in
    let args : Values E.signature at_call = (b, tt) in let G = triple_of 𝓛 E.signature (g.spec T heap_arg ghosts dict no_drop drops 𝓛 𝓜.mem 𝓡.returns) in
    let z : G.Ghost = ((at_call, (q, (full_share, tt)), tt, args, (vs, tt)), tt) in
    -- [the new lifetime's token; the box; the token]
    nothing ! $ use0 𝓛 (raw (fact 𝓤 ((α ∷ []) ⊑ heap_row.lives))) (fact_i 𝓤 ((α ∷ []) ⊑ heap_row.lives) (emp 𝓤) (static (α ∷ []))) $ join ! $
    use0 𝓛 (raw (fact 𝓤 (κ ⊑ T.lives))) (fact_i 𝓤 (κ ⊑ T.lives) (emp 𝓤) le) $ join ! $
    nothing ! $ move ! (3 ∷ 0 ∷ []) $ join ! $ nothing ! $ move ! (3 ∷ 0 ∷ []) $ join ! $ move ! (3 ∷ 0 ∷ []) $ join ! $ join ! $ use2 𝓛 (raw (G.pre z)) (id⊢ 𝓤 _) $
    calls_at ! (framed 𝓤 𝓛.H 𝓜 𝓣) G
    (met 𝓤 𝓛 𝓜 𝓡 (code.calls-std_alloc::boxed::Box::into_raw 𝓡.env wired) T heap_arg laws heap_arg_laws ghosts dict no_drop drops
    (passed 𝓡.env (code.calls-std_heap::GlobalAllocator::allocate 𝓡.env wired) (code.calls-std_heap::GlobalAllocator::deallocate 𝓡.env wired)
    (code.calls-std_heap::GlobalAllocator::grow 𝓡.env wired) (code.calls-std_heap::GlobalAllocator::shrink 𝓡.env wired) M 𝓤 𝓛 𝓜 𝓡)
    (heap_glue 𝓛 𝓜 𝓡 (code.calls-fed_tree_c::Destruct++none::drop 𝓡.env wired)) dropped)
    z (and_then ! (get ! refl) (no_more !)) (λ v.
    use1 𝓛 (later (some (λ (p : Ptr). ((‵ (flft κ q) ⊛ ‵ (flft (α ∷ []) full_share) ⊛ ‵ ftrue) ⊛ ‵ (RawPtr.own_val p (v ∷ []))) ⊛
    some (λ (ws : Lasts E at_call args). ‵ (lasts E at_call args ws) ⊛ ‵ (box_owns (ghosts.dealloc_token b.alloc) R p b.value))))) (id⊢ 𝓤 _) $
    await ! tt $ pick ! (λ p. split ! $ split ! $ split ! $ move ! (1 ∷ []) $ drop ! $ move ! (2 ∷ []) $ pick ! (λ ws. split ! $ drop ! $
    move ! (2 ∷ []) $ feq_l ! (λ is.
    -- [the block; the token]
    lands_as ! (ap only is) refl (ptr_fits p) $
    sets ! (agg ! (and_then ! (get ! refl) (no_more !))) refl (word_fits p) $
    returns ! (look_at ! 0 refl) $ free_all ! refl $
    suffices ! _ (ends_at 𝓛 (f.ended T drops) (stayed T drops) c y (word p) (record { at = p; value = b.value }) (tt, tt) (tt, tt)) $ says ! refl $
    fpack ! Global (λ h. box_owns (ghosts.dealloc_token h) R p b.value) b.alloc $
    owned ! (Struct S) _ (word_makes S.name [] S.types 𝓛) (p, tt) (word p ∷ []) (is_word S.name [] S.types p) $ fjoin ! $
    nothing ! $ nothing ! $ join ! $ nothing ! $ move ! (3 ∷ 0 ∷ []) $ join ! $ done !))))))))
