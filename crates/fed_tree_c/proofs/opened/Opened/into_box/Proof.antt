-- What the opened box owned goes to the call, which gives a box of the same value.
-- A call that is generic takes a lifetime for each of its types: here the value's, and a new one for the allocator.
use Rattle.fed_tree_c.proofs.Walking.{◌≡◌, [], ◌∷◌, refl, proved, ftrue, flft, fact, ‵, raw, ◌⊛◌, some, later, id⊢, tables, ◌$◌, ◌∵◌, !, qed, done, keep, move, drop, split, join, fsplit, fpick, pick, await, use1, use2, suffices, whole, sub, enter, of_opd, and_then, no_more, stop, fld, returns, alloc_all, pass_all, free_all, look_at, get, get_in, sets, yes, no, plain, nothing, heard, full_share, Val, Stays, says, stay_dropped, Goes-dropped, ends_at, triple_of, framed, lasts, walk_of}
use Rattle.fed_tree_c.proofs.Heap.{heap_arg, heap_arg_laws, heap_glue, no_drop}
use Rattle.fed_tree_c.proofs.Words.{ptr_fits, word, word_fits}
use mir.Syntax.{a_type, Args}
use mir.MapTy.{inst_fn}
use base.Logic.{emp}
use contract.Monad.{fact_i}
use contract.Lifetimes.{Lfts}
use denote.Triple.Entry.{Args as Values}
use contract.BorrowLft.{◌⊑◌}
use denote.Laws.{shows}
use denote.Param.{layouts, param}
use denote.Param.Laws.{param_laws}
use denote.RattleType.{RattleType}
use denote.Steps.{peeks}
use denote.Struct.Laws.{RawPtr-laws}
use denote.Struct.OwningLaws.{Tells-lowered}
use denote.Triple.Call.{calls_at_last}
use types.ByLocal.{lands_last, env}
use types.Kit.{at_ret, feq_i, use0}
use mathlib.Core.List.{List}
use denote.Triple.Clauses.{Lasts, lasts}
use denote.RawPtr.{ptr_val}
use Rattle.std.specs.Box.Ownership.{box_owns}
use types.Run.{first, blocks, exec}
use types.Tokens.{lft_new}
use Rattle.std.proofs.VecSteps.Shapes.{after}
use Rattle.std.specs.contracts.alloc.Global.{the_row as heap_row}
use Rattle.std.proofs.alloc.Global.TheLaws.{the_within as static, lowers as heap_lowers, the_row_laws as heap_laws}
use Rattle.std.specs.contracts.impls.GlobalAllocator.TheImpl.{ghosts, dict}
use Rattle.std.proofs.impls.GlobalAllocator.TheImpl.Met.{passed}
use Rattle.std_alloc.specs.contracts.boxed.Box.{the_row as box_row}
use Rattle.std_alloc.proofs.boxed.Box.TheLaws as box_laws
use Rattle.std_alloc.specs.contracts.boxed.Box.from_raw as g
use Rattle.std_alloc.proofs.boxed.Box.from_raw.Met.{met}
use Rattle.fed_tree_c.specs.contracts.opened.Opened.{the_row, the_type}
use Rattle.fed_tree_c.specs.contracts.opened.Opened.into_box as f
use Rattle.fed_tree_c.proofs.opened.Opened.into_box.Statement.{statement}
use Rattle.fed_tree_c.proofs.opened.Opened.into_box.Code as code

abbrev at : RattleType → Args
at T = layouts (a_type ∷ []) (T, tt)

module _ (T : RattleType) where
  abbrev stayed : Stays (f.ended T).signature.params (f.ended T).kept
  stayed = (stay_dropped _ no, (stay_dropped _ yes, tt))

pub into_box_spec : {M : Type 1} → statement M
into_box_spec {M} 𝓤 𝓛 𝓜 𝓡 wired T laws =
    let c = f.clauses T 𝓛 𝓜.mem 𝓡.returns in let R = param 0 T in let O = the_row R in let 𝓣 = tables 𝓤 𝓛.H 𝓜 𝓡 𝓡.env in
    proved 𝓛 (f.ended T) (stayed T) c 𝓜 𝓡 (Goes-dropped 𝓛 1 (plain (λ _. O)) no (λ κs x w. refl), (Goes-dropped 𝓛 1 (plain (λ _. heap_row)) yes (λ κs x w. refl), tt))
    (f.Key.name (at T)) (inst_fn (at T) code.function) (code.unfolded 𝓤 𝓛.H 𝓜 𝓡 wired (T, tt))
    (λ κs. ((λ d. word d.at ∷ []), ((λ h. heap_lowers.lowered h ∷ []), tt))) (λ κs. (Tells-lowered (the_type R) (RawPtr-laws, tt), (heap_lowers.val_is, tt))) (λ κs qs bounds a n are.
    let κ = κs.0 in let q = qs.0 in let p = a.0.at in let x = a.0.value in let heap = a.1.0 in let hs = heap_lowers.lowered heap ∷ [] in let B = box_row R heap_row ghosts in
    let e = inst_fn (at T) code.function in let W = walk_of 𝓛 (f.ended T) (stayed T) c in let y : W.Ghost = ((κs, qs, bounds, a, (word p ∷ [], (hs, tt))), tt) in
    qed 𝓛 (((‵ (flft κ q) ⊛ ‵ ftrue) ⊛ ‵ (O.own_val a.0 (word p ∷ [])) ⊛ ‵ (heap_row.own_val heap hs) ⊛ ‵ ftrue) ∷ (raw (fact 𝓤 (κ ⊑ T.lives)) ⊛ raw (emp 𝓤)) ∷ []) ∵
    split ! $ split ! $ move ! (2 ∷ []) $ split ! $ move ! (1 ∷ []) $ split ! $ keep ! (5 ∷ 2 ∷ 0 ∷ 3 ∷ []) $
    split ! $ heard ! _ (λ le. drop ! $ fsplit ! $ drop ! $ fpick ! (λ h.
    use1 𝓛 (‵ (box_owns (ghosts.dealloc_token heap) R p x)) (id⊢ 𝓤 _) $
    -- [the block; the allocator; the token]
    enter ! _ _ _ _ _ $ alloc_all ! (λ l. pass_all ! refl (word_fits p, (((heap_laws.lawful 𝓛).typed heap hs are.1.0).0, tt)) $
    sets ! (of_opd ! (get_in ! (fld ! refl (stop !)) (sub ! 0 refl (whole !)))) refl (ptr_fits p) $
    first ! $ blocks ! $ lft_new ! tt (λ α. let at_call : Lfts 2 = (κ, (α ∷ [], tt)) in let E = g.ended T heap_arg ghosts dict no_drop in
    let args : Values E.signature at_call = (heap, (p, tt)) in let G = triple_of 𝓛 E.signature (g.spec T heap_arg ghosts dict no_drop 𝓛 𝓜.mem 𝓡.returns) in
    let z : G.Ghost = ((at_call, (q, (full_share, tt)), tt, args, (hs, (ptr_val p ∷ [], tt))), x) in
    -- [the new lifetime's token; the block; the allocator; the token]
    move ! (1 ∷ []) $ use0 𝓛 (raw (fact 𝓤 ((α ∷ []) ⊑ heap_row.lives))) (fact_i 𝓤 ((α ∷ []) ⊑ heap_row.lives) (emp 𝓤) (static (α ∷ []))) $ join ! $
    use0 𝓛 (raw (fact 𝓤 (κ ⊑ T.lives))) (fact_i 𝓤 (κ ⊑ T.lives) (emp 𝓤) le) $ join ! $
    nothing ! $ feq_i ! (List Val) (ptr_val p ∷ []) (ptr_val p ∷ []) refl $ join ! $ move ! (3 ∷ 0 ∷ []) $ join ! $
    nothing ! $ move ! (3 ∷ 0 ∷ []) $ join ! $ move ! (3 ∷ 0 ∷ []) $ join ! $ join ! $ use2 𝓛 (raw (G.pre z)) (id⊢ 𝓤 _) $
    calls_at_last ! (framed 𝓤 𝓛.H 𝓜 𝓣) G
    (met 𝓤 𝓛 𝓜 𝓡 (code.calls-std_alloc::boxed::Box::from_raw 𝓡.env wired) T heap_arg laws heap_arg_laws ghosts dict no_drop
    (passed 𝓡.env (code.calls-std_heap::GlobalAllocator::allocate 𝓡.env wired) (code.calls-std_heap::GlobalAllocator::deallocate 𝓡.env wired)
    (code.calls-std_heap::GlobalAllocator::grow 𝓡.env wired) (code.calls-std_heap::GlobalAllocator::shrink 𝓡.env wired) M 𝓤 𝓛 𝓜 𝓡)
    (heap_glue 𝓛 𝓜 𝓡 (code.calls-fed_tree_c::Destruct++none::drop 𝓡.env wired)))
    z (and_then ! (get ! refl) (and_then ! (get ! refl) (no_more !))) (λ v.
    use1 𝓛 (later (some (λ (r : B.Denot). ((‵ (flft κ q) ⊛ ‵ (flft (α ∷ []) full_share) ⊛ ‵ ftrue) ⊛ ‵ (B.own_val r (v ∷ []))) ⊛
    some (λ (ws : Lasts E at_call args). ‵ (lasts E at_call args ws) ⊛
    raw (fact 𝓤 (r.value ≡ x)) ⊛ raw (fact 𝓤 (r.alloc ≡ heap)))))) (id⊢ 𝓤 _) $
    await ! tt $ pick ! (λ r. split ! $ split ! $ split ! $ move ! (1 ∷ []) $ drop ! $ move ! (2 ∷ []) $ pick ! (λ ws. split ! $ drop ! $ split ! $
    heard ! _ (λ same. drop ! $ move ! (1 ∷ []) $ peeks ! B _ (shows 𝓛 B) r (v ∷ []) (λ is.
    let fits = ((box_laws.the_field_loose R heap_row ghosts (param_laws 0 T laws) heap_laws).lawful 𝓛).typed r (v ∷ []) is in
    -- [the box; the token]
    lands_last ! refl fits.0 $ exec ! 𝓣.C 𝓣.Λ (env e.locals l) (after 2 e.body) (at_ret _ (W.post y)) $
    sets ! (of_opd ! (get ! refl)) refl fits.0 $
    returns ! (look_at ! 0 refl) $ free_all ! refl $
    suffices ! _ (ends_at 𝓛 (f.ended T) (stayed T) c y v r (tt, (tt, tt)) (tt, (tt, tt))) $ says ! same $
    nothing ! $ nothing ! $ join ! $ nothing ! $ join ! $ nothing ! $ move ! (3 ∷ 0 ∷ []) $ join ! $ done !))))))))))
