-- Named nodes, one by one from either end.
use Rattle.std.proofs.Common.{◌≡◌, ◌<◌, ℕ, Bool, true, false, List, [], ◌∷◌, ◌++◌, append-nil, length, length-append, arith, refl, sym, ◌∙◌, ap, subst, map}
use Rattle.std.specs.Prelude.{Some, None, is_some, filter_map}
use Rattle.std.specs.Bool.{then_some}
use Rattle.std.specs.List.{cons_option}
use Rattle.std.proofs.lemmas.List.{map-append}
use Rattle.std.proofs.lemmas.List.Elements.{filter_map-append}
use Rattle.std.proofs.lemmas.Option.{none-some}
use Rattle.schema.specs.declared.NodeId.{NodeId}
use Rattle.model.specs.declared.FullNodeId.{FullNodeId}
use Rattle.model.specs.World.{World, IsNode, data_of, in_tree}
use Rattle.model.specs.Upward.{if_there}
use Rattle.views.specs.declared.node.node_ref.NodeRef.{NodeRef}
use Rattle.views.specs.Nodes.{id_at, ShowsThe}
use Rattle.views.specs.PlainWalks.{node_in, node_of}
use Rattle.views.specs.Controlled.{named_nodes, joined_at}

there : (w : World) (id : FullNodeId) → IsNode w id → if_there w id ≡ Some id
there w id h = ap (λ b. then_some b id) h

gone : (w : World) (id : FullNodeId) → ¬ (IsNode w id) → if_there w id ≡ None
gone w id h = go (is_some (data_of w id)) refl
  where
    go : (b : Bool) → is_some (data_of w id) ≡ b → then_some (is_some (data_of w id)) id ≡ None
    go true e = absurd (h e)
    go false e = ap (λ b. then_some b id) e

module _ (w : World) (tree : ℕ) (n : NodeId) where
  found_there : (found : NodeRef) → ShowsThe w (λ it. (it ≡ in_tree tree n) × IsNode w it) (Some found) → if_there w (in_tree tree n) ≡ Some (id_at found)
  found_there found shows =
      let is = (shows.node (id_at found)).0 refl in
      there w (in_tree tree n) (subst (IsNode w) is.0 is.1) ∙ ap Some (sym is.0)

  found_gone : ShowsThe w (λ it. (it ≡ in_tree tree n) × IsNode w it) None → if_there w (in_tree tree n) ≡ None
  found_gone shows = gone w (in_tree tree n) (λ h. none-some (in_tree tree n) ((shows.node (in_tree tree n)).1 (refl, h)))

  abbrev listed : List NodeId → List FullNodeId
  listed ids = filter_map (λ m. if_there w (in_tree tree m)) ids

  module _ (ids rest : List NodeId) (found : NodeRef) (shows : ShowsThe w (λ it. (it ≡ in_tree tree n) × IsNode w it) (Some found)) where
    first_there : ids ≡ n ∷ rest → named_nodes w tree ids ≡ node_of found ∷ named_nodes w tree rest
    first_there e =
        ap (named_nodes w tree) e ∙ ap (λ o. map (node_in w) (cons_option o (listed rest))) (found_there found shows)
        ∙ ap (λ v. (v, id_at found) ∷ named_nodes w tree rest) (sym shows.world)

    last_there : ids ≡ rest ++ n ∷ [] → named_nodes w tree ids ≡ named_nodes w tree rest ++ node_of found ∷ []
    last_there e =
        ap (named_nodes w tree) e ∙ ap (map (node_in w)) (filter_map-append (λ m. if_there w (in_tree tree m)) rest (n ∷ []))
        ∙ map-append (node_in w) (listed rest) (listed (n ∷ []))
        ∙ ap (λ o. named_nodes w tree rest ++ map (node_in w) (cons_option o [])) (found_there found shows)
        ∙ ap (λ v. named_nodes w tree rest ++ (v, id_at found) ∷ []) (sym shows.world)

    pub end_there : (b : Bool) → ids ≡ joined_at b n rest → named_nodes w tree ids ≡ joined_at b (node_of found) (named_nodes w tree rest)
    end_there false e = first_there e
    end_there true e = last_there e

  module _ (ids rest : List NodeId) (shows : ShowsThe w (λ it. (it ≡ in_tree tree n) × IsNode w it) None) where
    first_gone : ids ≡ n ∷ rest → named_nodes w tree ids ≡ named_nodes w tree rest
    first_gone e = ap (named_nodes w tree) e ∙ ap (λ o. map (node_in w) (cons_option o (listed rest))) (found_gone shows)

    last_gone : ids ≡ rest ++ n ∷ [] → named_nodes w tree ids ≡ named_nodes w tree rest
    last_gone e =
        ap (named_nodes w tree) e ∙ ap (map (node_in w)) (filter_map-append (λ m. if_there w (in_tree tree m)) rest (n ∷ []))
        ∙ map-append (node_in w) (listed rest) (listed (n ∷ []))
        ∙ ap (λ o. named_nodes w tree rest ++ map (node_in w) (cons_option o [])) (found_gone shows) ∙ append-nil (named_nodes w tree rest)

    pub end_gone : (b : Bool) → ids ≡ joined_at b n rest → named_nodes w tree ids ≡ named_nodes w tree rest
    end_gone false e = first_gone e
    end_gone true e = last_gone e

pub fewer_beyond : {A : Type 0} (b : Bool) (x : A) (xs ys : List A) → ys ≡ joined_at b x xs → length xs < length ys
fewer_beyond false x xs ys e = omega (arith, ap length e)
fewer_beyond true x xs ys e = omega (arith, ap length e, length-append xs (x ∷ []))
