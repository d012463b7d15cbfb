-- The labels of a role, and the roles that there are, as a list of nodes is gone through.
use Rattle.std.proofs.Common.{◌≡◌, ℕ, ◌+◌, ◌<◌, List, [], ◌∷◌, ◌++◌, map, take, length, get_or, refl, sym, ap, ◌∙◌}
use Rattle.std.specs.Prelude.{Option, Some, None, option_map, string_bytes, String}
use Rattle.std.specs.Option.{option_to_list}
use Rattle.std.specs.List.{fold, filter_map, cons_option}
use Rattle.std.proofs.lemmas.List.{take_more, map-append, map_more}
use Rattle.std.proofs.lemmas.List.Sums.{fold_push}
use Rattle.std.proofs.lemmas.List.Elements.{filter_map-append}
use Rattle.schema.specs.declared.Role.{Role}
use Rattle.views.specs.declared.node.node_ref.NodeRef.{NodeRef}
use Rattle.views.specs.Nodes.{data_at}
use Rattle.queries.specs.Near.{label_by, with_role, roles_of}

texts_listed : {Z : Type 0} (label : Option (String Z)) → map string_bytes (option_to_list label) ≡ option_to_list (option_map string_bytes label)
texts_listed None = refl
texts_listed (Some label) = refl

one_listed : {X : Type 0} (o : Option X) → option_to_list o ≡ cons_option o []
one_listed None = refl
one_listed (Some x) = refl

-- one node more
pub labels_more : {Z : Type 0} (role : Role) (nodes : List NodeRef) (i : ℕ) (n : NodeRef) (labels next : List (String Z)) (label : Option (String Z)) →
    i < length nodes → n ≡ get_or nodes i n → map string_bytes labels ≡ filter_map (label_by role) (take i nodes) → option_map string_bytes label ≡ label_by role n →
    next ≡ labels ++ option_to_list label → map string_bytes next ≡ filter_map (label_by role) (take (i + 1) nodes)
labels_more role nodes i n labels next label within read before says added =
    let longer : take (i + 1) nodes ≡ take i nodes ++ (n ∷ []) = take_more nodes i n within ∙ ap (λ m. take i nodes ++ (m ∷ [])) (sym read) in
    ap (map string_bytes) added ∙ map-append string_bytes labels (option_to_list label)
    ∙ ap (λ xs. xs ++ map string_bytes (option_to_list label)) before
    ∙ ap (λ xs. filter_map (label_by role) (take i nodes) ++ xs) (texts_listed label ∙ ap option_to_list says ∙ one_listed (label_by role n))
    ∙ sym (filter_map-append (label_by role) (take i nodes) (n ∷ []))
    ∙ ap (filter_map (label_by role)) (sym longer)

pub roles_more : (nodes : List NodeRef) (i : ℕ) (n : NodeRef) (roles next : List Role) (role : Role) →
    i < length nodes → n ≡ get_or nodes i n → roles ≡ roles_of (take i nodes) → role ≡ (data_at n).role → next ≡ with_role roles role → next ≡ roles_of (take (i + 1) nodes)
roles_more nodes i n roles next role within read before is added =
    let longer : map (λ m. (data_at m).role) (take (i + 1) nodes) ≡ map (λ m. (data_at m).role) (take i nodes) ++ ((data_at n).role ∷ []) =
    map_more (λ m. (data_at m).role) nodes i n within ∙ ap (λ m. map (λ k. (data_at k).role) (take i nodes) ++ ((data_at m).role ∷ [])) (sym read) in
    added ∙ ap (λ rs. with_role rs role) before ∙ ap (with_role (roles_of (take i nodes))) is
    ∙ sym (fold_push with_role [] (map (λ m. (data_at m).role) (take i nodes)) (data_at n).role)
    ∙ ap (fold with_role []) (sym longer)
