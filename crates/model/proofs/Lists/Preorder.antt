-- Pre-order is the lexicographic order of the index paths, and has each node that lies within its first one once.
use Rattle.std.proofs.Common.{◌≡◌, ℕ, ◌+◌, ◌<◌, ◌≤◌, List, [], ◌∷◌, ◌++◌, suc, zero, refl, sym, ◌∙◌, ap, arith, append_assoc, map, get_or, Ordering}
use Rattle.std.specs.Prelude.{Some, slice_get, AllPairs, ◌≢◌, reverse}
use Rattle.std.specs.Ordering.{nat_cmp, ordering_then}
use Rattle.std.specs.declared.cmp.Ordering.TheVariants.{Less, Equal}
use Rattle.std.specs.Cmp.Lexicographic.{slice_cmp}
use Rattle.std.specs.List.{AllByRecursion}
use Rattle.std.specs.List.Sorted.{IsStrictlySortedBy}
use Rattle.std.proofs.lemmas.Cmp.{tied_itself, nat_cmp_total, nat_list_cmp_total}
use Rattle.std.proofs.lemmas.List.{map-append, reverse-append}
use Rattle.std.proofs.lemmas.Map.Keys.{Less-from_sorted}
use Rattle.model.specs.declared.FullNodeId.{FullNodeId}
use Rattle.model.specs.World.{World, children, Place, StandsAt}
use Rattle.model.specs.Forest.{Forest, empty, tree, plant, levels_below, below, above, IsFormed}
use Rattle.model.specs.Lists.{nodes_of, preorder}
use Rattle.model.specs.Paths.{index_path, IsBefore}
use Rattle.model.proofs.Forest.Grown.{above_child}

-- ---- a forest that hangs below a node, from its child k on

unfoldable pub HangsAt : World → FullNodeId → ℕ → Forest → Type 0
HangsAt w p k empty = Unit {0}
HangsAt w p k (tree c inner rest) = StandsAt w (p, k) c × HangsAt w c 0 inner × HangsAt w p (suc k) rest

hangs_plant : (w : World) (sub : FullNodeId → Forest) (p : FullNodeId) (k : ℕ) (cs : List FullNodeId) → ((i : ℕ) (c : FullNodeId) → slice_get cs i ≡ Some c → StandsAt w (p, k + i) c) → ((c : FullNodeId) → HangsAt w c 0 (sub c)) → HangsAt w p k (plant sub cs)
unfolding HangsAt
hangs_plant w sub p k [] stands hangs = tt
hangs_plant w sub p k (c ∷ cs) stands hangs =
    let here : k + 0 ≡ k = omega arith in (
      rw here at (stands 0 c refl),
      hangs c,
      hangs_plant w sub p (suc k) cs (λ i d e. let next : k + suc i ≡ suc k + i = omega arith in rw next at (stands (suc i) d e)) hangs,
    )

hangs_grown : (w : World) (n : ℕ) (id : FullNodeId) → HangsAt w id 0 (levels_below w n id)
unfolding HangsAt
hangs_grown w zero id = tt
hangs_grown w (suc n) id = hangs_plant w (levels_below w n) id 0 (children w id) (λ i c e. let here : i ≡ 0 + i = omega arith in rw (← here) e) (hangs_grown w n)

pub hangs_below : (w : World) (id : FullNodeId) → HangsAt w id 0 (below w id)
unfolding below
hangs_below w id = hangs_grown w _ id

-- ---- a node that lies below child k of p or a later one

pub record Under (w : World) (p : FullNodeId) (k : ℕ) (d : FullNodeId) : Type 0 where
  pub inner : List Place
  pub index : ℕ
  pub from : k ≤ index
  pub way : above w d ≡ inner ++ (p, index) ∷ above w p

unfoldable pub under_child : (w : World) → IsFormed w → (p : FullNodeId) (k : ℕ) (c : FullNodeId) → StandsAt w (p, k) c → Under w p k c
under_child w formed p k c e = record { inner = []; index = k; from = omega arith; way = above_child w formed (p, k) c e }

unfoldable pub under_deeper : (w : World) → IsFormed w → (p : FullNodeId) (k : ℕ) (c d : FullNodeId) (j : ℕ) → StandsAt w (p, k) c → Under w c j d → Under w p k d
under_deeper w formed p k c d j e u = record {
  inner = u.inner ++ (c, u.index) ∷ [];
  index = k;
  from = omega arith;
  way = u.way ∙ ap (λ ps. u.inner ++ (c, u.index) ∷ ps) (above_child w formed (p, k) c e) ∙ sym (append_assoc u.inner ((c, u.index) ∷ []) ((p, k) ∷ above w p));
}

pub under_lower : (w : World) (p : FullNodeId) (k m : ℕ) (d : FullNodeId) → k ≤ m → Under w p m d → Under w p k d
under_lower w p k m d h u = record { inner = u.inner; index = u.index; from = omega (arith, u.from); way = u.way }

pub indices : List Place → List ℕ
indices ps = map (λ (p : Place). p.1) ps

pub reverse_cons : {A : Type 0} (x : A) (xs : List A) → reverse (x ∷ xs) ≡ reverse xs ++ x ∷ []
reverse_cons x xs = reverse-append (x ∷ []) xs

pub path_under : (w : World) (p : FullNodeId) (k : ℕ) (d : FullNodeId) (u : Under w p k d) → index_path w d ≡ index_path w p ++ u.index ∷ reverse (indices u.inner)
unfolding indices
path_under w p k d u =
    ap (λ ps. reverse (indices ps)) u.way
    ∙ ap reverse (map-append (λ (q : Place). q.1) u.inner ((p, u.index) ∷ above w p))
    ∙ reverse-append (indices u.inner) (u.index ∷ indices (above w p))
    ∙ ap (λ ps. ps ++ reverse (indices u.inner)) (reverse_cons u.index (indices (above w p)))
    ∙ append_assoc (index_path w p) (u.index ∷ []) (reverse (indices u.inner))

-- ---- the order of paths

cmp_lt : (a b : ℕ) → a < b → nat_cmp a b ≡ Less
cmp_lt a b h = grind arith

cmp_front : (xs ys zs : List ℕ) → slice_cmp nat_cmp (xs ++ ys) (xs ++ zs) ≡ slice_cmp nat_cmp ys zs
cmp_front [] ys zs = refl
cmp_front (x ∷ xs) ys zs = ap (λ o. ordering_then o (slice_cmp nat_cmp (xs ++ ys) (xs ++ zs))) (tied_itself nat_cmp_total x) ∙ cmp_front xs ys zs

cmp_first : (a b : ℕ) (ys zs : List ℕ) → a < b → slice_cmp nat_cmp (a ∷ ys) (b ∷ zs) ≡ Less
cmp_first a b ys zs h = ap (λ o. ordering_then o (slice_cmp nat_cmp ys zs)) (cmp_lt a b h)

cmp_longer : (xs ys : List ℕ) (y : ℕ) → slice_cmp nat_cmp xs (xs ++ y ∷ ys) ≡ Less
cmp_longer [] ys y = refl
cmp_longer (x ∷ xs) ys y = ap (λ o. ordering_then o (slice_cmp nat_cmp xs (xs ++ y ∷ ys))) (tied_itself nat_cmp_total x) ∙ cmp_longer xs ys y

pub not_before_itself : (p : List ℕ) → IsBefore p p → ⊥
not_before_itself p e = (let level : Equal ≡ Less = sym (tied_itself nat_list_cmp_total p) ∙ e in cc)

abbrev pub Precedes : World → FullNodeId → FullNodeId → Type 0
Precedes w a b = IsBefore (index_path w a) (index_path w b)

pub before_under : (w : World) (p : FullNodeId) (k : ℕ) (d : FullNodeId) → Under w p k d → Precedes w p d
before_under w p k d u = rw (path_under w p k d u) (cmp_longer (index_path w p) (reverse (indices u.inner)) u.index)

-- what lies below child k, or is it, comes before what lies below a later child
pub under_before : (w : World) (p : FullNodeId) (k : ℕ) (c d : FullNodeId) (u : Under w p k c) → u.index ≡ k → Under w p (suc k) d → Precedes w c d
under_before w p k c d u at v =
    rw (path_under w p k c u, path_under w p (suc k) d v) (cmp_front (index_path w p) (u.index ∷ reverse (indices u.inner)) (v.index ∷ reverse (indices v.inner)) ∙ cmp_first u.index v.index (reverse (indices u.inner)) (reverse (indices v.inner)) (omega (arith, v.from)))

-- ---- all nodes of a forest that hangs below a node

pub all_append : (P : FullNodeId → Type 0) (xs ys : List FullNodeId) → AllByRecursion P xs → AllByRecursion P ys → AllByRecursion P (xs ++ ys)
all_append P [] ys a b = b
all_append P (x ∷ xs) ys a b = (a.0, all_append P xs ys a.1 b)

pub all_weaker : (P Q : FullNodeId → Type 0) → ((c : FullNodeId) → P c → Q c) → (cs : List FullNodeId) → AllByRecursion P cs → AllByRecursion Q cs
all_weaker P Q f [] a = tt
all_weaker P Q f (c ∷ cs) a = (f c a.0, all_weaker P Q f cs a.1)

pub sorted_append : (R : FullNodeId → FullNodeId → Ordering) (xs ys : List FullNodeId) → IsStrictlySortedBy R xs → IsStrictlySortedBy R ys → AllByRecursion (λ x. AllByRecursion (λ y. R x y ≡ Less) ys) xs → IsStrictlySortedBy R (xs ++ ys)
unfolding IsStrictlySortedBy
sorted_append R [] ys a b h = b
sorted_append R (x ∷ xs) ys a b h = (all_append (λ y. R x y ≡ Less) xs ys a.0 h.0, sorted_append R xs ys a.1 b h.1)

-- ---- the order and the nodes of a pre-order

module _ (w : World) (formed : IsFormed w) where
  pub all_under : (p : FullNodeId) (k : ℕ) (t : Forest) → HangsAt w p k t → AllByRecursion (Under w p k) (nodes_of t)
  unfolding HangsAt
  all_under p k empty h = tt
  all_under p k (tree c inner rest) h = (
    under_child w formed p k c h.0,
    all_append (Under w p k) (nodes_of inner) (nodes_of rest)
        (all_weaker (Under w c 0) (Under w p k) (λ d u. under_deeper w formed p k c d 0 h.0 u) (nodes_of inner) (all_under c 0 inner h.1))
        (all_weaker (Under w p (suc k)) (Under w p k) (λ d u. under_lower w p k (suc k) d (omega arith) u) (nodes_of rest) (all_under p (suc k) rest h.2)),
  )

  abbrev pub by_path : FullNodeId → FullNodeId → Ordering
  by_path a b = slice_cmp nat_cmp (index_path w a) (index_path w b)

  all_sorted : (p : FullNodeId) (k : ℕ) (t : Forest) → HangsAt w p k t → IsStrictlySortedBy by_path (nodes_of t)
  unfolding HangsAt IsStrictlySortedBy under_child under_deeper
  all_sorted p k empty h = tt
  all_sorted p k (tree c inner rest) h =
      let later : AllByRecursion (Under w p (suc k)) (nodes_of rest) = all_under p (suc k) rest h.2 in
      let deeper : AllByRecursion (Under w c 0) (nodes_of inner) = all_under c 0 inner h.1 in (
        all_append (Precedes w c) (nodes_of inner) (nodes_of rest)
            (all_weaker (Under w c 0) (Precedes w c) (before_under w c 0) (nodes_of inner) deeper)
            (all_weaker (Under w p (suc k)) (Precedes w c) (λ d v. under_before w p k c d (under_child w formed p k c h.0) refl v) (nodes_of rest) later),
        sorted_append by_path (nodes_of inner) (nodes_of rest) (all_sorted c 0 inner h.1) (all_sorted p (suc k) rest h.2)
            (all_weaker (Under w c 0) (λ d. AllByRecursion (Precedes w d) (nodes_of rest))
            (λ d u. all_weaker (Under w p (suc k)) (Precedes w d) (λ e v. under_before w p k d e (under_deeper w formed p k c d 0 h.0 u) refl v) (nodes_of rest) later)
            (nodes_of inner) deeper),
      )

  preorder_sorted : (top : FullNodeId) → IsStrictlySortedBy by_path (preorder w top)
  unfolding IsStrictlySortedBy
  preorder_sorted top =
      let hangs : HangsAt w top 0 (below w top) = hangs_below w top in
      (all_weaker (Under w top 0) (Precedes w top) (before_under w top 0) (nodes_of (below w top)) (all_under top 0 (below w top) hangs), all_sorted top 0 (below w top) hangs)

  -- each node of a pre-order is before all later ones by its path
  pub preorder_rises : (top : FullNodeId) → AllPairs (λ a b. IsBefore (index_path w a) (index_path w b)) (preorder w top)
  preorder_rises top i j d h l = Less-from_sorted by_path (preorder w top) i j d (preorder_sorted top) h l

  -- no node is in a pre-order twice
  pub preorder_distinct : (top : FullNodeId) → AllPairs (λ a b. a ≢ b) (preorder w top)
  preorder_distinct top i j d h l same =
      not_before_itself (index_path w (get_or (preorder w top) i d)) (ap (λ b. by_path (get_or (preorder w top) i d) b) same ∙ preorder_rises top i j d h l)
