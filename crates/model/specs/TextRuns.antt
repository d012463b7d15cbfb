-- The runs of a text, and when a root has a text that can be walked by characters.
use Rattle.std.specs.Prelude.{ℕ, ◌-◌, ◌^◌, ◌==◌, nat_lt, nat_le, Bool, true, false, ◌&&◌, ◌||◌, min, List, [], ◌∷◌, length, map, drop, take, slice_get, sum_by, Option, is_none, unwrap_or, cond, if◌then◌else◌, IsTrue}
use Rattle.std.specs.Option.{option_map_or}
use Rattle.std.specs.List.{list_all, ends_with}
use Rattle.schema.specs.NodeData.{NodeData, empty_node}
use Rattle.schema.specs.Roles.{same_role}
use Rattle.schema.specs.RunFits.{is_cut_by, neighbours, rise_below}
use Rattle.schema.specs.declared.NodeId.{NodeId}
use Rattle.schema.specs.declared.Role.TheVariants.{TextRun}
use Rattle.model.specs.declared.FullNodeId.{FullNodeId}
use Rattle.model.specs.declared.filters.FilterResult.{FilterResult}
use Rattle.model.specs.declared.filters.FilterResult.TheVariants.{Include, ExcludeNode}
use Rattle.model.specs.World.{World, data_of}
use Rattle.model.specs.Forest.{is_same}
use Rattle.model.specs.Frontier.{filtered_children}
use Rattle.model.specs.RoleClasses.{is_password_input, holds_text}
use Rattle.model.specs.Upward.{says}

abbrev pub is_run : World → FullNodeId → Bool
is_run w id = says (λ d. same_role d.role TextRun) w id

-- runs end the search below them, and so does the root; all other nodes are passed through
abbrev pub run_filter : World → FullNodeId → FullNodeId → FilterResult
run_filter w root id = cond (is_same id root || is_run w id) Include ExcludeNode

abbrev pub run_ids : World → FullNodeId → List FullNodeId
run_ids w root = filtered_children (run_filter w root) w root

-- a run as it was sent
pub record SentRun : Type 0 where
  pub id : FullNodeId
  pub node : NodeData

abbrev pub sent_run : World → FullNodeId → SentRun
sent_run w id = record { id = id; node = unwrap_or (data_of w id) (empty_node TextRun) }

abbrev pub sent_runs : World → FullNodeId → List SentRun
sent_runs w root = map (sent_run w) (run_ids w root)

-- the bytes of its value; empty if it has none
abbrev pub run_value : SentRun → List ℕ
run_value r = unwrap_or r.node.value []

-- its number of characters, by its list of lengths
abbrev pub said_count : SentRun → ℕ
said_count r = length r.node.character_lengths

-- its value ends with a newline
abbrev pub ends_with_newline : SentRun → Bool
ends_with_newline r = ends_with (λ a b. a == b) (run_value r) (10 ∷ [])

-- the pieces of the text that lengths cut
abbrev pub cut_by : List ℕ → List ℕ → List (List ℕ)
cut_by bs [] = []
cut_by bs (n ∷ ns) = take n bs ∷ cut_by (drop n bs) ns

-- its characters, each as bytes
abbrev pub sent_characters : SentRun → List (List ℕ)
sent_characters r = cut_by (run_value r) r.node.character_lengths

abbrev pub is_password : World → FullNodeId → Bool
is_password w id = says (λ d. is_password_input d.role) w id

-- ---- what makes a text of runs

-- a text input, a label, a document or a terminal, and there is a run
abbrev pub has_runs : World → FullNodeId → List SentRun → Bool
has_runs w root runs = says (λ d. holds_text d.role) w root && nat_lt 0 (length runs)

-- all runs are in the tree with this index
abbrev pub lie_in_tree : ℕ → List SentRun → Bool
lie_in_tree index runs = list_all (λ (r : SentRun). r.id.tree == index) runs

-- each value is cut by its lengths with nothing left over
abbrev pub are_cut : List SentRun → Bool
are_cut runs = list_all (λ r. is_cut_by (run_value r) r.node.character_lengths) runs

-- word starts rise and are numbers of characters
abbrev pub has_rising_words : SentRun → Bool
has_rising_words r = rise_below r.node.word_starts (said_count r)

abbrev pub have_rising_words : List SentRun → Bool
have_rising_words runs = list_all has_rising_words runs

-- no run but the last is empty
abbrev pub are_empty_last : List SentRun → Bool
are_empty_last runs = list_all (λ p. nat_lt 0 (said_count p.0)) (neighbours runs)

-- the link names this run
abbrev pub leads_to : Option NodeId → SentRun → Bool
leads_to link r = option_map_or (λ n. n.0 == r.id.node.0) link false

-- two neighbours are linked both ways or not at all
abbrev pub links_agree : SentRun → SentRun → Bool
links_agree a b =
    (is_none a.node.next_on_line && is_none b.node.previous_on_line)
    || (leads_to a.node.next_on_line b && leads_to b.node.previous_on_line a)

-- neighbours agree, the first run has no link back, and the last one none onwards
abbrev pub are_linked_in_order : List SentRun → Bool
are_linked_in_order runs =
    list_all (λ p. links_agree p.0 p.1) (neighbours runs)
    && (option_map_or (λ r. is_none r.node.previous_on_line) (slice_get runs 0) true
    && option_map_or (λ r. is_none r.node.next_on_line) (slice_get runs (length runs - 1)) true)

-- the values together have fewer than 2^64 bytes
abbrev pub have_size : List SentRun → Bool
have_size runs = nat_lt (sum_by (λ r. length (run_value r)) runs) (2 ^ 64)

-- as many as there are characters; of a password from one on, where there are characters
abbrev pub is_enough : Bool → ℕ → ℕ → Bool
is_enough password count given = nat_le given count && nat_le (if password then min count 1 else count) given

-- positions and widths, if given, are enough for the characters
abbrev pub is_measured : Bool → SentRun → Bool
is_measured password r =
    option_map_or (λ ps. is_enough password (said_count r) (length ps)) r.node.character_positions true
    && option_map_or (λ ws. is_enough password (said_count r) (length ws)) r.node.character_widths true

abbrev pub are_measured : Bool → List SentRun → Bool
are_measured password runs = list_all (is_measured password) runs

-- Well-formed text: the result of `supports_text_ranges`.
pub record IsText (w : World) (root : FullNodeId) : Type 0 where
  pub runs : IsTrue (has_runs w root (sent_runs w root))
  pub one_tree : IsTrue (lie_in_tree root.tree (sent_runs w root))
  pub cut : IsTrue (are_cut (sent_runs w root))
  pub words : IsTrue (have_rising_words (sent_runs w root))
  pub empty_last : IsTrue (are_empty_last (sent_runs w root))
  pub links : IsTrue (are_linked_in_order (sent_runs w root))
  pub size : IsTrue (have_size (sent_runs w root))
  pub metrics : IsTrue (are_measured (is_password w root) (sent_runs w root))

-- the same of these runs, as a boolean
abbrev pub make_text : World → FullNodeId → List SentRun → Bool
make_text w root runs =
    has_runs w root runs
    && (lie_in_tree root.tree runs
    && (are_cut runs
    && (have_rising_words runs
    && (are_empty_last runs && (are_linked_in_order runs && (have_size runs && are_measured (is_password w root) runs))))))

unfoldable pub supports_text_ranges : World → FullNodeId → Bool
supports_text_ranges w root = make_text w root (sent_runs w root)
