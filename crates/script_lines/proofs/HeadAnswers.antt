-- What is answered while the head of an update is read.
use Rattle.std.proofs.Common.{◌≡◌, ℕ, List, [], ◌∷◌, ◌++◌, Bor, true, false, true≢false, Option, Some, None, is_some, option_copied, option_map, Result, Ok, Err, ap, ap₂, sym, refl, subst, ◌∙◌}
use Rattle.std.specs.Result.{IsErrAnd}
use Rattle.schema.specs.NodeData.{NodeData}
use Rattle.schema.specs.UpdateData.{InfoData, UpdateData, update_data}
use Rattle.schema.specs.declared.NodeId.{NodeId}
use Rattle.schema.specs.declared.TreeId.{TreeId}
use Rattle.schema.specs.declared.update.TreeInfo.{TreeInfo}
use Rattle.schema.specs.declared.update.TreeUpdate.{TreeUpdate}
use Rattle.script_lines.specs.HeadMeaning.{field_means, finished, info_of, once_next, takes_text, update_means, value_at}
use Rattle.script_lines.specs.LineReading.{HeadData, no_head}
use Rattle.script_lines.proofs.HeadMeanings.{valued_field}
use Rattle.script_words.proofs.FieldReads.{ended, goes_on, no_word, some_fields, stops}
use Rattle.script_words.specs.Cuts.{part_before, rest_behind}
use Rattle.script_words.specs.Fields.{each_word, fields_of, one_word}
use Rattle.script_words.specs.Meaning.{Answers, next_as, next_word, onward}
use Rattle.script_words.specs.Reading.{Lacks}
use Rattle.script_words.specs.WordValues.{tree_of}
use Rattle.script_words.specs.declared.stops.Stop.{Stop}
use Rattle.script_words.specs.declared.stops.Stop.TheVariants.{BadLine, Memory, ReadFault, WriteFault}

-- ---- one answer after another

-- a step that stops the reading stops all of it
pub onward_stopped : {S T U V : Type 0} (meant : Option S) (more : S → Option T) (stop : Stop) (P : S → U → Type 0) (Q : T → V → Type 0) → Answers meant (Err stop) P → Answers (onward meant more) (Err stop) Q
onward_stopped meant more BadLine P Q none = ap (λ o. onward o more) none
onward_stopped meant more Memory P Q a = tt
onward_stopped meant more ReadFault P Q a = absurd a
onward_stopped meant more WriteFault P Q a = absurd a

-- a step is taken, and then the next one
pub onward_next : {S T V : Type 0} (meant : Option S) (value : S) (more : S → Option T) (r : Result V Stop) (Q : T → V → Type 0) → meant ≡ Some value → Answers (more value) r Q → Answers (onward meant more) r Q
onward_next meant value more r Q e a = subst (λ o. Answers o r Q) (sym (ap (λ o. onward o more) e)) a

-- a result that is this error
pub answers_err : {T U : Type 0} (meant : Option T) (r : Result U Stop) (stop : Stop) (Q : T → U → Type 0) → IsErrAnd r (λ s. s ≡ stop) → Answers meant (Err stop) Q → Answers meant r Q
answers_err meant (Ok read) stop Q e a = absurd e
answers_err meant (Err s) stop Q e a = subst (λ k. Answers meant (Err k) Q) (sym e) a

-- where nothing is meant, the line is bad
pub answers_bad : {T U : Type 0} (meant : Option T) (stop : Stop) (Q : T → U → Type 0) → stop ≡ BadLine → meant ≡ None → Answers meant (Err stop) Q
answers_bad meant stop Q e none = subst (λ k. Answers meant (Err k) Q) (sym e) none

-- ---- a field

pub given_once : {T U : Type 0} (old : Option U) (meant : Option (T × Option (List ℕ))) → false ≡ is_some old → once_next old meant ≡ meant
given_once None meant e = refl
given_once (Some old) meant e = absurd (true≢false (sym e))

-- a field whose value is read is the first word
pub field_read : (line : Option (List ℕ)) (name : List ℕ) (more left : Option (List ℕ)) (head next : HeadData) (r : Result (Unit {0}) Stop)
    → (text : List ℕ) × (more ≡ Some text) × (line ≡ Some (name ++ (61 ∷ text))) × Lacks 61 name × Lacks 32 name
    → Answers (value_at name more head) r (λ read done. (next ≡ read.0) × (left ≡ read.1))
    → Answers (one_word field_means (fields_of takes_text line) head) r (λ n done. (next ≡ n.0) × (fields_of takes_text left ≡ n.1))
field_read line name more left head next r cut a =
    let text = cut.0 in
    let is : one_word field_means (fields_of takes_text line) head ≡ option_map {U = HeadData × List (List ℕ)} (λ (read : HeadData × Option (List ℕ)). (read.0, fields_of takes_text read.1)) (value_at name (Some text) head) =
    ap (λ l. one_word field_means (fields_of takes_text l) head) cut.2 ∙ valued_field (name ++ (61 ∷ text)) name text head refl cut.3 cut.4 in
    subst (λ o. Answers o r (λ n done. (next ≡ n.0) × (fields_of takes_text left ≡ n.1))) (sym is)
    (mapped (value_at name (Some text) head) r (subst (λ m. Answers (value_at name m head) r (λ read done. (next ≡ read.0) × (left ≡ read.1))) cut.1 a))
  where
    mapped : (meant : Option (HeadData × Option (List ℕ))) (r : Result (Unit {0}) Stop) → Answers meant r (λ read done. (next ≡ read.0) × (left ≡ read.1))
        → Answers (option_map {U = HeadData × List (List ℕ)} (λ (read : HeadData × Option (List ℕ)). (read.0, fields_of takes_text read.1)) meant) r (λ n done. (next ≡ n.0) × (fields_of takes_text left ≡ n.1))
    mapped meant (Ok done) b = ((b.0.0, fields_of takes_text b.0.1), ap (option_map {U = HeadData × List (List ℕ)} (λ (read : HeadData × Option (List ℕ)). (read.0, fields_of takes_text read.1))) b.1, (b.2.0, ap (fields_of takes_text) b.2.1))
    mapped meant (Err BadLine) b = ap (option_map {U = HeadData × List (List ℕ)} (λ (read : HeadData × Option (List ℕ)). (read.0, fields_of takes_text read.1))) b
    mapped meant (Err Memory) b = tt
    mapped meant (Err ReadFault) b = absurd b
    mapped meant (Err WriteFault) b = absurd b

-- no field is cut off
empty_name : (head : HeadData) → field_means [] head ≡ None
unfolding part_before rest_behind
empty_name head = refl

no_field : (line : Option (List ℕ)) (head : HeadData) → next_word line ≡ None → one_word field_means (fields_of takes_text line) head ≡ None
no_field line head e = no_word takes_text field_means line head (empty_name head) e

pub no_field_read : (line left : Option (List ℕ)) (head next : HeadData) (r : Result (Unit {0}) Stop) (stop : Stop) → IsErrAnd r (λ s. s ≡ stop) → (stop ≡ BadLine) × (next_word line ≡ None)
    → Answers (one_word field_means (fields_of takes_text line) head) r (λ n done. (next ≡ n.0) × (fields_of takes_text left ≡ n.1))
no_field_read line left head next r stop is k =
    answers_err (one_word field_means (fields_of takes_text line) head) r stop (λ n done. (next ≡ n.0) × (fields_of takes_text left ≡ n.1)) is
    (answers_bad {U = Unit {0}} (one_word field_means (fields_of takes_text line) head) stop (λ n done. (next ≡ n.0) × (fields_of takes_text left ≡ n.1)) k.0 (no_field line head k.1))

-- ---- the fields, one after another

-- a field is read, and the others mean what all meant
pub one_read : (words left : Option (List ℕ)) (head next : HeadData) (meant : Option HeadData) (read : HeadData × List (List ℕ))
    → one_word field_means (fields_of takes_text words) head ≡ Some read → next ≡ read.0 → fields_of takes_text left ≡ read.1
    → each_word field_means (fields_of takes_text words) head ≡ meant → each_word field_means (fields_of takes_text left) next ≡ meant
one_read words left head next meant read is same others i = ap₂ (each_word field_means) others same ∙ goes_on field_means (fields_of takes_text words) head read meant is i

-- a field is not read, and all mean nothing
pub none_read : (rest : Option (Bor (List ℕ))) (head next : HeadData) (left : Option (List ℕ)) (meant : Option HeadData) (stop : Stop) (Q : HeadData → Unit {0} → Type 0) → true ≡ is_some rest
    → Answers {U = Unit {0}} (one_word field_means (fields_of takes_text (option_copied rest)) head) (Err stop) (λ n done. (next ≡ n.0) × (fields_of takes_text left ≡ n.1))
    → each_word field_means (fields_of takes_text (option_copied rest)) head ≡ meant → Answers meant (Err stop) Q
none_read rest head next left meant BadLine Q t a i = stops field_means (fields_of takes_text (option_copied rest)) head meant (some_fields takes_text rest t) a i
none_read rest head next left meant Memory Q t a i = tt
none_read rest head next left meant ReadFault Q t a i = absurd a
none_read rest head next left meant WriteFault Q t a i = absurd a

-- all fields are read
pub all_read : (rest : Option (Bor (List ℕ))) (head : HeadData) (meant : Option HeadData) → false ≡ is_some rest → each_word field_means (fields_of takes_text (option_copied rest)) head ≡ meant → meant ≡ Some head
all_read None head meant f i = ended field_means head meant i
all_read (Some text) head meant f i = absurd (true≢false (sym f))

-- ---- all fields, and what they make

abbrev made : TreeId → NodeId → Option InfoData → Option UpdateData
made tree focus info = Some (record { name = tree; focus = focus; info = info; nodes = [] })

abbrev pub IsUpdate : UpdateData → TreeUpdate → Type 0
IsUpdate u read = update_data read ≡ u

-- a toolkit without a root
pub no_info : (tree : TreeId) (head : HeadData) (focus : NodeId) (r : Result TreeUpdate Stop) (stop : Stop) (P : Option InfoData → Option TreeInfo → Type 0) → IsErrAnd r (λ s. s ≡ stop)
    → head.focus ≡ Some focus → Answers (info_of head head.root) (Err stop) P → Answers (finished tree head) r IsUpdate
no_info tree head focus r stop P is f a =
    answers_err (finished tree head) r stop IsUpdate is
    (onward_next head.focus focus (λ focus. onward (info_of head head.root) (made tree focus)) (Err stop) IsUpdate f
    (onward_stopped (info_of head head.root) (made tree focus) stop P IsUpdate a))

abbrev with_parts : TreeId → NodeId → Option InfoData → List (NodeId × NodeData) → UpdateData
with_parts tree focus info nodes = record { name = tree; focus = focus; info = info; nodes = nodes }

-- the update of a head whose fields are read
pub head_finished : (tree : TreeId) (head : HeadData) (focus : NodeId) (info read : Option InfoData) (nodes : List (NodeId × NodeData)) → head.focus ≡ Some focus → info_of head head.root ≡ Some info
    → read ≡ info → nodes ≡ [] → (u : UpdateData) × (finished tree head ≡ Some u) × (with_parts tree focus read nodes ≡ u)
head_finished tree head focus info read nodes f i same none = (
  with_parts tree focus info [],
  ap (λ o. onward o (λ focus. onward (info_of head head.root) (made tree focus))) f ∙ ap (λ o. onward o (made tree focus)) i,
  ap₂ (with_parts tree focus) same none,
)

-- ---- the whole line

-- what the line means behind the tree
abbrev from_tree : TreeId × Option (List ℕ) → Option UpdateData
from_tree tree = onward (each_word field_means (fields_of takes_text tree.1) no_head) (finished tree.0)

pub no_tree : (line : Option (List ℕ)) (r : Result TreeUpdate Stop) (stop : Stop) → IsErrAnd r (λ s. s ≡ stop) → (stop ≡ BadLine) × (next_as tree_of line ≡ None) → Answers (update_means line) r IsUpdate
no_tree line r stop is k = answers_err (update_means line) r stop IsUpdate is (answers_bad (update_means line) stop IsUpdate k.0 (ap (λ o. onward o from_tree) k.1))

pub no_fields : (line left : Option (List ℕ)) (tree : TreeId) (first : HeadData) (r : Result TreeUpdate Stop) (stop : Stop) (P : HeadData → Unit {0} → Type 0) → IsErrAnd r (λ s. s ≡ stop)
    → next_as tree_of line ≡ Some (tree, left) → first ≡ no_head → Answers (each_word field_means (fields_of takes_text left) first) (Err stop) P → Answers (update_means line) r IsUpdate
no_fields line left tree first r stop P is e none a =
    answers_err (update_means line) r stop IsUpdate is
    (onward_next (next_as tree_of line) (tree, left) from_tree (Err stop) IsUpdate e
    (onward_stopped (each_word field_means (fields_of takes_text left) no_head) (finished tree) stop P IsUpdate
    (subst (λ h. Answers (each_word field_means (fields_of takes_text left) h) (Err stop) P) none a)))

pub line_read : (line left : Option (List ℕ)) (tree : TreeId) (first last : HeadData) (r : Result TreeUpdate Stop) → next_as tree_of line ≡ Some (tree, left) → first ≡ no_head
    → each_word field_means (fields_of takes_text left) first ≡ Some last → Answers (finished tree last) r IsUpdate → Answers (update_means line) r IsUpdate
line_read line left tree first last r e none all a =
    onward_next (next_as tree_of line) (tree, left) from_tree r IsUpdate e
    (onward_next (each_word field_means (fields_of takes_text left) no_head) last (finished tree) r IsUpdate
    (ap (each_word field_means (fields_of takes_text left)) (sym none) ∙ all) a)
