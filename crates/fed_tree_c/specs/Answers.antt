-- What an export answers, and what it writes.
use Rattle.std.specs.Prelude.{◌≡◌, ◌⊎◌, ℕ, min, Bool, true, false, List, ◌++◌, take, drop, length, slice_get, Option, Some, None, is_some, if◌then◌else◌}
use Rattle.model.specs.declared.FullNodeId.{FullNodeId}
use Rattle.fed_tree.specs.Fed.{Fed}
use Rattle.fed_tree.specs.Reads.{data_in}

abbrev pub DONE : ℕ
DONE = 0

abbrev pub NO_MEMORY : ℕ
NO_MEMORY = 1

abbrev pub CLOSED : ℕ
CLOSED = 2

abbrev pub NOTHING : ℕ
NOTHING = 3

abbrev pub BAD_LINE : ℕ
BAD_LINE = 4

abbrev pub REFUSED : ℕ
REFUSED = 5

abbrev pub OUT_OF_PLACE : ℕ
OUT_OF_PLACE = 6

abbrev pub NO_NODE : ℕ
NO_NODE = 7

abbrev pub NO_SUCH : ℕ
NO_SUCH = 8

abbrev pub LOST : ℕ
LOST = 9

-- ---- what is answered where nothing is found

-- of the whole tree: there is no such thing
abbrev pub nothing : Fed → ℕ
nothing fed = NOTHING

-- Of a node that is asked about by a number, if the number means something: there is no such thing, or the tree hasn't the node. Else the
-- number means nothing.
abbrev pub lack_where : Bool → FullNodeId → Fed → ℕ
lack_where false id fed = NO_SUCH
lack_where true id fed = if is_some (data_in fed.world id) then NOTHING else NO_NODE

abbrev pub lack_at : FullNodeId → Fed → ℕ
lack_at = lack_where true

-- by a number that has its place in a table
abbrev pub lack_by : {A : Type 0} → List A → ℕ → FullNodeId → Fed → ℕ
lack_by table number = lack_where (is_some (slice_get table number))

-- ---- one value

-- nothing is written where nothing is found
abbrev pub Gives : {A : Type 0} → ℕ → Option A → ℕ → A → A → Type 0
Gives lack None status old new = (status ≡ lack) × (new ≡ old)
Gives lack (Some found) status old new = (status ≡ DONE) × (new ≡ found)

-- a question about the tree of a handle, with one answer
abbrev pub Answers : {A : Type 0} → Option Fed → (Fed → ℕ) → (Fed → Option A) → ℕ → A → A → Type 0
Answers None lack asked status old new = (status ≡ CLOSED) × (new ≡ old)
Answers (Some fed) lack asked status old new = Gives (lack fed) (asked fed) status old new

-- ---- lists: ids, and the bytes of texts

-- a buffer with as much of a list at its front as there is room for; the rest of it stays
abbrev pub filled : {A : Type 0} → List A → List A → List A
filled buffer list = let room = min (length buffer) (length list) in take room list ++ drop room buffer

abbrev pub GivesList : {A : Type 0} → ℕ → Option (List A) → ℕ → List A → List A → ℕ → ℕ → Type 0
GivesList lack None status old new old_length new_length = (status ≡ lack) × (new ≡ old) × (new_length ≡ old_length)
GivesList lack (Some found) status old new old_length new_length =
    (status ≡ DONE) × (new ≡ filled old found) × (new_length ≡ length found)

-- memory ran out, and nothing is written
abbrev pub IsNoMemory : {A : Type 0} → ℕ → List A → List A → ℕ → ℕ → Type 0
IsNoMemory status old new old_length new_length = (status ≡ NO_MEMORY) × (new ≡ old) × (new_length ≡ old_length)

-- a list is answered, or memory for it ran out
abbrev pub AnswersList : {A : Type 0} → Option Fed → (Fed → ℕ) → (Fed → Option (List A)) → ℕ → List A → List A → ℕ → ℕ → Type 0
AnswersList None lack asked status old new old_length new_length = (status ≡ CLOSED) × (new ≡ old) × (new_length ≡ old_length)
AnswersList (Some fed) lack asked status old new old_length new_length =
    GivesList (lack fed) (asked fed) status old new old_length new_length ⊎ IsNoMemory status old new old_length new_length
