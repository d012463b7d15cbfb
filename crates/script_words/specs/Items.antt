-- A list in which each item but the first is after a comma.
use Rattle.std.specs.Prelude.{ℕ, List, ◌++◌, codes, flat_map}

-- an item after a comma
abbrev pub comma_then : {T : Type 0} → (T → List ℕ) → T → List ℕ
comma_then text item = codes "," ++ text item

-- the list of this item and the others
abbrev pub list_text : {T : Type 0} → (T → List ℕ) → T → List T → List ℕ
list_text text item others = text item ++ flat_map (comma_then text) others
