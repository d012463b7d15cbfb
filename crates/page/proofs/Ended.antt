-- How a run ends whose output has an error.
use Rattle.std.proofs.Common.{◌≡◌, ℕ, List, inl, inr}
use Rattle.script_lines.specs.Ends.{Tells}
use Rattle.page.specs.Reports.{Bytes}

pub fault_status : (before after : Bytes) (text : List ℕ) (status : ℕ) → Tells before after text 3 status → status ≡ 3
fault_status before after text status (inl h) = h.0
fault_status before after text status (inr h) = h
