-- The line that a search found, and the ones after it.
use Rattle.std.proofs.Common.{◌≡◌, ℕ, ◌+◌, ◌<◌, ◌≤◌, Bool, true, false, [], length, Some, sym, ap, subst, ◌∙◌, arith, inl, inr}
use Rattle.std.specs.Prelude.{◌-◌, MatchBool, slice_get}
use Rattle.model.specs.FlatText.{first_run, begins_line, ends_line, lines}
use Rattle.views.specs.declared.node.node_ref.NodeRef.{NodeRef}
use Rattle.views.specs.declared.runs.Run.{Run}
use Rattle.views.specs.declared.walks.spot.Spot.{Spot}
use Rattle.views.specs.Nodes.{world_at, id_at}
use Rattle.views.specs.RunPlaces.{runs_before}
use Rattle.views.specs.Runs.{text_root_of, ids_after, IsAfter}
use Rattle.texts.specs.declared.text_lines.TextLines.{TextLines}
use Rattle.text_boundaries.specs.RunNumbers.{number_in, text_around}
use Rattle.texts.specs.Positions.{node_text}
use Rattle.texts.specs.Lines.{lines_from, number_at, BeginsLine}
use Rattle.texts.specs.LineWalks.{IsAtLastLine, IsLineStep, IsNearest}
use Rattle.texts.proofs.LineSteps.{IsAtLine, line_rises, line_there, no_more_lines, last_line, next_at_line}

pub begins_here : (n : NodeRef) (line : ℕ) (r : Run) → IsAtLine n line r → BeginsLine (text_around r) line (number_in r)
begins_here n line r at =
    let is : BeginsLine (node_text n) line (number_in r) = record { begins = at.begins; left = at.left } in
    subst (λ m. BeginsLine (node_text m) line (number_in r)) (sym at.same) is

-- a run that stands where one is known to stand
module _ (n : NodeRef) (s : Spot) (r : Run) (same : text_root_of r ≡ n) (at : r.spot ≡ s) where
  number_there : number_in r ≡ number_at n s
  number_there =
      ap (λ m. length (runs_before (world_at m) (id_at m) r.spot.member.id)) same
      ∙ ap (λ (z : Spot). length (runs_before (world_at n) (id_at n) z.member.id)) at

module _ (l : TextLines) where
  -- the runs with which the line begins and ends
  abbrev pub begin_of : Run
  begin_of = record { root = l.root; spot = l.first; known = l.starts }

  abbrev pub end_of : Run
  end_of = record { root = l.root; spot = l.last; known = l.ends }

  module _ (r last : Run) (same : text_root_of r ≡ l.root) (at : r.spot ≡ l.first) (same_last : text_root_of last ≡ l.root) (at_last : last.spot ≡ l.last) where
    from : number_in r ≡ number_at l.root l.first
    from = number_there l.root l.first r same at

    here : IsAtLine l.root l.line r
    here = record {
      same = same;
      begins = ap (begins_line (node_text l.root)) from ∙ l.begins_line.begins;
      left = l.begins_line.left ∙ ap (lines_from (node_text l.root)) (sym from);
    }

    both : text_root_of last ≡ text_root_of r
    both = same_last ∙ sym same

    ends : first_run (text_around r) (number_in r) (ends_line (text_around r)) ≡ Some (number_in last)
    ends =
        ap (λ m. first_run (node_text m) (number_in r) (ends_line (node_text m))) same
        ∙ ap (λ k. first_run (node_text l.root) k (ends_line (node_text l.root))) from
        ∙ l.ends_line
        ∙ ap Some (sym (number_there l.root l.last last same_last at_last))

    pub rises : number_in r ≤ number_in last
    rises = line_rises l.root l.text l.line r last here both ends

    pub there : slice_get (lines (node_text l.root)) l.line ≡ Some (number_in r, number_in last)
    there = line_there l.root l.text l.line r last here both ends

    pub no_more : ids_after last ≡ [] → length (lines (text_around r)) ≡ l.line + 1
    no_more e = no_more_lines l.root l.text l.line r last here both ends e

    pub at_end : ids_after last ≡ [] → slice_get (lines (text_around r)) l.line ≡ Some (number_in r, length (text_around r) - 1)
    at_end e = last_line l.root l.text l.line r last here both ends e

    pub line_after : (s : Run) → IsAfter last s → BeginsLine (text_around s) (l.line + 1) (number_in s)
    line_after s after = begins_here l.root (l.line + 1) s (next_at_line l.root l.text l.line r last here both ends s after)

  pub found_last : (index : ℕ) → IsNearest index l → l.line < index → IsAtLastLine l
  found_last index (inl is) less = absurd (omega (arith, is, less))
  found_last index (inr (_, none)) less = none

  pub found_it : (index : ℕ) → IsNearest index l → index ≤ l.line → l.line ≡ index
  found_it index (inl is) past = is
  found_it index (inr (less, _)) past = absurd (omega (arith, less, past))

-- what a step from a line to the next one tells
pub went_on : (done : Bool) {r s : Run} (step : IsLineStep done r s) → done ≡ true → IsAfter step.last s
went_on done {r} {s} step e = subst (λ (b : Bool). MatchBool b (IsAfter step.last s) (ids_after step.last ≡ [])) e step.next

pub ended : (done : Bool) {r s : Run} (step : IsLineStep done r s) → done ≡ false → ids_after step.last ≡ []
ended done {r} {s} step e = subst (λ (b : Bool). MatchBool b (IsAfter step.last s) (ids_after step.last ≡ [])) e step.next
