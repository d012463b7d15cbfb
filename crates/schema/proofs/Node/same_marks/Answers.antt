-- The bits are equal exactly if the flags and what is set are.
use Rattle.std.proofs.Common.{◌≡◌, ap, sym, ◌∙◌}
use Rattle.schema.specs.Marks.{MarkSet}
use Rattle.schema.specs.Parts.{marks_of}
use Rattle.schema.proofs.MarkedFields.{marks_kept}
use Rattle.schema.proofs.Node.same_marks.Goals as goal

pub returns : goal.returns
returns c =
    let mine : marks_of c.args.self.now ≡ c.self.inside.marks = sym (ap marks_of c.self.view_is) ∙ marks_kept c.self.inside in
    let its : marks_of c.args.other.now ≡ c.other.inside.marks = sym (ap marks_of c.other.view_is) ∙ marks_kept c.other.inside in (
      λ t. let set : marks_of c.args.self.now ≡ marks_of c.args.other.now = mine ∙ c.same.ensures.0 t ∙ sym its in record {
        hidden = ap (λ (m : MarkSet). m.hidden) set;
        disabled = ap (λ (m : MarkSet). m.disabled) set;
        read_only = ap (λ (m : MarkSet). m.read_only) set;
        busy = ap (λ (m : MarkSet). m.busy) set;
        live_atomic = ap (λ (m : MarkSet). m.live_atomic) set;
        modal = ap (λ (m : MarkSet). m.modal) set;
        multiselectable = ap (λ (m : MarkSet). m.multiselectable) set;
        required = ap (λ (m : MarkSet). m.required) set;
        touch_transparent = ap (λ (m : MarkSet). m.touch_transparent) set;
        italic = ap (λ (m : MarkSet). m.italic) set;
        clips_children = ap (λ (m : MarkSet). m.clips_children) set;
        set = set;
      },
      λ s. c.same.ensures.1 (sym mine ∙ s.set ∙ its),
    )
