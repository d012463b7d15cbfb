use Rattle.std.proofs.Common.{◌≡◌, ap}
use Rattle.std.proofs.lemmas.Bool.Decides.{Decides-int_eq, Decides-like, Decides-and, Decides-at}
use Rattle.schema.specs.declared.geometry.Rect.{Rect}
use Rattle.schema.proofs.equality.same_rectangle.Goals as goal

pub returns : goal.returns
returns c =
    let a : Rect = c.args.a in
    let b : Rect = c.args.b in
    Decides-at _ _ c.eq.ensures (Decides-like _ (λ e i. record { x0 = e.0 i; y0 = e.1.0 i; x1 = e.1.1.0 i; y1 = e.1.1.1 i })
    (λ (e : a ≡ b). (ap (λ r. r.x0) e, (ap (λ r. r.y0) e, (ap (λ r. r.x1) e, ap (λ r. r.y1) e))))
    (Decides-and _ _ (Decides-int_eq a.x0 b.x0) (Decides-and _ _ (Decides-int_eq a.y0 b.y0) (Decides-and _ _ (Decides-int_eq a.x1 b.x1) (Decides-int_eq a.y1 b.y1)))))
