-- Cutting an input at its first border, line by line.
use Rattle.std.proofs.Common.{◌≡◌, ℕ, true, false, List, [], ◌∷◌, ◌++◌, length, Option, Some, None, refl, sym, ap, subst, append-nil, ◌∙◌}
use Rattle.std.specs.Prelude.{◌≢◌, IfSome}
use Rattle.std.specs.List.{concat}
use Rattle.std.specs.Io.BufRead.{DropsThrough, take_through, drop_through}
use Rattle.std.proofs.BufReadLemmas.{take_through-nil}
use Rattle.std.proofs.lemmas.List.Elements.{All-append, All-cons, All-nil}
use Rattle.std.proofs.lemmas.List.Folds.{concat-append}
use Rattle.compare.specs.Parts.{BeginWith, HasNoBorder, IsCut, is_border}

-- the input is read up to here, and has no border so far
pub record IsReading (input now : Option (List ℕ)) (first : List ℕ) : Type 0 where
  pub far : IfSome input (λ bytes. (rest : List ℕ) × (now ≡ Some rest) × HasNoBorder bytes first rest)

begin_more : (bytes : List ℕ) (lines : List (List ℕ)) (rest line : List ℕ) → BeginWith bytes lines rest → rest ≢ [] → line ≡ take_through 10 rest → BeginWith bytes (lines ++ line ∷ []) (drop_through 10 rest)
begin_more bytes [] rest line begin some is = (λ none. some (sym begin ∙ none), is ∙ ap (take_through 10) (sym begin), ap (drop_through 10) begin)
begin_more bytes (first ∷ more) rest line begin some is = (begin.0, begin.1, begin_more (drop_through 10 bytes) more rest line begin.2 some is)

pub none_read : (input : Option (List ℕ)) (first : List ℕ) → first ≡ [] → IsReading input input first
none_read None first e = record { far = tt }
none_read (Some bytes) first e = record { far = (bytes, refl, record { lines = []; begin = refl; none = All-nil (λ line. is_border line ≡ false); all = e }) }

pub one_more : (input now next : Option (List ℕ)) (first line more : List ℕ) → IfSome now (λ left. line ≡ take_through 10 left) → DropsThrough now next 10 → line ≢ [] → is_border line ≡ false → more ≡ first ++ line →
    IsReading input now first → IsReading input next more
one_more None now next first line more takes drops some other e so_far = record { far = tt }
one_more (Some bytes) now next first line more takes drops some other e so_far =
    let rest = so_far.far.0 in
    let read = so_far.far.2 in
    let taken : line ≡ take_through 10 rest = subst (λ o. IfSome o (λ left. line ≡ take_through 10 left)) so_far.far.1 takes in
    record {
      far = (
        drop_through 10 rest,
        subst (λ o. DropsThrough o next 10) so_far.far.1 drops,
        record {
          lines = read.lines ++ line ∷ [];
          begin = begin_more bytes read.lines rest line read.begin (λ none. some (taken ∙ ap (take_through 10) none)) taken;
          none = All-append (λ l. is_border l ≡ false) read.lines (line ∷ []) read.none (All-cons (λ l. is_border l ≡ false) line [] other (All-nil (λ l. is_border l ≡ false)));
          all = e ∙ ap (λ x. x ++ line) read.all ∙ ap (λ x. concat read.lines ++ x) (sym (append-nil line)) ∙ sym (concat-append read.lines (line ∷ []));
        },
      );
    }

pub all_read : (input now : Option (List ℕ)) (first line : List ℕ) → IfSome now (λ left. line ≡ take_through 10 left) → line ≡ [] → IsReading input now first → IfSome input (λ bytes. (lines : List ℕ) × HasNoBorder bytes lines [])
all_read None now first line takes none so_far = tt
all_read (Some bytes) now first line takes none so_far =
    let taken : line ≡ take_through 10 so_far.far.0 = subst (λ o. IfSome o (λ left. line ≡ take_through 10 left)) so_far.far.1 takes in
    (first, subst (HasNoBorder bytes first) (take_through-nil 10 so_far.far.0 (ap length (sym taken ∙ none))) so_far.far.2)

pub border_read : (input now next : Option (List ℕ)) (first line : List ℕ) → IfSome now (λ left. line ≡ take_through 10 left) → DropsThrough now next 10 → is_border line ≡ true →
    IsReading input now first → IfSome input (λ bytes. (second : List ℕ) × (next ≡ Some second) × IsCut bytes first second)
border_read None now next first line takes drops border so_far = tt
border_read (Some bytes) now next first line takes drops border so_far =
    let rest = so_far.far.0 in
    let taken : line ≡ take_through 10 rest = subst (λ o. IfSome o (λ left. line ≡ take_through 10 left)) so_far.far.1 takes in
    (drop_through 10 rest, subst (λ o. DropsThrough o next 10) so_far.far.1 drops, record { rest = rest; before = so_far.far.2; border = ap is_border (sym taken) ∙ border; behind = refl })
