-- What goes on with what stands on top.
use Rattle.std.proofs.Common.{◌≡◌, ℕ, suc, List, ◌∷◌, ap, ◌∙◌, Option, None, Some}
use Rattle.std.specs.Prelude.{MatchOption, drop}
use Rattle.f3_code.specs.State.{Next}
use Rattle.f3_code.specs.State as s
use Rattle.f3_cells.specs.declared.cell.Cell.{Cell}
use Rattle.f3_cells.specs.Cells.{cells_of}
use Rattle.f3_cells.specs.Popped as cells
use Rattle.f3_object_steps.specs.Taken.{Popped, Shows, ShowsNone}

pub popped : {X Y : Type 0} (view : X → s.Cell) (look : X → Y) (on : List s.Cell → (Y → List s.Cell → Next) → Next)
    → ((x : X) (rest : List s.Cell) (f : Y → List s.Cell → Next) → on (view x ∷ rest) f ≡ f (look x) rest)
    → (r : Option X) (old new : List Cell) → cells.Popped view on r old new → Popped look on r old new
popped view look on is None old new h = h
popped view look on is (Some x) old new h = λ p f. ap (λ cs. on cs f) (h p) ∙ is x (cells_of p new) f

pub shown : {Y : Type 0} (x : s.Cell) (y : Y) (on : List s.Cell → (Y → List s.Cell → Next) → Next)
    → ((rest : List s.Cell) (f : Y → List s.Cell → Next) → on (x ∷ rest) f ≡ f y rest)
    → (cs : List Cell) (k : ℕ) → cells.Shows cs k x → Shows on cs k y
shown x y on is cs k h = λ p f. ap (λ cs. on cs f) (h p) ∙ is (drop (suc k) (cells_of p cs)) f

pub shown_or_none : {X Y : Type 0} (view : X → s.Cell) (look : X → Y) (on : List s.Cell → (Y → List s.Cell → Next) → Next)
    → ((x : X) (rest : List s.Cell) (f : Y → List s.Cell → Next) → on (view x ∷ rest) f ≡ f (look x) rest)
    → (r : Option X) (cs : List Cell) (k : ℕ) → MatchOption r (ShowsNone on cs k) (λ x. cells.Shows cs k (view x)) → MatchOption r (ShowsNone on cs k) (λ x. Shows on cs k (look x))
shown_or_none view look on is None cs k h = h
shown_or_none view look on is (Some x) cs k h = shown (view x) (look x) on (is x) cs k h
