-- Several cells of one kind are taken, one after another.
use Rattle.std.proofs.Common.{◌≡◌, ℕ, suc, ◌+◌, ◌-◌, ◌<◌, List, [], ◌∷◌, ◌++◌, map, reverse, Option, None, Some, sym, ap, ◌∙◌, arith}
use Rattle.std.proofs.lemmas.List.{reverse-append}
use Rattle.f3_program.specs.declared.program.Program.{Program}
use Rattle.f3_code.specs.State.{Next}
use Rattle.f3_code.specs.State as s
use Rattle.f3_code.specs.Machine.{stuck, on_many}
use Rattle.f3_cells.specs.declared.cell.Cell.{Cell}
use Rattle.f3_cells.specs.Cells.{cells_of}
use Rattle.f3_cells.specs.Popped.{PoppedOne}

-- so many of them are taken so far
abbrev pub SoFar : {X Y : Type 0} → (X → Y) → (s.Cell → Option Y) → ℕ → ℕ → List Cell → List Cell → List X → Type 0
SoFar {Y = Y} view of k i old now found = (p : Program) (f : List Y → List s.Cell → Next)
    → on_many of k [] (cells_of p old) f ≡ on_many of (k - i) (map view (reverse found)) (cells_of p now) f

pub so_far_none : {X Y : Type 0} (view : X → Y) (of : s.Cell → Option Y) (k : ℕ) (old : List Cell) → SoFar view of k 0 old old []
so_far_none {Y = Y} view of k old = λ p f. ap (λ n. on_many of n [] (cells_of p old) f) (omega arith)

pub so_far_more : {X Y : Type 0} (view : X → Y) (of : s.Cell → Option Y) (k i : ℕ) (old now new : List Cell) (found : List X) (x : X) → i < k
    → SoFar view of k i old now found → PoppedOne view of (Some x) now new → SoFar view of k (i + 1) old new (found ++ x ∷ [])
so_far_more view of k i old now new found x h before one = λ p f.
    let e : k - i ≡ suc (k - (i + 1)) = omega arith in
    before p f
    ∙ ap (λ n. on_many of n (map view (reverse found)) (cells_of p now) f) e
    ∙ one p (k - (i + 1)) (map view (reverse found)) f
    ∙ ap (λ xs. on_many of (k - (i + 1)) (map view xs) (cells_of p new) f) (sym (reverse-append found (x ∷ [])))

pub so_far_stuck : {X Y : Type 0} (view : X → Y) (of : s.Cell → Option Y) (k i : ℕ) (old now new : List Cell) (found : List X) → i < k
    → SoFar view of k i old now found → PoppedOne view of None now new → (p : Program) (f : List Y → List s.Cell → Next)
    → on_many of k [] (cells_of p old) f ≡ stuck
so_far_stuck view of k i old now new found h before none = λ p f.
    let e : k - i ≡ suc (k - (i + 1)) = omega arith in
    before p f
    ∙ ap (λ n. on_many of n (map view (reverse found)) (cells_of p now) f) e
    ∙ none p (k - (i + 1)) (map view (reverse found)) f

pub so_far_all : {X Y : Type 0} (view : X → Y) (of : s.Cell → Option Y) (k i : ℕ) (old now : List Cell) (found : List X) → i ≡ k
    → SoFar view of k i old now found → (p : Program) (f : List Y → List s.Cell → Next)
    → on_many of k [] (cells_of p old) f ≡ f (map view (reverse found)) (cells_of p now)
so_far_all view of k i old now found h all = λ p f.
    let e : k - i ≡ 0 = omega arith in
    all p f ∙ ap (λ n. on_many of n (map view (reverse found)) (cells_of p now) f) e
