-- Levels above one another.
use Rattle.std.proofs.Common.{◌≡◌, ℕ, ◌+◌, ◌*◌, ◌≤◌, List, [], ◌∷◌, length, sym, subst, arith}
use Rattle.f3_code.specs.State.{Cell, Level, Frame, State}
use Rattle.f3_heights.specs.Room.{frames_cells, all_cells}
use Rattle.f3_word_needs.specs.Counts.{associated, all_levels}
use Rattle.f3_word_needs.specs.Room.{Beneath, FramesLevelled}

-- so many levels, with those of ASSOCIATEs, and those of callers
abbrev pub Levels : ℕ → List ℕ → List Frame → Type 0
Levels n ms fs = Beneath n ms (λ m. FramesLevelled m fs)

pub levels_as : {n m : ℕ} {ms ks : List ℕ} {fs gs : List Frame} → m ≡ n → ks ≡ ms → gs ≡ fs → Levels n ms fs → Levels m ks gs
levels_as {n = n} {m = m} {ms = ms} {ks = ks} {fs = fs} {gs = gs} a b c h =
    subst (λ k. Levels k ks gs) (sym a) (subst (λ l. Levels n l gs) (sym b) (subst (λ l. Levels n ms l) (sym c) h))

frames_fewer : (n m : ℕ) (fs : List Frame) → m ≤ n → FramesLevelled n fs → FramesLevelled m fs
frames_fewer n m [] le h = omega (arith, le, h)
frames_fewer n m (f ∷ fs) le h = (omega (arith, le, h.0), h.1)

pub levels_fewer : (n m : ℕ) (ms : List ℕ) (fs : List Frame) → m ≤ n → Levels n ms fs → Levels m ms fs
levels_fewer n m [] fs le h = frames_fewer n m fs le h
levels_fewer n m (l ∷ ms) fs le h = (omega (arith, le, h.0), h.1)

-- beneath an activation
pub beneath : (n : ℕ) (ms : List ℕ) (f : Frame) (fs : List Frame) → Levels n ms (f ∷ fs) → Levels f.level (associated f.stack) fs
beneath n [] f fs h = h.1
beneath n (m ∷ ms) f fs h = beneath m ms f fs h.1

associated_few : (cells : List Cell) → length (associated cells) ≤ length cells
associated_few [] = omega arith
associated_few (Level level rs ∷ cells) = omega (arith, associated_few cells)
associated_few (c ∷ cells) = omega (arith, associated_few cells)

-- what is beneath some ASSOCIATEs
bottom : (n : ℕ) (ms : List ℕ) (Rest : ℕ → Type 0) → Beneath n ms Rest → (k : ℕ) × Rest k × (n ≤ k + length ms)
bottom n [] Rest h = (n, h, omega arith)
bottom n (m ∷ ms) Rest h = let b = bottom m ms Rest h.1 in (b.0, b.1, omega (arith, b.2, h.0))

frames_few : (n : ℕ) (fs : List Frame) → FramesLevelled n fs → n ≤ 1 + 2 * length fs + frames_cells fs
frames_few n [] h = omega (arith, h)
frames_few n (f ∷ fs) h =
    let b = bottom f.level (associated f.stack) (λ m. FramesLevelled m fs) h.1 in
    omega (arith, h.0, b.2, frames_few b.0 fs b.1, associated_few f.stack)

pub levels_few : (t : State) → Levels (all_levels t) (associated t.stack) t.frames → all_levels t ≤ 1 + 2 * length t.frames + all_cells t
levels_few t h =
    let b = bottom (all_levels t) (associated t.stack) (λ m. FramesLevelled m t.frames) h in
    omega (arith, b.2, frames_few b.0 t.frames b.1, associated_few t.stack)
