-- Answers of a heap that grants all requests, or refuses one.
use Rattle.std.proofs.Common.{◌≡◌, ℕ, zero, suc, Bool, true, false, List, [], ◌∷◌, length, refl}
use Rattle.std.proofs.Math.Path.{fun_ext}
use Rattle.f3_code.specs.Heap.{granted}
use Rattle.f3_word_cells.specs.Does.{AreGranted, stream}
use Rattle.f3_word_machine.specs.Runs.{refusing}

pub granted_at : (given : List Bool) → AreGranted given → (n : ℕ) → stream given granted n ≡ granted n
granted_at [] a n = refl
granted_at (false ∷ bs) a zero = refl
granted_at (false ∷ bs) a (suc n) = granted_at bs a n
granted_at (true ∷ bs) a n = absurd a

-- requests that were granted, and behind them all
pub granted_all : (given : List Bool) → AreGranted given → stream given granted ≡ granted
granted_all given a = fun_ext (granted_at given a)

refusing_at : (given : List Bool) → AreGranted given → (n : ℕ) → stream given (stream (true ∷ []) granted) n ≡ refusing (length given) n
refusing_at [] a zero = refl
refusing_at [] a (suc n) = refl
refusing_at (false ∷ bs) a zero = refl
refusing_at (false ∷ bs) a (suc n) = refusing_at bs a n
refusing_at (true ∷ bs) a n = absurd a

-- and behind them one that was refused
pub refused_next : (given : List Bool) → AreGranted given → stream given (stream (true ∷ []) granted) ≡ refusing (length given)
refused_next given a = fun_ext (refusing_at given a)

-- one more before
later_at : (before n : ℕ) → stream (false ∷ []) (refusing before) n ≡ refusing (suc before) n
later_at before zero = refl
later_at before (suc n) = refl

pub refused_later : (before : ℕ) → stream (false ∷ []) (refusing before) ≡ refusing (suc before)
refused_later before = fun_ext (later_at before)
