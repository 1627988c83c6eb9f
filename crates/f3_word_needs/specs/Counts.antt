-- What there is in a state: names, and levels of values.
use Rattle.std.specs.Prelude.{ℕ, ◌+◌, List, [], ◌∷◌, length}
use Rattle.f3_code.specs.State.{Cell, Level, Frame, State}
use Rattle.f3_word_cells.specs.declared.cell.Cell as word
use Rattle.f3_word_cells.specs.declared.cell.Cell.TheVariants as c

-- ---- names

-- the names of an ASSOCIATE
abbrev pub cell_names : Cell → ℕ
cell_names (Level level rs) = length rs
cell_names c = 0

abbrev pub cells_names : List Cell → ℕ
cells_names [] = 0
cells_names (c ∷ cs) = cell_names c + cells_names cs

abbrev pub frames_names : List Frame → ℕ
frames_names [] = 0
frames_names (f ∷ fs) = length f.here.names + cells_names f.stack + frames_names fs

-- The names that statements of all activations may name, and once more those of each ASSOCIATE that is open.
abbrev pub all_names : State → ℕ
all_names t = length t.here.names + cells_names t.stack + frames_names t.frames

-- The names of all ASSOCIATEs that are open.
abbrev pub frames_selectors : List Frame → ℕ
frames_selectors [] = 0
frames_selectors (f ∷ fs) = cells_names f.stack + frames_selectors fs

abbrev pub all_selectors : State → ℕ
all_selectors t = cells_names t.stack + frames_selectors t.frames

-- ---- levels

abbrev pub all_levels : State → ℕ
all_levels t = length t.world.store.levels

-- the levels of ASSOCIATEs, the newest first
abbrev pub associated : List Cell → List ℕ
associated [] = []
associated (Level level rs ∷ cs) = level ∷ associated cs
associated (c ∷ cs) = associated cs

-- ---- in memory

-- the names of ASSOCIATEs among cells
abbrev pub kept_names : List word.Cell → ℕ
kept_names [] = 0
kept_names (c.Level level range ∷ cs) = range.count + kept_names cs
kept_names (c ∷ cs) = kept_names cs
