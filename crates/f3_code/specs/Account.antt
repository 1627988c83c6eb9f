-- The words that the values of a run take of a heap (own rule).
use Rattle.std.specs.Prelude.{ℕ, ◌+◌, List, [], ◌∷◌}
use Rattle.f3_meaning_whole.specs.Value.{Value, Number, Truth, Composite, Array, Unallocated, Allocated, Values, none, more}
use Rattle.f3_meaning_whole.specs.Store.{Store}

-- a block of a heap: its words, and three more, which tell its length at both ends and how often it is lent
abbrev pub block : ℕ → ℕ
block n = n + 3

-- A number or a truth value takes one word, a derived type what its components take, an array what its elements take; an allocatable
-- takes one word, and the block of its object where it has one. Bounds take none.
abbrev mutual
  pub words : Value → ℕ
  words (Number z) = 1
  words (Truth b) = 1
  words (Composite vs) = row vs
  words (Array ss vs) = row vs
  words Unallocated = 1
  words (Allocated v) = 1 + block (words v)

  pub row : Values → ℕ
  row none = 0
  row (more v vs) = words v + row vs

-- the blocks of the objects that are allocated in a value, and beneath these
abbrev mutual
  pub objects : Value → ℕ
  objects (Number z) = 0
  objects (Truth b) = 0
  objects (Composite vs) = all_objects vs
  objects (Array ss vs) = all_objects vs
  objects Unallocated = 0
  objects (Allocated v) = block (words v)

  pub all_objects : Values → ℕ
  all_objects none = 0
  all_objects (more v vs) = objects v + all_objects vs

-- what lives for the whole run, or on a level, has one block
abbrev pub level_words : List Value → ℕ
level_words [] = 0
level_words (v ∷ vs) = words v + level_words vs

abbrev pub levels_words : List (List Value) → ℕ
levels_words [] = 0
levels_words (vs ∷ levels) = block (level_words vs) + levels_words levels

-- all that a store takes
abbrev pub used : Store → ℕ
used store = block (level_words store.statics) + levels_words store.levels
