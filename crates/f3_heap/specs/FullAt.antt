-- A heap that refuses once, as its callers see it (own rule).
use Rattle.std.specs.Prelude.{ℕ}
use Rattle.f3_heap.specs.declared.full_at.FullAt.{FullAt}

-- the heap behind it
abbrev pub behind : {B : Type 0} → FullAt B → B
behind s = s.blocks

-- how many takes from now the one is that it refuses, and 0 where there is none
abbrev pub refused_take : {B : Type 0} → FullAt B → ℕ
refused_take s = s.at

-- the same with another heap behind it
abbrev pub with_behind : {B : Type 0} → FullAt B → B → FullAt B
with_behind s b = record s { blocks = b }
