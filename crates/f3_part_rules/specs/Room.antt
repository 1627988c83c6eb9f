-- Room for what declarations make known.
use Rattle.std.specs.Prelude.{ℕ, ◌+◌, ◌≤◌, ◌≡◌, vec_len}
use Rattle.f3_entities.specs.declared.growth.Growth.{Growth}

-- for so many entities, from the next on
pub record HasRoom (g : Growth) (count : ℕ) : Type 0 where
  pub values : g.next + count ≤ vec_len g.known.values
  pub cells : g.next + count ≤ vec_len g.cells

-- so many entities were declared, and there is as much room in all
pub record IsBehind (old new : Growth) (count : ℕ) : Type 0 where
  pub next : new.next ≡ old.next + count
  pub values : vec_len new.known.values ≡ vec_len old.known.values
  pub cells : vec_len new.cells ≡ vec_len old.cells
