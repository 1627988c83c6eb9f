-- Ranges in a map, from the number where each begins to the one where it ends: where one begins later it ends later.
use Rattle.std.specs.Prelude.{◌≡◌, ℤ, ◌<ℤ◌, ◌≤ℤ◌, ◌⊎◌, Option, Some}
use Rattle.std.specs.Ordering.{int_cmp}
use Rattle.std.specs.BTreeMap.{BTreeMap, get}

-- where the range that begins at a number ends
abbrev pub end_of : BTreeMap ℤ ℤ → ℤ → Option ℤ
end_of m l = get int_cmp m l

pub record Rising (g : ℤ → Option ℤ) : Type 0 where
  pub rising : (l h m k : ℤ) → g l ≡ Some h → g m ≡ Some k → l <ℤ m → h <ℤ k

-- p is the last range that begins at y or below
pub record IsLast (g : ℤ → Option ℤ) (y : ℤ) (p : ℤ × ℤ) : Type 0 where
  pub there : g p.0 ≡ Some p.1
  pub below : p.0 ≤ℤ y
  pub last : (l h : ℤ) → l ≤ℤ y → g l ≡ Some h → l ≤ℤ p.0

-- p is the first range that begins at z or above
pub record IsFirst (g : ℤ → Option ℤ) (z : ℤ) (p : ℤ × ℤ) : Type 0 where
  pub there : g p.0 ≡ Some p.1
  pub above : z ≤ℤ p.0
  pub first : (l h : ℤ) → z ≤ℤ l → g l ≡ Some h → p.0 ≤ℤ l

-- some range begins at y or below and ends at z or above
pub record Reaches (g : ℤ → Option ℤ) (z y : ℤ) : Type 0 where
  pub first : ℤ
  pub last : ℤ
  pub there : g first ≡ Some last
  pub begins : first ≤ℤ y
  pub ends : z ≤ℤ last

-- after the ranges that lie within one are taken out
pub record IsCut (g after : ℤ → Option ℤ) (z y : ℤ) : Type 0 where
  pub old : (l h : ℤ) → after l ≡ Some h → g l ≡ Some h
  pub kept : (l h : ℤ) → g l ≡ Some h → (after l ≡ Some h) ⊎ ((z ≤ℤ l) × (h ≤ℤ y))
  pub beyond : (l h : ℤ) → after l ≡ Some h → z ≤ℤ l → y <ℤ h

-- after a range is put in
pub record IsGrown (g after : ℤ → Option ℤ) (z y : ℤ) : Type 0 where
  pub rising : Rising after
  pub old : (l h : ℤ) → after l ≡ Some h → (g l ≡ Some h) ⊎ ((l ≡ z) × (h ≡ y))
  pub kept : (l h : ℤ) → g l ≡ Some h → Reaches after h l
  pub new : Reaches after y z
