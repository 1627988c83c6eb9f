-- What is visible under a name: one entity, none, or several.
use Rattle.std.specs.Prelude.{◌≡◌, ◌≢◌, ℕ}
use Rattle.f3_lookups.specs.declared.lookup.Lookup.{Lookup}
use Rattle.f3_lookups.specs.declared.lookup.Lookup.TheVariants.{One, Nothing, Several}

abbrev pub ResolvesAs : Lookup → (ℕ → Type 0) → Type 0
ResolvesAs (One e) Is = Is e × ((d : ℕ) → Is d → d ≡ e)
ResolvesAs Nothing Is = (d : ℕ) → Is d → ⊥
ResolvesAs Several Is = (d : ℕ) × (e : ℕ) × Is d × Is e × (d ≢ e)

-- One, none or several entities are such.
pub record Resolves (lookup : Lookup) (Is : ℕ → Type 0) : Type 0 where
  pub as_said : ResolvesAs lookup Is
