-- An entity with what is said of its selector.
use Rattle.std.specs.Prelude.{ℕ}
use Rattle.f3_kinds.specs.declared.said.Said.{Said}

abbrev pub with_said : Said → ℕ → ℕ × Said
with_said s e = (e, s)
