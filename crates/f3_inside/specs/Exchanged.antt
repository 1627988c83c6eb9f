-- What entities are as objects, exchanged one after the other.
use Rattle.std.specs.Prelude.{ℕ, ◌+◌, nat_eq, List, [], ◌∷◌, Option, Some, if◌then◌else◌}
use Rattle.f3_program.specs.declared.expression.Name.{Name}
use Rattle.f3_program.specs.declared.expression.Name.TheVariants.{Lent}
use Rattle.f3_inside.specs.declared.names.Named.{Named}

abbrev pub put : Named → (before : ℕ → Option Name) → (entity : ℕ) → Option Name
put k before e = if nat_eq k.entity e then k.name else before e

-- from the last on, so that of two of one entity the first one stays
abbrev pub put_all : List Named → (before : ℕ → Option Name) → (entity : ℕ) → Option Name
put_all [] before = before
put_all (k ∷ ks) before = put k (put_all ks before)

-- each entity is the next object that is lent, the first has this number
abbrev pub lent_from : (number : ℕ) → List ℕ → List Named
lent_from k [] = []
lent_from k (e ∷ es) = record { entity = e; name = Some (Lent k) } ∷ lent_from (k + 1) es
