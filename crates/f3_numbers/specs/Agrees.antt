-- A table of numbers that says what lists of entities say.
use Rattle.std.specs.Prelude.{◌≡◌, ℕ, nat_eq, position, [], ◌∷◌, ◌++◌, Option, None, Some}
use Rattle.std.specs.Option.{option_map}
use Rattle.f3_program.specs.declared.expression.Name as object
use Rattle.f3_program.specs.declared.expression.Name.TheVariants.{Static, Local, Lent}
use Rattle.f3_elaboration.specs.Numbers.{Numbers, Inner}
use Rattle.f3_numbers.specs.declared.numbers.Numbers.{Numbers as Table}
use Rattle.f3_numbers.specs.Table.{object_in, procedure_in, type_in}

-- the object that an entity is, where it is one
abbrev pub object_by : Option ℕ → Option ℕ → Option ℕ → Option object.Name
object_by (Some i) variable lent = Some (Static i)
object_by None (Some i) lent = Some (Local i)
object_by None None lent = option_map Lent lent

abbrev pub object_of : Numbers → Inner → (entity : ℕ) → Option object.Name
object_of whole inner e = object_by (position (nat_eq e) whole.statics) (position (nat_eq e) inner.variables) (position (nat_eq e) inner.lent)

-- of every entity
pub record Agrees (t : Table) (whole : Numbers) (inner : Inner) : Type 0 where
  pub objects : (e : ℕ) → object_in t e ≡ object_of whole inner e
  pub procedures : (e : ℕ) → procedure_in t e ≡ position (nat_eq e) whole.procedures
  pub types : (e : ℕ) → type_in t e ≡ position (nat_eq e) whole.types

-- the numbers with one entity more

abbrev pub nothing_inside : Inner
nothing_inside = record { variables = []; lent = [] }

abbrev pub nothing_numbered : Numbers
nothing_numbered = record { statics = []; procedures = []; types = [] }

abbrev pub with_static : Numbers → (entity : ℕ) → Numbers
with_static n e = record { statics = n.statics ++ (e ∷ []); procedures = n.procedures; types = n.types }

abbrev pub with_procedure : Numbers → (entity : ℕ) → Numbers
with_procedure n e = record { statics = n.statics; procedures = n.procedures ++ (e ∷ []); types = n.types }

abbrev pub with_type : Numbers → (entity : ℕ) → Numbers
with_type n e = record { statics = n.statics; procedures = n.procedures; types = n.types ++ (e ∷ []) }

abbrev pub with_lent : Inner → (entity : ℕ) → Inner
with_lent i e = record { variables = i.variables; lent = i.lent ++ (e ∷ []) }
