-- A table of numbers with a list of entities more, and without what was added.
use Rattle.std.specs.Prelude.{◌≡◌, ℕ, nat_eq, position, List, Option, None, if◌then◌else◌}
use Rattle.std.specs.List.{list_any}
use Rattle.std.specs.Option.{option_map, option_or}
use Rattle.f3_program.specs.declared.expression.Name.{Name}
use Rattle.f3_program.specs.declared.expression.Name.TheVariants as object
use Rattle.f3_elaboration.specs.Numbers.{Numbers, Inner}
use Rattle.f3_numbers.specs.declared.numbers.Numbers.{Numbers as Table}
use Rattle.f3_numbers.specs.Table.{object_in, procedure_in, type_in}
use Rattle.f3_numbers.specs.Agrees.{object_of, nothing_inside}
use Rattle.f3_program_numbers.specs.declared.filling.Storage.{Storage}
use Rattle.f3_program_numbers.specs.declared.filling.Storage.TheVariants.{Static, Local, Lent}
use Rattle.f3_program_numbers.specs.declared.entering.Entered.{Entered}

abbrev pub name_at : Storage → ℕ → Name
name_at Static n = object.Static n
name_at Local n = object.Local n
name_at Lent n = object.Lent n

-- each of the list has the number of its place there, where it has none before
abbrev pub with_list : {X : Type 0} → (ℕ → Option X) → (ℕ → X) → List ℕ → ℕ → Option X
with_list before f es e = option_or (before e) (option_map f (position (nat_eq e) es))

abbrev pub without : {X : Type 0} → List ℕ → (ℕ → Option X) → ℕ → Option X
without es now e = if list_any (nat_eq e) es then None else now e

-- without what was added one table is the other
pub record IsInside (entered : Entered) (now before : Table) : Type 0 where
  pub objects : (e : ℕ) → without entered.added.items (object_in now) e ≡ object_in before e
  pub procedures : (e : ℕ) → procedure_in now e ≡ procedure_in before e
  pub types : (e : ℕ) → type_in now e ≡ type_in before e

-- without what was added nothing is numbered inside
abbrev pub Undoes : Entered → Numbers → Inner → Type 0
Undoes entered whole inner = (e : ℕ) → without entered.added.items (object_of whole inner) e ≡ object_of whole nothing_inside e
