-- Breaks at places and names, and those of an expression that has to have a type and a rank.
use Rattle.std.specs.Prelude.{ℕ, Bool, true, false, ◌&&◌, ◌==◌, List, [], ◌∷◌, ◌++◌, Option, None, Some, if◌then◌else◌}
use Rattle.f3_places.specs.declared.source.Place.{Place}
use Rattle.f3_rules.specs.declared.rule.Rule.{Rule}
use Rattle.f3_rules.specs.declared.rule.Rule.TheVariants.{T6, T7}
use Rattle.f3_rules.specs.declared.breaks.Break.{Break}
use Rattle.f3_tree.specs.declared.expression.Name.{Name}
use Rattle.f3_tree.specs.declared.expression.IntegerKind.{IntegerKind}
use Rattle.f3_tree.specs.declared.expression.IntegerKind.TheVariants.{Four, Eight}
use Rattle.f3_tree.specs.declared.expression.IntegerLiteral.{IntegerLiteral}
use Rattle.f3_tree.specs.declared.expression.IntegerLiteral.TheVariants as literal
use Rattle.f3_kinds.specs.declared.types.DataType.{DataType}
use Rattle.f3_kinds.specs.declared.types.DataType.TheVariants.{Integer, Logical, Derived}
use Rattle.f3_kinds.specs.declared.said.Form.TheVariants.{Computed}
use Rattle.f3_kinds.specs.declared.said.Has.{Has}
use Rattle.f3_kinds.specs.declared.types.Wanted.{Wanted}
use Rattle.f3_kinds.specs.declared.types.Wanted.TheVariants as wanted
use Rattle.f3_kinds.specs.declared.said.Said.{Said}

-- a rule of a phase is broken at a place without a name there, and at a name
abbrev pub at_place : ℕ → Rule → Place → Break
at_place phase rule place = record { phase = phase; place = place; rule = rule; name = None }

abbrev pub at_name : ℕ → Rule → Name → Break
at_name phase rule name = record { phase = phase; place = name.place; rule = rule; name = Some name.symbol }

-- a break where something does not hold
abbrev pub unless : Bool → Break → List Break
unless holds b = if holds then [] else b ∷ []

-- types

abbrev pub is_integer : DataType → Bool
is_integer (Integer k) = true
is_integer Logical = false
is_integer (Derived t) = false

abbrev pub is_logical : DataType → Bool
is_logical (Integer k) = false
is_logical Logical = true
is_logical (Derived t) = false

-- integer or logical (4.4)
abbrev pub is_intrinsic_type : DataType → Bool
is_intrinsic_type (Integer k) = true
is_intrinsic_type Logical = true
is_intrinsic_type (Derived t) = false

abbrev pub is_wanted : Wanted → DataType → Bool
is_wanted wanted.Integer = is_integer
is_wanted wanted.Logical = is_logical
is_wanted wanted.Intrinsic = is_intrinsic_type

abbrev pub same_kind : IntegerKind → IntegerKind → Bool
same_kind Four Four = true
same_kind Four Eight = false
same_kind Eight Four = false
same_kind Eight Eight = true

abbrev pub same_type : DataType → DataType → Bool
same_type (Integer j) (Integer k) = same_kind j k
same_type (Integer j) Logical = false
same_type (Integer j) (Derived u) = false
same_type Logical (Integer k) = false
same_type Logical Logical = true
same_type Logical (Derived u) = false
same_type (Derived t) (Integer k) = false
same_type (Derived t) Logical = false
same_type (Derived t) (Derived u) = t == u

-- whether a value of the second type may define an object of the first: integers are converted (7.4.1.2)
abbrev pub may_take : DataType → DataType → Bool
may_take (Integer j) (Integer k) = true
may_take (Integer j) Logical = false
may_take (Integer j) (Derived u) = false
may_take Logical e = same_type Logical e
may_take (Derived t) e = same_type (Derived t) e

-- the kind of a literal (4.4.1)
abbrev pub literal_kind : IntegerLiteral → IntegerKind
literal_kind (literal.Four n) = Four
literal_kind (literal.Eight n) = Eight

-- an operation on two kinds has the wider one (7.1.4.2)
abbrev pub wider : IntegerKind → IntegerKind → IntegerKind
wider Four k = k
wider Eight k = Eight

-- what an expression has: a computed value of a type and a rank
abbrev pub computed : DataType → ℕ → Has
computed d rank = record { data_type = Some d; rank = rank; is_allocatable = false; form = Computed }

-- whether an expression breaks no rule and its type is known
abbrev pub is_known : Option DataType → Bool
is_known None = false
is_known (Some d) = true

abbrev pub has_type : Option Has → Bool
has_type None = false
has_type (Some h) = is_known h.data_type

-- whether it breaks no rule
abbrev pub is_unbroken : Option Has → Bool
is_unbroken None = false
is_unbroken (Some h) = true

-- a scalar of a type that is wanted
abbrev pub type_fits : Wanted → Option DataType → Bool
type_fits want None = false
type_fits want (Some d) = is_wanted want d

abbrev pub has_fits : Wanted → Option Has → Bool
has_fits want None = false
has_fits want (Some h) = type_fits want h.data_type && (h.rank == 0)

abbrev pub fits : Wanted → Said → Bool
fits want s = has_fits want s.has

-- T6: an expression of another type than is wanted; its first token. T7: one of another rank; its first token. Of an
-- expression without a type nothing is said.
abbrev pub typed_rows : Bool → Bool → Place → List Break
typed_rows right_type right_rank place = unless right_type (at_place 6 T6 place) ++ unless right_rank (at_place 6 T7 place)

abbrev pub type_rows : Wanted → ℕ → Place → Option DataType → List Break
type_rows want rank place None = []
type_rows want rank place (Some d) = typed_rows (is_wanted want d) (rank == 0) place

abbrev pub has_rows : Wanted → Place → Option Has → List Break
has_rows want place None = []
has_rows want place (Some h) = type_rows want h.rank place h.data_type

-- what is broken by an expression that has to be a scalar of a type that is wanted
abbrev pub scalar_rows : Wanted → Said → List Break
scalar_rows want s = has_rows want s.place s.has
