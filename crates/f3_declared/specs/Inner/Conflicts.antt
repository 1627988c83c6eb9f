-- T1 by what was read of the attributes.
use Rattle.std.specs.Prelude.{Bool, false, not, ◌&&◌, ◌||◌, Option}
use Rattle.f3_tree.specs.Declarations.{ShapeTree}
use Rattle.f3_type_rules.specs.Names.{is_given}
use Rattle.f3_type_rules.specs.Finals.{is_explicit}
use Rattle.f3_type_rules.specs.Attributes.{is_deferred, is_open}
use Rattle.f3_declared.specs.declared.attributes.Kinds.{Kinds}
use Rattle.f3_declared.specs.declared.attributes.Standing.{Standing}
use Rattle.f3_declared.specs.Standings.{together}

abbrev pub twice_by : Kinds → Standing → Bool
twice_by k listed =
    (together k.protected listed).twice
    || (k.parameter.twice || (k.save.twice || (k.allocatable.twice || (k.dimension.twice || (k.intent.twice || false)))))

abbrev pub allocatable_by : Kinds → (initial : Bool) → Option ShapeTree → Bool
allocatable_by k initial shape = k.allocatable.once && (k.parameter.once || initial || not (is_open shape))

abbrev pub parameter_by : Kinds → (initial derived : Bool) → Option ShapeTree → Bool
parameter_by k initial derived shape = k.parameter.once && (not initial || k.save.once || k.intent.once || is_given shape || derived)

abbrev pub pure_by : Kinds → (is_pure initial : Bool) → Bool
pure_by k is_pure initial = is_pure && not k.parameter.once && (k.save.once || initial)

abbrev pub shape_by : Kinds → (dummy : Bool) → Option ShapeTree → Bool
shape_by k dummy shape = is_deferred shape && not k.allocatable.once && not dummy

abbrev pub type_by : Kinds → (is_type : Bool) → Bool
type_by k is_type = is_type && (k.protected.once || (k.parameter.once || (k.save.once || (k.intent.once || false))))

abbrev pub conflicts_by : Kinds → Standing → (is_type is_pure dummy of_procedure initial derived : Bool) → Option ShapeTree → Bool
conflicts_by k listed is_type is_pure dummy of_procedure initial derived shape =
    twice_by k listed
    || allocatable_by k initial shape
    || parameter_by k initial derived shape
    || (initial && (of_procedure || derived))
    || (k.save.once && of_procedure)
    || pure_by k is_pure initial
    || shape_by k dummy shape
    || (is_explicit shape && dummy)
    || type_by k is_type
