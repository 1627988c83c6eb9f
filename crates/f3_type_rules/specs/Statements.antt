-- The breaks of phase 6 of actions, conditions and controls.
use Rattle.std.specs.Prelude.{ℕ, ◌+◌, true, false, ◌&&◌, ◌||◌, ◌==◌, nat_eq, List, [], ◌∷◌, ◌++◌, Option, None, Some, if◌then◌else◌}
use Rattle.std.specs.List.{flat_map}
use Rattle.f3_places.specs.declared.source.Place.{Place}
use Rattle.f3_rules.specs.declared.rule.Rule.TheVariants.{N10, N11, T6, T7, T9}
use Rattle.f3_rules.specs.declared.breaks.Break.{Break}
use Rattle.f3_tree.specs.declared.expression.Name.{Name}
use Rattle.f3_tree.specs.Expressions.{Tree, text, Parts, parts, bare, no_parts, arguments_of}
use Rattle.f3_tree.specs.Statements.{Act, assign, call, allocate, deallocate, print, Controls, forever, counted, while}
use Rattle.f3_kinds.specs.declared.types.DataType.{DataType}
use Rattle.f3_kinds.specs.declared.types.Wanted.TheVariants as wanted
use Rattle.f3_kinds.specs.declared.said.Has.{Has}
use Rattle.f3_kinds.specs.declared.said.Said.{Said}
use Rattle.f3_kinds.specs.declared.said.Given.{Given}
use Rattle.f3_kinds.specs.declared.said.Given.TheVariants.{Value, Triplet}
use Rattle.f3_kinds.specs.declared.said.Role.TheVariants as role
use Rattle.f3_kinds.specs.declared.things.Dummy.{Dummy}
use Rattle.f3_kinds.specs.declared.things.Intrinsic.TheVariants as intrinsic_is
use Rattle.f3_kinds.specs.Things.{map_or, subroutine, Context, Meaning, nothing, several, intrinsic, entity, meaning_of}
use Rattle.f3_kinds.specs.Rows.{at_place, at_name, unless, is_intrinsic_type, has_type, scalar_rows}
use Rattle.f3_kinds.specs.Operands.{type_in}
use Rattle.f3_kinds.specs.Calls.{place_for, call_rows, type_takes}
use Rattle.f3_kinds.specs.Typing.{said, breaks, said_arguments, breaks_arguments, designator_at, designator_breaks}

-- ---- assignment (7.4.1)

-- T6: an expression that the variable can't take. T7: one of another rank that is no scalar. The expression's first token; where one
-- of the two has no type nothing is said.
abbrev pub assigned_has : Place → Option Has → Option Has → List Break
assigned_has place None e = []
assigned_has place (Some v) None = []
assigned_has place (Some v) (Some e) =
    if has_type (Some v) && has_type (Some e)
    then unless (type_takes v.data_type e.data_type) (at_place 6 T6 place) ++ unless ((e.rank == 0) || (e.rank == v.rank)) (at_place 6 T7 place)
    else []

abbrev pub assigned_rows : (variable : Said) → (expression : Said) → List Break
assigned_rows v e = assigned_has e.place v.has e.has

-- ---- MOVE_ALLOC(FROM, TO): two allocatables, TO of the type, the kind and the rank of FROM, so far as these are known (13.7.82)

-- a dummy for what is given
abbrev pub allocatable_as : Option Has → Dummy
allocatable_as h = record { object = record { data_type = type_in h; rank = map_or 0 (λ (h : Has). h.rank) h; is_allocatable = true }; intent = None }

abbrev pub two_dummies : ℕ × ℕ → Option Has → Option Has → List (ℕ × Dummy)
two_dummies names f t = (names.0, allocatable_as f) ∷ (names.1, allocatable_as t) ∷ []

abbrev pub has_of : Given → Option Has
has_of (Value keyword s) = s.has
has_of (Triplet p first last stride) = None

-- what the first argument has that is for the dummy at this place, among those from a position on
abbrev pub given_at : (names : ℕ × ℕ) → (place : ℕ) → (position : ℕ) → List Given → Option Has
given_at names place position [] = None
given_at names place position (g ∷ gs) =
    if map_or false (nat_eq place) (place_for (two_dummies names None None) position g) then has_of g else given_at names place (position + 1) gs

-- FROM is as what is given for it; TO as FROM where that is right, else as what is given for TO
abbrev pub moving_dummies : ℕ × ℕ → List Given → List (ℕ × Dummy)
moving_dummies names gs =
    let from : Option Has = given_at names 0 0 gs in
    two_dummies names from (if map_or false (λ (h : Has). h.is_allocatable && has_type (Some h)) from then from else given_at names 1 0 gs)

-- ---- CALL (12.4)

-- T9: a name that is no subroutine where one is needed; the name
abbrev pub called_rows : (moving : ℕ × ℕ) → Name → Meaning → List Given → List Break
called_rows moving n nothing gs = at_name 6 N10 n ∷ []
called_rows moving n several gs = at_name 6 N11 n ∷ []
called_rows moving n (entity e (subroutine pure ds)) gs = call_rows n ds gs
called_rows moving n (entity e _) gs = at_name 6 T9 n ∷ []
called_rows moving n (intrinsic intrinsic_is.MoveAlloc) gs = call_rows n (moving_dummies moving gs) gs
called_rows moving n (intrinsic _) gs = at_name 6 T9 n ∷ []

-- ---- PRINT: items of type integer or logical, of any rank, or character constants (own rule)

abbrev pub item_rows : Said → List Break
item_rows s = map_or [] (λ (d : DataType). unless (is_intrinsic_type d) (at_place 6 T6 s.place)) (type_in s.has)

abbrev pub item_breaks : Context → Tree → List Break
item_breaks c (text p k) = []
item_breaks c e = breaks c e ++ item_rows (said c e)

-- ---- actions

-- a scalar integer variable: a STAT variable (6.3), a DO variable (8.1.6)
abbrev pub number_defined : Context → Parts → List Break
number_defined c v = designator_breaks c role.Variable v ++ scalar_rows wanted.Integer (designator_at c role.Variable v)

abbrev pub act_breaks : Context → Act → List Break
act_breaks c (assign v e) = designator_breaks c role.Variable v ++ (breaks c e ++ assigned_rows (designator_at c role.Variable v) (said c e))
act_breaks c (call n list) =
    breaks_arguments c (arguments_of list) ++ called_rows c.moving n (meaning_of c n.symbol) (said_arguments c (arguments_of list))
act_breaks c (allocate vs stat) = flat_map (designator_breaks c role.Allocated) vs ++ map_or [] (number_defined c) stat
act_breaks c (deallocate vs stat) = flat_map (designator_breaks c role.Deallocated) vs ++ map_or [] (number_defined c) stat
act_breaks c (print es) = flat_map (item_breaks c) es
act_breaks c _ = []

-- ---- conditions and controls (8.1): scalar logicals; a DO variable, its bounds and its step scalar integers

abbrev pub condition_breaks : Context → Tree → List Break
condition_breaks c e = breaks c e ++ scalar_rows wanted.Logical (said c e)

abbrev pub number_breaks : Context → Tree → List Break
number_breaks c e = breaks c e ++ scalar_rows wanted.Integer (said c e)

abbrev pub variable_of : Name → Parts
variable_of n = parts n bare no_parts

abbrev pub control_breaks : Context → Controls → List Break
control_breaks c forever = []
control_breaks c (while e) = condition_breaks c e
control_breaks c (counted n first last step) =
    number_defined c (variable_of n) ++ (number_breaks c first ++ (number_breaks c last ++ map_or [] (number_breaks c) step))
