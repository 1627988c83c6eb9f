-- What operators make of their operands, and constructors of arrays of their items (ISO/IEC 1539-1:2004, 7.1, 4.7).
use Rattle.std.specs.Prelude.{Bool, true, false, ◌&&◌, List, [], ◌∷◌, ◌++◌, Option, None, Some, if◌then◌else◌}
use Rattle.std.specs.List.{flat_map, list_all}
use Rattle.f3_places.specs.declared.source.Place.{Place}
use Rattle.f3_rules.specs.declared.rule.Rule.TheVariants.{T6}
use Rattle.f3_rules.specs.declared.breaks.Break.{Break}
use Rattle.f3_tree.specs.declared.expression.Operator.{Operator}
use Rattle.f3_tree.specs.declared.expression.Operator.TheVariants.{Power, Multiply, Divide, Add, Subtract, And, Or, Equivalent, NotEquivalent}
use Rattle.f3_tree.specs.declared.expression.IntegerKind.{IntegerKind}
use Rattle.f3_tree.specs.declared.expression.IntegerKind.TheVariants.{Four}
use Rattle.f3_kinds.specs.declared.types.DataType.{DataType}
use Rattle.f3_kinds.specs.declared.types.DataType.TheVariants.{Integer, Logical, Derived}
use Rattle.f3_kinds.specs.declared.said.Form.TheVariants.{Computed}
use Rattle.f3_kinds.specs.declared.types.Wanted.{Wanted}
use Rattle.f3_kinds.specs.declared.types.Wanted.TheVariants as wanted
use Rattle.f3_kinds.specs.declared.said.Has.{Has}
use Rattle.f3_kinds.specs.declared.said.Said.{Said}
use Rattle.f3_kinds.specs.Rows.{same_type, wider, computed, is_unbroken, fits, at_place, scalar_rows}

-- what is said of an expression that begins as another does
abbrev pub begun : Said → Bool → Option Has → Said
begun s parts has = record { place = s.place; lead = s.lead; has = has; are_parts_typed = parts }

-- what is said of an expression that no identifier begins
abbrev pub unnamed : Place → Bool → Option Has → Said
unnamed place parts has = record { place = place; lead = None; has = has; are_parts_typed = parts }

-- what an operation has, where its operands are right
abbrev pub when_right : Bool → Has → Option Has
when_right right has = if right then Some has else None

-- the kind of an operand (of what is no integer, which breaks a rule, the lesser one)
abbrev pub kind_in : Option DataType → IntegerKind
kind_in (Some (Integer k)) = k
kind_in (Some Logical) = Four
kind_in (Some (Derived t)) = Four
kind_in None = Four

abbrev pub kind_of : Option Has → IntegerKind
kind_of None = Four
kind_of (Some h) = kind_in h.data_type

abbrev pub widest : IntegerKind → List Said → IntegerKind
widest k [] = k
widest k (s ∷ ss) = widest (wider k (kind_of s.has)) ss

-- arithmetic takes integers, and logic logicals
abbrev pub wanted_by : Operator → Wanted
wanted_by Power = wanted.Integer
wanted_by Multiply = wanted.Integer
wanted_by Divide = wanted.Integer
wanted_by Add = wanted.Integer
wanted_by Subtract = wanted.Integer
wanted_by And = wanted.Logical
wanted_by Or = wanted.Logical
wanted_by Equivalent = wanted.Logical
wanted_by NotEquivalent = wanted.Logical

-- A level of operators: the result has the widest kind of its operands.
abbrev pub result_of : Wanted → IntegerKind → Has
result_of wanted.Integer k = computed (Integer k) 0
result_of wanted.Logical k = computed Logical 0
result_of wanted.Intrinsic k = computed Logical 0

abbrev pub chain_said : Wanted → Said → List Said → Said
chain_said want s ss =
    let right : Bool = fits want s && list_all (fits want) ss in
    begun s right (when_right right (result_of want (widest (kind_of s.has) ss)))

abbrev pub chain_rows : Wanted → Said → List Said → List Break
chain_rows want s ss = scalar_rows want s ++ flat_map (scalar_rows want) ss

-- a comparison of two integers
abbrev pub comparison_said : Said → Said → Said
comparison_said s r =
    let right : Bool = fits wanted.Integer s && fits wanted.Integer r in
    begun s right (when_right right (computed Logical 0))

-- a sign before a term, .NOT. before a comparison
abbrev pub signed_said : Place → Said → Said
signed_said place s = unnamed place (fits wanted.Integer s) (when_right (fits wanted.Integer s) (computed (Integer (kind_of s.has)) 0))

abbrev pub not_said : Place → Said → Said
not_said place s = unnamed place (fits wanted.Logical s) (when_right (fits wanted.Logical s) (computed Logical 0))

-- an expression in parentheses is no variable
abbrev pub enclosed : Option Has → Option Has
enclosed None = None
enclosed (Some h) = Some record { data_type = h.data_type; rank = h.rank; is_allocatable = false; form = Computed }

abbrev pub group_said : Place → Said → Said
group_said place s = unnamed place (is_unbroken s.has) (enclosed s.has)

-- An array constructor has the type of its items, which are scalars of one type, integer or logical (own rule).
abbrev pub type_in : Option Has → Option DataType
type_in None = None
type_in (Some h) = h.data_type

abbrev pub first_type : List Said → Option DataType
first_type [] = None
first_type (s ∷ ss) = type_in s.has

abbrev pub same_known : Option DataType → Option DataType → Bool
same_known (Some d) (Some e) = same_type d e
same_known None e = true
same_known (Some d) None = true

-- of the same type as another, as far as both are known
abbrev pub has_same : Option DataType → Said → Bool
has_same d s = same_known d (type_in s.has)

-- T6: the first item of another type than the first; its first token
abbrev pub mixed_rows : Option DataType → List Said → List Break
mixed_rows d [] = []
mixed_rows d (s ∷ ss) = if has_same d s then mixed_rows d ss else at_place 6 T6 s.place ∷ []

abbrev pub array_rows : List Said → List Break
array_rows ss = flat_map (scalar_rows wanted.Intrinsic) ss ++ (if list_all (fits wanted.Intrinsic) ss then mixed_rows (first_type ss) ss else [])

abbrev pub array_has : Bool → Option DataType → Option Has
array_has right None = None
array_has right (Some d) = when_right right (computed d 1)

abbrev pub array_said : Place → List Said → Said
array_said place ss =
    let right : Bool = list_all (fits wanted.Intrinsic) ss && list_all (has_same (first_type ss)) ss in
    unnamed place right (array_has right (first_type ss))
