-- Bounds, initializers and sizes (ISO/IEC 1539-1:2004, 5.1.2.5).
use Rattle.std.specs.Prelude.{ℕ, ◌+◌, ◌*◌, ℤ, pos, negsuc, ◌+ℤ◌, ◌-ℤ◌, Bool, true, not, ◌&&◌, ◌||◌, nat_eq, nat_lt, List, [], ◌∷◌, ◌++◌}
use Rattle.std.specs.Prelude.{Option, None, Some, map, if◌then◌else◌}
use Rattle.std.specs.Option.{option_map}
use Rattle.std.specs.List.{flat_map, list_all}
use Rattle.std.specs.Map.{lookup}
use Rattle.f3_rules.specs.declared.rule.Rule.TheVariants.{T5}
use Rattle.f3_rules.specs.declared.breaks.Break.{Break}
use Rattle.f3_tree.specs.Expressions.{Tree, array, Trees, no_trees, trees}
use Rattle.f3_tree.specs.Declarations.{Bounds, ShapeTree, explicit, deferred, AttributeTree, dimension}
use Rattle.f3_tree.specs.declared.expression.IntegerKind.TheVariants.{Four}
use Rattle.f3_kinds.specs.declared.types.DataType.{DataType}
use Rattle.f3_kinds.specs.declared.types.DataType.TheVariants.{Derived}
use Rattle.f3_kinds.specs.declared.types.Object.{Object}
use Rattle.f3_kinds.specs.declared.types.Scalar.{Scalar}
use Rattle.f3_kinds.specs.declared.types.Scalar.TheVariants.{Number}
use Rattle.f3_kinds.specs.Things.{map_or, Context}
use Rattle.f3_kinds.specs.Rows.{at_name, unless}
use Rattle.f3_kinds.specs.Values.{value_of, converted, has_value, is_number}
use Rattle.f3_type_rules.specs.Constants.{constant_rows}
use Rattle.f3_type_rules.specs.Names.{Declared, shape_of, dimensions, object_of}
use Rattle.f3_type_rules.specs.Walks.{Known, Spot, context, is_among}

-- ---- T2: bounds and initializers that are no constants, have no value, or the wrong type or shape; the first token. Where a part of
-- one has no type nothing is said.

abbrev pub bound_rows : Context → Tree → List Break
bound_rows c e = constant_rows 5 c (is_number (value_of c e)) e

abbrev pub shape_rows : Context → Option ShapeTree → List Break
shape_rows c None = []
shape_rows c (Some (explicit bs)) = flat_map (λ (b : Bounds). map_or [] (bound_rows c) b.lower ++ bound_rows c b.upper) bs
shape_rows c (Some (deferred ls)) = flat_map (map_or [] (bound_rows c)) ls

abbrev pub dimension_rows : Context → AttributeTree → List Break
dimension_rows c (dimension s) = shape_rows c (Some s)
dimension_rows c _ = []

-- the extents of a shape, where all bounds have values
abbrev pub natural : ℤ → ℕ
natural (pos n) = n
natural (negsuc n) = 0

abbrev pub extent : Option Scalar → Option Scalar → Option ℕ
extent (Some (Number j z)) (Some (Number k y)) = Some (natural ((y -ℤ z) +ℤ pos 1))
extent _ _ = None

abbrev pub bounds_extent : Context → Bounds → Option ℕ
bounds_extent c b = extent (map_or (Some (Number Four (pos 1))) (value_of c) b.lower) (value_of c b.upper)

abbrev pub multiplied : Option ℕ → Option ℕ → Option ℕ
multiplied (Some m) (Some n) = Some (m * n)
multiplied _ _ = None

abbrev pub summed : Option ℕ → Option ℕ → Option ℕ
summed (Some m) (Some n) = Some (m + n)
summed _ _ = None

abbrev pub product : Option ℕ → List (Option ℕ) → Option ℕ
product n [] = n
product n (m ∷ ms) = product (multiplied n m) ms

-- how many elements a shape has; none where it is not known
abbrev pub elements : Context → Option ShapeTree → Option ℕ
elements c None = Some 1
elements c (Some (explicit bs)) = product (Some 1) (map (bounds_extent c) bs)
elements c (Some (deferred ls)) = None

-- a value for each element of an array of rank 1, as far as their count is known; or one for all
abbrev pub all_converted : Context → DataType → Trees → Bool
all_converted c t no_trees = true
all_converted c t (trees e es) = has_value (converted t (value_of c e)) && all_converted c t es

abbrev pub count : Trees → ℕ
count no_trees = 0
count (trees e es) = count es + 1

abbrev pub initial_fits : Context → DataType → ℕ → Option ℕ → Tree → Bool
initial_fits c t rank size (array p es) = nat_eq rank 1 && all_converted c t es && map_or true (nat_eq (count es)) size
initial_fits c t rank size e = has_value (converted t (value_of c e))

-- of an object of derived type, which breaks T1, nothing is said
abbrev pub initial_right : Context → Option DataType → ℕ → Option ℕ → Tree → Bool
initial_right c None rank size e = true
initial_right c (Some (Derived t)) rank size e = true
initial_right c (Some t) rank size e = initial_fits c t rank size e

-- ---- T5: a rank above 7, more than 16,777,216 cells, or a dimension of more than 9,223,372,036,854,775,807 subscripts; the declared
-- name, and the name of a type (own rules)

abbrev pub at_most : ℕ → Option ℕ → Bool
at_most limit n = map_or true (λ n. not (nat_lt limit n)) n

-- whether each dimension has no more subscripts than that, as far as its bounds are known
abbrev pub are_dimensions_small : Context → Option ShapeTree → Bool
are_dimensions_small c (Some (explicit bs)) = list_all (λ (b : Bounds). at_most 9223372036854775807 (bounds_extent c b)) bs
are_dimensions_small c _ = true

abbrev pub type_cells : Known → Option DataType → Option ℕ
type_cells k None = None
type_cells k (Some (Derived t)) = lookup (nat_eq t) k.cells
type_cells k (Some t) = Some 1

-- the cells of an object or a component: an allocatable is one (own rule)
abbrev pub cells_of : Known → Object → Option ℕ → Option ℕ
cells_of k o size = if o.is_allocatable then Some 1 else multiplied (type_cells k o.data_type) size

abbrev pub cells_in : Spot → Known → Declared → Option ℕ
cells_in s k x = cells_of k (object_of (s.scene).names s.scope x) (elements (context s k) (shape_of x))

abbrev pub size_rows : Spot → Known → Declared → List Break
size_rows s k x =
    let is_small : Bool = at_most 16777216 (cells_in s k x) && are_dimensions_small (context s k) (shape_of x) in
    unless (at_most 7 (option_map dimensions (shape_of x)) && (is_among s.dummies x.1 || is_small)) (at_name 5 T5 (x.1).name)
