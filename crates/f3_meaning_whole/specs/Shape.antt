-- Types as trees, and initial values.
use Rattle.std.specs.Prelude.{ℕ, zero, suc, pos, false, List, [], ◌∷◌, ◌++◌, map, length, replicate, Option, None, Some, slice_index_or, if◌then◌else◌, nat_eq}
use Rattle.f3_program.specs.declared.declarations.Base.{Base}
use Rattle.f3_program.specs.declared.declarations.Base.TheVariants as base
use Rattle.f3_program.specs.declared.declarations.Constant.{Constant}
use Rattle.f3_program.specs.declared.declarations.Dimension.{Dimension}
use Rattle.f3_program.specs.declared.declarations.Declared.{Declared}
use Rattle.f3_program.specs.declared.declarations.Component.{Component}
use Rattle.f3_program.specs.declared.declarations.Derived.{Derived}
use Rattle.f3_program.specs.declared.declarations.Final.{Final}
use Rattle.f3_meaning_whole.specs.Value.{Span, Value, Number, Truth, Composite, Array, Unallocated, Values, none, more, joined, count}
use Rattle.f3_meaning_whole.specs.Arithmetic.{constant_value}

-- A type with the types of its components beneath. No type contains itself (ISO/IEC 1539-1:2004, 4.5.3), so it is a tree.
mutual
  pub data Shape : Type 0 where
    Whole : Shape
    Logical : Shape
    Record : (type : ℕ) → Parts → Shape

  pub data Parts : Type 0 where
    nothing : Parts
    and : Component → Shape → Parts → Parts

-- the type among the trees of those before it
abbrev pub shape_in : List Shape → Base → Shape
shape_in shapes base.Integer = Whole
shape_in shapes base.Long = Whole
shape_in shapes base.Logical = Logical
shape_in shapes (base.Derived t) = slice_index_or shapes t Whole

abbrev pub parts_in : List Shape → List Component → Parts
parts_in shapes [] = nothing
parts_in shapes (c ∷ cs) = and c (shape_in shapes c.declared.kind.of) (parts_in shapes cs)

abbrev pub shapes_from : List Shape → List Derived → List Shape
shapes_from shapes [] = shapes
shapes_from shapes (t ∷ ts) = shapes_from (shapes ++ Record (length shapes) (parts_in shapes t.components.items) ∷ []) ts

-- the trees of the types, each behind those of its components
abbrev pub shapes_of : List Derived → List Shape
shapes_of types = shapes_from [] types

abbrev pub spans_declared : List Dimension → List Span
spans_declared ds = map (λ (d : Dimension). record { lower = d.lower; extent = d.extent }) ds

-- the values of elements that are initialized so: with nothing, with one value for each, or with their own
abbrev pub initialized : ℕ → List Constant → Value → List Value
initialized n [] v = replicate n v
initialized n (c ∷ []) v = replicate n (constant_value c)
initialized n (c ∷ d ∷ cs) v = map constant_value (c ∷ d ∷ cs)

-- the initial value of an object of bounds, given that of its elements
abbrev pub arranged : ℕ → List Span → List Constant → Value → Value
arranged zero ss [] v = v
arranged zero ss (c ∷ cs) v = constant_value c
arranged (suc rank) ss cs v = Array ss (joined (initialized (count ss) cs v))

-- an allocatable is unallocated; else default initialization, where there is one, or 0 or .FALSE. (own rule for 16.5.6)
abbrev pub initial_declared : Declared → Value → Value
initial_declared d v = if d.kind.is_allocatable then Unallocated else arranged d.kind.rank (spans_declared d.dimensions.items) d.initial.items v

abbrev mutual
  pub initial_of : Shape → Value
  initial_of Whole = Number (pos 0)
  initial_of Logical = Truth false
  initial_of (Record t parts) = Composite (initial_parts parts)

  pub initial_parts : Parts → Values
  initial_parts nothing = none
  initial_parts (and c s rest) = more (initial_declared c.declared (initial_of s)) (initial_parts rest)

-- the final subroutine of a type for a rank (4.5.5)
abbrev pub final_for : ℕ → List Final → Option ℕ
final_for rank [] = None
final_for rank (f ∷ fs) = if nat_eq f.rank rank then Some f.procedure else final_for rank fs
