-- A specification part statement by statement.
use Rattle.std.specs.Prelude.{◌≡◌, Bool, true, false, ◌&&◌, not, if◌then◌else◌, List, [], ◌∷◌, ◌++◌, Option, Some, None, Result, Ok, Err, option_and_then}
use Rattle.std.specs.Option.{option_map}
use Rattle.f3_places.specs.declared.source.Place.{Place}
use Rattle.f3_tree.specs.declared.expression.Name.{Name}
use Rattle.f3_tree.specs.declared.declaration.Accessibility.{Accessibility}
use Rattle.f3_tree.specs.declared.declaration.Accessibility.TheVariants.{Private, Public}
use Rattle.f3_tree.specs.Declarations.{UseTree, AccessTree, DeclarationTree, TypeTree, SpecificationTree, declares, accesses, protects}
use Rattle.f3_tree.specs.Declarations.{saves, defines, PartTree, part_tree, type_view}
use Rattle.f3_blocks.specs.declared.error.StepError.{StepError}
use Rattle.f3_blocks.specs.declared.error.StepError.TheVariants.{Memory, OutOfPlace, TooDeep}
use Rattle.f3_parts.specs.declared.builder.PartBuilder.{PartBuilder}
use Rattle.f3_parts.specs.Pieces.{Piece, use_of, implicit, declare, access, protect, save, type_begins, contains, final, type_ends}
use Rattle.f3_parts.specs.Parts.{fits_label}

-- the part so far, and the type definition that is open in it
pub record State : Type 0 where
  pub part : PartTree
  pub open_type : Option TypeTree

abbrev pub start : State
start = record { part = record { uses = []; implicit_none = None; specifications = [] }; open_type = None }

abbrev pub is_nil : {A : Type 0} → List A → Bool
is_nil [] = true
is_nil (x ∷ xs) = false

abbrev pub is_none : {A : Type 0} → Option A → Bool
is_none None = true
is_none (Some x) = false

-- nothing stands behind the USE statements yet
abbrev pub at_uses : PartTree → Bool
at_uses part = is_none part.implicit_none && is_nil part.specifications

abbrev pub with_use : UseTree → PartTree → Option PartTree
with_use u part = if at_uses part then Some (record part { uses = part.uses ++ u ∷ [] }) else None

abbrev pub with_implicit : Place → PartTree → Option PartTree
with_implicit p part = if at_uses part then Some (record part { implicit_none = Some p }) else None

abbrev pub with_specification : SpecificationTree → PartTree → PartTree
with_specification s part = record part { specifications = part.specifications ++ s ∷ [] }

-- ---- in a type definition

abbrev pub begun : Place → Option (Place × Accessibility) → Name → TypeTree
begun p a n = record { place = p; access = a; name = n; private = None; components = []; contains = None; finals = [] }

abbrev pub is_private : Accessibility → Bool
is_private Private = true
is_private Public = false

-- PRIVATE without a list stands first
abbrev pub with_private : AccessTree → TypeTree → Option TypeTree
with_private a t =
    if (is_private a.accessibility && is_nil a.names) && (is_none t.private && (is_nil t.components && is_none t.contains))
    then Some (record t { private = Some a.place })
    else None

abbrev pub with_component : DeclarationTree → TypeTree → Option TypeTree
with_component d t = if is_none t.contains then Some (record t { components = t.components ++ d ∷ [] }) else None

abbrev pub with_contains : Place → TypeTree → Option TypeTree
with_contains p t = if is_none t.contains && not (is_nil t.components) then Some (record t { contains = Some p }) else None

abbrev pub with_finals : List Name → TypeTree → Option TypeTree
with_finals names t = if is_none t.contains then None else Some (record t { finals = t.finals ++ names })

abbrev pub open_in : PartTree → TypeTree → State
open_in part t = record { part = part; open_type = Some t }

abbrev pub ended : PartTree → Option Name → TypeTree → Option State
ended part label t =
    if not (is_nil t.components) && fits_label label t.name then Some (record { part = with_specification (defines t) part; open_type = None }) else None

abbrev pub in_type : Piece → PartTree → TypeTree → Option State
in_type (access a) part t = option_map (open_in part) (with_private a t)
in_type (declare d) part t = option_map (open_in part) (with_component d t)
in_type (contains p) part t = option_map (open_in part) (with_contains p t)
in_type (final names) part t = option_map (open_in part) (with_finals names t)
in_type (type_ends label) part t = ended part label t
in_type _ part t = None

-- ---- outside of type definitions

abbrev pub closed : PartTree → State
closed part = record { part = part; open_type = None }

abbrev pub specified : SpecificationTree → PartTree → Option State
specified s part = Some (closed (with_specification s part))

abbrev pub outside : Bool → Piece → PartTree → Option State
outside of_module (use_of u) part = option_map closed (with_use u part)
outside of_module (implicit p) part = option_map closed (with_implicit p part)
outside of_module (declare d) part = specified (declares d) part
outside of_module (access a) part = specified (accesses a) part
outside of_module (protect p names) part = specified (protects p names) part
outside of_module (save p) part = if of_module then specified (saves p) part else None
outside of_module (type_begins p a n) part = if of_module then Some (open_in part (begun p a n)) else None
outside of_module _ part = None

abbrev pub step_from : Bool → Piece → PartTree → Option TypeTree → Option State
step_from of_module p part None = outside of_module p part
step_from of_module p part (Some t) = in_type p part t

abbrev pub step : Bool → Piece → State → Option State
step of_module p s = step_from of_module p s.part s.open_type

abbrev pub run : Bool → List Piece → State → Option State
run of_module [] s = Some s
run of_module (p ∷ ps) s = option_and_then (run of_module ps) (step of_module p s)

-- ---- what the builder holds

abbrev pub builder_view : PartBuilder → State
builder_view b = record { part = part_tree b.part; open_type = option_map type_view b.open_type }

-- What something becomes, or that it cannot: `next` is what the machine makes of it. Nothing is said of t behind an error.
abbrev pub Becomes : {A U : Type 0} → Result U StepError → A → Option A → Type 0
Becomes (Ok u) t next = next ≡ Some t
Becomes (Err Memory) t next = Unit {0}
Becomes (Err OutOfPlace) t next = next ≡ None
Becomes (Err TooDeep) t next = ⊥
