-- What the rules on types know where a statement stands, and what its elaborated program says there, are of the same kinds: of one type,
-- of one rank, allocatable or not.
use Rattle.std.specs.Prelude.{◌≡◌, ⊤, ℕ, Bool, true, false, List, [], ◌∷◌, map, Some, slice_get}
use Rattle.f3_lookups.specs.declared.lookup.Lookup.TheVariants.{One}
use Rattle.f3_program.specs.declared.declarations.Base.{Base}
use Rattle.f3_program.specs.declared.declarations.Base.TheVariants as base_is
use Rattle.f3_program.specs.declared.declarations.Component as program
use Rattle.f3_program.specs.declared.declarations.Constant.{Constant}
use Rattle.f3_program.specs.declared.declarations.Constant.TheVariants.{Number, Truth}
use Rattle.f3_program.specs.declared.declarations.Declared.{Declared}
use Rattle.f3_program.specs.declared.declarations.Derived.{Derived}
use Rattle.f3_program.specs.declared.declarations.Kind.{Kind}
use Rattle.f3_program.specs.declared.program.Procedure.{Procedure}
use Rattle.f3_program.specs.declared.program.Program.{Program}
use Rattle.f3_kinds.specs.declared.things.Component.{Component}
use Rattle.f3_kinds.specs.declared.things.Dummy.{Dummy}
use Rattle.f3_kinds.specs.declared.types.Object.{Object}
use Rattle.f3_kinds.specs.Things.{constant, variable, derived, subroutine, function, look_here}
use Rattle.f3_meaning_whole.specs.Formed.{alike, of_kind, kinds_of, result_kind, kind_of_name}
use Rattle.f3_elaboration.specs.Context.{Surroundings, base}
use Rattle.f3_elaboration.specs.Declarations.{constant_of}
use Rattle.f3_lawful_laws.specs.Agreement.{Knows}

-- the kind of an object that the rules know
abbrev pub kind_of : Surroundings → Object → Kind
kind_of s o = record { of = base s o.data_type; rank = o.rank; is_allocatable = o.is_allocatable }

-- a number is told as one of the default kind, whatever its own
abbrev pub constant_type : Constant → Base
constant_type (Number z) = base_is.Integer
constant_type (Truth b) = base_is.Logical

-- a named constant is a scalar, a number or a truth value as its type is
pub record IsConstant (s : Surroundings) (e : ℕ) (o : Object) : Type 0 where
  pub scalar : o.rank ≡ 0
  pub plain : o.is_allocatable ≡ false
  pub alike_to : alike (constant_type (constant_of ((s.context).value e))) (base s o.data_type) ≡ true

-- components of the program, and those that the rules know, in one order
abbrev pub AreComponents : Surroundings → List program.Component → List (ℕ × Component) → Type 0
AreComponents s [] [] = ⊤
AreComponents s [] (k ∷ ks) = ⊥
AreComponents s (x ∷ xs) [] = ⊥
AreComponents s (x ∷ xs) (k ∷ ks) = ((x.declared).kind ≡ kind_of s (k.1).object) × AreComponents s xs ks

-- the type that is this entity, with components of these kinds
pub record HasComponents (p : Program) (s : Surroundings) (e : ℕ) (ks : List (ℕ × Component)) : Type 0 where
  pub type : Derived
  pub there : slice_get p.types.items (s.type e) ≡ Some type
  pub components : AreComponents s type.components.items ks

-- the procedure that is this entity, with dummies of these kinds
pub record HasDummies (p : Program) (s : Surroundings) (e : ℕ) (ds : List (ℕ × Dummy)) : Type 0 where
  pub procedure : Procedure
  pub there : slice_get p.procedures.items (s.procedure e) ≡ Some procedure
  pub dummies : kinds_of procedure.dummies.items ≡ map (λ (d : ℕ × Dummy). kind_of s (d.1).object) ds

-- the names of a place mean entities of the kinds that the program has
pub record AgreesInKinds (p : Program) (variables : List Declared) (names : List Kind) (s : Surroundings) : Type 0 where
  pub known : Knows s.context
  pub constants : (e : ℕ) (o : Object) → (s.context).nature e ≡ Some (constant o) → IsConstant s e o
  pub types : (e home : ℕ) (ks : List (ℕ × Component)) (f : Bool) → (s.context).nature e ≡ Some (derived home ks f) → HasComponents p s e ks
  pub subroutines : (e : ℕ) (pure : Bool) (ds : List (ℕ × Dummy)) → (s.context).nature e ≡ Some (subroutine pure ds) → HasDummies p s e ds
  pub functions : (e : ℕ) (pure : Bool) (ds : List (ℕ × Dummy)) (o : Object) → (s.context).nature e ≡ Some (function pure ds o)
      → (q : HasDummies p s e ds) × (result_kind (q.procedure).result ≡ of_kind (base s o.data_type) o.rank)
  pub objects : (symbol e : ℕ) (o : Object) → look_here s.context symbol ≡ One e → (s.context).nature e ≡ Some (variable o)
      → kind_of_name p variables names (s.object e) ≡ Some (kind_of s o)
