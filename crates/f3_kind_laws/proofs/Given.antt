-- In a program that breaks no rule the named constants have values of their types.
use Rattle.std.proofs.Common.{◌≡◌, ℕ, Bool, true, false, List, [], Option, None, Some, refl, sym, ap, ◌∙◌, arith}
use Rattle.std.specs.Prelude.{slice_get}
use Rattle.std.specs.List.{list_any}
use mathlib.Core.Path.{subst}
use Rattle.f3_lookups.specs.declared.lookup.Lookup.{Lookup}
use Rattle.f3_nodes.proofs.Members.{Has, at_has, has_mapped}
use Rattle.f3_scopes.specs.declared.outline.EntityKind.{EntityKind}
use Rattle.f3_scopes.specs.declared.outline.EntityKind.TheVariants as entity
use Rattle.f3_scopes.specs.Scopes.{kind_of}
use Rattle.f3_tree.specs.declared.expression.IntegerKind.TheVariants.{Four, Eight}
use Rattle.f3_tree.specs.declared.program.ProcedureKind.{ProcedureKind}
use Rattle.f3_tree.specs.declared.program.ProcedureKind.TheVariants.{Subroutine, Function}
use Rattle.f3_tree.specs.Declarations.{parameter, EntityTree, declares}
use Rattle.f3_tree.specs.Tree.{ProcedureTree, Tree}
use Rattle.f3_program.specs.declared.program.Program.{Program}
use Rattle.f3_kinds.specs.declared.types.DataType.{DataType}
use Rattle.f3_kinds.specs.declared.types.DataType.TheVariants.{Integer, Logical, Derived}
use Rattle.f3_kinds.specs.declared.types.Object.{Object}
use Rattle.f3_kinds.specs.declared.types.Scalar.{Scalar}
use Rattle.f3_kinds.specs.declared.types.Scalar.TheVariants.{Number, Truth}
use Rattle.f3_kinds.specs.declared.things.Dummy.{Dummy}
use Rattle.f3_kinds.specs.Things.{map_or, Nature, constant, variable, derived, subroutine, function}
use Rattle.f3_meaning_whole.specs.Formed.{alike}
use Rattle.f3_meaning_whole.specs.Permitted.{Each}
use Rattle.f3_phase_laws.proofs.Numbers.{units}
use Rattle.f3_type_rules.specs.Attributes.{has}
use Rattle.f3_type_rules.specs.Declarations.{header_rows, spot_of, within_member, member_rows, member_next, unit_spot, within_unit, behind_part, unit_rows, unit_next}
use Rattle.f3_type_rules.specs.Members.{Member, Numbered}
use Rattle.f3_type_rules.specs.Names.{Names, Declared, attributes_of, dimensions, is_allocatable, object_of, shape_of, type_of}
use Rattle.f3_type_rules.specs.Natures.{object_nature, kind_nature}
use Rattle.f3_type_rules.specs.Program.{nothing_known, program_breaks, units_in}
use Rattle.f3_type_rules.specs.Scene.{names_of}
use Rattle.f3_type_rules.specs.Walks.{after, context, Known, Spot}
use Rattle.f3_elaboration.specs.Context.{Surroundings, base}
use Rattle.f3_elaboration.specs.Declarations.{constant_of, Whole}
use Rattle.f3_elaboration.specs.DeclaredViews.{program_view}
use Rattle.f3_elaboration.specs.Numbers.{Inner, Variable}
use Rattle.f3_elaboration.specs.Program.{elaborated}
use Rattle.f3_elaboration.specs.Units.{surroundings}
use Rattle.f3_lawful_laws.specs.Blocks.{IsStepWritten}
use Rattle.f3_lawful_laws.specs.Entities.{units_of, whole_of}
use Rattle.f3_lawful_laws.proofs.Facts.{no, same, first, second, negated}
use Rattle.f3_formed_laws.specs.Agreement.{constant_type, IsConstant}
use Rattle.f3_entity_laws.specs.Things.{Home, of_unit, of_member, unit_in, number_of, specifications_of, Thing, name, type, procedure, result, associate, things_of, nature_of, IsAmong, IsHome, IsOf}
use Rattle.f3_entity_laws.specs.Laws.{names_at, variable_at}
use Rattle.f3_entity_laws.proofs.Entities.{of_program}
use Rattle.f3_entity_laws.proofs.Found.{ordered_unit, unit_ordered}
use Rattle.f3_entity_laws.proofs.Names.{name_things, thing_names}
use Rattle.f3_entity_laws.proofs.Natures.{natures as thing_of}
use Rattle.f3_agreement_laws.specs.Unbroken.{IsUnbroken}
use Rattle.f3_agreement_laws.proofs.Declared.{each_get}
use Rattle.f3_agreement_laws.proofs.Free.{nil_of}
use Rattle.f3_variable_laws.proofs.Lists.{among_of, each_of}
use Rattle.f3_variable_laws.proofs.Natures.{is_variable_nature, name_known}
use Rattle.f3_variable_laws.proofs.Owned.{unit_is}
use Rattle.f3_kind_laws.specs.Laws.{ConstantsAreOfTypes}
use Rattle.f3_kind_laws.specs.Written.{IsSpecificationWritten, IsUnitWritten, AreInitialsWritten}
use Rattle.f3_kind_laws.proofs.Constants.{found_entry, Grows, Covers, after_grows, covered, AllRight, after_right, MakesRight, part_right, part_grows, Gives, part_cover}
use Rattle.f3_kind_laws.proofs.Typed.{speaks_of}
use Rattle.f3_kind_laws.proofs.Values.{is_of_some, given_right, constant_given, constant_scalar}

-- ---- values of a type

alike_of : (s : Surroundings) (d : Option DataType) (v : Scalar) → is_of_some d v ≡ true → alike (constant_type (constant_of (Some v))) (base s d) ≡ true
alike_of s (Some (Integer Four)) (Number k z) is = refl
alike_of s (Some (Integer Eight)) (Number k z) is = refl
alike_of s (Some Logical) (Truth b) is = refl
alike_of s (Some (Integer k)) (Truth b) is = no (sym is)
alike_of s (Some Logical) (Number k z) is = no (sym is)
alike_of s (Some (Derived e)) v is = no (sym is)
alike_of s None v is = no (sym is)

-- ---- things that are constants

abbrev tag : Nature → ℕ
tag (constant o) = 0
tag (variable o) = 1
tag (derived home ks f) = 2
tag (subroutine pure ds) = 3
tag (function pure ds o) = 4

abbrev object_or : Object → Nature → Object
object_or x (constant o) = o
object_or x (variable o) = x
object_or x (derived home ks f) = x
object_or x (subroutine pure ds) = x
object_or x (function pure ds o) = x

record IsConstantOf (names : Names) (us : List Numbered) (g : Thing) (o : Object) : Type 0 where
  home : Home
  declared : Declared
  is : g ≡ name home declared
  object : object_of names (number_of home) declared ≡ o
  among : IsOf us (name home declared)

object_is : (k : EntityKind) (x o : Object) → constant o ≡ object_nature k x → x ≡ o
object_is entity.Constant x o is = sym (ap (object_or x) is)
object_is entity.Variable x o is = let a : 0 ≡ 1 = ap tag is in absurd (omega (arith, a))
object_is entity.DerivedType x o is = let a : 0 ≡ 1 = ap tag is in absurd (omega (arith, a))
object_is entity.Subroutine x o is = let a : 0 ≡ 1 = ap tag is in absurd (omega (arith, a))
object_is entity.Function x o is = let a : 0 ≡ 1 = ap tag is in absurd (omega (arith, a))

no_procedure : {A : Type 0} (pure : Bool) (ds : List (ℕ × Dummy)) (x o : Object) (k : ProcedureKind) → constant o ≡ kind_nature pure ds x k → A
no_procedure pure ds x o Subroutine is = let a : 0 ≡ 3 = ap tag is in absurd (omega (arith, a))
no_procedure pure ds x o (Function s outcome) is = let a : 0 ≡ 4 = ap tag is in absurd (omega (arith, a))

constant_thing : (names : Names) (us : List Numbered) (g : Thing) (f : Bool) (o : Object) → IsOf us g → constant o ≡ nature_of names f g → IsConstantOf names us g o
constant_thing names us (name h x) f o of is =
    record { home = h; declared = x; is = refl; object = object_is (kind_of (x.0).attributes) (object_of names (number_of h) (x.0, x.1)) o is; among = of }
constant_thing names us (type h x) f o of is = let a : 0 ≡ 2 = ap tag is in absurd (omega (arith, a))
constant_thing names us (procedure u m) f o of is = no_procedure _ _ _ o ((m.tree).header).kind is
constant_thing names us (result u m s) f o of is = let a : 0 ≡ 1 = ap tag is in absurd (omega (arith, a))
constant_thing names us (associate h n x) f o of is = let a : 0 ≡ 1 = ap tag is in absurd (omega (arith, a))

abbrev typed_by : Names → Thing → Option DataType
typed_by names (name h x) = type_of names (number_of h) (x.0).specifier
typed_by names (type h x) = None
typed_by names (procedure u m) = None
typed_by names (result u m s) = None
typed_by names (associate h n x) = None

-- ---- initializers are written

module _ (t : Tree) (look : ℕ → ℕ → Lookup) (written : AreInitialsWritten t) where
  unit_written : (u : Numbered) → IsAmong (units_of t) u → IsUnitWritten u.tree
  unit_written u among =
      each_of IsUnitWritten t.units u.tree written
      (subst (λ xs. Has xs u.tree) (units t).0 (has_mapped (λ (u : Numbered). u.tree) (units_of t) u (at_has (units_of t) among.0 u among.1)))

  part_written : (h : Home) → IsHome (units_of t) h → Each IsSpecificationWritten (specifications_of h)
  part_written (of_unit u) home = (unit_written u home).0
  part_written (of_member u m) home =
      each_of (λ (q : ProcedureTree). Each IsSpecificationWritten (q.part).specifications) (u.tree).procedures m.tree (unit_written u home.0).1
      (subst (λ xs. Has xs m.tree) (unit_is t look u home.0).procedures
      (has_mapped (λ (m : Member). m.tree) u.members m (at_has u.members (home.1).0 m (home.1).1)))

  pub initial_written : (h : Home) (x : Declared) → IsOf (units_of t) (name h x) → IsStepWritten (x.1).initial
  initial_written h x of =
      each_get (λ (y : EntityTree). IsStepWritten y.initial) (x.0).entities (of.2).0 x.1
      (each_get IsSpecificationWritten (specifications_of h) (of.1).0 (declares x.0) (part_written h of.0) (of.1).1) (of.2).1

-- ---- the values that are known

module _ (t : Tree) (look : ℕ → ℕ → Lookup) (order : List ℕ) (p : Program) (written : AreInitialsWritten t) (free : IsUnbroken t look order)
    (seen : program_view p ≡ elaborated t look order) where
  abbrev w : Whole
  w = whole_of t look order

  abbrev ordered : List Numbered
  ordered = units_in (units_of t) order

  abbrev final : Known
  final = after (unit_next w.scene) nothing_known ordered

  -- a value is of the type of its constant
  abbrev IsRight : ℕ → Scalar → Type 0
  IsRight e v = (h : Home) (x : Declared) → slice_get (things_of (units_of t)) e ≡ Some (name h x) → is_of_some (type_of (names_of t look) (number_of h) (x.0).specifier) v ≡ true

  same_typed : (h : Home) (v : Variable) → IsHome (units_of t) h → IsAmong (names_at h) v → (y : Scalar)
      → is_of_some (type_of (names_of t look) (number_of h) ((v.tree).0).specifier) y ≡ true → IsRight v.entity y
  same_typed h v home among y is k x at =
      ap (λ (g : Thing). is_of_some (typed_by (names_of t look) g) y) (same (sym at ∙ (name_things t h v home among).1)) ∙ is

  unit_makes : (u : Numbered) → IsAmong (units_of t) u → (v : Variable) → Has (names_at (of_unit u)) v → MakesRight IsRight (unit_spot w.scene u) u.scope u.scope v
  unit_makes u home v h k y is = same_typed (of_unit u) v home (among_of (names_at (of_unit u)) v h) y (given_right (context (unit_spot w.scene u) k) _ _ _ y is)

  member_makes : (u : Numbered) (m : Member) → IsHome (units_of t) (of_member u m) → (v : Variable) → Has (names_at (of_member u m)) v
      → MakesRight IsRight (spot_of w.scene u.scope m) u.scope m.scope v
  member_makes u m home v h k y is =
      same_typed (of_member u m) v home (among_of (names_at (of_member u m)) v h) y (given_right (context (spot_of w.scene u.scope m) k) _ _ _ y is)

  unit_right : (u : Numbered) → IsAmong (units_of t) u → (k : Known) → AllRight IsRight k → AllRight IsRight (unit_next w.scene k u)
  unit_right u home k all =
      after_right IsRight (member_next w.scene u.scope) u.members
      (λ i m at j right.
      part_right IsRight (spot_of w.scene u.scope m) u.scope m.scope (within_member m j) ((m.tree).part).specifications (member_makes u m (home, (i, at))) right)
      (behind_part w.scene u k)
      (part_right IsRight (unit_spot w.scene u) u.scope u.scope (within_unit u k) ((u.tree).part).specifications (unit_makes u home) all)

  all_right : AllRight IsRight final
  all_right = after_right IsRight (unit_next w.scene) ordered (λ i u at. unit_right u (ordered_unit t order free.ordered i u at)) nothing_known (λ z h. absurd h)

  -- ---- none is missing

  member_grows : (unit : ℕ) (k : Known) (m : Member) → Grows k (member_next w.scene unit k m)
  member_grows unit k m z h = part_grows (spot_of w.scene unit m) (within_member m k) ((m.tree).part).specifications z h

  unit_grows : (k : Known) (u : Numbered) → Grows k (unit_next w.scene k u)
  unit_grows k u z h =
      after_grows (member_next w.scene u.scope) (member_grows u.scope) (behind_part w.scene u k) u.members z
      (part_grows (unit_spot w.scene u) (within_unit u k) ((u.tree).part).specifications z h)

  -- a scalar that is no allocatable
  abbrev IsScalar : Declared → Type 0
  IsScalar x = (map_or 0 dimensions (shape_of x) ≡ 0) × (list_any is_allocatable (attributes_of x.0) ≡ false)

  module _ (e : ℕ) (x : Declared) (constant_is : has parameter x.0 ≡ true) where
    unit_covers : (u : Numbered) → IsOf (units_of t) (name (of_unit u) x) → slice_get (things_of (units_of t)) e ≡ Some (name (of_unit u) x)
        → (k : Known) → unit_rows w.scene k u ≡ [] → Covers (IsScalar x) e (unit_next w.scene k u)
    unit_covers u of at k none =
        let s : Spot = unit_spot w.scene u in
        let v : Variable = variable_at (of_unit u) e x in
        let listed = thing_names t (of_unit u) e x at in
        let gives : Gives s (IsScalar x) u.members u.scope u.scope v v =
        λ j rows. (
          constant_scalar s x.0 j x.1 rows constant_is,
          constant_given s (λ j y is. speaks_of t look order p free seen (of_unit u) of.0 j.values y is) x.0 j x.1 rows constant_is (initial_written t look written (of_unit u) x of),
        ) in
        let made = part_cover s (IsScalar x) u.members u.scope u.scope v (within_unit u k) ((u.tree).part).specifications (first _ _ none)
        (at_has (names_at (of_unit u)) listed.0 v listed.1) gives in
        let (one, has_one) = made.1 in
        (made.0, (one, after_grows (member_next w.scene u.scope) (member_grows u.scope) (behind_part w.scene u k) u.members (e, one) has_one))

    member_covers : (u : Numbered) (m : Member) → IsOf (units_of t) (name (of_member u m) x) → slice_get (things_of (units_of t)) e ≡ Some (name (of_member u m) x)
        → (k : Known) → member_rows w.scene u.scope k m ≡ [] → Covers (IsScalar x) e (member_next w.scene u.scope k m)
    member_covers u m of at k none =
        let s : Spot = spot_of w.scene u.scope m in
        let v : Variable = variable_at (of_member u m) e x in
        let listed = thing_names t (of_member u m) e x at in
        let gives : Gives s (IsScalar x) [] u.scope m.scope v v =
        λ j rows. (
          constant_scalar s x.0 j x.1 rows constant_is,
          constant_given s (λ j y is. speaks_of t look order p free seen (of_member u m) of.0 j.values y is) x.0 j x.1 rows constant_is
              (initial_written t look written (of_member u m) x of),
        ) in
        part_cover s (IsScalar x) [] u.scope m.scope v (within_member m k) ((m.tree).part).specifications
        (first _ _ (second (header_rows s k ((m.tree).header).name ((m.tree).header).kind) _ none)) (at_has (names_at (of_member u m)) listed.0 v listed.1) gives

    in_unit : (h : Home) → IsOf (units_of t) (name h x) → slice_get (things_of (units_of t)) e ≡ Some (name h x)
        → (k : Known) → unit_rows w.scene k (unit_in h) ≡ [] → Covers (IsScalar x) e (unit_next w.scene k (unit_in h))
    in_unit (of_unit u) of at k none = unit_covers u of at k none
    in_unit (of_member u m) of at k none =
        covered (member_next w.scene u.scope) (member_grows u.scope) (IsScalar x) (member_rows w.scene u.scope) e (behind_part w.scene u k) u.members (second _ _ none)
        ((of.0).1).0 m ((of.0).1).1 (member_covers u m of at)

    among_units : (h : Home) → IsHome (units_of t) h → IsAmong (units_of t) (unit_in h)
    among_units (of_unit u) home = home
    among_units (of_member u m) home = home.0

    covers : (h : Home) → IsOf (units_of t) (name h x) → slice_get (things_of (units_of t)) e ≡ Some (name h x) → Covers (IsScalar x) e final
    covers h of at =
        let place = unit_ordered t order free.ordered (unit_in h) (among_units h of.0) in
        covered (unit_next w.scene) unit_grows (IsScalar x) (unit_rows w.scene) e nothing_known ordered (first _ _ (nil_of (program_breaks t look order) free.types))
        place.0 (unit_in h) place.1 (in_unit h of at)

  -- what is known as a constant is declared with PARAMETER
  parameter_is : (e : ℕ) (h : Home) (x : Declared) (o : Object) → IsHome (units_of t) h → slice_get (things_of (units_of t)) e ≡ Some (name h x)
      → slice_get (w.scene).natures e ≡ Some (constant o) → has parameter x.0 ≡ true
  parameter_is e h x o home at nature = go (has parameter x.0) refl
    where
      go : (b : Bool) → has parameter x.0 ≡ b → b ≡ true
      go true is = refl
      go false is =
          let known = name_known t look h (variable_at h e x) home (thing_names t h e x at) (negated (has parameter x.0) is) in
          no (sym (ap is_variable_nature (same (sym nature ∙ known))))

  pub constant_is : (unit scope : ℕ) (inner : Inner) (e : ℕ) (o : Object) → slice_get (w.scene).natures e ≡ Some (constant o) → IsConstant (surroundings w unit scope inner) e o
  constant_is unit scope inner e o nature =
      let s : Surroundings = surroundings w unit scope inner in
      let g = thing_of (names_of t look) (units_of t) e (constant o) nature in
      let k = constant_thing (names_of t look) (units_of t) g.0 g.1 o (of_program t e g.0 g.2) g.3 in
      let at : slice_get (things_of (units_of t)) e ≡ Some (name k.home k.declared) = g.2 ∙ ap Some k.is in
      let made = covers e k.declared (parameter_is e k.home k.declared o (k.among).0 at nature) k.home k.among at in
      let found = found_entry e final.values (made.1).0 (made.1).1 in
      let right : is_of_some (type_of (names_of t look) (number_of k.home) ((k.declared).0).specifier) found.0 ≡ true = all_right (e, found.0) found.2 k.home k.declared at in
      record {
        scalar = sym (ap (λ (z : Object). z.rank) k.object) ∙ (made.0).0;
        plain = sym (ap (λ (z : Object). z.is_allocatable) k.object) ∙ (made.0).1;
        alike_to =
            ap (λ l. alike (constant_type (constant_of l)) (base s o.data_type)) found.1
            ∙ alike_of s o.data_type found.0 (ap (λ (z : Object). is_of_some z.data_type found.0) (sym k.object) ∙ right);
      }

pub constants : ConstantsAreOfTypes
constants t look order p written free seen unit scope inner e o nature = constant_is t look order p written free seen unit scope inner e o nature
