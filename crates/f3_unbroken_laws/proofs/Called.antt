-- What the rules take for functions and pure subroutines.
use Rattle.std.proofs.Common.{◌≡◌, refl, sym, ap, ◌∙◌, ℕ, Bool, true, false, ◌||◌, List, Option, None, Some, option_map, slice_get}
use Rattle.std.specs.Prelude.{is_some}
use Rattle.std.specs.List.{flat_map}
use Rattle.f3_lookups.specs.declared.lookup.Lookup.{Lookup}
use Rattle.f3_scopes.specs.declared.outline.EntityKind.{EntityKind}
use Rattle.f3_scopes.specs.declared.outline.EntityKind.TheVariants as entity
use Rattle.f3_scopes.specs.Scopes.{kind_of}
use Rattle.f3_tree.specs.declared.program.ProcedureKind.{ProcedureKind}
use Rattle.f3_tree.specs.declared.program.ProcedureKind.TheVariants.{Subroutine, Function}
use Rattle.f3_tree.specs.Tree.{Tree}
use Rattle.f3_program.specs.declared.declarations.Declared.{Declared}
use Rattle.f3_program.specs.declared.program.Procedure.{Procedure}
use Rattle.f3_program.specs.declared.program.Program.{Program}
use Rattle.f3_kinds.specs.declared.types.Object.{Object}
use Rattle.f3_kinds.specs.declared.things.Dummy.{Dummy}
use Rattle.f3_kinds.specs.Things.{Nature, constant, variable, derived, subroutine, function}
use Rattle.f3_type_rules.specs.Declarations.{is_function}
use Rattle.f3_type_rules.specs.Members.{Member, Numbered}
use Rattle.f3_type_rules.specs.Names.{Names, object_of}
use Rattle.f3_type_rules.specs.Natures.{object_nature, kind_nature, procedure_nature, unit_natures, settled}
use Rattle.f3_type_rules.specs.Scene.{names_of}
use Rattle.f3_elaboration.specs.Nodes.{ProcedureNode}
use Rattle.f3_elaboration.specs.Declarations.{Whole}
use Rattle.f3_elaboration.specs.DeclaredViews.{declared_view, program_view}
use Rattle.f3_elaboration.specs.Numbers.{Inner, number_in}
use Rattle.f3_elaboration.specs.Program.{elaborated}
use Rattle.f3_elaboration.specs.Units.{result_of, surroundings}
use Rattle.f3_lawful_laws.specs.Entities.{units_of, whole_of}
use Rattle.f3_lawful_laws.proofs.Facts.{no}
use Rattle.f3_entity_laws.specs.Things.{of_member, number_of, Thing, name, type, procedure, result, associate, nature_of, things_of, IsHome, IsOf}
use Rattle.f3_entity_laws.proofs.Entities.{of_program}
use Rattle.f3_entity_laws.proofs.Names.{thing_procedures}
use Rattle.f3_entity_laws.proofs.Natures.{natures}
use Rattle.f3_pure_laws.specs.References as references
use Rattle.f3_purity_laws.specs.Laws.{PureOnesArePure}
use Rattle.f3_reference_laws.specs.Laws.{HaveResults}
use Rattle.f3_unbroken_laws.specs.Laws.{pure_in}
use Rattle.f3_unbroken_laws.proofs.Numbers.{number_pure, member_there}

-- ---- procedures among the natures

abbrev is_procedure : Nature → Bool
is_procedure (constant o) = false
is_procedure (variable o) = false
is_procedure (derived home ks f) = false
is_procedure (subroutine pure ds) = true
is_procedure (function pure ds o) = true

abbrev pub has_result : Nature → Bool
has_result (constant o) = false
has_result (variable o) = false
has_result (derived home ks f) = false
has_result (subroutine pure ds) = false
has_result (function pure ds o) = true

abbrev pub is_pure_nature : Nature → Bool
is_pure_nature (constant o) = false
is_pure_nature (variable o) = false
is_pure_nature (derived home ks f) = false
is_pure_nature (subroutine pure ds) = pure
is_pure_nature (function pure ds o) = true

no_object : (k : EntityKind) (o : Object) → is_procedure (object_nature k o) ≡ false
no_object entity.Variable o = refl
no_object entity.Constant o = refl
no_object entity.DerivedType o = refl
no_object entity.Subroutine o = refl
no_object entity.Function o = refl

either_false : (b : Bool) → b ≡ (b || false)
either_false true = refl
either_false false = refl

either_true : (b : Bool) → true ≡ (b || true)
either_true true = refl
either_true false = refl

kind_pure : (pure : Bool) (ds : List (ℕ × Dummy)) (o : Object) (k : ProcedureKind) → is_pure_nature (kind_nature pure ds o k) ≡ (pure || is_function k)
kind_pure pure ds o Subroutine = either_false pure
kind_pure pure ds o (Function s outcome) = either_true pure

kind_result : (pure : Bool) (ds : List (ℕ × Dummy)) (o : Object) (k : ProcedureKind) → has_result (kind_nature pure ds o k) ≡ is_function k
kind_result pure ds o Subroutine = refl
kind_result pure ds o (Function s outcome) = refl

module _ (t : Tree) (look : ℕ → ℕ → Lookup) where
  abbrev names : Names
  names = names_of t look

  -- a procedure of the tree that has the entity and the nature
  pub record IsProcedureOf (e : ℕ) (n : Nature) : Type 0 where
    pub unit : Numbered
    pub member : Member
    pub home : IsHome (units_of t) (of_member unit member)
    pub entity : member.entity ≡ e
    pub nature : n ≡ procedure_nature names member

  thing_called : (e : ℕ) (n : Nature) (g : Thing) (f : Bool) → slice_get (things_of (units_of t)) e ≡ Some g → IsOf (units_of t) g → n ≡ nature_of names f g
      → is_procedure n ≡ true → IsProcedureOf e n
  thing_called e n (name h x) f at of is called =
      no (sym called ∙ ap is_procedure is ∙ no_object (kind_of (x.0).attributes) (object_of names (number_of h) (x.0, x.1)))
  thing_called e n (type h x) f at of is called = no (sym called ∙ ap is_procedure is)
  thing_called e n (procedure u m) f at of is called =
      record { unit = u; member = m; home = of; entity = thing_procedures t e u m at; nature = is }
  thing_called e n (result u m s) f at of is called = no (sym called ∙ ap is_procedure is)
  thing_called e n (associate h k x) f at of is called = no (sym called ∙ ap is_procedure is)

  pub procedure_at : (e : ℕ) (n : Nature) → slice_get (settled (flat_map (unit_natures names) (units_of t))) e ≡ Some n → is_procedure n ≡ true → IsProcedureOf e n
  procedure_at e n at called =
      let (g, f, there, is) = natures names (units_of t) e n at in
      thing_called e n g f there (of_program t e g there) is called

module _ (t : Tree) (look : ℕ → ℕ → Lookup) (order : List ℕ) where
  abbrev w : Whole
  w = whole_of t look order

  -- what the rules take for a pure subroutine is a pure procedure
  pub pure_ones : (unit scope : ℕ) (inner : Inner) → PureOnesArePure (pure_in t) (surroundings w unit scope inner)
  pure_ones unit scope inner e ds at =
      let q = procedure_at t look e (subroutine true ds) at refl in
      ap (λ k. pure_in t (number_in (w.numbers).procedures k)) (sym q.entity) ∙ number_pure t look order q.unit q.member q.home
      ∙ sym (kind_pure _ _ _ ((q.member).tree.header).kind) ∙ sym (ap is_pure_nature q.nature)

  -- ---- results

  result_there : (unit : ℕ) (m : Member) (k : ProcedureKind) → is_function k ≡ true → is_some (result_of w unit m k) ≡ true
  result_there unit m Subroutine h = h
  result_there unit m (Function (Some s) outcome) h = refl
  result_there unit m (Function None outcome) h = refl

  no_result : (unit : ℕ) (m : Member) (k : ProcedureKind) → is_some (result_of w unit m k) ≡ true → is_function k ≡ true
  no_result unit m Subroutine h = h
  no_result unit m (Function s outcome) h = refl

  some_viewed : (o : Option Declared) → is_some (option_map declared_view o) ≡ is_some o
  some_viewed None = refl
  some_viewed (Some d) = refl

  pub result_is : (unit : ℕ) (m : Member) (q : Procedure) → option_map declared_view q.result ≡ result_of w unit m ((m.tree).header).kind
      → is_some q.result ≡ is_some (result_of w unit m ((m.tree).header).kind)
  result_is unit m q is = sym (some_viewed q.result) ∙ ap is_some is

  module _ (p : Program) (seen : program_view p ≡ elaborated t look order) where
    -- what has a result is a function
    pub function_kind : (unit : ℕ) (m : Member) (q : Procedure) → option_map declared_view q.result ≡ result_of w unit m ((m.tree).header).kind
        → references.is_function (Some q) ≡ true → is_function ((m.tree).header).kind ≡ true
    function_kind unit m q is h = no_result unit m ((m.tree).header).kind (sym (result_is unit m q is) ∙ h)

    -- and what the rules take for a function has one
    pub have_results : HaveResults p w
    have_results e pure ds o at =
        let q = procedure_at t look e (function pure ds o) at refl in
        let (r, there, node) = member_there t look order p seen q.unit q.member q.home in
        let kind : is_function ((q.member).tree.header).kind ≡ true = sym (kind_result _ _ _ ((q.member).tree.header).kind) ∙ sym (ap has_result q.nature) in
        ap (λ k. references.is_function (slice_get p.procedures.items (number_in (w.numbers).procedures k))) (sym q.entity)
        ∙ ap references.is_function there
        ∙ result_is (q.unit).scope q.member r (ap (λ (y : ProcedureNode). y.result) node)
        ∙ result_there (q.unit).scope q.member ((q.member).tree.header).kind kind
