-- The types of all that is declared are known.
use Rattle.std.proofs.Common.{◌≡◌, ℕ, suc, Bool, true, false, List, [], ◌∷◌, ◌++◌, map, Option, None, Some, refl, sym, ap, ◌∙◌}
use Rattle.std.specs.Prelude.{slice_get}
use Rattle.std.specs.List.{flat_map}
use Rattle.std.specs.Map.{lookup}
use Rattle.std.specs.Prelude.{nat_eq}
use mathlib.Core.Path.{subst}
use Rattle.f3_lookups.specs.declared.lookup.Lookup.{Lookup}
use Rattle.f3_lookups.specs.declared.lookup.Lookup.TheVariants.{One}
use Rattle.f3_access.specs.Access.{IsVisible}
use Rattle.f3_access.specs.Lookups.{ResolvesAs}
use Rattle.f3_scopes.specs.declared.outline.EntityKind.{EntityKind}
use Rattle.f3_scopes.specs.declared.outline.EntityKind.TheVariants as entity
use Rattle.f3_scopes.specs.Scopes.{kind_of, typed_result, result_of, name_or, scopes_of}
use Rattle.f3_tree.specs.declared.expression.Name.{Name}
use Rattle.f3_tree.specs.declared.program.ProcedureKind.{ProcedureKind}
use Rattle.f3_tree.specs.declared.program.ProcedureKind.TheVariants.{Subroutine, Function}
use Rattle.f3_tree.specs.Declarations.{EntityTree, DeclarationTree, TypeTree, declares, defines}
use Rattle.f3_tree.specs.Statements.{AssociationTree}
use Rattle.f3_tree.specs.Tree.{Tree}
use Rattle.f3_kinds.specs.declared.types.Object.{Object}
use Rattle.f3_kinds.specs.declared.things.Component.{Component}
use Rattle.f3_kinds.specs.declared.things.Dummy.{Dummy}
use Rattle.f3_kinds.specs.Rows.{is_known}
use Rattle.f3_kinds.specs.Things.{map_or, Nature, constant, variable, derived, subroutine, function}
use Rattle.f3_type_rules.specs.Members.{Member, Numbered}
use Rattle.f3_type_rules.specs.Names.{Names, is_given, Declared, entries, type_of, object_of, undeclared, component, components}
use Rattle.f3_type_rules.specs.Natures.{object_nature, dummy, result_object, kind_nature, specifier_of, procedure_nature}
use Rattle.f3_type_rules.specs.Scene.{names_of}
use Rattle.f3_lawful_laws.specs.Agreement.{KnowsComponents, KnowsDummies, IsKnown}
use Rattle.f3_lawful_laws.specs.Entities.{units_of}
use Rattle.f3_lawful_laws.proofs.Facts.{no}
use Rattle.f3_entity_laws.specs.Things.{Home, of_member, number_of, specifications_of, Thing, name, type, procedure, result, associate, nature_of, IsAmong, IsHome, IsOf}
use Rattle.f3_entity_laws.proofs.Entities.{of_program}
use Rattle.f3_entity_laws.proofs.Natures.{natures}
use Rattle.f3_agreement_laws.specs.Unbroken.{IsUnbroken}
use Rattle.f3_agreement_laws.specs.Laws.{TypesAreKnown}
use Rattle.f3_agreement_laws.proofs.Free.{IsFree, IsHeaderFree, home_free, header_free}
use Rattle.f3_agreement_laws.proofs.Declared.{entry_of, dummy_entry, result_entry}
use Rattle.f3_agreement_laws.proofs.Visible.{no_associate}

-- ---- components

knows_joined : (ks ls : List (ℕ × Component)) → KnowsComponents ks → KnowsComponents ls → KnowsComponents (ks ++ ls)
knows_joined [] ls h g = g
knows_joined (k ∷ ks) ls h g = (h.0, knows_joined ks ls h.1 g)

module _ (names : Names) (scope : ℕ) (default : Bool) where
  one_known : (d : DeclarationTree) (xs : List EntityTree) → is_known (type_of names scope d.specifier) ≡ true
      → KnowsComponents (map (component names scope default d) xs)
  one_known d [] h = tt
  one_known d (x ∷ xs) h = (h, one_known d xs h)

  all_known : (ds : List DeclarationTree) → ((i : ℕ) (d : DeclarationTree) → slice_get ds i ≡ Some d → is_known (type_of names scope d.specifier) ≡ true)
      → KnowsComponents (flat_map (λ (d : DeclarationTree). map (component names scope default d) d.entities) ds)
  all_known [] h = tt
  all_known (d ∷ ds) h =
      knows_joined (map (component names scope default d) d.entities) _ (one_known d d.entities (h 0 d refl)) (all_known ds (λ i x at. h (suc i) x at))

-- ---- natures by their forms

object_known : (k : EntityKind) (o : Object) → is_known o.data_type ≡ true → IsKnown (object_nature k o)
object_known entity.Variable o h = tt
object_known entity.Constant o h = h
object_known entity.DerivedType o h = tt
object_known entity.Subroutine o h = tt
object_known entity.Function o h = tt

abbrev IsOfFunction : ProcedureKind → Type 0
IsOfFunction Subroutine = ⊥
IsOfFunction (Function s outcome) = Unit {0}

kind_known : (pure : Bool) (ds : List (ℕ × Dummy)) (o : Object) (k : ProcedureKind) → KnowsDummies ds → (IsOfFunction k → is_known o.data_type ≡ true)
    → IsKnown (kind_nature pure ds o k)
kind_known pure ds o Subroutine h r = h
kind_known pure ds o (Function s outcome) h r = (h, r tt)

abbrev object_of_nature : Object → Nature → Object
object_of_nature o (constant x) = o
object_of_nature o (variable x) = x
object_of_nature o (derived home ks f) = o
object_of_nature o (subroutine pure ds) = o
object_of_nature o (function pure ds x) = o

abbrev is_variable : Nature → Bool
is_variable (constant x) = false
is_variable (variable x) = true
is_variable (derived home ks f) = false
is_variable (subroutine pure ds) = false
is_variable (function pure ds x) = false

object_variable : (k : EntityKind) (o x : Object) → variable o ≡ object_nature k x → o ≡ x
object_variable entity.Variable o x is = ap (object_of_nature o) is
object_variable entity.Constant o x is = no (ap is_variable is)
object_variable entity.DerivedType o x is = ap (object_of_nature o) is
object_variable entity.Subroutine o x is = ap (object_of_nature o) is
object_variable entity.Function o x is = ap (object_of_nature o) is

kind_variable : (pure : Bool) (ds : List (ℕ × Dummy)) (o x : Object) (k : ProcedureKind) → variable o ≡ kind_nature pure ds x k → ⊥
kind_variable pure ds o x Subroutine is = no (ap is_variable is)
kind_variable pure ds o x (Function s outcome) is = no (ap is_variable is)

-- ---- a program that breaks no rule

module _ (t : Tree) (look : ℕ → ℕ → Lookup) (order : List ℕ) (free : IsUnbroken t look order) where
  abbrev names : Names
  names = names_of t look

  told : (h : Home) → IsHome (units_of t) h → IsFree names h
  told h home = home_free t look order free.ordered free.types h home

  headed : (u : Numbered) (m : Member) → IsHome (units_of t) (of_member u m) → IsHeaderFree names m
  headed u m home = header_free t look order free.ordered free.types u m home

  declared_known : (h : Home) → IsHome (units_of t) h → (d : DeclarationTree) → IsAmong (specifications_of h) (declares d) → is_known (type_of names (number_of h) d.specifier) ≡ true
  declared_known h home d among = (told h home).part among.0 (declares d) among.1

  entry_known : (u : Numbered) (m : Member) → IsHome (units_of t) (of_member u m) → (symbol : ℕ) (x : Declared)
      → lookup (nat_eq symbol) (entries ((m.tree).part).specifications) ≡ Some x
      → is_known (map_or undeclared (object_of names m.scope) (lookup (nat_eq symbol) (entries ((m.tree).part).specifications))).data_type ≡ true
  entry_known u m home symbol x found =
      let entry = entry_of ((m.tree).part).specifications symbol x found in
      ap (λ (o : Option Declared). is_known (map_or undeclared (object_of names m.scope) o).data_type) found
      ∙ declared_known (of_member u m) home x.0 entry.part

  dummies_known : (u : Numbered) (m : Member) (home : IsHome (units_of t) (of_member u m)) (ns : List Name)
      → ((i : ℕ) (n : Name) → slice_get ns i ≡ Some n → (x : Declared) × (lookup (nat_eq n.symbol) (entries ((m.tree).part).specifications) ≡ Some x))
      → KnowsDummies (map (dummy names m.scope (entries ((m.tree).part).specifications)) ns)
  dummies_known u m home [] h = tt
  dummies_known u m home (n ∷ ns) h =
      let e = h 0 n refl in
      (entry_known u m home n.symbol e.0 e.1, dummies_known u m home ns (λ i x at. h (suc i) x at))

  -- a function's result, by the type before it or by its declaration
  result_known : (u : Numbered) (m : Member) → IsHome (units_of t) (of_member u m) → (k : ProcedureKind) → ((m.tree).header).kind ≡ k → IsOfFunction k
      → is_known (result_object names m.scope (entries ((m.tree).part).specifications) (specifier_of k) (result_of k ((m.tree).header).name)).data_type ≡ true
  result_known u m home Subroutine is f = absurd f
  result_known u m home (Function (Some s) outcome) is f = headed u m home s (ap specifier_of is)
  result_known u m home (Function None outcome) is f =
      let n : Name = name_or outcome ((m.tree).header).name in
      let e = result_entry t free.outer free.scopes u m home n (ap (λ k. result_of k ((m.tree).header).name) is) (ap (λ k. typed_result k ((m.tree).header).name) is) in
      entry_known u m home n.symbol e.0 e.1

  procedure_known : (u : Numbered) (m : Member) → IsHome (units_of t) (of_member u m) → IsKnown (procedure_nature names m)
  procedure_known u m home =
      kind_known ((m.tree).header).pure _ _ ((m.tree).header).kind
      (dummies_known u m home ((m.tree).header).dummies (dummy_entry t free.outer free.scopes u m home))
      (result_known u m home ((m.tree).header).kind refl)

  type_known : (h : Home) → IsHome (units_of t) h → (x : TypeTree) → IsAmong (specifications_of h) (defines x) → KnowsComponents (components names (number_of h) x)
  type_known h home x among = all_known names (number_of h) (is_given x.private) x.components ((told h home).part among.0 (defines x) among.1)

  thing_known : (g : Thing) (f : Bool) → IsOf (units_of t) g → IsKnown (nature_of names f g)
  thing_known (name h x) f of = object_known (kind_of (x.0).attributes) (object_of names (number_of h) (x.0, x.1)) (declared_known h of.0 x.0 of.1)
  thing_known (type h x) f of = type_known h of.0 x of.1
  thing_known (procedure u m) f of = procedure_known u m of
  thing_known (result u m s) f of = tt
  thing_known (associate h n x) f of = tt

  -- a variable that is visible where a body begins
  variable_known : (g : Thing) (f : Bool) (o : Object) → IsOf (units_of t) g → variable o ≡ nature_of names f g
      → ((k : Home) (n : ℕ) (x : AssociationTree) → g ≡ associate k n x → ⊥) → is_known o.data_type ≡ true
  variable_known (name h x) f o of is none =
      ap (λ (z : Object). is_known z.data_type) (object_variable (kind_of (x.0).attributes) o (object_of names (number_of h) (x.0, x.1)) is) ∙ declared_known h of.0 x.0 of.1
  variable_known (type h x) f o of is none = no (ap is_variable is)
  variable_known (procedure u m) f o of is none = absurd (kind_variable _ _ o _ ((m.tree).header).kind is)
  variable_known (result u m s) f o of is none =
      ap (λ (z : Object). is_known z.data_type) (ap (object_of_nature o) is) ∙ headed u m of.0 s of.1
  variable_known (associate h n x) f o of is none = absurd (none h n x refl)

  visible_one : (scope symbol e : ℕ) → look scope symbol ≡ One e → IsVisible (scopes_of t) scope symbol e
  visible_one scope symbol e is = (subst (λ l. ResolvesAs l (IsVisible (scopes_of t) scope symbol)) is (free.means scope symbol).as_said).0

pub known : TypesAreKnown
known t look order free h home = record {
  natures = λ e n at.
      let g = natures (names_of t look) (units_of t) e n at in
      subst IsKnown (sym g.3) (thing_known t look order free g.0 g.1 (of_program t e g.0 g.2));
  variables = λ symbol e o looked at.
      let g = natures (names_of t look) (units_of t) e (variable o) at in
      variable_known t look order free g.0 g.1 o (of_program t e g.0 g.2) g.3
      (λ k n x is. no_associate t h k symbol e n x home (visible_one t look order free (number_of h) symbol e looked) (g.2 ∙ ap Some is));
}
