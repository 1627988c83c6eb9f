-- The types of the rules are those of the program.
use Rattle.std.proofs.Common.{◌≡◌, ℕ, Bool, true, false, List, [], ◌∷◌, ◌++◌, map, Some, refl, sym, ap, ◌∙◌}
use Rattle.std.specs.Prelude.{⊤, slice_get}
use Rattle.std.specs.List.{flat_map}
use mathlib.Core.Path.{subst}
use Rattle.f3_scopes.specs.declared.outline.EntityKind.{EntityKind}
use Rattle.f3_scopes.specs.declared.outline.EntityKind.TheVariants as entity
use Rattle.f3_scopes.specs.Scopes.{kind_of}
use Rattle.f3_tree.specs.declared.program.ProcedureKind.{ProcedureKind}
use Rattle.f3_tree.specs.declared.program.ProcedureKind.TheVariants.{Subroutine, Function}
use Rattle.f3_tree.specs.Declarations.{EntityTree, DeclarationTree, TypeTree}
use Rattle.f3_tree.specs.Tree.{Tree}
use Rattle.f3_program.specs.declared.declarations.Component as program
use Rattle.f3_kinds.specs.declared.types.Object.{Object}
use Rattle.f3_kinds.specs.declared.things.Component.{Component}
use Rattle.f3_kinds.specs.declared.things.Dummy.{Dummy}
use Rattle.f3_kinds.specs.Things.{map_or, Nature, constant, variable, derived, subroutine, function}
use Rattle.f3_type_rules.specs.Members.{Numbered}
use Rattle.f3_type_rules.specs.Names.{Names, is_given, object_of, component, components}
use Rattle.f3_type_rules.specs.Natures.{object_nature, kind_nature}
use Rattle.f3_type_rules.specs.Program.{units_in}
use Rattle.f3_type_rules.specs.Scene.{names_of}
use Rattle.f3_elaboration.specs.Nodes.{ComponentNode, DerivedNode, ProgramNode}
use Rattle.f3_elaboration.specs.Context.{Surroundings, base}
use Rattle.f3_elaboration.specs.Declarations.{Whole, component as component_node, derived as derived_node}
use Rattle.f3_elaboration.specs.DeclaredViews.{component_view, derived_view}
use Rattle.f3_elaboration.specs.Numbers.{Inner, Definition, number_in, definitions}
use Rattle.f3_elaboration.specs.Units.{surroundings}
use Rattle.f3_lawful_laws.specs.Agreement.{AreComponents}
use Rattle.f3_lawful_laws.specs.Entities.{units_of, whole_of}
use Rattle.f3_lawful_laws.proofs.Facts.{no}
use Rattle.f3_lawful_laws.proofs.Opening.{from_mapped, mapped_at}
use Rattle.f3_entity_laws.specs.Things.{of_unit, of_member, number_of, Thing, name, type, procedure, result, associate, nature_of, IsAmong, IsOf}
use Rattle.f3_entity_laws.specs.Laws.{definition_at}
use Rattle.f3_entity_laws.proofs.Entities.{of_program}
use Rattle.f3_entity_laws.proofs.Found.{types, all_types}
use Rattle.f3_entity_laws.proofs.Names.{thing_types}
use Rattle.f3_entity_laws.proofs.Natures.{natures}
use Rattle.f3_agreement_laws.specs.Unbroken.{HasOuterTypes}
use Rattle.f3_agreement_laws.specs.Laws.{TypesAreAtPlaces, TypesAgree}
use Rattle.f3_agreement_laws.proofs.Declared.{no_types}

-- ---- numbers

pub at_places : TypesAreAtPlaces
at_places t look order ordered i d at =
    ap (λ o. map_or 0 (λ n. n) o)
    (types t order ordered i d.entity (mapped_at (λ (x : Definition). x.entity) (flat_map definitions (units_in (units_of t) order)) i d at))

-- ---- components

module _ (w : Whole) (unit scope : ℕ) (inner : Inner) where
  abbrev here : Surroundings
  here = surroundings w unit scope inner

  abbrev AreNodes : List ComponentNode → List (ℕ × Component) → Type 0
  AreNodes [] [] = ⊤
  AreNodes [] (k ∷ ks) = ⊥
  AreNodes (n ∷ ns) [] = ⊥
  AreNodes (n ∷ ns) (k ∷ ks) = (((n.declared).kind).of ≡ base here ((k.1).object).data_type) × (n.is_private ≡ (k.1).is_private) × AreNodes ns ks

  nodes_joined : (ns ms : List ComponentNode) (ks ls : List (ℕ × Component)) → AreNodes ns ks → AreNodes ms ls → AreNodes (ns ++ ms) (ks ++ ls)
  nodes_joined [] ms [] ls a b = b
  nodes_joined [] ms (k ∷ ks) ls a b = absurd a
  nodes_joined (n ∷ ns) ms [] ls a b = absurd a
  nodes_joined (n ∷ ns) ms (k ∷ ks) ls a b = (a.0, a.1, nodes_joined ns ms ks ls a.2 b)

  module _ (home : ℕ) (default : Bool) where
    one_are : (d : DeclarationTree) (xs : List EntityTree) → AreNodes (map (component_node w home default d) xs) (map (component (w.scene).names home default d) xs)
    one_are d [] = tt
    one_are d (x ∷ xs) = (refl, refl, one_are d xs)

    all_are : (ds : List DeclarationTree)
        → AreNodes (flat_map (λ (d : DeclarationTree). map (component_node w home default d) d.entities) ds)
        (flat_map (λ (d : DeclarationTree). map (component (w.scene).names home default d) d.entities) ds)
    all_are [] = tt
    all_are (d ∷ ds) =
        nodes_joined (map (component_node w home default d) d.entities) _ (map (component (w.scene).names home default d) d.entities) _ (one_are d d.entities) (all_are ds)

  -- components in memory, beside those of the rules
  are_components : (xs : List program.Component) (ks : List (ℕ × Component)) → AreNodes (map component_view xs) ks → AreComponents here xs ks
  are_components [] [] h = tt
  are_components [] (k ∷ ks) h = h
  are_components (x ∷ xs) [] h = h
  are_components (x ∷ xs) (k ∷ ks) h = (h.0, h.1, are_components xs ks h.2)

-- ---- things that are types

abbrev is_type : Nature → Bool
is_type (constant o) = false
is_type (variable o) = false
is_type (derived home ks f) = true
is_type (subroutine pure ds) = false
is_type (function pure ds o) = false

abbrev home_or : ℕ → Nature → ℕ
home_or n (constant o) = n
home_or n (variable o) = n
home_or n (derived home ks f) = home
home_or n (subroutine pure ds) = n
home_or n (function pure ds o) = n

abbrev parts_or : List (ℕ × Component) → Nature → List (ℕ × Component)
parts_or ls (constant o) = ls
parts_or ls (variable o) = ls
parts_or ls (derived home ks f) = ks
parts_or ls (subroutine pure ds) = ls
parts_or ls (function pure ds o) = ls

no_object : (k : EntityKind) (o : Object) → is_type (object_nature k o) ≡ false
no_object entity.Variable o = refl
no_object entity.Constant o = refl
no_object entity.DerivedType o = refl
no_object entity.Subroutine o = refl
no_object entity.Function o = refl

no_procedure : (pure : Bool) (ds : List (ℕ × Dummy)) (o : Object) (k : ProcedureKind) → is_type (kind_nature pure ds o k) ≡ false
no_procedure pure ds o Subroutine = refl
no_procedure pure ds o (Function s outcome) = refl

record IsTypeOf (names : Names) (us : List Numbered) (g : Thing) (home : ℕ) (ks : List (ℕ × Component)) : Type 0 where
  unit : Numbered
  tree : TypeTree
  among : IsAmong us unit
  is : g ≡ type (of_unit unit) tree
  at_home : unit.scope ≡ home
  parts : components names unit.scope tree ≡ ks

module _ (t : Tree) (outer : HasOuterTypes t) (names : Names) (home : ℕ) (ks : List (ℕ × Component)) (flag : Bool) where
  thing_type : (g : Thing) (f : Bool) → IsOf (units_of t) g → derived home ks flag ≡ nature_of names f g → IsTypeOf names (units_of t) g home ks
  thing_type (name h x) f of is = no (ap is_type is ∙ no_object (kind_of (x.0).attributes) (object_of names (number_of h) (x.0, x.1)))
  thing_type (type (of_unit u) x) f of is =
      record { unit = u; tree = x; among = of.0; is = refl; at_home = sym (ap (home_or home) is); parts = sym (ap (parts_or ks) is) }
  thing_type (type (of_member u m) x) f of is = absurd (no_types t outer u m of.0 (of.1).0 x (of.1).1)
  thing_type (procedure u m) f of is = no (ap is_type is ∙ no_procedure _ _ _ ((m.tree).header).kind)
  thing_type (result u m s) f of is = no (ap is_type is)
  thing_type (associate h n x) f of is = no (ap is_type is)

pub agree : TypesAgree
agree t look order p outer ordered seen unit scope inner e home ks f at =
    let w : Whole = whole_of t look order in
    let g = natures (names_of t look) (units_of t) e (derived home ks f) at in
    let k = thing_type t outer (names_of t look) home ks f g.0 g.1 (of_program t e g.0 g.2) g.3 in
    let d : Definition = definition_at k.unit e k.tree in
    let own = thing_types t k.unit e k.tree (g.2 ∙ ap Some k.is) in
    let there = all_types t order k.unit d ordered k.among own in
    let number : number_in (w.numbers).types e ≡ there.0 = at_places t look order ordered there.0 d there.1 in
    let node : slice_get (map derived_view p.types.items) there.0 ≡ Some (derived_node w d) =
    ap (λ (y : ProgramNode). slice_get y.types there.0) seen ∙ mapped_at (derived_node w) (flat_map definitions (units_in (units_of t) order)) there.0 d there.1 in
    let q = from_mapped derived_view p.types.items there.0 (derived_node w d) node in
    let parts : AreNodes w unit scope inner (map component_view (q.0).components.items) (components (names_of t look) (k.unit).scope k.tree) =
    subst (λ ns. AreNodes w unit scope inner ns (components (names_of t look) (k.unit).scope k.tree)) (sym (ap (λ (y : DerivedNode). y.components) q.2))
    (all_are w unit scope inner (k.unit).scope (is_given (k.tree).private) (k.tree).components) in record {
      type = q.0;
      there = ap (slice_get p.types.items) number ∙ q.1;
      at_home = ap (λ (y : DerivedNode). y.home) q.2 ∙ k.at_home;
      components =
          subst (AreComponents (here w unit scope inner) (q.0).components.items) k.parts
          (are_components w unit scope inner (q.0).components.items (components (names_of t look) (k.unit).scope k.tree) parts);
    }
