-- The types of the program have components of the kinds that the rules know.
use Rattle.std.proofs.Common.{◌≡◌, ℕ, Bool, true, false, List, [], ◌∷◌, ◌++◌, map, Some, refl, sym, ap, ◌∙◌, if◌then◌else◌}
use Rattle.std.specs.Prelude.{⊤, slice_get}
use Rattle.std.specs.List.{flat_map, list_any}
use Rattle.std.proofs.lemmas.Option.{slice_get_within}
use mathlib.Core.Path.{subst}
use Rattle.f3_lookups.specs.declared.lookup.Lookup.{Lookup}
use Rattle.f3_access.specs.Access.{entities_of}
use Rattle.f3_graph.specs.Order.{IsOrderOf}
use Rattle.f3_graph.specs.Units.{nodes_of}
use Rattle.f3_scopes.specs.declared.outline.EntityKind.{EntityKind}
use Rattle.f3_scopes.specs.declared.outline.EntityKind.TheVariants as entity
use Rattle.f3_scopes.specs.Outlines.{Own}
use Rattle.f3_scopes.specs.Scopes.{entity_kind, is_parameter, kind_of, scopes_of}
use Rattle.f3_tree.specs.declared.program.ProcedureKind.{ProcedureKind}
use Rattle.f3_tree.specs.declared.program.ProcedureKind.TheVariants.{Subroutine, Function}
use Rattle.f3_tree.specs.Declarations.{Placed, EntityTree, DeclarationTree, TypeTree}
use Rattle.f3_tree.specs.Tree.{Tree}
use Rattle.f3_program.specs.declared.declarations.Component as program
use Rattle.f3_kinds.specs.declared.types.Object.{Object}
use Rattle.f3_kinds.specs.declared.things.Component.{Component}
use Rattle.f3_kinds.specs.declared.things.Dummy.{Dummy}
use Rattle.f3_kinds.specs.Things.{Nature, constant, variable, derived, subroutine, function}
use Rattle.f3_type_rules.specs.Members.{Numbered}
use Rattle.f3_type_rules.specs.Names.{Names, is_given, object_of, component, components}
use Rattle.f3_type_rules.specs.Natures.{object_nature, kind_nature}
use Rattle.f3_type_rules.specs.Program.{units_in}
use Rattle.f3_type_rules.specs.Scene.{names_of}
use Rattle.f3_elaboration.specs.Nodes.{ComponentNode, DerivedNode, ProgramNode}
use Rattle.f3_elaboration.specs.Context.{Surroundings}
use Rattle.f3_elaboration.specs.Declarations.{Whole, component as component_node, derived as derived_node}
use Rattle.f3_elaboration.specs.DeclaredViews.{component_view, derived_view}
use Rattle.f3_elaboration.specs.Numbers.{Inner, Definition, number_in, definitions}
use Rattle.f3_elaboration.specs.Units.{surroundings}
use Rattle.f3_lawful_laws.specs.Entities.{units_of, whole_of}
use Rattle.f3_lawful_laws.proofs.Facts.{no}
use Rattle.f3_lawful_laws.proofs.Opening.{from_mapped, mapped_at}
use Rattle.f3_formed_laws.specs.Agreement.{kind_of as whole_kind, AreComponents}
use Rattle.f3_entity_laws.specs.Things.{of_unit, of_member, number_of, Thing, name, type, procedure, result, associate, things_of, own_of, nature_of, IsAmong, IsOf}
use Rattle.f3_entity_laws.specs.Laws.{definition_at}
use Rattle.f3_entity_laws.proofs.Entities.{of_program, entities}
use Rattle.f3_entity_laws.proofs.Found.{all_types}
use Rattle.f3_entity_laws.proofs.Names.{thing_types}
use Rattle.f3_entity_laws.proofs.Natures.{natures}
use Rattle.f3_agreement_laws.specs.Unbroken.{HasOuterTypes}
use Rattle.f3_agreement_laws.proofs.Declared.{no_types}
use Rattle.f3_agreement_laws.proofs.Types.{at_places}
use Rattle.f3_kind_laws.specs.Laws.{TypesAreCounted, TypesHaveComponents}

-- ---- things that are types

abbrev is_type : Thing → Bool
is_type (name h x) = false
is_type (type h x) = true
is_type (procedure u m) = false
is_type (result u m s) = false
is_type (associate h n x) = false

-- a type of a unit itself
pub record IsTypeOf (us : List Numbered) (g : Thing) : Type 0 where
  pub unit : Numbered
  pub tree : TypeTree
  pub among : IsAmong us unit
  pub is : g ≡ type (of_unit unit) tree

type_of : (t : Tree) → HasOuterTypes t → (g : Thing) → IsOf (units_of t) g → is_type g ≡ true → IsTypeOf (units_of t) g
type_of t outer (name h x) of e = no (sym e)
type_of t outer (type (of_unit u) x) of e = record { unit = u; tree = x; among = of.0; is = refl }
type_of t outer (type (of_member u m) x) of e = absurd (no_types t outer u m of.0 (of.1).0 x (of.1).1)
type_of t outer (procedure u m) of e = no (sym e)
type_of t outer (result u m s) of e = no (sym e)
type_of t outer (associate h n x) of e = no (sym e)

-- ---- by their natures

abbrev is_type_nature : Nature → Bool
is_type_nature (constant o) = false
is_type_nature (variable o) = false
is_type_nature (derived home ks f) = true
is_type_nature (subroutine pure ds) = false
is_type_nature (function pure ds o) = false

abbrev parts_or : List (ℕ × Component) → Nature → List (ℕ × Component)
parts_or ls (constant o) = ls
parts_or ls (variable o) = ls
parts_or ls (derived home ks f) = ks
parts_or ls (subroutine pure ds) = ls
parts_or ls (function pure ds o) = ls

no_object : (k : EntityKind) (o : Object) → is_type_nature (object_nature k o) ≡ false
no_object entity.Variable o = refl
no_object entity.Constant o = refl
no_object entity.DerivedType o = refl
no_object entity.Subroutine o = refl
no_object entity.Function o = refl

no_procedure : (pure : Bool) (ds : List (ℕ × Dummy)) (o : Object) (k : ProcedureKind) → is_type_nature (kind_nature pure ds o k) ≡ false
no_procedure pure ds o Subroutine = refl
no_procedure pure ds o (Function s outcome) = refl

by_nature : (names : Names) (f : Bool) (g : Thing) → is_type_nature (nature_of names f g) ≡ true → is_type g ≡ true
by_nature names f (name h x) is = no (sym is ∙ no_object (kind_of (x.0).attributes) (object_of names (number_of h) (x.0, x.1)))
by_nature names f (type h x) is = refl
by_nature names f (procedure u m) is = no (sym is ∙ no_procedure _ _ _ ((m.tree).header).kind)
by_nature names f (result u m s) is = no (sym is)
by_nature names f (associate h n x) is = no (sym is)

-- ---- by what they are declared as

abbrev is_type_kind : EntityKind → Bool
is_type_kind entity.Variable = false
is_type_kind entity.Constant = false
is_type_kind entity.DerivedType = true
is_type_kind entity.Subroutine = false
is_type_kind entity.Function = false

no_name : (b : Bool) → is_type_kind (if b then entity.Constant else entity.Variable) ≡ false
no_name true = refl
no_name false = refl

no_procedure_kind : (k : ProcedureKind) → is_type_kind (entity_kind k) ≡ false
no_procedure_kind Subroutine = refl
no_procedure_kind (Function s outcome) = refl

by_kind : (g : Thing) → is_type_kind (own_of g).kind ≡ true → is_type g ≡ true
by_kind (name h x) is = no (sym is ∙ no_name (list_any (λ (p : Placed). is_parameter p.attribute) (x.0).attributes))
by_kind (type h x) is = refl
by_kind (procedure u m) is = no (sym is ∙ no_procedure_kind ((m.tree).header).kind)
by_kind (result u m s) is = no (sym is)
by_kind (associate h n x) is = no (sym is)

pub declared_type : (t : Tree) (look : ℕ → ℕ → Lookup) → HasOuterTypes t → (e : ℕ) → slice_get (names_of t look).kinds e ≡ Some entity.DerivedType
    → (g : Thing) × (slice_get (things_of (units_of t)) e ≡ Some g) × IsTypeOf (units_of t) g
declared_type t look outer e at =
    let d = from_mapped (λ (d : Own). d.kind) (entities_of (scopes_of t)) e entity.DerivedType at in
    let g = from_mapped own_of (things_of (units_of t)) e d.0 (ap (λ l. slice_get l e) (sym (entities t)) ∙ d.1) in
    (g.0, g.1, type_of t outer g.0 (of_program t e g.0 g.1) (by_kind g.0 (ap (λ (d : Own). is_type_kind d.kind) g.2 ∙ ap is_type_kind d.2)))

-- ---- numbers

-- where a type stands among the definitions: at its number
pub placed_type : (t : Tree) (look : ℕ → ℕ → Lookup) (order : List ℕ) → IsOrderOf (nodes_of t) order → (e : ℕ) (g : Thing)
    → slice_get (things_of (units_of t)) e ≡ Some g → (k : IsTypeOf (units_of t) g)
    → slice_get (flat_map definitions (units_in (units_of t) order)) (number_in ((whole_of t look order).numbers).types e) ≡ Some (definition_at k.unit e k.tree)
placed_type t look order ordered e g at k =
    let d : Definition = definition_at k.unit e k.tree in
    let there = all_types t order k.unit d ordered k.among (thing_types t k.unit e k.tree (at ∙ ap Some k.is)) in
    ap (slice_get (flat_map definitions (units_in (units_of t) order))) (at_places t look order ordered there.0 d there.1) ∙ there.1

pub counted : TypesAreCounted
counted t look order outer ordered e at =
    let g = declared_type t look outer e at in
    slice_get_within (flat_map definitions (units_in (units_of t) order)) (number_in ((whole_of t look order).numbers).types e) _
    (placed_type t look order ordered e g.0 g.1 g.2)

-- ---- components

module _ (w : Whole) (unit scope : ℕ) (inner : Inner) where
  abbrev here : Surroundings
  here = surroundings w unit scope inner

  abbrev AreNodes : List ComponentNode → List (ℕ × Component) → Type 0
  AreNodes [] [] = ⊤
  AreNodes [] (k ∷ ks) = ⊥
  AreNodes (n ∷ ns) [] = ⊥
  AreNodes (n ∷ ns) (k ∷ ks) = ((n.declared).kind ≡ whole_kind here (k.1).object) × AreNodes ns ks

  nodes_joined : (ns ms : List ComponentNode) (ks ls : List (ℕ × Component)) → AreNodes ns ks → AreNodes ms ls → AreNodes (ns ++ ms) (ks ++ ls)
  nodes_joined [] ms [] ls a b = b
  nodes_joined [] ms (k ∷ ks) ls a b = absurd a
  nodes_joined (n ∷ ns) ms [] ls a b = absurd a
  nodes_joined (n ∷ ns) ms (k ∷ ks) ls a b = (a.0, nodes_joined ns ms ks ls a.1 b)

  module _ (home : ℕ) (default : Bool) where
    one_are : (d : DeclarationTree) (xs : List EntityTree) → AreNodes (map (component_node w home default d) xs) (map (component (w.scene).names home default d) xs)
    one_are d [] = tt
    one_are d (x ∷ xs) = (refl, one_are d xs)

    all_are : (ds : List DeclarationTree)
        → AreNodes (flat_map (λ (d : DeclarationTree). map (component_node w home default d) d.entities) ds)
        (flat_map (λ (d : DeclarationTree). map (component (w.scene).names home default d) d.entities) ds)
    all_are [] = tt
    all_are (d ∷ ds) =
        nodes_joined (map (component_node w home default d) d.entities) _ (map (component (w.scene).names home default d) d.entities) _ (one_are d d.entities) (all_are ds)

  -- components in memory, beside those of the rules
  are_components : (xs : List program.Component) (ks : List (ℕ × Component)) → AreNodes (map component_view xs) ks → AreComponents here xs ks
  are_components [] [] h = tt
  are_components [] (k ∷ ks) h = h
  are_components (x ∷ xs) [] h = h
  are_components (x ∷ xs) (k ∷ ks) h = (h.0, are_components xs ks h.1)

pub have_components : TypesHaveComponents
have_components t look order p outer ordered seen unit scope inner e home ks f at =
    let w : Whole = whole_of t look order in
    let g = natures (names_of t look) (units_of t) e (derived home ks f) at in
    let k = type_of t outer g.0 (of_program t e g.0 g.2) (by_nature (names_of t look) g.1 g.0 (ap is_type_nature (sym g.3))) in
    let parts_are : components (names_of t look) (k.unit).scope k.tree ≡ ks =
    sym (ap (parts_or ks) (g.3 ∙ ap (nature_of (names_of t look) g.1) k.is)) in
    let number : ℕ = number_in (w.numbers).types e in
    let d : Definition = definition_at k.unit e k.tree in
    let node : slice_get (map derived_view p.types.items) number ≡ Some (derived_node w d) =
    ap (λ (y : ProgramNode). slice_get y.types number) seen
    ∙ mapped_at (derived_node w) (flat_map definitions (units_in (units_of t) order)) number d (placed_type t look order ordered e g.0 g.2 k) in
    let q = from_mapped derived_view p.types.items number (derived_node w d) node in
    let parts : AreNodes w unit scope inner (map component_view (q.0).components.items) (components (names_of t look) (k.unit).scope k.tree) =
    subst (λ ns. AreNodes w unit scope inner ns (components (names_of t look) (k.unit).scope k.tree)) {y = map component_view (q.0).components.items}
    (sym (ap (λ (y : DerivedNode). y.components) q.2))
    (all_are w unit scope inner (k.unit).scope (is_given (k.tree).private) (k.tree).components) in record {
      type = q.0;
      there = q.1;
      components =
          subst (AreComponents (here w unit scope inner) (q.0).components.items) parts_are
          (are_components w unit scope inner (q.0).components.items (components (names_of t look) (k.unit).scope k.tree) parts);
    }
