-- Types that are not finalizable are harmless.
use Rattle.std.proofs.Common.{◌≡◌, refl, sym, ap, subst, ◌∙◌, ℕ, zero, suc, Bool, true, false, ◌||◌, not, List, [], ◌∷◌, ◌++◌, map, Option, None, Some, slice_get, if◌then◌else◌}
use Rattle.std.specs.List.{flat_map, list_any}
use Rattle.f3_lookups.specs.declared.lookup.Lookup.{Lookup}
use Rattle.f3_lookups.specs.declared.lookup.Lookup.TheVariants.{One, Nothing, Several}
use Rattle.f3_access.specs.Access.{entities_of}
use Rattle.f3_scopes.specs.declared.outline.EntityKind.{EntityKind}
use Rattle.f3_scopes.specs.declared.outline.EntityKind.TheVariants as entity
use Rattle.f3_scopes.specs.Outlines.{Own}
use Rattle.f3_scopes.specs.Scopes.{is_parameter, entity_kind, scopes_of}
use Rattle.f3_tree.specs.declared.declaration.TypeSpecifier.{TypeSpecifier}
use Rattle.f3_tree.specs.declared.declaration.TypeSpecifier.TheVariants as specifier
use Rattle.f3_tree.specs.declared.expression.IntegerKind.TheVariants.{Four, Eight}
use Rattle.f3_tree.specs.declared.expression.Name.{Name}
use Rattle.f3_tree.specs.declared.program.ProcedureKind.{ProcedureKind}
use Rattle.f3_tree.specs.declared.program.ProcedureKind.TheVariants.{Subroutine, Function}
use Rattle.f3_tree.specs.Declarations.{Placed, DeclarationTree, TypeTree}
use Rattle.f3_tree.specs.Tree.{Tree}
use Rattle.f3_graph.specs.Order.{IsOrderOf}
use Rattle.f3_graph.specs.Units.{nodes_of}
use Rattle.f3_program.specs.declared.declarations.Base.TheVariants as base
use Rattle.f3_program.specs.declared.declarations.Component as program
use Rattle.f3_program.specs.declared.declarations.Derived as program_type
use Rattle.f3_program.specs.declared.declarations.Final.{Final}
use Rattle.f3_program.specs.declared.program.Program.{Program}
use Rattle.f3_kinds.specs.declared.types.DataType.{DataType}
use Rattle.f3_kinds.specs.declared.types.DataType.TheVariants.{Integer, Logical, Derived}
use Rattle.f3_kinds.specs.declared.things.Component.{Component}
use Rattle.f3_kinds.specs.Things.{map_or, Nature, derived}
use Rattle.f3_meaning_whole.specs.Act.{component_in, component_type}
use Rattle.f3_meaning_whole.specs.Act as act
use Rattle.f3_meaning_whole.specs.Permitted.{Each}
use Rattle.f3_type_rules.specs.Declarations.{is_final_nature, is_finalizable}
use Rattle.f3_type_rules.specs.Finals.{final_rank}
use Rattle.f3_type_rules.specs.Members.{Numbered}
use Rattle.f3_type_rules.specs.Names.{Names, is_given, type_if, type_named, type_of, component, components}
use Rattle.f3_type_rules.specs.Natures.{unit_natures, settled}
use Rattle.f3_type_rules.specs.Program.{units_in}
use Rattle.f3_type_rules.specs.Scene.{names_of}
use Rattle.f3_elaboration.specs.Nodes.{DerivedNode, ProgramNode}
use Rattle.f3_elaboration.specs.Declarations.{Whole, derived as derived_node, final}
use Rattle.f3_elaboration.specs.DeclaredViews.{derived_view, program_view}
use Rattle.f3_elaboration.specs.Numbers.{Inner, Definition, number_in, base_of, definitions}
use Rattle.f3_elaboration.specs.Program.{elaborated}
use Rattle.f3_elaboration.specs.Units.{surroundings}
use Rattle.f3_lawful_laws.specs.Agreement.{AreComponents, IsType}
use Rattle.f3_lawful_laws.specs.Entities.{units_of, whole_of}
use Rattle.f3_lawful_laws.proofs.Facts.{no, nothing, same, negated_back}
use Rattle.f3_lawful_laws.proofs.Opening.{mapped_at, from_mapped}
use Rattle.f3_entity_laws.specs.Laws.{definition_at}
use Rattle.f3_entity_laws.specs.Things.{of_unit, of_member, Thing, name, type, procedure, result, associate, own_of, things_of, IsAmong, IsOf}
use Rattle.f3_entity_laws.proofs.Entities.{entities, of_program}
use Rattle.f3_entity_laws.proofs.Found.{all_types, ordered_unit}
use Rattle.f3_entity_laws.proofs.Lists.{flat_at}
use Rattle.f3_entity_laws.proofs.Names.{thing_types, type_things}
use Rattle.f3_entity_laws.proofs.Natures.{things}
use Rattle.f3_entity_laws.proofs.Stands.{unit_at}
use Rattle.f3_agreement_laws.specs.Unbroken.{HasOuterTypes}
use Rattle.f3_agreement_laws.proofs.Declared.{no_types}
use Rattle.f3_agreement_laws.proofs.Types.{agree, at_places}
use Rattle.f3_pure_laws.specs.Ending.{IsHarmless, AreHarmless}
use Rattle.f3_unbroken_laws.proofs.Flags.{finalizes, IsClean, clean, no_finals}

-- ---- entities that are types

abbrev is_type_kind : EntityKind → Bool
is_type_kind entity.Constant = false
is_type_kind entity.Variable = false
is_type_kind entity.DerivedType = true
is_type_kind entity.Subroutine = false
is_type_kind entity.Function = false

no_name : (b : Bool) → is_type_kind (if b then entity.Constant else entity.Variable) ≡ false
no_name true = refl
no_name false = refl

abbrev nowhere : Inner
nowhere = record { variables = []; lent = [] }

no_procedure : (k : ProcedureKind) → is_type_kind (entity_kind k) ≡ false
no_procedure Subroutine = refl
no_procedure (Function s outcome) = refl

module _ (t : Tree) (look : ℕ → ℕ → Lookup) (order : List ℕ) (ordered : IsOrderOf (nodes_of t) order) (outer : HasOuterTypes t) where
  abbrev names : Names
  names = names_of t look

  abbrev w : Whole
  w = whole_of t look order

  abbrev all_natures : List Nature
  all_natures = flat_map (unit_natures names) (units_of t)

  abbrev defined : List Definition
  defined = flat_map definitions (units_in (units_of t) order)

  finalizable_is : (d : Option DataType) → is_finalizable w.scene d ≡ finalizes all_natures d
  finalizable_is None = refl
  finalizable_is (Some (Integer k)) = refl
  finalizable_is (Some Logical) = refl
  finalizable_is (Some (Derived e)) = refl

  -- a type with this number is not finalizable
  abbrev pub harmless : ℕ → Bool
  harmless n = map_or true (λ (d : Definition). not (finalizes all_natures (Some (Derived d.entity)))) (slice_get defined n)

  -- ---- a type of the rules

  record IsDefined (e : ℕ) : Type 0 where
    unit : Numbered
    tree : TypeTree
    among : IsAmong (units_of t) unit
    there : slice_get (things_of (units_of t)) e ≡ Some (type (of_unit unit) tree)

  thing_defined : (e : ℕ) (g : Thing) → slice_get (things_of (units_of t)) e ≡ Some g → IsOf (units_of t) g → is_type_kind (own_of g).kind ≡ true → IsDefined e
  thing_defined e (name h x) at of is = no (sym is ∙ no_name (list_any (λ (p : Placed). is_parameter p.attribute) (x.0).attributes))
  thing_defined e (type (of_unit u) x) at of is = record { unit = u; tree = x; among = of.0; there = at }
  thing_defined e (type (of_member u m) x) at of is = absurd (no_types t outer u m of.0 (of.1).0 x (of.1).1)
  thing_defined e (procedure u m) at of is = no (sym is ∙ no_procedure ((m.tree).header).kind)
  thing_defined e (result u m s) at of is = no (sym is)
  thing_defined e (associate h n x) at of is = no (sym is)

  -- what a name in TYPE(n) means is one
  kind_defined : (e : ℕ) → slice_get names.kinds e ≡ Some entity.DerivedType → IsDefined e
  kind_defined e at =
      let (d, at_d, is_d) = from_mapped (λ (d : Own). d.kind) (entities_of (scopes_of t)) e entity.DerivedType at in
      let (g, at_g, is_g) = from_mapped own_of (things_of (units_of t)) e d (ap (λ l. slice_get l e) (sym (entities t)) ∙ at_d) in
      thing_defined e g at_g (of_program t e g at_g) (ap (λ (d : Own). is_type_kind d.kind) is_g ∙ ap is_type_kind is_d)

  defined_harmless : (e : ℕ) → IsDefined e → finalizes all_natures (Some (Derived e)) ≡ false → harmless (number_in (w.numbers).types e) ≡ true
  defined_harmless e d h =
      let x : Definition = definition_at d.unit e d.tree in
      let own = thing_types t d.unit e d.tree d.there in
      let there = all_types t order d.unit x ordered d.among own in
      ap harmless (at_places t look order ordered there.0 x there.1)
      ∙ ap (map_or true (λ (d : Definition). not (finalizes all_natures (Some (Derived d.entity))))) there.1 ∙ ap not h

  type_harmless : (e : ℕ) (o : Option EntityKind) → slice_get names.kinds e ≡ o → finalizes all_natures (type_if e o) ≡ false
      → IsHarmless harmless (base_of w.numbers (type_if e o))
  type_harmless e None is h = tt
  type_harmless e (Some entity.Constant) is h = tt
  type_harmless e (Some entity.Variable) is h = tt
  type_harmless e (Some entity.Subroutine) is h = tt
  type_harmless e (Some entity.Function) is h = tt
  type_harmless e (Some entity.DerivedType) is h = defined_harmless e (kind_defined e is) h

  named_harmless : (l : Lookup) → finalizes all_natures (type_named names l) ≡ false → IsHarmless harmless (base_of w.numbers (type_named names l))
  named_harmless (One e) h = type_harmless e (slice_get names.kinds e) refl h
  named_harmless Nothing h = tt
  named_harmless Several h = tt

  specified_harmless : (scope : ℕ) (s : TypeSpecifier) → finalizes all_natures (type_of names scope s) ≡ false
      → IsHarmless harmless (base_of w.numbers (type_of names scope s))
  specified_harmless scope (specifier.Integer Four) h = tt
  specified_harmless scope (specifier.Integer Eight) h = tt
  specified_harmless scope specifier.Logical h = tt
  specified_harmless scope (specifier.Derived n) h = named_harmless (look scope n.symbol) h

  -- an object of a type that is not finalizable is of a harmless one
  pub said_harmless : (scope : ℕ) (s : TypeSpecifier) → is_finalizable w.scene (type_of names scope s) ≡ false
      → IsHarmless harmless (base_of w.numbers (type_of names scope s))
  said_harmless scope s h = specified_harmless scope s (sym (finalizable_is (type_of names scope s)) ∙ h)

  -- ---- the types of the program

  module _ (p : Program) (seen : program_view p ≡ elaborated t look order) (pure : ℕ → Bool) where
    -- a harmless type of the program
    record IsHere (n : ℕ) (y : program_type.Derived) : Type 0 where
      unit : Numbered
      place : ℕ
      there : slice_get (units_of t) place ≡ Some unit
      definition : Definition
      among : IsAmong (definitions unit) definition
      at : slice_get defined n ≡ Some definition
      node : derived_node w definition ≡ derived_view y
      of_unit : definition ≡ definition_at unit definition.entity definition.tree
      flag : Bool
      nature : slice_get (settled all_natures) definition.entity ≡ Some (derived unit.scope (components names unit.scope definition.tree) flag)

    here : (n : ℕ) (y : program_type.Derived) → slice_get p.types.items n ≡ Some y → IsHere n y
    here n y at =
        let (d, at_d, node) = from_mapped (derived_node w) defined n (derived_view y)
        (ap (λ (z : ProgramNode). slice_get z.types n) (sym seen) ∙ mapped_at derived_view p.types.items n y at) in
        let (i, u, j, at_u, at_j, place) = flat_at definitions (units_in (units_of t) order) n d at_d in
        let among = ordered_unit t order ordered i u at_u in
        let thing = type_things t u d among (j, at_j) in
        let nature = things names (units_of t) d.entity (type (of_unit u) d.tree) thing.1 in
        record {
          unit = u;
          place = among.0;
          there = among.1;
          definition = d;
          among = (j, at_j);
          at = at_d;
          node = node;
          of_unit = thing.0;
          flag = nature.0;
          nature = nature.1;
        }

    unflagged : (n : ℕ) (y : program_type.Derived) (h : IsHere n y) → harmless n ≡ true → h.flag ≡ false
    unflagged n y h is =
        let e : not (finalizes all_natures (Some (Derived (h.definition).entity))) ≡ true =
        ap (map_or true (λ (d : Definition). not (finalizes all_natures (Some (Derived d.entity))))) (sym h.at) ∙ is in
        ap (map_or false is_final_nature) (sym h.nature) ∙ negated_back _ e

    cleaned : (n : ℕ) (y : program_type.Derived) (h : IsHere n y) → harmless n ≡ true
        → IsClean all_natures (h.definition).entity (components names (h.unit).scope (h.definition).tree)
    cleaned n y h is =
        clean all_natures (h.definition).entity (h.unit).scope (components names (h.unit).scope (h.definition).tree)
        (h.nature ∙ ap (λ f. Some (derived (h.unit).scope (components names (h.unit).scope (h.definition).tree) f)) (unflagged n y h is))

    abbrev ranks : Definition → List Name → List Final
    ranks d ns = flat_map (λ (n : Name). map_or [] (λ rank. final w d.unit n rank ∷ []) (final_rank names (d.unit).scope (d.unit).members d.entity n)) ns

    abbrev any_rank : Numbered → (entity : ℕ) → List Name → Bool
    any_rank u e ns = list_any (λ (n : Name). is_given (final_rank names u.scope u.members e n)) ns

    no_ranks : (d : Definition) (ns : List Name) → any_rank d.unit d.entity ns ≡ false → ranks d ns ≡ []
    no_ranks d [] h = refl
    no_ranks d (n ∷ ns) h = go (final_rank names (d.unit).scope (d.unit).members d.entity n) h (no_ranks d ns)
      where
        go : (o : Option ℕ) → (is_given o || any_rank d.unit d.entity ns) ≡ false → (any_rank d.unit d.entity ns ≡ false → ranks d ns ≡ [])
            → map_or [] (λ rank. final w d.unit n rank ∷ []) o ++ ranks d ns ≡ []
        go None h rest = rest h
        go (Some r) h rest = no h

    ended : (n : ℕ) (y : program_type.Derived) → slice_get p.types.items n ≡ Some y → harmless n ≡ true → y.finals.items ≡ []
    ended n y at is =
        let h = here n y at in
        let first = (unit_at t h.place h.unit h.there).1 in
        let free = no_finals names (units_of t) h.place h.unit h.there first h.definition h.among (components names (h.unit).scope (h.definition).tree) (cleaned n y h is) in
        let unit : h.unit ≡ (h.definition).unit = sym (ap (λ (d : Definition). d.unit) h.of_unit) in
        ap (λ (z : DerivedNode). z.finals) (sym h.node)
        ∙ no_ranks h.definition ((h.definition).tree).finals
        (subst (λ (u : Numbered). any_rank u (h.definition).entity ((h.definition).tree).finals ≡ false) unit free)

    -- ---- components

    at_component : (xs : List program.Component) (ks : List (ℕ × Component)) → AreComponents (surroundings w 0 0 nowhere) xs ks
        → (k : ℕ) (c : program.Component) → slice_get xs k ≡ Some c
        → (z : ℕ × Component) × (slice_get ks k ≡ Some z) × (((c.declared).kind).of ≡ base_of w.numbers ((z.1).object).data_type)
    at_component [] ks h k c at = nothing at
    at_component (x ∷ xs) [] h k c at = absurd h
    at_component (x ∷ xs) (y ∷ ks) h zero c at = (y, refl, ap (λ (c : program.Component). ((c.declared).kind).of) (sym (same at)) ∙ h.0)
    at_component (x ∷ xs) (y ∷ ks) h (suc k) c at = at_component xs ks h.2 k c at

    component_harmless : (u : Numbered) (tree : TypeTree) (k : ℕ) (z : ℕ × Component) → slice_get (components names u.scope tree) k ≡ Some z
        → finalizes all_natures ((z.1).object).data_type ≡ false → IsHarmless harmless (base_of w.numbers ((z.1).object).data_type)
    component_harmless u tree k z at free =
        let make : DeclarationTree → List (ℕ × Component) = λ d. map (component names u.scope (is_given tree.private) d) d.entities in
        let (i, d, j, at_d, at_j, place) = flat_at make tree.components k z at in
        let (x, at_x, is) = from_mapped (component names u.scope (is_given tree.private) d) d.entities j z at_j in
        subst (λ (z : ℕ × Component). finalizes all_natures ((z.1).object).data_type ≡ false → IsHarmless harmless (base_of w.numbers ((z.1).object).data_type)) is
        (specified_harmless u.scope d.specifier) free

    part_harmless : (n : ℕ) (y : program_type.Derived) (k : ℕ) (c : program.Component) → slice_get p.types.items n ≡ Some y → harmless n ≡ true
        → slice_get y.components.items k ≡ Some c → IsHarmless harmless ((c.declared).kind).of
    part_harmless n y k c at is at_c =
        let h = here n y at in
        let clean_is = cleaned n y h is in
        let type_is : IsType p (surroundings w 0 0 nowhere) (h.definition).entity (h.unit).scope (components names (h.unit).scope (h.definition).tree) =
        agree t look order p outer ordered seen 0 0 nowhere (h.definition).entity (h.unit).scope (components names (h.unit).scope (h.definition).tree) h.flag h.nature in
        let one : type_is.type ≡ y = same (sym type_is.there ∙ ap (slice_get p.types.items) (at_places t look order ordered n h.definition h.at) ∙ at) in
        let (z, at_z, of) = at_component (type_is.type).components.items (components names (h.unit).scope (h.definition).tree) type_is.components k c
        (ap (λ (y : program_type.Derived). slice_get y.components.items k) one ∙ at_c) in
        subst (IsHarmless harmless) (sym of)
        (component_harmless h.unit (h.definition).tree k z at_z (clean_is.parts k z at_z))

    parts_harmless : (n k : ℕ) → harmless n ≡ true → IsHarmless harmless (component_type p.types.items (base.Derived n) k)
    parts_harmless n k is = by_type (slice_get p.types.items n) refl
      where
        by_part : (y : program_type.Derived) → slice_get p.types.items n ≡ Some y → (o : Option program.Component) → slice_get y.components.items k ≡ o
            → IsHarmless harmless (act.base_of o)
        by_part y at None at_c = tt
        by_part y at (Some c) at_c = part_harmless n y k c at is at_c

        by_type : (o : Option program_type.Derived) → slice_get p.types.items n ≡ o → IsHarmless harmless (act.base_of (component_in o k))
        by_type None at = tt
        by_type (Some y) at = by_part y at (slice_get y.components.items k) refl

    pub are_harmless : AreHarmless p pure harmless
    are_harmless = record {
      finals = λ n y at is. subst (Each (λ (f : Final). pure f.procedure ≡ true)) (sym (ended n y at is)) tt;
      components = parts_harmless;
    }
