-- What the rules on specification parts say of a procedure of a program that breaks none: T1 and T12.
use Rattle.std.proofs.Common.{◌≡◌, refl, sym, subst, ℕ, Bool, true, false, ◌&&◌, ◌||◌, not, List, [], ◌∷◌, ◌++◌, length, filter, nat_eq, Option, None, Some, Contains, slice_get}
use Rattle.std.specs.List.{flat_map, list_any}
use Rattle.f3_lookups.specs.declared.lookup.Lookup.{Lookup}
use Rattle.f3_graph.specs.Order.{IsOrderOf}
use Rattle.f3_graph.specs.Units.{nodes_of}
use Rattle.f3_rules.specs.declared.breaks.Break.{Break}
use Rattle.f3_scopes.specs.Scopes.{scopes_of}
use Rattle.f3_tree.specs.declared.declaration.TypeSpecifier.{TypeSpecifier}
use Rattle.f3_tree.specs.declared.expression.Name.{Name}
use Rattle.f3_tree.specs.declared.program.ProcedureKind.{ProcedureKind}
use Rattle.f3_tree.specs.declared.program.ProcedureKind.TheVariants.{Subroutine, Function}
use Rattle.f3_tree.specs.Declarations.{ShapeTree, protected, parameter, save, allocatable, EntityTree, DeclarationTree, declares}
use Rattle.f3_tree.specs.Tree.{Tree}
use Rattle.f3_kinds.specs.Things.{map_or}
use Rattle.f3_type_rules.specs.Attributes.{has, any_intent, is_derived, is_deferred, is_open, is_twice, conflicts}
use Rattle.f3_type_rules.specs.Finals.{is_explicit}
use Rattle.f3_type_rules.specs.Declarations.{is_finalizable, may_finalize, local_rows, specifier_rows, entity_rows, entity_next, specification_rows, specification_next}
use Rattle.f3_type_rules.specs.Declarations.{header_rows, spot_of, within_member, member_rows, member_next, unit_spot, within_unit, behind_part, unit_rows, unit_next}
use Rattle.f3_type_rules.specs.Members.{Member, Numbered}
use Rattle.f3_type_rules.specs.Names.{Declared, is_given, entries_in, entries, attributes_of, shape_of, type_of}
use Rattle.f3_type_rules.specs.Natures.{specifier_of}
use Rattle.f3_type_rules.specs.Program.{nothing_known, units_in, program_breaks}
use Rattle.f3_type_rules.specs.Scene.{names_of, Scene, scene_of}
use Rattle.f3_type_rules.specs.Shapes.{dimension_rows, shape_rows}
use Rattle.f3_type_rules.specs.Walks.{along, Known, Spot, context, is_among}
use Rattle.f3_lawful_laws.specs.Entities.{units_of}
use Rattle.f3_lawful_laws.proofs.Facts.{no, nothing, holds, first, second, negated_back}
use Rattle.f3_lawful_laws.proofs.Opening.{mapped_at}
use Rattle.f3_entity_laws.specs.Things.{of_member, IsAmong, IsHome}
use Rattle.f3_entity_laws.proofs.Found.{unit_ordered}
use Rattle.f3_entity_laws.proofs.Lists.{flat_block}
use Rattle.f3_agreement_laws.proofs.Free.{along_none, none_at, nil_of}

-- the sixth of the things that T1 forbids
sixth : (a b c d e f g h i : Bool) → (a || b || c || d || e || f || g || h || i) ≡ false → f ≡ false
sixth true b c d e f g h i q = no q
sixth false true c d e f g h i q = no q
sixth false false true d e f g h i q = no q
sixth false false false true e f g h i q = no q
sixth false false false false true f g h i q = no q
sixth false false false false false true g h i q = no q
sixth false false false false false false g h i q = refl

-- a variable of a pure procedure is not saved
saved_apart : (s : Spot) (x : Declared) → conflicts s x ≡ false → (s.is_pure && not (has parameter x.0) && (has save x.0 || is_given (x.1).initial)) ≡ false
saved_apart s x h =
    let d : DeclarationTree = x.0 in
    let shape : Option ShapeTree = shape_of x in
    let initial : Bool = is_given (x.1).initial in
    let dummy : Bool = is_among s.dummies x.1 in
    let of_procedure : Bool = dummy || is_among s.results x.1 in
    sixth (is_twice d (length (filter (nat_eq ((x.1).name).symbol) s.listed)))
    (has allocatable d && (has parameter d || initial || not (is_open shape)))
    (has parameter d && (not initial || has save d || has any_intent d || is_given shape || is_derived d.specifier))
    (initial && (of_procedure || is_derived d.specifier))
    (has save d && of_procedure)
    (s.is_pure && not (has parameter d) && (has save d || initial))
    (is_deferred shape && not (has allocatable d) && not dummy)
    (is_explicit shape && dummy)
    (s.is_type && list_any (λ a. has a d) (protected ∷ parameter ∷ save ∷ any_intent ∷ []))
    h

unsaved : (a b c : Bool) → (a && b && c) ≡ false → a ≡ true → b ≡ true → c ≡ false
unsaved true true c h p q = h
unsaved true false c h p q = no (sym q)
unsaved false b c h p q = no (sym p)

module _ (t : Tree) (look : ℕ → ℕ → Lookup) (order : List ℕ) (ordered : IsOrderOf (nodes_of t) order)
    (none : (b : Break) → Contains (program_breaks t look order) b → ⊥) where
  abbrev pub scene : Scene
  scene = scene_of (names_of t look) (scopes_of t) (units_of t)

  unit_none : (u : Numbered) → IsAmong (units_of t) u → (k : Known) × (unit_rows scene k u ≡ [])
  unit_none u among =
      let o = unit_ordered t order ordered u among in
      let parts : along (unit_rows scene) (unit_next scene) nothing_known (units_in (units_of t) order) ≡ [] =
      first _ _ (nil_of (program_breaks t look order) none) in
      along_none (unit_rows scene) (unit_next scene) nothing_known (units_in (units_of t) order) parts o.0 u o.1

  member_none : (u : Numbered) (m : Member) → IsHome (units_of t) (of_member u m) → (k : Known) × (member_rows scene u.scope k m ≡ [])
  member_none u m home =
      let r = unit_none u home.0 in
      let rows : along (member_rows scene u.scope) (member_next scene u.scope) (behind_part scene u r.0) u.members ≡ [] =
      second (along (specification_rows (unit_spot scene u) u.members) (specification_next (unit_spot scene u)) (within_unit u r.0) ((u.tree).part).specifications) _ r.1 in
      along_none (member_rows scene u.scope) (member_next scene u.scope) (behind_part scene u r.0) u.members rows home.1.0 m home.1.1

  module _ (u : Numbered) (m : Member) (home : IsHome (units_of t) (of_member u m)) where
    abbrev pub spot : Spot
    spot = spot_of scene u.scope m

    behind_header : (k : Known) × (along (specification_rows spot []) (specification_next spot) (within_member m k) ((m.tree).part).specifications
        ++ flat_map (λ (x : ℕ × Declared). local_rows spot x.1) (entries ((m.tree).part).specifications) ≡ [])
    behind_header =
        let r = member_none u m home in
        (r.0, second (header_rows spot r.0 ((m.tree).header).name ((m.tree).header).kind) _ r.1)

    -- ---- T1: in a pure procedure no variable is saved

    declaration_none : (i : ℕ) (d : DeclarationTree) → slice_get ((m.tree).part).specifications i ≡ Some (declares d)
        → (k : Known) × (along (entity_rows spot d) (entity_next spot d) k d.entities ≡ [])
    declaration_none i d at =
        let r = behind_header in
        let rows : along (specification_rows spot []) (specification_next spot) (within_member m r.0) ((m.tree).part).specifications ≡ [] = first _ _ r.1 in
        let one = along_none (specification_rows spot []) (specification_next spot) (within_member m r.0) ((m.tree).part).specifications rows i (declares d) at in
        (one.0, second (flat_map (dimension_rows (context spot one.0)) (attributes_of d)) _ (second (specifier_rows spot one.0 d.specifier) _ one.1))

    unconflicted : (d : DeclarationTree) (x : EntityTree) → IsAmong ((m.tree).part).specifications (declares d) → IsAmong d.entities x → conflicts spot (d, x) ≡ false
    unconflicted d x part entity =
        let r = declaration_none part.0 d part.1 in
        let one = along_none (entity_rows spot d) (entity_next spot d) r.0 d.entities r.1 entity.0 x entity.1 in
        let rows = second (shape_rows (context spot one.0) x.shape) _ one.1 in
        negated_back (conflicts spot (d, x)) (holds (not (conflicts spot (d, x))) _ (first _ _ rows))

    pub never_saved : (d : DeclarationTree) (x : EntityTree) → IsAmong ((m.tree).part).specifications (declares d) → IsAmong d.entities x
        → spot.is_pure ≡ true → not (has parameter d) ≡ true → (has save d || is_given x.initial) ≡ false
    never_saved d x part entity pure varies =
        unsaved spot.is_pure (not (has parameter d)) (has save d || is_given x.initial) (saved_apart spot (d, x) (unconflicted d x part entity)) pure varies

    -- ---- T12: what is of finalizable type

    abbrev pub EndsWell : Declared → Type 0
    EndsWell x = (not (is_finalizable scene (type_of (names_of t look) m.scope (x.0).specifier)) || may_finalize spot x) ≡ true

    pub entry_ends : (i : ℕ) (z : ℕ × Declared) → slice_get (entries ((m.tree).part).specifications) i ≡ Some z → EndsWell z.1
    entry_ends i z at =
        let r = behind_header in
        let rows : flat_map (λ (x : ℕ × Declared). local_rows spot x.1) (entries ((m.tree).part).specifications) ≡ [] =
        second (along (specification_rows spot []) (specification_next spot) (within_member m r.0) ((m.tree).part).specifications) _ r.1 in
        holds _ _ (none_at (λ (x : ℕ × Declared). local_rows spot x.1) (entries ((m.tree).part).specifications) rows i z at)

    pub name_ends : (d : DeclarationTree) (x : EntityTree) → IsAmong ((m.tree).part).specifications (declares d) → IsAmong d.entities x → EndsWell (d, x)
    name_ends d x part entity =
        let make : EntityTree → ℕ × Declared = λ x. ((x.name).symbol, (d, x)) in
        entry_ends _ (make x) (flat_block entries_in ((m.tree).part).specifications part.0 (declares d) entity.0 (make x) part.1 (mapped_at make d.entities entity.0 x entity.1))

    header_ends : (k : Known) (n : Name) (kind : ProcedureKind) (s : TypeSpecifier) → header_rows spot k n kind ≡ [] → specifier_of kind ≡ Some s
        → is_finalizable scene (type_of (names_of t look) m.scope s) ≡ false
    header_ends k n Subroutine s rows is = nothing is
    header_ends k n (Function None outcome) s rows is = nothing is
    header_ends k n (Function (Some z) outcome) s rows is =
        let here = negated_back _ (holds (not (is_finalizable scene (type_of (names_of t look) m.scope z))) _ (second (specifier_rows spot k z) _ rows)) in
        subst (λ (o : Option TypeSpecifier). map_or false (λ (s : TypeSpecifier). is_finalizable scene (type_of (names_of t look) m.scope s)) o ≡ false) is here

    pub result_ends : (s : TypeSpecifier) → specifier_of ((m.tree).header).kind ≡ Some s → is_finalizable scene (type_of (names_of t look) m.scope s) ≡ false
    result_ends s is =
        let r = member_none u m home in
        header_ends r.0 ((m.tree).header).name ((m.tree).header).kind s (first (header_rows spot r.0 ((m.tree).header).name ((m.tree).header).kind) _ r.1) is
