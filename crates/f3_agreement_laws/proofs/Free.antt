-- What breaks no rule on types says known types alone.
use Rattle.std.proofs.Common.{◌≡◌, ℕ, zero, suc, ◌<◌, true, List, [], ◌∷◌, length, Option, None, Some, Contains, refl, sym, ap, ◌∙◌, arith}
use Rattle.std.specs.Prelude.{⊤, slice_get}
use Rattle.std.specs.List.{flat_map}
use mathlib.Core.Path.{subst}
use Rattle.f3_lookups.specs.declared.lookup.Lookup.{Lookup}
use Rattle.f3_graph.specs.Order.{IsOrderOf}
use Rattle.f3_graph.specs.Units.{nodes_of}
use Rattle.f3_rules.specs.declared.breaks.Break.{Break}
use Rattle.f3_scopes.specs.Scopes.{scopes_of}
use Rattle.f3_tree.specs.declared.declaration.TypeSpecifier.{TypeSpecifier}
use Rattle.f3_tree.specs.declared.declaration.TypeSpecifier.TheVariants as specifier
use Rattle.f3_tree.specs.declared.expression.Name.{Name}
use Rattle.f3_tree.specs.declared.program.ProcedureKind.{ProcedureKind}
use Rattle.f3_tree.specs.declared.program.ProcedureKind.TheVariants.{Subroutine, Function}
use Rattle.f3_tree.specs.Declarations.{DeclarationTree, SpecificationTree, declares, accesses, protects, saves, defines}
use Rattle.f3_tree.specs.Tree.{Tree}
use Rattle.f3_kinds.specs.declared.types.DataType.{DataType}
use Rattle.f3_kinds.specs.declared.types.DataType.TheVariants.{Integer, Logical, Derived}
use Rattle.f3_kinds.specs.Rows.{is_known}
use Rattle.f3_type_rules.specs.Declarations.{type_rows, specifier_rows, component_rows, specification_rows, specification_next, header_rows, spot_of, within_member}
use Rattle.f3_type_rules.specs.Declarations.{member_rows, member_next, unit_spot, within_unit, behind_part, unit_rows, unit_next}
use Rattle.f3_type_rules.specs.Members.{Member, Numbered}
use Rattle.f3_type_rules.specs.Names.{Names, type_of}
use Rattle.f3_type_rules.specs.Natures.{specifier_of}
use Rattle.f3_type_rules.specs.Program.{nothing_known, units_in, program_breaks}
use Rattle.f3_type_rules.specs.Scene.{names_of, Scene, scene_of}
use Rattle.f3_type_rules.specs.Walks.{along, Known, Spot}
use Rattle.f3_lawful_laws.specs.Entities.{units_of}
use Rattle.f3_lawful_laws.proofs.Facts.{nothing, same, not_nil, first, second}
use Rattle.f3_entity_laws.specs.Things.{Home, of_unit, of_member, number_of, specifications_of, IsAmong, IsHome}
use Rattle.f3_entity_laws.proofs.Found.{unit_ordered}

-- ---- rows along a list

pub along_none : {S X : Type 0} (rows : S → X → List Break) (next : S → X → S) (s : S) (xs : List X) → along rows next s xs ≡ []
    → (i : ℕ) (x : X) → slice_get xs i ≡ Some x → (k : S) × (rows k x ≡ [])
along_none rows next s [] none i x at = nothing at
along_none {S} {X} rows next s (y ∷ ys) none zero x at = (s, subst (λ z. rows s z ≡ []) (same at) (first (rows s y) (along rows next (next s y) ys) none))
along_none rows next s (y ∷ ys) none (suc i) x at = along_none rows next (next s y) ys (second (rows s y) (along rows next (next s y) ys) none) i x at

pub none_at : {X : Type 0} (rows : X → List Break) (xs : List X) → flat_map rows xs ≡ [] → (i : ℕ) (x : X) → slice_get xs i ≡ Some x → rows x ≡ []
none_at rows [] none i x at = nothing at
none_at {X} rows (y ∷ ys) none zero x at = subst (λ z. rows z ≡ []) (same at) (first (rows y) (flat_map rows ys) none)
none_at rows (y ∷ ys) none (suc i) x at = none_at rows ys (second (rows y) (flat_map rows ys) none) i x at

-- ---- what a specification says of known types

module _ (names : Names) (scope : ℕ) where
  abbrev pub IsTold : SpecificationTree → Type 0
  IsTold (declares d) = is_known (type_of names scope d.specifier) ≡ true
  IsTold (defines x) = (i : ℕ) (d : DeclarationTree) → slice_get x.components i ≡ Some d → is_known (type_of names scope d.specifier) ≡ true
  IsTold _ = ⊤

derived_known : (s : Spot) (k : Known) (n : Name) (o : Option DataType) → type_rows s k n o ≡ [] → is_known o ≡ true
derived_known s k n None none = not_nil none
derived_known s k n (Some (Derived e)) none = refl
derived_known s k n (Some (Integer i)) none = refl
derived_known s k n (Some Logical) none = refl

specifier_known : (s : Spot) (k : Known) (x : TypeSpecifier) → specifier_rows s k x ≡ [] → is_known (type_of (s.scene).names s.scope x) ≡ true
specifier_known s k (specifier.Integer i) none = refl
specifier_known s k specifier.Logical none = refl
specifier_known s k (specifier.Derived n) none = derived_known s k n (type_of (s.scene).names s.scope (specifier.Derived n)) none

specification_told : (s : Spot) (ms : List Member) (k : Known) (x : SpecificationTree) → specification_rows s ms k x ≡ [] → IsTold (s.scene).names s.scope x
specification_told s ms k (declares d) none = specifier_known s k d.specifier (first (specifier_rows s k d.specifier) _ none)
specification_told s ms k (accesses a) none = tt
specification_told s ms k (protects p ns) none = tt
specification_told s ms k (saves p) none = tt
specification_told s ms k (defines x) none = λ i d at.
    let r : Spot = record s { is_type = true; listed = [] } in
    let rows : component_rows r k d ≡ [] = none_at (component_rows r k) x.components (first (flat_map (component_rows r k) x.components) _ none) i d at in
    specifier_known r k d.specifier (first (specifier_rows r k d.specifier) _ rows)

-- so of all of a part, and of the header of a procedure
pub record IsFree (names : Names) (h : Home) : Type 0 where
  pub part : (i : ℕ) (x : SpecificationTree) → slice_get (specifications_of h) i ≡ Some x → IsTold names (number_of h) x

abbrev pub IsHeaderFree : Names → Member → Type 0
IsHeaderFree names m = (x : TypeSpecifier) → specifier_of ((m.tree).header).kind ≡ Some x → is_known (type_of names m.scope x) ≡ true

header_known : (s : Spot) (k : Known) (n : Name) (kind : ProcedureKind) (x : TypeSpecifier) → header_rows s k n kind ≡ [] → specifier_of kind ≡ Some x
    → is_known (type_of (s.scene).names s.scope x) ≡ true
header_known s k n Subroutine x none is = nothing is
header_known s k n (Function None outcome) x none is = nothing is
header_known s k n (Function (Some y) outcome) x none is =
    ap (λ z. is_known (type_of (s.scene).names s.scope z)) (sym (same is)) ∙ specifier_known s k y (first (specifier_rows s k y) _ none)

-- ---- a program

pub nil_of : (bs : List Break) → ((b : Break) → Contains bs b → ⊥) → bs ≡ []
nil_of [] h = refl
nil_of (b ∷ bs) h = absurd (h b (0, (let e : 0 < suc (length bs) = omega arith in e), refl))

module _ (t : Tree) (look : ℕ → ℕ → Lookup) (order : List ℕ) (ordered : IsOrderOf (nodes_of t) order)
    (none : (b : Break) → Contains (program_breaks t look order) b → ⊥) where
  abbrev pub scene : Scene
  scene = scene_of (names_of t look) (scopes_of t) (units_of t)

  unit_none : (u : Numbered) → IsAmong (units_of t) u → (k : Known) × (unit_rows scene k u ≡ [])
  unit_none u among =
      let o = unit_ordered t order ordered u among in
      let parts : along (unit_rows scene) (unit_next scene) nothing_known (units_in (units_of t) order) ≡ [] =
      first _ _ (nil_of (program_breaks t look order) none) in
      along_none (unit_rows scene) (unit_next scene) nothing_known (units_in (units_of t) order) parts o.0 u o.1

  member_none : (u : Numbered) (m : Member) → IsHome (units_of t) (of_member u m) → (k : Known) × (member_rows scene u.scope k m ≡ [])
  member_none u m home =
      let r = unit_none u home.0 in
      let rows : along (member_rows scene u.scope) (member_next scene u.scope) (behind_part scene u r.0) u.members ≡ [] =
      second (along (specification_rows (unit_spot scene u) u.members) (specification_next (unit_spot scene u)) (within_unit u r.0) ((u.tree).part).specifications) _ r.1 in
      along_none (member_rows scene u.scope) (member_next scene u.scope) (behind_part scene u r.0) u.members rows home.1.0 m home.1.1

  pub home_free : (h : Home) → IsHome (units_of t) h → IsFree (names_of t look) h
  home_free (of_unit u) home = record {
    part = λ i x at.
        let r = unit_none u home in
        let s : Spot = unit_spot scene u in
        let rows : along (specification_rows s u.members) (specification_next s) (within_unit u r.0) ((u.tree).part).specifications ≡ [] = first _ _ r.1 in
        let one = along_none (specification_rows s u.members) (specification_next s) (within_unit u r.0) ((u.tree).part).specifications rows i x at in
        specification_told s u.members one.0 x one.1;
  }
  home_free (of_member u m) home = record {
    part = λ i x at.
        let r = member_none u m home in
        let s : Spot = spot_of scene u.scope m in
        let rows : along (specification_rows s []) (specification_next s) (within_member m r.0) ((m.tree).part).specifications ≡ [] =
        first _ _ (second (header_rows s r.0 ((m.tree).header).name ((m.tree).header).kind) _ r.1) in
        let one = along_none (specification_rows s []) (specification_next s) (within_member m r.0) ((m.tree).part).specifications rows i x at in
        specification_told s [] one.0 x one.1;
  }

  pub header_free : (u : Numbered) (m : Member) → IsHome (units_of t) (of_member u m) → IsHeaderFree (names_of t look) m
  header_free u m home x is =
      let r = member_none u m home in
      let s : Spot = spot_of scene u.scope m in
      header_known s r.0 ((m.tree).header).name ((m.tree).header).kind x (first (header_rows s r.0 ((m.tree).header).name ((m.tree).header).kind) _ r.1) is
