-- In a program that breaks no rule no declared name has attributes that do not stand together.
use Rattle.std.proofs.Common.{◌≡◌, ℕ, true, false, List, [], ◌∷◌}
use Rattle.std.specs.Prelude.{⊤}
use Rattle.std.specs.List.{flat_map}
use Rattle.f3_tree.specs.Declarations.{EntityTree, DeclarationTree, SpecificationTree, declares, accesses, protects, saves, defines}
use Rattle.f3_meaning_whole.specs.Permitted.{Each}
use Rattle.f3_type_rules.specs.Attributes.{conflicts}
use Rattle.f3_type_rules.specs.Declarations.{specifier_rows, entity_rows, entity_next, component_rows, specification_rows, specification_next}
use Rattle.f3_type_rules.specs.Declarations.{header_rows, spot_of, within_member, member_rows, member_next, unit_spot, within_unit, behind_part, unit_rows, unit_next}
use Rattle.f3_type_rules.specs.Members.{Member, Numbered}
use Rattle.f3_type_rules.specs.Names.{attributes_of}
use Rattle.f3_type_rules.specs.Scene.{Scene}
use Rattle.f3_type_rules.specs.Shapes.{shape_rows, dimension_rows}
use Rattle.f3_type_rules.specs.Walks.{along, Known, Spot, context}
use Rattle.f3_lawful_laws.proofs.Facts.{first, second, holds, negated_back}

abbrev pub in_type : Spot → Spot
in_type s = record s { is_type = true; listed = [] }

abbrev pub AreRight : Spot → DeclarationTree → Type 0
AreRight s d = Each (λ (x : EntityTree). conflicts s (d, x) ≡ false) d.entities

abbrev pub IsRight : Spot → SpecificationTree → Type 0
IsRight s (declares d) = AreRight s d
IsRight s (defines t) = Each (AreRight (in_type s)) t.components
IsRight s _ = ⊤

entity_right : (s : Spot) (d : DeclarationTree) (k : Known) (x : EntityTree) → entity_rows s d k x ≡ [] → conflicts s (d, x) ≡ false
entity_right s d k x e = negated_back _ (holds _ _ (first _ _ (second (shape_rows (context s k) x.shape) _ e)))

entities_right : (s : Spot) (d : DeclarationTree) (k : Known) (xs : List EntityTree) → along (entity_rows s d) (entity_next s d) k xs ≡ []
    → Each (λ (x : EntityTree). conflicts s (d, x) ≡ false) xs
entities_right s d k [] e = tt
entities_right s d k (x ∷ xs) e = (entity_right s d k x (first _ _ e), entities_right s d (entity_next s d k x) xs (second (entity_rows s d k x) _ e))

parts_right : (s : Spot) (d : DeclarationTree) (k : Known) (xs : List EntityTree) → flat_map (entity_rows s d k) xs ≡ []
    → Each (λ (x : EntityTree). conflicts s (d, x) ≡ false) xs
parts_right s d k [] e = tt
parts_right s d k (x ∷ xs) e = (entity_right s d k x (first _ _ e), parts_right s d k xs (second (entity_rows s d k x) _ e))

components_right : (s : Spot) (k : Known) (ds : List DeclarationTree) → flat_map (component_rows s k) ds ≡ [] → Each (AreRight s) ds
components_right s k [] e = tt
components_right s k (d ∷ ds) e = (
  parts_right s d k d.entities
      (second (flat_map (dimension_rows (context s k)) (attributes_of d)) _ (second (specifier_rows s k d.specifier) _ (first _ _ e))),
  components_right s k ds (second (component_rows s k d) _ e),
)

one_right : (s : Spot) (ms : List Member) (k : Known) (x : SpecificationTree) → specification_rows s ms k x ≡ [] → IsRight s x
one_right s ms k (declares d) e =
    entities_right s d k d.entities (second (flat_map (dimension_rows (context s k)) (attributes_of d)) _ (second (specifier_rows s k d.specifier) _ e))
one_right s ms k (defines t) e = components_right (in_type s) k t.components (first _ _ e)
one_right s ms k (accesses a) e = tt
one_right s ms k (protects q ns) e = tt
one_right s ms k (saves q) e = tt

pub all_right : (s : Spot) (ms : List Member) (k : Known) (xs : List SpecificationTree) → along (specification_rows s ms) (specification_next s) k xs ≡ []
    → Each (IsRight s) xs
all_right s ms k [] e = tt
all_right s ms k (x ∷ xs) e = (one_right s ms k x (first _ _ e), all_right s ms (specification_next s k x) xs (second (specification_rows s ms k x) _ e))

module _ (scene : Scene) where
  abbrev pub IsMemberRight : ℕ → Member → Type 0
  IsMemberRight unit m = Each (IsRight (spot_of scene unit m)) ((m.tree).part).specifications

  abbrev pub IsUnitRight : Numbered → Type 0
  IsUnitRight u = Each (IsRight (unit_spot scene u)) ((u.tree).part).specifications × Each (IsMemberRight u.scope) u.members

  members_right : (unit : ℕ) (k : Known) (ms : List Member) → along (member_rows scene unit) (member_next scene unit) k ms ≡ [] → Each (IsMemberRight unit) ms
  members_right unit k [] e = tt
  members_right unit k (m ∷ ms) e = (
    all_right (spot_of scene unit m) [] (within_member m k) ((m.tree).part).specifications
        (first _ _ (second (header_rows (spot_of scene unit m) k ((m.tree).header).name ((m.tree).header).kind) _ (first _ _ e))),
    members_right unit (member_next scene unit k m) ms (second (member_rows scene unit k m) _ e),
  )

  pub units_right : (k : Known) (us : List Numbered) → along (unit_rows scene) (unit_next scene) k us ≡ [] → Each IsUnitRight us
  units_right k [] e = tt
  units_right k (u ∷ us) e = (
    (
      all_right (unit_spot scene u) u.members (within_unit u k) ((u.tree).part).specifications (first _ _ (first _ _ e)),
      members_right u.scope (behind_part scene u k) u.members
          (second (along (specification_rows (unit_spot scene u) u.members) (specification_next (unit_spot scene u)) (within_unit u k) ((u.tree).part).specifications) _ (first _ _ e)),
    ),
    units_right (unit_next scene k u) us (second (unit_rows scene k u) _ e),
  )
