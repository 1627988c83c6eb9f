-- Values of named constants that are known at a declaration, and stay so (ISO/IEC 1539-1:2004, 5.1, 7.1.7).
use Rattle.std.specs.Prelude.{◌≡◌, ⊤, ℕ, true, nat_eq, [], Some}
use Rattle.std.specs.List.{flat_map}
use Rattle.std.specs.Map.{lookup}
use Rattle.f3_tree.specs.Declarations.{EntityTree, DeclarationTree, SpecificationTree, declares, defines}
use Rattle.f3_kinds.specs.declared.types.Scalar.{Scalar}
use Rattle.f3_meaning_whole.specs.Permitted.{Each}
use Rattle.f3_type_rules.specs.Declarations.{entity_rows, spot_of, unit_spot}
use Rattle.f3_type_rules.specs.Members.{Member, Numbered}
use Rattle.f3_type_rules.specs.Names.{attributes_of}
use Rattle.f3_type_rules.specs.Scene.{Scene}
use Rattle.f3_type_rules.specs.Shapes.{dimension_rows}
use Rattle.f3_type_rules.specs.Walks.{context, Known, Spot}

-- each value that is known stays so
abbrev pub Keeps : Known → Known → Type 0
Keeps k j = (e : ℕ) (v : Scalar) → lookup (nat_eq e) k.values ≡ Some v → lookup (nat_eq e) j.values ≡ Some v

-- what is known where a name is declared: at the start of its declaration and at the name itself, which breaks no rule there
pub record Kept (s : Spot) (d : DeclarationTree) (end : Known) (x : EntityTree) : Type 0 where
  pub start : Known
  pub here : Known
  pub dimensions : flat_map (dimension_rows (context s start)) (attributes_of d) ≡ []
  pub rows : entity_rows s d here x ≡ []
  pub started : Keeps start here
  pub ended : Keeps here end

abbrev pub KeptAll : Spot → Known → DeclarationTree → Type 0
KeptAll s end d = Each (Kept s d end) d.entities

-- so in a specification, with the components of a type that it defines
abbrev pub KeptIn : Spot → Known → SpecificationTree → Type 0
KeptIn s end (declares d) = KeptAll s end d
KeptIn s end (defines t) = Each (KeptAll (record s { is_type = true; listed = [] }) end) t.components
KeptIn s end _ = ⊤

-- in a procedure, and in a unit with its procedures
abbrev pub MemberKept : Scene → Known → (unit : ℕ) → Member → Type 0
MemberKept scene end unit m = Each (KeptIn (spot_of scene unit m) end) ((m.tree).part).specifications

abbrev pub UnitKept : Scene → Known → Numbered → Type 0
UnitKept scene end u =
    Each (KeptIn (unit_spot scene u) end) ((u.tree).part).specifications × Each (MemberKept scene end u.scope) u.members
