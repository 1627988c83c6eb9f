-- What the rules on types know of a program, and what its elaborated program says, are of the same kinds, wherever a body begins; and each
-- type that is declared has a number.
use Rattle.std.specs.Prelude.{◌≡◌, ℕ, ◌<◌, nat_eq, false, List, [], map, length, Some, slice_get}
use Rattle.std.specs.List.{flat_map, list_any}
use Rattle.f3_lookups.specs.declared.lookup.Lookup.{Lookup}
use Rattle.f3_scopes.specs.declared.outline.EntityKind.TheVariants.{DerivedType}
use Rattle.f3_tree.specs.declared.expression.Name.{Name}
use Rattle.f3_tree.specs.Declarations.{DeclarationTree}
use Rattle.f3_tree.specs.Tree.{Tree}
use Rattle.f3_program.specs.declared.program.Procedure.{Procedure}
use Rattle.f3_program.specs.declared.program.Program.{Program}
use Rattle.f3_kinds.specs.declared.types.DataType.TheVariants.{Derived}
use Rattle.f3_meaning_whole.specs.Exec.{declared_in}
use Rattle.f3_meaning_whole.specs.Formed.{kinds_of}
use Rattle.f3_meaning_whole.specs.Permitted.{Each}
use Rattle.f3_type_rules.specs.Members.{Member, Numbered}
use Rattle.f3_type_rules.specs.Names.{type_of}
use Rattle.f3_type_rules.specs.Program.{units_in}
use Rattle.f3_elaboration.specs.Declarations.{Whole}
use Rattle.f3_elaboration.specs.DeclaredViews.{procedure_view}
use Rattle.f3_elaboration.specs.Numbers.{number_in, Definition, definitions, result_name}
use Rattle.f3_elaboration.specs.Units.{procedure, main, in_member, in_main}
use Rattle.f3_lawful_laws.specs.Entities.{units_of, whole_of}
use Rattle.f3_formed_laws.specs.Agreement.{AgreesInKinds}

-- the result of a function is no dummy
abbrev pub HasOwnResult : Member → Type 0
HasOwnResult m = Each (λ (n : Name). list_any (nat_eq n.symbol) (map (λ (d : Name). d.symbol) ((m.tree).header).dummies) ≡ false) (result_name m)

module _ (p : Program) (w : Whole) where
  -- where the body of a procedure of the unit of this number begins
  pub record MemberAgrees (unit : ℕ) (m : Member) : Type 0 where
    pub kinds : (q : Procedure) → procedure_view q ≡ procedure w unit m → AgreesInKinds p (declared_in q) (kinds_of q.dummies.items) (in_member w unit m)
    pub result : HasOwnResult m

  -- so in a unit, and in its procedures
  pub record UnitAgrees (u : Numbered) : Type 0 where
    pub kinds : (q : Procedure) → procedure_view q ≡ main w u → AgreesInKinds p (declared_in q) [] (in_main w u)
    pub members : Each (MemberAgrees u.scope) u.members

module _ (w : Whole) where
  -- a declared type has a number below this one
  abbrev pub IsBelow : (count scope : ℕ) → DeclarationTree → Type 0
  IsBelow count scope x = (e : ℕ) → type_of (w.scene).names scope x.specifier ≡ Some (Derived e) → number_in (w.numbers).types e < count

  -- a type stands behind those of its components (4.5.3)
  abbrev pub StandsBehind : ℕ → Definition → Type 0
  StandsBehind k d = Each (IsBelow k (d.unit).scope) (d.tree).components

-- So of a whole program: each unit is among those that are checked, and types are numbered along them.
pub record KindsAgree (p : Program) (t : Tree) (look : ℕ → ℕ → Lookup) (order : List ℕ) : Type 0 where
  pub units : Each (UnitAgrees p (whole_of t look order)) (units_of t)
  pub all_ordered : Each (λ (u : Numbered). (k : ℕ) × (slice_get (units_in (units_of t) order) k ≡ Some u)) (units_of t)
  pub types : (e : ℕ) → slice_get (((whole_of t look order).scene).names).kinds e ≡ Some DerivedType
      → number_in ((whole_of t look order).numbers).types e < length (flat_map definitions (units_in (units_of t) order))
  pub components : (k : ℕ) (d : Definition) → slice_get (flat_map definitions (units_in (units_of t) order)) k ≡ Some d
      → StandsBehind (whole_of t look order) k d
