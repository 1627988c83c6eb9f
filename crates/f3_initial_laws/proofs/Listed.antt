-- Variables, components and results as they are listed for the elaborated program are initialized with constants of their types.
use Rattle.std.proofs.Common.{◌≡◌, ℕ, ◌+◌, Bool, true, false, cond, ◌&&◌, not, nat_eq, List, [], ◌∷◌, ◌++◌, length, map, filter, Option, None, Some, refl}
use Rattle.std.specs.Prelude.{⊤}
use Rattle.std.specs.List.{flat_map}
use Rattle.std.specs.Map.{lookup}
use mathlib.Core.Path.{subst}
use Rattle.f3_lookups.specs.declared.lookup.Lookup.{Lookup}
use Rattle.f3_access.specs.Access.{first_entity}
use Rattle.f3_scopes.specs.Outlines.{Scope}
use Rattle.f3_scopes.specs.Scopes.{declared_in, name_or, scopes_of, unit_scopes}
use Rattle.f3_tree.specs.declared.program.ProcedureKind.{ProcedureKind}
use Rattle.f3_tree.specs.declared.program.ProcedureKind.TheVariants.{Subroutine, Function}
use Rattle.f3_tree.specs.Declarations.{Placed, EntityTree, DeclarationTree, SpecificationTree, declares, accesses, protects, saves, defines}
use Rattle.f3_tree.specs.Tree.{ProcedureTree, UnitTree, Tree}
use Rattle.f3_program.specs.declared.program.Program.{Program}
use Rattle.f3_kinds.specs.Things.{map_or}
use Rattle.f3_meaning_whole.specs.Permitted.{Each}
use Rattle.f3_type_rules.specs.Associates.{constructs_of_block}
use Rattle.f3_type_rules.specs.Declarations.{spot_of}
use Rattle.f3_type_rules.specs.Members.{Member, Numbered, members_from, units_from}
use Rattle.f3_type_rules.specs.Names.{Declared, entries, is_given, undeclared}
use Rattle.f3_type_rules.specs.Walks.{Known}
use Rattle.f3_elaboration.specs.Nodes.{DeclaredNode, ComponentNode}
use Rattle.f3_elaboration.specs.Declarations.{Whole, declared, variable, component, components}
use Rattle.f3_elaboration.specs.DeclaredViews.{program_view}
use Rattle.f3_elaboration.specs.Numbers.{Variable, Definition, along_part, names_in, types_in, declared_from, unit_names, member_names, definitions, is_variable, is_saved}
use Rattle.f3_elaboration.specs.Numbers.{is_static_in, unit_statics, main_locals, member_locals, is_in_header}
use Rattle.f3_elaboration.specs.Program.{elaborated}
use Rattle.f3_elaboration.specs.Units.{declaration_of, plain, result_of}
use Rattle.f3_lawful_laws.specs.Entities.{units_of, whole_of}
use Rattle.f3_lawful_laws.proofs.Facts.{nothing, same}
use Rattle.f3_lawful_laws.proofs.Opening.{each_at}
use Rattle.f3_formed_laws.proofs.Facts.{each_joined, each_mapped, each_taken, each_flat}
use Rattle.f3_entity_laws.specs.Things.{Home, of_unit, of_member, unit_in, number_of, IsAmong, IsHome}
use Rattle.f3_agreement_laws.specs.Unbroken.{IsUnbroken}
use Rattle.f3_agreement_laws.proofs.Declared.{each_get}
use Rattle.f3_initial_laws.specs.Written.{IsAttributeWritten, IsEntityWritten, IsDeclarationWritten, IsSpecificationWritten, IsUnitWritten, AreDeclarationsWritten}
use Rattle.f3_constant_laws.specs.Kept.{Kept, KeptAll, KeptIn, MemberKept, UnitKept}
use Rattle.f3_initial_laws.proofs.Initials.{node_fits, spot, declared_fits}
use Rattle.f3_constant_laws.proofs.Units.{final, units_kept}

-- ---- what is written, by the numbers of units

abbrev IsMemberWritten : Member → Type 0
IsMemberWritten m = Each IsSpecificationWritten ((m.tree).part).specifications

abbrev IsNumberedWritten : Numbered → Type 0
IsNumberedWritten u = Each IsSpecificationWritten ((u.tree).part).specifications × Each IsMemberWritten u.members

members_written : (scopes : List Scope) (e n : ℕ) (ps : List ProcedureTree) → Each (λ (q : ProcedureTree). Each IsSpecificationWritten (q.part).specifications) ps
    → Each IsMemberWritten (members_from scopes e n ps)
members_written scopes e n [] h = tt
members_written scopes e n (p ∷ ps) h = (h.0, members_written scopes (e + 1) (n + 1 + length (constructs_of_block p.body)) ps h.1)

units_written : (scopes : List Scope) (n : ℕ) (us : List UnitTree) → Each IsUnitWritten us → Each IsNumberedWritten (units_from scopes n us)
units_written scopes n [] h = tt
units_written scopes n (u ∷ us) h = (
  (
    (h.0).0,
    members_written scopes (first_entity scopes n + length (flat_map declared_in (u.part).specifications)) (n + 1 + length (constructs_of_block u.body)) u.procedures
        (h.0).1,
  ),
  units_written scopes (n + length (unit_scopes n u)) us h.1,
)

module _ (t : Tree) (look : ℕ → ℕ → Lookup) (order : List ℕ) where
  abbrev w : Whole
  w = whole_of t look order

  -- ---- specifications

  abbrev IsFit : (unit scope : ℕ) → DeclarationTree → EntityTree → Type 0
  IsFit unit scope d x = node_fits (declared w unit scope (d, x)) ≡ true

  abbrev AllFit : (unit scope : ℕ) → DeclarationTree → Type 0
  AllFit unit scope d = Each (IsFit unit scope d) d.entities

  abbrev SpecificationFits : (unit scope : ℕ) → SpecificationTree → Type 0
  SpecificationFits unit scope (declares d) = AllFit unit scope d
  SpecificationFits unit scope (defines y) = Each (AllFit unit scope) y.components
  SpecificationFits unit scope _ = ⊤

  abbrev pub MemberFits : (unit : ℕ) → Member → Type 0
  MemberFits unit m = Each (SpecificationFits unit m.scope) ((m.tree).part).specifications

  abbrev pub UnitFits : Numbered → Type 0
  UnitFits u = Each (SpecificationFits u.scope u.scope) ((u.tree).part).specifications × Each (MemberFits u.scope) u.members

  module _ (p : Program) (free : IsUnbroken t look order) (seen : program_view p ≡ elaborated t look order) where
    abbrev end : Known
    end = final t look order free

    module _ (h : Home) (home : IsHome (units_of t) h) where
      entities_fit : (typed pure : Bool) (dummies results listed : List ℕ) (d : DeclarationTree) (xs : List EntityTree)
          → Each (Kept (spot t look order p free seen h home typed pure dummies results listed) d end) xs
          → Each (λ (a : Placed). IsAttributeWritten a.attribute) d.attributes → Each IsEntityWritten xs → Each (IsFit (unit_in h).scope (number_of h) d) xs
      entities_fit typed pure dummies results listed d [] kept attributes written = tt
      entities_fit typed pure dummies results listed d (x ∷ xs) kept attributes written = (
        declared_fits t look order p free seen h home typed pure dummies results listed d x kept.0 attributes written.0,
        entities_fit typed pure dummies results listed d xs kept.1 attributes written.1,
      )

      components_fit : (pure : Bool) (dummies results : List ℕ) (ds : List DeclarationTree)
          → Each (KeptAll (spot t look order p free seen h home true pure dummies results []) end) ds → Each IsDeclarationWritten ds
          → Each (AllFit (unit_in h).scope (number_of h)) ds
      components_fit pure dummies results [] kept written = tt
      components_fit pure dummies results (d ∷ ds) kept written = (
        entities_fit true pure dummies results [] d d.entities kept.0 written.0.0 written.0.1,
        components_fit pure dummies results ds kept.1 written.1,
      )

      one_fits : (pure : Bool) (dummies results listed : List ℕ) (x : SpecificationTree)
          → KeptIn (spot t look order p free seen h home false pure dummies results listed) end x → IsSpecificationWritten x
          → SpecificationFits (unit_in h).scope (number_of h) x
      one_fits pure dummies results listed (declares d) kept written = entities_fit false pure dummies results listed d d.entities kept written.0 written.1
      one_fits pure dummies results listed (defines y) kept written = components_fit pure dummies results y.components kept written
      one_fits pure dummies results listed (accesses a) kept written = tt
      one_fits pure dummies results listed (protects q ns) kept written = tt
      one_fits pure dummies results listed (saves q) kept written = tt

      part_fits : (pure : Bool) (dummies results listed : List ℕ) (xs : List SpecificationTree)
          → Each (KeptIn (spot t look order p free seen h home false pure dummies results listed) end) xs → Each IsSpecificationWritten xs
          → Each (SpecificationFits (unit_in h).scope (number_of h)) xs
      part_fits pure dummies results listed [] kept written = tt
      part_fits pure dummies results listed (x ∷ xs) kept written =
          (one_fits pure dummies results listed x kept.0 written.0, part_fits pure dummies results listed xs kept.1 written.1)

    unit_fits : (u : Numbered) → IsAmong (units_of t) u → UnitKept w.scene end u → IsNumberedWritten u → UnitFits u
    unit_fits u among kept written = (
      part_fits (of_unit u) among false [] [] _ ((u.tree).part).specifications kept.0 written.0,
      each_at (MemberFits u.scope) u.members (λ i m at.
          part_fits (of_member u m) (among, (i, at)) (spot_of w.scene u.scope m).is_pure (spot_of w.scene u.scope m).dummies (spot_of w.scene u.scope m).results []
          ((m.tree).part).specifications (each_get (MemberKept w.scene end u.scope) u.members i m kept.1 at) (each_get IsMemberWritten u.members i m written.1 at)),
    )

    pub units_fit : AreDeclarationsWritten t → Each UnitFits (units_of t)
    units_fit written =
        each_at UnitFits (units_of t) (λ i u at.
        unit_fits u (i, at) (each_get (UnitKept w.scene end) (units_of t) i u (units_kept t look order free) at)
        (each_get IsNumberedWritten (units_of t) i u (units_written (scopes_of t) 0 t.units written) at))

  -- ---- declared names with their entities

  abbrev pub VariableFits : Variable → Type 0
  VariableFits v = node_fits (variable w v) ≡ true

  from_fits : (u sc e : ℕ) (d : DeclarationTree) (xs : List EntityTree) → Each (IsFit u sc d) xs → Each VariableFits (declared_from u sc e d xs)
  from_fits u sc e d [] h = tt
  from_fits u sc e d (x ∷ xs) h = (h.0, from_fits u sc (e + 1) d xs h.1)

  names_fit : (u sc e : ℕ) (ss : List SpecificationTree) → Each (SpecificationFits u sc) ss → Each VariableFits (along_part (names_in u sc) e ss)
  names_fit u sc e [] h = tt
  names_fit u sc e (x ∷ ss) h =
      each_joined VariableFits (names_in u sc e x) (along_part (names_in u sc) (e + length (declared_in x)) ss) (one x h.0)
      (names_fit u sc (e + length (declared_in x)) ss h.1)
    where
      one : (x : SpecificationTree) → SpecificationFits u sc x → Each VariableFits (names_in u sc e x)
      one (declares d) h = from_fits u sc e d d.entities h
      one (defines d) h = tt
      one (accesses a) h = tt
      one (protects q ns) h = tt
      one (saves q) h = tt

  taken : (f : Variable → Bool) (vs : List Variable) → Each VariableFits vs → Each VariableFits (filter f vs)
  taken f vs h = each_taken VariableFits VariableFits f (λ v l e. l) vs h

  member_fit : (unit : ℕ) (m : Member) → MemberFits unit m → Each VariableFits (member_names unit m)
  member_fit unit m h = names_fit unit m.scope _ ((m.tree).part).specifications h

  statics_in : (u : Numbered) → UnitFits u → Each VariableFits (unit_statics u)
  statics_in u h =
      each_joined VariableFits (filter (is_static_in (u.tree).kind) (unit_names u)) _
      (taken (is_static_in (u.tree).kind) (unit_names u) (names_fit u.scope u.scope u.first ((u.tree).part).specifications h.0))
      (each_flat (MemberFits u.scope) VariableFits (λ (m : Member). filter (λ v. is_variable v && is_saved v) (member_names u.scope m))
      (λ m k. taken (λ v. is_variable v && is_saved v) (member_names u.scope m) (member_fit u.scope m k)) u.members h.1)

  pub statics_fit : (us : List Numbered) → Each UnitFits us → Each VariableFits (flat_map unit_statics us)
  statics_fit us h = each_flat UnitFits VariableFits unit_statics statics_in us h

  pub main_fit : (u : Numbered) → UnitFits u → Each VariableFits (main_locals u)
  main_fit u h = taken (λ v. is_variable v && not (is_saved v)) (unit_names u) (names_fit u.scope u.scope u.first ((u.tree).part).specifications h.0)

  pub locals_fit : (unit : ℕ) (m : Member) → MemberFits unit m → Each VariableFits (member_locals unit m)
  locals_fit unit m h = taken (λ v. is_variable v && (not (is_saved v) && not (is_in_header m v))) (member_names unit m) (member_fit unit m h)

  -- ---- results

  entry_in : (unit scope symbol : ℕ) (d : DeclarationTree) (xs : List EntityTree) (x : Declared) → Each (IsFit unit scope d) xs → (others : List (ℕ × Declared))
      → (lookup (nat_eq symbol) others ≡ Some x → node_fits (declared w unit scope x) ≡ true)
      → lookup (nat_eq symbol) (map (λ (x : EntityTree). ((x.name).symbol, (d, x))) xs ++ others) ≡ Some x → node_fits (declared w unit scope x) ≡ true
  entry_in unit scope symbol d [] x h others go e = go e
  entry_in unit scope symbol d (y ∷ ys) x h others go e = here (nat_eq symbol (y.name).symbol) e (entry_in unit scope symbol d ys x h.1 others go)
    where
      here : (b : Bool) → cond b (Some (d, y)) (lookup (nat_eq symbol) (map (λ (x : EntityTree). ((x.name).symbol, (d, x))) ys ++ others)) ≡ Some x
          → (lookup (nat_eq symbol) (map (λ (x : EntityTree). ((x.name).symbol, (d, x))) ys ++ others) ≡ Some x → node_fits (declared w unit scope x) ≡ true)
          → node_fits (declared w unit scope x) ≡ true
      here true e more = subst (λ (z : Declared). node_fits (declared w unit scope z) ≡ true) (same e) h.0
      here false e more = more e

  entry_fits : (unit scope symbol : ℕ) (ss : List SpecificationTree) (x : Declared) → Each (SpecificationFits unit scope) ss → lookup (nat_eq symbol) (entries ss) ≡ Some x
      → node_fits (declared w unit scope x) ≡ true
  entry_fits unit scope symbol [] x h e = nothing e
  entry_fits unit scope symbol (declares d ∷ ss) x h e = entry_in unit scope symbol d d.entities x h.0 (entries ss) (entry_fits unit scope symbol ss x h.1) e
  entry_fits unit scope symbol (defines d ∷ ss) x h e = entry_fits unit scope symbol ss x h.1 e
  entry_fits unit scope symbol (accesses a ∷ ss) x h e = entry_fits unit scope symbol ss x h.1 e
  entry_fits unit scope symbol (protects q ns ∷ ss) x h e = entry_fits unit scope symbol ss x h.1 e
  entry_fits unit scope symbol (saves q ∷ ss) x h e = entry_fits unit scope symbol ss x h.1 e

  abbrev pub ResultFits : Option DeclaredNode → Type 0
  ResultFits None = ⊤
  ResultFits (Some d) = node_fits d ≡ true

  pub result_fits : (unit : ℕ) (m : Member) → MemberFits unit m → (k : ProcedureKind) → ResultFits (result_of w unit m k)
  result_fits unit m h Subroutine = tt
  result_fits unit m h (Function (Some s) outcome) = refl
  result_fits unit m h (Function None outcome) = go (declaration_of m (name_or outcome ((m.tree).header).name)) refl
    where
      go : (o : Option Declared) → declaration_of m (name_or outcome ((m.tree).header).name) ≡ o
          → node_fits (map_or (plain w undeclared) (declared w unit m.scope) o) ≡ true
      go None e = refl
      go (Some x) e = entry_fits unit m.scope _ ((m.tree).part).specifications x h e

  -- ---- components

  abbrev ComponentFits : ComponentNode → Type 0
  ComponentFits c = node_fits c.declared ≡ true

  abbrev pub DefinitionFits : Definition → Type 0
  DefinitionFits d = Each ComponentFits (components w d)

  definition_fits : (d : Definition) → SpecificationFits (d.unit).scope (d.unit).scope (defines d.tree) → DefinitionFits d
  definition_fits d h =
      each_flat (AllFit (d.unit).scope (d.unit).scope) ComponentFits
      (λ (x : DeclarationTree). map (component w (d.unit).scope (is_given (d.tree).private) x) x.entities)
      (λ x k. each_mapped (IsFit (d.unit).scope (d.unit).scope x) ComponentFits (component w (d.unit).scope (is_given (d.tree).private) x) (λ y i. i) x.entities k)
      (d.tree).components h

  definitions_in : (u : Numbered) → UnitFits u → Each DefinitionFits (definitions u)
  definitions_in u h = go u.first ((u.tree).part).specifications h.0
    where
      one : (e : ℕ) (x : SpecificationTree) → SpecificationFits u.scope u.scope x → Each DefinitionFits (types_in u e x)
      one e (defines y) h = (definition_fits (record { entity = e; unit = u; tree = y }) h, tt)
      one e (declares d) h = tt
      one e (accesses a) h = tt
      one e (protects q ns) h = tt
      one e (saves q) h = tt

      go : (e : ℕ) (ss : List SpecificationTree) → Each (SpecificationFits u.scope u.scope) ss → Each DefinitionFits (along_part (types_in u) e ss)
      go e [] h = tt
      go e (x ∷ ss) h =
          each_joined DefinitionFits (types_in u e x) (along_part (types_in u) (e + length (declared_in x)) ss) (one e x h.0) (go (e + length (declared_in x)) ss h.1)

  pub definitions_fit : (us : List Numbered) → Each UnitFits us → Each DefinitionFits (flat_map definitions us)
  definitions_fit us h = each_flat UnitFits DefinitionFits definitions definitions_in us h
