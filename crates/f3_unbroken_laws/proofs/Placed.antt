-- The body of a procedure, in which associate names are as they are where its own variables alone may be defined.
use Rattle.std.proofs.Common.{◌≡◌, refl, sym, ap, subst, ◌∙◌, ℕ, ◌+◌, true, List, [], ◌∷◌, ◌++◌, length, Option, Some, option_map, slice_get, arith}
use Rattle.std.specs.List.{flat_map}
use Rattle.std.proofs.lemmas.List.{length-append}
use Rattle.f3_lookups.specs.declared.lookup.Lookup.{Lookup}
use Rattle.f3_rules.specs.declared.breaks.Break.{Break}
use Rattle.f3_access.specs.Access.{first_entity, IsDeclared, IsVisible}
use Rattle.f3_access.specs.Lookups.{Resolves}
use Rattle.f3_name_rules.specs.NameBreaks.{NameBreaks}
use Rattle.f3_scopes.specs.Outlines.{Scope}
use Rattle.f3_scopes.specs.Scopes.{association_own, constructs_in, constructs_in_alternative, constructs_in_block, constructs_in_branches, constructs_in_cases, construct_name}
use Rattle.f3_scopes.specs.Scopes.{declared_in, own_scopes, procedure_scopes, procedures_from, scope_of_construct, scope_of_procedure, scopes_from, scopes_of, unit_scopes}
use Rattle.f3_tree.specs.declared.expression.Name.{Name}
use Rattle.f3_tree.specs.Statements as tree
use Rattle.f3_tree.specs.Tree.{ProcedureTree, UnitTree, Tree}
use Rattle.f3_meaning_whole.specs.Permitted.{Each}
use Rattle.f3_type_rules.specs.declared.definition.Holder.{Holder}
use Rattle.f3_type_rules.specs.Associates.{constructs_of, constructs_of_block, constructs_of_branches}
use Rattle.f3_type_rules.specs.Definitions.{Site}
use Rattle.f3_type_rules.specs.Members.{Member, Numbered, members_from, numbered, units_from}
use Rattle.f3_type_rules.specs.Scene.{holder, holders_from}
use Rattle.f3_elaboration.specs.Numbers.{entity_of}
use Rattle.f3_lawful_laws.specs.Blocks.{entity_in, IsFree, Opens, IsPlaced, IsBlockPlaced, AreBranchesPlaced, IsOtherPlaced, AreCasesPlaced, IsSpelled}
use Rattle.f3_lawful_laws.specs.Blocks.{IsBlockSpelled, AreBranchesSpelled, IsOtherSpelled, AreCasesSpelled, IsUnitSpelled, AreBodiesSpelled}
use Rattle.f3_lawful_laws.specs.Entities.{units_of}
use Rattle.f3_lawful_laws.proofs.Facts.{when_true}
use Rattle.f3_lawful_laws.proofs.Opening.{each_at, holder_at, mapped_at, opens}
use Rattle.f3_lawful_laws.proofs.Placing.{block_long, Lies, lies_left, lies_right, lies_next, lies_first}
use Rattle.f3_lawful_laws.proofs.Trees.{all_lie}
use Rattle.f3_entity_laws.specs.Things.{of_member, IsHome}
use Rattle.f3_agreement_laws.proofs.Declared.{each_get}
use Rattle.f3_variable_laws.proofs.Alone.{alone}
use Rattle.f3_purity_laws.specs.Guarded.{guard}
use Rattle.f3_unbroken_laws.proofs.Barred.{guard_outside, held_outside, is_construct}

-- ---- as many scopes as constructs

statement_long : (host : ℕ) (around : Name) (n : ℕ) (s : tree.StatementTree) → length (constructs_in host around n s) ≡ length (constructs_of s)
statement_long host around n s =
    let a : length (constructs_in host around n s ++ []) ≡ length (constructs_of s ++ []) = block_long host around n (tree.statements s tree.no_statements) in
    omega (arith, a, length-append (constructs_in host around n s) [], length-append (constructs_of s) [])

branches_long : (host : ℕ) (around : Name) (n : ℕ) (bs : tree.Branches) → length (constructs_in_branches host around n bs) ≡ length (constructs_of_branches bs)
branches_long host around n bs =
    let a : length (constructs_in_branches host around n bs ++ []) ≡ length (constructs_of_branches bs ++ []) = statement_long host around n (tree.branches bs tree.no_alternative) in
    omega (arith, a, length-append (constructs_in_branches host around n bs) [], length-append (constructs_of_branches bs) [])

-- ---- where the body of a procedure lies

module _ (scopes : List Scope) where
  -- a body that a source may spell, with its constructs among the scopes
  abbrev pub IsLaid : Member → Type 0
  IsLaid m = IsBlockSpelled (m.tree).body × Lies scopes (m.scope + 1) (constructs_in_block m.scope ((m.tree).header).name (m.scope + 1) (m.tree).body)

  members_laid : (host e n : ℕ) (ps : List ProcedureTree) → Each (λ (p : ProcedureTree). IsBlockSpelled p.body) ps → Lies scopes n (procedures_from host n ps)
      → Each IsLaid (members_from scopes e n ps)
  members_laid host e n [] w lies = tt
  members_laid host e n (p ∷ ps) w lies =
      let own : List Scope = constructs_in_block n (p.header).name (n + 1) p.body in
      let mine : Lies scopes n (procedure_scopes host n p) = lies_left scopes n (procedure_scopes host n p) _ lies in
      let count = block_long n (p.header).name (n + 1) p.body in
      let step : n + length (procedure_scopes host n p) ≡ n + 1 + length (constructs_of_block p.body) = omega (arith, count) in (
        (w.0, lies_next scopes n (scope_of_procedure host p) own mine),
        subst (λ k. Each IsLaid (members_from scopes (e + 1) k ps)) step
            (members_laid host (e + 1) (n + length (procedure_scopes host n p)) ps w.1 (lies_right scopes n (procedure_scopes host n p) _ lies)),
      )

  unit_laid : (n : ℕ) (u : UnitTree) → IsUnitSpelled u → Lies scopes n (unit_scopes n u) → Each IsLaid (numbered scopes n u).members
  unit_laid n u w lies =
      let count = block_long n u.name (n + 1) u.body in
      let step : n + length (own_scopes n u) ≡ n + 1 + length (constructs_of_block u.body) = omega (arith, count) in
      subst (λ k. Each IsLaid (members_from scopes (first_entity scopes n + length (flat_map declared_in (u.part).specifications)) k u.procedures)) step
      (members_laid n (first_entity scopes n + length (flat_map declared_in (u.part).specifications)) (n + length (own_scopes n u)) u.procedures w.1
      (lies_right scopes n (own_scopes n u) _ lies))

  units_laid : (n : ℕ) (us : List UnitTree) → Each IsUnitSpelled us → Lies scopes n (scopes_from n us)
      → Each (λ (u : Numbered). Each IsLaid u.members) (units_from scopes n us)
  units_laid n [] w lies = tt
  units_laid n (u ∷ us) w lies = (
    unit_laid n u w.0 (lies_left scopes n (unit_scopes n u) _ lies),
    units_laid (n + length (unit_scopes n u)) us w.1 (lies_right scopes n (unit_scopes n u) _ lies),
  )

member_laid : (t : Tree) → AreBodiesSpelled t → (u : Numbered) (m : Member) → IsHome (units_of t) (of_member u m) → IsLaid (scopes_of t) m
member_laid t spelled u m home =
    each_get (IsLaid (scopes_of t)) u.members home.1.0 m
    (each_get (λ (u : Numbered). Each (IsLaid (scopes_of t)) u.members) (units_of t) home.0.0 u (units_laid (scopes_of t) 0 t.units spelled (all_lie (scopes_of t))) home.0.1)
    home.1.1

-- ---- its constructs

module _ (t : Tree) (look : ℕ → ℕ → Lookup) (means : (scope symbol : ℕ) → Resolves (look scope symbol) (IsVisible (scopes_of t) scope symbol))
    (none : (b : Break) → NameBreaks (scopes_of t) t.names b → ⊥) (site : Site) where
  abbrev scopes : List Scope
  scopes = scopes_of t

  abbrev held : ℕ → Option Holder
  held = held_outside scopes site

  outside_opens : (host number : ℕ) (around : Name) (xs : List tree.AssociationTree) → slice_get scopes number ≡ Some (scope_of_construct host around xs)
      → Opens look (λ l. slice_get (holders_from 0 scopes) l) host number xs → Opens look held host number xs
  outside_opens host number around xs there o = record {
    declared = o.declared;
    free = each_at (λ (x : tree.AssociationTree). IsFree (held (entity_in look number x))) xs free;
    around = o.around;
  }
    where
      free : (k : ℕ) (x : tree.AssociationTree) → slice_get xs k ≡ Some x → IsFree (held (entity_in look number x))
      free k x at =
          let d : ℕ = first_entity scopes number + k in
          let own = mapped_at association_own xs k x at in
          let is_declared : IsDeclared scopes number (x.name).symbol d = (scope_of_construct host around xs, k, association_own x, there, own, refl, refl) in
          let entity : entity_in look number x ≡ d = ap entity_of (alone t look means none number (x.name).symbol d is_declared) in
          let h : Holder = holder (0 + number) (scope_of_construct host around xs) (association_own x) in
          let inner : is_construct (slice_get scopes h.scope) ≡ true =
          ap (λ n. is_construct (slice_get scopes n)) (let z : 0 + number ≡ number = omega arith in z) ∙ ap is_construct there in
          subst IsFree
          (sym (ap held entity ∙ ap (option_map (guard_outside scopes site)) (holder_at 0 scopes number (scope_of_construct host around xs) k (association_own x) there own)
          ∙ ap Some (when_true (is_construct (slice_get scopes h.scope)) h (guard site h) inner)))
          (refl, refl)

  mutual
    statement_placed : (x : tree.StatementTree) (host : ℕ) (around : Name) (next : ℕ) → IsSpelled x → Lies scopes next (constructs_in host around next x)
        → IsPlaced look held host next x
    statement_placed (tree.acts p a) host around next w lies = w
    statement_placed (tree.acts_if p e q a) host around next w lies = w
    statement_placed (tree.branches bs other) host around next w lies =
        let own = constructs_in_branches host around next bs in (
          branches_placed bs host around next w.0 (lies_left scopes next own _ lies),
          subst (λ k. IsOtherPlaced look held host (next + k) other) (branches_long host around next bs)
              (other_placed other host around (next + length own) w.1 (lies_right scopes next own _ lies)),
        )
    statement_placed (tree.selects p e cs) host around next w lies = (w.0, cases_placed cs host around next w.1 lies)
    statement_placed (tree.repeats p control body) host around next w lies = (w.0, block_placed body host around next w.1 lies)
    statement_placed (tree.associates p xs body) host around next w lies =
        let there = lies_first scopes next (scope_of_construct host around xs) _ lies in (
          w.0,
          outside_opens host next around xs there (opens scopes look means host next around xs there w.1),
          block_placed body next (construct_name around xs) (next + 1) w.2 (lies_next scopes next (scope_of_construct host around xs) _ lies),
        )

    block_placed : (x : tree.Block) (host : ℕ) (around : Name) (next : ℕ) → IsBlockSpelled x → Lies scopes next (constructs_in_block host around next x)
        → IsBlockPlaced look held host next x
    block_placed tree.no_statements host around next w lies = tt
    block_placed (tree.statements x b) host around next w lies =
        let own = constructs_in host around next x in (
          statement_placed x host around next w.0 (lies_left scopes next own _ lies),
          subst (λ k. IsBlockPlaced look held host (next + k) b) (statement_long host around next x)
              (block_placed b host around (next + length own) w.1 (lies_right scopes next own _ lies)),
        )

    branches_placed : (bs : tree.Branches) (host : ℕ) (around : Name) (next : ℕ) → AreBranchesSpelled bs → Lies scopes next (constructs_in_branches host around next bs)
        → AreBranchesPlaced look held host next bs
    branches_placed tree.no_branches host around next w lies = tt
    branches_placed (tree.branch p e b bs) host around next w lies =
        let own = constructs_in_block host around next b in (
          w.0,
          block_placed b host around next w.1 (lies_left scopes next own _ lies),
          subst (λ k. AreBranchesPlaced look held host (next + k) bs) (block_long host around next b)
              (branches_placed bs host around (next + length own) w.2 (lies_right scopes next own _ lies)),
        )

    other_placed : (x : tree.Alternative) (host : ℕ) (around : Name) (next : ℕ) → IsOtherSpelled x → Lies scopes next (constructs_in_alternative host around next x)
        → IsOtherPlaced look held host next x
    other_placed tree.no_alternative host around next w lies = tt
    other_placed (tree.alternative b) host around next w lies = block_placed b host around next w lies

    cases_placed : (cs : tree.Cases) (host : ℕ) (around : Name) (next : ℕ) → AreCasesSpelled cs → Lies scopes next (constructs_in_cases host around next cs)
        → AreCasesPlaced look held host next cs
    cases_placed tree.no_cases host around next w lies = tt
    cases_placed (tree.case_block p vs b cs) host around next w lies =
        let own = constructs_in_block host around next b in (
          block_placed b host around next w.0 (lies_left scopes next own _ lies),
          subst (λ k. AreCasesPlaced look held host (next + k) cs) (block_long host around next b)
              (cases_placed cs host around (next + length own) w.1 (lies_right scopes next own _ lies)),
        )

  -- so in a procedure
  pub body_placed : AreBodiesSpelled t → (u : Numbered) (m : Member) → IsHome (units_of t) (of_member u m) → IsBlockPlaced look held m.scope (m.scope + 1) (m.tree).body
  body_placed spelled u m home =
      let laid = member_laid t spelled u m home in
      block_placed (m.tree).body m.scope ((m.tree).header).name (m.scope + 1) laid.0 laid.1
