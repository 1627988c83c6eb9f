-- The bodies of a program that breaks no rule may run.
use Rattle.std.proofs.Common.{◌≡◌, ℕ, zero, suc, ◌+◌, ◌<◌, length, arith, Bool, true, false, List, [], ◌∷◌, ◌++◌, map, filter, cond, Contains, refl, sym, ap, ◌∙◌}
use Rattle.std.specs.Prelude.{slice_get}
use Rattle.std.specs.List.{flat_map}
use mathlib.Core.Path.{subst}
use Rattle.f3_rules.specs.declared.breaks.Break.{Break}
use Rattle.f3_scopes.specs.Scopes.{declared_in, scopes_of}
use Rattle.f3_tree.specs.Statements.{Block}
use Rattle.f3_program.specs.declared.program.Procedure.{Procedure}
use Rattle.f3_program.specs.declared.program.Program.{Program}
use Rattle.f3_kinds.specs.Things.{map_or}
use Rattle.f3_tree.specs.Declarations.{SpecificationTree, declares, accesses, protects, saves, defines}
use Rattle.f3_meaning_whole.specs.Permitted.{Each, Scope, scope_of, MayExec, MayRun}
use Rattle.f3_type_rules.specs.Bodies.{block_breaks}
use Rattle.f3_type_rules.specs.Definitions.{Site}
use Rattle.f3_type_rules.specs.Declarations.{unit_rows, unit_next, spot_of}
use Rattle.f3_type_rules.specs.Members.{Member, Numbered}
use Rattle.f3_type_rules.specs.Program.{body_breaks, member_breaks, unit_breaks, units_in, nothing_known, program_breaks}
use Rattle.f3_type_rules.specs.Scene.{site_in}
use Rattle.f3_type_rules.specs.Walks.{along}
use Rattle.f3_elaboration.specs.Nodes as n
use Rattle.f3_elaboration.specs.Nodes.{ProcedureNode, ProgramNode, StatementNode}
use Rattle.f3_elaboration.specs.Context.{Surroundings}
use Rattle.f3_elaboration.specs.Statements.{block}
use Rattle.f3_elaboration.specs.Declarations.{Whole}
use Rattle.f3_elaboration.specs.Numbers.{Definition, along_part, types_in, definitions}
use Rattle.f3_elaboration.specs.DeclaredViews.{procedure_view}
use Rattle.f3_elaboration.specs.Program.{is_main, nothing_done}
use Rattle.f3_elaboration.specs.Units.{procedure, main, in_member, in_main}
use Rattle.f3_elaboration.specs.Views.{statement_view}
use Rattle.f3_lawful_laws.specs.Nodes.{NodeRuns}
use Rattle.f3_lawful_laws.specs.Laws.{UnbrokenIsLawful}
use Rattle.f3_lawful_laws.specs.Blocks.{IsBlockPlaced}
use Rattle.f3_lawful_laws.specs.Entities.{units_of, whole_of, main_scope, MemberAgrees, UnitAgrees}
use Rattle.f3_lawful_laws.proofs.Numbered.{IsProcedure}
use Rattle.f3_lawful_laws.proofs.Facts.{first, second}
use Rattle.f3_lawful_laws.proofs.SeenStatements.{each_seen, statement_seen}
use Rattle.f3_access.specs.Access.{first_entity}
use Rattle.f3_lawful_laws.proofs.Ascending.{units_ascend}
use Rattle.f3_lawful_laws.proofs.Numbering.{numbered_all}
use Rattle.f3_lawful_laws.proofs.Finals.{HasProcedures, all_finals}
use Rattle.f3_lawful_laws.proofs.Trees.{units_placed, all_lie}
use Rattle.f3_lawful_laws.proofs.Roots.{member_here, main_here}
use Rattle.f3_lawful_laws.proofs.Statements.{Here, block_runs}

module _ (p : Program) (w : Whole) where
  -- a body
  body_may : (scope : Scope) (s : Surroundings) (site : Site) (next : ℕ) (b : Block) → Here p (λ l. slice_get (w.scene).holders l) scope s site
      → IsBlockPlaced (s.context).look (λ l. slice_get (w.scene).holders l) (s.context).scope next b → block_breaks site next b ≡ []
      → (x : _) → statement_view x ≡ n.block (block s next b) → MayExec p x scope
  body_may scope s site next b here placed free x seen =
      statement_seen p x scope
      (subst (λ (y : StatementNode). NodeRuns p y scope) (sym seen)
      (block_runs p (λ l. slice_get (w.scene).holders l) b scope s site next here placed free))

  abbrev IsMemberPlaced : Member → Type 0
  IsMemberPlaced m = IsBlockPlaced ((w.scene).names).look (λ l. slice_get (w.scene).holders l) m.scope (m.scope + 1) (m.tree).body

  -- the bodies of a unit and of its procedures
  abbrev IsUnitPlaced : Numbered → Type 0
  IsUnitPlaced u =
      IsBlockPlaced ((w.scene).names).look (λ l. slice_get (w.scene).holders l) u.scope (u.scope + 1) (u.tree).body × Each IsMemberPlaced u.members

  -- a procedure in memory runs as its data does
  abbrev RunsAs : ProcedureNode → Type 0
  RunsAs node = (q : Procedure) → procedure_view q ≡ node → MayRun p q

  member_runs : (unit : ℕ) (m : Member) → MemberAgrees p w unit m → IsMemberPlaced m → member_breaks w.scene w.values unit m ≡ [] → RunsAs (procedure w unit m)
  member_runs unit m h placed free q seen =
      body_may (scope_of q) (in_member w unit m) (site_in w.scene unit m.scope (spot_of w.scene unit m).is_pure w.values) (m.scope + 1) (m.tree).body
      (member_here p w unit m q seen (h.alike q seen)) placed free q.body (ap (λ (y : ProcedureNode). y.body) seen)

  members_run : (unit : ℕ) (ms : List Member) → Each (MemberAgrees p w unit) ms → Each IsMemberPlaced ms → flat_map (member_breaks w.scene w.values unit) ms ≡ []
      → Each RunsAs (map (procedure w unit) ms)
  members_run unit [] h placed free = tt
  members_run unit (m ∷ ms) h placed free = (
    member_runs unit m h.0 placed.0 (first _ _ free),
    members_run unit ms h.1 placed.1 (second (member_breaks w.scene w.values unit m) _ free),
  )

  each_joined : {A : Type 0} (P : A → Type 0) (xs ys : List A) → Each P xs → Each P ys → Each P (xs ++ ys)
  each_joined P [] ys h k = k
  each_joined P (x ∷ xs) ys h k = (h.0, each_joined P xs ys h.1 k)

  units_run : (us : List Numbered) → Each (UnitAgrees p w) us → Each IsUnitPlaced us → flat_map (unit_breaks w.scene w.values) us ≡ []
      → Each RunsAs (flat_map (λ (u : Numbered). map (procedure w u.scope) u.members) us)
  units_run [] h placed free = tt
  units_run (u ∷ us) h placed free =
      each_joined RunsAs (map (procedure w u.scope) u.members) _
      (members_run u.scope u.members (UnitAgrees.members h.0) placed.0.1 (second (body_breaks w.scene w.values u.scope u.scope false (u.tree).body) _ (first _ _ free)))
      (units_run us h.1 placed.1 (second (unit_breaks w.scene w.values u) _ free))

  -- ---- the main program

  abbrev RunsAsMain : ProcedureNode → Type 0
  RunsAsMain node = (q : Procedure) → procedure_view q ≡ node → MayExec p q.body (main_scope q)

  main_runs : (u : Numbered) → UnitAgrees p w u → IsUnitPlaced u → unit_breaks w.scene w.values u ≡ [] → RunsAsMain (main w u)
  main_runs u h placed free q seen =
      body_may (main_scope q) (in_main w u) (site_in w.scene u.scope u.scope false w.values) (u.scope + 1) (u.tree).body (main_here p w u q seen (h.alike q seen)) placed.0
      (first _ _ free) q.body (ap (λ (y : ProcedureNode). y.body) seen)

  nothing_runs : (place : _) → RunsAsMain (nothing_done place)
  nothing_runs place q seen =
      statement_seen p q.body (main_scope q)
      (subst (λ (y : StatementNode). NodeRuns p y (main_scope q)) (sym (ap (λ (y : ProcedureNode). y.body) seen)) tt)

  mains : (us : List Numbered) → Each (UnitAgrees p w) us → Each IsUnitPlaced us → flat_map (unit_breaks w.scene w.values) us ≡ []
      → Each (λ (u : Numbered). RunsAsMain (main w u)) (filter (λ (u : Numbered). is_main (u.tree).kind) us)
  mains [] h placed free = tt
  mains (u ∷ us) h placed free =
      go (is_main (u.tree).kind) (main_runs u h.0 placed.0 (first _ _ free)) (mains us h.1 placed.1 (second (unit_breaks w.scene w.values u) _ free))
    where
      go : (b : Bool) → RunsAsMain (main w u) → Each (λ (u : Numbered). RunsAsMain (main w u)) (filter (λ (u : Numbered). is_main (u.tree).kind) us)
          → Each (λ (u : Numbered). RunsAsMain (main w u)) (cond b (u ∷ filter (λ (u : Numbered). is_main (u.tree).kind) us) (filter (λ (u : Numbered). is_main (u.tree).kind) us))
      go true x xs = (x, xs)
      go false x xs = xs

  main_of : (place : _) (us : List Numbered) → Each (λ (u : Numbered). RunsAsMain (main w u)) us → RunsAsMain (map_or (nothing_done place) (main w) (slice_get us 0))
  main_of place [] h = nothing_runs place
  main_of place (u ∷ us) h = h.0

-- ---- the whole program

nil_of : (bs : List Break) → ((b : Break) → Contains bs b → ⊥) → bs ≡ []
nil_of [] h = refl
nil_of (b ∷ bs) h = absurd (h b (0, (let e : 0 < suc (length bs) = omega arith in e), refl))

-- the definitions of a unit are its own
along_own : (p : Program) (w : Whole) (u : Numbered) → Each (IsProcedure p w u.scope) u.members → (e : ℕ) (ss : List SpecificationTree)
    → Each (HasProcedures p w) (along_part (types_in u) e ss)
along_own p w u h e [] = tt
along_own p w u h e (s ∷ ss) =
    each_joined p w (HasProcedures p w) (types_in u e s) (along_part (types_in u) (e + length (declared_in s)) ss) (one s) (along_own p w u h (e + length (declared_in s)) ss)
  where
    one : (s : SpecificationTree) → Each (HasProcedures p w) (types_in u e s)
    one (declares d) = tt
    one (accesses a) = tt
    one (protects q ns) = tt
    one (saves q) = tt
    one (defines t) = (h, tt)

module _ (p : Program) (w : Whole) where
  abbrev HaveNumbers : List Numbered → Type 0
  HaveNumbers us = Each (λ (u : Numbered). Each (IsProcedure p w u.scope) u.members) us

  unit_at : (us : List Numbered) (i : ℕ) → HaveNumbers us → Each (HasProcedures p w) (flat_map definitions (map_or [] (λ (u : Numbered). u ∷ []) (slice_get us i)))
  unit_at [] i h = tt
  unit_at (u ∷ us) zero h =
      each_joined p w (HasProcedures p w) (definitions u) [] (along_own p w u h.0 u.first ((u.tree).part).specifications) tt
  unit_at (u ∷ us) (suc i) h = unit_at us i h.1

  flat_joined : (us vs : List Numbered) → Each (HasProcedures p w) (flat_map definitions us) → Each (HasProcedures p w) (flat_map definitions vs)
      → Each (HasProcedures p w) (flat_map definitions (us ++ vs))
  flat_joined [] vs h k = k
  flat_joined (u ∷ us) vs h k =
      each_joined p w (HasProcedures p w) (definitions u) (flat_map definitions (us ++ vs)) (before (definitions u) (flat_map definitions us) h)
      (flat_joined us vs (behind (definitions u) (flat_map definitions us) h) k)
    where
      before : (xs ys : List Definition) → Each (HasProcedures p w) (xs ++ ys) → Each (HasProcedures p w) xs
      before [] ys h = tt
      before (x ∷ xs) ys h = (h.0, before xs ys h.1)

      behind : (xs ys : List Definition) → Each (HasProcedures p w) (xs ++ ys) → Each (HasProcedures p w) ys
      behind [] ys h = h
      behind (x ∷ xs) ys h = behind xs ys h.1

  ordered_have : (us : List Numbered) → HaveNumbers us → (order : List ℕ) → Each (HasProcedures p w) (flat_map definitions (units_in us order))
  ordered_have us h [] = tt
  ordered_have us h (i ∷ order) = flat_joined (map_or [] (λ (u : Numbered). u ∷ []) (slice_get us i)) (units_in us order) (unit_at us i h) (ordered_have us h order)

pub lawful : UnbrokenIsLawful
lawful t look order p spelled means seen h none =
    let w : Whole = whole_of t look order in
    let placed = units_placed (scopes_of t) look means 0 t.units spelled (all_lie (scopes_of t)) in
    let numbers : Each (λ (u : Numbered). Each (IsProcedure p w u.scope) u.members) (units_of t) =
    numbered_all p w (units_of t) refl (first_entity (scopes_of t) 0) (units_ascend (scopes_of t) 0 t.units (all_lie (scopes_of t)))
    (ap (λ (y : ProgramNode). y.procedures) seen) in
    let free : flat_map (unit_breaks w.scene w.values) (units_of t) ≡ [] =
    second (along (unit_rows w.scene) (unit_next w.scene) nothing_known (units_in (units_of t) order)) _ (nil_of (program_breaks t look order) none) in
    record {
      in_main =
          subst (RunsAsMain p w) (sym (ap (λ (y : ProgramNode). y.main) seen))
          (main_of p w t.end (filter (λ (u : Numbered). is_main (u.tree).kind) (units_of t)) (mains p w (units_of t) h.units placed free)) p.main refl;
      in_procedures =
          each_seen (RunsAs p w) (MayRun p) procedure_view (λ q k. k q refl) p.procedures.items
          (subst (Each (RunsAs p w)) (sym (ap (λ (y : ProgramNode). y.procedures) seen)) (units_run p w (units_of t) h.units placed free));
      in_types =
          all_finals p w 0 p.types.items (flat_map definitions (units_in (units_of t) order)) (ap (λ (y : ProgramNode). y.types) seen)
          (ordered_have p w (units_of t) numbers order) (λ k d at. h.types k d at ∙ (let z : k ≡ 0 + k = omega arith in z));
    }
