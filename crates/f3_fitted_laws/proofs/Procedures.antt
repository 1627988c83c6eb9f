-- The bodies of procedures and of main programs that break no rule fit.
use Rattle.std.proofs.Common.{◌≡◌, ℕ, ◌+◌, Bool, true, false, cond, List, [], ◌∷◌, length, map, filter, None, refl, sym, ap, ◌∙◌}
use Rattle.std.specs.Prelude.{slice_get}
use Rattle.std.specs.List.{flat_map}
use Rattle.f3_places.specs.declared.source.Place.{Place}
use Rattle.f3_lookups.specs.declared.lookup.Lookup.{Lookup}
use Rattle.f3_tree.specs.declared.expression.Name.{Name}
use Rattle.f3_tree.specs.Tree.{Tree}
use Rattle.f3_program.specs.declared.declarations.Kind.{Kind}
use Rattle.f3_program.specs.declared.program.Dummy.{Dummy}
use Rattle.f3_program.specs.declared.program.Procedure.{Procedure}
use Rattle.f3_program.specs.declared.program.Program.{Program}
use Rattle.f3_kinds.specs.Things.{map_or}
use Rattle.f3_meaning_whole.specs.Exec.{declared_in}
use Rattle.f3_meaning_whole.specs.Permitted.{Each}
use Rattle.f3_meaning_whole.specs.Formed.{kinds_of}
use Rattle.f3_cell_kinds.specs.Types.{Scope}
use Rattle.f3_cell_kinds.specs.Sense.{statement_fits, procedure_fits}
use Rattle.f3_type_rules.specs.Declarations.{spot_of}
use Rattle.f3_type_rules.specs.Members.{Member, Numbered}
use Rattle.f3_type_rules.specs.Program.{body_breaks, member_breaks, unit_breaks}
use Rattle.f3_type_rules.specs.Scene.{site_in}
use Rattle.f3_elaboration.specs.Nodes.{ProcedureNode}
use Rattle.f3_elaboration.specs.Declarations.{Whole}
use Rattle.f3_elaboration.specs.DeclaredViews.{dummy_view, procedure_view}
use Rattle.f3_elaboration.specs.Numbers.{entity_of}
use Rattle.f3_elaboration.specs.Program.{is_main, nothing_done}
use Rattle.f3_elaboration.specs.Units.{procedure, main, dummy, in_member, in_main}
use Rattle.f3_lawful_laws.specs.Blocks.{IsBlockPlaced}
use Rattle.f3_lawful_laws.specs.Entities.{whole_of}
use Rattle.f3_lawful_laws.proofs.Facts.{not_nil, first, second}
use Rattle.f3_formed_laws.specs.Entities.{MemberAgrees, UnitAgrees}
use Rattle.f3_formed_laws.specs.Levels.{IsBlockLevelled}
use Rattle.f3_formed_laws.proofs.Facts.{long, each_joined}
use Rattle.f3_fitting_laws.specs.Bounded.{IsBlockBounded}
use Rattle.f3_block_laws.proofs.InMemory.{blocks}
use Rattle.f3_fitting_laws.proofs.Nodes as node
use Rattle.f3_block_laws.proofs.SeenStatements.{statement_seen}
use Rattle.f3_fitted_laws.proofs.Words.{words}

empty : {A B : Type 0} (f : A → B) (xs : List A) → map f xs ≡ [] → xs ≡ []
empty f [] e = refl
empty f (x ∷ xs) e = not_nil e

module _ (p : Program) (t : Tree) (look : ℕ → ℕ → Lookup) (order : List ℕ) where
  abbrev w : Whole
  w = whole_of t look order

  abbrev IsMemberPlaced : Member → Type 0
  IsMemberPlaced m = IsBlockPlaced ((w.scene).names).look (λ l. slice_get (w.scene).holders l) m.scope (m.scope + 1) (m.tree).body

  abbrev pub IsUnitPlaced : Numbered → Type 0
  IsUnitPlaced u =
      IsBlockPlaced ((w.scene).names).look (λ l. slice_get (w.scene).holders l) u.scope (u.scope + 1) (u.tree).body × Each IsMemberPlaced u.members

  abbrev IsMemberLevelled : Member → Type 0
  IsMemberLevelled m = IsBlockLevelled (m.tree).body × IsBlockBounded (m.tree).body

  -- levels and literals of bodies
  abbrev pub IsUnitLevelled : Numbered → Type 0
  IsUnitLevelled u = IsBlockLevelled (u.tree).body × IsBlockBounded (u.tree).body × Each IsMemberLevelled u.members

  -- ---- bodies

  -- the body of a procedure in memory fits as its data does
  abbrev pub FitsAs : ProcedureNode → Type 0
  FitsAs node = (q : Procedure) → procedure_view q ≡ node → procedure_fits p q ≡ true

  abbrev within : Procedure → List Kind → Scope
  within q names = record { variables = declared_in q; names = names; selected = None }

  member_lent : (unit : ℕ) (m : Member) (q : Procedure) → procedure_view q ≡ procedure w unit m → (in_member w unit m).lent ≡ length (kinds_of q.dummies.items)
  member_lent unit m q seen =
      long (λ (n : Name). entity_of ((w.scene).names.look m.scope n.symbol)) ((m.tree).header).dummies
      ∙ sym (long (dummy w unit m) ((m.tree).header).dummies)
      ∙ ap length (sym (ap (λ (y : ProcedureNode). y.dummies) seen)) ∙ long dummy_view q.dummies.items
      ∙ sym (long (λ (x : Dummy). x.kind) q.dummies.items)

  member_fits : (unit : ℕ) (m : Member) → MemberAgrees p w unit m → IsMemberPlaced m → IsMemberLevelled m → member_breaks w.scene w.values unit m ≡ []
      → FitsAs (procedure w unit m)
  member_fits unit m h placed l free q seen =
      blocks p (within q (kinds_of q.dummies.items)) (in_member w unit m) (h.kinds q seen) (words t look order unit m.scope) (member_lent unit m q seen)
      (site_in w.scene unit m.scope (spot_of w.scene unit m).is_pure w.values) refl (λ l. slice_get (w.scene).holders l) (m.scope + 1) (m.tree).body placed l.0 l.1 free q.body
      (ap (λ (y : ProcedureNode). y.body) seen)

  members_fit : (unit : ℕ) (ms : List Member) → Each (MemberAgrees p w unit) ms → Each IsMemberPlaced ms → Each IsMemberLevelled ms
      → flat_map (member_breaks w.scene w.values unit) ms ≡ [] → Each FitsAs (map (procedure w unit) ms)
  members_fit unit [] h placed l free = tt
  members_fit unit (m ∷ ms) h placed l free = (
    member_fits unit m h.0 placed.0 l.0 (first (member_breaks w.scene w.values unit m) _ free),
    members_fit unit ms h.1 placed.1 l.1 (second (member_breaks w.scene w.values unit m) _ free),
  )

  pub procedures_fit : (us : List Numbered) → Each (UnitAgrees p w) us → Each IsUnitPlaced us → Each IsUnitLevelled us
      → flat_map (unit_breaks w.scene w.values) us ≡ [] → Each FitsAs (flat_map (λ (u : Numbered). map (procedure w u.scope) u.members) us)
  procedures_fit [] h placed l free = tt
  procedures_fit (u ∷ us) h placed l free =
      each_joined FitsAs (map (procedure w u.scope) u.members) _
      (members_fit u.scope u.members (UnitAgrees.members h.0) placed.0.1 l.0.2
      (second (body_breaks w.scene w.values u.scope u.scope false (u.tree).body) _ (first (unit_breaks w.scene w.values u) _ free)))
      (procedures_fit us h.1 placed.1 l.1 (second (unit_breaks w.scene w.values u) _ free))

  -- ---- the main program, which has no dummies

  abbrev pub MainFitsAs : ProcedureNode → Type 0
  MainFitsAs node = (q : Procedure) → procedure_view q ≡ node → (q.dummies.items ≡ []) × (procedure_fits p q ≡ true)

  no_dummies : (q : Procedure) → map dummy_view q.dummies.items ≡ [] → q.dummies.items ≡ []
  no_dummies q e = empty dummy_view q.dummies.items e

  main_fits : (u : Numbered) → UnitAgrees p w u → IsUnitPlaced u → IsUnitLevelled u → unit_breaks w.scene w.values u ≡ [] → MainFitsAs (main w u)
  main_fits u h placed l free q seen =
      let none = no_dummies q (ap (λ (y : ProcedureNode). y.dummies) seen) in (
        none,
        ap (λ ds. statement_fits p q.body (within q (kinds_of ds))) none
            ∙ blocks p (within q []) (in_main w u) (h.kinds q seen) (words t look order u.scope u.scope) refl (site_in w.scene u.scope u.scope false w.values) refl
            (λ l. slice_get (w.scene).holders l) (u.scope + 1) (u.tree).body placed.0 l.0 l.1
            (first (body_breaks w.scene w.values u.scope u.scope false (u.tree).body) _ free) q.body (ap (λ (y : ProcedureNode). y.body) seen),
      )

  nothing_fits : (place : Place) → MainFitsAs (nothing_done place)
  nothing_fits place q seen = (
    no_dummies q (ap (λ (y : ProcedureNode). y.dummies) seen),
    statement_seen p q.body (within q (kinds_of q.dummies.items))
        ∙ ap (λ (y : ProcedureNode). node.statement_fits p y.body (within q (kinds_of q.dummies.items))) seen,
  )

  pub mains : (us : List Numbered) → Each (UnitAgrees p w) us → Each IsUnitPlaced us → Each IsUnitLevelled us → flat_map (unit_breaks w.scene w.values) us ≡ []
      → Each (λ (u : Numbered). MainFitsAs (main w u)) (filter (λ (u : Numbered). is_main (u.tree).kind) us)
  mains [] h placed l free = tt
  mains (u ∷ us) h placed l free =
      go (is_main (u.tree).kind) (main_fits u h.0 placed.0 l.0 (first (unit_breaks w.scene w.values u) _ free))
      (mains us h.1 placed.1 l.1 (second (unit_breaks w.scene w.values u) _ free))
    where
      go : (b : Bool) → MainFitsAs (main w u) → Each (λ (u : Numbered). MainFitsAs (main w u)) (filter (λ (u : Numbered). is_main (u.tree).kind) us)
          → Each (λ (u : Numbered). MainFitsAs (main w u)) (cond b (u ∷ filter (λ (u : Numbered). is_main (u.tree).kind) us) (filter (λ (u : Numbered). is_main (u.tree).kind) us))
      go true x xs = (x, xs)
      go false x xs = xs

  pub main_of : (place : Place) (us : List Numbered) → Each (λ (u : Numbered). MainFitsAs (main w u)) us
      → MainFitsAs (map_or (nothing_done place) (main w) (slice_get us 0))
  main_of place [] h = nothing_fits place
  main_of place (u ∷ us) h = h.0
