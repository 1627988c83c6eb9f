-- Procedures and main programs that break no rule make sense.
use Rattle.std.proofs.Common.{◌≡◌, ℕ, ◌+◌, ◌<◌, Bool, true, false, cond, ◌&&◌, List, [], ◌∷◌, ◌++◌, length, map, filter, Option, Some, None, refl, sym, ap, ◌∙◌}
use Rattle.std.specs.Prelude.{slice_get}
use Rattle.std.specs.Option.{option_map}
use Rattle.std.specs.List.{flat_map}
use mathlib.Core.Path.{subst}
use Rattle.f3_places.specs.declared.source.Place.{Place}
use Rattle.f3_scopes.specs.declared.outline.EntityKind.TheVariants.{DerivedType}
use Rattle.f3_tree.specs.declared.expression.Name.{Name}
use Rattle.f3_program.specs.declared.declarations.Declared.{Declared}
use Rattle.f3_program.specs.declared.program.Dummy.{Dummy}
use Rattle.f3_program.specs.declared.program.Procedure.{Procedure}
use Rattle.f3_program.specs.declared.program.Program.{Program}
use Rattle.f3_kinds.specs.Things.{map_or}
use Rattle.f3_meaning_whole.specs.Exec.{declared_in, with_result}
use Rattle.f3_meaning_whole.specs.Permitted.{Each}
use Rattle.f3_meaning_whole.specs.Formed as formed
use Rattle.f3_meaning_whole.specs.Formed.{all, is_before, kinds_of, are_declared, is_procedure}
use Rattle.f3_type_rules.specs.Declarations.{spot_of}
use Rattle.f3_type_rules.specs.Members.{Member, Numbered}
use Rattle.f3_type_rules.specs.Program.{body_breaks, member_breaks, unit_breaks}
use Rattle.f3_type_rules.specs.Scene.{site_in}
use Rattle.f3_elaboration.specs.Nodes.{DeclaredNode, DummyNode, ProcedureNode}
use Rattle.f3_elaboration.specs.Declarations.{Whole, variable}
use Rattle.f3_elaboration.specs.DeclaredViews.{declared_view, dummy_view, procedure_view}
use Rattle.f3_elaboration.specs.Numbers.{Variable, entity_of, number_in, main_locals, member_locals}
use Rattle.f3_elaboration.specs.Program.{is_main, nothing_done}
use Rattle.f3_elaboration.specs.Units.{procedure, main, dummy, in_member, in_main}
use Rattle.f3_lawful_laws.specs.Blocks.{IsBlockPlaced}
use Rattle.f3_lawful_laws.proofs.Facts.{not_nil, first, second, both}
use Rattle.f3_formed_laws.specs.Nodes.{is_declared, is_formed}
use Rattle.f3_formed_laws.specs.Levels.{IsBlockLevelled}
use Rattle.f3_formed_laws.specs.Entities.{MemberAgrees, UnitAgrees}
use Rattle.f3_formed_laws.proofs.Facts.{long, all_each, all_seen, each_joined, each_mapped}
use Rattle.f3_formed_laws.proofs.InMemory.{blocks_make}
use Rattle.f3_formed_laws.proofs.SeenStatements.{statement_seen}
use Rattle.f3_formed_laws.proofs.Right.{IsMemberRight, IsUnitRight}
use Rattle.f3_formed_laws.proofs.Listed.{IsResultListed, locals_listed, main_listed, result_listed, dummies_listed}

empty : {A B : Type 0} (f : A → B) (xs : List A) → map f xs ≡ [] → xs ≡ []
empty f [] e = refl
empty f (x ∷ xs) e = not_nil e

all_with : {A : Type 0} (f : A → Bool) (xs : List A) (y : A) → all f xs ≡ true → f y ≡ true → all f (xs ++ y ∷ []) ≡ true
all_with f [] y h e = both (f y) true e refl
all_with f (x ∷ xs) y h e = both (f x) _ (before (f x) _ h) (all_with f xs y (behind (f x) _ h) e)
  where
    before : (a b : Bool) → (a && b) ≡ true → a ≡ true
    before true b h = refl
    before false b h = h

    behind : (a b : Bool) → (a && b) ≡ true → b ≡ true
    behind true b h = h
    behind false true h = refl
    behind false false h = h

module _ (p : Program) (w : Whole) (types : (e : ℕ) → slice_get ((w.scene).names).kinds e ≡ Some DerivedType → number_in (w.numbers).types e < length p.types.items) where
  abbrev count : ℕ
  count = length p.types.items

  -- ---- what is declared

  declared_all : (q : Procedure) (node : ProcedureNode) → procedure_view q ≡ node → Each (λ (d : DeclaredNode). is_declared count d ≡ true) node.locals
      → IsResultListed w count types node.result → Each (λ (d : DummyNode). is_before count (d.kind).of ≡ true) node.dummies → are_declared p q ≡ true
  declared_all q node seen locals result dummies =
      both (all (formed.is_declared count) (declared_in q)) _
      (with_results q.result (ap (λ (y : ProcedureNode). y.result) seen)
      (all_seen (formed.is_declared count) (is_declared count) declared_view (λ x. refl) q.locals.items
      ∙ ap (λ (y : ProcedureNode). all (is_declared count) y.locals) seen ∙ all_each (is_declared count) node.locals locals))
      (all_seen (λ (y : Dummy). is_before count y.kind.of) (λ (y : DummyNode). is_before count (y.kind).of) dummy_view (λ x. refl) q.dummies.items
      ∙ ap (λ (y : ProcedureNode). all (λ (d : DummyNode). is_before count (d.kind).of) y.dummies) seen ∙ all_each (λ (d : DummyNode). is_before count (d.kind).of) node.dummies dummies)
    where
      with_results : (o : Option Declared) → option_map declared_view o ≡ node.result → all (formed.is_declared count) q.locals.items ≡ true
          → all (formed.is_declared count) (with_result q.locals.items o) ≡ true
      with_results None e h = h
      with_results (Some d) e h = all_with (formed.is_declared count) q.locals.items d h (subst (IsResultListed w count types) (sym e) result)

  variables_listed : (xs : List Variable) → Each (λ (v : Variable). is_declared count (variable w v) ≡ true) xs
      → Each (λ (d : DeclaredNode). is_declared count d ≡ true) (map (variable w) xs)
  variables_listed xs h =
      each_mapped (λ (v : Variable). is_declared count (variable w v) ≡ true) (λ (d : DeclaredNode). is_declared count d ≡ true) (variable w) (λ v e. e) xs h

  -- ---- bodies

  abbrev IsMemberPlaced : Member → Type 0
  IsMemberPlaced m = IsBlockPlaced ((w.scene).names).look (λ l. slice_get (w.scene).holders l) m.scope (m.scope + 1) (m.tree).body

  abbrev pub IsUnitPlaced : Numbered → Type 0
  IsUnitPlaced u =
      IsBlockPlaced ((w.scene).names).look (λ l. slice_get (w.scene).holders l) u.scope (u.scope + 1) (u.tree).body × Each IsMemberPlaced u.members

  abbrev IsMemberLevelled : Member → Type 0
  IsMemberLevelled m = IsBlockLevelled (m.tree).body

  abbrev pub IsUnitLevelledThere : Numbered → Type 0
  IsUnitLevelledThere u = IsBlockLevelled (u.tree).body × Each IsMemberLevelled u.members

  -- a procedure in memory makes sense as its data does
  abbrev pub MakesAs : ProcedureNode → Type 0
  MakesAs node = (q : Procedure) → procedure_view q ≡ node → (are_declared p q ≡ true) × (is_procedure p q ≡ true)

  member_lent : (unit : ℕ) (m : Member) (q : Procedure) → procedure_view q ≡ procedure w unit m → (in_member w unit m).lent ≡ length (kinds_of q.dummies.items)
  member_lent unit m q seen =
      long (λ (n : Name). entity_of ((w.scene).names.look m.scope n.symbol)) ((m.tree).header).dummies
      ∙ sym (long (dummy w unit m) ((m.tree).header).dummies)
      ∙ ap length (sym (ap (λ (y : ProcedureNode). y.dummies) seen)) ∙ long dummy_view q.dummies.items
      ∙ sym (long (λ (x : Dummy). x.kind) q.dummies.items)

  member_makes : (unit : ℕ) (m : Member) → MemberAgrees p w unit m → IsMemberRight w.scene unit m → IsMemberPlaced m → IsMemberLevelled m
      → member_breaks w.scene w.values unit m ≡ [] → MakesAs (procedure w unit m)
  member_makes unit m h right placed l free q seen = (
    declared_all q (procedure w unit m) seen (variables_listed (member_locals unit m) (locals_listed w count types unit m right)) (result_listed w count types unit m right h.result)
        (dummies_listed w count types unit m ((m.tree).header).dummies),
    blocks_make p (declared_in q) (kinds_of q.dummies.items) (in_member w unit m) (h.kinds q seen) (member_lent unit m q seen)
        (site_in w.scene unit m.scope (spot_of w.scene unit m).is_pure w.values) refl (λ l. slice_get (w.scene).holders l) (m.scope + 1) (m.tree).body placed l free q.body
        (ap (λ (y : ProcedureNode). y.body) seen),
  )

  members_make : (unit : ℕ) (ms : List Member) → Each (MemberAgrees p w unit) ms → Each (IsMemberRight w.scene unit) ms → Each IsMemberPlaced ms → Each IsMemberLevelled ms
      → flat_map (member_breaks w.scene w.values unit) ms ≡ [] → Each MakesAs (map (procedure w unit) ms)
  members_make unit [] h right placed l free = tt
  members_make unit (m ∷ ms) h right placed l free = (
    member_makes unit m h.0 right.0 placed.0 l.0 (first _ _ free),
    members_make unit ms h.1 right.1 placed.1 l.1 (second (member_breaks w.scene w.values unit m) _ free),
  )

  pub units_make : (us : List Numbered) → Each (UnitAgrees p w) us → Each (IsUnitRight w.scene) us → Each IsUnitPlaced us → Each IsUnitLevelledThere us
      → flat_map (unit_breaks w.scene w.values) us ≡ [] → Each MakesAs (flat_map (λ (u : Numbered). map (procedure w u.scope) u.members) us)
  units_make [] h right placed l free = tt
  units_make (u ∷ us) h right placed l free =
      each_joined MakesAs (map (procedure w u.scope) u.members) _
      (members_make u.scope u.members (UnitAgrees.members h.0) right.0.1 placed.0.1 l.0.1
      (second (body_breaks w.scene w.values u.scope u.scope false (u.tree).body) _ (first _ _ free)))
      (units_make us h.1 right.1 placed.1 l.1 (second (unit_breaks w.scene w.values u) _ free))

  -- ---- the main program

  -- it has no dummies
  no_names : (q : Procedure) → map dummy_view q.dummies.items ≡ [] → kinds_of q.dummies.items ≡ []
  no_names q e = ap kinds_of (empty dummy_view q.dummies.items e)

  main_makes : (u : Numbered) → UnitAgrees p w u → IsUnitRight w.scene u → IsUnitPlaced u → IsUnitLevelledThere u → unit_breaks w.scene w.values u ≡ [] → MakesAs (main w u)
  main_makes u h right placed l free q seen = (
    declared_all q (main w u) seen (variables_listed (main_locals u) (main_listed w count types u right)) tt tt,
    ap (formed.is_formed p (declared_in q) q.body) (no_names q (ap (λ (y : ProcedureNode). y.dummies) seen))
        ∙ blocks_make p (declared_in q) [] (in_main w u) (h.kinds q seen) refl (site_in w.scene u.scope u.scope false w.values) refl (λ l. slice_get (w.scene).holders l)
        (u.scope + 1) (u.tree).body placed.0 l.0 (first _ _ free) q.body (ap (λ (y : ProcedureNode). y.body) seen),
  )

  nothing_makes : (place : Place) → MakesAs (nothing_done place)
  nothing_makes place q seen = (
    declared_all q (nothing_done place) seen tt tt tt,
    statement_seen p (declared_in q) q.body (kinds_of q.dummies.items)
        ∙ ap (λ (y : ProcedureNode). is_formed p (declared_in q) y.body (kinds_of q.dummies.items)) seen,
  )

  pub mains : (us : List Numbered) → Each (UnitAgrees p w) us → Each (IsUnitRight w.scene) us → Each IsUnitPlaced us → Each IsUnitLevelledThere us
      → flat_map (unit_breaks w.scene w.values) us ≡ [] → Each (λ (u : Numbered). MakesAs (main w u)) (filter (λ (u : Numbered). is_main (u.tree).kind) us)
  mains [] h right placed l free = tt
  mains (u ∷ us) h right placed l free =
      go (is_main (u.tree).kind) (main_makes u h.0 right.0 placed.0 l.0 (first _ _ free)) (mains us h.1 right.1 placed.1 l.1 (second (unit_breaks w.scene w.values u) _ free))
    where
      go : (b : Bool) → MakesAs (main w u) → Each (λ (u : Numbered). MakesAs (main w u)) (filter (λ (u : Numbered). is_main (u.tree).kind) us)
          → Each (λ (u : Numbered). MakesAs (main w u)) (cond b (u ∷ filter (λ (u : Numbered). is_main (u.tree).kind) us) (filter (λ (u : Numbered). is_main (u.tree).kind) us))
      go true x xs = (x, xs)
      go false x xs = xs

  pub main_of : (place : Place) (us : List Numbered) → Each (λ (u : Numbered). MakesAs (main w u)) us → MakesAs (map_or (nothing_done place) (main w) (slice_get us 0))
  main_of place [] h = nothing_makes place
  main_of place (u ∷ us) h = h.0
