-- A program that breaks no rule makes sense as a whole.
use Rattle.std.proofs.Common.{◌≡◌, ℕ, zero, suc, ◌+◌, ◌<◌, length, arith, Bool, true, List, [], ◌∷◌, map, filter, Option, Some, None, Contains, refl, sym, ap, ◌∙◌}
use Rattle.std.specs.Prelude.{⊤, slice_get}
use Rattle.std.specs.List.{flat_map}
use mathlib.Core.Path.{subst}
use Rattle.f3_access.specs.Access.{first_entity}
use Rattle.f3_rules.specs.declared.breaks.Break.{Break}
use Rattle.f3_scopes.specs.declared.outline.EntityKind.TheVariants.{DerivedType}
use Rattle.f3_scopes.specs.Outlines.{Scope}
use Rattle.f3_scopes.specs.Scopes.{declared_in, scopes_of, unit_scopes}
use Rattle.f3_tree.specs.Declarations.{SpecificationTree, declares, accesses, protects, saves, defines}
use Rattle.f3_tree.specs.Tree.{ProcedureTree, UnitTree}
use Rattle.f3_program.specs.declared.program.Procedure.{Procedure}
use Rattle.f3_program.specs.declared.program.Program.{Program}
use Rattle.f3_program.specs.declared.program.Static as x
use Rattle.f3_kinds.specs.Things.{map_or}
use Rattle.f3_meaning_whole.specs.Permitted.{Each}
use Rattle.f3_meaning_whole.specs.Formed as formed
use Rattle.f3_meaning_whole.specs.Formed.{all, are_types, are_declared, is_procedure}
use Rattle.f3_type_rules.specs.Associates.{constructs_of_block}
use Rattle.f3_type_rules.specs.Declarations.{unit_rows, unit_next}
use Rattle.f3_type_rules.specs.Members.{Member, Numbered, members_from, units_from}
use Rattle.f3_type_rules.specs.Program.{unit_breaks, units_in, nothing_known, program_breaks}
use Rattle.f3_type_rules.specs.Walks.{along}
use Rattle.f3_elaboration.specs.Nodes.{ProgramNode, StaticNode}
use Rattle.f3_elaboration.specs.Declarations.{Whole, variable, static, derived}
use Rattle.f3_elaboration.specs.DeclaredViews.{derived_view, static_view, procedure_view}
use Rattle.f3_elaboration.specs.Numbers.{Variable, Definition, number_in, along_part, types_in, definitions, unit_statics}
use Rattle.f3_elaboration.specs.Program.{is_main}
use Rattle.f3_lawful_laws.specs.Entities.{units_of, whole_of}
use Rattle.f3_lawful_laws.proofs.Facts.{first, second, both, nothing, same}
use Rattle.f3_lawful_laws.proofs.Numbered.{IsProcedure}
use Rattle.f3_lawful_laws.proofs.Numbering.{numbered_all}
use Rattle.f3_lawful_laws.proofs.Ascending.{units_ascend}
use Rattle.f3_lawful_laws.proofs.Finals.{HasProcedures}
use Rattle.f3_lawful_laws.proofs.SeenStatements.{each_seen}
use Rattle.f3_lawful_laws.proofs.Trees.{units_placed, all_lie}
use Rattle.f3_formed_laws.specs.Nodes.{is_declared}
use Rattle.f3_formed_laws.specs.Levels.{IsBlockLevelled, IsUnitLevelled}
use Rattle.f3_formed_laws.specs.Entities.{StandsBehind}
use Rattle.f3_formed_laws.specs.Laws.{UnbrokenMakesSense}
use Rattle.f3_formed_laws.proofs.Facts.{long, all_each, all_seen, each_joined, each_so, each_mapped, each_flat}
use Rattle.f3_formed_laws.proofs.Right.{IsUnitRight, units_right}
use Rattle.f3_formed_laws.proofs.Listed.{statics_listed, all_definitions_right}
use Rattle.f3_formed_laws.proofs.Finals.{types_are}
use Rattle.f3_formed_laws.proofs.Procedures.{IsUnitLevelledThere, MakesAs, units_make, mains, main_of}

nil_of : (bs : List Break) → ((b : Break) → Contains bs b → ⊥) → bs ≡ []
nil_of [] h = refl
nil_of (b ∷ bs) h = absurd (h b (0, (let e : 0 < suc (length bs) = omega arith in e), refl))

-- ---- bodies with levels

members_levelled : (scopes : List Scope) (e n : ℕ) (ps : List ProcedureTree) → Each (λ (p : ProcedureTree). IsBlockLevelled p.body) ps
    → Each (λ (m : Member). IsBlockLevelled (m.tree).body) (members_from scopes e n ps)
members_levelled scopes e n [] h = tt
members_levelled scopes e n (p ∷ ps) h = (h.0, members_levelled scopes (e + 1) (n + 1 + length (constructs_of_block p.body)) ps h.1)

units_levelled : (p : Program) (w : Whole) (types : (e : ℕ) → slice_get ((w.scene).names).kinds e ≡ Some DerivedType → number_in (w.numbers).types e < length p.types.items)
    (scopes : List Scope) (n : ℕ) (us : List UnitTree) → Each IsUnitLevelled us → Each (IsUnitLevelledThere p w types) (units_from scopes n us)
units_levelled p w types scopes n [] h = tt
units_levelled p w types scopes n (u ∷ us) h = (
  (
    (h.0).0,
    members_levelled scopes (first_entity scopes n + length (flat_map declared_in (u.part).specifications)) (n + 1 + length (constructs_of_block u.body)) u.procedures (h.0).1,
  ),
  units_levelled p w types scopes (n + length (unit_scopes n u)) us h.1,
)

-- ---- units along an order

each_get : {A : Type 0} (P : A → Type 0) (xs : List A) (k : ℕ) (x : A) → Each P xs → slice_get xs k ≡ Some x → P x
each_get P [] k x h e = nothing e
each_get P (y ∷ ys) zero x h e = subst P (same e) h.0
each_get P (y ∷ ys) (suc k) x h e = each_get P ys k x h.1 e

ordered_each : (P : Numbered → Type 0) (us : List Numbered) → Each P us → (order : List ℕ) → Each P (units_in us order)
ordered_each P us h order = each_flat (λ (i : ℕ). ⊤) P (λ i. map_or [] (λ (u : Numbered). u ∷ []) (slice_get us i)) (λ i t. one i (slice_get us i) refl) order (all order)
  where
    one : (i : ℕ) (o : Option Numbered) → slice_get us i ≡ o → Each P (map_or [] (λ (u : Numbered). u ∷ []) o)
    one i None e = tt
    one i (Some u) e = (each_get P us i u h e, tt)

    all : (xs : List ℕ) → Each (λ (i : ℕ). ⊤) xs
    all [] = tt
    all (x ∷ xs) = (tt, all xs)

-- the definitions of a unit are its own
module _ (p : Program) (w : Whole) where
  own_procedures : (u : Numbered) → Each (IsProcedure p w u.scope) u.members → Each (HasProcedures p w) (definitions u)
  own_procedures u h = go u.first ((u.tree).part).specifications
    where
      one : (e : ℕ) (s : SpecificationTree) → Each (HasProcedures p w) (types_in u e s)
      one e (declares d) = tt
      one e (accesses a) = tt
      one e (protects q ns) = tt
      one e (saves q) = tt
      one e (defines t) = (h, tt)

      go : (e : ℕ) (ss : List SpecificationTree) → Each (HasProcedures p w) (along_part (types_in u) e ss)
      go e [] = tt
      go e (s ∷ ss) =
          each_joined (HasProcedures p w) (types_in u e s) (along_part (types_in u) (e + length (declared_in s)) ss) (one e s) (go (e + length (declared_in s)) ss)

  -- ---- variables that live for the whole run

  statics_are : (n : ℕ) (us : List Numbered) → Each (λ (v : Variable). is_declared n (variable w v) ≡ true) (flat_map unit_statics us)
      → map static_view p.statics.items ≡ map (static w) (flat_map unit_statics us) → all (λ (y : x.Static). formed.is_declared n y.declared) p.statics.items ≡ true
  statics_are n us h seen =
      all_seen (λ (y : x.Static). formed.is_declared n y.declared) (λ (y : StaticNode). is_declared n y.declared) static_view (λ y. refl) p.statics.items
      ∙ ap (all (λ (y : StaticNode). is_declared n y.declared)) seen
      ∙ all_each (λ (y : StaticNode). is_declared n y.declared) (map (static w) (flat_map unit_statics us))
      (each_mapped (λ (v : Variable). is_declared n (variable w v) ≡ true) (λ (y : StaticNode). is_declared n y.declared ≡ true) (static w) (λ v e. e) (flat_map unit_statics us) h)

first_of : {A : Type 0} (f g : A → Bool) (xs : List A) → Each (λ (y : A). (f y ≡ true) × (g y ≡ true)) xs → (all f xs ≡ true) × (all g xs ≡ true)
first_of f g [] h = (refl, refl)
first_of f g (y ∷ ys) h = let more = first_of f g ys h.1 in (both (f y) _ (h.0).0 more.0, both (g y) _ (h.0).1 more.1)

pub well_formed : UnbrokenMakesSense
well_formed t look order p spelled levelled means seen h none =
    let w : Whole = whole_of t look order in
    let ds : List Definition = flat_map definitions (units_in (units_of t) order) in
    let long_types : length p.types.items ≡ length ds =
    sym (long derived_view p.types.items) ∙ ap length (ap (λ (y : ProgramNode). y.types) seen) ∙ long (derived w) ds in
    let types : (e : ℕ) → slice_get ((w.scene).names).kinds e ≡ Some DerivedType → number_in (w.numbers).types e < length p.types.items =
    λ e is. subst (λ k. number_in (w.numbers).types e < k) (sym long_types) (h.types e is) in
    let nil = nil_of (program_breaks t look order) none in
    let right_ordered : Each (IsUnitRight w.scene) (units_in (units_of t) order) = units_right w.scene nothing_known (units_in (units_of t) order) (first _ _ nil) in
    let right : Each (IsUnitRight w.scene) (units_of t) =
    each_so (λ (u : Numbered). (k : ℕ) × (slice_get (units_in (units_of t) order) k ≡ Some u)) (IsUnitRight w.scene)
    (λ u at. each_get (IsUnitRight w.scene) (units_in (units_of t) order) at.0 u right_ordered at.1) (units_of t) h.all_ordered in
    let free : flat_map (unit_breaks w.scene w.values) (units_of t) ≡ [] =
    second (along (unit_rows w.scene) (unit_next w.scene) nothing_known (units_in (units_of t) order)) _ nil in
    let placed = units_placed (scopes_of t) look means 0 t.units spelled (all_lie (scopes_of t)) in
    let levels = units_levelled p w types (scopes_of t) 0 t.units levelled in
    let numbers : Each (λ (u : Numbered). Each (IsProcedure p w u.scope) u.members) (units_of t) =
    numbered_all p w (units_of t) refl (first_entity (scopes_of t) 0) (units_ascend (scopes_of t) 0 t.units (all_lie (scopes_of t)))
    (ap (λ (y : ProgramNode). y.procedures) seen) in
    let own : Each (HasProcedures p w) ds =
    each_flat (λ (u : Numbered). Each (IsProcedure p w u.scope) u.members) (HasProcedures p w) definitions (own_procedures p w) (units_in (units_of t) order)
    (ordered_each (λ (u : Numbered). Each (IsProcedure p w u.scope) u.members) (units_of t) numbers order) in
    let main_is : MakesAs p w types _ =
    main_of p w types t.end (filter (λ (u : Numbered). is_main (u.tree).kind) (units_of t)) (mains p w types (units_of t) h.units right placed levels free) in
    let in_main = main_is p.main (ap (λ (y : ProgramNode). y.main) seen) in
    let procedures =
    first_of (are_declared p) (is_procedure p) p.procedures.items
    (each_seen (MakesAs p w types) (λ (q : Procedure). (are_declared p q ≡ true) × (is_procedure p q ≡ true)) procedure_view (λ q k. k q refl) p.procedures.items
    (subst (Each (MakesAs p w types)) (sym (ap (λ (y : ProgramNode). y.procedures) seen)) (units_make p w types (units_of t) h.units right placed levels free))) in
    both (are_types p 0 p.types.items) _
    (types_are p w 0 p.types.items ds (ap (λ (y : ProgramNode). y.types) seen) (all_definitions_right w.scene (units_in (units_of t) order) right_ordered) own
    (λ k d at. subst (λ j. StandsBehind w j d) (let z : k ≡ 0 + k = omega arith in z) (h.components k d at)))
    (both (all (λ (y : x.Static). formed.is_declared (length p.types.items) y.declared) p.statics.items) _
    (statics_are p w (length p.types.items) (units_of t) (statics_listed w (length p.types.items) types (units_of t) right) (ap (λ (y : ProgramNode). y.statics) seen))
    (both (all (are_declared p) (p.main ∷ p.procedures.items)) _ (both (are_declared p p.main) _ in_main.0 procedures.0) (both (is_procedure p p.main) _ in_main.1 procedures.1)))
