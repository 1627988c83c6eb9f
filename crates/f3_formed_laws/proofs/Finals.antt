-- A final subroutine has one dummy, of its rank and not allocatable; and types make sense.
use Rattle.std.proofs.Common.{◌≡◌, ℕ, suc, ◌+◌, Bool, true, false, ◌&&◌, not, List, [], ◌∷◌, map, nat_eq, Option, None, Some, refl, sym, ap, ◌∙◌, if◌then◌else◌, arith}
use Rattle.std.specs.Prelude.{slice_get}
use Rattle.std.specs.List.{flat_map}
use Rattle.std.specs.Map.{lookup}
use mathlib.Core.Path.{subst}
use Rattle.f3_lookups.specs.declared.lookup.Lookup.{Lookup}
use Rattle.f3_lookups.specs.declared.lookup.Lookup.TheVariants.{One, Nothing, Several}
use Rattle.f3_tree.specs.declared.expression.Name.{Name}
use Rattle.f3_tree.specs.declared.program.ProcedureKind.{ProcedureKind}
use Rattle.f3_tree.specs.declared.program.ProcedureKind.TheVariants.{Subroutine, Function}
use Rattle.f3_program.specs.declared.declarations.Component as c
use Rattle.f3_program.specs.declared.declarations.Derived.{Derived}
use Rattle.f3_program.specs.declared.declarations.Final.{Final}
use Rattle.f3_program.specs.declared.program.Dummy as program
use Rattle.f3_program.specs.declared.program.Procedure.{Procedure}
use Rattle.f3_program.specs.declared.program.Program.{Program}
use Rattle.f3_kinds.specs.declared.types.Object.{Object}
use Rattle.f3_kinds.specs.Things.{map_or}
use Rattle.f3_meaning_whole.specs.Permitted.{Each}
use Rattle.f3_meaning_whole.specs.Formed as formed
use Rattle.f3_meaning_whole.specs.Formed.{all, is_final, are_types}
use Rattle.f3_type_rules.specs.Finals.{is_type, is_out, is_explicit, dummy_rank, header_rank, member_at, final_rank}
use Rattle.f3_type_rules.specs.Members.{Member}
use Rattle.f3_type_rules.specs.Names.{Names, Declared, intent_of, shape_of, object_of, undeclared}
use Rattle.f3_elaboration.specs.Nodes.{ComponentNode, DerivedNode, DummyNode, ProcedureNode}
use Rattle.f3_elaboration.specs.Numbers.{Definition, number_in, entity_of}
use Rattle.f3_elaboration.specs.Declarations.{Whole, final, finals, derived, components}
use Rattle.f3_elaboration.specs.DeclaredViews.{component_view, derived_view, dummy_view}
use Rattle.f3_elaboration.specs.Units.{declarations_in, dummy}
use Rattle.f3_lawful_laws.proofs.Numbered.{IsProcedure}
use Rattle.f3_lawful_laws.proofs.Finals.{HasProcedures}
use Rattle.f3_lawful_laws.proofs.Facts.{not_nil, nothing, same, both, left, right, negated_back}
use Rattle.f3_lawful_laws.proofs.Positions.{eq_same, eq_self}
use Rattle.f3_formed_laws.specs.Nodes.{is_declared}
use Rattle.f3_formed_laws.specs.Entities.{StandsBehind}
use Rattle.f3_formed_laws.proofs.Facts.{all_each, all_seen, each_joined}
use Rattle.f3_formed_laws.proofs.Listed.{IsDefinitionRight, components_listed}

abbrev rest : {A : Type 0} → List A → List A
rest [] = []
rest (x ∷ xs) = xs

if_some : {A : Type 0} (b : Bool) (x y : A) → (if b then Some x else None) ≡ Some y → (b ≡ true) × (x ≡ y)
if_some true x y e = (refl, same e)
if_some false x y e = nothing e

-- a list with one element
single : {A B : Type 0} (f : A → B) (xs : List A) (y : B) → map f xs ≡ y ∷ [] → (x : A) × (xs ≡ x ∷ []) × (f x ≡ y)
single f [] y e = not_nil (sym e)
single f (x ∷ []) y e = (x, refl, same (ap (λ zs. slice_get zs 0) e))
single f (x ∷ z ∷ xs) y e = not_nil (ap rest e)

module _ (p : Program) (w : Whole) (unit : ℕ) where
  abbrev names : Names
  names = (w.scene).names

  -- the only dummy
  record Only (m : Member) (ds : List Name) (rank : ℕ) : Type 0 where
    pub dummy_name : Name
    pub only : ds ≡ dummy_name ∷ []
    pub ranked : ((dummy w unit m dummy_name).kind).rank ≡ rank
    pub plain : ((dummy w unit m dummy_name).kind).is_allocatable ≡ false

  only_dummy : (m : Member) (t : ℕ) (k : ProcedureKind) (ds : List Name) (rank : ℕ) → header_rank names t m k ds ≡ Some rank → Only m ds rank
  only_dummy m t Subroutine [] rank e = nothing e
  only_dummy m t Subroutine (d ∷ c ∷ ds) rank e = nothing e
  only_dummy m t (Function s outcome) ds rank e = nothing e
  only_dummy m t Subroutine (d ∷ []) rank e = go (lookup (nat_eq d.symbol) (declarations_in m)) refl e
    where
      go : (o : Option Declared) → lookup (nat_eq d.symbol) (declarations_in m) ≡ o → map_or None (dummy_rank names t m.scope) o ≡ Some rank → Only m (d ∷ []) rank
      go None at e = nothing e
      go (Some x) at e =
          let o : Object = object_of names m.scope x in
          let held = if_some (is_type t o.data_type && not o.is_allocatable && not (is_out (intent_of x)) && not (is_explicit (shape_of x))) o.rank rank e in
          record {
            dummy_name = d;
            only = refl;
            ranked = ap (λ z. (map_or undeclared (object_of names m.scope) z).rank) at ∙ held.1;
            plain =
                ap (λ z. (map_or undeclared (object_of names m.scope) z).is_allocatable) at
                ∙ negated_back o.is_allocatable (right (is_type t o.data_type) _ (left _ _ (left _ _ held.0)));
          }

  member_final : (m : Member) (t rank : ℕ) → IsProcedure p w unit m → header_rank names t m ((m.tree).header).kind ((m.tree).header).dummies ≡ Some rank
      → is_final p (record { rank = rank; procedure = number_in (w.numbers).procedures m.entity }) ≡ true
  member_final m t rank h e =
      let d : Only m ((m.tree).header).dummies rank = only_dummy m t ((m.tree).header).kind ((m.tree).header).dummies rank e in
      let x = single dummy_view (h.procedure).dummies.items (dummy w unit m d.dummy_name) (ap (λ (y : ProcedureNode). y.dummies) h.is ∙ ap (map (dummy w unit m)) d.only) in
      finished h.procedure x.0 h.there x.1 (both (nat_eq (x.0).kind.rank rank) _ (ap (λ (y : DummyNode). nat_eq (y.kind).rank rank) x.2 ∙ ap (λ k. nat_eq k rank) d.ranked ∙ eq_self rank)
      (ap (λ (y : DummyNode). not (y.kind).is_allocatable) x.2 ∙ ap not d.plain))
    where
      finished : (q : Procedure) (x : program.Dummy) → slice_get p.procedures.items (number_in (w.numbers).procedures m.entity) ≡ Some q → q.dummies.items ≡ x ∷ []
          → (nat_eq x.kind.rank rank && not x.kind.is_allocatable) ≡ true → is_final p (record { rank = rank; procedure = number_in (w.numbers).procedures m.entity }) ≡ true
      finished q x there only e = rw there (rw only e)

  found : (ms : List Member) (e : ℕ) (m : Member) → Each (IsProcedure p w unit) ms → lookup (nat_eq e) (map (λ (m : Member). (m.entity, m)) ms) ≡ Some m
      → (m.entity ≡ e) × IsProcedure p w unit m
  found [] e m h f = nothing f
  found (x ∷ ms) e m h f = go (nat_eq e x.entity) refl f (λ g. found ms e m h.1 g)
    where
      go : (b : Bool) → nat_eq e x.entity ≡ b → (if b then Some x else lookup (nat_eq e) (map (λ (m : Member). (m.entity, m)) ms)) ≡ Some m
          → (lookup (nat_eq e) (map (λ (m : Member). (m.entity, m)) ms) ≡ Some m → (m.entity ≡ e) × IsProcedure p w unit m)
          → (m.entity ≡ e) × IsProcedure p w unit m
      go true b f more = subst (λ (z : Member). (z.entity ≡ e) × IsProcedure p w unit z) (same f) (sym (eq_same e x.entity b), h.0)
      go false b f more = more f

  final_is : (ms : List Member) (scope t rank : ℕ) (n : Name) → Each (IsProcedure p w unit) ms → final_rank names scope ms t n ≡ Some rank
      → is_final p (record { rank = rank; procedure = number_in (w.numbers).procedures (entity_of (names.look scope n.symbol)) }) ≡ true
  final_is ms scope t rank n h e = by_look (names.look scope n.symbol) refl e
    where
      by_member : (entity : ℕ) → names.look scope n.symbol ≡ One entity → (o : Option Member) → lookup (nat_eq entity) (map (λ (m : Member). (m.entity, m)) ms) ≡ o
          → map_or None (λ (m : Member). header_rank names t m ((m.tree).header).kind ((m.tree).header).dummies) o ≡ Some rank
          → is_final p (record { rank = rank; procedure = number_in (w.numbers).procedures (entity_of (names.look scope n.symbol)) }) ≡ true
      by_member entity looked None there e = nothing e
      by_member entity looked (Some m) there e =
          let f = found ms entity m h there in
          subst (λ z. is_final p (record { rank = rank; procedure = number_in (w.numbers).procedures z }) ≡ true)
          (f.0 ∙ sym (ap entity_of looked)) (member_final m t rank f.1 e)

      by_look : (l : Lookup) → names.look scope n.symbol ≡ l
          → map_or None (λ (m : Member). header_rank names t m ((m.tree).header).kind ((m.tree).header).dummies) (member_at ms l) ≡ Some rank
          → is_final p (record { rank = rank; procedure = number_in (w.numbers).procedures (entity_of (names.look scope n.symbol)) }) ≡ true
      by_look (One entity) looked e = by_member entity looked _ refl e
      by_look Nothing looked e = nothing e
      by_look Several looked e = nothing e

-- ---- all types

module _ (p : Program) (w : Whole) where
  finals_are : (d : Definition) → HasProcedures p w d → Each (λ (f : Final). is_final p f ≡ true) (finals w d)
  finals_are d h = go (d.tree).finals
    where
      one : (n : Name) (o : Option ℕ) → final_rank (w.scene).names (d.unit).scope (d.unit).members d.entity n ≡ o
          → Each (λ (f : Final). is_final p f ≡ true) (map_or [] (λ rank. final w d.unit n rank ∷ []) o)
      one n None e = tt
      one n (Some rank) e = (final_is p w (d.unit).scope (d.unit).members (d.unit).scope d.entity rank n h e, tt)

      go : (ns : List Name) → Each (λ (f : Final). is_final p f ≡ true) (flat_map (λ (n : Name). map_or [] (λ rank. final w d.unit n rank ∷ [])
          (final_rank (w.scene).names (d.unit).scope (d.unit).members d.entity n)) ns)
      go [] = tt
      go (n ∷ ns) =
          each_joined (λ (f : Final). is_final p f ≡ true) (map_or [] (λ rank. final w d.unit n rank ∷ []) (final_rank (w.scene).names (d.unit).scope (d.unit).members d.entity n)) _
          (one n _ refl) (go ns)

  pub types_are : (k : ℕ) (ys : List Derived) (ds : List Definition) → map derived_view ys ≡ map (derived w) ds → Each (IsDefinitionRight w.scene) ds → Each (HasProcedures p w) ds
      → ((i : ℕ) (d : Definition) → slice_get ds i ≡ Some d → StandsBehind w (k + i) d) → are_types p k ys ≡ true
  types_are k [] ds e right h below = refl
  types_are k (y ∷ ys) [] e right h below = not_nil e
  types_are k (y ∷ ys) (d ∷ ds) e right h below =
      let here : derived_view y ≡ derived w d = same (ap (λ zs. slice_get zs 0) e) in
      let zero_more : k + 0 ≡ k = omega arith in
      both (all (λ (c : c.Component). formed.is_declared k c.declared) y.components.items) _
      (all_seen (λ (c : c.Component). formed.is_declared k c.declared) (λ (c : ComponentNode). is_declared k c.declared) component_view (λ x. refl) y.components.items
      ∙ ap (λ (z : DerivedNode). all (λ (c : ComponentNode). is_declared k c.declared) z.components) here
      ∙ all_each (λ (c : ComponentNode). is_declared k c.declared) (components w d)
      (components_listed w k d right.0 (subst (λ j. StandsBehind w j d) zero_more (below 0 d refl))))
      (both (all (is_final p) y.finals.items) _
      (ap (λ (z : DerivedNode). all (is_final p) z.finals) here ∙ all_each (is_final p) (finals w d) (finals_are d h.0))
      (types_are (suc k) ys ds (ap rest e) right.1 h.1
      (λ i z at. subst (λ j. StandsBehind w j z) (let q : k + suc i ≡ suc k + i = omega arith in q) (below (suc i) z at))))
