-- A final subroutine has a dummy of its type.
use Rattle.std.proofs.Common.{◌≡◌, ℕ, suc, ◌+◌, Bool, true, false, ◌&&◌, not, List, [], ◌∷◌, ◌++◌, map, nat_eq, Option, None, Some, refl, sym, ap, ◌∙◌, if◌then◌else◌, arith}
use Rattle.std.specs.Prelude.{slice_get, slice_index_or}
use Rattle.std.specs.List.{flat_map}
use Rattle.std.specs.Map.{lookup}
use mathlib.Core.Path.{subst}
use Rattle.f3_lookups.specs.declared.lookup.Lookup.{Lookup}
use Rattle.f3_lookups.specs.declared.lookup.Lookup.TheVariants.{One, Nothing, Several}
use Rattle.f3_tree.specs.declared.expression.Name.{Name}
use Rattle.f3_tree.specs.declared.program.ProcedureKind.{ProcedureKind}
use Rattle.f3_tree.specs.declared.program.ProcedureKind.TheVariants.{Subroutine, Function}
use Rattle.f3_program.specs.declared.declarations.Base.TheVariants as base_is
use Rattle.f3_program.specs.declared.declarations.Derived.{Derived}
use Rattle.f3_program.specs.declared.program.Dummy as program
use Rattle.f3_program.specs.declared.program.Procedure.{Procedure}
use Rattle.f3_program.specs.declared.program.Program.{Program}
use Rattle.f3_kinds.specs.declared.types.DataType as kinds
use Rattle.f3_kinds.specs.declared.types.DataType.TheVariants as data_type
use Rattle.f3_kinds.specs.declared.types.Object.{Object}
use Rattle.f3_kinds.specs.Things.{map_or}
use Rattle.f3_meaning_whole.specs.Permitted.{Each, Lendable, unknown, is_in, dummies_in, names_of, names_in, IsFinalOf, HaveFinals}
use Rattle.f3_type_rules.specs.Finals.{is_type, is_out, is_explicit, dummy_rank, header_rank, member_at, final_rank}
use Rattle.f3_type_rules.specs.Members.{Member}
use Rattle.f3_type_rules.specs.Names.{Names, Declared, object_of, intent_of, shape_of, undeclared}
use Rattle.f3_elaboration.specs.Nodes.{DerivedNode, DummyNode, ProcedureNode}
use Rattle.f3_elaboration.specs.Numbers.{number_in, entity_of, base_of, Definition}
use Rattle.f3_elaboration.specs.Declarations.{Whole, final, finals, derived}
use Rattle.f3_elaboration.specs.DeclaredViews.{derived_view, dummy_view, procedure_view}
use Rattle.f3_elaboration.specs.Units.{declarations_in, dummy, procedure}
use Rattle.f3_lawful_laws.proofs.Numbered.{IsProcedure}
use Rattle.f3_lawful_laws.proofs.Facts.{no, not_nil, nothing, same, left}
use Rattle.f3_lawful_laws.proofs.Positions.{eq_same}
use Rattle.f3_lawful_laws.proofs.Passing.{alike_by}

-- the type that is asked for
of_type : (t : ℕ) (d : Option kinds.DataType) → is_type t d ≡ true → d ≡ Some (data_type.Derived t)
of_type t None e = no (sym e)
of_type t (Some (data_type.Integer k)) e = no (sym e)
of_type t (Some data_type.Logical) e = no (sym e)
of_type t (Some (data_type.Derived u)) e = ap (λ z. Some (data_type.Derived z)) (eq_same u t e)

if_some : {A : Type 0} (b : Bool) (x y : A) → (if b then Some x else None) ≡ Some y → b ≡ true
if_some true x y e = refl
if_some false x y e = nothing e

module _ (p : Program) (w : Whole) (unit : ℕ) where
  abbrev names : Names
  names = (w.scene).names

  -- what is known of a dummy, by its data
  abbrev lendable_node : DummyNode → Lendable
  lendable_node d = record { may_define = not (is_in d.intent); of = (d.kind).of }

  -- the only dummy of a procedure with one
  one_dummy : (m : Member) (q : Procedure) (d : Name) → procedure_view q ≡ procedure w unit m → ((m.tree).header).dummies ≡ d ∷ []
      → slice_index_or (names_of q.dummies.items) 0 unknown ≡ lendable_node (dummy w unit m d)
  one_dummy m q d seen only =
      go q.dummies.items (ap (λ (y : ProcedureNode). y.dummies) seen ∙ ap (map (dummy w unit m)) only)
    where
      go : (ds : List program.Dummy) → map dummy_view ds ≡ dummy w unit m d ∷ [] → slice_index_or (names_of ds) 0 unknown ≡ lendable_node (dummy w unit m d)
      go [] e = not_nil (sym e)
      go (x ∷ ds) e = ap lendable_node (same (ap (λ zs. slice_get zs 0) e))

  found : (ms : List Member) (e : ℕ) (m : Member) → Each (IsProcedure p w unit) ms → lookup (nat_eq e) (map (λ (m : Member). (m.entity, m)) ms) ≡ Some m
      → (m.entity ≡ e) × IsProcedure p w unit m
  found [] e m h f = nothing f
  found (x ∷ ms) e m h f = go (nat_eq e x.entity) refl f (λ g. found ms e m h.1 g)
    where
      go : (b : Bool) → nat_eq e x.entity ≡ b → (if b then Some x else lookup (nat_eq e) (map (λ (m : Member). (m.entity, m)) ms)) ≡ Some m
          → (lookup (nat_eq e) (map (λ (m : Member). (m.entity, m)) ms) ≡ Some m → (m.entity ≡ e) × IsProcedure p w unit m)
          → (m.entity ≡ e) × IsProcedure p w unit m
      go true b f more = subst (λ (z : Member). (z.entity ≡ e) × IsProcedure p w unit z) (same f) (sym (eq_same e x.entity b), h.0)
      go false b f more = more f

  -- the type of the only dummy
  typed : (m : Member) (t : ℕ) (k : ProcedureKind) (ds : List Name) (rank : ℕ) → header_rank names t m k ds ≡ Some rank
      → (d : Name) × (ds ≡ d ∷ []) × (((dummy w unit m d).kind).of ≡ base_is.Derived (number_in (w.numbers).types t))
  typed m t Subroutine [] rank e = nothing e
  typed m t Subroutine (d ∷ c ∷ ds) rank e = nothing e
  typed m t (Function s outcome) ds rank e = nothing e
  typed m t Subroutine (d ∷ []) rank e = (d, refl, go (lookup (nat_eq d.symbol) (declarations_in m)) refl e)
    where
      go : (o : Option Declared) → lookup (nat_eq d.symbol) (declarations_in m) ≡ o → map_or None (dummy_rank names t m.scope) o ≡ Some rank
          → ((dummy w unit m d).kind).of ≡ base_is.Derived (number_in (w.numbers).types t)
      go None at e = nothing e
      go (Some x) at e =
          let o : Object = object_of names m.scope x in
          let held = if_some (is_type t o.data_type && not o.is_allocatable && not (is_out (intent_of x)) && not (is_explicit (shape_of x))) o.rank rank e in
          ap (λ z. base_of w.numbers (map_or undeclared (object_of names m.scope) z).data_type) at
          ∙ ap (base_of w.numbers) (of_type t o.data_type (left _ _ (left _ _ (left _ _ held))))

  -- a procedure with a rank, by its number
  member_final : (m : Member) (t i rank : ℕ) → IsProcedure p w unit m → number_in (w.numbers).types t ≡ i
      → header_rank names t m ((m.tree).header).kind ((m.tree).header).dummies ≡ Some rank
      → IsFinalOf p i (record { rank = rank; procedure = number_in (w.numbers).procedures m.entity })
  member_final m t i rank h number e =
      let d = typed m t ((m.tree).header).kind ((m.tree).header).dummies rank e in
      let known : slice_index_or (names_in p (number_in (w.numbers).procedures m.entity)) 0 unknown ≡ lendable_node (dummy w unit m d.0) =
      ap (λ o. slice_index_or (names_of (dummies_in o)) 0 unknown) h.there ∙ one_dummy m h.procedure d.0 h.is d.1 in
      alike_by (base_is.Derived i) _ (sym (ap (λ (z : Lendable). z.of) known ∙ d.2 ∙ ap base_is.Derived number))

  final_is : (ms : List Member) (scope t i rank : ℕ) (n : Name) → Each (IsProcedure p w unit) ms → number_in (w.numbers).types t ≡ i
      → final_rank names scope ms t n ≡ Some rank
      → IsFinalOf p i (record { rank = rank; procedure = number_in (w.numbers).procedures (entity_of (names.look scope n.symbol)) })
  final_is ms scope t i rank n h number e = by_look (names.look scope n.symbol) refl e
    where
      by_member : (entity : ℕ) → names.look scope n.symbol ≡ One entity → (o : Option Member) → lookup (nat_eq entity) (map (λ (m : Member). (m.entity, m)) ms) ≡ o
          → map_or None (λ (m : Member). header_rank names t m ((m.tree).header).kind ((m.tree).header).dummies) o ≡ Some rank
          → IsFinalOf p i (record { rank = rank; procedure = number_in (w.numbers).procedures (entity_of (names.look scope n.symbol)) })
      by_member entity looked None there e = nothing e
      by_member entity looked (Some m) there e =
          let f = found ms entity m h there in
          subst (λ z. IsFinalOf p i (record { rank = rank; procedure = number_in (w.numbers).procedures z }))
          (f.0 ∙ sym (ap entity_of looked)) (member_final m t i rank f.1 number e)

      by_look : (l : Lookup) → names.look scope n.symbol ≡ l
          → map_or None (λ (m : Member). header_rank names t m ((m.tree).header).kind ((m.tree).header).dummies) (member_at ms l) ≡ Some rank
          → IsFinalOf p i (record { rank = rank; procedure = number_in (w.numbers).procedures (entity_of (names.look scope n.symbol)) })
      by_look (One entity) looked e = by_member entity looked _ refl e
      by_look Nothing looked e = nothing e
      by_look Several looked e = nothing e

-- ---- all types

each_joined : {A : Type 0} (P : A → Type 0) (xs ys : List A) → Each P xs → Each P ys → Each P (xs ++ ys)
each_joined P [] ys h k = k
each_joined P (x ∷ xs) ys h k = (h.0, each_joined P xs ys h.1 k)

abbrev rest : {A : Type 0} → List A → List A
rest [] = []
rest (x ∷ xs) = xs

module _ (p : Program) (w : Whole) where
  -- the procedures of the unit of a type have their numbers
  abbrev pub HasProcedures : Definition → Type 0
  HasProcedures d = Each (IsProcedure p w (d.unit).scope) (d.unit).members

  finals_are : (d : Definition) (i : ℕ) → HasProcedures d → number_in (w.numbers).types d.entity ≡ i → Each (IsFinalOf p i) (finals w d)
  finals_are d i h number = go (d.tree).finals
    where
      one : (n : Name) (o : Option ℕ) → final_rank (w.scene).names (d.unit).scope (d.unit).members d.entity n ≡ o
          → Each (IsFinalOf p i) (map_or [] (λ rank. final w d.unit n rank ∷ []) o)
      one n None e = tt
      one n (Some rank) e = (final_is p w (d.unit).scope (d.unit).members (d.unit).scope d.entity i rank n h number e, tt)

      go : (ns : List Name) → Each (IsFinalOf p i) (flat_map (λ (n : Name). map_or [] (λ rank. final w d.unit n rank ∷ [])
          (final_rank (w.scene).names (d.unit).scope (d.unit).members d.entity n)) ns)
      go [] = tt
      go (n ∷ ns) =
          each_joined (IsFinalOf p i) (map_or [] (λ rank. final w d.unit n rank ∷ []) (final_rank (w.scene).names (d.unit).scope (d.unit).members d.entity n)) _
          (one n _ refl) (go ns)

  pub all_finals : (i : ℕ) (ys : List Derived) (ds : List Definition) → map derived_view ys ≡ map (derived w) ds → Each HasProcedures ds
      → ((k : ℕ) (d : Definition) → slice_get ds k ≡ Some d → number_in (w.numbers).types d.entity ≡ i + k) → HaveFinals p i ys
  all_finals i [] ds e h numbers = tt
  all_finals i (y ∷ ys) [] e h numbers = not_nil e
  all_finals i (y ∷ ys) (d ∷ ds) e h numbers =
      let here : derived_view y ≡ derived w d = same (ap (λ zs. slice_get zs 0) e) in (
        subst (Each (IsFinalOf p i)) (sym (ap (λ (z : DerivedNode). z.finals) here))
            (finals_are d i h.0 (numbers 0 d refl ∙ (let z : i + 0 ≡ i = omega arith in z))),
        all_finals (suc i) ys ds (ap rest e) h.1 (λ k z at. numbers (suc k) z at ∙ (let j : i + suc k ≡ suc i + k = omega arith in j)),
      )
