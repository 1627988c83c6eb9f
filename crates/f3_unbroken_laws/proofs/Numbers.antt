-- The procedures of a program by their numbers.
use Rattle.std.proofs.Common.{◌≡◌, refl, sym, ap, subst, ◌∙◌, ℕ, ◌+◌, List, [], ◌∷◌, ◌++◌, length, map, Some, slice_get}
use Rattle.std.specs.List.{flat_map}
use Rattle.f3_lookups.specs.declared.lookup.Lookup.{Lookup}
use Rattle.f3_scopes.specs.Outlines.{Scope}
use Rattle.f3_scopes.specs.Scopes.{unit_scopes, declared_in, scopes_of}
use Rattle.f3_access.specs.Access.{first_entity}
use Rattle.f3_tree.specs.Tree.{ProcedureTree, UnitTree, Tree}
use Rattle.f3_program.specs.declared.program.Procedure.{Procedure}
use Rattle.f3_program.specs.declared.program.Program.{Program}
use Rattle.f3_kinds.specs.Things.{map_or}
use Rattle.f3_type_rules.specs.Associates.{constructs_of_block}
use Rattle.f3_type_rules.specs.Members.{Member, Numbered, members_from, units_from}
use Rattle.f3_type_rules.specs.Program.{units_in}
use Rattle.f3_elaboration.specs.Nodes.{ProgramNode}
use Rattle.f3_elaboration.specs.Declarations.{Whole}
use Rattle.f3_elaboration.specs.DeclaredViews.{procedure_view, program_view}
use Rattle.f3_elaboration.specs.Numbers.{number_in}
use Rattle.f3_elaboration.specs.Program.{elaborated}
use Rattle.f3_elaboration.specs.Units.{procedure}
use Rattle.f3_lawful_laws.specs.Entities.{units_of, whole_of}
use Rattle.f3_lawful_laws.proofs.Opening.{mapped_at, from_mapped}
use Rattle.f3_entity_laws.specs.Things.{of_member, IsHome}
use Rattle.f3_entity_laws.proofs.Found.{procedures}
use Rattle.f3_entity_laws.proofs.Lists.{before, flat_at, flat_block}
use Rattle.f3_unbroken_laws.specs.Laws.{procedures_of, is_pure, pure_in}

-- ---- all procedures, each with its unit

abbrev with_unit : Numbered → List (Numbered × Member)
with_unit u = map (λ (m : Member). (u, m)) u.members

abbrev pairs : List Numbered → List (Numbered × Member)
pairs us = flat_map with_unit us

map_joined : {A B : Type 0} (f : A → B) (xs ys : List A) → map f (xs ++ ys) ≡ map f xs ++ map f ys
map_joined f [] ys = refl
map_joined f (x ∷ xs) ys = ap (λ zs. f x ∷ zs) (map_joined f xs ys)

map_twice : {A B C : Type 0} (f : B → C) (g : A → B) (xs : List A) → map f (map g xs) ≡ map (λ x. f (g x)) xs
map_twice f g [] = refl
map_twice f g (x ∷ xs) = ap (λ zs. f (g x) ∷ zs) (map_twice f g xs)

made : {B : Type 0} (f : Numbered × Member → B) (us : List Numbered)
    → map f (pairs us) ≡ flat_map (λ (u : Numbered). map (λ (m : Member). f (u, m)) u.members) us
made f [] = refl
made f (u ∷ us) =
    map_joined f (with_unit u) (pairs us)
    ∙ ap (λ zs. zs ++ map f (pairs us)) (map_twice f (λ (m : Member). (u, m)) u.members)
    ∙ ap (λ zs. map (λ (m : Member). f (u, m)) u.members ++ zs) (made f us)

members_tree : (scopes : List Scope) (e n : ℕ) (ps : List ProcedureTree) → map (λ (m : Member). m.tree) (members_from scopes e n ps) ≡ ps
members_tree scopes e n [] = refl
members_tree scopes e n (p ∷ ps) = ap (λ l. p ∷ l) (members_tree scopes (e + 1) (n + 1 + length (constructs_of_block p.body)) ps)

trees : (scopes : List Scope) (n : ℕ) (us : List UnitTree)
    → flat_map (λ (u : Numbered). map (λ (m : Member). m.tree) u.members) (units_from scopes n us) ≡ flat_map (λ (u : UnitTree). u.procedures) us
trees scopes n [] = refl
trees scopes n (u ∷ us) =
    ap (λ l. l ++ flat_map (λ (u : Numbered). map (λ (m : Member). m.tree) u.members) (units_from scopes (n + length (unit_scopes n u)) us))
    (members_tree scopes (first_entity scopes n + length (flat_map declared_in (u.part).specifications)) (n + 1 + length (constructs_of_block u.body)) u.procedures)
    ∙ ap (λ l. u.procedures ++ l) (trees scopes (n + length (unit_scopes n u)) us)

pair_home : (us : List Numbered) (k : ℕ) (x : Numbered × Member) → slice_get (pairs us) k ≡ Some x → IsHome us (of_member x.0 x.1)
pair_home us k x at =
    let (i, u, j, at_u, at_j, place) = flat_at with_unit us k x at in
    let (m, at_m, is) = from_mapped (λ (m : Member). (u, m)) u.members j x at_j in
    subst (λ (y : Numbered × Member). IsHome us (of_member y.0 y.1)) is ((i, at_u), (j, at_m))

home_pair : (us : List Numbered) (u : Numbered) (m : Member) → IsHome us (of_member u m) → (k : ℕ) × (slice_get (pairs us) k ≡ Some (u, m))
home_pair us u m home = (
  before with_unit home.0.0 us + home.1.0,
  flat_block with_unit us home.0.0 u home.1.0 (u, m) home.0.1 (mapped_at (λ (m : Member). (u, m)) u.members home.1.0 m home.1.1),
)

module _ (t : Tree) (look : ℕ → ℕ → Lookup) (order : List ℕ) where
  abbrev w : Whole
  w = whole_of t look order

  -- a procedure of the tree with its number
  pub record HasNumber (f : ℕ) (u : Numbered) (m : Member) : Type 0 where
    pub home : IsHome (units_of t) (of_member u m)
    pub number : number_in (w.numbers).procedures m.entity ≡ f
    pub pure : pure_in t f ≡ is_pure m.tree

  has_number : (k : ℕ) (x : Numbered × Member) → slice_get (pairs (units_of t)) k ≡ Some x → HasNumber k x.0 x.1
  has_number k x at =
      let entity : slice_get (w.numbers).procedures k ≡ Some (x.1).entity =
      ap (λ zs. slice_get zs k) (sym (made (λ (z : Numbered × Member). (z.1).entity) (units_of t))) ∙ mapped_at (λ (z : Numbered × Member). (z.1).entity) (pairs (units_of t)) k x at in
      let tree : slice_get (procedures_of t) k ≡ Some (x.1).tree =
      ap (λ zs. slice_get zs k) (sym (made (λ (z : Numbered × Member). (z.1).tree) (units_of t) ∙ trees (scopes_of t) 0 t.units))
      ∙ mapped_at (λ (z : Numbered × Member). (z.1).tree) (pairs (units_of t)) k x at in
      record {
        home = pair_home (units_of t) k x at;
        number = ap (λ o. map_or 0 (λ n. n) o) (procedures t (units_in (units_of t) order) k (x.1).entity entity);
        pure = ap (map_or _ is_pure) tree;
      }

  pub number_pure : (u : Numbered) (m : Member) → IsHome (units_of t) (of_member u m) → pure_in t (number_in (w.numbers).procedures m.entity) ≡ is_pure m.tree
  number_pure u m home =
      let (k, at) = home_pair (units_of t) u m home in
      let h = has_number k (u, m) at in
      ap (pure_in t) h.number ∙ h.pure

  module _ (p : Program) (seen : program_view p ≡ elaborated t look order) where
    nodes : map procedure_view p.procedures.items ≡ map (λ (z : Numbered × Member). procedure w (z.0).scope z.1) (pairs (units_of t))
    nodes = ap (λ (y : ProgramNode). y.procedures) seen ∙ sym (made (λ (z : Numbered × Member). procedure w (z.0).scope z.1) (units_of t))

    -- a procedure of the program is one of the tree
    pub record IsNumbered (f : ℕ) (q : Procedure) : Type 0 where
      pub unit : Numbered
      pub member : Member
      pub has : HasNumber f unit member
      pub node : procedure_view q ≡ procedure w unit.scope member

    pub numbered_one : (f : ℕ) (q : Procedure) → slice_get p.procedures.items f ≡ Some q → IsNumbered f q
    numbered_one f q at =
        let (x, at_x, is) = from_mapped (λ (z : Numbered × Member). procedure w (z.0).scope z.1) (pairs (units_of t)) f (procedure_view q)
        (ap (λ zs. slice_get zs f) (sym nodes) ∙ mapped_at procedure_view p.procedures.items f q at) in
        record { unit = x.0; member = x.1; has = has_number f x at_x; node = sym is }

    -- and one of the tree is one of the program
    pub member_there : (u : Numbered) (m : Member) → IsHome (units_of t) (of_member u m)
        → (q : Procedure) × (slice_get p.procedures.items (number_in (w.numbers).procedures m.entity) ≡ Some q) × (procedure_view q ≡ procedure w u.scope m)
    member_there u m home =
        let (k, at) = home_pair (units_of t) u m home in
        let h = has_number k (u, m) at in
        let (q, at_q, is) = from_mapped procedure_view p.procedures.items k (procedure w u.scope m)
        (ap (λ zs. slice_get zs k) nodes ∙ mapped_at (λ (z : Numbered × Member). procedure w (z.0).scope z.1) (pairs (units_of t)) k (u, m) at) in
        (q, ap (slice_get p.procedures.items) h.number ∙ at_q, is)
