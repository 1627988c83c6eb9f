-- What a procedure could finalize is what the rules say of it, for whatever type.
use Rattle.std.proofs.Common.{◌≡◌, refl, ap, ◌∙◌, ℕ, ◌+◌, nat_eq, Bool, true, false, not, ◌&&◌, ◌||◌, List, [], ◌∷◌, map, Option, None, Some, if◌then◌else◌}
use Rattle.std.specs.Map.{lookup}
use Rattle.f3_access.specs.Access.{first_entity}
use Rattle.f3_scopes.specs.Outlines.{Scope}
use Rattle.f3_tree.specs.declared.expression.Name.{Name}
use Rattle.f3_tree.specs.declared.program.ProcedureKind.{ProcedureKind}
use Rattle.f3_tree.specs.declared.program.ProcedureKind.TheVariants.{Subroutine, Function}
use Rattle.f3_tree.specs.Tree.{ProcedureTree}
use Rattle.f3_kinds.specs.declared.types.DataType.{DataType}
use Rattle.f3_kinds.specs.declared.types.DataType.TheVariants.{Integer, Logical, Derived}
use Rattle.f3_kinds.specs.Things.{map_or}
use Rattle.f3_type_rules.specs.Finals.{is_out, is_explicit, is_type, dummy_rank, header_rank}
use Rattle.f3_type_rules.specs.Members.{Member, members_from}
use Rattle.f3_type_rules.specs.Names.{Names, Declared, entries, shape_of, intent_of, object_of}
use Rattle.f3_natures.specs.Walk.{count_of}
use Rattle.f3_finals.specs.declared.candidate.Candidate.{Candidate}
use Rattle.f3_finals.specs.Candidates.{rank_for, member_rank}
use Rattle.f3_finals.specs.Inner.Candidates.{typed_candidate, candidate_of, candidate_in, candidates_from}

for_typed : (t r : ℕ) (d : Option DataType) → rank_for t (typed_candidate r d) ≡ (if is_type t d then Some r else None)
for_typed t r None = refl
for_typed t r (Some (Integer k)) = refl
for_typed t r (Some Logical) = refl
for_typed t r (Some (Derived e)) = refl

for_if : (t : ℕ) (b : Bool) (c : Option Candidate) → rank_for t (if b then None else c) ≡ (if b then None else rank_for t c)
for_if t true c = refl
for_if t false c = refl

fits_all : (r : ℕ) (b a o x : Bool) → (if a || o || x then None else (if b then Some r else None)) ≡ (if b && not a && not o && not x then Some r else None)
fits_all r true true true true = refl
fits_all r true true true false = refl
fits_all r true true false true = refl
fits_all r true true false false = refl
fits_all r true false true true = refl
fits_all r true false true false = refl
fits_all r true false false true = refl
fits_all r true false false false = refl
fits_all r false true true true = refl
fits_all r false true true false = refl
fits_all r false true false true = refl
fits_all r false true false false = refl
fits_all r false false true true = refl
fits_all r false false true false = refl
fits_all r false false false true = refl
fits_all r false false false false = refl

dummy_same : (names : Names) (t scope : ℕ) (x : Declared) → rank_for t (candidate_of names scope x) ≡ dummy_rank names t scope x
dummy_same names t scope x =
    let o = object_of names scope x in
    let a = o.is_allocatable in
    let out = is_out (intent_of x) in
    let e = is_explicit (shape_of x) in
    for_if t (a || out || e) (typed_candidate o.rank o.data_type)
    ∙ ap (λ (r : Option ℕ). if a || out || e then None else r) (for_typed t o.rank o.data_type)
    ∙ fits_all o.rank (is_type t o.data_type) a out e

found_same : (names : Names) (t scope : ℕ) (o : Option Declared) → rank_for t (map_or None (candidate_of names scope) o) ≡ map_or None (dummy_rank names t scope) o
found_same names t scope None = refl
found_same names t scope (Some x) = dummy_same names t scope x

made_same : (names : Names) (t e scope first : ℕ) (p : ProcedureTree) (k : ProcedureKind) (ns : List Name)
    → rank_for t (candidate_in names scope k ns (p.part).specifications) ≡ header_rank names t record { entity = e; scope = scope; first = first; tree = p } k ns
made_same names t e scope first p Subroutine [] = refl
made_same names t e scope first p Subroutine (n ∷ []) = found_same names t scope (lookup (nat_eq n.symbol) (entries (p.part).specifications))
made_same names t e scope first p Subroutine (n ∷ m ∷ ns) = refl
made_same names t e scope first p (Function s outcome) ns = refl

pub candidates_same : (names : Names) (scopes : List Scope) (t e scope : ℕ) (ps : List ProcedureTree)
    → map (rank_for t) (candidates_from names scope ps) ≡ map (member_rank names t) (members_from scopes e scope ps)
candidates_same names scopes t e scope [] = refl
candidates_same names scopes t e scope (p ∷ ps) =
    let m : Member = record { entity = e; scope = scope; first = first_entity scopes scope; tree = p } in
    let next = scope + 1 + count_of p.body in
    ap (λ (r : Option ℕ). r ∷ map (rank_for t) (candidates_from names next ps)) (made_same names t e scope (first_entity scopes scope) p (p.header).kind (p.header).dummies)
    ∙ ap (λ (rs : List (Option ℕ)). member_rank names t m ∷ rs) (candidates_same names scopes t (e + 1) next ps)
