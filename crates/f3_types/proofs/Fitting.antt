-- In a program there is room for all that its units and procedures declare.
use Rattle.std.proofs.Common.{◌≡◌, refl, sym, ap, subst, ◌∙◌, inl, inr, ℕ, zero, suc, ◌+◌, ◌≤◌, List, [], ◌∷◌, map, length, take, slice_get, None, Some, arith}
use Rattle.std.specs.List.{flat_map}
use Rattle.std.proofs.lemmas.List.{length-append}
use Rattle.std.proofs.lemmas.Option.{slice_get_cases, slice_get_within}
use Rattle.f3_access.specs.Access.{entities_of, first_entity}
use Rattle.f3_names.specs.Parts.{scope_numbers}
use Rattle.f3_scopes.specs.Outlines.{Scope}
use Rattle.f3_scopes.specs.Scopes.{declared_in, typed_result, procedure_own, scope_of_procedure, procedure_scopes, procedures_from, scope_of_unit, own_scopes, unit_scopes, scopes_from, scopes_of}
use Rattle.f3_tree.specs.declared.expression.Name.{Name}
use Rattle.f3_tree.specs.declared.program.ProcedureKind.{ProcedureKind}
use Rattle.f3_tree.specs.declared.program.ProcedureKind.TheVariants.{Subroutine, Function}
use Rattle.f3_tree.specs.Tree.{ProcedureTree, UnitTree, Tree}
use Rattle.f3_type_rules.specs.Associates.{constructs_of_block}
use Rattle.f3_unit_rules.specs.Members.{typed_count, AreFirsts, Fit}
use Rattle.f3_unit_rules.specs.Units.{UnitFits, UnitsFit, AreNumbers}
use Rattle.f3_phase_laws.proofs.Numbers.{numbers}
use Rattle.f3_order_laws.proofs.Constructs.{block_long}
use Rattle.f3_order_laws.proofs.Places.{Lies, lies_right, start, unit_lies, first_more}

-- ---- the numbers of the units

pub numbers_are : (t : Tree) (numbers : List ℕ) → numbers ≡ scope_numbers 0 t.units → AreNumbers (scopes_of t) numbers t.units
numbers_are t ns same = numbers t ∙ sym same

as_many : (n : ℕ) (us : List UnitTree) → length (scope_numbers n us) ≡ length us
as_many n [] = refl
as_many n (u ∷ us) = ap suc (as_many (n + length (unit_scopes n u)) us)

pub numbers_long : (t : Tree) (numbers : List ℕ) → numbers ≡ scope_numbers 0 t.units → length numbers ≡ length t.units
numbers_long t ns same = ap length same ∙ as_many 0 t.units

-- the number of a unit is that of the scope where it starts
number_at : (i n m : ℕ) (us : List UnitTree) → slice_get (scope_numbers n us) i ≡ Some m → m ≡ start i n us
number_at i n m [] at = absurd (let past = slice_get_within [] i m at in omega arith)
number_at zero n m (u ∷ us) at = let same : m ≡ n = cc in same
number_at (suc i) n m (u ∷ us) at = number_at i (n + length (unit_scopes n u)) m us at

-- ---- the entities of a scope

first_within : (scopes : List Scope) (n : ℕ) → first_entity scopes n ≤ length (entities_of scopes)
first_within scopes zero = omega arith
first_within [] (suc n) = omega arith
first_within (s ∷ ss) (suc n) =
    let within = first_within ss n in
    let one = length-append s.declared (entities_of (take n ss)) in
    let two = length-append s.declared (entities_of ss) in
    omega (arith, within, one, two)

-- there is room for what a scope declares
room_for : (scopes : List Scope) (firsts : List ℕ) → AreFirsts scopes firsts → length firsts ≡ length scopes → (n : ℕ) (s : Scope) → slice_get scopes n ≡ Some s
    → (e : ℕ) × (slice_get firsts n ≡ Some e) × (e + length s.declared ≤ length (entities_of scopes))
room_for scopes firsts are long n s at = elim (slice_get_cases firsts n).1 [
  | inl h ↦
      let first = are n h.0 h.2 in
      let more = first_more scopes n s at in
      let within = first_within scopes (n + 1) in
      (h.0, h.2, omega (arith, first, more, within))
  | inr h ↦
      let past = h.0 in
      let there = slice_get_within scopes n s at in
      absurd (omega (arith, past, there, long))
]

-- what stands first in a part of the scopes
at_first : (scopes : List Scope) (n : ℕ) (s : Scope) (ss : List Scope) → Lies scopes n (s ∷ ss) → slice_get scopes n ≡ Some s
at_first scopes n s ss lies = subst (λ k. slice_get scopes k ≡ Some s) (let e : n + 0 ≡ n = omega arith in e) (lies 0 s refl)

-- ---- procedures

typed_long : (k : ProcedureKind) (n : Name) → length (typed_result k n) ≡ typed_count k
typed_long Subroutine n = refl
typed_long (Function None outcome) n = refl
typed_long (Function (Some s) outcome) n = refl

procedures_fit : (scopes : List Scope) (firsts : List ℕ) → AreFirsts scopes firsts → length firsts ≡ length scopes → (host n : ℕ) (ps : List ProcedureTree)
    → Lies scopes n (procedures_from host n ps) → n + length (procedures_from host n ps) ≤ length scopes → Fit firsts (length (entities_of scopes)) n ps
procedures_fit scopes firsts are long host n [] lies end = omega (arith, long, end)
procedures_fit scopes firsts are long host n (p ∷ ps) lies end =
    let next = n + length (procedure_scopes host n p) in
    let later = procedures_from host next ps in
    let result = typed_result (p.header).kind (p.header).name in
    let specified = flat_map declared_in (p.part).specifications in
    let room = room_for scopes firsts are long n (scope_of_procedure host p) (at_first scopes n (scope_of_procedure host p) _ lies) in
    let fits = room.2 in
    let declared = length-append result specified in
    let typed = typed_long (p.header).kind (p.header).name in
    let count = block_long n (p.header).name (n + 1) p.body in
    let step : next ≡ n + 1 + length (constructs_of_block p.body) = omega (arith, count) in
    let both = length-append (procedure_scopes host n p) later in
    let rest = procedures_fit scopes firsts are long host next ps (lies_right scopes n (procedure_scopes host n p) later lies) (omega (arith, end, both)) in
    ((room.0, room.1, omega (arith, fits, declared, typed)), subst (λ k. Fit firsts (length (entities_of scopes)) k ps) step rest)

-- ---- units

unit_ends : (i n : ℕ) (us : List UnitTree) (u : UnitTree) → slice_get us i ≡ Some u → start i n us + length (unit_scopes (start i n us) u) ≤ n + length (scopes_from n us)
unit_ends i n [] u at = absurd (let past = slice_get_within [] i u at in omega arith)
unit_ends zero n (x ∷ us) u at =
    let same : x ≡ u = cc in
    let both = length-append (unit_scopes n x) (scopes_from (n + length (unit_scopes n x)) us) in
    subst (λ y. n + length (unit_scopes n y) ≤ n + length (scopes_from n (x ∷ us))) same (omega (arith, both))
unit_ends (suc i) n (x ∷ us) u at =
    let ends = unit_ends i (n + length (unit_scopes n x)) us u at in
    let both = length-append (unit_scopes n x) (scopes_from (n + length (unit_scopes n x)) us) in
    omega (arith, ends, both)

unit_fits : (scopes : List Scope) (firsts : List ℕ) → AreFirsts scopes firsts → length firsts ≡ length scopes → (n : ℕ) (u : UnitTree)
    → Lies scopes n (unit_scopes n u) → n + length (unit_scopes n u) ≤ length scopes → UnitFits firsts (length (entities_of scopes)) n u
unit_fits scopes firsts are long n u lies end =
    let next = n + length (own_scopes n u) in
    let later = procedures_from n next u.procedures in
    let specified = flat_map declared_in (u.part).specifications in
    let room = room_for scopes firsts are long n (scope_of_unit u) (at_first scopes n (scope_of_unit u) _ lies) in
    let fits = room.2 in
    let declared = length-append specified (map procedure_own u.procedures) in
    let count = block_long n u.name (n + 1) u.body in
    let step : next ≡ n + 1 + length (constructs_of_block u.body) = omega (arith, count) in
    let both = length-append (own_scopes n u) later in
    let rest = procedures_fit scopes firsts are long n next u.procedures (lies_right scopes n (own_scopes n u) later lies) (omega (arith, end, both)) in
    ((room.0, room.1, omega (arith, fits, declared)), subst (λ k. Fit firsts (length (entities_of scopes)) k u.procedures) step rest)

whole_lies : (scopes : List Scope) → Lies scopes 0 scopes
whole_lies scopes p s at = subst (λ k. slice_get scopes k ≡ Some s) (let e : p ≡ 0 + p = omega arith in e) at

pub units_fit : (t : Tree) (firsts numbers : List ℕ) → AreFirsts (scopes_of t) firsts → length firsts ≡ length (scopes_of t) → numbers ≡ scope_numbers 0 t.units
    → UnitsFit firsts (length (entities_of (scopes_of t))) numbers t.units
units_fit t firsts ns are long same i n u at_number at =
    let scopes = scopes_of t in
    let from = start i 0 t.units in
    let here : n ≡ from = number_at i 0 n t.units (ap (λ l. slice_get l i) (sym same) ∙ at_number) in
    let ends = unit_ends i 0 t.units u at in
    subst (λ k. UnitFits firsts (length (entities_of scopes)) k u) (sym here)
    (unit_fits scopes firsts are long from u (unit_lies scopes i 0 t.units u (whole_lies scopes) at) (omega (arith, ends)))
