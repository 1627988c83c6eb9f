-- In a program there is a number for all that its units and procedures declare.
use Rattle.std.proofs.Common.{◌≡◌, refl, sym, ap, subst, ◌∙◌, inl, inr, ℕ, ◌+◌, ◌<◌, ◌≤◌, ◌^◌, List, [], ◌∷◌, ◌++◌, map, drop, get_or, length, take, zero, suc, slice_get, None, Some, arith}
use Rattle.std.specs.List.{flat_map}
use Rattle.std.proofs.lemmas.List.{at_drop_more, length-append, length-map}
use Rattle.std.proofs.lemmas.Option.{slice_get_cases, slice_get_within}
use Rattle.f3_access.specs.Access.{entities_of, first_entity}
use Rattle.f3_names.specs.declared.table.Names.{Names}
use Rattle.f3_names.specs.Entities.{entities_from, entity_of}
use Rattle.f3_names.specs.Tables.{AreNames}
use Rattle.f3_scopes.specs.Outlines.{Scope}
use Rattle.f3_scopes.specs.Scopes.{declared_in, typed_result, procedure_own, scope_of_procedure, procedure_scopes, procedures_from, scope_of_unit, own_scopes, unit_scopes, scopes_from, scopes_of}
use Rattle.f3_tree.specs.declared.expression.Name.{Name}
use Rattle.f3_tree.specs.declared.program.ProcedureKind.{ProcedureKind}
use Rattle.f3_tree.specs.declared.program.ProcedureKind.TheVariants.{Subroutine, Function}
use Rattle.f3_tree.specs.declared.program.Unit.{Unit as ProgramUnit}
use Rattle.f3_tree.specs.Tree.{ProcedureTree, UnitTree, Tree, unit_view}
use Rattle.f3_natures.specs.Walk.{unit_end, unit_start}
use Rattle.f3_natures.proofs.Standing.{units_ends}
use Rattle.f3_type_rules.specs.Associates.{constructs_of_block}
use Rattle.f3_unit_rules.specs.Members.{typed_count, AreFirsts, Fit}
use Rattle.f3_unit_rules.proofs.Walked.{fit_within}
use Rattle.f3_unit_rules.specs.Units.{UnitFits}
use Rattle.f3_order_laws.proofs.Constructs.{block_long}
use Rattle.f3_order_laws.proofs.Places.{Lies, lies_left, lies_right, first_more}
use Rattle.f3_variable_nodes.specs.Inner.Walk.{AllFit}

first_within : (scopes : List Scope) (n : ℕ) → first_entity scopes n ≤ length (entities_of scopes)
first_within scopes zero = omega arith
first_within [] (suc n) = omega arith
first_within (s ∷ ss) (suc n) =
    let within = first_within ss n in
    let one = length-append s.declared (entities_of (take n ss)) in
    let two = length-append s.declared (entities_of ss) in
    omega (arith, within, one, two)

-- there is room for what a scope declares
room_for : (scopes : List Scope) (firsts : List ℕ) (room : ℕ) → AreFirsts scopes firsts → length firsts ≡ length scopes → length (entities_of scopes) ≤ room
    → (n : ℕ) (s : Scope) → slice_get scopes n ≡ Some s → (e : ℕ) × (slice_get firsts n ≡ Some e) × (e + length s.declared ≤ room)
room_for scopes firsts room are long small n s at = elim (slice_get_cases firsts n).1 [
  | inl h ↦
      let first = are n h.0 h.2 in
      let more = first_more scopes n s at in
      let within = first_within scopes (n + 1) in
      (h.0, h.2, omega (arith, first, more, within, small))
  | inr h ↦
      let past = h.0 in
      let there = slice_get_within scopes n s at in
      absurd (omega (arith, past, there, long))
]

-- what stands first in a part of the scopes
at_first : (scopes : List Scope) (n : ℕ) (s : Scope) (ss : List Scope) → Lies scopes n (s ∷ ss) → slice_get scopes n ≡ Some s
at_first scopes n s ss lies = subst (λ k. slice_get scopes k ≡ Some s) (let e : n + 0 ≡ n = omega arith in e) (lies 0 s refl)

typed_long : (k : ProcedureKind) (n : Name) → length (typed_result k n) ≡ typed_count k
typed_long Subroutine n = refl
typed_long (Function None outcome) n = refl
typed_long (Function (Some s) outcome) n = refl

-- the scopes of a unit end where those of its last procedure do
pub unit_ends : (n : ℕ) (u : UnitTree) → unit_end n u ≡ n + length (unit_scopes n u)
unit_ends n u =
    let e : unit_end n u ≡ n + length (unit_scopes n u ++ []) = units_ends n (u ∷ []) in
    let l = length-append (unit_scopes n u) [] in
    omega (arith, e, l)

module _ (scopes : List Scope) (firsts : List ℕ) (room : ℕ) (are : AreFirsts scopes firsts) (long : length firsts ≡ length scopes) (small : length (entities_of scopes) ≤ room) where
  procedures_fit : (host n : ℕ) (ps : List ProcedureTree) → Lies scopes n (procedures_from host n ps) → n + length (procedures_from host n ps) ≤ length scopes → Fit firsts room n ps
  procedures_fit host n [] lies end = omega (arith, long, end)
  procedures_fit host n (p ∷ ps) lies end =
      let next = n + length (procedure_scopes host n p) in
      let later = procedures_from host next ps in
      let result = typed_result (p.header).kind (p.header).name in
      let specified = flat_map declared_in (p.part).specifications in
      let place = room_for scopes firsts room are long small n (scope_of_procedure host p) (at_first scopes n (scope_of_procedure host p) _ lies) in
      let fits = place.2 in
      let declared = length-append result specified in
      let typed = typed_long (p.header).kind (p.header).name in
      let count = block_long n (p.header).name (n + 1) p.body in
      let step : next ≡ n + 1 + length (constructs_of_block p.body) = omega (arith, count) in
      let both = length-append (procedure_scopes host n p) later in
      let rest = procedures_fit host next ps (lies_right scopes n (procedure_scopes host n p) later lies) (omega (arith, end, both)) in
      ((place.0, place.1, omega (arith, fits, declared, typed)), subst (λ k. Fit firsts room k ps) step rest)

  unit_fits : (n : ℕ) (u : UnitTree) → Lies scopes n (unit_scopes n u) → n + length (unit_scopes n u) ≤ length scopes → UnitFits firsts room n u
  unit_fits n u lies end =
      let next = n + length (own_scopes n u) in
      let later = procedures_from n next u.procedures in
      let specified = flat_map declared_in (u.part).specifications in
      let place = room_for scopes firsts room are long small n (scope_of_unit u) (at_first scopes n (scope_of_unit u) _ lies) in
      let fits = place.2 in
      let declared = length-append specified (map procedure_own u.procedures) in
      let count = block_long n u.name (n + 1) u.body in
      let step : next ≡ n + 1 + length (constructs_of_block u.body) = omega (arith, count) in
      let both = length-append (own_scopes n u) later in
      let rest = procedures_fit n next u.procedures (lies_right scopes n (own_scopes n u) later lies) (omega (arith, end, both)) in
      ((place.0, place.1, omega (arith, fits, declared)), subst (λ k. Fit firsts room k u.procedures) step rest)

  units_fit : (n : ℕ) (us : List UnitTree) → Lies scopes n (scopes_from n us) → n + length (scopes_from n us) ≤ length scopes → AllFit firsts room n us
  units_fit n [] lies end = omega (arith, long, end)
  units_fit n (u ∷ us) lies end =
      let later = scopes_from (n + length (unit_scopes n u)) us in
      let both = length-append (unit_scopes n u) later in
      let here = unit_fits n u (lies_left scopes n (unit_scopes n u) later lies) (omega (arith, end, both)) in
      let rest = units_fit (n + length (unit_scopes n u)) us (lies_right scopes n (unit_scopes n u) later lies) (omega (arith, end, both)) in
      (here, subst (λ k. AllFit firsts room k us) (sym (unit_ends n u)) rest)

whole_lies : (scopes : List Scope) → Lies scopes 0 scopes
whole_lies scopes p s at = subst (λ k. slice_get scopes k ≡ Some s) (let e : p ≡ 0 + p = omega arith in e) at

pub all_fit : (t : Tree) (scopes : List Scope) (firsts given : List ℕ) (room : ℕ) (us : List UnitTree) → scopes ≡ scopes_of t → AreFirsts scopes firsts
    → length firsts ≡ length scopes → given ≡ firsts → us ≡ t.units → length (entities_of scopes) ≤ room → AllFit given room 0 us
all_fit t scopes firsts given room us same are long is units small =
    let lies : Lies scopes 0 (scopes_from 0 t.units) = subst (Lies scopes 0) same (whole_lies scopes) in
    let end = ap length same in
    let fits : AllFit firsts room 0 t.units = units_fit scopes firsts room are long small 0 t.units lies (omega (arith, end)) in
    subst (λ xs. AllFit given room 0 xs) (sym units) (subst (λ fs. AllFit fs room 0 t.units) (sym is) fits)

-- ---- one unit more

units_more : (xs : List ProgramUnit) (i : ℕ) (x : ProgramUnit) → i < length xs → x ≡ get_or xs i x → map unit_view (drop i xs) ≡ unit_view x ∷ map unit_view (drop (i + 1) xs)
units_more xs i x lt is = at_drop_more (map unit_view) xs i x lt ∙ ap (λ (y : ProgramUnit). unit_view y ∷ map unit_view (drop (i + 1) xs)) (sym is)

pub unit_here : (firsts : List ℕ) (room n : ℕ) (xs : List ProgramUnit) (i : ℕ) (x : ProgramUnit) → i < length xs → x ≡ get_or xs i x
    → AllFit firsts room n (map unit_view (drop i xs)) → AllFit firsts room n (unit_view x ∷ map unit_view (drop (i + 1) xs))
unit_here firsts room n xs i x lt is h = subst (AllFit firsts room n) (units_more xs i x lt is) h

pub unit_starts : (firsts : List ℕ) (room n : ℕ) (u : UnitTree) → UnitFits firsts room n u → unit_start n u ≤ length firsts
unit_starts firsts room n u h = fit_within firsts room (unit_start n u) u.procedures h.1

-- ---- there are less entities than addresses

entities_long : (scopes : List Scope) (number : ℕ) (ss : List Scope) → length (entities_from scopes number ss) ≡ length (entities_of ss)
entities_long scopes number [] = refl
entities_long scopes number (s ∷ ss) =
    length-append (map (entity_of scopes number s) s.declared) (entities_from scopes (number + 1) ss)
    ∙ ap (λ n. n + length (entities_from scopes (number + 1) ss)) (length-map s.declared (entity_of scopes number s))
    ∙ ap (λ n. length s.declared + n) (entities_long scopes (number + 1) ss)
    ∙ sym (length-append s.declared (entities_of ss))

pub few_entities : (t : Tree) (names : Names) (scopes : List Scope) → AreNames t names → scopes ≡ scopes_of t → length (entities_of scopes) < 2 ^ 64
few_entities t names scopes are same =
    let v = names.entities in
    let fits : length v.items < 2 ^ 64 = omega (arith, v.ok.0, v.ok.1, v.small) in
    let long : length v.items ≡ length (entities_of scopes) =
    ap length are.entities ∙ entities_long (scopes_of t) 0 (scopes_of t) ∙ ap (λ ss. length (entities_of ss)) (sym same) in
    omega (arith, fits, long)
