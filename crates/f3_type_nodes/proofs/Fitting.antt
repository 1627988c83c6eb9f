-- The scopes and entities of the units of a program are numbered by things in memory.
use Rattle.std.proofs.Common.{◌≡◌, refl, sym, ap, subst, ◌∙◌, inl, inr, ℕ, zero, suc, ◌+◌, ◌≤◌, ◌<◌, ◌^◌, List, [], ◌∷◌, map, length, take, slice_get, get_or, Option, Some, arith}
use Rattle.std.specs.Global.{Vec}
use Rattle.std.specs.List.{flat_map}
use Rattle.std.specs.Option.{option_map}
use Rattle.std.proofs.lemmas.List.{length-append, length-map}
use Rattle.std.proofs.lemmas.Option.{slice_get_cases, slice_get_within, slice_get_past, slice_get_read, slice_get-get_or, slice_get-map}
use Rattle.f3_access.specs.Access.{entities_of, first_entity}
use Rattle.f3_names.specs.declared.entity.Entity.{Entity}
use Rattle.f3_names.specs.declared.table.Names.{Names}
use Rattle.f3_names.specs.Tables.{AreNames, outlined}
use Rattle.f3_names.specs.Entities.{described, entities_from, entity_of}
use Rattle.f3_names.specs.Parts.{scope_numbers}
use Rattle.f3_scopes.specs.declared.outline.Outline.{Outline}
use Rattle.f3_scopes.specs.Outlines.{Scope, scope_view}
use Rattle.f3_scopes.specs.Scopes.{declared_in, procedure_own, scope_of_unit, unit_scopes, scopes_from, scopes_of}
use Rattle.f3_tree.specs.declared.program.Unit.{Unit as ProgramUnit}
use Rattle.f3_tree.specs.Tree.{ProcedureTree, UnitTree, Tree, unit_view}
use Rattle.f3_kinds.specs.Things.{map_or}
use Rattle.f3_type_rules.specs.Associates.{constructs_of_block}
use Rattle.f3_type_rules.specs.Members.{Numbered, numbered, units_from}
use Rattle.f3_finals.specs.Candidates.{behind_procedures}
use Rattle.f3_finals.proofs.Ends.{unit_ends}
use Rattle.f3_part_rules.specs.Members.{AreFirsts}
use Rattle.f3_order_laws.proofs.Places.{Lies, start, unit_lies, first_more, numbered_at}
use Rattle.f3_unit_rules.specs.Units.{AreNumbers}
use Rattle.f3_elaboration.specs.Numbers.{definitions}
use Rattle.f3_type_nodes.specs.Inner.Units.{definitions_at, Fits, AllFit}

-- ---- counts

-- a vector has less elements than there are addresses
pub short : {X : Type 0} (v : Vec X) → length v.items < 2 ^ 64
short v = omega (arith, v.ok.0, v.ok.1, v.small)

described_long : (scopes : List Scope) (n : ℕ) (ss : List Scope) → length (entities_from scopes n ss) ≡ length (entities_of ss)
described_long scopes n [] = refl
described_long scopes n (s ∷ ss) =
    let more = described_long scopes (n + 1) ss in
    let one = length-append (map (entity_of scopes n s) s.declared) (entities_from scopes (n + 1) ss) in
    let two = length-append s.declared (entities_of ss) in
    let same = length-map s.declared (entity_of scopes n s) in
    omega (arith, more, one, two, same)

pub entities_long : (scopes : List Scope) → length (described scopes) ≡ length (entities_of scopes)
entities_long scopes = described_long scopes 0 scopes

first_within : (scopes : List Scope) (n : ℕ) → first_entity scopes n ≤ length (entities_of scopes)
first_within scopes zero = omega arith
first_within [] (suc n) = omega arith
first_within (s ∷ ss) (suc n) =
    let within = first_within ss n in
    let one = length-append s.declared (entities_of (take n ss)) in
    let two = length-append s.declared (entities_of ss) in
    omega (arith, within, one, two)

pub behind_least : (scope : ℕ) (ps : List ProcedureTree) → scope ≤ behind_procedures scope ps
behind_least scope [] = omega arith
behind_least scope (p ∷ ps) = let more = behind_least (scope + 1 + length (constructs_of_block p.body)) ps in omega (arith, more)

-- ---- the numbers of the units

pub numbers_long : (n : ℕ) (us : List UnitTree) → length (scope_numbers n us) ≡ length us
numbers_long n [] = refl
numbers_long n (u ∷ us) = ap suc (numbers_long (n + length (unit_scopes n u)) us)

-- the number of a unit is that of the scope where it starts
number_at : (i n m : ℕ) (us : List UnitTree) → slice_get (scope_numbers n us) i ≡ Some m → m ≡ start i n us
number_at i n m [] at = absurd (let past = slice_get_within [] i m at in omega arith)
number_at zero n m (u ∷ us) at = let same : m ≡ n = cc in same
number_at (suc i) n m (u ∷ us) at = number_at i (n + length (unit_scopes n u)) m us at

ends_within : (i n : ℕ) (us : List UnitTree) (u : UnitTree) → slice_get us i ≡ Some u → start i n us + length (unit_scopes (start i n us) u) ≤ n + length (scopes_from n us)
ends_within i n [] u at = absurd (let past = slice_get_within [] i u at in omega arith)
ends_within zero n (x ∷ us) u at =
    let same : x ≡ u = cc in
    let both = length-append (unit_scopes n x) (scopes_from (n + length (unit_scopes n x)) us) in
    subst (λ y. n + length (unit_scopes n y) ≤ n + length (scopes_from n (x ∷ us))) same (omega (arith, both))
ends_within (suc i) n (x ∷ us) u at =
    let ends = ends_within i (n + length (unit_scopes n x)) us u at in
    let both = length-append (unit_scopes n x) (scopes_from (n + length (unit_scopes n x)) us) in
    omega (arith, ends, both)

-- ---- a unit

whole_lies : (scopes : List Scope) → Lies scopes 0 scopes
whole_lies scopes p s at = subst (λ k. slice_get scopes k ≡ Some s) (let e : p ≡ 0 + p = omega arith in e) at

unit_fits : (scopes : List Scope) (firsts : List ℕ) → AreFirsts scopes firsts → length firsts ≡ length scopes
    → length scopes < 2 ^ 64 → length (entities_of scopes) < 2 ^ 64 → (n : ℕ) (u : UnitTree)
    → slice_get scopes n ≡ Some (scope_of_unit u) → n + length (unit_scopes n u) ≤ length scopes → Fits firsts n u
unit_fits scopes firsts are long few few_entities n u at end = elim (slice_get_cases firsts n).1 [
  | inl h ↦
      let specified = flat_map declared_in (u.part).specifications in
      let first = are n h.0 h.2 in
      let more = first_more scopes n (scope_of_unit u) at in
      let within = first_within scopes (n + 1) in
      let declared = length-append specified (map procedure_own u.procedures) in
      let ends = unit_ends n u in
      record {
        entity = h.0;
        first = h.2;
        declared = omega (arith, first, more, within, declared, few_entities);
        procedures = omega (arith, ends, end, few);
      }
  | inr h ↦
      let past = h.0 in
      let there = slice_get_within scopes n (scope_of_unit u) at in
      absurd (omega (arith, past, there, long))
]

pub all_fit : (t : Tree) (firsts numbers : List ℕ) → AreFirsts (scopes_of t) firsts → length firsts ≡ length (scopes_of t)
    → length (scopes_of t) < 2 ^ 64 → length (entities_of (scopes_of t)) < 2 ^ 64 → numbers ≡ scope_numbers 0 t.units → AllFit firsts numbers t.units
all_fit t firsts numbers are long few few_entities same i n u at_number at =
    let scopes = scopes_of t in
    let from = start i 0 t.units in
    let here : n ≡ from = number_at i 0 n t.units (ap (λ l. slice_get l i) (sym same) ∙ at_number) in
    let ends = ends_within i 0 t.units u at in
    let lies = unit_lies scopes i 0 t.units u (whole_lies scopes) at 0 (scope_of_unit u) refl in
    subst (λ k. Fits firsts k u) (sym here)
    (unit_fits scopes firsts are long few few_entities from u
    (subst (λ k. slice_get scopes k ≡ Some (scope_of_unit u)) (let e : from + 0 ≡ from = omega arith in e) lies)
    (omega (arith, ends)))

-- ---- a program

few_scopes : (t : Tree) (v : Vec Outline) → map scope_view v.items ≡ scopes_of t → length (scopes_of t) < 2 ^ 64
few_scopes t v same =
    let fits = short v in
    let mapped = length-map v.items scope_view in
    let long : length (map scope_view v.items) ≡ length (scopes_of t) = ap length same in
    omega (arith, fits, mapped, long)

pub few_entities : (t : Tree) (v : Vec Entity) (scopes : List Scope) → v.items ≡ described (scopes_of t) → scopes ≡ scopes_of t → length (entities_of scopes) < 2 ^ 64
few_entities t v scopes are same =
    let fits = short v in
    let long = ap length are in
    let described = entities_long (scopes_of t) in
    let here : length (entities_of scopes) ≡ length (entities_of (scopes_of t)) = ap (λ (ss : List Scope). length (entities_of ss)) same in
    omega (arith, fits, long, described, here)

pub firsts_are : (t : Tree) (scopes : List Scope) (firsts given : List ℕ) → scopes ≡ scopes_of t → AreFirsts scopes firsts → given ≡ firsts → AreFirsts (scopes_of t) given
firsts_are t scopes firsts given same are e =
    subst (λ fs. AreFirsts (scopes_of t) fs) (sym e) (subst (λ ss. AreFirsts ss firsts) same are)

pub units_fit : (t : Tree) (names : Names) (scopes : List Scope) (firsts given numbers : List ℕ) (us : List UnitTree) → AreNames t names → scopes ≡ outlined names
    → AreFirsts scopes firsts → length firsts ≡ length scopes → given ≡ firsts → numbers ≡ names.units.items → us ≡ t.units → AllFit given numbers us
units_fit t names scopes firsts given numbers us are same first long e numbers_are us_are =
    let here : scopes ≡ scopes_of t = same ∙ are.scopes in
    subst (λ xs. AllFit given numbers xs) (sym us_are)
    (all_fit t given numbers (firsts_are t scopes firsts given here first e) (ap length e ∙ long ∙ ap length here)
    (few_scopes t names.outlines are.scopes) (few_entities t names.entities (scopes_of t) are.entities refl) (numbers_are ∙ are.units))

scopes_numbered : (scopes : List Scope) (n : ℕ) (us : List UnitTree) → map (λ (x : Numbered). x.scope) (units_from scopes n us) ≡ scope_numbers n us
scopes_numbered scopes n [] = refl
scopes_numbered scopes n (u ∷ us) = ap (λ (l : List ℕ). n ∷ l) (scopes_numbered scopes (n + length (unit_scopes n u)) us)

pub numbers_are : (t : Tree) (numbers : List ℕ) (us : List UnitTree) → numbers ≡ scope_numbers 0 t.units → us ≡ t.units → AreNumbers (scopes_of t) numbers us
numbers_are t numbers us same us_are =
    subst (λ xs. AreNumbers (scopes_of t) numbers xs) (sym us_are) (scopes_numbered (scopes_of t) 0 t.units ∙ sym same)

-- ---- units by their places

-- the unit of this number has the scope of this number
unit_placed : (scopes : List Scope) (from : ℕ) (numbers : List ℕ) (us : List UnitTree) (i n : ℕ) (u : UnitTree)
    → map (λ (x : Numbered). x.scope) (units_from scopes from us) ≡ numbers → slice_get numbers i ≡ Some n → slice_get us i ≡ Some u
    → slice_get (units_from scopes from us) i ≡ Some (numbered scopes n u)
unit_placed scopes from numbers us i n u same at here =
    let placed = numbered_at scopes i from us u here in
    let scope : Some (start i from us) ≡ Some n =
    sym (slice_get-map (λ (x : Numbered). x.scope) (units_from scopes from us) i ∙ ap (λ (o : Option Numbered). option_map (λ (x : Numbered). x.scope) o) placed)
    ∙ ap (λ (l : List ℕ). slice_get l i) same ∙ at in
    let number : start i from us ≡ n = cc in
    placed ∙ ap (λ (k : ℕ). Some (numbered scopes k u)) number

units_long : (scopes : List Scope) (from : ℕ) (us : List UnitTree) → length (units_from scopes from us) ≡ length us
units_long scopes from [] = refl
units_long scopes from (u ∷ us) = ap suc (units_long scopes (from + length (unit_scopes from u)) us)

-- a unit of the list, and its number
pub tree_there : (list : List ProgramUnit) (i : ℕ) (x : ProgramUnit) → i < length list → x ≡ get_or list i x → slice_get (map unit_view list) i ≡ Some (unit_view x)
tree_there list i x lt is = slice_get-map unit_view list i ∙ ap (λ (o : Option ProgramUnit). option_map unit_view o) (slice_get_read list (length list) i x refl lt is)

pub number_there : (numbers : List ℕ) (list : List ProgramUnit) (i : ℕ) → length numbers ≡ length list → i < length list → slice_get numbers i ≡ Some (get_or numbers i 0)
number_there numbers list i same lt = slice_get-get_or numbers i 0 (omega (arith, same, lt))

-- its types: where it is there
pub types_found : (scopes : List Scope) (numbers : List ℕ) (list : List ProgramUnit) (i : ℕ) (x : ProgramUnit) → AreNumbers scopes numbers (map unit_view list)
    → length numbers ≡ length list → i < length list → x ≡ get_or list i x
    → definitions (numbered scopes (get_or numbers i 0) (unit_view x)) ≡ definitions_at (units_from scopes 0 (map unit_view list)) i
types_found scopes numbers list i x are same lt is =
    let at = unit_placed scopes 0 numbers (map unit_view list) i (get_or numbers i 0) (unit_view x) are (number_there numbers list i same lt) (tree_there list i x lt is) in
    sym (ap (λ (o : Option Numbered). map_or [] definitions o) at)

-- and where it is not
pub types_missing : (scopes : List Scope) (list : List ProgramUnit) (i : ℕ) → length list ≤ i → [] ≡ definitions_at (units_from scopes 0 (map unit_view list)) i
types_missing scopes list i le =
    let us = map unit_view list in
    let long = units_long scopes 0 us in
    let same = length-map list unit_view in
    sym (ap (λ (o : Option Numbered). map_or [] definitions o) (slice_get_past (units_from scopes 0 us) i (omega (arith, long))))
