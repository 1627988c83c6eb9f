-- From what the calls answer to what is answered.
use Rattle.std.proofs.Common.{◌≡◌, ℕ, ◌<◌, List, [], ◌∷◌, Option, None, Some, length, map, refl, sym, ap, subst, ◌∙◌}
use Rattle.std.specs.List.{All, AllZip}
use Rattle.f3_rules.specs.declared.breaks.Break.{Break}
use Rattle.f3_rules.specs.Least.{Least}
use Rattle.f3_tree.specs.Tree.{Tree}
use Rattle.f3_scopes.specs.Outlines.{Scope}
use Rattle.f3_scopes.specs.Scopes.{scopes_of}
use Rattle.f3_graph.specs.declared.UnitId.{UnitId}
use Rattle.f3_graph.specs.declared.UnitOrder.{UnitOrder}
use Rattle.f3_graph.specs.Order.{numbers_of, IsOrder}
use Rattle.f3_graph.specs.Breaks.{UnitBreaks}
use Rattle.f3_access.specs.Access.{IsUnitOrder, ModulesDiffer}
use Rattle.f3_name_rules.specs.NameBreaks.{NameBreaks}
use Rattle.f3_names.specs.Tables.{scope_numbers}
use Rattle.f3_names.specs.Answers.{BreaksOfNames}
use Rattle.f3_names.specs.Inner.Making.{unit_numbers, among_scopes}
use Rattle.f3_access.specs.Hosts.{HostsBefore}
use Rattle.f3_names.proofs.Inside.{hosts_before}
use Rattle.f3_names.proofs.Units.{numbers_same}
use Rattle.f3_names.proofs.Bridging.{fits, unit_order, modules_differ}

pub copied : {K : Type 0} (v : K → List ℕ) (xs ys : List K) → AllZip (λ x y. v y ≡ v x) xs ys → map v ys ≡ map v xs
copied v [] [] all = refl
copied v [] (y ∷ ys) all = absurd all
copied v (x ∷ xs) [] all = absurd all
copied v (x ∷ xs) (y ∷ ys) all = let first = all.0 in let rest = copied v xs ys all.1 in cc

pub numbers_are : (t : Tree) (scopes : List Scope) (numbers : List ℕ) → scopes ≡ scopes_of t → numbers ≡ unit_numbers 0 scopes → numbers ≡ scope_numbers 0 t.units
numbers_are t scopes numbers same e = e ∙ ap (unit_numbers 0) same ∙ numbers_same 0 t.units

pub all_fit : (t : Tree) (order : UnitOrder) (numbers : List ℕ) (units : List UnitId) → IsOrder t order → numbers ≡ scope_numbers 0 t.units → units ≡ order.units.items
    → All (λ u. u.number < length numbers) units
all_fit t order numbers units is same e =
    subst (λ us. All (λ u. u.number < length numbers) us) (sym e) (subst (λ ns. All (λ u. u.number < length ns) order.units.items) (sym same) (fits t order is))

pub ordered : (t : Tree) (order : UnitOrder) (scopes : List Scope) (numbers : List ℕ) (units : List UnitId) (found : List ℕ) → IsOrder t order → scopes ≡ scopes_of t
    → numbers ≡ scope_numbers 0 t.units → units ≡ order.units.items → found ≡ among_scopes numbers (map (λ u. u.number) units) → IsUnitOrder scopes found
ordered t order scopes numbers units found is same here e are =
    let all : found ≡ among_scopes (scope_numbers 0 t.units) (numbers_of order) =
    are ∙ ap (λ ns. among_scopes ns (map (λ u. u.number) units)) here ∙ ap (λ us. among_scopes (scope_numbers 0 t.units) (map (λ u. u.number) us)) e in
    subst (λ ss. IsUnitOrder ss found) (sym same) (subst (IsUnitOrder (scopes_of t)) (sym all) (unit_order t (numbers_of order) is))

pub apart : (t : Tree) (scopes : List Scope) → scopes ≡ scopes_of t → ((b : Break) → UnitBreaks t b → ⊥) → ModulesDiffer scopes
apart t scopes same none = subst ModulesDiffer (sym same) (modules_differ t none)

pub first_found : (t : Tree) (scopes : List Scope) (found : Option Break) (b : Break) → scopes ≡ scopes_of t → found ≡ Some b → Least found (NameBreaks scopes t.names) → Least (Some b) (BreaksOfNames t)
first_found t scopes found b same is least = subst (λ ss. Least (Some b) (NameBreaks ss t.names)) same (subst (λ o. Least o (NameBreaks scopes t.names)) is least)

pub none_found : (t : Tree) (scopes : List Scope) (found : Option Break) → scopes ≡ scopes_of t → found ≡ None → Least found (NameBreaks scopes t.names) → (b : Break) → BreaksOfNames t b → ⊥
none_found t scopes found same is least =
    (subst (λ ss. Least None (NameBreaks ss t.names)) same (subst (λ o. Least o (NameBreaks scopes t.names)) is least)).as_said

pub hosts_are_before : (t : Tree) (scopes : List Scope) → scopes ≡ scopes_of t → HostsBefore scopes
hosts_are_before t scopes same = subst HostsBefore (sym same) (hosts_before t)
