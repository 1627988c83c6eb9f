-- Which names of a scope are private (ISO/IEC 1539-1:2004, 5.1.2.1 and 5.2.1).
use Rattle.std.specs.Prelude.{◌≡◌, ℕ, List, [], ◌∷◌, ◌++◌, Bool, true, false, ◌||◌, ◌&&◌, not, nat_eq, if◌then◌else◌, map}
use Rattle.std.specs.List.{flat_map, list_any}
use Rattle.f3_tree.specs.declared.declaration.Accessibility.{Accessibility}
use Rattle.f3_tree.specs.declared.declaration.Accessibility.TheVariants.{Public, Private}
use Rattle.f3_tree.specs.declared.expression.Name.{Name}
use Rattle.f3_scopes.specs.Outlines.{Scope, Own, Listed}
use Rattle.f3_selecting.specs.declared.choosing.Accesses.{Accesses}

abbrev pub same_access : Accessibility → Accessibility → Bool
same_access Public Public = true
same_access Public Private = false
same_access Private Public = false
same_access Private Private = true

abbrev pub listed_names : Accessibility → Listed → List ℕ
listed_names access l = if same_access access l.accessibility then map (λ n. n.symbol) l.names else []

abbrev pub given_name : Accessibility → Own → List ℕ
given_name access d = if list_any (same_access access) d.accesses then d.name.symbol ∷ [] else []

-- the names that a PUBLIC or PRIVATE names, in statements and then as an attribute
abbrev pub named : Accessibility → Scope → List ℕ
named access scope = flat_map (listed_names access) scope.accesses ++ flat_map (given_name access) scope.declared

abbrev pub is_nil : List Name → Bool
is_nil [] = true
is_nil (n ∷ ns) = false

-- a PRIVATE without a list
abbrev pub is_default : Listed → Bool
is_default l = same_access Private l.accessibility && is_nil l.names

abbrev pub is_private : Scope → ℕ → Bool
is_private scope n = list_any (nat_eq n) (named Private scope) || (not (list_any (nat_eq n) (named Public scope)) && list_any is_default scope.accesses)

-- whether a scope with these accesses makes a name private
abbrev pub makes_private : Accesses → ℕ → Bool
makes_private a n = list_any (nat_eq n) a.private_names.keys || (not (list_any (nat_eq n) a.public_names.keys) && a.is_private)

-- the accesses of each scope make the names private that the scope makes so
abbrev pub AreAccesses : List Scope → List Accesses → Type 0
AreAccesses scopes accesses = map makes_private accesses ≡ map is_private scopes
