-- Scopes, and the units that hold them (ISO/IEC 1539-1:2004, 2.2, 16.2).
use Rattle.std.specs.Prelude.{ℕ, List, [], ◌∷◌, Option}
use Rattle.f3_scopes.specs.Outlines.{Scope}
use Rattle.f3_access.specs.Hosts.{host_of, outward}

abbrev pub last_of : ℕ → List ℕ → ℕ
last_of number [] = number
last_of number (k ∷ ks) = last_of k ks

-- where hosts are these, the last of a scope and those around it, from the innermost on
abbrev pub outermost : (ℕ → Option ℕ) → ℕ → ℕ
outermost host number = last_of number (outward host number)

-- the number of the scope of the unit that holds a scope: the one around it that has no host
abbrev pub unit_of : List Scope → ℕ → ℕ
unit_of scopes number = outermost (host_of scopes) number
