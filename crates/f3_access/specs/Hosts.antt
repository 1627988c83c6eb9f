-- The scopes around a scope (ISO/IEC 1539-1:2004, 16.2, 16.3): its host, the host of that, and so on.
use Rattle.std.specs.Prelude.{◌≡◌, ℕ, zero, suc, ◌+◌, ◌<◌, List, [], ◌∷◌, Option, None, Some, slice_get}
use Rattle.f3_scopes.specs.Outlines.{Scope}

abbrev pub host_in : Option Scope → Option ℕ
host_in None = None
host_in (Some scope) = scope.host

-- the number of the scope directly around the one of this number
abbrev pub host_of : List Scope → ℕ → Option ℕ
host_of scopes number = host_in (slice_get scopes number)

-- Each scope stands behind the one around it.
abbrev pub HostsBefore : List Scope → Type 0
HostsBefore scopes = (number host : ℕ) → host_of scopes number ≡ Some host → host < number

-- a scope and those around it, from the innermost on, where hosts are these: as many of them
abbrev pub outward_of : (ℕ → Option ℕ) → ℕ → Option ℕ → List ℕ
outward_of host zero from = []
outward_of host (suc count) None = []
outward_of host (suc count) (Some number) = number ∷ outward_of host count (host number)

-- the scope of this number and all that are around it: as each stands behind its host, there are no more than this
abbrev pub outward : (ℕ → Option ℕ) → ℕ → List ℕ
outward host number = outward_of host (number + 1) (Some number)
