-- Kinds of scopes (ISO/IEC 1539-1:2004, 16.2).
use Rattle.std.specs.Prelude.{Bool, true, false}
use Rattle.f3_scopes.specs.declared.outline.ScopeKind.{ScopeKind}
use Rattle.f3_scopes.specs.declared.outline.ScopeKind.TheVariants.{Module, Program, Subroutine, Function, Associate}

abbrev pub is_module : ScopeKind → Bool
is_module Module = true
is_module Program = false
is_module Subroutine = false
is_module Function = false
is_module Associate = false
