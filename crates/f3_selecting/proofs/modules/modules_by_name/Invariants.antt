use Rattle.std.proofs.Common.{◌≡◌, ℕ, drop, map, nat_eq, None}
use Rattle.indexmap.specs.IndexMap.{get}
use Rattle.f3_scopes.specs.Outlines.{scope_view}
use Rattle.f3_selecting.specs.Sources.{module_from}
use Rattle.f3_selecting.proofs.modules.modules_by_name.Given as goal

abbrev pub invariant-loop-number : goal.invariant-loop-number
invariant-loop-number l =
    (s : ℕ) → module_from (get nat_eq l.modules s) l.number (map scope_view (drop l.number l.outlines)) s ≡ module_from None 0 (map scope_view l.outlines) s
