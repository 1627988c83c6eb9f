-- The state in which a program begins.
use Rattle.std.proofs.Common.{refl}
use Rattle.f3_program.specs.declared.program.Program.{Program}
use Rattle.f3_meaning_whole.specs.Ran.{World}
use Rattle.f3_meaning_whole.specs.Formed.{IsWellFormed}
use Rattle.f3_code.specs.Lower.{lowered_program}
use Rattle.f3_code.specs.Run.{start}
use Rattle.f3_cell_kinds.specs.Holds.{Fits}
use Rattle.f3_cell_kinds.specs.Sense.{MakesSense}
use Rattle.f3_cell_kinds.specs.Laws.{site_at}
use Rattle.f3_cell_kinds.proofs.Holding.{fit}
use Rattle.f3_cell_kinds.proofs.OfProgram.{code_has_kinds}

pub start_fits : (p : Program) → IsWellFormed p → MakesSense p → (w : World) → Fits p.types.items (site_at p) (start (lowered_program p) w)
start_fits p formed sense w =
    let are = (code_has_kinds p formed sense).1 in
    fit p.types.items (site_at p) are.main (refl, tt, tt) (record { by = refl }) tt
