-- What compiling answers.
use Rattle.std.specs.Prelude.{Err, List}
use Rattle.f3_places.specs.declared.source.Source.{Source}
use Rattle.f3_graph.specs.declared.CheckFault.{CheckFault}
use Rattle.f3_graph.specs.declared.CheckFault.TheVariants as fault
use Rattle.f3_accepted.specs.Refusals.{Checks}
use Rattle.f3_compile.specs.Compiles.{Compiles}

-- sources that the check refuses
pub refused_so : (sources : List Source) (f : CheckFault) → Checks (Err f) sources → Compiles sources (Err f)
refused_so sources (fault.Refused refusal) h = record { first = h.0; never = h.1 }
refused_so sources fault.Memory h = tt
