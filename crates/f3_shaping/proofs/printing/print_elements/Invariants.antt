use Rattle.std.proofs.Common.{take}
use Rattle.std.specs.Prelude.{flat_map}
use Rattle.f3_meaning_whole.specs.Exec.{text_of}
use Rattle.f3_output.specs.Output.{state_of, Wrote}
use Rattle.f3_data.specs.Values.{values_of}
use Rattle.f3_shaping.proofs.printing.print_elements.Given as goal

abbrev pub invariant-loop-value : goal.invariant-loop-value
invariant-loop-value g l = Wrote (state_of g.W.Write.contents l.fn.output) (state_of g.W.Write.contents l.output) (flat_map text_of (values_of (take
    l.value-index l.values)))
