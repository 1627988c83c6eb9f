use Rattle.f3_program.specs.declared.program.Program.{Program}
use Rattle.f3_meaning_whole.specs.Act.{Passed}
use Rattle.std.proofs.Common.{List}
use Rattle.f3_word_structures.specs.Fitting.{AreGiven}
use Rattle.f3_word_structures.proofs.Checks.{AllBefore}
use Rattle.f3_word_structures.proofs.checking.check.Given as goal

abbrev pub invariant-loop-number : goal.invariant-loop-number
invariant-loop-number g l = (p : Program) (ps : List Passed) → AreGiven p l.types (g.B.Blocks.blocks l.heap) l.cells ps → AllBefore l.components ps l.number
