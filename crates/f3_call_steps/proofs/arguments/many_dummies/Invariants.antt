use Rattle.std.proofs.Common.{◌≡◌, ◌++◌, drop, map}
use Rattle.f3_meaning_whole.specs.Exec.{dummies}
use Rattle.f3_data.specs.References.{references_of}
use Rattle.f3_cells.specs.Cells.{passed_of}
use Rattle.f3_call_steps.proofs.arguments.many_dummies.Given as goal

-- the objects of the first dummies are there
abbrev pub invariant-loop-number : goal.invariant-loop-number
invariant-loop-number l = references_of l.objects.items ++ dummies l.number (drop l.number l.declared) (map passed_of l.arguments) l.level l.unit
    ≡ dummies 0 l.declared (map passed_of l.arguments) l.level l.unit
