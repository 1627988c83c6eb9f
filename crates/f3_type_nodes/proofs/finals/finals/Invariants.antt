use Rattle.std.proofs.Common.{◌≡◌, ◌++◌, drop}
use Rattle.f3_type_nodes.specs.Inner.Finals.{finals_by}
use Rattle.f3_type_nodes.proofs.finals.finals.Given as goal

abbrev pub invariant-loop-name : goal.invariant-loop-name
invariant-loop-name l =
    l.found.items ++ finals_by l.fn.whole l.fn.finalizers l.fn.scope l.fn.data_type (drop l.name-index l.list)
    ≡ finals_by l.fn.whole l.fn.finalizers l.fn.scope l.fn.data_type l.list
