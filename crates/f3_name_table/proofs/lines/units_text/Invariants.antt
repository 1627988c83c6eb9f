use Rattle.std.proofs.Common.{◌≡◌, ◌++◌, map, drop, string_bytes}
use Rattle.f3_tree.specs.Tree.{unit_view}
use Rattle.f3_name_table.specs.Inner.Lines.{units_by}
use Rattle.f3_name_table.proofs.lines.units_text.Given as goal

abbrev pub invariant-loop-number : goal.invariant-loop-number
invariant-loop-number l =
    string_bytes l.text ++ units_by l.names l.number (map unit_view (drop l.number l.program.units.items))
    ≡ units_by l.names 0 (map unit_view l.program.units.items)
