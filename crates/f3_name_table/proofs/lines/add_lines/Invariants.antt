use Rattle.std.proofs.Common.{◌≡◌, ◌++◌, drop, string_bytes}
use Rattle.std.specs.List.{flat_map}
use Rattle.f3_access.specs.Tables.{own_of}
use Rattle.f3_name_table.specs.Inner.Lines.{line_by}
use Rattle.f3_name_table.proofs.lines.add_lines.Given as goal

abbrev pub invariant-loop-visible : goal.invariant-loop-visible
invariant-loop-visible l =
    string_bytes l.text ++ flat_map (line_by l.names l.scope.number l.kind) (drop l.visible-index l.visible-items)
    ≡ string_bytes l.fn.text ++ flat_map (line_by l.names l.scope.number l.kind) (own_of l.names.tables l.scope.number)
