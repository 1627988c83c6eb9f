use Rattle.std.proofs.lemmas.List.{nil_from_length}
use Rattle.std.proofs.Common.{◌≡◌, arith, List, [], map, sym, ap, ◌∙◌}
use Rattle.f3_kinds.specs.Typing.{designator_rows}
use Rattle.f3_typed_parts.specs.declared.known.Part.{Part as Described}
use Rattle.f3_typed_parts.specs.Known.{context_of, part_of}
use Rattle.f3_typed_parts.specs.Noted.{noted}
use Rattle.f3_typed_parts.proofs.Noting.{noted_none}
use Rattle.f3_typing.proofs.senses.designator.Goals as goal

pub returns-in-empty-clause-noted : goal.returns-in-empty-clause-noted
returns-in-empty-clause-noted c =
    let e : c.args.list.now ≡ [] = nil_from_length c.args.list.now (omega (arith, c.in-empty)) in
    sym (noted_none c.args.first.now) ∙ ap (λ (ps : List Described). noted c.args.first.now (designator_rows (context_of c.args.known.now c.args.at) c.args.role (map part_of ps))) (sym e)
