use Rattle.std.proofs.Common.{ap, sym}
use Rattle.f3_data.specs.Values.{value_of}
use Rattle.f3_data.specs.References.{reference_of}
use Rattle.f3_cells.specs.Cells.{cells_of}
use Rattle.f3_requests.specs.Inner.Counted.{counted}
use Rattle.std.proofs.Common.{refl}
use Rattle.f3_meaning_whole.specs.Value as m
use Rattle.f3_gen_values.specs.Emitted.{taken}
use Rattle.f3_cells.specs.States.{setting}
use Rattle.f3_requests.proofs.Wanting.{renewed_none, renewed_bare, renewed_some, element_counted}
use Rattle.f3_requests.proofs.asking.new_wants.Goals as goal

pub returns-in_default : goal.returns-in_default
returns-in_default c =
    let p = c.args.program.now in
    ap counted (sym (renewed_none c.args.rank (taken (setting p) c.args.initial) (cells_of p c.args.stack.now.items) (c.in_default.ensures p)))

pub returns-in_default-datum_at : goal.returns-in_default-datum_at
returns-in_default-datum_at c =
    let p = c.args.program.now in
    ap counted (sym (renewed_bare c.args.rank (taken (setting p) c.args.initial) (cells_of p c.args.stack.now.items) (reference_of c.in-Some._object.now)
    (c.in-Some.ensures p) (c.in_default-datum_at.ensures p)))

pub returns : goal.returns
returns c =
    let p = c.args.program.now in
    let x = value_of c.in-Some-datum_at.value.now in
    renewed_some c.args.rank (taken (setting p) c.args.initial) (cells_of p c.args.stack.now.items) (reference_of c.in-Some._object.now) x
    c.vacant_words-new.result c.block.result c.objects.result _ (c.in-Some.ensures p) (c.in-Some-datum_at.ensures p)
    (c.vacant_words-new.ensures (m.spans_of x) (taken (setting p) c.args.initial)
    (element_counted c.spans_of.result.now (m.spans_of x) c.element_count-count.result c.spans_of.ensures c.element_count-count.ensures) c.line_words.ensures)
    c.block.ensures c.objects.ensures refl
