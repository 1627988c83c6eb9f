use Rattle.std.proofs.Common.{◌≡◌, [], ap, rules, arith}
use Rattle.f3_meaning_whole.specs.Value as m
use Rattle.f3_data.specs.Values.{value_of, values_of}
use Rattle.f3_data.proofs.Rows.{set_kept, with_part_stands}
use Rattle.f3_data.proofs.Counts.{one_alike_in_row}
use Rattle.f3_data.proofs.elements.overwrite_at.Goals as goal

pub returns-then-place-len-clause-values : goal.returns-then-place-len-clause-values
returns-then-place-len-clause-values c = λ t.
    let e = c.overwrite.ensures.value t in
    let f : value_of c.overwrite.new.value ≡ m.Number c.args.number = search rules in
    with_part_stands _ _ [] _ c.index_mut.result.now _ (omega (arith, c.args.values.now.ok.0)) c.index_mut.ensures.value f

pub returns-then-place-len-clause-grown : goal.returns-then-place-len-clause-grown
returns-then-place-len-clause-grown c = λ t. one_alike_in_row _ _ _ _ (omega (arith, c.args.values.now.ok.0)) c.index_mut.ensures.value (c.overwrite.ensures.grown t)

pub returns-then-place-len-clause-kept : goal.returns-then-place-len-clause-kept
returns-then-place-len-clause-kept c = λ t. ap values_of (set_kept _ _ c.index_mut.result.now _ (c.overwrite.ensures.kept t) c.index_mut.ensures.value)
