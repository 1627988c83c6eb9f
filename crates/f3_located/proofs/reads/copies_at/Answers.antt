use Rattle.std.proofs.Common.{◌≡◌, ◌∙◌, ap, sym, map, arith, rules, vec_len}
use Rattle.std.specs.Prelude.{slice_index_or}
use Rattle.std.proofs.lemmas.Result.{IfOk-weaker}
use Rattle.f3_meaning_whole.specs.Value as v
use Rattle.f3_meaning_whole.specs.Store as s
use Rattle.f3_data.specs.Values.{values_of}
use Rattle.f3_data.specs.Stores.{steps_of, path_of, store_of}
use Rattle.f3_data.specs.References.{element_path, numbers_of}
use Rattle.f3_located.proofs.Inside.{got_each}
use Rattle.f3_located.proofs.Spreading.{none_of}
use Rattle.f3_located.proofs.reads.copies_at.Goals as goal

pub returns-in-Some : goal.returns-in-Some
returns-in-Some c =
    let empty : vec_len c.args.section.now.tail ≡ 0 = search rules in
    let none = none_of c.args.section.now.tail.items (omega (arith, c.args.section.now.tail.ok.0)) in
    IfOk-weaker c.copies_among.result _ _ (λ xs e. e
    ∙ got_each (store_of c.args.store.now) (path_of c.args.array.now) (λ n. slice_index_or (values_of c.in-Some.values.now) n v.Unallocated)
    (numbers_of c.args.section.now.numbers) c.in-Some.ensures
    ∙ ap (λ t. map (s.get (store_of c.args.store.now)) (map (element_path (path_of c.args.array.now) (steps_of t)) (numbers_of c.args.section.now.numbers))) (sym none))
    c.copies_among.ensures
