use Rattle.std.proofs.Common.{◌≡◌, ◌∙◌, ap, sym, subst, refl, List, ◌+◌, length, drop, arith}
use Rattle.std.specs.Prelude.{slice_get, Some}
use Rattle.std.proofs.lemmas.Option.{slice_get_read}
use Rattle.f3_word_cells.specs.declared.state.Name.{Name}
use Rattle.f3_word_objects.proofs.Lists.{get-dropped, get-taken}
use Rattle.f3_word_objects.proofs.naming.lent_object.Goals as goal

pub returns : goal.returns
returns c =
    let ns = c.args.state.now.names.items.items in
    let h = c.args.state.now.here.names in
    let i = c.args.number in
    let n = c.index-all-names.result in
    let at : slice_get ns (h.from + i) ≡ Some n = subst (λ (xs : List Name). slice_get xs (h.from + i) ≡ Some n) c.as_slice-all.ensures.value
    (slice_get_read c.as_slice-all.result.now (length c.as_slice-all.result.now) (h.from + i) n refl (omega arith) c.index-all-names.is) in
    (n, get-taken h.count i (drop h.from ns) (omega arith) ∙ get-dropped h.from i ns ∙ at, c.copied_object.ensures ∙ ap (λ (y : Name). y.object) (sym c.index-all-names.is))
