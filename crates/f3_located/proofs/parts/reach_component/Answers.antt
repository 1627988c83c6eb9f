use Rattle.std.proofs.Common.{◌≡◌, ◌∙◌, sym, ap, rules}
use Rattle.f3_meaning_whole.specs.Act.{component_reach}
use Rattle.f3_data.specs.Stores.{path_of, store_of}
use Rattle.f3_data.specs.References.{section_in, reach_in}
use Rattle.f3_located.proofs.parts.reach_component.Goals as goal

pub returns-in_ok-select_in_each-in-Many-clause-reach : goal.returns-in_ok-select_in_each-in-Many-clause-reach
returns-in_ok-select_in_each-in-Many-clause-reach c =
    let p = path_of c.args.path.now in
    let store = store_of c.args.store.now in
    let h : c.deref_mut.result.now ≡ c.in-Many.section.value = search rules in
    c.in_ok-select_in_each-in-Many.ensures p p store
    ∙ ap (λ x. component_reach (section_in p x) p c.args.k store) h
    ∙ ap (λ r. component_reach (reach_in p r) p c.args.k store) (sym c.in-Many.is)
