use Rattle.std.proofs.Common.{List, map, subst, sym, ap, ◌∙◌}
use Rattle.f3_meaning_whole.specs.Value.{Span}
use Rattle.f3_meaning_whole.specs.Act as a
use Rattle.f3_meaning_whole.specs.Eval.{spans_of_component}
use Rattle.f3_data.specs.Stores.{path_of}
use Rattle.f3_data.specs.Values.{spans_of}
use Rattle.f3_data.specs.References.{reach_in, reference_of}
use Rattle.f3_code.specs.Machine.{selects}
use Rattle.f3_cells.specs.Cells.{chosen_of}
use Rattle.f3_object_steps.specs.Performed.{Performed}
use Rattle.f3_object_steps.proofs.Picks.{part_one, part_many}
use Rattle.f3_object_steps.proofs.picking.selects_of.Goals as goal

pub returns-then-is_whole : goal.returns-then-is_whole
returns-then-is_whole c = λ g e.
    part_one (reach_in (path_of c.args.object.path) c.args.object.reach) (λ (here : a.Here). selects c.args.is_opened (map chosen_of c.args.chosen.now) (reference_of c.args.part) here)
    (λ (here : a.Here). a.picks_in_each (spans_of_component (a.component_of g.program.types.items c.args.object.of c.args.k)) (reference_of c.args.part) (map chosen_of c.args.chosen.now) here)
    c.selects.result c.args.store.now (sym (c.is_one-is_whole.ensures (path_of c.args.object.path)) ∙ c.if-is_whole.true) c.selects.ensures

pub returns-in-Ok : goal.returns-in-Ok
returns-in-Ok c = λ g e.
    part_many (reach_in (path_of c.args.object.path) c.args.object.reach) (λ (here : a.Here). selects c.args.is_opened (map chosen_of c.args.chosen.now) (reference_of c.args.part) here)
    (λ (here : a.Here). a.picks_in_each (spans_of_component (a.component_of g.program.types.items c.args.object.of c.args.k)) (reference_of c.args.part) (map chosen_of c.args.chosen.now) here)
    c.picks_in_each.result c.args.store.now (sym (c.is_one-is_whole.ensures (path_of c.args.object.path)) ∙ c.if-is_whole.false)
    (subst (λ (ss : List Span). Performed reference_of (λ (here : a.Here). a.picks_in_each ss (reference_of c.args.part) (map chosen_of c.args.chosen.now) here) c.picks_in_each.result c.args.store.now c.args.store.now)
    (ap spans_of c.deref.ensures.value ∙ c.in-Ok.ensures ∙ ap (λ ts. spans_of_component (a.component_of ts c.args.object.of c.args.k)) (sym e)) (c.picks_in_each.ensures c.args.store.now))
