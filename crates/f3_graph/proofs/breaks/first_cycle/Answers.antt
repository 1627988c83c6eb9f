use Rattle.std.proofs.Common.{◌+◌, sym, subst, take, get_or, ◌∙◌, ap, ◌&&◌}
use Rattle.f3_rules.specs.Least.{Least}
use Rattle.f3_graph.specs.Inner.Links.{CyclesIn, may_return, may_be_first}
use Rattle.std.proofs.Common.{length, Option}
use Rattle.f3_rules.specs.declared.breaks.Break.{Break}
use Rattle.f3_graph.proofs.Naming.{inside_at, no_link}
use Rattle.f3_graph.proofs.Cycling.{cycles_more}
use Rattle.f3_graph.proofs.Rising.{cycles_skipped}
use Rattle.f3_graph.proofs.breaks.first_cycle.Goals as goal
use Rattle.f3_graph.proofs.breaks.first_cycle.Goals.{then-is_open+in_ok-cycle_at, else-is_open}

pub cycle_at-requires-clause-home : goal.cycle_at-requires-clause-home
cycle_at-requires-clause-home c = (inside_at c.args.links.now (length c.args.graph.now) c.loop-link.link-index c.requires.inside c.loop-link-test.true).0

pub cycle_at-requires-clause-target : goal.cycle_at-requires-clause-target
cycle_at-requires-clause-target c = (inside_at c.args.links.now (length c.args.graph.now) c.loop-link.link-index c.requires.inside c.loop-link-test.true).1

pub loop-link-preserved : goal.loop-link-preserved
loop-link-preserved c =
    let g = c.args.graph.now in
    let links = c.args.links.now in
    let i = c.loop-link.link-index in
    let Says : Option Break → Type 0 = λ f. Least f (CyclesIn g (take (i + 1) links)) in (
      elim c.if-is_open.branch [
        | then-is_open+in_ok-cycle_at w ↦
            subst Says (sym (w.first-is ∙ w.earlier-first.ensures))
            (cycles_more g links i no_link c.loop-link.first w.in_ok-cycle_at.field-0 c.loop-link-test.true c.loop-link.invariant.0 w.in_ok-cycle_at.ensures)
        | else-is_open w ↦
            subst Says (sym w.first-is)
            (cycles_skipped g links c.in_ok-levels.levels.items c.loop-link.invariant.1 i no_link c.loop-link.first c.loop-link-test.true c.loop-link.invariant.0 (ap (λ ls. may_return ls (get_or links i no_link) && may_be_first (get_or links i no_link).name c.loop-link.first) (sym c.deref.ensures.value) ∙ sym c.is_open.ensures ∙ w.if-is_open.false))
      ],
      c.loop-link.invariant.1,
    )
