use Rattle.std.proofs.Common.{◌≡◌, ℕ, length, None, sym, subst, ◌∙◌}
use Rattle.f3_rules.specs.Least.{Least}
use Rattle.f3_tree.specs.Tree.{view}
use Rattle.f3_graph.specs.Breaks.{UnitBreaks}
use Rattle.f3_graph.specs.Inner.Links.{Inside}
use Rattle.f3_nodes.specs.Nodes.{InRange, Leads, Ordered}
use Rattle.f3_graph.specs.Inner.Views.{nodes_view}
use Rattle.f3_graph.proofs.Naming.{inside}
use Rattle.f3_graph.proofs.Standing.{many, Knows, known, ordered, in_order, no_order}
use Rattle.f3_graph.proofs.examine.Goals as goal

pub graph-requires : goal.graph-requires
graph-requires c =
    let us = nodes_view c.args.units.now in
    let n : length c.args.units.now ≡ length us = sym (many c.args.units.now) in
    subst (Inside c.deref.result.now) (sym n) (subst (λ ls. Inside ls (length us)) (sym (c.deref.ensures.value ∙ c.in_ok-links.ensures)) (inside us))

pub used_first-requires : goal.used_first-requires
used_first-requires c =
    let us = nodes_view c.args.units.now in
    let links = c.in_ok-links.links.items in
    let n : length c.args.units.now ≡ length us = sym (many c.args.units.now) in
    let g = c.in_ok-graph.graph.items in
    let k : Knows us links g = known us links c.deref.result.now (length c.args.units.now) g c.in_ok-links.ensures c.deref.ensures.value n c.in_ok-graph.ensures in
    subst InRange (sym c.deref-2.ensures.value) k.range

pub first_break-requires-clause-order : goal.first_break-requires-clause-order
first_break-requires-clause-order c =
    let us = nodes_view c.args.units.now in
    let links = c.in_ok-links.links.items in
    let n : length c.args.units.now ≡ length us = sym (many c.args.units.now) in
    let g = c.in_ok-graph.graph.items in
    let k : Knows us links g = known us links c.deref.result.now (length c.args.units.now) g c.in_ok-links.ensures c.deref.ensures.value n c.in_ok-graph.ensures in
    let o : Ordered g c.in_ok-found.found = subst (λ x. Ordered x c.in_ok-found.found) c.deref-2.ensures.value c.in_ok-found.ensures in
    λ e. subst (λ x. (u : ℕ) → Leads x u u → ⊥) (sym c.deref-4.ensures.value) (ordered g c.in_ok-found.found o (sym c.is_some.ensures ∙ e) k.range)

pub returns-in-Some-found : goal.returns-in-Some-found
returns-in-Some-found c =
    let us = nodes_view c.args.units.now in
    let links = c.in_ok-links.links.items in
    let n : length c.args.units.now ≡ length us = sym (many c.args.units.now) in
    let g = c.in_ok-graph.graph.items in
    let k : Knows us links g = known us links c.deref.result.now (length c.args.units.now) g c.in_ok-links.ensures c.deref.ensures.value n c.in_ok-graph.ensures in
    let o : Ordered g c.in_ok-found.found = subst (λ x. Ordered x c.in_ok-found.found) c.deref-2.ensures.value c.in_ok-found.ensures in
    let tree = view c.args.program.now in
    let first : Least None (UnitBreaks tree) = subst (λ f. Least f (UnitBreaks tree)) c.in-None.is c.in_ok-first.ensures in
    (in_order tree us g links c.in_ok-found.found c.in-Some-found.order c.requires c.in-Some-found.is o k first.as_said, first.as_said)

pub unreachable-requires : goal.unreachable-requires
unreachable-requires c =
    let us = nodes_view c.args.units.now in
    let links = c.in_ok-links.links.items in
    let n : length c.args.units.now ≡ length us = sym (many c.args.units.now) in
    let g = c.in_ok-graph.graph.items in
    let k : Knows us links g = known us links c.deref.result.now (length c.args.units.now) g c.in_ok-links.ensures c.deref.ensures.value n c.in_ok-graph.ensures in
    let o : Ordered g c.in_ok-found.found = subst (λ x. Ordered x c.in_ok-found.found) c.deref-2.ensures.value c.in_ok-found.ensures in
    let tree = view c.args.program.now in
    let first : Least None (UnitBreaks tree) = subst (λ f. Least f (UnitBreaks tree)) c.in-None.is c.in_ok-first.ensures in
    no_order tree us g links c.in_ok-found.found c.requires c.in-None-found.is o k first.as_said
