use Rattle.std.proofs.Common.{length, sym, subst, ap, ◌∙◌, ◌≡◌}
use Rattle.f3_rules.specs.Least.{Least, earlier_of}
use Rattle.f3_tree.specs.Tree.{view}
use Rattle.f3_graph.specs.Breaks.{UnitBreaks, NameTwice}
use Rattle.f3_graph.specs.Inner.Links.{targets, Inside, IsGraph, links_of}
use Rattle.f3_graph.specs.Units.{nodes_of}
use Rattle.f3_graph.specs.Inner.Views.{nodes_view}
use Rattle.f3_graph.proofs.Naming.{inside}
use Rattle.f3_graph.proofs.Cycling.{in_range, least_units}
use Rattle.f3_graph.proofs.Standing.{many}
use Rattle.f3_graph.proofs.first_break.Goals as goal

pub cycles-requires-clause-range : goal.cycles-requires-clause-range
cycles-requires-clause-range c =
    let units = nodes_view c.args.units.now in
    in_range units c.args.graph.now (λ a. c.requires.steps.steps a ∙ ap (λ ls. targets ls a) c.requires.links) (c.requires.steps.long ∙ sym (many c.args.units.now))

pub cycles-requires-clause-inside : goal.cycles-requires-clause-inside
cycles-requires-clause-inside c =
    let units = nodes_view c.args.units.now in
    subst (λ n. Inside c.args.links.now n) (many c.args.units.now ∙ sym c.requires.steps.long) (subst (λ ls. Inside ls (length units)) (sym c.requires.links) (inside units))

pub returns : goal.returns
returns c =
    let tree = view c.args.program.now in
    let links : c.args.links.now ≡ links_of (nodes_of tree) = c.requires.links ∙ ap links_of c.requires.units in
    let count : length c.args.units.now ≡ length (nodes_of tree) = sym (many c.args.units.now) ∙ ap (λ us. length us) c.requires.units in
    subst (λ f. Least f (UnitBreaks tree))
    (sym (c.earlier-2.ensures ∙ ap (λ f. earlier_of f c.main_programs.result) (c.earlier.ensures ∙ ap (earlier_of c.in_ok-names.names) c.earlier-modules.ensures)))
    (least_units tree c.args.graph.now c.args.links.now c.in_ok-names.names c.first_missing.result c.in_ok-cycles.field-0 c.main_programs.result
    links (subst (λ n. IsGraph c.args.links.now n c.args.graph.now) count c.requires.steps) (subst (λ us. Least c.in_ok-names.names (NameTwice us)) c.requires.units c.in_ok-names.ensures) c.first_missing.ensures c.in_ok-cycles.ensures c.main_programs.ensures)
