use Rattle.std.proofs.Common.{◌≡◌, ◌+◌, true, false, ◌||◌, ◌&&◌, if◌then◌else◌, [], ◌∷◌, drop, sym, subst, ap, ◌∙◌}
use Rattle.std.proofs.lemmas.List.{drop_all}
use Rattle.f3_rules.specs.declared.rule.Rule.TheVariants.{U4}
use Rattle.f3_rules.specs.Least.{Least, earlier_of, first_of}
use Rattle.f3_rules.proofs.Firsts.{earlier_none}
use Rattle.f3_graph.specs.Breaks.{at}
use Rattle.f3_graph.specs.Inner.Passes.{pass, main_row, main_next, is_main}
use Rattle.f3_graph.specs.Inner.Views.{node_view, nodes_view}
use Rattle.f3_tree.specs.Tree.{view}
use Rattle.f3_graph.proofs.Passing.{pass_step, after, after_step, MainBreaks, some_main, no_main}
use Rattle.f3_graph.proofs.breaks.main_programs.Goals as goal

pub loop-unit-preserved : goal.loop-unit-preserved
loop-unit-preserved c =
    let units = c.args.units.now in
    let i = c.loop-unit.unit-index in
    let x = c.unit-item.result in
    let had = c.loop-unit.had_one in
    let m : c.is_main-is_main.result ≡ is_main x.kind = c.is_main-is_main.ensures in
    let row : c.earlier-first.result ≡ earlier_of c.loop-unit.first (first_of (main_row had (node_view x))) =
    c.earlier-first.ensures ∙ ap (earlier_of c.loop-unit.first) (c.break_if.ensures ∙ ap (λ t. first_of (if had && t then at U4 x.name ∷ [] else [])) m) in (
      subst (λ t. earlier_of c.earlier-first.result (first_of (pass main_row main_next (had || t) (nodes_view (drop (i + 1) units)))) ≡ first_of (pass main_row main_next false (nodes_view units))) (sym m)
          (pass_step main_row main_next units i x had c.loop-unit.first c.earlier-first.result _ c.loop-unit-test.true c.unit-item.is row c.loop-unit.invariant.0),
      subst (λ t. after main_next (had || t) (nodes_view (drop (i + 1) units)) ≡ after main_next false (nodes_view units)) (sym m)
          (after_step main_row main_next units i x had _ c.loop-unit-test.true c.unit-item.is c.loop-unit.invariant.1),
    )

pub returns-then-had_one : goal.returns-then-had_one
returns-then-had_one c =
    let units = c.args.units.now in
    let tree = view c.args.program.now in
    let had = c.loop-unit.had_one in
    let done = drop_all c.loop-unit.unit-index units c.loop-unit-test.false in
    let all : after main_next false (nodes_view units) ≡ true = sym c.loop-unit.invariant.1 ∙ ap (λ l. after main_next had (nodes_view l)) done ∙ c.if-had_one.true in
    let first : c.loop-unit.first ≡ first_of (pass main_row main_next false (nodes_view units)) =
    sym (earlier_none c.loop-unit.first) ∙ ap (λ l. earlier_of c.loop-unit.first (first_of (pass main_row main_next had (nodes_view l)))) (sym done) ∙ c.loop-unit.invariant.0 in
    subst (λ f. Least f (MainBreaks tree)) (sym (first ∙ ap (λ us. first_of (pass main_row main_next false us)) c.requires))
    (some_main tree (ap (after main_next false) (sym c.requires) ∙ all))

pub returns-else-had_one : goal.returns-else-had_one
returns-else-had_one c =
    let units = c.args.units.now in
    let had = c.loop-unit.had_one in
    let done = drop_all c.loop-unit.unit-index units c.loop-unit-test.false in
    no_main (view c.args.program.now) (ap (after main_next false) (sym c.requires) ∙ sym c.loop-unit.invariant.1 ∙ ap (λ l. after main_next had (nodes_view l)) done ∙ c.if-had_one.false)
