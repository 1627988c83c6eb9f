use Rattle.std.proofs.Common.{rules, arith, ap, sym, ◌∙◌, ◌^◌, ◌++◌, map}
use Rattle.std.proofs.lemmas.List.{at_drop_all, append-nil}
use Rattle.f3_tree.specs.Tree.{procedure_view}
use Rattle.f3_declared.specs.Scenery.{names_in}
use Rattle.f3_natures.proofs.Steps.{end_fits, end_more, along_more}
use Rattle.f3_finals.specs.Candidates.{rank_for}
use Rattle.f3_finals.specs.Inner.Candidates.{candidate_made, candidates_from}
use Rattle.f3_finals.proofs.Ends.{behind_same}
use Rattle.f3_finals.proofs.Made.{candidates_same}
use Rattle.f3_finals.proofs.candidate.candidates.Goals as goal

pub behind-requires : goal.behind-requires
behind-requires c =
    end_fits c.args.procedures.now c.loop-procedure.procedure-index c.procedure-item.result c.loop-procedure.next _ (2 ^ 64)
    c.loop-procedure-test.true c.procedure-item.is c.loop-procedure.invariant.next (rw (behind_same c.args.scope (map procedure_view c.args.procedures.now)) at c.requires)

pub loop-procedure-preserved : goal.loop-procedure-preserved
loop-procedure-preserved c =
    let names = names_in c.args.known.now c.args.scenery in
    let i = c.loop-procedure.procedure-index in
    let x = c.procedure-item.result in
    let s = c.loop-procedure.next in
    let s' = c.in_ok-next.next in
    record {
      next = end_more c.args.procedures.now i x s s' _ c.loop-procedure-test.true c.procedure-item.is (search rules) c.loop-procedure.invariant.next;
      found = along_more (candidate_made names) c.args.procedures.now i x s s' c.loop-procedure.found.items c.push.new.self.items _ c.loop-procedure-test.true c.procedure-item.is (search rules) (search rules) c.loop-procedure.invariant.found;
    }

pub returns : goal.returns
returns c scopes e t =
    let names = names_in c.args.known.now c.args.scenery in
    ap (map (rank_for t))
    (sym (append-nil c.loop-procedure.found.items)
    ∙ ap (λ l. c.loop-procedure.found.items ++ l)
    (sym (at_drop_all (λ ps. candidates_from names c.loop-procedure.next (map procedure_view ps)) c.args.procedures.now c.loop-procedure.procedure-index (omega (arith, c.loop-procedure-test.false))))
    ∙ c.loop-procedure.invariant.found)
    ∙ candidates_same names scopes t e c.args.scope (map procedure_view c.args.procedures.now)
