use Rattle.std.proofs.Common.{◌≡◌, ◌++◌, ◌∷◌, [], false, length, sym, ap, subst, ◌∙◌, arith, Contains}
use Rattle.std.proofs.lemmas.List.{length-replicate}
use Rattle.std.proofs.lemmas.List.Elements.{Contains-push}
use Rattle.f3_nodes.specs.Nodes.{targets_of}
use Rattle.f3_nodes.specs.Inner.Search.{Searches, is_seen, see_all}
use Rattle.f3_nodes.proofs.Searching.{search_begins, search_step, unseen_all, work, answers}
use Rattle.f3_nodes.proofs.search.is_reached.Goals as goal

pub loop-node-init : goal.loop-node-init
loop-node-init c =
    let n = c.loop-each._each-index in
    let long : length c.loop-each.seen.items ≡ length c.args.uses.now = ap length c.loop-each.invariant ∙ length-replicate n false ∙ omega (arith, c.loop-each-test.false, c.loop-each.auto) in
    let pushed : c.push-2.new.self.items ≡ c.args.from ∷ [] = c.in_ok-push-2.ensures.items ∙ ap (λ l. l ++ c.args.from ∷ []) c.new-todo.ensures.items in
    subst (Searches c.args.uses.now c.args.from _) (sym pushed)
    (search_begins c.args.uses.now c.args.from c.loop-each.seen.items c.requires.from long (λ u. ap (λ l. is_seen l u) c.loop-each.invariant ∙ unseen_all n u))

pub see_uses-requires-clause-node : goal.see_uses-requires-clause-node
see_uses-requires-clause-node c =
    c.loop-node.invariant.inside c.in-Some.node (subst (λ l. Contains l c.in-Some.node) (sym c.in-Some.ensures.items) (Contains-push c.pop.new.self.items c.in-Some.node))

pub loop-node-preserved : goal.loop-node-preserved
loop-node-preserved c =
    let g = c.args.uses.now in
    let rest = c.pop.new.self.items in
    let node = c.in-Some.node in
    let w = subst (Searches g c.args.from c.loop-node.seen.items) c.in-Some.ensures.items c.loop-node.invariant in
    let r = search_step g c.requires.range c.args.from c.loop-node.seen.items rest node w in
    subst (λ t. Searches g c.args.from t.0 t.1) (sym c.in_ok-see_uses.ensures) r.0

pub loop-node-smaller : goal.loop-node-smaller
loop-node-smaller c =
    let g = c.args.uses.now in
    let rest = c.pop.new.self.items in
    let node = c.in-Some.node in
    let w = subst (Searches g c.args.from c.loop-node.seen.items) c.in-Some.ensures.items c.loop-node.invariant in
    let r = search_step g c.requires.range c.args.from c.loop-node.seen.items rest node w in
    let fewer : work (c.see_uses.new.seen.items, c.see_uses.new.todo.items) ≡ work (see_all (c.loop-node.seen.items, rest) (targets_of g node)) = ap work c.in_ok-see_uses.ensures in
    let before : work (c.loop-node.seen.items, c.loop-node.todo.items) ≡ work (c.loop-node.seen.items, rest ++ node ∷ []) = ap (λ l. work (c.loop-node.seen.items, l)) c.in-Some.ensures.items in
    let one = r.1 in
    omega (arith, fewer, before, one)

pub returns : goal.returns
returns c = answers c.args.uses.now c.args.from c.loop-node.seen.items c.loop-node.todo.items c.args.to c.index.result.now (omega (arith, c.in_default.ensures.cases.0, c.loop-node.todo.ok.0)) c.requires.to c.index.ensures c.loop-node.invariant
