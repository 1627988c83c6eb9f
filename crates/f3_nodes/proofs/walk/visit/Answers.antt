use Rattle.std.proofs.Common.{◌≡◌, ◌≢◌, ◌+◌, ◌<◌, [], ◌∷◌, ◌++◌, length, reverse, ap, sym, subst, ◌∙◌, arith, Contains, get_or, set}
use Rattle.std.proofs.lemmas.List.Elements.{Contains-append_left}
use Rattle.f3_nodes.specs.declared.walk.Mark.TheVariants.{New, Open, Done}
use Rattle.f3_nodes.specs.Nodes.{targets_of}
use Rattle.f3_nodes.specs.Inner.Marks.{Walks, mark}
use Rattle.f3_nodes.proofs.Walking.{open_more, step_more, close, cycle, next_inside, top_first, mark_read, not_new, smaller_open, smaller_done}
use Rattle.f3_nodes.proofs.walk.visit.Goals as goal

pub index-requires : goal.index-requires
index-requires c =
    let i = c.in-Some-use_at.ensures.some in
    let n = next_inside c.args.uses.now c.requires.range c.in-Some.unit c.in-Some.at c.in-Some-use_at.next i.0 i.1 in
    omega (arith, n.1, c.loop-unit.marks.ok.0, c.loop-unit.invariant.0.settled.long)

pub index_mut-requires-in-New : goal.index_mut-requires-in-New
index_mut-requires-in-New c =
    let i = c.in-Some-use_at.ensures.some in
    let n = next_inside c.args.uses.now c.requires.range c.in-Some.unit c.in-Some.at c.in-Some-use_at.next i.0 i.1 in
    omega (arith, n.1, c.loop-unit.marks.ok.0, c.loop-unit.invariant.0.settled.long)

pub loop-unit-preserved-in-Continue-branch-2 : goal.loop-unit-preserved-in-Continue-branch-2
loop-unit-preserved-in-Continue-branch-2 c =
    let g = c.args.uses.now in
    let ms = c.loop-unit.marks.items in
    let i = c.in-Some-use_at.ensures.some in
    let n = next_inside g c.requires.range c.in-Some.unit c.in-Some.at c.in-Some-use_at.next i.0 i.1 in
    let inside : c.in-Some-use_at.next < length ms = omega (arith, n.1, c.loop-unit.invariant.0.settled.long) in
    let popped : c.loop-unit.stack.items ≡ c.pop.new.self.items ++ (c.in-Some.unit, c.in-Some.at) ∷ [] = c.in-Some.ensures.items in
    let w = subst (Walks g ms c.loop-unit.order.items) (top_first c.loop-unit.stack.items c.pop.new.self.items (c.in-Some.unit, c.in-Some.at) popped) c.loop-unit.invariant.0 in
    let d : mark ms (get_or (targets_of g c.in-Some.unit) c.in-Some.at 0) ≡ Done = ap (mark ms) (sym i.1) ∙ mark_read ms c.in-Some-use_at.next c.index.result.now Done inside c.index.ensures c.in-Done.is in (
      subst (Walks g ms c.loop-unit.order.items) (sym (top_first c.push-in-Done.new.self.items c.pop.new.self.items (c.in-Some.unit, c.in-Some.at + 1) c.in_ok-push-in-Done.ensures.items)) (step_more g ms c.loop-unit.order.items (reverse c.pop.new.self.items) c.in-Some.unit c.in-Some.at i.0 d w),
      c.loop-unit.invariant.1,
      c.loop-unit.invariant.2,
    )

pub loop-unit-preserved-in-Continue-branch-4 : goal.loop-unit-preserved-in-Continue-branch-4
loop-unit-preserved-in-Continue-branch-4 c =
    let g = c.args.uses.now in
    let ms = c.loop-unit.marks.items in
    let i = c.in-Some-use_at.ensures.some in
    let n = next_inside g c.requires.range c.in-Some.unit c.in-Some.at c.in-Some-use_at.next i.0 i.1 in
    let inside : c.in-Some-use_at.next < length ms = omega (arith, n.1, c.loop-unit.invariant.0.settled.long) in
    let popped : c.loop-unit.stack.items ≡ c.pop.new.self.items ++ (c.in-Some.unit, c.in-Some.at) ∷ [] = c.in-Some.ensures.items in
    let w = subst (Walks g ms c.loop-unit.order.items) (top_first c.loop-unit.stack.items c.pop.new.self.items (c.in-Some.unit, c.in-Some.at) popped) c.loop-unit.invariant.0 in
    let d : mark ms c.in-Some-use_at.next ≡ New = mark_read ms c.in-Some-use_at.next c.index.result.now New inside c.index.ensures c.in-New.is in
    let other : Open ≢ New = λ e. cc in
    let back : reverse c.push-in-New-2.new.self.items ≡ (c.in-Some-use_at.next, 0) ∷ (c.in-Some.unit, c.in-Some.at) ∷ reverse c.pop.new.self.items =
    top_first c.push-in-New-2.new.self.items c.push-in-New.new.self.items (c.in-Some-use_at.next, 0) c.in_ok-push-in-New-2.ensures.items ∙ ap (λ l. (c.in-Some-use_at.next, 0) ∷ l) (top_first c.push-in-New.new.self.items c.pop.new.self.items (c.in-Some.unit, c.in-Some.at) c.in_ok-push-in-New.ensures.items) in (
      subst (Walks g (set ms c.in-Some-use_at.next Open) c.loop-unit.order.items) (sym back)
          (open_more g ms c.loop-unit.order.items ((c.in-Some.unit, c.in-Some.at) ∷ reverse c.pop.new.self.items) c.in-Some-use_at.next n.1 d n.0 w),
      not_new ms c.in-Some-use_at.next c.args.root Open inside other c.loop-unit.invariant.1,
      c.loop-unit.invariant.2,
    )

pub loop-unit-smaller-in-Continue-branch-4 : goal.loop-unit-smaller-in-Continue-branch-4
loop-unit-smaller-in-Continue-branch-4 c =
    let g = c.args.uses.now in
    let ms = c.loop-unit.marks.items in
    let i = c.in-Some-use_at.ensures.some in
    let n = next_inside g c.requires.range c.in-Some.unit c.in-Some.at c.in-Some-use_at.next i.0 i.1 in
    let inside : c.in-Some-use_at.next < length ms = omega (arith, n.1, c.loop-unit.invariant.0.settled.long) in
    let d : mark ms c.in-Some-use_at.next ≡ New = mark_read ms c.in-Some-use_at.next c.index.result.now New inside c.index.ensures c.in-New.is in
    smaller_open g ms c.loop-unit.stack.items c.pop.new.self.items c.push-in-New.new.self.items c.push-in-New-2.new.self.items c.in-Some.unit c.in-Some.at c.in-Some-use_at.next
    n.1 c.loop-unit.invariant.0.settled.long d c.in-Some.ensures.items c.in_ok-push-in-New.ensures.items c.in_ok-push-in-New-2.ensures.items

pub returns-in-Open : goal.returns-in-Open
returns-in-Open c =
    let g = c.args.uses.now in
    let ms = c.loop-unit.marks.items in
    let i = c.in-Some-use_at.ensures.some in
    let n = next_inside g c.requires.range c.in-Some.unit c.in-Some.at c.in-Some-use_at.next i.0 i.1 in
    let inside : c.in-Some-use_at.next < length ms = omega (arith, n.1, c.loop-unit.invariant.0.settled.long) in
    let popped : c.loop-unit.stack.items ≡ c.pop.new.self.items ++ (c.in-Some.unit, c.in-Some.at) ∷ [] = c.in-Some.ensures.items in
    let w = subst (Walks g ms c.loop-unit.order.items) (top_first c.loop-unit.stack.items c.pop.new.self.items (c.in-Some.unit, c.in-Some.at) popped) c.loop-unit.invariant.0 in
    (c.in-Some-use_at.next, cycle g ms c.loop-unit.order.items (reverse c.pop.new.self.items) c.in-Some.unit c.in-Some.at c.in-Some-use_at.next n.0 (mark_read ms c.in-Some-use_at.next c.index.result.now Open inside c.index.ensures c.in-Open.is) w)

pub loop-unit-smaller : goal.loop-unit-smaller
loop-unit-smaller c =
    let g = c.args.uses.now in
    let ms = c.loop-unit.marks.items in
    let popped : c.loop-unit.stack.items ≡ c.pop.new.self.items ++ (c.in-Some.unit, c.in-Some.at) ∷ [] = c.in-Some.ensures.items in
    let w = subst (Walks g ms c.loop-unit.order.items) (top_first c.loop-unit.stack.items c.pop.new.self.items (c.in-Some.unit, c.in-Some.at) popped) c.loop-unit.invariant.0 in
    smaller_done g ms c.loop-unit.stack.items c.pop.new.self.items c.in-Some.unit c.in-Some.at w.good.0.is_open w.good.0.upto popped

pub loop-unit-preserved : goal.loop-unit-preserved
loop-unit-preserved c =
    let g = c.args.uses.now in
    let ms = c.loop-unit.marks.items in
    let popped : c.loop-unit.stack.items ≡ c.pop.new.self.items ++ (c.in-Some.unit, c.in-Some.at) ∷ [] = c.in-Some.ensures.items in
    let w = subst (Walks g ms c.loop-unit.order.items) (top_first c.loop-unit.stack.items c.pop.new.self.items (c.in-Some.unit, c.in-Some.at) popped) c.loop-unit.invariant.0 in
    let inside : c.in-Some.unit < length ms = omega (arith, w.good.0.inside, c.loop-unit.invariant.0.settled.long) in
    let other : Done ≢ New = λ e. cc in (
      subst (λ o. Walks g (set ms c.in-Some.unit Done) o (reverse c.pop.new.self.items)) (sym c.in_ok-push-in-None.ensures.items) (close g ms c.loop-unit.order.items (reverse c.pop.new.self.items) c.in-Some.unit c.in-Some.at c.in-None.ensures.none w),
      not_new ms c.in-Some.unit c.args.root Done inside other c.loop-unit.invariant.1,
      λ u h. subst (λ o. Contains o u) (sym c.in_ok-push-in-None.ensures.items) (Contains-append_left c.loop-unit.order.items (c.in-Some.unit ∷ []) u (c.loop-unit.invariant.2 u h)),
    )
