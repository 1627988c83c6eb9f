use Rattle.std.proofs.Common.{◌<◌, ◌+◌, length, drop, get_or, sym, ap, subst, ◌∙◌, Contains}
use Rattle.std.proofs.lemmas.List.{at_drop_more}
use Rattle.std.proofs.lemmas.List.Elements.{Contains-get_or}
use Rattle.f3_nodes.specs.Nodes.{targets_of}
use Rattle.f3_nodes.specs.Inner.Search.{see_all}
use Rattle.f3_nodes.proofs.Searching.{see_grows, State}
use Rattle.f3_nodes.proofs.search.see_uses.Goals as goal

pub see-requires : goal.see-requires
see-requires c =
    let list = c.deref-next-items.result.now in
    let next = get_or list c.loop-next.next-index 0 in
    let on : Contains (targets_of c.args.uses.now c.args.node) next = subst (λ l. Contains l next) c.loop-next.invariant.2 (Contains-get_or list c.loop-next.next-index 0 c.loop-next-test.true) in
    subst (λ n. next < n) (sym c.loop-next.invariant.0) (c.requires.range c.args.node next on)

pub loop-next-preserved : goal.loop-next-preserved
loop-next-preserved c =
    let list = c.deref-next-items.result.now in
    let i = c.loop-next.next-index in
    let next = get_or list i 0 in
    let on : Contains (targets_of c.args.uses.now c.args.node) next = subst (λ l. Contains l next) c.loop-next.invariant.2 (Contains-get_or list i 0 c.loop-next-test.true) in
    let inside : next < length c.loop-next.seen.items = subst (λ n. next < n) (sym c.loop-next.invariant.0) (c.requires.range c.args.node next on) in
    let s : State = (c.loop-next.seen.items, c.loop-next.todo.items) in (
      ap (λ t. length t.0) c.in_ok-see.ensures ∙ (see_grows s next inside).long ∙ c.loop-next.invariant.0,
      ap (λ t. see_all t (drop (i + 1) list)) c.in_ok-see.ensures ∙ sym (at_drop_more (see_all s) list i 0 c.loop-next-test.true) ∙ c.loop-next.invariant.1,
      c.loop-next.invariant.2,
    )
