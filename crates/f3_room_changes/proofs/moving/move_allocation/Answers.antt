use Rattle.std.proofs.Common.{◌≡◌, ℕ, sym, subst}
use Rattle.std.specs.Prelude.{Option, IfSome}
use Rattle.f3_live_blocks.specs.Blocks.{pins_of}
use Rattle.f3_room_objects.specs.Trees.{layout_for, tree_at}
use Rattle.f3_room_changes.proofs.Moved.{source, beneath, named, target, vacant, apart, moved}
use Rattle.f3_room_changes.proofs.Places.{when_ok}
use Rattle.f3_room_changes.proofs.moving.move_allocation.Goals as goal

pub move_tree-requires-clause-source : goal.move_tree-requires-clause-source
move_tree-requires-clause-source g c =
    let h = c.requires in
    let m = g.B.Blocks.blocks c.args.heap.now in (
      layout_for h.6.shape,
      tree_at m h.6,
      source h.0 m h.1 h.2 h.3 h.4 h.5 h.6 h.7 c.args.from c.args.from_at c.args.to c.args.to_at c.args.rank h.8,
      beneath h.0 m h.1 h.2 h.3 h.4 h.5 h.6 h.7 c.args.from c.args.from_at c.args.to c.args.to_at c.args.rank h.8,
    )

pub move_tree-requires-clause-target : goal.move_tree-requires-clause-target
move_tree-requires-clause-target g c =
    let h = c.requires in
    let m = g.B.Blocks.blocks c.args.heap.now in (
      layout_for h.7.shape,
      tree_at m h.7,
      target h.0 m h.1 h.2 h.3 h.4 h.5 h.6 h.7 c.args.from c.args.from_at c.args.to c.args.to_at c.args.rank h.8,
      vacant h.0 m h.1 h.2 h.3 h.4 h.5 h.6 h.7 c.args.from c.args.from_at c.args.to c.args.to_at c.args.rank h.8,
    )

pub move_tree-requires-clause-apart : goal.move_tree-requires-clause-apart
move_tree-requires-clause-apart g c =
    let h = c.requires in
    apart h.0 (g.B.Blocks.blocks c.args.heap.now) h.1 h.2 h.3 h.4 h.5 h.6 h.7 c.args.from c.args.from_at c.args.to c.args.to_at c.args.rank h.8

pub returns-clause-moved : goal.returns-clause-moved
returns-clause-moved g c = when_ok c.move_tree.result _ _ (λ made ts x r q way other f k p.
    let m = g.B.Blocks.blocks c.args.heap.now in
    moved ts m x r q way other f k c.args.from c.args.from_at c.args.to c.args.to_at c.args.rank p (g.B.Blocks.blocks c.move_tree.new.heap)
    (made (layout_for f.shape) (tree_at m f) (source ts m x r q way other f k c.args.from c.args.from_at c.args.to c.args.to_at c.args.rank p)
    (beneath ts m x r q way other f k c.args.from c.args.from_at c.args.to c.args.to_at c.args.rank p))) c.move_tree.ensures.moved

pub returns-clause-unpinned : goal.returns-clause-unpinned
returns-clause-unpinned g c = λ ts x r q way other f k p.
    let m = g.B.Blocks.blocks c.args.heap.now in
    let a = c.move_tree.ensures.unpinned (layout_for f.shape) (tree_at m f) (source ts m x r q way other f k c.args.from c.args.from_at c.args.to c.args.to_at c.args.rank p) in
    let e = named ts m x r q way other f k c.args.from c.args.from_at c.args.to c.args.to_at c.args.rank p in
    let P : Option ℕ → Type 0 = λ n. IfSome n (λ b. pins_of m b ≡ 0) in
    (λ ok. subst P e (a.0 ok), λ z. a.1 (subst P (sym e) z))
