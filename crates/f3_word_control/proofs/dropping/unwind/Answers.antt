use Rattle.std.proofs.Common.{◌≡◌, [], ◌+◌, ◌∙◌, refl, sym, subst, drop, arith}
use Rattle.f3_cell_kinds.specs.Laws.{site_at}
use Rattle.f3_word_cells.proofs.OnTop.{line_kinds}
use Rattle.f3_word_cells.proofs.Amid.{Amid, amid_first}
use Rattle.f3_word_cells.proofs.Orderly.{after_cells}
use Rattle.f3_word_control.proofs.Lines.{after_at, advances, goes}
use Rattle.f3_word_control.proofs.Does.{unwound}
use Rattle.f3_word_control.proofs.Unwinding.{one_more, free_then, less_by_one, rest_of}
use Rattle.f3_word_control.proofs.dropping.unwind.Goals as goal

pub loop-init : goal.loop-init
loop-init g c = (
  refl,
  record { cells = refl; names = refl; callers = refl; blocks = refl; levels = refl },
  λ p t l x told there is st. amid_first p t (g.B.Blocks.blocks c.args.heap.now) c.args.state.now x _ _ st refl refl,
  refl,
)

pub returns-in_default-clause-does : goal.returns-in_default-clause-does
returns-in_default-clause-does g c = λ p t l x told there is st.
    absurd (one_more p t l _ told there is (g.B.Blocks.blocks c.loop.heap) c.args.state.now c.loop.state x c.loop.counter c.loop-test.true
    (c.loop.invariant.2 p t l x told there is st) c.in_default.ensures.0)

pub let_go-requires : goal.let_go-requires
let_go-requires g c =
    let at = c.requires.at in
    let k = at.1 in
    free_then at.0 k.state k.line _ k.told k.there k.act (g.B.Blocks.blocks c.loop.heap) c.args.state.now c.loop.state k.rooms c.loop.counter c.loop-test.true
    (c.loop.invariant.2 at.0 k.state k.line k.rooms k.told k.there k.act k.stands) c.pop.new.self c.in-Some.cell c.in-Some.ensures

pub loop-preserved : goal.loop-preserved
loop-preserved g c =
    let same = c.in-Some.ensures.same in
    let keeps = c.loop.invariant.1 in (
      c.in-Some.ensures.pc ∙ c.loop.invariant.0,
      record {
        cells = same.room ∙ keeps.cells;
        names = same.names ∙ keeps.names;
        callers = same.callers ∙ keeps.callers;
        blocks = same.blocks ∙ keeps.blocks;
        levels = same.levels ∙ keeps.levels;
      },
      λ p t l x told there is st.
          subst (λ n. Amid p t n c.args.state.now c.pop.new.self x (drop (c.loop.counter + 1) (site_at p t.pc).cells) (drop (c.loop.counter + 1) t.stack) t.world.store [])
          (sym c.let_go.ensures.given)
          (less_by_one p t l _ told there is (g.B.Blocks.blocks c.loop.heap) c.args.state.now c.loop.state x c.loop.counter c.loop-test.true
          (c.loop.invariant.2 p t l x told there is st) c.pop.new.self c.in-Some.cell c.in-Some.ensures),
      c.let_go.ensures.kept ∙ c.loop.invariant.3,
    )

pub returns-clause-does : goal.returns-clause-does
returns-clause-does g c = λ p t l x told there is st.
    let lead = line_kinds p t l _ told there is in
    let amid = c.loop.invariant.2 p t l x told there is st in
    let same : c.loop.counter ≡ c.args.count = let end = c.loop.auto.counter-end in let past = c.loop-test.false in omega (arith, end, past) in
    let done : Amid p t (g.B.Blocks.blocks c.loop.heap) c.args.state.now c.loop.state x (drop c.args.count (site_at p t.pc).cells) (drop c.args.count t.stack) t.world.store [] =
    subst (λ k. Amid p t (g.B.Blocks.blocks c.loop.heap) c.args.state.now c.loop.state x (drop k (site_at p t.pc).cells) (drop k t.stack) t.world.store []) same amid in
    advances p l t (g.B.Blocks.blocks c.args.heap.now) (g.B.Blocks.blocks c.loop.heap) c.args.state.now x st (drop c.args.count t.stack)
    (goes p l t is (λ rest. unwound p l t rest _)) done c.loop.invariant.0
    (after_cells (after_at lead.2.next refl refl) (sym (rest_of p t l _ told there is))) c.advance.ensures
