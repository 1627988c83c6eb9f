use Rattle.std.proofs.Common.{refl}
use Rattle.f3_word_calls.proofs.Ending.{end_do, levels_may, some_going, some_level, some_objects}
use Rattle.f3_word_calls.proofs.associates.end_associate.Goals as goal

pub returns-in_default-clause-does : goal.returns-in_default-clause-does
returns-in_default-clause-does g c = λ p t l x told there is st.
    absurd (some_objects p (g.B.Blocks.blocks c.args.heap.now) c.args.state.now x t l told there is st c.pop_objects.new.state c.in_default.ensures.taken)

pub returns-in_default-pop_going-clause-does : goal.returns-in_default-pop_going-clause-does
returns-in_default-pop_going-clause-does g c = λ p t l x told there is st.
    absurd (some_going p (g.B.Blocks.blocks c.args.heap.now) c.args.state.now x t l told there is st c.in-Some._left _ c.in-Some.ensures.taken
    c.pop_going.new.state c.in_default-pop_going.ensures.taken)

pub returns-in_default-pop_level-clause-does : goal.returns-in_default-pop_level-clause-does
returns-in_default-pop_level-clause-does g c = λ p t l x told there is st.
    absurd (some_level p (g.B.Blocks.blocks c.args.heap.now) c.args.state.now x t l told there is st c.in-Some._left _ c.in-Some.ensures.taken
    c.in-Some-pop_going.flow _ c.in-Some-pop_going.ensures.taken c.pop_level.new.state c.in_default-pop_level.ensures.taken)

pub end_levels-requires : goal.end_levels-requires
end_levels-requires g c =
    let at = c.requires.at in
    let k = at.1 in
    levels_may at.0 (g.B.Blocks.blocks c.args.heap.now) c.args.state.now k.rooms k.state k.line k.told k.there k.act k.stands c.in-Some._left _
    c.in-Some.ensures.taken c.in-Some-pop_going.flow _ c.in-Some-pop_going.ensures.taken c.in-Some-pop_level.level c.in-Some-pop_level.objects _
    c.in-Some-pop_level.ensures.taken

pub returns-clause-does : goal.returns-clause-does
returns-clause-does g c = λ p t l x told there is st.
    end_do p (g.B.Blocks.blocks c.args.heap.now) c.args.state.now x t l told there is st c.in-Some._left _
    c.in-Some.ensures.taken c.in-Some-pop_going.flow _ c.in-Some-pop_going.ensures.taken c.in-Some-pop_level.level c.in-Some-pop_level.objects _
    c.in-Some-pop_level.ensures.taken _ _ _ c.end_levels.ensures.gone refl refl refl refl c.cut.ensures.items refl refl c.end_levels.ensures.blocks
    c.end_levels.ensures.levels c.go_on_with.ensures
