use Rattle.std.proofs.Common.{refl}
use Rattle.f3_word_calls.proofs.Returning.{levels_may, lost, others_go, return_do, some_datum, some_objects}
use Rattle.f3_word_calls.proofs.returns.return_to_caller.Goals as goal

pub returns-in_default-clause-does : goal.returns-in_default-clause-does
returns-in_default-clause-does g c = λ p t l x told there is st.
    absurd (some_objects p (g.B.Blocks.blocks c.args.heap.now) c.args.state.now x t l told there is st c.pop_objects.new.state c.in_default.ensures.taken)

pub returns-in_default-pop_datum-clause-does : goal.returns-in_default-pop_datum-clause-does
returns-in_default-pop_datum-clause-does g c = λ p t l x told there is st.
    absurd (some_datum p (g.B.Blocks.blocks c.args.heap.now) c.args.state.now x t l told there is st c.in-Some._objects _ c.in-Some.ensures.taken
    c.pop_datum.new.state c.in_default-pop_datum.ensures.taken)

pub clear-requires : goal.clear-requires
clear-requires g c =
    let at = c.requires.at in
    let k = at.1 in
    others_go at.0 (g.B.Blocks.blocks c.args.heap.now) c.args.state.now k.rooms k.state k.line k.told k.there k.act k.stands c.in-Some._objects _
    c.in-Some.ensures.taken c.in-Some-pop_datum.value _ c.in-Some-pop_datum.ensures.taken

pub returns-in_default-pop-clause-does : goal.returns-in_default-pop-clause-does
returns-in_default-pop-clause-does g c = λ p t l x told there is st.
    lost p (g.B.Blocks.blocks c.args.heap.now) c.args.state.now x t l told there is st c.in-Some._objects _ c.in-Some.ensures.taken
    c.in-Some-pop_datum.value _ c.in-Some-pop_datum.ensures.taken _ _ c.clear.ensures.cleared c.in_default-pop.ensures.items.0

pub end_levels-requires : goal.end_levels-requires
end_levels-requires g c =
    let at = c.requires.at in
    let k = at.1 in
    levels_may at.0 (g.B.Blocks.blocks c.args.heap.now) c.args.state.now k.rooms k.state k.line k.told k.there k.act k.stands c.in-Some._objects _
    c.in-Some.ensures.taken c.in-Some-pop_datum.value _ c.in-Some-pop_datum.ensures.taken _ _ c.clear.ensures.cleared c.in-Some-pop.caller _ c.in-Some-pop.ensures.items

pub returns-clause-does : goal.returns-clause-does
returns-clause-does g c = λ p t l x told there is st.
    return_do p (g.B.Blocks.blocks c.args.heap.now) c.args.state.now x t l told there is st c.in-Some._objects _
    c.in-Some.ensures.taken c.in-Some-pop_datum.value _ c.in-Some-pop_datum.ensures.taken _ _ c.clear.ensures.cleared c.in-Some-pop.caller _ c.in-Some-pop.ensures.items
    _ _ c.end_levels.ensures.gone refl c.push.ensures.items refl refl c.cut.ensures.items refl refl c.end_levels.ensures.blocks c.end_levels.ensures.levels
