use Rattle.std.proofs.Common.{arith}
use Rattle.f3_word_associates.proofs.Associating.{associate_do, enough, hand}
use Rattle.f3_word_associates.proofs.beginning.associate.Goals as goal

pub begin-requires-clause-selectors : goal.begin-requires-clause-selectors
begin-requires-clause-selectors c =
    let at = c.requires.at in
    let k = at.1.1 in
    enough at.1.0 at.0 c.args.state.now k.rooms k.state k.line k.told k.there c.args.count k.act k.stands

pub begin-requires-clause-hand : goal.begin-requires-clause-hand
begin-requires-clause-hand c =
    let at = c.requires.at in
    let k = at.1.1 in
    let e = hand at.1.0 at.0 c.args.state.now k.rooms k.state k.line k.told k.there c.args.count k.act k.stands in
    omega (arith, e)

pub returns-clause-does : goal.returns-clause-does
returns-clause-does c = λ p live t l x told there is st.
    associate_do p live c.args.state.now x t l told there c.args.count is st _ c.begin.ensures.begun
