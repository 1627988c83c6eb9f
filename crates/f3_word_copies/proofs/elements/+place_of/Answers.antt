use Rattle.std.proofs.Common.{subst, rules, w64, FitsSigned, ◌%◌}
use Rattle.std.specs.Prelude.{ℤ, pos, ◌+ℤ◌, ◌*ℤ◌}
use Rattle.std.proofs.lemmas.Int.{to_z-of_z}
use Rattle.f3_desc.specs.Inner.Congruent.{IsCongruent}
use Rattle.f3_room_arrays.proofs.Numbers.{away-none, away-more}
use Rattle.f3_word_copies.proofs.elements.+place_of.Goals as goal

pub returns-in_default : goal.returns-in_default
returns-in_default t c = away-none c.args.dims.now c.args.at c.args.number c.in_default.ensures.cases

pub returns : goal.returns
returns t c =
    let fits : FitsSigned w64 c.in-Some.first.now.stride = search rules in
    let first = subst (λ (z : ℤ). IsCongruent (pos c.behind-next.result) (pos c.args.at +ℤ (pos (c.args.number % c.in-Some.first.now.extent) *ℤ z))) (to_z-of_z w64 c.in-Some.first.now.stride fits) c.behind-next.ensures in
    away-more c.args.dims.now c.in-Some.others.now c.in-Some.first.now c.args.at c.behind-next.result c.place_of.result c.args.number c.in-Some.ensures.cases.0 first c.place_of.ensures
