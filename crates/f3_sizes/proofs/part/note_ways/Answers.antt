use Rattle.std.proofs.Common.{◌+◌, ℕ, List, Option, ◌-◌, ap, sym, ◌∙◌, subst, arith}
use Rattle.f3_sizes.proofs.Ways.{WaysNoted, far_way, far_more, far_none, next_first, none_first}
use Rattle.f3_sizes.proofs.part.note_ways.Goals as goal
use Rattle.f3_sizes.proofs.part.note_ways.Goals.{in-Some, in_default, in-Some-way, in_default-way}

pub loop-way-init : goal.loop-way-init
loop-way-init c =
    let far = c.effect_of-takes.result.far in
    let next = ap (λ e. e.next) (sym c.effect_of-takes.ensures) in
    let rest = ap (λ e. c.args.cells - e.takes) c.effect_of-takes.ensures in
    let P : List (Option ℕ) → Type 0 = λ hs. WaysNoted c.args.heights.now hs c.args.at c.args.cells c.args.act far 0 in
    elim c.match-next.branch [
      | in-Some w ↦ subst P (sym w.heights-is) (next_first c.args.heights.now w.note.new.heights c.args.at c.args.cells _ c.args.act far w.in-Some.left rest
          (next ∙ w.in-Some.is) (record { noted = w.note.ensures.noted; grows = w.note.ensures.grows; there = w.note.ensures.there; others = w.note.ensures.others }))
      | in_default w ↦ subst P (sym w.heights-is) (none_first c.args.heights.now c.args.at c.args.cells c.args.act far (next ∙ w.in_default.is))
    ]

pub overflow_add-at-in-Some-way-2 : goal.overflow_add-at-in-Some-way-2
overflow_add-at-in-Some-way-2 c =
    let e = c.effect_of-takes.ensures in
    let y = far_way c.requires.0 c.args.heights.now c.loop-way.heights c.args.at c.args.cells _ c.args.act c.effect_of-takes.result.far c.loop-way.way-index
    c.loop-way.way-index c.in-Some-way.way c.requires.1 c.loop-way.invariant (ap (λ e. e.far) e) (ap (λ e. c.args.cells - e.takes) e) c.in-Some-way.is in
    let within = y.within in omega arith

pub overflow_add-way : goal.overflow_add-way
overflow_add-way c =
    let e = c.effect_of-takes.ensures in
    let y = far_way c.requires.0 c.args.heights.now c.loop-way.heights c.args.at c.args.cells _ c.args.act c.effect_of-takes.result.far c.loop-way.way-index
    c.loop-way.way-index c.in-Some-way.way c.requires.1 c.loop-way.invariant (ap (λ e. e.far) e) (ap (λ e. c.args.cells - e.takes) e) c.in-Some-way.is in
    let few = y.few in omega arith

pub note-requires-in-Some-way : goal.note-requires-in-Some-way
note-requires-in-Some-way c =
    let e = c.effect_of-takes.ensures in
    let y = far_way c.requires.0 c.args.heights.now c.loop-way.heights c.args.at c.args.cells _ c.args.act c.effect_of-takes.result.far c.loop-way.way-index
    c.loop-way.way-index c.in-Some-way.way c.requires.1 c.loop-way.invariant (ap (λ e. e.far) e) (ap (λ e. c.args.cells - e.takes) e) c.in-Some-way.is in
    let within = y.within in omega arith

pub loop-way-preserved : goal.loop-way-preserved
loop-way-preserved c =
    let e = c.effect_of-takes.ensures in
    let far = c.effect_of-takes.result.far in
    let P : List (Option ℕ) → Type 0 = λ hs. WaysNoted c.args.heights.now hs c.args.at c.args.cells c.args.act far (c.loop-way.way-index + 1) in
    elim c.match-way.branch [
      | in-Some-way w ↦ subst P (sym w.heights-is) (far_more c.args.heights.now c.loop-way.heights w.note-in-Some-way.new.heights c.args.at c.args.cells _ c.args.act far
          c.loop-way.way-index w.in-Some-way.way c.loop-way.invariant (ap (λ e. e.far) e) (ap (λ e. c.args.cells - e.takes) e) w.in-Some-way.is
          (record { noted = w.note-in-Some-way.ensures.noted; grows = w.note-in-Some-way.ensures.grows; there = w.note-in-Some-way.ensures.there; others = w.note-in-Some-way.ensures.others }))
      | in_default-way w ↦ subst P (sym w.heights-is) (far_none c.args.heights.now c.loop-way.heights c.args.at c.args.cells c.args.act far c.loop-way.way-index c.loop-way.invariant
          w.in_default-way.is)
    ]
