use Rattle.std.proofs.Common.{refl, inl, inr}
use Rattle.f3_word_copies.proofs.Assigned.{lost-first, lost-second, overflows, forbids, ready, can, frees, assigns, assign-at}
use Rattle.f3_word_copies.proofs.assigning.assign.Goals as goal

pub returns-in_default-clause-take : goal.returns-in_default-clause-take
returns-in_default-clause-take g c = let m = g.B.Blocks.blocks c.args.heap.now in lost-first c.args.scene.program.now m m c.args.state.now c.pop_object.new.state c.pop_object.new.state c.args.of _ (inl refl) c.in_default.ensures

pub returns-in_default-clause-fill : goal.returns-in_default-clause-fill
returns-in_default-clause-fill g c = let m = g.B.Blocks.blocks c.args.heap.now in lost-first c.args.scene.program.now m m c.args.state.now c.pop_object.new.state c.pop_object.new.state c.args.of _ (inr refl) c.in_default.ensures

pub returns-in_default-pop_datum-clause-take : goal.returns-in_default-pop_datum-clause-take
returns-in_default-pop_datum-clause-take g c =
    let m = g.B.Blocks.blocks c.args.heap.now in
    lost-second c.args.scene.program.now m c.args.state.now c.pop_object.new.state c.in-Some.object c.in-Some.ensures m c.pop_datum.new.state c.pop_datum.new.state c.args.of _ (inl refl) c.in_default-pop_datum.ensures

pub returns-in_default-pop_datum-clause-fill : goal.returns-in_default-pop_datum-clause-fill
returns-in_default-pop_datum-clause-fill g c =
    let m = g.B.Blocks.blocks c.args.heap.now in
    lost-second c.args.scene.program.now m c.args.state.now c.pop_object.new.state c.in-Some.object c.in-Some.ensures m c.pop_datum.new.state c.pop_datum.new.state c.args.of _ (inr refl) c.in_default-pop_datum.ensures

pub fits-requires-clause-can : goal.fits-requires-clause-can
fits-requires-clause-can g c =
    let p = c.args.scene.program.now in
    let m = g.B.Blocks.blocks c.args.heap.now in
    let which = assign-at p c.args.of m c.args.state.now c.requires.at in
    let at = which.2 in
    let is = ready p m c.args.state.now c.pop_object.new.state c.pop_datum.new.state c.in-Some.object c.in-Some.ensures c.in-Some-pop_datum.datum c.in-Some-pop_datum.ensures c.args.scene.types c.requires.scene.types
    at.state at.line at.rooms c.args.of which.0 which.1 at.told at.there at.act at.stands in
    (p, is.0.other, is.0.value, is.1.fit)

pub returns-then-not-fits-clause-take : goal.returns-then-not-fits-clause-take
returns-then-not-fits-clause-take g c =
    let p = c.args.scene.program.now in
    let m = g.B.Blocks.blocks c.args.heap.now in
    overflows p m c.args.state.now c.pop_object.new.state c.pop_datum.new.state c.in-Some.object c.in-Some.ensures c.in-Some-pop_datum.datum c.in-Some-pop_datum.ensures c.args.scene.types c.requires.scene.types
    m c.pop_datum.new.state c.args.of _ (inl refl) (λ k v can. c.if-not-fits.ensures p k v can)

pub returns-then-not-fits-clause-fill : goal.returns-then-not-fits-clause-fill
returns-then-not-fits-clause-fill g c =
    let p = c.args.scene.program.now in
    let m = g.B.Blocks.blocks c.args.heap.now in
    overflows p m c.args.state.now c.pop_object.new.state c.pop_datum.new.state c.in-Some.object c.in-Some.ensures c.in-Some-pop_datum.datum c.in-Some-pop_datum.ensures c.args.scene.types c.requires.scene.types
    m c.pop_datum.new.state c.args.of _ (inr refl) (λ k v can. c.if-not-fits.ensures p k v can)

pub returns-in_default-object-clause-take : goal.returns-in_default-object-clause-take
returns-in_default-object-clause-take g c =
    let p = c.args.scene.program.now in
    let m = g.B.Blocks.blocks c.args.heap.now in
    forbids p m c.args.state.now c.pop_object.new.state c.pop_datum.new.state c.in-Some.object c.in-Some.ensures c.in-Some-pop_datum.datum c.in-Some-pop_datum.ensures c.args.scene.types c.requires.scene.types
    c.in_default-object.field-0 c.in_default-object.field-1 c.in_default-object.is m c.pop_datum.new.state c.args.of _ (inl refl) (λ k v can. c.if-not-fits.ensures p k v can)

pub returns-in_default-object-clause-fill : goal.returns-in_default-object-clause-fill
returns-in_default-object-clause-fill g c =
    let p = c.args.scene.program.now in
    let m = g.B.Blocks.blocks c.args.heap.now in
    forbids p m c.args.state.now c.pop_object.new.state c.pop_datum.new.state c.in-Some.object c.in-Some.ensures c.in-Some-pop_datum.datum c.in-Some-pop_datum.ensures c.args.scene.types c.requires.scene.types
    c.in_default-object.field-0 c.in_default-object.field-1 c.in_default-object.is m c.pop_datum.new.state c.args.of _ (inr refl) (λ k v can. c.if-not-fits.ensures p k v can)

pub put-requires-clause-can : goal.put-requires-clause-can
put-requires-clause-can g c =
    let p = c.args.scene.program.now in
    let m = g.B.Blocks.blocks c.args.heap.now in
    let which = assign-at p c.args.of m c.args.state.now c.requires.at in
    let at = which.2 in
    let is = ready p m c.args.state.now c.pop_object.new.state c.pop_datum.new.state c.in-Some.object c.in-Some.ensures c.in-Some-pop_datum.datum c.in-Some-pop_datum.ensures c.args.scene.types c.requires.scene.types
    at.state at.line at.rooms c.args.of which.0 which.1 at.told at.there at.act at.stands in (
      p,
      at.rooms,
      is.0.reference,
      is.0.value,
      can p m c.args.state.now c.pop_object.new.state c.pop_datum.new.state c.in-Some.object c.in-Some.ensures c.in-Some-pop_datum.datum c.in-Some-pop_datum.ensures c.args.scene.types c.requires.scene.types
          c.in-Stands.area c.in-Stands.is at.state at.rooms is.0 at.told at.stands is.1,
    )

pub let_go_datum-requires : goal.let_go_datum-requires
let_go_datum-requires g c =
    let p = c.args.scene.program.now in
    let m = g.B.Blocks.blocks c.args.heap.now in
    let which = assign-at p c.args.of m c.args.state.now c.requires.at in
    let at = which.2 in
    frees p m c.args.state.now c.pop_object.new.state c.pop_datum.new.state c.in-Some.object c.in-Some.ensures c.in-Some-pop_datum.datum c.in-Some-pop_datum.ensures c.args.scene.types c.requires.scene.types
    c.in-Stands.area c.in-Stands.is (g.B.Blocks.blocks c.put.new.heap) (λ x r v can. c.put.ensures.takes p x r v can) at.state at.line at.rooms c.args.of which.0 which.1 at.told at.there at.act at.stands

pub returns-clause-take : goal.returns-clause-take
returns-clause-take g c =
    let p = c.args.scene.program.now in
    let m = g.B.Blocks.blocks c.args.heap.now in
    assigns p m c.args.state.now c.pop_object.new.state c.pop_datum.new.state c.in-Some.object c.in-Some.ensures c.in-Some-pop_datum.datum c.in-Some-pop_datum.ensures c.args.scene.types c.requires.scene.types
    c.in-Stands.area c.in-Stands.is (g.B.Blocks.blocks c.put.new.heap) (λ x r v can. c.put.ensures.takes p x r v can) (g.B.Blocks.blocks c.let_go_datum.new.heap) c.advance.new.self c.args.of _ (inl refl) (λ k v can. c.if-not-fits.ensures p k v can) c.let_go_datum.ensures.given c.advance.ensures

pub returns-clause-fill : goal.returns-clause-fill
returns-clause-fill g c =
    let p = c.args.scene.program.now in
    let m = g.B.Blocks.blocks c.args.heap.now in
    assigns p m c.args.state.now c.pop_object.new.state c.pop_datum.new.state c.in-Some.object c.in-Some.ensures c.in-Some-pop_datum.datum c.in-Some-pop_datum.ensures c.args.scene.types c.requires.scene.types
    c.in-Stands.area c.in-Stands.is (g.B.Blocks.blocks c.put.new.heap) (λ x r v can. c.put.ensures.takes p x r v can) (g.B.Blocks.blocks c.let_go_datum.new.heap) c.advance.new.self c.args.of _ (inr refl) (λ k v can. c.if-not-fits.ensures p k v can) c.let_go_datum.ensures.given c.advance.ensures
