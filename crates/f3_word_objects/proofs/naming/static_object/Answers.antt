use Rattle.std.proofs.Common.{◌≡◌, ◌∙◌, ap, refl, ◌+◌}
use Rattle.std.specs.Prelude.{slice_get, None, Some}
use Rattle.std.specs.Option.{option_map}
use Rattle.f3_program.specs.declared.program.Static.{Static}
use Rattle.f3_rooms.specs.Ways.{offset}
use Rattle.f3_word_areas.proofs.Variables.{begins-there}
use Rattle.f3_word_cells.specs.Areas.{types_of}
use Rattle.f3_word_cells.specs.States.{statics_of}
use Rattle.f3_word_objects.proofs.Lists.{found, get-mapped}
use Rattle.f3_word_objects.proofs.naming.static_object.Goals as goal

pub variable-requires-clause-few : goal.variable-requires-clause-few
variable-requires-clause-few c =
    let p = c.args.scene.program.now in
    let h = c.in-Some.ensures.lookup in
    let at = found c.deref.result.now p.statics.items c.args.number c.in-Some.found.now c.deref.ensures.value h.0 h.1 in
    c.requires.ranks.statics c.args.number c.in-Some.found.now.declared (get-mapped (λ (y : Static). y.declared) p.statics.items c.args.number ∙ ap (option_map (λ (y : Static). y.declared)) at)

pub returns-in-Some-variable : goal.returns-in-Some-variable
returns-in-Some-variable c =
    let p = c.args.scene.program.now in
    let h = c.in-Some.ensures.lookup in
    let at = found c.deref.result.now p.statics.items c.args.number c.in-Some.found.now c.deref.ensures.value h.0 h.1 in
    let is = get-mapped (λ (y : Static). y.declared) p.statics.items c.args.number ∙ ap (option_map (λ (y : Static). y.declared)) at in
    (c.in-Some-variable.area, refl, c.in-Some-variable.ensures (statics_of p) is)

pub returns-in-None : goal.returns-in-None
returns-in-None c =
    let p = c.args.scene.program.now in
    let i = c.args.number in
    let h = c.in-Some.ensures.lookup in
    let at = found c.deref.result.now p.statics.items i c.in-Some.found.now c.deref.ensures.value h.0 h.1 in
    let is : slice_get (statics_of p) i ≡ Some c.in-Some.found.now.declared = get-mapped (λ (y : Static). y.declared) p.statics.items i ∙ ap (option_map (λ (y : Static). y.declared)) at in
    let none : slice_get c.args.scene.statics.now.starts.items i ≡ None = c.in-None.ensures (statics_of p) is in
    let some : slice_get c.args.scene.statics.now.starts.items i ≡ Some (0 + offset (types_of p) (statics_of p) i) =
    ap (λ xs. slice_get xs i) c.requires.scene.statics.starts ∙ begins-there (types_of p) (statics_of p) 0 i c.in-Some.found.now.declared is in
    absurd cc
