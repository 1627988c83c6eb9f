-- Dummies that ask for nothing.
use Rattle.std.proofs.Common.{◌+◌, List, [], ◌∷◌, drop, refl, sym, subst}
use Rattle.std.specs.Prelude.{slice_index_or}
use Rattle.f3_meaning_whole.specs.Reference.{Reference}
use Rattle.f3_code.specs.declared.instruction.Instruction.TheVariants as i
use Rattle.f3_code.specs.State as s
use Rattle.f3_code.specs.State.{Code}
use Rattle.f3_courses.specs.Courses.{Comes, Make, at_line}
use Rattle.f3_courses.proofs.Ends.{next_object}
use Rattle.f3_courses.proofs.Jumps.{drops}
use Rattle.f3_courses.proofs.Standing.{make_both, make_one}
use Rattle.f3_room_frames.specs.Active.{Objects}
use Rattle.f3_room_frames.specs.States.{names_of, object_of, store_of}
use Rattle.f3_register_points.specs.declared.point.Entry.TheVariants as entry
use Rattle.f3_register_points.specs.Values.{setting}
use Rattle.f3_stretch_laws.proofs.Moving.{standing_with}
use Rattle.f3_stretch_laws.proofs.Prefixing.{prefix_then, top_of}
use Rattle.f3_register_points.proofs.References.{nothing}
use Rattle.f3_begin_laws.specs.Laws.{DummiesAreLaid, DummiesArePassed, passed}
use Rattle.f3_stretch_laws.proofs.Names.{names_from}

pub dummies_are_laid : DummiesAreLaid
dummies_are_laid p code q line entries selected k pre st =
    prefix_then pre (line + 1) (entry.Objects 0 ∷ entries) selected 1 (tt, pre.between) pre.selects (λ statics size m frame behind a x h.
    let t = standing_with p behind a a.selected a.stack (store_of p m x) in
    let lays : Make size (setting p) code (i.Dummies ∷ []) t t [] (s.Objects (names_of a) ∷ []) = make_one i.Dummies (λ v place pc. ([], refl, refl)) in
    record {
      chosen = a.selected;
      stack = Objects 0 ∷ a.stack;
      chooses = h.selects;
      cells = (refl, h.cells);
      comes = lays.comes line st;
    })

pub dummies_are_passed : DummiesArePassed
dummies_are_passed p code q line entries selected k j pre lt st =
    prefix_then pre (line + 2) (entry.Objects (j + 1) ∷ entries) selected 2 (tt, pre.between.1) pre.selects (λ statics size m frame behind a x h.
    let top = top_of (entry.Objects j) entries a.stack h.cells in
    let t = standing_with p behind a a.selected top.rest (store_of p m x) in
    let r : Reference = object_of (slice_index_or a.names j nothing) in
    let rs : List Reference = drop (j + 1) (names_of a) in
    let passes : Make size (setting p) code passed t t (s.Objects (r ∷ rs) ∷ []) (s.Objects rs ∷ []) =
    make_both (next_object 1 r rs []) (drops (s.Object r)) in
    record {
      chosen = a.selected;
      stack = Objects (j + 1) ∷ top.rest;
      chooses = h.selects;
      cells = (refl, top.cells);
      comes =
          subst (λ stack. Comes size (setting p) code 2 (at_line (standing_with p behind a a.selected stack (store_of p m x)) line [])
          (at_line (standing_with p behind a a.selected (Objects (j + 1) ∷ top.rest) (store_of p m x)) (line + 2) [])) (sym top.is)
          (subst (λ qs. Comes size (setting p) code 2 (at_line t line (s.Objects qs ∷ []))
          (at_line (standing_with p behind a a.selected (Objects (j + 1) ∷ top.rest) (store_of p m x)) (line + 2) []))
          (sym (names_from p statics q.procedure m frame behind a x h.work j lt)) (passes.comes line st));
    })
