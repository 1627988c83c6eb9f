-- How many words the variables of a procedure take as they begin.
use Rattle.std.proofs.Common.{◌≡◌, ◌∙◌, ℕ, suc, ◌+◌, Bool, true, false, ℤ, List, [], ◌∷◌, take, sym, ap, refl, arith, if◌then◌else◌}
use Rattle.std.specs.Prelude.{Some, slice_get}
use Rattle.std.specs.FinMap.{empty}
use Rattle.std.specs.List.{All}
use Rattle.std.proofs.lemmas.List.{take_all}
use Rattle.f3_program.specs.declared.declarations.Declared.{Declared}
use Rattle.f3_program.specs.declared.program.Procedure.{Procedure}
use Rattle.f3_program.specs.declared.program.Program.{Program}
use Rattle.f3_live_blocks.specs.Blocks.{Live, with_words, words_of}
use Rattle.f3_live_blocks.proofs.Laws.{live-insert_same, words-insert_same}
use Rattle.f3_meaning_whole.specs.Exec.{declared_in, variables as initial_variables}
use Rattle.f3_meaning_whole.specs.Run.{setting_of}
use Rattle.f3_meaning_whole.specs.Shape.{Shape, shape_in, spans_declared}
use Rattle.f3_code.specs.Account.{level_words, words}
use Rattle.f3_rooms.specs.Flat.{is_flat}
use Rattle.f3_rooms.specs.Forms.{Allocatable, Form, Laid, form_words, room, total, words_for}
use Rattle.f3_rooms.specs.Held.{Held, Row, end, first, others}
use Rattle.f3_rooms.specs.Values.{formed, object, variable, variables}
use Rattle.f3_room_frames.proofs.Flat.{flat_laid_words}
use Rattle.f3_room_levels.specs.Initial.{AllCanBegin, initial_words}
use Rattle.f3_room_levels.proofs.Initials.{initial_words_are_initial}
use Rattle.f3_room_levels.proofs.Widths.{initial_many}
use Rattle.f3_word_cells.specs.Areas.{types_of}
use Rattle.f3_word_cells.specs.Plain.{ArePlain, IsPlain}
use Rattle.f3_word_cells.proofs.Wording.{flat_shape}

module _ (ts : List Shape) (flat : All (λ s. is_flat s ≡ true) ts) (m : Live) (b : ℕ) where
  variable_takes : (d : Declared) → d.kind.is_allocatable ≡ false → (o : ℕ) (h : Held) → words (variable ts m d b o h) ≡ room ts d
  variable_takes d fixed o h = by d.kind.is_allocatable fixed
    where
      form_where : Bool → Form
      form_where z = if z then Allocatable d.kind.rank else Laid d.kind.rank (spans_declared d.dimensions.items)

      by : (z : Bool) → z ≡ false → words (formed (form_where z) (words_for (shape_in ts d.kind.of)) (object m (shape_in ts d.kind.of)) b o h) ≡ form_words (form_where z) (words_for (shape_in ts d.kind.of))
      by true e = absurd cc
      by false e = flat_laid_words m (shape_in ts d.kind.of) (flat_shape ts flat d.kind.of) d.kind.rank (spans_declared d.dimensions.items) b o h

  variables_take : (ds : List Declared) → ArePlain ds → (o : ℕ) (hs : Row) → level_words (variables ts m ds b o hs) ≡ total ts ds
  variables_take [] plain o hs = refl
  variables_take (d ∷ ds) plain o hs =
      let one = variable_takes d (plain 0 d (omega arith)) o (first hs) in
      let more = variables_take ds (λ k e lt. plain (suc k) e (omega arith)) (o + room ts d) (others hs) in
      omega (arith, one, more)

-- as they begin, with their initial values
pub begun_take : (p : Program) (f : ℕ) (q : Procedure) → IsPlain p → slice_get p.procedures.items f ≡ Some q → AllCanBegin (types_of p) (declared_in q)
    → level_words (initial_variables (setting_of p) q) ≡ total (types_of p) (declared_in q)
begun_take p f q plain there can =
    let ts : List Shape = types_of p in
    let ds : List Declared = declared_in q in
    let ws : List ℤ = initial_words ts ds in
    let m : Live = with_words empty 0 ws in
    let many = initial_many ts ds can in
    let front : take (total ts ds) (words_of m 0) ≡ ws = ap (take (total ts ds)) (words-insert_same empty 0 _) ∙ take_all (total ts ds) ws (omega (arith, many)) in
    ap level_words (sym (initial_words_are_initial (setting_of p) m 0 ds can (live-insert_same empty 0 _) front).0)
    ∙ variables_take ts plain.types m 0 ds (plain.procedures f q there) 0 end
