-- What is picked of an array stands there, and what a line that picks does.
use Rattle.std.proofs.Common.{◌≡◌, ◌∙◌, ℕ, Bool, true, false, List, [], ◌∷◌, length, refl, sym, ap, subst, arith}
use Rattle.std.specs.Prelude.{Ok, Err, if◌then◌else◌}
use Rattle.f3_program.specs.declared.program.Program.{Program}
use Rattle.f3_live_blocks.specs.Blocks.{Live}
use Rattle.f3_meaning_whole.specs.Act as act
use Rattle.f3_meaning_whole.specs.Act.{picks, picked, places_in, spans_in, some_zero_step, all_inside, elements_at, first_of}
use Rattle.f3_meaning_whole.specs.Ran.{World, Ran, gives, fails, ◌>>=◌}
use Rattle.f3_meaning_whole.specs.Reference.{Reference, Reach, One, Many}
use Rattle.f3_meaning_whole.specs.Store.{Path}
use Rattle.f3_meaning_whole.specs.Value.{Span}
use Rattle.f3_meaning_whole.specs.declared.run_error.RunError.TheVariants.{StepIsZero, SubscriptOutOfBounds}
use Rattle.f3_code.specs.Machine.{performs}
use Rattle.f3_code.specs.State.{Goes, Stays, Failed}
use Rattle.f3_code.specs.State as s
use Rattle.f3_rooms.specs.Rooms.{Rooms}
use Rattle.f3_rooms.specs.Sound.{IsSound}
use Rattle.f3_word_areas.proofs.Further.{has-places}
use Rattle.f3_word_areas.proofs.Picking.{picked-there, all-within, within-all}
use Rattle.f3_word_cells.specs.declared.cell.Area.{Area}
use Rattle.f3_word_cells.specs.declared.cell.Object.{Object}
use Rattle.f3_word_cells.specs.declared.cell.Object.TheVariants as o
use Rattle.f3_word_cells.specs.declared.state.Stop.{Stop}
use Rattle.f3_word_cells.specs.declared.state.Stop.TheVariants as stop
use Rattle.f3_word_cells.specs.Areas.{AreThere, IsObject, shape_for, spans_of, types_of}
use Rattle.f3_word_cells.proofs.Lines.{first_gives, first_fails, performs_gives}
use Rattle.f3_word_objects.specs.Picks.{Picks, with_elements}
use Rattle.f3_word_cells.specs.Ranks.{AreShort}

-- ---- the run of the line

module _ (r : Reference) (ss : List Span) (ps : List Path) (hs : List act.Chosen) (here : act.Here) (w : World) (f : Reference → World → s.State) where
  abbrev further : List ℕ → Ran Reference
  further ks = gives (picked r ps (spans_in ss hs) ks)

  by-zero : (b : Bool) → some_zero_step hs ≡ b → performs (picks r (Many ss ps) hs here) w f
      ≡ performs ((if b then fails StepIsZero here.place else (if all_inside ss hs then gives (places_in ss hs) else fails SubscriptOutOfBounds here.place)) >>= further) w f
  by-zero b e = ap (λ y. performs ((if y then fails StepIsZero here.place else (if all_inside ss hs then gives (places_in ss hs) else fails SubscriptOutOfBounds here.place)) >>= further) w f) e

  by-inside : (b : Bool) → all_inside ss hs ≡ b → performs ((if all_inside ss hs then gives (places_in ss hs) else fails SubscriptOutOfBounds here.place) >>= further) w f
      ≡ performs ((if b then gives (places_in ss hs) else fails SubscriptOutOfBounds here.place) >>= further) w f
  by-inside b e = ap (λ y. performs ((if y then gives (places_in ss hs) else fails SubscriptOutOfBounds here.place) >>= further) w f) e

  pub picks-goes : some_zero_step hs ≡ false → all_inside ss hs ≡ true → performs (picks r (Many ss ps) hs here) w f ≡ Goes [] (f (picked r ps (spans_in ss hs) (places_in ss hs)) w)
  picks-goes z e = by-zero false z ∙ by-inside true e ∙ first_gives (places_in ss hs) further w f ∙ performs_gives _ w f

  pub picks-zero : some_zero_step hs ≡ true → performs (picks r (Many ss ps) hs here) w f ≡ Stays [] (Failed StepIsZero here.place)
  picks-zero z = by-zero true z ∙ first_fails StepIsZero here.place further w f

  pub picks-outside : some_zero_step hs ≡ false → all_inside ss hs ≡ false → performs (picks r (Many ss ps) hs here) w f ≡ Stays [] (Failed SubscriptOutOfBounds here.place)
  picks-outside z e = by-zero false z ∙ by-inside false e ∙ first_fails SubscriptOutOfBounds here.place further w f

picked-of : (r : Reference) (ps : List Path) (ts : List Span) (ks : List ℕ) → (picked r ps ts ks).of ≡ r.of
picked-of r ps (t ∷ ts) ks = refl
picked-of r ps [] ks = by (elements_at ps ks)
  where
    by : (qs : List Path) → (first_of r qs).of ≡ r.of
    by [] = refl
    by (q ∷ qs) = refl

-- ---- what is picked

-- why nothing is picked
abbrev pub Why : List Span → List act.Chosen → Stop → Type 0
Why ss hs (stop.Failed StepIsZero) = some_zero_step hs ≡ true
Why ss hs (stop.Failed SubscriptOutOfBounds) = (some_zero_step hs ≡ false) × (all_inside ss hs ≡ false)
Why ss hs e = ⊥

pub spans-many : (ds : _) → length (spans_of ds) ≡ length ds
spans-many [] = refl
spans-many (d ∷ ds) = let e = spans-many ds in omega arith

not-true : (b : Bool) → (b ≡ true → ⊥) → b ≡ false
not-true true f = absurd (f refl)
not-true false f = refl

module _ (p : Program) (m : Live) (short : AreShort m) (x : Rooms) (sound : IsSound (types_of p) m x) (r : Reference) (ss : List Span) (ps : List Path) (reach : r.reach ≡ Many ss ps)
    (hs : List act.Chosen) (many : length hs ≡ length ss) where
  area-there : (a : Area) → IsObject p x (o.Stands a) r → AreThere p x a r.path (Many ss ps)
  area-there a is = subst (λ (y : Reach). AreThere p x a r.path y) reach is.1

  as-many : (a : Area) → ss ≡ spans_of (a.elements).dims.items → length hs ≡ length (a.elements).dims.items
  as-many a e = many ∙ ap length e ∙ spans-many (a.elements).dims.items

  -- what is picked stands there
  pub picked-stands : (z y : Object) → IsObject p x z r → Picks z hs (Ok y) → IsObject p x y (picked r ps (spans_in ss hs) (places_in ss hs)) × (some_zero_step hs ≡ false) × (all_inside ss hs ≡ true)
  picked-stands (o.Held of v) y is picks = absurd cc
  picked-stands (o.Stands a) y is picks =
      let there = area-there a is in
      let all = as-many a there.1 in
      let sel = picks.2 in
      let has = has-places (types_of p) m x a.elements (shape_for p a.of) ps sound there.2 (short _) in
      let b = with_elements a picks.0 in
      let stands = picked-there p x a b r ss ps hs refl all sel.1 (sel.2 has) there.1 there.2 in
      let inside : all_inside ss hs ≡ true = ap (λ ts. all_inside ts hs) there.1 ∙ within-all (a.elements).dims.items hs all sel.1 in
      (subst (λ (w : Object). IsObject p x w (picked r ps (spans_in ss hs) (places_in ss hs))) (sym picks.1) (picked-of r ps (spans_in ss hs) (places_in ss hs) ∙ is.0, stands), sel.0, inside)

  -- or nothing is picked, and why
  pub picked-not : (z : Object) (e : Stop) → IsObject p x z r → Picks z hs (Err e) → Why ss hs e
  picked-not (o.Held of v) e is picks = absurd (let f : One ≡ Many ss ps = sym is.1 ∙ reach in cc)
  picked-not (o.Stands a) (stop.Failed StepIsZero) is picks = picks
  picked-not (o.Stands a) (stop.Failed SubscriptOutOfBounds) is picks =
      let there = area-there a is in
      (picks.0, ap (λ ts. all_inside ts hs) there.1 ∙ not-true (all_inside (spans_of (a.elements).dims.items) hs) (λ e. picks.1 (all-within (a.elements).dims.items hs (as-many a there.1) e)))
  picked-not (o.Stands a) e is picks = absurd (picks (as-many a (area-there a is).1))
