-- No path that is there goes through the contents of an allocatable that holds nothing.
use Rattle.std.proofs.Common.{◌≡◌, ℕ, Bool, true, false, ◌||◌, inl, inr, List, [], ◌∷◌, ◌++◌, refl, sym, ap, ◌∙◌}
use Rattle.std.specs.Prelude.{Some}
use Rattle.f3_meaning_whole.specs.Value.{Span}
use Rattle.f3_meaning_whole.specs.Shape.{Shape}
use Rattle.f3_meaning_whole.specs.Store.{Root, Path, Step, Contents, same_root, begins_with, goes_through, within}
use Rattle.f3_meaning_whole.specs.Reference.{Reference, is_pinned}
use Rattle.f3_rooms.specs.Held.{Held, Empty, Holds}
use Rattle.f3_rooms.specs.Rooms.{Rooms}
use Rattle.f3_rooms.specs.Places.{Found, found}
use Rattle.f3_rooms.specs.Laws.{path_at}
use Rattle.f3_rooms.proofs.Onward.{parts_have_parts}
use Rattle.f3_rooms.proofs.Reading.{none_found}
use Rattle.f3_room_pins.specs.Pins.{IsThere, AreThere}
use Rattle.f3_room_pins.specs.Laws.{VacantIsFree}
use Rattle.f3_room_pins.proofs.Ways.{both_left, both_right, same_roots, enters}
use Rattle.f3_room_pins.proofs.Fronts.{front_found}
use Rattle.f3_room_pins.proofs.Changing.{is_held}

module _ (ts : List Shape) (x : Rooms) (r : Root) (way : List Step) (f : Found) (at : found ts x r way ≡ Some f) (vacant : f.held ≡ Empty) where
  holds_nothing : (c : ℕ) (ss : List Span) (h : Held) → f.held ≡ Holds c ss h → ⊥
  holds_nothing c ss h e = cc

  not_through : (p : Path) → IsThere ts x p → goes_through p (within (path_at r way) Contents) ≡ true → ⊥
  not_through p there e =
      let root = same_roots p.root r (both_left (same_root p.root r) (begins_with p.steps (way ++ Contents ∷ [])) e) in
      let on = enters p.steps way (both_right (same_root p.root r) (begins_with p.steps (way ++ Contents ∷ [])) e) in
      elim there [
        | inl none ↦ let g = front_found ts x r [] way f at in none_found g.0 (sym none ∙ ap (λ k. found ts x k []) root ∙ g.1)
        | inr some ↦
            let whole : found ts x r (way ++ Contents ∷ on.0) ≡ Some some.0 = ap (found ts x r) (sym on.1) ∙ ap (λ k. found ts x k p.steps) (sym root) ∙ some.1 in
            let h = is_held f some.0 on.0 (sym (parts_have_parts ts x r way (Contents ∷ on.0) f at) ∙ whole) in
            holds_nothing h.block h.spans h.beneath h.held
      ]

  none_through : (lent : List Reference) → AreThere ts x lent → is_pinned (path_at r way) lent ≡ false
  none_through [] there = refl
  none_through (l ∷ ls) there = by (none_through ls there.1) (goes_through l.path (within (path_at r way) Contents)) refl
    where
      by : is_pinned (path_at r way) ls ≡ false → (t : Bool) → goes_through l.path (within (path_at r way) Contents) ≡ t → is_pinned (path_at r way) (l ∷ ls) ≡ false
      by rest true e = absurd (not_through l.path there.0 e)
      by rest false e = ap (λ t. t || is_pinned (path_at r way) ls) e ∙ rest

pub vacant_is_free : VacantIsFree
vacant_is_free ts x lent there r way f at vacant = none_through ts x r way f at vacant lent there
