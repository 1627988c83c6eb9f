-- A way goes through a block exactly where it enters the contents of the allocatable that holds it.
use Rattle.std.proofs.Common.{◌≡◌, ℕ, zero, suc, ◌+◌, ◌≤◌, ◌<◌, Bool, true, false, List, [], ◌∷◌, ◌++◌, length, refl, sym, ap, ◌∙◌, arith}
use Rattle.std.proofs.lemmas.Bool.Decides.{nat_tests}
use Rattle.std.proofs.lemmas.List.{append-nil, length-append}
use Rattle.std.specs.Prelude.{Option, None, Some, nat_eq, if◌then◌else◌}
use Rattle.f3_live_blocks.specs.Blocks.{Live}
use Rattle.f3_meaning_whole.specs.Value.{Span}
use Rattle.f3_meaning_whole.specs.Shape.{Shape}
use Rattle.f3_meaning_whole.specs.Store.{Root, Step, Component, Element, Contents}
use Rattle.f3_rooms.specs.Held.{Held, Empty, Holds, Parts as Divided, blocks_in, times}
use Rattle.f3_rooms.specs.Rooms.{Rooms, blocks_of}
use Rattle.f3_rooms.specs.Places.{Found, found}
use Rattle.f3_rooms.specs.Sound.{IsSound}
use Rattle.f3_rooms.proofs.Allocating.{at_most_one}
use Rattle.f3_rooms.proofs.Framing.{times_append, one_here}
use Rattle.f3_rooms.proofs.Within.{store_owns}
use Rattle.f3_room_pins.specs.Pins.{block_in, block_at, blocks_behind, blocks_along}
use Rattle.f3_room_pins.specs.Laws.{BlocksAreOnce}
use Rattle.f3_room_pins.proofs.Ways.{stepped}
use Rattle.f3_room_pins.proofs.Apart.{is_holding, only_one}

-- a way enters the contents of what holds the block
pub record Enters (ts : List Shape) (x : Rooms) (r : Root) (front way : List Step) (d : ℕ) : Type 0 where
  pub mid : List Step
  pub after : List Step
  pub is : way ≡ mid ++ Contents ∷ after
  pub part : Found
  pub spans : List Span
  pub beneath : Held
  pub found : found ts x r (front ++ mid) ≡ Some part
  pub held : part.held ≡ Holds d spans beneath

-- what holds the block
record IsBlockAt (o : Option Found) (d : ℕ) : Type 0 where
  part : Found
  spans : List Span
  beneath : Held
  found : o ≡ Some part
  held : part.held ≡ Holds d spans beneath

block_is : (o : Option Found) (d : ℕ) → 0 < times d (block_at o) → IsBlockAt o d
block_is None d some = absurd (omega arith)
block_is (Some f) d some = by f.held refl some
  where
    by : (h : Held) → f.held ≡ h → 0 < times d (block_in h) → IsBlockAt (Some f) d
    by Empty e some = absurd (omega arith)
    by (Divided hs) e some = absurd (omega arith)
    by (Holds c ss h) e some = is (nat_eq d c) refl some
      where
        is : (t : Bool) → nat_eq d c ≡ t → 0 < (if t then 1 else 0) + 0 → IsBlockAt (Some f) d
        is false n some = absurd (omega arith)
        is true n some = record {
          part = f;
          spans = ss;
          beneath = h;
          found = refl;
          held = e ∙ ap (λ k. Holds k ss h) (let s : c ≡ d = grind (arith, nat_tests) in s);
        }

module _ (ts : List Shape) (x : Rooms) (r : Root) where
  further : (front : List Step) (s : Step) (way : List Step) (d : ℕ) → Enters ts x r (front ++ s ∷ []) way d → Enters ts x r front (s ∷ way) d
  further front s way d t = record {
    mid = s ∷ t.mid;
    after = t.after;
    is = ap (λ w. s ∷ w) t.is;
    part = t.part;
    spans = t.spans;
    beneath = t.beneath;
    found = ap (found ts x r) (sym (stepped front s t.mid)) ∙ t.found;
    held = t.held;
  }

  pub enters : (front way : List Step) (d : ℕ) → 0 < times d (blocks_behind ts x r front way) → Enters ts x r front way d
  enters front [] d some = absurd (omega arith)
  enters front (Component k ∷ way) d some = further front (Component k) way d (enters (front ++ Component k ∷ []) way d some)
  enters front (Element k ∷ way) d some = further front (Element k) way d (enters (front ++ Element k ∷ []) way d some)
  enters front (Contents ∷ way) d some =
      by (times d (block_at (found ts x r front))) refl (enters (front ++ Contents ∷ []) way d)
    where
      rest : List ℕ
      rest = blocks_behind ts x r (front ++ Contents ∷ []) way

      by : (k : ℕ) → times d (block_at (found ts x r front)) ≡ k → (0 < times d rest → Enters ts x r (front ++ Contents ∷ []) way d) → Enters ts x r front (Contents ∷ way) d
      by zero e next = further front Contents way d (next (let a = times_append d (block_at (found ts x r front)) rest in omega arith))
      by (suc k) e next =
          let i = block_is (found ts x r front) d (omega arith) in
          record {
            mid = [];
            after = way;
            is = refl;
            part = i.part;
            spans = i.spans;
            beneath = i.beneath;
            found = ap (found ts x r) (append-nil front) ∙ i.found;
            held = i.held;
          }

  pub enters_so : (front mid after : List Step) (d : ℕ) (f : Found) (ss : List Span) (h : Held) → found ts x r (front ++ mid) ≡ Some f → f.held ≡ Holds d ss h
      → 0 < times d (blocks_behind ts x r front (mid ++ Contents ∷ after))
  enters_so front [] after d f ss h e held =
      let rest : List ℕ = blocks_behind ts x r (front ++ Contents ∷ []) after in
      let b : times d (block_at (found ts x r front)) ≡ times d (d ∷ []) = ap (λ o. times d (block_at o)) (ap (found ts x r) (sym (append-nil front)) ∙ e) ∙ ap (λ k. times d (block_in k)) held in
      let a = times_append d (block_at (found ts x r front)) rest in
      let o = one_here d [] in
      omega arith
  enters_so front (Component k ∷ mid) after d f ss h e held =
      enters_so (front ++ Component k ∷ []) mid after d f ss h (ap (found ts x r) (stepped front (Component k) mid) ∙ e) held
  enters_so front (Element k ∷ mid) after d f ss h e held =
      enters_so (front ++ Element k ∷ []) mid after d f ss h (ap (found ts x r) (stepped front (Element k) mid) ∙ e) held
  enters_so front (Contents ∷ mid) after d f ss h e held =
      let i = enters_so (front ++ Contents ∷ []) mid after d f ss h (ap (found ts x r) (stepped front Contents mid) ∙ e) held in
      let a = times_append d (block_at (found ts x r front)) (blocks_behind ts x r (front ++ Contents ∷ []) (mid ++ Contents ∷ after)) in
      omega arith

-- so it is a block of the store
pub in_store : (ts : List Shape) (x : Rooms) (r : Root) (way : List Step) (d : ℕ) → 0 < times d (blocks_along ts x r way) → 0 < times d (blocks_of x)
in_store ts x r way d some =
    let t = enters ts x r [] way d some in
    let e = (store_owns ts x r t.mid t.part t.found).counted d in
    let h : times d (blocks_in t.part.held) ≡ times d (d ∷ blocks_in t.beneath) = ap (λ k. times d (blocks_in k)) t.held in
    let o = one_here d (blocks_in t.beneath) in
    omega arith

-- a way does not come back to a block
module _ (ts : List Shape) (m : Live) (x : Rooms) (sound : IsSound ts m x) (r : Root) (b : ℕ) where
  not_again : (front way : List Step) (f : Found) (ss : List Span) (h : Held) → found ts x r front ≡ Some f → f.held ≡ Holds b ss h
      → times b (blocks_behind ts x r (front ++ Contents ∷ []) way) ≡ 0
  not_again front way f ss h at held = by (times b (blocks_behind ts x r (front ++ Contents ∷ []) way)) (enters ts x r (front ++ Contents ∷ []) way b)
    where
      by : (k : ℕ) → (0 < k → Enters ts x r (front ++ Contents ∷ []) way b) → k ≡ 0
      by zero goes = refl
      by (suc k) goes =
          let t = goes (omega arith) in
          let one = only_one ts m x sound r front f at b ss h (is_holding ts m x sound r front f at b ss h held) r ((front ++ Contents ∷ []) ++ t.mid) t.part t.found t.spans t.beneath
          (is_holding ts m x sound r ((front ++ Contents ∷ []) ++ t.mid) t.part t.found b t.spans t.beneath t.held) in
          let l : length ((front ++ Contents ∷ []) ++ t.mid) ≡ length front = ap length one.1 in
          let a = length-append (front ++ Contents ∷ []) t.mid in
          let c = length-append front (Contents ∷ []) in
          absurd (omega arith)

  at_most_once : (front way : List Step) → times b (blocks_behind ts x r front way) ≤ 1
  at_most_once front [] = omega arith
  at_most_once front (Component k ∷ way) = at_most_once (front ++ Component k ∷ []) way
  at_most_once front (Element k ∷ way) = at_most_once (front ++ Element k ∷ []) way
  at_most_once front (Contents ∷ way) = by (times b (block_at (found ts x r front))) refl (at_most_once (front ++ Contents ∷ []) way)
    where
      rest : List ℕ
      rest = blocks_behind ts x r (front ++ Contents ∷ []) way

      one_block : (o : Option Found) → times b (block_at o) ≤ 1
      one_block None = omega arith
      one_block (Some f) = held f.held
        where
          held : (h : Held) → times b (block_in h) ≤ 1
          held Empty = omega arith
          held (Divided hs) = omega arith
          held (Holds c ss h) = at_most_one b c

      by : (k : ℕ) → times b (block_at (found ts x r front)) ≡ k → times b rest ≤ 1 → times b (block_at (found ts x r front) ++ rest) ≤ 1
      by zero e few = let a = times_append b (block_at (found ts x r front)) rest in omega arith
      by (suc k) e few =
          let i = block_is (found ts x r front) b (omega arith) in
          let z = not_again front way i.part i.spans i.beneath i.found i.held in
          let o = one_block (found ts x r front) in
          let a = times_append b (block_at (found ts x r front)) rest in
          omega arith

pub blocks_are_once : BlocksAreOnce
blocks_are_once ts m x sound r way b = at_most_once ts m x sound r b [] way
