-- Allocatables that get what they hold.
use Rattle.std.proofs.Common.{◌≡◌, ℕ, ◌<◌, List, length, refl, sym, ap, subst, ◌∙◌}
use Rattle.std.specs.Prelude.{None}
use Rattle.std.specs.FinMap.{get as find}
use Rattle.f3_live_blocks.specs.Blocks.{Live, with_taken}
use Rattle.f3_heap_laws.specs.Answers.{Answer, Taken}
use Rattle.f3_meaning_whole.specs.Value.{Span, Allocated}
use Rattle.f3_meaning_whole.specs.Shape.{Shape}
use Rattle.f3_meaning_whole.specs.Store.{Root, Step}
use Rattle.f3_rooms.specs.Held.{Empty, Holds}
use Rattle.f3_rooms.specs.Rooms.{Rooms}
use Rattle.f3_rooms.specs.Places.{Found, rooms_with}
use Rattle.f3_rooms.specs.Laws.{with_holder, blank, Becomes}
use Rattle.f3_rooms.proofs.Allocating.{objects_are_allocated}
use Rattle.f3_room_changes.specs.Allocations.{IsVacant, Allocates}
use Rattle.f3_room_changes.proofs.Finding.{part_found}
use Rattle.f3_room_changes.proofs.Places.{moved_from}

pub allocated : (ts : List Shape) (m n : Live) (x : Rooms) (r : Root) (way : List Step) (f : Found) (b o : ℕ) (ss : List Span) (k : ℕ) → IsVacant ts m x r way f b o ss k
    → (A : Answer → Type 0) (c : ℕ) → find m c ≡ None → 0 < c → A (Taken c) → n ≡ with_holder (with_taken m c k) b o c ss → Allocates ts m n x r way f ss A
allocated ts m n x r way f b o ss k v A c fresh named allowed is =
    let own : n ≡ with_holder (with_taken m c k) f.block f.at c ss = moved_from (λ b o. n ≡ with_holder (with_taken m c k) b o c ss) f b o v.here.block v.here.word is in
    let all = own ∙ ap (λ (j : ℕ). with_holder (with_taken m c j) f.block f.at c ss) v.words in
    let done = objects_are_allocated ts m x v.here.sound r way f v.here.found (length ss) v.form v.held c ss refl fresh named in
    record {
      block = c;
      fresh = fresh;
      allowed = allowed;
      is = all;
      gets = record {
        becomes = subst (λ (n : Live). Becomes ts m n x (rooms_with x r way (Holds c ss Empty)) r way (Allocated (blank (length ss) ss f.shape))) (sym all) done;
        found = part_found ts x r way f (Holds c ss Empty) v.here.found;
      };
    }
