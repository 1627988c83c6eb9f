-- Names and rooms are those of procedures that were called, and of ASSOCIATEs that are open.
use Rattle.std.proofs.Common.{◌≡◌, ◌∙◌, ℕ, zero, suc, ◌+◌, ◌*◌, ◌≤◌, List, [], ◌∷◌, length, take, reverse, refl, ap, arith, length-append}
use Rattle.std.proofs.lemmas.List.{length-reverse}
use Rattle.f3_program.specs.declared.program.Program.{Program}
use Rattle.f3_code.specs.Lower.{lowered_program}
use Rattle.f3_rooms.specs.Rooms.{Slot}
use Rattle.f3_word_cells.specs.declared.cell.Cell.{Cell}
use Rattle.f3_word_cells.specs.declared.cell.Cell.TheVariants as c
use Rattle.f3_word_cells.specs.declared.state.Caller.{Caller}
use Rattle.f3_word_cells.specs.States.{AreCalled, AreTight, IsCalled, beneath, cells_from, level_rooms, levels_rooms, own, rooms_at}
use Rattle.f3_word_needs.specs.Names.{most_dummies}
use Rattle.f3_word_needs.specs.Counts.{kept_names}
use Rattle.f3_word_needs.specs.Laws.{NamesAreKept, BlocksAreFew}
use Rattle.f3_word_needs.proofs.Asked.{procedure_few}
use Rattle.f3_word_needs.proofs.Memory.{kept_apart, memory_is_as_large}

-- ---- the rooms of levels

-- the last level, and those before it
rooms_last : (ls : List (List Slot)) (n : ℕ) → length ls ≡ suc n → length (levels_rooms ls) ≡ length (levels_rooms (take n ls)) + rooms_at ls n
rooms_last [] n e = absurd (omega (arith, e))
rooms_last (l ∷ ls) zero e = none ls (omega (arith, e))
  where
    none : (ks : List (List Slot)) → length ks ≡ 0 → length (levels_rooms (l ∷ ks)) ≡ length (levels_rooms (take 0 (l ∷ ks))) + rooms_at (l ∷ ks) 0
    none [] e = omega (arith, length-append (level_rooms l) [])
    none (k ∷ ks) e = absurd (omega (arith, e))
rooms_last (l ∷ ls) (suc n) e =
    let more = rooms_last ls n (omega (arith, e)) in
    omega (arith, more, length-append (level_rooms l) (levels_rooms ls), length-append (level_rooms l) (levels_rooms (take n ls)))

take_length : {A : Type 0} (n : ℕ) (xs : List A) → n ≤ length xs → length (take n xs) ≡ n
take_length zero xs le = refl
take_length (suc n) [] le = absurd (omega (arith, le))
take_length (suc n) (x ∷ xs) le = ap suc (take_length n xs (omega (arith, le)))

take_again : {A : Type 0} (n : ℕ) (xs : List A) → take n (take (suc n) xs) ≡ take n xs
take_again zero xs = refl
take_again (suc n) [] = refl
take_again (suc n) (x ∷ xs) = ap (λ ys. x ∷ ys) (take_again n xs)

at_again : (n : ℕ) (xs : List (List Slot)) → rooms_at (take (suc n) xs) n ≡ rooms_at xs n
at_again zero [] = refl
at_again zero (x ∷ xs) = refl
at_again (suc n) [] = refl
at_again (suc n) (x ∷ xs) = at_again n xs

-- the last two
rooms_last_two : (ls : List (List Slot)) (n : ℕ) → length ls ≡ suc (suc n)
    → length (levels_rooms ls) ≡ length (levels_rooms (take n ls)) + rooms_at ls n + rooms_at ls (suc n)
rooms_last_two ls n e =
    let one = rooms_last ls (suc n) e in
    let short = take_length (suc n) ls (omega (arith, e)) in
    let two = rooms_last (take (suc n) ls) n short in
    let same = ap (λ ks. length (levels_rooms ks)) (take_again n ls) in
    let at = at_again n ls in
    omega (arith, one, two, same, at)

-- ---- so many names and blocks, where so many callers are and their cells keep so many names

module _ (p : Program) where
  abbrev most : ℕ
  most = most_dummies (lowered_program p).procedures

  record Kept (ls : List (List Slot)) (n calls names : ℕ) : Type 0 where
    few : n ≤ calls * most + names
    rooms : length (levels_rooms ls) ≤ 1 + calls + (calls * most + names)

  cells_keep : (Rest : List (List Slot) → ℕ → Type 0) (calls names : ℕ) → ((ks : List (List Slot)) (m : ℕ) → Rest ks m → Kept ks m calls names)
      → (ls : List (List Slot)) (n : ℕ) (zs : List Cell) → AreTight Rest ls n zs → Kept ls n calls (names + kept_names zs)
  cells_keep Rest calls names g ls n [] are = let h = g ls n are in record { few = let a = h.few in omega (arith, a); rooms = let a = h.rooms in omega (arith, a) }
  cells_keep Rest calls names g ls n (c.Level level range ∷ zs) are =
      let h = cells_keep Rest calls names g (take level ls) range.from zs are.3 in
      let last = rooms_last ls level are.0 in
      record {
        few = let a = h.few in let e = are.2 in omega (arith, a, e);
        rooms = let a = h.rooms in let e = are.1 in omega (arith, a, e, last);
      }
  cells_keep Rest calls names g ls n (c.Datum d ∷ zs) are = cells_keep Rest calls names g ls n zs are
  cells_keep Rest calls names g ls n (c.Object d ∷ zs) are = cells_keep Rest calls names g ls n zs are
  cells_keep Rest calls names g ls n (c.Argument d ∷ zs) are = cells_keep Rest calls names g ls n zs are
  cells_keep Rest calls names g ls n (c.Choice d ∷ zs) are = cells_keep Rest calls names g ls n zs are
  cells_keep Rest calls names g ls n (c.Bound d ∷ zs) are = cells_keep Rest calls names g ls n zs are
  cells_keep Rest calls names g ls n (c.Bounds d ∷ zs) are = cells_keep Rest calls names g ls n zs are
  cells_keep Rest calls names g ls n (c.Turns d e ∷ zs) are = cells_keep Rest calls names g ls n zs are
  cells_keep Rest calls names g ls n (c.Objects d ∷ zs) are = cells_keep Rest calls names g ls n zs are
  cells_keep Rest calls names g ls n (c.Selector d ∷ zs) are = cells_keep Rest calls names g ls n zs are
  cells_keep Rest calls names g ls n (c.Outside d ∷ zs) are = cells_keep Rest calls names g ls n zs are
  cells_keep Rest calls names g ls n (c.Going d ∷ zs) are = cells_keep Rest calls names g ls n zs are
  cells_keep Rest calls names g ls n (c.Each a k ∷ zs) are = cells_keep Rest calls names g ls n zs are

  callers_keep : (zs : List Cell) (fs : List Caller) (ls : List (List Slot)) (n : ℕ) → AreCalled p zs fs ls n → Kept ls n (length fs) (kept_names zs)
  callers_keep zs [] ls n are =
      let last = rooms_last ls 0 are.1 in
      record { few = let e = are.0 in omega (arith, e); rooms = let e = are.2 in let f : length (levels_rooms (take 0 ls)) ≡ 0 = refl in omega (arith, e, f, last) }
  callers_keep zs (f ∷ fs) ls n are =
      let called : IsCalled p ls n f = are.0 in
      let h = cells_keep (AreCalled p (take f.base zs) fs) (length fs) (kept_names (take f.base zs)) (callers_keep (take f.base zs) fs) (take f.level ls) f.dummies.from
      (cells_from f.base zs) are.2 in
      let split = kept_apart f.base zs in
      let many = procedure_few p called.number called.procedure called.there in
      let last = rooms_last_two ls f.level called.levels in
      record {
        few = let a = h.few in let e = called.dummies in let d = called.count in omega (arith, a, e, d, many, split);
        rooms = let a = h.rooms in let d = called.count in let held = called.held in let one = called.variables in omega (arith, a, d, many, split, last, held, one);
      }

pub names_are_kept : NamesAreKept
names_are_kept p live w x t st =
    let fs = reverse w.callers.items.items in
    let h = cells_keep p (AreCalled p (beneath w) fs) (length fs) (kept_names (beneath w)) (callers_keep p (beneath w) fs) x.levels (length w.names.items.items) (own w) st.tight in
    let large = memory_is_as_large p live w x t st in
    let split = kept_apart w.base w.cells.items.items in
    let calls : length fs ≡ length t.frames = length-reverse w.callers.items.items ∙ large.1 in
    let e = ap (λ k. k * most_dummies (lowered_program p).procedures) calls in
    let few = h.few in
    omega (arith, few, large.3, split, e)

pub blocks_are_few : BlocksAreFew
blocks_are_few p live w x t st =
    let fs = reverse w.callers.items.items in
    let h = cells_keep p (AreCalled p (beneath w) fs) (length fs) (kept_names (beneath w)) (callers_keep p (beneath w) fs) x.levels (length w.names.items.items) (own w) st.tight in
    let large = memory_is_as_large p live w x t st in
    let split = kept_apart w.base w.cells.items.items in
    let calls : length fs ≡ length t.frames = length-reverse w.callers.items.items ∙ large.1 in
    let e = ap (λ k. k * most_dummies (lowered_program p).procedures) calls in
    let same = ap (λ (l : List ℕ). length l) st.blocks in
    let rooms = h.rooms in
    omega (arith, rooms, large.3, split, e, calls, same)
