-- Two levels more: of the values that are held, and of the variables of a procedure.
use Rattle.std.proofs.Common.{◌≡◌, ◌≢◌, ◌∙◌, inl, inr, ℕ, suc, ◌+◌, ℤ, List, [], ◌∷◌, ◌++◌, length, append_assoc, refl, sym, ap, subst, arith}
use Rattle.std.specs.Prelude.{Some, slice_get, slice_index_or, take}
use Rattle.std.specs.FinMap.{get as find}
use Rattle.std.proofs.lemmas.Bool.{cases_eq}
use Rattle.std.proofs.lemmas.List.{length-append}
use Rattle.std.proofs.Math.Seq.{take-append_seam}
use Rattle.f3_program.specs.declared.declarations.Declared.{Declared}
use Rattle.f3_meaning_whole.specs.Shape.{Shape}
use Rattle.f3_rooms.specs.Held.{times}
use Rattle.f3_rooms.specs.Places.{with_word}
use Rattle.f3_rooms.specs.Rooms.{Room, Rooms, Slot, Stands as Stood, blocks_of, level_blocks, levels_blocks, room_blocks}
use Rattle.f3_rooms.specs.Laws.{before_level, with_level}
use Rattle.f3_rooms.proofs.Framing.{times_append}
use Rattle.f3_live_blocks.specs.Blocks.{Live, IsLive, pins_in, pins_of, with_taken}
use Rattle.f3_live_blocks.proofs.Laws.{get-insert_other, pins-insert_same}
use Rattle.f3_room_levels.specs.Initial.{initial_words}
use Rattle.f3_room_levels.specs.Levels.{Begins, begun}
use Rattle.f3_room_levels.specs.Writing.{with_words_from}
use Rattle.f3_room_levels.proofs.Written.{from_others}
use Rattle.f3_word_cells.specs.States.{AreBare, IsBareLevel, level_rooms, levels_rooms, rooms_at, starts_of}

abbrev pub with_two : Rooms → List Slot → Room → Rooms
with_two x slots room = with_level (with_level x slots) (Stood room ∷ [])

pub two_levels : (x : Rooms) (slots : List Slot) (room : Room) → (with_two x slots room).levels ≡ x.levels ++ (slots ∷ (Stood room ∷ []) ∷ [])
two_levels x slots room = append_assoc x.levels (slots ∷ []) ((Stood room ∷ []) ∷ [])

pub two_more : (x : Rooms) (slots : List Slot) (room : Room) → length (with_two x slots room).levels ≡ suc (suc (length x.levels))
two_more x slots room =
    let e = ap length (two_levels x slots room) in
    let f = length-append x.levels (slots ∷ (Stood room ∷ []) ∷ []) in
    omega (arith, e, f)

get_past : {A : Type 0} (xs ys : List A) (i : ℕ) → slice_get (xs ++ ys) (length xs + i) ≡ slice_get ys i
get_past [] ys i = let e : 0 + i ≡ i = omega arith in ap (slice_get ys) e
get_past (x ∷ xs) ys i =
    let e : suc (length xs) + i ≡ suc (length xs + i) = omega arith in
    ap (slice_get (x ∷ (xs ++ ys))) e ∙ get_past xs ys i

index_past : {A : Type 0} (xs ys : List A) (i : ℕ) (d : A) → slice_index_or (xs ++ ys) (length xs + i) d ≡ slice_index_or ys i d
index_past [] ys i d = let e : 0 + i ≡ i = omega arith in ap (λ k. slice_index_or ys k d) e
index_past (x ∷ xs) ys i d =
    let e : suc (length xs) + i ≡ suc (length xs + i) = omega arith in
    ap (λ k. slice_index_or (x ∷ (xs ++ ys)) k d) e ∙ index_past xs ys i d

module _ (x : Rooms) (slots : List Slot) (room : Room) where
  -- beneath them stands what stood
  pub two_taken : take (length x.levels) (with_two x slots room).levels ≡ x.levels
  two_taken = ap (take (length x.levels)) (two_levels x slots room) ∙ take-append_seam x.levels (slots ∷ (Stood room ∷ []) ∷ [])

  pub two_before : before_level (with_two x slots room) (length x.levels) ≡ x
  two_before = ap (λ ls. let y : Rooms = record { statics = x.statics; levels = ls } in y) two_taken

  pub variables_stand : slice_get (with_two x slots room).levels (suc (length x.levels)) ≡ Some (Stood room ∷ [])
  variables_stand =
      let e : suc (length x.levels) ≡ length x.levels + 1 = omega arith in
      ap (λ ls. slice_get ls (suc (length x.levels))) (two_levels x slots room) ∙ ap (slice_get (x.levels ++ (slots ∷ (Stood room ∷ []) ∷ []))) e
      ∙ get_past x.levels (slots ∷ (Stood room ∷ []) ∷ []) 1

  pub held_rooms : rooms_at (with_two x slots room).levels (length x.levels) ≡ length (level_rooms slots)
  held_rooms =
      let e : length x.levels ≡ length x.levels + 0 = omega arith in
      ap (λ ls. rooms_at ls (length x.levels)) (two_levels x slots room) ∙ ap (rooms_at (x.levels ++ (slots ∷ (Stood room ∷ []) ∷ []))) e
      ∙ ap (λ (l : List Slot). length (level_rooms l)) (index_past x.levels (slots ∷ (Stood room ∷ []) ∷ []) 0 [])

  pub variable_rooms : rooms_at (with_two x slots room).levels (suc (length x.levels)) ≡ 1
  variable_rooms =
      let e : suc (length x.levels) ≡ length x.levels + 1 = omega arith in
      ap (λ ls. rooms_at ls (suc (length x.levels))) (two_levels x slots room) ∙ ap (rooms_at (x.levels ++ (slots ∷ (Stood room ∷ []) ∷ []))) e
      ∙ ap (λ (l : List Slot). length (level_rooms l)) (index_past x.levels (slots ∷ (Stood room ∷ []) ∷ []) 1 [])

-- ---- their blocks

rooms_append : (ls ks : List (List Slot)) → levels_rooms (ls ++ ks) ≡ levels_rooms ls ++ levels_rooms ks
rooms_append [] ks = refl
rooms_append (l ∷ ls) ks = ap (λ bs. level_rooms l ++ bs) (rooms_append ls ks) ∙ sym (append_assoc (level_rooms l) (levels_rooms ls) (levels_rooms ks))

starts_append : (n : ℕ) (ls ks : List (List Slot)) → starts_of n (ls ++ ks) ≡ starts_of n ls ++ starts_of (n + length (levels_rooms ls)) ks
starts_append n [] ks = let e : n ≡ n + 0 = omega arith in ap (λ i. starts_of i ks) e
starts_append n (l ∷ ls) ks =
    let f = length-append (level_rooms l) (levels_rooms ls) in
    let e : n + length (level_rooms l) + length (levels_rooms ls) ≡ n + length (level_rooms l ++ levels_rooms ls) = omega (arith, f) in
    ap (λ ns. n ∷ ns) (starts_append (n + length (level_rooms l)) ls ks ∙ ap (λ i. starts_of (n + length (level_rooms l)) ls ++ starts_of i ks) e)

bare_append : (ls ks : List (List Slot)) → AreBare ls → AreBare ks → AreBare (ls ++ ks)
bare_append [] ks bare more = more
bare_append (l ∷ ls) ks bare more = (bare.0, bare_append ls ks bare.1 more)

module _ (x : Rooms) (slots : List Slot) (b : ℕ) (ds : List Declared) where
  abbrev both : Rooms
  both = with_two x slots (begun b ds)

  pub two_rooms : levels_rooms both.levels ≡ levels_rooms x.levels ++ (level_rooms slots ++ b ∷ [])
  two_rooms = ap levels_rooms (two_levels x slots (begun b ds)) ∙ rooms_append x.levels (slots ∷ (Stood (begun b ds) ∷ []) ∷ [])

  pub two_starts : (bs : List ℕ) → bs ≡ levels_rooms x.levels
      → starts_of 0 both.levels ≡ starts_of 0 x.levels ++ (length bs ∷ (length bs + length (level_rooms slots)) ∷ [])
  two_starts bs e =
      let f : 0 + length (levels_rooms x.levels) ≡ length bs = (let g = ap length e in omega (arith, g)) in
      ap (starts_of 0) (two_levels x slots (begun b ds)) ∙ starts_append 0 x.levels (slots ∷ (Stood (begun b ds) ∷ []) ∷ [])
      ∙ ap (λ i. starts_of 0 x.levels ++ (i ∷ (i + length (level_rooms slots)) ∷ [])) f

  pub two_bare : AreBare x.levels → IsBareLevel slots → AreBare both.levels
  two_bare bare more = subst AreBare (sym (two_levels x slots (begun b ds))) (bare_append x.levels (slots ∷ (Stood (begun b ds) ∷ []) ∷ []) bare (more, ((refl, tt), tt)))

times_level : (q : ℕ) (ls : List (List Slot)) (l : List Slot) → times q (levels_blocks (ls ++ l ∷ [])) ≡ times q (levels_blocks ls) + times q (level_blocks l)
times_level q [] l = let e = times_append q (level_blocks l) [] in omega (arith, e)
times_level q (k ∷ ls) l =
    let e = times_append q (level_blocks k) (levels_blocks (ls ++ l ∷ [])) in
    let f = times_append q (level_blocks k) (levels_blocks ls) in
    let g = times_level q ls l in
    omega (arith, e, f, g)

pub times_with : (q : ℕ) (x : Rooms) (l : List Slot) → times q (blocks_of (with_level x l)) ≡ times q (blocks_of x) + times q (level_blocks l)
times_with q x l =
    let e = times_append q (room_blocks x.statics) (levels_blocks (x.levels ++ l ∷ [])) in
    let f = times_append q (room_blocks x.statics) (levels_blocks x.levels) in
    let g = times_level q x.levels l in
    omega (arith, e, f, g)

pub times_two : (q : ℕ) (x : Rooms) (slots : List Slot) (b : ℕ) (ds : List Declared)
    → times q (blocks_of (with_two x slots (begun b ds))) ≡ times q (blocks_of x) + times q (level_blocks slots) + times q (b ∷ [])
times_two q x slots b ds =
    let e = times_with q (with_level x slots) (Stood (begun b ds) ∷ []) in
    let f = times_with q x slots in
    omega (arith, e, f)

-- ---- the new block

pins_from : (m : Live) (b o : ℕ) (ws : List ℤ) → pins_of (with_words_from m b o ws) b ≡ pins_of m b
pins_from m b o [] = refl
pins_from m b o (w ∷ ws) = pins_from (with_word m b o w) b (o + 1) ws ∙ pins-insert_same m b _

module _ (ts : List Shape) (m n : Live) (ds : List Declared) (words b : ℕ) (h : Begins ts m n ds words b) where
  pub elsewhere : (q : ℕ) → q ≢ b → find n q ≡ find m q
  elsewhere q ne = ap (λ (k : Live). find k q) h.is ∙ from_others (with_taken m b words) b 0 (initial_words ts ds) q ne ∙ get-insert_other m b _ q ne

  begun_unpinned : pins_of n b ≡ 0
  begun_unpinned = ap (λ (k : Live). pins_of k b) h.is ∙ pins_from (with_taken m b words) b 0 (initial_words ts ds) ∙ pins-insert_same m b _

  pub all_unpinned : ((q : ℕ) → pins_of m q ≡ 0) → (q : ℕ) → pins_of n q ≡ 0
  all_unpinned free q = elim (cases_eq q b) [
    | inl e ↦ ap (λ k. pins_of n k) e ∙ begun_unpinned
    | inr ne ↦ ap pins_in (elsewhere q ne) ∙ free q
  ]

  pub not_there : IsLive m b → ⊥
  not_there live = let none = h.fresh in cc

  pub other_block : (q : ℕ) → IsLive m q → q ≢ b
  other_block q live e = not_there (subst (IsLive m) e live)
