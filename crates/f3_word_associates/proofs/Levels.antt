-- A level more, and the names behind those that were there.
use Rattle.std.proofs.Common.{◌≡◌, ◌∙◌, ℕ, zero, suc, ◌+◌, ◌≤◌, List, [], ◌∷◌, ◌++◌, length, drop, take, append_assoc, refl, sym, ap, subst, arith}
use Rattle.std.specs.Prelude.{slice_index_or}
use Rattle.std.proofs.lemmas.List.{append-nil, length-append, length-drop, take_all}
use Rattle.f3_program.specs.declared.program.Program.{Program}
use Rattle.f3_meaning_whole.specs.Reference.{Reference}
use Rattle.f3_rooms.specs.Rooms.{Rooms, Slot, level_blocks, levels_blocks}
use Rattle.f3_word_cells.specs.declared.cell.Range.{Range}
use Rattle.f3_word_cells.specs.declared.state.Name.{Name}
use Rattle.f3_word_cells.specs.Cells.{AreNamed, AreNames, names_in}
use Rattle.f3_word_cells.specs.States.{AreBare, IsBareLevel, level_rooms, levels_rooms, starts_of}

-- ---- lists

pub take_front : {A : Type 0} (xs ys : List A) → take (length xs) (xs ++ ys) ≡ xs
take_front [] ys = refl
take_front (x ∷ xs) ys = ap (λ l. x ∷ l) (take_front xs ys)

pub drop_front : {A : Type 0} (xs ys : List A) → drop (length xs) (xs ++ ys) ≡ ys
drop_front [] ys = refl
drop_front (x ∷ xs) ys = drop_front xs ys

pub drop_within : {A : Type 0} (k : ℕ) (xs ys : List A) → k ≤ length xs → drop k (xs ++ ys) ≡ drop k xs ++ ys
drop_within zero xs ys h = refl
drop_within (suc k) [] ys h = absurd (omega (arith, h))
drop_within (suc k) (x ∷ xs) ys h = drop_within k xs ys (omega (arith, h))

-- two lists that are split alike
pub same_split : {A : Type 0} (xs ys us vs : List A) → xs ++ ys ≡ us ++ vs → length xs ≡ length us → (xs ≡ us) × (ys ≡ vs)
same_split xs ys us vs e h =
    let front : take (length xs) (xs ++ ys) ≡ take (length us) (us ++ vs) = ap (λ l. take (length xs) l) e ∙ ap (λ k. take k (us ++ vs)) h in
    let behind : drop (length xs) (xs ++ ys) ≡ drop (length us) (us ++ vs) = ap (λ l. drop (length xs) l) e ∙ ap (λ k. drop k (us ++ vs)) h in
    (sym (take_front xs ys) ∙ front ∙ take_front us vs, sym (drop_front xs ys) ∙ behind ∙ drop_front us vs)

pub last_at : {A : Type 0} (xs : List A) (y z : A) → slice_index_or (xs ++ y ∷ []) (length xs) z ≡ y
last_at [] y z = refl
last_at (x ∷ xs) y z = last_at xs y z

-- ---- levels

pub rooms_behind : (ls : List (List Slot)) (l : List Slot) → levels_rooms (ls ++ l ∷ []) ≡ levels_rooms ls ++ level_rooms l
rooms_behind [] l = append-nil (level_rooms l)
rooms_behind (k ∷ ls) l =
    ap (λ bs. level_rooms k ++ bs) (rooms_behind ls l) ∙ sym (append_assoc (level_rooms k) (levels_rooms ls) (level_rooms l))

pub blocks_behind : (ls : List (List Slot)) (l : List Slot) → levels_blocks (ls ++ l ∷ []) ≡ levels_blocks ls ++ level_blocks l
blocks_behind [] l = append-nil (level_blocks l)
blocks_behind (k ∷ ls) l =
    ap (λ bs. level_blocks k ++ bs) (blocks_behind ls l) ∙ sym (append_assoc (level_blocks k) (levels_blocks ls) (level_blocks l))

pub starts_behind : (n : ℕ) (ls : List (List Slot)) (l : List Slot) → starts_of n (ls ++ l ∷ []) ≡ starts_of n ls ++ (n + length (levels_rooms ls)) ∷ []
starts_behind n [] l = ap (λ k. k ∷ []) (omega arith)
starts_behind n (k ∷ ls) l =
    let sum : n + length (level_rooms k) + length (levels_rooms ls) ≡ n + length (level_rooms k ++ levels_rooms ls) =
    (let e = length-append (level_rooms k) (levels_rooms ls) in omega (arith, e)) in
    ap (λ ns. n ∷ ns) (starts_behind (n + length (level_rooms k)) ls l ∙ ap (λ j. starts_of (n + length (level_rooms k)) ls ++ j ∷ []) sum)

pub starts_many : (n : ℕ) (ls : List (List Slot)) → length (starts_of n ls) ≡ length ls
starts_many n [] = refl
starts_many n (k ∷ ls) = ap suc (starts_many (n + length (level_rooms k)) ls)

pub bare_behind : (ls : List (List Slot)) (l : List Slot) → AreBare ls → IsBareLevel l → AreBare (ls ++ l ∷ [])
bare_behind [] l bare one = (one, tt)
bare_behind (k ∷ ls) l bare one = (bare.0, bare_behind ls l bare.1 one)

-- ---- names

module _ (p : Program) (x : Rooms) where
  pub names_both : (ns ms : List Name) (rs qs : List Reference) → AreNames p x ns rs → AreNames p x ms qs → AreNames p x (ns ++ ms) (rs ++ qs)
  names_both [] ms [] qs are more = more
  names_both [] ms (r ∷ rs) qs are more = absurd are
  names_both (n ∷ ns) ms [] qs are more = absurd are
  names_both (n ∷ ns) ms (r ∷ rs) qs are more = (are.0, names_both ns ms rs qs are.1 more)

  pub names_many : (ns : List Name) (rs : List Reference) → AreNames p x ns rs → length rs ≡ length ns
  names_many [] [] are = refl
  names_many [] (r ∷ rs) are = absurd are
  names_many (n ∷ ns) [] are = absurd are
  names_many (n ∷ ns) (r ∷ rs) are = ap suc (names_many ns rs are.1)

  -- names behind all that were there
  pub named_behind : (ns added : List Name) (rs : List Reference) → AreNames p x added rs
      → AreNamed p x (ns ++ added) (record { from = length ns; count = length added }) rs
  named_behind ns added rs are = record {
    names = subst (λ ms. AreNames p x ms rs) (sym (ap (take (length added)) (drop_front ns added) ∙ take_all (length added) added (omega arith))) are;
    count = names_many added rs are;
    within = let e = length-append ns added in omega (arith, e);
  }

  -- with the last of those that were there
  pub named_more : (ns added : List Name) (range : Range) (rs qs : List Reference) → AreNamed p x ns range rs → range.from + range.count ≡ length ns
      → AreNames p x added qs → AreNamed p x (ns ++ added) (record { from = range.from; count = range.count + length added }) (rs ++ qs)
  named_more ns added range rs qs named ends are =
      let tail = drop range.from ns in
      let size : length tail ≡ range.count = (let e = length-drop range.from ns in omega (arith, e, ends)) in
      let old : names_in range ns ≡ tail = take_all range.count tail (omega (arith, size)) in
      let all : names_in (record { from = range.from; count = range.count + length added }) (ns ++ added) ≡ tail ++ added =
      ap (take (range.count + length added)) (drop_within range.from ns added (omega (arith, ends)))
      ∙ take_all (range.count + length added) (tail ++ added) (let e = length-append tail added in omega (arith, e, size)) in
      record {
        names = subst (λ ms. AreNames p x ms (rs ++ qs)) (sym all)
            (names_both tail added rs qs (subst (λ ms. AreNames p x ms rs) old named.names) are);
        count = let e = length-append rs qs in let f = named.count in let g = names_many added qs are in omega (arith, e, f, g);
        within = let e = length-append ns added in omega (arith, e, ends);
      }
