-- Words of which some were written, and the others are left.
use Rattle.std.proofs.Common.{◌≡◌, ℕ, zero, suc, ◌+◌, ◌*◌, ◌<◌, ◌≤◌, ℤ, List, [], ◌∷◌, ◌++◌, length, map, drop, replicate, get_or, refl, sym, ap, subst, ◌∙◌, arith}
use Rattle.std.proofs.lemmas.List.{length-append, length-replicate, drop_more, drop_all}
use Rattle.f3_program.specs.declared.declarations.Constant.{Constant}
use Rattle.f3_program.specs.declared.declarations.Declared.{Declared}
use Rattle.f3_meaning_whole.specs.Shape.{Shape, shape_in}
use Rattle.f3_rooms.specs.Forms.{room, total}
use Rattle.f3_rooms.specs.Places.{with_word}
use Rattle.f3_live_blocks.specs.Blocks.{Live, words_of}
use Rattle.f3_room_levels.specs.Initial.{word_of, repeated, variable_words, initial_words, CanBegin, TypeCanBegin, AllCanBegin}
use Rattle.f3_room_levels.specs.Writing.{with_words_from, IsBlank}
use Rattle.f3_room_levels.proofs.Widths.{repeated_many, variable_many, initial_many}
use Rattle.f3_room_levels.proofs.Written.{blank_front, blank_behind, written_on, written_long}

-- these words are left to be written, and what will then be there is all
pub record Leaves (old now : Live) (b first at : ℕ) (rest all : List ℤ) : Type 0 where
  pub blank : IsBlank now b at (length rest)
  pub same : with_words_from now b at rest ≡ with_words_from old b first all
  pub long : length (words_of now b) ≡ length (words_of old b)

pub leaves_all : (m : Live) (b o n : ℕ) (ws : List ℤ) → length ws ≡ n → IsBlank m b o n → Leaves m m b o o ws ws
leaves_all m b o n ws e blank = record { blank = subst (IsBlank m b o) (sym e) blank; same = refl; long = refl }

module _ (old now : Live) (b first at : ℕ) (whole all xs rest : List ℤ) (l : Leaves old now b first at whole all) (e : whole ≡ xs ++ rest) where
  blank_both : IsBlank now b at (length xs + length rest)
  blank_both = subst (IsBlank now b at) (ap length e ∙ length-append xs rest) l.blank

  pub leaves_front : (n : ℕ) → length xs ≡ n → IsBlank now b at n
  leaves_front n many = subst (IsBlank now b at) many (blank_front now b at (length xs) (length rest) blank_both)

  pub leaves_next : (new : Live) (next : ℕ) → new ≡ with_words_from now b at xs → next ≡ at + length xs → Leaves old new b first next rest all
  leaves_next new next is to =
      let behind : Leaves old new b first (at + length xs) rest all = record {
        blank = blank_behind now new b at (length xs) (length rest) xs blank_both refl is;
        same = written_on now new b at (length xs) xs rest refl is ∙ ap (with_words_from now b at) (sym e) ∙ l.same;
        long = written_long now new b at xs is ∙ l.long;
      } in
      subst (λ k. Leaves old new b first k rest all) (sym to) behind

pub leaves_none : (old now : Live) (b first at : ℕ) (rest all : List ℤ) → rest ≡ [] → Leaves old now b first at rest all → now ≡ with_words_from old b first all
leaves_none old now b first at rest all e l = ap (with_words_from now b at) (sym e) ∙ l.same

-- ---- one word so many times

-- so many are left
pub record LeavesCopies (old now : Live) (b first i many : ℕ) (w : ℤ) : Type 0 where
  pub left : ℕ
  pub count : left + i ≡ many
  pub leaves : Leaves old now b first (first + i) (replicate left w) (replicate many w)

pub copies_all : (m : Live) (b o many : ℕ) (w : ℤ) → IsBlank m b o many → LeavesCopies m m b o 0 many w
copies_all m b o many w blank =
    let e : o ≡ o + 0 = omega arith in
    record {
      left = many;
      count = omega arith;
      leaves = subst (λ k. Leaves m m b o k (replicate many w) (replicate many w)) e (leaves_all m b o many (replicate many w) (length-replicate many w) blank);
    }

module _ (old now : Live) (b first i many : ℕ) (w : ℤ) (l : LeavesCopies old now b first i many w) where
  pub copies_here : i < many → IsBlank now b (first + i) 1
  copies_here lt = by l.left l.count l.leaves
    where
      by : (left : ℕ) → left + i ≡ many → Leaves old now b first (first + i) (replicate left w) (replicate many w) → IsBlank now b (first + i) 1
      by zero c k = absurd (omega arith)
      by (suc j) c k = leaves_front old now b first (first + i) (replicate (suc j) w) (replicate many w) (w ∷ []) (replicate j w) k refl 1 refl

  pub copies_next : i < many → (new : Live) → new ≡ with_word now b (first + i) w → LeavesCopies old new b first (i + 1) many w
  copies_next lt new is = by l.left l.count l.leaves
    where
      by : (left : ℕ) → left + i ≡ many → Leaves old now b first (first + i) (replicate left w) (replicate many w) → LeavesCopies old new b first (i + 1) many w
      by zero c k = absurd (omega arith)
      by (suc j) c k = record {
        left = j;
        count = omega arith;
        leaves = leaves_next old now b first (first + i) (replicate (suc j) w) (replicate many w) (w ∷ []) (replicate j w) k refl new (first + (i + 1)) is (omega arith);
      }

  pub copies_none : many ≤ i → now ≡ with_words_from old b first (replicate many w)
  copies_none past =
      let none : l.left ≡ 0 = let c = l.count in omega arith in
      leaves_none old now b first (first + i) (replicate l.left w) (replicate many w) (ap (λ k. replicate k w) none) l.leaves

-- ---- constants

pub constant_next : (cs : List Constant) (i : ℕ) (d : Constant) → i < length cs → map word_of (drop i cs) ≡ (word_of (get_or cs i d) ∷ []) ++ map word_of (drop (i + 1) cs)
constant_next cs i d lt = ap (map word_of) (drop_more cs i d lt)

pub constants_none : (cs : List Constant) (i : ℕ) → length cs ≤ i → map word_of (drop i cs) ≡ []
constants_none cs i past = ap (map word_of) (drop_all i cs past)

-- ---- variables

pub variable_next : (ts : List Shape) (now rest : List Declared) (d : Declared) → now ≡ d ∷ rest → initial_words ts now ≡ variable_words ts d ++ initial_words ts rest
variable_next ts now rest d e = ap (initial_words ts) e

-- what is left can begin
pub first_can : (ts : List Shape) (now rest : List Declared) (d : Declared) → now ≡ d ∷ rest → AllCanBegin ts now → CanBegin (shape_in ts d.kind.of) d × TypeCanBegin (shape_in ts d.kind.of) × AllCanBegin ts rest
first_can ts now rest d e can = subst (AllCanBegin ts) e can

-- variables of which some were written
pub record LeavesVariables (ts : List Shape) (old now : Live) (b first at : ℕ) (rest all : List Declared) : Type 0 where
  pub can : AllCanBegin ts rest
  pub leaves : Leaves old now b first at (initial_words ts rest) (initial_words ts all)

pub variables_all : (ts : List Shape) (m : Live) (b o : ℕ) (ds : List Declared) → AllCanBegin ts ds → IsBlank m b o (total ts ds) → LeavesVariables ts m m b o o ds ds
variables_all ts m b o ds can blank = record { can = can; leaves = leaves_all m b o (total ts ds) (initial_words ts ds) (initial_many ts ds can) blank }

module _ (ts : List Shape) (old now : Live) (b first at : ℕ) (these rest all : List Declared) (d : Declared) (e : these ≡ d ∷ rest) (l : LeavesVariables ts old now b first at these all) where
  pub variable_can : CanBegin (shape_in ts d.kind.of) d × TypeCanBegin (shape_in ts d.kind.of) × AllCanBegin ts rest
  variable_can = first_can ts these rest d e l.can

  many : length (variable_words ts d) ≡ room ts d
  many = variable_many ts d variable_can.0 variable_can.1

  pub variable_here : IsBlank now b at (room ts d)
  variable_here = leaves_front old now b first at (initial_words ts these) (initial_words ts all) (variable_words ts d) (initial_words ts rest) l.leaves (variable_next ts these rest d e) (room ts d) many

  pub variable_within : at + room ts d ≤ length (words_of old b)
  variable_within = let w = variable_here.within in let g = l.leaves.long in omega arith

  pub variable_written : (new : Live) (n : ℕ) → new ≡ with_words_from now b at (variable_words ts d) → n ≡ room ts d → LeavesVariables ts old new b first (at + n) rest all
  variable_written new n is size = record {
    can = variable_can.2;
    leaves = leaves_next old now b first at (initial_words ts these) (initial_words ts all) (variable_words ts d) (initial_words ts rest) l.leaves (variable_next ts these rest d e) new (at + n) is
        (ap (λ k. at + k) (size ∙ sym many));
  }

pub variables_none : (ts : List Shape) (old now : Live) (b first at : ℕ) (rest all : List Declared) → rest ≡ [] → LeavesVariables ts old now b first at rest all
    → now ≡ with_words_from old b first (initial_words ts all)
variables_none ts old now b first at rest all e l = leaves_none old now b first at (initial_words ts rest) (initial_words ts all) (ap (initial_words ts) e) l.leaves

-- ---- elements

-- so many are left
pub record LeavesElements (old now : Live) (b first at i many : ℕ) (ws : List ℤ) : Type 0 where
  pub left : ℕ
  pub count : left + i ≡ many
  pub leaves : Leaves old now b first at (repeated left ws) (repeated many ws)

module _ (ws : List ℤ) (n : ℕ) (wide : length ws ≡ n) where
  pub elements_all : (m : Live) (b o many : ℕ) → IsBlank m b o (many * n) → LeavesElements m m b o o 0 many ws
  elements_all m b o many blank = record {
    left = many;
    count = omega arith;
    leaves = leaves_all m b o (many * n) (repeated many ws) (repeated_many many ws ∙ ap (λ k. many * k) wide) blank;
  }

  module _ (old now : Live) (b first at i many : ℕ) (l : LeavesElements old now b first at i many ws) where
    pub element_here : i < many → IsBlank now b at n
    element_here lt = by l.left l.count l.leaves
      where
        by : (left : ℕ) → left + i ≡ many → Leaves old now b first at (repeated left ws) (repeated many ws) → IsBlank now b at n
        by zero c k = absurd (omega arith)
        by (suc j) c k = leaves_front old now b first at (repeated (suc j) ws) (repeated many ws) ws (repeated j ws) k refl n wide

    pub element_within : i < many → at + n ≤ length (words_of old b)
    element_within lt = let w = (element_here lt).within in let g = l.leaves.long in omega arith

    pub element_next : i < many → (new : Live) (k : ℕ) → new ≡ with_words_from now b at ws → k ≡ n → LeavesElements old new b first (at + k) (i + 1) many ws
    element_next lt new size is same = by l.left l.count l.leaves
      where
        by : (left : ℕ) → left + i ≡ many → Leaves old now b first at (repeated left ws) (repeated many ws) → LeavesElements old new b first (at + size) (i + 1) many ws
        by zero c k = absurd (omega arith)
        by (suc j) c k = record {
          left = j;
          count = omega arith;
          leaves = leaves_next old now b first at (repeated (suc j) ws) (repeated many ws) ws (repeated j ws) k refl new (at + size) is (ap (λ i. at + i) (same ∙ sym wide));
        }

    pub elements_none : many ≤ i → now ≡ with_words_from old b first (repeated many ws)
    elements_none past =
        let none : l.left ≡ 0 = let c = l.count in omega arith in
        leaves_none old now b first at (repeated l.left ws) (repeated many ws) (ap (λ k. repeated k ws) none) l.leaves
