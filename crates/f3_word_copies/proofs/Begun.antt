-- Words with which components begin, one after another.
use Rattle.std.proofs.Common.{◌≡◌, ◌∙◌, sym, ap, subst, refl, ℕ, zero, suc, ◌+◌, ◌-◌, ◌*◌, ◌/◌, ◌%◌, ◌<◌, ◌≤◌, Bool, true, false, List, [], ◌∷◌, ◌++◌, length, map, replicate, get_or, arith}
use Rattle.std.specs.Prelude.{ℤ, pos, if◌then◌else◌}
use Rattle.std.proofs.lemmas.List.{get_or_append_left, get_or-append-add, get_or-map, length-map}
use Rattle.std.proofs.lemmas.Nat.{div_below, div-add-mod'}
use Rattle.std.proofs.Math.Nat.{mod-lt}
use Rattle.std.proofs.Math.Seq.{get_or-append_right}
use Rattle.f3_program.specs.declared.declarations.Base.{Base}
use Rattle.f3_program.specs.declared.declarations.Base.TheVariants as base
use Rattle.f3_program.specs.declared.declarations.Constant.{Constant}
use Rattle.f3_program.specs.declared.declarations.Declared.{Declared}
use Rattle.f3_meaning_whole.specs.Value.{Span, count}
use Rattle.f3_meaning_whole.specs.Shape.{Shape, Whole, shape_in, spans_declared}
use Rattle.f3_rooms.specs.Forms.{words_for, room, total}
use Rattle.f3_room_levels.specs.Initial.{word_of, repeated, arranged_words, object_words, variable_words, initial_words, AreEnough, CanBegin, TypeCanBegin, AllCanBegin}
use Rattle.f3_room_levels.proofs.Widths.{more_words, object_many, variable_many}
use Rattle.f3_room_levels.proofs.Arranged.{default_times, default_repeated}
use Rattle.f3_room_levels.proofs.Zeros.{zero_base}

-- the word of a number is the one of another among those of the components that are left
pub record Seeks (ts : List Shape) (all : List Declared) (number : ℕ) (now : List Declared) (left : ℕ) : Type 0 where
  pub can : AllCanBegin ts now
  pub within : left < total ts now
  pub fewer : total ts now ≤ total ts all
  pub same : get_or (initial_words ts now) left (pos 0) ≡ get_or (initial_words ts all) number (pos 0)

pub seek-first : (ts : List Shape) (all : List Declared) (number : ℕ) → AllCanBegin ts all → number < total ts all → Seeks ts all number all number
seek-first ts all number can within = record { can = can; within = within; fewer = omega arith; same = refl }

pub seek-none : (ts : List Shape) (all : List Declared) (number : ℕ) (now : List Declared) (left : ℕ) → now ≡ [] → Seeks ts all number now left → ⊥
seek-none ts all number now left e s = let w : left < total ts [] = subst (λ ds. left < total ts ds) e s.within in absurd (omega arith)

module _ (ts : List Shape) (all : List Declared) (number : ℕ) (now rest : List Declared) (left : ℕ) (d : Declared) (e : now ≡ d ∷ rest) (s : Seeks ts all number now left) where
  pub seek-can : AllCanBegin ts (d ∷ rest)
  seek-can = subst (AllCanBegin ts) e s.can

  pub seek-small : room ts d ≤ total ts all
  seek-small = let f : room ts d + total ts rest ≤ total ts all = subst (λ ds. total ts ds ≤ total ts all) e s.fewer in omega arith

  many : length (variable_words ts d) ≡ room ts d
  many = variable_many ts d seek-can.0 seek-can.1

  there : get_or (variable_words ts d ++ initial_words ts rest) left (pos 0) ≡ get_or (initial_words ts all) number (pos 0)
  there = subst (λ ds. get_or (initial_words ts ds) left (pos 0) ≡ get_or (initial_words ts all) number (pos 0)) e s.same

  pub seek-here : left < room ts d → get_or (variable_words ts d) left (pos 0) ≡ get_or (initial_words ts all) number (pos 0)
  seek-here lt = let m = many in sym (get_or_append_left (variable_words ts d) (initial_words ts rest) (pos 0) left (omega arith)) ∙ there

  pub seek-next : room ts d ≤ left → Seeks ts all number rest (left - room ts d)
  seek-next le =
      let m = many in
      let w : left < room ts d + total ts rest = subst (λ ds. left < total ts ds) e s.within in
      let f : room ts d + total ts rest ≤ total ts all = subst (λ ds. total ts ds ≤ total ts all) e s.fewer in
      record {
        can = seek-can.2;
        within = omega arith;
        fewer = omega arith;
        same = ap (λ k. get_or (initial_words ts rest) (left - k) (pos 0)) (sym m) ∙ sym (get_or-append_right (variable_words ts d) (initial_words ts rest) left (pos 0) (omega arith)) ∙ there;
      }

-- ---- among words that repeat

pub zeros-at : (n k : ℕ) → get_or (replicate n (pos 0)) k (pos 0) ≡ pos 0
zeros-at zero k = refl
zeros-at (suc n) zero = refl
zeros-at (suc n) (suc k) = zeros-at n k

pub replicate-at : (n k : ℕ) (w : ℤ) → k < n → get_or (replicate n w) k (pos 0) ≡ w
replicate-at zero k w lt = absurd (omega arith)
replicate-at (suc n) zero w lt = refl
replicate-at (suc n) (suc k) w lt = replicate-at n k w (omega arith)

repeated-place : (k a b n : ℕ) (ws : List ℤ) → length ws ≡ n → a < k → b < n → get_or (repeated k ws) (a * n + b) (pos 0) ≡ get_or ws b (pos 0)
repeated-place zero a b n ws e lt le = absurd (omega arith)
repeated-place (suc k) zero b n ws e lt le =
    let f : 0 * n + b ≡ b = omega arith in
    ap (λ j. get_or (ws ++ repeated k ws) j (pos 0)) f ∙ get_or_append_left ws (repeated k ws) (pos 0) b (omega arith)
repeated-place (suc k) (suc a) b n ws e lt le =
    let g : suc a * n ≡ n + a * n = more_words a n in
    let f : suc a * n + b ≡ length ws + (a * n + b) = omega arith in
    ap (λ j. get_or (ws ++ repeated k ws) j (pos 0)) f ∙ get_or-append-add ws (repeated k ws) (a * n + b) (pos 0) ∙ repeated-place k a b n ws e (omega arith) le

pub default-at : (ts : List Shape) (d : Declared) → d.kind.is_allocatable ≡ false → d.initial.items ≡ [] → let s = shape_in ts d.kind.of in TypeCanBegin s → 0 < words_for s → (j : ℕ) → j < room ts d
    → get_or (object_words s) (j % words_for s) (pos 0) ≡ get_or (variable_words ts d) j (pos 0)
default-at ts d laid none can some j lt =
    let s = shape_in ts d.kind.of in
    let n = words_for s in
    let times = default_times ts d laid some in
    let less : j < (room ts d / n) * n = subst (λ k. j < k) (sym times) lt in
    sym (repeated-place (room ts d / n) (j / n) (j % n) n (object_words s) (object_many s can) (div_below j n (room ts d / n) some less) (mod-lt j some))
    ∙ ap (λ k. get_or (repeated (room ts d / n) (object_words s)) k (pos 0)) (div-add-mod' j n)
    ∙ ap (λ ws. get_or ws j (pos 0)) (default_repeated ts d laid some none)

-- ---- constants

several-by : (b : Bool) (rank : ℕ) (ss : List Span) (cs : List Constant) (ws : List ℤ) → b ≡ false → AreEnough rank (count ss) cs → 1 < length cs
    → map word_of cs ≡ (if b then replicate (1 + 2 * rank) (pos 0) else arranged_words rank ss cs ws)
several-by true rank ss cs ws laid enough many = absurd cc
several-by false rank ss [] ws laid enough many = absurd (omega arith)
several-by false rank ss (c ∷ []) ws laid enough many = absurd (omega arith)
several-by false zero ss (c ∷ d ∷ cs) ws laid enough many = absurd enough
several-by false (suc rank) ss (c ∷ d ∷ cs) ws laid enough many = refl

pub several-words : (ts : List Shape) (d : Declared) → d.kind.is_allocatable ≡ false → CanBegin (shape_in ts d.kind.of) d → 1 < length d.initial.items → map word_of d.initial.items ≡ variable_words ts d
several-words ts d laid can many = several-by d.kind.is_allocatable d.kind.rank (spans_declared d.dimensions.items) d.initial.items (object_words (shape_in ts d.kind.of)) laid can.enough many

pub several-many : (ts : List Shape) (d : Declared) → d.kind.is_allocatable ≡ false → CanBegin (shape_in ts d.kind.of) d → TypeCanBegin (shape_in ts d.kind.of) → 1 < length d.initial.items → length d.initial.items ≡ room ts d
several-many ts d laid can type many = sym (length-map d.initial.items word_of) ∙ ap length (several-words ts d laid can many) ∙ variable_many ts d can type

pub several-at : (ts : List Shape) (d : Declared) → d.kind.is_allocatable ≡ false → CanBegin (shape_in ts d.kind.of) d → 1 < length d.initial.items → (j : ℕ) (c : Constant) → j < length d.initial.items
    → word_of (get_or d.initial.items j c) ≡ get_or (variable_words ts d) j (pos 0)
several-at ts d laid can many j c lt = sym (get_or-map word_of d.initial.items j c (pos 0) lt) ∙ ap (λ ws. get_or ws j (pos 0)) (several-words ts d laid can many)

pub scalar-word : (ts : List Shape) (of : Base) → ((t : ℕ) → of ≡ base.Derived t → ⊥) → (j : ℕ) → pos 0 ≡ get_or (object_words (shape_in ts of)) j (pos 0)
scalar-word ts of not j = sym (ap (λ ws. get_or ws j (pos 0)) (zero_base ts of not) ∙ zeros-at (words_for (shape_in ts of)) j)

pub whole-word : (s : Shape) (j : ℕ) → s ≡ Whole → pos 0 ≡ get_or (object_words s) j (pos 0)
whole-word s j e = sym (ap (λ z. get_or (object_words z) j (pos 0)) e ∙ zeros-at 1 j)

pub no-items : {X : Type 0} (xs : List X) → length xs < 1 → xs ≡ []
no-items [] lt = refl
no-items (x ∷ xs) lt = absurd (omega arith)

pub above : (n : ℕ) → (n ≡ 0 → ⊥) → 0 < n
above zero not = absurd (not refl)
above (suc n) not = omega arith
