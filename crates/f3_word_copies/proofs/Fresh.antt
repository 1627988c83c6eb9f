-- Words that are an initial value.
use Rattle.std.proofs.Common.{◌≡◌, ◌∙◌, sym, ap, subst, refl, ℕ, ◌+◌, List, [], ◌∷◌, ◌++◌, length, get_or, arith}
use Rattle.std.specs.Prelude.{ℤ, pos, false}
use Rattle.std.specs.declared.alloc.Global.{Global}
use Rattle.f3_program.specs.declared.declarations.Base.TheVariants as base
use Rattle.f3_program.specs.declared.declarations.Declared.{Declared}
use Rattle.f3_live_blocks.specs.Blocks.{Live, words_of, with_words}
use Rattle.f3_meaning_whole.specs.Value.{Unallocated}
use Rattle.f3_meaning_whole.specs.Shape.{Shape, Whole, Logical, Record, initial_of}
use Rattle.f3_code.specs.CoreRun.{empty}
use Rattle.f3_objects.proofs.Writes.{words-with, live-with}
use Rattle.f3_rooms.specs.Held.{Empty}
use Rattle.f3_rooms.specs.Values.{word, object}
use Rattle.f3_room_objects.specs.Trees.{words_from}
use Rattle.f3_room_objects.proofs.Windows.{WordsAre, from_are, whole_block}
use Rattle.f3_room_levels.specs.Initial.{object_words, CanBegin, TypeCanBegin}
use Rattle.f3_room_levels.proofs.Widths.{object_many}
use Rattle.f3_room_levels.proofs.Initials.{front_begun}
use Rattle.f3_room_arrays.specs.Elements.{IsFlat}
use Rattle.f3_room_arrays.proofs.Flat.{object_tell}
use Rattle.f3_meaning_whole.specs.Value.{spread}
use Rattle.f3_word_copies.proofs.Taken.{Shows, repeat, repeat-number, repeat-truth, repeat-composite}

pub repeat-initial : (k : ℕ) (s : Shape) → repeat k (initial_of s) ≡ spread k (initial_of s)
repeat-initial k Whole = repeat-number k _
repeat-initial k Logical = repeat-truth k _
repeat-initial k (Record t parts) = repeat-composite k _

-- a variable of the only type
abbrev variable : Global → Declared
variable g = record { kind = record { of = base.Derived 0; rank = 0; is_allocatable = false }; dimensions = empty g; initial = empty g }

append-none : (xs : List ℤ) → xs ++ [] ≡ xs
append-none [] = refl
append-none (x ∷ xs) = ap (λ l. x ∷ l) (append-none xs)

begins-so : Global → (s : Shape) → TypeCanBegin s → (m : Live) (b : ℕ) → object (with_words m b (object_words s)) s b 0 Empty ≡ initial_of s
begins-so g s can m b =
    let ws : List ℤ = object_words s in
    let n : Live = with_words m b ws in
    let there : words_of n b ≡ ws = words-with m b ws in
    let all : words_from n b 0 (length ws) ≡ ws = subst (λ (l : List ℤ). words_from n b 0 (length l) ≡ l) there (whole_block n b) in
    let long = ap length there ∙ object_many s can in
    let none : ws ++ [] ≡ ws = append-none ws in
    let are : WordsAre n b 0 (ws ++ []) = subst (WordsAre n b 0) (sym none) (from_are n b 0 ws all) in
    let is : CanBegin s (variable g) = record { typed = tt; enough = tt } in
    ap (λ vs. get_or vs 0 Unallocated) (front_begun (s ∷ []) n b (variable g ∷ []) (is, can, tt) (live-with m b ws) (omega arith) are).0

pub shows-initial : Global → (s : Shape) → IsFlat s → TypeCanBegin s → Shows s (object_words s) (initial_of s)
shows-initial g s flat can n b at h same =
    let ws : List ℤ = object_words s in
    let m : Live = with_words n b ws in
    let there : words_of m b ≡ ws = words-with n b ws in
    object_tell m n s flat b 0 b at Empty h (λ j lt. same j lt ∙ sym (ap (λ l. get_or l j (pos 0)) there) ∙ (let e : j ≡ 0 + j = omega arith in ap (word m b) e))
    ∙ begins-so g s can n b
