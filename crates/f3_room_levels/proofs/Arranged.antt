-- What words a variable begins with, by its values.
use Rattle.std.proofs.Common.{◌≡◌, ℕ, zero, suc, ◌+◌, ◌*◌, ◌/◌, ◌<◌, pos, Bool, true, false, ℤ, List, [], ◌∷◌, length, replicate, refl, sym, ap, ◌∙◌, arith}
use Rattle.std.proofs.lemmas.List.{append-nil}
use Rattle.std.proofs.Math.Nat.{mul-div_cancel}
use Rattle.std.specs.Prelude.{if◌then◌else◌}
use Rattle.f3_program.specs.declared.declarations.Constant.{Constant}
use Rattle.f3_program.specs.declared.declarations.Declared.{Declared}
use Rattle.f3_live_blocks.specs.Blocks.{Live}
use Rattle.f3_meaning_whole.specs.Value.{Span, count}
use Rattle.f3_meaning_whole.specs.Shape.{Shape, shape_in, spans_declared}
use Rattle.f3_rooms.specs.Forms.{Laid, Allocatable, form_words, laid_words, words_for, room}
use Rattle.f3_room_levels.specs.Initial.{repeated, arranged_words, object_words, variable_words, TypeCanBegin}
use Rattle.f3_room_levels.specs.Writing.{with_words_from, IsBlank}
use Rattle.f3_room_levels.proofs.Widths.{object_many}
use Rattle.f3_room_levels.proofs.Written.{from_zeros}
use Rattle.f3_room_levels.proofs.Zeros.{AreZero}

-- ---- zeros are there already

pub zero_written : (m : Live) (b o n : ℕ) (ws : List ℤ) → IsBlank m b o n → AreZero n ws → m ≡ with_words_from m b o ws
zero_written m b o n ws blank e = sym (ap (with_words_from m b o) e ∙ from_zeros m b o n blank.live blank.zeros)

no_words : (ws : List ℤ) → length ws ≡ 0 → ws ≡ []
no_words [] e = refl
no_words (w ∷ ws) e = absurd (omega arith)

pub zero_empty : (s : Shape) → TypeCanBegin s → words_for s ≡ 0 → AreZero (words_for s) (object_words s)
zero_empty s can e = no_words (object_words s) (object_many s can ∙ e) ∙ ap (λ n. replicate n (pos 0)) (sym e)

-- ---- nothing is given

pub one_time : (n : ℕ) → 0 < n → n / n ≡ 1
one_time n some = ap (λ k. k / n) (let e : n ≡ 1 * n = omega arith in e) ∙ mul-div_cancel 1 some

once : (ws : List ℤ) → repeated 1 ws ≡ ws
once ws = append-nil ws

laid_times : (n rank : ℕ) (ss : List Span) → 0 < n → (laid_words rank ss n / n) * n ≡ laid_words rank ss n
laid_times n zero ss some = ap (λ k. k * n) (one_time n some) ∙ omega arith
laid_times n (suc rank) ss some = ap (λ k. k * n) (mul-div_cancel (count ss) some)

laid_repeated : (n rank : ℕ) (ss : List Span) (cs : List Constant) (ws : List ℤ) → 0 < n → cs ≡ [] → repeated (laid_words rank ss n / n) ws ≡ arranged_words rank ss cs ws
laid_repeated n zero ss [] ws some e = ap (λ k. repeated k ws) (one_time n some) ∙ once ws
laid_repeated n zero ss (c ∷ cs) ws some e = absurd (cc)
laid_repeated n (suc rank) ss [] ws some e = ap (λ k. repeated k ws) (mul-div_cancel (count ss) some)
laid_repeated n (suc rank) ss (c ∷ cs) ws some e = absurd (cc)

times_by : (b : Bool) (n rank : ℕ) (ss : List Span) → b ≡ false → 0 < n → let k = form_words (if b then Allocatable rank else Laid rank ss) n in (k / n) * n ≡ k
times_by true n rank ss e some = absurd (cc)
times_by false n rank ss e some = laid_times n rank ss some

repeated_by : (b : Bool) (n rank : ℕ) (ss : List Span) (cs : List Constant) (ws : List ℤ) → b ≡ false → 0 < n → cs ≡ []
    → repeated (form_words (if b then Allocatable rank else Laid rank ss) n / n) ws ≡ (if b then replicate (1 + 2 * rank) (pos 0) else arranged_words rank ss cs ws)
repeated_by true n rank ss cs ws e some none = absurd (cc)
repeated_by false n rank ss cs ws e some none = laid_repeated n rank ss cs ws some none

-- ---- a variable that is not allocatable

module _ (ts : List Shape) (d : Declared) (laid : d.kind.is_allocatable ≡ false) where
  abbrev s : Shape
  s = shape_in ts d.kind.of

  pub default_times : 0 < words_for s → (room ts d / words_for s) * words_for s ≡ room ts d
  default_times some = times_by d.kind.is_allocatable (words_for s) d.kind.rank (spans_declared d.dimensions.items) laid some

  pub default_repeated : 0 < words_for s → d.initial.items ≡ [] → repeated (room ts d / words_for s) (object_words s) ≡ variable_words ts d
  default_repeated some none = repeated_by d.kind.is_allocatable (words_for s) d.kind.rank (spans_declared d.dimensions.items) d.initial.items (object_words s) laid some none
