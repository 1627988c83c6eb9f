-- Variables that begin with words that are all 0.
use Rattle.std.proofs.Common.{◌≡◌, inl, inr, ℕ, zero, suc, ◌+◌, ◌*◌, pos, Bool, true, false, ℤ, List, [], ◌∷◌, ◌++◌, length, replicate, refl, sym, ap, ◌∙◌, arith}
use Rattle.std.proofs.lemmas.List.{replicate-append-replicate}
use Rattle.std.proofs.lemmas.Bool.Decides.{nat_tests}
use Rattle.std.specs.Bool.{◌==◌}
use Rattle.std.specs.declared.alloc.Global.{Global}
use Rattle.std.specs.Prelude.{◌⊎◌, if◌then◌else◌, Vec, vec_len}
use Rattle.f3_program.specs.declared.declarations.Base.{Base}
use Rattle.f3_program.specs.declared.declarations.Base.TheVariants as base
use Rattle.f3_program.specs.declared.declarations.Constant.{Constant}
use Rattle.f3_program.specs.declared.declarations.Declared.{Declared}
use Rattle.f3_meaning_whole.specs.Value.{Span, count}
use Rattle.f3_meaning_whole.specs.Shape.{Shape, Whole, shape_in, spans_declared}
use Rattle.f3_rooms.specs.Forms.{Laid, Allocatable, form_words, laid_words, words_for, room, total}
use Rattle.f3_room_levels.specs.Initial.{repeated, arranged_words, object_words, variable_words, initial_words}
use Rattle.f3_room_levels.proofs.Widths.{more_words}

-- so many words that are 0
abbrev pub AreZero : ℕ → List ℤ → Type 0
AreZero n ws = ws ≡ replicate n (pos 0)

zeros_append : (j k : ℕ) (xs ys : List ℤ) → AreZero j xs → AreZero k ys → AreZero (j + k) (xs ++ ys)
zeros_append j k xs ys e f = ap (λ zs. zs ++ ys) e ∙ ap (λ zs. replicate j (pos 0) ++ zs) f ∙ replicate-append-replicate j k (pos 0)

zeros_repeated : (k n : ℕ) (ws : List ℤ) → AreZero n ws → AreZero (k * n) (repeated k ws)
zeros_repeated zero n ws e = let z : 0 ≡ 0 * n = omega arith in ap (λ i. replicate i (pos 0)) z
zeros_repeated (suc k) n ws e = zeros_append n (k * n) ws (repeated k ws) e (zeros_repeated k n ws e) ∙ ap (λ i. replicate i (pos 0)) (sym (more_words k n))

zeros_arranged : (n rank : ℕ) (ss : List Span) (cs : List Constant) (ws : List ℤ) → cs ≡ [] → AreZero n ws → AreZero (laid_words rank ss n) (arranged_words rank ss cs ws)
zeros_arranged n zero ss [] ws none e = e
zeros_arranged n zero ss (c ∷ cs) ws none e = absurd (cc)
zeros_arranged n (suc rank) ss [] ws none e = zeros_repeated (count ss) n ws e
zeros_arranged n (suc rank) ss (c ∷ cs) ws none e = absurd (cc)

zeros_by : (b : Bool) (n rank : ℕ) (ss : List Span) (cs : List Constant) (ws : List ℤ) → (b ≡ true) ⊎ ((cs ≡ []) × AreZero n ws)
    → AreZero (form_words (if b then Allocatable rank else Laid rank ss) n) (if b then replicate (1 + 2 * rank) (pos 0) else arranged_words rank ss cs ws)
zeros_by true n rank ss cs ws h = refl
zeros_by false n rank ss cs ws (inl e) = absurd (cc)
zeros_by false n rank ss cs ws (inr h) = zeros_arranged n rank ss cs ws h.0 h.1

-- an allocatable, and what is not initialized itself, of a type that begins so
pub zero_variable : (ts : List Shape) (d : Declared) → let s = shape_in ts d.kind.of in (d.kind.is_allocatable ≡ true) ⊎ ((d.initial.items ≡ []) × AreZero (words_for s) (object_words s))
    → AreZero (room ts d) (variable_words ts d)
zero_variable ts d h =
    let s : Shape = shape_in ts d.kind.of in
    zeros_by d.kind.is_allocatable (words_for s) d.kind.rank (spans_declared d.dimensions.items) d.initial.items (object_words s) h

pub zero_more : (ts : List Shape) (d : Declared) (ds : List Declared) → AreZero (room ts d) (variable_words ts d) → AreZero (total ts ds) (initial_words ts ds)
    → AreZero (total ts (d ∷ ds)) (initial_words ts (d ∷ ds))
zero_more ts d ds e f = zeros_append (room ts d) (total ts ds) (variable_words ts d) (initial_words ts ds) e f

-- what was looked at begins so, if all that is left does
abbrev pub ZeroIfLeft : List Shape → List Declared → List Declared → Type 0
ZeroIfLeft ts rest all = AreZero (total ts rest) (initial_words ts rest) → AreZero (total ts all) (initial_words ts all)

pub zero_next : (ts : List Shape) (d : Declared) (now rest all : List Declared) → now ≡ d ∷ rest → AreZero (room ts d) (variable_words ts d) → ZeroIfLeft ts now all → ZeroIfLeft ts rest all
zero_next ts d now rest all e own left z = left (ap (λ ds. initial_words ts ds) e ∙ zero_more ts d rest own z ∙ ap (λ ds. replicate (total ts ds) (pos 0)) (sym e))

pub zero_all : (ts : List Shape) (rest all : List Declared) → rest ≡ [] → ZeroIfLeft ts rest all → AreZero (total ts all) (initial_words ts all)
zero_all ts rest all e left = left (ap (initial_words ts) e ∙ ap (λ ds. replicate (total ts ds) (pos 0)) (sym e))

-- a type that is not there is a scalar
pub zero_whole : (s : Shape) → s ≡ Whole → AreZero (words_for s) (object_words s)
zero_whole s e = ap object_words e ∙ ap (λ r. replicate (words_for r) (pos 0)) (sym e)

-- an empty list
none_in : (cs : List Constant) → length cs ≡ 0 → cs ≡ []
none_in [] e = refl
none_in (c ∷ cs) e = absurd (omega arith)

pub none_there : (b : Bool) (cs : Vec Constant Global) → b ≡ (vec_len cs == 0) → b ≡ true → cs.items ≡ []
none_there b cs e h = none_in cs.items (grind (arith, nat_tests))

-- a type that is not derived
pub zero_base : (ts : List Shape) (of : Base) → ((t : ℕ) → of ≡ base.Derived t → ⊥) → AreZero (words_for (shape_in ts of)) (object_words (shape_in ts of))
zero_base ts base.Integer not = refl
zero_base ts base.Long not = refl
zero_base ts base.Logical not = refl
zero_base ts (base.Derived t) not = absurd (not t refl)
