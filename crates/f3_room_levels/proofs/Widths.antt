-- How many words variables begin with.
use Rattle.std.proofs.Common.{◌≡◌, ℕ, zero, suc, ◌+◌, ◌*◌, pos, Bool, true, false, ℤ, List, [], ◌∷◌, length, replicate, refl, sym, ap, ◌∙◌, arith}
use Rattle.std.proofs.Math.Nat.{suc-mul}
use Rattle.std.proofs.lemmas.List.{length-append, length-replicate, length-map}
use Rattle.std.specs.Prelude.{if◌then◌else◌}
use Rattle.f3_program.specs.declared.declarations.Constant.{Constant}
use Rattle.f3_program.specs.declared.declarations.Declared.{Declared}
use Rattle.f3_meaning_whole.specs.Value.{Span, count}
use Rattle.f3_meaning_whole.specs.Shape.{Shape, Whole, Logical, Record, Parts, nothing, and, shape_in, spans_declared}
use Rattle.f3_rooms.specs.Forms.{Laid, Allocatable, form_of, form_words, laid_words, words_for, words_for_parts, room, total}
use Rattle.f3_room_levels.specs.Initial.{word_of, repeated, arranged_words, declared_words, object_words, parts_words, variable_words, initial_words}
use Rattle.f3_room_levels.specs.Initial.{IsOf, AreOf, AreEnough, CanBegin, TypeCanBegin, PartsCanBegin, AllCanBegin}

pub more_words : (k n : ℕ) → suc k * n ≡ n + k * n
more_words k n = let e : suc k * n ≡ k * n + n = suc-mul k n in omega arith

pub repeated_many : (k : ℕ) (ws : List ℤ) → length (repeated k ws) ≡ k * length ws
repeated_many zero ws = omega arith
repeated_many (suc k) ws = let e = repeated_many k ws in let f = more_words k (length ws) in let g = length-append ws (repeated k ws) in omega arith

-- a scalar is one word
pub one_word : (s : Shape) (c : Constant) → IsOf s c → words_for s ≡ 1
one_word Whole c is = refl
one_word Logical c is = refl
one_word (Record t parts) c is = absurd is

times_one : (k n : ℕ) → n ≡ 1 → k * n ≡ k
times_one k n e = ap (λ i. k * i) e ∙ omega arith

pub arranged_many : (s : Shape) (rank : ℕ) (ss : List Span) (cs : List Constant) (ws : List ℤ) → length ws ≡ words_for s → AreOf s cs → AreEnough rank (count ss) cs
    → length (arranged_words rank ss cs ws) ≡ laid_words rank ss (words_for s)
arranged_many s zero ss [] ws e of enough = e
arranged_many s zero ss (c ∷ []) ws e of enough = sym (one_word s c of.0)
arranged_many s zero ss (c ∷ d ∷ cs) ws e of enough = absurd enough
arranged_many s (suc rank) ss [] ws e of enough = repeated_many (count ss) ws ∙ ap (λ n. count ss * n) e
arranged_many s (suc rank) ss (c ∷ []) ws e of enough = length-replicate (count ss) (word_of c) ∙ sym (times_one (count ss) (words_for s) (one_word s c of.0))
arranged_many s (suc rank) ss (c ∷ d ∷ cs) ws e of enough = length-map (c ∷ d ∷ cs) word_of ∙ enough ∙ sym (times_one (count ss) (words_for s) (one_word s c of.0))

declared_by : (b : Bool) (s : Shape) (rank : ℕ) (ss : List Span) (cs : List Constant) (ws : List ℤ) → length ws ≡ words_for s → AreOf s cs → AreEnough rank (count ss) cs
    → length (if b then replicate (1 + 2 * rank) (pos 0) else arranged_words rank ss cs ws) ≡ form_words (if b then Allocatable rank else Laid rank ss) (words_for s)
declared_by true s rank ss cs ws e of enough = length-replicate (1 + 2 * rank) (pos 0)
declared_by false s rank ss cs ws e of enough = arranged_many s rank ss cs ws e of enough

pub declared_many : (s : Shape) (d : Declared) (ws : List ℤ) → length ws ≡ words_for s → CanBegin s d → length (declared_words d ws) ≡ form_words (form_of d) (words_for s)
declared_many s d ws e can = declared_by d.kind.is_allocatable s d.kind.rank (spans_declared d.dimensions.items) d.initial.items ws e can.typed can.enough

mutual
  pub object_many : (s : Shape) → TypeCanBegin s → length (object_words s) ≡ words_for s
  object_many Whole can = refl
  object_many Logical can = refl
  object_many (Record t parts) can = parts_many parts can

  pub parts_many : (parts : Parts) → PartsCanBegin parts → length (parts_words parts) ≡ words_for_parts parts
  parts_many nothing can = refl
  parts_many (and c s rest) can =
      let e = declared_many s c.declared (object_words s) (object_many s can.1) can.0 in
      let f = parts_many rest can.2 in
      let g = length-append (declared_words c.declared (object_words s)) (parts_words rest) in
      omega arith

pub variable_many : (ts : List Shape) (d : Declared) → CanBegin (shape_in ts d.kind.of) d → TypeCanBegin (shape_in ts d.kind.of) → length (variable_words ts d) ≡ room ts d
variable_many ts d can type = let s : Shape = shape_in ts d.kind.of in declared_many s d (object_words s) (object_many s type) can

pub initial_many : (ts : List Shape) (ds : List Declared) → AllCanBegin ts ds → length (initial_words ts ds) ≡ total ts ds
initial_many ts [] can = refl
initial_many ts (d ∷ ds) can =
    let e = variable_many ts d can.0 can.1 in
    let f = initial_many ts ds can.2 in
    let g = length-append (variable_words ts d) (initial_words ts ds) in
    omega arith
