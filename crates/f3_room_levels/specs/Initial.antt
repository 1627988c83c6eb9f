-- The words with which variables begin (ISO/IEC 1539-1:2004, 16.5.6).
use Rattle.std.proofs.Common.{zero, suc}
use Rattle.std.specs.Prelude.{⊤, ◌≡◌, ℕ, ◌+◌, ◌*◌, ℤ, pos, Bool, true, false, List, [], ◌∷◌, ◌++◌, length, map, replicate, if◌then◌else◌}
use Rattle.f3_program.specs.declared.declarations.Constant.{Constant}
use Rattle.f3_program.specs.declared.declarations.Constant.TheVariants as constant
use Rattle.f3_program.specs.declared.declarations.Component.{Component}
use Rattle.f3_program.specs.declared.declarations.Declared.{Declared}
use Rattle.f3_meaning_whole.specs.Value.{Span, Value, count}
use Rattle.f3_meaning_whole.specs.Shape.{Shape, Whole, Logical, Record, Parts, nothing, and, shape_in, spans_declared, initial_of, initial_declared}

-- 1 is .TRUE., 0 .FALSE.
abbrev pub truth_word : Bool → ℤ
truth_word true = pos 1
truth_word false = pos 0

abbrev pub word_of : Constant → ℤ
word_of (constant.Number z) = z
word_of (constant.Truth b) = truth_word b

-- so many times these words
abbrev pub repeated : ℕ → List ℤ → List ℤ
repeated zero ws = []
repeated (suc k) ws = ws ++ repeated k ws

-- elements begin with the words of their type, with one value for each, or with their own
abbrev pub initialized_words : ℕ → List Constant → List ℤ → List ℤ
initialized_words n [] ws = repeated n ws
initialized_words n (c ∷ []) ws = replicate n (word_of c)
initialized_words n (c ∷ d ∷ cs) ws = map word_of (c ∷ d ∷ cs)

-- one object, or the elements of an array, given the words with which an object of the type begins
abbrev pub arranged_words : ℕ → List Span → List Constant → List ℤ → List ℤ
arranged_words zero ss [] ws = ws
arranged_words zero ss (c ∷ cs) ws = word_of c ∷ []
arranged_words (suc rank) ss cs ws = initialized_words (count ss) cs ws

-- an allocatable holds nothing
abbrev pub declared_words : Declared → List ℤ → List ℤ
declared_words d ws = if d.kind.is_allocatable then replicate (1 + 2 * d.kind.rank) (pos 0) else arranged_words d.kind.rank (spans_declared d.dimensions.items) d.initial.items ws

-- an object of a type: a scalar is 0 or .FALSE. (own rule), a derived type has its components one after another (4.5.1)
abbrev mutual
  pub object_words : Shape → List ℤ
  object_words Whole = pos 0 ∷ []
  object_words Logical = pos 0 ∷ []
  object_words (Record t parts) = parts_words parts

  pub parts_words : Parts → List ℤ
  parts_words nothing = []
  parts_words (and c s rest) = declared_words c.declared (object_words s) ++ parts_words rest

-- a variable, and variables one after another
abbrev pub variable_words : List Shape → Declared → List ℤ
variable_words ts d = declared_words d (object_words (shape_in ts d.kind.of))

abbrev pub initial_words : List Shape → List Declared → List ℤ
initial_words ts [] = []
initial_words ts (d ∷ ds) = variable_words ts d ++ initial_words ts ds

-- their initial values (f3_meaning_whole, Exec)
abbrev pub initial_values : List Shape → List Declared → List Value
initial_values ts ds = map (λ (d : Declared). initial_declared d (initial_of (shape_in ts d.kind.of))) ds

-- ---- which values fit

-- a constant is a scalar of such a type
abbrev pub IsOf : Shape → Constant → Type 0
IsOf Whole (constant.Number z) = ⊤
IsOf Whole (constant.Truth b) = ⊥
IsOf Logical (constant.Number z) = ⊥
IsOf Logical (constant.Truth b) = ⊤
IsOf (Record t parts) c = ⊥

abbrev pub AreOf : Shape → List Constant → Type 0
AreOf s [] = ⊤
AreOf s (c ∷ cs) = IsOf s c × AreOf s cs

-- of one object there is one at most, and of so many elements none, one, or as many
abbrev pub AreEnough : ℕ → ℕ → List Constant → Type 0
AreEnough zero n [] = ⊤
AreEnough zero n (c ∷ []) = ⊤
AreEnough zero n (c ∷ d ∷ cs) = ⊥
AreEnough (suc rank) n [] = ⊤
AreEnough (suc rank) n (c ∷ []) = ⊤
AreEnough (suc rank) n (c ∷ d ∷ cs) = length (c ∷ d ∷ cs) ≡ n

-- what is declared so can begin with its values
pub record CanBegin (s : Shape) (d : Declared) : Type 0 where
  pub typed : AreOf s d.initial.items
  pub enough : AreEnough d.kind.rank (count (spans_declared d.dimensions.items)) d.initial.items

-- so can all components of a type, at any depth
abbrev mutual
  pub TypeCanBegin : Shape → Type 0
  TypeCanBegin Whole = ⊤
  TypeCanBegin Logical = ⊤
  TypeCanBegin (Record t parts) = PartsCanBegin parts

  pub PartsCanBegin : Parts → Type 0
  PartsCanBegin nothing = ⊤
  PartsCanBegin (and c s rest) = CanBegin s c.declared × TypeCanBegin s × PartsCanBegin rest

-- and variables, with the components of their types
abbrev pub AllCanBegin : List Shape → List Declared → Type 0
AllCanBegin ts [] = ⊤
AllCanBegin ts (d ∷ ds) = CanBegin (shape_in ts d.kind.of) d × TypeCanBegin (shape_in ts d.kind.of) × AllCanBegin ts ds

-- what the components of a type are declared as
abbrev pub declared_each : List Component → List Declared
declared_each cs = map (λ (c : Component). c.declared) cs
