-- What is read from the words of variables, with what allocatables hold beneath.
use Rattle.std.specs.Prelude.{◌≡◌, ℕ, zero, suc, ◌+◌, ◌*◌, ℤ, List, [], ◌∷◌, map}
use Rattle.f3_program.specs.declared.declarations.Base.{Base}
use Rattle.f3_program.specs.declared.declarations.Base.TheVariants as base
use Rattle.f3_program.specs.declared.declarations.Component.{Component}
use Rattle.f3_program.specs.declared.declarations.Declared.{Declared}
use Rattle.f3_live_blocks.specs.Blocks.{Live}
use Rattle.f3_meaning_whole.specs.Arithmetic.{natural}
use Rattle.f3_meaning_whole.specs.Shape.{Shape, shape_in}
use Rattle.f3_meaning_whole.specs.Value.{Span, Value, Number, Truth}
use Rattle.f3_rooms.specs.Held.{Held, Row}
use Rattle.f3_rooms.specs.Forms.{form_of, words_for, total}
use Rattle.f3_rooms.specs.Values.{word, is_set, elements, variables}
use Rattle.f3_rooms.specs.Sound.{Fact, Each, IsForm, IsObject, AreVariables}

-- the words of a variable, from one of a block on, with this held in it
abbrev pub IsVariable : List Shape → Live → Declared → Fact
IsVariable ts m d = IsForm m (form_of d) (words_for (shape_in ts d.kind.of)) (IsObject m (shape_in ts d.kind.of))

-- the value that words are
abbrev pub Reading : Type 0
Reading = ℕ → ℕ → Held → Value

-- An object of so many words from one on was read: its value is this, whatever is held in it, and the word behind it is this.
pub record IsRead (n : ℕ) (P : Fact) (f : Reading) (b o : ℕ) (v : Value) (next : ℕ) : Type 0 where
  pub value : (h : Held) → P b o h → v ≡ f b o h
  pub behind : next ≡ o + n

-- the scalar of a type that is not derived: 0 is .FALSE., any other word .TRUE. (own rule)
abbrev pub scalar_of : Base → ℤ → Value
scalar_of base.Integer z = Number z
scalar_of base.Long z = Number z
scalar_of base.Logical z = Truth (is_set z)
scalar_of (base.Derived t) z = Number z

-- so were so many objects, one behind another
pub record AreRead (many n : ℕ) (P : Fact) (f : Reading) (b o : ℕ) (vs : List Value) (next : ℕ) : Type 0 where
  pub values : (hs : Row) → Each many n P b o hs → vs ≡ elements many n f b o hs
  pub behind : next ≡ o + many * n

-- and variables
pub record VariablesRead (ts : List Shape) (m : Live) (ds : List Declared) (b o : ℕ) (vs : List Value) (next : ℕ) : Type 0 where
  pub values : (hs : Row) → AreVariables ts m ds b o hs → vs ≡ variables ts m ds b o hs
  pub behind : next ≡ o + total ts ds

abbrev pub declared_each : List Component → List Declared
declared_each cs = map (λ (c : Component). c.declared) cs

-- the bounds of so many dimensions that words tell, from one on: a lower bound and an extent for each (ISO/IEC 1539-1:2004, 6.3.1)
abbrev pub bounds_told : ℕ → Live → ℕ → ℕ → List Span
bounds_told zero m b o = []
bounds_told (suc rank) m b o = record { lower = word m b o; extent = natural (word m b (o + 1)) } ∷ bounds_told rank m b (o + 2)
