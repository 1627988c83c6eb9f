-- Parts of elaborated programs, for examples alone: lists and boxes as they would lie in memory.
use Rattle.std.specs.Prelude.{ℕ, ◌^◌, ℤ, Bool, ltb, T, List, map, [], ◌∷◌, length, Option, refl}
use Rattle.std.specs.Prelude.{Vec, Box}
use Rattle.std.specs.declared.alloc.Global.{Global}
use mathlib.Core.Path.{subst, sym}
use lib.Dec.{ltb→lt}
use lib.ListN.{length-map}
use native.Mathlib.Nat.{le_refl}
use mathlib.Core.Former.{this, list_count, none_left}
use denote.RawPtr.{null_ptr}
use Rattle.f3_places.specs.declared.source.Place.{Place}
use Rattle.f3_program.specs.declared.declarations.Base.{Base}
use Rattle.f3_program.specs.declared.declarations.Kind.{Kind}
use Rattle.f3_program.specs.declared.declarations.Constant.{Constant}
use Rattle.f3_program.specs.declared.declarations.Constant.TheVariants as constant
use Rattle.f3_program.specs.declared.declarations.Dimension.{Dimension}
use Rattle.f3_program.specs.declared.declarations.Declared.{Declared}
use Rattle.f3_program.specs.declared.declarations.Component.{Component}
use Rattle.f3_program.specs.declared.declarations.Derived.{Derived}
use Rattle.f3_program.specs.declared.declarations.Final.{Final}
use Rattle.f3_program.specs.declared.expression.Argument as a
use Rattle.f3_program.specs.declared.expression.Designator as d
use Rattle.f3_program.specs.declared.expression.Expression as e
use Rattle.f3_program.specs.declared.expression.Selection as l
use Rattle.f3_program.specs.declared.expression.Subscript as u
use Rattle.f3_program.specs.declared.expression.Name.{Name}
use Rattle.f3_program.specs.declared.expression.BinaryOperator.{BinaryOperator}
use Rattle.f3_program.specs.declared.expression.UnaryOperator as c
use Rattle.f3_program.specs.declared.expression.Query.{Query}
use Rattle.f3_program.specs.declared.statement.Bounds.{Bounds}
use Rattle.f3_program.specs.declared.statement.Item.{Item}
use Rattle.f3_program.specs.declared.statement.Item.TheVariants as item
use Rattle.f3_program.specs.declared.statement.Range.{Range}
use Rattle.f3_program.specs.declared.statement.Request.{Request}
use Rattle.f3_program.specs.declared.statement.Selector.{Selector}
use Rattle.f3_program.specs.declared.statement.Statement as s
use Rattle.f3_program.specs.declared.program.Dummy.{Dummy}
use Rattle.f3_program.specs.declared.program.Intent.{Intent}
use Rattle.f3_program.specs.declared.program.Static.{Static}
use Rattle.f3_program.specs.declared.program.Procedure.{Procedure}
use Rattle.f3_program.specs.declared.program.Program.{Program}

-- short enough for a vector
abbrev pub Small : {X : Type 0} → List X → Type 0
Small xs = T (ltb (length xs) (2 ^ 63))

abbrev pub vec : {X : Type 0} → Global → (xs : List X) → Small xs → Vec X Global
vec h xs p = record {
  ptr = null_ptr;
  len = length xs;
  cap = length xs;
  alloc = h;
  items = xs;
  ok = (refl, le_refl (length xs));
  small = ltb→lt
      (length xs) (2 ^ 63) p;
}

-- the place in memory of a list in a tree
abbrev pub nothings : {X : Type 0} → List X → List (Unit {0})
nothings xs = map (λ x. tt) xs

abbrev pub shell : {X : Type 0} → Global → (xs : List X) → Small xs → Vec (Unit {0}) Global
shell h xs p = vec h (nothings xs) (subst (λ k. T (ltb k (2 ^ 63))) (sym (length-map xs (λ x. tt))) p)

abbrev pub statements : (xs : List s.Statement) → s.Row_of-Statement (list_count this (nothings xs) none_left)
statements [] = s.end_of-Statement
statements (x ∷ xs) = s.more_of-Statement x (statements xs)

abbrev pub arguments : (xs : List a.Argument) → e.Row_of-Argument (list_count this (nothings xs) none_left)
arguments [] = e.end_of-Argument
arguments (x ∷ xs) = e.more_of-Argument x (arguments xs)

abbrev pub subscripts : (xs : List u.Subscript) → l.Row_of-Subscript (list_count this (nothings xs) none_left)
subscripts [] = l.end_of-Subscript
subscripts (x ∷ xs) = l.more_of-Subscript x (subscripts xs)

abbrev pub box : {X : Type 0} → Global → X → Box X Global
box h x = record { ptr = null_ptr; alloc = h; value = x }

abbrev pub place : ℕ → ℕ → Place
place l c = record { file = 1; line = l; column = c }

abbrev pub kind : Base → ℕ → Bool → Kind
kind of rank is_allocatable = record { of = of; rank = rank; is_allocatable = is_allocatable }

abbrev pub dim : ℤ → ℕ → Dimension
dim lower extent = record { lower = lower; extent = extent }

abbrev pub declared : Global → Kind → (ds : List Dimension) → Small ds → (cs : List Constant) → Small cs → Declared
declared h k ds p cs q = record { kind = k; dimensions = vec h ds p; initial = vec h cs q }

abbrev pub comp : Declared → Bool → Component
comp x p = record { declared = x; is_private = p }

abbrev pub derived : Global → ℕ → (cs : List Component) → Small cs → (fs : List Final) → Small fs → Derived
derived h home cs p fs q = record { home = home; components = vec h cs p; finals = vec h fs q }

abbrev pub final : ℕ → ℕ → Final
final rank f = record { rank = rank; procedure = f }

abbrev pub num : ℤ → e.Expression
num z = e.Literal (constant.Number z)

abbrev pub truth : Bool → e.Expression
truth b = e.Literal (constant.Truth b)

abbrev pub var : Global → d.Designator → e.Expression
var h x = e.Variable (box h x)

abbrev pub group : Global → e.Expression → e.Expression
group h x = e.Group (box h x)

abbrev pub unary : Global → c.UnaryOperator → Base → e.Expression → e.Expression
unary h o t x = e.Unary o t (box h x)

abbrev pub bin : Global → BinaryOperator → Base → e.Expression → e.Expression → e.Expression
bin h o t x y = e.Binary o t (box h x) (box h y)

abbrev pub array : Global → (xs : List a.Argument) → Small xs → e.Expression
array h xs p = e.Array' (shell h xs p) (arguments xs)

abbrev pub struct : Global → ℕ → (xs : List a.Argument) → Small xs → e.Expression
struct h t xs p = e.Structure' t (shell h xs p) (arguments xs)

abbrev pub call : Global → ℕ → (xs : List a.Argument) → Small xs → e.Expression
call h f xs p = e.Call' f (shell h xs p) (arguments xs)

abbrev pub allocated : Global → d.Designator → e.Expression
allocated h x = e.Allocated (box h x)

abbrev pub size : Global → a.Argument → e.Expression
size h x = e.Size (box h x)

abbrev pub query : Global → Query → a.Argument → e.Expression → e.Expression
query h q x y = e.Bound q (box h x) (box h y)

abbrev pub val : Global → ℕ → e.Expression → a.Argument
val h k x = a.Value k (box h x)

abbrev pub ref : Global → ℕ → d.Designator → a.Argument
ref h k x = a.Variable k (box h x)

abbrev pub name : Name → l.Selection → d.Designator
name x how = d.Name x how

abbrev pub member : Global → d.Designator → ℕ → l.Selection → d.Designator
member h x k how = d.Component (box h x) k how

abbrev pub elements : Global → Bool → (xs : List u.Subscript) → Small xs → l.Selection
elements h o xs p = l.Elements' o (shell h xs p) (subscripts xs)

abbrev pub sub : Global → e.Expression → u.Subscript
sub h x = u.At (box h x)

abbrev pub range : Global → Bool → e.Expression → Bool → e.Expression → e.Expression → u.Subscript
range h b x c y z = u.Range b (box h x) c (box h y) (box h z)

abbrev pub at : Global → ℕ → ℕ → Bool → s.Statement → s.Statement
at h l c b x = s.At (place l c) b (box h x)

abbrev pub block : Global → (xs : List s.Statement) → Small xs → s.Statement
block h xs p = s.Block' (shell h xs p) (statements xs)

abbrev pub when : Global → e.Expression → s.Statement → s.Statement → s.Statement
when h x y z = s.If x (box h y) (box h z)

abbrev pub choose : Global → e.Expression → s.Statement → s.Statement
choose h x y = s.Select x (box h y)

abbrev pub case : Global → (rs : List Range) → Small rs → s.Statement → s.Statement → s.Statement
case h rs p x y = s.Case (vec h rs p) (box h x) (box h y)

abbrev pub while : Global → e.Expression → s.Statement → s.Statement
while h x y = s.While x (box h y)

abbrev pub for : Global → d.Designator → Kind → e.Expression → e.Expression → e.Expression → s.Statement → s.Statement
for h x k f t b y = s.Count x k f t b (box h y)

abbrev pub associate : Global → (xs : List Selector) → Small xs → s.Statement → s.Statement
associate h xs p y = s.Associate (vec h xs p) (box h y)

abbrev pub bounds : e.Expression → e.Expression → Bounds
bounds x y = record { lower = x; upper = y }

abbrev pub request : Global → d.Designator → Kind → (bs : List Bounds) → Small bs → Request
request h x k bs p = record { object = x; kind = k; bounds = vec h bs p }

abbrev pub text : Global → (bytes : List ℕ) → Small bytes → Item
text h bytes p = item.Text (vec h bytes p)

abbrev pub dummy : Global → Kind → Intent → (ls : List ℤ) → Small ls → Dummy
dummy h k i ls p = record { kind = k; intent = i; lowers = vec h ls p }

abbrev pub static : Declared → ℕ → Bool → Static
static x home p = record { declared = x; home = home; is_protected = p }

abbrev pub procedure : Global → ℕ → (ds : List Dummy) → Small ds → (xs : List Declared) → Small xs → Option Declared → s.Statement → Place → Procedure
procedure h unit ds p xs q r body end = record { unit = unit; dummies = vec h ds p; locals = vec h xs q; result = r; body = body; end = end }

abbrev pub program : Global → (ts : List Derived) → Small ts → (xs : List Static) → Small xs → (ps : List Procedure) → Small ps → Procedure → Place → Program
program h ts p xs q ps r main start = record { types = vec h ts p; statics = vec h xs q; procedures = vec h ps r; main = main; start = start }
