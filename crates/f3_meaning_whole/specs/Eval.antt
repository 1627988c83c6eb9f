-- What expressions and designators mean.
use Rattle.std.specs.Prelude.{ℤ, pos, ◌+ℤ◌, ◌-ℤ◌, int_le, if◌then◌else◌, List, [], ◌∷◌, length, Option, None, Some, slice_index_or}
use Rattle.f3_program.specs.declared.declarations.Base.TheVariants as base
use Rattle.f3_program.specs.declared.declarations.Component.{Component}
use Rattle.f3_program.specs.declared.expression.Argument as a
use Rattle.f3_program.specs.declared.expression.Designator as d
use Rattle.f3_program.specs.declared.expression.Expression as e
use Rattle.f3_program.specs.declared.expression.Selection as s
use Rattle.f3_program.specs.declared.expression.Subscript as u
use Rattle.f3_program.specs.declared.expression.Query.{Query}
use Rattle.f3_program.specs.declared.expression.Query.TheVariants as query
use Rattle.f3_meaning_whole.specs.Value.{Span, Value, Number, Truth, Composite, Array, Unallocated, Allocated, joined, number_of}
use Rattle.f3_meaning_whole.specs.Value.{is_allocated, count, shown, plain, spans_of}
use Rattle.f3_meaning_whole.specs.Store.{get}
use Rattle.f3_meaning_whole.specs.Reference.{Selected, Reach, One, Many, Reference, spans}
use Rattle.f3_meaning_whole.specs.declared.run_error.RunError.TheVariants.{SubscriptOutOfBounds, NotAllocated}
use Rattle.f3_meaning_whole.specs.Ran.{Ran, ◌>>=◌, gives, fails, looks}
use Rattle.f3_meaning_whole.specs.Arithmetic.{apply, change_of, converted, constant_value}
use Rattle.f3_meaning_whole.specs.Shape.{Whole, spans_declared}
use Rattle.f3_meaning_whole.specs.Act.{Setting, Here, Passed, Given, Lent, Calls, claim_for, named, component_of, component, contents, read}
use Rattle.f3_meaning_whole.specs.Act.{Chosen, At, Range, picks, picks_in_each, structure, components_of, given}

-- the value of a function's result, which is no variable (own rule: an error where it is unallocated)
abbrev pub result : Value → Here → Ran Value
result (Allocated v) here = gives (plain v)
result Unallocated here = fails NotAllocated here.place
result v here = gives (plain v)

-- the bounds of a component of explicit shape
abbrev pub spans_of_component : Option Component → List Span
spans_of_component None = []
spans_of_component (Some c) = spans_declared c.declared.dimensions.items

abbrev pub ask : Query → Span → ℤ
ask query.Extent s = pos s.extent
ask query.Lower s = s.lower
ask query.Upper s = (s.lower +ℤ pos s.extent) -ℤ pos 1

-- SIZE, LBOUND and UBOUND in a dimension from 1 on, of default kind (13.7.112, 13.7.60, 13.7.121; own rule: an error outside
-- of the rank)
abbrev pub asked : Query → List Span → ℤ → Here → Ran Value
asked q [] z here = fails SubscriptOutOfBounds here.place
asked q (s ∷ ss) z here = if int_le z (pos 0) then fails SubscriptOutOfBounds here.place
    else (if int_le z (pos 1) then converted base.Integer (Number (ask q s)) here.place else asked q ss (z -ℤ pos 1) here)

-- a value of array or derived type that is built
abbrev pub built : Value → Here → Ran Value
built v here = claim_for v here >>= λ done. gives v

-- for one object the first, for elements of an array the second
abbrev pub by_reach : {A : Type 0} → Reach → A → A → A
by_reach One x y = x
by_reach (Many ss ps) x y = y

module _ (g : Setting) (calls : Calls) where
  abbrev mutual
    pub value : e.Expression → Here → Ran Value
    value (e.Literal c) here = gives (constant_value c)
    value (e.Variable' p x) here = do
      r ← locate x here
      read r here
    value (e.Group' p x) here = do
      v ← value x here
      gives (plain v)
    value (e.Unary' c t p x) here = do
      v ← value x here
      change_of c t v here.place
    value (e.Binary' o t p x q y) here = do
      v ← value x here
      w ← value y here
      apply o t v w here.place
    value (e.Array' k xs) here = do
      ps ← arguments xs here
      built (Array (record { lower = pos 1; extent = length (given ps) } ∷ []) (joined (given ps))) here
    value (e.Structure' t k xs) here = do
      ps ← arguments xs here
      vs ← structure (components_of (slice_index_or g.shapes t Whole)) 0 ps here
      built (Composite vs) here
    value (e.Call' f k xs) here = do
      ps ← arguments xs here
      v ← calls here f ps
      result v here
    value (e.Allocated' p x) here = do
      r ← locate x here
      looks (λ store. Truth (is_allocated (get store r.path)))
    value (e.Size' p x) here = do
      ss ← bounds x here
      converted base.Integer (Number (pos (count ss))) here.place
    value (e.Bound' q p x r y) here = do
      ss ← bounds x here
      v ← value y here
      asked q ss (number_of v) here

    -- the bounds of an array, as LBOUND and UBOUND tell them
    pub bounds : a.Argument → Here → Ran (List Span)
    bounds (a.Value' k p x) here = do
      v ← value x here
      gives (spans_of v)
    bounds (a.Variable' k p x) here = do
      r ← locate x here
      gives (shown (spans r.reach))

    pub argument : a.Argument → Here → Ran Passed
    argument (a.Value' k p x) here = do
      v ← value x here
      done ← claim_for v here
      gives (Given k v)
    argument (a.Variable' k p x) here = do
      r ← locate x here
      gives (Lent k r)

    -- arguments in the order written
    pub arguments : {m : _} → e.Row_of-Argument m → Here → Ran (List Passed)
    arguments e.end_of-Argument here = gives []
    arguments (e.more_of-Argument x rest) here = do
      p ← argument x here
      ps ← arguments rest here
      gives (p ∷ ps)

    -- A designator, part by part from the left: of each part the subscripts are evaluated, then what an allocatable
    -- holds is taken, then elements are selected (own order for ISO/IEC 1539-1:2004, 6.1 and 6.2).
    pub locate : d.Designator → Here → Ran Reference
    locate (d.Name x how) here = do
      r ← named g x here
      select how r here
    locate (d.Component' p x k how) here = do
      r ← locate x here
      q ← component g k (Selected here.unit) r
      by_reach r.reach (select how q here) (select_in_each how (spans_of_component (component_of g.program.types.items r.of k)) q here)

    pub select : s.Selection → Reference → Here → Ran Reference
    select s.Whole r here = gives r
    select s.Contents r here = contents r here
    select (s.Elements' is_opened k xs) r here = do
      cs ← chosen xs here
      r ← if is_opened then contents r here else gives r
      picks r r.reach cs here

    -- of a component of each element of an array
    pub select_in_each : s.Selection → List Span → Reference → Here → Ran Reference
    select_in_each s.Whole ss r here = gives r
    select_in_each s.Contents ss r here = contents r here
    select_in_each (s.Elements' is_opened k xs) ss r here = do
      cs ← chosen xs here
      picks_in_each ss r cs here

    pub chosen : {m : _} → s.Row_of-Subscript m → Here → Ran (List Chosen)
    chosen s.end_of-Subscript here = gives []
    chosen (s.more_of-Subscript x rest) here = do
      c ← subscript x here
      cs ← chosen rest here
      gives (c ∷ cs)

    pub subscript : u.Subscript → Here → Ran Chosen
    subscript (u.At' p x) here = do
      v ← value x here
      gives (At (number_of v))
    subscript (u.Range' has_lower p x has_upper q y r z) here = do
      lower ← if has_lower then (value x here >>= λ v. gives (Some (number_of v))) else gives None
      upper ← if has_upper then (value y here >>= λ v. gives (Some (number_of v))) else gives None
      step ← value z here
      gives (Range lower upper (number_of step))
