-- The value of an expression is not allocatable.
use Rattle.std.proofs.Common.{◌≡◌, ◌∙◌, sym, ap, ℕ, false, List, [], ◌∷◌, Option, Some, None, refl}
use Rattle.std.specs.Prelude.{slice_get}
use Rattle.f3_program.specs.declared.declarations.Constant.TheVariants as constant
use Rattle.f3_program.specs.declared.declarations.Declared.{Declared}
use Rattle.f3_program.specs.declared.declarations.Kind.{Kind}
use Rattle.f3_program.specs.declared.expression.Expression as e
use Rattle.f3_program.specs.declared.program.Program.{Program}
use Rattle.f3_meaning_whole.specs.Formed.{Given, value_kind, object_kind, argument, arguments, given_all, constructed, structured, referenced, result_kind}
use Rattle.f3_cell_kinds.proofs.Asked.{some_same, found_is, only_is, not_is}

held_by : (j k : Kind) → j ≡ k → j.is_allocatable ≡ false → k.is_allocatable ≡ false
held_by j k e f = ap (λ (z : Kind). z.is_allocatable) (sym e) ∙ f

constructed_held : (gs : List Given) (k : Kind) → constructed gs ≡ Some k → k.is_allocatable ≡ false
constructed_held [] k e = cc
constructed_held (g ∷ gs) k e = held_by _ k (only_is _ _ k e).1 refl

result_held : (o : Option Declared) → (result_kind o).is_allocatable ≡ false
result_held None = refl
result_held (Some y) = refl

module _ (p : Program) (variables : List Declared) (names : List Kind) where
  structured_held : (t : ℕ) (gs : List Given) (k : Kind) → structured p variables names t gs ≡ Some k → k.is_allocatable ≡ false
  structured_held t gs k e = let g = found_is (slice_get p.types.items t) _ k e in held_by _ k (only_is _ _ k g.2).1 refl

  referenced_held : (f : ℕ) (gs : List Given) (k : Kind) → referenced p variables names f gs ≡ Some k → k.is_allocatable ≡ false
  referenced_held f gs k e = let g = found_is (slice_get p.procedures.items f) _ k e in held_by _ k (only_is _ _ k g.2).1 (result_held g.0.result)

  pub value_held : (x : e.Expression) (k : Kind) → value_kind p variables names x ≡ Some k → k.is_allocatable ≡ false
  value_held (e.Literal (constant.Number z)) k e = held_by _ k (some_same e) refl
  value_held (e.Literal (constant.Truth b)) k e = held_by _ k (some_same e) refl
  value_held (e.Variable' q x) k e =
      let f = found_is (object_kind p variables names x) _ k e in
      let g = only_is _ f.0 k f.2 in
      held_by f.0 k g.1 (not_is _ g.0)
  value_held (e.Group' q x) k e = value_held x k e
  value_held (e.Unary' o t q x) k e =
      let f = found_is (value_kind p variables names x) _ k e in
      held_by _ k (only_is _ _ k f.2).1 refl
  value_held (e.Binary' o t q x r y) k e =
      let f = found_is (value_kind p variables names x) _ k e in
      let g = found_is (value_kind p variables names y) _ k f.2 in
      held_by _ k (only_is _ _ k g.2).1 refl
  value_held (e.Array' n xs) k e =
      let f = found_is (given_all (arguments p variables names xs)) _ k e in
      constructed_held f.0 k f.2
  value_held (e.Structure' t n xs) k e =
      let f = found_is (given_all (arguments p variables names xs)) _ k e in
      structured_held t f.0 k f.2
  value_held (e.Call' f' n xs) k e =
      let f = found_is (given_all (arguments p variables names xs)) _ k e in
      referenced_held f' f.0 k f.2
  value_held (e.Allocated' q x) k e =
      let f = found_is (object_kind p variables names x) _ k e in
      held_by _ k (only_is _ _ k f.2).1 refl
  value_held (e.Size' q x) k e =
      let f = found_is (argument p variables names x) _ k e in
      held_by _ k (only_is _ _ k f.2).1 refl
  value_held (e.Bound' o q x r y) k e =
      let f = found_is (argument p variables names x) _ k e in
      let g = found_is (value_kind p variables names y) _ k f.2 in
      held_by _ k (only_is _ _ k g.2).1 refl
