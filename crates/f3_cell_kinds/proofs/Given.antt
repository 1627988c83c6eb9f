-- Arguments and subscripts that are given, by their kinds.
use Rattle.std.proofs.Common.{◌≡◌, suc, Bool, true, false, List, [], ◌∷◌, ◌++◌, length, Option, Some, None, refl, sym, ap, ◌∙◌, if◌then◌else◌}
use Rattle.f3_program.specs.declared.declarations.Declared.{Declared}
use Rattle.f3_program.specs.declared.declarations.Kind.{Kind}
use Rattle.f3_program.specs.declared.expression.Argument as a
use Rattle.f3_program.specs.declared.expression.Expression as e
use Rattle.f3_program.specs.declared.expression.Selection as l
use Rattle.f3_program.specs.declared.expression.Subscript as u
use Rattle.f3_program.specs.declared.program.Program.{Program}
use Rattle.f3_meaning_whole.specs.Formed.{Given, given_all, result_kind, value_kind, object_kind, argument, arguments, taken, taken_of_each, subscript, subscripts, sectioned, element_of_each, only, is_scalar, of_kind}
use Rattle.f3_code.specs.Code.{argument_count, subscript_count}
use Rattle.f3_cell_kinds.specs.Types.{Scope, CellType, Site, arguments_on, choices_on}
use Rattle.f3_cell_kinds.specs.Types as cell
use Rattle.f3_cell_kinds.specs.Effect.{held_kind, declared_kind}
use Rattle.f3_cell_kinds.specs.Values.{is_triplet, triplets, argument_at, arguments_at}
use Rattle.f3_cell_kinds.proofs.Asked.{some_same, found_is, found_kind, found_at, only_is}

-- ---- many on top

pub arguments_over : (gs : List Given) (xs h : List CellType) → arguments_on gs (xs ++ h) ≡ arguments_on gs xs ++ h
arguments_over [] xs h = refl
arguments_over (g ∷ gs) xs h = arguments_over gs (cell.Argument g ∷ xs) h

pub choices_over : (bs : List Bool) (xs h : List CellType) → choices_on bs (xs ++ h) ≡ choices_on bs xs ++ h
choices_over [] xs h = refl
choices_over (b ∷ bs) xs h = choices_over bs (cell.Choice b ∷ xs) h

pub triplets_count : {m : _} (xs : l.Row_of-Subscript m) → length (triplets xs) ≡ subscript_count xs
triplets_count l.end_of-Subscript = refl
triplets_count (l.more_of-Subscript x rest) = ap suc (triplets_count rest)

pub result_held : (o : Option Declared) → result_kind o ≡ held_kind (declared_kind o)
result_held None = refl
result_held (Some y) = refl

module _ (p : Program) (r : Kind) (s : Scope) where
  pub arguments_count : {m : _} (xs : e.Row_of-Argument m) → length (arguments_at p r s xs) ≡ argument_count xs
  arguments_count e.end_of-Argument = refl
  arguments_count (e.more_of-Argument x rest) = ap suc (arguments_count rest)

  pub argument_is : (x : a.Argument) (g : Given) → argument p s.variables s.names x ≡ Some g → g ≡ argument_at p r s x
  argument_is (a.Value' k q x) g e = let f = found_kind (value_kind p s.variables s.names x) _ g e in sym (some_same f.1)
  argument_is (a.Variable' k q x) g e = let f = found_kind (object_kind p s.variables s.names x) _ g e in sym (some_same f.1)

  pub arguments_are : {m : _} (xs : e.Row_of-Argument m) (gs : List Given) → given_all (arguments p s.variables s.names xs) ≡ Some gs → gs ≡ arguments_at p r s xs
  arguments_are e.end_of-Argument gs e = sym (some_same e)
  arguments_are (e.more_of-Argument x rest) gs e =
      let f = found_is (argument p s.variables s.names x) _ gs e in
      let k = found_is (given_all (arguments p s.variables s.names rest)) _ gs f.2 in
      let same : f.0 ∷ k.0 ≡ gs = some_same k.2 in
      sym same ∙ ap (λ y. y ∷ k.0) (argument_is x f.0 f.1) ∙ ap (λ ys. argument_at p r s x ∷ ys) (arguments_are rest k.0 k.1)

  pub subscript_is : (x : u.Subscript) (b : Bool) → subscript p s.variables s.names x ≡ Some b → b ≡ is_triplet x
  subscript_is (u.At' q x) b e = sym (only_is _ false b e).1
  subscript_is (u.Range' b q x c q' y t z) b' e = sym (only_is _ true b' e).1

  pub subscripts_are : {m : _} (xs : l.Row_of-Subscript m) (bs : List Bool) → given_all (subscripts p s.variables s.names xs) ≡ Some bs → bs ≡ triplets xs
  subscripts_are l.end_of-Subscript bs e = sym (some_same e)
  subscripts_are (l.more_of-Subscript x rest) bs e =
      let f = found_is (subscript p s.variables s.names x) _ bs e in
      let k = found_is (given_all (subscripts p s.variables s.names rest)) _ bs f.2 in
      let same : f.0 ∷ k.0 ≡ bs = some_same k.2 in
      sym same ∙ ap (λ y. y ∷ k.0) (subscript_is x f.0 f.1) ∙ ap (λ ys. is_triplet x ∷ ys) (subscripts_are rest k.0 k.1)

  -- elements, by an object or by each element of an array
  pub picked : (b is_opened : Bool) (o : Option (List Bool)) (bs : List Bool) (k j y : Kind) → ((z : List Bool) → o ≡ Some z → z ≡ bs) →
      (if b then sectioned p s.variables s.names is_opened o j else element_of_each p s.variables s.names is_opened o k j) ≡ Some y →
      (o ≡ Some bs) × ((if b then sectioned p [] [] is_opened (Some bs) j else element_of_each p [] [] is_opened (Some bs) k j) ≡ Some y)
  picked true is_opened o bs k j y one e = found_at o bs _ y one e
  picked false is_opened o bs k j y one e = found_at o bs _ y one e

  -- the contents of a component are those of a component of one object
  pub contents_of : (b : Bool) (k j y : Kind) → (if b then taken p s.variables s.names l.Contents j else taken_of_each p s.variables s.names l.Contents k j) ≡ Some y →
      ((if b then Some j else only (is_scalar j) (of_kind j.of k.rank)) ≡ Some j) × (j.is_allocatable ≡ true) × (held_kind j ≡ y)
  contents_of true k j y e = let f = only_is j.is_allocatable _ y e in (refl, f.0, f.1)
  contents_of false k j y e = cc
