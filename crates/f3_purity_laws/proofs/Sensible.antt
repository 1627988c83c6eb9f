-- What is named in what makes sense, where no variable that lives for the whole run may be defined.
use Rattle.std.proofs.Common.{◌≡◌, ℕ, zero, suc, Bool, true, false, ◌&&◌, List, [], ◌∷◌, Option, Some, None, refl, sym, ap, ◌∙◌, arith, if◌then◌else◌}
use Rattle.std.specs.Prelude.{slice_get, slice_index_or, nat_eq}
use Rattle.f3_program.specs.declared.declarations.Kind.{Kind}
use Rattle.f3_program.specs.declared.expression.Argument as a
use Rattle.f3_program.specs.declared.expression.Designator as d
use Rattle.f3_program.specs.declared.expression.Expression as e
use Rattle.f3_program.specs.declared.expression.Name.{Name}
use Rattle.f3_program.specs.declared.expression.Name.TheVariants as n
use Rattle.f3_program.specs.declared.program.Program.{Program}
use Rattle.f3_program.specs.declared.declarations.Declared.{Declared}
use Rattle.f3_program.specs.declared.statement.Statement as s
use Rattle.f3_program.specs.declared.statement.Request.{Request}
use Rattle.f3_program.specs.declared.statement.Selector.TheVariants as selector
use Rattle.f3_meaning_whole.specs.Act.{right_to}
use Rattle.f3_meaning_whole.specs.Formed.{all, some, is_whole_number, value_kind, is_formed, found, Given, given_all, kind_of_name, object_kind, arguments, is_status, is_object_of, is_bound, is_request, has_bounds, selected}
use Rattle.f3_meaning_whole.specs.Permitted.{Each, Lendable, Scope, unknown, is_define, name_of, designated}
use Rattle.f3_meaning_whole.specs.Reference.{Define, Read}
use Rattle.f3_lawful_laws.proofs.Facts.{no, nothing, left, right}
use Rattle.f3_lawful_laws.proofs.Opening.{mapped_at}
use Rattle.f3_lawful_laws.proofs.Positions.{eq_same}
use Rattle.f3_pure_laws.specs.Pure.{first_name, is_own}
use Rattle.f3_purity_laws.specs.Barring.{barred, barring}
use Rattle.f3_purity_laws.specs.Owning.{may_defines}

-- ---- what is found is there

pub found_some : {A B : Type 0} (o : Option A) (f : A → Option B) (y : B) → found o f ≡ Some y → (x : A) × (o ≡ Some x)
found_some None f y h = nothing h
found_some (Some x) f y h = (x, refl)

pub some_there : {A : Type 0} (o : Option A) (f : A → Bool) → some o f ≡ true → (x : A) × (o ≡ Some x)
some_there None f h = no (sym h)
some_there (Some x) f h = (x, refl)

pub all_first : {A : Type 0} (f : A → Bool) (x : A) (xs : List A) → all f (x ∷ xs) ≡ true → (f x ≡ true) × (all f xs ≡ true)
all_first f x xs h = (left (f x) (all f xs) h, right (f x) (all f xs) h)

-- what is given for all is given for the first and for the others
pub given_parts : {A : Type 0} (o : Option A) (os : List (Option A)) (ys : List A) → given_all (o ∷ os) ≡ Some ys
    → (x : A) × (xs : List A) × (o ≡ Some x) × (given_all os ≡ Some xs)
given_parts {A} None os ys h = nothing h
given_parts {A} (Some x) os ys h = let r = found_some (given_all os) (λ xs. Some (x ∷ xs)) ys h in (x, r.0, refl, r.1)

-- ---- names

-- a protected variable of another unit
never : (unit : ℕ) → is_define (if nat_eq (suc unit) unit then Define else Read) ≡ false
never unit = go (nat_eq (suc unit) unit) refl
  where
    go : (b : Bool) → nat_eq (suc unit) unit ≡ b → is_define (if b then Define else Read) ≡ false
    go true h = let e : suc unit ≡ unit = eq_same (suc unit) unit h in absurd (omega (arith, e))
    go false h = refl

name_in : (ls : List Lendable) (i : ℕ) → slice_index_or (may_defines ls) i false ≡ (slice_index_or ls i unknown).may_define
name_in [] i = refl
name_in (l ∷ ls) zero = refl
name_in (l ∷ ls) (suc i) = name_in ls i

module _ (p : Program) (scope : Scope) (names : List Kind) where
  -- a designator that makes sense
  abbrev pub IsThere : d.Designator → Type 0
  IsThere x = (k : Kind) × (object_kind p scope.variables names x ≡ Some k)

  pub own_name : (y : Name) (k : Kind) → kind_of_name p scope.variables names y ≡ Some k
      → (name_of (barring scope.unit p) scope y).may_define ≡ is_own (may_defines scope.names) y
  own_name (n.Static i) k h =
      let (y, there) = found_some (slice_get p.statics.items i) _ k h in
      ap (λ o. is_define (right_to scope.unit o)) (mapped_at (barred scope.unit) p.statics.items i y there) ∙ never scope.unit
  own_name (n.Local i) k h = refl
  own_name (n.Lent i) k h = sym (name_in scope.names i)

  pub own_place : (x : d.Designator) → IsThere x → (designated (barring scope.unit p) scope x).may_define ≡ is_own (may_defines scope.names) (first_name x)
  own_place (d.Name y how) h =
      let (k, there) = found_some (kind_of_name p scope.variables names y) _ h.0 h.1 in own_name y k there
  own_place (d.Component' q x k how) h = own_place x (found_some (object_kind p scope.variables names x) _ h.0 h.1)

  pub of_there : (k : Kind) (x : d.Designator) → is_object_of p scope.variables names k x ≡ true → IsThere x
  of_there k x h = some_there (object_kind p scope.variables names x) _ h

  -- ---- of requests, of a STAT variable, of arguments and of selectors

  pub request_there : (r : Request) → is_request p scope.variables names r ≡ true → IsThere r.object
  request_there r h = of_there r.kind r.object (left _ (all (is_bound p scope.variables names) r.bounds.items) (right r.kind.is_allocatable _ h))

  abbrev pub AreThere : List Request → Type 0
  AreThere rs = Each (λ (r : Request). IsThere r.object) rs

  pub requests_there : (rs : List Request) → all (is_request p scope.variables names) rs ≡ true → AreThere rs
  requests_there [] h = tt
  requests_there (r ∷ rs) h = let g = all_first (is_request p scope.variables names) r rs h in (request_there r g.0, requests_there rs g.1)

  pub bounded_there : (rs : List Request) → all (λ r. is_request p scope.variables names r && has_bounds p scope.variables names r) rs ≡ true → AreThere rs
  bounded_there [] h = tt
  bounded_there (r ∷ rs) h =
      let g = all_first (λ r. is_request p scope.variables names r && has_bounds p scope.variables names r) r rs h in
      (request_there r (left _ (has_bounds p scope.variables names r) g.0), bounded_there rs g.1)

  abbrev pub IsStatThere : Option d.Designator → Type 0
  IsStatThere None = Unit {0}
  IsStatThere (Some x) = IsThere x

  pub stat_there : (o : Option d.Designator) → is_status p scope.variables names o ≡ true → IsStatThere o
  stat_there None h = tt
  stat_there (Some x) h = some_there (object_kind p scope.variables names x) _ h

  pub argument_there : (k : _) (q : _) (x : d.Designator) {m : _} (rest : e.Row_of-Argument m) (gs : List Given)
      → given_all (arguments p scope.variables names (e.more_of-Argument (a.Variable' k q x) rest)) ≡ Some gs → IsThere x
  argument_there k q x rest gs h =
      let (g, others, here, there) = given_parts _ (arguments p scope.variables names rest) gs h in
      found_some (object_kind p scope.variables names x) _ g here

  pub arguments_behind : (x : a.Argument) {m : _} (rest : e.Row_of-Argument m) (gs : List Given)
      → given_all (arguments p scope.variables names (e.more_of-Argument x rest)) ≡ Some gs
      → (others : List Given) × (given_all (arguments p scope.variables names rest) ≡ Some others)
  arguments_behind x rest gs h = let (g, others, here, there) = given_parts _ (arguments p scope.variables names rest) gs h in (others, there)

  pub selector_there : (x : d.Designator) (k : Kind) → selected p scope.variables names (selector.Variable x) ≡ Some k → IsThere x
  selector_there x k h = found_some (object_kind p scope.variables names x) _ k h

-- ---- DO

second_last : (a b c d e f : Bool) → (a && (b && (c && (d && (e && f))))) ≡ true → (b ≡ true) × (f ≡ true)
second_last a b c d e f h =
    let g = right a (b && (c && (d && (e && f)))) h in
    (left b (c && (d && (e && f))) g, right e f (right d (e && f) (right c (d && (e && f)) (right b (c && (d && (e && f))) g))))

-- the variable of a DO and its body
pub count_there : (p : Program) (variables : List Declared) (names : List Kind) (x : d.Designator) (k : Kind) (from to step : e.Expression) (q : _)
    (y : s.Statement) → is_formed p variables (s.Count' x k from to step q y) names ≡ true
    → (is_object_of p variables names k x ≡ true) × (is_formed p variables y names ≡ true)
count_there p variables names x k from to step q y h =
    second_last (is_whole_number k) (is_object_of p variables names k x) (some (value_kind p variables names from) is_whole_number)
    (some (value_kind p variables names to) is_whole_number) (some (value_kind p variables names step) is_whole_number) (is_formed p variables y names) h
