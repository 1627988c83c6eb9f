-- Lawful statements that are pure.
use Rattle.std.proofs.Common.{◌≡◌, ℕ, zero, suc, Bool, true, List, [], ◌∷◌, ◌++◌, map, Some, sym, ◌∙◌}
use Rattle.std.specs.Prelude.{T, slice_index_or}
use mathlib.Core.Path.{subst}
use lib.Dec.{eqb→eq}
use Rattle.f3_program.specs.declared.declarations.Base.{Base}
use Rattle.f3_program.specs.declared.declarations.Base.TheVariants as base
use Rattle.f3_program.specs.declared.declarations.Kind.{Kind}
use Rattle.f3_program.specs.declared.expression.Designator as d
use Rattle.f3_program.specs.declared.expression.Expression as e
use Rattle.f3_program.specs.declared.expression.Name.{Name}
use Rattle.f3_program.specs.declared.expression.Name.TheVariants as n
use Rattle.f3_program.specs.declared.statement.Request.{Request}
use Rattle.f3_program.specs.declared.statement.Selector.{Selector}
use Rattle.f3_program.specs.declared.statement.Selector.TheVariants as selector
use Rattle.f3_program.specs.declared.statement.Statement as s
use Rattle.f3_program.specs.declared.program.Program.{Program}
use Rattle.f3_meaning_whole.specs.Act.{component_type}
use Rattle.f3_meaning_whole.specs.Formed.{some, given_all, kind_of_name, object_kind, selected, or_none, is_formed, are_formed}
use Rattle.f3_meaning_whole.specs.Permitted.{Each, Lendable, Scope, unknown, same_type, name_of, designated, MayDefineAs, MayRequest, MayExec, MayBlock, names_by, naming}
use Rattle.f3_lawful_laws.proofs.Facts.{no, left, right}
use Rattle.f3_pure_laws.specs.Ending.{IsHarmless, AreHarmless}
use Rattle.f3_pure_laws.specs.Pure.{MayEnd, EndsRequest, IsPureStatement, IsPureBlock}
use Rattle.f3_pure_laws.proofs.Ending.{harmless_may_end}
use Rattle.f3_purity_laws.specs.Calls.{CallsPure, AllCallPure}
use Rattle.f3_purity_laws.specs.Composed.{EndsWell, AreHarmlessIn, LawfulIsPure}
use Rattle.f3_purity_laws.specs.Barring.{barring}
use Rattle.f3_purity_laws.specs.Owning.{may_defines}
use Rattle.f3_purity_laws.proofs.Owning.{owned, stat_owned, requests_owned, passed_owned, associate_owned}
use Rattle.f3_purity_laws.proofs.Sensible.{found_some, some_there, given_parts, IsThere, own_name, of_there, AreThere, requests_there, bounded_there, stat_there, selector_there, count_there}

harmless_same : (harmless : ℕ → Bool) (a b : Base) → same_type a b ≡ true → IsHarmless harmless a → IsHarmless harmless b
harmless_same f a base.Integer q h = tt
harmless_same f a base.Long q h = tt
harmless_same f a base.Logical q h = tt
harmless_same f (base.Derived t) (base.Derived u) q h = subst (λ k. f k ≡ true) (eqb→eq t u (subst T (sym q) tt)) h
harmless_same f base.Integer (base.Derived u) q h = no (sym q)
harmless_same f base.Long (base.Derived u) q h = no (sym q)
harmless_same f base.Logical (base.Derived u) q h = no (sym q)

name_well : (harmless : ℕ → Bool) (ls : List Lendable) → Each (EndsWell harmless) ls → (i : ℕ) → EndsWell harmless (slice_index_or ls i unknown)
name_well f [] h i q = tt
name_well f (l ∷ ls) h zero q = h.0 q
name_well f (l ∷ ls) h (suc i) q = name_well f ls h.1 i q

each_joined : {A : Type 0} (P : A → Type 0) (xs ys : List A) → Each P xs → Each P ys → Each P (xs ++ ys)
each_joined P [] ys h k = k
each_joined P (x ∷ xs) ys h k = (h.0, each_joined P xs ys h.1 k)

module _ (p : Program) (pure harmless : ℕ → Bool) (well : AreHarmless p pure harmless) where
  part_harmless : (of : Base) (k : ℕ) → IsHarmless harmless of → IsHarmless harmless (component_type p.types.items of k)
  part_harmless base.Integer k h = tt
  part_harmless base.Long k h = tt
  part_harmless base.Logical k h = tt
  part_harmless (base.Derived t) k h = well.components t k h

  name_harmless : (scope : Scope) (names : List Kind) → AreHarmlessIn harmless scope → (y : Name) (k : Kind) → kind_of_name p scope.variables names y ≡ Some k
      → EndsWell harmless (name_of (barring scope.unit p) scope y)
  name_harmless scope names i (n.Static j) k h q = no (sym q ∙ own_name p scope names (n.Static j) k h)
  name_harmless scope names i (n.Local j) k h q = i.variables j
  name_harmless scope names i (n.Lent j) k h q = name_well harmless scope.names i.names j q

  place_harmless : (scope : Scope) (names : List Kind) → AreHarmlessIn harmless scope → (x : d.Designator) → IsThere p scope names x
      → EndsWell harmless (designated (barring scope.unit p) scope x)
  place_harmless scope names i (d.Name y how) h q =
      let (k, there) = found_some (kind_of_name p scope.variables names y) _ h.0 h.1 in name_harmless scope names i y k there q
  place_harmless scope names i (d.Component' r x k how) h q =
      part_harmless (designated (barring scope.unit p) scope x).of k (place_harmless scope names i x (found_some (object_kind p scope.variables names x) _ h.0 h.1) q)

  may_end : (scope : Scope) (names : List Kind) → AreHarmlessIn harmless scope → (k : Kind) (x : d.Designator) → IsThere p scope names x
      → MayDefineAs (barring scope.unit p) scope k x → MayEnd p pure k.of
  may_end scope names i k x h m =
      harmless_may_end p pure harmless well k.of (harmless_same harmless (designated (barring scope.unit p) scope x).of k.of m.1 (place_harmless scope names i x h m.0.1))

  requests_end : (scope : Scope) (names : List Kind) → AreHarmlessIn harmless scope → (rs : List Request) → AreThere p scope names rs
      → Each (MayRequest (barring scope.unit p) scope) rs → Each (EndsRequest p pure (may_defines scope.names)) rs
  requests_end scope names i [] h m = tt
  requests_end scope names i (r ∷ rs) h m =
      ((owned p pure scope names r.object h.0 m.0.0.0, may_end scope names i r.kind r.object h.0 m.0.0), requests_end scope names i rs h.1 m.1)

  selectors_well : (scope : Scope) (names : List Kind) → AreHarmlessIn harmless scope → (xs : List Selector) (ks : List Kind)
      → given_all (map (selected p scope.variables names) xs) ≡ Some ks → Each (EndsWell harmless) (names_by (barring scope.unit p) scope xs)
  selectors_well scope names i [] ks h = tt
  selectors_well scope names i (selector.Variable x ∷ xs) ks h =
      let (k, rest, here, there) = given_parts (selected p scope.variables names (selector.Variable x)) (map (selected p scope.variables names) xs) ks h in
      (place_harmless scope names i x (selector_there p scope names x k here), selectors_well scope names i xs rest there)
  selectors_well scope names i (selector.Value j x ∷ xs) ks h =
      let (k, rest, here, there) = given_parts (selected p scope.variables names (selector.Value j x)) (map (selected p scope.variables names) xs) ks h in
      (λ q. no (sym q), selectors_well scope names i xs rest there)

  associate_well : (scope : Scope) (names : List Kind) → AreHarmlessIn harmless scope → (xs : List Selector)
      → some (given_all (map (selected p scope.variables names) xs)) (λ ks. true) ≡ true
      → AreHarmlessIn harmless (naming (names_by (barring scope.unit p) scope xs) scope)
  associate_well scope names i xs h =
      let (ks, there) = some_there (given_all (map (selected p scope.variables names) xs)) (λ ks. true) h in
      record {
        variables = i.variables;
        names = each_joined (EndsWell harmless) scope.names (names_by (barring scope.unit p) scope xs) i.names (selectors_well scope names i xs ks there);
      }

  mutual
    statement_pure : (x : s.Statement) (scope : Scope) (names : List Kind) → AreHarmlessIn harmless scope → is_formed p scope.variables x names ≡ true
        → MayExec (barring scope.unit p) x scope → CallsPure pure x → IsPureStatement p pure x (may_defines scope.names)
    statement_pure (s.At' place c q x) scope names i h m o = statement_pure x scope names i h m o
    statement_pure (s.Block' k xs) scope names i h m o = block_pure xs scope names i h m o
    statement_pure (s.Assign x k y) scope names i h m o =
        let t = of_there p scope names k x (left _ _ h) in (owned p pure scope names x t m.0.0, may_end scope names i k x t m.0)
    statement_pure (s.Call (e.Call' f k xs)) scope names i h m o = (o, passed_owned p pure scope names f k xs h m.1)
    statement_pure (s.Call (e.Literal c)) scope names i h m o = tt
    statement_pure (s.Call (e.Variable' q x)) scope names i h m o = tt
    statement_pure (s.Call (e.Group' q x)) scope names i h m o = tt
    statement_pure (s.Call (e.Unary' w t q x)) scope names i h m o = tt
    statement_pure (s.Call (e.Binary' w t q x r y)) scope names i h m o = tt
    statement_pure (s.Call (e.Array' k xs)) scope names i h m o = tt
    statement_pure (s.Call (e.Structure' t k xs)) scope names i h m o = tt
    statement_pure (s.Call (e.Allocated' q x)) scope names i h m o = tt
    statement_pure (s.Call (e.Size' q x)) scope names i h m o = tt
    statement_pure (s.Call (e.Bound' w q x r y)) scope names i h m o = tt
    statement_pure (s.MoveAlloc k c x y) scope names i h m o =
        let g = right k.is_allocatable _ h in
        let t = of_there p scope names k x (left _ _ g) in
        (owned p pure scope names x t m.0.0, owned p pure scope names y (of_there p scope names k y (right _ _ g)) m.1.0, may_end scope names i k x t m.0)
    statement_pure (s.Allocate rs stat) scope names i h m o = (
      requests_owned p pure scope names rs.items (bounded_there p scope names rs.items (left _ _ h)) m.0,
      stat_owned p pure scope names stat (stat_there p scope names stat (right _ _ h)) m.1,
    )
    statement_pure (s.Deallocate rs stat) scope names i h m o = (
      requests_end scope names i rs.items (requests_there p scope names rs.items (left _ _ h)) m.0,
      stat_owned p pure scope names stat (stat_there p scope names stat (right _ _ h)) m.1,
    )
    statement_pure (s.Print xs) scope names i h m o = o
    statement_pure (s.Stop code) scope names i h m o = o
    statement_pure s.Return scope names i h m o = tt
    statement_pure s.Cycle scope names i h m o = tt
    statement_pure s.Exit scope names i h m o = tt
    statement_pure (s.If' x q y r z) scope names i h m o =
        let g = right _ _ h in (statement_pure y scope names i (left _ _ g) m.1 o.0, statement_pure z scope names i (right _ _ g) m.2 o.1)
    statement_pure (s.Select' x q y) scope names i h m o = statement_pure y scope names i (right _ _ h) m.1 o
    statement_pure (s.Case' rs q x r y) scope names i h m o = (statement_pure x scope names i (left _ _ h) m.0 o.0, statement_pure y scope names i (right _ _ h) m.1 o.1)
    statement_pure (s.While' x q y) scope names i h m o = statement_pure y scope names i (right _ _ h) m.1 o
    statement_pure (s.Count' x k from to step q y) scope names i h m o =
        let g = count_there p scope.variables names x k from to step q y h in
        (owned p pure scope names x (of_there p scope names k x g.0) m.0, statement_pure y scope names i g.1 m.4 o)
    statement_pure (s.Associate' xs q y) scope names i h m o =
        subst (IsPureStatement p pure y) (associate_owned p pure scope names xs.items (left _ _ h))
        (statement_pure y (naming (names_by (barring scope.unit p) scope xs.items) scope) (names ++ or_none (given_all (map (selected p scope.variables names) xs.items)))
        (associate_well scope names i xs.items (left _ _ h)) (right _ _ h) m.1 o)

    block_pure : {k : _} (xs : s.Row_of-Statement k) (scope : Scope) (names : List Kind) → AreHarmlessIn harmless scope → are_formed p scope.variables xs names ≡ true
        → MayBlock (barring scope.unit p) xs scope → AllCallPure pure xs → IsPureBlock p pure xs (may_defines scope.names)
    block_pure s.end_of-Statement scope names i h m o = tt
    block_pure (s.more_of-Statement x rest) scope names i h m o =
        (statement_pure x scope names i (left _ _ h) m.0 o.0, block_pure rest scope names i (right _ _ h) m.1 o.1)

pub lawful_is_pure : LawfulIsPure
lawful_is_pure p pure harmless well scope i x names h m o = statement_pure p pure harmless well x scope names i h m o
