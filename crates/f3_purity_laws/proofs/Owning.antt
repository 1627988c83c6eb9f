-- Where no static variable may be defined, statements change what their procedures own.
use Rattle.std.proofs.Common.{◌≡◌, ℕ, zero, suc, Bool, true, false, not, ◌||◌, List, [], ◌∷◌, ◌++◌, Option, Some, None, map, refl, sym, ap, ◌∙◌}
use Rattle.std.specs.Prelude.{slice_get, slice_index_or, Vec}
use Rattle.std.specs.declared.alloc.Global.{Global}
use mathlib.Core.Former.{this, list_count, none_left}
use mathlib.Core.Path.{subst}
use Rattle.f3_program.specs.declared.declarations.Kind.{Kind}
use Rattle.f3_program.specs.declared.expression.Argument as a
use Rattle.f3_program.specs.declared.expression.Designator as d
use Rattle.f3_program.specs.declared.expression.Expression as e
use Rattle.f3_program.specs.declared.statement.Request.{Request}
use Rattle.f3_program.specs.declared.statement.Selector.{Selector}
use Rattle.f3_program.specs.declared.statement.Selector.TheVariants as selector
use Rattle.f3_program.specs.declared.statement.Statement as s
use Rattle.f3_program.specs.declared.program.Dummy.{Dummy}
use Rattle.f3_program.specs.declared.program.Program.{Program}
use Rattle.f3_meaning_whole.specs.Formed.{some, Given, given_all, value_kind, arguments, referenced, selected, or_none, is_formed, are_formed}
use Rattle.f3_meaning_whole.specs.Permitted.{Each, Lendable, Scope, unknown, lendable, names_in, dummies_in, MayPassAll, MayDefine, MayStat, MayRequest, MayExec, MayBlock, names_by, naming}
use Rattle.f3_lawful_laws.proofs.Facts.{no, left, right}
use Rattle.f3_pure_laws.specs.Pure.{definable, definable_in, first_name, is_own, Owns, own_selectors, OwnsStat, OwnsAllPassed, OwnsRequest}
use Rattle.f3_purity_laws.specs.Barring.{barring}
use Rattle.f3_purity_laws.specs.Owning.{ChangesOwn, AllChangeOwn, may_defines, LawfulChangesOwn}
use Rattle.f3_purity_laws.proofs.Sensible.{found_some, some_there, given_parts, IsThere, own_place, of_there, AreThere, requests_there, bounded_there, IsStatThere, stat_there}
use Rattle.f3_purity_laws.proofs.Sensible.{count_there, argument_there, arguments_behind, selector_there}

dummy_in : (ds : List Dummy) (i : ℕ) → slice_index_or (map definable ds) i false ≡ (slice_index_or (map lendable ds) i unknown).may_define
dummy_in [] i = refl
dummy_in (x ∷ xs) zero = refl
dummy_in (x ∷ xs) (suc i) = dummy_in xs i

pub more_names : (xs ys : List Lendable) → may_defines (xs ++ ys) ≡ may_defines xs ++ may_defines ys
more_names [] ys = refl
more_names (x ∷ xs) ys = ap (λ l. x.may_define ∷ l) (more_names xs ys)

needed : (b c : Bool) → (not b || c) ≡ true → b ≡ true → c ≡ true
needed true c h e = h
needed false c h e = no (sym e)

module _ (p : Program) (pure : ℕ → Bool) where
  pub owned : (scope : Scope) (names : List Kind) (x : d.Designator) → IsThere p scope names x → MayDefine (barring scope.unit p) scope x → Owns (may_defines scope.names) x
  owned scope names x h m = sym (own_place p scope names x h) ∙ m.1

  pub stat_owned : (scope : Scope) (names : List Kind) (o : Option d.Designator) → IsStatThere p scope names o → MayStat (barring scope.unit p) scope o
      → OwnsStat (may_defines scope.names) o
  stat_owned scope names None h m = tt
  stat_owned scope names (Some x) h m = owned scope names x h m

  pub requests_owned : (scope : Scope) (names : List Kind) (rs : List Request) → AreThere p scope names rs → Each (MayRequest (barring scope.unit p) scope) rs
      → Each (OwnsRequest p pure (may_defines scope.names)) rs
  requests_owned scope names [] h m = tt
  requests_owned scope names (r ∷ rs) h m = (owned scope names r.object h.0 m.0.0.0, requests_owned scope names rs h.1 m.1)

  all_passed : (scope : Scope) (names : List Kind) (f : ℕ) {k : _} (xs : e.Row_of-Argument k) (gs : List Given) → given_all (arguments p scope.variables names xs) ≡ Some gs
      → MayPassAll (barring scope.unit p) scope (names_in p f) xs → OwnsAllPassed p pure (may_defines scope.names) (definable_in p f) xs
  all_passed scope names f e.end_of-Argument gs h m = tt
  all_passed scope names f (e.more_of-Argument (a.Value' k q x) rest) gs h m =
      let r = arguments_behind p scope names (a.Value' k q x) rest gs h in (tt, all_passed scope names f rest r.0 r.1 m.1)
  all_passed scope names f (e.more_of-Argument (a.Variable' k q x) rest) gs h m =
      let r = arguments_behind p scope names (a.Variable' k q x) rest gs h in (
        λ i. sym (own_place p scope names x (argument_there p scope names k q x rest gs h))
            ∙ needed _ _ m.0.0 (sym (dummy_in (dummies_in (slice_get p.procedures.items f)) k) ∙ i),
        all_passed scope names f rest r.0 r.1 m.1,
      )

  -- the arguments of a CALL that makes sense
  pub passed_owned : (scope : Scope) (names : List Kind) (f : ℕ) (q : Vec (Unit {0}) Global) (xs : e.Row_of-Argument (list_count this q.items none_left))
      → some (value_kind p scope.variables names (e.Call' f q xs)) (λ j. true) ≡ true → MayPassAll (barring scope.unit p) scope (names_in p f) xs
      → OwnsAllPassed p pure (may_defines scope.names) (definable_in p f) xs
  passed_owned scope names f q xs h m =
      let (j, there) = some_there (value_kind p scope.variables names (e.Call' f q xs)) (λ j. true) h in
      let (gs, given) = found_some (given_all (arguments p scope.variables names xs)) (referenced p scope.variables names f) j there in
      all_passed scope names f xs gs given m

  pub selectors_owned : (scope : Scope) (names : List Kind) (xs : List Selector) (ks : List Kind) → given_all (map (selected p scope.variables names) xs) ≡ Some ks
      → may_defines (names_by (barring scope.unit p) scope xs) ≡ own_selectors (may_defines scope.names) xs
  selectors_owned scope names [] ks h = refl
  selectors_owned scope names (selector.Variable x ∷ xs) ks h =
      let (k, rest, here, there) = given_parts (selected p scope.variables names (selector.Variable x)) (map (selected p scope.variables names) xs) ks h in
      ap (λ b. b ∷ may_defines (names_by (barring scope.unit p) scope xs)) (own_place p scope names x (selector_there p scope names x k here))
      ∙ ap (λ l. is_own (may_defines scope.names) (first_name x) ∷ l) (selectors_owned scope names xs rest there)
  selectors_owned scope names (selector.Value j x ∷ xs) ks h =
      let (k, rest, here, there) = given_parts (selected p scope.variables names (selector.Value j x)) (map (selected p scope.variables names) xs) ks h in
      ap (λ l. false ∷ l) (selectors_owned scope names xs rest there)

  pub associate_owned : (scope : Scope) (names : List Kind) (xs : List Selector)
      → some (given_all (map (selected p scope.variables names) xs)) (λ ks. true) ≡ true
      → may_defines (scope.names ++ names_by (barring scope.unit p) scope xs) ≡ may_defines scope.names ++ own_selectors (may_defines scope.names) xs
  associate_owned scope names xs h =
      let (ks, there) = some_there (given_all (map (selected p scope.variables names) xs)) (λ ks. true) h in
      more_names scope.names (names_by (barring scope.unit p) scope xs) ∙ ap (λ l. may_defines scope.names ++ l) (selectors_owned scope names xs ks there)

  mutual
    statement_owned : (x : s.Statement) (scope : Scope) (names : List Kind) → is_formed p scope.variables x names ≡ true → MayExec (barring scope.unit p) x scope
        → ChangesOwn p pure x (may_defines scope.names)
    statement_owned (s.At' place b q x) scope names h m = statement_owned x scope names h m
    statement_owned (s.Block' k xs) scope names h m = block_owned xs scope names h m
    statement_owned (s.Assign x k y) scope names h m = owned scope names x (of_there p scope names k x (left _ _ h)) m.0.0
    statement_owned (s.Call (e.Call' f k xs)) scope names h m = passed_owned scope names f k xs h m.1
    statement_owned (s.Call (e.Literal c)) scope names h m = tt
    statement_owned (s.Call (e.Variable' q x)) scope names h m = tt
    statement_owned (s.Call (e.Group' q x)) scope names h m = tt
    statement_owned (s.Call (e.Unary' o t q x)) scope names h m = tt
    statement_owned (s.Call (e.Binary' o t q x r y)) scope names h m = tt
    statement_owned (s.Call (e.Array' k xs)) scope names h m = tt
    statement_owned (s.Call (e.Structure' t k xs)) scope names h m = tt
    statement_owned (s.Call (e.Allocated' q x)) scope names h m = tt
    statement_owned (s.Call (e.Size' q x)) scope names h m = tt
    statement_owned (s.Call (e.Bound' o q x r y)) scope names h m = tt
    statement_owned (s.MoveAlloc k b x y) scope names h m =
        let g = right k.is_allocatable _ h in
        (owned scope names x (of_there p scope names k x (left _ _ g)) m.0.0, owned scope names y (of_there p scope names k y (right _ _ g)) m.1.0)
    statement_owned (s.Allocate rs stat) scope names h m =
        (requests_owned scope names rs.items (bounded_there p scope names rs.items (left _ _ h)) m.0, stat_owned scope names stat (stat_there p scope names stat (right _ _ h)) m.1)
    statement_owned (s.Deallocate rs stat) scope names h m =
        (requests_owned scope names rs.items (requests_there p scope names rs.items (left _ _ h)) m.0, stat_owned scope names stat (stat_there p scope names stat (right _ _ h)) m.1)
    statement_owned (s.Print xs) scope names h m = tt
    statement_owned (s.Stop code) scope names h m = tt
    statement_owned s.Return scope names h m = tt
    statement_owned s.Cycle scope names h m = tt
    statement_owned s.Exit scope names h m = tt
    statement_owned (s.If' x q y r z) scope names h m =
        let g = right _ _ h in (statement_owned y scope names (left _ _ g) m.1, statement_owned z scope names (right _ _ g) m.2)
    statement_owned (s.Select' x q y) scope names h m = statement_owned y scope names (right _ _ h) m.1
    statement_owned (s.Case' rs q x r y) scope names h m = (statement_owned x scope names (left _ _ h) m.0, statement_owned y scope names (right _ _ h) m.1)
    statement_owned (s.While' x q y) scope names h m = statement_owned y scope names (right _ _ h) m.1
    statement_owned (s.Count' x k from to step q y) scope names h m =
        let g = count_there p scope.variables names x k from to step q y h in
        (owned scope names x (of_there p scope names k x g.0) m.0, statement_owned y scope names g.1 m.4)
    statement_owned (s.Associate' xs q y) scope names h m =
        subst (ChangesOwn p pure y) (associate_owned scope names xs.items (left _ _ h))
        (statement_owned y (naming (names_by (barring scope.unit p) scope xs.items) scope) (names ++ or_none (given_all (map (selected p scope.variables names) xs.items))) (right _ _ h) m.1)

    block_owned : {k : _} (xs : s.Row_of-Statement k) (scope : Scope) (names : List Kind) → are_formed p scope.variables xs names ≡ true
        → MayBlock (barring scope.unit p) xs scope → AllChangeOwn p pure xs (may_defines scope.names)
    block_owned s.end_of-Statement scope names h m = tt
    block_owned (s.more_of-Statement x rest) scope names h m = (statement_owned x scope names (left _ _ h) m.0, block_owned rest scope names (right _ _ h) m.1)

pub lawful_changes_own : LawfulChangesOwn
lawful_changes_own p pure scope x names h m = statement_owned p pure x scope names h m
