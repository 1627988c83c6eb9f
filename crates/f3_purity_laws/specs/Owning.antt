-- Statements that change what their procedure owns alone.
use Rattle.std.specs.Prelude.{⊤, ◌≡◌, ℕ, Bool, true, List, ◌++◌, map}
use Rattle.f3_program.specs.declared.declarations.Kind.{Kind}
use Rattle.f3_program.specs.declared.expression.Expression as e
use Rattle.f3_program.specs.declared.statement.Statement as s
use Rattle.f3_program.specs.declared.program.Program.{Program}
use Rattle.f3_meaning_whole.specs.Formed.{is_formed}
use Rattle.f3_meaning_whole.specs.Permitted.{Each, Lendable, Scope, MayExec}
use Rattle.f3_pure_laws.specs.Pure.{definable_in, Owns, own_selectors, OwnsStat, OwnsAllPassed, OwnsRequest}
use Rattle.f3_purity_laws.specs.Barring.{barring}

module _ (p : Program) (pure : ℕ → Bool) where
  abbrev pub OwnsCall : List Bool → e.Expression → Type 0
  OwnsCall names (e.Call' f k xs) = OwnsAllPassed p pure names (definable_in p f) xs
  OwnsCall names x = ⊤

  abbrev mutual
    pub ChangesOwn : s.Statement → List Bool → Type 0
    ChangesOwn (s.At' place b q x) names = ChangesOwn x names
    ChangesOwn (s.Block' k xs) names = AllChangeOwn xs names
    ChangesOwn (s.Assign x k y) names = Owns names x
    ChangesOwn (s.Call x) names = OwnsCall names x
    ChangesOwn (s.MoveAlloc k b x y) names = Owns names x × Owns names y
    ChangesOwn (s.Allocate rs stat) names = Each (OwnsRequest p pure names) rs.items × OwnsStat names stat
    ChangesOwn (s.Deallocate rs stat) names = Each (OwnsRequest p pure names) rs.items × OwnsStat names stat
    ChangesOwn (s.Print xs) names = ⊤
    ChangesOwn (s.Stop code) names = ⊤
    ChangesOwn s.Return names = ⊤
    ChangesOwn s.Cycle names = ⊤
    ChangesOwn s.Exit names = ⊤
    ChangesOwn (s.If' x q y r z) names = ChangesOwn y names × ChangesOwn z names
    ChangesOwn (s.Select' x q y) names = ChangesOwn y names
    ChangesOwn (s.Case' rs q x r y) names = ChangesOwn x names × ChangesOwn y names
    ChangesOwn (s.While' x q y) names = ChangesOwn y names
    ChangesOwn (s.Count' x k from to step q y) names = Owns names x × ChangesOwn y names
    ChangesOwn (s.Associate' xs q y) names = ChangesOwn y (names ++ own_selectors names xs.items)

    pub AllChangeOwn : {m : _} → s.Row_of-Statement m → List Bool → Type 0
    AllChangeOwn s.end_of-Statement names = ⊤
    AllChangeOwn (s.more_of-Statement x rest) names = ChangesOwn x names × AllChangeOwn rest names

abbrev pub may_defines : List Lendable → List Bool
may_defines ls = map (λ (l : Lendable). l.may_define) ls

-- A statement that makes sense, and defines only what may be defined where no variable that lives for the whole run may be, changes what
-- its procedure owns alone.
abbrev pub LawfulChangesOwn : Type 0
LawfulChangesOwn = (p : Program) (pure : ℕ → Bool) (scope : Scope) (x : s.Statement) (names : List Kind)
    → is_formed p scope.variables x names ≡ true → MayExec (barring scope.unit p) x scope → ChangesOwn p pure x (may_defines scope.names)
