-- Words of variables that stand one after another.
use Rattle.std.specs.Prelude.{◌≡◌, ◌≤◌, ◌^◌, ℕ, List, map, Option, MatchOption}
use Rattle.f3_program.specs.declared.declarations.Declared.{Declared}
use Rattle.f3_program.specs.declared.program.Program.{Program}
use Rattle.f3_program.specs.declared.program.Static.{Static}

-- so many words, or none where they are 2 to the 64 or more
abbrev pub AreWords : Option ℕ → ℕ → Type 0
AreWords r n = MatchOption r (2 ^ 64 ≤ n) (λ m. m ≡ n)

-- what is declared of the variables that live for the whole run
abbrev pub declared_statics : Program → List Declared
declared_statics p = map (λ (x : Static). x.declared) p.statics.items
