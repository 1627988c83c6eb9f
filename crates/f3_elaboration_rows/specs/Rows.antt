-- What the run of the elaborated program of a tree shows.
use Rattle.std.specs.Prelude.{◌≡◌, ℕ, List}
use Rattle.std.specs.declared.alloc.Global.{Global}
use Rattle.f3_lookups.specs.declared.lookup.Lookup.{Lookup}
use Rattle.f3_tree.specs.Tree.{Tree}
use Rattle.f3_meaning_whole.specs.Run.{run_of}
use Rattle.f3_meaning_whole.specs.Formed.{IsWellFormed}
use Rattle.f3_meaning_whole.specs.Permitted.{IsLawful}
use Rattle.f3_meaning_rows.specs.Shown.{Verdict, shown, lines, granted}
use Rattle.f3_elaboration.specs.Program.{elaborated}
use Rattle.f3_elaboration_rows.specs.Built.{built}

-- With what the names of a tree mean in its scopes and an order of its units: the run of its elaborated program prints these lines and
-- ends so, and the elaborated program makes sense.
pub record Shows (h : Global) (t : Tree) (look : ℕ → ℕ → Lookup) (order : List ℕ) (ls : List (List ℕ)) (end : Verdict) : Type 0 where
  pub prints : shown (run_of (built h (elaborated t look order)) 2000 granted) ≡ record { bytes = lines ls; verdict = end }
  pub is_formed : IsWellFormed (built h (elaborated t look order))

-- it makes no changes but permitted ones
abbrev pub Lawful : Global → Tree → (look : ℕ → ℕ → Lookup) → (order : List ℕ) → Type 0
Lawful h t look order = IsLawful (built h (elaborated t look order))
