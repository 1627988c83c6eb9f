-- Stores in memory, as the meaning has them.
use Rattle.std.specs.Prelude.{◌≡◌, ℕ, Bool, true, false, List, [], ◌∷◌, map, Option, MatchOption, slice_index_or, slice_set}
use denote.Ref.{Bor}
use Rattle.std.specs.declared.alloc.Global.{Global}
use Rattle.std.specs.Prelude.{Vec}
use Rattle.f3_meaning_whole.specs.Value as m'
use Rattle.f3_meaning_whole.specs.Store as m
use Rattle.f3_data.specs.declared.store.Root.{Root}
use Rattle.f3_data.specs.declared.store.Root.TheVariants as root
use Rattle.f3_data.specs.declared.store.Step.{Step}
use Rattle.f3_data.specs.declared.store.Step.TheVariants as step
use Rattle.f3_data.specs.declared.store.Path.{Path}
use Rattle.f3_data.specs.declared.store.Store.{Store}
use Rattle.f3_data.specs.declared.value.Value.{Value}
use Rattle.f3_data.specs.Values.{value_of, values_of}

abbrev pub root_of : Root → m.Root
root_of (root.Static i) = m.Static i
root_of (root.Local level slot) = m.Local level slot

abbrev pub step_of : Step → m.Step
step_of (step.Component k) = m.Component k
step_of (step.Element k) = m.Element k
step_of step.Contents = m.Contents

abbrev pub steps_of : List Step → List m.Step
steps_of ss = map step_of ss

abbrev pub path_of : Path → m.Path
path_of p = record { root = root_of p.root; steps = steps_of p.steps.items }

-- from an array, or from an allocatable that holds one, to an element by its number
abbrev pub element_steps : Bool → ℕ → List m.Step
element_steps false k = m.Element k ∷ []
element_steps true k = m.Contents ∷ m.Element k ∷ []

abbrev pub levels_of : List (Vec Value Global) → List (List m'.Value)
levels_of vs = map (λ (v : Vec Value Global). values_of v.items) vs

-- what lives for the whole run, and on each level, as a store
abbrev pub store_with : List Value → List (Vec Value Global) → m.Store
store_with statics levels = record { statics = values_of statics; levels = levels_of levels }

abbrev pub store_of : Store → m.Store
store_of s = record { statics = values_of s.statics.items; levels = levels_of s.levels.items }

-- what was found: a value, and nothing only where the meaning has an unallocated one
abbrev pub Found : m'.Value → Option (Bor Value) → Type 0
Found x o = MatchOption o (x ≡ m'.Unallocated) (λ v. value_of v.now ≡ x)

-- the same of what steps lead to: a value that they go on from
abbrev pub LeadsTo : (List m.Step → m'.Value) → Option (Bor Value) → Type 0
LeadsTo f o = (way : List m.Step) → MatchOption o (f way ≡ m'.Unallocated) (λ v. m.part (value_of v.now) way ≡ f way)

-- another value in a part of an object of a level
abbrev pub replaced : List m'.Value → ℕ → List m.Step → m'.Value → List m'.Value
replaced vs i way x = slice_set vs i (m.with_part (slice_index_or vs i m'.Unallocated) way x)

abbrev pub replaced_in_level : List (List m'.Value) → ℕ → ℕ → List m.Step → m'.Value → List (List m'.Value)
replaced_in_level levels level i way x = slice_set levels level (replaced (slice_index_or levels level []) i way x)
