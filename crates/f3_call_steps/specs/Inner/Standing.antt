-- Where arguments stand among those of a call.
use Rattle.std.specs.Prelude.{⊤, ◌≡◌, ℕ, suc, ◌<◌, nat_eq, if◌then◌else◌, List, [], ◌∷◌, length, Option, None, Some, slice_get}
use Rattle.std.specs.List.{slice_index_or}
use Rattle.f3_program.specs.declared.declarations.Base.{Base}
use Rattle.f3_meaning_whole.specs.Value.{Unallocated}
use Rattle.f3_meaning_whole.specs.Store.{Local}
use Rattle.f3_meaning_whole.specs.Reference.{Define, Read, Reference}
use Rattle.f3_meaning_whole.specs.Act.{Passed, Given, Lent, to_root}
use Rattle.f3_call_steps.specs.declared.arguments.Stand.{Stand}

-- where the first argument of a number stands, if there is one: arguments from a position on, whose values stand from a slot on
abbrev pub stand_of : ℕ → List Passed → ℕ → ℕ → Option Stand
stand_of k [] position slot = None
stand_of k (Given i v ∷ ps) position slot =
    if nat_eq i k then Some (record { position = position; slot = slot }) else stand_of k ps (suc position) (suc slot)
stand_of k (Lent i r ∷ ps) position slot =
    if nat_eq i k then Some (record { position = position; slot = slot }) else stand_of k ps (suc position) slot

-- the first one of two, if there is one
abbrev pub first_of : Option Stand → Option Stand → Option Stand
first_of None other = other
first_of (Some stand) other = Some stand

-- the entry of a number is filled, unless it was
abbrev pub Noted : ℕ → Stand → List (Option Stand) → List (Option Stand) → Type 0
Noted number stand old new = (k : ℕ) → k < length old → slice_index_or new k None
    ≡ (if nat_eq number k then first_of (slice_index_or old k None) (Some stand) else slice_index_or old k None)

-- a table has the first argument of each number that it has room for
abbrev pub AreFirsts : List (Option Stand) → List Passed → Type 0
AreFirsts table ps = (k : ℕ) → k < length table → slice_index_or table k None ≡ stand_of k ps 0 0

-- of so many arguments one stands there, if there is one
abbrev pub StandsIn : Option Stand → ℕ → Type 0
StandsIn None n = ⊤
StandsIn (Some stand) n = stand.position < n

-- an argument for a dummy of a type, where a value that is held stands at a slot of a level
abbrev pub given : Option Passed → Base → ℕ → ℕ → ℕ → Reference
given None of level slot unit = to_root (Local (suc level) 0) of Define unit Unallocated
given (Some (Given i v)) of level slot unit = to_root (Local level slot) of Read unit v
given (Some (Lent i r)) of level slot unit = r

-- the argument that stands there for a dummy of a type, if there is one
abbrev pub argument_of : Option Stand → Base → List Passed → ℕ → ℕ → Reference
argument_of None of ps level unit = to_root (Local (suc level) 0) of Define unit Unallocated
argument_of (Some stand) of ps level unit = given (slice_get ps stand.position) of level stand.slot unit
