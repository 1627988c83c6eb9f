-- What it is to read an object.
use Rattle.std.specs.Prelude.{⊤, ◌≡◌, ◌≢◌, ◌⊎◌, ℕ, ℤ, true, false, List, [], ◌∷◌, None, Result, Ok, Err}
use Rattle.std.specs.List.{All}
use Rattle.std.specs.FinMap.{get as find}
use Rattle.f3_program.specs.declared.declarations.Base.{Base}
use Rattle.f3_program.specs.declared.program.Program.{Program}
use Rattle.f3_live_blocks.specs.Blocks.{Live, with_taken, with_words}
use Rattle.f3_meaning_whole.specs.Reference.{Reference, held_at}
use Rattle.f3_meaning_whole.specs.Act.{needs_storage}
use Rattle.f3_meaning_whole.specs.declared.run_error.RunError.TheVariants.{HeapHasNoRoom}
use Rattle.f3_code.specs.Account.{words}
use Rattle.f3_rooms.specs.Flat.{is_flat}
use Rattle.f3_rooms.specs.Rooms.{Rooms, store_of}
use Rattle.f3_rooms.specs.Sound.{IsSound}
use Rattle.f3_rooms.specs.Places.{is_scalar_shape}
use Rattle.f3_meaning_whole.specs.Shape.{shape_in}
use Rattle.f3_room_places.specs.Places.{shapes}
use Rattle.f3_word_cells.specs.declared.cell.Area.{Area}
use Rattle.f3_room_places.specs.declared.types.Types.{Types}
use Rattle.f3_word_cells.specs.declared.cell.Datum.{Datum}
use Rattle.f3_word_cells.specs.declared.cell.Datum.TheVariants as datum
use Rattle.f3_word_cells.specs.declared.cell.Object.{Object}
use Rattle.f3_word_cells.specs.declared.state.Stop.{Stop}
use Rattle.f3_word_cells.specs.declared.state.Stop.TheVariants as stop
use Rattle.f3_word_cells.specs.Areas.{types_of, IsDatum, IsObject}
use Rattle.f3_word_cells.specs.States.{datum_blocks}
use Rattle.f3_word_cells.specs.Wants.{asked}

-- an object of a program with such types that stands in sound rooms, where no component is allocatable
pub record IsThere (p : Program) (types : Types) (m : Live) (x : Rooms) (o : Object) (r : Reference) : Type 0 where
  pub derived : types.derived.now ≡ p.types.items
  pub flat : All (λ s. is_flat s ≡ true) (types_of p)
  pub sound : IsSound (types_of p) m x
  pub is : IsObject p x o r

-- an array, or an object of derived type
abbrev pub IsLarge : Types → Area → Type 0
IsLarge types a = ((a.elements).dims.items ≢ []) ⊎ (is_scalar_shape (shape_in (shapes types) a.of) ≡ false)

-- a block more is live, with some words
pub record IsNew (m n : Live) (b : ℕ) : Type 0 where
  pub fresh : find m b ≡ None
  pub room : ℕ
  pub written : List ℤ
  pub is : n ≡ with_words (with_taken m b room) b written

-- just these blocks are new: one, or none
abbrev pub Gains : Live → Live → List ℕ → Type 0
Gains m n [] = n ≡ m
Gains m n (b ∷ []) = IsNew m n b
Gains m n (b ∷ c ∷ bs) = ⊥

-- a value in a block is of this type
abbrev pub IsOf : Base → Datum → Type 0
IsOf of (datum.Scalar c) = ⊤
IsOf of (datum.Block a) = a.of ≡ of

-- its value was read, where a value of array or derived type is in a new block
pub record IsRead (p : Program) (m n : Live) (x : Rooms) (r : Reference) (d : Datum) : Type 0 where
  pub value : IsDatum p n d (held_at (store_of (types_of p) m x) r.path r.reach)
  pub gains : Gains m n (datum_blocks d)
  pub typed : IsOf r.of d

-- or a heap has no room for just its words, or the host no memory
abbrev pub Reads : (Full Spent : ℕ → Type 0) → Program → Live → Live → Rooms → Reference → Result Datum Stop → Type 0
Reads Full Spent p m n x r (Ok d) = IsRead p m n x r d
Reads Full Spent p m n x r (Err (stop.Failed HeapHasNoRoom)) =
    (needs_storage (held_at (store_of (types_of p) m x) r.path r.reach) ≡ true) × Full (asked (words (held_at (store_of (types_of p) m x) r.path r.reach)))
Reads Full Spent p m n x r (Err stop.Memory) = Spent (asked (words (held_at (store_of (types_of p) m x) r.path r.reach)))
Reads Full Spent p m n x r (Err e) = ⊥
