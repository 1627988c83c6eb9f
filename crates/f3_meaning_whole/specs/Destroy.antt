-- Destroying and deallocating.
use Rattle.std.specs.Prelude.{⊤, ℕ, suc, Bool, true, false, not, ◌||◌, nat_eq, if◌then◌else◌, List, [], ◌∷◌, length, Option, None, Some, slice_get}
use Rattle.f3_program.specs.declared.declarations.Derived.{Derived}
use Rattle.f3_program.specs.declared.declarations.Kind.{Kind}
use Rattle.f3_meaning_whole.specs.Value.{Unallocated, is_allocated}
use Rattle.f3_meaning_whole.specs.Store.{get}
use Rattle.f3_meaning_whole.specs.Reference.{Language, One, Reference, paths, spans, is_pinned}
use Rattle.f3_meaning_whole.specs.declared.run_error.RunError.TheVariants.{InUse}
use Rattle.f3_meaning_whole.specs.Ran.{Ran, ◌>>=◌, gives, fails, looks, each}
use Rattle.f3_meaning_whole.specs.Shape.{Shape, Whole, Logical, Record, Parts, nothing, and, shape_in, final_for}
use Rattle.f3_meaning_whole.specs.Act.{Setting, Here, Lent, Calls, set, clear, lending, component, moved, contents}

-- Deallocating (ISO/IEC 1539-1:2004, 6.3.3; own order): an error where it is in use; then what it holds is destroyed, and it
-- is unallocated.
abbrev pub deallocate_by : (Reference → Here → Ran ⊤) → Reference → Here → Ran ⊤
deallocate_by destroy r here = if is_pinned r.path here.lent then fails InUse here.place
    else (contents r here >>= λ inner. destroy inner here >>= λ done. set r Unallocated here)

-- deallocating what is allocated
abbrev pub release_by : (Reference → Here → Ran ⊤) → Reference → Here → Ran ⊤
release_by destroy r here = looks (λ store. is_allocated (get store r.path)) >>= λ allocated. if allocated then deallocate_by destroy r here else gives tt

-- an allocatable object is deallocated, another destroyed
abbrev pub finish_by : (Reference → Here → Ran ⊤) → Kind → Reference → Here → Ran ⊤
finish_by destroy k r here = if k.is_allocatable then release_by destroy r here else destroy r here

abbrev pub final_of : Option Derived → ℕ → Option ℕ
final_of None rank = None
final_of (Some t) rank = final_for rank t.finals.items

abbrev pub has_finals : Option Derived → Bool
has_finals None = false
has_finals (Some t) = not (nat_eq (length t.finals.items) 0)

-- Whether an object of a type is destroyed where it ends: its type has a final subroutine, or a component that is allocatable or is
-- destroyed itself (4.5.5.1, 6.3.3.1). Of others nothing is finalized and nothing deallocated.
abbrev mutual
  pub is_destroyed : List Derived → Shape → Bool
  is_destroyed types Whole = false
  is_destroyed types Logical = false
  is_destroyed types (Record t parts) = has_finals (slice_get types t) || are_destroyed types parts

  pub are_destroyed : List Derived → Parts → Bool
  are_destroyed types nothing = false
  are_destroyed types (and c s rest) = c.declared.kind.is_allocatable || is_destroyed types s || are_destroyed types rest

module _ (g : Setting) (calls : Calls) where
  abbrev pub finalize : Option ℕ → Reference → Here → Ran ⊤
  finalize None r here = gives tt
  finalize (Some f) r here = calls here f (Lent 0 r ∷ []) >>= λ v. gives tt

  -- Destroying (4.5.5.1), in the own order, with the object lent throughout: the final subroutine for its rank; then
  -- element by element, component by component; at the end what has been allocated again beneath is freed. Nothing is done to an
  -- object that is not destroyed.
  abbrev mutual
    pub destroy : Shape → Reference → Here → Ran ⊤
    destroy Whole r here = gives tt
    destroy Logical r here = gives tt
    destroy (Record t parts) r here = if is_destroyed g.program.types.items (Record t parts) then (do
      done ← finalize (final_of (slice_get g.program.types.items t) (length (spans r.reach))) r (lending (r ∷ []) here)
      done ← each (paths r) (λ p. destroy_parts parts t 0 (moved r p One) (lending (r ∷ []) here))
      clear r here) else gives tt

    pub destroy_parts : Parts → ℕ → ℕ → Reference → Here → Ran ⊤
    destroy_parts nothing t k r here = gives tt
    destroy_parts (and c s rest) t k r here = do
      q ← component g k Language r
      done ← finish_by (destroy s) c.declared.kind q here
      destroy_parts rest t (suc k) r here

  -- an object of this kind is deallocated or destroyed
  abbrev pub finish : Kind → Reference → Here → Ran ⊤
  finish k r here = finish_by (destroy (shape_in g.shapes k.of)) k r here
