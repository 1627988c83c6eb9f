-- Work on an object: what the language does beside what a statement says.
use Rattle.std.specs.Prelude.{⊤, ℕ, nat_eq, if◌then◌else◌, List, [], ◌∷◌, length}
use Rattle.f3_meaning_whole.specs.Value.{Value, Unallocated, is_allocated}
use Rattle.f3_meaning_whole.specs.Store.{get}
use Rattle.f3_meaning_whole.specs.Reference.{Language, One, Reference, paths, spans, is_pinned}
use Rattle.f3_meaning_whole.specs.declared.run_error.RunError.TheVariants.{InUse}
use Rattle.f3_meaning_whole.specs.Ran.{Ran, ◌>>=◌, gives, fails, looks, each}
use Rattle.f3_meaning_whole.specs.Act.{Setting, Here, Lent, Calls, set, clear, lending, component, moved, contents}

-- Work on one object, part by part (ISO/IEC 1539-1:2004, 4.5.5.1, 6.3.3 and 12.4.1.7, each in its own order).
pub data Work : Type 0 where
  -- nothing
  Rest : Work
  -- one after the other
  And : Work → Work → Work
  -- work while the object is lent (own rule)
  Lending : Work → Work
  -- the first for an object of a rank, the second for others
  Of_rank : (rank : ℕ) → Work → Work → Work
  -- the final subroutine of a number is called with the object (4.5.5)
  Final : (procedure : ℕ) → Work
  -- the routine of a type, by its number, on an object of it
  Routine : (type : ℕ) → Work
  -- work on a component (6.1.2)
  Of_component : (component : ℕ) → Work → Work
  -- work on each element of an array, in array element order (6.2.2.2); a scalar is its only one
  Of_elements : Work → Work
  -- nothing, unless the object is allocated
  If_allocated : Work → Work
  -- the object is deallocated: an error where it is in use, then work on what it holds, then it is unallocated (6.3.3)
  Of_contents : Work → Work
  -- what is allocated beneath is freed (own rule for 4.5.5.1)
  Clear : Work
  -- the object takes a value, each element of an array the same (12.4.1.7, own rule)
  Set : Value → Work
  -- what a held value has allocated is freed, without final subroutines (own rule): nothing of this shows in the store, since
  -- the value ends with its level
  Discard : Work

-- what the routine of a type, by its number, does to an object of it (4.5.5.1)
abbrev pub Routines : Type 0
Routines = ℕ → Reference → Here → Ran ⊤

module _ (g : Setting) (calls : Calls) where
  -- the work on an object, from there
  abbrev pub work : Routines → Work → Reference → Here → Ran ⊤
  work routines Rest r here = gives tt
  work routines (And x y) r here = do
    done ← work routines x r here
    work routines y r here
  work routines (Lending x) r here = work routines x r (lending (r ∷ []) here)
  work routines (Of_rank rank x y) r here = if nat_eq rank (length (spans r.reach)) then work routines x r here else work routines y r here
  work routines (Final f) r here = do
    v ← calls here f (Lent 0 r ∷ [])
    gives tt
  work routines (Routine t) r here = routines t r here
  work routines (Of_component k x) r here = do
    q ← component g k Language r
    work routines x q here
  work routines (Of_elements x) r here = each (paths r) (λ p. work routines x (moved r p One) here)
  work routines (If_allocated x) r here = do
    allocated ← looks (λ store. is_allocated (get store r.path))
    if allocated then work routines x r here else gives tt
  work routines (Of_contents x) r here = if is_pinned r.path here.lent then fails InUse here.place else (do
    q ← contents r here
    done ← work routines x q here
    set r Unallocated here)
  work routines Clear r here = clear r here
  work routines (Set v) r here = set r v here
  work routines Discard r here = gives tt

  -- The routines of types stand from the newest type to the oldest and are numbered from the oldest; a routine calls older
  -- ones (no type contains itself: 4.5.3).
  abbrev pub routines_of : List Work → Routines
  routines_of [] t r here = gives tt
  routines_of (x ∷ xs) t r here = if nat_eq t (length xs) then work (routines_of xs) x r here else routines_of xs t r here

  -- work on each of a list of objects, in order (own rule)
  abbrev pub work_each : Routines → List Work → List Reference → Here → Ran ⊤
  work_each routines (x ∷ xs) (r ∷ rs) here = do
    done ← work routines x r here
    work_each routines xs rs here
  work_each routines xs rs here = gives tt
