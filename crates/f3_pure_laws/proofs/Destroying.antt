-- What is destroyed at free roots, by final subroutines that are pure.
use Rattle.std.proofs.Common.{◌≡◌, ℕ, suc, ◌≤◌, Bool, true, false, List, [], ◌∷◌, Option, None, Some, if◌then◌else◌, length}
use Rattle.std.specs.Prelude.{⊤, nat_eq, slice_get}
use Rattle.f3_program.specs.declared.declarations.Derived.{Derived}
use Rattle.f3_program.specs.declared.declarations.Final.{Final}
use Rattle.f3_program.specs.declared.declarations.Kind.{Kind}
use Rattle.f3_program.specs.declared.program.Program.{Program}
use Rattle.f3_meaning_whole.specs.Value.{Unallocated}
use Rattle.f3_meaning_whole.specs.Store.{Root}
use Rattle.f3_meaning_whole.specs.Reference.{Language, One, Reference, paths, spans, is_pinned}
use Rattle.f3_meaning_whole.specs.Ran.{Ran}
use Rattle.f3_meaning_whole.specs.Shape.{Shape, Whole, Logical, Record, Parts, nothing, and, shape_in, shapes_of, final_for}
use Rattle.f3_meaning_whole.specs.Act.{Here, Lent, Calls, lending, moved}
use Rattle.f3_meaning_whole.specs.Destroy.{final_of, is_destroyed, deallocate_by, release_by, finish_by, finalize, destroy, destroy_parts, finish}
use Rattle.f3_meaning_whole.specs.Run.{setting_of}
use Rattle.f3_meaning_whole.specs.Permitted.{Each}
use Rattle.f3_pure_laws.specs.Pure.{finals_of, HasPureFinals, HavePureFinals, MayEnd}
use Rattle.f3_pure_laws.specs.Laws.{IsFree}
use Rattle.f3_pure_laws.proofs.Running.{Quiet, bind_runs, gives_quiet, fails_runs, looks_quiet, if_runs, each_runs, set_runs, clear_runs}
use Rattle.f3_pure_laws.proofs.Roots.{IsMine, component_runs, contents_runs}
use Rattle.f3_pure_laws.proofs.Values.{CallsRun}

-- the procedure, if there is one, is pure
abbrev IsPureOne : (pure : ℕ → Bool) → Option ℕ → Type 0
IsPureOne pure None = ⊤
IsPureOne pure (Some f) = pure f ≡ true

one_pure : (pure : ℕ → Bool) (rank : ℕ) (fs : List Final) → Each (λ (f : Final). pure f.procedure ≡ true) fs → IsPureOne pure (final_for rank fs)
one_pure pure rank [] h = tt
one_pure pure rank (f ∷ fs) h = by (nat_eq f.rank rank) (one_pure pure rank fs h.1)
  where
    by : (b : Bool) → IsPureOne pure (final_for rank fs) → IsPureOne pure (if b then Some f.procedure else final_for rank fs)
    by true rest = h.0
    by false rest = rest

final_pure : (pure : ℕ → Bool) (rank : ℕ) (o : Option Derived) → Each (λ (f : Final). pure f.procedure ≡ true) (finals_of o) → IsPureOne pure (final_of o rank)
final_pure pure rank None h = tt
final_pure pure rank (Some t) h = one_pure pure rank t.finals.items h

module _ (p : Program) (pure : ℕ → Bool) (level : ℕ) (free : Root → Bool) (calls : Calls) (c : CallsRun pure p level free calls) (a : ℕ) (le : level ≤ a) where
  finalize_quiet : (o : Option ℕ) (r : Reference) (here : Here) → IsMine free r → IsPureOne pure o → Quiet level free a (finalize (setting_of p) calls o r here)
  finalize_quiet None r here h t = gives_quiet level free tt
  finalize_quiet (Some f) r here h t = bind_runs level free (c a le here f (Lent 0 r ∷ []) t (λ e. h, tt)) (λ v z. gives_quiet level free tt)

  -- destroying or the like, of what is at free roots
  abbrev Destroys : (Reference → Here → Ran ⊤) → Type 0
  Destroys act = (r : Reference) (here : Here) → IsMine free r → Quiet level free a (act r here)

  deallocate_quiet : (act : Reference → Here → Ran ⊤) → Destroys act → Destroys (deallocate_by act)
  deallocate_quiet act d r here h =
      if_runs level free (is_pinned r.path here.lent) (fails_runs level free _ here.place)
      (bind_runs level free (contents_runs free level r here) (λ q i. bind_runs level free (d q here (i h)) (λ done z. set_runs level free r Unallocated here h.1)))

  release_quiet : (act : Reference → Here → Ran ⊤) → Destroys act → Destroys (release_by act)
  release_quiet act d r here h = bind_runs level free (looks_quiet level free _) (λ x z. if_runs level free x (deallocate_quiet act d r here h) (gives_quiet level free tt))

  finish_by_quiet : (act : Reference → Here → Ran ⊤) → Destroys act → (k : Kind) → Destroys (finish_by act k)
  finish_by_quiet act d k r here h = if_runs level free k.is_allocatable (release_quiet act d r here h) (d r here h)

  mutual
    destroy_quiet : (s : Shape) → HasPureFinals p pure s → Destroys (destroy (setting_of p) calls s)
    destroy_quiet Whole m r here h = gives_quiet level free tt
    destroy_quiet Logical m r here h = gives_quiet level free tt
    destroy_quiet (Record t parts) m r here h =
        if_runs level free (is_destroyed p.types.items (Record t parts)) (bind_runs level free (finalize_quiet _ r (lending (r ∷ []) here) h (final_pure pure (length (spans r.reach)) (slice_get p.types.items t) m.0)) (λ done z.
        bind_runs level free (each_runs level free (paths r) _ (IsFree free) h.1 (λ q e. parts_quiet parts t 0 m.1 (moved r q One) (lending (r ∷ []) here) (e, (e, tt)))) (λ done z.
        clear_runs level free r here h.1))) (gives_quiet level free tt)

    parts_quiet : (xs : Parts) (t k : ℕ) → HavePureFinals p pure xs → Destroys (destroy_parts (setting_of p) calls xs t k)
    parts_quiet nothing t k m r here h = gives_quiet level free tt
    parts_quiet (and x s rest) t k m r here h =
        bind_runs level free (component_runs free level (setting_of p) k Language r) (λ q i.
        bind_runs level free (finish_by_quiet (destroy (setting_of p) calls s) (destroy_quiet s m.0) x.declared.kind q here (i h)) (λ done z.
        parts_quiet rest t (suc k) m.1 r here h))

  -- what is of a type that may be destroyed
  pub end_quiet : (k : Kind) → MayEnd p pure k.of → (r : Reference) (here : Here) → IsMine free r → Quiet level free a (destroy (setting_of p) calls (shape_in (shapes_of p.types.items) k.of) r here)
  end_quiet k m r here h = destroy_quiet (shape_in (shapes_of p.types.items) k.of) m r here h

  pub free_quiet : (k : Kind) → MayEnd p pure k.of → (r : Reference) (here : Here) → IsMine free r → Quiet level free a (deallocate_by (destroy (setting_of p) calls (shape_in (shapes_of p.types.items) k.of)) r here)
  free_quiet k m r here h = deallocate_quiet _ (destroy_quiet (shape_in (shapes_of p.types.items) k.of) m) r here h

  pub finish_quiet : (k : Kind) → MayEnd p pure k.of → (r : Reference) (here : Here) → IsMine free r → Quiet level free a (finish (setting_of p) calls k r here)
  finish_quiet k m r here h = finish_by_quiet _ (destroy_quiet (shape_in (shapes_of p.types.items) k.of) m) k r here h
