use Rattle.std.proofs.Common.{subst, List}
use Rattle.f3_program.specs.declared.declarations.Derived.{Derived}
use Rattle.f3_meaning_whole.specs.Shape.{shapes_of}
use Rattle.f3_type_words.specs.Tables.{AreTables}
use Rattle.f3_room_frames.specs.Bare.{TellBare}
use Rattle.f3_room_frames.specs.FlatTypes.{TellFlat}
use Rattle.f3_room_frames.proofs.layouts.Layouts.new.Goals as goal

pub invariant_of-result-clause-typed : goal.invariant_of-result-clause-typed
invariant_of-result-clause-typed c =
    let h : AreTables (shapes_of c.deref.result.now) c.in-Some.tables.items = rw c.in-Some.is at c.in_ok-tables.ensures.tables in
    subst (λ (ts : List Derived). AreTables (shapes_of ts) c.in-Some.tables.items) c.deref.ensures.value h

pub invariant_of-result-clause-told : goal.invariant_of-result-clause-told
invariant_of-result-clause-told c = subst (λ (ts : List Derived). TellBare (shapes_of ts) c.in_ok-bare.bare.items) c.deref-7.ensures.value c.in_ok-bare.ensures

pub invariant_of-result-clause-level : goal.invariant_of-result-clause-level
invariant_of-result-clause-level c = subst (λ (ts : List Derived). TellFlat (shapes_of ts) c.in_ok-flat.flat.items) c.deref-8.ensures.value c.in_ok-flat.ensures
