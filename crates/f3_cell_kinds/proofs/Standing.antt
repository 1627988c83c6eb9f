-- Where a state has cells that hold what their types say.
use Rattle.std.proofs.Common.{◌≡◌, ◌∙◌, sym, ap, ℕ, zero, suc, ◌+◌, ◌*◌, pos, Bool, true, false, ◌||◌, List, [], ◌∷◌, ◌++◌, length, Some, refl, subst, arith, if◌then◌else◌}
use Rattle.std.specs.Prelude.{nat_eq, nat_lt, slice_get}
use Rattle.std.proofs.lemmas.Bool.{eqb-true}
use Rattle.f3_program.specs.declared.declarations.Constant.{Constant}
use Rattle.f3_program.specs.declared.declarations.Constant.TheVariants as constant
use Rattle.f3_program.specs.declared.declarations.Derived.{Derived}
use Rattle.f3_program.specs.declared.declarations.Kind.{Kind}
use Rattle.f3_program.specs.declared.program.Procedure.{Procedure}
use Rattle.f3_program.specs.declared.program.Program.{Program}
use Rattle.f3_meaning_whole.specs.Value.{Span, Value, Number, Truth, Composite, Array, Unallocated, Allocated, joined, conforms, shown}
use Rattle.f3_meaning_whole.specs.Reference.{Reach, One, Many, spans}
use Rattle.f3_meaning_whole.specs.Arithmetic.{constant_value}
use Rattle.f3_meaning_whole.specs.Act.{Passed, given}
use Rattle.f3_meaning_whole.specs.Exec.{dummies, declared_in}
use Rattle.f3_meaning_whole.specs.Formed.{Given, all, of_kind, takes, constructed, fits_dummy, all_given, referenced, kinds_of}
use Rattle.f3_code.specs.State.{Entry}
use Rattle.f3_meaning_whole.specs.Formed.{only}
use Rattle.f3_cell_kinds.specs.Types.{Scope, Around, Told, Untold, InRoutine, CellType, Site}
use Rattle.f3_cell_kinds.specs.Effect.{Way, Far, In, is_word, constant_kind, are_values}
use Rattle.f3_cell_kinds.specs.Kinds.{arrived, IsNext, AreFar, first_site, ProceduresBegin}
use Rattle.f3_cell_kinds.specs.Holds.{Reaches, AllRefer, IsOf}
use Rattle.f3_cell_kinds.proofs.Asked.{some_same, found_is, only_is, and_is, not_is}
use Rattle.f3_cell_kinds.proofs.Reaching.{AllPassed, dummies_refer, listed_joined, items_are}

pub in_is : (o : Around) (f : Scope → Type 0) → In o f → (c : Scope) × (o ≡ Told c) × f c
in_is (Told c) f h = (c, refl, h)
in_is Untold f h = absurd h
in_is InRoutine f h = absurd h

pub not_routine : (o : Around) (c : Scope) → o ≡ Told c → o ≡ InRoutine → ⊥
not_routine o c e f = cc

-- the rank of what is reached
pub spans_rank : (k : Kind) (reach : Reach) → k.is_allocatable ≡ false → Reaches k reach → length (spans reach) ≡ k.rank
spans_rank k One e h = sym (eqb-true k.rank 0 (subst (λ (b : Bool). (b || nat_eq k.rank 0) ≡ true) e h))
spans_rank k (Many ss ps) e h = h.2

pub same_shown : (ss : List Span) → length (shown ss) ≡ length ss
same_shown [] = refl
same_shown (s ∷ ss) = ap suc (same_shown ss)

-- only an array has another shape
pub array_rank : (types : List Derived) (k : Kind) (ss : List Span) (v : Value) → IsOf types k v → conforms ss v ≡ false → nat_lt 0 k.rank ≡ true
array_rank types k ss (Array ts vs) h e = h.1
array_rank types k ss (Number z) h e = cc
array_rank types k ss (Truth b) h e = cc
array_rank types k ss (Composite vs) h e = cc
array_rank types k ss Unallocated h e = cc
array_rank types k ss (Allocated v) h e = cc

pub constant_is : (types : List Derived) (c : Constant) → is_word c ≡ true → IsOf types (constant_kind c) (constant_value c)
constant_is types (constant.Number z) e = (refl, e)
constant_is types (constant.Truth b) e = refl

pub takes_held : (k j : Kind) → takes k j ≡ true → j.is_allocatable ≡ false
takes_held k j e = not_is _ (and_is _ _ (and_is _ _ e).1).0

pub only_next : (sites : ℕ → Site) (pc : ℕ) (rest : List CellType) (b : Bool) (w : Way) → b ≡ true → IsNext sites pc rest (only b w) → sites (pc + 1) ≡ arrived (sites pc) w rest
only_next sites pc rest true w e h = h
only_next sites pc rest false w e h = cc

pub far_first : (sites : ℕ → Site) (pc : ℕ) (rest : List CellType) (b : Bool) (x y : Far) → b ≡ true → AreFar sites pc rest ((if b then x ∷ [] else []) ++ y ∷ []) →
    sites (pc + 1 + x.over) ≡ arrived (sites pc) x.to rest
far_first sites pc rest true x y e h = h.0
far_first sites pc rest false x y e h = cc

pub far_last : (sites : ℕ → Site) (pc : ℕ) (rest : List CellType) (b : Bool) (x y : Far) → AreFar sites pc rest ((if b then x ∷ [] else []) ++ y ∷ []) →
    sites (pc + 1 + y.over) ≡ arrived (sites pc) y.to rest
far_last sites pc rest true x y h = h.1.0
far_last sites pc rest false x y h = h.0

-- where a procedure begins
pub record EntryAt (sites : ℕ → Site) (es : List Entry) (f : ℕ) (q : Procedure) : Type 0 where
  pub entry : Entry
  pub at : slice_get es f ≡ Some entry
  pub begins : sites entry.at ≡ first_site q
  pub variables : entry.variables ≡ declared_in q
  pub dummies : entry.dummies ≡ q.dummies.items

pub entry_at : (sites : ℕ → Site) (qs : List Procedure) (es : List Entry) (f : ℕ) (q : Procedure) → ProceduresBegin sites qs es → slice_get qs f ≡ Some q → EntryAt sites es f q
entry_at sites [] es f q begin e = cc
entry_at sites (x ∷ qs) [] f q begin e = absurd begin
entry_at sites (x ∷ qs) (y ∷ es) zero q begin e =
    let same : x ≡ q = cc in
    record {
      entry = y;
      at = refl;
      begins = subst (λ z. sites y.at ≡ first_site z) same begin.0;
      variables = subst (λ z. y.variables ≡ declared_in z) same begin.1;
      dummies = subst (λ (z : Procedure). y.dummies ≡ z.dummies.items) same begin.2;
    }
entry_at sites (x ∷ qs) (y ∷ es) (suc f) q begin e =
    let r = entry_at sites qs es f q begin.3 e in
    record { entry = r.entry; at = r.at; begins = r.begins; variables = r.variables; dummies = r.dummies }

-- the dummies of a procedure that is called
pub called_refer : (p : Program) (types : List Derived) (f : ℕ) (gs : List Given) (ps : List Passed) (q : Procedure) (k : Kind) (level unit : ℕ) → slice_get p.procedures.items f ≡ Some q →
    referenced p [] [] f gs ≡ Some k → AllPassed types gs ps → AllRefer (kinds_of q.dummies.items) (dummies 0 q.dummies.items ps level unit)
called_refer p types f gs ps q k level unit at_f is are =
    let v = found_is (slice_get p.procedures.items f) _ k is in
    let same : v.0 ≡ q = some_same (sym v.1 ∙ at_f) in
    let a = and_is _ _ (only_is _ _ k v.2).0 in
    let fits = subst (λ (z : Procedure). all (fits_dummy z.dummies.items) gs ≡ true) same a.0 in
    let each = subst (λ (z : Procedure). all_given 0 z.dummies.items gs ≡ true) same a.1 in
    dummies_refer types q.dummies.items q.dummies.items 0 gs ps level unit are fits
    (λ n d e. let there : 0 + n ≡ n = omega arith in ap (slice_get q.dummies.items) there ∙ e) each

-- an array of scalars
pub constructed_is : (types : List Derived) (gs : List Given) (ps : List Passed) (k : Kind) → constructed gs ≡ Some k → are_values gs ≡ true → AllPassed types gs ps →
    IsOf types k (Array (record { lower = pos 1; extent = length (given ps) } ∷ []) (joined (given ps)))
constructed_is types [] ps k e values are = cc
constructed_is types (g ∷ gs) ps k e values are =
    let a = only_is _ (of_kind g.kind.of 1) k e in
    subst (λ (z : Kind). IsOf types z (Array (record { lower = pos 1; extent = length (given ps) } ∷ []) (joined (given ps)))) a.1
    (refl, refl, refl, listed_joined types (given ps) ∙ (let n = length (given ps) in let m : n ≡ n * 1 = omega arith in m), items_are types g.kind.of (g ∷ gs) ps are a.0 values)
