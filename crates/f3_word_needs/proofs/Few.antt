-- At each line of a code there are few names.
use Rattle.std.proofs.Common.{◌≡◌, ◌≤◌, ℕ, zero, suc, ◌+◌, ◌*◌, max, Bool, true, false, not, List, [], ◌∷◌, ◌++◌, length, drop, Option, Some, None, refl, sym, ap, arith, if◌then◌else◌, length-append}
use Rattle.std.proofs.Math.Nat.{mul-le-mul_left}
use Rattle.std.proofs.lemmas.List.{length-map}
use Rattle.std.specs.Prelude.{nat_eq, nat_lt, slice_index_or}
use Rattle.f3_program.specs.declared.declarations.Kind.{Kind}
use Rattle.f3_program.specs.declared.expression.Argument as a
use Rattle.f3_program.specs.declared.expression.Designator as d
use Rattle.f3_program.specs.declared.expression.Expression as e
use Rattle.f3_program.specs.declared.expression.Selection as l
use Rattle.f3_program.specs.declared.expression.Subscript as u
use Rattle.f3_program.specs.declared.statement.Bounds.{Bounds}
use Rattle.f3_program.specs.declared.statement.Item.{Item}
use Rattle.f3_program.specs.declared.statement.Item.TheVariants as item
use Rattle.f3_program.specs.declared.statement.Range.{Range}
use Rattle.f3_program.specs.declared.program.Program.{Program}
use Rattle.f3_meaning_whole.specs.Formed.{Given, of_kind, kinds_of}
use Rattle.f3_code.specs.Work as w
use Rattle.f3_code.specs.Core as c
use Rattle.f3_code.specs.Code.{code_of, begin_code, last_code, body_code, main_code, body_ways, main_ways}
use Rattle.f3_code.specs.Lower.{lowered_program}
use Rattle.f3_code.specs.State.{line}
use Rattle.f3_code.specs.declared.instruction.Instruction.TheVariants as i
use Rattle.f3_program.specs.declared.program.Dummy.{Dummy}
use Rattle.f3_cell_kinds.specs.Laws.{nowhere, site_at}
use Rattle.f3_word_needs.proofs.Depths.{opened, left, front, behind, statement_deep}
use Rattle.f3_word_needs.specs.Names.{open_in, procedures_names, most_names, procedures_open, most_open}
use Rattle.f3_cell_kinds.specs.Types.{Scope, Around, Told, CellType, Site, selecting, associating, arguments_on, choices_on, selectors_on}
use Rattle.f3_cell_kinds.specs.Types as cell
use Rattle.f3_cell_kinds.specs.Effect.{part_cell, held_kind, extents_on}
use Rattle.f3_cell_kinds.specs.Values.{at, stacked, reached_if, component_at, is_triplet, triplets, value_at, object_at, argument_at, arguments_at, value_sites, bounds_sites, argument_sites, arguments_sites, locate_sites, select_sites, select_of_sites, chosen_sites, subscript_sites, work_sites}
use Rattle.f3_cell_kinds.specs.Program.{variable_kind, in_routine, transfer_sites, free_sites, dimensions_sites, allocate_sites, deallocate_sites, status_sites, bytes_sites, items_sites, ranges_sites, selected_at, selectors_sites, discards_sites, leaving_sites, departing_sites, turns_sites, limits_sites, code_sites, each_sites, finish_sites, scope_of, returns_of, outward, body_sites, main_sites, procedures_sites, routines_sites, code_of_sites, program_sites}

-- the names of ASSOCIATEs among cells
abbrev pub levels_in : List CellType → ℕ
levels_in [] = 0
levels_in (cell.Level ks ∷ xs) = length ks + levels_in xs
levels_in (x ∷ xs) = levels_in xs

-- so many names at most, where statements may name some, of which so many count; elsewhere no ASSOCIATE is open
abbrev pub Few : (List Kind → ℕ) → ℕ → Around → ℕ → Type 0
Few weigh b (Told c) n = weigh c.names + n ≤ b
Few weigh b o n = n ≡ 0

abbrev pub IsFew : (List Kind → ℕ) → ℕ → Site → Type 0
IsFew weigh b s = Few weigh b s.scope (levels_in s.cells)

abbrev pub EachFew : (List Kind → ℕ) → ℕ → List Site → Type 0
EachFew weigh b [] = Unit {0}
EachFew weigh b (h ∷ hs) = IsFew weigh b h × EachFew weigh b hs

pub record AreFew (weigh : List Kind → ℕ) (b : ℕ) (hs : List Site) : Type 0 where
  pub by : EachFew weigh b hs

none : {weigh : List Kind → ℕ} {b : ℕ} → AreFew weigh b []
none = record { by = tt }

cons : {weigh : List Kind → ℕ} {b : ℕ} {h : Site} {hs : List Site} → IsFew weigh b h → AreFew weigh b hs → AreFew weigh b (h ∷ hs)
cons k f = record { by = (k, f.by) }

on_each : (weigh : List Kind → ℕ) (b : ℕ) (hs ks : List Site) → EachFew weigh b hs → EachFew weigh b ks → EachFew weigh b (hs ++ ks)
on_each weigh b [] ks h k = k
on_each weigh b (x ∷ hs) ks h k = (h.0, on_each weigh b hs ks h.1 k)

on : {weigh : List Kind → ℕ} {b : ℕ} {hs ks : List Site} → AreFew weigh b hs → AreFew weigh b ks → AreFew weigh b (hs ++ ks)
on {weigh = weigh} {b = b} {hs = hs} {ks = ks} e f = record { by = on_each weigh b hs ks e.by f.by }

-- ---- cells that are none of an ASSOCIATE

arguments_levels : (gs : List Given) (h : List CellType) → levels_in (arguments_on gs h) ≡ levels_in h
arguments_levels [] h = refl
arguments_levels (g ∷ gs) h = arguments_levels gs (cell.Argument g ∷ h)

choices_levels : (bs : List Bool) (h : List CellType) → levels_in (choices_on bs h) ≡ levels_in h
choices_levels [] h = refl
choices_levels (b ∷ bs) h = choices_levels bs (cell.Choice b ∷ h)

selectors_levels : (ks : List Kind) (h : List CellType) → levels_in (selectors_on ks h) ≡ levels_in h
selectors_levels [] h = refl
selectors_levels (k ∷ ks) h = selectors_levels ks (cell.Selector k ∷ h)

extents_levels : (n : ℕ) (h : List CellType) → levels_in (extents_on n h) ≡ levels_in h
extents_levels zero h = refl
extents_levels (suc n) h = extents_levels n (cell.Extent ∷ h)

part_levels : (b : Bool) (array : Kind) (n : ℕ) (k : Kind) (h : List CellType) → levels_in ((if b then cell.Object k else cell.Each array n k) ∷ h) ≡ levels_in h
part_levels true array n k h = refl
part_levels false array n k h = refl

pub fewer : (x : CellType) (h : List CellType) → levels_in h ≤ levels_in (x ∷ h)
fewer (cell.Level ks) h = omega arith
fewer x h = omega arith

drop_levels : (n : ℕ) (h : List CellType) → levels_in (drop n h) ≤ levels_in h
drop_levels zero h = omega arith
drop_levels (suc n) [] = omega arith
drop_levels (suc n) (x ∷ h) = omega (arith, drop_levels n h, fewer x h)

module _ (p : Program) (weigh : List Kind → ℕ) (b : ℕ) where
  module _ (r : Kind) (s : Scope) where
    -- few names above such cells
    abbrev Above : List CellType → Type 0
    Above h = weigh s.names + levels_in h ≤ b

    limit_few : {hs : List Site} (t : Bool) (h : List CellType) (k : Kind) → Above h → AreFew weigh b hs →
        AreFew weigh b (if t then hs ++ at r s (cell.Datum k ∷ h) ∷ [] else at r s h ∷ [])
    limit_few true h k q e = on e (cons q none)
    limit_few false h k q e = cons q none

    mutual
      value_few : (h : List CellType) (x : e.Expression) → Above h → AreFew weigh b (value_sites p r s h x)
      value_few h (e.Literal c) q = cons q none
      value_few h (e.Variable' z x) q = on (locate_few h x q) (cons q none)
      value_few h (e.Group' z x) q = on (value_few h x q) (cons q none)
      value_few h (e.Unary' c t z x) q = on (value_few h x q) (cons q none)
      value_few h (e.Binary' c t z x z' y) q = on (value_few h x q) (on (value_few (cell.Datum (value_at p r s x) ∷ h) y q) (cons q none))
      value_few h (e.Array' k xs) q = on (arguments_few h xs q) (cons (omega (arith, q, arguments_levels (arguments_at p r s xs) h)) none)
      value_few h (e.Structure' t k xs) q = on (arguments_few h xs q) (cons (omega (arith, q, arguments_levels (arguments_at p r s xs) h)) none)
      value_few h (e.Call' f k xs) q = on (arguments_few h xs q) (cons (omega (arith, q, arguments_levels (arguments_at p r s xs) h)) (cons q none))
      value_few h (e.Allocated' z x) q = on (locate_few h x q) (cons q none)
      value_few h (e.Size' z x) q = on (bounds_few h x q) (cons q none)
      value_few h (e.Bound' o z x z' y) q = on (bounds_few h x q) (on (value_few (cell.Bounds (argument_at p r s x).kind.rank ∷ h) y q) (cons q none))

      bounds_few : (h : List CellType) (x : a.Argument) → Above h → AreFew weigh b (bounds_sites p r s h x)
      bounds_few h (a.Value' k z x) q = on (value_few h x q) (cons q none)
      bounds_few h (a.Variable' k z x) q = on (locate_few h x q) (cons q none)

      argument_few : (h : List CellType) (x : a.Argument) → Above h → AreFew weigh b (argument_sites p r s h x)
      argument_few h (a.Value' k z x) q = on (value_few h x q) (cons q none)
      argument_few h (a.Variable' k z x) q = on (locate_few h x q) (cons q none)

      arguments_few : {m : _} (h : List CellType) (xs : e.Row_of-Argument m) → Above h → AreFew weigh b (arguments_sites p r s h xs)
      arguments_few h e.end_of-Argument q = none
      arguments_few h (e.more_of-Argument x rest) q = on (argument_few h x q) (arguments_few (cell.Argument (argument_at p r s x) ∷ h) rest q)

      locate_few : (h : List CellType) (x : d.Designator) → Above h → AreFew weigh b (locate_sites p r s h x)
      locate_few h (d.Name x how) q = cons q (select_few h _ how q)
      locate_few h (d.Component' z x n how) q = on (locate_few h x q) (select_of_few h _ n how q)

      select_few : (h : List CellType) (k : Kind) (x : l.Selection) → Above h → AreFew weigh b (select_sites p r s h k x)
      select_few h k l.Whole q = none
      select_few h k l.Contents q = cons q none
      select_few h k (l.Elements' is_opened n xs) q =
          on (chosen_few (cell.Object k ∷ h) xs q) (cons (omega (arith, q, choices_levels (triplets xs) (cell.Object k ∷ h))) none)

      select_of_few : (h : List CellType) (k : Kind) (n : ℕ) (x : l.Selection) → Above h → AreFew weigh b (select_of_sites p r s h k n x)
      select_of_few h k n l.Whole q = cons q none
      select_of_few h k n l.Contents q = cons q (cons q none)
      select_of_few h k n (l.Elements' is_opened m xs) q =
          let x = part_cell k n (component_at p k n) in
          let same = part_levels (nat_eq k.rank 0) k n (component_at p k n) (cell.Object k ∷ h) in
          let q' : Above (x ∷ cell.Object k ∷ h) = omega (arith, q, same) in
          cons q (on (chosen_few (x ∷ cell.Object k ∷ h) xs q') (cons (omega (arith, q', choices_levels (triplets xs) (x ∷ cell.Object k ∷ h))) none))

      chosen_few : {m : _} (h : List CellType) (xs : l.Row_of-Subscript m) → Above h → AreFew weigh b (chosen_sites p r s h xs)
      chosen_few h l.end_of-Subscript q = none
      chosen_few h (l.more_of-Subscript x rest) q = on (subscript_few h x q) (chosen_few (cell.Choice (is_triplet x) ∷ h) rest q)

      subscript_few : (h : List CellType) (x : u.Subscript) → Above h → AreFew weigh b (subscript_sites p r s h x)
      subscript_few h (u.At' z x) q = on (value_few h x q) (cons q none)
      subscript_few h (u.Range' has_lower z x has_upper z' y z'' v) q = on (limit_few has_lower h _ q (value_few h x q))
          (on (limit_few has_upper (cell.Bound ∷ h) _ q (value_few (cell.Bound ∷ h) y q)) (on (value_few (cell.Bound ∷ cell.Bound ∷ h) v q) (cons q none)))

  routine_few : (t : Bool) (h : Site) (k : Kind) → IsFew weigh b h → AreFew weigh b (if t then stacked (cell.Object k ∷ []) h ∷ [] else [])
  routine_few true h k q = cons q none
  routine_few false h k q = none

  work_few : (m : ℕ) (h : Site) (k : Kind) (x : w.Work) → IsFew weigh b h → AreFew weigh b (work_sites p m h k x)
  work_few m h k w.Rest q = none
  work_few m h k (w.And x y) q = on (work_few m h k x q) (work_few m h k y q)
  work_few m h k (w.Lending x) q = cons q (on (work_few m h k x q) (cons q none))
  work_few m h k (w.Of_rank rank x y) q = cons q (on (work_few m (reached_if (nat_eq rank k.rank) h) k x q)
      (cons q (work_few m (reached_if (not (nat_eq rank k.rank)) h) k y q)))
  work_few m h k (w.Final f) q = cons q (cons q (cons q none))
  work_few m h k (w.Routine t) q = routine_few (nat_lt t m) h k q
  work_few m h k (w.Of_component n x) q = cons q (on (work_few m (stacked (cell.Object k ∷ []) h) (component_at p k n) x q) (cons q none))
  work_few m h k (w.Of_elements x) q = cons q (cons q (on (work_few m (stacked (cell.Elements k.of ∷ cell.Object k ∷ []) h) (of_kind k.of 0) x q) (cons q (cons q none))))
  work_few m h k (w.If_allocated x) q = cons q (work_few m h k x q)
  work_few m h k (w.Of_contents x) q = cons q (on (work_few m (stacked (cell.Object k ∷ []) h) (held_kind k) x q) (cons q (cons q none)))
  work_few m h k w.Clear q = cons q none
  work_few m h k (w.Set v) q = cons q none
  work_few m h k w.Discard q = cons q none

  transfer_few : (m : ℕ) (h : Site) (k j : Kind) (x : c.Transfer) → IsFew weigh b h → AreFew weigh b (transfer_sites p m h k j x)
  transfer_few m h k j (c.Conforming x) q = cons q (transfer_few m h k j x q)
  transfer_few m h k j (c.By_state x y z) q = cons q (on (transfer_few m h k j x q) (cons q (on (transfer_few m (reached_if (nat_lt 0 j.rank) h) k j y q)
      (cons q (transfer_few m h k j z q)))))
  transfer_few m h k j (c.Of_rank rank x) q = cons q (transfer_few m (reached_if (nat_eq rank j.rank) h) k j x q)
  transfer_few m h k j (c.Behind x y) q = on (work_few m (stacked (cell.Datum j ∷ []) h) k x q) (transfer_few m h k j y q)
  transfer_few m h k j (c.New rank v x) q = cons q (transfer_few m h k j x q)
  transfer_few m h k j (c.In_contents x) q = cons q (transfer_few m h (held_kind k) j x q)
  transfer_few m h k j (c.Take of) q = cons q none
  transfer_few m h k j (c.Fill of) q = cons q none

  free_few : (m : ℕ) (h : Site) (k : Kind) (x : w.Work) → IsFew weigh b h → AreFew weigh b (free_sites p m h k x)
  free_few m h k x q = cons q (on (work_few m h k x q) (cons q (cons q none)))

  module _ (m : ℕ) (r : Kind) (s : Scope) where
    abbrev Over : List CellType → Type 0
    Over h = weigh s.names + levels_in h ≤ b

    dimensions_few : (h : List CellType) (bs : List Bounds) → Over h → AreFew weigh b (dimensions_sites p m r s h bs)
    dimensions_few h [] q = none
    dimensions_few h (y ∷ bs) q = on (value_few r s h y.lower q) (on (value_few r s (cell.Datum _ ∷ h) y.upper q) (cons q (dimensions_few (cell.Extent ∷ h) bs q)))

    allocate_few : (h : List CellType) (xs : List c.Allocation) → Over h → AreFew weigh b (allocate_sites p m r s h xs)
    allocate_few h [] q = cons q none
    allocate_few h (x ∷ xs) q = on (locate_few r s h x.object q) (on (dimensions_few (cell.Object (object_at p r s x.object) ∷ h) x.bounds q)
        (cons (omega (arith, q, extents_levels (length x.bounds) (cell.Object (object_at p r s x.object) ∷ h))) (cons q (allocate_few h xs q))))

    deallocate_few : (h : List CellType) (xs : List c.Deallocation) → Over h → AreFew weigh b (deallocate_sites p m r s h xs)
    deallocate_few h [] q = cons q none
    deallocate_few h (x ∷ xs) q = on (locate_few r s h x.object q) (on (free_few m (at r s h) _ x.free q) (cons q (deallocate_few h xs q)))

    status_few : (h : List CellType) (x : Option d.Designator) → Over h → AreFew weigh b (status_sites p m r s h x)
    status_few h None q = cons q none
    status_few h (Some d) q = on (locate_few r s (cell.Status ∷ h) d q) (cons q none)

    bytes_few : (h : List CellType) (bs : List ℕ) → Over h → AreFew weigh b (bytes_sites p m r s h bs)
    bytes_few h [] q = none
    bytes_few h (y ∷ bs) q = cons q (bytes_few h bs q)

    items_few : (h : List CellType) (xs : List Item) → Over h → AreFew weigh b (items_sites p m r s h xs)
    items_few h [] q = cons q none
    items_few h (item.Value e ∷ xs) q = on (value_few r s h e q) (cons q (items_few h xs q))
    items_few h (item.Text t ∷ xs) q = on (bytes_few h (32 ∷ t.items) q) (items_few h xs q)

    ranges_few : (h : List CellType) (xs : List Range) → Over h → AreFew weigh b (ranges_sites p m r s h xs)
    ranges_few h [] q = none
    ranges_few h (x ∷ xs) q = cons q (cons q (ranges_few h xs q))

    selected_many : (xs : List c.Selector) → length (selected_at p m r s xs) ≡ length xs
    selected_many [] = refl
    selected_many (c.Bind d ∷ xs) = ap suc (selected_many xs)
    selected_many (c.Hold of e x ∷ xs) = ap suc (selected_many xs)

    selectors_few : (h : List CellType) (xs : List c.Selector) → Over h → AreFew weigh b (selectors_sites p m r s h xs)
    selectors_few h [] q = none
    selectors_few h (c.Bind d ∷ xs) q = on (locate_few r s h d q) (cons q (selectors_few (cell.Selector _ ∷ h) xs q))
    selectors_few h (c.Hold of e x ∷ xs) q = on (value_few r s h e q) (cons q (selectors_few (cell.Selector _ ∷ h) xs q))

    discards_few : (h : List CellType) (ks : List Kind) (xs : List c.Selector) → Over h → AreFew weigh b (discards_sites p m r s h ks xs)
    discards_few h ks [] q = none
    discards_few h [] (x ∷ xs) q = none
    discards_few h (k ∷ ks) (c.Bind d ∷ xs) q = cons q (cons q (discards_few h ks xs q))
    discards_few h (k ∷ ks) (c.Hold of e x ∷ xs) q = cons q (on (work_few m (at r s (cell.Objects ks ∷ h)) k x q) (cons q (discards_few h ks xs q)))

    leaving_few : (h : List CellType) → Over h → AreFew weigh b (leaving_sites p m r s h)
    leaving_few h q = cons q (cons q (cons q (cons q none)))

    departing_few : (h : List CellType) (cells : ℕ) → Over h → AreFew weigh b (departing_sites p m r s h cells)
    departing_few h cells q = cons q (cons q (cons (omega (arith, q, drop_levels cells h)) none))

    turns_few : {x y : List Site} (h : List CellType) → Over h → AreFew weigh b x → AreFew weigh b y → AreFew weigh b (turns_sites p m r s h x y)
    turns_few h q x y = cons q (on x (on y (cons q (cons q none))))

    limits_few : {t : List Site} (h : List CellType) (k : Kind) (from to by : e.Expression) → Over h → AreFew weigh b t →
        AreFew weigh b (limits_sites p m r s h k from to by t)
    limits_few h k from to by q t = on (value_few r s h from q) (cons q (on (value_few r s (cell.Datum k ∷ h) to q) (cons q
        (on (value_few r s (cell.Datum k ∷ cell.Datum k ∷ h) by q) (cons q (cons q t))))))

-- an ASSOCIATE, by what is within it
associate_few : (p : Program) (weigh : List Kind → ℕ) (b m : ℕ) (r : Kind) (s inner : Scope) (h : List CellType) (cells : ℕ) (xs : List c.Selector) (ks : List Kind)
    (within : List Site) → weigh s.names + levels_in h ≤ b → weigh s.names + (length ks + levels_in h) ≤ b → weigh inner.names + (length ks + levels_in h) ≤ b →
    AreFew weigh b within → AreFew weigh b (selectors_sites p m r s h xs ++ (at r s (selectors_on ks h) ∷ (within
    ++ (leaving_sites p m r inner (cell.Outside s ∷ cell.Level ks ∷ h) ++ (at r s (cell.Going ∷ cell.Level ks ∷ h)
    ∷ (discards_sites p m r s (cell.Going ∷ cell.Level ks ∷ h) ks xs
    ++ (at r s (cell.Objects [] ∷ cell.Going ∷ cell.Level ks ∷ h) ∷ departing_sites p m r s h cells)))))))
associate_few p weigh b m r s inner h cells xs ks within o o' i few =
    on (selectors_few p weigh b m r s h xs o) (cons (omega (arith, o, selectors_levels ks h)) (on few
    (on (leaving_few p weigh b m r inner (cell.Outside s ∷ cell.Level ks ∷ h) i) (cons o' (on (discards_few p weigh b m r s (cell.Going ∷ cell.Level ks ∷ h) ks xs o')
    (cons o' (departing_few p weigh b m r s h cells o)))))))

-- how names count, and how often a name of an ASSOCIATE does in all
pub record Rule (weigh : List Kind → ℕ) (k : ℕ) : Type 0 where
  pub grow : (xs ys : List Kind) → weigh (xs ++ ys) + length ys ≤ weigh xs + k * length ys
  pub some : (n : ℕ) → n ≤ k * n

both : (k a b : ℕ) → (k * a ≤ k * max a b) × (k * b ≤ k * max a b)
both k a b =
    let x : a ≤ max a b = omega arith in
    let y : b ≤ max a b = omega arith in
    (mul-le-mul_left k x, mul-le-mul_left k y)

module _ (p : Program) (weigh : List Kind → ℕ) (k : ℕ) (rule : Rule weigh k) (b m : ℕ) (r : Kind) where
  code_few : (s : Scope) (h : List CellType) (cells : ℕ) (x : c.Core) → weigh s.names + levels_in h + k * opened x ≤ b → AreFew weigh b (code_sites p m r s h cells x)
  code_few s h cells (c.At place true x) q = cons (omega (arith, q)) (code_few s h cells x q)
  code_few s h cells (c.At place false x) q = code_few s h cells x q
  code_few s h cells c.Skip q = none
  code_few s h cells (c.Then x y) q =
      let t = both k (opened x) (opened y) in on (code_few s h cells x (omega (arith, q, t.0))) (code_few s h cells y (omega (arith, q, t.1)))
  code_few s h cells (c.Assign d x e) q =
      let o : weigh s.names + levels_in h ≤ b = omega (arith, q) in
      on (value_few p weigh b r s h e o) (on (locate_few p weigh b r s (cell.Datum _ ∷ h) d o) (transfer_few p weigh b m (at r s h) _ _ x o))
  code_few s h cells (c.Call e) q =
      let o : weigh s.names + levels_in h ≤ b = omega (arith, q) in on (value_few p weigh b r s h e o) (cons o none)
  code_few s h cells (c.Move true x d e) q =
      let o : weigh s.names + levels_in h ≤ b = omega (arith, q) in
      on (locate_few p weigh b r s h d o) (on (locate_few p weigh b r s (cell.Object _ ∷ h) e o) (cons o
      (on (work_few p weigh b m (at r s (cell.Object (object_at p r s d) ∷ h)) _ x o) (cons o none))))
  code_few s h cells (c.Move false x d e) q =
      let o : weigh s.names + levels_in h ≤ b = omega (arith, q) in
      on (locate_few p weigh b r s h d o) (on (locate_few p weigh b r s (cell.Object _ ∷ h) e o) (cons o (cons o
      (on (work_few p weigh b m (at r s (cell.Object (object_at p r s e) ∷ h)) _ x o) (cons o none)))))
  code_few s h cells (c.Allocate xs stat) q =
      let o : weigh s.names + levels_in h ≤ b = omega (arith, q) in on (allocate_few p weigh b m r s h xs o) (status_few p weigh b m r s h stat o)
  code_few s h cells (c.Deallocate xs stat) q =
      let o : weigh s.names + levels_in h ≤ b = omega (arith, q) in on (deallocate_few p weigh b m r s h xs o) (status_few p weigh b m r s h stat o)
  code_few s h cells (c.Print xs) q = items_few p weigh b m r s h xs (omega (arith, q))
  code_few s h cells (c.Stop number) q = cons (omega (arith, q)) none
  code_few s h cells c.Return q =
      let o : weigh s.names + levels_in h ≤ b = omega (arith, q) in cons o (cons o (cons (omega (arith, o, drop_levels cells h)) none))
  code_few s h cells c.Cycle q = cons (omega (arith, q)) none
  code_few s h cells c.Exit q = cons (omega (arith, q)) none
  code_few s h cells (c.If e x y) q =
      let t = both k (opened x) (opened y) in
      let o : weigh s.names + levels_in h ≤ b = omega (arith, q) in
      on (value_few p weigh b r s h e o) (cons o (on (code_few s h cells x (omega (arith, q, t.0))) (cons o (code_few s h cells y (omega (arith, q, t.1))))))
  code_few s h cells (c.Select e x) q =
      let o : weigh s.names + levels_in h ≤ b = omega (arith, q) in
      let inner = selecting (value_at p r s e) s in
      on (value_few p weigh b r s h e o) (cons o (on (code_few inner (cell.Outside s ∷ h) 0 x q) (on (leaving_few p weigh b m r inner (cell.Outside s ∷ h) o) (departing_few p weigh b m r s h cells o))))
  code_few s h cells (c.Case rs x y) q =
      let t = both k (opened x) (opened y) in
      let o : weigh s.names + levels_in h ≤ b = omega (arith, q) in
      on (ranges_few p weigh b m r s h rs o) (cons o (on (code_few s h cells x (omega (arith, q, t.0))) (cons o (code_few s h cells y (omega (arith, q, t.1))))))
  code_few s h cells (c.While e x) q =
      let o : weigh s.names + levels_in h ≤ b = omega (arith, q) in
      on (value_few p weigh b r s h e o) (cons o (on (code_few s h cells x q) (cons o none)))
  code_few s h cells (c.Count d k from to by x) q =
      let o : weigh s.names + levels_in h ≤ b = omega (arith, q) in
      let j = of_kind k.of 0 in
      limits_few p weigh b m r s h j from to by o (on (locate_few p weigh b r s (cell.Datum j ∷ cell.Datum j ∷ cell.Datum j ∷ h) d o)
      (cons o (turns_few p weigh b m r s h o (code_few s (cell.Turns ∷ h) (suc cells) x q) (on (locate_few p weigh b r s (cell.Turns ∷ h) d o) (cons o none)))))
  code_few s h cells (c.Associate xs x) q =
      let ks = selected_at p m r s xs in let inner = associating ks s in
      let many = selected_many p weigh b m r s xs in
      let more = rule.grow s.names ks in
      let some = rule.some (length ks) in
      let twice : k * length xs ≡ k * length ks = ap (λ n. k * n) (sym many) in
      let q' : weigh s.names + levels_in h + (k * length ks + k * opened x) ≤ b = omega (arith, q, twice) in
      let o : weigh s.names + levels_in h ≤ b = omega (arith, q) in
      let o' : weigh s.names + (length ks + levels_in h) ≤ b = omega (arith, q', some) in
      let i : weigh (s.names ++ ks) + (length ks + levels_in h) + k * opened x ≤ b = omega (arith, q', more) in
      let i' : weigh (s.names ++ ks) + (length ks + levels_in h) ≤ b = omega (arith, i) in
      associate_few p weigh b m r s inner h cells xs ks _ o o' i' (code_few inner (cell.Outside s ∷ cell.Level ks ∷ h) 0 x i)

module _ (p : Program) (weigh : List Kind → ℕ) (b : ℕ) where
  each_few : (m : ℕ) (h : Site) (ks : List Kind) (xs : List w.Work) → IsFew weigh b h → AreFew weigh b (each_sites p m h ks xs)
  each_few m h ks [] q = none
  each_few m h [] (x ∷ xs) q = none
  each_few m h (k ∷ ks) (x ∷ xs) q = cons q (on (work_few p weigh b m (stacked (cell.Objects ks ∷ []) h) k x q) (cons q (each_few m h ks xs q)))

  finish_few : (m : ℕ) (h : Site) (n : ℕ) (xs : List w.Work) → IsFew weigh b h → AreFew weigh b (finish_sites p m h n xs)
  finish_few m h n [] q = none
  finish_few m h n (x ∷ xs) q = cons q (on (work_few p weigh b m h (variable_kind h.scope n) x q) (cons q (finish_few m h (suc n) xs q)))

  module _ (k : ℕ) (rule : Rule weigh k) where
    abbrev pub IsLow : c.Procedure → Type 0
    IsLow q = weigh (kinds_of q.dummies) + k * opened q.body ≤ b

    body_few : (m : ℕ) (q : c.Procedure) → IsLow q → AreFew weigh b (body_sites p m q)
    body_few m q le =
        let r = returns_of p q in let s = scope_of p q in
        let o : weigh s.names + 0 ≤ b = omega (arith, le) in
        cons o (on (each_few m (at r s []) s.names q.begin o) (cons o (on (code_few p weigh k rule b m r s [] 0 q.body (omega (arith, le)))
        (cons o (cons o (on (finish_few m (at r s []) 0 q.finish o) (cons o (cons o
        (on (each_few m (outward p r (cell.Datum r ∷ [])) s.names q.discard refl) (cons refl none))))))))))

    main_few : (m : ℕ) (q : c.Procedure) → IsLow q → AreFew weigh b (main_sites p m q)
    main_few m q le =
        let r = returns_of p q in let s = scope_of p q in
        let o : weigh s.names + 0 ≤ b = omega (arith, le) in
        on (code_few p weigh k rule b m r s [] 0 q.body (omega (arith, le))) (cons o (cons o none))

    abbrev pub AllLow : List c.Procedure → Type 0
    AllLow [] = Unit {0}
    AllLow (q ∷ qs) = IsLow q × AllLow qs

    procedures_few : (m : ℕ) (qs : List c.Procedure) → AllLow qs → AreFew weigh b (procedures_sites p m qs)
    procedures_few m [] h = none
    procedures_few m (q ∷ qs) h = on (body_few m q h.0) (procedures_few m qs h.1)

    routines_few : (xs : List w.Work) → AreFew weigh b (routines_sites p xs)
    routines_few [] = none
    routines_few (x ∷ xs) = on (work_few p weigh b (length xs) (in_routine (length xs)) _ x refl) (cons refl (routines_few xs))

    pub code_is_few : (x : c.Program) → IsLow x.main → AllLow x.procedures → AreFew weigh b (code_of_sites p x)
    code_is_few x main rest = on (main_few (length x.routines) x.main main) (on (routines_few x.routines) (procedures_few (length x.routines) x.procedures rest))

-- ---- by the code

module _ (m : ℕ) where
  main_opened : (q : c.Procedure) → opened q.body ≤ open_in (main_code m q)
  main_opened q =
      let body = code_of m None q.body main_ways in
      let d = (statement_deep m None q.body main_ways).deep 0 in
      omega (arith, d, front 0 body (line (Some q.end) i.Begin ∷ line None i.Finish ∷ []))

  body_opened : (q : c.Procedure) → opened q.body ≤ open_in (body_code m q)
  body_opened q =
      let body = code_of m None q.body body_ways in
      let last = line (Some q.end) i.Begin ∷ line (Some q.end) i.SetPlace ∷ last_code m q in
      let begin = begin_code m q.begin in
      let n = left 0 begin in
      let d = (statement_deep m None q.body body_ways).deep n in
      omega (arith, d, front n body last, behind 0 begin (line None i.Drop ∷ (body ++ last)))

-- ---- names, and once more those of ASSOCIATEs

abbrev pub each_name : List Kind → ℕ
each_name ks = length ks

twice : Rule each_name 2
twice = record { grow = λ xs ys. omega (arith, length-append xs ys); some = λ n. omega arith }

all_low : (p : Program) (b : ℕ) (x : c.Program) (qs : List c.Procedure) → procedures_names x qs ≤ b → AllLow p each_name b 2 twice qs
all_low p b x [] le = tt
all_low p b x (q ∷ qs) le =
    let many = length-map q.dummies (λ (x : Dummy). x.kind) in
    (omega (arith, le, many, body_opened (length x.routines) q), all_low p b x qs (omega (arith, le)))

-- ---- those of ASSOCIATEs alone

abbrev pub no_name : List Kind → ℕ
no_name ks = 0

once : Rule no_name 1
once = record { grow = λ xs ys. omega arith; some = λ n. omega arith }

all_few : (p : Program) (b : ℕ) (x : c.Program) (qs : List c.Procedure) → procedures_open x qs ≤ b → AllLow p no_name b 1 once qs
all_few p b x [] le = tt
all_few p b x (q ∷ qs) le = (omega (arith, le, body_opened (length x.routines) q), all_few p b x qs (omega (arith, le)))

-- ---- by line

each_at : (weigh : List Kind → ℕ) (b : ℕ) (hs : List Site) (pc : ℕ) → EachFew weigh b hs → IsFew weigh b (slice_index_or hs pc nowhere)
each_at weigh b [] pc h = refl
each_at weigh b (x ∷ hs) zero h = h.0
each_at weigh b (x ∷ hs) (suc pc) h = each_at weigh b hs pc h.1

module _ (p : Program) where
  abbrev whole : c.Program
  whole = lowered_program p

  pub site_is_few : (pc : ℕ) → IsFew each_name (most_names whole) (site_at p pc)
  site_is_few pc =
      let b = most_names whole in
      let many = length-map whole.main.dummies (λ (x : Dummy). x.kind) in
      each_at each_name b (program_sites p) pc
      (code_is_few p each_name b 2 twice whole (omega (arith, many, main_opened (length whole.routines) whole.main)) (all_low p b whole whole.procedures (omega arith))).by

  pub site_has_few : (pc : ℕ) → IsFew no_name (most_open whole) (site_at p pc)
  site_has_few pc =
      let b = most_open whole in
      each_at no_name b (program_sites p) pc
      (code_is_few p no_name b 1 once whole (omega (arith, main_opened (length whole.routines) whole.main)) (all_few p b whole whole.procedures (omega arith))).by
