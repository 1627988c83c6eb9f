-- Without their kinds the cells of each line are of the sorts of the same code.
use Rattle.std.proofs.Common.{◌≡◌, ℕ, zero, suc, Bool, true, false, not, List, [], ◌∷◌, ◌++◌, length, drop, Option, Some, None, refl, sym, ap, ◌∙◌, subst, if◌then◌else◌}
use Rattle.std.specs.Prelude.{map, nat_eq, nat_lt, slice_index_or}
use Rattle.std.proofs.lemmas.List.{map-append}
use Rattle.std.proofs.Math.ListN.{get_or-map}
use Rattle.f3_program.specs.declared.declarations.Kind.{Kind}
use Rattle.f3_program.specs.declared.expression.Argument as a
use Rattle.f3_program.specs.declared.expression.Designator as d
use Rattle.f3_program.specs.declared.expression.Expression as e
use Rattle.f3_program.specs.declared.expression.Selection as l
use Rattle.f3_program.specs.declared.expression.Subscript as u
use Rattle.f3_program.specs.declared.statement.Bounds.{Bounds}
use Rattle.f3_program.specs.declared.statement.Item.{Item}
use Rattle.f3_program.specs.declared.statement.Item.TheVariants as item
use Rattle.f3_program.specs.declared.statement.Range.{Range}
use Rattle.f3_program.specs.declared.program.Dummy.{Dummy}
use Rattle.f3_program.specs.declared.program.Procedure.{Procedure}
use Rattle.f3_program.specs.declared.program.Program.{Program}
use Rattle.f3_meaning_whole.specs.Formed.{of_kind, kinds_of}
use Rattle.f3_meaning_whole.specs.Run.{setting_of}
use Rattle.f3_code.specs.Work as w
use Rattle.f3_code.specs.Core as c
use Rattle.f3_code.specs.Lower.{out_work, discard_work, lowered_procedure, lowered_program}
use Rattle.f3_code.specs.Code.{argument_count, subscript_count}
use Rattle.f3_sorts.specs.Effect.{Sort, times}
use Rattle.f3_sorts.specs.Effect as sort
use Rattle.f3_sorts.specs.Program.{allocate_sorts, argument_sorts, arguments_sorts, body_sorts, bounds_sorts, bytes_sorts, case_sorts, chosen_sorts, code_sorts, deallocate_sorts, departing_sorts, dimensions_sorts, discards_sorts, each_sorts, finish_sorts, free_sorts, if_sorts, items_sorts, leaving_sorts, limits_sorts, locate_sorts, procedures_sorts, program_sorts, ranges_sorts, routines_sorts, select_of_sorts, select_sorts, selectors_sorts, status_sorts, subscript_sorts, transfer_sorts, turns_sorts, up_sorts, value_sorts, while_sorts, work_sorts}
use Rattle.f3_cell_kinds.specs.Types.{Told, CellType, Scope, Site, sort_of_type, selecting, associating, arguments_on, choices_on, selectors_on}
use Rattle.f3_cell_kinds.specs.Types as cell
use Rattle.f3_cell_kinds.specs.Effect.{part_cell, held_kind, extents_on}
use Rattle.f3_cell_kinds.specs.Values.{at, stacked, reached_if, component_at, is_triplet, triplets, value_at, object_at, argument_at, arguments_at, value_sites, bounds_sites, argument_sites, arguments_sites, locate_sites, select_sites, select_of_sites, chosen_sites, subscript_sites, work_sites}
use Rattle.f3_cell_kinds.specs.Program.{variable_kind, in_routine, transfer_sites, free_sites, dimensions_sites, allocate_sites, deallocate_sites, status_sites, bytes_sites, items_sites, ranges_sites, selected_at, selectors_sites, discards_sites, leaving_sites, departing_sites, if_sites, case_sites, while_sites, up_sites, turns_sites, limits_sites, code_sites, each_sites, finish_sites, scope_of, returns_of, outward, body_sites, procedures_sites, routines_sites, program_sites}
use Rattle.f3_cell_kinds.specs.Laws.{nowhere, site_at}

abbrev forget : List CellType → List Sort
forget h = map sort_of_type h

abbrev sorts_of : Site → List Sort
sorts_of s = forget s.cells

-- the cells of these sites are of these sorts
record Same (hs : List Site) (ts : List (List Sort)) : Type 0 where
  by : map sorts_of hs ≡ ts

none : Same [] []
none = record { by = refl }

cons : {h : Site} {t : List Sort} {hs : List Site} {ts : List (List Sort)} → sorts_of h ≡ t → Same hs ts → Same (h ∷ hs) (t ∷ ts)
cons {t = t} {hs = hs} e f = record { by = ap (λ x. x ∷ map sorts_of hs) e ∙ ap (λ l. t ∷ l) f.by }

on : {hs ks : List Site} {ts us : List (List Sort)} → Same hs ts → Same ks us → Same (hs ++ ks) (ts ++ us)
on {hs = hs} {ks = ks} {ts = ts} e f = record { by = map-append sorts_of hs ks ∙ ap (λ l. l ++ map sorts_of ks) e.by ∙ ap (λ l. ts ++ l) f.by }

times_on : (k : ℕ) (x : Sort) (h : List Sort) → times k x ++ (x ∷ h) ≡ x ∷ (times k x ++ h)
times_on zero x h = refl
times_on (suc k) x h = ap (λ l. x ∷ l) (times_on k x h)

triplets_forget : {m : _} (xs : l.Row_of-Subscript m) (h : List CellType) → forget (choices_on (triplets xs) h) ≡ times (subscript_count xs) sort.Choice ++ forget h
triplets_forget l.end_of-Subscript h = refl
triplets_forget (l.more_of-Subscript x rest) h = triplets_forget rest (cell.Choice (is_triplet x) ∷ h) ∙ times_on (subscript_count rest) sort.Choice (forget h)

extents_forget : (n : ℕ) (h : List CellType) → forget (extents_on n h) ≡ times n sort.Extent ++ forget h
extents_forget zero h = refl
extents_forget (suc n) h = extents_forget n (cell.Extent ∷ h) ∙ times_on n sort.Extent (forget h)

drop_forget : (n : ℕ) (h : List CellType) → forget (drop n h) ≡ drop n (forget h)
drop_forget zero h = refl
drop_forget (suc n) [] = refl
drop_forget (suc n) (x ∷ h) = drop_forget n h

part_forget : (b : Bool) (array : Kind) (n : ℕ) (k : Kind) → sort_of_type (if b then cell.Object k else cell.Each array n k) ≡ sort.Object
part_forget true array n k = refl
part_forget false array n k = refl

limit_same : {hs : List Site} {ts : List (List Sort)} (b : Bool) (r : Kind) (s : Scope) (h : List CellType) (k : Kind) → Same hs ts →
    Same (if b then hs ++ at r s (cell.Datum k ∷ h) ∷ [] else at r s h ∷ []) (if b then ts ++ (sort.Datum ∷ forget h) ∷ [] else forget h ∷ [])
limit_same true r s h k e = on e (cons refl none)
limit_same false r s h k e = cons refl none

routine_same : (b : Bool) (h : Site) (k : Kind) → Same (if b then stacked (cell.Object k ∷ []) h ∷ [] else []) (if b then (sort.Object ∷ sorts_of h) ∷ [] else [])
routine_same true h k = cons refl none
routine_same false h k = none

module _ (p : Program) where
  module _ (r : Kind) (s : Scope) where
    arguments_forget : {m : _} (xs : e.Row_of-Argument m) (h : List CellType) →
        forget (arguments_on (arguments_at p r s xs) h) ≡ times (argument_count xs) sort.Argument ++ forget h
    arguments_forget e.end_of-Argument h = refl
    arguments_forget (e.more_of-Argument x rest) h =
        arguments_forget rest (cell.Argument (argument_at p r s x) ∷ h) ∙ times_on (argument_count rest) sort.Argument (forget h)

    mutual
      value_same : (h : List CellType) (x : e.Expression) → Same (value_sites p r s h x) (value_sorts (forget h) x)
      value_same h (e.Literal c) = cons refl none
      value_same h (e.Variable' q x) = on (locate_same h x) (cons refl none)
      value_same h (e.Group' q x) = on (value_same h x) (cons refl none)
      value_same h (e.Unary' c t q x) = on (value_same h x) (cons refl none)
      value_same h (e.Binary' c t q x q' y) = on (value_same h x) (on (value_same (cell.Datum (value_at p r s x) ∷ h) y) (cons refl none))
      value_same h (e.Array' k xs) = on (arguments_same h xs) (cons (arguments_forget xs h) none)
      value_same h (e.Structure' t k xs) = on (arguments_same h xs) (cons (arguments_forget xs h) none)
      value_same h (e.Call' f k xs) = on (arguments_same h xs) (cons (arguments_forget xs h) (cons refl none))
      value_same h (e.Allocated' q x) = on (locate_same h x) (cons refl none)
      value_same h (e.Size' q x) = on (bounds_same h x) (cons refl none)
      value_same h (e.Bound' o q x q' y) = on (bounds_same h x) (on (value_same (cell.Bounds (argument_at p r s x).kind.rank ∷ h) y) (cons refl none))

      bounds_same : (h : List CellType) (x : a.Argument) → Same (bounds_sites p r s h x) (bounds_sorts (forget h) x)
      bounds_same h (a.Value' k q x) = on (value_same h x) (cons refl none)
      bounds_same h (a.Variable' k q x) = on (locate_same h x) (cons refl none)

      argument_same : (h : List CellType) (x : a.Argument) → Same (argument_sites p r s h x) (argument_sorts (forget h) x)
      argument_same h (a.Value' k q x) = on (value_same h x) (cons refl none)
      argument_same h (a.Variable' k q x) = on (locate_same h x) (cons refl none)

      arguments_same : {m : _} (h : List CellType) (xs : e.Row_of-Argument m) → Same (arguments_sites p r s h xs) (arguments_sorts (forget h) xs)
      arguments_same h e.end_of-Argument = none
      arguments_same h (e.more_of-Argument x rest) = on (argument_same h x) (arguments_same (cell.Argument (argument_at p r s x) ∷ h) rest)

      locate_same : (h : List CellType) (x : d.Designator) → Same (locate_sites p r s h x) (locate_sorts (forget h) x)
      locate_same h (d.Name x how) = cons refl (select_same h _ how)
      locate_same h (d.Component' q x n how) = on (locate_same h x) (select_of_same h _ n how)

      select_same : (h : List CellType) (k : Kind) (x : l.Selection) → Same (select_sites p r s h k x) (select_sorts (forget h) x)
      select_same h k l.Whole = none
      select_same h k l.Contents = cons refl none
      select_same h k (l.Elements' is_opened n xs) = on (chosen_same (cell.Object k ∷ h) xs) (cons (triplets_forget xs (cell.Object k ∷ h)) none)

      select_of_same : (h : List CellType) (k : Kind) (n : ℕ) (x : l.Selection) → Same (select_of_sites p r s h k n x) (select_of_sorts (forget h) x)
      select_of_same h k n l.Whole = cons refl none
      select_of_same h k n l.Contents = cons refl (cons refl none)
      select_of_same h k n (l.Elements' is_opened m xs) =
          let x = part_cell k n (component_at p k n) in
          let same : sort_of_type x ≡ sort.Object = part_forget (nat_eq k.rank 0) k n (component_at p k n) in
          cons refl (subst (λ (z : Sort). Same (chosen_sites p r s (x ∷ cell.Object k ∷ h) xs ++ at r s (choices_on (triplets xs) (x ∷ cell.Object k ∷ h)) ∷ [])
          (chosen_sorts (z ∷ sort.Object ∷ forget h) xs ++ (times (subscript_count xs) sort.Choice ++ (z ∷ sort.Object ∷ forget h)) ∷ [])) same
          (on (chosen_same (x ∷ cell.Object k ∷ h) xs) (cons (triplets_forget xs (x ∷ cell.Object k ∷ h)) none)))

      chosen_same : {m : _} (h : List CellType) (xs : l.Row_of-Subscript m) → Same (chosen_sites p r s h xs) (chosen_sorts (forget h) xs)
      chosen_same h l.end_of-Subscript = none
      chosen_same h (l.more_of-Subscript x rest) = on (subscript_same h x) (chosen_same (cell.Choice (is_triplet x) ∷ h) rest)

      subscript_same : (h : List CellType) (x : u.Subscript) → Same (subscript_sites p r s h x) (subscript_sorts (forget h) x)
      subscript_same h (u.At' q x) = on (value_same h x) (cons refl none)
      subscript_same h (u.Range' has_lower q x has_upper q' y q'' z) = on (limit_same has_lower r s h _ (value_same h x))
          (on (limit_same has_upper r s (cell.Bound ∷ h) _ (value_same (cell.Bound ∷ h) y)) (on (value_same (cell.Bound ∷ cell.Bound ∷ h) z) (cons refl none)))

  work_same : (m : ℕ) (h : Site) (k : Kind) (x : w.Work) → Same (work_sites p m h k x) (work_sorts m (sorts_of h) x)
  work_same m h k w.Rest = none
  work_same m h k (w.And x y) = on (work_same m h k x) (work_same m h k y)
  work_same m h k (w.Lending x) = cons refl (on (work_same m h k x) (cons refl none))
  work_same m h k (w.Of_rank rank x y) = cons refl (on (work_same m (reached_if (nat_eq rank k.rank) h) k x)
      (cons refl (work_same m (reached_if (not (nat_eq rank k.rank)) h) k y)))
  work_same m h k (w.Final f) = cons refl (cons refl (cons refl none))
  work_same m h k (w.Routine t) = routine_same (nat_lt t m) h k
  work_same m h k (w.Of_component n x) = cons refl (on (work_same m (stacked (cell.Object k ∷ []) h) (component_at p k n) x) (cons refl none))
  work_same m h k (w.Of_elements x) = cons refl (cons refl (on (work_same m (stacked (cell.Elements k.of ∷ cell.Object k ∷ []) h) (of_kind k.of 0) x) (cons refl (cons refl none))))
  work_same m h k (w.If_allocated x) = cons refl (work_same m h k x)
  work_same m h k (w.Of_contents x) = cons refl (on (work_same m (stacked (cell.Object k ∷ []) h) (held_kind k) x) (cons refl (cons refl none)))
  work_same m h k w.Clear = cons refl none
  work_same m h k (w.Set v) = cons refl none
  work_same m h k w.Discard = cons refl none

  transfer_same : (m : ℕ) (h : Site) (k j : Kind) (x : c.Transfer) → Same (transfer_sites p m h k j x) (transfer_sorts m (sorts_of h) x)
  transfer_same m h k j (c.Conforming x) = cons refl (transfer_same m h k j x)
  transfer_same m h k j (c.By_state x y z) = cons refl (on (transfer_same m h k j x) (cons refl (on (transfer_same m (reached_if (nat_lt 0 j.rank) h) k j y)
      (cons refl (transfer_same m h k j z)))))
  transfer_same m h k j (c.Of_rank rank x) = cons refl (transfer_same m (reached_if (nat_eq rank j.rank) h) k j x)
  transfer_same m h k j (c.Behind x y) = on (work_same m (stacked (cell.Datum j ∷ []) h) k x) (transfer_same m h k j y)
  transfer_same m h k j (c.New rank v x) = cons refl (transfer_same m h k j x)
  transfer_same m h k j (c.In_contents x) = cons refl (transfer_same m h (held_kind k) j x)
  transfer_same m h k j (c.Take of) = cons refl none
  transfer_same m h k j (c.Fill of) = cons refl none

  free_same : (m : ℕ) (h : Site) (k : Kind) (x : w.Work) → Same (free_sites p m h k x) (free_sorts m (sorts_of h) x)
  free_same m h k x = cons refl (on (work_same m h k x) (cons refl (cons refl none)))

  module _ (m : ℕ) (r : Kind) (s : Scope) where
    dimensions_same : (h : List CellType) (bs : List Bounds) → Same (dimensions_sites p m r s h bs) (dimensions_sorts (forget h) bs)
    dimensions_same h [] = none
    dimensions_same h (b ∷ bs) = on (value_same r s h b.lower) (on (value_same r s (cell.Datum _ ∷ h) b.upper) (cons refl (dimensions_same (cell.Extent ∷ h) bs)))

    allocate_same : (h : List CellType) (xs : List c.Allocation) → Same (allocate_sites p m r s h xs) (allocate_sorts (forget h) xs)
    allocate_same h [] = cons refl none
    allocate_same h (x ∷ xs) = on (locate_same r s h x.object) (on (dimensions_same (cell.Object (object_at p r s x.object) ∷ h) x.bounds)
        (cons (extents_forget (length x.bounds) (cell.Object (object_at p r s x.object) ∷ h)) (cons refl (allocate_same h xs))))

    deallocate_same : (h : List CellType) (xs : List c.Deallocation) → Same (deallocate_sites p m r s h xs) (deallocate_sorts m (forget h) xs)
    deallocate_same h [] = cons refl none
    deallocate_same h (x ∷ xs) = on (locate_same r s h x.object) (on (free_same m (at r s h) _ x.free) (cons refl (deallocate_same h xs)))

    status_same : (h : List CellType) (x : Option d.Designator) → Same (status_sites p m r s h x) (status_sorts (forget h) x)
    status_same h None = cons refl none
    status_same h (Some d) = on (locate_same r s (cell.Status ∷ h) d) (cons refl none)

    bytes_same : (h : List CellType) (bs : List ℕ) → Same (bytes_sites p m r s h bs) (bytes_sorts (forget h) bs)
    bytes_same h [] = none
    bytes_same h (b ∷ bs) = cons refl (bytes_same h bs)

    items_same : (h : List CellType) (xs : List Item) → Same (items_sites p m r s h xs) (items_sorts (forget h) xs)
    items_same h [] = cons refl none
    items_same h (item.Value e ∷ xs) = on (value_same r s h e) (cons refl (items_same h xs))
    items_same h (item.Text t ∷ xs) = on (bytes_same h (32 ∷ t.items)) (items_same h xs)

    ranges_same : (h : List CellType) (xs : List Range) → Same (ranges_sites p m r s h xs) (ranges_sorts (forget h) xs)
    ranges_same h [] = none
    ranges_same h (x ∷ xs) = cons refl (cons refl (ranges_same h xs))

    selected_forget : (xs : List c.Selector) (h : List CellType) → forget (selectors_on (selected_at p m r s xs) h) ≡ times (length xs) sort.Selector ++ forget h
    selected_forget [] h = refl
    selected_forget (c.Bind d ∷ xs) h = selected_forget xs (cell.Selector _ ∷ h) ∙ times_on (length xs) sort.Selector (forget h)
    selected_forget (c.Hold of e x ∷ xs) h = selected_forget xs (cell.Selector _ ∷ h) ∙ times_on (length xs) sort.Selector (forget h)

    selectors_same : (h : List CellType) (xs : List c.Selector) → Same (selectors_sites p m r s h xs) (selectors_sorts (forget h) xs)
    selectors_same h [] = none
    selectors_same h (c.Bind d ∷ xs) = on (locate_same r s h d) (cons refl (selectors_same (cell.Selector _ ∷ h) xs))
    selectors_same h (c.Hold of e x ∷ xs) = on (value_same r s h e) (cons refl (selectors_same (cell.Selector _ ∷ h) xs))

    discards_same : (h : List CellType) (xs : List c.Selector) → Same (discards_sites p m r s h (selected_at p m r s xs) xs) (discards_sorts m (forget h) xs)
    discards_same h [] = none
    discards_same h (c.Bind d ∷ xs) = cons refl (cons refl (discards_same h xs))
    discards_same h (c.Hold of e x ∷ xs) = cons refl (on (work_same m (at r s (cell.Objects (selected_at p m r s xs) ∷ h)) (of_kind of (value_at p r s e).rank) x)
        (cons refl (discards_same h xs)))

    leaving_same : (h : List CellType) → Same (leaving_sites p m r s h) (leaving_sorts (forget h))
    leaving_same h = cons refl (cons refl (cons refl (cons refl none)))

    departing_same : (h : List CellType) (cells : ℕ) → Same (departing_sites p m r s h cells) (departing_sorts (forget h) cells)
    departing_same h cells = cons refl (cons refl (cons (drop_forget cells h) none))

    if_same : {t x y : List Site} {t' x' y' : List (List Sort)} (h : List CellType) → Same t t' → Same x x' → Same y y' →
        Same (if_sites p m r s h t x y) (if_sorts (forget h) t' x' y')
    if_same h t x y = on t (cons refl (on x (cons refl y)))

    case_same : {x y : List Site} {x' y' : List (List Sort)} (h : List CellType) (rs : List Range) → Same x x' → Same y y' →
        Same (case_sites p m r s h rs x y) (case_sorts (forget h) rs x' y')
    case_same h rs x y = on (ranges_same h rs) (cons refl (on x (cons refl y)))

    while_same : {t x : List Site} {t' x' : List (List Sort)} (h : List CellType) → Same t t' → Same x x' → Same (while_sites p m r s h t x) (while_sorts (forget h) t' x')
    while_same h t x = on t (cons refl (on x (cons refl none)))

    up_same : (h : List CellType) (x : d.Designator) → Same (up_sites p m r s h x) (up_sorts (forget h) x)
    up_same h d = on (locate_same r s (cell.Turns ∷ h) d) (cons refl none)

    turns_same : {x u : List Site} {x' u' : List (List Sort)} (h : List CellType) → Same x x' → Same u u' → Same (turns_sites p m r s h x u) (turns_sorts (forget h) x' u')
    turns_same h x u = cons refl (on x (on u (cons refl (cons refl none))))

    limits_same : {t : List Site} {t' : List (List Sort)} (h : List CellType) (k : Kind) (from to by : e.Expression) → Same t t' →
        Same (limits_sites p m r s h k from to by t) (limits_sorts (forget h) from to by t')
    limits_same h k from to by t = on (value_same r s h from) (cons refl (on (value_same r s (cell.Datum k ∷ h) to) (cons refl
        (on (value_same r s (cell.Datum k ∷ cell.Datum k ∷ h) by) (cons refl (cons refl t))))))

  module _ (m : ℕ) (r : Kind) where
    code_same : (s : Scope) (h : List CellType) (cells : ℕ) (x : c.Core) → Same (code_sites p m r s h cells x) (code_sorts m (forget h) cells x)
    code_same s h cells (c.At place true x) = cons refl (code_same s h cells x)
    code_same s h cells (c.At place false x) = code_same s h cells x
    code_same s h cells c.Skip = none
    code_same s h cells (c.Then x y) = on (code_same s h cells x) (code_same s h cells y)
    code_same s h cells (c.Assign d x e) = on (value_same r s h e) (on (locate_same r s (cell.Datum _ ∷ h) d) (transfer_same m (at r s h) _ _ x))
    code_same s h cells (c.Call e) = on (value_same r s h e) (cons refl none)
    code_same s h cells (c.Move true x d e) = on (locate_same r s h d) (on (locate_same r s (cell.Object _ ∷ h) e) (cons refl
        (on (work_same m (at r s (cell.Object (object_at p r s d) ∷ h)) _ x) (cons refl none))))
    code_same s h cells (c.Move false x d e) = on (locate_same r s h d) (on (locate_same r s (cell.Object _ ∷ h) e) (cons refl (cons refl
        (on (work_same m (at r s (cell.Object (object_at p r s e) ∷ h)) _ x) (cons refl none)))))
    code_same s h cells (c.Allocate xs stat) = on (allocate_same m r s h xs) (status_same m r s h stat)
    code_same s h cells (c.Deallocate xs stat) = on (deallocate_same m r s h xs) (status_same m r s h stat)
    code_same s h cells (c.Print xs) = items_same m r s h xs
    code_same s h cells (c.Stop number) = cons refl none
    code_same s h cells c.Return = cons refl (cons refl (cons (drop_forget cells h) none))
    code_same s h cells c.Cycle = cons refl none
    code_same s h cells c.Exit = cons refl none
    code_same s h cells (c.If e x y) = if_same m r s h (value_same r s h e) (code_same s h cells x) (code_same s h cells y)
    code_same s h cells (c.Select e x) =
        let inner = selecting (value_at p r s e) s in
        on (value_same r s h e) (cons refl (on (code_same inner (cell.Outside s ∷ h) 0 x) (on (leaving_same m r inner (cell.Outside s ∷ h)) (departing_same m r s h cells))))
    code_same s h cells (c.Case rs x y) = case_same m r s h rs (code_same s h cells x) (code_same s h cells y)
    code_same s h cells (c.While e x) = while_same m r s h (value_same r s h e) (code_same s h cells x)
    code_same s h cells (c.Count d k from to by x) =
        let j = of_kind k.of 0 in
        limits_same m r s h j from to by (on (locate_same r s (cell.Datum j ∷ cell.Datum j ∷ cell.Datum j ∷ h) d)
        (cons refl (turns_same m r s h (code_same s (cell.Turns ∷ h) (suc cells) x) (up_same m r s h d))))
    code_same s h cells (c.Associate xs x) =
        let ks = selected_at p m r s xs in let inner = associating ks s in
        on (selectors_same m r s h xs) (cons (selected_forget m r s xs h) (on (code_same inner (cell.Outside s ∷ cell.Level ks ∷ h) 0 x)
        (on (leaving_same m r inner (cell.Outside s ∷ cell.Level ks ∷ h)) (cons refl (on (discards_same m r s (cell.Going ∷ cell.Level ks ∷ h) xs)
        (cons refl (departing_same m r s h cells)))))))

  -- ---- procedures

  each_same : (m : ℕ) (h : Site) (f : Dummy → w.Work) (ds : List Dummy) → Same (each_sites p m h (kinds_of ds) (map f ds)) (each_sorts m (sorts_of h) (map f ds))
  each_same m h f [] = none
  each_same m h f (d ∷ ds) = cons refl (on (work_same m (stacked (cell.Objects (kinds_of ds) ∷ []) h) d.kind (f d)) (cons refl (each_same m h f ds)))

  finish_same : (m : ℕ) (r : Kind) (s : Scope) (n : ℕ) (xs : List w.Work) → Same (finish_sites p m (at r s []) n xs) (finish_sorts m xs)
  finish_same m r s n [] = none
  finish_same m r s n (x ∷ xs) = cons refl (on (work_same m (at r s []) (variable_kind (Told s) n) x) (cons refl (finish_same m r s (suc n) xs)))

  body_same : (m : ℕ) (q : Procedure) → Same (body_sites p m (lowered_procedure (setting_of p) q)) (body_sorts m (lowered_procedure (setting_of p) q))
  body_same m q =
      let x = lowered_procedure (setting_of p) q in let r = returns_of p x in let s = scope_of p x in
      cons refl (on (each_same m (at r s []) (λ (d : Dummy). out_work (setting_of p) d.intent d.kind) q.dummies.items) (cons refl (on (code_same m r s [] 0 x.body)
      (cons refl (cons refl (on (finish_same m r s 0 x.finish) (cons refl (cons refl (on (each_same m (outward p r (cell.Datum r ∷ []))
      (λ (d : Dummy). discard_work d.kind) q.dummies.items) (cons refl none))))))))))

  procedures_same : (m : ℕ) (qs : List Procedure) → Same (procedures_sites p m (map (lowered_procedure (setting_of p)) qs)) (procedures_sorts m (map (lowered_procedure (setting_of p)) qs))
  procedures_same m [] = none
  procedures_same m (q ∷ qs) = on (body_same m q) (procedures_same m qs)

  routines_same : (xs : List w.Work) → Same (routines_sites p xs) (routines_sorts xs)
  routines_same [] = none
  routines_same (x ∷ xs) = on (work_same (length xs) (in_routine (length xs)) _ x) (cons refl (routines_same xs))

  program_same : Same (program_sites p) (program_sorts (lowered_program p))
  program_same =
      let x = lowered_program p in let q = x.main in
      on (on (code_same (length x.routines) (returns_of p q) (scope_of p q) [] 0 q.body) (cons refl (cons refl none)))
      (on (routines_same x.routines) (procedures_same (length x.routines) p.procedures.items))

pub kinds_have_sorts : (p : Program) (pc : ℕ) → map sort_of_type (site_at p pc).cells ≡ slice_index_or (program_sorts (lowered_program p)) pc []
kinds_have_sorts p pc = sym (get_or-map sorts_of (program_sites p) pc nowhere) ∙ ap (λ l. slice_index_or l pc []) (program_same p).by
