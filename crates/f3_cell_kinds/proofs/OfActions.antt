-- The kinds of the code of actions.
use Rattle.std.proofs.Common.{refl, ◌≡◌, ◌∙◌, sym, ap, ℕ, zero, suc, ◌+◌, true, false, ◌&&◌, List, [], ◌∷◌, ◌++◌, map, length, Option, Some, None, subst, arith, length-append}
use Rattle.std.proofs.lemmas.Bool.{eqb-true}
use Rattle.f3_places.specs.declared.source.Place.{Place}
use Rattle.f3_program.specs.declared.declarations.Kind.{Kind}
use Rattle.f3_program.specs.declared.expression.Designator.{Designator}
use Rattle.f3_program.specs.declared.statement.Bounds.{Bounds}
use Rattle.f3_program.specs.declared.statement.Item.{Item}
use Rattle.f3_program.specs.declared.statement.Item.TheVariants as item
use Rattle.f3_program.specs.declared.statement.Range.{Range}
use Rattle.f3_program.specs.declared.statement.Request.{Request}
use Rattle.f3_program.specs.declared.statement.Selector.{Selector}
use Rattle.f3_program.specs.declared.statement.Selector.TheVariants as selector
use Rattle.f3_program.specs.declared.program.Program.{Program}
use Rattle.f3_meaning_whole.specs.Formed.{all, given_all, of_kind, is_whole_number, value_kind, object_kind, is_status, is_bound, is_request, has_bounds, is_item, selected}
use Rattle.f3_meaning_whole.specs.Run.{setting_of}
use Rattle.f3_code.specs.Work as w
use Rattle.f3_code.specs.Lower.{initial, destroy_work, discard_work, allocation, deallocation}
use Rattle.f3_code.specs.Lower as lower
use Rattle.f3_code.specs.declared.instruction.Instruction.TheVariants as i
use Rattle.f3_code.specs.State.{Line, line, line_with}
use Rattle.f3_code.specs.Code.{work_code, dimensions_code, allocate_code, free_code, deallocate_code, status_code, bytes_code, items_code, ranges_code, selectors_code, discards_code}
use Rattle.f3_cell_kinds.specs.Types.{CellType, Scope, Site, selectors_on}
use Rattle.f3_cell_kinds.specs.Types as cell
use Rattle.f3_cell_kinds.specs.Effect.{truth, range_fits, extents_on}
use Rattle.f3_cell_kinds.specs.Values.{at, value_at, object_at}
use Rattle.f3_cell_kinds.specs.Program.{dimensions_sites, allocate_sites, free_sites, deallocate_sites, status_sites, bytes_sites, items_sites, ranges_sites, selected_at, selectors_sites, discards_sites}
use Rattle.f3_cell_kinds.specs.Sense.{none_or, object_fits, bounds_fit, request_fits, item_fits, selector_fits}
use Rattle.f3_cell_kinds.proofs.Asked.{some_same, found_is, found_kind, only_is, and_is, not_is, some_kind, kinds_same, kind_same}
use Rattle.f3_cell_kinds.proofs.Parts.{same_at, same_site, in_scope, Part, Onto, wider, nothing, seq, before, Falls, plain, first, last}
use Rattle.f3_cell_kinds.proofs.Steps.{fork_leads, drops}
use Rattle.f3_cell_kinds.proofs.Valued.{value_held}
use Rattle.f3_cell_kinds.proofs.OfValues.{value_part, object_part}
use Rattle.f3_cell_kinds.proofs.OfWork.{WorkFits, work_part}
use Rattle.f3_cell_kinds.proofs.Fitting.{FinalsFit, contents_fit, discard_fits}

pub extents_over : (n : ℕ) (xs h : List CellType) → extents_on n (xs ++ h) ≡ extents_on n xs ++ h
extents_over zero xs h = refl
extents_over (suc n) xs h = extents_over n (cell.Extent ∷ xs) h

pub selectors_over : (ks : List Kind) (xs h : List CellType) → selectors_on ks (xs ++ h) ≡ selectors_on ks xs ++ h
selectors_over [] xs h = refl
selectors_over (k ∷ ks) xs h = selectors_over ks (cell.Selector k ∷ xs) h

module _ (p : Program) (sites : ℕ → Site) (finals : FinalsFit p) (m : ℕ) (r : Kind) (s : Scope) (o : Option Place) where
  pub stack_same : {l : Line} {y : Site} (h h' : List CellType) → h ≡ h' → Falls p sites l (at r s h) y → Falls p sites l (at r s h') y
  stack_same {l = l} {y = y} h h' e f = subst (λ x. Falls p sites l (at r s x) y) e f

  dimensions_part : (bs : List Bounds) (h : List CellType) → all (is_bound p s.variables s.names) bs ≡ true → all (bounds_fit p s) bs ≡ true →
      Part p sites (Onto p sites (at r s (extents_on (length bs) h))) (dimensions_code o bs) (dimensions_sites p m r s h bs) (at r s h)
  dimensions_part [] h are fit = nothing p sites (at r s h)
  dimensions_part (b ∷ bs) h are fit =
      let a = and_is _ _ are in let a' = and_is _ _ a.0 in
      let f = and_is _ _ fit in let f' = and_is _ _ f.0 in
      let v = some_kind (value_kind p s.variables s.names b.lower) is_whole_number a'.0 in
      let v' = some_kind (value_kind p s.variables s.names b.upper) is_whole_number a'.1 in
      let k = value_at p r s b.lower in let j = value_at p r s b.upper in
      seq p sites (value_part p sites r s b.lower o h k v.0 f'.0) (seq p sites (value_part p sites r s b.upper o (cell.Datum k ∷ h) j v'.0 f'.1)
      (first p sites (plain p sites (line o i.Dimension) (at r s h) (cell.Datum j ∷ cell.Datum k ∷ []) (cell.Extent ∷ []) (λ pc live c b. (k, j, v.1, v'.1, b)))
      (dimensions_part bs (cell.Extent ∷ h) a.1 f.1)))

  pub allocate_part : (rs : List Request) (h : List CellType) →
      all (λ (x : Request). is_request p s.variables s.names x && has_bounds p s.variables s.names x) rs ≡ true → all (request_fits p s) rs ≡ true →
      Part p sites (Onto p sites (at r s (cell.Status ∷ h))) (allocate_code o (map (allocation (setting_of p)) rs))
      (allocate_sites p m r s h (map (allocation (setting_of p)) rs)) (at r s h)
  allocate_part [] h are fit = last p sites (plain p sites (line o i.NoError) (at r s h) [] (cell.Status ∷ []) (λ pc live c b. b))
  allocate_part (x ∷ xs) h are fit =
      let a = and_is _ _ are in let a' = and_is _ _ a.0 in let q = and_is _ _ a'.0 in let q' = and_is _ _ q.1 in
      let f = and_is _ _ fit in let f' = and_is _ _ f.0 in
      let v = some_kind (object_kind p s.variables s.names x.object) _ q'.0 in
      let k = object_at p r s x.object in
      let same : x.kind ≡ k = kinds_same p s.variables s.names x.kind k v.1 in
      let n = length x.bounds.items in
      let held : k.is_allocatable ≡ true = ap (λ (y : Kind). y.is_allocatable) (sym same) ∙ q.0 in
      let rank : k.rank ≡ x.kind.rank = ap (λ (y : Kind). y.rank) (sym same) in
      let start : initial (setting_of p) x.kind.of ≡ initial (setting_of p) k.of = ap (λ (y : Kind). initial (setting_of p) y.of) same in
      seq p sites (object_part p sites r s x.object o h k v.0 f'.0) (seq p sites (dimensions_part x.bounds.items (cell.Object k ∷ h) q'.1 f'.1)
      (first p sites (stack_same _ _ (sym (extents_over n (cell.Object k ∷ []) h))
      (plain p sites (line_with o (initial (setting_of p) x.kind.of) (i.Allocate x.kind.rank n)) (at r s h) (extents_on n (cell.Object k ∷ [])) (cell.Status ∷ [])
      (λ pc live c b. (k, held, rank, eqb-true n x.kind.rank a'.1, start, b))))
      (before p sites (line o (i.SkipIfFailed (length (allocate_code o (map (allocation (setting_of p)) xs)))))
      (λ pc is next out t. fork_leads p sites (at r s h) (cell.Status ∷ []) [] (cell.Status ∷ []) _ pc refl is next out) (allocate_part xs h a.1 f.1))))

  free_part : (x : w.Work) (h : List CellType) (k : Kind) → k.is_allocatable ≡ true → WorkFits p k x →
      Part p sites (Onto p sites (at r s (cell.Status ∷ h))) (free_code m o x) (free_sites p m (at r s h) k x) (at r s (cell.Object k ∷ h))
  free_part x h k held fits =
      let cx = work_code m o x in
      before p sites (line o (i.TestFree (length cx + 2))) (λ pc is next out t.
      let e : pc + 1 + (length cx + 2) ≡ pc + 1 + length (cx ++ (line o i.Drop ∷ line o i.NoError ∷ [])) =
      omega (arith, length-append cx (line o i.Drop ∷ line o i.NoError ∷ [])) in
      let end = same_at p sites {h = at r s (cell.Status ∷ h)} (pc + 1 + (length cx + 2)) _ e out in
      (k, held, fork_leads p sites (at r s h) (cell.Object k ∷ []) (cell.Object k ∷ []) (cell.Status ∷ []) (length cx + 2) pc refl is next end))
      (seq p sites (work_part p sites m o x (at r s h) k (λ live. fits)) (first p sites (drops p sites o (at r s h) (cell.Object k))
      (last p sites (plain p sites (line o i.NoError) (at r s h) [] (cell.Status ∷ []) (λ pc live c b. b)))))

  pub deallocate_part : (rs : List Request) (h : List CellType) → all (is_request p s.variables s.names) rs ≡ true → all (request_fits p s) rs ≡ true →
      Part p sites (Onto p sites (at r s (cell.Status ∷ h))) (deallocate_code m o (map (deallocation (setting_of p)) rs))
      (deallocate_sites p m r s h (map (deallocation (setting_of p)) rs)) (at r s h)
  deallocate_part [] h are fit = last p sites (plain p sites (line o i.NoError) (at r s h) [] (cell.Status ∷ []) (λ pc live c b. b))
  deallocate_part (x ∷ xs) h are fit =
      let a = and_is _ _ are in let q = and_is _ _ a.0 in let q' = and_is _ _ q.1 in
      let f = and_is _ _ fit in let f' = and_is _ _ f.0 in
      let v = some_kind (object_kind p s.variables s.names x.object) _ q'.0 in
      let k = object_at p r s x.object in
      let same : x.kind ≡ k = kinds_same p s.variables s.names x.kind k v.1 in
      let held : k.is_allocatable ≡ true = ap (λ (y : Kind). y.is_allocatable) (sym same) ∙ q.0 in
      let free : WorkFits p k (w.Of_contents (destroy_work (setting_of p) x.kind.of)) =
      subst (λ (y : Kind). WorkFits p k (w.Of_contents (destroy_work (setting_of p) y.of))) (sym same) (contents_fit p finals k held) in
      seq p sites (object_part p sites r s x.object o h k v.0 f'.0) (seq p sites (free_part (w.Of_contents (destroy_work (setting_of p) x.kind.of)) h k held free)
      (before p sites (line o (i.SkipIfFailed (length (deallocate_code m o (map (deallocation (setting_of p)) xs)))))
      (λ pc is next out t. fork_leads p sites (at r s h) (cell.Status ∷ []) [] (cell.Status ∷ []) _ pc refl is next out) (deallocate_part xs h a.1 f.1)))

  pub status_part : (x : Option Designator) (h : List CellType) → is_status p s.variables s.names x ≡ true → none_or x (object_fits p s) ≡ true →
      Part p sites (Onto p sites (at r s h)) (status_code o x) (status_sites p m r s h x) (at r s (cell.Status ∷ h))
  status_part None h is fit = last p sites (plain p sites (line o i.Check) (at r s h) (cell.Status ∷ []) [] (λ pc live c b. b))
  status_part (Some d) h is fit =
      let v = some_kind (object_kind p s.variables s.names d) _ is in
      let k = object_at p r s d in
      seq p sites (object_part p sites r s d o (cell.Status ∷ h) k v.0 fit)
      (last p sites (plain p sites (line o i.StoreStatus) (at r s h) (cell.Object k ∷ cell.Status ∷ []) [] (λ pc live c b. (k, v.1, b))))

  bytes_part : (bs : List ℕ) (h : List CellType) → Part p sites (Onto p sites (at r s h)) (bytes_code o bs) (bytes_sites p m r s h bs) (at r s h)
  bytes_part [] h = nothing p sites (at r s h)
  bytes_part (b ∷ bs) h = first p sites (plain p sites (line o (i.PrintByte b)) (at r s h) [] [] (λ pc live c b. b)) (bytes_part bs h)

  pub items_part : (xs : List Item) (h : List CellType) → all (is_item p s.variables s.names) xs ≡ true → all (item_fits p s) xs ≡ true →
      Part p sites (Onto p sites (at r s h)) (items_code o xs) (items_sites p m r s h xs) (at r s h)
  items_part [] h are fit = last p sites (plain p sites (line o (i.PrintByte 10)) (at r s h) [] [] (λ pc live c b. b))
  items_part (item.Value e ∷ xs) h are fit =
      let a = and_is _ _ are in let f = and_is _ _ fit in
      let v = some_kind (value_kind p s.variables s.names e) _ a.0 in
      let k = value_at p r s e in
      seq p sites (value_part p sites r s e o h k v.0 f.0)
      (first p sites (plain p sites (line o i.PrintValue) (at r s h) (cell.Datum k ∷ []) [] (λ pc live c b. (k, v.1, b))) (items_part xs h a.1 f.1))
  items_part (item.Text t ∷ xs) h are fit = seq p sites (bytes_part (32 ∷ t.items) h) (items_part xs h are fit)

  -- to the line behind, or to the one behind that
  pub ranges_part : (xs : List Range) (k : Kind) (h : List CellType) → s.selected ≡ Some k → all (range_fits k.of) xs ≡ true →
      Part p sites (λ e. (sites e ≡ at r s h) × (sites (e + 1) ≡ at r s h)) (ranges_code o xs) (ranges_sites p m r s h xs) (at r s h)
  ranges_part [] k h is fit = wider p sites (λ e out live. out.0) (nothing p sites (at r s h))
  ranges_part (x ∷ xs) k h is fit =
      let f = and_is _ _ fit in
      first p sites (plain p sites (line o (i.Meets x)) (at r s h) [] (cell.Datum truth ∷ []) (λ pc live c b. in_scope (sites pc).scope s _ c (k, is, f.0, b)))
      (before p sites (line o (i.SkipIfTrue (length (ranges_code o xs) + 1))) (λ pc next' next out t.
      let far = same_site p sites (pc + 1 + (length (ranges_code o xs) + 1)) (pc + 1 + length (ranges_code o xs) + 1) (omega arith) out.1 in
      fork_leads p sites (at r s h) (cell.Datum truth ∷ []) [] [] _ pc refl next' next (λ live. far)) (ranges_part xs k h is f.1))

  -- ---- selectors

  selected_is : (x : Selector) (k : Kind) → selected p s.variables s.names x ≡ Some k → selector_fits p s x ≡ true →
      k ∷ [] ≡ selected_at p m r s (lower.selecting (setting_of p) x ∷ [])
  selected_is (selector.Variable d) k is fit =
      let f = found_kind (object_kind p s.variables s.names d) _ k is in
      let g = only_is _ _ k f.1 in
      ap (λ (y : Kind). y ∷ []) (sym g.1)
  selected_is (selector.Value j e) k is fit =
      let f = found_kind (value_kind p s.variables s.names e) _ k is in
      let g = only_is _ j k f.1 in
      let a = and_is _ _ g.0 in
      let w = and_is _ _ fit in
      ap (λ (y : Kind). y ∷ []) (sym g.1 ∙ kind_same j j.of (value_at p r s e).rank false refl (eqb-true _ _ a.1) (not_is _ w.0))

  pub selected_are : (xs : List Selector) (ks : List Kind) → given_all (map (selected p s.variables s.names) xs) ≡ Some ks → all (selector_fits p s) xs ≡ true →
      ks ≡ selected_at p m r s (map (lower.selecting (setting_of p)) xs)
  selected_are [] ks is fit = sym (some_same is)
  selected_are (selector.Variable d ∷ xs) ks is fit =
      let f = found_is _ _ ks is in let g = found_is _ _ ks f.2 in let w = and_is _ _ fit in
      let same : f.0 ∷ g.0 ≡ ks = some_same g.2 in
      sym same ∙ ap (λ l. l ++ g.0) (selected_is (selector.Variable d) f.0 f.1 w.0) ∙ ap (λ l. object_at p r s d ∷ l) (selected_are xs g.0 g.1 w.1)
  selected_are (selector.Value j e ∷ xs) ks is fit =
      let f = found_is _ _ ks is in let g = found_is _ _ ks f.2 in let w = and_is _ _ fit in
      let same : f.0 ∷ g.0 ≡ ks = some_same g.2 in
      sym same ∙ ap (λ l. l ++ g.0) (selected_is (selector.Value j e) f.0 f.1 w.0) ∙ ap (λ l. of_kind j.of (value_at p r s e).rank ∷ l) (selected_are xs g.0 g.1 w.1)

  pub selectors_part : (xs : List Selector) (ks : List Kind) (h : List CellType) → given_all (map (selected p s.variables s.names) xs) ≡ Some ks →
      all (selector_fits p s) xs ≡ true →
      Part p sites (Onto p sites (at r s (selectors_on (selected_at p m r s (map (lower.selecting (setting_of p)) xs)) h)))
      (selectors_code o (map (lower.selecting (setting_of p)) xs)) (selectors_sites p m r s h (map (lower.selecting (setting_of p)) xs)) (at r s h)
  selectors_part [] ks h is fit = nothing p sites (at r s h)
  selectors_part (selector.Variable d ∷ xs) ks h is fit =
      let f = found_is _ _ ks is in let g = found_is _ _ ks f.2 in let w = and_is _ _ fit in
      let v = found_kind (object_kind p s.variables s.names d) _ f.0 f.1 in
      let k = object_at p r s d in
      let held = only_is _ k f.0 v.1 in
      seq p sites (object_part p sites r s d o h k v.0 w.0)
      (first p sites (plain p sites (line o i.SelectVariable) (at r s h) (cell.Object k ∷ []) (cell.Selector k ∷ []) (λ pc live c b. (k, not_is _ held.0, b)))
      (selectors_part xs g.0 (cell.Selector k ∷ h) g.1 w.1))
  selectors_part (selector.Value j e ∷ xs) ks h is fit =
      let f = found_is _ _ ks is in let g = found_is _ _ ks f.2 in let w = and_is _ _ fit in let w' = and_is _ _ w.0 in
      let v = found_kind (value_kind p s.variables s.names e) _ f.0 f.1 in
      let k = value_at p r s e in
      let q = only_is _ j f.0 v.1 in let a = and_is _ _ q.0 in
      seq p sites (value_part p sites r s e o h k v.0 w'.1)
      (first p sites (plain p sites (line o (i.SelectValue j.of)) (at r s h) (cell.Datum k ∷ []) (cell.Selector (of_kind j.of k.rank) ∷ []) (λ pc live c b. (k, value_held p s.variables s.names e k v.0, a.0, b)))
      (selectors_part xs g.0 (cell.Selector (of_kind j.of k.rank) ∷ h) g.1 w.1))

  pub discards_part : (xs : List Selector) (h : List CellType) →
      Part p sites (Onto p sites (at r s (cell.Objects [] ∷ h))) (discards_code m o (map (lower.selecting (setting_of p)) xs))
      (discards_sites p m r s h (selected_at p m r s (map (lower.selecting (setting_of p)) xs)) (map (lower.selecting (setting_of p)) xs))
      (at r s (cell.Objects (selected_at p m r s (map (lower.selecting (setting_of p)) xs)) ∷ h))
  discards_part [] h = nothing p sites (at r s (cell.Objects [] ∷ h))
  discards_part (selector.Variable d ∷ xs) h =
      let k = object_at p r s d in
      let ks = selected_at p m r s (map (lower.selecting (setting_of p)) xs) in
      first p sites (plain p sites (line o (i.NextObject 1)) (at r s h) (cell.Objects (k ∷ ks) ∷ []) (cell.Object k ∷ cell.Objects ks ∷ []) (λ pc live c b. (k, ks, b)))
      (first p sites (drops p sites o (at r s (cell.Objects ks ∷ h)) (cell.Object k)) (discards_part xs h))
  discards_part (selector.Value j e ∷ xs) h =
      let k = of_kind j.of (value_at p r s e).rank in
      let x = discard_work j in
      let ks = selected_at p m r s (map (lower.selecting (setting_of p)) xs) in
      first p sites (plain p sites (line o (i.NextObject (length (work_code m o x) + 1))) (at r s h) (cell.Objects (k ∷ ks) ∷ []) (cell.Object k ∷ cell.Objects ks ∷ [])
      (λ pc live c b. (k, ks, b)))
      (seq p sites (work_part p sites m o x (at r s (cell.Objects ks ∷ h)) k (λ live. discard_fits p j k))
      (first p sites (drops p sites o (at r s (cell.Objects ks ∷ h)) (cell.Object k)) (discards_part xs h)))
