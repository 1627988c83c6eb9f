-- In the code of a program nothing but plain cells goes by itself.
use Rattle.std.proofs.Common.{◌≡◌, sym, ℕ, zero, suc, ◌+◌, Bool, true, false, List, [], ◌∷◌, ◌++◌, length, Option, Some, None, subst, if◌then◌else◌}
use Rattle.std.specs.Prelude.{nat_lt, slice_get, slice_index_or}
use Rattle.f3_places.specs.declared.source.Place.{Place}
use Rattle.f3_program.specs.declared.declarations.Kind.{Kind}
use Rattle.f3_program.specs.declared.expression.Argument as a
use Rattle.f3_program.specs.declared.expression.Designator as d
use Rattle.f3_program.specs.declared.expression.Expression as e
use Rattle.f3_program.specs.declared.expression.Selection as l
use Rattle.f3_program.specs.declared.expression.Subscript as u
use Rattle.f3_program.specs.declared.program.Program.{Program}
use Rattle.f3_program.specs.declared.statement.Bounds.{Bounds}
use Rattle.f3_program.specs.declared.statement.Item.{Item}
use Rattle.f3_program.specs.declared.statement.Item.TheVariants as item
use Rattle.f3_program.specs.declared.statement.Range.{Range}
use Rattle.f3_code.specs.Work as w
use Rattle.f3_code.specs.Core as c
use Rattle.f3_code.specs.Lower.{lowered_program}
use Rattle.f3_code.specs.declared.instruction.Instruction.TheVariants as i
use Rattle.f3_code.specs.State.{Line, line}
use Rattle.f3_code.specs.Code.{value_code, bounds_code, argument_code, arguments_code, locate_code, select_code, select_of_code, chosen_code, subscript_code, work_code, transfer_code, dimensions_code, allocate_code, free_code, deallocate_code, status_code, bytes_code, items_code, ranges_code, selectors_code, discards_code, Ways, farther, looped, counting, scoped, leaving_code, departing_code, if_code, case_code, while_code, up_code, turns_code, limits_code, code_of, begin_code, finish_code, discard_code, body_ways, last_code, body_code, main_ways, main_code, procedures_code, routines_code, program_code}
use Rattle.f3_sorts.specs.Effect.{Sort}
use Rattle.f3_sorts.specs.Effect as sort
use Rattle.f3_sorts.specs.Program.{allocate_sorts, argument_sorts, arguments_sorts, body_sorts, bounds_sorts, bytes_sorts, case_sorts, chosen_sorts, code_sorts, deallocate_sorts, departing_sorts, dimensions_sorts, discards_sorts, each_sorts, finish_sorts, free_sorts, if_sorts, items_sorts, last_sorts, leaving_sorts, limits_sorts, locate_sorts, main_sorts, procedures_sorts, program_sorts, ranges_sorts, routines_sorts, select_of_sorts, select_sorts, selectors_sorts, status_sorts, subscript_sorts, transfer_sorts, turns_sorts, up_sorts, value_sorts, while_sorts, work_sorts}
use Rattle.f3_cell_kinds.specs.Laws.{site_at}
use Rattle.f3_cell_kinds.proofs.Sorting.{kinds_have_sorts}
use Rattle.f3_sorts.specs.Effect.{times}
use Rattle.f3_store_kinds.specs.Clean.{ArePlain, IsAmid, IsClean, AreClean}

-- lines with the sorts of the cells that stand there
AllClean : List Line → List (List Sort) → Type 0
AllClean [] [] = Unit {0}
AllClean (x ∷ ls) (h ∷ hs) = IsClean x.act h × AllClean ls hs
AllClean ls hs = ⊥

record Clean (ls : List Line) (hs : List (List Sort)) : Type 0 where
  by : AllClean ls hs

none : Clean [] []
unfolding AllClean
none = record { by = tt }

cons : {x : Line} {h : List Sort} {ls : List Line} {hs : List (List Sort)} → IsClean x.act h → Clean ls hs → Clean (x ∷ ls) (h ∷ hs)
unfolding AllClean
cons e f = record { by = (e, f.by) }

all_on : (ls ks : List Line) (hs js : List (List Sort)) → AllClean ls hs → AllClean ks js → AllClean (ls ++ ks) (hs ++ js)
unfolding AllClean
all_on [] ks [] js e f = f
all_on [] ks (h ∷ hs) js e f = absurd e
all_on (x ∷ ls) ks [] js e f = absurd e
all_on (x ∷ ls) ks (h ∷ hs) js e f = (e.0, all_on ls ks hs js e.1 f)

on : {ls ks : List Line} {hs js : List (List Sort)} → Clean ls hs → Clean ks js → Clean (ls ++ ks) (hs ++ js)
on {ls = ls} {ks = ks} {hs = hs} {js = js} e f = record { by = all_on ls ks hs js e.by f.by }

limit_clean : {ls : List Line} {hs : List (List Sort)} (b : Bool) (o : Option Place) (h : List Sort) → Clean ls hs →
    Clean (if b then ls ++ line o i.Limit ∷ [] else line o i.NoLimit ∷ []) (if b then hs ++ (sort.Datum ∷ h) ∷ [] else h ∷ [])
limit_clean true o h e = on e (cons tt none)
limit_clean false o h e = cons tt none

routine_clean : (b : Bool) (o : Option Place) (t : ℕ) (h : List Sort) → Clean (if b then line o (i.Routine t) ∷ [] else []) (if b then (sort.Object ∷ h) ∷ [] else [])
routine_clean true o t h = cons tt none
routine_clean false o t h = none

mutual
  value_clean : (o : Option Place) (h : List Sort) (x : e.Expression) → Clean (value_code o x) (value_sorts h x)
  value_clean o h (e.Literal c) = cons tt none
  value_clean o h (e.Variable' p x) = on (locate_clean o h x) (cons tt none)
  value_clean o h (e.Group' p x) = on (value_clean o h x) (cons tt none)
  value_clean o h (e.Unary' c t p x) = on (value_clean o h x) (cons tt none)
  value_clean o h (e.Binary' c t p x q y) = on (value_clean o h x) (on (value_clean o (sort.Datum ∷ h) y) (cons tt none))
  value_clean o h (e.Array' k xs) = on (arguments_clean o h xs) (cons tt none)
  value_clean o h (e.Structure' t k xs) = on (arguments_clean o h xs) (cons tt none)
  value_clean o h (e.Call' f k xs) = on (arguments_clean o h xs) (cons tt (cons tt none))
  value_clean o h (e.Allocated' p x) = on (locate_clean o h x) (cons tt none)
  value_clean o h (e.Size' p x) = on (bounds_clean o h x) (cons tt none)
  value_clean o h (e.Bound' q p x r y) = on (bounds_clean o h x) (on (value_clean o (sort.Bounds ∷ h) y) (cons tt none))

  bounds_clean : (o : Option Place) (h : List Sort) (x : a.Argument) → Clean (bounds_code o x) (bounds_sorts h x)
  bounds_clean o h (a.Value' k p x) = on (value_clean o h x) (cons tt none)
  bounds_clean o h (a.Variable' k p x) = on (locate_clean o h x) (cons tt none)

  argument_clean : (o : Option Place) (h : List Sort) (x : a.Argument) → Clean (argument_code o x) (argument_sorts h x)
  argument_clean o h (a.Value' k p x) = on (value_clean o h x) (cons tt none)
  argument_clean o h (a.Variable' k p x) = on (locate_clean o h x) (cons tt none)

  arguments_clean : {m : _} (o : Option Place) (h : List Sort) (x : e.Row_of-Argument m) → Clean (arguments_code o x) (arguments_sorts h x)
  arguments_clean o h e.end_of-Argument = none
  arguments_clean o h (e.more_of-Argument x rest) = on (argument_clean o h x) (arguments_clean o (sort.Argument ∷ h) rest)

  locate_clean : (o : Option Place) (h : List Sort) (x : d.Designator) → Clean (locate_code o x) (locate_sorts h x)
  locate_clean o h (d.Name x how) = cons tt (select_clean o h how)
  locate_clean o h (d.Component' p x k how) = on (locate_clean o h x) (select_of_clean o h k how)

  select_clean : (o : Option Place) (h : List Sort) (x : l.Selection) → Clean (select_code o x) (select_sorts h x)
  select_clean o h l.Whole = none
  select_clean o h l.Contents = cons tt none
  select_clean o h (l.Elements' is_opened k xs) = on (chosen_clean o (sort.Object ∷ h) xs) (cons tt none)

  select_of_clean : (o : Option Place) (h : List Sort) (n : ℕ) (x : l.Selection) → Clean (select_of_code o n x) (select_of_sorts h x)
  select_of_clean o h n l.Whole = cons tt none
  select_of_clean o h n l.Contents = cons tt (cons tt none)
  select_of_clean o h n (l.Elements' is_opened k xs) = cons tt (on (chosen_clean o (sort.Object ∷ sort.Object ∷ h) xs) (cons tt none))

  chosen_clean : {m : _} (o : Option Place) (h : List Sort) (x : l.Row_of-Subscript m) → Clean (chosen_code o x) (chosen_sorts h x)
  chosen_clean o h l.end_of-Subscript = none
  chosen_clean o h (l.more_of-Subscript x rest) = on (subscript_clean o h x) (chosen_clean o (sort.Choice ∷ h) rest)

  subscript_clean : (o : Option Place) (h : List Sort) (x : u.Subscript) → Clean (subscript_code o x) (subscript_sorts h x)
  subscript_clean o h (u.At' p x) = on (value_clean o h x) (cons tt none)
  subscript_clean o h (u.Range' has_lower p x has_upper q y r z) = on (limit_clean has_lower o h (value_clean o h x))
      (on (limit_clean has_upper o (sort.Bound ∷ h) (value_clean o (sort.Bound ∷ h) y)) (on (value_clean o (sort.Bound ∷ sort.Bound ∷ h) z) (cons tt none)))

-- ---- work on an object, above such cells

work_clean : (m : ℕ) (o : Option Place) (h : List Sort) (x : w.Work) → Clean (work_code m o x) (work_sorts m h x)
work_clean m o h w.Rest = none
work_clean m o h (w.And x y) = on (work_clean m o h x) (work_clean m o h y)
work_clean m o h (w.Lending x) = cons tt (on (work_clean m o h x) (cons tt none))
work_clean m o h (w.Of_rank rank x y) = cons tt (on (work_clean m o h x) (cons tt (work_clean m o h y)))
work_clean m o h (w.Final f) = cons tt (cons tt (cons (tt, tt) none))
work_clean m o h (w.Routine t) = routine_clean (nat_lt t m) o t h
work_clean m o h (w.Of_component k x) = cons tt (on (work_clean m o (sort.Object ∷ h) x) (cons (tt, tt) none))
work_clean m o h (w.Of_elements x) = cons tt (cons tt (on (work_clean m o (sort.Elements ∷ sort.Object ∷ h) x) (cons (tt, tt) (cons tt none))))
work_clean m o h (w.If_allocated x) = cons tt (work_clean m o h x)
work_clean m o h (w.Of_contents x) = cons tt (on (work_clean m o (sort.Object ∷ h) x) (cons (tt, tt) (cons tt none)))
work_clean m o h w.Clear = cons tt none
work_clean m o h (w.Set v) = cons tt none
work_clean m o h w.Discard = cons tt none

-- ---- parts of statements

transfer_clean : (m : ℕ) (o : Option Place) (h : List Sort) (x : c.Transfer) → Clean (transfer_code m o x) (transfer_sorts m h x)
transfer_clean m o h (c.Conforming x) = cons tt (transfer_clean m o h x)
transfer_clean m o h (c.By_state x y z) = cons tt (on (transfer_clean m o h x) (cons tt (on (transfer_clean m o h y) (cons tt (transfer_clean m o h z)))))
transfer_clean m o h (c.Of_rank rank x) = cons tt (transfer_clean m o h x)
transfer_clean m o h (c.Behind x y) = on (work_clean m o (sort.Datum ∷ h) x) (transfer_clean m o h y)
transfer_clean m o h (c.New rank element x) = cons tt (transfer_clean m o h x)
transfer_clean m o h (c.In_contents x) = cons tt (transfer_clean m o h x)
transfer_clean m o h (c.Take of) = cons tt none
transfer_clean m o h (c.Fill of) = cons tt none

dimensions_clean : (o : Option Place) (h : List Sort) (x : List Bounds) → Clean (dimensions_code o x) (dimensions_sorts h x)
dimensions_clean o h [] = none
dimensions_clean o h (b ∷ bs) = on (value_clean o h b.lower) (on (value_clean o (sort.Datum ∷ h) b.upper) (cons tt (dimensions_clean o (sort.Extent ∷ h) bs)))

allocate_clean : (o : Option Place) (h : List Sort) (x : List c.Allocation) → Clean (allocate_code o x) (allocate_sorts h x)
allocate_clean o h [] = cons tt none
allocate_clean o h (x ∷ xs) = on (locate_clean o h x.object) (on (dimensions_clean o (sort.Object ∷ h) x.bounds) (cons tt (cons tt (allocate_clean o h xs))))

free_clean : (m : ℕ) (o : Option Place) (h : List Sort) (x : w.Work) → Clean (free_code m o x) (free_sorts m h x)
free_clean m o h x = cons tt (on (work_clean m o h x) (cons (tt, tt) (cons tt none)))

deallocate_clean : (m : ℕ) (o : Option Place) (h : List Sort) (x : List c.Deallocation) → Clean (deallocate_code m o x) (deallocate_sorts m h x)
deallocate_clean m o h [] = cons tt none
deallocate_clean m o h (x ∷ xs) = on (locate_clean o h x.object) (on (free_clean m o h x.free) (cons tt (deallocate_clean m o h xs)))

status_clean : (o : Option Place) (h : List Sort) (x : Option d.Designator) → Clean (status_code o x) (status_sorts h x)
status_clean o h None = cons tt none
status_clean o h (Some d) = on (locate_clean o (sort.Status ∷ h) d) (cons tt none)

bytes_clean : (o : Option Place) (h : List Sort) (x : List ℕ) → Clean (bytes_code o x) (bytes_sorts h x)
bytes_clean o h [] = none
bytes_clean o h (b ∷ bs) = cons tt (bytes_clean o h bs)

items_clean : (o : Option Place) (h : List Sort) (x : List Item) → Clean (items_code o x) (items_sorts h x)
items_clean o h [] = cons tt none
items_clean o h (item.Value e ∷ xs) = on (value_clean o h e) (cons tt (items_clean o h xs))
items_clean o h (item.Text t ∷ xs) = on (bytes_clean o h (32 ∷ t.items)) (items_clean o h xs)

ranges_clean : (o : Option Place) (h : List Sort) (x : List Range) → Clean (ranges_code o x) (ranges_sorts h x)
ranges_clean o h [] = none
ranges_clean o h (r ∷ rs) = cons tt (cons tt (ranges_clean o h rs))

selectors_clean : (o : Option Place) (h : List Sort) (x : List c.Selector) → Clean (selectors_code o x) (selectors_sorts h x)
selectors_clean o h [] = none
selectors_clean o h (c.Bind d ∷ xs) = on (locate_clean o h d) (cons tt (selectors_clean o (sort.Selector ∷ h) xs))
selectors_clean o h (c.Hold of e x ∷ xs) = on (value_clean o h e) (cons tt (selectors_clean o (sort.Selector ∷ h) xs))

discards_clean : (m : ℕ) (o : Option Place) (h : List Sort) (x : List c.Selector) → Clean (discards_code m o x) (discards_sorts m h x)
discards_clean m o h [] = none
discards_clean m o h (c.Bind d ∷ xs) = cons tt (cons (tt, tt) (discards_clean m o h xs))
discards_clean m o h (c.Hold of e x ∷ xs) = cons tt (on (work_clean m o (sort.Objects ∷ h) x) (cons (tt, tt) (discards_clean m o h xs)))

leaving_clean : (o : Option Place) (h : List Sort) → Clean (leaving_code o) (leaving_sorts h)
leaving_clean o h = cons tt (cons tt (cons tt (cons tt none)))

departing_clean : (o : Option Place) (h : List Sort) (ws : Ways) → ArePlain ws.cells h → Clean (departing_code o ws) (departing_sorts h ws.cells)
departing_clean o h ws e = cons tt (cons e (cons tt none))

if_clean : {t x y : List Line} {t' x' y' : List (List Sort)} (o : Option Place) (h : List Sort) → Clean t t' → Clean x x' → Clean y y' → Clean (if_code o t x y) (if_sorts h t' x' y')
if_clean o h t x y = on t (cons tt (on x (cons tt y)))

case_clean : {x y : List Line} {x' y' : List (List Sort)} (o : Option Place) (h : List Sort) (rs : List Range) → Clean x x' → Clean y y' → Clean (case_code o rs x y) (case_sorts h rs x' y')
case_clean o h rs x y = on (ranges_clean o h rs) (cons tt (on x (cons tt y)))

while_clean : {t x : List Line} {t' x' : List (List Sort)} (o : Option Place) (h : List Sort) → Clean t t' → Clean x x' → Clean (while_code o t x) (while_sorts h t' x')
while_clean o h t x = on t (cons tt (on x (cons tt none)))

up_clean : (o : Option Place) (h : List Sort) (x : d.Designator) (k : Kind) → Clean (up_code o x k) (up_sorts h x)
up_clean o h d k = on (locate_clean o (sort.Turns ∷ h) d) (cons tt none)

turns_clean : {x u : List Line} {x' u' : List (List Sort)} (o : Option Place) (h : List Sort) → Clean x x' → Clean u u' → Clean (turns_code o x u) (turns_sorts h x' u')
turns_clean o h x u = cons tt (on x (on u (cons tt (cons (tt, tt) none))))

limits_clean : {r : List Line} {r' : List (List Sort)} (o : Option Place) (h : List Sort) (k : Kind) (from to by : e.Expression) → Clean r r' →
    Clean (limits_code o k from to by r) (limits_sorts h from to by r')
limits_clean o h k from to by r = on (value_clean o h from) (cons tt (on (value_clean o (sort.Datum ∷ h) to) (cons tt
    (on (value_clean o (sort.Datum ∷ sort.Datum ∷ h) by) (cons tt (cons tt r))))))

-- ---- statements: what goes at a RETURN are the turns of DO constructs

amid_selectors : (n : ℕ) (h : List Sort) → IsAmid h → IsAmid (times n sort.Selector ++ h)
amid_selectors zero h a = a
amid_selectors (suc n) h a = amid_selectors n h a

code_clean : (m : ℕ) (o : Option Place) (h : List Sort) (x : c.Core) (ws : Ways) → IsAmid h → ArePlain ws.cells h → Clean (code_of m o x ws) (code_sorts m h ws.cells x)
code_clean m o h (c.At place true x) ws k e = cons tt (code_clean m (Some place) h x ws k e)
code_clean m o h (c.At place false x) ws k e = code_clean m (Some place) h x ws k e
code_clean m o h c.Skip ws k e = none
code_clean m o h (c.Then x y) ws k e = on (code_clean m o h x (farther (length (code_of m o y ws)) ws) k e) (code_clean m o h y ws k e)
code_clean m o h (c.Assign d x v) ws k e = on (value_clean o h v) (on (locate_clean o (sort.Datum ∷ h) d) (transfer_clean m o h x))
code_clean m o h (c.Call v) ws k e = on (value_clean o h v) (cons (tt, tt) none)
code_clean m o h (c.Move true x d v) ws k e = on (locate_clean o h d) (on (locate_clean o (sort.Object ∷ h) v) (cons tt (on (work_clean m o (sort.Object ∷ h) x) (cons tt none))))
code_clean m o h (c.Move false x d v) ws k e =
    on (locate_clean o h d) (on (locate_clean o (sort.Object ∷ h) v) (cons (tt, (tt, tt)) (cons tt (on (work_clean m o (sort.Object ∷ h) x) (cons tt none)))))
code_clean m o h (c.Allocate xs stat) ws k e = on (allocate_clean o h xs) (status_clean o h stat)
code_clean m o h (c.Deallocate xs stat) ws k e = on (deallocate_clean m o h xs) (status_clean o h stat)
code_clean m o h (c.Print xs) ws k e = items_clean o h xs
code_clean m o h (c.Stop number) ws k e = cons tt none
code_clean m o h c.Return ws k e = cons tt (cons e (cons tt none))
code_clean m o h c.Cycle ws k e = cons tt none
code_clean m o h c.Exit ws k e = cons tt none
code_clean m o h (c.If v x y) ws k e = if_clean o h (value_clean o h v) (code_clean m o h x (farther (1 + length (code_of m o y ws)) ws) k e) (code_clean m o h y ws k e)
code_clean m o h (c.Select v x) ws k e = on (value_clean o h v) (cons k (on (code_clean m o (sort.Outside ∷ h) x scoped tt tt)
    (on (leaving_clean o (sort.Outside ∷ h)) (departing_clean o h ws e))))
code_clean m o h (c.Case rs x y) ws k e = case_clean o h rs (code_clean m o h x (farther (1 + length (code_of m o y ws)) ws) k e) (code_clean m o h y ws k e)
code_clean m o h (c.While v x) ws k e = while_clean o h (value_clean o h v) (code_clean m o h x (looped ws) k e)
code_clean m o h (c.Count d k from to by x) ws j e = limits_clean o h k from to by (on (locate_clean o (sort.Datum ∷ sort.Datum ∷ sort.Datum ∷ h) d)
    (cons tt (turns_clean o h (code_clean m o (sort.Turns ∷ h) x (counting (length (up_code o d k)) ws) j (tt, e)) (up_clean o h d k))))
code_clean m o h (c.Associate xs x) ws k e = on (selectors_clean o h xs) (cons (amid_selectors (length xs) h k) (on (code_clean m o (sort.Outside ∷ sort.Level ∷ h) x scoped tt tt)
    (on (leaving_clean o (sort.Outside ∷ sort.Level ∷ h)) (cons tt (on (discards_clean m o (sort.Going ∷ sort.Level ∷ h) xs) (cons tt (departing_clean o h ws e)))))))

-- ---- procedures

begin_clean : (m : ℕ) (h : List Sort) (x : List w.Work) → Clean (begin_code m x) (each_sorts m h x)
begin_clean m h [] = none
begin_clean m h (x ∷ xs) = cons tt (on (work_clean m None (sort.Objects ∷ h) x) (cons (tt, tt) (begin_clean m h xs)))

discard_clean : (m k : ℕ) (h : List Sort) (x : List w.Work) → Clean (discard_code m k x) (each_sorts m h x)
discard_clean m k h [] = none
discard_clean m k h (x ∷ xs) = cons tt (on (work_clean m None (sort.Objects ∷ h) x) (cons (tt, tt) (discard_clean m (suc k) h xs)))

finish_clean : (m k : ℕ) (x : List w.Work) → Clean (finish_code m k x) (finish_sorts m x)
finish_clean m k [] = none
finish_clean m k (x ∷ xs) = cons tt (on (work_clean m None [] x) (cons (tt, tt) (finish_clean m (suc k) xs)))

last_clean : (m : ℕ) (x : c.Procedure) → Clean (last_code m x) (last_sorts m x)
last_clean m p = on (finish_clean m 0 p.finish) (cons tt (cons tt (on (discard_clean m 0 (sort.Datum ∷ []) p.discard) (cons tt none))))

body_clean : (m : ℕ) (x : c.Procedure) → Clean (body_code m x) (body_sorts m x)
body_clean m p = cons tt (on (begin_clean m [] p.begin) (cons (tt, tt) (on (code_clean m None [] p.body body_ways tt tt) (cons tt (cons tt (last_clean m p))))))

main_clean : (m : ℕ) (x : c.Procedure) → Clean (main_code m x) (main_sorts m x)
main_clean m p = on (code_clean m None [] p.body main_ways tt tt) (cons tt (cons tt none))

procedures_clean : (m : ℕ) (x : List c.Procedure) → Clean (procedures_code m x) (procedures_sorts m x)
procedures_clean m [] = none
procedures_clean m (p ∷ ps) = on (body_clean m p) (procedures_clean m ps)

routines_clean : (x : List w.Work) → Clean (routines_code x) (routines_sorts x)
routines_clean [] = none
routines_clean (x ∷ xs) = on (work_clean (length xs) None [] x) (cons tt (routines_clean xs))

program_clean : (x : c.Program) → Clean (program_code x).lines (program_sorts x)
program_clean p = on (main_clean (length p.routines) p.main) (on (routines_clean p.routines) (procedures_clean (length p.routines) p.procedures))

line_clean : (ls : List Line) (hs : List (List Sort)) (pc : ℕ) (x : Line) → AllClean ls hs → slice_get ls pc ≡ Some x → IsClean x.act (slice_index_or hs pc [])
unfolding AllClean
line_clean [] hs pc x h e = cc
line_clean (y ∷ ls) [] pc x h e = absurd h
line_clean (y ∷ ls) (k ∷ hs) zero x h e = let same : y ≡ x = cc in subst (λ (z : Line). IsClean z.act k) same h.0
line_clean (y ∷ ls) (k ∷ hs) (suc pc) x h e = line_clean ls hs pc x h.1 e

-- the code of a program is clean
pub code_is_clean : (p : Program) → AreClean (site_at p) (program_code (lowered_program p))
code_is_clean p pc x e = subst (λ h. IsClean x.act h) (sym (kinds_have_sorts p pc))
    (line_clean (program_code (lowered_program p)).lines (program_sorts (lowered_program p)) pc x (program_clean (lowered_program p)).by e)
