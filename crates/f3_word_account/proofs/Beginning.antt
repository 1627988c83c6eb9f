-- In the code of a program statements begin above cells of constructs alone.
use Rattle.std.proofs.Common.{◌≡◌, sym, ℕ, zero, suc, ◌+◌, Bool, true, false, List, [], ◌∷◌, ◌++◌, length, Option, Some, None, subst, if◌then◌else◌}
use Rattle.std.specs.Prelude.{⊤, map, nat_lt, slice_get, slice_index_or}
use Rattle.f3_places.specs.declared.source.Place.{Place}
use Rattle.f3_program.specs.declared.declarations.Kind.{Kind}
use Rattle.f3_program.specs.declared.expression.Argument as a
use Rattle.f3_program.specs.declared.expression.Designator as d
use Rattle.f3_program.specs.declared.expression.Expression as e
use Rattle.f3_program.specs.declared.expression.Selection as l
use Rattle.f3_program.specs.declared.expression.Subscript as u
use Rattle.f3_program.specs.declared.program.Program.{Program}
use Rattle.f3_program.specs.declared.statement.Bounds.{Bounds}
use Rattle.f3_program.specs.declared.statement.Item.{Item}
use Rattle.f3_program.specs.declared.statement.Item.TheVariants as item
use Rattle.f3_program.specs.declared.statement.Range.{Range}
use Rattle.f3_code.specs.Work as w
use Rattle.f3_code.specs.Core as c
use Rattle.f3_code.specs.Lower.{lowered_program}
use Rattle.f3_code.specs.declared.instruction.Instruction.TheVariants as i
use Rattle.f3_code.specs.State.{Line, line}
use Rattle.f3_code.specs.Code.{value_code, bounds_code, argument_code, arguments_code, locate_code, select_code, select_of_code, chosen_code, subscript_code, work_code, transfer_code, dimensions_code, allocate_code, free_code, deallocate_code, status_code, bytes_code, items_code, ranges_code, selectors_code, discards_code, Ways, farther, looped, counting, scoped, leaving_code, departing_code, if_code, case_code, while_code, up_code, turns_code, limits_code, code_of, begin_code, finish_code, discard_code, body_ways, last_code, body_code, main_ways, main_code, procedures_code, routines_code, program_code}
use Rattle.f3_sorts.specs.Effect.{Sort}
use Rattle.f3_sorts.specs.Effect as sort
use Rattle.f3_sorts.specs.Program.{allocate_sorts, argument_sorts, arguments_sorts, body_sorts, bounds_sorts, bytes_sorts, case_sorts, chosen_sorts, code_sorts, deallocate_sorts, departing_sorts, dimensions_sorts, discards_sorts, each_sorts, finish_sorts, free_sorts, if_sorts, items_sorts, last_sorts, leaving_sorts, limits_sorts, locate_sorts, main_sorts, procedures_sorts, program_sorts, ranges_sorts, routines_sorts, select_of_sorts, select_sorts, selectors_sorts, status_sorts, subscript_sorts, transfer_sorts, turns_sorts, up_sorts, value_sorts, while_sorts, work_sorts}
use Rattle.f3_cell_kinds.specs.Types.{sort_of_type}
use Rattle.f3_cell_kinds.specs.Laws.{site_at}
use Rattle.f3_cell_kinds.proofs.Sorting.{kinds_have_sorts}
use Rattle.f3_code.specs.declared.instruction.Instruction.{Instruction}

-- cells of a DO, a SELECT CASE or an ASSOCIATE
abbrev pub AreConstructs : List Sort → Type 0
AreConstructs [] = ⊤
AreConstructs (sort.Turns ∷ h) = AreConstructs h
AreConstructs (sort.Outside ∷ h) = AreConstructs h
AreConstructs (sort.Level ∷ h) = AreConstructs h
AreConstructs (x ∷ h) = ⊥

abbrev pub Begins : Instruction → List Sort → Type 0
Begins i.Begin h = AreConstructs h
Begins x h = ⊤

-- lines with the sorts of the cells that stand there
AllBegin : List Line → List (List Sort) → Type 0
AllBegin [] [] = Unit {0}
AllBegin (x ∷ ls) (h ∷ hs) = Begins x.act h × AllBegin ls hs
AllBegin ls hs = ⊥

record Opens (ls : List Line) (hs : List (List Sort)) : Type 0 where
  by : AllBegin ls hs

none : Opens [] []
unfolding AllBegin
none = record { by = tt }

cons : {x : Line} {h : List Sort} {ls : List Line} {hs : List (List Sort)} → Begins x.act h → Opens ls hs → Opens (x ∷ ls) (h ∷ hs)
unfolding AllBegin
cons e f = record { by = (e, f.by) }

all_on : (ls ks : List Line) (hs js : List (List Sort)) → AllBegin ls hs → AllBegin ks js → AllBegin (ls ++ ks) (hs ++ js)
unfolding AllBegin
all_on [] ks [] js e f = f
all_on [] ks (h ∷ hs) js e f = absurd e
all_on (x ∷ ls) ks [] js e f = absurd e
all_on (x ∷ ls) ks (h ∷ hs) js e f = (e.0, all_on ls ks hs js e.1 f)

on : {ls ks : List Line} {hs js : List (List Sort)} → Opens ls hs → Opens ks js → Opens (ls ++ ks) (hs ++ js)
on {ls = ls} {ks = ks} {hs = hs} {js = js} e f = record { by = all_on ls ks hs js e.by f.by }

limit_opens : {ls : List Line} {hs : List (List Sort)} (b : Bool) (o : Option Place) (h : List Sort) → Opens ls hs →
    Opens (if b then ls ++ line o i.Limit ∷ [] else line o i.NoLimit ∷ []) (if b then hs ++ (sort.Datum ∷ h) ∷ [] else h ∷ [])
limit_opens true o h e = on e (cons tt none)
limit_opens false o h e = cons tt none

routine_opens : (b : Bool) (o : Option Place) (t : ℕ) (h : List Sort) → Opens (if b then line o (i.Routine t) ∷ [] else []) (if b then (sort.Object ∷ h) ∷ [] else [])
routine_opens true o t h = cons tt none
routine_opens false o t h = none

mutual
  value_opens : (o : Option Place) (h : List Sort) (x : e.Expression) → Opens (value_code o x) (value_sorts h x)
  value_opens o h (e.Literal c) = cons tt none
  value_opens o h (e.Variable' p x) = on (locate_opens o h x) (cons tt none)
  value_opens o h (e.Group' p x) = on (value_opens o h x) (cons tt none)
  value_opens o h (e.Unary' c t p x) = on (value_opens o h x) (cons tt none)
  value_opens o h (e.Binary' c t p x q y) = on (value_opens o h x) (on (value_opens o (sort.Datum ∷ h) y) (cons tt none))
  value_opens o h (e.Array' k xs) = on (arguments_opens o h xs) (cons tt none)
  value_opens o h (e.Structure' t k xs) = on (arguments_opens o h xs) (cons tt none)
  value_opens o h (e.Call' f k xs) = on (arguments_opens o h xs) (cons tt (cons tt none))
  value_opens o h (e.Allocated' p x) = on (locate_opens o h x) (cons tt none)
  value_opens o h (e.Size' p x) = on (bounds_opens o h x) (cons tt none)
  value_opens o h (e.Bound' q p x r y) = on (bounds_opens o h x) (on (value_opens o (sort.Bounds ∷ h) y) (cons tt none))

  bounds_opens : (o : Option Place) (h : List Sort) (x : a.Argument) → Opens (bounds_code o x) (bounds_sorts h x)
  bounds_opens o h (a.Value' k p x) = on (value_opens o h x) (cons tt none)
  bounds_opens o h (a.Variable' k p x) = on (locate_opens o h x) (cons tt none)

  argument_opens : (o : Option Place) (h : List Sort) (x : a.Argument) → Opens (argument_code o x) (argument_sorts h x)
  argument_opens o h (a.Value' k p x) = on (value_opens o h x) (cons tt none)
  argument_opens o h (a.Variable' k p x) = on (locate_opens o h x) (cons tt none)

  arguments_opens : {m : _} (o : Option Place) (h : List Sort) (x : e.Row_of-Argument m) → Opens (arguments_code o x) (arguments_sorts h x)
  arguments_opens o h e.end_of-Argument = none
  arguments_opens o h (e.more_of-Argument x rest) = on (argument_opens o h x) (arguments_opens o (sort.Argument ∷ h) rest)

  locate_opens : (o : Option Place) (h : List Sort) (x : d.Designator) → Opens (locate_code o x) (locate_sorts h x)
  locate_opens o h (d.Name x how) = cons tt (select_opens o h how)
  locate_opens o h (d.Component' p x k how) = on (locate_opens o h x) (select_of_opens o h k how)

  select_opens : (o : Option Place) (h : List Sort) (x : l.Selection) → Opens (select_code o x) (select_sorts h x)
  select_opens o h l.Whole = none
  select_opens o h l.Contents = cons tt none
  select_opens o h (l.Elements' is_opened k xs) = on (chosen_opens o (sort.Object ∷ h) xs) (cons tt none)

  select_of_opens : (o : Option Place) (h : List Sort) (n : ℕ) (x : l.Selection) → Opens (select_of_code o n x) (select_of_sorts h x)
  select_of_opens o h n l.Whole = cons tt none
  select_of_opens o h n l.Contents = cons tt (cons tt none)
  select_of_opens o h n (l.Elements' is_opened k xs) = cons tt (on (chosen_opens o (sort.Object ∷ sort.Object ∷ h) xs) (cons tt none))

  chosen_opens : {m : _} (o : Option Place) (h : List Sort) (x : l.Row_of-Subscript m) → Opens (chosen_code o x) (chosen_sorts h x)
  chosen_opens o h l.end_of-Subscript = none
  chosen_opens o h (l.more_of-Subscript x rest) = on (subscript_opens o h x) (chosen_opens o (sort.Choice ∷ h) rest)

  subscript_opens : (o : Option Place) (h : List Sort) (x : u.Subscript) → Opens (subscript_code o x) (subscript_sorts h x)
  subscript_opens o h (u.At' p x) = on (value_opens o h x) (cons tt none)
  subscript_opens o h (u.Range' has_lower p x has_upper q y r z) = on (limit_opens has_lower o h (value_opens o h x))
      (on (limit_opens has_upper o (sort.Bound ∷ h) (value_opens o (sort.Bound ∷ h) y)) (on (value_opens o (sort.Bound ∷ sort.Bound ∷ h) z) (cons tt none)))

-- ---- work on an object, above such cells

work_opens : (m : ℕ) (o : Option Place) (h : List Sort) (x : w.Work) → Opens (work_code m o x) (work_sorts m h x)
work_opens m o h w.Rest = none
work_opens m o h (w.And x y) = on (work_opens m o h x) (work_opens m o h y)
work_opens m o h (w.Lending x) = cons tt (on (work_opens m o h x) (cons tt none))
work_opens m o h (w.Of_rank rank x y) = cons tt (on (work_opens m o h x) (cons tt (work_opens m o h y)))
work_opens m o h (w.Final f) = cons tt (cons tt (cons tt none))
work_opens m o h (w.Routine t) = routine_opens (nat_lt t m) o t h
work_opens m o h (w.Of_component k x) = cons tt (on (work_opens m o (sort.Object ∷ h) x) (cons tt none))
work_opens m o h (w.Of_elements x) = cons tt (cons tt (on (work_opens m o (sort.Elements ∷ sort.Object ∷ h) x) (cons tt (cons tt none))))
work_opens m o h (w.If_allocated x) = cons tt (work_opens m o h x)
work_opens m o h (w.Of_contents x) = cons tt (on (work_opens m o (sort.Object ∷ h) x) (cons tt (cons tt none)))
work_opens m o h w.Clear = cons tt none
work_opens m o h (w.Set v) = cons tt none
work_opens m o h w.Discard = cons tt none

-- ---- parts of statements

transfer_opens : (m : ℕ) (o : Option Place) (h : List Sort) (x : c.Transfer) → Opens (transfer_code m o x) (transfer_sorts m h x)
transfer_opens m o h (c.Conforming x) = cons tt (transfer_opens m o h x)
transfer_opens m o h (c.By_state x y z) = cons tt (on (transfer_opens m o h x) (cons tt (on (transfer_opens m o h y) (cons tt (transfer_opens m o h z)))))
transfer_opens m o h (c.Of_rank rank x) = cons tt (transfer_opens m o h x)
transfer_opens m o h (c.Behind x y) = on (work_opens m o (sort.Datum ∷ h) x) (transfer_opens m o h y)
transfer_opens m o h (c.New rank element x) = cons tt (transfer_opens m o h x)
transfer_opens m o h (c.In_contents x) = cons tt (transfer_opens m o h x)
transfer_opens m o h (c.Take of) = cons tt none
transfer_opens m o h (c.Fill of) = cons tt none

dimensions_opens : (o : Option Place) (h : List Sort) (x : List Bounds) → Opens (dimensions_code o x) (dimensions_sorts h x)
dimensions_opens o h [] = none
dimensions_opens o h (b ∷ bs) = on (value_opens o h b.lower) (on (value_opens o (sort.Datum ∷ h) b.upper) (cons tt (dimensions_opens o (sort.Extent ∷ h) bs)))

allocate_opens : (o : Option Place) (h : List Sort) (x : List c.Allocation) → Opens (allocate_code o x) (allocate_sorts h x)
allocate_opens o h [] = cons tt none
allocate_opens o h (x ∷ xs) = on (locate_opens o h x.object) (on (dimensions_opens o (sort.Object ∷ h) x.bounds) (cons tt (cons tt (allocate_opens o h xs))))

free_opens : (m : ℕ) (o : Option Place) (h : List Sort) (x : w.Work) → Opens (free_code m o x) (free_sorts m h x)
free_opens m o h x = cons tt (on (work_opens m o h x) (cons tt (cons tt none)))

deallocate_opens : (m : ℕ) (o : Option Place) (h : List Sort) (x : List c.Deallocation) → Opens (deallocate_code m o x) (deallocate_sorts m h x)
deallocate_opens m o h [] = cons tt none
deallocate_opens m o h (x ∷ xs) = on (locate_opens o h x.object) (on (free_opens m o h x.free) (cons tt (deallocate_opens m o h xs)))

status_opens : (o : Option Place) (h : List Sort) (x : Option d.Designator) → Opens (status_code o x) (status_sorts h x)
status_opens o h None = cons tt none
status_opens o h (Some d) = on (locate_opens o (sort.Status ∷ h) d) (cons tt none)

bytes_opens : (o : Option Place) (h : List Sort) (x : List ℕ) → Opens (bytes_code o x) (bytes_sorts h x)
bytes_opens o h [] = none
bytes_opens o h (b ∷ bs) = cons tt (bytes_opens o h bs)

items_opens : (o : Option Place) (h : List Sort) (x : List Item) → Opens (items_code o x) (items_sorts h x)
items_opens o h [] = cons tt none
items_opens o h (item.Value e ∷ xs) = on (value_opens o h e) (cons tt (items_opens o h xs))
items_opens o h (item.Text t ∷ xs) = on (bytes_opens o h (32 ∷ t.items)) (items_opens o h xs)

ranges_opens : (o : Option Place) (h : List Sort) (x : List Range) → Opens (ranges_code o x) (ranges_sorts h x)
ranges_opens o h [] = none
ranges_opens o h (r ∷ rs) = cons tt (cons tt (ranges_opens o h rs))

selectors_opens : (o : Option Place) (h : List Sort) (x : List c.Selector) → Opens (selectors_code o x) (selectors_sorts h x)
selectors_opens o h [] = none
selectors_opens o h (c.Bind d ∷ xs) = on (locate_opens o h d) (cons tt (selectors_opens o (sort.Selector ∷ h) xs))
selectors_opens o h (c.Hold of e x ∷ xs) = on (value_opens o h e) (cons tt (selectors_opens o (sort.Selector ∷ h) xs))

discards_opens : (m : ℕ) (o : Option Place) (h : List Sort) (x : List c.Selector) → Opens (discards_code m o x) (discards_sorts m h x)
discards_opens m o h [] = none
discards_opens m o h (c.Bind d ∷ xs) = cons tt (cons tt (discards_opens m o h xs))
discards_opens m o h (c.Hold of e x ∷ xs) = cons tt (on (work_opens m o (sort.Objects ∷ h) x) (cons tt (discards_opens m o h xs)))

leaving_opens : (o : Option Place) (h : List Sort) → Opens (leaving_code o) (leaving_sorts h)
leaving_opens o h = cons tt (cons tt (cons tt (cons tt none)))

departing_opens : (o : Option Place) (h : List Sort) (ws : Ways) → Opens (departing_code o ws) (departing_sorts h ws.cells)
departing_opens o h ws = cons tt (cons tt (cons tt none))

if_opens : {t x y : List Line} {t' x' y' : List (List Sort)} (o : Option Place) (h : List Sort) → Opens t t' → Opens x x' → Opens y y' → Opens (if_code o t x y) (if_sorts h t' x' y')
if_opens o h t x y = on t (cons tt (on x (cons tt y)))

case_opens : {x y : List Line} {x' y' : List (List Sort)} (o : Option Place) (h : List Sort) (rs : List Range) → Opens x x' → Opens y y' → Opens (case_code o rs x y) (case_sorts h rs x' y')
case_opens o h rs x y = on (ranges_opens o h rs) (cons tt (on x (cons tt y)))

while_opens : {t x : List Line} {t' x' : List (List Sort)} (o : Option Place) (h : List Sort) → Opens t t' → Opens x x' → Opens (while_code o t x) (while_sorts h t' x')
while_opens o h t x = on t (cons tt (on x (cons tt none)))

up_opens : (o : Option Place) (h : List Sort) (x : d.Designator) (k : Kind) → Opens (up_code o x k) (up_sorts h x)
up_opens o h d k = on (locate_opens o (sort.Turns ∷ h) d) (cons tt none)

turns_opens : {x u : List Line} {x' u' : List (List Sort)} (o : Option Place) (h : List Sort) → Opens x x' → Opens u u' → Opens (turns_code o x u) (turns_sorts h x' u')
turns_opens o h x u = cons tt (on x (on u (cons tt (cons tt none))))

limits_opens : {r : List Line} {r' : List (List Sort)} (o : Option Place) (h : List Sort) (k : Kind) (from to by : e.Expression) → Opens r r' →
    Opens (limits_code o k from to by r) (limits_sorts h from to by r')
limits_opens o h k from to by r = on (value_opens o h from) (cons tt (on (value_opens o (sort.Datum ∷ h) to) (cons tt
    (on (value_opens o (sort.Datum ∷ sort.Datum ∷ h) by) (cons tt (cons tt r))))))

-- ---- statements: what goes at a RETURN are the turns of DO constructs

code_opens : (m : ℕ) (o : Option Place) (h : List Sort) (x : c.Core) (ws : Ways) → AreConstructs h → Opens (code_of m o x ws) (code_sorts m h ws.cells x)
code_opens m o h (c.At place true x) ws e = cons e (code_opens m (Some place) h x ws e)
code_opens m o h (c.At place false x) ws e = code_opens m (Some place) h x ws e
code_opens m o h c.Skip ws e = none
code_opens m o h (c.Then x y) ws e = on (code_opens m o h x (farther (length (code_of m o y ws)) ws) e) (code_opens m o h y ws e)
code_opens m o h (c.Assign d x v) ws e = on (value_opens o h v) (on (locate_opens o (sort.Datum ∷ h) d) (transfer_opens m o h x))
code_opens m o h (c.Call v) ws e = on (value_opens o h v) (cons tt none)
code_opens m o h (c.Move true x d v) ws e = on (locate_opens o h d) (on (locate_opens o (sort.Object ∷ h) v) (cons tt (on (work_opens m o (sort.Object ∷ h) x) (cons tt none))))
code_opens m o h (c.Move false x d v) ws e =
    on (locate_opens o h d) (on (locate_opens o (sort.Object ∷ h) v) (cons tt (cons tt (on (work_opens m o (sort.Object ∷ h) x) (cons tt none)))))
code_opens m o h (c.Allocate xs stat) ws e = on (allocate_opens o h xs) (status_opens o h stat)
code_opens m o h (c.Deallocate xs stat) ws e = on (deallocate_opens m o h xs) (status_opens o h stat)
code_opens m o h (c.Print xs) ws e = items_opens o h xs
code_opens m o h (c.Stop number) ws e = cons tt none
code_opens m o h c.Return ws e = cons tt (cons tt (cons tt none))
code_opens m o h c.Cycle ws e = cons tt none
code_opens m o h c.Exit ws e = cons tt none
code_opens m o h (c.If v x y) ws e = if_opens o h (value_opens o h v) (code_opens m o h x (farther (1 + length (code_of m o y ws)) ws) e) (code_opens m o h y ws e)
code_opens m o h (c.Select v x) ws e = on (value_opens o h v) (cons tt (on (code_opens m o (sort.Outside ∷ h) x scoped e)
    (on (leaving_opens o (sort.Outside ∷ h)) (departing_opens o h ws))))
code_opens m o h (c.Case rs x y) ws e = case_opens o h rs (code_opens m o h x (farther (1 + length (code_of m o y ws)) ws) e) (code_opens m o h y ws e)
code_opens m o h (c.While v x) ws e = while_opens o h (value_opens o h v) (code_opens m o h x (looped ws) e)
code_opens m o h (c.Count d k from to by x) ws e = limits_opens o h k from to by (on (locate_opens o (sort.Datum ∷ sort.Datum ∷ sort.Datum ∷ h) d)
    (cons tt (turns_opens o h (code_opens m o (sort.Turns ∷ h) x (counting (length (up_code o d k)) ws) e) (up_opens o h d k))))
code_opens m o h (c.Associate xs x) ws e = on (selectors_opens o h xs) (cons tt (on (code_opens m o (sort.Outside ∷ sort.Level ∷ h) x scoped e)
    (on (leaving_opens o (sort.Outside ∷ sort.Level ∷ h)) (cons tt (on (discards_opens m o (sort.Going ∷ sort.Level ∷ h) xs) (cons tt (departing_opens o h ws)))))))

-- ---- procedures

begin_opens : (m : ℕ) (h : List Sort) (x : List w.Work) → Opens (begin_code m x) (each_sorts m h x)
begin_opens m h [] = none
begin_opens m h (x ∷ xs) = cons tt (on (work_opens m None (sort.Objects ∷ h) x) (cons tt (begin_opens m h xs)))

discard_opens : (m k : ℕ) (h : List Sort) (x : List w.Work) → Opens (discard_code m k x) (each_sorts m h x)
discard_opens m k h [] = none
discard_opens m k h (x ∷ xs) = cons tt (on (work_opens m None (sort.Objects ∷ h) x) (cons tt (discard_opens m (suc k) h xs)))

finish_opens : (m k : ℕ) (x : List w.Work) → Opens (finish_code m k x) (finish_sorts m x)
finish_opens m k [] = none
finish_opens m k (x ∷ xs) = cons tt (on (work_opens m None [] x) (cons tt (finish_opens m (suc k) xs)))

last_opens : (m : ℕ) (x : c.Procedure) → Opens (last_code m x) (last_sorts m x)
last_opens m p = on (finish_opens m 0 p.finish) (cons tt (cons tt (on (discard_opens m 0 (sort.Datum ∷ []) p.discard) (cons tt none))))

body_opens : (m : ℕ) (x : c.Procedure) → Opens (body_code m x) (body_sorts m x)
body_opens m p = cons tt (on (begin_opens m [] p.begin) (cons tt (on (code_opens m None [] p.body body_ways tt) (cons tt (cons tt (last_opens m p))))))

main_opens : (m : ℕ) (x : c.Procedure) → Opens (main_code m x) (main_sorts m x)
main_opens m p = on (code_opens m None [] p.body main_ways tt) (cons tt (cons tt none))

procedures_opens : (m : ℕ) (x : List c.Procedure) → Opens (procedures_code m x) (procedures_sorts m x)
procedures_opens m [] = none
procedures_opens m (p ∷ ps) = on (body_opens m p) (procedures_opens m ps)

routines_opens : (x : List w.Work) → Opens (routines_code x) (routines_sorts x)
routines_opens [] = none
routines_opens (x ∷ xs) = on (work_opens (length xs) None [] x) (cons tt (routines_opens xs))

program_opens : (x : c.Program) → Opens (program_code x).lines (program_sorts x)
program_opens p = on (main_opens (length p.routines) p.main) (on (routines_opens p.routines) (procedures_opens (length p.routines) p.procedures))

line_opens : (ls : List Line) (hs : List (List Sort)) (pc : ℕ) (x : Line) → AllBegin ls hs → slice_get ls pc ≡ Some x → Begins x.act (slice_index_or hs pc [])
unfolding AllBegin
line_opens [] hs pc x h e = cc
line_opens (y ∷ ls) [] pc x h e = absurd h
line_opens (y ∷ ls) (k ∷ hs) zero x h e = let same : y ≡ x = cc in subst (λ (z : Line). Begins z.act k) same h.0
line_opens (y ∷ ls) (k ∷ hs) (suc pc) x h e = line_opens ls hs pc x h.1 e

-- where a statement begins
pub begins_on_constructs : (p : Program) (pc : ℕ) (x : Line) → slice_get (program_code (lowered_program p)).lines pc ≡ Some x → x.act ≡ i.Begin
    → AreConstructs (map sort_of_type (site_at p pc).cells)
begins_on_constructs p pc x e is = subst (λ h. AreConstructs h) (sym (kinds_have_sorts p pc))
    (subst (λ (a : Instruction). Begins a (slice_index_or (program_sorts (lowered_program p)) pc [])) is
    (line_opens (program_code (lowered_program p)).lines (program_sorts (lowered_program p)) pc x (program_opens (lowered_program p)).by e))
