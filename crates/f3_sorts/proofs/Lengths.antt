-- There are as many sorts at each line as the heights say.
use Rattle.std.proofs.Common.{◌≡◌, ℕ, zero, suc, ◌+◌, Bool, true, false, List, [], ◌∷◌, ◌++◌, length, Option, Some, None, refl, sym, ap, ◌∙◌, arith, if◌then◌else◌}
use Rattle.std.specs.Prelude.{map, nat_lt, slice_index, slice_index_or}
use Rattle.std.proofs.lemmas.List.{map-append, length-drop}
use Rattle.std.proofs.Math.ListN.{get_or-map}
use Rattle.f3_program.specs.declared.expression.Argument as a
use Rattle.f3_program.specs.declared.expression.Designator as d
use Rattle.f3_program.specs.declared.expression.Expression as e
use Rattle.f3_program.specs.declared.expression.Selection as l
use Rattle.f3_program.specs.declared.expression.Subscript as u
use Rattle.f3_program.specs.declared.statement.Bounds.{Bounds}
use Rattle.f3_program.specs.declared.statement.Item.{Item}
use Rattle.f3_program.specs.declared.statement.Item.TheVariants as item
use Rattle.f3_program.specs.declared.statement.Range.{Range}
use Rattle.f3_code.specs.Work as w
use Rattle.f3_code.specs.Core as c
use Rattle.f3_code.specs.Code.{argument_count, subscript_count}
use Rattle.f3_heights.specs.Program.{allocate_heights, argument_heights, arguments_heights, body_heights, bounds_heights, bytes_heights, case_heights, chosen_heights, code_heights, deallocate_heights, departing_heights, dimensions_heights, discards_heights, each_heights, finish_heights, free_heights, if_heights, items_heights, last_heights, leaving_heights, limits_heights, locate_heights, main_heights, procedures_heights, program_heights, ranges_heights, routines_heights, select_heights, select_of_heights, selectors_heights, status_heights, subscript_heights, transfer_heights, turns_heights, up_heights, value_heights, while_heights, work_heights}
use Rattle.f3_sorts.specs.Effect.{Sort, times}
use Rattle.f3_sorts.specs.Effect as sort
use Rattle.f3_sorts.specs.Program.{allocate_sorts, argument_sorts, arguments_sorts, body_sorts, bounds_sorts, bytes_sorts, case_sorts, chosen_sorts, code_sorts, deallocate_sorts, departing_sorts, dimensions_sorts, discards_sorts, each_sorts, finish_sorts, free_sorts, if_sorts, items_sorts, last_sorts, leaving_sorts, limits_sorts, locate_sorts, main_sorts, procedures_sorts, program_sorts, ranges_sorts, routines_sorts, select_of_sorts, select_sorts, selectors_sorts, status_sorts, subscript_sorts, transfer_sorts, turns_sorts, up_sorts, value_sorts, while_sorts, work_sorts}

-- so many at each line
record Even (hs : List (List Sort)) (ns : List ℕ) : Type 0 where
  by : map length hs ≡ ns

none : Even [] []
none = record { by = refl }

cons : {h : List Sort} {n : ℕ} {hs : List (List Sort)} {ns : List ℕ} → length h ≡ n → Even hs ns → Even (h ∷ hs) (n ∷ ns)
cons {n = n} {hs = hs} e f = record { by = ap (λ k. k ∷ map length hs) e ∙ ap (λ l. n ∷ l) f.by }

on : {hs ks : List (List Sort)} {ns ms : List ℕ} → Even hs ns → Even ks ms → Even (hs ++ ks) (ns ++ ms)
on {hs = hs} {ks = ks} {ns = ns} e f = record { by = map-append length hs ks ∙ ap (λ l. l ++ map length ks) e.by ∙ ap (λ l. ns ++ l) f.by }

times_long : (k : ℕ) (x : Sort) (h : List Sort) → length (times k x ++ h) ≡ k + length h
times_long zero x h = let e : length h ≡ 0 + length h = omega arith in e
times_long (suc k) x h = omega (arith, times_long k x h)

limit_even : {hs : List (List Sort)} {ns : List ℕ} (b : Bool) (h : List Sort) → Even hs ns →
    Even (if b then hs ++ (sort.Datum ∷ h) ∷ [] else h ∷ []) (if b then ns ++ suc (length h) ∷ [] else length h ∷ [])
limit_even true h e = on e (cons refl none)
limit_even false h e = cons refl none

routine_even : (b : Bool) (h : List Sort) → Even (if b then (sort.Object ∷ h) ∷ [] else []) (if b then suc (length h) ∷ [] else [])
routine_even true h = cons refl none
routine_even false h = none

mutual
  value_even : (h : List Sort) (x : e.Expression) → Even (value_sorts h x) (value_heights (length h) x)
  value_even h (e.Literal c) = cons refl none
  value_even h (e.Variable' p x) = on (locate_even h x) (cons refl none)
  value_even h (e.Group' p x) = on (value_even h x) (cons refl none)
  value_even h (e.Unary' c t p x) = on (value_even h x) (cons refl none)
  value_even h (e.Binary' c t p x q y) = on (value_even h x) (on (value_even (sort.Datum ∷ h) y) (cons refl none))
  value_even h (e.Array' k xs) = on (arguments_even h xs) (cons (times_long (argument_count xs) sort.Argument h) none)
  value_even h (e.Structure' t k xs) = on (arguments_even h xs) (cons (times_long (argument_count xs) sort.Argument h) none)
  value_even h (e.Call' f k xs) = on (arguments_even h xs) (cons (times_long (argument_count xs) sort.Argument h) (cons refl none))
  value_even h (e.Allocated' p x) = on (locate_even h x) (cons refl none)
  value_even h (e.Size' p x) = on (bounds_even h x) (cons refl none)
  value_even h (e.Bound' q p x r y) = on (bounds_even h x) (on (value_even (sort.Bounds ∷ h) y) (cons refl none))

  bounds_even : (h : List Sort) (x : a.Argument) → Even (bounds_sorts h x) (bounds_heights (length h) x)
  bounds_even h (a.Value' k p x) = on (value_even h x) (cons refl none)
  bounds_even h (a.Variable' k p x) = on (locate_even h x) (cons refl none)

  argument_even : (h : List Sort) (x : a.Argument) → Even (argument_sorts h x) (argument_heights (length h) x)
  argument_even h (a.Value' k p x) = on (value_even h x) (cons refl none)
  argument_even h (a.Variable' k p x) = on (locate_even h x) (cons refl none)

  arguments_even : {m : _} (h : List Sort) (x : e.Row_of-Argument m) → Even (arguments_sorts h x) (arguments_heights (length h) x)
  arguments_even h e.end_of-Argument = none
  arguments_even h (e.more_of-Argument x rest) = on (argument_even h x) (arguments_even (sort.Argument ∷ h) rest)

  locate_even : (h : List Sort) (x : d.Designator) → Even (locate_sorts h x) (locate_heights (length h) x)
  locate_even h (d.Name x how) = cons refl (select_even h how)
  locate_even h (d.Component' p x k how) = on (locate_even h x) (select_of_even h how)

  -- above such cells stands the object
  select_even : (h : List Sort) (x : l.Selection) → Even (select_sorts h x) (select_heights (length h) x)
  select_even h l.Whole = none
  select_even h l.Contents = cons refl none
  select_even h (l.Elements' is_opened k xs) = on (chosen_even (sort.Object ∷ h) xs) (cons (times_long (subscript_count xs) sort.Choice (sort.Object ∷ h)) none)

  select_of_even : (h : List Sort) (x : l.Selection) → Even (select_of_sorts h x) (select_of_heights (length h) x)
  select_of_even h l.Whole = cons refl none
  select_of_even h l.Contents = cons refl (cons refl none)
  select_of_even h (l.Elements' is_opened k xs) = cons refl (on (chosen_even (sort.Object ∷ sort.Object ∷ h) xs) (cons (times_long (subscript_count xs) sort.Choice (sort.Object ∷ sort.Object ∷ h)) none))

  chosen_even : {m : _} (h : List Sort) (x : l.Row_of-Subscript m) → Even (chosen_sorts h x) (chosen_heights (length h) x)
  chosen_even h l.end_of-Subscript = none
  chosen_even h (l.more_of-Subscript x rest) = on (subscript_even h x) (chosen_even (sort.Choice ∷ h) rest)

  subscript_even : (h : List Sort) (x : u.Subscript) → Even (subscript_sorts h x) (subscript_heights (length h) x)
  subscript_even h (u.At' p x) = on (value_even h x) (cons refl none)
  subscript_even h (u.Range' has_lower p x has_upper q y r z) = on (limit_even has_lower h (value_even h x))
      (on (limit_even has_upper (sort.Bound ∷ h) (value_even (sort.Bound ∷ h) y)) (on (value_even (sort.Bound ∷ sort.Bound ∷ h) z) (cons refl none)))

-- ---- work on an object, above such cells, where there are so many routines

work_even : (m : ℕ) (h : List Sort) (x : w.Work) → Even (work_sorts m h x) (work_heights m (length h) x)
work_even m h w.Rest = none
work_even m h (w.And x y) = on (work_even m h x) (work_even m h y)
work_even m h (w.Lending x) = cons refl (on (work_even m h x) (cons refl none))
work_even m h (w.Of_rank rank x y) = cons refl (on (work_even m h x) (cons refl (work_even m h y)))
work_even m h (w.Final f) = cons refl (cons refl (cons refl none))
work_even m h (w.Routine t) = routine_even (nat_lt t m) h
work_even m h (w.Of_component k x) = cons refl (on (work_even m (sort.Object ∷ h) x) (cons refl none))
work_even m h (w.Of_elements x) = cons refl (cons refl (on (work_even m (sort.Elements ∷ sort.Object ∷ h) x) (cons refl (cons refl none))))
work_even m h (w.If_allocated x) = cons refl (work_even m h x)
work_even m h (w.Of_contents x) = cons refl (on (work_even m (sort.Object ∷ h) x) (cons refl (cons refl none)))
work_even m h w.Clear = cons refl none
work_even m h (w.Set v) = cons refl none
work_even m h w.Discard = cons refl none

-- ---- parts of statements

-- above such cells stand the value and the variable
transfer_even : (m : ℕ) (h : List Sort) (x : c.Transfer) → Even (transfer_sorts m h x) (transfer_heights m (length h) x)
transfer_even m h (c.Conforming x) = cons refl (transfer_even m h x)
transfer_even m h (c.By_state x y z) = cons refl (on (transfer_even m h x) (cons refl (on (transfer_even m h y) (cons refl (transfer_even m h z)))))
transfer_even m h (c.Of_rank rank x) = cons refl (transfer_even m h x)
transfer_even m h (c.Behind x y) = on (work_even m (sort.Datum ∷ h) x) (transfer_even m h y)
transfer_even m h (c.New rank element x) = cons refl (transfer_even m h x)
transfer_even m h (c.In_contents x) = cons refl (transfer_even m h x)
transfer_even m h (c.Take of) = cons refl none
transfer_even m h (c.Fill of) = cons refl none

dimensions_even : (h : List Sort) (x : List Bounds) → Even (dimensions_sorts h x) (dimensions_heights (length h) x)
dimensions_even h [] = none
dimensions_even h (b ∷ bs) = on (value_even h b.lower) (on (value_even (sort.Datum ∷ h) b.upper) (cons refl (dimensions_even (sort.Extent ∷ h) bs)))

allocate_even : (h : List Sort) (x : List c.Allocation) → Even (allocate_sorts h x) (allocate_heights (length h) x)
allocate_even h [] = cons refl none
allocate_even h (x ∷ xs) = on (locate_even h x.object) (on (dimensions_even (sort.Object ∷ h) x.bounds) (cons (times_long (length x.bounds) sort.Extent (sort.Object ∷ h)) (cons refl (allocate_even h xs))))

free_even : (m : ℕ) (h : List Sort) (x : w.Work) → Even (free_sorts m h x) (free_heights m (length h) x)
free_even m h x = cons refl (on (work_even m h x) (cons refl (cons refl none)))

deallocate_even : (m : ℕ) (h : List Sort) (x : List c.Deallocation) → Even (deallocate_sorts m h x) (deallocate_heights m (length h) x)
deallocate_even m h [] = cons refl none
deallocate_even m h (x ∷ xs) = on (locate_even h x.object) (on (free_even m h x.free) (cons refl (deallocate_even m h xs)))

status_even : (h : List Sort) (x : Option d.Designator) → Even (status_sorts h x) (status_heights (length h) x)
status_even h None = cons refl none
status_even h (Some d) = on (locate_even (sort.Status ∷ h) d) (cons refl none)

bytes_even : (h : List Sort) (x : List ℕ) → Even (bytes_sorts h x) (bytes_heights (length h) x)
bytes_even h [] = none
bytes_even h (b ∷ bs) = cons refl (bytes_even h bs)

items_even : (h : List Sort) (x : List Item) → Even (items_sorts h x) (items_heights (length h) x)
items_even h [] = cons refl none
items_even h (item.Value e ∷ xs) = on (value_even h e) (cons refl (items_even h xs))
items_even h (item.Text t ∷ xs) = on (bytes_even h (32 ∷ t.items)) (items_even h xs)

ranges_even : (h : List Sort) (x : List Range) → Even (ranges_sorts h x) (ranges_heights (length h) x)
ranges_even h [] = none
ranges_even h (r ∷ rs) = cons refl (cons refl (ranges_even h rs))

selectors_even : (h : List Sort) (x : List c.Selector) → Even (selectors_sorts h x) (selectors_heights (length h) x)
selectors_even h [] = none
selectors_even h (c.Bind d ∷ xs) = on (locate_even h d) (cons refl (selectors_even (sort.Selector ∷ h) xs))
selectors_even h (c.Hold of e x ∷ xs) = on (value_even h e) (cons refl (selectors_even (sort.Selector ∷ h) xs))

-- above such cells stand the objects that are left
discards_even : (m : ℕ) (h : List Sort) (x : List c.Selector) → Even (discards_sorts m h x) (discards_heights m (length h) x)
discards_even m h [] = none
discards_even m h (c.Bind d ∷ xs) = cons refl (cons refl (discards_even m h xs))
discards_even m h (c.Hold of e x ∷ xs) = cons refl (on (work_even m (sort.Objects ∷ h) x) (cons refl (discards_even m h xs)))

leaving_even : (h : List Sort) → Even (leaving_sorts h) (leaving_heights (length h))
leaving_even h = cons refl (cons refl (cons refl (cons refl none)))

-- above such cells stands how the construct was left; so many go at a RETURN
departing_even : (h : List Sort) (cells : ℕ) → Even (departing_sorts h cells) (departing_heights (length h) cells)
departing_even h cells = cons refl (cons refl (cons (length-drop cells h) none))

if_even : {t x y : List (List Sort)} {t' x' y' : List ℕ} (h : List Sort) → Even t t' → Even x x' → Even y y' →
    Even (if_sorts h t x y) (if_heights (length h) t' x' y')
if_even h t x y = on t (cons refl (on x (cons refl y)))

case_even : {x y : List (List Sort)} {x' y' : List ℕ} (h : List Sort) (rs : List Range) → Even x x' → Even y y' →
    Even (case_sorts h rs x y) (case_heights (length h) rs x' y')
case_even h rs x y = on (ranges_even h rs) (cons refl (on x (cons refl y)))

while_even : {t x : List (List Sort)} {t' x' : List ℕ} (h : List Sort) → Even t t' → Even x x' → Even (while_sorts h t x) (while_heights (length h) t' x')
while_even h t x = on t (cons refl (on x (cons refl none)))

-- above such cells stand the turns of a DO
up_even : (h : List Sort) (x : d.Designator) → Even (up_sorts h x) (up_heights (length h) x)
up_even h d = on (locate_even (sort.Turns ∷ h) d) (cons refl none)

turns_even : {x u : List (List Sort)} {x' u' : List ℕ} (h : List Sort) → Even x x' → Even u u' → Even (turns_sorts h x u) (turns_heights (length h) x' u')
turns_even h x u = cons refl (on x (on u (cons refl (cons refl none))))

limits_even : {r : List (List Sort)} {r' : List ℕ} (h : List Sort) (from to by : e.Expression) → Even r r' →
    Even (limits_sorts h from to by r) (limits_heights (length h) from to by r')
limits_even h from to by r = on (value_even h from) (cons refl (on (value_even (sort.Datum ∷ h) to) (cons refl
    (on (value_even (sort.Datum ∷ sort.Datum ∷ h) by) (cons refl (cons refl r))))))

-- ---- statements: behind such cells as before; so many go at a RETURN

code_even : (m : ℕ) (h : List Sort) (cells : ℕ) (x : c.Core) → Even (code_sorts m h cells x) (code_heights m (length h) cells x)
code_even m h cells (c.At place true x) = cons refl (code_even m h cells x)
code_even m h cells (c.At place false x) = code_even m h cells x
code_even m h cells c.Skip = none
code_even m h cells (c.Then x y) = on (code_even m h cells x) (code_even m h cells y)
code_even m h cells (c.Assign d x e) = on (value_even h e) (on (locate_even (sort.Datum ∷ h) d) (transfer_even m h x))
code_even m h cells (c.Call e) = on (value_even h e) (cons refl none)
code_even m h cells (c.Move true x d e) = on (locate_even h d) (on (locate_even (sort.Object ∷ h) e) (cons refl (on (work_even m (sort.Object ∷ h) x) (cons refl none))))
code_even m h cells (c.Move false x d e) = on (locate_even h d) (on (locate_even (sort.Object ∷ h) e) (cons refl (cons refl (on (work_even m (sort.Object ∷ h) x) (cons refl none)))))
code_even m h cells (c.Allocate xs stat) = on (allocate_even h xs) (status_even h stat)
code_even m h cells (c.Deallocate xs stat) = on (deallocate_even m h xs) (status_even h stat)
code_even m h cells (c.Print xs) = items_even h xs
code_even m h cells (c.Stop number) = cons refl none
code_even m h cells c.Return = cons refl (cons refl (cons (length-drop cells h) none))
code_even m h cells c.Cycle = cons refl none
code_even m h cells c.Exit = cons refl none
code_even m h cells (c.If e x y) = if_even h (value_even h e) (code_even m h cells x) (code_even m h cells y)
code_even m h cells (c.Select e x) = on (value_even h e) (cons refl (on (code_even m (sort.Outside ∷ h) 0 x) (on (leaving_even (sort.Outside ∷ h)) (departing_even h cells))))
code_even m h cells (c.Case rs x y) = case_even h rs (code_even m h cells x) (code_even m h cells y)
code_even m h cells (c.While e x) = while_even h (value_even h e) (code_even m h cells x)
code_even m h cells (c.Count d k from to by x) = limits_even h from to by (on (locate_even (sort.Datum ∷ sort.Datum ∷ sort.Datum ∷ h) d)
    (cons refl (turns_even h (code_even m (sort.Turns ∷ h) (suc cells) x) (up_even h d))))
code_even m h cells (c.Associate xs x) = on (selectors_even h xs) (cons (times_long (length xs) sort.Selector h) (on (code_even m (sort.Outside ∷ sort.Level ∷ h) 0 x) (on (leaving_even (sort.Outside ∷ sort.Level ∷ h)) (cons refl (on (discards_even m (sort.Going ∷ sort.Level ∷ h) xs) (cons refl (departing_even h cells)))))))

-- ---- procedures

-- above such cells stand the objects that are left
each_even : (m : ℕ) (h : List Sort) (x : List w.Work) → Even (each_sorts m h x) (each_heights m (length h) x)
each_even m h [] = none
each_even m h (x ∷ xs) = cons refl (on (work_even m (sort.Objects ∷ h) x) (cons refl (each_even m h xs)))

finish_even : (m : ℕ) (x : List w.Work) → Even (finish_sorts m x) (finish_heights m x)
finish_even m [] = none
finish_even m (x ∷ xs) = cons refl (on (work_even m [] x) (cons refl (finish_even m xs)))

last_even : (m : ℕ) (x : c.Procedure) → Even (last_sorts m x) (last_heights m x)
last_even m p = on (finish_even m p.finish) (cons refl (cons refl (on (each_even m (sort.Datum ∷ []) p.discard) (cons refl none))))

body_even : (m : ℕ) (x : c.Procedure) → Even (body_sorts m x) (body_heights m x)
body_even m p = cons refl (on (each_even m [] p.begin) (cons refl (on (code_even m [] 0 p.body) (cons refl (cons refl (last_even m p))))))

main_even : (m : ℕ) (x : c.Procedure) → Even (main_sorts m x) (main_heights m x)
main_even m p = on (code_even m [] 0 p.body) (cons refl (cons refl none))

procedures_even : (m : ℕ) (x : List c.Procedure) → Even (procedures_sorts m x) (procedures_heights m x)
procedures_even m [] = none
procedures_even m (p ∷ ps) = on (body_even m p) (procedures_even m ps)

routines_even : (x : List w.Work) → Even (routines_sorts x) (routines_heights x)
routines_even [] = none
routines_even (x ∷ xs) = on (work_even (length xs) [] x) (cons refl (routines_even xs))

-- of each line of the code of a program
program_even : (x : c.Program) → Even (program_sorts x) (program_heights x)
program_even p = on (main_even (length p.routines) p.main) (on (routines_even p.routines) (procedures_even (length p.routines) p.procedures))

pub sorts_have_heights : (p : c.Program) (pc : ℕ) → length (slice_index_or (program_sorts p) pc []) ≡ slice_index (program_heights p) pc
sorts_have_heights p pc = sym (get_or-map length (program_sorts p) pc []) ∙ ap (λ l. slice_index l pc) (program_even p).by
