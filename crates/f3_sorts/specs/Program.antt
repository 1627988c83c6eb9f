-- The sorts of the code of a Core program: each function stands beside the one of the same code, with the sorts of the cells that stand
-- where that begins.
use Rattle.std.specs.Prelude.{ℕ, suc, true, false, nat_lt, if◌then◌else◌, List, [], ◌∷◌, ◌++◌, length, drop, Option, Some, None}
use Rattle.f3_program.specs.declared.expression.Argument as a
use Rattle.f3_program.specs.declared.expression.Designator as d
use Rattle.f3_program.specs.declared.expression.Expression as e
use Rattle.f3_program.specs.declared.expression.Selection as l
use Rattle.f3_program.specs.declared.expression.Subscript as u
use Rattle.f3_program.specs.declared.statement.Bounds.{Bounds}
use Rattle.f3_program.specs.declared.statement.Item.{Item}
use Rattle.f3_program.specs.declared.statement.Item.TheVariants as item
use Rattle.f3_program.specs.declared.statement.Range.{Range}
use Rattle.f3_code.specs.Work as w
use Rattle.f3_code.specs.Core as c
use Rattle.f3_code.specs.Code.{argument_count, subscript_count}
use Rattle.f3_sorts.specs.Effect.{Sort, times}
use Rattle.f3_sorts.specs.Effect as sort

-- ---- expressions and designators: a value or an object more, above such cells

abbrev mutual
  pub value_sorts : List Sort → e.Expression → List (List Sort)
  value_sorts h (e.Literal c) = h ∷ []
  value_sorts h (e.Variable' p x) = locate_sorts h x ++ (sort.Object ∷ h) ∷ []
  value_sorts h (e.Group' p x) = value_sorts h x ++ (sort.Datum ∷ h) ∷ []
  value_sorts h (e.Unary' c t p x) = value_sorts h x ++ (sort.Datum ∷ h) ∷ []
  value_sorts h (e.Binary' c t p x q y) = value_sorts h x ++ (value_sorts (sort.Datum ∷ h) y ++ (sort.Datum ∷ sort.Datum ∷ h) ∷ [])
  value_sorts h (e.Array' k xs) = arguments_sorts h xs ++ (times (argument_count xs) sort.Argument ++ h) ∷ []
  value_sorts h (e.Structure' t k xs) = arguments_sorts h xs ++ (times (argument_count xs) sort.Argument ++ h) ∷ []
  value_sorts h (e.Call' f k xs) = arguments_sorts h xs ++ ((times (argument_count xs) sort.Argument ++ h) ∷ (sort.Datum ∷ h) ∷ [])
  value_sorts h (e.Allocated' p x) = locate_sorts h x ++ (sort.Object ∷ h) ∷ []
  value_sorts h (e.Size' p x) = bounds_sorts h x ++ (sort.Bounds ∷ h) ∷ []
  value_sorts h (e.Bound' q p x r y) = bounds_sorts h x ++ (value_sorts (sort.Bounds ∷ h) y ++ (sort.Datum ∷ sort.Bounds ∷ h) ∷ [])

  pub bounds_sorts : List Sort → a.Argument → List (List Sort)
  bounds_sorts h (a.Value' k p x) = value_sorts h x ++ (sort.Datum ∷ h) ∷ []
  bounds_sorts h (a.Variable' k p x) = locate_sorts h x ++ (sort.Object ∷ h) ∷ []

  pub argument_sorts : List Sort → a.Argument → List (List Sort)
  argument_sorts h (a.Value' k p x) = value_sorts h x ++ (sort.Datum ∷ h) ∷ []
  argument_sorts h (a.Variable' k p x) = locate_sorts h x ++ (sort.Object ∷ h) ∷ []

  pub arguments_sorts : {m : _} → List Sort → e.Row_of-Argument m → List (List Sort)
  arguments_sorts h e.end_of-Argument = []
  arguments_sorts h (e.more_of-Argument x rest) = argument_sorts h x ++ arguments_sorts (sort.Argument ∷ h) rest

  pub locate_sorts : List Sort → d.Designator → List (List Sort)
  locate_sorts h (d.Name x how) = h ∷ select_sorts h how
  locate_sorts h (d.Component' p x k how) = locate_sorts h x ++ select_of_sorts h how

  -- above such cells stands the object
  pub select_sorts : List Sort → l.Selection → List (List Sort)
  select_sorts h l.Whole = []
  select_sorts h l.Contents = (sort.Object ∷ h) ∷ []
  select_sorts h (l.Elements' is_opened k xs) = chosen_sorts (sort.Object ∷ h) xs ++ (times (subscript_count xs) sort.Choice ++ sort.Object ∷ h) ∷ []

  pub select_of_sorts : List Sort → l.Selection → List (List Sort)
  select_of_sorts h l.Whole = (sort.Object ∷ h) ∷ []
  select_of_sorts h l.Contents = (sort.Object ∷ h) ∷ (sort.Object ∷ h) ∷ []
  select_of_sorts h (l.Elements' is_opened k xs) = (sort.Object ∷ h) ∷ (chosen_sorts (sort.Object ∷ sort.Object ∷ h) xs
      ++ (times (subscript_count xs) sort.Choice ++ sort.Object ∷ sort.Object ∷ h) ∷ [])

  pub chosen_sorts : {m : _} → List Sort → l.Row_of-Subscript m → List (List Sort)
  chosen_sorts h l.end_of-Subscript = []
  chosen_sorts h (l.more_of-Subscript x rest) = subscript_sorts h x ++ chosen_sorts (sort.Choice ∷ h) rest

  pub subscript_sorts : List Sort → u.Subscript → List (List Sort)
  subscript_sorts h (u.At' p x) = value_sorts h x ++ (sort.Datum ∷ h) ∷ []
  subscript_sorts h (u.Range' has_lower p x has_upper q y r z) =
      (if has_lower then value_sorts h x ++ (sort.Datum ∷ h) ∷ [] else h ∷ [])
      ++ ((if has_upper then value_sorts (sort.Bound ∷ h) y ++ (sort.Datum ∷ sort.Bound ∷ h) ∷ [] else (sort.Bound ∷ h) ∷ [])
      ++ (value_sorts (sort.Bound ∷ sort.Bound ∷ h) z ++ (sort.Datum ∷ sort.Bound ∷ sort.Bound ∷ h) ∷ []))

-- ---- work on an object, above such cells, where there are so many routines

abbrev pub work_sorts : ℕ → List Sort → w.Work → List (List Sort)
work_sorts m h w.Rest = []
work_sorts m h (w.And x y) = work_sorts m h x ++ work_sorts m h y
work_sorts m h (w.Lending x) = (sort.Object ∷ h) ∷ (work_sorts m h x ++ (sort.Object ∷ h) ∷ [])
work_sorts m h (w.Of_rank rank x y) = (sort.Object ∷ h) ∷ (work_sorts m h x ++ ((sort.Object ∷ h) ∷ work_sorts m h y))
work_sorts m h (w.Final f) = (sort.Object ∷ h) ∷ (sort.Argument ∷ sort.Object ∷ h) ∷ (sort.Datum ∷ sort.Object ∷ h) ∷ []
work_sorts m h (w.Routine t) = if nat_lt t m then (sort.Object ∷ h) ∷ [] else []
work_sorts m h (w.Of_component k x) = (sort.Object ∷ h) ∷ (work_sorts m (sort.Object ∷ h) x ++ (sort.Object ∷ sort.Object ∷ h) ∷ [])
work_sorts m h (w.Of_elements x) = (sort.Object ∷ h) ∷ (sort.Elements ∷ sort.Object ∷ h) ∷ (work_sorts m (sort.Elements ∷ sort.Object ∷ h) x
    ++ ((sort.Object ∷ sort.Elements ∷ sort.Object ∷ h) ∷ (sort.Elements ∷ sort.Object ∷ h) ∷ []))
work_sorts m h (w.If_allocated x) = (sort.Object ∷ h) ∷ work_sorts m h x
work_sorts m h (w.Of_contents x) = (sort.Object ∷ h) ∷ (work_sorts m (sort.Object ∷ h) x ++ ((sort.Object ∷ sort.Object ∷ h) ∷ (sort.Object ∷ h) ∷ []))
work_sorts m h w.Clear = (sort.Object ∷ h) ∷ []
work_sorts m h (w.Set v) = (sort.Object ∷ h) ∷ []
work_sorts m h w.Discard = (sort.Object ∷ h) ∷ []

-- ---- parts of statements

-- above such cells stand the value and the variable
abbrev pub transfer_sorts : ℕ → List Sort → c.Transfer → List (List Sort)
transfer_sorts m h (c.Conforming x) = (sort.Object ∷ sort.Datum ∷ h) ∷ transfer_sorts m h x
transfer_sorts m h (c.By_state x y z) = (sort.Object ∷ sort.Datum ∷ h) ∷ (transfer_sorts m h x ++ (h ∷ (transfer_sorts m h y ++ (h ∷ transfer_sorts m h z))))
transfer_sorts m h (c.Of_rank rank x) = (sort.Object ∷ sort.Datum ∷ h) ∷ transfer_sorts m h x
transfer_sorts m h (c.Behind x y) = work_sorts m (sort.Datum ∷ h) x ++ transfer_sorts m h y
transfer_sorts m h (c.New rank element x) = (sort.Object ∷ sort.Datum ∷ h) ∷ transfer_sorts m h x
transfer_sorts m h (c.In_contents x) = (sort.Object ∷ sort.Datum ∷ h) ∷ transfer_sorts m h x
transfer_sorts m h (c.Take of) = (sort.Object ∷ sort.Datum ∷ h) ∷ []
transfer_sorts m h (c.Fill of) = (sort.Object ∷ sort.Datum ∷ h) ∷ []

abbrev pub dimensions_sorts : List Sort → List Bounds → List (List Sort)
dimensions_sorts h [] = []
dimensions_sorts h (b ∷ bs) = value_sorts h b.lower ++ (value_sorts (sort.Datum ∷ h) b.upper
    ++ ((sort.Datum ∷ sort.Datum ∷ h) ∷ dimensions_sorts (sort.Extent ∷ h) bs))

abbrev pub allocate_sorts : List Sort → List c.Allocation → List (List Sort)
allocate_sorts h [] = h ∷ []
allocate_sorts h (x ∷ xs) = locate_sorts h x.object ++ (dimensions_sorts (sort.Object ∷ h) x.bounds
    ++ ((times (length x.bounds) sort.Extent ++ sort.Object ∷ h) ∷ (sort.Status ∷ h) ∷ allocate_sorts h xs))

abbrev pub free_sorts : ℕ → List Sort → w.Work → List (List Sort)
free_sorts m h x = (sort.Object ∷ h) ∷ (work_sorts m h x ++ ((sort.Object ∷ h) ∷ h ∷ []))

abbrev pub deallocate_sorts : ℕ → List Sort → List c.Deallocation → List (List Sort)
deallocate_sorts m h [] = h ∷ []
deallocate_sorts m h (x ∷ xs) = locate_sorts h x.object ++ (free_sorts m h x.free ++ ((sort.Status ∷ h) ∷ deallocate_sorts m h xs))

abbrev pub status_sorts : List Sort → Option d.Designator → List (List Sort)
status_sorts h None = (sort.Status ∷ h) ∷ []
status_sorts h (Some d) = locate_sorts (sort.Status ∷ h) d ++ (sort.Object ∷ sort.Status ∷ h) ∷ []

abbrev pub bytes_sorts : List Sort → List ℕ → List (List Sort)
bytes_sorts h [] = []
bytes_sorts h (b ∷ bs) = h ∷ bytes_sorts h bs

abbrev pub items_sorts : List Sort → List Item → List (List Sort)
items_sorts h [] = h ∷ []
items_sorts h (item.Value e ∷ xs) = value_sorts h e ++ ((sort.Datum ∷ h) ∷ items_sorts h xs)
items_sorts h (item.Text t ∷ xs) = bytes_sorts h (32 ∷ t.items) ++ items_sorts h xs

abbrev pub ranges_sorts : List Sort → List Range → List (List Sort)
ranges_sorts h [] = []
ranges_sorts h (r ∷ rs) = h ∷ (sort.Datum ∷ h) ∷ ranges_sorts h rs

abbrev pub selectors_sorts : List Sort → List c.Selector → List (List Sort)
selectors_sorts h [] = []
selectors_sorts h (c.Bind d ∷ xs) = locate_sorts h d ++ ((sort.Object ∷ h) ∷ selectors_sorts (sort.Selector ∷ h) xs)
selectors_sorts h (c.Hold of e x ∷ xs) = value_sorts h e ++ ((sort.Datum ∷ h) ∷ selectors_sorts (sort.Selector ∷ h) xs)

-- above such cells stand the objects that are left
abbrev pub discards_sorts : ℕ → List Sort → List c.Selector → List (List Sort)
discards_sorts m h [] = []
discards_sorts m h (c.Bind d ∷ xs) = (sort.Objects ∷ h) ∷ (sort.Object ∷ sort.Objects ∷ h) ∷ discards_sorts m h xs
discards_sorts m h (c.Hold of e x ∷ xs) = (sort.Objects ∷ h) ∷ (work_sorts m (sort.Objects ∷ h) x ++ ((sort.Object ∷ sort.Objects ∷ h) ∷ discards_sorts m h xs))

abbrev pub leaving_sorts : List Sort → List (List Sort)
leaving_sorts h = h ∷ h ∷ h ∷ h ∷ []

-- above such cells stands how the construct was left; so many go at a RETURN
abbrev pub departing_sorts : List Sort → ℕ → List (List Sort)
departing_sorts h cells = (sort.Going ∷ h) ∷ h ∷ drop cells h ∷ []

abbrev pub if_sorts : List Sort → List (List Sort) → List (List Sort) → List (List Sort) → List (List Sort)
if_sorts h test x y = test ++ ((sort.Datum ∷ h) ∷ (x ++ (h ∷ y)))

abbrev pub case_sorts : List Sort → List Range → List (List Sort) → List (List Sort) → List (List Sort)
case_sorts h rs x y = ranges_sorts h rs ++ (h ∷ (x ++ (h ∷ y)))

abbrev pub while_sorts : List Sort → List (List Sort) → List (List Sort) → List (List Sort)
while_sorts h test x = test ++ ((sort.Datum ∷ h) ∷ (x ++ h ∷ []))

-- above such cells stand the turns of a DO
abbrev pub up_sorts : List Sort → d.Designator → List (List Sort)
up_sorts h d = locate_sorts (sort.Turns ∷ h) d ++ (sort.Object ∷ sort.Turns ∷ h) ∷ []

abbrev pub turns_sorts : List Sort → List (List Sort) → List (List Sort) → List (List Sort)
turns_sorts h x up = (sort.Turns ∷ h) ∷ (x ++ (up ++ ((sort.Turns ∷ h) ∷ (sort.Turns ∷ h) ∷ [])))

abbrev pub limits_sorts : List Sort → e.Expression → e.Expression → e.Expression → List (List Sort) → List (List Sort)
limits_sorts h from to by rest = value_sorts h from ++ ((sort.Datum ∷ h) ∷ (value_sorts (sort.Datum ∷ h) to ++ ((sort.Datum ∷ sort.Datum ∷ h)
    ∷ (value_sorts (sort.Datum ∷ sort.Datum ∷ h) by ++ ((sort.Datum ∷ sort.Datum ∷ sort.Datum ∷ h) ∷ (sort.Datum ∷ sort.Datum ∷ sort.Datum ∷ h) ∷ rest)))))

-- ---- statements: behind such cells as before; so many go at a RETURN

abbrev pub code_sorts : ℕ → List Sort → ℕ → c.Core → List (List Sort)
code_sorts m h cells (c.At place true x) = h ∷ code_sorts m h cells x
code_sorts m h cells (c.At place false x) = code_sorts m h cells x
code_sorts m h cells c.Skip = []
code_sorts m h cells (c.Then x y) = code_sorts m h cells x ++ code_sorts m h cells y
code_sorts m h cells (c.Assign d x e) = value_sorts h e ++ (locate_sorts (sort.Datum ∷ h) d ++ transfer_sorts m h x)
code_sorts m h cells (c.Call e) = value_sorts h e ++ (sort.Datum ∷ h) ∷ []
code_sorts m h cells (c.Move true x d e) = locate_sorts h d ++ (locate_sorts (sort.Object ∷ h) e
    ++ ((sort.Object ∷ sort.Object ∷ h) ∷ (work_sorts m (sort.Object ∷ h) x ++ (sort.Object ∷ sort.Object ∷ h) ∷ [])))
code_sorts m h cells (c.Move false x d e) = locate_sorts h d ++ (locate_sorts (sort.Object ∷ h) e
    ++ ((sort.Object ∷ sort.Object ∷ h) ∷ (sort.Object ∷ sort.Object ∷ h) ∷ (work_sorts m (sort.Object ∷ h) x ++ (sort.Object ∷ sort.Object ∷ h) ∷ [])))
code_sorts m h cells (c.Allocate xs stat) = allocate_sorts h xs ++ status_sorts h stat
code_sorts m h cells (c.Deallocate xs stat) = deallocate_sorts m h xs ++ status_sorts h stat
code_sorts m h cells (c.Print xs) = items_sorts h xs
code_sorts m h cells (c.Stop number) = h ∷ []
code_sorts m h cells c.Return = h ∷ h ∷ drop cells h ∷ []
code_sorts m h cells c.Cycle = h ∷ []
code_sorts m h cells c.Exit = h ∷ []
code_sorts m h cells (c.If e x y) = if_sorts h (value_sorts h e) (code_sorts m h cells x) (code_sorts m h cells y)
code_sorts m h cells (c.Select e x) = value_sorts h e ++ ((sort.Datum ∷ h) ∷ (code_sorts m (sort.Outside ∷ h) 0 x
    ++ (leaving_sorts (sort.Outside ∷ h) ++ departing_sorts h cells)))
code_sorts m h cells (c.Case rs x y) = case_sorts h rs (code_sorts m h cells x) (code_sorts m h cells y)
code_sorts m h cells (c.While e x) = while_sorts h (value_sorts h e) (code_sorts m h cells x)
code_sorts m h cells (c.Count d k from to by x) = limits_sorts h from to by (locate_sorts (sort.Datum ∷ sort.Datum ∷ sort.Datum ∷ h) d
    ++ ((sort.Object ∷ sort.Datum ∷ sort.Datum ∷ sort.Datum ∷ h) ∷ turns_sorts h (code_sorts m (sort.Turns ∷ h) (suc cells) x) (up_sorts h d)))
code_sorts m h cells (c.Associate xs x) = selectors_sorts h xs ++ ((times (length xs) sort.Selector ++ h) ∷ (code_sorts m (sort.Outside ∷ sort.Level ∷ h) 0 x
    ++ (leaving_sorts (sort.Outside ∷ sort.Level ∷ h) ++ ((sort.Going ∷ sort.Level ∷ h) ∷ (discards_sorts m (sort.Going ∷ sort.Level ∷ h) xs
    ++ ((sort.Objects ∷ sort.Going ∷ sort.Level ∷ h) ∷ departing_sorts h cells))))))

-- ---- procedures

-- above such cells stand the objects that are left
abbrev pub each_sorts : ℕ → List Sort → List w.Work → List (List Sort)
each_sorts m h [] = []
each_sorts m h (x ∷ xs) = (sort.Objects ∷ h) ∷ (work_sorts m (sort.Objects ∷ h) x ++ ((sort.Object ∷ sort.Objects ∷ h) ∷ each_sorts m h xs))

abbrev pub finish_sorts : ℕ → List w.Work → List (List Sort)
finish_sorts m [] = []
finish_sorts m (x ∷ xs) = [] ∷ (work_sorts m [] x ++ ((sort.Object ∷ []) ∷ finish_sorts m xs))

abbrev pub last_sorts : ℕ → c.Procedure → List (List Sort)
last_sorts m p = finish_sorts m p.finish ++ ([] ∷ (sort.Datum ∷ []) ∷ (each_sorts m (sort.Datum ∷ []) p.discard ++ (sort.Objects ∷ sort.Datum ∷ []) ∷ []))

abbrev pub body_sorts : ℕ → c.Procedure → List (List Sort)
body_sorts m p = [] ∷ (each_sorts m [] p.begin ++ ((sort.Objects ∷ []) ∷ (code_sorts m [] 0 p.body ++ ([] ∷ [] ∷ last_sorts m p))))

abbrev pub main_sorts : ℕ → c.Procedure → List (List Sort)
main_sorts m p = code_sorts m [] 0 p.body ++ ([] ∷ [] ∷ [])

abbrev pub procedures_sorts : ℕ → List c.Procedure → List (List Sort)
procedures_sorts m [] = []
procedures_sorts m (p ∷ ps) = body_sorts m p ++ procedures_sorts m ps

abbrev pub routines_sorts : List w.Work → List (List Sort)
routines_sorts [] = []
routines_sorts (x ∷ xs) = work_sorts (length xs) [] x ++ ((sort.Object ∷ []) ∷ routines_sorts xs)

-- of each line of the code of a program
abbrev pub program_sorts : c.Program → List (List Sort)
program_sorts p = main_sorts (length p.routines) p.main ++ (routines_sorts p.routines
    ++ procedures_sorts (length p.routines) p.procedures)
