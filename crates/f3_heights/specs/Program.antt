-- The heights of the code of a Core program: each function stands beside the one of the same code, with how many cells there are
-- where that begins.
use Rattle.std.specs.Prelude.{ℕ, suc, ◌+◌, ◌-◌, true, false, nat_lt, if◌then◌else◌, List, [], ◌∷◌, ◌++◌, length, Option, Some, None}
use Rattle.f3_program.specs.declared.expression.Argument as a
use Rattle.f3_program.specs.declared.expression.Designator as d
use Rattle.f3_program.specs.declared.expression.Expression as e
use Rattle.f3_program.specs.declared.expression.Selection as l
use Rattle.f3_program.specs.declared.expression.Subscript as u
use Rattle.f3_program.specs.declared.statement.Bounds.{Bounds}
use Rattle.f3_program.specs.declared.statement.Item.{Item}
use Rattle.f3_program.specs.declared.statement.Item.TheVariants as item
use Rattle.f3_program.specs.declared.statement.Range.{Range}
use Rattle.f3_code.specs.Work as w
use Rattle.f3_code.specs.Core as c
use Rattle.f3_code.specs.Code.{argument_count, subscript_count}

-- ---- expressions and designators: one cell more

abbrev mutual
  pub value_heights : ℕ → e.Expression → List ℕ
  value_heights h (e.Literal c) = h ∷ []
  value_heights h (e.Variable' p x) = locate_heights h x ++ suc h ∷ []
  value_heights h (e.Group' p x) = value_heights h x ++ suc h ∷ []
  value_heights h (e.Unary' c t p x) = value_heights h x ++ suc h ∷ []
  value_heights h (e.Binary' c t p x q y) = value_heights h x ++ (value_heights (suc h) y ++ suc (suc h) ∷ [])
  value_heights h (e.Array' k xs) = arguments_heights h xs ++ (argument_count xs + h) ∷ []
  value_heights h (e.Structure' t k xs) = arguments_heights h xs ++ (argument_count xs + h) ∷ []
  value_heights h (e.Call' f k xs) = arguments_heights h xs ++ ((argument_count xs + h) ∷ suc h ∷ [])
  value_heights h (e.Allocated' p x) = locate_heights h x ++ suc h ∷ []
  value_heights h (e.Size' p x) = bounds_heights h x ++ suc h ∷ []
  value_heights h (e.Bound' q p x r y) = bounds_heights h x ++ (value_heights (suc h) y ++ suc (suc h) ∷ [])

  pub bounds_heights : ℕ → a.Argument → List ℕ
  bounds_heights h (a.Value' k p x) = value_heights h x ++ suc h ∷ []
  bounds_heights h (a.Variable' k p x) = locate_heights h x ++ suc h ∷ []

  pub argument_heights : ℕ → a.Argument → List ℕ
  argument_heights h (a.Value' k p x) = value_heights h x ++ suc h ∷ []
  argument_heights h (a.Variable' k p x) = locate_heights h x ++ suc h ∷ []

  pub arguments_heights : {m : _} → ℕ → e.Row_of-Argument m → List ℕ
  arguments_heights h e.end_of-Argument = []
  arguments_heights h (e.more_of-Argument x rest) = argument_heights h x ++ arguments_heights (suc h) rest

  pub locate_heights : ℕ → d.Designator → List ℕ
  locate_heights h (d.Name x how) = h ∷ select_heights h how
  locate_heights h (d.Component' p x k how) = locate_heights h x ++ select_of_heights h how

  -- above so many cells stands the object
  pub select_heights : ℕ → l.Selection → List ℕ
  select_heights h l.Whole = []
  select_heights h l.Contents = suc h ∷ []
  select_heights h (l.Elements' is_opened k xs) = chosen_heights (suc h) xs ++ (subscript_count xs + suc h) ∷ []

  pub select_of_heights : ℕ → l.Selection → List ℕ
  select_of_heights h l.Whole = suc h ∷ []
  select_of_heights h l.Contents = suc h ∷ suc h ∷ []
  select_of_heights h (l.Elements' is_opened k xs) = suc h ∷ (chosen_heights (suc (suc h)) xs ++ (subscript_count xs + suc (suc h)) ∷ [])

  pub chosen_heights : {m : _} → ℕ → l.Row_of-Subscript m → List ℕ
  chosen_heights h l.end_of-Subscript = []
  chosen_heights h (l.more_of-Subscript x rest) = subscript_heights h x ++ chosen_heights (suc h) rest

  pub subscript_heights : ℕ → u.Subscript → List ℕ
  subscript_heights h (u.At' p x) = value_heights h x ++ suc h ∷ []
  subscript_heights h (u.Range' has_lower p x has_upper q y r z) =
      (if has_lower then value_heights h x ++ suc h ∷ [] else h ∷ [])
      ++ ((if has_upper then value_heights (suc h) y ++ suc (suc h) ∷ [] else suc h ∷ [])
      ++ (value_heights (suc (suc h)) z ++ suc (suc (suc h)) ∷ []))

-- ---- work on an object, above so many cells, where there are so many routines

abbrev pub work_heights : ℕ → ℕ → w.Work → List ℕ
work_heights m h w.Rest = []
work_heights m h (w.And x y) = work_heights m h x ++ work_heights m h y
work_heights m h (w.Lending x) = suc h ∷ (work_heights m h x ++ suc h ∷ [])
work_heights m h (w.Of_rank rank x y) = suc h ∷ (work_heights m h x ++ (suc h ∷ work_heights m h y))
work_heights m h (w.Final f) = suc h ∷ suc (suc h) ∷ suc (suc h) ∷ []
work_heights m h (w.Routine t) = if nat_lt t m then suc h ∷ [] else []
work_heights m h (w.Of_component k x) = suc h ∷ (work_heights m (suc h) x ++ suc (suc h) ∷ [])
work_heights m h (w.Of_elements x) = suc h ∷ suc (suc h) ∷ (work_heights m (suc (suc h)) x ++ (suc (suc (suc h)) ∷ suc (suc h) ∷ []))
work_heights m h (w.If_allocated x) = suc h ∷ work_heights m h x
work_heights m h (w.Of_contents x) = suc h ∷ (work_heights m (suc h) x ++ (suc (suc h) ∷ suc h ∷ []))
work_heights m h w.Clear = suc h ∷ []
work_heights m h (w.Set v) = suc h ∷ []
work_heights m h w.Discard = suc h ∷ []

-- ---- parts of statements

-- above so many cells stand the value and the variable
abbrev pub transfer_heights : ℕ → ℕ → c.Transfer → List ℕ
transfer_heights m h (c.Conforming x) = suc (suc h) ∷ transfer_heights m h x
transfer_heights m h (c.By_state x y z) = suc (suc h) ∷ (transfer_heights m h x ++ (h ∷ (transfer_heights m h y ++ (h ∷ transfer_heights m h z))))
transfer_heights m h (c.Of_rank rank x) = suc (suc h) ∷ transfer_heights m h x
transfer_heights m h (c.Behind x y) = work_heights m (suc h) x ++ transfer_heights m h y
transfer_heights m h (c.New rank element x) = suc (suc h) ∷ transfer_heights m h x
transfer_heights m h (c.In_contents x) = suc (suc h) ∷ transfer_heights m h x
transfer_heights m h (c.Take of) = suc (suc h) ∷ []
transfer_heights m h (c.Fill of) = suc (suc h) ∷ []

abbrev pub dimensions_heights : ℕ → List Bounds → List ℕ
dimensions_heights h [] = []
dimensions_heights h (b ∷ bs) = value_heights h b.lower ++ (value_heights (suc h) b.upper ++ (suc (suc h) ∷ dimensions_heights (suc h) bs))

abbrev pub allocate_heights : ℕ → List c.Allocation → List ℕ
allocate_heights h [] = h ∷ []
allocate_heights h (x ∷ xs) = locate_heights h x.object ++ (dimensions_heights (suc h) x.bounds
    ++ ((length x.bounds + suc h) ∷ suc h ∷ allocate_heights h xs))

abbrev pub free_heights : ℕ → ℕ → w.Work → List ℕ
free_heights m h x = suc h ∷ (work_heights m h x ++ (suc h ∷ h ∷ []))

abbrev pub deallocate_heights : ℕ → ℕ → List c.Deallocation → List ℕ
deallocate_heights m h [] = h ∷ []
deallocate_heights m h (x ∷ xs) = locate_heights h x.object ++ (free_heights m h x.free ++ (suc h ∷ deallocate_heights m h xs))

abbrev pub status_heights : ℕ → Option d.Designator → List ℕ
status_heights h None = suc h ∷ []
status_heights h (Some d) = locate_heights (suc h) d ++ suc (suc h) ∷ []

abbrev pub bytes_heights : ℕ → List ℕ → List ℕ
bytes_heights h [] = []
bytes_heights h (b ∷ bs) = h ∷ bytes_heights h bs

abbrev pub items_heights : ℕ → List Item → List ℕ
items_heights h [] = h ∷ []
items_heights h (item.Value e ∷ xs) = value_heights h e ++ (suc h ∷ items_heights h xs)
items_heights h (item.Text t ∷ xs) = bytes_heights h (32 ∷ t.items) ++ items_heights h xs

abbrev pub ranges_heights : ℕ → List Range → List ℕ
ranges_heights h [] = []
ranges_heights h (r ∷ rs) = h ∷ suc h ∷ ranges_heights h rs

abbrev pub selectors_heights : ℕ → List c.Selector → List ℕ
selectors_heights h [] = []
selectors_heights h (c.Bind d ∷ xs) = locate_heights h d ++ (suc h ∷ selectors_heights (suc h) xs)
selectors_heights h (c.Hold of e x ∷ xs) = value_heights h e ++ (suc h ∷ selectors_heights (suc h) xs)

-- above so many cells stand the objects that are left
abbrev pub discards_heights : ℕ → ℕ → List c.Selector → List ℕ
discards_heights m h [] = []
discards_heights m h (c.Bind d ∷ xs) = suc h ∷ suc (suc h) ∷ discards_heights m h xs
discards_heights m h (c.Hold of e x ∷ xs) = suc h ∷ (work_heights m (suc h) x ++ (suc (suc h) ∷ discards_heights m h xs))

abbrev pub leaving_heights : ℕ → List ℕ
leaving_heights h = h ∷ h ∷ h ∷ h ∷ []

-- above so many cells stands how the construct was left; so many go at a RETURN
abbrev pub departing_heights : ℕ → ℕ → List ℕ
departing_heights h cells = suc h ∷ h ∷ (h - cells) ∷ []

abbrev pub if_heights : ℕ → List ℕ → List ℕ → List ℕ → List ℕ
if_heights h test x y = test ++ (suc h ∷ (x ++ (h ∷ y)))

abbrev pub case_heights : ℕ → List Range → List ℕ → List ℕ → List ℕ
case_heights h rs x y = ranges_heights h rs ++ (h ∷ (x ++ (h ∷ y)))

abbrev pub while_heights : ℕ → List ℕ → List ℕ → List ℕ
while_heights h test x = test ++ (suc h ∷ (x ++ h ∷ []))

-- above so many cells stand the turns of a DO
abbrev pub up_heights : ℕ → d.Designator → List ℕ
up_heights h d = locate_heights (suc h) d ++ suc (suc h) ∷ []

abbrev pub turns_heights : ℕ → List ℕ → List ℕ → List ℕ
turns_heights h x up = suc h ∷ (x ++ (up ++ (suc h ∷ suc h ∷ [])))

abbrev pub limits_heights : ℕ → e.Expression → e.Expression → e.Expression → List ℕ → List ℕ
limits_heights h from to by rest = value_heights h from ++ (suc h ∷ (value_heights (suc h) to ++ (suc (suc h)
    ∷ (value_heights (suc (suc h)) by ++ (suc (suc (suc h)) ∷ suc (suc (suc h)) ∷ rest)))))

-- ---- statements: as many cells behind as before; so many go at a RETURN

abbrev pub code_heights : ℕ → ℕ → ℕ → c.Core → List ℕ
code_heights m h cells (c.At place true x) = h ∷ code_heights m h cells x
code_heights m h cells (c.At place false x) = code_heights m h cells x
code_heights m h cells c.Skip = []
code_heights m h cells (c.Then x y) = code_heights m h cells x ++ code_heights m h cells y
code_heights m h cells (c.Assign d x e) = value_heights h e ++ (locate_heights (suc h) d ++ transfer_heights m h x)
code_heights m h cells (c.Call e) = value_heights h e ++ suc h ∷ []
code_heights m h cells (c.Move true x d e) = locate_heights h d ++ (locate_heights (suc h) e
    ++ (suc (suc h) ∷ (work_heights m (suc h) x ++ suc (suc h) ∷ [])))
code_heights m h cells (c.Move false x d e) = locate_heights h d ++ (locate_heights (suc h) e
    ++ (suc (suc h) ∷ suc (suc h) ∷ (work_heights m (suc h) x ++ suc (suc h) ∷ [])))
code_heights m h cells (c.Allocate xs stat) = allocate_heights h xs ++ status_heights h stat
code_heights m h cells (c.Deallocate xs stat) = deallocate_heights m h xs ++ status_heights h stat
code_heights m h cells (c.Print xs) = items_heights h xs
code_heights m h cells (c.Stop number) = h ∷ []
code_heights m h cells c.Return = h ∷ h ∷ (h - cells) ∷ []
code_heights m h cells c.Cycle = h ∷ []
code_heights m h cells c.Exit = h ∷ []
code_heights m h cells (c.If e x y) = if_heights h (value_heights h e) (code_heights m h cells x) (code_heights m h cells y)
code_heights m h cells (c.Select e x) = value_heights h e ++ (suc h ∷ (code_heights m (suc h) 0 x
    ++ (leaving_heights (suc h) ++ departing_heights h cells)))
code_heights m h cells (c.Case rs x y) = case_heights h rs (code_heights m h cells x) (code_heights m h cells y)
code_heights m h cells (c.While e x) = while_heights h (value_heights h e) (code_heights m h cells x)
code_heights m h cells (c.Count d k from to by x) = limits_heights h from to by (locate_heights (suc (suc (suc h))) d
    ++ (suc (suc (suc (suc h))) ∷ turns_heights h (code_heights m (suc h) (suc cells) x) (up_heights h d)))
code_heights m h cells (c.Associate xs x) = selectors_heights h xs ++ ((length xs + h) ∷ (code_heights m (suc (suc h)) 0 x
    ++ (leaving_heights (suc (suc h)) ++ (suc (suc h) ∷ (discards_heights m (suc (suc h)) xs
    ++ (suc (suc (suc h)) ∷ departing_heights h cells))))))

-- ---- procedures

-- above so many cells stand the objects that are left
abbrev pub each_heights : ℕ → ℕ → List w.Work → List ℕ
each_heights m h [] = []
each_heights m h (x ∷ xs) = suc h ∷ (work_heights m (suc h) x ++ (suc (suc h) ∷ each_heights m h xs))

abbrev pub finish_heights : ℕ → List w.Work → List ℕ
finish_heights m [] = []
finish_heights m (x ∷ xs) = 0 ∷ (work_heights m 0 x ++ (1 ∷ finish_heights m xs))

abbrev pub last_heights : ℕ → c.Procedure → List ℕ
last_heights m p = finish_heights m p.finish ++ (0 ∷ 1 ∷ (each_heights m 1 p.discard ++ 2 ∷ []))

abbrev pub body_heights : ℕ → c.Procedure → List ℕ
body_heights m p = 0 ∷ (each_heights m 0 p.begin ++ (1 ∷ (code_heights m 0 0 p.body ++ (0 ∷ 0 ∷ last_heights m p))))

abbrev pub main_heights : ℕ → c.Procedure → List ℕ
main_heights m p = code_heights m 0 0 p.body ++ (0 ∷ 0 ∷ [])

abbrev pub procedures_heights : ℕ → List c.Procedure → List ℕ
procedures_heights m [] = []
procedures_heights m (p ∷ ps) = body_heights m p ++ procedures_heights m ps

abbrev pub routines_heights : List w.Work → List ℕ
routines_heights [] = []
routines_heights (x ∷ xs) = work_heights (length xs) 0 x ++ (1 ∷ routines_heights xs)

-- of each line of the code of a program
abbrev pub program_heights : c.Program → List ℕ
program_heights p = main_heights (length p.routines) p.main ++ (routines_heights p.routines
    ++ procedures_heights (length p.routines) p.procedures)
