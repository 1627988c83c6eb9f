-- How many names of ASSOCIATEs are open at the lines of a code.
use Rattle.std.proofs.Common.{◌≡◌, ◌≤◌, ℕ, ◌+◌, ◌-◌, max, Bool, true, false, List, [], ◌∷◌, ◌++◌, length, Option, Some, None, refl, ap, ◌∙◌, arith, if◌then◌else◌}
use Rattle.std.specs.Prelude.{nat_lt}
use Rattle.f3_places.specs.declared.source.Place.{Place}
use Rattle.f3_program.specs.declared.declarations.Kind.{Kind}
use Rattle.f3_program.specs.declared.expression.Argument as a
use Rattle.f3_program.specs.declared.expression.Designator as d
use Rattle.f3_program.specs.declared.expression.Expression as e
use Rattle.f3_program.specs.declared.expression.Selection as l
use Rattle.f3_program.specs.declared.expression.Subscript as u
use Rattle.f3_program.specs.declared.statement.Bounds.{Bounds}
use Rattle.f3_program.specs.declared.statement.Item.{Item}
use Rattle.f3_program.specs.declared.statement.Item.TheVariants as item
use Rattle.f3_program.specs.declared.statement.Range.{Range}
use Rattle.f3_code.specs.Work as w
use Rattle.f3_code.specs.Core as c
use Rattle.f3_code.specs.State.{Line, line}
use Rattle.f3_code.specs.declared.instruction.Instruction.TheVariants as i
use Rattle.f3_code.specs.Code.{value_code, bounds_code, argument_code, arguments_code, locate_code, select_code, select_of_code, chosen_code, subscript_code, work_code, transfer_code, dimensions_code, allocate_code, free_code, deallocate_code, status_code, bytes_code, items_code, ranges_code, selectors_code, discards_code, leaving_code, departing_code, up_code, if_code, case_code, while_code, turns_code, limits_code, code_of, Ways, farther, looped, counting, scoped}
use Rattle.f3_word_needs.specs.Names.{after_line, deepest}

-- how many are open behind a code
abbrev pub left : ℕ → List Line → ℕ
left n [] = n
left n (x ∷ xs) = left (after_line n x.act) xs

left_on : (n : ℕ) (xs ys : List Line) → left n (xs ++ ys) ≡ left (left n xs) ys
left_on n [] ys = refl
left_on n (x ∷ xs) ys = left_on (after_line n x.act) xs ys

here : (n : ℕ) (xs : List Line) → n ≤ deepest n xs
here n [] = omega arith
here n (x ∷ xs) = omega arith

pub front : (n : ℕ) (xs ys : List Line) → deepest n xs ≤ deepest n (xs ++ ys)
front n [] ys = here n ys
front n (x ∷ xs) ys = omega (arith, front (after_line n x.act) xs ys)

pub behind : (n : ℕ) (xs ys : List Line) → deepest (left n xs) ys ≤ deepest n (xs ++ ys)
behind n [] ys = omega arith
behind n (x ∷ xs) ys = omega (arith, behind (after_line n x.act) xs ys)

-- a code behind which as many are open as before
pub record Plain (xs : List Line) : Type 0 where
  pub by : (n : ℕ) → left n xs ≡ n

none : Plain []
none = record { by = λ n. refl }

cons : {x : Line} {xs : List Line} → ((n : ℕ) → after_line n x.act ≡ n) → Plain xs → Plain (x ∷ xs)
cons {xs = xs} e h = record { by = λ n. ap (λ k. left k xs) (e n) ∙ h.by n }

on : {xs ys : List Line} → Plain xs → Plain ys → Plain (xs ++ ys)
on {xs = xs} {ys = ys} h k = record { by = λ n. left_on n xs ys ∙ ap (λ j. left j ys) (h.by n) ∙ k.by n }

same : {n : ℕ} → n ≡ n
same = refl

module _ (o : Option Place) where
  limit_plain : {xs ys : List Line} (b : Bool) → Plain xs → Plain ys → Plain (if b then xs else ys)
  limit_plain true h k = h
  limit_plain false h k = k

  mutual
    value_plain : (x : e.Expression) → Plain (value_code o x)
    value_plain (e.Literal c) = cons (λ n. refl) none
    value_plain (e.Variable' z x) = on (locate_plain x) (cons (λ n. refl) none)
    value_plain (e.Group' z x) = on (value_plain x) (cons (λ n. refl) none)
    value_plain (e.Unary' c t z x) = on (value_plain x) (cons (λ n. refl) none)
    value_plain (e.Binary' c t z x z' y) = on (value_plain x) (on (value_plain y) (cons (λ n. refl) none))
    value_plain (e.Array' k xs) = on (arguments_plain xs) (cons (λ n. refl) none)
    value_plain (e.Structure' t k xs) = on (arguments_plain xs) (cons (λ n. refl) none)
    value_plain (e.Call' f k xs) = on (arguments_plain xs) (cons (λ n. refl) (cons (λ n. refl) none))
    value_plain (e.Allocated' z x) = on (locate_plain x) (cons (λ n. refl) none)
    value_plain (e.Size' z x) = on (bounds_plain x) (cons (λ n. refl) none)
    value_plain (e.Bound' q z x z' y) = on (bounds_plain x) (on (value_plain y) (cons (λ n. refl) none))

    bounds_plain : (x : a.Argument) → Plain (bounds_code o x)
    bounds_plain (a.Value' k z x) = on (value_plain x) (cons (λ n. refl) none)
    bounds_plain (a.Variable' k z x) = on (locate_plain x) (cons (λ n. refl) none)

    argument_plain : (x : a.Argument) → Plain (argument_code o x)
    argument_plain (a.Value' k z x) = on (value_plain x) (cons (λ n. refl) none)
    argument_plain (a.Variable' k z x) = on (locate_plain x) (cons (λ n. refl) none)

    arguments_plain : {m : _} (xs : e.Row_of-Argument m) → Plain (arguments_code o xs)
    arguments_plain e.end_of-Argument = none
    arguments_plain (e.more_of-Argument x rest) = on (argument_plain x) (arguments_plain rest)

    locate_plain : (x : d.Designator) → Plain (locate_code o x)
    locate_plain (d.Name x how) = cons (λ n. refl) (select_plain how)
    locate_plain (d.Component' z x k how) = on (locate_plain x) (select_of_plain k how)

    select_plain : (x : l.Selection) → Plain (select_code o x)
    select_plain l.Whole = none
    select_plain l.Contents = cons (λ n. refl) none
    select_plain (l.Elements' is_opened k xs) = on (chosen_plain xs) (cons (λ n. refl) none)

    select_of_plain : (k : ℕ) (x : l.Selection) → Plain (select_of_code o k x)
    select_of_plain k l.Whole = cons (λ n. refl) none
    select_of_plain k l.Contents = cons (λ n. refl) (cons (λ n. refl) none)
    select_of_plain k (l.Elements' is_opened j xs) = cons (λ n. refl) (on (chosen_plain xs) (cons (λ n. refl) none))

    chosen_plain : {m : _} (xs : l.Row_of-Subscript m) → Plain (chosen_code o xs)
    chosen_plain l.end_of-Subscript = none
    chosen_plain (l.more_of-Subscript x rest) = on (subscript_plain x) (chosen_plain rest)

    subscript_plain : (x : u.Subscript) → Plain (subscript_code o x)
    subscript_plain (u.At' z x) = on (value_plain x) (cons (λ n. refl) none)
    subscript_plain (u.Range' has_lower z x has_upper z' y z'' v) = on (limit_plain has_lower (on (value_plain x) (cons (λ n. refl) none)) (cons (λ n. refl) none))
        (on (limit_plain has_upper (on (value_plain y) (cons (λ n. refl) none)) (cons (λ n. refl) none)) (on (value_plain v) (cons (λ n. refl) none)))

  module _ (m : ℕ) where
    pub work_plain : (x : w.Work) → Plain (work_code m o x)
    work_plain w.Rest = none
    work_plain (w.And x y) = on (work_plain x) (work_plain y)
    work_plain (w.Lending x) = cons (λ n. refl) (on (work_plain x) (cons (λ n. refl) none))
    work_plain (w.Of_rank rank x y) = cons (λ n. refl) (on (work_plain x) (cons (λ n. refl) (work_plain y)))
    work_plain (w.Final f) = cons (λ n. refl) (cons (λ n. refl) (cons (λ n. refl) none))
    work_plain (w.Routine t) = limit_plain (nat_lt t m) (cons (λ n. refl) none) none
    work_plain (w.Of_component k x) = cons (λ n. refl) (on (work_plain x) (cons (λ n. refl) none))
    work_plain (w.Of_elements x) = cons (λ n. refl) (cons (λ n. refl) (on (work_plain x) (cons (λ n. refl) (cons (λ n. refl) none))))
    work_plain (w.If_allocated x) = cons (λ n. refl) (work_plain x)
    work_plain (w.Of_contents x) = cons (λ n. refl) (on (work_plain x) (cons (λ n. refl) (cons (λ n. refl) none)))
    work_plain w.Clear = cons (λ n. refl) none
    work_plain (w.Set v) = cons (λ n. refl) none
    work_plain w.Discard = cons (λ n. refl) none

    transfer_plain : (x : c.Transfer) → Plain (transfer_code m o x)
    transfer_plain (c.Conforming x) = cons (λ n. refl) (transfer_plain x)
    transfer_plain (c.By_state x y z) = cons (λ n. refl) (on (transfer_plain x) (cons (λ n. refl) (on (transfer_plain y) (cons (λ n. refl) (transfer_plain z)))))
    transfer_plain (c.Of_rank rank x) = cons (λ n. refl) (transfer_plain x)
    transfer_plain (c.Behind x y) = on (work_plain x) (transfer_plain y)
    transfer_plain (c.New rank element x) = cons (λ n. refl) (transfer_plain x)
    transfer_plain (c.In_contents x) = cons (λ n. refl) (transfer_plain x)
    transfer_plain (c.Take of) = cons (λ n. refl) none
    transfer_plain (c.Fill of) = cons (λ n. refl) none

    dimensions_plain : (bs : List Bounds) → Plain (dimensions_code o bs)
    dimensions_plain [] = none
    dimensions_plain (b ∷ bs) = on (value_plain b.lower) (on (value_plain b.upper) (cons (λ n. refl) (dimensions_plain bs)))

    allocate_plain : (xs : List c.Allocation) → Plain (allocate_code o xs)
    allocate_plain [] = cons (λ n. refl) none
    allocate_plain (x ∷ xs) = on (locate_plain x.object) (on (dimensions_plain x.bounds) (cons (λ n. refl) (cons (λ n. refl) (allocate_plain xs))))

    free_plain : (x : w.Work) → Plain (free_code m o x)
    free_plain x = cons (λ n. refl) (on (work_plain x) (cons (λ n. refl) (cons (λ n. refl) none)))

    deallocate_plain : (xs : List c.Deallocation) → Plain (deallocate_code m o xs)
    deallocate_plain [] = cons (λ n. refl) none
    deallocate_plain (x ∷ xs) = on (locate_plain x.object) (on (free_plain x.free) (cons (λ n. refl) (deallocate_plain xs)))

    status_plain : (x : Option d.Designator) → Plain (status_code o x)
    status_plain None = cons (λ n. refl) none
    status_plain (Some d) = on (locate_plain d) (cons (λ n. refl) none)

    bytes_plain : (bs : List ℕ) → Plain (bytes_code o bs)
    bytes_plain [] = none
    bytes_plain (b ∷ bs) = cons (λ n. refl) (bytes_plain bs)

    items_plain : (xs : List Item) → Plain (items_code o xs)
    items_plain [] = cons (λ n. refl) none
    items_plain (item.Value e ∷ xs) = on (value_plain e) (cons (λ n. refl) (items_plain xs))
    items_plain (item.Text t ∷ xs) = on (bytes_plain (32 ∷ t.items)) (items_plain xs)

    ranges_plain : (rs : List Range) → Plain (ranges_code o rs)
    ranges_plain [] = none
    ranges_plain (r ∷ rs) = cons (λ n. refl) (cons (λ n. refl) (ranges_plain rs))

    selectors_plain : (xs : List c.Selector) → Plain (selectors_code o xs)
    selectors_plain [] = none
    selectors_plain (c.Bind d ∷ xs) = on (locate_plain d) (cons (λ n. refl) (selectors_plain xs))
    selectors_plain (c.Hold of e x ∷ xs) = on (value_plain e) (cons (λ n. refl) (selectors_plain xs))

    leaving_plain : Plain (leaving_code o)
    leaving_plain = cons (λ n. refl) (cons (λ n. refl) (cons (λ n. refl) (cons (λ n. refl) none)))

    departing_plain : (ws : Ways) → Plain (departing_code o ws)
    departing_plain ws = cons (λ n. refl) (cons (λ n. refl) (cons (λ n. refl) none))

    up_plain : (x : d.Designator) (k : _) → Plain (up_code o x k)
    up_plain x k = on (locate_plain x) (cons (λ n. refl) none)

    -- the names of an ASSOCIATE go one by one
    discards_left : (n : ℕ) (xs : List c.Selector) → left n (discards_code m o xs) ≡ n - length xs
    discards_left n [] = omega arith
    discards_left n (c.Bind d ∷ xs) =
        let z : n - 1 - length xs ≡ n - length (c.Bind d ∷ xs) = omega arith in discards_left (n - 1) xs ∙ z
    discards_left n (c.Hold of e x ∷ xs) =
        let cx = work_code m o x in
        let z : n - 1 - length xs ≡ n - length (c.Hold of e x ∷ xs) = omega arith in
        left_on (n - 1) cx (line o i.Drop ∷ discards_code m o xs) ∙ ap (λ k. left k (discards_code m o xs)) ((work_plain x).by (n - 1)) ∙ discards_left (n - 1) xs ∙ z

-- the names of ASSOCIATEs that a statement has open at once
abbrev pub opened : c.Core → ℕ
opened (c.At place b x) = opened x
opened (c.Then x y) = max (opened x) (opened y)
opened (c.If e x y) = max (opened x) (opened y)
opened (c.Select e x) = opened x
opened (c.Case rs x y) = max (opened x) (opened y)
opened (c.While e x) = opened x
opened (c.Count d k from to by x) = opened x
opened (c.Associate xs x) = length xs + opened x
opened x = 0

-- a code that has so many more open somewhere, and as many behind it as before
pub record Deep (xs : List Line) (k : ℕ) : Type 0 where
  pub plain : Plain xs
  pub deep : (n : ℕ) → n + k ≤ deepest n xs

flat : {xs : List Line} → Plain xs → Deep xs 0
flat {xs = xs} h = record { plain = h; deep = λ n. omega (arith, here n xs) }

less : {xs : List Line} (j k : ℕ) → j ≤ k → Deep xs k → Deep xs j
less j k le h = record { plain = h.plain; deep = λ n. omega (arith, le, h.deep n) }

first : {x : Line} {xs : List Line} {k : ℕ} → ((n : ℕ) → after_line n x.act ≡ n) → Deep xs k → Deep (x ∷ xs) k
first {xs = xs} e h = record { plain = cons e h.plain; deep = λ n. omega (arith, h.deep n, ap (λ j. deepest j xs) (e n)) }

seq : {xs ys : List Line} {j k : ℕ} → Deep xs j → Deep ys k → Deep (xs ++ ys) (max j k)
seq {xs = xs} {ys = ys} h k = record {
  plain = on h.plain k.plain;
  deep = λ n. omega (arith, h.deep n, k.deep n, front n xs ys, behind n xs ys, ap (λ j. deepest j ys) (h.plain.by n));
}

module _ (m : ℕ) where
  associate_deep : (o : Option Place) (ws : Ways) (xs : List c.Selector) (k : ℕ) (cx : List Line) → Deep cx k →
      Deep (selectors_code o xs ++ (line o (i.Associate (length xs)) ∷ (cx ++ (leaving_code o
      ++ (line o i.Associated ∷ (discards_code m o xs ++ (line o i.EndAssociate ∷ departing_code o ws))))))) (length xs + k)
  associate_deep o ws xs k cx h =
      let ss = selectors_code o xs in
      let ds = discards_code m o xs in
      let end = line o i.EndAssociate ∷ departing_code o ws in
      let after = line o i.Associated ∷ (ds ++ end) in
      let rest = leaving_code o ++ after in
      let whole = line o (i.Associate (length xs)) ∷ (cx ++ rest) in
      let ended : Plain end = cons (λ n. refl) (departing_plain o m ws) in
      record {
        plain = record {
          by = λ n.
              let back : n + length xs - length xs ≡ n = omega arith in
              left_on n ss whole ∙ ap (λ j. left j whole) ((selectors_plain o m xs).by n)
              ∙ left_on (n + length xs) cx rest ∙ ap (λ j. left j rest) (h.plain.by (n + length xs))
              ∙ left_on (n + length xs) (leaving_code o) after ∙ ap (λ j. left j after) ((leaving_plain o m).by (n + length xs))
              ∙ left_on (n + length xs) ds end ∙ ap (λ j. left j end) (discards_left o m (n + length xs) xs ∙ back) ∙ ended.by n;
        };
        deep = λ n. omega (
          arith,
          behind n ss whole,
          ap (λ j. deepest j whole) ((selectors_plain o m xs).by n),
          front (n + length xs) cx rest,
          h.deep (n + length xs),
        );
      }

  if_deep : (o : Option Place) (test cx cy : List Line) (j k : ℕ) → Plain test → Deep cx j → Deep cy k → Deep (if_code o test cx cy) (max j k)
  if_deep o test cx cy j k t x y = less (max j k) (max 0 (max j k)) (omega arith) (seq (flat t) (first (λ n. refl) (seq x (first (λ n. refl) y))))

  case_deep : (o : Option Place) (rs : List Range) (cx cy : List Line) (j k : ℕ) → Deep cx j → Deep cy k → Deep (case_code o rs cx cy) (max j k)
  case_deep o rs cx cy j k x y = less (max j k) (max 0 (max j k)) (omega arith) (seq (flat (ranges_plain o m rs)) (first (λ n. refl) (seq x (first (λ n. refl) y))))

  while_deep : (o : Option Place) (test cx : List Line) (k : ℕ) → Plain test → Deep cx k → Deep (while_code o test cx) k
  while_deep o test cx k t x = less k (max 0 (max k 0)) (omega arith) (seq (flat t) (first (λ n. refl) (seq x (flat (cons (λ n. refl) none)))))

  select_deep : (o : Option Place) (test cx : List Line) (ws : Ways) (k : ℕ) → Plain test → Deep cx k →
      Deep (test ++ (line o i.Selecting ∷ (cx ++ (leaving_code o ++ departing_code o ws)))) k
  select_deep o test cx ws k t x = less k (max 0 (max k 0)) (omega arith)
      (seq (flat t) (first (λ n. refl) (seq x (flat (on (leaving_plain o m) (departing_plain o m ws))))))

  turns_deep : (o : Option Place) (cx up : List Line) (k : ℕ) → Deep cx k → Plain up → Deep (turns_code o cx up) (max k 0)
  turns_deep o cx up k x u = first (λ n. refl) (seq x (flat (on u (cons (λ n. refl) (cons (λ n. refl) none)))))

  count_deep : (o : Option Place) (j : Kind) (from to by : e.Expression) (d : d.Designator) (turns : List Line) (k : ℕ) → Deep turns k →
      Deep (limits_code o j from to by (locate_code o d ++ (line o i.CountBegin ∷ turns))) k
  count_deep o j from to by d turns k t = less k (max 0 (max 0 (max 0 (max 0 k)))) (omega arith)
      (seq (flat (value_plain o from)) (first (λ n. refl) (seq (flat (value_plain o to)) (first (λ n. refl)
      (seq (flat (value_plain o by)) (first (λ n. refl) (first (λ n. refl) (seq (flat (locate_plain o d)) (first (λ n. refl) t)))))))))

  pub statement_deep : (o : Option Place) (x : c.Core) (ws : Ways) → Deep (code_of m o x ws) (opened x)
  statement_deep o (c.At place true x) ws = first (λ n. refl) (statement_deep (Some place) x ws)
  statement_deep o (c.At place false x) ws = statement_deep (Some place) x ws
  statement_deep o c.Skip ws = flat none
  statement_deep o (c.Then x y) ws = seq (statement_deep o x (farther (length (code_of m o y ws)) ws)) (statement_deep o y ws)
  statement_deep o (c.Assign d x e) ws = flat (on (value_plain o e) (on (locate_plain o d) (transfer_plain o m x)))
  statement_deep o (c.Call e) ws = flat (on (value_plain o e) (cons (λ n. refl) none))
  statement_deep o (c.Move true x d e) ws = flat (on (locate_plain o d) (on (locate_plain o e) (cons (λ n. refl) (on (work_plain o m x) (cons (λ n. refl) none)))))
  statement_deep o (c.Move false x d e) ws =
      flat (on (locate_plain o d) (on (locate_plain o e) (cons (λ n. refl) (cons (λ n. refl) (on (work_plain o m x) (cons (λ n. refl) none))))))
  statement_deep o (c.Allocate xs stat) ws = flat (on (allocate_plain o m xs) (status_plain o m stat))
  statement_deep o (c.Deallocate xs stat) ws = flat (on (deallocate_plain o m xs) (status_plain o m stat))
  statement_deep o (c.Print xs) ws = flat (items_plain o m xs)
  statement_deep o (c.Stop number) ws = flat (cons (λ n. refl) none)
  statement_deep o c.Return ws = flat (cons (λ n. refl) (cons (λ n. refl) (cons (λ n. refl) none)))
  statement_deep o c.Cycle ws = flat (cons (λ n. refl) none)
  statement_deep o c.Exit ws = flat (cons (λ n. refl) none)
  statement_deep o (c.If e x y) ws = if_deep o (value_code o e) _ _ (opened x) (opened y) (value_plain o e)
      (statement_deep o x (farther (1 + length (code_of m o y ws)) ws)) (statement_deep o y ws)
  statement_deep o (c.Select e x) ws = select_deep o (value_code o e) _ ws (opened x) (value_plain o e) (statement_deep o x scoped)
  statement_deep o (c.Case rs x y) ws =
      case_deep o rs _ _ (opened x) (opened y) (statement_deep o x (farther (1 + length (code_of m o y ws)) ws)) (statement_deep o y ws)
  statement_deep o (c.While e x) ws = while_deep o (value_code o e) _ (opened x) (value_plain o e) (statement_deep o x (looped ws))
  statement_deep o (c.Count d k from to by x) ws =
      let t = turns_deep o (code_of m o x (counting (length (up_code o d k)) ws)) (up_code o d k) (opened x) (statement_deep o x (counting (length (up_code o d k)) ws)) (up_plain o m d k) in
      less (opened x) (max (opened x) 0) (omega arith) (count_deep o k from to by d _ (max (opened x) 0) t)
  statement_deep o (c.Associate xs x) ws = associate_deep o ws xs (opened x) (code_of m o x scoped) (statement_deep o x scoped)
