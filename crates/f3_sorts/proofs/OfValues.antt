-- The sorts of the code of expressions and designators.
use Rattle.std.proofs.Common.{◌≡◌, ℕ, zero, suc, Bool, true, false, List, [], ◌∷◌, ◌++◌, Option, refl, ap, append_assoc, if◌then◌else◌}
use Rattle.f3_places.specs.declared.source.Place.{Place}
use Rattle.f3_program.specs.declared.expression.Argument as a
use Rattle.f3_program.specs.declared.expression.Designator as d
use Rattle.f3_program.specs.declared.expression.Expression as e
use Rattle.f3_program.specs.declared.expression.Selection as l
use Rattle.f3_program.specs.declared.expression.Subscript as u
use Rattle.f3_code.specs.declared.instruction.Instruction.TheVariants as i
use Rattle.f3_code.specs.State.{Line, line}
use Rattle.f3_code.specs.Code.{argument_count, subscript_count, value_code, bounds_code, argument_code, arguments_code, locate_code, select_code, select_of_code, chosen_code, subscript_code}
use Rattle.f3_sorts.specs.Effect.{Sort, times}
use Rattle.f3_sorts.specs.Effect as sort
use Rattle.f3_sorts.specs.Program.{value_sorts, bounds_sorts, argument_sorts, arguments_sorts, locate_sorts, select_sorts, select_of_sorts, chosen_sorts, subscript_sorts}
use Rattle.f3_sorts.proofs.Parts.{Part, Onto, nothing, seq, plain, from_same, first, last, onto_same}

pub times_on : (k : ℕ) (x : Sort) (h : List Sort) → times k x ++ (x ∷ h) ≡ x ∷ (times k x ++ h)
times_on zero x h = refl
times_on (suc k) x h = ap (λ l. x ∷ l) (times_on k x h)

module _ (sorts : ℕ → List Sort) where
  limit_part : (b : Bool) (o : Option Place) (cx : List Line) (hx : List (List Sort)) (h : List Sort) → Part sorts (Onto sorts (sort.Datum ∷ h)) cx hx h →
      Part sorts (Onto sorts (sort.Bound ∷ h)) (if b then cx ++ line o i.Limit ∷ [] else line o i.NoLimit ∷ []) (if b then hx ++ (sort.Datum ∷ h) ∷ [] else h ∷ []) h
  limit_part true o cx hx h p = seq sorts p (last sorts (plain sorts (line o i.Limit) h refl (λ pc x. x)))
  limit_part false o cx hx h p = last sorts (plain sorts (line o i.NoLimit) h refl (λ pc x. x))

  mutual
    pub value_part : (x : e.Expression) (o : Option Place) (h : List Sort) → Part sorts (Onto sorts (sort.Datum ∷ h)) (value_code o x) (value_sorts h x) h
    value_part (e.Literal c) o h = last sorts (plain sorts (line o (i.Push c)) h refl (λ pc x. x))
    value_part (e.Variable' p x) o h = seq sorts (locate_part x o h) (last sorts (plain sorts (line o i.Load) h refl (λ pc x. x)))
    value_part (e.Group' p x) o h = seq sorts (value_part x o h) (last sorts (plain sorts (line o i.Plain) h refl (λ pc x. x)))
    value_part (e.Unary' c t p x) o h = seq sorts (value_part x o h) (last sorts (plain sorts (line o (i.Unary c t)) h refl (λ pc x. x)))
    value_part (e.Binary' c t p x q y) o h = seq sorts (value_part x o h) (seq sorts (value_part y o (sort.Datum ∷ h))
        (last sorts (plain sorts (line o (i.Binary c t)) h refl (λ pc x. x))))
    value_part (e.Array' k xs) o h = seq sorts (arguments_part xs o h)
        (last sorts (plain sorts (line o (i.Array (argument_count xs))) h refl (λ pc x. x)))
    value_part (e.Structure' t k xs) o h = seq sorts (arguments_part xs o h)
        (last sorts (plain sorts (line o (i.Structure t (argument_count xs))) h refl (λ pc x. x)))
    value_part (e.Call' f k xs) o h = seq sorts (arguments_part xs o h)
        (first sorts (plain sorts (line o (i.Call f (argument_count xs))) h refl (λ pc x. x))
        (last sorts (plain sorts (line o i.Result) h refl (λ pc x. x))))
    value_part (e.Allocated' p x) o h = seq sorts (locate_part x o h) (last sorts (plain sorts (line o i.IsAllocated) h refl (λ pc x. x)))
    value_part (e.Size' p x) o h = seq sorts (bounds_part x o h) (last sorts (plain sorts (line o i.Size) h refl (λ pc x. x)))
    value_part (e.Bound' q p x r y) o h = seq sorts (bounds_part x o h) (seq sorts (value_part y o (sort.Bounds ∷ h))
        (last sorts (plain sorts (line o (i.Bound q)) h refl (λ pc x. x))))

    pub bounds_part : (x : a.Argument) (o : Option Place) (h : List Sort) → Part sorts (Onto sorts (sort.Bounds ∷ h)) (bounds_code o x) (bounds_sorts h x) h
    bounds_part (a.Value' k p x) o h = seq sorts (value_part x o h) (last sorts (plain sorts (line o i.BoundsOfValue) h refl (λ pc x. x)))
    bounds_part (a.Variable' k p x) o h = seq sorts (locate_part x o h) (last sorts (plain sorts (line o i.BoundsOfVariable) h refl (λ pc x. x)))

    pub argument_part : (x : a.Argument) (o : Option Place) (h : List Sort) → Part sorts (Onto sorts (sort.Argument ∷ h)) (argument_code o x) (argument_sorts h x) h
    argument_part (a.Value' k p x) o h = seq sorts (value_part x o h) (last sorts (plain sorts (line o (i.PassValue k)) h refl (λ pc x. x)))
    argument_part (a.Variable' k p x) o h = seq sorts (locate_part x o h) (last sorts (plain sorts (line o (i.PassVariable k)) h refl (λ pc x. x)))

    pub arguments_part : {m : _} (xs : e.Row_of-Argument m) (o : Option Place) (h : List Sort) →
        Part sorts (Onto sorts (times (argument_count xs) sort.Argument ++ h)) (arguments_code o xs) (arguments_sorts h xs) h
    arguments_part e.end_of-Argument o h = nothing sorts h
    arguments_part (e.more_of-Argument x rest) o h = onto_same sorts _ _ (times_on (argument_count rest) sort.Argument h)
        (seq sorts (argument_part x o h) (arguments_part rest o (sort.Argument ∷ h)))

    pub locate_part : (x : d.Designator) (o : Option Place) (h : List Sort) → Part sorts (Onto sorts (sort.Object ∷ h)) (locate_code o x) (locate_sorts h x) h
    locate_part (d.Name x how) o h = first sorts (plain sorts (line o (i.Refer x)) h refl (λ pc x. x)) (select_part how o h)
    locate_part (d.Component' p x k how) o h = seq sorts (locate_part x o h) (select_of_part how o k h)

    pub select_part : (x : l.Selection) (o : Option Place) (h : List Sort) → Part sorts (Onto sorts (sort.Object ∷ h)) (select_code o x) (select_sorts h x) (sort.Object ∷ h)
    select_part l.Whole o h = nothing sorts (sort.Object ∷ h)
    select_part l.Contents o h = last sorts (plain sorts (line o i.Contents) h refl (λ pc x. x))
    select_part (l.Elements' is_opened k xs) o h = seq sorts (chosen_part xs o (sort.Object ∷ h))
        (last sorts (from_same sorts _ _ (append_assoc (times (subscript_count xs) sort.Choice) (sort.Object ∷ []) h)
        (plain sorts (line o (i.Select is_opened (subscript_count xs))) h refl (λ pc x. x))))

    pub select_of_part : (x : l.Selection) (o : Option Place) (n : ℕ) (h : List Sort) →
        Part sorts (Onto sorts (sort.Object ∷ h)) (select_of_code o n x) (select_of_sorts h x) (sort.Object ∷ h)
    select_of_part l.Whole o n h = last sorts (plain sorts (line o (i.Component n)) h refl (λ pc x. x))
    select_of_part l.Contents o n h = first sorts (plain sorts (line o (i.Component n)) h refl (λ pc x. x))
        (last sorts (plain sorts (line o i.Contents) h refl (λ pc x. x)))
    select_of_part (l.Elements' is_opened k xs) o n h = first sorts (plain sorts (line o (i.ComponentOf n)) h refl (λ pc x. x))
        (seq sorts (chosen_part xs o (sort.Object ∷ sort.Object ∷ h))
        (last sorts (from_same sorts _ _ (append_assoc (times (subscript_count xs) sort.Choice) (sort.Object ∷ sort.Object ∷ []) h)
        (plain sorts (line o (i.SelectOf is_opened n (subscript_count xs))) h refl (λ pc x. x)))))

    pub chosen_part : {m : _} (xs : l.Row_of-Subscript m) (o : Option Place) (h : List Sort) →
        Part sorts (Onto sorts (times (subscript_count xs) sort.Choice ++ h)) (chosen_code o xs) (chosen_sorts h xs) h
    chosen_part l.end_of-Subscript o h = nothing sorts h
    chosen_part (l.more_of-Subscript x rest) o h = onto_same sorts _ _ (times_on (subscript_count rest) sort.Choice h)
        (seq sorts (subscript_part x o h) (chosen_part rest o (sort.Choice ∷ h)))

    pub subscript_part : (x : u.Subscript) (o : Option Place) (h : List Sort) → Part sorts (Onto sorts (sort.Choice ∷ h)) (subscript_code o x) (subscript_sorts h x) h
    subscript_part (u.At' p x) o h = seq sorts (value_part x o h) (last sorts (plain sorts (line o i.Subscript) h refl (λ pc x. x)))
    subscript_part (u.Range' has_lower p x has_upper q y r z) o h =
        seq sorts (limit_part has_lower o (value_code o x) (value_sorts h x) h (value_part x o h))
        (seq sorts (limit_part has_upper o (value_code o y) (value_sorts (sort.Bound ∷ h) y) (sort.Bound ∷ h) (value_part y o (sort.Bound ∷ h)))
        (seq sorts (value_part z o (sort.Bound ∷ sort.Bound ∷ h)) (last sorts (plain sorts (line o i.Triplet) h refl (λ pc x. x)))))
