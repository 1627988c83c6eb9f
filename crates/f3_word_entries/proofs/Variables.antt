-- The variables of a procedure begin, the result behind the others.
use Rattle.std.proofs.Common.{◌≡◌, ◌∙◌, append_assoc, Option, ℕ, ◌+◌, ◌-◌, ◌≤◌, List, [], ◌∷◌, ◌++◌, length, sym, ap, subst, arith}
use Rattle.std.specs.Prelude.{None, Some}
use Rattle.std.specs.FinMap.{get as find}
use Rattle.std.proofs.lemmas.List.{append-nil}
use Rattle.f3_program.specs.declared.declarations.Declared.{Declared}
use Rattle.f3_program.specs.declared.program.Procedure.{Procedure}
use Rattle.f3_meaning_whole.specs.Exec.{declared_in, with_result}
use Rattle.f3_meaning_whole.specs.Shape.{Shape, shape_in}
use Rattle.f3_rooms.specs.Forms.{room, total}
use Rattle.f3_live_blocks.specs.Blocks.{Live, with_taken}
use Rattle.f3_room_levels.specs.Initial.{AllCanBegin, CanBegin, TypeCanBegin, initial_words, variable_words}
use Rattle.f3_room_levels.specs.Levels.{Begins}
use Rattle.f3_room_levels.specs.Writing.{IsBlank, with_words_from}
use Rattle.f3_room_levels.proofs.Begun.{begins, taken_blank}
use Rattle.f3_room_levels.proofs.Widths.{initial_many}
use Rattle.f3_room_levels.proofs.Written.{blank_behind, written_on}

module _ (ts : List Shape) where
  total_more : (ds : List Declared) (d : Declared) → total ts (ds ++ d ∷ []) ≡ total ts ds + room ts d
  total_more [] d = omega arith
  total_more (c ∷ ds) d = let e : total ts (ds ++ d ∷ []) ≡ total ts ds + room ts d = total_more ds d in omega arith

  words_more : (ds : List Declared) (d : Declared) → initial_words ts (ds ++ d ∷ []) ≡ initial_words ts ds ++ variable_words ts d
  words_more [] d = append-nil (variable_words ts d)
  words_more (c ∷ ds) d = ap (λ ws. variable_words ts c ++ ws) (words_more ds d) ∙ sym (append_assoc (variable_words ts c) (initial_words ts ds) (variable_words ts d))

  can_front : (ds es : List Declared) → AllCanBegin ts (ds ++ es) → AllCanBegin ts ds
  can_front [] es can = tt
  can_front (c ∷ ds) es can = (can.0, can.1, can_front ds es can.2)

  can_behind : (ds es : List Declared) → AllCanBegin ts (ds ++ es) → AllCanBegin ts es
  can_behind [] es can = can
  can_behind (c ∷ ds) es can = can_behind ds es can.2

  -- the others, whether there is a result or not
  pub can_others : (q : Procedure) → AllCanBegin ts (declared_in q) → AllCanBegin ts q.locals.items
  can_others q can = by q.result can
    where
      by : (o : Option Declared) → AllCanBegin ts (with_result q.locals.items o) → AllCanBegin ts q.locals.items
      by None h = h
      by (Some d) h = can_front q.locals.items (d ∷ []) h

  pub less_others : (q : Procedure) → total ts q.locals.items ≤ total ts (declared_in q)
  less_others q = by q.result
    where
      by : (o : Option Declared) → total ts q.locals.items ≤ total ts (with_result q.locals.items o)
      by None = omega arith
      by (Some d) = let e = total_more q.locals.items d in omega (arith, e)

  module _ (q : Procedure) (can : AllCanBegin ts (declared_in q)) (d : Declared) (is : q.result ≡ Some d) where
    all_is : declared_in q ≡ q.locals.items ++ d ∷ []
    all_is = ap (with_result q.locals.items) is

    can_all : AllCanBegin ts (q.locals.items ++ d ∷ [])
    can_all = subst (AllCanBegin ts) all_is can

    pub can_last : CanBegin (shape_in ts d.kind.of) d × TypeCanBegin (shape_in ts d.kind.of)
    can_last = let last = can_behind q.locals.items (d ∷ []) can_all in (last.0, last.1)

    -- the result has the last words
    pub total_last : total ts (declared_in q) ≡ total ts q.locals.items + room ts d
    total_last = ap (total ts) all_is ∙ total_more q.locals.items d

module _ (ts : List Shape) (q : Procedure) (m mid k : Live) (words b : ℕ) (fresh : find m b ≡ None) (taken : mid ≡ with_taken m b words)
    (can : AllCanBegin ts (declared_in q)) (long : words ≡ total ts (declared_in q)) (written : k ≡ with_words_from mid b 0 (initial_words ts q.locals.items)) where
  pub others_blank : IsBlank mid b 0 (total ts q.locals.items)
  others_blank = taken_blank m mid words b taken (total ts q.locals.items) (let e = less_others ts q in omega (arith, e, long))

  all_blank : IsBlank mid b 0 words
  all_blank = taken_blank m mid words b taken words (omega arith)

  -- no result
  pub begins_alone : q.result ≡ None → Begins ts m k (declared_in q) words b
  begins_alone none =
      let all : declared_in q ≡ q.locals.items = ap (with_result q.locals.items) none in
      begins ts m mid k (declared_in q) words b fresh taken can (omega (arith, long)) (written ∙ ap (λ ds. with_words_from mid b 0 (initial_words ts ds)) (sym all))

  -- a result behind the others
  module _ (d : Declared) (is : q.result ≡ Some d) where
    there : words - room ts d ≡ 0 + total ts q.locals.items
    there = let e = total_last ts q can d is in omega (arith, e, long)

    many : length (initial_words ts q.locals.items) ≡ total ts q.locals.items
    many = initial_many ts q.locals.items (can_others ts q can)

    pub last_blank : IsBlank k b (words - room ts d) (room ts d)
    last_blank =
        subst (λ i. IsBlank k b i (room ts d)) (sym there)
        (blank_behind mid k b 0 (total ts q.locals.items) (room ts d) (initial_words ts q.locals.items) (subst (IsBlank mid b 0) (long ∙ total_last ts q can d is) all_blank) many written)

    pub begins_behind : (n : Live) → n ≡ with_words_from k b (words - room ts d) (variable_words ts d) → Begins ts m n (declared_in q) words b
    begins_behind n put =
        let all : initial_words ts (declared_in q) ≡ initial_words ts q.locals.items ++ variable_words ts d =
        ap (initial_words ts) (ap (with_result q.locals.items) is) ∙ words_more ts q.locals.items d in
        begins ts m mid n (declared_in q) words b fresh taken can (omega (arith, long))
        (put ∙ ap (λ i. with_words_from k b i (variable_words ts d)) there
        ∙ written_on mid k b 0 (total ts q.locals.items) (initial_words ts q.locals.items) (variable_words ts d) many written
        ∙ ap (with_words_from mid b 0) (sym all))
