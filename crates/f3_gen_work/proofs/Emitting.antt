-- Code in front of code, in a program of some types.
use Rattle.std.proofs.Common.{◌≡◌, ℕ, ◌+◌, ◌-◌, ◌≤◌, ◌++◌, List, ◌∷◌, [], length, reverse, sym, ap, subst, ◌∙◌, append_assoc, arith, Result, Ok, Err, OnOk, Option}
use Rattle.std.specs.declared.alloc.AllocError.{AllocError}
use Rattle.f3_places.specs.declared.source.Place.{Place}
use Rattle.std.proofs.lemmas.List.{reverse-append, length-append, length-map, length-reverse}
use Rattle.f3_program.specs.declared.declarations.Derived.{Derived}
use Rattle.f3_meaning_whole.specs.Act.{Setting}
use Rattle.f3_code.specs.State as c
use Rattle.f3_code.specs.declared.instruction.Instruction.TheVariants as i
use Rattle.f3_gen_values.specs.declared.line.Line.{Line}
use Rattle.f3_gen_values.specs.Emitted.{Emitted, line_in, lines_in}
use Rattle.f3_gen_values.proofs.Emitting.{emitted_then}
use Rattle.f3_gen_work.specs.EmittedIn.{EmittedBy, EmittedIn}

-- how many lines there are
longer_by : (a b : List Line) (x : List c.Line) (g : Setting) → lines_in g b ≡ lines_in g a ++ reverse x → length b ≡ length a + length x
longer_by a b x g e =
    sym (length-map b (line_in g)) ∙ ap length e ∙ length-append (lines_in g a) (reverse x)
    ∙ ap (λ n. n + length (reverse x)) (length-map a (line_in g)) ∙ ap (λ n. length a + n) (length-reverse x)

joined : (a b d : List Line) (x y : List c.Line) (g : Setting) → lines_in g b ≡ lines_in g a ++ reverse x → lines_in g d ≡ lines_in g b ++ reverse y
    → lines_in g d ≡ lines_in g a ++ reverse (y ++ x)
joined a b d x y g p q =
    q ∙ ap (λ l. l ++ reverse y) p ∙ append_assoc (lines_in g a) (reverse x) (reverse y) ∙ ap (λ l. lines_in g a ++ l) (sym (reverse-append y x))

counted : (a b : List Line) (x : List c.Line) (g : Setting) → lines_in g b ≡ lines_in g a ++ reverse x → length b - length a ≡ length x
counted a b x g p = let e : length b ≡ length a + length x = longer_by a b x g p in omega arith

above : (a b d : List Line) → length a ≤ length b → length b ≤ length d → length a ≤ length d
above a b d p q = omega arith

-- the same in whatever program, and in one of some types

pub in_types : {t : List Derived} {a b : List Line} {x : List c.Line} → Emitted a b x → EmittedIn t a b (λ g. x)
in_types {a = a} {b = b} {x = x} p = record { in_front = λ (g : Setting) e. p.in_front g; longer = let e : length b ≡ length a + length x = p.longer in omega arith }

pub by_types : {t : List Derived} {a b : List Line} {x : Setting → List c.Line} → EmittedBy a b x → EmittedIn t a b x
by_types p = record { in_front = λ (g : Setting) e. p.in_front g; longer = p.longer }

pub then_in : {t : List Derived} {a b d : List Line} {x y : Setting → List c.Line} → EmittedIn t a b x → EmittedIn t b d y → EmittedIn t a d (λ g. y g ++ x g)
then_in {a = a} {b = b} {d = d} {x = x} {y = y} p q = record {
  in_front = λ (g : Setting) e. joined a b d (x g) (y g) g (p.in_front g e) (q.in_front g e);
  longer = above a b d p.longer q.longer;
}

pub counted_in : {t : List Derived} {a b : List Line} {x : Setting → List c.Line} → EmittedIn t a b x → (g : Setting) → g.program.types.items ≡ t
    → length b ≡ length a + length (x g)
counted_in {a = a} {b = b} {x = x} p g e = longer_by a b (x g) g (p.in_front g e)

-- jumps over what was put first, whose number of lines is counted

pub emitted_over : {a b d : List Line} {x : List c.Line} (y : ℕ → List c.Line) (k n : ℕ) → Emitted a b x → Emitted b d (y k) → k ≡ length b - length a → length x ≡ n
    → Emitted a d (y n ++ x)
emitted_over {a = a} {b = b} {d = d} {x = x} y k n p q e l =
    let m : length b ≡ length a + length x = p.longer in
    let same : k ≡ n = omega arith in
    subst (λ v. Emitted a d (y v ++ x)) same (emitted_then p q)

pub over_in : {t : List Derived} {a b d : List Line} {x : Setting → List c.Line} (y : ℕ → Setting → List c.Line) (k : ℕ)
    → EmittedIn t a b x → EmittedIn t b d (y k) → k ≡ length b - length a → EmittedIn t a d (λ g. y (length (x g)) g ++ x g)
over_in {a = a} {b = b} {d = d} {x = x} y k p q n = record {
  in_front = λ (g : Setting) e. subst (λ v. lines_in g d ≡ lines_in g a ++ reverse (y v g ++ x g)) (n ∙ counted a b (x g) g (p.in_front g e))
      (joined a b d (x g) (y k g) g (p.in_front g e) (q.in_front g e));
  longer = above a b d p.longer q.longer;
}

pub same_in : {t : List Derived} {a b : List Line} {x : Setting → List c.Line} (y : Setting → List c.Line)
    → EmittedIn t a b x → ((g : Setting) → g.program.types.items ≡ t → y g ≡ x g) → EmittedIn t a b y
same_in {a = a} {b = b} y p h = record {
  in_front = λ (g : Setting) e. subst (λ z. lines_in g b ≡ lines_in g a ++ reverse z) (sym (h g e)) (p.in_front g e);
  longer = p.longer;
}

pub on_ok : {P Q : Type 0} (r : Result (Unit {0}) AllocError) → (P → Q) → OnOk r P → OnOk r Q
on_ok (Ok u) f p = f p
on_ok (Err e) f p = tt

abbrev in_order : Option Place → List c.Line → List c.Line → List c.Line → ℕ → ℕ → ℕ → ℕ → List c.Line
in_order o x y z j k m n = c.line o (i.ByState m n) ∷ (x ++ (c.line o (i.GoOn k) ∷ (y ++ (c.line o (i.GoOn j) ∷ z))))

-- three parts, and jumps over them
pub by_state_in : {t : List Derived} {a b d e f h r : List Line} {x y z : Setting → List c.Line} (o : Option Place) {j k m n : ℕ}
    → EmittedIn t a b z → Emitted b d (c.line o (i.GoOn j) ∷ []) → EmittedIn t d e y → Emitted e f (c.line o (i.GoOn k) ∷ [])
    → EmittedIn t f h x → Emitted h r (c.line o (i.ByState m n) ∷ [])
    → j ≡ length b - length a → k ≡ length e - length a → m ≡ length h - length e → n ≡ length h - length b
    → EmittedIn t a r (λ g. c.line o (i.ByState (length (x g) + 1) (length (x g) + 1 + (length (y g) + 1)))
    ∷ (x g ++ (c.line o (i.GoOn (length (y g) + 1 + length (z g))) ∷ (y g ++ (c.line o (i.GoOn (length (z g))) ∷ z g)))))
by_state_in {a = a} {b = b} {d = d} {e = e} {f = f} {h = h} {r = r} {x = x} {y = y} {z = z} o {j = j} {k = k} {m = m} {n = n} p q s u v w ej ek em en = record {
  in_front = λ (g : Setting) same.
      let nb : length b ≡ length a + length (z g) = longer_by a b (z g) g (p.in_front g same) in
      let nd : length d ≡ length b + 1 = longer_by b d (c.line o (i.GoOn j) ∷ []) g (q.in_front g) in
      let ne : length e ≡ length d + length (y g) = longer_by d e (y g) g (s.in_front g same) in
      let nf : length f ≡ length e + 1 = longer_by e f (c.line o (i.GoOn k) ∷ []) g (u.in_front g) in
      let nh : length h ≡ length f + length (x g) = longer_by f h (x g) g (v.in_front g same) in
      let fj : j ≡ length (z g) = omega arith in
      let fk : k ≡ length (y g) + 1 + length (z g) = omega arith in
      let fm : m ≡ length (x g) + 1 = omega arith in
      let fn : n ≡ length (x g) + 1 + (length (y g) + 1) = omega arith in
      let all : lines_in g r ≡ lines_in g a ++ reverse (in_order o (x g) (y g) (z g) j k m n)
      = (then_in (then_in (then_in (then_in (then_in p (in_types q)) s) (in_types u)) v) (in_types w)).in_front g same in
      all ∙ ap (λ v. lines_in g a ++ reverse (in_order o (x g) (y g) (z g) v k m n)) fj ∙ ap (λ v. lines_in g a ++ reverse (in_order o (x g) (y g) (z g) (length (z g)) v m n)) fk
      ∙ ap (λ v. lines_in g a ++ reverse (in_order o (x g) (y g) (z g) (length (z g)) (length (y g) + 1 + length (z g)) v n)) fm
      ∙ ap (λ v. lines_in g a ++ reverse (in_order o (x g) (y g) (z g) (length (z g)) (length (y g) + 1 + length (z g)) (length (x g) + 1) v)) fn;
  longer = (then_in (then_in (then_in (then_in (then_in p (in_types q)) s) (in_types u)) v) (in_types w)).longer;
}
