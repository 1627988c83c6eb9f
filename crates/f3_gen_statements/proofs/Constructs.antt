-- The code of constructs, from its end.
use Rattle.std.proofs.Common.{◌≡◌, ℕ, suc, ◌+◌, ◌-◌, ◌≤◌, ◌++◌, List, ◌∷◌, [], length, reverse, set, sym, ap, subst, ◌∙◌, append_assoc, arith, Option, None}
use Rattle.std.proofs.Math.Seq.{set-append_seam}
use Rattle.std.proofs.lemmas.List.{reverse-append, length-map, length-set, map-set}
use Rattle.f3_places.specs.declared.source.Place.{Place}
use Rattle.f3_program.specs.declared.declarations.Derived.{Derived}
use Rattle.f3_program.specs.declared.expression.Expression.{Expression}
use Rattle.f3_meaning_whole.specs.Act.{Setting}
use Rattle.f3_code.specs.Core as o
use Rattle.f3_code.specs.State as c
use Rattle.f3_code.specs.declared.instruction.Instruction.{Instruction}
use Rattle.f3_code.specs.declared.instruction.Instruction.TheVariants as i
use Rattle.f3_code.specs.Code.{Ways, code_of, counting, farther, looped, scoped, turns_code, value_code}
use Rattle.f3_gen_values.specs.declared.line.Line.{Line}
use Rattle.f3_gen_values.specs.Emitted.{Emitted, line_in, lines_in}
use Rattle.f3_gen_work.specs.EmittedIn.{EmittedIn}
use Rattle.f3_gen_work.proofs.Emitting.{counted_in, in_types, then_in}
use Rattle.f3_gen_statements.specs.declared.site.Exits.{Exits}
use Rattle.f3_gen_statements.specs.Leading.{ways_from, LeadInto}

-- ---- ways

abbrev ways : ℕ → ℕ → ℕ → ℕ → Ways
ways a b d k = record { cycle = a; exit = b; ret = d; cells = k }

-- with more lines behind
pub further : (a b : List Line) (e : Exits) (k : ℕ) → LeadInto a e → length b ≡ k + length a → ways_from b e ≡ farther k (ways_from a e)
further a b e k p n =
    let h : e.cycle ≤ length a = p.cycle in
    let j : e.exit ≤ length a = p.exit in
    let l : e.ret ≤ length a = p.ret in
    let x : length b - e.cycle ≡ k + (length a - e.cycle) = omega arith in
    let y : length b - e.exit ≡ k + (length a - e.exit) = omega arith in
    let z : length b - e.ret ≡ k + (length a - e.ret) = omega arith in
    ap (λ v. ways v (length b - e.exit) (length b - e.ret) e.cells) x ∙ ap (λ v. ways (k + (length a - e.cycle)) v (length b - e.ret) e.cells) y
    ∙ ap (λ v. ways (k + (length a - e.cycle)) (k + (length a - e.exit)) v e.cells) z

pub ways_same : {a b d k a' b' d' k' : ℕ} → a ≡ a' → b ≡ b' → d ≡ d' → k ≡ k' → ways a b d k ≡ ways a' b' d' k'
ways_same {a = a} {b = b} {d = d} {k = k} {a' = a'} {b' = b'} {d' = d'} x y z w =
    ap (λ v. ways v b d k) x ∙ ap (λ v. ways a' v d k) y ∙ ap (λ v. ways a' b' v k) z ∙ ap (λ v. ways a' b' d' v) w

-- ---- loops

-- a line that is changed afterwards
changed : {t : List Derived} {a b h r : List Line} {x : Setting → List c.Line} (p : Option Place) (was act : Instruction) (m : ℕ) → m ≡ length a
    → Emitted a b (c.line p was ∷ []) → EmittedIn t b h x → r ≡ set h m (record { place = p; initial = None; act = act })
    → EmittedIn t a r (λ g. x g ++ c.line p act ∷ [])
changed {a = a} {b = b} {h = h} {r = r} {x = x} p was act m at q u e = record {
  in_front = λ (g : Setting) same.
      ap (lines_in g) e ∙ map-set (line_in g) h m (record { place = p; initial = None; act = act })
      ∙ ap (λ v. set v m (c.line p act))
      (u.in_front g same ∙ ap (λ v. v ++ reverse (x g)) (q.in_front g) ∙ append_assoc (lines_in g a) (c.line p was ∷ []) (reverse (x g)))
      ∙ ap (λ n. set (lines_in g a ++ c.line p was ∷ reverse (x g)) n (c.line p act)) (at ∙ sym (length-map a (line_in g)))
      ∙ set-append_seam (lines_in g a) (c.line p was) (reverse (x g)) (c.line p act)
      ∙ ap (λ v. lines_in g a ++ v) (sym (reverse-append (x g) (c.line p act ∷ [])));
  longer = let l : length b ≡ length a + 1 = q.longer in let n : length b ≤ length h = u.longer in
      omega (arith, ap length e, length-set h m (record { place = p; initial = None; act = act }));
}

abbrev turned_code : Option Place → List c.Line → List c.Line → ℕ → ℕ → List c.Line
turned_code p test x k n = test ++ (c.line p (i.SkipIfFalse k) ∷ (x ++ c.line p (i.GoBack n) ∷ []))

pub while_in : {t : List Derived} {a b d f h r : List Line} {e : Exits} (e' : Exits) (p : Option Place) (test : Expression) (m k n : ℕ) (x : Setting → o.Core) → LeadInto a e → m ≡ length a
    → Emitted a b (c.line p (i.GoBack 0) ∷ []) → EmittedIn t b d (λ g. code_of (length t) p (x g) (ways_from b e'))
    → Emitted d f (c.line p (i.SkipIfFalse k) ∷ []) → Emitted f h (value_code p test)
    → r ≡ set h m (record { place = p; initial = None; act = i.GoBack n })
    → k ≡ length d - m → n ≡ length h - (m + 1)
    → e'.cycle ≡ length b → e'.exit ≡ m → e'.ret ≡ e.ret → e'.cells ≡ e.cells
    → EmittedIn t a r (λ g. code_of (length t) p (o.While test (x g)) (ways_from a e))
while_in {t = t} {a = a} {b = b} {d = d} {f = f} {h = h} {r = r} {e = e} e' p test m k n x w at q v s l er ek en wc we wr wk = record {
  in_front = λ (g : Setting) same.
      let nb : length b ≡ length a + 1 = q.longer in
      let nd : length d ≡ length b + length (code_of (length t) p (x g) (ways_from b e')) = counted_in v g same in
      let nf : length f ≡ length d + 1 = s.longer in
      let nh : length h ≡ length f + length (value_code p test) = l.longer in
      let in_ret : e.ret ≤ length a = w.ret in
      let fk : k ≡ length (code_of (length t) p (x g) (ways_from b e')) + 1 = omega arith in
      let fn : n ≡ length (value_code p test) + 1 + length (code_of (length t) p (x g) (ways_from b e')) = omega arith in
      let cycles : length b - e'.cycle ≡ 0 = omega arith in
      let leaves : length b - e'.exit ≡ 1 = omega arith in
      let returns : length b - e'.ret ≡ 1 + (length a - e.ret) = omega arith in
      let fw : ways_from b e' ≡ looped (ways_from a e) = ways_same cycles leaves returns wk in
      let all : lines_in g r ≡ lines_in g a ++ reverse (turned_code p (value_code p test) (code_of (length t) p (x g) (ways_from b e')) k n)
      = (changed p (i.GoBack 0) (i.GoBack n) m at q (then_in (then_in v (in_types s)) (in_types l)) er).in_front g same
      ∙ ap (λ y. lines_in g a ++ reverse y) (append_assoc (value_code p test) (c.line p (i.SkipIfFalse k) ∷ code_of (length t) p (x g) (ways_from b e')) (c.line p (i.GoBack n) ∷ [])) in
      all ∙ ap (λ v. lines_in g a ++ reverse (turned_code p (value_code p test) (code_of (length t) p (x g) (ways_from b e')) v n)) fk
      ∙ ap (λ v. lines_in g a ++ reverse (turned_code p (value_code p test) (code_of (length t) p (x g) (ways_from b e'))
      (length (code_of (length t) p (x g) (ways_from b e')) + 1) v)) fn
      ∙ ap (λ z. lines_in g a ++ reverse (turned_code p (value_code p test) (code_of (length t) p (x g) z)
      (length (code_of (length t) p (x g) z) + 1) (length (value_code p test) + 1 + length (code_of (length t) p (x g) z)))) fw;
  longer = (changed p (i.GoBack 0) (i.GoBack n) m at q (then_in (then_in v (in_types s)) (in_types l)) er).longer;
}

abbrev counted_code : Option Place → List c.Line → List c.Line → ℕ → ℕ → List c.Line
counted_code p x up k n = c.line p (i.CountNext k) ∷ (x ++ (up ++ (c.line p (i.GoBack n) ∷ c.line p (i.Unwind 1) ∷ [])))

in_turn : (p : Option Place) (x up : List c.Line) (k n : ℕ) → ((c.line p (i.CountNext k) ∷ (x ++ up)) ++ c.line p (i.GoBack n) ∷ []) ++ c.line p (i.Unwind 1) ∷ [] ≡ counted_code p x up k n
in_turn p x up k n = ap (λ y. c.line p (i.CountNext k) ∷ y) (append_assoc (x ++ up) (c.line p (i.GoBack n) ∷ []) (c.line p (i.Unwind 1) ∷ [])
    ∙ append_assoc x up (c.line p (i.GoBack n) ∷ c.line p (i.Unwind 1) ∷ []))

pub count_in : {t : List Derived} {a a' b u f h r : List Line} {e : Exits} {up : List c.Line} (e' : Exits) (p : Option Place) (m k n : ℕ) (x : Setting → o.Core) → LeadInto a e → m ≡ length a'
    → Emitted a a' (c.line p (i.Unwind 1) ∷ []) → Emitted a' b (c.line p (i.GoBack 0) ∷ []) → Emitted b u up
    → EmittedIn t u f (λ g. code_of (length t) p (x g) (ways_from u e')) → Emitted f h (c.line p (i.CountNext k) ∷ [])
    → r ≡ set h m (record { place = p; initial = None; act = i.GoBack n })
    → k ≡ length f - m → n ≡ length h - (m + 1)
    → e'.cycle ≡ length u → e'.exit ≡ m → e'.ret ≡ e.ret → e'.cells ≡ e.cells + 1
    → EmittedIn t a r (λ g. turns_code p (code_of (length t) p (x g) (counting (length up) (ways_from a e))) up)
count_in {t = t} {a = a} {a' = a'} {b = b} {u = u} {f = f} {h = h} {r = r} {e = e} {up = up} e' p m k n x w at q' q o v s er ek en wc we wr wk = record {
  in_front = λ (g : Setting) same.
      let na : length a' ≡ length a + 1 = q'.longer in
      let nb : length b ≡ length a' + 1 = q.longer in
      let nu : length u ≡ length b + length up = o.longer in
      let nf : length f ≡ length u + length (code_of (length t) p (x g) (ways_from u e')) = counted_in v g same in
      let nh : length h ≡ length f + 1 = s.longer in
      let in_ret : e.ret ≤ length a = w.ret in
      let fk : k ≡ length (code_of (length t) p (x g) (ways_from u e')) + length up + 1 = omega arith in
      let fn : n ≡ 1 + length (code_of (length t) p (x g) (ways_from u e')) + length up = omega arith in
      let cycles : length u - e'.cycle ≡ 0 = omega arith in
      let leaves : length u - e'.exit ≡ length up + 1 = omega arith in
      let returns : length u - e'.ret ≡ length up + 2 + (length a - e.ret) = omega arith in
      let more : e'.cells ≡ suc e.cells = omega arith in
      let fw : ways_from u e' ≡ counting (length up) (ways_from a e) = ways_same cycles leaves returns more in
      let all : lines_in g r ≡ lines_in g a ++ reverse (counted_code p (code_of (length t) p (x g) (ways_from u e')) up k n)
      = (then_in (in_types q') (changed p (i.GoBack 0) (i.GoBack n) m at q (then_in (then_in (in_types o) v) (in_types s)) er)).in_front g same
      ∙ ap (λ y. lines_in g a ++ reverse y) (in_turn p (code_of (length t) p (x g) (ways_from u e')) up k n) in
      all ∙ ap (λ v. lines_in g a ++ reverse (counted_code p (code_of (length t) p (x g) (ways_from u e')) up v n)) fk
      ∙ ap (λ v. lines_in g a ++ reverse (counted_code p (code_of (length t) p (x g) (ways_from u e')) up (length (code_of (length t) p (x g) (ways_from u e')) + length up + 1) v)) fn
      ∙ ap (λ z. lines_in g a ++ reverse (counted_code p (code_of (length t) p (x g) z) up
      (length (code_of (length t) p (x g) z) + length up + 1) (1 + length (code_of (length t) p (x g) z) + length up))) fw;
  longer = (then_in (in_types q') (changed p (i.GoBack 0) (i.GoBack n) m at q (then_in (then_in (in_types o) v) (in_types s)) er)).longer;
}

-- ---- scopes

pub scoped_in : {t : List Derived} {a b : List Line} (e : Exits) (p : Option Place) (x : Setting → o.Core) → ways_from a e ≡ scoped
    → EmittedIn t a b (λ g. code_of (length t) p (x g) (ways_from a e)) → EmittedIn t a b (λ g. code_of (length t) p (x g) scoped)
scoped_in {t = t} {a = a} {b = b} e p x w u = subst (λ z. EmittedIn t a b (λ g. code_of (length t) p (x g) z)) w u
