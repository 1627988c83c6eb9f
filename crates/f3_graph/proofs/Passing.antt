-- What passes over the units find, and at which unit.
use Rattle.std.proofs.Common.{◌≡◌, ◌≢◌, ℕ, ◌+◌, ◌<◌, List, [], ◌∷◌, ◌++◌, length, drop, get_or, refl, sym, ap, subst, ◌∙◌, Bool, true, false, if◌then◌else◌, ◌||◌, ◌&&◌, Option, None, Some, nat_eq, ◌⊎◌, inl, inr, Contains}
use Rattle.std.specs.List.{list_any}
use Rattle.std.proofs.lemmas.Bool.{eqb-true, eq-eqb, true≢false}
use Rattle.std.proofs.lemmas.List.{at_drop_more}
use Rattle.indexmap.specs.IndexSet.{insert_key}
use Rattle.f3_rules.specs.declared.breaks.Break.{Break}
use Rattle.f3_rules.specs.declared.rule.Rule.TheVariants.{U1, U4}
use Rattle.f3_rules.specs.Least.{Least, earlier_of, first_of}
use Rattle.f3_rules.proofs.Firsts.{first-append, first_is_least, least_same, least_one, earlier_assoc}
use Rattle.f3_tree.specs.declared.program.UnitKind.{UnitKind}
use Rattle.f3_tree.specs.declared.program.UnitKind.TheVariants.{Module, Program as MainProgram}
use Rattle.f3_tree.specs.Tree.{Tree}
use Rattle.f3_graph.specs.Units.{Node, nodes_of}
use Rattle.f3_graph.specs.declared.unit.UnitUses.{UnitUses}
use Rattle.f3_graph.specs.Inner.Views.{node_view, nodes_view}
use Rattle.f3_graph.specs.Breaks.{at, NameTwice, NoMainProgram, MainProgramAgain}
use Rattle.f3_graph.specs.Inner.Passes.{pass, name_row, name_next, is_main, main_row, main_next}
use Rattle.f3_nodes.proofs.Members.{Has, has_of, contains_of, has_parts, has_left, has_right, any_of, any_from}

-- what units leave
abbrev pub after : {S : Type 0} → (S → Node → S) → S → List Node → S
after next s [] = s
after next s (unit ∷ units) = after next (next s unit) units

module _ {S : Type 0} (row : S → Node → List Break) (next : S → Node → S) where
  pub pass_of : (s : S) (xs : List Node) (b : Break) → Has (pass row next s xs) b → (front : List Node) × (x : Node) × (rest : List Node) × (xs ≡ front ++ x ∷ rest) × Has (row (after next s front) x) b
  pass_of s [] b h = absurd h
  pass_of s (x ∷ xs) b h = elim (has_parts (row s x) (pass row next (next s x) xs) b h) [
    | inl a ↦ ([], x, xs, refl, a)
    | inr c ↦ let r = pass_of (next s x) xs b c in (x ∷ r.0, r.1, r.2, ap (λ l. x ∷ l) r.3, r.4)
  ]

  pub has_pass : (s : S) (front : List Node) (x : Node) (rest : List Node) (b : Break) → Has (row (after next s front) x) b → Has (pass row next s (front ++ x ∷ rest)) b
  has_pass s [] x rest b h = has_left (row s x) (pass row next (next s x) rest) b h
  has_pass s (z ∷ front) x rest b h = has_right (row s z) (pass row next (next s z) (front ++ x ∷ rest)) b (has_pass (next s z) front x rest b h)

  -- a loop over the units: one unit more
  pub pass_step : (xs : List UnitUses) (i : ℕ) (x : UnitUses) (s : S) (before later whole : Option Break) → i < length xs → x ≡ get_or xs i x
      → later ≡ earlier_of before (first_of (row s (node_view x)))
      → earlier_of before (first_of (pass row next s (nodes_view (drop i xs)))) ≡ whole
      → earlier_of later (first_of (pass row next (next s (node_view x)) (nodes_view (drop (i + 1) xs)))) ≡ whole
  pass_step xs i x s before later whole lt at e h =
      let rest = pass row next (next s (node_view x)) (nodes_view (drop (i + 1) xs)) in
      ap (λ a. earlier_of a (first_of rest)) e
      ∙ earlier_assoc before (first_of (row s (node_view x))) (first_of rest)
      ∙ ap (earlier_of before) (sym (first-append (row s (node_view x)) rest) ∙ ap first_of (sym (at_drop_more (λ us. pass row next s (nodes_view us)) xs i x lt ∙ ap (λ w. pass row next s (nodes_view (w ∷ drop (i + 1) xs))) (sym at))))
      ∙ h

  pub after_step : (xs : List UnitUses) (i : ℕ) (x : UnitUses) (s whole : S) → i < length xs → x ≡ get_or xs i x
      → after next s (nodes_view (drop i xs)) ≡ whole → after next (next s (node_view x)) (nodes_view (drop (i + 1) xs)) ≡ whole
  after_step xs i x s whole lt at h = sym (at_drop_more (λ us. after next s (nodes_view us)) xs i x lt ∙ ap (λ w. after next s (nodes_view (w ∷ drop (i + 1) xs))) (sym at)) ∙ h

-- a break or none
pub one_of : (t : Bool) (b c : Break) → Has (if t then c ∷ [] else []) b → (t ≡ true) × (b ≡ c)
one_of true b c (inl e) = (refl, e)
one_of true b c (inr n) = absurd n
one_of false b c n = absurd n

pub one_in : (t : Bool) (b c : Break) → t ≡ true → b ≡ c → Has (if t then c ∷ [] else []) b
one_in t b c e same = rw e (inl same)

-- a key that is put in, if it was not there
module _ {X : Type 0} (eq : X → X → Bool) (same : (a b : X) → eq a b ≡ true → a ≡ b) where
  key_put : (ks : List X) (k x : X) → Has ks x ⊎ (x ≡ k) → Has (insert_key eq ks k) x
  key_put ks k x h = by (list_any (eq k) ks) refl h
    where
      by : (b : Bool) → list_any (eq k) ks ≡ b → Has ks x ⊎ (x ≡ k) → Has (if b then ks else ks ++ k ∷ []) x
      by true t (inl a) = a
      by true t (inr e) = let r = any_of (eq k) ks t in subst (Has ks) (sym (same k r.0 r.2) ∙ sym e) r.1
      by false t (inl a) = has_left ks (k ∷ []) x a
      by false t (inr e) = has_right ks (k ∷ []) x (inl e)

  key_of : (ks : List X) (k x : X) → Has (insert_key eq ks k) x → Has ks x ⊎ (x ≡ k)
  key_of ks k x h = by (list_any (eq k) ks) h
    where
      by : (b : Bool) → Has (if b then ks else ks ++ k ∷ []) x → Has ks x ⊎ (x ≡ k)
      by true h = inl h
      by false h = elim (has_parts ks (k ∷ []) x h) [ inl a ↦ inl a | inr (inl e) ↦ inr e | inr (inr n) ↦ absurd n ]

-- names of units
seen_of : (seen : List ℕ) (xs : List Node) (n : ℕ) → Has (after name_next seen xs) n → Has seen n ⊎ ((y : Node) × Has xs y × (y.name.symbol ≡ n))
seen_of seen [] n h = inl h
seen_of seen (x ∷ xs) n h = elim (seen_of (name_next seen x) xs n h) [
  | inl s ↦ elim (key_of nat_eq eqb-true seen x.name.symbol n s) [ inl old ↦ inl old | inr e ↦ inr (x, inl refl, sym e) ]
  | inr (y, hy, e) ↦ inr (y, inr hy, e)
]

seen_in : (seen : List ℕ) (xs : List Node) (n : ℕ) → Has seen n ⊎ ((y : Node) × Has xs y × (y.name.symbol ≡ n)) → Has (after name_next seen xs) n
seen_in seen [] n (inl s) = s
seen_in seen [] n (inr y) = absurd y.1
seen_in seen (x ∷ xs) n (inl s) = seen_in (name_next seen x) xs n (inl (key_put nat_eq eqb-true seen x.name.symbol n (inl s)))
seen_in seen (x ∷ xs) n (inr (y, inl e, same)) = seen_in (name_next seen x) xs n (inl (key_put nat_eq eqb-true seen x.name.symbol n (inr (sym same ∙ ap (λ w. w.name.symbol) e))))
seen_in seen (x ∷ xs) n (inr (y, inr h, same)) = seen_in (name_next seen x) xs n (inr (y, h, same))

pub least_names : (units : List Node) → Least (first_of (pass name_row name_next [] units)) (NameTwice units)
least_names units = least_same (first_is_least (pass name_row name_next [] units)) to from
  where
    to : (b : Break) → Contains (pass name_row name_next [] units) b → NameTwice units b
    to b h =
        let r = pass_of name_row name_next [] units b (has_of (pass name_row name_next [] units) b h) in
        let seen = after name_next [] r.0 in
        let o = one_of (list_any (nat_eq r.1.name.symbol) seen) b (at U1 r.1.name) r.4 in
        let a = any_of (nat_eq r.1.name.symbol) seen o.0 in
        elim (seen_of [] r.0 a.0 a.1) [
          | inl n ↦ absurd n
          | inr (y, hy, e) ↦ (r.0, r.1, r.2, r.3, y, contains_of r.0 y hy, e ∙ sym (eqb-true r.1.name.symbol a.0 a.2), o.1)
        ]

    from : (b : Break) → NameTwice units b → Contains (pass name_row name_next [] units) b
    from b (front, unit, rest, split, earlier, before, same, is) =
        let seen = after name_next [] front in
        let known : Has seen unit.name.symbol = seen_in [] front unit.name.symbol (inr (earlier, has_of front earlier before, same)) in
        let test : list_any (nat_eq unit.name.symbol) seen ≡ true = any_from (nat_eq unit.name.symbol) seen unit.name.symbol known (eq-eqb unit.name.symbol unit.name.symbol refl) in
        contains_of (pass name_row name_next [] units) b (subst (λ l. Has (pass name_row name_next [] l) b) (sym split) (has_pass name_row name_next [] front unit rest b (one_in (list_any (nat_eq unit.name.symbol) seen) b (at U1 unit.name) test is)))

-- main programs
main_of : (kind : UnitKind) → is_main kind ≡ true → kind ≡ MainProgram
main_of Module e = absurd (true≢false (sym e))
main_of MainProgram e = refl

either_of : (s t : Bool) → (s || t) ≡ true → (s ≡ true) ⊎ (t ≡ true)
either_of true t e = inl refl
either_of false t e = inr e

either_right : (s t : Bool) → t ≡ true → (s || t) ≡ true
either_right true t e = refl
either_right false t e = e

both_of : (s t : Bool) → (s && t) ≡ true → (s ≡ true) × (t ≡ true)
both_of true t e = (refl, e)
both_of false t e = absurd (true≢false (sym e))

had_of : (had : Bool) (xs : List Node) → after main_next had xs ≡ true → (had ≡ true) ⊎ ((y : Node) × Has xs y × (y.kind ≡ MainProgram))
had_of had [] e = inl e
had_of had (x ∷ xs) e = elim (had_of (main_next had x) xs e) [
  | inl s ↦ elim (either_of had (is_main x.kind) s) [ inl old ↦ inl old | inr m ↦ inr (x, inl refl, main_of x.kind m) ]
  | inr (y, hy, k) ↦ inr (y, inr hy, k)
]

had_in : (had : Bool) (xs : List Node) → (had ≡ true) ⊎ ((y : Node) × Has xs y × (y.kind ≡ MainProgram)) → after main_next had xs ≡ true
had_in had [] (inl s) = s
had_in had [] (inr y) = absurd y.1
had_in had (x ∷ xs) (inl s) = had_in (main_next had x) xs (inl (rw s refl))
had_in had (x ∷ xs) (inr (y, inl e, k)) = had_in (main_next had x) xs (inl (either_right had (is_main x.kind) (ap is_main (sym (ap (λ w. w.kind) e) ∙ k))))
had_in had (x ∷ xs) (inr (y, inr h, k)) = had_in (main_next had x) xs (inr (y, h, k))

least_mains : (units : List Node) → Least (first_of (pass main_row main_next false units)) (MainProgramAgain units)
least_mains units = least_same (first_is_least (pass main_row main_next false units)) to from
  where
    to : (b : Break) → Contains (pass main_row main_next false units) b → MainProgramAgain units b
    to b h =
        let r = pass_of main_row main_next false units b (has_of (pass main_row main_next false units) b h) in
        let had = after main_next false r.0 in
        let o = one_of (had && is_main r.1.kind) b (at U4 r.1.name) r.4 in
        let t = both_of had (is_main r.1.kind) o.0 in
        elim (had_of false r.0 t.0) [
          | inl n ↦ absurd (true≢false (sym n))
          | inr (y, hy, k) ↦ (r.0, r.1, r.2, r.3, main_of r.1.kind t.1, y, contains_of r.0 y hy, k, o.1)
        ]

    from : (b : Break) → MainProgramAgain units b → Contains (pass main_row main_next false units) b
    from b (front, unit, rest, split, kind, earlier, before, its_kind, is) =
        let had : after main_next false front ≡ true = had_in false front (inr (earlier, has_of front earlier before, its_kind)) in
        let test : (after main_next false front && is_main unit.kind) ≡ true = rw had (ap is_main kind) in
        contains_of (pass main_row main_next false units) b (subst (λ l. Has (pass main_row main_next false l) b) (sym split) (has_pass main_row main_next false front unit rest b (one_in (after main_next false front && is_main unit.kind) b (at U4 unit.name) test is)))

abbrev pub MainBreaks : Tree → Break → Type 0
MainBreaks program b = NoMainProgram program b ⊎ MainProgramAgain (nodes_of program) b

pub some_main : (program : Tree) → after main_next false (nodes_of program) ≡ true → Least (first_of (pass main_row main_next false (nodes_of program))) (MainBreaks program)
some_main program had = least_same (least_mains (nodes_of program)) (λ b a. inr a) back
  where
    back : (b : Break) → MainBreaks program b → MainProgramAgain (nodes_of program) b
    back b (inr a) = a
    back b (inl n) = elim (had_of false (nodes_of program) had) [
      | inl f ↦ absurd (true≢false (sym f))
      | inr (y, hy, k) ↦ absurd (n.0 y (contains_of (nodes_of program) y hy) k)
    ]

pub no_main : (program : Tree) → after main_next false (nodes_of program) ≡ false → Least (Some (record { phase = 2; place = program.end; rule = U4; name = None })) (MainBreaks program)
no_main program had = least_one (record { phase = 2; place = program.end; rule = U4; name = None }) (inl (none, refl)) only
  where
    none : (unit : Node) → Contains (nodes_of program) unit → unit.kind ≢ MainProgram
    none unit c k = true≢false (sym (had_in false (nodes_of program) (inr (unit, has_of (nodes_of program) unit c, k))) ∙ had)

    only : (b : Break) → MainBreaks program b → b ≡ record { phase = 2; place = program.end; rule = U4; name = None }
    only b (inl n) = n.1
    only b (inr (front, unit, rest, split, kind, earlier, before, its_kind, is)) = absurd (none unit (contains_of (nodes_of program) unit (subst (λ l. Has l unit) (sym split) (has_right front (unit ∷ rest) unit (inl refl)))) kind)
