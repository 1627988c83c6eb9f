-- Procedures and units one after the other: their scopes, and what is made of them.
use Rattle.std.proofs.Common.{◌≡◌, refl, sym, ap, ◌∙◌, ℕ, ◌+◌, ◌<◌, ◌≤◌, nat_eq, nat_lt, Bool, true, false, List, [], ◌∷◌, ◌++◌, map, length, drop, get_or, replicate, Option, append_assoc, arith, if◌then◌else◌}
use Rattle.std.proofs.lemmas.List.{at_drop_more, length-append, length-map}
use Rattle.std.specs.List.{flat_map, list_any}
use Rattle.std.specs.Map.{lookup}
use Rattle.f3_lookups.specs.declared.lookup.Lookup.{Lookup}
use Rattle.f3_lookups.specs.declared.lookup.Lookup.TheVariants.{One, Nothing, Several}
use Rattle.f3_scopes.specs.Scopes.{declared_in, own}
use Rattle.f3_tree.specs.declared.expression.Name.{Name}
use Rattle.f3_tree.specs.declared.program.Procedure.{Procedure}
use Rattle.f3_tree.specs.declared.program.Unit.{Unit as ProgramUnit}
use Rattle.f3_tree.specs.Declarations.{SpecificationTree, declares, accesses, protects, saves, defines}
use Rattle.f3_tree.specs.Statements.{AssociationTree}
use Rattle.f3_tree.specs.Tree.{ProcedureTree, UnitTree, procedure_view, unit_view}
use Rattle.f3_kinds.specs.declared.things.Thing.{Thing}
use Rattle.f3_kinds.specs.Things.{Nature, variable, derived}
use Rattle.f3_type_rules.specs.Associates.{constructs_of_block}
use Rattle.f3_type_rules.specs.Names.{Names, components, undeclared}
use Rattle.f3_type_rules.specs.Natures.{declared_nature, typed_natures, associate_natures}
use Rattle.f3_typed_parts.specs.Known.{nature_of}
use Rattle.f3_natures.specs.declared.objects.Described.{Described}
use Rattle.f3_natures.specs.Entries.{firsts}
use Rattle.f3_natures.specs.Procedures.{described_all, final_type, procedure_by}
use Rattle.f3_natures.specs.Walk.{count_of, end_of, along, final_made, procedure_made, is_final, is_final_in, made_one, made_all, no_final, inner_made, all_finals, all_made, all_inner, own_count, unit_start, unit_end, own_made, unit_made, units_end, units_made}

pub end_least : (s : ℕ) (ps : List ProcedureTree) → s ≤ end_of s ps
end_least s [] = omega arith
end_least s (p ∷ ps) = let h = end_least (s + 1 + count_of p.body) ps in omega (arith, h)

pub units_least : (s : ℕ) (us : List UnitTree) → s ≤ units_end s us
units_least s [] = omega arith
units_least s (u ∷ us) = let h = units_least (unit_end s u) us in let k = end_least (unit_start s u) u.procedures in omega (arith, h, k)

pub end_more : (xs : List Procedure) (i : ℕ) (x : Procedure) (s s' whole : ℕ) → i < length xs → x ≡ get_or xs i x → s' ≡ s + 1 + count_of (procedure_view x).body
    → end_of s (map procedure_view (drop i xs)) ≡ whole → end_of s' (map procedure_view (drop (i + 1) xs)) ≡ whole
end_more xs i x s s' whole lt is e h =
    ap (λ n. end_of n (map procedure_view (drop (i + 1) xs))) (e ∙ ap (λ y. s + 1 + count_of (procedure_view y).body) is)
    ∙ sym (at_drop_more (λ ys. end_of s (map procedure_view ys)) xs i x lt) ∙ h

pub along_more : {Z : Type 0} (f : ℕ → ProcedureTree → List Z) (xs : List Procedure) (i : ℕ) (x : Procedure) (s s' : ℕ) (before after whole : List Z) → i < length xs → x ≡ get_or xs i x
    → s' ≡ s + 1 + count_of (procedure_view x).body → after ≡ before ++ f s (procedure_view x)
    → before ++ along f s (map procedure_view (drop i xs)) ≡ whole → after ++ along f s' (map procedure_view (drop (i + 1) xs)) ≡ whole
along_more f xs i x s s' before after whole lt is e g h =
    let y = get_or xs i x in
    let rest = map procedure_view (drop (i + 1) xs) in
    ap (λ n. after ++ along f n rest) (e ∙ ap (λ z. s + 1 + count_of (procedure_view z).body) is)
    ∙ ap (λ zs. zs ++ along f (s + 1 + count_of (procedure_view y).body) rest) (g ∙ ap (λ z. before ++ f s (procedure_view z)) is)
    ∙ append_assoc before (f s (procedure_view y)) (along f (s + 1 + count_of (procedure_view y).body) rest)
    ∙ ap (λ zs. before ++ zs) (sym (at_drop_more (λ ys. along f s (map procedure_view ys)) xs i x lt)) ∙ h

-- the scope of the procedure at hand fits, since that behind all does
pub end_fits : (xs : List Procedure) (i : ℕ) (x : Procedure) (s whole bound : ℕ) → i < length xs → x ≡ get_or xs i x → end_of s (map procedure_view (drop i xs)) ≡ whole → whole < bound
    → s + 1 + count_of (procedure_view x).body < bound
end_fits xs i x s whole bound lt is h fits =
    let e = end_more xs i x s (s + 1 + count_of (procedure_view x).body) whole lt is refl h in
    let k = end_least (s + 1 + count_of (procedure_view x).body) (map procedure_view (drop (i + 1) xs)) in
    omega (arith, e, k)

-- names by their number
pub counted : (v : Nature) (xss : List (List AssociationTree)) → flat_map (λ n. replicate n v) (map length xss) ≡ flat_map (map (λ (x : AssociationTree). v)) xss
counted v [] = refl
counted v (xs ∷ xss) = ap (λ l. l ++ flat_map (λ n. replicate n v) (map length xss)) (each xs) ∙ ap (λ l. map (λ (x : AssociationTree). v) xs ++ l) (counted v xss)
  where
    each : (xs : List AssociationTree) → replicate (length xs) v ≡ map (λ (x : AssociationTree). v) xs
    each [] = refl
    each (x ∷ xs) = ap (λ l. v ∷ l) (each xs)

-- ---- a procedure

pub final_by : (names : Names) (scope : ℕ) (p : ProcedureTree) (es : List (ℕ × Described)) (before after : List (Option ℕ)) → es ≡ firsts (described_all names scope (p.part).specifications)
    → after ≡ before ++ final_type (λ k. lookup (nat_eq k) es) (p.header).kind (p.header).dummies ∷ [] → after ≡ before ++ final_made names scope p
final_by names scope p es before after e f =
    f ∙ ap (λ (l : List (ℕ × Described)). before ++ final_type (λ k. lookup (nat_eq k) l) (p.header).kind (p.header).dummies ∷ []) e

pub procedure_done : (names : Names) (scope : ℕ) (p : ProcedureTree) (es : List (ℕ × Described)) (before after : List Nature) → es ≡ firsts (described_all names scope (p.part).specifications)
    → after ≡ before ++ procedure_by names scope (λ k. lookup (nat_eq k) es) p.header ∷ [] → after ≡ before ++ procedure_made names scope p
procedure_done names scope p es before after e f =
    f ∙ ap (λ (l : List (ℕ × Described)). before ++ procedure_by names scope (λ k. lookup (nat_eq k) l) p.header ∷ []) e

same_false : (b : Bool) → (if b then false else false) ≡ false
same_false true = refl
same_false false = refl

pub never : (t : ℕ) (l : Lookup) → is_final_in 0 [] t l ≡ false
never t (One f) = same_false (nat_lt f 0)
never t Nothing = refl
never t Several = refl

none_any : (names : Names) (scope e e' : ℕ) (ns : List Name) → list_any (is_final names scope 0 [] e) ns ≡ list_any (no_final e') ns
none_any names scope e e' [] = refl
none_any names scope e e' (n ∷ ns) = rw (never e (names.look scope n.symbol)) (none_any names scope e e' ns)

none_one : (names : Names) (scope e e' : ℕ) (s : SpecificationTree) → made_one names scope (is_final names scope 0 []) e s ≡ made_one names scope no_final e' s
none_one names scope e e' (declares d) = refl
none_one names scope e e' (accesses a) = refl
none_one names scope e e' (protects p ns) = refl
none_one names scope e e' (saves p) = refl
none_one names scope e e' (defines t) = ap (λ (b : Bool). derived scope (firsts (components names scope t)) b ∷ []) (none_any names scope e e' t.finals)

pub none_all : (names : Names) (scope e e' : ℕ) (ss : List SpecificationTree) → made_all names scope (is_final names scope 0 []) e ss ≡ made_all names scope no_final e' ss
none_all names scope e e' [] = refl
none_all names scope e e' (s ∷ ss) =
    ap (λ l. l ++ made_all names scope (is_final names scope 0 []) (e + length (made_one names scope (is_final names scope 0 []) e s)) ss) (none_one names scope e e' s)
    ∙ ap (λ l. made_one names scope no_final e' s ++ l) (none_all names scope (e + length (made_one names scope (is_final names scope 0 []) e s)) (e' + length (made_one names scope no_final e' s)) ss)

pub inner_joined : (names : Names) (scope : ℕ) (p : ProcedureTree) (e : ℕ) (l0 l1 l2 l3 : List Nature) (xs : List ℕ)
    → l1 ≡ l0 ++ typed_natures names scope (p.header).kind
    → l2 ≡ l1 ++ made_all names scope (is_final names scope 0 []) e (p.part).specifications
    → l3 ≡ l2 ++ flat_map (λ n. replicate n (variable undeclared)) xs
    → xs ≡ map length (constructs_of_block p.body)
    → l3 ≡ l0 ++ inner_made names scope p
inner_joined names scope p e l0 l1 l2 l3 xs e1 e2 e3 ex =
    let t = typed_natures names scope (p.header).kind in
    let m = made_all names scope no_final 0 (p.part).specifications in
    let a = associate_natures p.body in
    e3 ∙ ap (λ ys. l2 ++ flat_map (λ n. replicate n (variable undeclared)) ys) ex ∙ ap (λ zs. l2 ++ zs) (counted (variable undeclared) (constructs_of_block p.body))
    ∙ ap (λ zs. zs ++ a) (e2 ∙ ap (λ zs. l1 ++ zs) (none_all names scope e 0 (p.part).specifications) ∙ ap (λ zs. zs ++ m) e1)
    ∙ ap (λ zs. zs ++ a) (append_assoc l0 t m) ∙ append_assoc l0 (t ++ m) a ∙ ap (λ zs. l0 ++ zs) (append_assoc t m a)

-- ---- a unit

pub unit_joined : (names : Names) (e scope first start : ℕ) (u : UnitTree) (finals f0 : List (Option ℕ)) (l0 l1 l2 l3 l4 made m0 inner i0 : List Nature) (xs : List ℕ)
    → start ≡ unit_start scope u → first ≡ e + own_count u
    → f0 ≡ [] → finals ≡ f0 ++ all_finals names start u.procedures
    → m0 ≡ [] → made ≡ m0 ++ all_made names start u.procedures
    → i0 ≡ [] → inner ≡ i0 ++ all_inner names start u.procedures
    → l1 ≡ l0 ++ made_all names scope (is_final names scope first finals) e (u.part).specifications
    → l2 ≡ l1 ++ made
    → l3 ≡ l2 ++ flat_map (λ n. replicate n (variable undeclared)) xs
    → xs ≡ map length (constructs_of_block u.body)
    → l4 ≡ l3 ++ inner
    → l4 ≡ l0 ++ unit_made names e scope u
unit_joined names e scope first start u finals f0 l0 l1 l2 l3 l4 made m0 inner i0 xs es ef f0e fe m0e me i0e ie e1 e2 e3 ex e4 =
    let o = own_made names e scope u in
    let m = all_made names (unit_start scope u) u.procedures in
    let a = associate_natures u.body in
    let i = all_inner names (unit_start scope u) u.procedures in
    let fs : finals ≡ all_finals names (unit_start scope u) u.procedures = fe ∙ ap (λ l. l ++ all_finals names start u.procedures) f0e ∙ ap (λ n. all_finals names n u.procedures) es in
    let ms : made ≡ m = me ∙ ap (λ l. l ++ all_made names start u.procedures) m0e ∙ ap (λ n. all_made names n u.procedures) es in
    let ended : inner ≡ i = ie ∙ ap (λ l. l ++ all_inner names start u.procedures) i0e ∙ ap (λ n. all_inner names n u.procedures) es in
    let own : l1 ≡ l0 ++ o = e1 ∙ ap (λ n. l0 ++ made_all names scope (is_final names scope n finals) e (u.part).specifications) ef ∙ ap (λ l. l0 ++ made_all names scope (is_final names scope (e + own_count u) l) e (u.part).specifications) fs in
    let joined : l3 ≡ l2 ++ a = e3 ∙ ap (λ ys. l2 ++ flat_map (λ n. replicate n (variable undeclared)) ys) ex ∙ ap (λ zs. l2 ++ zs) (counted (variable undeclared) (constructs_of_block u.body)) in
    e4 ∙ ap (λ zs. l3 ++ zs) ended
    ∙ ap (λ zs. zs ++ i) (joined ∙ ap (λ zs. zs ++ a) (e2 ∙ ap (λ zs. l1 ++ zs) ms ∙ ap (λ zs. zs ++ m) own))
    ∙ append_assoc ((l0 ++ o) ++ m) a i ∙ append_assoc (l0 ++ o) m (a ++ i) ∙ append_assoc l0 o (m ++ (a ++ i))

pub one_long : (names : Names) (scope : ℕ) (has : ℕ → Name → Bool) (e : ℕ) (s : SpecificationTree) → length (made_one names scope has e s) ≡ length (declared_in s)
one_long names scope has e (declares d) = length-map d.entities (declared_nature names scope d) ∙ sym (length-map d.entities (own d.attributes))
one_long names scope has e (accesses a) = refl
one_long names scope has e (protects p ns) = refl
one_long names scope has e (saves p) = refl
one_long names scope has e (defines t) = refl

pub made_long : (names : Names) (scope : ℕ) (has : ℕ → Name → Bool) (e : ℕ) (ss : List SpecificationTree) → length (made_all names scope has e ss) ≡ length (flat_map declared_in ss)
made_long names scope has e [] = refl
made_long names scope has e (s ∷ ss) =
    length-append (made_one names scope has e s) (made_all names scope has (e + length (made_one names scope has e s)) ss)
    ∙ ap (λ n. n + length (made_all names scope has (e + length (made_one names scope has e s)) ss)) (one_long names scope has e s)
    ∙ ap (λ n. length (declared_in s) + n) (made_long names scope has (e + length (made_one names scope has e s)) ss)
    ∙ sym (length-append (declared_in s) (flat_map declared_in ss))

pub unit_fits : (xs : List ProgramUnit) (i : ℕ) (x : ProgramUnit) (s whole bound : ℕ) → i < length xs → x ≡ get_or xs i x → units_end s (map unit_view (drop i xs)) ≡ whole → whole < bound
    → unit_end s (unit_view x) < bound
unit_fits xs i x s whole bound lt is h fits =
    let e : units_end s (map unit_view (drop i xs)) ≡ units_end (unit_end s (unit_view (get_or xs i x))) (map unit_view (drop (i + 1) xs)) = at_drop_more (λ ys. units_end s (map unit_view ys)) xs i x lt in
    let k = units_least (unit_end s (unit_view (get_or xs i x))) (map unit_view (drop (i + 1) xs)) in
    let j : unit_end s (unit_view x) ≡ unit_end s (unit_view (get_or xs i x)) = ap (λ y. unit_end s (unit_view y)) is in
    omega (arith, e, k, j, h, fits)

pub own_fits : (names : Names) (xs : List ProgramUnit) (i : ℕ) (x : ProgramUnit) (s bound : ℕ) (things : List Thing) (whole : List Nature) → i < length xs → x ≡ get_or xs i x
    → map nature_of things ++ units_made names (length things) s (map unit_view (drop i xs)) ≡ whole → length whole < bound
    → length things + own_count (unit_view x) < bound
own_fits names xs i x s bound things whole lt is h fits =
    let y = unit_view (get_or xs i x) in
    let n = length things in
    let rest = units_made names (n + length (unit_made names n s y)) (unit_end s y) (map unit_view (drop (i + 1) xs)) in
    let others = all_made names (unit_start s y) y.procedures ++ (associate_natures y.body ++ all_inner names (unit_start s y) y.procedures) in
    let e : units_made names n s (map unit_view (drop i xs)) ≡ unit_made names n s y ++ rest = at_drop_more (λ ys. units_made names n s (map unit_view ys)) xs i x lt in
    let a = length-append (map nature_of things) (units_made names n s (map unit_view (drop i xs))) in
    let b = ap length e in
    let c = length-append (unit_made names n s y) rest in
    let d = length-append (own_made names n s y) others in
    let f = made_long names s (is_final names s (n + own_count y) (all_finals names (unit_start s y) y.procedures)) n (y.part).specifications in
    let g = length-map things nature_of in
    let j : own_count (unit_view x) ≡ own_count y = ap (λ z. own_count (unit_view z)) is in
    let k = ap length h in
    omega (arith, a, b, c, d, f, g, j, k, fits)

pub units_more : (xs : List ProgramUnit) (i : ℕ) (x : ProgramUnit) (s s' whole : ℕ) → i < length xs → x ≡ get_or xs i x → s' ≡ unit_end s (unit_view x)
    → units_end s (map unit_view (drop i xs)) ≡ whole → units_end s' (map unit_view (drop (i + 1) xs)) ≡ whole
units_more xs i x s s' whole lt is e h =
    ap (λ n. units_end n (map unit_view (drop (i + 1) xs))) (e ∙ ap (λ y. unit_end s (unit_view y)) is)
    ∙ sym (at_drop_more (λ ys. units_end s (map unit_view ys)) xs i x lt) ∙ h

pub made_more : (names : Names) (xs : List ProgramUnit) (i : ℕ) (x : ProgramUnit) (s s' : ℕ) (before after : List Thing) (whole : List Nature) → i < length xs → x ≡ get_or xs i x
    → s' ≡ unit_end s (unit_view x)
    → map nature_of after ≡ map nature_of before ++ unit_made names (length before) s (unit_view x)
    → map nature_of before ++ units_made names (length before) s (map unit_view (drop i xs)) ≡ whole
    → map nature_of after ++ units_made names (length after) s' (map unit_view (drop (i + 1) xs)) ≡ whole
made_more names xs i x s s' before after whole lt is se e h =
    let y = unit_view (get_or xs i x) in
    let rest = map unit_view (drop (i + 1) xs) in
    let e' : map nature_of after ≡ map nature_of before ++ unit_made names (length before) s y = e ∙ ap (λ z. map nature_of before ++ unit_made names (length before) s (unit_view z)) is in
    let long : length after ≡ length before + length (unit_made names (length before) s y) =
    sym (length-map after nature_of) ∙ ap length e' ∙ length-append (map nature_of before) (unit_made names (length before) s y) ∙ ap (λ n. n + length (unit_made names (length before) s y)) (length-map before nature_of) in
    let n' = length before + length (unit_made names (length before) s y) in
    ap (λ n. map nature_of after ++ units_made names n s' rest) long
    ∙ ap (λ n. map nature_of after ++ units_made names n' n rest) (se ∙ ap (λ z. unit_end s (unit_view z)) is)
    ∙ ap (λ zs. zs ++ units_made names n' (unit_end s y) rest) e'
    ∙ append_assoc (map nature_of before) (unit_made names (length before) s y) (units_made names n' (unit_end s y) rest)
    ∙ ap (λ zs. map nature_of before ++ zs) (sym (at_drop_more (λ ys. units_made names (length before) s (map unit_view ys)) xs i x lt)) ∙ h
