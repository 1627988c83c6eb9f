-- What is found in a scope, and the rules.
use Rattle.std.proofs.Common.{◌≡◌, ℕ, List, ◌++◌, length, map, Option, refl, sym, ap, subst, ◌∙◌, Bool, true, false, not, nat_lt, ◌&&◌, ◌==◌, ◌⊎◌, inl, inr, Contains, option_to_list}
use Rattle.std.specs.List.{list_any, flat_map}
use Rattle.std.specs.Global.{Vec}
use Rattle.std.proofs.lemmas.Bool.{eqb-true, eq-eqb, and_parts, and_from, true≢false}
use Rattle.f3_rules.specs.declared.breaks.Break.{Break}
use Rattle.f3_rules.specs.declared.rule.Rule.TheVariants.{N3, N5, N6, N9}
use Rattle.f3_rules.specs.Least.{Least, earlier_of}
use Rattle.f3_rules.proofs.Firsts.{least_same, least_both}
use Rattle.f3_tree.specs.declared.expression.Name.{Name}
use Rattle.f3_scopes.specs.declared.outline.Component.{Component}
use Rattle.f3_scopes.specs.declared.outline.Declared.{Declared}
use Rattle.f3_scopes.specs.declared.outline.Outline.{Outline}
use Rattle.f3_scopes.specs.Outlines.{Own, Listed, Part, Scope, own_view, listed_view, part_view, scope_view}
use Rattle.f3_scope_rules.specs.ScopeBreaks.{at, at_keyword, Again, declared_names, header_names, component_names, DeclaredTwice, AccessOutside, AccessTwice, IsProtecting, ProtectedMisplaced, specified, IsDummy, IntentMisplaced, Declares, Undeclared, BreaksOf, ScopeBreaks}
use Rattle.f3_scopes.specs.Kinds.{is_module}
use Rattle.f3_breaks.specs.Among.{Among}
use Rattle.f3_scope_rules.specs.Inner.Rows.{AgainIn, ComponentAgain, OwnName, has_other_result, StatementOutside, AttributeOutside, ComponentsTwice, symbols, is_known, is_variable, variable_name, protected_name, Misprotected, is_other, is_misplaced, is_function, Misintended, Missing}
use Rattle.f3_scope_rules.proofs.Members.{Has, has_of, contains_of, has_left, has_right, has_parts, any_of, any_from, has_mapped, mapped_of, has_piece, piece_of}
use Rattle.f3_scope_rules.proofs.Passing.{among_views, among_viewed}
use Rattle.f3_scope_rules.proofs.Twice.{DefaultIn}
use Rattle.f3_scope_rules.proofs.Known.{known_of, known_in, either_of, either_left, either_right, no_of, no_in, one_of, one_in, some_of, some_in, empty_of, empty_in, filled_of, filled_in, two_of, two_in, outside_of, outside_in, function_of, variable_of, other_of, other_in, result_of, result_in}

-- elements as they are seen
module _ {X Y : Type 0} (view : X → Y) where
  seen_in : (xs : List X) (x : X) → Contains xs x → Contains (map view xs) (view x)
  seen_in xs x h = contains_of (map view xs) (view x) (has_mapped view xs x (has_of xs x h))

  seen_of : (xs : List X) (y : Y) → Contains (map view xs) y → (x : X) × Contains xs x × (y ≡ view x)
  seen_of xs y h = let r = mapped_of view xs y (has_of (map view xs) y h) in (r.0, contains_of xs r.0 r.1, r.2)

abbrev pub parts_of : Vec Component → List Part
parts_of v = map part_view v.items

-- ---- declared twice

pub least_twice : (o : Outline) (declared header : List Name) (t : Bool) (p q r s pq rs all : Option Break)
    → declared ≡ declared_names (scope_view o) → header ≡ header_names (scope_view o) → t ≡ has_other_result o.kind o.outcome
    → Least p (AgainIn N3 declared) → Least q (AgainIn N3 header) → Least r (Among (OwnName t o.name.symbol) declared) → Least s (Among ComponentAgain o.types.items)
    → pq ≡ earlier_of p q → rs ≡ earlier_of r s → all ≡ earlier_of pq rs
    → Least all (DeclaredTwice (scope_view o))
least_twice o declared header t p q r s pq rs all e f g lp lq lr ls ep er ea =
    subst (λ found. Least found (DeclaredTwice (scope_view o))) (sym (ea ∙ ap (λ w. earlier_of w rs) ep ∙ ap (earlier_of (earlier_of p q)) er))
    (least_same (least_both (least_both lp lq) (least_both lr ls)) to from)
  where
    owns : List Own
    owns = map own_view o.declared.items

    to : (x : Break) → (AgainIn N3 declared x ⊎ AgainIn N3 header x) ⊎ (Among (OwnName t o.name.symbol) declared x ⊎ Among ComponentAgain o.types.items x) → DeclaredTwice (scope_view o) x
    to x (inl (inl (later, again, is))) = DeclaredTwice.in_declarations later (subst (λ l. Again l later) e again) is
    to x (inl (inr (later, again, is))) = DeclaredTwice.in_header later (subst (λ l. Again l later) f again) is
    to x (inr (inl (n, here, (test, is)))) =
        let w = and_parts t (n.symbol == o.name.symbol) test in
        let d = seen_of (λ (d : Own). d.name) owns n (subst (λ l. Contains l n) e here) in
        DeclaredTwice.own_name d.0 (result_of o.kind o.outcome (sym g ∙ w.0)) d.1 (ap (λ (m : Name). m.symbol) (sym d.2) ∙ eqb-true n.symbol o.name.symbol w.1) (is ∙ ap (at N3) d.2)
    to x (inr (inr (parts, here, (later, again, is)))) = DeclaredTwice.component (parts_of parts) later (seen_in parts_of o.types.items parts here) again is

    from : (x : Break) → DeclaredTwice (scope_view o) x → (AgainIn N3 declared x ⊎ AgainIn N3 header x) ⊎ (Among (OwnName t o.name.symbol) declared x ⊎ Among ComponentAgain o.types.items x)
    from x (DeclaredTwice.in_declarations later again is) = inl (inl (later, subst (λ l. Again l later) (sym e) again, is))
    from x (DeclaredTwice.in_header later again is) = inl (inr (later, subst (λ l. Again l later) (sym f) again, is))
    from x (DeclaredTwice.own_name d other here same is) =
        inr (inl (d.name, subst (λ l. Contains l d.name) (sym e) (seen_in (λ (d : Own). d.name) owns d here), (and_from t (d.name.symbol == o.name.symbol) (g ∙ result_in o.kind o.outcome other) (eq-eqb d.name.symbol o.name.symbol same), is)))
    from x (DeclaredTwice.component parts later here again is) =
        let v = seen_of parts_of o.types.items parts here in
        inr (inr (v.0, v.1, (later, subst (λ ps. Again (component_names ps) later) v.2 again, is)))

-- ---- access

pub least_outside : (o : Outline) (t : Bool) (p q all : Option Break) → t ≡ not (is_module o.kind)
    → Least p (Among (StatementOutside t) o.accesses.items) → Least q (Among (AttributeOutside t) o.access_attributes.items) → all ≡ earlier_of p q
    → Least all (AccessOutside (scope_view o))
least_outside o t p q all g lp lq ea = subst (λ found. Least found (AccessOutside (scope_view o))) (sym ea) (least_same (least_both lp lq) to from)
  where
    to : (x : Break) → Among (StatementOutside t) o.accesses.items x ⊎ Among (AttributeOutside t) o.access_attributes.items x → AccessOutside (scope_view o) x
    to x (inl (s, here, (test, is))) = AccessOutside.statement (listed_view s) (outside_of o.kind (sym g ∙ test)) (seen_in listed_view o.accesses.items s here) is
    to x (inr (place, here, (test, is))) = AccessOutside.attribute place (outside_of o.kind (sym g ∙ test)) here is

    from : (x : Break) → AccessOutside (scope_view o) x → Among (StatementOutside t) o.accesses.items x ⊎ Among (AttributeOutside t) o.access_attributes.items x
    from x (AccessOutside.statement s kind here is) =
        let v = seen_of listed_view o.accesses.items s here in
        inl (v.0, v.1, (g ∙ outside_in o.kind kind, is ∙ ap (λ (l : Listed). at_keyword N5 l.place) v.2))
    from x (AccessOutside.attribute place kind here is) = inr (place, here, (g ∙ outside_in o.kind kind, is))

pub least_given : (o : Outline) (p q r pq all : Option Break)
    → Least p (AgainIn N6 o.given.items) → Least q (Among ComponentsTwice o.types.items) → Least r (DefaultIn o.kind (map listed_view o.accesses.items))
    → pq ≡ earlier_of p q → all ≡ earlier_of pq r
    → Least all (AccessTwice (scope_view o))
least_given o p q r pq all lp lq lr ep ea =
    subst (λ found. Least found (AccessTwice (scope_view o))) (sym (ea ∙ ap (λ w. earlier_of w r) ep)) (least_same (least_both (least_both lp lq) lr) to from)
  where
    to : (x : Break) → (AgainIn N6 o.given.items x ⊎ Among ComponentsTwice o.types.items x) ⊎ DefaultIn o.kind (map listed_view o.accesses.items) x → AccessTwice (scope_view o) x
    to x (inl (inl (later, again, is))) = AccessTwice.to_name later again is
    to x (inl (inr (parts, here, (c, inside, (test, is))))) =
        AccessTwice.to_component (parts_of parts) (part_view c) (seen_in parts_of o.types.items parts here) (seen_in part_view parts.items c inside) (two_of c.accesses.items test) is
    to x (inr (later, kind, again, is)) = AccessTwice.of_module later kind again is

    from : (x : Break) → AccessTwice (scope_view o) x → (AgainIn N6 o.given.items x ⊎ Among ComponentsTwice o.types.items x) ⊎ DefaultIn o.kind (map listed_view o.accesses.items) x
    from x (AccessTwice.to_name later again is) = inl (inl (later, again, is))
    from x (AccessTwice.to_component parts c here inside two is) =
        let v = seen_of parts_of o.types.items parts here in
        let w = seen_of part_view v.0.items c (subst (λ l. Contains l c) v.2 inside) in
        inl (inr (v.0, v.1, (w.0, w.1, (ap (λ (d : Part). nat_lt 1 (length d.accesses)) (sym w.2) ∙ two_in c.accesses two, is ∙ ap (λ (d : Part). at N6 d.name) w.2))))
    from x (AccessTwice.of_module later kind again is) = inr (later, kind, again, is)

-- ---- PROTECTED

variable_in : (owns : List Own) (n : Name) → (d : Own) × Contains owns d × (is_variable d.kind ≡ true) × (d.name.symbol ≡ n.symbol) → is_known (symbols (flat_map variable_name owns)) n ≡ true
variable_in owns n (d, here, kind, same) =
    known_in (flat_map variable_name owns) n (d.name, contains_of (flat_map variable_name owns) d.name (has_piece variable_name owns d d.name (has_of owns d here) (one_in (is_variable d.kind) d.name d.name kind refl)), same)

variable_from : (owns : List Own) (n : Name) → is_known (symbols (flat_map variable_name owns)) n ≡ true → (d : Own) × Contains owns d × (is_variable d.kind ≡ true) × (d.name.symbol ≡ n.symbol)
variable_from owns n t =
    let m = known_of (flat_map variable_name owns) n t in
    let d = piece_of variable_name owns m.0 (has_of (flat_map variable_name owns) m.0 m.1) in
    let one = one_of (is_variable d.0.kind) m.0 d.0.name d.2 in
    (d.0, contains_of owns d.0 d.1, one.0, ap (λ (w : Name). w.symbol) (sym one.1) ∙ m.2)

protecting_of : (o : Outline) (n : Name) → Has (o.protects.items ++ flat_map protected_name (map own_view o.declared.items)) n → IsProtecting (scope_view o) n
protecting_of o n h = elim (has_parts o.protects.items (flat_map protected_name (map own_view o.declared.items)) n h) [
  | inl a ↦ IsProtecting.in_statement (contains_of o.protects.items n a)
  | inr a ↦
      let d = piece_of protected_name (map own_view o.declared.items) n a in
      let one = one_of d.0.is_protected n d.0.name d.2 in
      IsProtecting.as_attribute d.0 (contains_of (map own_view o.declared.items) d.0 d.1) one.0 one.1
]

protecting_in : (o : Outline) (n : Name) → IsProtecting (scope_view o) n → Has (o.protects.items ++ flat_map protected_name (map own_view o.declared.items)) n
protecting_in o n (IsProtecting.in_statement h) = has_left o.protects.items (flat_map protected_name (map own_view o.declared.items)) n (has_of o.protects.items n h)
protecting_in o n (IsProtecting.as_attribute d here t e) =
    has_right o.protects.items (flat_map protected_name (map own_view o.declared.items)) n
    (has_piece protected_name (map own_view o.declared.items) d n (has_of (map own_view o.declared.items) d here) (one_in d.is_protected n d.name t e))

pub least_protected : (o : Outline) (variables names : List Name) (keys : List ℕ) (t : Bool) (all : Option Break)
    → variables ≡ flat_map variable_name (map own_view o.declared.items) → keys ≡ symbols variables
    → names ≡ o.protects.items ++ flat_map protected_name (map own_view o.declared.items) → t ≡ not (is_module o.kind)
    → Least all (Among (Misprotected t keys) names)
    → Least all (ProtectedMisplaced (scope_view o))
least_protected o variables names keys t all e f h g l = least_same l to from
  where
    owns : List Own
    owns = map own_view o.declared.items

    known : (n : Name) → is_known keys n ≡ is_known (symbols (flat_map variable_name owns)) n
    known n = ap (λ ks. is_known ks n) (f ∙ ap symbols e)

    to : (x : Break) → Among (Misprotected t keys) names x → ProtectedMisplaced (scope_view o) x
    to x (n, here, (test, is)) = (
      n,
      protecting_of o n (has_of (o.protects.items ++ flat_map protected_name owns) n (subst (λ l. Contains l n) h here)),
      elim (either_of t (not (is_known keys n)) test) [
        | inl outside ↦ inl (outside_of o.kind (sym g ∙ outside))
        | inr none ↦ inr (λ d. no_of (is_known keys n) none (known n ∙ variable_in owns n (d.0, d.1, ap is_variable d.2, d.3)))
      ],
      is,
    )

    from : (x : Break) → ProtectedMisplaced (scope_view o) x → Among (Misprotected t keys) names x
    from x (n, protecting, wrong, is) = (
      n,
      subst (λ l. Contains l n) (sym h) (contains_of (o.protects.items ++ flat_map protected_name owns) n (protecting_in o n protecting)),
      (
        elim wrong [
          | inl outside ↦ either_left t (not (is_known keys n)) (g ∙ outside_in o.kind outside)
          | inr none ↦ either_right t (not (is_known keys n)) (no_in (is_known keys n) (λ so. let d = variable_from owns n (sym (known n) ∙ so) in none (d.0, d.1, variable_of d.0.kind d.2, d.3)))
        ],
        is,
      ),
    )

-- ---- INTENT

pub least_intent : (o : Outline) (keys : List ℕ) (t : Bool) (part : List Declared) (all : Option Break)
    → keys ≡ symbols o.dummies.items → t ≡ is_function o.kind → map own_view part ≡ specified (scope_view o)
    → Least all (Among (λ d. Misintended t keys (own_view d)) part)
    → Least all (IntentMisplaced (scope_view o))
least_intent o keys t part all f g e l = least_same l to from
  where
    known : (d : Own) → is_known keys d.name ≡ is_known (symbols o.dummies.items) d.name
    known d = ap (λ ks. is_known ks d.name) f

    dummy_of : (d : Own) → is_known keys d.name ≡ true → IsDummy (scope_view o) d.name.symbol
    dummy_of d so = known_of o.dummies.items d.name (sym (known d) ∙ so)

    dummy_in : (d : Own) → IsDummy (scope_view o) d.name.symbol → is_known keys d.name ≡ true
    dummy_in d h = known d ∙ known_in o.dummies.items d.name h

    wrong : (x : Break) (d : Own) → Contains (specified (scope_view o)) d → (k : Bool) → is_known keys d.name ≡ k → is_misplaced k t d.intents ≡ true → x ≡ at N9 d.name → IntentMisplaced (scope_view o) x
    wrong x d here true so test is = elim (either_of (length d.intents == 0) (t && list_any is_other d.intents) test) [
      | inl none ↦ IntentMisplaced.missing d here (dummy_of d so) (empty_of d.intents none) is
      | inr both ↦
          let w = and_parts t (list_any is_other d.intents) both in
          let i = any_of is_other d.intents w.1 in
          IntentMisplaced.of_function d i.0 here (dummy_of d so) (function_of o.kind (sym g ∙ w.0)) (contains_of d.intents i.0 i.1) (other_of i.0 i.2) is
    ]
    wrong x d here false unknown test is = IntentMisplaced.elsewhere d here (λ h. true≢false (sym (dummy_in d h) ∙ unknown)) (filled_of d.intents test) is

    found : (x : Break) (d : Own) → Contains (specified (scope_view o)) d → is_misplaced (is_known keys d.name) t d.intents ≡ true → x ≡ at N9 d.name → Among (λ d. Misintended t keys (own_view d)) part x
    found x d here test is = among_viewed own_view (Misintended t keys) part x (d, subst (λ l. Contains l d) (sym e) here, (test, is))

    to : (x : Break) → Among (λ d. Misintended t keys (own_view d)) part x → IntentMisplaced (scope_view o) x
    to x (d, here, (test, is)) = wrong x (own_view d) (subst (λ l. Contains l (own_view d)) e (seen_in own_view part d here)) (is_known keys d.name) refl test is

    from : (x : Break) → IntentMisplaced (scope_view o) x → Among (λ d. Misintended t keys (own_view d)) part x
    from x (IntentMisplaced.missing d here dummy none is) =
        found x d here (ap (λ k. is_misplaced k t d.intents) (dummy_in d dummy) ∙ either_left (length d.intents == 0) (t && list_any is_other d.intents) (empty_in d.intents none)) is
    from x (IntentMisplaced.elsewhere d here never some is) =
        found x d here (ap (λ k. is_misplaced k t d.intents) (unknown (is_known keys d.name) refl) ∙ filled_in d.intents some) is
      where
        unknown : (k : Bool) → is_known keys d.name ≡ k → k ≡ false
        unknown true so = absurd (never (dummy_of d so))
        unknown false so = refl
    from x (IntentMisplaced.of_function d i here dummy kind inside other is) =
        found x d here
        (ap (λ k. is_misplaced k t d.intents) (dummy_in d dummy)
        ∙ either_right (length d.intents == 0) (t && list_any is_other d.intents) (and_from t (list_any is_other d.intents) (g ∙ ap is_function kind) (any_from is_other d.intents i (has_of d.intents i inside) (other_in i other))))
        is

-- ---- what is not declared

pub least_undeclared : (o : Outline) (declared names : List Name) (keys : List ℕ) (all : Option Break)
    → declared ≡ declared_names (scope_view o) → names ≡ o.dummies.items ++ option_to_list o.result → keys ≡ symbols declared
    → Least all (Among (Missing keys) names)
    → Least all (Undeclared (scope_view o))
least_undeclared o declared names keys all e h f l = least_same l to from
  where
    owns : List Own
    owns = map own_view o.declared.items

    known : (n : Name) → is_known keys n ≡ is_known (symbols (declared_names (scope_view o))) n
    known n = ap (λ ks. is_known ks n) (f ∙ ap symbols e)

    declares_of : (n : Name) → is_known keys n ≡ true → Declares (scope_view o) n.symbol
    declares_of n so =
        let m = known_of (declared_names (scope_view o)) n (sym (known n) ∙ so) in
        let d = seen_of (λ (d : Own). d.name) owns m.0 m.1 in
        (d.0, d.1, ap (λ (w : Name). w.symbol) (sym d.2) ∙ m.2)

    declares_in : (n : Name) → Declares (scope_view o) n.symbol → is_known keys n ≡ true
    declares_in n (d, here, same) = known n ∙ known_in (declared_names (scope_view o)) n (d.name, seen_in (λ (d : Own). d.name) owns d here, same)

    to : (x : Break) → Among (Missing keys) names x → Undeclared (scope_view o) x
    to x (n, here, (test, is)) = (
      n,
      elim (has_parts o.dummies.items (option_to_list o.result) n (has_of (o.dummies.items ++ option_to_list o.result) n (subst (λ l. Contains l n) h here))) [
        | inl a ↦ inl (contains_of o.dummies.items n a)
        | inr a ↦ inr (some_of o.result n a)
      ],
      (λ d. no_of (is_known keys n) test (declares_in n d)),
      is,
    )

    from : (x : Break) → Undeclared (scope_view o) x → Among (Missing keys) names x
    from x (n, header, none, is) = (
      n,
      subst (λ l. Contains l n) (sym h) (contains_of (o.dummies.items ++ option_to_list o.result) n (elim header [
        | inl a ↦ has_left o.dummies.items (option_to_list o.result) n (has_of o.dummies.items n a)
        | inr a ↦ has_right o.dummies.items (option_to_list o.result) n (some_in o.result n a)
      ])),
      (no_in (is_known keys n) (λ so. none (declares_of n so)), is),
    )

-- ---- a scope, and all

pub least_scope : (scope : Scope) (p q r s t u qr qrs qrst pt all : Option Break)
    → Least p (DeclaredTwice scope) → Least q (AccessOutside scope) → Least r (AccessTwice scope) → Least s (ProtectedMisplaced scope) → Least t (IntentMisplaced scope) → Least u (Undeclared scope)
    → qr ≡ earlier_of q r → qrs ≡ earlier_of qr s → qrst ≡ earlier_of qrs t → pt ≡ earlier_of p qrst → all ≡ earlier_of pt u
    → Least all (BreaksOf scope)
least_scope scope p q r s t u qr qrs qrst pt all lp lq lr ls lt lu e f g h ea =
    let whole : all ≡ earlier_of (earlier_of p (earlier_of (earlier_of (earlier_of q r) s) t)) u =
    ea ∙ ap (λ w. earlier_of w u) (h ∙ ap (earlier_of p) (g ∙ ap (λ w. earlier_of w t) (f ∙ ap (λ w. earlier_of w s) e))) in
    subst (λ found. Least found (BreaksOf scope)) (sym whole) (least_same (least_both (least_both lp (least_both (least_both (least_both lq lr) ls) lt)) lu) to from)
  where
    to : (x : Break) → (DeclaredTwice scope x ⊎ (((AccessOutside scope x ⊎ AccessTwice scope x) ⊎ ProtectedMisplaced scope x) ⊎ IntentMisplaced scope x)) ⊎ Undeclared scope x → BreaksOf scope x
    to x (inl (inl a)) = BreaksOf.declared_twice a
    to x (inl (inr (inl (inl (inl a))))) = BreaksOf.access_outside a
    to x (inl (inr (inl (inl (inr a))))) = BreaksOf.access_twice a
    to x (inl (inr (inl (inr a)))) = BreaksOf.protected_misplaced a
    to x (inl (inr (inr a))) = BreaksOf.intent_misplaced a
    to x (inr a) = BreaksOf.undeclared a

    from : (x : Break) → BreaksOf scope x → (DeclaredTwice scope x ⊎ (((AccessOutside scope x ⊎ AccessTwice scope x) ⊎ ProtectedMisplaced scope x) ⊎ IntentMisplaced scope x)) ⊎ Undeclared scope x
    from x (BreaksOf.declared_twice a) = inl (inl a)
    from x (BreaksOf.access_outside a) = inl (inr (inl (inl (inl a))))
    from x (BreaksOf.access_twice a) = inl (inr (inl (inl (inr a))))
    from x (BreaksOf.protected_misplaced a) = inl (inr (inl (inr a)))
    from x (BreaksOf.intent_misplaced a) = inl (inr (inr a))
    from x (BreaksOf.undeclared a) = inr a

pub least_scopes : (outlines : List Outline) (all : Option Break) → Least all (Among (λ o. BreaksOf (scope_view o)) outlines) → Least all (ScopeBreaks (map scope_view outlines))
least_scopes outlines all l = least_same l (among_views scope_view BreaksOf outlines) (among_viewed scope_view BreaksOf outlines)
