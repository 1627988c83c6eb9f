-- The least of the breaks of one statement.
use Rattle.std.proofs.Common.{◌≡◌, Option, Some, None, ◌⊎◌, inl, inr, refl, sym, subst}
use Rattle.f3_rules.specs.declared.breaks.Break.{Break}
use Rattle.f3_rules.specs.declared.rule.Rule.TheVariants.{S5, S6, S8}
use Rattle.f3_rules.specs.Least.{Least, earlier_of}
use Rattle.f3_rules.proofs.Firsts.{least_none, least_one, least_same, least_both}
use Rattle.f3_words.specs.Lines.{Line, broken}
use Rattle.f3_form.specs.Forms.{FormTree}
use Rattle.f3_forms.specs.Grammar.{IsForm}
use Rattle.f3_units.specs.Machine.{State, step, IsDeeper}
use Rattle.f3_parse.specs.Phase.{place_of, placed_at, EachForm}
use Rattle.f3_parse.specs.Inner.Steps.{StopsAt, Deepens}

abbrev IsFault : Option Break → Break → Type 0
IsFault fault b = fault ≡ Some b

least_fault : (fault : Option Break) → Least fault (IsFault fault)
least_fault None = least_none (λ b e. cc)
least_fault (Some f) = least_one f refl (λ b e. cc)

abbrev IsEither : Option Break → Break → Break → Type 0
IsEither fault other b = (fault ≡ Some b) ⊎ (b ≡ other)

least_either : (fault : Option Break) (other b : Break) → earlier_of fault (Some other) ≡ Some b → Least (Some b) (IsEither fault other)
least_either fault other b e = subst (λ (x : Option Break). Least x (IsEither fault other)) e (least_both (least_fault fault) (least_one other refl (λ x h. h)))

abbrev Refuses : State → Line → FormTree → Type 0
Refuses s l f = step (placed_at l f) s ≡ None

abbrev Opens : State → Line → FormTree → Type 0
Opens s l f = Deepens s (placed_at l f)

pub stops_no_form : (s : State) (l : Line) (b : Break) → earlier_of l.fault (Some (broken S5 (place_of l))) ≡ Some b → ((f : FormTree) → IsForm f l.items → ⊥) → Least (Some b) (StopsAt s l)
stops_no_form s l b e none = least_same (least_either l.fault (broken S5 (place_of l)) b e) to from
  where
    to : (x : Break) → IsEither l.fault (broken S5 (place_of l)) x → StopsAt s l x
    to x (inl h) = inl h
    to x (inr h) = inr (inl (none, h))

    from : (x : Break) → StopsAt s l x → IsEither l.fault (broken S5 (place_of l)) x
    from x (inl h) = inl h
    from x (inr (inl h)) = inr h.1
    from x (inr (inr (inl h))) = absurd (none h.0.0 h.0.1)
    from x (inr (inr (inr h))) = absurd (none h.0.0 h.0.1)

-- what holds of a form holds of each, where the statement has one
each : (l : Line) (f : FormTree) (Is : FormTree → Type 0) → IsForm f l.items → ((g : FormTree) → IsForm g l.items → g ≡ f) → Is f → EachForm Is l
each l f Is is only h = (f, is, λ g k. subst Is (sym (only g k)) h)

-- a statement with which the machine does not go on, and one with which it goes on too deep
refuses_opens : (s : State) (l : Line) (f : FormTree) → Refuses s l f → Opens s l f → ⊥
refuses_opens s l f none w = absurd (let some = w.1 in cc)

pub stops_out : (s : State) (l : Line) (b : Break) (f : FormTree) → earlier_of l.fault (Some (broken S6 (place_of l))) ≡ Some b → IsForm f l.items → ((g : FormTree) → IsForm g l.items → g ≡ f) → step (placed_at l f) s ≡ None → Least (Some b) (StopsAt s l)
stops_out s l b f e is only out = least_same (least_either l.fault (broken S6 (place_of l)) b e) to from
  where
    to : (x : Break) → IsEither l.fault (broken S6 (place_of l)) x → StopsAt s l x
    to x (inl h) = inl h
    to x (inr h) = inr (inr (inl (each l f (Refuses s l) is only out, h)))

    from : (x : Break) → StopsAt s l x → IsEither l.fault (broken S6 (place_of l)) x
    from x (inl h) = inl h
    from x (inr (inl h)) = absurd (h.0 f is)
    from x (inr (inr (inl h))) = inr h.1
    from x (inr (inr (inr h))) = absurd (refuses_opens s l f out (h.0.2 f is))

pub stops_deep : (s t : State) (l : Line) (b : Break) (f : FormTree) → earlier_of l.fault (Some (broken S8 (place_of l))) ≡ Some b → IsForm f l.items → ((g : FormTree) → IsForm g l.items → g ≡ f) → step (placed_at l f) s ≡ Some t → IsDeeper s t → Least (Some b) (StopsAt s l)
stops_deep s t l b f e is only on deep = least_same (least_either l.fault (broken S8 (place_of l)) b e) to from
  where
    to : (x : Break) → IsEither l.fault (broken S8 (place_of l)) x → StopsAt s l x
    to x (inl h) = inl h
    to x (inr h) = inr (inr (inr (each l f (Opens s l) is only (t, on, deep), h)))

    from : (x : Break) → StopsAt s l x → IsEither l.fault (broken S8 (place_of l)) x
    from x (inl h) = inl h
    from x (inr (inl h)) = absurd (h.0 f is)
    from x (inr (inr (inl h))) = absurd (refuses_opens s l f (h.0.2 f is) (t, on, deep))
    from x (inr (inr (inr h))) = inr h.1

-- a state to which a statement leads, and one that is too deep
not_deep : (s t : State) (l : Line) (f : FormTree) → step (placed_at l f) s ≡ Some t → (IsDeeper s t → ⊥) → Opens s l f → ⊥
not_deep s t l f on shallow w =
    let same : w.0 ≡ t = let there = w.1 in cc in
    shallow (subst (λ (x : State). IsDeeper s x) same w.2)

pub stops_fault : (s t : State) (l : Line) (b : Break) (f : FormTree) → l.fault ≡ Some b → IsForm f l.items → step (placed_at l f) s ≡ Some t → (IsDeeper s t → ⊥) → Least (Some b) (StopsAt s l)
stops_fault s t l b f e is on shallow = least_one b (inl e) only
  where
    only : (x : Break) → StopsAt s l x → x ≡ b
    only x (inl h) = cc
    only x (inr (inl h)) = absurd (h.0 f is)
    only x (inr (inr (inl h))) = absurd (let none = h.0.2 f is in cc)
    only x (inr (inr (inr h))) = absurd (not_deep s t l f on shallow (h.0.2 f is))
