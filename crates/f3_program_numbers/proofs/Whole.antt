-- A table of numbers that was filled says what the lists say.
use Rattle.std.proofs.Common.{◌≡◌, ℕ, Option, None, Some, position, nat_eq, option_map, refl, sym, ap, ◌∙◌}
use Rattle.std.specs.Option.{option_or}
use Rattle.f3_program.specs.declared.expression.Name.TheVariants.{Static, Local, Lent}
use Rattle.f3_elaboration.specs.Numbers.{Numbers, Inner}
use Rattle.f3_numbers.specs.declared.numbers.Numbers.{Numbers as Table}
use Rattle.f3_numbers.specs.Table.{object_in, procedure_in, type_in}
use Rattle.f3_numbers.specs.Agrees.{Agrees, object_by, nothing_inside, nothing_numbered}
use Rattle.f3_program_numbers.specs.declared.entering.Entered.{Entered}
use Rattle.f3_program_numbers.specs.Filled.{with_list, without, IsInside, Undoes}

static_object : (q : Option ℕ) → option_or None (option_map Static q) ≡ object_by q None None
static_object None = refl
static_object (Some n) = refl

number_there : (q : Option ℕ) → option_or None (option_map (λ (n : ℕ). n) q) ≡ q
number_there None = refl
number_there (Some n) = refl

-- a whole program, list by list
pub filled : (empty one two three : Table) (whole : Numbers) → Agrees empty nothing_numbered nothing_inside
    → ((e : ℕ) → object_in one e ≡ with_list (object_in empty) Static whole.statics e) → ((e : ℕ) → procedure_in one e ≡ procedure_in empty e) → ((e : ℕ) → type_in one e ≡ type_in empty e)
    → ((e : ℕ) → object_in two e ≡ object_in one e) → ((e : ℕ) → procedure_in two e ≡ with_list (procedure_in one) (λ (n : ℕ). n) whole.procedures e) → ((e : ℕ) → type_in two e ≡ type_in one e)
    → ((e : ℕ) → object_in three e ≡ object_in two e) → ((e : ℕ) → procedure_in three e ≡ procedure_in two e) → ((e : ℕ) → type_in three e ≡ with_list (type_in two) (λ (n : ℕ). n) whole.types e)
    → Agrees three whole nothing_inside
filled empty one two three whole h o1 p1 t1 o2 p2 t2 o3 p3 t3 = record {
  objects = λ e.
      o3 e ∙ o2 e ∙ o1 e ∙ ap (λ o. option_or o (option_map Static (position (nat_eq e) whole.statics))) (h.objects e)
      ∙ static_object (position (nat_eq e) whole.statics);
  procedures = λ e.
      p3 e ∙ p2 e ∙ ap (λ o. option_or o (option_map (λ (n : ℕ). n) (position (nat_eq e) whole.procedures))) (p1 e ∙ h.procedures e)
      ∙ number_there (position (nat_eq e) whole.procedures);
  types = λ e.
      t3 e ∙ ap (λ o. option_or o (option_map (λ (n : ℕ). n) (position (nat_eq e) whole.types))) (t2 e ∙ t1 e ∙ h.types e)
      ∙ number_there (position (nat_eq e) whole.types);
}

-- ---- a procedure that is entered

inner_object : (q v l : Option ℕ) → option_or (option_or (object_by q None None) (option_map Local v)) (option_map Lent l) ≡ object_by q v l
inner_object (Some i) v l = refl
inner_object None (Some i) l = refl
inner_object None None None = refl
inner_object None None (Some k) = refl

pub entered : (old one two : Table) (whole : Numbers) (inner : Inner) → Agrees old whole nothing_inside
    → ((e : ℕ) → object_in one e ≡ with_list (object_in old) Local inner.variables e) → ((e : ℕ) → procedure_in one e ≡ procedure_in old e) → ((e : ℕ) → type_in one e ≡ type_in old e)
    → ((e : ℕ) → object_in two e ≡ with_list (object_in one) Lent inner.lent e) → ((e : ℕ) → procedure_in two e ≡ procedure_in one e) → ((e : ℕ) → type_in two e ≡ type_in one e)
    → Agrees two whole inner
entered old one two whole inner h o1 p1 t1 o2 p2 t2 = record {
  objects = λ e.
      let v = position (nat_eq e) inner.variables in
      let l = position (nat_eq e) inner.lent in
      o2 e ∙ ap (λ o. option_or o (option_map Lent l)) (o1 e ∙ ap (λ o. option_or o (option_map Local v)) (h.objects e))
      ∙ inner_object (position (nat_eq e) whole.statics) v l;
  procedures = λ e. p2 e ∙ p1 e ∙ h.procedures e;
  types = λ e. t2 e ∙ t1 e ∙ h.types e;
}

-- and left
pub left : (old new : Table) (x : Entered) (whole : Numbers) (inner : Inner) → Agrees old whole inner → Undoes x whole inner
    → ((e : ℕ) → object_in new e ≡ without x.added.items (object_in old) e) → ((e : ℕ) → procedure_in new e ≡ procedure_in old e) → ((e : ℕ) → type_in new e ≡ type_in old e)
    → Agrees new whole nothing_inside
left old new x whole inner h undoes o p t = record {
  objects = λ e. o e ∙ ap (λ z. without x.added.items (λ k. z) e) (h.objects e) ∙ undoes e;
  procedures = λ e. p e ∙ h.procedures e;
  types = λ e. t e ∙ h.types e;
}

-- what is inside is undone
pub undone : (old new : Table) (x : Entered) (whole : Numbers) (inner : Inner) → Agrees old whole nothing_inside → Agrees new whole inner → IsInside x new old → Undoes x whole inner
undone old new x whole inner before after h e =
    ap (λ o. without x.added.items (λ k. o) e) (sym (after.objects e)) ∙ h.objects e ∙ before.objects e
