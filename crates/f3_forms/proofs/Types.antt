-- The statement that begins a type, with the access behind a comma.
use Rattle.std.proofs.Common.{◌≡◌, List, Option, Some, None, refl, ap, subst, ◌∙◌}
use Rattle.f3_places.specs.declared.source.Place.{Place}
use Rattle.f3_tree.specs.declared.declaration.Accessibility.{Accessibility}
use Rattle.f3_tree.specs.declared.expression.Name.{Name as Identifier}
use Rattle.f3_words.specs.declared.item.Word.TheVariants.{Comma}
use Rattle.f3_words.specs.declared.item.Item.{Item}
use Rattle.f3_words.specs.Reads.{IsRead, Fails}
use Rattle.f3_reading.specs.Parts.{EatsWord}
use Rattle.f3_reading.specs.Names.{IsName}
use Rattle.f3_reading.proofs.Words.{lacked}
use Rattle.f3_declarations.specs.Specifications.{EatsTypeAccess, IsTypeBegin}
use Rattle.f3_form.specs.Forms.{FormTree, type_begins}
use Rattle.f3_forms.specs.Grammar.{IsType}

abbrev Access : Type 0
Access = Place × Accessibility

record Begun (ts : List Item) (y : FormTree) : Type 0 where
  access : Access
  name : Identifier
  rest : List Item
  is : y ≡ type_begins (Some access) name
  eats : EatsTypeAccess access ts rest
  named : IsName name rest

begun : (ts t : List Item) (y : FormTree) → EatsWord Comma ts t → IsType y ts → Begun ts y
unfolding IsType IsTypeBegin
begun ts t y comma h = by h.0 h.1 h.2 h.3
  where
    by : (a : Option Access) (n : Identifier) → IsTypeBegin a n ts → y ≡ type_begins a n → Begun ts y
    by None n k is = absurd (lacked Comma ts t k.2 comma)
    by (Some x) n k is = record { access = x; name = n; rest = k.0; is = is; eats = k.1; named = k.2 }

pub with_access : (ts t a : List Item) (x : Place × Accessibility) (n : Identifier) → EatsWord Comma ts t → IsRead EatsTypeAccess ts x a → IsName n a → ((m : Identifier) → IsName m a → m ≡ n)
    → IsType (type_begins (Some x) n) ts × ((y : FormTree) → IsType y ts → y ≡ type_begins (Some x) n)
unfolding IsType IsTypeBegin
with_access ts t a x n comma r named one = ((Some x, n, (a, r.eats, named), refl), λ y h. by (begun ts t y comma h))
  where
    by : {y : FormTree} → Begun ts y → y ≡ type_begins (Some x) n
    by b =
        let same = r.only b.access b.rest b.eats in
        let name = one b.name (subst (λ (l : List Item). IsName b.name l) same.1 b.named) in
        b.is ∙ ap (λ (v : Access). type_begins (Some v) b.name) same.0 ∙ ap (λ (v : Identifier). type_begins (Some x) v) name

pub no_access : (ts t : List Item) → EatsWord Comma ts t → Fails EatsTypeAccess ts → (y : FormTree) → IsType y ts → ⊥
no_access ts t comma none y h = let b = begun ts t y comma h in none b.access b.rest b.eats

pub no_name : (ts t a : List Item) (x : Place × Accessibility) → EatsWord Comma ts t → IsRead EatsTypeAccess ts x a → ((m : Identifier) → IsName m a → ⊥) → (y : FormTree) → IsType y ts → ⊥
no_name ts t a x comma r none y h =
    let b = begun ts t y comma h in
    none b.name (subst (λ (l : List Item). IsName b.name l) (r.only b.access b.rest b.eats).1 b.named)
