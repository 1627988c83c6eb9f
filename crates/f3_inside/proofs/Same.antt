-- States that say the same.
use Rattle.std.proofs.Common.{◌≡◌, ℕ, List, length, map, Bor, refl, sym, ap, ◌∙◌, subst}
use Rattle.std.specs.Global.{Vec}
use Rattle.std.proofs.Math.Path.{fun_ext}
use Rattle.f3_program.specs.declared.expression.Name.{Name}
use Rattle.f3_program.specs.declared.expression.Name.TheVariants.{Lent}
use Rattle.f3_kinds.specs.Things.{map_or, Context}
use Rattle.f3_type_rules.specs.Definitions.{Site}
use Rattle.f3_sites.specs.Sites.{site_of}
use Rattle.f3_associates.specs.Known.{IsSettled}
use Rattle.f3_elaboration.specs.Context.{Surroundings}
use Rattle.f3_numbers.specs.Table.{object_at, procedure_at, type_at}
use Rattle.f3_inside.specs.declared.state.State.{State}
use Rattle.f3_inside.specs.Standing.{state_of, IsSame}

abbrev made : Context → (ℕ → Name) → (ℕ → ℕ) → (ℕ → ℕ) → ℕ → List (List ℕ) → Surroundings
made c o p t l x = record { context = c; object = o; procedure = p; type = t; lent = l; texts = x }

pub all_same : (c c' : Context) (o o' : ℕ → Name) (p p' t t' : ℕ → ℕ) (l l' : ℕ) (x x' : List (List ℕ))
    → c ≡ c' → ((e : ℕ) → o e ≡ o' e) → ((e : ℕ) → p e ≡ p' e) → ((e : ℕ) → t e ≡ t' e) → l ≡ l' → x ≡ x' → made c o p t l x ≡ made c' o' p' t' l' x'
all_same c c' o o' p p' t t' l l' x x' hc ho hp ht hl hx =
    ap (λ y. made y o p t l x) hc
    ∙ ap (λ y. made c' y p t l x) (fun_ext ho)
    ∙ ap (λ y. made c' o' y t l x) (fun_ext hp)
    ∙ ap (λ y. made c' o' p' y l x) (fun_ext ht)
    ∙ ap (λ y. made c' o' p' t' y x) hl
    ∙ ap (λ y. made c' o' p' t' l' y) hx

abbrev pub texts_of : Bor (List (Vec ℕ)) → List (List ℕ)
texts_of x = map (λ (t : Vec ℕ). t.items) x.now

pub same_state : (a b : State) → IsSame a b → state_of a ≡ state_of b
same_state a b h =
    all_same (site_of a.site).context (site_of b.site).context (object_at a.numbers) (object_at b.numbers) (procedure_at a.numbers) (procedure_at b.numbers)
    (type_at a.numbers) (type_at b.numbers) (length a.lent.items) (length b.lent.items) (texts_of a.texts) (texts_of b.texts)
    (ap (λ (s : Site). s.context) h.site) (λ e. ap (map_or (Lent 0) (λ (x : Name). x)) (h.objects e)) (λ e. ap (map_or 0 (λ (n : ℕ). n)) (h.procedures e))
    (λ e. ap (map_or 0 (λ (n : ℕ). n)) (h.types e)) (ap length h.lent) (ap texts_of h.texts)

pub same_settled : (a b : State) → IsSame a b → IsSettled (site_of b.site) → IsSettled (site_of a.site)
same_settled a b h k = subst IsSettled (sym h.site) k

pub same : (s : State) → IsSame s s
same s = record { site = refl; room = refl; objects = λ e. refl; procedures = λ e. refl; types = λ e. refl; lent = refl; texts = refl }

pub same_trans : (a b c : State) → IsSame a b → IsSame b c → IsSame a c
same_trans a b c h k = record {
  site = h.site ∙ k.site;
  room = h.room ∙ k.room;
  objects = λ e. h.objects e ∙ k.objects e;
  procedures = λ e. h.procedures e ∙ k.procedures e;
  types = λ e. h.types e ∙ k.types e;
  lent = h.lent ∙ k.lent;
  texts = h.texts ∙ k.texts;
}
