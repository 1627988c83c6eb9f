-- What is known inside of a construct, and again outside of it.
use Rattle.std.proofs.Common.{◌≡◌, ℕ, ◌+◌, List, ◌++◌, length, map, take, position, nat_eq, Option, None, Some, IsSome, refl, sym, ap, subst, ◌∙◌}
use Rattle.std.specs.List.{flat_map}
use Rattle.std.specs.Map.{lookup}
use Rattle.std.proofs.Math.Path.{fun_ext}
use Rattle.std.proofs.lemmas.List.{length-append, length-map}
use Rattle.f3_access.specs.Tables.{lookup_of}
use Rattle.f3_tree.specs.Statements.{AssociationTree}
use Rattle.f3_program.specs.declared.expression.Name.{Name}
use Rattle.f3_program.specs.declared.expression.Name.TheVariants.{Lent}
use Rattle.f3_kinds.specs.declared.said.Said.{Said}
use Rattle.f3_kinds.specs.Things.{map_or}
use Rattle.f3_type_rules.specs.Associates.{associated, associate_nature, context_inside, site_inside}
use Rattle.f3_type_rules.specs.Definitions.{Site}
use Rattle.f3_sites.specs.Sites.{site_of}
use Rattle.f3_associates.specs.Known.{IsSettled}
use Rattle.f3_associates.specs.Standing.{standing_of, back, room_of, HaveRoom}
use Rattle.f3_elaboration.specs.Context.{object_inside, inside}
use Rattle.f3_numbers.specs.Table.{object_in, procedure_in, type_in, object_at, procedure_at, type_at}
use Rattle.f3_inside.specs.declared.inside.Outside.{Outside}
use Rattle.f3_inside.specs.declared.state.State.{State}
use Rattle.f3_inside.specs.Standing.{state_of, IsSame}
use Rattle.f3_inside.specs.Entities.{entity_at}
use Rattle.f3_inside.specs.Exchanged.{put_all, lent_from}
use Rattle.f3_inside.specs.Outside.{IsLeft, Leads}
use Rattle.f3_inside.proofs.Exchanged.{lent_all, named}
use Rattle.f3_inside.proofs.Same.{all_same, texts_of}

-- ---- entered

pub entered : (old new : State) (number : ℕ) (xs : List AssociationTree) → site_of new.site ≡ site_inside number xs (site_of old.site)
    → ((e : ℕ) → object_in new.numbers e ≡ put_all (lent_from (length old.lent.items) (map (entity_at (lookup_of old.site.known.tables.now) number) xs)) (object_in old.numbers) e)
    → ((e : ℕ) → procedure_in new.numbers e ≡ procedure_in old.numbers e) → ((e : ℕ) → type_in new.numbers e ≡ type_in old.numbers e)
    → new.lent.items ≡ old.lent.items ++ map (entity_at (lookup_of old.site.known.tables.now) number) xs → new.texts ≡ old.texts
    → state_of new ≡ inside (state_of old) number xs
entered old new number xs site objects procedures types lent texts =
    let es : List ℕ = map (entity_at (lookup_of old.site.known.tables.now) number) xs in
    let c = (site_of old.site).context in
    all_same (site_of new.site).context (context_inside number (flat_map (associated c number) xs) c) (object_at new.numbers) (object_inside (state_of old) es)
    (procedure_at new.numbers) (procedure_at old.numbers) (type_at new.numbers) (type_at old.numbers) (length new.lent.items) (length old.lent.items + length xs)
    (texts_of new.texts) (texts_of old.texts)
    (ap (λ (s : Site). s.context) site)
    (λ e. ap (map_or (Lent 0) (λ (x : Name). x)) (objects e ∙ lent_all es (length old.lent.items) (object_in old.numbers) e) ∙ named (object_in old.numbers e) (length old.lent.items) (position (nat_eq e) es))
    (λ e. ap (map_or 0 (λ (n : ℕ). n)) (procedures e))
    (λ e. ap (map_or 0 (λ (n : ℕ). n)) (types e))
    (ap length lent ∙ length-append old.lent.items es ∙ ap (λ k. length old.lent.items + k) (length-map xs (entity_at (lookup_of old.site.known.tables.now) number)))
    (ap texts_of texts)

inside_some : (s : Site) (e : ℕ) (o : Option Said) → IsSome ((s.context).nature e) → IsSome (map_or ((s.context).nature e) (λ d. Some (associate_nature d)) o)
inside_some s e None h = h
inside_some s e (Some d) h = refl

pub inside_settled : (s s' : Site) (n : ℕ) (xs : List AssociationTree) → s' ≡ site_inside n xs s → IsSettled s → IsSettled s'
inside_settled s s' n xs e h = subst IsSettled (sym e) (λ scope symbol x l. inside_some s x (lookup (nat_eq x) (flat_map (associated s.context n) xs)) (h scope symbol x l))

-- ---- left

pub left_same : (o : Outside) (now inner inside outer : State) → IsLeft o now inner → IsSame inner inside → Leads o inside outer → IsSame now outer
left_same o now inner inside outer l s d = record {
  site = l.site ∙ ap (back o.saved) s.site ∙ d.site;
  room = l.room ∙ s.room ∙ d.room;
  objects = λ e. l.objects e ∙ ap (λ (f : ℕ → Option Name). put_all o.names.items f e) (fun_ext s.objects) ∙ d.objects e;
  procedures = λ e. l.procedures e ∙ s.procedures e ∙ d.procedures e;
  types = λ e. l.types e ∙ s.types e ∙ d.types e;
  lent = l.lent ∙ ap (take o.lent) s.lent ∙ d.lent;
  texts = l.texts ∙ s.texts ∙ d.texts;
}

pub room_left : (o : Outside) (inner inside outer : State) → IsSame inner inside → Leads o inside outer → HaveRoom (room_of inner.site) (map standing_of o.saved.standing.items)
room_left o inner inside outer s d = subst (λ (r : ℕ × ℕ). HaveRoom r (map standing_of o.saved.standing.items)) (sym (s.room ∙ d.room)) d.held
