-- What stands at the associate names of a construct is what the construct makes of the site.
use Rattle.std.proofs.Common.{◌≡◌, ℕ, ◌<◌, refl, Bool, true, false, nat_eq, List, [], ◌∷◌, map, length, Option, None, Some, IsSome, sym, ap, ◌∙◌, cond}
use Rattle.std.specs.Prelude.{if◌then◌else◌, slice_get}
use Rattle.std.specs.List.{flat_map}
use Rattle.std.specs.Map.{lookup}
use Rattle.std.specs.Option.{option_map}
use Rattle.std.proofs.Math.Path.{fun_ext}
use Rattle.std.proofs.lemmas.Bool.{eqb-true, eq-eqb}
use Rattle.std.proofs.lemmas.Option.{slice_get_within}
use Rattle.std.proofs.lemmas.List.Elements.{All-map, All-weaker, All-same}
use Rattle.f3_kinds.specs.declared.said.Said.{Said}
use Rattle.f3_kinds.specs.declared.things.Thing.{Thing}
use Rattle.f3_kinds.specs.Things.{map_or, Nature}
use Rattle.f3_typed_parts.specs.Known.{nature_of}
use Rattle.f3_tree.specs.Statements.{AssociationTree}
use Rattle.f3_type_rules.specs.declared.definition.Holder.{Holder}
use Rattle.f3_type_rules.specs.Definitions.{Chain, Site}
use Rattle.f3_type_rules.specs.Associates.{associate_nature, associate_chain, associated, site_inside}
use Rattle.f3_sites.specs.declared.site.Site.{Site as Place}
use Rattle.f3_sites.specs.Sites.{site_of}
use Rattle.f3_associates.specs.Known.{AreKnown}
use Rattle.f3_associates.specs.Standing.{Standing, put, put_all, in_scope, room_of, HasRoom, HaveRoom}
use Rattle.f3_associates.specs.Inner.Laid.{laid}

-- ---- what is found first, put last

chosen : {Y : Type 0} (m e : ℕ) (d : Said) (r : Option Said) (y : Y) (f : ℕ → Said → Y) (b c : Bool) → c ≡ b → (b ≡ true → m ≡ e)
    → (if c then f m d else map_or y (f e) r) ≡ map_or y (f e) (cond b (Some d) r)
chosen m e d r y f true c s q = rw s (ap (λ x. f x d) (q refl))
chosen m e d r y f false c s q = rw s refl

turned : (m e : ℕ) (b c : Bool) → nat_eq m e ≡ c → nat_eq e m ≡ b → c ≡ b
turned m e true true p q = refl
turned m e false false p q = refl
turned m e true false p q = sym p ∙ eq-eqb m e (sym (eqb-true e m q))
turned m e false true p q = sym (eq-eqb e m (sym (eqb-true m e p))) ∙ q

choice : {Y : Type 0} (m e : ℕ) (d : Said) (r : Option Said) (y : Y) (f : ℕ → Said → Y)
    → (if nat_eq m e then f m d else map_or y (f e) r) ≡ map_or y (f e) (cond (nat_eq e m) (Some d) r)
choice m e d r y f = chosen m e d r y f (nat_eq e m) (nat_eq m e) (turned m e (nat_eq e m) (nat_eq m e) refl refl) (λ t. sym (eqb-true e m t))

abbrev over : (ℕ → Option Nature) → (ℕ → Option Holder) → (ℕ → Chain) → Site → Site
over n h k s = record s { context = record (s.context) { nature = n }; holder = h; chain = k }

pub laid_all : (g : ℕ → Chain) (ns : List (ℕ × Said)) (s : Site) → put_all (map (laid g) ns) s
    ≡ over (λ e. map_or ((s.context).nature e) (λ d. Some (associate_nature d)) (lookup (nat_eq e) ns))
    (λ e. map_or (s.holder e) (λ d. None) (lookup (nat_eq e) ns))
    (λ e. map_or (s.chain e) (associate_chain g e) (lookup (nat_eq e) ns)) s
laid_all g [] s = refl
laid_all g (n ∷ ns) s =
    ap (put (laid g n)) (laid_all g ns s)
    ∙ ap (λ x. over x (λ e. if nat_eq n.0 e then None else map_or (s.holder e) (λ d. None) (lookup (nat_eq e) ns)) (λ e. if nat_eq n.0 e then associate_chain g n.0 n.1 else map_or (s.chain e) (associate_chain g e) (lookup (nat_eq e) ns)) s)
    (fun_ext (λ e. choice n.0 e n.1 (lookup (nat_eq e) ns) ((s.context).nature e) (λ m d. Some (associate_nature d))))
    ∙ ap (λ x. over (λ e. map_or ((s.context).nature e) (λ d. Some (associate_nature d)) (lookup (nat_eq e) (n ∷ ns))) x (λ e. if nat_eq n.0 e then associate_chain g n.0 n.1 else map_or (s.chain e) (associate_chain g e) (lookup (nat_eq e) ns)) s)
    (fun_ext (λ e. choice n.0 e n.1 (lookup (nat_eq e) ns) (s.holder e) (λ m d. None)))
    ∙ ap (λ x. over (λ e. map_or ((s.context).nature e) (λ d. Some (associate_nature d)) (lookup (nat_eq e) (n ∷ ns))) (λ e. map_or (s.holder e) (λ d. None) (lookup (nat_eq e) (n ∷ ns))) x s)
    (fun_ext (λ e. choice n.0 e n.1 (lookup (nat_eq e) ns) (s.chain e) (λ m d. associate_chain g m d)))

pub inside_of : (g : ℕ → Chain) (ns : List (ℕ × Said)) (ks : List Standing) (s outer s' : Site) (number : ℕ) (xs : List AssociationTree)
    → s ≡ in_scope number outer → g ≡ outer.chain → ks ≡ map (laid g) ns → s' ≡ put_all ks s → ns ≡ flat_map (associated (outer.context) number) xs → s' ≡ site_inside number xs outer
inside_of g ns ks s outer s' number xs a b c d e =
    d ∙ ap (λ x. put_all x s) (c ∙ ap (λ x. map (laid x) ns) b ∙ ap (map (laid outer.chain)) e) ∙ ap (put_all (map (laid outer.chain) (flat_map (associated (outer.context) number) xs))) a
    ∙ laid_all outer.chain (flat_map (associated (outer.context) number) xs) (in_scope number outer)

-- ---- room

some_within : (o : Option Thing) (xs : List Thing) (e : ℕ) → slice_get xs e ≡ o → IsSome (option_map nature_of o) → e < length xs
some_within (Some t) xs e q h = slice_get_within xs e t q
some_within None xs e q h = let bad : false ≡ true = h in absurd (cc)

room_for : (p : Place) (g : ℕ → Chain) (n : ℕ × Said) → IsSome (((site_of p).context).nature n.0) → HasRoom (room_of p) (laid g n)
room_for p g n h = (some_within (slice_get p.known.things.items n.0) p.known.things.items n.0 refl h, λ (x : IsSome (laid g n).holder). let bad : false ≡ true = x in absurd (cc))

pub room_known : (p : Place) (room : ℕ × ℕ) (g : ℕ → Chain) (ns : List (ℕ × Said)) (ks : List Standing) → room ≡ room_of p → ks ≡ map (laid g) ns → AreKnown (site_of p) ns → HaveRoom room ks
room_known p room g ns ks r e h =
    All-same (HasRoom room) ks (map (laid g) ns) e
    (All-map (HasRoom room) (laid g) ns (All-weaker (λ (n : ℕ × Said). IsSome (((site_of p).context).nature n.0)) (λ n. HasRoom room (laid g n)) (λ n k. rw r (room_for p g n k)) ns h))
