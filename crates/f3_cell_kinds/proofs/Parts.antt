-- Parts of code with their sites, one behind another.
use Rattle.std.proofs.Common.{◌≡◌, ℕ, zero, suc, ◌+◌, Bool, true, List, [], ◌∷◌, ◌++◌, length, Some, refl, sym, ap, ◌∙◌, subst, arith, length-append}
use Rattle.std.specs.Prelude.{slice_get}
use Rattle.f3_program.specs.declared.declarations.Kind.{Kind}
use Rattle.f3_program.specs.declared.program.Program.{Program}
use Rattle.f3_code.specs.State.{Line}
use Rattle.f3_code.specs.Code.{Ways, farther}
use Rattle.f3_cell_kinds.specs.Types.{CellType, Scope, Around, Told, Site}
use Rattle.f3_cell_kinds.specs.Effect.{way, on, In}
use Rattle.f3_cell_kinds.specs.Kinds.{arrived, Leads, Goes, IsAt}
use Rattle.f3_cell_kinds.specs.Values.{at, stacked}

-- a site with other cells that are told of another scope
abbrev pub moved : Around → List CellType → Site → Site
moved o ys h = record { is_reached = h.is_reached; returns = h.returns; scope = o; cells = ys ++ h.cells }

pub lands : (h : Site) (xs ys : List CellType) (o : Around) (s : Site) → h.is_reached ≡ true → s ≡ stacked xs h →
    moved o ys h ≡ arrived s (record { scope = o; left = ys }) h.cells
lands h xs ys o s live is =
    subst (λ t. moved o ys h ≡ arrived t (record { scope = o; left = ys }) h.cells) (sym is)
    (ap (λ (b : Bool). record { is_reached = b; returns = h.returns; scope = o; cells = ys ++ h.cells }) live)

pub in_scope : (o : Around) (c : Scope) (f : Scope → Type 0) → o ≡ Told c → f c → In o f
in_scope o c f e x = subst (λ y. In y f) (sym e) x

-- so many go, and what is beneath stays
pub record Gone (h : List CellType) (k : ℕ) (left : List CellType) : Type 0 where
  pub gone : List CellType
  pub many : length gone ≡ k
  pub is : h ≡ gone ++ left

module _ (p : Program) (sites : ℕ → Site) where
  -- a line has this site, if that is reached
  abbrev pub At : ℕ → Site → Type 0
  At pc h = h.is_reached ≡ true → sites pc ≡ h

  -- these are the sites of the lines from this one on
  abbrev pub SitesAt : ℕ → List Site → Type 0
  SitesAt pc [] = Unit {0}
  SitesAt pc (h ∷ hs) = (sites pc ≡ h) × SitesAt (pc + 1) hs

  -- these lines, from this one on, are as their sites ask
  abbrev pub LinesAt : ℕ → List Line → Type 0
  LinesAt pc [] = Unit {0}
  LinesAt pc (l ∷ ls) = IsAt p sites pc l × LinesAt (pc + 1) ls

  pub sites_front : (pc : ℕ) (a b : List Site) → SitesAt pc (a ++ b) → SitesAt pc a
  sites_front pc [] b h = tt
  sites_front pc (x ∷ a) b h = (h.0, sites_front (pc + 1) a b h.1)

  pub sites_back : (pc : ℕ) (a b : List Site) → SitesAt pc (a ++ b) → SitesAt (pc + length a) b
  sites_back pc [] b h = let e : pc ≡ pc + 0 = omega arith in subst (λ n. SitesAt n b) e h
  sites_back pc (x ∷ a) b h =
      let e : pc + 1 + length a ≡ pc + length (x ∷ a) = omega arith in
      subst (λ n. SitesAt n b) e (sites_back (pc + 1) a b h.1)

  pub lines_on : (pc : ℕ) (a b : List Line) → LinesAt pc a → LinesAt (pc + length a) b → LinesAt pc (a ++ b)
  lines_on pc [] b h k = let e : pc + 0 ≡ pc = omega arith in subst (λ n. LinesAt n b) e k
  lines_on pc (l ∷ a) b h k =
      let e : pc + length (l ∷ a) ≡ pc + 1 + length a = omega arith in
      (h.0, lines_on (pc + 1) a b h.1 (subst (λ n. LinesAt n b) e k))

  pub line_of : (lines : List Line) (base k : ℕ) (l : Line) → LinesAt base lines → slice_get lines k ≡ Some l → IsAt p sites (base + k) l
  line_of [] base k l h e = cc
  line_of (x ∷ lines) base zero l h e =
      let same : x ≡ l = cc in let at : base ≡ base + 0 = omega arith in
      subst (λ n. IsAt p sites n l) at (subst (λ y. IsAt p sites base y) same h.0)
  line_of (x ∷ lines) base (suc k) l h e =
      let at : base + 1 + k ≡ base + suc k = omega arith in
      subst (λ n. IsAt p sites n l) at (line_of lines (base + 1) k l h.1 e)

  -- a place under another name
  pub same_site : {h : Site} (pc pc' : ℕ) → pc ≡ pc' → sites pc' ≡ h → sites pc ≡ h
  same_site pc pc' e h = ap sites e ∙ h

  pub same_at : {h : Site} (pc pc' : ℕ) → pc ≡ pc' → At pc' h → At pc h
  same_at pc pc' e h = λ live. ap sites e ∙ h live

  -- a reached line has a reached site beneath
  pub live_of : (h : Site) (xs : List CellType) (pc : ℕ) → sites pc ≡ stacked xs h → (sites pc).is_reached ≡ true → h.is_reached ≡ true
  live_of h xs pc is r = ap (λ (s : Site). s.is_reached) (sym is) ∙ r

  -- where a line leads, with its scope
  pub comes : (h : Site) (xs ys : List CellType) (pc e : ℕ) → h.is_reached ≡ true → sites pc ≡ stacked xs h → At e (stacked ys h) →
      sites e ≡ arrived (sites pc) (way (sites pc) ys) h.cells
  comes h xs ys pc e live is to =
      subst (λ o. sites e ≡ arrived (sites pc) (record { scope = o; left = ys }) h.cells) (ap (λ (s : Site). s.scope) (sym is))
      (to live ∙ lands h xs ys h.scope (sites pc) live is)

  -- A part of code with its sites, which begins with such a site; `Out` says of the line behind it, and of those to which it
  -- leads, which sites these have.
  pub record Part (Out : ℕ → Type 0) (lines : List Line) (hs : List Site) (h : Site) : Type 0 where
    pub same : length hs ≡ length lines
    pub keeps : (pc : ℕ) → SitesAt pc hs → Out (pc + length lines) → At pc h × LinesAt pc lines

  -- where more is said of what is behind
  pub wider : {Out Less : ℕ → Type 0} {lines : List Line} {hs : List Site} {h : Site} → ((e : ℕ) → Out e → Less e) → Part Less lines hs h → Part Out lines hs h
  wider f p = record { same = p.same; keeps = λ pc has out. p.keeps pc has (f _ out) }

  -- the line behind has such a site
  abbrev pub Onto : Site → ℕ → Type 0
  Onto h e = At e h

  pub nothing : (h : Site) → Part (Onto h) [] [] h
  nothing h = record { same = refl; keeps = λ pc has out. (same_at {h = h} pc (pc + 0) (omega arith) out, tt) }

  -- a part and what stands behind it, with what the part asks of that
  pub behind_with : {Out Mid In : ℕ → Type 0} {a : List Line} {ha : List Site} {h : Site} (b : List Line) (hb : List Site) → length hb ≡ length b →
      ((pc : ℕ) → SitesAt pc hb → Out (pc + length b) → In pc × LinesAt pc b) → ((e : ℕ) → In e → Out (e + length b) → Mid e) →
      Part Mid a ha h → Part Out (a ++ b) (ha ++ hb) h
  behind_with {Out = Out} {a = a} {ha = ha} b hb same keeps f p = record {
    same = omega (arith, length-append ha hb, length-append a b, p.same, same);
    keeps = λ pc has out.
        let e : pc + length (a ++ b) ≡ pc + length a + length b = omega (arith, length-append a b) in
        let out' = subst Out e out in
        let has_b = subst (λ n. SitesAt (pc + n) hb) p.same (sites_back pc ha hb has) in
        let rb = keeps (pc + length a) has_b out' in
        let ra = p.keeps pc (sites_front pc ha hb has) (f (pc + length a) rb.0 out') in
        (ra.0, lines_on pc a b ra.1 rb.1);
  }

  -- one part behind another
  pub behind : {Out Mid : ℕ → Type 0} {a b : List Line} {ha hb : List Site} {h m : Site} → ((e : ℕ) → At e m → Out (e + length b) → Mid e) →
      Part Mid a ha h → Part Out b hb m → Part Out (a ++ b) (ha ++ hb) h
  behind {b = b} {hb = hb} {m = m} f p q = behind_with {In = λ e. At e m} b hb q.same q.keeps f p

  pub seq : {Out : ℕ → Type 0} {a b : List Line} {ha hb : List Site} {h m : Site} → Part (Onto m) a ha h → Part Out b hb m → Part Out (a ++ b) (ha ++ hb) h
  seq p q = behind (λ e is out. is) p q

  -- a line before a part, which leads to what is behind it too
  pub before : {Out : ℕ → Type 0} {b : List Line} {hb : List Site} {h m : Site} (l : Line) →
      ((pc : ℕ) → sites pc ≡ h → At (pc + 1) m → Out (pc + 1 + length b) → IsAt p sites pc l) → Part Out b hb m → Part Out (l ∷ b) (h ∷ hb) h
  before {Out = Out} {b = b} l f q = record {
    same = ap suc q.same;
    keeps = λ pc has out.
        let e : pc + length (l ∷ b) ≡ pc + 1 + length b = omega arith in
        let out' = subst Out e out in
        let r = q.keeps (pc + 1) has.1 out' in
        (λ live. has.0, (f pc has.0 r.0 out', r.1));
  }

  -- a line that leads to the next one
  pub record Falls (l : Line) (h m : Site) : Type 0 where
    pub by : (pc : ℕ) → sites pc ≡ h → At (pc + 1) m → IsAt p sites pc l

  pub plain : (l : Line) (h : Site) (xs ys : List CellType) →
      ((pc : ℕ) → h.is_reached ≡ true → (sites pc).scope ≡ h.scope → Leads sites pc (on (sites pc) xs ys) → Goes p sites pc l l.act) →
      Falls l (stacked xs h) (stacked ys h)
  plain l h xs ys f = record {
    by = λ pc is next r.
        let live = live_of h xs pc is r in
        f pc live (ap (λ (s : Site). s.scope) is) (record {
          rest = h.cells;
          before = ap (λ (s : Site). s.cells) is;
          next = comes h xs ys pc (pc + 1) live is next;
          far = tt;
        });
  }

  pub first : {Out : ℕ → Type 0} {l : Line} {b : List Line} {hb : List Site} {h m : Site} → Falls l h m → Part Out b hb m → Part Out (l ∷ b) (h ∷ hb) h
  first {l = l} f q = before l (λ pc is next out. f.by pc is next) q

  pub last : {l : Line} {h m : Site} → Falls l h m → Part (Onto m) (l ∷ []) (h ∷ []) h
  last {m = m} f = first f (nothing m)

  -- such a site under another name
  pub onto_same : {lines : List Line} {hs : List Site} {h : Site} (m m' : Site) → m ≡ m' → Part (Onto m) lines hs h → Part (Onto m') lines hs h
  onto_same {lines = lines} {hs = hs} {h = h} m m' e p = subst (λ x. Part (Onto x) lines hs h) e p

  -- a line that leads elsewhere alone, or nowhere
  pub before_end : {Out : ℕ → Type 0} {h : Site} (l : Line) → ((pc : ℕ) → sites pc ≡ h → Out (pc + 1) → IsAt p sites pc l) → Part Out (l ∷ []) (h ∷ []) h
  before_end {Out = Out} l f = record {
    same = refl;
    keeps = λ pc has out. (λ live. has.0, (f pc has.0 (let e : pc + length (l ∷ []) ≡ pc + 1 = omega arith in subst Out e out), tt));
  }

  -- A line that leads to the second of two parts too, where the first goes on behind both.
  pub forked_keeps : {Out Mid : ℕ → Type 0} {a b : List Line} {ha hb : List Site} {h m n out : Site} (l j : Line) →
      ((pc : ℕ) → sites pc ≡ h → At (pc + 1) m → At (pc + 1 + (length a + 1)) n → IsAt p sites pc l) →
      ((e : ℕ) → sites e ≡ out → Out (e + 1 + length b) → Mid e) → ((e : ℕ) → sites e ≡ out → At (e + 1) n → Out (e + 1 + length b) → IsAt p sites e j) →
      Part Mid a ha m → Part Out b hb n → (pc : ℕ) → SitesAt pc (h ∷ (ha ++ (out ∷ hb))) → Out (pc + length (l ∷ (a ++ (j ∷ b)))) →
      ((sites pc ≡ h) × At (pc + 1) m) × LinesAt pc (l ∷ (a ++ (j ∷ b)))
  forked_keeps {Out = Out} {a = a} {b = b} {ha = ha} {hb = hb} {n = n} {out = out} l j f g k p q pc has outs =
      let e : pc + length (l ∷ (a ++ (j ∷ b))) ≡ pc + 1 + length a + 1 + length b = omega (arith, length-append a (j ∷ b)) in
      let outs' = subst Out e outs in
      let has_b = subst (λ n. SitesAt (pc + 1 + n) (out ∷ hb)) p.same (sites_back (pc + 1) ha (out ∷ hb) has.1) in
      let rb = q.keeps (pc + 1 + length a + 1) has_b.1 outs' in
      let ra = p.keeps (pc + 1) (sites_front (pc + 1) ha (out ∷ hb) has.1) (g (pc + 1 + length a) has_b.0 outs') in
      let second = same_at {h = n} (pc + 1 + (length a + 1)) (pc + 1 + length a + 1) (omega arith) rb.0 in
      ((has.0, ra.0), (f pc has.0 ra.0 second, lines_on (pc + 1) a (j ∷ b) ra.1 (k (pc + 1 + length a) has_b.0 rb.0 outs', rb.1)))

  pub forked_same : {Out Mid : ℕ → Type 0} {a b : List Line} {ha hb : List Site} {m n : Site} (h out : Site) (l j : Line) → Part Mid a ha m → Part Out b hb n →
      length (h ∷ (ha ++ (out ∷ hb))) ≡ length (l ∷ (a ++ (j ∷ b)))
  forked_same {a = a} {b = b} {ha = ha} {hb = hb} h out l j p q =
      omega (arith, length-append ha (out ∷ hb), length-append a (j ∷ b), p.same, q.same)

  pub forked : {Out Mid : ℕ → Type 0} {a b : List Line} {ha hb : List Site} {h m n out : Site} (l j : Line) →
      ((pc : ℕ) → sites pc ≡ h → At (pc + 1) m → At (pc + 1 + (length a + 1)) n → IsAt p sites pc l) →
      ((e : ℕ) → sites e ≡ out → Out (e + 1 + length b) → Mid e) → ((e : ℕ) → sites e ≡ out → At (e + 1) n → Out (e + 1 + length b) → IsAt p sites e j) →
      Part Mid a ha m → Part Out b hb n → Part Out (l ∷ (a ++ (j ∷ b))) (h ∷ (ha ++ (out ∷ hb))) h
  forked {h = h} {out = out} l j f g k p q = record {
    same = forked_same h out l j p q;
    keeps = λ pc has outs. let r = forked_keeps l j f g k p q pc has outs in (λ live. r.0.0, r.1);
  }

  -- where a statement ends: the sites behind it, and where CYCLE, EXIT and RETURN lead
  pub record Exits (ws : Ways) (r : Kind) (s : Scope) (h : List CellType) (e : ℕ) : Type 0 where
    pub here : sites e ≡ at r s h
    pub cycle : sites (e + ws.cycle) ≡ at r s h
    pub exit : sites (e + ws.exit) ≡ at r s h
    -- which cells are left at a RETURN
    pub left : List CellType
    pub cells : Gone h ws.cells left
    pub ret : sites (e + ws.ret) ≡ at r s left

  pub exits_at : {ws : Ways} {r : Kind} {s : Scope} {h : List CellType} (e e' : ℕ) → e ≡ e' → Exits ws r s h e' → Exits ws r s h e
  exits_at {ws = ws} {r = r} {s = s} {h = h} e e' is x = subst (λ n. Exits ws r s h n) (sym is) x

  -- where so many lines more stand behind
  pub farther_exits : {ws : Ways} {r : Kind} {s : Scope} {h : List CellType} (k e : ℕ) → sites e ≡ at r s h → Exits ws r s h (e + k) → Exits (farther k ws) r s h e
  farther_exits {ws = ws} k e is x = record {
    here = is;
    cycle = same_site (e + (k + ws.cycle)) (e + k + ws.cycle) (omega arith) x.cycle;
    exit = same_site (e + (k + ws.exit)) (e + k + ws.exit) (omega arith) x.exit;
    left = x.left;
    cells = x.cells;
    ret = same_site (e + (k + ws.ret)) (e + k + ws.ret) (omega arith) x.ret;
  }
