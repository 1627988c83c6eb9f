-- Parts of code with their heights, one behind another.
use Rattle.std.proofs.Common.{◌≡◌, ℕ, zero, suc, ◌+◌, List, [], ◌∷◌, ◌++◌, length, Some, refl, sym, ap, ◌∙◌, subst, arith, length-append}
use Rattle.std.specs.Prelude.{slice_get}
use Rattle.f3_code.specs.State.{Line}
use Rattle.f3_code.specs.Code.{Ways, farther}
use Rattle.f3_heights.specs.Effect.{on}
use Rattle.f3_heights.specs.Heights.{Leads, IsAt}
use Rattle.f3_heights.proofs.Keeping.{above, plus_above}

module _ (height : ℕ → ℕ) where
  -- these are the heights of the lines from this one on
  abbrev pub HeightsAt : ℕ → List ℕ → Type 0
  HeightsAt pc [] = Unit {0}
  HeightsAt pc (h ∷ hs) = (height pc ≡ h) × HeightsAt (pc + 1) hs

  -- these lines, from this one on, are as their heights ask
  abbrev pub LinesAt : ℕ → List Line → Type 0
  LinesAt pc [] = Unit {0}
  LinesAt pc (l ∷ ls) = IsAt height pc l.act × LinesAt (pc + 1) ls

  pub heights_front : (pc : ℕ) (a b : List ℕ) → HeightsAt pc (a ++ b) → HeightsAt pc a
  heights_front pc [] b h = tt
  heights_front pc (x ∷ a) b h = (h.0, heights_front (pc + 1) a b h.1)

  pub heights_back : (pc : ℕ) (a b : List ℕ) → HeightsAt pc (a ++ b) → HeightsAt (pc + length a) b
  heights_back pc [] b h = let e : pc ≡ pc + 0 = omega arith in subst (λ n. HeightsAt n b) e h
  heights_back pc (x ∷ a) b h =
      let e : pc + 1 + length a ≡ pc + length (x ∷ a) = omega arith in
      subst (λ n. HeightsAt n b) e (heights_back (pc + 1) a b h.1)

  pub lines_on : (pc : ℕ) (a b : List Line) → LinesAt pc a → LinesAt (pc + length a) b → LinesAt pc (a ++ b)
  lines_on pc [] b h k = let e : pc + 0 ≡ pc = omega arith in subst (λ n. LinesAt n b) e k
  lines_on pc (l ∷ a) b h k =
      let e : pc + length (l ∷ a) ≡ pc + 1 + length a = omega arith in
      (h.0, lines_on (pc + 1) a b h.1 (subst (λ n. LinesAt n b) e k))

  pub line_of : (lines : List Line) (base k : ℕ) (l : Line) → LinesAt base lines → slice_get lines k ≡ Some l → IsAt height (base + k) l.act
  line_of [] base k l h e = cc
  line_of (x ∷ lines) base zero l h e =
      let same : x ≡ l = cc in let at : base ≡ base + 0 = omega arith in
      subst (λ n. IsAt height n l.act) at (subst (λ y. IsAt height base y.act) same h.0)
  line_of (x ∷ lines) base (suc k) l h e =
      let at : base + 1 + k ≡ base + suc k = omega arith in
      subst (λ n. IsAt height n l.act) at (line_of lines (base + 1) k l h.1 e)

  -- a place under another name
  pub same_height : {h : ℕ} (pc pc' : ℕ) → pc ≡ pc' → height pc' ≡ h → height pc ≡ h
  same_height pc pc' e h = ap height e ∙ h

  -- A part of code with its heights, which begins with so many cells; `Out` says of the line behind it, and of those to which it
  -- leads, how many stand there.
  pub record Part (Out : ℕ → Type 0) (lines : List Line) (hs : List ℕ) (h : ℕ) : Type 0 where
    pub same : length hs ≡ length lines
    pub keeps : (pc : ℕ) → HeightsAt pc hs → Out (pc + length lines) → (height pc ≡ h) × LinesAt pc lines

  -- so many cells stand at the line behind
  abbrev pub Onto : ℕ → ℕ → Type 0
  Onto h e = height e ≡ h

  -- where more is said of what is behind
  pub wider : {Out Less : ℕ → Type 0} {lines : List Line} {hs : List ℕ} {h : ℕ} → ((e : ℕ) → Out e → Less e) → Part Less lines hs h → Part Out lines hs h
  wider f p = record { same = p.same; keeps = λ pc has out. p.keeps pc has (f _ out) }

  pub nothing : (h : ℕ) → Part (Onto h) [] [] h
  nothing h = record { same = refl; keeps = λ pc has out. (same_height pc (pc + 0) (omega arith) out, tt) }

  -- a part and what stands behind it, with what the part asks of that
  pub behind_with : {Out Mid In : ℕ → Type 0} {a : List Line} {ha : List ℕ} {h : ℕ} (b : List Line) (hb : List ℕ) → length hb ≡ length b →
      ((pc : ℕ) → HeightsAt pc hb → Out (pc + length b) → In pc × LinesAt pc b) → ((e : ℕ) → In e → Out (e + length b) → Mid e) →
      Part Mid a ha h → Part Out (a ++ b) (ha ++ hb) h
  behind_with {Out = Out} {a = a} {ha = ha} b hb same keeps f p = record {
    same = omega (arith, length-append ha hb, length-append a b, p.same, same);
    keeps = λ pc has out.
        let e : pc + length (a ++ b) ≡ pc + length a + length b = omega (arith, length-append a b) in
        let out' = subst Out e out in
        let has_b = subst (λ n. HeightsAt (pc + n) hb) p.same (heights_back pc ha hb has) in
        let rb = keeps (pc + length a) has_b out' in
        let ra = p.keeps pc (heights_front pc ha hb has) (f (pc + length a) rb.0 out') in
        (ra.0, lines_on pc a b ra.1 rb.1);
  }

  -- one part behind another
  pub behind : {Out Mid : ℕ → Type 0} {a b : List Line} {ha hb : List ℕ} {h m : ℕ} → ((e : ℕ) → height e ≡ m → Out (e + length b) → Mid e) →
      Part Mid a ha h → Part Out b hb m → Part Out (a ++ b) (ha ++ hb) h
  behind {b = b} {hb = hb} {m = m} f p q = behind_with {In = λ e. height e ≡ m} b hb q.same q.keeps f p

  pub seq : {Out : ℕ → Type 0} {a b : List Line} {ha hb : List ℕ} {h m : ℕ} → Part (Onto m) a ha h → Part Out b hb m → Part Out (a ++ b) (ha ++ hb) h
  seq p q = behind (λ e is out. is) p q

  -- a line before a part, which leads to what is behind it too
  pub before : {Out : ℕ → Type 0} {b : List Line} {hb : List ℕ} {h m : ℕ} (l : Line) →
      ((pc : ℕ) → height pc ≡ h → height (pc + 1) ≡ m → Out (pc + 1 + length b) → IsAt height pc l.act) → Part Out b hb m → Part Out (l ∷ b) (h ∷ hb) h
  before {Out = Out} {b = b} l f q = record {
    same = ap suc q.same;
    keeps = λ pc has out.
        let e : pc + length (l ∷ b) ≡ pc + 1 + length b = omega arith in
        let out' = subst Out e out in
        let r = q.keeps (pc + 1) has.1 out' in
        (has.0, (f pc has.0 r.0 out', r.1));
  }

  -- a line that leads to the next one
  pub record Falls (l : Line) (h m : ℕ) : Type 0 where
    pub by : (pc : ℕ) → height pc ≡ h → height (pc + 1) ≡ m → IsAt height pc l.act

  pub falls : (l : Line) (k n rest : ℕ) {h m : ℕ} → ((pc : ℕ) → Leads height pc (on k n) → IsAt height pc l.act) → h ≡ k + rest → m ≡ n + rest → Falls l h m
  falls l k n rest f e g = record { by = λ pc is next. f pc (record { rest = rest; before = is ∙ e; next = next ∙ g; far = tt }) }

  pub plain : (l : Line) (k n rest : ℕ) → ((pc : ℕ) → Leads height pc (on k n) → IsAt height pc l.act) → Falls l (above k rest) (above n rest)
  plain l k n rest f = falls l k n rest f (sym (plus_above k rest)) (sym (plus_above n rest))

  pub first : {Out : ℕ → Type 0} {l : Line} {b : List Line} {hb : List ℕ} {h m : ℕ} → Falls l h m → Part Out b hb m → Part Out (l ∷ b) (h ∷ hb) h
  first {l = l} f q = before l (λ pc is next out. f.by pc is next) q

  pub last : {l : Line} {h m : ℕ} → Falls l h m → Part (Onto m) (l ∷ []) (h ∷ []) h
  last {m = m} f = first f (nothing m)

  -- so many cells under another name
  pub onto_same : {lines : List Line} {hs : List ℕ} {h : ℕ} (m m' : ℕ) → m ≡ m' → Part (Onto m) lines hs h → Part (Onto m') lines hs h
  onto_same m m' e p = wider (λ n is. is ∙ sym e) p

  -- a line that leads elsewhere alone, or nowhere
  pub before_end : {Out : ℕ → Type 0} {h : ℕ} (l : Line) → ((pc : ℕ) → height pc ≡ h → Out (pc + 1) → IsAt height pc l.act) → Part Out (l ∷ []) (h ∷ []) h
  before_end {Out = Out} l f = record {
    same = refl;
    keeps = λ pc has out. (has.0, (f pc has.0 (let e : pc + length (l ∷ []) ≡ pc + 1 = omega arith in subst Out e out), tt));
  }

  -- A line that leads to the second of two parts too, where the first goes on behind both.
  pub forked_keeps : {Out Mid : ℕ → Type 0} {a b : List Line} {ha hb : List ℕ} {h m n out : ℕ} (l j : Line) →
      ((pc : ℕ) → height pc ≡ h → height (pc + 1) ≡ m → height (pc + 1 + (length a + 1)) ≡ n → IsAt height pc l.act) →
      ((e : ℕ) → height e ≡ out → Out (e + 1 + length b) → Mid e) → ((e : ℕ) → height e ≡ out → height (e + 1) ≡ n → Out (e + 1 + length b) → IsAt height e j.act) →
      Part Mid a ha m → Part Out b hb n → (pc : ℕ) → HeightsAt pc (h ∷ (ha ++ (out ∷ hb))) → Out (pc + length (l ∷ (a ++ (j ∷ b)))) →
      ((height pc ≡ h) × (height (pc + 1) ≡ m)) × LinesAt pc (l ∷ (a ++ (j ∷ b)))
  forked_keeps {Out = Out} {a = a} {b = b} {ha = ha} {hb = hb} {out = out} l j f g k p q pc has outs =
      let e : pc + length (l ∷ (a ++ (j ∷ b))) ≡ pc + 1 + length a + 1 + length b = omega (arith, length-append a (j ∷ b)) in
      let outs' = subst Out e outs in
      let has_b = subst (λ n. HeightsAt (pc + 1 + n) (out ∷ hb)) p.same (heights_back (pc + 1) ha (out ∷ hb) has.1) in
      let rb = q.keeps (pc + 1 + length a + 1) has_b.1 outs' in
      let ra = p.keeps (pc + 1) (heights_front (pc + 1) ha (out ∷ hb) has.1) (g (pc + 1 + length a) has_b.0 outs') in
      let second = same_height (pc + 1 + (length a + 1)) (pc + 1 + length a + 1) (omega arith) rb.0 in
      ((has.0, ra.0), (f pc has.0 ra.0 second, lines_on (pc + 1) a (j ∷ b) ra.1 (k (pc + 1 + length a) has_b.0 rb.0 outs', rb.1)))

  pub forked_same : {Out Mid : ℕ → Type 0} {a b : List Line} {ha hb : List ℕ} {m n : ℕ} (h out : ℕ) (l j : Line) → Part Mid a ha m → Part Out b hb n →
      length (h ∷ (ha ++ (out ∷ hb))) ≡ length (l ∷ (a ++ (j ∷ b)))
  forked_same {a = a} {b = b} {ha = ha} {hb = hb} h out l j p q =
      omega (arith, length-append ha (out ∷ hb), length-append a (j ∷ b), p.same, q.same)

  pub forked : {Out Mid : ℕ → Type 0} {a b : List Line} {ha hb : List ℕ} {h m n out : ℕ} (l j : Line) →
      ((pc : ℕ) → height pc ≡ h → height (pc + 1) ≡ m → height (pc + 1 + (length a + 1)) ≡ n → IsAt height pc l.act) →
      ((e : ℕ) → height e ≡ out → Out (e + 1 + length b) → Mid e) → ((e : ℕ) → height e ≡ out → height (e + 1) ≡ n → Out (e + 1 + length b) → IsAt height e j.act) →
      Part Mid a ha m → Part Out b hb n → Part Out (l ∷ (a ++ (j ∷ b))) (h ∷ (ha ++ (out ∷ hb))) h
  forked {h = h} {out = out} l j f g k p q = record {
    same = forked_same h out l j p q;
    keeps = λ pc has outs. let r = forked_keeps l j f g k p q pc has outs in (r.0.0, r.1);
  }

  -- where a statement ends: how many cells stand behind it, and where CYCLE, EXIT and RETURN lead
  pub record Exits (ws : Ways) (h e : ℕ) : Type 0 where
    pub here : height e ≡ h
    pub cycle : height (e + ws.cycle) ≡ h
    pub exit : height (e + ws.exit) ≡ h
    -- how many cells are left at a RETURN
    pub left : ℕ
    pub cells : h ≡ ws.cells + left
    pub ret : height (e + ws.ret) ≡ left

  pub exits_at : {ws : Ways} {h : ℕ} (e e' : ℕ) → e ≡ e' → Exits ws h e' → Exits ws h e
  exits_at {ws = ws} {h = h} e e' is x = subst (λ n. Exits ws h n) (sym is) x

  -- where so many lines more stand behind
  pub farther_exits : {ws : Ways} {h : ℕ} (k e : ℕ) → height e ≡ h → Exits ws h (e + k) → Exits (farther k ws) h e
  farther_exits {ws = ws} k e is x = record {
    here = is;
    cycle = same_height (e + (k + ws.cycle)) (e + k + ws.cycle) (omega arith) x.cycle;
    exit = same_height (e + (k + ws.exit)) (e + k + ws.exit) (omega arith) x.exit;
    left = x.left;
    cells = x.cells;
    ret = same_height (e + (k + ws.ret)) (e + k + ws.ret) (omega arith) x.ret;
  }
