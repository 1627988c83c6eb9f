-- Chains, link by link.
use Rattle.std.proofs.Common.{◌≡◌, ℕ, ◌+◌, ◌-◌, ◌<◌, ◌≤◌, ◌++◌, List, ◌∷◌, [], length, drop, get_or, refl, sym, ap, subst, ◌∙◌, append_assoc, arith, Option, Box, Vec, Global}
use Rattle.std.specs.List.{All}
use Rattle.std.proofs.lemmas.List.{drop_more}
use Rattle.std.proofs.lemmas.List.Elements.{All-push}
use Rattle.f3_places.specs.declared.source.Place.{Place}
use Rattle.f3_program.specs.declared.declarations.Derived.{Derived}
use Rattle.f3_program.specs.declared.expression.Expression.{Expression}
use Rattle.f3_program.specs.declared.statement.Range.{Range}
use Rattle.f3_program.specs.declared.statement.Statement.{Statement, size-Statement}
use Rattle.f3_program.specs.declared.statement.Statement as s
use Rattle.f3_program.specs.declared.statement.Statement.TheVariants as variants
use Rattle.f3_meaning_whole.specs.Act.{Setting}
use Rattle.f3_code.specs.Core as o
use Rattle.f3_code.specs.Lower.{lowered}
use Rattle.f3_code.specs.State as c
use Rattle.f3_code.specs.declared.instruction.Instruction.TheVariants as i
use Rattle.f3_code.specs.Code.{Ways, code_of, farther, ranges_code, value_code}
use Rattle.f3_gen_values.specs.declared.line.Line.{Line}
use Rattle.f3_gen_values.specs.Emitted.{Emitted}
use Rattle.f3_gen_work.specs.EmittedIn.{EmittedIn}
use Rattle.f3_gen_work.proofs.Emitting.{counted_in, in_types, over_in, same_in, then_in}
use Rattle.f3_gen_statements.specs.declared.chain.Link.{Link}
use Rattle.f3_gen_statements.specs.declared.site.Exits.{Exits}
use Rattle.f3_gen_statements.specs.Chain.{chain_code, link_code, taken_code, test_code}
use Rattle.f3_gen_statements.specs.Leading.{LeadInto, ways_from}
use Rattle.f3_gen_statements.proofs.Constructs.{further, ways_same}

-- ---- what a statement's links are

-- one more link behind
linked : (m : ℕ) (g : Setting) (ls : List Link) (l : Link) (y : List c.Line) (ws : Ways)
    → chain_code m g (ls ++ l ∷ []) y ws ≡ chain_code m g ls (link_code m g l (length y) ws ++ y) ws
linked m g [] l y ws = refl
linked m g (k ∷ ls) l y ws = ap (λ z. link_code m g k (length z) ws ++ z) (linked m g ls l y ws)

in_front : (test x y : List c.Line) (k l : c.Line) → test ++ (k ∷ (x ++ (l ∷ y))) ≡ ((test ++ k ∷ []) ++ (x ++ l ∷ [])) ++ y
in_front test x y k l = simp append_assoc

more_links : (ls v : List Link) (l : Link) (o p : Option Place) (x z y : Statement) → v ≡ ls ++ l ∷ []
    → ((m : ℕ) → (g : Setting) → (ws : Ways) → code_of m p (lowered g z) ws
    ≡ link_code m g l (length (code_of m p (lowered g y) ws)) ws ++ code_of m p (lowered g y) ws)
    → ((m : ℕ) → (g : Setting) → (ws : Ways) → code_of m o (lowered g x) ws ≡ chain_code m g ls (code_of m p (lowered g z) ws) ws)
    → (m : ℕ) → (g : Setting) → (ws : Ways) → code_of m o (lowered g x) ws ≡ chain_code m g v (code_of m p (lowered g y) ws) ws
more_links ls v l o p x z y pushed is before m g ws =
    before m g ws ∙ ap (λ k. chain_code m g ls k ws) (is m g ws)
    ∙ sym (ap (λ k. chain_code m g k (code_of m p (lowered g y) ws) ws) pushed ∙ linked m g ls l (code_of m p (lowered g y) ws) ws)

-- an IF or an ELSE IF more
pub if_more : (ls v : List Link) (l : Link) (p : Option Place) (x z y : Statement) (e : Expression) → v ≡ ls ++ l ∷ []
    → ((k : ℕ) → test_code l.place l.test k ≡ value_code l.place e ++ c.line l.place (i.SkipIfFalse k) ∷ [])
    → ((g : Setting) → lowered g z ≡ o.If e (lowered g l.then.now) (lowered g y))
    → ((m : ℕ) → (g : Setting) → (ws : Ways) → code_of m p (lowered g x) ws ≡ chain_code m g ls (code_of m l.place (lowered g z) ws) ws)
    → (m : ℕ) → (g : Setting) → (ws : Ways) → code_of m p (lowered g x) ws ≡ chain_code m g v (code_of m l.place (lowered g y) ws) ws
if_more ls v l p x z y e pushed test is = more_links ls v l p l.place x z y pushed (λ m g ws.
    let others = code_of m l.place (lowered g y) ws in
    let taken = code_of m l.place (lowered g l.then.now) (farther (1 + length others) ws) in
    ap (λ k. code_of m l.place k ws) (is g) ∙ in_front (value_code l.place e) taken others _ _
    ∙ ap (λ t. (t ++ (taken ++ c.line l.place (i.GoOn (length others)) ∷ [])) ++ others) (sym (test (length taken + 1))))

-- a case more
pub case_more : (ls v : List Link) (l : Link) (p : Option Place) (x z y : Statement) (rs : List Range) → v ≡ ls ++ l ∷ []
    → ((k : ℕ) → test_code l.place l.test k ≡ ranges_code l.place rs ++ c.line l.place (i.GoOn k) ∷ [])
    → ((g : Setting) → lowered g z ≡ o.Case rs (lowered g l.then.now) (lowered g y))
    → ((m : ℕ) → (g : Setting) → (ws : Ways) → code_of m p (lowered g x) ws ≡ chain_code m g ls (code_of m l.place (lowered g z) ws) ws)
    → (m : ℕ) → (g : Setting) → (ws : Ways) → code_of m p (lowered g x) ws ≡ chain_code m g v (code_of m l.place (lowered g y) ws) ws
case_more ls v l p x z y rs pushed test is = more_links ls v l p l.place x z y pushed (λ m g ws.
    let others = code_of m l.place (lowered g y) ws in
    let taken = code_of m l.place (lowered g l.then.now) (farther (1 + length others) ws) in
    ap (λ k. code_of m l.place k ws) (is g) ∙ in_front (ranges_code l.place rs) taken others _ _
    ∙ ap (λ t. (t ++ (taken ++ c.line l.place (i.GoOn (length others)) ∷ [])) ++ others) (sym (test (length taken + 1))))

-- ---- sizes

pub parts_more : (n : ℕ) (ls v : List Link) (l : Link) → v ≡ ls ++ l ∷ [] → All (λ (k : Link). size-Statement k.then.now < n) ls
    → size-Statement l.then.now < n → All (λ (k : Link). size-Statement k.then.now < n) v
parts_more n ls v l pushed parts part =
    subst (All (λ (k : Link). size-Statement k.then.now < n)) (sym pushed) (All-push (λ (k : Link). size-Statement k.then.now < n) ls l parts part)

pub taken_smaller : (e : Expression) (x y : Box Statement Global) → size-Statement x.value < size-Statement (s.If e x y)
taken_smaller e x y = rw (s.size_is-Statement (s.If e x y), variants.outs-If) (omega arith)

pub other_smaller : (e : Expression) (x y : Box Statement Global) → size-Statement y.value < size-Statement (s.If e x y)
other_smaller e x y = rw (s.size_is-Statement (s.If e x y), variants.outs-If) (omega arith)

pub met_smaller : (rs : Vec Range Global) (x y : Box Statement Global) → size-Statement x.value < size-Statement (s.Case rs x y)
met_smaller rs x y = rw (s.size_is-Statement (s.Case rs x y), variants.outs-Case) (omega arith)

pub next_smaller : (rs : Vec Range Global) (x y : Box Statement Global) → size-Statement y.value < size-Statement (s.Case rs x y)
next_smaller rs x y = rw (s.size_is-Statement (s.Case rs x y), variants.outs-Case) (omega arith)

-- ---- the code of a link, from its end

pub taken_in : {t : List Derived} {b d f r : List Line} {e : Exits} (l : Link) (n m : ℕ) → LeadInto b e → Emitted b d (c.line l.place (i.GoOn n) ∷ [])
    → EmittedIn t d f (λ g. code_of (length t) l.place (lowered g l.then.now) (ways_from d e)) → Emitted f r (test_code l.place l.test m)
    → m ≡ length f - length b
    → EmittedIn t b r (λ g. taken_code l.place l.test (code_of (length t) l.place (lowered g l.then.now) (farther 1 (ways_from b e))) n)
taken_in {t = t} {b = b} {d = d} {f = f} {r = r} {e = e} l n m w q v s is =
    same_in _ (then_in (then_in (in_types q) v) (in_types s)) (λ (g : Setting) same.
    let nd : length d ≡ length b + 1 = q.longer in
    let nf : length f ≡ length d + length (code_of (length t) l.place (lowered g l.then.now) (ways_from d e)) = counted_in v g same in
    let fm : m ≡ length (code_of (length t) l.place (lowered g l.then.now) (ways_from d e)) + 1 = omega arith in
    let fw : ways_from d e ≡ farther 1 (ways_from b e) = further b d e 1 w (omega arith) in
    ap (λ z. taken_code l.place l.test (code_of (length t) l.place (lowered g l.then.now) z) n) (sym fw)
    ∙ ap (λ z. test_code l.place l.test z ++ (code_of (length t) l.place (lowered g l.then.now) (ways_from d e) ++ c.line l.place (i.GoOn n) ∷ [])) (sym fm))

farther_from : (a b : List Line) (e : Exits) (n : ℕ) → LeadInto a e → length b ≡ length a + n → farther (1 + n) (ways_from a e) ≡ farther 1 (ways_from b e)
farther_from a b e n w l =
    let x : e.cycle ≤ length a = w.cycle in
    let y : e.exit ≤ length a = w.exit in
    let z : e.ret ≤ length a = w.ret in
    ways_same (omega arith) (omega arith) (omega arith) refl

-- in front of what is done where it is not taken
pub link_in : {t : List Derived} {a b d : List Line} {e : Exits} {y : Setting → List c.Line} (l : Link) (n : ℕ) → LeadInto a e → EmittedIn t a b y
    → EmittedIn t b d (λ g. taken_code l.place l.test (code_of (length t) l.place (lowered g l.then.now) (farther 1 (ways_from b e))) n)
    → n ≡ length b - length a → EmittedIn t a d (λ g. link_code (length t) g l (length (y g)) (ways_from a e) ++ y g)
link_in {t = t} {a = a} {b = b} {d = d} {e = e} {y = y} l n w p q is =
    same_in _ (over_in (λ n g. taken_code l.place l.test (code_of (length t) l.place (lowered g l.then.now) (farther 1 (ways_from b e))) n) n p q is)
    (λ (g : Setting) same. ap (λ z. taken_code l.place l.test (code_of (length t) l.place (lowered g l.then.now) z) (length (y g)) ++ y g)
    (farther_from a b e (length (y g)) w (counted_in p g same)))

-- the next link of some in front of what was emitted of those behind it
pub turn_in : {t : List Derived} {a b d : List Line} {e : Exits} (y : Setting → List c.Line) (ls : List Link) (l : Link) (k i n : ℕ) → k ≡ i + 1 → i < length ls
    → l ≡ get_or ls i l → LeadInto a e → EmittedIn t a b (λ g. chain_code (length t) g (drop k ls) (y g) (ways_from a e))
    → EmittedIn t b d (λ g. taken_code l.place l.test (code_of (length t) l.place (lowered g l.then.now) (farther 1 (ways_from b e))) n)
    → n ≡ length b - length a → EmittedIn t a d (λ g. chain_code (length t) g (drop i ls) (y g) (ways_from a e))
turn_in {t = t} {a = a} {e = e} y ls l k i n ki less at w p q is =
    same_in _ (link_in l n w p q is) (λ (g : Setting) same.
    ap (λ z. chain_code (length t) g z (y g) (ways_from a e))
    (drop_more ls i l less ∙ ap (λ x. x ∷ drop (i + 1) ls) (sym at) ∙ ap (λ j. l ∷ drop j ls) (sym ki)))
