-- What instructions want, by what stands on top.
use Rattle.std.proofs.Common.{◌≡◌, ℕ, zero, suc, ◌+◌, ◌*◌, ◌%◌, ◌^◌, ◌<◌, ◌≤◌, true, false, List, [], ◌∷◌, length, take, drop, reverse, nat_lt, refl, sym, ap, subst, ◌∙◌, arith}
use Rattle.std.proofs.lemmas.List.{length-map, length-reverse}
use Rattle.std.proofs.lemmas.Bool.{le-ltb, lt-ltb}
use Rattle.std.specs.Prelude.{Option, None, Some, if◌then◌else◌, slice_get}
use Rattle.f3_program.specs.declared.program.Procedure.{Procedure}
use Rattle.f3_meaning_whole.specs.Value as m
use Rattle.f3_meaning_whole.specs.Store as t
use Rattle.f3_data.specs.declared.value.Span.{Span}
use Rattle.f3_data.specs.Values.{spans_of}
use Rattle.f3_meaning_whole.specs.Reference.{Reference, paths}
use Rattle.f3_meaning_whole.specs.Act.{Setting, needs_storage}
use Rattle.f3_meaning_whole.specs.Exec.{vacant, variables}
use Rattle.f3_code.specs.declared.instruction.Instruction.{Instruction}
use Rattle.f3_code.specs.declared.instruction.Instruction.TheVariants as i
use Rattle.f3_code.specs.State.{Code, Entry, Next, Stays, Done}
use Rattle.f3_code.specs.State as s
use Rattle.f3_code.specs.Machine.{stuck, on_object, on_datum}
use Rattle.f3_gen_values.specs.Emission.{entries_in}
use Rattle.f3_code.specs.Account.{block, level_words, words, objects}
use Rattle.f3_code.proofs.Modulo.{product_right}
use Rattle.f3_program.specs.declared.program.Program.{Program}
use Rattle.f3_shaping.specs.Results.{is_array}
use Rattle.f3_cells.specs.declared.scene.Scene.{Scene}
use Rattle.f3_cells.specs.declared.state.State.{State}
use Rattle.f3_cells.specs.Cells.{cells_of}
use Rattle.f3_cells.specs.States.{state_of, frame_of, code_of}
use Rattle.f3_code.specs.Wants.{allocated, assigned, called, copies, given_words, held, renewed, wants}
use Rattle.f3_code.specs.Heap.{is_full}
use Rattle.f3_requests.specs.Inner.Counted.{called_with, counted, too_large, wanted}

-- procedures by their numbers

pub no_procedure : (g : Setting) (qs : List Procedure) (ks : List ℕ) (f n : ℕ) → slice_get qs f ≡ None → called_with (slice_get (entries_in g qs ks) f) n ≡ None
no_procedure g [] ks f n is = refl
no_procedure g (x ∷ qs) [] f n is = refl
no_procedure g (x ∷ qs) (y ∷ ks) zero n is = let no : Some x ≡ None = is in absurd cc
no_procedure g (x ∷ qs) (y ∷ ks) (suc f) n is = no_procedure g qs ks f n is

pub no_line : (g : Setting) (qs : List Procedure) (ks : List ℕ) (f n : ℕ) → length ks ≤ f → called_with (slice_get (entries_in g qs ks) f) n ≡ None
no_line g [] ks f n h = refl
no_line g (x ∷ qs) [] f n h = refl
no_line g (x ∷ qs) (y ∷ ks) zero n h = absurd (omega arith)
no_line g (x ∷ qs) (y ∷ ks) (suc f) n h = no_line g qs ks f n (omega arith)

pub entry_there : (g : Setting) (qs : List Procedure) (ks : List ℕ) (f n : ℕ) (q : Procedure) → slice_get qs f ≡ Some q → f < length ks
    → called_with (slice_get (entries_in g qs ks) f) n ≡ Some (block n + block (level_words (variables g q)))
entry_there g [] ks f n q is h = let no : None ≡ Some q = is in absurd cc
entry_there g (x ∷ qs) [] f n q is h = absurd (omega arith)
entry_there g (x ∷ qs) (y ∷ ks) zero n q is h =
    let one : x ≡ q = search is in
    ap (λ z. Some (block n + block (level_words (variables g z)))) one
entry_there g (x ∷ qs) (y ∷ ks) (suc f) n q is h = entry_there g qs ks f n q is (omega arith)

pub called_is : (o : Option Entry) (cs : List s.Cell) (n : ℕ) → given_words cs ≡ n → called o cs ≡ called_with o n
called_is None cs n h = refl
called_is (Some e) cs n h = ap (λ k. Some (block k + block (level_words e.initial))) h

pub entry_some : (g : Setting) (qs : List Procedure) (ks : List ℕ) (f n : ℕ) (q : Procedure) (w a h b total : ℕ) → slice_get qs f ≡ Some q → f < length ks
    → w ≡ level_words (variables g q) % 2 ^ 64 → a ≡ block w % 2 ^ 64 → h ≡ n % 2 ^ 64 → b ≡ block h % 2 ^ 64 → total ≡ (b + a) % 2 ^ 64
    → Some total ≡ counted (called_with (slice_get (entries_in g qs ks) f) n)
entry_some g qs ks f n q w a h b total is l p i j k m =
    let e : total ≡ (block n + block (level_words (variables g q))) % 2 ^ 64 = omega arith in
    ap Some e ∙ ap counted (sym (entry_there g qs ks f n q is l))

-- a new object

two : (cs : List s.Cell) (r : Reference) (x : m.Value) → drop 0 cs ≡ s.Object r ∷ drop 1 cs → drop 1 cs ≡ s.Datum x ∷ drop 2 cs → cs ≡ s.Object r ∷ s.Datum x ∷ drop 2 cs
two cs r x h e = h ∙ ap (λ ys. s.Object r ∷ ys) e

pub renewed_is : (rank : ℕ) (v : m.Value) (cs : List s.Cell) (r : Reference) (x : m.Value) → drop 0 cs ≡ s.Object r ∷ drop 1 cs → drop 1 cs ≡ s.Datum x ∷ drop 2 cs
    → renewed rank v cs ≡ Some (block (words (vacant rank (m.spans_of x) v)) + objects x)
renewed_is rank v cs r x h e = ap (renewed rank v) (two cs r x h e)

pub renewed_none : (rank : ℕ) (v : m.Value) (cs : List s.Cell) → ((f : Reference → List s.Cell → Next) → on_object cs f ≡ stuck) → renewed rank v cs ≡ None
renewed_none rank v (s.Object r ∷ cs) h = let no : Stays [] Done ≡ stuck = h (λ r st. Stays [] Done) in absurd cc
renewed_none rank v cs h = refl

pub renewed_bare : (rank : ℕ) (v : m.Value) (cs : List s.Cell) (r : Reference) → drop 0 cs ≡ s.Object r ∷ drop 1 cs
    → ((f : m.Value → List s.Cell → Next) → on_datum (drop 1 cs) f ≡ stuck) → renewed rank v cs ≡ None
renewed_bare rank v (s.Object r ∷ s.Datum x ∷ cs) q e h = let no : Stays [] Done ≡ stuck = h (λ r st. Stays [] Done) in absurd cc
renewed_bare rank v cs q e h = refl

pub renewed_some : (rank : ℕ) (v : m.Value) (cs : List s.Cell) (r : Reference) (x : m.Value) (w b o total : ℕ) → drop 0 cs ≡ s.Object r ∷ drop 1 cs
    → drop 1 cs ≡ s.Datum x ∷ drop 2 cs → w ≡ words (vacant rank (m.spans_of x) v) % 2 ^ 64 → b ≡ block w % 2 ^ 64 → o ≡ objects x % 2 ^ 64
    → total ≡ (b + o) % 2 ^ 64 → Some total ≡ counted (renewed rank v cs)
renewed_some rank v cs r x w b o total h e i j k l =
    let sum : total ≡ (block (words (vacant rank (m.spans_of x) v)) + objects x) % 2 ^ 64 = omega arith in
    ap Some sum ∙ ap counted (sym (renewed_is rank v cs r x h e))

-- the elements of an array in memory

pub element_counted : (spans : List Span) (ss : List m.Span) (n : ℕ) → spans_of spans ≡ ss → n ≡ m.count (spans_of spans) % 2 ^ 64 → n ≡ m.count ss % 2 ^ 64
element_counted spans ss n h e = e ∙ ap (λ l. m.count l % 2 ^ 64) h

pub small : (n : ℕ) (ss : List m.Span) → n < 2 ^ 64 → n ≡ m.count ss → n ≡ m.count ss % 2 ^ 64
small n ss h e = omega arith

-- an assignment

pub assigned_is : (cs : List s.Cell) (r : Reference) (x : m.Value) → drop 0 cs ≡ s.Object r ∷ drop 1 cs → drop 1 cs ≡ s.Datum x ∷ drop 2 cs
    → assigned cs ≡ (if needs_storage x then Some (copies (length (paths r)) x) else None)
assigned_is cs r x h e = ap assigned (two cs r x h e)

pub assigned_none : (cs : List s.Cell) → ((f : Reference → List s.Cell → Next) → on_object cs f ≡ stuck) → assigned cs ≡ None
assigned_none (s.Object r ∷ cs) h = let no : Stays [] Done ≡ stuck = h (λ r st. Stays [] Done) in absurd cc
assigned_none cs h = refl

pub assigned_bare : (cs : List s.Cell) (r : Reference) → drop 0 cs ≡ s.Object r ∷ drop 1 cs
    → ((f : m.Value → List s.Cell → Next) → on_datum (drop 1 cs) f ≡ stuck) → assigned cs ≡ None
assigned_bare (s.Object r ∷ s.Datum x ∷ cs) q e h = let no : Stays [] Done ≡ stuck = h (λ r st. Stays [] Done) in absurd cc
assigned_bare cs q e h = refl

pub assigned_some : (cs : List s.Cell) (r : Reference) (x : m.Value) (n b : ℕ) → drop 0 cs ≡ s.Object r ∷ drop 1 cs → drop 1 cs ≡ s.Datum x ∷ drop 2 cs
    → needs_storage x ≡ true → n ≡ length (paths r) → b ≡ copies n x % 2 ^ 64 → Some b ≡ counted (assigned cs)
assigned_some cs r x n b h e t i j =
    let is : assigned cs ≡ Some (copies (length (paths r)) x) = assigned_is cs r x h e ∙ rw t refl in
    ap Some (j ∙ ap (λ k. copies k x % 2 ^ 64) i) ∙ ap counted (sym is)

pub assigned_small : (cs : List s.Cell) (r : Reference) (x : m.Value) → drop 0 cs ≡ s.Object r ∷ drop 1 cs → drop 1 cs ≡ s.Datum x ∷ drop 2 cs
    → needs_storage x ≡ false → None ≡ counted (assigned cs)
assigned_small cs r x h e t =
    let is : assigned cs ≡ None = assigned_is cs r x h e ∙ rw t refl in
    ap counted (sym is)

pub copies_single : (n : ℕ) (x : m.Value) → is_array x ≡ false → copies n x ≡ n * objects x
copies_single n (m.Array ss vs) h = absurd cc
copies_single n (m.Number z) h = refl
copies_single n (m.Truth b) h = refl
copies_single n (m.Composite vs) h = refl
copies_single n m.Unallocated h = refl
copies_single n (m.Allocated v) h = refl

pub copied : (n o : ℕ) (x : m.Value) → is_array x ≡ false → o ≡ objects x % 2 ^ 64 → (n * o) % 2 ^ 64 ≡ copies n x % 2 ^ 64
copied n o x h e = rw e (product_right n (objects x) ∙ ap (λ k. k % 2 ^ 64) (sym (copies_single n x h)))

-- a value that is held

pub held_is : (cs : List s.Cell) (x : m.Value) → drop 0 cs ≡ s.Datum x ∷ drop 1 cs → held cs ≡ (if needs_storage x then Some (block (words x)) else None)
held_is cs x h = ap held h

pub held_none : (cs : List s.Cell) → ((f : m.Value → List s.Cell → Next) → on_datum cs f ≡ stuck) → held cs ≡ None
held_none (s.Datum x ∷ cs) h = let no : Stays [] Done ≡ stuck = h (λ r st. Stays [] Done) in absurd cc
held_none cs h = refl

pub held_some : (cs : List s.Cell) (x : m.Value) (w b : ℕ) → drop 0 cs ≡ s.Datum x ∷ drop 1 cs → needs_storage x ≡ true → w ≡ words x % 2 ^ 64
    → b ≡ block w % 2 ^ 64 → Some b ≡ counted (held cs)
held_some cs x w b h t i j =
    let is : held cs ≡ Some (block (words x)) = held_is cs x h ∙ rw t refl in
    let e : b ≡ block (words x) % 2 ^ 64 = omega arith in
    ap Some e ∙ ap counted (sym is)

pub held_small : (cs : List s.Cell) (x : m.Value) → drop 0 cs ≡ s.Datum x ∷ drop 1 cs → needs_storage x ≡ false → None ≡ counted (held cs)
held_small cs x h t =
    let is : held cs ≡ None = held_is cs x h ∙ rw t refl in
    ap counted (sym is)

-- an ALLOCATE

pub allocated_is : (store : t.Store) (rank : ℕ) (v : m.Value) (ss : List m.Span) (cs rest : List s.Cell) (h : Reference) → cs ≡ s.Object h ∷ rest
    → m.is_allocated (t.get store h.path) ≡ false → too_large ss ≡ false → allocated store rank v ss cs ≡ Some (block (words (vacant rank ss v)))
allocated_is store rank v ss cs rest h e a b = rw (e, a, b) refl

pub allocated_before : (store : t.Store) (rank : ℕ) (v : m.Value) (ss : List m.Span) (cs rest : List s.Cell) (h : Reference) → cs ≡ s.Object h ∷ rest
    → m.is_allocated (t.get store h.path) ≡ true → allocated store rank v ss cs ≡ None
allocated_before store rank v ss cs rest h e a = rw (e, a) refl

pub allocated_large : (store : t.Store) (rank : ℕ) (v : m.Value) (ss : List m.Span) (cs rest : List s.Cell) (h : Reference) → cs ≡ s.Object h ∷ rest
    → m.is_allocated (t.get store h.path) ≡ false → too_large ss ≡ true → allocated store rank v ss cs ≡ None
allocated_large store rank v ss cs rest h e a b = rw (e, a, b) refl

pub allocated_none : (store : t.Store) (rank : ℕ) (v : m.Value) (ss : List m.Span) (cs : List s.Cell) → ((f : Reference → List s.Cell → Next) → on_object cs f ≡ stuck)
    → allocated store rank v ss cs ≡ None
allocated_none store rank v ss (s.Object r ∷ cs) h = let no : Stays [] Done ≡ stuck = h (λ r st. Stays [] Done) in absurd cc
allocated_none store rank v ss cs h = refl

pub allocated_some : (store : t.Store) (rank : ℕ) (v : m.Value) (ss ts : List m.Span) (cs rest : List s.Cell) (h : Reference) (w b : ℕ) → ss ≡ ts → cs ≡ s.Object h ∷ rest
    → m.is_allocated (t.get store h.path) ≡ false → too_large ts ≡ false → w ≡ words (vacant rank ts v) % 2 ^ 64 → b ≡ block w % 2 ^ 64
    → Some b ≡ counted (allocated store rank v ss cs)
allocated_some store rank v ss ts cs rest h w b same e i j k l =
    let sum : b ≡ block (words (vacant rank ts v)) % 2 ^ 64 = omega arith in
    ap Some sum ∙ ap counted (sym (allocated_is store rank v ts cs rest h e i j)) ∙ ap (λ ss. counted (allocated store rank v ss cs)) (sym same)

-- calls

frames_are : (p : Program) (old : State) → length (state_of p old).frames ≡ length old.frames.items
frames_are p old = length-map (reverse old.frames.items) (frame_of p) ∙ length-reverse old.frames.items

pub call_deep : (x : Scene) (f k : ℕ) (v : m.Value) (old : State) → 1000 ≤ length old.frames.items → None ≡ counted (wanted x (i.Call f k) v old)
call_deep x f k v old deep =
    let no : nat_lt (length (state_of x.program.now old).frames) 1000 ≡ false = le-ltb _ _ (subst (λ n. 1000 ≤ n) (sym (frames_are x.program.now old)) deep) in
    ap (λ b. counted (if b then called (slice_get (code_of x).procedures f) (take k (cells_of x.program.now old.stack.items)) else None)) (sym no)

pub call_is : (x : Scene) (f k n : ℕ) (v : m.Value) (old : State) (r : Option ℕ) → length old.frames.items < 1000
    → given_words (take k (cells_of x.program.now old.stack.items)) ≡ n → r ≡ counted (called_with (slice_get (code_of x).procedures f) n)
    → r ≡ counted (wanted x (i.Call f k) v old)
call_is x f k n v old r shallow g e =
    let yes : nat_lt (length (state_of x.program.now old).frames) 1000 ≡ true = lt-ltb _ _ (subst (λ n. n < 1000) (sym (frames_are x.program.now old)) shallow) in
    e ∙ ap counted (sym (called_is (slice_get (code_of x).procedures f) (take k (cells_of x.program.now old.stack.items)) n g))
    ∙ ap (λ b. counted (if b then called (slice_get (code_of x).procedures f) (take k (cells_of x.program.now old.stack.items)) else None)) (sym yes)

-- other instructions

pub no_wants : (limit : ℕ) (code : Code) (x : Instruction) (v : m.Value) (st : s.State) → ((f k : ℕ) → x ≡ i.Call f k → ⊥) → ((rank : ℕ) → x ≡ i.New rank → ⊥)
    → ((of : _) → x ≡ i.Take of → ⊥) → ((rank k : ℕ) → x ≡ i.Allocate rank k → ⊥) → ((of : _) → x ≡ i.SelectValue of → ⊥) → wants limit code x v st ≡ None
no_wants limit code (i.Call f k) v st a b c d e = absurd (a f k refl)
no_wants limit code (i.New rank) v st a b c d e = absurd (b rank refl)
no_wants limit code (i.Take of) v st a b c d e = absurd (c of refl)
no_wants limit code (i.Allocate rank k) v st a b c d e = absurd (d rank k refl)
no_wants limit code (i.SelectValue of) v st a b c d e = absurd (e of refl)
no_wants limit code x v st a b c d e = refl

-- whether a heap is full

pub full_is : (size u w all : ℕ) (o : Option ℕ) → u ≡ all % 2 ^ 64 → Some w ≡ counted o → nat_lt size ((u + w) % 2 ^ 64) ≡ is_full size all o
full_is size u w all None h e = absurd cc
full_is size u w all (Some n) h e =
    let one : w ≡ n % 2 ^ 64 = cc in
    ap (nat_lt size) (omega arith)

pub not_full : (size all : ℕ) (o : Option ℕ) → None ≡ counted o → false ≡ is_full size all o
not_full size all None e = refl
not_full size all (Some n) e = absurd cc
