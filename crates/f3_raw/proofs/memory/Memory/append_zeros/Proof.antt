-- `append_zeros` writes the room place by place. Assumes `Logic`.
use Rattle.std.proofs.Common.{◌≡◌, ℕ, zero, suc, ◌+◌, ◌-◌, ◌*◌, ◌^◌, ◌<◌, ◌≤◌, ℤ, pos, List, [], ◌∷◌, ◌++◌, length, replicate, refl, sym, ap, ◌∙◌, arith, lit<, ltb→lt, nltb→le, w64}
use Rattle.std.proofs.alloc.Shapes.{after, head, inside}
use Rattle.std.proofs.lemmas.List.{append-nil, append_assoc, length-append, length-replicate}
use Rattle.std.proofs.mem.Facts.{says_two}
use Rattle.std.proofs.raw_atomic.Walks.{proved}
use lib.WfN.{lt-wf_rel}
use mathlib.Core.WellFounded.InvImage
use seplogic.Ra.Ura.{Ura}
use base.Fraction.{full_share}
use base.Logic.{SProp, ent, never, fst∗}
use base.Fml.{Lft, GName, Share, ftrue, fat, flft, fobs, fauth, fbor, fobor, froom}
use contract.Monad.{fact}
use contract.Running.{tables, tables_of}
use mir.Syntax.{Body, ty_int, named}
use mir.Val.{Val, vunit, vint, vptr}
use prog.Wp.{Env, Out, Wp, Tables, at_return, after_seq, after_block, after_turn}
use types.Kit.{Item, Sq, any_q, runs, ⋆, ‵, raw, ◌⊛◌, at_ret, ◌$◌, ◌∵◌, !, qed, by, done, move, keep, drop, use1, use2, split, join, fsplit, fsplit3, fjoin, fjoin3, feq_i, rewrite, suffices, frame}
use types.Logic.{Logic}
use types.Part.{whole, sub, look_in}
use types.Run.{enter, of_opd, lit, unit_lit, bin, load, stop, fld, init, assigns, first, blocks, branches, skips, jumps, exec, returns, loops, again, Below}
use types.ByLocal.{alloc_all, pass_all, free_all, look_at, get, through, sets, sets_last, env, holding, forget_but, take_at, give_at}
use types.SemTy.{Body as Borrowed}
use denote.Array.{Array}
use denote.Builtin.{i64, usize}
use denote.Exit.{yes}
use denote.Laws.{shows}
use denote.Memory.{cell_at, part_at, mem}
use denote.Plain.{uint_vals, uint_Tells}
use denote.RattleType.{RattleType}
use denote.RawPtr.{Ptr, block_ptr, in_a_block}
use denote.Ref.{MutRef, mut_vals, mut_Tells}
use denote.Signature.{plain}
use denote.Signed.{sint_in}
use denote.Steps.{nothing, opens, closes, peeks, heard}
use denote.Struct.Owning.{shape}
use denote.Struct.Struct.{Struct}
use denote.Triple.Walked.{Stays, walk_of, stay_ref, Goes-ref, stay_dropped, Goes-dropped, ends_at}
use Rattle.f3_raw.specs.Ownership.{words_type, memory_owns}
use Rattle.f3_raw.specs.contracts.memory.Memory as C
use Rattle.f3_raw.specs.contracts.memory.Memory.{the_row as R}
use Rattle.f3_raw.specs.contracts.memory.Memory.append_zeros as f
use Rattle.f3_raw.proofs.Rows.{words_at, words_glue, array_out, array_in, spare_out}
use Rattle.f3_raw.proofs.memory.Memory.TheLaws.{lowers}
use Rattle.f3_raw.proofs.memory.Memory.append_zeros.Statement.{statement}
use Rattle.f3_raw.proofs.memory.Memory.append_zeros.Code as code

abbrev Field : RattleType
Field = Struct (shape C.the_type)

abbrev rest : Body
rest = after 1 (code.function).body

abbrev turn : Body
turn = inside (inside (after 4 (inside (head (code.function).body))))

replicate-snoc : (n : ℕ) → replicate n (pos 0) ++ pos 0 ∷ [] ≡ replicate (suc n) (pos 0)
replicate-snoc zero = refl
replicate-snoc (suc n) = ap (λ l. pos 0 ∷ l) (replicate-snoc n)

module _ {M : Type 1} {𝓤 : Ura M} (𝓛 : Logic 𝓤) (𝓣 : Tables 𝓤 𝓛.H) (κ : Lft) (q : Share) (γ : GName) (rb ro : ℕ) (h : R.Denot) (us : List Val) (b o : ℕ) (at_b : h.start ≡ block_ptr b o)
    (len n : ℕ) (lens : len ≡ length h.content) (le : len + n ≤ h.size) (fit : n < 2 ^ 64) (more : R.Denot) (start_is : more.start ≡ h.start) (size_is : more.size ≡ h.size) (content_is : more.content ≡ h.content ++ replicate n (pos 0))
    (Post : Val → SProp 𝓤) (exits : ent 𝓤 (⋆ 𝓛 (‵ (fobs γ (R.coded.code more)) ∷ ‵ (fbor κ (Borrowed (mem R) rb ro γ)) ∷ ‵ (flft κ q) ∷ [])) (Post vunit)) where
  open 𝓛 use {H}

  abbrev written : ℕ → List ℤ
  written i = h.content ++ replicate i (pos 0)

  abbrev Left : Type 0
  Left = (i : ℕ) × (i ≤ n)

  abbrev Nearer : Left → Left → Type 0
  Nearer t u = n - t.0 < n - u.0

  module _ (l : ℕ → ℕ) where
    abbrev En : Env 𝓤 H
    En = env (code.function).locals l

    -- the words, the room that is left, and the open borrow
    abbrev Now : Left → List (Item 𝓤)
    Now t = ‵ (words_at (written t.0) b o) ∷ ‵ (froom (words_type (h.size - (len + t.0))) b (o + (len + t.0) * 8)) ∷ ‵ (Field.own_val (h.start, tt) us) ∷ ‵ (cell_at full_share R.mir us rb ro)
        ∷ ‵ (fobor κ q (Borrowed (mem R) rb ro γ)) ∷ ‵ (fobs γ (R.coded.code h)) ∷ ‵ (fauth γ (R.coded.code h)) ∷ holding 𝓛 En ((3, vint w64 n) ∷ (4, vptr b (len * 8 + o)) ∷ (5, vint w64 t.0) ∷ [])

    abbrev Turned : Left → Out → SProp 𝓤
    Turned t = after_turn 𝓤 H (Below 𝓛 Nearer Now t) (after_block 𝓤 H (after_block 𝓤 H (after_seq 𝓤 H (Wp 𝓤 H 𝓣.C 𝓣.Λ En rest (at_return 𝓤 H En Post)) (at_return 𝓤 H En Post))))

    turns : (t : Left) → Sq 𝓛 (Now t) (runs 𝓣.C 𝓣.Λ En turn (any_q (Turned t)))
    unfolding after_turn
    turns t =
        let i : ℕ = t.0 in
        sets ! (bin ! (get ! refl) (get ! refl) tt) refl (tt, tt) $ first ! $ branches ! (get ! refl)
        (λ test.
        let less : i < n = ltb→lt i n test in
        let far : i * 8 < 2 ^ 64 = omega (arith, h.small) in
        let next : i + 1 < 2 ^ 64 = omega arith in
        let here : (len + i) * 8 + o ≡ i * 8 + (len * 8 + o) = omega arith in
        let long : length (written i) ≡ len + i = omega (arith, length-append h.content (replicate i (pos 0)), length-replicate i (pos 0)) in
        let up : len + i + 1 ≡ len + suc i = omega arith in
        let one_more : i + 1 ≡ suc i = omega arith in
        skips ! $ exec ! 𝓣.C 𝓣.Λ En (after 2 turn) (any_q (Turned t)) $
        sets ! (bin ! (get ! refl) (lit ! tt) (record { fits = far })) refl (tt, record { fits = far }) $
        sets ! (bin ! (get ! refl) (get ! refl) tt) refl (tt, tt) $
        move ! (1 ∷ []) $ use1 𝓛 (‵ (froom (ty_int w64) b ((len + i) * 8 + o)) ⊛ ‵ (froom (words_type (h.size - (len + i + 1))) b (o + (len + i + 1) * 8))) (spare_out 𝓛 (len + i) h.size b o (omega arith)) $ split ! $
        rewrite ! 0 (λ (k : ℕ). ‵ (froom (ty_int w64) b k)) here refl $
        assigns ! (of_opd ! (lit ! tt)) (through ! refl (stop !)) (init ! 0 refl (tt, record { fits = lit< tt })) $
        sets_last ! (bin ! (get ! refl) (lit ! tt) (record { fits = next })) refl (tt, record { fits = next }) $
        rewrite ! 0 (λ (k : ℕ). ‵ (fat full_share (ty_int w64) b k (vint w64 0))) (sym here) refl $
        use1 𝓛 (‵ (part_at i64 full_share (pos 0) b ((len + i) * 8 + o))) (sint_in 𝓛 full_share w64 (pos 0) b ((len + i) * 8 + o) (lit< tt)) $
        nothing ! $ move ! (1 ∷ 0 ∷ []) $ fjoin ! $ move ! (2 ∷ 0 ∷ []) $
        use2 𝓛 (‵ (words_at (written i ++ pos 0 ∷ []) b o)) (words_glue 𝓛 (len + i) (written i) (pos 0 ∷ []) b o long) $
        rewrite ! 0 (λ (ws : List ℤ). ‵ (words_at ws b o)) (append_assoc h.content (replicate i (pos 0)) (pos 0 ∷ []) ∙ ap (λ ws. h.content ++ ws) (replicate-snoc i)) refl $
        rewrite ! 1 (λ (k : ℕ). ‵ (froom (words_type (h.size - k)) b (o + k * 8))) up refl $
        forget_but ! En (3 ∷ 4 ∷ 5 ∷ []) refl $ take_at ! 5 $ rewrite ! 0 (λ (k : ℕ). ‵ (fat full_share (ty_int w64) (l 5) zero (vint w64 k))) one_more refl $ give_at ! 5 $
        again ! Nearer Now t (suc i, omega arith) (omega arith))
        (λ test.
        let ge : n ≤ i = nltb→le i n test in let end : i ≡ n = omega (arith, t.1) in
        let all : written i ≡ more.content = ap written end ∙ sym content_is in
        let long : len + i ≡ length more.content = omega (arith, ap length content_is, length-append h.content (replicate n (pos 0)), length-replicate n (pos 0)) in
        jumps ! $ exec ! 𝓣.C 𝓣.Λ En rest (at_ret En Post) $
        rewrite ! 0 (λ (ws : List ℤ). ‵ (words_at ws b o)) all refl $ use1 𝓛 (‵ (part_at (Array i64 (length more.content)) full_share more.content b o)) (array_in 𝓛 more.content b o) $
        rewrite ! 1 (λ (k : ℕ). ‵ (froom (words_type (h.size - k)) b (o + k * 8))) long refl $ fjoin ! $
        rewrite ! 0 (λ (u : Ptr × ℕ). ‵ (memory_owns u.0 u.1 more.content)) (λ j. ((sym at_b ∙ sym start_is) j, sym size_is j)) refl $
        rewrite ! 1 (λ (p : Ptr). ‵ (Field.own_val (p, tt) us)) (sym start_is) refl $ move ! (1 ∷ 0 ∷ []) $ fjoin ! $ move ! (1 ∷ 0 ∷ []) $ closes ! tt R more us rb ro $
        sets ! (of_opd ! (unit_lit !)) refl (tt, tt) $ returns ! (look_at ! 0 refl) $ free_all ! refl $ keep ! (0 ∷ 1 ∷ 2 ∷ []) $ by ! exits)

abbrev stayed : Stays f.ended.signature.params f.ended.kept
stayed = (stay_ref (0 ∷ []) tt (plain (λ _. R)), (stay_dropped (plain (λ _. usize)) yes, (stay_dropped (plain (λ _. usize)) yes, tt)))

pub append_zeros_spec : {M : Type 1} → statement M
unfolding tables_of
append_zeros_spec 𝓤 𝓛 𝓜 𝓡 wired =
    let c = f.clauses 𝓛 𝓜.mem 𝓡.returns in let W = walk_of 𝓛 f.ended stayed c in let 𝓣 : Tables 𝓤 𝓛.H = tables_of 𝓤 𝓛.H 𝓜 (tables 𝓤 𝓛.H 𝓜 𝓡 𝓡.env) in
    let goes = Goes-dropped 𝓛 1 (plain (λ _. usize)) yes (λ κs x w. refl) in
    proved 𝓛 f.ended stayed c 𝓜 𝓡 (Goes-ref 𝓛 1 0 tt (plain (λ _. R)), (goes, (goes, tt)))
    f.Key.name code.function (code.unfolded 𝓤 𝓛.H 𝓜 𝓡 wired)
    (λ κs. (mut_vals, (uint_vals w64, (uint_vals w64, tt)))) (λ κs. (mut_Tells (named 0) κs.0 R, (uint_Tells w64, (uint_Tells w64, tt)))) (λ κs qs bounds a _ are.
    let κ = κs.0 in let q = qs.0 in let γ = a.0.ghost_name in let rb = a.0.ref_ptr.0 in let ro = a.0.ref_ptr.1 in let h = a.0.now in let len = a.1.0 in let n = a.1.1.0 in
    let vss : List Val × (List Val × (List Val × Unit {0})) = (mut_vals a.0, (uint_vals w64 len, (uint_vals w64 n, tt))) in
    let y : W.Ghost = ((κs, qs, bounds, a, vss), tt) in
    let Asked : Type 0 = (len ≡ length h.content) × (len + n ≤ h.size) in
    qed 𝓛 (((‵ (flft κ q) ⊛ ‵ ftrue) ⊛ ‵ ((MutRef (named 0) κ R).own_val a.0 vss.0) ⊛ ‵ (usize.own_val len vss.1.0) ⊛ ‵ (usize.own_val n vss.1.1.0) ⊛ ‵ ftrue) ∷ raw (fact 𝓤 Asked) ∷ []) ∵
    move ! (1 ∷ []) $ heard ! Asked (λ asked. split ! $ split ! $ move ! (2 ∷ []) $ split ! $ keep ! (0 ∷ 2 ∷ []) $
    let lens = asked.0 in let le = asked.1 in
    let fit_len = are.1.0.1 in let fit = are.1.1.0.1 in
    let far : len * 8 < 2 ^ 64 = omega (arith, h.small) in
    let long : length (h.content ++ replicate n (pos 0)) ≡ len + n = omega (arith, length-append h.content (replicate n (pos 0)), length-replicate n (pos 0)) in
    let more : R.Denot = record { start = h.start; size = h.size; content = h.content ++ replicate n (pos 0); fits = omega arith; small = h.small } in
    let exits =
    qed 𝓛 (‵ (fobs γ (R.coded.code more)) ∷ ‵ (fbor κ (Borrowed (mem R) rb ro γ)) ∷ ‵ (flft κ q) ∷ []) {P = W.post y vunit} (
    suffices ! _ (ends_at 𝓛 f.ended stayed c y vunit tt (more, (tt, (tt, tt))) (tt, (tt, (tt, tt)))) $ says_two ! (refl, (refl, refl)) $
    feq_i ! (List Val) (vptr rb ro ∷ []) (vptr rb ro ∷ []) refl $ fjoin3 ! $
    nothing ! $ nothing ! $ join ! $ nothing ! $ join ! $ move ! (1 ∷ 0 ∷ []) $ join ! $ nothing ! $ move ! (2 ∷ 0 ∷ []) $ join ! $ frame ! $ frame ! $
    feq_i ! _ (vunit ∷ []) _ refl $ done !) in
    let none : h.content ≡ h.content ++ replicate 0 (pos 0) = sym (append-nil h.content) in
    let start : length h.content ≡ len + 0 = omega arith in
    enter ! _ _ _ _ _ $ alloc_all ! (λ l. pass_all ! refl ((tt, tt), ((tt, record { fits = fit_len }), ((tt, record { fits = fit }), tt))) $
    fsplit3 ! $ drop ! $ move ! (0 ∷ 1 ∷ 2 ∷ []) $ opens ! tt R rb ro (λ us.
    move ! (1 ∷ []) $ peeks ! R _ (shows 𝓛 R) h us (λ is. fsplit ! $ move ! (1 ∷ []) $
    in_a_block ! h.start (λ p. memory_owns p h.size h.content) (fst∗ 𝓤 (never 𝓤) (never 𝓤)) (λ b o e.
    fsplit ! $ use1 𝓛 (‵ (words_at h.content b o)) (array_out 𝓛 h.content b o) $ rewrite ! 0 (λ (ws : List ℤ). ‵ (words_at ws b o)) none refl $
    rewrite ! 1 (λ (k : ℕ). ‵ (froom (words_type (h.size - k)) b (o + k * 8))) start refl $
    let told = lowers.val_is h us is ∙ ap (λ (p : Ptr). lowers.lowered (record h { start = p }) ∷ []) e in
    let Cell = λ (ws : List Val). ‵ (cell_at full_share R.mir ws rb ro) in
    rewrite ! 3 Cell told refl $
    -- [the words; the room; what the field owns; the cell; the open borrow, in three entries]
    first ! $ blocks ! $
    sets ! (of_opd ! (load ! (through ! refl (fld ! refl (stop !))) (look_in ! 3 (sub ! 0 refl (whole !))))) refl (tt, tt) $
    sets ! (bin ! (get ! refl) (lit ! tt) (record { fits = far })) refl (tt, record { fits = far }) $
    sets ! (bin ! (get ! refl) (get ! refl) tt) refl (tt, tt) $
    sets ! (of_opd ! (lit ! tt)) refl (tt, record { fits = lit< tt }) $
    rewrite ! 3 Cell (sym told) refl $ forget_but ! (env (code.function).locals l) (3 ∷ 4 ∷ 5 ∷ []) refl $
    blocks ! $ loops ! 𝓣 (Nearer 𝓛 𝓣 κ q γ rb ro h us b o e len n lens le fit more refl refl refl (W.post y) exits) (InvImage.wf (λ (t : (i : ℕ) × (i ≤ n)). n - t.0) lt-wf_rel.wf)
    (Now 𝓛 𝓣 κ q γ rb ro h us b o e len n lens le fit more refl refl refl (W.post y) exits l) (turns 𝓛 𝓣 κ q γ rb ro h us b o e len n lens le fit more refl refl refl (W.post y) exits l) (0, omega arith)))))))
