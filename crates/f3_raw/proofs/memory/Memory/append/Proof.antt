-- `append` writes the first place of the room. Assumes `Logic`.
use Rattle.std.proofs.Common.{◌≡◌, ℕ, ◌+◌, ◌-◌, ◌*◌, ◌^◌, ◌<◌, List, [], ◌∷◌, ◌++◌, length, length-append, refl, sym, ap, ◌∙◌, arith, w64}
use Rattle.std.proofs.raw_atomic.Walks.{proved}
use Rattle.std.proofs.VecSteps.Shapes.{after}
use base.Fraction.{full_share}
use base.Logic.{never, fst∗}
use base.Fml.{ftrue, flft, froom}
use contract.Monad.{fact}
use contract.Running.{tables}
use mir.Syntax.{ty_int, named}
use mir.Val.{Val, vunit, SFits}
use mir.ValLaws.{of_z_fits}
use types.Kit.{‵, raw, ◌⊛◌, at_ret, ◌$◌, ◌∵◌, !, qed, done, move, keep, use1, use3, split, join, fsplit, fsplit3, fjoin, feq_i, rewrite, suffices, frame, group}
use types.Part.{whole, sub, look_in}
use types.Run.{enter, of_opd, lit, unit_lit, bin, load, stop, fld, init, assigns_last, first, blocks, exec, returns}
use types.ByLocal.{alloc_all, pass_all, free_all, look_at, get, through, sets, env}
use denote.Builtin.{i64, usize}
use denote.Exit.{yes}
use denote.Laws.{shows}
use denote.Memory.{cell_at}
use denote.Plain.{uint_vals, uint_Tells}
use denote.RawPtr.{Ptr, block_ptr, in_a_block}
use denote.Ref.{MutRef, mut_vals, mut_Tells}
use denote.Signature.{plain}
use denote.Signed.{sint_vals, sint_Tells}
use denote.Steps.{nothing, opens, closes, peeks, heard}
use denote.Triple.Walked.{Stays, walk_of, stay_ref, Goes-ref, stay_dropped, Goes-dropped, ends_at}
use Rattle.std.proofs.mem.Facts.{says_two}
use Rattle.f3_raw.specs.Ownership.{words_type, memory_owns}
use Rattle.f3_raw.specs.contracts.memory.Memory.{the_row as R}
use Rattle.f3_raw.specs.contracts.memory.Memory.append as f
use Rattle.f3_raw.proofs.Rows.{words_at, array_out, spare_out, appended}
use Rattle.f3_raw.proofs.memory.Memory.TheLaws.{lowers}
use Rattle.f3_raw.proofs.memory.Memory.append.Statement.{statement}
use Rattle.f3_raw.proofs.memory.Memory.append.Code as code

abbrev stayed : Stays f.ended.signature.params f.ended.kept
stayed = (stay_ref (0 ∷ []) tt (plain (λ _. R)), (stay_dropped (plain (λ _. usize)) yes, (stay_dropped (plain (λ _. i64)) yes, tt)))

pub append_spec : {M : Type 1} → statement M
append_spec 𝓤 𝓛 𝓜 𝓡 wired =
    let c = f.clauses 𝓛 𝓜.mem 𝓡.returns in let W = walk_of 𝓛 f.ended stayed c in let 𝓣 = tables 𝓤 𝓛.H 𝓜 𝓡 𝓡.env in
    proved 𝓛 f.ended stayed c 𝓜 𝓡 (Goes-ref 𝓛 1 0 tt (plain (λ _. R)), (Goes-dropped 𝓛 1 (plain (λ _. usize)) yes (λ κs x w. refl), (Goes-dropped 𝓛 1 (plain (λ _. i64)) yes (λ κs x w. refl), tt)))
    f.Key.name code.function (code.unfolded 𝓤 𝓛.H 𝓜 𝓡 wired)
    (λ κs. (mut_vals, (uint_vals w64, (sint_vals w64, tt)))) (λ κs. (mut_Tells (named 0) κs.0 R, (uint_Tells w64, (sint_Tells w64, tt)))) (λ κs qs bounds a _ are.
    let b = a.0.ref_ptr.0 in let o = a.0.ref_ptr.1 in let h = a.0.now in let n = a.1.0 in let word = a.1.1.0 in
    let vss : List Val × (List Val × (List Val × Unit {0})) = (mut_vals a.0, (uint_vals w64 n, (sint_vals w64 word, tt))) in
    let y : W.Ghost = ((κs, qs, bounds, a, vss), tt) in
    let bounded : SFits w64 word = record { sfits = are.1.1.0.1 } in let good = of_z_fits w64 word bounded in
    let Asked : Type 0 = (n ≡ length h.content) × (n < h.size) in
    qed 𝓛 (((‵ (flft κs.0 qs.0) ⊛ ‵ ftrue) ⊛ ‵ ((MutRef (named 0) κs.0 R).own_val a.0 vss.0) ⊛ ‵ (usize.own_val n vss.1.0) ⊛ ‵ (i64.own_val word vss.1.1.0) ⊛ ‵ ftrue) ∷ raw (fact 𝓤 Asked) ∷ []) ∵
    move ! (1 ∷ []) $ heard ! Asked (λ asked. split ! $ split ! $ move ! (2 ∷ []) $ split ! $ keep ! (0 ∷ 2 ∷ []) $
    let lens = asked.0 in let less = asked.1 in
    let far : n * 8 < 2 ^ 64 = omega (arith, h.small) in
    let long : length (h.content ++ word ∷ []) ≡ n + 1 = omega (arith, length-append h.content (word ∷ [])) in
    let more : R.Denot = record { start = h.start; size = h.size; content = h.content ++ word ∷ []; fits = omega arith; small = h.small } in
    enter ! _ _ _ _ _ $ alloc_all ! (λ l. pass_all ! refl ((tt, tt), ((tt, record { fits = are.1.0.1 }), ((tt, good), tt))) $
    fsplit3 ! $ move ! (1 ∷ 2 ∷ 3 ∷ []) $ opens ! tt R b o (λ us.
    move ! (1 ∷ []) $ peeks ! R _ (shows 𝓛 R) h us (λ is. fsplit ! $ move ! (1 ∷ []) $
    in_a_block ! h.start (λ p. memory_owns p h.size h.content) (fst∗ 𝓤 (never 𝓤) (never 𝓤)) (λ b' o' e.
    fsplit ! $ use1 𝓛 (‵ (words_at h.content b' o')) (array_out 𝓛 h.content b' o') $
    rewrite ! 1 (λ (k : ℕ). ‵ (froom (words_type (h.size - k)) b' (o' + k * 8))) (sym lens) refl $ move ! (1 ∷ []) $
    use1 𝓛 (‵ (froom (ty_int w64) b' (n * 8 + o')) ⊛ ‵ (froom (words_type (h.size - (n + 1))) b' (o' + (n + 1) * 8))) (spare_out 𝓛 n h.size b' o' less) $ split ! $
    let told = lowers.val_is h us is ∙ ap (λ (p : Ptr). lowers.lowered (record h { start = p }) ∷ []) e in
    let Cell = λ (ws : List Val). ‵ (cell_at full_share R.mir ws b o) in
    rewrite ! 4 Cell told refl $
    -- [the place; the room after it; the words; what the field owns; the cell; the open borrow, in three entries]
    first ! $ blocks ! $
    sets ! (of_opd ! (load ! (through ! refl (fld ! refl (stop !))) (look_in ! 4 (sub ! 0 refl (whole !))))) refl (tt, tt) $
    sets ! (bin ! (get ! refl) (lit ! tt) (record { fits = far })) refl (tt, record { fits = far }) $
    sets ! (bin ! (get ! refl) (get ! refl) tt) refl (tt, tt) $
    assigns_last ! (of_opd ! (get ! refl)) (through ! refl (stop !)) (init ! 0 refl (tt, good)) $
    exec ! 𝓣.C 𝓣.Λ (env code.Mir.locals l) (after 1 (code.function).body) (at_ret _ (W.post y)) $
    sets ! (of_opd ! (unit_lit !)) refl (tt, tt) $
    rewrite ! 4 Cell (sym told) refl $ move ! (2 ∷ 0 ∷ 1 ∷ []) $
    use3 𝓛 (‵ (memory_owns (block_ptr b' o') h.size (h.content ++ word ∷ []))) (appended 𝓛 n h.size b' o' h.content word (sym lens) are.1.1.0.1) $
    rewrite ! 0 (λ (p : Ptr). ‵ (memory_owns p h.size (h.content ++ word ∷ []))) (sym e) refl $ move ! (1 ∷ 0 ∷ []) $ fjoin ! $ move ! (1 ∷ 0 ∷ []) $ closes ! tt R more us b o $
    -- [two parts of self; the token; self's first part]
    returns ! (look_at ! 0 refl) $ free_all ! refl $ move ! (3 ∷ []) $
    suffices ! _ (ends_at 𝓛 f.ended stayed c y vunit tt (more, (tt, (tt, tt))) (tt, (tt, (tt, tt)))) $ says_two ! (refl, (refl, refl)) $
    group ! 3 $ nothing ! $ nothing ! $ join ! $ nothing ! $ join ! $ move ! (1 ∷ 0 ∷ []) $ join ! $ nothing ! $ move ! (2 ∷ 0 ∷ []) $ join ! $ frame ! $ frame ! $
    feq_i ! _ (vunit ∷ []) _ refl $ done !))))))
