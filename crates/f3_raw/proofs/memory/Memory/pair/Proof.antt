-- `pair` lends the second run, which the memory follows, and shares the first for as long. Assumes `Logic`.
use Rattle.std.proofs.Common.{◌≡◌, ℕ, ◌+◌, ◌-◌, ◌*◌, ◌^◌, ◌<◌, ◌≤◌, ℤ, List, [], ◌∷◌, length, take, refl, sym, ap, ◌∙◌, arith, w64}
use Rattle.std.proofs.lemmas.List.{take_all}
use Rattle.std.proofs.mem.Facts.{says_two}
use Rattle.std.proofs.raw_atomic.Walks.{proved}
use Rattle.std.proofs.VecSteps.Shapes.{after}
use seplogic.Ra.Ura.{Ura}
use base.Fraction.{full_share}
use base.Logic.{SProp, ent, sep, ex, never, fst∗}
use base.Fml.{Lft, GName, Share, Fml, ftrue, fsep, flft, fobs, fauth, fbor, fobor, fseps, froom, fhide, Incl-refl}
use contract.Monad.{fact}
use contract.Running.{tables}
use mir.Syntax.{named}
use mir.Val.{Val}
use types.Follow.{takes_beside}
use types.Kit.{‵, raw, ◌⊛◌, some, later, at_ret, ◌$◌, ◌∵◌, !, qed, done, move, keep, drop, use1, use2, use3, split, split3, join, fsplit, fsplit3, fjoin, feq_i, feq_l, flt_i, fpack, rewrite, suffices, frame, group, show, await, pick, updating, now as at_once}
use types.Logic.{Logic, sem}
use types.Part.{whole, sub, look_in, agg}
use types.Run.{enter, of_opd, lit, bin, addr, load, from, hop, fld, stop, and_then, no_more, first, blocks, exec, returns}
use types.ByLocal.{alloc_all, pass_all, free_all, look_at, look_in_at, get, get_in, through, sets, sets_last, env}
use types.SemTy.{SemTy, Arr, cells, Body as Borrowed}
use denote.Array.{Array}
use denote.Builtin.{i64, usize}
use denote.Copied.{sint_Copied}
use denote.Exit.{yes, no}
use denote.Follow.{follows}
use denote.FollowSlice.{slice_of}
use denote.Index.{whole_in, whole_out}
use denote.Laws.{shows}
use denote.Memory.{cell_at, part_at, part_of, mem, shared_of}
use denote.Opens.{hide}
use denote.Plain.{uint_vals, uint_Tells}
use denote.RattleType.{RattleType}
use denote.RawPtr.{Ptr, block_ptr, in_a_block}
use denote.Ref.{Bor, MutBor, MutRef, mut_vals, mut_Tells}
use denote.Shares.{Shares-Array}
use denote.Signature.{plain, mut_ref_to}
use denote.Slice.{MutSlice, ShrSlice, Room, slice_val, elements_shared}
use denote.Steps.{nothing, opens, peeks, heard}
use denote.Struct.Owning.{shape}
use denote.Struct.Struct.{Struct}
use denote.Struct.Tuple.{Tuple}
use denote.Triple.Walked.{Stays, walk_of, stay_dropped, Goes-dropped, Goes-spent_ref, ends_at}
use Rattle.f3_raw.specs.Memory.{memory_with}
use Rattle.f3_raw.specs.Ownership.{words_type, memory_owns}
use Rattle.f3_raw.specs.Words.{overwritten, length-overwritten, Apart}
use Rattle.f3_raw.specs.contracts.memory.Memory as C
use Rattle.f3_raw.specs.contracts.memory.Memory.{the_row as R}
use Rattle.f3_raw.specs.contracts.memory.Memory.pair as f
use Rattle.f3_raw.proofs.Parts.{run, length-run, is_range, Parted, parted}
use Rattle.f3_raw.proofs.Rows.{words_at, array_out, array_in}
use Rattle.f3_raw.proofs.Values.{pair_of, pair_val}
use Rattle.f3_raw.proofs.memory.Memory.TheLaws.{lowers}
use Rattle.f3_raw.proofs.memory.Memory.pair.Statement.{statement}
use Rattle.f3_raw.proofs.memory.Memory.pair.Code as code

abbrev Field : RattleType
Field = Struct (shape C.the_type)

module _ {M : Type 1} {𝓤 : Ura M} (𝓛 : Logic 𝓤) (κ : Lft) (q : Share) (γ : GName) (rb ro : ℕ) (h : R.Denot) (us : List Val) (a n c m : ℕ) (le : a + n ≤ length h.content) (le' : c + m ≤ length h.content)
    (b o : ℕ) (at_b : h.start ≡ block_ptr b o) (cut : Parted 𝓛 b o h.content a n c m) where
  open 𝓛 use {H, A}

  abbrev xs : List ℤ
  xs = run h.content a n

  abbrev ys : List ℤ
  ys = run h.content c m

  -- the first run, and what lies around the two
  abbrev First : Fml
  First = part_at (Array i64 (length xs)) full_share xs b (a * 8 + o)

  abbrev Beside : Fml
  Beside = fsep (froom (words_type (h.size - length h.content)) b (o + length h.content * 8)) (fsep (Field.own_val (h.start, tt) us) (cell_at full_share R.mir us rb ro))

  abbrev Rest : SProp 𝓤
  Rest = sep 𝓤 cut.rest (sem 𝓛 Beside)

  abbrev Items : SemTy
  Items = Arr (mem i64) (length ys)

  again : (ws : List ℤ) → ent 𝓤 (sep 𝓤 (sem 𝓛 (Items.own_at ws b (c * 8 + o))) (sep 𝓤 (sem 𝓛 (fseps (First ∷ []))) Rest)) (sem 𝓛 ((mem R).own_at (memory_with h c (take m ws)) rb ro))
  unfolding fseps part_of
  again ws =
      let all = overwritten h.content c (take m ws) in
      let from : 0 * 8 + o ≡ o = omega arith in
      qed 𝓛 (‵ (Items.own_at ws b (c * 8 + o)) ∷ (‵ First ⊛ ‵ ftrue) ∷ (raw cut.rest ⊛ ‵ Beside) ∷ []) ∵ fsplit ! $ feq_l ! (λ e.
      use1 𝓛 (‵ (words_at ws b (c * 8 + o))) (whole_out 𝓛 i64 ws b (c * 8 + o)) $ move ! (1 ∷ []) $ split ! $ use1 𝓛 (‵ (words_at xs b (a * 8 + o))) (array_out 𝓛 xs b (a * 8 + o)) $ move ! (3 ∷ []) $ split ! $
      -- [the rest; all but the words; the first run; nothing; the second]
      move ! (4 ∷ 2 ∷ 0 ∷ []) $ use3 𝓛 (‵ (words_at (overwritten h.content c ws) b (0 * 8 + o))) (cut.back ws (e ∙ length-run h.content c m le')) $
      rewrite ! 0 (λ (k : ℕ). ‵ (words_at (overwritten h.content c ws) b k)) from refl $
      rewrite ! 0 (λ (zs : List ℤ). ‵ (words_at (overwritten h.content c zs) b o)) (sym (take_all m ws (omega (arith, e, length-run h.content c m le')))) refl $ use1 𝓛 (‵ (part_at (Array i64 (length all)) full_share all b o)) (array_in 𝓛 all b o) $
      move ! (1 ∷ []) $ fsplit ! $ move ! (1 ∷ []) $ fsplit ! $
      rewrite ! 2 (λ (k : ℕ). ‵ (froom (words_type (h.size - k)) b (o + k * 8))) (sym (length-overwritten h.content c (take m ws))) refl $
      move ! (3 ∷ 2 ∷ []) $ fjoin ! $ rewrite ! 0 (λ (p : Ptr). ‵ (memory_owns p h.size all)) (sym at_b) refl $
      move ! (1 ∷ 0 ∷ []) $ fjoin ! $ move ! (1 ∷ 0 ∷ []) $ fjoin ! $
      fpack ! (List Val) (λ vs. fsep (cell_at full_share R.mir vs rb ro) (R.own_val (memory_with h c (take m ws)) vs)) us $ keep ! (0 ∷ []) $ done !)

  abbrev Got : GName → SProp 𝓤
  Got δ = sep 𝓤 (sem 𝓛 ((MutSlice (named 0) κ i64).own_val (record { ref_ptr = (b, c * 8 + o); ghost_name = δ; now = ys }) (slice_val (b, c * 8 + o) (length ys) ∷ [])))
      (sep 𝓤 (sem 𝓛 (fhide (elements_shared i64 xs b (a * 8 + o) κ))) (sep 𝓤 (A.lft κ q) (sem 𝓛 (follows R (Array i64 0) γ δ (λ (ws : List ℤ). memory_with h c (take m ws))))))

  lends : Room i64 (length ys)
      → ent 𝓤 (sep 𝓤 (A.obor κ q (Borrowed (mem R) rb ro γ)) (sep 𝓤 (A.obs γ (R.coded.code h)) (sep 𝓤 (A.auth γ (R.coded.code h)) (sep 𝓤 (sem 𝓛 (words_at ys b (c * 8 + o))) (sep 𝓤 (sem 𝓛 (words_at xs b (a * 8 + o))) Rest))))) (H.⇛ (ex 𝓤 Got))
  unfolding fseps
  lends room =
      qed 𝓛 (‵ (fobor κ q (Borrowed (mem R) rb ro γ)) ∷ ‵ (fobs γ (R.coded.code h)) ∷ ‵ (fauth γ (R.coded.code h)) ∷ ‵ (words_at ys b (c * 8 + o)) ∷ ‵ (words_at xs b (a * 8 + o)) ∷ (raw cut.rest ⊛ ‵ Beside) ∷ []) ∵ updating ! $
      move ! (4 ∷ []) $ use1 𝓛 (‵ First) (array_in 𝓛 xs b (a * 8 + o)) $ nothing ! $ move ! (1 ∷ 0 ∷ []) $ fjoin ! $
      move ! (4 ∷ []) $ use1 𝓛 (‵ (cells (mem i64) ys b (c * 8 + o))) (whole_in 𝓛 i64 ys b (c * 8 + o)) $ feq_i ! ℕ (length ys) (length ys) refl $ fjoin ! $
      -- [the second run; the first; the open borrow; obs; auth; the rest]
      move ! (2 ∷ 3 ∷ 4 ∷ 0 ∷ 1 ∷ []) $ group ! 6 $
      use1 𝓛 (later (some (λ (δ : GName). ‵ (fobs δ (Items.coded.code ys)) ⊛ ‵ (fbor κ (Borrowed Items b (c * 8 + o) δ)) ⊛ ‵ (flft κ q) ⊛ ‵ (follows R (Array i64 0) γ δ (λ (ws : List ℤ). memory_with h c (take m ws))) ⊛ ‵ (fbor κ First) ⊛ ‵ ftrue)))
      (takes_beside 𝓛 (mem R) Items (λ (ws : List ℤ). memory_with h c (take m ws)) κ q rb ro b (c * 8 + o) γ (First ∷ []) Rest again (R.coded.code h) (R.coded.code h) ys) $ await ! tt $ pick ! (λ δ. split3 ! $
      use2 𝓛 (‵ ((MutSlice (named 0) κ i64).own_val (record { ref_ptr = (b, c * 8 + o); ghost_name = δ; now = ys }) (slice_val (b, c * 8 + o) (length ys) ∷ []))) (slice_of 𝓛 i64 (named 0) κ b (c * 8 + o) δ ys room) $
      move ! (1 ∷ []) $ split3 ! $ move ! (2 ∷ []) $ split ! $
      -- [the first run's borrow; nothing; the token; what follows; the slice]
      move ! (0 ∷ 2 ∷ []) $ use2 𝓛 (later (‵ (shared_of (Array i64 (length xs)) xs b (a * 8 + o) κ) ⊛ ‵ (flft κ q)))
      (Shares-Array 𝓛 i64 tt (length xs) κ ((sint_Copied 𝓛 w64).shares full_share κ) xs κ ((κ, q) ∷ []) b (a * 8 + o) (Incl-refl κ) (Incl-refl κ)) $ await ! tt $ split ! $
      fsplit ! $ drop ! $ hide ! $ at_once ! $ show ! Got δ $ keep ! (4 ∷ 0 ∷ 1 ∷ 3 ∷ []) $ done !)

abbrev stayed : Stays f.ended.signature.params f.ended.kept
stayed = (stay_dropped (mut_ref_to (0 ∷ []) tt (plain (λ _. R))) no, (stay_dropped (plain (λ _. usize)) yes, (stay_dropped (plain (λ _. usize)) yes, (stay_dropped (plain (λ _. usize)) yes, (stay_dropped (plain (λ _. usize)) yes, tt)))))

pub pair_spec : {M : Type 1} → statement M
pair_spec 𝓤 𝓛 𝓜 𝓡 wired =
    let spec = f.clauses 𝓛 𝓜.mem 𝓡.returns in let W = walk_of 𝓛 f.ended stayed spec in let 𝓣 = tables 𝓤 𝓛.H 𝓜 𝓡 𝓡.env in
    let goes = Goes-dropped 𝓛 1 (plain (λ _. usize)) yes (λ κs x w. refl) in
    proved 𝓛 f.ended stayed spec 𝓜 𝓡 (Goes-spent_ref 𝓛 1 (0 ∷ []) tt (plain (λ _. R)), (goes, (goes, (goes, (goes, tt)))))
    f.Key.name code.function (code.unfolded 𝓤 𝓛.H 𝓜 𝓡 wired)
    (λ κs. (mut_vals, (uint_vals w64, (uint_vals w64, (uint_vals w64, (uint_vals w64, tt)))))) (λ κs. (mut_Tells (named 0) κs.0 R, (uint_Tells w64, (uint_Tells w64, (uint_Tells w64, (uint_Tells w64, tt)))))) (λ κs qs bounds args _ are.
    let κ = κs.0 in let q = qs.0 in let rb = args.0.ref_ptr.0 in let ro = args.0.ref_ptr.1 in let γ = args.0.ghost_name in let h = args.0.now in
    let a = args.1.0 in let n = args.1.1.0 in let c = args.1.1.1.0 in let m = args.1.1.1.1.0 in
    let vss : List Val × (List Val × (List Val × (List Val × (List Val × Unit {0})))) = (mut_vals args.0, (uint_vals w64 a, (uint_vals w64 n, (uint_vals w64 c, (uint_vals w64 m, tt))))) in
    let y : W.Ghost = ((κs, qs, bounds, args, vss), tt) in
    let Below : Type 0 = (a + n ≤ length h.content) × (c + m ≤ length h.content) in
    qed 𝓛 (((‵ (flft κ q) ⊛ ‵ ftrue) ⊛ ‵ ((MutRef (named 0) κ R).own_val args.0 vss.0) ⊛ ‵ (usize.own_val a vss.1.0) ⊛ ‵ (usize.own_val n vss.1.1.0) ⊛ ‵ (usize.own_val c vss.1.1.1.0) ⊛ ‵ (usize.own_val m vss.1.1.1.1.0) ⊛ ‵ ftrue)
    ∷ (raw (fact 𝓤 Below) ⊛ raw (fact 𝓤 (Apart a n c m))) ∷ []) ∵
    move ! (1 ∷ []) $ split ! $ heard ! Below (λ below. heard ! (Apart a n c m) (λ apart. split ! $ split ! $ move ! (2 ∷ []) $ split ! $ keep ! (0 ∷ 2 ∷ []) $
    let le = below.0 in let le' = below.1 in
    let fit_a = are.1.0.1 in let fit_n = are.1.1.0.1 in let fit_c = are.1.1.1.0.1 in let fit_m = are.1.1.1.1.0.1 in
    let far_a : a * 8 < 2 ^ 64 = omega (arith, h.fits, h.small) in
    let far_c : c * 8 < 2 ^ 64 = omega (arith, h.fits, h.small) in
    let xs = run h.content a n in let ys = run h.content c m in
    let long_x : length xs ≡ n = length-run h.content a n le in
    let long_y : length ys ≡ m = length-run h.content c m le' in
    let room_y : Room i64 (length ys) = (omega arith, omega (arith, h.fits, h.small)) in
    enter ! _ _ _ _ _ $ alloc_all ! (λ l. pass_all ! refl ((tt, tt), ((tt, record { fits = fit_a }), ((tt, record { fits = fit_n }), ((tt, record { fits = fit_c }), ((tt, record { fits = fit_m }), tt))))) $
    fsplit3 ! $ move ! (1 ∷ 2 ∷ 3 ∷ []) $ opens ! tt R rb ro (λ us.
    move ! (1 ∷ []) $ peeks ! R _ (shows 𝓛 R) h us (λ is. fsplit ! $ move ! (1 ∷ []) $
    in_a_block ! h.start (λ p. memory_owns p h.size h.content) (fst∗ 𝓤 (never 𝓤) (never 𝓤)) (λ b o e.
    fsplit ! $ use1 𝓛 (‵ (words_at h.content b o)) (array_out 𝓛 h.content b o) $
    let told = lowers.val_is h us is ∙ ap (λ (p : Ptr). lowers.lowered (record h { start = p }) ∷ []) e in
    let Cell = λ (ws : List Val). ‵ (cell_at full_share R.mir ws rb ro) in
    rewrite ! 3 Cell told refl $
    -- [the words; the room; what the field owns; the cell; the open borrow, in three entries]
    first ! $ blocks ! $
    sets ! (of_opd ! (load ! (through ! refl (fld ! refl (stop !))) (look_in ! 3 (sub ! 0 refl (whole !))))) refl (tt, tt) $
    sets ! (bin ! (get ! refl) (lit ! tt) (record { fits = far_a })) refl (tt, record { fits = far_a }) $
    sets ! (bin ! (get ! refl) (get ! refl) tt) refl (tt, tt) $
    sets ! (agg ! (and_then ! (get ! refl) (and_then ! (get ! refl) (no_more !)))) refl (tt, (tt, (record { fits = fit_n }, tt))) $
    sets ! (of_opd ! (load ! (through ! refl (fld ! refl (stop !))) (look_in ! 3 (sub ! 0 refl (whole !))))) refl (tt, tt) $
    sets ! (bin ! (get ! refl) (lit ! tt) (record { fits = far_c })) refl (tt, record { fits = far_c }) $
    sets ! (bin ! (get ! refl) (get ! refl) tt) refl (tt, tt) $
    sets ! (agg ! (and_then ! (get ! refl) (and_then ! (get ! refl) (no_more !)))) refl (tt, (tt, (record { fits = fit_m }, tt))) $
    sets ! (addr ! (from ! (fld ! refl (hop ! (look_in_at ! 7 (sub ! 0 refl (whole !))) (stop !))))) refl (tt, tt) $
    sets ! (agg ! (and_then ! (get ! refl) (and_then ! (get_in ! (fld ! refl (stop !)) (sub ! 1 refl (whole !))) (no_more !)))) refl (tt, (tt, (record { fits = fit_m }, tt))) $
    sets_last ! (agg ! (and_then ! (get ! refl) (and_then ! (get ! refl) (no_more !)))) refl (tt, ((tt, (record { fits = fit_n }, tt)), ((tt, (record { fits = fit_m }, tt)), tt))) $
    exec ! 𝓣.C 𝓣.Λ (env code.Mir.locals l) (after 1 (code.function).body) (at_ret _ (W.post y)) $
    sets ! (of_opd ! (get ! refl)) refl (tt, ((tt, (record { fits = fit_n }, tt)), ((tt, (record { fits = fit_m }, tt)), tt))) $
    rewrite ! 3 Cell (sym told) refl $
    let cut = parted 𝓛 b o h.content a n c m le le' apart in
    let at_x : ℕ × ℕ = (b, a * 8 + o) in let at_y : ℕ × ℕ = (b, c * 8 + o) in
    let Shr = ShrSlice (named 0) κ i64 in let Mut = MutSlice (named 0) κ i64 in
    let first : Bor (List ℤ) = record { ref_ptr = at_x; now = xs } in
    let second : GName → MutBor (List ℤ) = λ δ. record { ref_ptr = at_y; ghost_name = δ; now = ys } in
    let v : Val = pair_val (slice_val at_x n) (slice_val at_y m) in
    let from : o ≡ 0 * 8 + o = omega arith in
    rewrite ! 0 (λ (k : ℕ). ‵ (words_at h.content b k)) from refl $
    use1 𝓛 (‵ (words_at xs b (a * 8 + o)) ⊛ ‵ (words_at ys b (c * 8 + o)) ⊛ raw cut.rest) cut.out $ split3 ! $
    -- [the first run; the second; what is around them; the room; what the field owns; the cell; the open borrow, in three entries]
    move ! (4 ∷ 5 ∷ []) $ fjoin ! $ move ! (4 ∷ 0 ∷ []) $ fjoin ! $ move ! (3 ∷ 0 ∷ []) $ join ! $ move ! (3 ∷ 4 ∷ 5 ∷ 2 ∷ 1 ∷ 0 ∷ []) $ group ! 6 $
    use1 𝓛 (later (some (λ (δ : GName). ‵ (Mut.own_val (second δ) (slice_val at_y (length ys) ∷ [])) ⊛ ‵ (fhide (elements_shared i64 xs b (a * 8 + o) κ)) ⊛ ‵ (flft κ q) ⊛ ‵ (follows R (Array i64 0) γ δ (λ (ws : List ℤ). memory_with h c (take m ws))))))
    (lends 𝓛 κ q γ rb ro h us a n c m le le' b o e cut room_y) $ await ! tt $ pick ! (λ δ.
    returns ! (look_at ! 0 refl) $ free_all ! refl $ split3 ! $
    rewrite ! 0 (λ (k : ℕ). ‵ (Mut.own_val (second δ) (slice_val at_y k ∷ []))) long_y refl $ move ! (1 ∷ []) $
    flt_i ! (length xs * 8) (2 ^ 63) (omega (arith, h.fits, h.small)) $ flt_i ! (length xs) (2 ^ 64) (omega arith) $ fjoin ! $
    feq_i ! (List Val) (slice_val at_x n ∷ []) (slice_val at_x (length xs) ∷ []) (ap (λ k. slice_val at_x k ∷ []) (sym long_x)) $ fjoin ! $ fjoin ! $
    use2 𝓛 (‵ ((Tuple (Shr ∷ Mut ∷ [])).own_val (first, second δ) (v ∷ []))) (pair_of 𝓛 Shr Mut first (second δ) (slice_val at_x n) (slice_val at_y m)) $ move ! (1 ∷ []) $ split ! $ move ! (2 ∷ []) $
    -- [the pair; the token; what follows]
    suffices ! _ (ends_at 𝓛 f.ended stayed spec y v (first, second δ) (tt, (tt, (tt, (tt, (tt, tt))))) (tt, (tt, (tt, (tt, (tt, tt)))))) $
    nothing ! $ nothing ! $ fjoin ! $ nothing ! $ fjoin ! $ nothing ! $ fjoin ! $ nothing ! $ fjoin ! $ nothing ! $ fjoin ! $ join ! $ nothing ! $ move ! (2 ∷ 0 ∷ []) $ join ! $ join ! $ frame ! $
    says_two ! (is_range h.content a n, is_range h.content c m) $ keep ! (0 ∷ []) $ done !))))))))
