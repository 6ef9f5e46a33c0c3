use Rattle.oz_epochs.proofs.Cited.{◌≡◌, ℕ, ◌+◌, ◌^◌, ◌<◌, List, [], ◌∷◌, refl, ap, subst, length, arith, pointer_in, pointer_out, after, times_below, proved, ftrue, flft, ◌⊑◌, fact, tables, yes, hidden_shr, mem, param, layouts, uint_vals, uint_Tells, RattleType, owns, Ptr, RawPtr, block_ptr, in_a_block, ptr_row_laws, Bor, shr_vals, shr_Tells, contraction, RefOf, usize, hide, unhide, plain, types_at, slice_val, heard, nothing, Stays, stay_dropped, walk_of, ends_at, says, Goes-dropped, inst_fn, a_type, named, w64, Val, alloc_all, pass_all, free_all, look_at, get, through, sets, sets_last, env, ‵, raw, ◌⊛◌, at_ret, ◌$◌, ◌∵◌, !, qed, done, move, keep, split, split3, join, fsplit, fjoin, feq_i, flt_l, flt_i, rewrite, suffices, agg, enter, of_opd, load, look, fld, stop, and_then, no_more, first, blocks, exec, returns}
use Rattle.oz_epochs.specs.RawBlock.{bytes, lent}
use Rattle.oz_epochs.specs.declared.raw_block.RawBlock.{RawBlock}
use Rattle.oz_epochs.specs.contracts.raw_block.RawBlock.items as f
use Rattle.oz_epochs.specs.contracts.raw_block.RawBlock.items.Key
use Rattle.oz_epochs.proofs.Held.{Row, nowhere}
use Rattle.oz_epochs.proofs.raw_block.RawBlock.items.Statement.{statement}
use Rattle.oz_epochs.proofs.raw_block.RawBlock.items.Code as code

abbrev stayed : (T : RattleType) → Stays (f.ended T).signature.params (f.ended T).kept
stayed T = (stay_dropped _ yes, (stay_dropped _ yes, tt))

pub items_spec : {M : Type 1} → statement M
items_spec 𝓤 𝓛 𝓜 𝓡 wired T L =
    let c = f.clauses T 𝓛 𝓜.mem 𝓡.returns in let W = walk_of 𝓛 (f.ended T) (stayed T) c in let 𝓣 = tables 𝓤 𝓛.H 𝓜 𝓡 𝓡.env in
    let R : RattleType = param 0 T in let fn = inst_fn (layouts (a_type ∷ []) (T, tt)) code.function in
    proved 𝓛 (f.ended T) (stayed T) c 𝓜 𝓡 (Goes-dropped 𝓛 2 (RefOf (0 ∷ []) tt (plain (λ _. Row R)) (λ _. tt)) yes (λ κs x w. refl), (Goes-dropped 𝓛 2 (plain (λ _. usize)) yes (λ κs x w. refl), tt))
    (Key.name (layouts (a_type ∷ []) (T, tt))) fn (code.unfolded 𝓤 𝓛.H 𝓜 𝓡 wired (T, tt))
    (λ κs. (shr_vals, (uint_vals w64, tt))) (λ κs. (shr_Tells (named 0) κs.0 (Row R), (uint_Tells w64, tt))) (λ κs qs bounds a g are.
    let p : RawBlock T.Denot = a.0.now in let n = a.1.0 in let b = a.0.ref_ptr.0 in let o = a.0.ref_ptr.1 in let κ = κs.0 in
    let y : W.Ghost = ((κs, qs, bounds, a, (shr_vals a.0, (uint_vals w64 n, tt))), g) in
    qed 𝓛 (((‵ (flft κ qs.0) ⊛ ‵ (flft κs.1.0 qs.1.0) ⊛ ‵ ftrue) ⊛ ‵ (owns (types_at (f.signature T).params κs) a y.0.4))
    ∷ (raw (fact 𝓤 (κs.1.0 ⊑ T.lives)) ⊛ raw (fact 𝓤 (0 < n)) ⊛ raw (fact 𝓤 (n ≡ length p.items))) ∷ []) ∵
    move ! (1 ∷ []) $ split3 ! $ move ! (1 ∷ 2 ∷ []) $ heard ! _ (λ full. heard ! _ (λ count.
    move ! (1 ∷ []) $ split ! $ split3 ! $ move ! (3 ∷ []) $ fsplit ! $ fsplit ! $ keep ! (1 ∷ 3 ∷ 4 ∷ []) $
    -- [what is seen of the items; the token of the loan; the token of the type]
    unhide ! $ fsplit ! $ fsplit ! $ fsplit ! $ keep ! (0 ∷ 3 ∷ 4 ∷ 5 ∷ []) $ hide ! $ move ! (1 ∷ []) $
    in_a_block ! p.start (λ s. lent R s p.items p.room κ) (nowhere 𝓛 (length p.items + p.room) (omega arith)) (λ b' o' e. fsplit ! $ flt_l ! (λ few.
    let start : Ptr = block_ptr b' o' in
    move ! (1 ∷ []) $ rewrite ! 0 (λ (s : Ptr). ‵ (hidden_shr RawPtr κ s b (o + 0))) e refl $ move ! (0 ∷ 2 ∷ []) $
    enter ! _ _ _ _ _ $ alloc_all ! (λ l. pass_all ! refl ((tt, tt), ((tt, record { fits = are.1.0.1 }), tt)) $
    pointer_in ! tt start tt b (o + 0) (contraction 𝓛 (RawPtr.shr_at start b (o + 0)) (ptr_row_laws start b (o + 0)) κ) (λ q.
    first ! $ blocks ! $ sets ! (of_opd ! (load ! (through ! refl (fld ! refl (stop !))) (look ! 1 refl))) refl (tt, tt) $
    sets_last ! (agg ! (and_then ! (get ! refl) (and_then ! (get ! refl) (no_more !)))) refl (tt, (tt, (record { fits = are.1.0.1 }, tt))) $
    exec ! 𝓣.C 𝓣.Λ (env fn.locals l) (after 1 fn.body) (at_ret _ (W.post y)) $
    sets ! (of_opd ! (get ! refl)) refl (tt, (tt, (record { fits = are.1.0.1 }, tt))) $
    pointer_out ! tt start tt b (o + 0) $ returns ! (look_at ! 0 refl) $ free_all ! refl $ keep ! (0 ∷ 2 ∷ 3 ∷ []) $
    let xs : List T.Denot = p.items in let slice : Bor (List T.Denot) = record { ref_ptr = (b', o'); now = xs } in
    -- [the token of the loan; what is seen of the items; the token of the type]
    suffices ! _ (ends_at 𝓛 (f.ended T) (stayed T) c y (slice_val (b', o') n) slice (tt, (tt, tt)) (tt, (tt, tt))) $ says ! refl $
    move ! (1 ∷ []) $ hide ! $ flt_i ! (bytes R (length xs)) (2 ^ 63) (times_below (length xs) (length xs + p.room) (mem R).size (2 ^ 63) (omega arith) few) $
    flt_i ! (length xs) (2 ^ 64) (subst (λ (k : ℕ). k < 2 ^ 64) count are.1.0.1) $ fjoin ! $
    feq_i ! (List Val) (slice_val (b', o') n ∷ []) (slice_val (b', o') (length xs) ∷ []) (ap (λ (k : ℕ). slice_val (b', o') k ∷ []) count) $ fjoin ! $ fjoin ! $
    nothing ! $ nothing ! $ join ! $ nothing ! $ join ! $ nothing ! $ move ! (4 ∷ 0 ∷ []) $ join ! $ move ! (3 ∷ 0 ∷ []) $ join ! $ done !)))))))
