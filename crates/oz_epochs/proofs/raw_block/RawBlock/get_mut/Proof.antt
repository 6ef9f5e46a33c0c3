use Rattle.oz_epochs.proofs.Cited.{◌≡◌, ℕ, ◌+◌, ◌^◌, ◌<◌, List, [], ◌∷◌, ◌++◌, refl, sym, ap, length, arith, wider, after, times_below, proved, ftrue, flft, SProp, ◌⊑◌, fact, tables, usize, yes, no, mem, part_at, param, layouts, RattleType, owns, mut_vals, mut_Tells, uint_vals, uint_Tells, plain, types_at, heard, nothing, Stays, stay_dropped, walk_of, ends_at, Goes-dropped, inst_fn, a_type, named, w64, vptr, cells, add_comm, full_share, alloc_all, pass_all, free_all, look_at, get, through, sets, sets_last, env, ‵, some, pick, raw, ◌⊛◌, at_ret, ◌$◌, ◌∵◌, !, qed, done, move, keep, use1, use2, split, split3, join, fsplit, fsplit3, fjoin, flt_l, rewrite, suffices, whole, sub, look_in, enter, of_opd, load, fld, stop, bin, first, blocks, exec, returns, is, follows, lends_Part, MutBor, MutRef, says, Goes-spent_ref, GName, ent, sep, by, later, await, group, frame, sem, addr, slice_set, length-set}
use Rattle.oz_epochs.specs.RawBlock.{bytes}
use Rattle.oz_epochs.specs.declared.raw_block.RawBlock.{RawBlock}
use Rattle.oz_epochs.specs.contracts.raw_block.RawBlock.get_mut as f
use Rattle.oz_epochs.specs.contracts.raw_block.RawBlock.get_mut.Key
use Rattle.oz_epochs.proofs.Held.{counts, Row, opened, around, refilled}
use Rattle.oz_epochs.proofs.Last.{Parted, parted, one, apart, together}
use Rattle.oz_epochs.proofs.raw_block.RawBlock.get_mut.Statement.{statement}
use Rattle.oz_epochs.proofs.raw_block.RawBlock.get_mut.Code as code

abbrev stayed : (T : RattleType) → Stays (f.ended T).signature.params (f.ended T).kept
stayed T = (stay_dropped _ no, (stay_dropped _ yes, tt))

pub get_mut_spec : {M : Type 1} → statement M
get_mut_spec 𝓤 𝓛 𝓜 𝓡 wired T L =
    let c = f.clauses T 𝓛 𝓜.mem 𝓡.returns in let W = walk_of 𝓛 (f.ended T) (stayed T) c in let 𝓣 = tables 𝓤 𝓛.H 𝓜 𝓡 𝓡.env in
    let R : RattleType = param 0 T in let fn = inst_fn (layouts (a_type ∷ []) (T, tt)) code.function in
    proved 𝓛 (f.ended T) (stayed T) c 𝓜 𝓡 (Goes-spent_ref 𝓛 2 (0 ∷ []) tt (plain (λ _. Row R)), (Goes-dropped 𝓛 2 (plain (λ _. usize)) yes (λ κs x w. refl), tt))
    (Key.name (layouts (a_type ∷ []) (T, tt))) fn (code.unfolded 𝓤 𝓛.H 𝓜 𝓡 wired (T, tt))
    (λ κs. (mut_vals, (uint_vals w64, tt))) (λ κs. (mut_Tells (named 0) κs.0 (Row R), (uint_Tells w64, tt))) (λ κs qs bounds a g are.
    let p : RawBlock T.Denot = a.0.now in let n = a.1.0 in let b = a.0.ref_ptr.0 in let o = a.0.ref_ptr.1 in
    let y : W.Ghost = ((κs, qs, bounds, a, (mut_vals a.0, (uint_vals w64 n, tt))), g) in
    qed 𝓛 (((‵ (flft κs.0 qs.0) ⊛ ‵ (flft κs.1.0 qs.1.0) ⊛ ‵ ftrue) ⊛ ‵ (owns (types_at (f.signature T).params κs) a y.0.4))
    ∷ (raw (fact 𝓤 (κs.1.0 ⊑ T.lives)) ⊛ raw (fact 𝓤 (n < length p.items))) ∷ []) ∵
    move ! (1 ∷ []) $ split ! $ move ! (1 ∷ []) $ heard ! _ (λ within.
    move ! (1 ∷ []) $ split ! $ split3 ! $ move ! (3 ∷ []) $ fsplit ! $ fsplit3 ! $ keep ! (1 ∷ 2 ∷ 4 ∷ 5 ∷ []) $
    -- [the loan, in two parts; its token; the token of the type]
    enter ! _ _ _ _ _ $ alloc_all ! (λ l. pass_all ! refl ((tt, tt), ((tt, record { fits = are.1.0.1 }), tt)) $
    opened ! tt R p b o (omega arith) (λ b' o' e.
    let cut : Parted p.items n = parted p.items n within in let before : List T.Denot = cut.before in let after_it : List T.Denot = cut.after in
    let s : ℕ = one R in let at : ℕ = o' + bytes R n in let next : ℕ = at + s in let place : at ≡ o' + bytes R (length before) = ap (λ (k : ℕ). o' + bytes R k) cut.place in
    first ! $ blocks ! $ sets ! (of_opd ! (load ! (through ! refl (fld ! refl (stop !))) (look_in ! 0 (sub ! 0 refl (whole !))))) refl (tt, tt) $
    move ! (1 ∷ []) $ fsplit ! $ flt_l ! (λ few. fsplit ! $ move ! (2 ∷ 1 ∷ []) $ join ! $ move ! (1 ∷ []) $
    let below : bytes R n < 2 ^ 63 = times_below n (length p.items + p.room) s (2 ^ 63) (omega arith) few in
    rewrite ! 0 (λ (xs : List T.Denot). ‵ (cells (mem R) xs b' o')) cut.are refl $
    use1 𝓛 (‵ (cells (mem R) before b' o') ⊛ ‵ (cells (mem R) (cut.item ∷ after_it) b' at)) (apart 𝓛 R b' before (cut.item ∷ after_it) o' at place) $ split ! $ move ! (1 ∷ []) $ fsplit ! $
    -- [the item; those behind it; those before it; what is around them; the open loan, in three parts; the token of the type]
    let Around : SProp 𝓤 = around 𝓛 R p b o b' o' e in let Rest : SProp 𝓤 = sep 𝓤 (sem 𝓛 (cells (mem R) after_it b' next)) (sep 𝓤 (sem 𝓛 (cells (mem R) before b' o')) Around) in
    let with_item : T.Denot → RawBlock T.Denot = λ w. record p { items = slice_set p.items n w } in
    let back : (w : T.Denot) → ent 𝓤 (sep 𝓤 (sem 𝓛 (part_at R full_share w b' at)) Rest) (sem 𝓛 (part_at (Row R) full_share (with_item w) b o)) = λ w.
    qed 𝓛 (‵ (part_at R full_share w b' at) ∷ (‵ (cells (mem R) after_it b' next) ⊛ ‵ (cells (mem R) before b' o') ⊛ raw Around) ∷ []) ∵
    move ! (1 ∷ []) $ split3 ! $ move ! (3 ∷ 0 ∷ []) $ fjoin ! $ move ! (1 ∷ 0 ∷ []) $ use2 𝓛 (‵ (cells (mem R) (before ++ w ∷ after_it) b' o')) (together 𝓛 R b' before (w ∷ after_it) o' at place) $
    rewrite ! 0 (λ (xs : List T.Denot). ‵ (cells (mem R) xs b' o')) (sym (cut.changed w)) refl $ by ! (refilled 𝓛 R p b o b' o' e few (slice_set p.items n w) (length-set p.items n w)) in
    let item : GName → MutBor T.Denot = λ γ. record { ref_ptr = (b', at); ghost_name = γ; now = cut.item } in
    move ! (1 ∷ 2 ∷ 3 ∷ []) $ group ! 3 $ move ! (2 ∷ 3 ∷ 4 ∷ 1 ∷ 0 ∷ []) $ group ! 5 $
    use1 𝓛 (later (some (λ (γ : GName). ‵ ((MutRef (named 0) κs.0 R).own_val (item γ) (vptr b' at ∷ [])) ⊛ ‵ (flft κs.0 qs.0) ⊛ ‵ (follows (Row R) R a.0.ghost_name γ with_item))))
    (lends_Part 𝓛 (Row R) R with_item (named 0) κs.0 qs.0 b o b' at a.0.ghost_name Rest back _ _ cut.item) $ await ! tt $ pick ! (λ γ. split3 ! $
    -- [the loan of the item; the token of the block's loan; what the block ends as; the token of the type]
    sets ! (counts ! R n below (get ! refl)) refl (tt, record { fits = wider (bytes R n) below }) $
    sets ! (is ! (bin ! (get ! refl) (get ! refl) tt) (ap (vptr b') (add_comm (bytes R n) o'))) refl (tt, tt) $ sets_last ! (addr ! (through ! refl (stop !))) refl (tt, tt) $
    exec ! 𝓣.C 𝓣.Λ (env fn.locals l) (after 1 fn.body) (at_ret _ (W.post y)) $ sets ! (of_opd ! (get ! refl)) refl (tt, tt) $ returns ! (look_at ! 0 refl) $ free_all ! refl $
    suffices ! _ (ends_at 𝓛 (f.ended T) (stayed T) c y (vptr b' at) (item γ) (tt, (tt, tt)) (tt, (tt, tt))) $
    nothing ! $ move ! (4 ∷ 0 ∷ []) $ join ! $ move ! (2 ∷ 0 ∷ []) $ join ! $ nothing ! $ nothing ! $ join ! $ nothing ! $ join ! $ move ! (1 ∷ 0 ∷ []) $
    group ! 3 $ frame ! $ says ! cut.there $ done !))))))
