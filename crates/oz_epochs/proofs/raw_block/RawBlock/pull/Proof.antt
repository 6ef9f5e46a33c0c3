use Rattle.oz_epochs.proofs.Cited.{◌≡◌, ℕ, suc, ◌+◌, ◌^◌, ◌<◌, List, [], ◌∷◌, ◌++◌, refl, sym, ap, subst, length, arith, wider, after, says_two, times_below, proved, array_of, Fml, ftrue, fat, flft, froom, ◌⊑◌, fact, tables, usize, yes, lone, mem, part_at, param, layouts, RattleType, owns, block_ptr, mut_vals, mut_Tells, uint_vals, uint_Tells, plain, types_at, heard, nothing, Stays, stay_ref, stay_dropped, walk_of, ends_at, Goes-ref, Goes-dropped, length-append, inst_fn, a_type, named, w64, Val, vptr, part_out, close_ref, cells, add_comm, full_share, alloc_all, pass_all, free_all, look_at, get, through, sets, sets_last, env, ‵, some, pick, raw, ◌⊛◌, at_ret, ◌$◌, ◌∵◌, !, qed, done, move, keep, drop, use1, use2, split, split3, join, fsplit, fsplit3, fjoin, fjoin3, feq_i, flt_l, flt_i, rewrite, suffices, whole, sub, look_in, enter, of_opd, load, fld, stop, bin, look, well_typed, forget, first, blocks, exec, returns, is}
use Rattle.oz_epochs.specs.RawBlock.{bytes, past, owned}
use Rattle.oz_epochs.specs.declared.raw_block.RawBlock.{RawBlock}
use Rattle.oz_epochs.specs.contracts.raw_block.RawBlock.pull as f
use Rattle.oz_epochs.specs.contracts.raw_block.RawBlock.pull.Key
use Rattle.oz_epochs.proofs.Held.{counts, Row, opened, together as joined}
use Rattle.oz_epochs.proofs.Last.{ends, one, beyond, beyond_is, apart, room_together}
use Rattle.oz_epochs.proofs.raw_block.RawBlock.pull.Statement.{statement}
use Rattle.oz_epochs.proofs.raw_block.RawBlock.pull.Code as code

abbrev stayed : (T : RattleType) → Stays (f.ended T).signature.params (f.ended T).kept
stayed T = (stay_ref (0 ∷ []) tt (plain (λ _. Row (param 0 T))), (stay_dropped _ yes, tt))

pub pull_spec : {M : Type 1} → statement M
pull_spec 𝓤 𝓛 𝓜 𝓡 wired T L =
    let c = f.clauses T 𝓛 𝓜.mem 𝓡.returns in let W = walk_of 𝓛 (f.ended T) (stayed T) c in let 𝓣 = tables 𝓤 𝓛.H 𝓜 𝓡 𝓡.env in
    let R : RattleType = param 0 T in let fn = inst_fn (layouts (a_type ∷ []) (T, tt)) code.function in
    proved 𝓛 (f.ended T) (stayed T) c 𝓜 𝓡 (Goes-ref 𝓛 2 0 tt (plain (λ _. Row R)), (Goes-dropped 𝓛 2 (plain (λ _. usize)) yes (λ κs x w. refl), tt))
    (Key.name (layouts (a_type ∷ []) (T, tt))) fn (code.unfolded 𝓤 𝓛.H 𝓜 𝓡 wired (T, tt))
    (λ κs. (mut_vals, (uint_vals w64, tt))) (λ κs. (mut_Tells (named 0) κs.0 (Row R), (uint_Tells w64, tt))) (λ κs qs bounds a g are.
    let p : RawBlock T.Denot = a.0.now in let n = a.1.0 in let b = a.0.ref_ptr.0 in let o = a.0.ref_ptr.1 in
    let y : W.Ghost = ((κs, qs, bounds, a, (mut_vals a.0, (uint_vals w64 n, tt))), g) in
    qed 𝓛 (((‵ (flft κs.0 qs.0) ⊛ ‵ (flft κs.1.0 qs.1.0) ⊛ ‵ ftrue) ⊛ ‵ (owns (types_at (f.signature T).params κs) a y.0.4))
    ∷ (raw (fact 𝓤 (κs.1.0 ⊑ T.lives)) ⊛ raw (fact 𝓤 (n + 1 ≡ length p.items))) ∷ []) ∵
    move ! (1 ∷ []) $ split ! $ move ! (1 ∷ []) $ heard ! _ (λ count.
    move ! (1 ∷ []) $ split ! $ split3 ! $ move ! (3 ∷ []) $ fsplit ! $ fsplit3 ! $ keep ! (1 ∷ 2 ∷ 4 ∷ 5 ∷ []) $
    -- [the loan, in two parts; its token; the token of the type]
    enter ! _ _ _ _ _ $ alloc_all ! (λ l. pass_all ! refl ((tt, tt), ((tt, record { fits = are.1.0.1 }), tt)) $
    opened ! tt R p b o (omega arith) (λ b' o' e. move ! (1 ∷ []) $
    let cut = ends p.items (omega arith) in let items : List T.Denot = cut.0 in let item : T.Denot = cut.1.0 in
    let longer : length (items ++ item ∷ []) ≡ length items + 1 = length-append items (item ∷ []) in
    let same : length p.items ≡ length (items ++ item ∷ []) = ap length cut.1.1 in let before : n ≡ length items = omega arith in
    let room : ℕ = p.room in let s : ℕ = one R in let at : ℕ = o' + bytes R n in let q : RawBlock T.Denot = record p { items = items; room = suc room } in
    rewrite ! 0 (λ (xs : List T.Denot). ‵ (owned R (block_ptr b' o') xs room)) cut.1.1 refl $ fsplit ! $ flt_l ! (λ few. fsplit ! $
    let below : bytes R n < 2 ^ 63 = times_below n (length (items ++ item ∷ []) + room) s (2 ^ 63) (omega arith) few in
    use1 𝓛 (‵ (cells (mem R) items b' o') ⊛ ‵ (cells (mem R) (item ∷ []) b' at)) (apart 𝓛 R b' items (item ∷ []) o' at (ap (λ (k : ℕ). o' + bytes R k) before)) $ split ! $ move ! (1 ∷ []) $ fsplit ! $ move ! (1 ∷ []) $ drop ! $ move ! (1 ∷ 0 ∷ []) $ move ! (2 ∷ []) $
    rewrite ! 0 (λ (F : Fml). ‵ F) (beyond_is R b' o' room items item) refl $ rewrite ! 0 (λ (k : ℕ). ‵ (beyond R b' o' k room)) (sym before) refl $ fsplit ! $ move ! (3 ∷ []) $
    use1 𝓛 (some (λ (v : Val). ‵ (fat full_share (lone R.mir) b' at v) ⊛ ‵ (R.own_val item (v ∷ [])))) (part_out 𝓛 R refl full_share item b' at) $ pick ! (λ v. split ! $ well_typed ! (λ ok.
    -- [the item's word; the item; the room behind it; the right to the block; the other items; the word; the open loan, in three parts; the token of the type]
    first ! $ blocks ! $ sets ! (of_opd ! (load ! (through ! refl (fld ! refl (stop !))) (look_in ! 5 (sub ! 0 refl (whole !))))) refl (tt, tt) $
    sets ! (counts ! R n below (get ! refl)) refl (tt, record { fits = wider (bytes R n) below }) $
    sets ! (is ! (bin ! (get ! refl) (get ! refl) tt) (ap (vptr b') (add_comm (bytes R n) o'))) refl (tt, tt) $
    sets_last ! (of_opd ! (load ! (through ! refl (stop !)) (look ! 0 refl))) refl ok $
    exec ! 𝓣.C 𝓣.Λ (env fn.locals l) (after 1 fn.body) (at_ret _ (W.post y)) $ sets ! (of_opd ! (get ! refl)) refl ok $
    forget ! 0 refl $ move ! (0 ∷ 2 ∷ []) $ use2 𝓛 (‵ (froom (array_of R (suc room)) b' at)) (room_together 𝓛 R b' at room) $ move ! (0 ∷ 2 ∷ []) $ fjoin ! $
    rewrite ! 0 (λ (k : ℕ). ‵ (past R b' o' k (suc room))) before refl $ move ! (2 ∷ 0 ∷ []) $ fjoin ! $
    flt_i ! (bytes R (length items + suc room)) (2 ^ 63) (subst (λ (k : ℕ). bytes R k < 2 ^ 63) (omega arith) few) $ fjoin ! $ move ! (2 ∷ 0 ∷ []) $
    use2 𝓛 (‵ (part_at (Row R) full_share q b o)) (joined 𝓛 R q b o b' o' e) $ move ! (0 ∷ 2 ∷ 3 ∷ 4 ∷ []) $ close_ref ! tt (mem (Row R)) q $
    -- [the loan, in two parts; its token; the item; the token of the type]
    returns ! (look_at ! 0 refl) $ free_all ! refl $
    suffices ! _ (ends_at 𝓛 (f.ended T) (stayed T) c y v item (q, (tt, tt)) (tt, (tt, tt))) $ says_two ! (cut.1.1, omega arith) $
    feq_i ! (List Val) (mut_vals a.0) (mut_vals a.0) refl $ fjoin3 ! $ nothing ! $ nothing ! $ fjoin ! $ move ! (1 ∷ 0 ∷ []) $ fjoin ! $
    nothing ! $ move ! (4 ∷ 0 ∷ []) $ join ! $ move ! (2 ∷ 0 ∷ []) $ join ! $ done !)))))))
