use Rattle.oz_epochs.proofs.Cited.{◌≡◌, ℕ, suc, ◌+◌, ◌-◌, ◌^◌, ◌<◌, List, [], ◌∷◌, ◌++◌, refl, sym, ap, subst, length, arith, wider, after, says_two, one as single, times_below, proved_at, array_of, Fml, ftrue, flft, froom, SProp, ◌⊑◌, fact, tables, usize, yes, no, lone, mem, part_at, param, layouts, param_laws, RattleType, owns, mut_vals, plain, types_at, heard, nothing, Stays, stay_ref, stay_dropped, walk_of, ends_at, Goes-ref, Goes-dropped, length-append, inst_fn, a_type, w64, Val, vint, vptr, vunit, part_in, close_ref, cells, add_comm, full_share, WpFn, alloc_all, pass_all, free_all, look_at, get, through, sets, env, ‵, raw, prop, ◌⊛◌, at_ret, ◌$◌, ◌∵◌, !, qed, done, move, keep, use1, use2, split, split3, join, fsplit, fsplit3, fjoin, fjoin3, feq_i, flt_l, flt_i, rewrite, regoal, suffices, whole, sub, look_in, enter, of_opd, load, fld, stop, bin, unit_lit, init, assigns_last, first, blocks, exec, returns, is}
use Rattle.oz_epochs.specs.RawBlock.{bytes, past}
use Rattle.oz_epochs.specs.declared.raw_block.RawBlock.{RawBlock}
use Rattle.oz_epochs.specs.contracts.raw_block.RawBlock.put as f
use Rattle.oz_epochs.specs.contracts.raw_block.RawBlock.put.Key
use Rattle.oz_epochs.proofs.Held.{counts, Row, opened, together as joined}
use Rattle.oz_epochs.proofs.Last.{one, beyond, beyond_is, together, room_apart}
use Rattle.oz_epochs.proofs.raw_block.RawBlock.put.Statement.{statement}
use Rattle.oz_epochs.proofs.raw_block.RawBlock.put.Code as code

abbrev stayed : (T : RattleType) → Stays (f.ended T).signature.params (f.ended T).kept
stayed T = (stay_ref (0 ∷ []) tt (plain (λ _. Row (param 0 T))), (stay_dropped _ yes, (stay_dropped _ no, tt)))

pub put_spec : {M : Type 1} → statement M
put_spec 𝓤 𝓛 𝓜 𝓡 wired T L =
    let c = f.clauses T 𝓛 𝓜.mem 𝓡.returns in let W = walk_of 𝓛 (f.ended T) (stayed T) c in let 𝓣 = tables 𝓤 𝓛.H 𝓜 𝓡 𝓡.env in
    let R : RattleType = param 0 T in let fn = inst_fn (layouts (a_type ∷ []) (T, tt)) code.function in
    proved_at 𝓛 (f.ended T) (stayed T) c 𝓜 𝓡 (Goes-ref 𝓛 2 0 tt (plain (λ _. Row R)), (Goes-dropped 𝓛 2 (plain (λ _. usize)) yes (λ κs x w. refl), (Goes-dropped 𝓛 2 (plain (λ _. R)) no (λ κs x w. refl), tt)))
    (Key.name (layouts (a_type ∷ []) (T, tt))) fn (code.unfolded 𝓤 𝓛.H 𝓜 𝓡 wired (T, tt)) (λ y are.
    let κs = y.0.0 in let qs = y.0.1 in let a = y.0.3 in let vss = y.0.4 in
    let p : RawBlock T.Denot = a.0.now in let n = a.1.0 in let item = a.1.1.0 in let b = a.0.ref_ptr.0 in let o = a.0.ref_ptr.1 in
    let word = single (record { row = T; laws = L }) vss.1.1.0 (((param_laws 0 T L).lawful 𝓛).typed item vss.1.1.0 are.1.1.0) in
    let v : Val = word.0 in
    let given : ◌≡◌ {A = List Val × (List Val × List Val)} (vss.0, (vss.1.0, vss.1.1.0)) (mut_vals a.0, (vint w64 n ∷ [], v ∷ [])) = λ i. (are.0.0 i, (are.1.0.0 i, word.1 i)) in
    let given' : List Val × (List Val × List Val) = (mut_vals a.0, (vint w64 n ∷ [], v ∷ [])) in
    let Post : List Val × (List Val × List Val) → Val → SProp 𝓤 = λ z. W.post ((κs, qs, y.0.2, a, (z.0, (z.1.0, (z.1.1, tt)))), y.1) in
    qed 𝓛 (((‵ (flft κs.0 qs.0) ⊛ ‵ (flft κs.1.0 qs.1.0) ⊛ ‵ ftrue) ⊛ ‵ (owns (types_at (f.signature T).params κs) a vss))
    ∷ (raw (fact 𝓤 (κs.1.0 ⊑ T.lives)) ⊛ raw (fact 𝓤 (n ≡ length p.items)) ⊛ raw (fact 𝓤 (0 < p.room))) ∷ []) ∵
    move ! (1 ∷ []) $ split3 ! $ move ! (1 ∷ 2 ∷ []) $ heard ! _ (λ count. heard ! _ (λ free.
    move ! (1 ∷ []) $ split ! $ split3 ! $ move ! (3 ∷ []) $ fsplit ! $ fsplit3 ! $ move ! (3 ∷ []) $ fsplit ! $ move ! (1 ∷ []) $ fsplit ! $ keep ! (4 ∷ 5 ∷ 6 ∷ 7 ∷ 0 ∷ []) $
    rewrite ! 4 (λ (us : List Val). ‵ (R.own_val item us)) word.1 refl $
    regoal ! (λ (z : List Val × (List Val × List Val)). prop (WpFn 𝓤 𝓛.H 𝓣.C 𝓣.Λ fn (z.0 ++ (z.1.0 ++ (z.1.1 ++ []))) (Post z))) given refl $
    -- [the loan, in two parts; its token; the token of the type; the item]
    enter ! _ _ _ _ _ $ alloc_all ! (λ l. pass_all ! refl ((tt, tt), ((tt, record { fits = are.1.0.1 }), (word.2, tt))) $
    opened ! tt R p b o (omega arith) (λ b' o' e. move ! (1 ∷ []) $ fsplit ! $ flt_l ! (λ few. fsplit ! $ move ! (1 ∷ []) $
    let s : ℕ = one R in let at : ℕ = o' + bytes R n in let room : ℕ = p.room - 1 in let left : p.room ≡ suc room = omega arith in
    let items : List T.Denot = p.items ++ item ∷ [] in let longer : length items ≡ length p.items + 1 = length-append p.items (item ∷ []) in let q : RawBlock T.Denot = record p { items = items; room = room } in
    let below : bytes R n < 2 ^ 63 = times_below n (length p.items + p.room) s (2 ^ 63) (omega arith) few in
    rewrite ! 0 (λ (k : ℕ). ‵ (past R b' o' k p.room)) (sym count) refl $ rewrite ! 0 (λ (k : ℕ). ‵ (past R b' o' n k)) left refl $ fsplit ! $
    use1 𝓛 (‵ (froom (lone R.mir) b' at) ⊛ ‵ (froom (array_of R room) b' (at + s))) (room_apart 𝓛 R b' at room) $ split ! $
    -- [the place; those behind it; the right to the block; the items; the word; the open loan, in three parts; the token of the type; the item]
    first ! $ blocks ! $ sets ! (of_opd ! (load ! (through ! refl (fld ! refl (stop !))) (look_in ! 4 (sub ! 0 refl (whole !))))) refl (tt, tt) $
    sets ! (counts ! R n below (get ! refl)) refl (tt, record { fits = wider (bytes R n) below }) $
    sets ! (is ! (bin ! (get ! refl) (get ! refl) tt) (ap (vptr b') (add_comm (bytes R n) o'))) refl (tt, tt) $ sets ! (of_opd ! (get ! refl)) refl word.2 $
    assigns_last ! (of_opd ! (get ! refl)) (through ! refl (stop !)) (init ! 0 refl word.2) $
    exec ! 𝓣.C 𝓣.Λ (env fn.locals l) (after 1 fn.body) (at_ret _ (Post given')) $ move ! (0 ∷ 9 ∷ []) $
    use2 𝓛 (‵ (part_at R full_share item b' at)) (part_in 𝓛 R refl full_share item b' at v) $ nothing ! $ move ! (1 ∷ 0 ∷ []) $ fjoin ! $ move ! (3 ∷ 0 ∷ []) $
    use2 𝓛 (‵ (cells (mem R) items b' o')) (together 𝓛 R b' p.items (item ∷ []) o' at (ap (λ (k : ℕ). o' + bytes R k) count)) $ move ! (1 ∷ 2 ∷ []) $ fjoin ! $
    rewrite ! 0 (λ (k : ℕ). ‵ (beyond R b' o' k room)) count refl $ rewrite ! 0 (λ (F : Fml). ‵ F) (sym (beyond_is R b' o' room p.items item)) refl $ move ! (1 ∷ 0 ∷ []) $ fjoin ! $
    flt_i ! (bytes R (length items + room)) (2 ^ 63) (subst (λ (k : ℕ). bytes R k < 2 ^ 63) (omega arith) few) $ fjoin ! $ move ! (1 ∷ 0 ∷ []) $
    use2 𝓛 (‵ (part_at (Row R) full_share q b o)) (joined 𝓛 R q b o b' o' e) $ close_ref ! tt (mem (Row R)) q $
    -- [the loan, in two parts; its token; the token of the type]
    sets ! (of_opd ! (unit_lit !)) refl (tt, tt) $ returns ! (look_at ! 0 refl) $ free_all ! refl $
    suffices ! _ (ends_at 𝓛 (f.ended T) (stayed T) c ((κs, qs, y.0.2, a, (mut_vals a.0, (vint w64 n ∷ [], (v ∷ [], tt)))), y.1) vunit tt (q, (tt, (tt, tt))) (tt, (tt, (tt, tt)))) $ says_two ! (refl, omega arith) $
    feq_i ! (List Val) (mut_vals a.0) (mut_vals a.0) refl $ fjoin3 ! $ nothing ! $ nothing ! $ fjoin ! $ nothing ! $ fjoin ! $ move ! (1 ∷ 0 ∷ []) $ fjoin ! $
    nothing ! $ move ! (3 ∷ 0 ∷ []) $ join ! $ move ! (2 ∷ 0 ∷ []) $ join ! $ feq_i ! (List Val) (vunit ∷ []) (vunit ∷ []) refl $ move ! (1 ∷ 2 ∷ 0 ∷ []) $ done !))))))
