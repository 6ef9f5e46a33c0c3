use Rattle.oz_epochs.proofs.Cited.{ftrue, flft, emp, id⊢, array_of, HasLayout, owned as owned_by, capped_fits, ◌⊑◌, fact, fact_i, tables, RefOf, usize, unit, yes, no, param, layouts, uint_vals, uint_Tells, uint_Makes, RattleType, owns, rawptr_Lawful, rawptr_vals, shr_vals, shr_Tells, plain, types_at, heard, nothing, RawPtr-laws, Tells-lowered, lawful, calls_at_last, triple_of, framed, Stays, stay_dropped, walk_of, ends_at, Goes-dropped, wider, lone, ltb→lt, align, capped, inst_fn, a_type, named, w64, Val, vunit, only, T as Holds, ty_unit, has_ty, WT, lands_last, alloc_all, pass_all, free_all, look_at, get, get_in, sets, env, ‵, raw, ◌⊛◌, at_ret, some, later, await, pick, ◌$◌, ◌∵◌, !, qed, done, move, keep, drop, use0, use1, use2, group, by, split, split3, join, fsplit, fjoin, feq_l, feq_i, flt_l, rewrite, suffices, whole, sub, enter, of_opd, lit, unit_lit, fld, stop, bin, align_word, and_then, no_more, first, blocks, branches, skips, exec, returns, ◌≡◌, ℕ, List, [], ◌∷◌, refl, sym, ap, subst, after, proved}
use Rattle.std.specs.contracts.impls.GlobalAllocator.deallocate as g
use Rattle.std.specs.contracts.alloc.Global as H
use Rattle.std.proofs.impls.GlobalAllocator.deallocate.Met.{met}
use Rattle.oz_epochs.specs.RawBlock.{bytes, fits, owned}
use Rattle.oz_epochs.specs.contracts.raw_block.RawBlock as C
use Rattle.oz_epochs.specs.contracts.raw_block.RawBlock.free as f
use Rattle.oz_epochs.specs.contracts.raw_block.RawBlock.free.Key
use Rattle.oz_epochs.proofs.Held.{counts, Row, word}
use Rattle.oz_epochs.proofs.Blocks.{free, emptied, laid}
use Rattle.oz_epochs.proofs.raw_block.RawBlock.free.Statement.{statement}
use Rattle.oz_epochs.proofs.raw_block.RawBlock.free.Code as code

abbrev stayed : (T : RattleType) → Stays (f.ended T).signature.params (f.ended T).kept
stayed T = (stay_dropped _ no, (stay_dropped _ yes, (stay_dropped _ yes, tt)))

pub free_spec : {M : Type 1} → statement M
free_spec 𝓤 𝓛 𝓜 𝓡 wired T L =
    let c = f.clauses T 𝓛 𝓜.mem 𝓡.returns in let W = walk_of 𝓛 (f.ended T) (stayed T) c in let 𝓣 = tables 𝓤 𝓛.H 𝓜 𝓡 𝓡.env in
    let R : RattleType = param 0 T in let fn = inst_fn (layouts (a_type ∷ []) (T, tt)) code.function in
    proved 𝓛 (f.ended T) (stayed T) c 𝓜 𝓡 (Goes-dropped 𝓛 2 (plain (λ _. Row R)) no (λ κs x w. refl), (Goes-dropped 𝓛 2 (RefOf (0 ∷ []) tt (plain (λ _. H.the_row)) (λ _. tt)) yes (λ κs x w. refl), (Goes-dropped 𝓛 2 (plain (λ _. usize)) yes (λ κs x w. refl), tt)))
    (Key.name (layouts (a_type ∷ []) (T, tt))) fn (code.unfolded 𝓤 𝓛.H 𝓜 𝓡 wired (T, tt))
    (λ κs. ((λ p. word p.start ∷ []), (shr_vals, (uint_vals w64, tt)))) (λ κs. (Tells-lowered (C.the_type R) (RawPtr-laws, tt), (shr_Tells (named 0) κs.0 H.the_row, (uint_Tells w64, tt)))) (λ κs qs bounds a h are.
    let p = a.0 in let alloc = a.1.0 in let n = a.1.1.0 in
    let y : W.Ghost = ((κs, qs, bounds, a, (word p.start ∷ [], (shr_vals alloc, (uint_vals w64 n, tt)))), h) in
    qed 𝓛 (((‵ (flft κs.0 qs.0) ⊛ ‵ (flft κs.1.0 qs.1.0) ⊛ ‵ ftrue) ⊛ ‵ (owns (types_at (f.signature T).params κs) a y.0.4))
    ∷ (raw (fact 𝓤 (κs.1.0 ⊑ T.lives)) ⊛ raw (fact 𝓤 (p.items ≡ [])) ⊛ raw (fact 𝓤 (n ≡ p.room))) ∷ []) ∵
    move ! (1 ∷ []) $ split3 ! $ move ! (1 ∷ 2 ∷ []) $ heard ! _ (λ empty. heard ! _ (λ count.
    move ! (1 ∷ []) $ split ! $ split3 ! $ move ! (3 ∷ []) $ fsplit ! $ fsplit ! $ move ! (2 ∷ []) $ fsplit ! $ keep ! (0 ∷ 3 ∷ 4 ∷ 5 ∷ []) $
    -- [the handle; what the block owns; its token; the token of the type]
    enter ! _ _ _ _ _ $ alloc_all ! (λ l. pass_all ! refl ((((lawful (C.the_type R) (RawPtr-laws, tt) 𝓛).typed p _ are.0).0), ((tt, tt), ((tt, record { fits = are.1.1.0.1 }), tt))) $
    let al : ℕ = capped (align (lone R.mir)) in let G = triple_of 𝓛 g.signature (g.spec 𝓛 𝓜.mem 𝓡.returns) in
    let z : G.Ghost = (((κs.0, tt), (qs.0, tt), tt, (alloc, (p.start, (bytes R n, (al, tt)))), (shr_vals alloc, (rawptr_vals p.start, (uint_vals w64 (bytes R n), (uint_vals w64 al, tt))))), array_of R n) in
    let ended = qed 𝓛 (‵ (flft κs.0 qs.0) ∷ ‵ (flft κs.1.0 qs.1.0) ∷ []) ∵
    nothing ! $ move ! (2 ∷ 0 ∷ []) $ join ! $ move ! (1 ∷ 0 ∷ []) $ join ! $ nothing ! $ nothing ! $ join ! $ nothing ! $ join ! $ nothing ! $ join ! $
    feq_i ! (List Val) (vunit ∷ []) (vunit ∷ []) refl $ move ! (2 ∷ 1 ∷ 0 ∷ []) $ group ! 3 $ nothing ! $ move ! (1 ∷ 0 ∷ []) $ done ! in
    let address = ((rawptr_Lawful 𝓛).typed p.start _ refl).0 in
    sets ! (of_opd ! (get_in ! (fld ! refl (stop !)) (sub ! 0 refl (whole !)))) refl address $
    sets ! (bin ! (lit ! tt) (get ! refl) tt) refl (tt, tt) $
    first ! $ branches ! (get ! refl)
    (λ yes. move ! (1 ∷ []) $ rewrite ! 0 (λ (xs : List T.Denot). ‵ (owned R p.start xs p.room)) empty refl $ rewrite ! 0 (λ (k : ℕ). ‵ (owned R p.start [] k)) (sym count) refl $
    use1 𝓛 (‵ (fits R n) ⊛ ‵ (free R p.start n)) (emptied 𝓛 R p.start n (ltb→lt 0 n yes)) $ split ! $ flt_l ! (λ few.
    -- [the block; the handle; its token; the token of the type]
    blocks ! $ sets ! (of_opd ! (get ! refl)) refl address $
    sets ! (counts ! R n few (get ! refl)) refl (tt, record { fits = wider (bytes R n) few }) $
    nothing ! $ owned_by ! usize _ (uint_Makes 𝓛 w64) al _ (refl, capped_fits (align (lone R.mir))) $ fjoin ! $ owned_by ! usize _ (uint_Makes 𝓛 w64) (bytes R n) _ (refl, wider (bytes R n) few) $ fjoin ! $
    feq_i ! (List Val) (rawptr_vals p.start) (rawptr_vals p.start) refl $ fjoin ! $ move ! (2 ∷ 0 ∷ []) $ fjoin ! $
    use0 𝓛 (raw (fact 𝓤 (HasLayout (array_of R n) (bytes R n) al))) (fact_i 𝓤 (HasLayout (array_of R n) (bytes R n) al) (emp 𝓤) (laid R n few)) $ move ! (0 ∷ 2 ∷ []) $ join ! $
    nothing ! $ move ! (3 ∷ 0 ∷ []) $ join ! $ move ! (0 ∷ 2 ∷ []) $ join ! $ move ! (0 ∷ 1 ∷ []) $ use2 𝓛 (raw (G.pre z)) (id⊢ 𝓤 _) $
    calls_at_last ! (framed 𝓤 𝓛.H 𝓜 𝓣) G (met 𝓤 𝓛 𝓜 𝓡 (code.calls-std_heap::GlobalAllocator::deallocate 𝓡.env wired)) z (and_then ! (get ! refl) (and_then ! (get ! refl) (and_then ! (get ! refl) (and_then ! (align_word !) (no_more !))))) (λ v.
    use1 𝓛 (later (some (λ (u : Unit {0}). ((‵ (flft κs.0 qs.0) ⊛ ‵ ftrue) ⊛ ‵ (unit.own_val u (v ∷ []))) ⊛ raw ((g.spec 𝓛 𝓜.mem 𝓡.returns z.0.0 z.0.3).ensures z.1 u)))) (id⊢ 𝓤 _) $ await ! tt $ pick ! (λ u.
    split ! $ split ! $ split ! $ move ! (1 ∷ 3 ∷ 2 ∷ []) $ drop ! $ drop ! $ feq_l ! (λ is_unit. lands_last ! refl (subst (λ (w : Val). Holds (has_ty ty_unit w) × WT w) (sym (ap only is_unit)) (tt, tt)) $
    exec ! 𝓣.C 𝓣.Λ (env fn.locals l) (after 3 fn.body) (at_ret _ (W.post y)) $ sets ! (of_opd ! (unit_lit !)) refl (tt, tt) $ returns ! (look_at ! 0 refl) $ free_all ! refl $ keep ! (0 ∷ 1 ∷ []) $
    suffices ! _ (ends_at 𝓛 (f.ended T) (stayed T) c y vunit tt (tt, (tt, (tt, tt))) (tt, (tt, (tt, tt)))) $ by ! ended)))))
    (λ no. skips ! $ exec ! 𝓣.C 𝓣.Λ (env fn.locals l) (after 3 fn.body) (at_ret _ (W.post y)) $ sets ! (of_opd ! (unit_lit !)) refl (tt, tt) $ returns ! (look_at ! 0 refl) $ free_all ! refl $ keep ! (2 ∷ 3 ∷ []) $
    suffices ! _ (ends_at 𝓛 (f.ended T) (stayed T) c y vunit tt (tt, (tt, (tt, tt))) (tt, (tt, (tt, tt)))) $ by ! ended)))))
