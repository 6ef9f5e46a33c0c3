use Rattle.oz_epochs.proofs.Cited.{ftrue, flft, emp, ex, never, fst∗, id⊢, Fml, lasts, array_of, FitsBlock, owned as owned_by, ◌⊑◌, fact, fact_i, tables, RefOf, usize, yes, param, layouts, uint_vals, uint_Tells, uint_Makes, RattleType, owns, Ptr, rawptr_vals, shr_vals, shr_Tells, mut_vals, mut_Tells, plain, types_at, heard, nothing, calls_at_last, triple_of, framed, Stays, stay_ref, stay_dropped, Goes-ref, walk_of, ends_at, says, Goes-dropped, lone, size, inst_fn, a_type, named, w64, Val, T as Holds, has_ty, WT, full_share, mem, part_at, block_ptr, null_ptr, sem, close_ref, agg, store_in, assigns, switches, MatchResult, fobs, fbor, Is, Body, Bool, layout, look_in, load, times_below, ffalse, fsep, lands_last, get_tag, through, sets_last, alloc_all, pass_all, free_all, look_at, get, get_in, sets, is as same, env, ‵, raw, ◌⊛◌, at_ret, some, later, await, pick, ◌$◌, ◌∵◌, !, qed, done, move, keep, drop, use0, use1, use2, by, split, split3, join, fsplit, fsplit3, fjoin, fjoin3, feq_i, rewrite, suffices, whole, sub, enter, of_opd, lit, unit_lit, fld, stop, and_then, no_more, first, blocks, exec, returns, true, false, ◌≡◌, ℕ, ◌+◌, ◌^◌, ◌<◌, ◌≤◌, ◌-◌, List, [], ◌∷◌, refl, sym, subst, length, arith, lit<, after, proved, Answer, answer_val, Answer-typed, Flagged, by_flag, flagged, resized_if_ok, ghosts, Ok, Err, vrt, in_variant}
use Rattle.oz_epochs.specs.declared.raw_block.RawBlock.{RawBlock}
use Rattle.std.specs.contracts.impls.GlobalAllocator.grow as g
use Rattle.std.specs.contracts.alloc.Global as H
use Rattle.std.proofs.impls.GlobalAllocator.grow.Met.{met}
use Rattle.oz_epochs.specs.RawBlock.{bytes, owned}
use Rattle.oz_epochs.specs.contracts.raw_block.RawBlock.widen as f
use Rattle.oz_epochs.specs.contracts.raw_block.RawBlock.widen.Key
use Rattle.oz_epochs.proofs.Held.{Row, opened, together}
use Rattle.oz_epochs.proofs.Blocks.{Taken, taken, ok, refused, is_ok, is_refused}
use Rattle.oz_epochs.proofs.raw_block.RawBlock.widen.Statement.{statement}
use Rattle.oz_epochs.proofs.raw_block.RawBlock.widen.Code as code
use Rattle.oz_epochs.specs.RawBlock.{heap}
use Rattle.oz_epochs.proofs.Packed.{block, packed, unpacked}

abbrev stayed : (T : RattleType) → Stays (f.ended T).signature.params (f.ended T).kept
stayed T = (stay_ref (0 ∷ []) tt (plain (λ _. Row (param 0 T))), (stay_dropped _ yes, (stay_dropped _ yes, (stay_dropped _ yes, (stay_dropped _ yes, tt)))))

pub widen_spec : {M : Type 1} → statement M
widen_spec 𝓤 𝓛 𝓜 𝓡 wired T L =
    let c = f.clauses T 𝓛 𝓜.mem 𝓡.returns in let W = walk_of 𝓛 (f.ended T) (stayed T) c in let 𝓣 = tables 𝓤 𝓛.H 𝓜 𝓡 𝓡.env in
    let R : RattleType = param 0 T in let fn = inst_fn (layouts (a_type ∷ []) (T, tt)) code.function in
    let number = Goes-dropped 𝓛 3 (plain (λ _. usize)) yes (λ κs x w. refl) in
    proved 𝓛 (f.ended T) (stayed T) c 𝓜 𝓡 (Goes-ref 𝓛 3 0 tt (plain (λ _. Row R)), (Goes-dropped 𝓛 3 (RefOf (1 ∷ []) tt (plain (λ _. H.the_row)) (λ _. tt)) yes (λ κs x w. refl), (number, (number, (number, tt)))))
    (Key.name (layouts (a_type ∷ []) (T, tt))) fn (code.unfolded 𝓤 𝓛.H 𝓜 𝓡 wired (T, tt))
    (λ κs. (mut_vals, (shr_vals, (uint_vals w64, (uint_vals w64, (uint_vals w64, tt)))))) (λ κs. (mut_Tells (named 0) κs.0 (Row R), (shr_Tells (named 1) κs.1.0 H.the_row, (uint_Tells w64, (uint_Tells w64, (uint_Tells w64, tt)))))) (λ κs qs bounds a h are.
    let p = a.0.now in let alloc = a.1.0 in let n = a.1.1.0 in let old = a.1.1.1.0 in let new = a.1.1.1.1.0 in let b = a.0.ref_ptr.0 in let o = a.0.ref_ptr.1 in
    let κ = κs.1.0 in let q = qs.1.0 in let κT = κs.1.1.0 in let qT = qs.1.1.0 in
    let y : W.Ghost = ((κs, qs, bounds, a, (mut_vals a.0, (shr_vals alloc, (uint_vals w64 n, (uint_vals w64 old, (uint_vals w64 new, tt)))))), h) in
    let ended = λ (now : RawBlock T.Denot) (r : Taken.Denot) (w : Val) (is : Is Taken r (w ∷ [])) (so : MatchResult r (λ _. (now.items ≡ p.items) × (n + now.room ≡ new)) (λ _. now ≡ p)).
    qed 𝓛 (‵ (fobs a.0.ghost_name ((Row R).coded.code now)) ∷ ‵ (fbor κs.0 (Body (mem (Row R)) b o a.0.ghost_name)) ∷ ‵ (flft κs.0 qs.0) ∷ ‵ (flft κ q) ∷ ‵ (flft κT qT) ∷ []) ∵
    suffices ! _ (ends_at 𝓛 (f.ended T) (stayed T) c y w r (now, (tt, (tt, (tt, (tt, tt))))) (tt, (tt, (tt, (tt, (tt, tt)))))) $ says ! so $
    feq_i ! (List Val) (mut_vals a.0) (mut_vals a.0) refl $ fjoin3 ! $ nothing ! $ nothing ! $ fjoin ! $ nothing ! $ fjoin ! $ nothing ! $ fjoin ! $ nothing ! $ fjoin ! $ move ! (1 ∷ 0 ∷ []) $ fjoin ! $
    nothing ! $ move ! (4 ∷ 0 ∷ []) $ join ! $ move ! (3 ∷ 0 ∷ []) $ join ! $ move ! (2 ∷ 0 ∷ []) $ join ! $
    owned_by ! Taken (Is Taken) (taken 𝓛) r (w ∷ []) is $ move ! (1 ∷ 2 ∷ 0 ∷ []) $ done ! in
    qed 𝓛 (((‵ (flft κs.0 qs.0) ⊛ ‵ (flft κ q) ⊛ ‵ (flft κT qT) ⊛ ‵ ftrue) ⊛ ‵ (owns (types_at (f.signature T).params κs) a y.0.4))
    ∷ (raw (fact 𝓤 (κT ⊑ T.lives)) ⊛ raw (fact 𝓤 (n ≡ length p.items)) ⊛ raw (fact 𝓤 (old ≡ length p.items + p.room)) ⊛ raw (fact 𝓤 ((0 < old) × (old ≤ new) × FitsBlock R new))) ∷ []) ∵
    move ! (1 ∷ []) $ split ! $ heard ! _ (λ lives. split3 ! $ heard ! _ (λ count. heard ! _ (λ before. heard ! _ (λ sizes.
    split ! $ split3 ! $ move ! (2 ∷ []) $ split ! $ move ! (4 ∷ []) $ fsplit ! $ fsplit3 ! $ move ! (3 ∷ []) $ fsplit ! $ keep ! (3 ∷ 4 ∷ 7 ∷ 0 ∷ 8 ∷ 5 ∷ []) $
    -- [the loan, in two parts; its token; the handle; its token; the token of the type]
    enter ! _ _ _ _ _ $ alloc_all ! (λ l. pass_all ! refl ((tt, tt), ((tt, tt), ((tt, record { fits = are.1.1.0.1 }), ((tt, record { fits = are.1.1.1.0.1 }), ((tt, record { fits = are.1.1.1.1.0.1 }), tt))))) $
    opened ! tt R p b o (omega (arith, sizes.0)) (λ b' o' e.
    let items : List T.Denot = p.items in let here : Ptr = block_ptr b' o' in let left : Answer.Denot → Fml = resized_if_ok (ghosts.dealloc_token heap) R here n old new items in
    let typed : (y : Bool) (b o : ℕ) (v : Val) → v ≡ answer_val y b o → Holds (has_ty (layout Answer) v) × WT v = λ y b o v is. subst (λ (w : Val). Holds (has_ty (layout Answer) w) × WT w) (sym is) (Answer-typed y b o) in
    let G = triple_of 𝓛 (g.signature T) (g.spec T 𝓛 𝓜.mem 𝓡.returns) in
    let z : G.Ghost = (((κ, (κT, tt)), (q, (qT, tt)), tt, (alloc, (here, (n, (old, (new, tt))))), (shr_vals alloc, (rawptr_vals here, (uint_vals w64 n, (uint_vals w64 old, (uint_vals w64 new, tt)))))), items) in
    first ! $ blocks ! $ sets ! (of_opd ! (load ! (through ! refl (fld ! refl (stop !))) (look_in ! 0 (sub ! 0 refl (whole !))))) refl (tt, tt) $ move ! (1 ∷ []) $
    use1 𝓛 (‵ (block R here n old items)) (packed 𝓛 R items n old count b' o' p.room before) $
    -- [the block; the word; the open loan, in three parts; the handle; its token; the token of the type]
    let le : n ≤ new = omega (arith, sizes.1) in let fit : (n ≤ old) × (old ≤ new) × FitsBlock R new = (omega arith, sizes.1, sizes.2) in
    let few : bytes R old < 2 ^ 63 = times_below old new (size (lone R.mir)) (2 ^ 63) sizes.1 sizes.2 in
    use0 𝓛 (raw (fact 𝓤 ((n ≤ old) × (old ≤ new) × FitsBlock R new))) (fact_i 𝓤 ((n ≤ old) × (old ≤ new) × FitsBlock R new) (emp 𝓤) fit) $ move ! (0 ∷ 1 ∷ []) $ join ! $
    use0 𝓛 (raw (fact 𝓤 (κT ⊑ T.lives))) (fact_i 𝓤 (κT ⊑ T.lives) (emp 𝓤) lives) $ join ! $
    nothing ! $ owned_by ! usize _ (uint_Makes 𝓛 w64) new _ (refl, are.1.1.1.1.0.1) $ fjoin ! $ owned_by ! usize _ (uint_Makes 𝓛 w64) old _ (refl, are.1.1.1.0.1) $ fjoin ! $ owned_by ! usize _ (uint_Makes 𝓛 w64) n _ (refl, are.1.1.0.1) $ fjoin ! $
    feq_i ! (List Val) (rawptr_vals here) (rawptr_vals here) refl $ fjoin ! $ move ! (6 ∷ 0 ∷ []) $ fjoin ! $
    nothing ! $ move ! (8 ∷ 0 ∷ []) $ join ! $ move ! (7 ∷ 0 ∷ []) $ join ! $ join ! $ move ! (0 ∷ 1 ∷ []) $ use2 𝓛 (raw (G.pre z)) (id⊢ 𝓤 _) $
    calls_at_last ! (framed 𝓤 𝓛.H 𝓜 𝓣) G (met 𝓤 𝓛 𝓜 𝓡 (code.calls-std_heap::GlobalAllocator::grow 𝓡.env wired) T L) z (and_then ! (get ! refl) (and_then ! (get ! refl) (and_then ! (get ! refl) (and_then ! (get ! refl) (and_then ! (get ! refl) (no_more !)))))) (λ v.
    use1 𝓛 (later (some (λ (r : Answer.Denot). ((‵ (flft κ q) ⊛ ‵ (flft κT qT) ⊛ ‵ ftrue) ⊛ ‵ (Answer.own_val r (v ∷ []))) ⊛ some (λ (ws : Unit {0} × (Unit {0} × (Unit {0} × (Unit {0} × (Unit {0} × Unit {0}))))). ‵ (lasts (g.ended T) z.0.0 z.0.3 ws) ⊛ ‵ (left r))))) (id⊢ 𝓤 _) $
    await ! tt $ pick ! (λ r. split ! $ split ! $ split3 ! $ move ! (4 ∷ []) $ pick ! (λ ws. split ! $ drop ! $ move ! (4 ∷ 0 ∷ []) $
    use2 𝓛 (raw (ex 𝓤 (Flagged 𝓛 left v))) (by_flag 𝓛 left (fst∗ 𝓤 (never 𝓤) (sem 𝓛 (fsep ffalse (ghosts.dealloc_token heap (array_of R new) null_ptr)))) v r) $
    -- [what was given; the handle's token; the token of the type; nothing; the word; the open loan, in three parts]
    flagged ! v left (λ b₂ o₂ is. lands_last ! refl (typed true b₂ o₂ v is) $ exec ! 𝓣.C 𝓣.Λ (env fn.locals l) (after 1 fn.body) (at_ret (env fn.locals l) (W.post y)) $ sets ! (same ! (of_opd ! (get ! refl)) is) refl (Answer-typed true b₂ o₂) $
    use1 𝓛 (‵ (owned R (block_ptr b₂ o₂) items (new - n))) (unpacked 𝓛 R items n new count tt le sizes.2 (block_ptr b₂ o₂)) $ move ! (4 ∷ 0 ∷ []) $
    let made : RawBlock T.Denot = record { start = block_ptr b₂ o₂; items = items; room = new - n } in
    first ! $ switches ! (get_tag ! (vrt ! refl (fld ! refl (stop !))) (whole !)) (
      λ _.
          sets ! (of_opd ! (get_in ! (vrt ! refl (fld ! refl (stop !))) (in_variant ! 0 0 refl refl (whole !)))) refl (tt, tt) $
          assigns ! (of_opd ! (get ! refl)) (through ! refl (fld ! refl (stop !))) (store_in ! 0 (sub ! 0 refl (whole !)) (tt, tt)) $
          sets_last ! (agg ! (and_then ! (lit ! tt) (and_then ! (unit_lit !) (no_more !)))) refl (tt, (record { fits = lit< tt }, (tt, tt))) $ exec ! 𝓣.C 𝓣.Λ (env fn.locals l) (after 3 fn.body) (at_ret (env fn.locals l) (W.post y)) $
          use2 𝓛 (‵ (part_at (Row R) full_share made b o)) (together 𝓛 R made b o b₂ o₂ refl) $ move ! (0 ∷ 4 ∷ 5 ∷ 6 ∷ []) $ close_ref ! tt (mem (Row R)) made $
          sets ! (of_opd ! (get ! refl)) refl (tt, (record { fits = lit< tt }, (tt, tt))) $ returns ! (look_at ! 0 refl) $ free_all ! refl $ keep ! (0 ∷ 1 ∷ 2 ∷ 3 ∷ 4 ∷ []) $ by ! (ended made (Ok tt) ok is_ok (refl, omega arith)),
      (λ bad. absurd (omega arith), λ others. absurd (others.0.1 refl)),
    ))
    (λ is. lands_last ! refl (typed false 0 0 v is) $ exec ! 𝓣.C 𝓣.Λ (env fn.locals l) (after 1 fn.body) (at_ret (env fn.locals l) (W.post y)) $ sets ! (same ! (of_opd ! (get ! refl)) is) refl (Answer-typed false 0 0) $
    use1 𝓛 (‵ (owned R here items (old - n))) (unpacked 𝓛 R items n old count tt fit.0 few here) $ rewrite ! 0 (λ (k : ℕ). ‵ (owned R here items k)) (omega arith) refl $ move ! (4 ∷ 0 ∷ []) $
    use2 𝓛 (‵ (part_at (Row R) full_share p b o)) (together 𝓛 R p b o b' o' e) $ move ! (0 ∷ 4 ∷ 5 ∷ 6 ∷ []) $ close_ref ! tt (mem (Row R)) p $
    first ! $ switches ! (get_tag ! (vrt ! refl (fld ! refl (stop !))) (whole !)) (
      λ bad. absurd (omega arith),
      (
        λ _.
            sets ! (of_opd ! (get_in ! (vrt ! refl (fld ! refl (stop !))) (in_variant ! 1 0 refl refl (whole !)))) refl (tt, tt) $
            sets_last ! (agg ! (and_then ! (lit ! tt) (and_then ! (get ! refl) (no_more !)))) refl (tt, (record { fits = lit< tt }, (tt, tt))) $ exec ! 𝓣.C 𝓣.Λ (env fn.locals l) (after 3 fn.body) (at_ret (env fn.locals l) (W.post y)) $
            sets ! (of_opd ! (get ! refl)) refl (tt, (record { fits = lit< tt }, (tt, tt))) $ returns ! (look_at ! 0 refl) $ free_all ! refl $ keep ! (0 ∷ 1 ∷ 2 ∷ 3 ∷ 4 ∷ []) $ by ! (ended p (Err (record {})) refused is_refused refl),
        λ others. absurd (others.1 refl),
      ),
    ))))))))))))
