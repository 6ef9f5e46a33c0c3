use Rattle.oz_epochs.proofs.Cited.{ftrue, flft, emp, ex, never, fst∗, id⊢, Fml, lasts, array_of, HasLayout, FitsBlock, owned as owned_by, capped_fits, ◌⊑◌, fact, fact_i, tables, RefOf, usize, yes, param, layouts, uint_vals, uint_Tells, uint_Makes, RattleType, owns, shr_vals, shr_Tells, mut_vals, mut_Tells, plain, types_at, heard, nothing, calls_at, triple_of, framed, Stays, stay_ref, stay_dropped, Goes-ref, walk_of, ends_at, says, Goes-dropped, wider, lone, size, align, capped, inst_fn, a_type, named, w64, Val, full_share, mem, part_at, block_ptr, null_ptr, sem, open_ref, close_ref, agg, store_in, assigns, switches, MatchResult, fobs, fbor, Is, Body, get_tag, through, sets_last, lands_as, alloc_all, pass_all, free_all, look_at, get, get_in, sets, env, ‵, raw, ◌⊛◌, at_ret, some, later, await, pick, ◌$◌, ◌∵◌, !, qed, done, move, keep, drop, use0, use1, use2, by, split, split3, join, fsplit, fsplit3, fjoin, fjoin3, feq_i, suffices, whole, sub, enter, of_opd, lit, unit_lit, fld, stop, align_word, and_then, no_more, first, exec, returns, true, false, ◌≡◌, ℕ, List, [], ◌∷◌, refl, arith, lit<, after, proved, Answer, Answer-typed, Flagged, by_flag, flagged, block_if_ok, ghosts, Ok, Err, vrt, in_variant}
use Rattle.oz_epochs.specs.declared.raw_block.RawBlock.{RawBlock}
use Rattle.std.specs.contracts.impls.GlobalAllocator.allocate as g
use Rattle.std.specs.contracts.alloc.Global as H
use Rattle.std.proofs.impls.GlobalAllocator.allocate.Met.{met}
use Rattle.oz_epochs.specs.RawBlock.{bytes, owned}
use Rattle.oz_epochs.specs.contracts.raw_block.RawBlock.take as f
use Rattle.oz_epochs.specs.contracts.raw_block.RawBlock.take.Key
use Rattle.oz_epochs.proofs.Held.{counts, Row, names, apart, together}
use Rattle.oz_epochs.proofs.Blocks.{filled, laid, Taken, taken, ok, refused, is_ok, is_refused}
use Rattle.oz_epochs.proofs.raw_block.RawBlock.take.Statement.{statement}
use Rattle.oz_epochs.proofs.raw_block.RawBlock.take.Code as code
use Rattle.oz_epochs.specs.RawBlock.{heap}

abbrev stayed : (T : RattleType) → Stays (f.ended T).signature.params (f.ended T).kept
stayed T = (stay_ref (0 ∷ []) tt (plain (λ _. Row (param 0 T))), (stay_dropped _ yes, (stay_dropped _ yes, tt)))

pub take_spec : {M : Type 1} → statement M
take_spec 𝓤 𝓛 𝓜 𝓡 wired T L =
    let c = f.clauses T 𝓛 𝓜.mem 𝓡.returns in let W = walk_of 𝓛 (f.ended T) (stayed T) c in let 𝓣 = tables 𝓤 𝓛.H 𝓜 𝓡 𝓡.env in
    let R : RattleType = param 0 T in let fn = inst_fn (layouts (a_type ∷ []) (T, tt)) code.function in
    proved 𝓛 (f.ended T) (stayed T) c 𝓜 𝓡 (Goes-ref 𝓛 3 0 tt (plain (λ _. Row R)), (Goes-dropped 𝓛 3 (RefOf (1 ∷ []) tt (plain (λ _. H.the_row)) (λ _. tt)) yes (λ κs x w. refl), (Goes-dropped 𝓛 3 (plain (λ _. usize)) yes (λ κs x w. refl), tt)))
    (Key.name (layouts (a_type ∷ []) (T, tt))) fn (code.unfolded 𝓤 𝓛.H 𝓜 𝓡 wired (T, tt))
    (λ κs. (mut_vals, (shr_vals, (uint_vals w64, tt)))) (λ κs. (mut_Tells (named 0) κs.0 (Row R), (shr_Tells (named 1) κs.1.0 H.the_row, (uint_Tells w64, tt)))) (λ κs qs bounds a h are.
    let p = a.0.now in let alloc = a.1.0 in let n = a.1.1.0 in let b = a.0.ref_ptr.0 in let o = a.0.ref_ptr.1 in let κ = κs.1.0 in let q = qs.1.0 in
    let y : W.Ghost = ((κs, qs, bounds, a, (mut_vals a.0, (shr_vals alloc, (uint_vals w64 n, tt)))), h) in
    let ended = λ (now : RawBlock T.Denot) (r : Taken.Denot) (w : Val) (is : Is Taken r (w ∷ [])) (so : MatchResult r (λ _. (now.items ≡ []) × (now.room ≡ n)) (λ _. now ≡ p)).
    qed 𝓛 (‵ (fobs a.0.ghost_name ((Row R).coded.code now)) ∷ ‵ (fbor κs.0 (Body (mem (Row R)) b o a.0.ghost_name)) ∷ ‵ (flft κs.0 qs.0) ∷ ‵ (flft κ q) ∷ ‵ (flft κs.1.1.0 qs.1.1.0) ∷ []) ∵
    suffices ! _ (ends_at 𝓛 (f.ended T) (stayed T) c y w r (now, (tt, (tt, tt))) (tt, (tt, (tt, tt)))) $ says ! so $
    feq_i ! (List Val) (mut_vals a.0) (mut_vals a.0) refl $ fjoin3 ! $ nothing ! $ nothing ! $ fjoin ! $ nothing ! $ fjoin ! $ move ! (1 ∷ 0 ∷ []) $ fjoin ! $
    nothing ! $ move ! (4 ∷ 0 ∷ []) $ join ! $ move ! (3 ∷ 0 ∷ []) $ join ! $ move ! (2 ∷ 0 ∷ []) $ join ! $
    owned_by ! Taken (Is Taken) (taken 𝓛) r (w ∷ []) is $ move ! (1 ∷ 2 ∷ 0 ∷ []) $ done ! in
    qed 𝓛 (((‵ (flft κs.0 qs.0) ⊛ ‵ (flft κ q) ⊛ ‵ (flft κs.1.1.0 qs.1.1.0) ⊛ ‵ ftrue) ⊛ ‵ (owns (types_at (f.signature T).params κs) a y.0.4))
    ∷ (raw (fact 𝓤 (κs.1.1.0 ⊑ T.lives)) ⊛ raw (fact 𝓤 ((p.items ≡ []) × (p.room ≡ 0))) ⊛ raw (fact 𝓤 (FitsBlock R n))) ∷ []) ∵
    move ! (1 ∷ []) $ split3 ! $ move ! (2 ∷ []) $ heard ! _ (λ few.
    move ! (2 ∷ []) $ split ! $ split3 ! $ move ! (2 ∷ []) $ split ! $ move ! (4 ∷ []) $ fsplit ! $ fsplit3 ! $ move ! (3 ∷ []) $ fsplit ! $ keep ! (0 ∷ 3 ∷ 4 ∷ 7 ∷ 8 ∷ 5 ∷ []) $
    -- [the handle; the loan, in two parts; its token; the handle's; the token of the type]
    enter ! _ _ _ _ _ $ alloc_all ! (λ l. pass_all ! refl ((tt, tt), ((tt, tt), ((tt, record { fits = are.1.1.0.1 }), tt))) $
    let s : ℕ = size (lone R.mir) in let al : ℕ = capped (align (lone R.mir)) in let τ = array_of R n in let given : Answer.Denot → Fml = block_if_ok (ghosts.dealloc_token heap) τ in
    let G = triple_of 𝓛 g.signature (g.spec 𝓛 𝓜.mem 𝓡.returns) in
    let z : G.Ghost = (((κ, tt), (q, tt), tt, (alloc, (bytes R n, (al, tt))), (shr_vals alloc, (uint_vals w64 (bytes R n), (uint_vals w64 al, tt)))), τ) in
    sets ! (counts ! R n few (get ! refl)) refl (tt, record { fits = wider (bytes R n) few }) $
    nothing ! $ owned_by ! usize _ (uint_Makes 𝓛 w64) al _ (refl, capped_fits (align (lone R.mir))) $ fjoin ! $ owned_by ! usize _ (uint_Makes 𝓛 w64) (bytes R n) _ (refl, wider (bytes R n) few) $ fjoin ! $ move ! (1 ∷ 0 ∷ []) $ fjoin ! $
    use0 𝓛 (raw (fact 𝓤 (HasLayout τ (bytes R n) al))) (fact_i 𝓤 (HasLayout τ (bytes R n) al) (emp 𝓤) (laid R n few)) $
    nothing ! $ move ! (6 ∷ 0 ∷ []) $ join ! $ move ! (0 ∷ 2 ∷ []) $ join ! $ move ! (0 ∷ 1 ∷ []) $ use2 𝓛 (raw (G.pre z)) (id⊢ 𝓤 _) $
    calls_at ! (framed 𝓤 𝓛.H 𝓜 𝓣) G (met 𝓤 𝓛 𝓜 𝓡 (code.calls-std_heap::GlobalAllocator::allocate 𝓡.env wired)) z (and_then ! (get ! refl) (and_then ! (get ! refl) (and_then ! (align_word !) (no_more !)))) (λ v.
    use1 𝓛 (later (some (λ (r : Answer.Denot). ((‵ (flft κ q) ⊛ ‵ ftrue) ⊛ ‵ (Answer.own_val r (v ∷ []))) ⊛ some (λ (ws : Unit {0} × (Unit {0} × (Unit {0} × Unit {0}))). ‵ (lasts g.ended z.0.0 z.0.3 ws) ⊛ ‵ (given r))))) (id⊢ 𝓤 _) $
    await ! tt $ pick ! (λ r. split ! $ split ! $ split ! $ move ! (1 ∷ 3 ∷ []) $ drop ! $ pick ! (λ ws. split ! $ drop ! $ move ! (2 ∷ 0 ∷ []) $
    use2 𝓛 (raw (ex 𝓤 (Flagged 𝓛 given v))) (by_flag 𝓛 given (fst∗ 𝓤 (never 𝓤) (sem 𝓛 (ghosts.dealloc_token heap τ null_ptr))) v r) $
    -- [what was given; the handle's token; the loan, in two parts; its token; the token of the type]
    flagged ! v given (λ b' o' e. lands_as ! e refl (Answer-typed true b' o') $ move ! (2 ∷ 3 ∷ 4 ∷ []) $ open_ref ! tt (mem (Row R)) $
    use1 𝓛 (‵ (names R p.start b o) ⊛ ‵ (owned R p.start p.items p.room)) (apart 𝓛 R p b o) $ split ! $ move ! (1 ∷ []) $ drop ! $ move ! (4 ∷ []) $
    use1 𝓛 (‵ (owned R (block_ptr b' o') [] n)) (filled 𝓛 R (block_ptr b' o') n few) $ move ! (1 ∷ 0 ∷ []) $
    let made : RawBlock T.Denot = record { start = block_ptr b' o'; items = []; room = n } in
    -- [the word; the block; the open loan, in three parts; the handle's token; the token of the type]
    first ! $ switches ! (get_tag ! (vrt ! refl (fld ! refl (stop !))) (whole !)) (
      λ _.
          sets ! (of_opd ! (get_in ! (vrt ! refl (fld ! refl (stop !))) (in_variant ! 0 0 refl refl (whole !)))) refl (tt, tt) $ sets ! (of_opd ! (get ! refl)) refl (tt, tt) $
          assigns ! (of_opd ! (get ! refl)) (through ! refl (fld ! refl (stop !))) (store_in ! 0 (sub ! 0 refl (whole !)) (tt, tt)) $
          sets_last ! (agg ! (and_then ! (lit ! tt) (and_then ! (unit_lit !) (no_more !)))) refl (tt, (record { fits = lit< tt }, (tt, tt))) $ exec ! 𝓣.C 𝓣.Λ (env fn.locals l) (after 3 fn.body) (at_ret _ (W.post y)) $
          use2 𝓛 (‵ (part_at (Row R) full_share made b o)) (together 𝓛 R made b o b' o' refl) $ close_ref ! tt (mem (Row R)) made $
          sets ! (of_opd ! (get ! refl)) refl (tt, (record { fits = lit< tt }, (tt, tt))) $ returns ! (look_at ! 0 refl) $ free_all ! refl $ by ! (ended made (Ok tt) ok is_ok (refl, refl)),
      (λ bad. absurd (omega arith), λ others. absurd (others.0.1 refl)),
    ))
    (λ e. lands_as ! e refl (Answer-typed false 0 0) $ drop ! $
    first ! $ switches ! (get_tag ! (vrt ! refl (fld ! refl (stop !))) (whole !)) (
      λ bad. absurd (omega arith),
      (
        λ _.
            sets ! (of_opd ! (get_in ! (vrt ! refl (fld ! refl (stop !))) (in_variant ! 1 0 refl refl (whole !)))) refl (tt, tt) $
            sets_last ! (agg ! (and_then ! (lit ! tt) (and_then ! (get ! refl) (no_more !)))) refl (tt, (record { fits = lit< tt }, (tt, tt))) $ exec ! 𝓣.C 𝓣.Λ (env fn.locals l) (after 3 fn.body) (at_ret _ (W.post y)) $
            sets ! (of_opd ! (get ! refl)) refl (tt, (record { fits = lit< tt }, (tt, tt))) $ returns ! (look_at ! 0 refl) $ free_all ! refl $ keep ! (1 ∷ 2 ∷ 3 ∷ 0 ∷ 4 ∷ []) $ by ! (ended p (Err (record {})) refused is_refused refl),
        λ others. absurd (others.1 refl),
      ),
    ))))))))
