use Rattle.oz_epochs.proofs.Cited.{ℕ, [], ◌∷◌, refl, lit<, proved, param, layouts, null_ptr, nothing, alive, walk_of, ends_at, inst_fn, a_type, alloc_all, pass_all, free_all, look_at, sets, ftrue, ‵, raw, ◌⊛◌, split, ◌$◌, ◌∵◌, !, qed, done, keep, move, feq_i, suffices, agg, enter, lit, and_then, no_more, returns, says_two}
use Rattle.oz_epochs.specs.contracts.raw_block.RawBlock.none as f
use Rattle.oz_epochs.specs.contracts.raw_block.RawBlock.none.Key
use Rattle.oz_epochs.specs.declared.raw_block.RawBlock.{RawBlock}
use Rattle.oz_epochs.proofs.Held.{word, placed}
use Rattle.oz_epochs.proofs.raw_block.RawBlock.none.Statement.{statement}
use Rattle.oz_epochs.proofs.raw_block.RawBlock.none.Code as code

pub none_spec : {M : Type 1} → statement M
none_spec 𝓤 𝓛 𝓜 𝓡 wired T L =
    let c = f.clauses T 𝓛 𝓜.mem 𝓡.returns in
    proved 𝓛 (f.ended T) tt c 𝓜 𝓡 tt (Key.name (layouts (a_type ∷ []) (T, tt))) (inst_fn (layouts (a_type ∷ []) (T, tt)) code.function) (code.unfolded 𝓤 𝓛.H 𝓜 𝓡 wired (T, tt))
    (λ κs. tt) (λ κs. tt) (λ κs qs bounds a g are.
    let none : RawBlock T.Denot = record { start = null_ptr; items = []; room = 0 } in
    let y : (walk_of 𝓛 (f.ended T) tt c).Ghost = ((κs, qs, bounds, a, tt), g) in
    qed 𝓛 ((raw (alive 𝓛 (f.signature T) κs qs) ⊛ ‵ ftrue) ∷ raw ((c κs a).requires g) ∷ []) ∵ split ! $ keep ! (0 ∷ []) $
    enter ! _ _ _ _ _ $ alloc_all ! (λ l. pass_all ! refl tt $
    sets ! (agg ! (and_then ! (lit ! tt) (no_more !))) refl (tt, (record { fits = lit< tt }, tt)) $
    returns ! (look_at ! 0 refl) $ free_all ! refl $
    suffices ! _ (ends_at 𝓛 (f.ended T) tt c y (word null_ptr) none tt tt) $ says_two ! (refl, refl) $
    feq_i ! ℕ 0 0 refl $ placed ! (param 0 T) none $ nothing ! $ move ! (2 ∷ 0 ∷ 1 ∷ []) $ done !))
