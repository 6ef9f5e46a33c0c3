use Rattle.oz_epochs.proofs.Cited.{ℕ, [], ◌∷◌, refl, proved, ftrue, usize, lone, param, layouts, uint_Makes, owned, nothing, alive, walk_of, ends_at, says, inst_fn, a_type, w64, vint, capped_fits, size, capped, alloc_all, pass_all, free_all, look_at, sets, ‵, raw, ◌⊛◌, ◌$◌, ◌∵◌, !, qed, done, keep, move, split, suffices, enter, of_opd, size_word, returns}
use Rattle.oz_epochs.specs.contracts.raw_block.item_bytes as f
use Rattle.oz_epochs.specs.contracts.raw_block.item_bytes.Key
use Rattle.oz_epochs.proofs.raw_block.item_bytes.Statement.{statement}
use Rattle.oz_epochs.proofs.raw_block.item_bytes.Code as code

pub item_bytes_spec : {M : Type 1} → statement M
item_bytes_spec 𝓤 𝓛 𝓜 𝓡 wired T L =
    let c = f.clauses T 𝓛 𝓜.mem 𝓡.returns in
    proved 𝓛 (f.ended T) tt c 𝓜 𝓡 tt (Key.name (layouts (a_type ∷ []) (T, tt))) (inst_fn (layouts (a_type ∷ []) (T, tt)) code.function) (code.unfolded 𝓤 𝓛.H 𝓜 𝓡 wired (T, tt))
    (λ κs. tt) (λ κs. tt) (λ κs qs bounds a g are.
    let bytes : ℕ = size (lone (param 0 T).mir) in let few = capped_fits bytes in
    let y : (walk_of 𝓛 (f.ended T) tt c).Ghost = ((κs, qs, bounds, a, tt), g) in
    qed 𝓛 ((raw (alive 𝓛 (f.signature T) κs qs) ⊛ ‵ ftrue) ∷ raw ((c κs a).requires g) ∷ []) ∵ split ! $ keep ! (0 ∷ []) $
    enter ! _ _ _ _ _ $ alloc_all ! (λ l. pass_all ! refl tt $
    sets ! (of_opd ! (size_word !)) refl (tt, record { fits = few }) $ returns ! (look_at ! 0 refl) $ free_all ! refl $
    suffices ! _ (ends_at 𝓛 (f.ended T) tt c y (vint w64 (capped bytes)) (capped bytes) tt tt) $ says ! refl $
    owned ! usize _ (uint_Makes 𝓛 w64) (capped bytes) _ (refl, few) $ nothing ! $ move ! (2 ∷ 0 ∷ 1 ∷ []) $ done !))
