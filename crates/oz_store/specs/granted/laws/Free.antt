-- What a stripe has free is unused and new.
use Rattle.std.proofs.Common.{◌≡◌, ⊎_elim, ℕ, ◌<◌, List, Contains, inl, inr, subst, arith}
use Rattle.oz_fields.specs.declared.block.Block.{Block}
use Rattle.oz_requests.specs.declared.request.Exclude.{Exclude}
use Rattle.oz_core.specs.declared.event.Event.{Event}
use Rattle.oz_core.specs.declared.opening.Opening.{Opening}
use Rattle.oz_core.specs.Coherent.{IdsAreFresh, LogIsCoherent}
use Rattle.oz_core.specs.Grants.{IsExcluded, IsSpent}
use Rattle.oz_core.specs.Law.{IsLegal, MayBeGranted}
use Rattle.oz_core.specs.Manager.{IsUsed}
use Rattle.oz_rows.specs.declared.key.RowKey.{RowKey}
use Rattle.oz_rows.specs.RowMaps.{Rows}
use Rattle.oz_sound.specs.Sound.{StandsIn}
use Rattle.oz_store.specs.Store.{RowsAreCoherent}
use Rattle.oz_store.specs.granted.Granted.{AreOld, IsFree, NoneIsFree, handed_out}
use Rattle.oz_store.specs.granted.laws.Grants.{local_from, one_block}
use Rattle.oz_store.specs.granted.laws.Handed.{granted_handed, handed_granted, handed_told}

module _ (opening : Opening) (story : List Event) (legal : IsLegal opening story) (stripe pipeline : ℕ) (block : Block)
    (free : IsFree story stripe block pipeline) where
  -- a block whose id is below the opening's next one is another
  not_old : block.local < opening.next_id → ⊥
  not_old old = let from = local_from opening story legal stripe block pipeline free.granted in absurd (omega (arith, old, from))

  pub free_unused : IdsAreFresh opening → LogIsCoherent opening → IsUsed opening story block → ⊥
  free_unused fresh log (inl reached) = not_old (fresh block (inl reached))
  free_unused fresh log (inr (inl left)) = not_old (fresh block (inr (inl left)))
  free_unused fresh log (inr (inr (inl logged))) = not_old (log.granted block logged)
  free_unused fresh log (inr (inr (inr granted))) = free.unused (granted_handed opening story legal stripe pipeline block granted free.granted)

  pub free_allowed : IdsAreFresh opening → LogIsCoherent opening → (exclude : Exclude) → (IsExcluded exclude block pipeline → ⊥)
      → MayBeGranted opening story stripe exclude block pipeline
  free_allowed fresh log exclude allowed = record { to_stripe = free.granted; unused = free_unused fresh log; allowed = allowed }

  -- no block of rows that were loaded or handed out has its id
  pub free_new : (loaded now : Rows) → RowsAreCoherent loaded opening → AreOld loaded (handed_out stripe story) now → (twin : Block) (key : RowKey)
      → StandsIn now twin key → twin.local ≡ block.local → ⊥
  free_new loaded now coherent old twin key stands same = ⊎_elim
      (λ row. not_old (subst (λ (n : ℕ). n < opening.next_id) same (coherent.fresh twin row)))
      (λ handed.
      let of = handed_granted opening story legal stripe twin handed in
      let is = one_block opening story legal stripe of.0 stripe pipeline twin block of.1 free.granted same in
      free.unused (subst (λ (b : Block). Contains (handed_out stripe story) b) is handed))
      (old twin key stands)

pub none_free_spent : (opening : Opening) (story : List Event) (stripe : ℕ) (exclude : Exclude) → NoneIsFree story stripe exclude
    → IsSpent opening story stripe exclude
none_free_spent opening story stripe exclude none block pipeline of = ⊎_elim
    (λ handed. inl (inr (inr (inr (handed_told story stripe block handed)))))
    (λ excluded. inr excluded)
    (none block pipeline of)
