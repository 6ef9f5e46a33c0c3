-- What a stripe may rest on as it looks at Grants.
use Rattle.std.proofs.Common.{◌≡◌, ◌<◌, ℕ, zero, suc, List, [], ◌∷◌, length, Some, refl, sym, ap, ◌∙◌, subst, arith}
use Rattle.std.specs.Prelude.{All, drop, take, slice_get, slice_index_or}
use Rattle.std.proofs.lemmas.List.{take-append-drop}
use Rattle.oz_core.specs.declared.event.Event.{Event}
use Rattle.oz_core.specs.declared.event.EventKind.{EventKind}
use Rattle.oz_core.specs.declared.event.EventKind.TheVariants.{Grant}
use Rattle.oz_core.specs.declared.opening.Opening.{Opening}
use Rattle.oz_core.specs.Law.{IsLegal}
use Rattle.oz_fields.specs.declared.block.Block.{Block}
use Rattle.oz_store.specs.granted.laws.Grants.{grant_within, later_above}
use Rattle.oz_store.specs.granted.laws.Listed.{listed_granted}
use Rattle.oz_locks.specs.Pool.{AreFresh, GrantFits}
use Rattle.oz_locks.specs.declared.pool.FreeBlock.{FreeBlock}

abbrev item : Block → ℕ → FreeBlock
item block pipeline = record { block = block; pipeline = pipeline }

got : {A : Type 0} (l : List A) (k : ℕ) (d : A) → k < length l → slice_get l k ≡ Some (slice_index_or l k d)
got [] k d less = absurd (omega (arith, less))
got (x ∷ l) zero d less = refl
got (x ∷ l) (suc k) d less = got l k d (omega (arith, less))

module _ (opening : Opening) (story : List Event) (legal : IsLegal opening story) where
  pub grants_fit : All (λ (event : Event). GrantFits event.kind) story
  grants_fit k d less = by_kind (slice_index_or story k d).seat (slice_index_or story k d).kind (got story k d less)
    where
      by_kind : (seat : ℕ) (kind : EventKind) → slice_get story k ≡ Some (record { seat = seat; kind = kind }) → GrantFits kind
      by_kind seat (Grant stripe container pipeline first count) there =
          grant_within opening story legal k stripe container pipeline first count (record { seat = seat; there = there })
      by_kind seat kind there = tt

  pub grants_are_fresh : (stripe known : ℕ) → AreFresh stripe (take known story) (drop known story)
  grants_are_fresh stripe known free other before behind same =
      let one = listed_granted item stripe (take known story) free before in
      let two = listed_granted item stripe (drop known story) other behind in
      let above = later_above opening (take known story) (drop known story) stripe one.pipeline stripe two.pipeline one.block two.block
      (subst (IsLegal opening) (sym (take-append-drop known story)) legal) one.granted two.granted in
      let one_local : one.block.local ≡ two.block.local = ap (λ (b : Block). b.local) (ap (λ (f : FreeBlock). f.block) one.is ∙ same ∙ sym (ap (λ (f : FreeBlock). f.block) two.is)) in
      omega (arith, above, one_local)
