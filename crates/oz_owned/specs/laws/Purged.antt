-- Ids of own blocks are apart, so what a Purge may take of a stripe's rows is logged; and each used block has a home or is logged.
use Rattle.std.proofs.Common.{◌≡◌, ◌⊎◌, ⊎_elim, ℕ, ◌<◌, true, List, [], Contains, inl, inr, sym, ◌∙◌, subst}
use Rattle.std.proofs.Common.{arith}
use Rattle.std.proofs.lemmas.Bool.{or_right}
use Rattle.std.proofs.lemmas.List.Elements.{All-contains}
use Rattle.std.proofs.lemmas.List.Folds.{list_any-append}
use Rattle.std.specs.List.{list_any}
use Rattle.std.specs.Prelude.{All}
use Rattle.oz_fields.specs.declared.block.Block.{Block}
use Rattle.oz_names.specs.declared.limits.TheConstants.{STRIPES}
use Rattle.oz_rows.specs.RowMaps.{Rows}
use Rattle.oz_sound.specs.Kept.{HasHome}
use Rattle.oz_sound.specs.stripes.Stripes.{only}
use Rattle.oz_core.specs.declared.event.Event.{Event}
use Rattle.oz_core.specs.declared.opening.Opening.{Opening}
use Rattle.oz_core.specs.Contents.{OpeningBytes}
use Rattle.oz_core.specs.Law.{IsLegal, MayGo}
use Rattle.oz_core.specs.Manager.{IsUsed}
use Rattle.oz_core.specs.Scm.{is_in_logs, is_logged, logged, names_block}
use Rattle.oz_core.specs.Stories.{all_told}
use Rattle.oz_store.specs.Store.{IsStore}
use Rattle.oz_store.specs.granted.Granted.{handed_out}
use Rattle.oz_store.specs.granted.laws.Grants.{local_from, one_block}
use Rattle.oz_store.specs.granted.laws.Handed.{handed_granted}
use Rattle.oz_owned.specs.Own.{IsOwn}
use Rattle.oz_owned.specs.Swept.{HomesAreKept}
use Rattle.oz_owned.specs.laws.Found.{stands_in_all}
use Rattle.oz_owned.specs.laws.Numbered.{opening_txns}
use Rattle.oz_owned.specs.laws.Owned.{used_is_own}
use Rattle.oz_owned.specs.laws.Swept.{logged_still}

module _ (opening : Opening) (bytes : OpeningBytes) (loaded : Rows) (store : IsStore loaded opening bytes) (story : List Event)
    (legal : IsLegal opening story) where
  handed_new : (stripe other : ℕ) (block twin : Block) → HasHome (only stripe loaded) block → Contains (handed_out other story) twin
      → block.local ≡ twin.local → ⊥
  handed_new stripe other block twin home handed same =
      let of = handed_granted opening story legal other twin handed in
      let from = local_from opening story legal other twin of.0 of.1 in
      let below = store.rows.fresh block (home.key, (stands_in_all stripe loaded block home.key home.here).1) in
      absurd (omega (arith, from, below, same))

  -- two own blocks with one local id are one
  pub one_id : (stripe other : ℕ) (block twin : Block) → IsOwn loaded stripe story block → IsOwn loaded other story twin → block.local ≡ twin.local
      → block ≡ twin
  one_id stripe other block twin (inl home) (inl beside) same =
      store.sound.blocks.one_local block twin home.key beside.key (stands_in_all stripe loaded block home.key home.here).1
      (stands_in_all other loaded twin beside.key beside.here).1 same
  one_id stripe other block twin (inl home) (inr handed) same = absurd (handed_new stripe other block twin home handed same)
  one_id stripe other block twin (inr handed) (inl home) same = absurd (handed_new other stripe twin block home handed (sym same))
  one_id stripe other block twin (inr handed) (inr beside) same =
      let here = handed_granted opening story legal stripe block handed in
      let there = handed_granted opening story legal other twin beside in
      one_block opening story legal stripe here.0 other there.0 block twin here.1 there.1 same

  in_log : (block : Block) → is_in_logs (all_told logged story) block ≡ true → is_logged opening story block ≡ true
  in_log block is =
      list_any-append (names_block block) (opening_txns opening) (all_told logged story)
      ∙ or_right (list_any (names_block block) (opening_txns opening)) (list_any (names_block block) (all_told logged story)) is

  -- what a Purge may take by a local id
  pub may_go_logged : (stripe local : ℕ) (go : MayGo story stripe local) → All (IsOwn loaded stripe story) go.blocks
      → (first : Block) → IsOwn loaded stripe story first → first.local ≡ local
      → (others : List Block) → (Contains go.blocks first → (block : Block) → Contains others block → Contains go.blocks block)
      → (block : Block) → Contains others block → is_logged opening story block ≡ true
  may_go_logged stripe local go all first own its others whole block among =
      let named = All-contains (IsOwn loaded stripe story) go.blocks go.block all go.among in
      let same : go.block ≡ first = one_id stripe stripe go.block first named own (go.its_local ∙ sym its) in
      in_log block (All-contains (λ block. is_in_logs (all_told logged story) block ≡ true) go.blocks block go.logged
      (whole (subst (Contains go.blocks) same go.among) block among))

  -- each used block has a home in some stripe's rows, or is logged
  pub used_is_kept : (rows : ℕ → Rows) → ((stripe : ℕ) → stripe < STRIPES → HomesAreKept opening loaded stripe story (rows stripe))
      → (block : Block) → IsUsed opening story block → ((stripe : ℕ) × HasHome (rows stripe) block) ⊎ (is_logged opening story block ≡ true)
  used_is_kept rows kept block used = ⊎_elim
      (λ own. ⊎_elim (λ home. inl (own.stripe, home)) (λ is. inr is) (kept own.stripe own.there block own.own))
      (λ is. inr (logged_still opening [] story block is))
      (used_is_own opening bytes loaded store story legal block used)
