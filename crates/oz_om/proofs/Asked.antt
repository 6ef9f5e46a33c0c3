-- What a stripe asked to be deleted stays in whole rows as it decides.
use Rattle.std.proofs.Common.{◌≡◌, ℕ, ◌==◌, true, List, length, take, Option, Some, Contains, arith, refl, sym, ap, ◌∙◌, subst}
use Rattle.std.proofs.lemmas.Bool.{eq-eqb, eqb-true}
use Rattle.std.proofs.Math.Seq.{take-length}
use Rattle.std.specs.List.{list_any}
use Rattle.oz_core.specs.declared.event.Event.{Event}
use Rattle.oz_core.specs.declared.event.EventKind.{EventKind}
use Rattle.oz_core.specs.declared.event.EventKind.TheVariants.{PurgeAsk}
use Rattle.oz_core.specs.declared.opening.Opening.{Opening}
use Rattle.oz_core.specs.Law.{IsLegal}
use Rattle.oz_core.specs.Manager.{namespace_of}
use Rattle.oz_core.specs.Seats.{stripe_seat}
use Rattle.oz_core.specs.Stories.{mine}
use Rattle.oz_decision.specs.Meets.{AreInGrammar}
use Rattle.oz_fields.specs.declared.block.Block.{Block}
use Rattle.oz_kept.specs.laws.Deleted.{found_at, purged_away}
use Rattle.oz_kept.specs.laws.Granted.{told_among}
use Rattle.oz_kept.specs.reopened.laws.Named.{IsTold, told_event}
use Rattle.oz_locks.specs.Purges.{HaveWholeRows, asked_by, asked_in}
use Rattle.oz_model.specs.Reach.{IsReached}
use Rattle.oz_model.specs.laws.Members.{filtered, of_filtered}
use Rattle.oz_owned.specs.Stood.{StandAt}
use Rattle.oz_owned.specs.laws.Found.{among}
use Rattle.oz_owned.specs.laws.Homes.{listed}
use Rattle.oz_owned.specs.laws.Owned.{share_reached}
use Rattle.oz_reclaim.specs.Origins.{AreWhole, HasSource, RowsComeFrom}
use Rattle.oz_reclaim.specs.laws.Homes.{source_is_reached, whole_still}
use Rattle.oz_rows.specs.declared.key.RowKey.TheVariants as keys
use Rattle.oz_rows.specs.declared.row.Row.{Row}
use Rattle.oz_rows.specs.declared.row.Row.TheVariants as rows
use Rattle.oz_rows.specs.Rows.{ValueFits}
use Rattle.oz_rows.specs.RowMaps.{Rows, is_block}
use Rattle.oz_sound.specs.Sound.{blocks_of}
use Rattle.oz_store.specs.striped.Shares.{share_of}
use Rattle.oz_om.specs.Keeps.{AreAsked}

-- ---- the PurgeAsk

asked_is : (kind : EventKind) (blocks : List Block) → asked_in kind ≡ Some blocks → kind ≡ PurgeAsk blocks
asked_is (PurgeAsk others) blocks is = let same : others ≡ blocks = cc in ap PurgeAsk same
asked_is kind blocks is = absurd cc

module _ (stripe : ℕ) (story given : List Event) (own : mine (stripe_seat stripe) story ≡ given) (blocks : List Block) where
  abbrev purge : Event
  purge = record { seat = stripe_seat stripe; kind = PurgeAsk blocks }

  -- what the stripe asked stands in the story
  pub asked_there : Contains (asked_by given) blocks → Contains story purge
  asked_there there =
      let told = told_event asked_in (mine (stripe_seat stripe) story) blocks
      (subst (λ (l : List Event). Contains (asked_by l) blocks) (sym own) there) in
      let found = of_filtered (λ (event : Event). event.seat == stripe_seat stripe) story told.event told.there in
      let seat = eqb-true told.event.seat (stripe_seat stripe) found.1 in
      let kind = asked_is told.event.kind blocks told.told in
      subst (Contains story) (λ i. record { seat = seat i; kind = kind i }) found.0

  -- and the other way round
  pub there_asked : Contains story purge → Contains (asked_by given) blocks
  there_asked there = subst (λ (l : List Event). Contains (asked_by l) blocks) own
      (told_among asked_in (mine (stripe_seat stripe) story) purge blocks
      (filtered (λ (event : Event). event.seat == stripe_seat stripe) story purge there (eq-eqb (stripe_seat stripe) (stripe_seat stripe) refl)) refl)

-- ---- whole rows

module _ (all : Rows) (fit : AreInGrammar all) (blocks : List Block) where
  pub are_whole : HaveWholeRows all blocks → AreWhole all (Contains blocks)
  are_whole whole volume bucket key owner local row there = by row there (fit (keys.Deleted volume bucket owner key local) row there).1
    where
      by : (row : Row) → all (keys.Deleted volume bucket owner key local) ≡ Some row → ValueFits (keys.Deleted volume bucket owner key local) row
          → (block other : Block) → list_any (is_block block) (blocks_of row) ≡ true → Contains blocks block
          → list_any (is_block other) (blocks_of row) ≡ true → Contains blocks other
      by (rows.Deleted of_row) there fits block other has is beside =
          whole volume bucket key owner local of_row block other there (listed block of_row has) is (listed other of_row beside)
      by row there fits block other has is beside = absurd fits

  pub have_whole : AreWhole all (Contains blocks) → HaveWholeRows all blocks
  have_whole whole volume bucket key owner local of_row block other there has is beside =
      whole volume bucket key owner local (rows.Deleted of_row) there block other (among block of_row has) is (among other of_row beside)

-- ---- as the stripe decides

module _ (opening : Opening) (loaded : Rows) (stripe : ℕ) (story given : List Event) (legal : IsLegal opening story)
    (own : mine (stripe_seat stripe) story ≡ given) (all : Rows) (at : StandAt opening loaded stripe story all) where
  -- a block that was asked isn't reached any more
  unreached : (blocks : List Block) → Contains (asked_by given) blocks → (block : Block) → Contains blocks block
      → IsReached (namespace_of opening story) block → ⊥
  unreached blocks there block has reached =
      let purge = asked_there stripe story given own blocks there in
      let event : Event = record { seat = stripe_seat stripe; kind = PurgeAsk blocks } in
      let within = purge.1 in
      purged_away opening story block purge.0 (length story) legal
      (record { seat = stripe_seat stripe; blocks = blocks; there = found_at story event purge; among = has }) (omega (arith, within))
      (subst (λ (l : List Event). IsReached (namespace_of opening l) block) (sym (take-length story)) reached)

  pub asked_after : (now : Rows) (granted : Option Block) → AreInGrammar now → RowsComeFrom all now granted → AreAsked loaded stripe given story all
      → AreAsked loaded stripe given story now
  asked_after now granted fit come asked = record {
    own = asked.own;
    whole = λ blocks there. have_whole now fit blocks
        (whole_still all now come.deleted (Contains blocks)
        (λ block has source. unreached blocks there block has
        (share_reached stripe (namespace_of opening story) block
        (source_is_reached all at.stand.fit (share_of stripe (namespace_of opening story)) at.stand.stands block source)).0)
        (are_whole all at.stand.fit blocks (asked.whole blocks there)));
  }
