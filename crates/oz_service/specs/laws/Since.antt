-- The index at which a block left reach tells whether it was garbage at a start, but for lines that worked on it.
use Rattle.std.proofs.Common.{◌≡◌, ◌↔◌, ⊎_elim, ℕ, ◌-◌, ◌≤◌, Bool, true, false, cond, Option, None, Some, nat_le}
use Rattle.std.proofs.Common.{List, [], ◌++◌, length, take, drop, Contains, inl, inr, sym, ◌∙◌, ap, subst, arith}
use Rattle.std.proofs.lemmas.Bool.{cases_lt}
use Rattle.std.proofs.Math.Seq.{take-append_seam}
use Rattle.std.proofs.lemmas.List.{take-append-drop}
use Rattle.std.proofs.lemmas.List.Elements.{All-contains}
use Rattle.std.proofs.lemmas.Option.{none-some}
use Rattle.oz_fields.specs.declared.block.Block.{Block}
use Rattle.oz_model.specs.Reach.{IsReached}
use Rattle.oz_core.specs.declared.event.Event.{Event}
use Rattle.oz_core.specs.declared.event.EventKind.{EventKind}
use Rattle.oz_core.specs.declared.event.EventKind.TheVariants.{Decide, PurgeAsk}
use Rattle.oz_core.specs.declared.opening.Opening.{Opening}
use Rattle.oz_core.specs.Coherent.{LogIsCoherent}
use Rattle.oz_core.specs.Law.{IsLegal, PurgeAskIsEnabled}
use Rattle.oz_core.specs.Manager.{IsGarbage, IsUsed, IsUsedAndKept, WasUsed, block_of_reply, durable_index, granted_block, kept_block}
use Rattle.oz_core.specs.Manager.{last_index, namespace_from, namespace_of}
use Rattle.oz_core.specs.Scm.{is_logged, is_logged_at_opening, logs, names_block}
use Rattle.oz_core.specs.Stories.{all_told}
use Rattle.oz_kept.specs.laws.Deleted.{enabled_at, front_legal, one_passes}
use Rattle.oz_kept.specs.laws.Granted.{told_among}
use Rattle.oz_kept.specs.laws.Places.{later_front}
use Rattle.oz_kept.specs.laws.Reached.{in_none, used_still}
use Rattle.oz_kept.specs.reopened.laws.Logged.{IsGoing, is_going}
use Rattle.oz_kept.specs.reopened.laws.Named.{IsTold, reached_named, told_event}
use Rattle.oz_owned.specs.Left.{LeftAt}
use Rattle.oz_owned.specs.laws.Left.{index_within, left_at_opening, left_still, since_decides}
use Rattle.oz_owned.specs.laws.Numbered.{logs_grow}
use Rattle.oz_owned.specs.laws.Staying.{garbage_still}
use Rattle.oz_service.specs.Settled.{StillHolds, WasLeft}
use Rattle.oz_service.specs.laws.Granted.{was_there}

pub reached_used : (opening : Opening) (story : List Event) (block : Block) → IsLegal opening story → IsReached (namespace_of opening story) block
    → IsUsed opening story block
reached_used opening story block legal reached = ⊎_elim
    (λ loaded. inl loaded)
    (λ granted. inr (inr (inr granted)))
    (reached_named opening story block legal reached)

module _ (opening : Opening) (start behind : List Event) (legal : IsLegal opening (start ++ behind)) (block : Block) (since : ℕ)
    (left : LeftAt opening (start ++ behind) block since) (used_later : IsUsed opening (start ++ behind) block) where
  seam : take (length start) (start ++ behind) ≡ start
  seam = take-append_seam start behind

  -- what had left reach was used
  used_at_start : since ≤ last_index opening start → IsUsed opening start block
  used_at_start le = ⊎_elim
      (λ none. used_still opening [] start block
      (was_there opening (start ++ behind) legal block (subst (LeftAt opening (start ++ behind) block) none left) used_later))
      (λ (place, decided, reached).
      let front : IsLegal opening (take place (start ++ behind)) = front_legal opening (start ++ behind) legal place in
      let used : IsUsed opening (take place (start ++ behind)) block = reached_used opening (take place (start ++ behind)) block front reached in
      ⊎_elim
      (λ lt.
      let to_start = later_front (start ++ behind) place (length start) (omega (arith, lt)) in
      subst (λ (l : List Event). IsUsed opening l block) (sym to_start ∙ seam)
      (used_still opening (take place (start ++ behind)) (take (length start - place) (drop place (start ++ behind))) block used))
      (λ ge.
      let within = index_within opening (start ++ behind) legal (length start) place ge in
      let same = ap (last_index opening) seam in
      absurd (left.away place used (omega (arith, le, within, same)) reached))
      (cases_lt place (length start)))
      left.before

  at_start : IsUsed opening start block → (IsReached (namespace_of opening start) block → ⊥) ↔ (since ≤ last_index opening start)
  at_start used =
      subst (λ (l : List Event). (IsReached (namespace_of opening l) block → ⊥) ↔ (since ≤ last_index opening l)) seam
      (since_decides opening (start ++ behind) legal block since left (length start)
      (subst (λ (l : List Event). IsUsed opening l block) (sym seam) used))

  pub garbage_by_since : IsGarbage opening start block ↔ WasLeft opening start since block
  garbage_by_since = (
    λ garbage. record { left = (at_start garbage.used).0 garbage.unreached; unpinned = garbage.unpinned },
    λ was.
        let used = used_at_start was.left in
        record { used = used; unreached = (at_start used).1 was.left; unpinned = was.unpinned },
  )

-- what was to be deleted as the run began is garbage at each place
pub logged_was_garbage : (opening : Opening) (story : List Event) (block : Block) → LogIsCoherent opening → IsLegal opening story
    → is_logged_at_opening opening block ≡ true → IsGarbage opening story block
unfolding namespace_from
logged_was_garbage opening story block log legal is =
    garbage_still opening [] story block legal (record {
      used = inr (inr (inl is));
      unreached = λ reached. log.unreached block is reached;
      unpinned = λ has. in_none block has;
    })

pub logged_left : (opening : Opening) (story : List Event) (block : Block) → LogIsCoherent opening → IsLegal opening story
    → is_logged_at_opening opening block ≡ true → LeftAt opening story block 0
unfolding namespace_from
logged_left opening story block log legal is =
    left_still opening [] story block 0 legal (left_at_opening opening block (λ reached. log.unreached block is reached)) (inr (inr (inl is)))
    (λ reached. log.unreached block is reached)

-- ---- what is logged was used

kept_granted : (most : ℕ) (story : List Event) (block : Block) → Contains (all_told (kept_block most) story) block
    → Contains (all_told granted_block story) block
kept_granted most story block among = told_among granted_block story told.event block told.there (by told.event.kind told.told)
  where
    told : IsTold (kept_block most) story block
    told = told_event (kept_block most) story block among

    chosen : (t : Bool) (o : Option Block) → cond t o None ≡ Some block → o ≡ Some block
    chosen true o e = e
    chosen false o e = absurd (none-some block e)

    by : (kind : EventKind) → kept_block most kind ≡ Some block → granted_block kind ≡ Some block
    by (Decide id index reply batch) e = chosen (nat_le index most) (block_of_reply reply) e
    by kind e = absurd (none-some block e)

kept_used : (opening : Opening) (most : ℕ) (story : List Event) (block : Block) → WasUsed opening (all_told (kept_block most) story) block
    → IsUsed opening story block
kept_used opening most story block (inl reached) = inl reached
kept_used opening most story block (inr (inl there)) = inr (inl there)
kept_used opening most story block (inr (inr (inl logged))) = inr (inr (inl logged))
kept_used opening most story block (inr (inr (inr granted))) = inr (inr (inr (kept_granted most story block granted)))

pub logged_used : (opening : Opening) (story : List Event) (block : Block) → IsLegal opening story → is_logged opening story block ≡ true
    → IsUsed opening story block
unfolding IsGoing
logged_used opening story block legal is = ⊎_elim
    (λ old. inr (inr (inl old)))
    (λ (place, purge).
    let enabled : PurgeAskIsEnabled opening (take place story) purge.seat purge.blocks =
    enabled_at opening story legal place (record { seat = purge.seat; kind = PurgeAsk purge.blocks }) purge.there in
    let kept = All-contains (IsUsedAndKept opening (take place story)) purge.blocks block enabled.used purge.among in
    subst (λ (l : List Event). IsUsed opening l block) (take-append-drop place story)
    (used_still opening (take place story) (drop place story) block
    (kept_used opening (durable_index opening (take place story)) (take place story) block kept)))
    (is_going opening story block legal is)

-- ---- of a block that a datanode still holds

still_logged : (opening : Opening) (story : List Event) (dn : ℕ) (block : Block) → StillHolds opening story dn block
    → is_logged opening story block ≡ true
still_logged opening story dn block it = ⊎_elim
    (λ (there, unretired). one_passes (names_block block) (logs opening story) it.txn there it.names)
    (λ old. one_passes (names_block block) (logs opening story) it.txn (logs_grow opening story 0 it.txn old) it.names)
    it.watched

pub still_by_since : (opening : Opening) (start behind : List Event) (dn : ℕ) (block : Block) (since : ℕ) → IsLegal opening (start ++ behind)
    → StillHolds opening (start ++ behind) dn block → LeftAt opening (start ++ behind) block since
    → IsGarbage opening start block ↔ WasLeft opening start since block
still_by_since opening start behind dn block since legal it left =
    garbage_by_since opening start behind legal block since left
    (logged_used opening (start ++ behind) block legal (still_logged opening (start ++ behind) dn block it))
