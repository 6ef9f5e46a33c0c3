-- What is kept of a stripe while the story goes on without it.
use Rattle.std.proofs.Common.{◌≡◌, ◌≤◌, ℕ, List, [], ◌++◌, Option, refl, sym, ap, ◌∙◌, subst}
use Rattle.oz_buffer.specs.Buffer.{AllFollow, Follows}
use Rattle.oz_cache.specs.Cache.{newest}
use Rattle.oz_core.specs.declared.event.Event.{Event}
use Rattle.oz_core.specs.declared.opening.Opening.{Opening}
use Rattle.oz_core.specs.Contents.{OpeningBytes}
use Rattle.oz_core.specs.Law.{IsLegal, IsLegalFrom}
use Rattle.oz_core.specs.Manager.{durable_index, stable_index}
use Rattle.oz_core.specs.Seats.{stripe_seat}
use Rattle.oz_core.specs.Stories.{last_told, mine}
use Rattle.oz_kept.specs.laws.Deleted.{durable_rises}
use Rattle.oz_kept.specs.laws.Places.{legal_behind}
use Rattle.oz_owned.specs.Stood.{HasStood, StandAt}
use Rattle.oz_owned.specs.laws.Owned.{own_still}
use Rattle.oz_owned.specs.laws.Standing.{has_stood_without, stand_without}
use Rattle.oz_script.specs.declared.lines.script.Script.{Script}
use Rattle.oz_locks.specs.Flushes.{flushed_in}
use Rattle.oz_locks.specs.Stripe.{StripeView}
use Rattle.oz_rows.specs.RowMaps.{Rows}
use Rattle.oz_om.specs.Held.{IsDrafting, IsHeld}
use Rattle.oz_om.specs.Keeps.{AreAsked, KeepsRows, StayWhole}
use Rattle.oz_om.specs.laws.Runs.{none_given}
use Rattle.oz_om.proofs.Legal.{legal_of}
use Rattle.oz_om.proofs.Roomier.{newest_same}
use Rattle.oz_om.proofs.Whole.{whole_longer}

-- what was asked stays the stripe's own
pub asked_longer : (loaded : Rows) (stripe : ℕ) (given seen more : List Event) (rows : Rows) → AreAsked loaded stripe given seen rows
    → AreAsked loaded stripe given (seen ++ more) rows
asked_longer loaded stripe given seen more rows asked = record {
  own = λ blocks there k d within. own_still loaded stripe seen more _ (asked.own blocks there k d within);
  whole = asked.whole;
}

module _ (Coherent : Type 0) (opening : Opening) (bytes : OpeningBytes) (script : Script) (loaded : Rows) (stripe : ℕ)
    (given seen more story : List Event) (parts : story ≡ seen ++ more) (follow : AllFollow (Follows Coherent opening bytes script) [] story)
    (own : mine (stripe_seat stripe) story ≡ given) where
  pub keeps_longer : (rows : Rows) → KeepsRows Coherent opening loaded stripe given seen rows → KeepsRows Coherent opening loaded stripe given story rows
  keeps_longer rows keeps = record {
    own = own;
    fit = keeps.fit;
    listed = keeps.listed;
    stands = λ coherent. subst (λ (l : List Event). StandAt opening loaded stripe l rows) (sym parts)
        (stand_without opening loaded stripe seen more rows (legal coherent) none (keeps.stands coherent));
    stood = λ coherent. subst (λ (l : List Event). HasStood opening loaded stripe l rows) (sym parts)
        (has_stood_without opening loaded stripe seen more rows (legal coherent) none (keeps.stood coherent));
    asked = λ coherent. subst (λ (l : List Event). AreAsked loaded stripe given l rows) (sym parts)
        (asked_longer loaded stripe given seen more rows (keeps.asked coherent));
    whole = λ coherent. subst (λ (l : List Event). StayWhole opening loaded stripe l rows) (sym parts)
        (whole_longer opening loaded stripe seen rows keeps.listed more (legal coherent) none (keeps.stood coherent) (keeps.whole coherent));
  }
    where
      legal : Coherent → IsLegal opening (seen ++ more)
      legal coherent = subst (IsLegal opening) parts (legal_of Coherent opening bytes script coherent story follow)

      none : mine (stripe_seat stripe) more ≡ []
      none = none_given stripe given seen more (ap (mine (stripe_seat stripe)) (sym parts) ∙ own) keeps.own

  -- what is flushed doesn't fall
  pub flushed_rises : Coherent → (opened : ℕ) → opened ≡ opening.last_index → flushed_in opened seen ≤ durable_index opening story
  flushed_rises coherent opened is =
      subst (λ (n : ℕ). last_told stable_index n seen ≤ durable_index opening story) (sym is)
      (subst (λ (l : List Event). durable_index opening seen ≤ durable_index opening l) (sym parts)
      (durable_rises opening more seen (legal_behind opening [] seen more (subst (IsLegalFrom opening []) parts (legal_of Coherent opening bytes script coherent story follow)))))

module _ {T : Type 0} (Coherent : Type 0) (opening : Opening) (bytes : OpeningBytes) (script : Script) (loaded : Rows) (story : List Event) where
  -- what a stripe is held for, when room is made
  pub held_drafted : (s t : StripeView T) → IsDrafting s t → IsHeld Coherent opening bytes script loaded s story → IsHeld Coherent opening bytes script loaded t story
  held_drafted s t drafting held =
      let rows : newest s.cache ≡ newest t.cache = sym (newest_same t.cache s.cache drafting.rows.rows drafting.rows.entered) in
      subst (λ (v : StripeView T). IsHeld Coherent opening bytes script loaded v story) (sym drafting.same)
      (record {
        seen = held.seen;
        follow = held.follow;
        own = held.own;
        keeps = subst (λ (r : Rows). KeepsRows Coherent opening loaded s.number s.mine story r) rows held.keeps;
      })

  -- what a stripe is held for, as it takes the value
  pub held_taken : (s t : StripeView T) (taken : Option T) (more : List Event) → t ≡ record s { seen = story; taken = taken } → story ≡ s.seen ++ more
      → AllFollow (Follows Coherent opening bytes script) [] story → mine (stripe_seat s.number) story ≡ s.mine
      → KeepsRows Coherent opening loaded s.number s.mine s.seen (newest s.cache) → IsHeld Coherent opening bytes script loaded t story
  held_taken s t taken more same parts follow own keeps = subst (λ (v : StripeView T). IsHeld Coherent opening bytes script loaded v story) (sym same)
      (record {
        seen = refl;
        follow = follow;
        own = own;
        keeps = keeps_longer Coherent opening bytes script loaded s.number s.mine s.seen more story parts follow own (newest s.cache) keeps;
      })
