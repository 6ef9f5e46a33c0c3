-- Blocks that are out of reach stay in whole rows as the story goes on.
use Rattle.std.proofs.Common.{◌≡◌, ◌==◌, ◌⊎◌, ⊎_elim, inl, inr, ℕ, List, [], ◌∷◌, ◌++◌, length, refl, sym, ap, ◌∙◌, subst, append_assoc}
use Rattle.std.proofs.Math.Seq.{take-length}
use Rattle.std.proofs.lemmas.List.{append_cancel_left}
use Rattle.std.proofs.lemmas.List.Elements.{filter-append}
use Rattle.std.specs.Prelude.{Contains, Option}
use Rattle.oz_core.specs.declared.event.Event.{Event}
use Rattle.oz_core.specs.declared.opening.Opening.{Opening}
use Rattle.oz_core.specs.Law.{IsLegal}
use Rattle.oz_core.specs.Manager.{namespace_of}
use Rattle.oz_core.specs.Seats.{stripe_seat}
use Rattle.oz_core.specs.Stories.{mine}
use Rattle.oz_decision.specs.Meets.{AreInGrammar}
use Rattle.oz_fields.specs.declared.block.Block.{Block}
use Rattle.oz_kept.specs.laws.Deleted.{legal_to}
use Rattle.oz_kept.specs.laws.Places.{legal_behind}
use Rattle.oz_kept.specs.laws.Reached.{stays_away, used_still}
use Rattle.oz_locks.specs.Purges.{HaveWholeRows}
use Rattle.oz_model.specs.Reach.{IsReached}
use Rattle.oz_owned.specs.Stood.{HasStood, StandAt}
use Rattle.oz_owned.specs.laws.Owned.{share_reached}
use Rattle.oz_owned.specs.laws.Standing.{has_stood_without, stands_once}
use Rattle.oz_reclaim.specs.Origins.{RowsComeFrom}
use Rattle.oz_reclaim.specs.laws.Homes.{source_is_reached, whole_still}
use Rattle.oz_rows.specs.RowMaps.{Rows}
use Rattle.oz_sound.specs.stripes.Stripes.{only}
use Rattle.oz_store.specs.striped.Shares.{share_of}
use Rattle.oz_turn.specs.Told.{BeginsWith}
use Rattle.oz_om.specs.Keeps.{AreListed, AreOutOfReach, StayWhole}
use Rattle.oz_om.proofs.Asked.{are_whole, have_whole}

-- ---- two beginnings of one list

module _ {E : Type 0} where
  head_same : (x y : E) (a b : List E) → x ∷ a ≡ y ∷ b → x ≡ y
  head_same x y a b e = cc

  tail_same : (x y : E) (a b : List E) → x ∷ a ≡ y ∷ b → a ≡ b
  tail_same x y a b e = cc

  none_first : (a b : List E) → a ++ b ≡ [] → a ≡ []
  none_first [] b e = refl
  none_first (x ∷ a) b e = absurd cc

  -- one of them begins with the other
  either_begins : (a b c d : List E) → a ++ b ≡ c ++ d → BeginsWith a c ⊎ BeginsWith c a
  either_begins [] b c d e = inr (c, refl)
  either_begins (x ∷ a) b [] d e = inl (x ∷ a, refl)
  either_begins (x ∷ a) b (y ∷ c) d e = ⊎_elim
      (λ longer. inl (longer.0, ap (λ z. z ∷ a) (head_same x y (a ++ b) (c ++ d) e) ∙ ap (λ l. y ∷ l) longer.1))
      (λ longer. inr (longer.0, ap (λ z. z ∷ c) (sym (head_same x y (a ++ b) (c ++ d) e)) ∙ ap (λ l. x ∷ l) longer.1))
      (either_begins a b c d (tail_same x y (a ++ b) (c ++ d) e))

  -- where only one more comes it is within, or all of it
  within_or_all : (a c d : List E) (x : E) → a ++ x ∷ [] ≡ c ++ d → BeginsWith a c ⊎ (c ≡ a ++ x ∷ [])
  within_or_all [] [] d x e = inl ([], refl)
  within_or_all [] (y ∷ c) d x e = inr (by c (tail_same x y [] (c ++ d) e))
    where
      by : (c : List E) → [] ≡ c ++ d → y ∷ c ≡ x ∷ []
      by [] none = ap (λ z. z ∷ []) (sym (head_same x y [] (c ++ d) e))
      by (z ∷ c) none = absurd cc
  within_or_all (z ∷ a) [] d x e = inl (z ∷ a, refl)
  within_or_all (z ∷ a) (y ∷ c) d x e = ⊎_elim
      (λ longer. inl (longer.0, ap (λ w. w ∷ a) (head_same z y (a ++ x ∷ []) (c ++ d) e) ∙ ap (λ l. y ∷ l) longer.1))
      (λ all. inr (ap (λ w. w ∷ c) (sym (head_same z y (a ++ x ∷ []) (c ++ d) e)) ∙ ap (λ l. z ∷ l) all))
      (within_or_all a c d x (tail_same z y (a ++ x ∷ []) (c ++ d) e))

-- ---- out of reach

-- what is out of reach stays so
pub out_of_reach_still : (opening : Opening) (before more : List Event) (blocks : List Block) → IsLegal opening (before ++ more)
    → AreOutOfReach opening before blocks → AreOutOfReach opening (before ++ more) blocks
out_of_reach_still opening before more blocks legal out block there = (
  used_still opening before more block (out block there).0,
  λ reached. stays_away opening block more before (length more) (legal_behind opening [] before more legal) (out block there).0 (out block there).1
      (subst (λ (l : List Event). IsReached (namespace_of opening (before ++ l)) block) (sym (take-length more)) reached),
)

-- by a decision of the stripe
pub whole_decided : (opening : Opening) (loaded : Rows) (stripe : ℕ) (story : List Event) (all now : Rows) (granted : Option Block)
    → StandAt opening loaded stripe story all → AreInGrammar now → RowsComeFrom all now granted → (blocks : List Block) → AreOutOfReach opening story blocks
    → HaveWholeRows all blocks → HaveWholeRows now blocks
whole_decided opening loaded stripe story all now granted at fit come blocks out whole = have_whole now fit blocks
    (whole_still all now come.deleted (Contains blocks)
    (λ block has source. (out block has).1
    (share_reached stripe (namespace_of opening story) block
    (source_is_reached all at.stand.fit (share_of stripe (namespace_of opening story)) at.stand.stands block source)).0)
    (are_whole all at.stand.fit blocks whole))

-- ---- as the story goes on

module _ (opening : Opening) (loaded : Rows) (stripe : ℕ) (story : List Event) (rows : Rows) (listed : AreListed (only stripe loaded)) where
  -- by one event, behind which these rows stand
  pub whole_further : (event : Event) (now : Rows) → IsLegal opening (story ++ event ∷ []) → HasStood opening loaded stripe (story ++ event ∷ []) now
      → ((blocks : List Block) → AreOutOfReach opening story blocks → HaveWholeRows rows blocks → HaveWholeRows now blocks)
      → StayWhole opening loaded stripe story rows → StayWhole opening loaded stripe (story ++ event ∷ []) now
  whole_further event now legal stood step stay before was blocks begins was_stood out whole = ⊎_elim
      (λ within. step blocks
      (subst (λ (l : List Event). AreOutOfReach opening l blocks) (sym within.1)
      (out_of_reach_still opening before within.0 blocks
      (subst (IsLegal opening) within.1 (legal_to opening [] story (event ∷ []) legal)) out))
      (stay before was blocks within was_stood out whole))
      (λ all. subst (λ (r : Rows). HaveWholeRows r blocks)
      (sym (stands_once opening loaded stripe (story ++ event ∷ []) now listed.all listed.are stood was
      (subst (λ (l : List Event). HasStood opening loaded stripe l was) all was_stood)))
      whole)
      (within_or_all story before begins.0 event begins.1)

  -- by events of other seats
  pub whole_longer : (more : List Event) → IsLegal opening (story ++ more) → mine (stripe_seat stripe) more ≡ [] → HasStood opening loaded stripe story rows
      → StayWhole opening loaded stripe story rows → StayWhole opening loaded stripe (story ++ more) rows
  whole_longer more legal none stood stay before was blocks begins was_stood out whole = ⊎_elim
      (λ within. stay before was blocks within was_stood out whole)
      (λ longer.
      let front : story ++ longer.0 ≡ before = sym longer.1 in
      let parts : more ≡ longer.0 ++ begins.0 = append_cancel_left story more (longer.0 ++ begins.0)
      (begins.1 ∙ (ap (λ (l : List Event). l ++ begins.0) longer.1 ∙ append_assoc story longer.0 begins.0)) in
      let now : HasStood opening loaded stripe before rows = subst (λ (l : List Event). HasStood opening loaded stripe l rows) front
      (has_stood_without opening loaded stripe story longer.0 rows
      (legal_to opening [] (story ++ longer.0) begins.0 (subst (IsLegal opening) (begins.1 ∙ ap (λ (l : List Event). l ++ begins.0) longer.1) legal))
      (none_first (mine (stripe_seat stripe) longer.0) (mine (stripe_seat stripe) begins.0)
      (sym (filter-append (λ (event : Event). event.seat == stripe_seat stripe) longer.0 begins.0) ∙ ap (mine (stripe_seat stripe)) (sym parts) ∙ none))
      stood) in
      subst (λ (r : Rows). HaveWholeRows r blocks) (sym (stands_once opening loaded stripe before rows listed.all listed.are now was was_stood)) whole)
      (either_begins story more before begins.0 begins.1)
