-- What is said of a stripe's rows stays where nothing is decided of the stripe, and what they don't reach wasn't reached.
use Rattle.std.proofs.Common.{◌≡◌, ◌≢◌, ◌⊎◌, ⊎_elim, ℕ, ◌==◌, ◌<◌, ◌≤◌, ◌&&◌, nat_le, nat_lt, Bool, true, false, cond, List, [], ◌∷◌, ◌++◌}
use Rattle.std.proofs.Common.{length, take, Option, None, Contains, append-nil, inl, inr, refl, sym, ◌∙◌, ap, subst}
use Rattle.std.proofs.lemmas.Bool.{eq-eqb, eqb-true}
use Rattle.std.proofs.lemmas.List.Elements.{filter-append}
use Rattle.std.proofs.Math.Seq.{take-append_seam}
use Rattle.std.specs.List.{cons_option}
use Rattle.oz_decision.specs.Meets.{Stand}
use Rattle.oz_fields.specs.declared.block.Block.{Block}
use Rattle.oz_names.specs.declared.limits.TheConstants.{STRIPES}
use Rattle.oz_namespace.specs.declared.namespace.Namespace.{Namespace}
use Rattle.oz_requests.specs.declared.reply.Reply.{Reply}
use Rattle.oz_requests.specs.declared.request.AskId.{AskId}
use Rattle.oz_rows.specs.declared.entry.RowEntry.{RowEntry}
use Rattle.oz_rows.specs.RowMaps.{AreRows, Rows}
use Rattle.oz_sound.specs.Kept.{HasHome}
use Rattle.oz_sound.specs.Sound.{IsSound}
use Rattle.oz_sound.specs.StandsFor.{StandsFor}
use Rattle.oz_sound.specs.stripes.Stripes.{only}
use Rattle.oz_model.specs.Reach.{IsReached}
use Rattle.oz_model.specs.laws.Members.{of_filtered}
use Rattle.oz_core.specs.declared.event.Event.{Event}
use Rattle.oz_core.specs.declared.event.EventKind.{EventKind}
use Rattle.oz_core.specs.declared.event.EventKind.TheVariants.{Decide}
use Rattle.oz_core.specs.declared.opening.Opening.{Opening}
use Rattle.oz_core.specs.Contents.{OpeningBytes}
use Rattle.oz_core.specs.Law.{IsLegal}
use Rattle.oz_core.specs.Manager.{IsUsed, decided_index, granted_block, kept_block, kept_up_to, namespace_of}
use Rattle.oz_core.specs.Scm.{is_logged}
use Rattle.oz_core.specs.Seats.{stripe_seat}
use Rattle.oz_core.specs.Stories.{all_told, mine}
use Rattle.oz_kept.specs.laws.Deleted.{legal_to}
use Rattle.oz_kept.specs.laws.Granted.{told_among}
use Rattle.oz_kept.specs.laws.Places.{moved_over}
use Rattle.oz_kept.specs.reopened.laws.Named.{told_event}
use Rattle.oz_store.specs.Store.{IsStore}
use Rattle.oz_store.specs.granted.Granted.{AreOld, handed_out}
use Rattle.oz_store.specs.striped.Shares.{share_of}
use Rattle.oz_store.specs.striped.laws.Shares.{one_share, share_is_there}
use Rattle.oz_store.specs.striped.laws.Stories.{others_next, share_of_seen}
use Rattle.oz_owned.specs.Own.{IsOwn, NamesLocal}
use Rattle.oz_owned.specs.Stood.{AreBased, AreWritten, HasStood, HaveStood, HaveStoodFrom, IsMadeBy, IsWritten, StandAt, StepsTo, TablesStand, batches_of}
use Rattle.oz_owned.specs.laws.Based.{standing_based}
use Rattle.oz_owned.specs.laws.Owned.{handed_append, own_in_share, own_still, used_is_own}
use Rattle.oz_owned.specs.laws.Swept.{logged_still}
use Rattle.oz_owned.specs.laws.Tables.{brought, front_stood, replayed, stand_still}
use Rattle.oz_owned.specs.laws.Written.{decided_nothing, stood_based, stood_first, stood_joined, stood_last, stood_one, stood_parted}

-- ---- the story goes on without a Decide of the stripe

-- where the stripe's share is the same, and nothing is handed out of it
pub stand_on : (opening : Opening) (loaded rows : Rows) (stripe : ℕ) (before more : List Event)
    → share_of stripe (namespace_of opening before) ≡ share_of stripe (namespace_of opening (before ++ more))
    → handed_out stripe (before ++ more) ≡ handed_out stripe before
    → StandAt opening loaded stripe before rows → StandAt opening loaded stripe (before ++ more) rows
stand_on opening loaded rows stripe before more share handed at = record {
  stand = subst (λ (n : Namespace). Stand IsSound rows n) share at.stand;
  old = subst (λ (l : List Block). AreOld (only stripe loaded) l rows) (sym handed) at.old;
  homes_old = λ block home. own_still loaded stripe before more block (at.homes_old block home);
  keys_old = λ local names. subst
      (λ (l : List Block). NamesLocal (only stripe loaded) local ⊎ ((block : Block) × Contains l block × (block.local ≡ local)))
      (sym handed) (at.keys_old local names);
  kept_or_logged = λ block own. ⊎_elim (λ home. inl home) (λ is. inr (logged_still opening before more block is))
      (at.kept_or_logged block (subst (λ (l : List Block). HasHome (only stripe loaded) block ⊎ Contains l block) handed own));
}

-- events of other seats
module _ (opening : Opening) (stripe : ℕ) where
  same_ours : (before more : List Event) → mine (stripe_seat stripe) more ≡ [] → mine (stripe_seat stripe) (before ++ more) ≡ mine (stripe_seat stripe) before
  same_ours before more none =
      filter-append (λ (event : Event). event.seat == stripe_seat stripe) before more
      ∙ ap (λ (l : List Event). mine (stripe_seat stripe) before ++ l) none ∙ append-nil (mine (stripe_seat stripe) before)

  pub share_without : (before more : List Event) → IsLegal opening (before ++ more) → mine (stripe_seat stripe) more ≡ []
      → share_of stripe (namespace_of opening before) ≡ share_of stripe (namespace_of opening (before ++ more))
  share_without before more legal none =
      let next = before ++ more in
      one_share stripe (namespace_of opening next) (share_of stripe (namespace_of opening before)) (share_of stripe (namespace_of opening next))
      (share_of_seen stripe opening next before more (share_of stripe (namespace_of opening before)) legal refl (same_ours before more none)
      (share_is_there stripe (namespace_of opening before)))
      (share_is_there stripe (namespace_of opening next))

module _ (opening : Opening) (loaded : Rows) (stripe : ℕ) where
  pub stand_without : (before more : List Event) (rows : Rows) → IsLegal opening (before ++ more) → mine (stripe_seat stripe) more ≡ []
      → StandAt opening loaded stripe before rows → StandAt opening loaded stripe (before ++ more) rows
  stand_without before more rows legal none at =
      stand_on opening loaded rows stripe before more (share_without opening stripe before more legal none)
      (ap (all_told granted_block) (same_ours opening stripe before more none)) at

  record Elsewhere (event : Event) (rest : List Event) : Type 0 where
    apart : event.seat ≢ stripe_seat stripe
    later : mine (stripe_seat stripe) rest ≡ []
    alone : mine (stripe_seat stripe) (event ∷ []) ≡ []

  none_first : (event : Event) (rest : List Event) → mine (stripe_seat stripe) (event ∷ rest) ≡ [] → Elsewhere event rest
  none_first event rest none = by (event.seat == stripe_seat stripe) refl
    where
      kept : (t : Bool) → (event.seat == stripe_seat stripe) ≡ t → cond t (event ∷ mine (stripe_seat stripe) rest) (mine (stripe_seat stripe) rest) ≡ []
      kept t e = ap (λ (u : Bool). cond u (event ∷ mine (stripe_seat stripe) rest) (mine (stripe_seat stripe) rest)) (sym e) ∙ none

      by : (t : Bool) → (event.seat == stripe_seat stripe) ≡ t → Elsewhere event rest
      by true e = absurd (cc (kept true e))
      by false e = record {
        apart = λ same. absurd (cc (sym e ∙ eq-eqb event.seat (stripe_seat stripe) same));
        later = kept false e;
        alone = ap (λ (u : Bool). cond u (event ∷ []) []) e;
      }

  pub stood_without : (more before : List Event) (rows : Rows) → IsLegal opening (before ++ more) → mine (stripe_seat stripe) more ≡ []
      → StandAt opening loaded stripe before rows → HaveStoodFrom (StandAt opening loaded stripe) stripe before rows more rows
  unfolding HaveStoodFrom
  stood_without [] before rows legal none at = (at, refl)
  stood_without (event ∷ more) before rows legal none at =
      let first = none_first event more none in
      let now : IsLegal opening ((before ++ event ∷ []) ++ more) = subst (IsLegal opening) (sym (moved_over before more event)) legal in
      let next = stand_without before (event ∷ []) rows (legal_to opening [] (before ++ event ∷ []) more now) first.alone at in (
        at,
        (
          rows,
          record { own = λ is. absurd (first.apart is); others = λ not. refl },
          stood_without more (before ++ event ∷ []) rows now first.later next,
        ),
      )

  -- so rows that stood go on standing
  pub has_stood_without : (seen more : List Event) (rows : Rows) → IsLegal opening (seen ++ more) → mine (stripe_seat stripe) more ≡ []
      → HasStood opening loaded stripe seen rows → HasStood opening loaded stripe (seen ++ more) rows
  has_stood_without seen more rows legal none stood =
      stood_joined (StandAt opening loaded stripe) stripe [] (only stripe loaded) seen rows more rows stood
      (stood_without more seen rows legal none (stood_last (StandAt opening loaded stripe) stripe [] (only stripe loaded) seen rows stood))

-- an event that is no Decide of the stripe
module _ (stripe : ℕ) (event : Event) (none : event.seat ≡ stripe_seat stripe → decided_index event.kind ≡ None) where
  no_decide_makes : (rows : Rows) (kind : EventKind) → decided_index kind ≡ None → IsMadeBy stripe rows kind rows
  no_decide_makes rows (Decide id index reply batch) is = absurd cc
  no_decide_makes rows kind is = refl

  no_decide_grants : (kind : EventKind) → decided_index kind ≡ None → granted_block kind ≡ None
  no_decide_grants (Decide id index reply batch) is = absurd cc
  no_decide_grants kind is = refl

  pub makes_nothing : (rows : Rows) → StepsTo stripe rows event rows
  makes_nothing rows = record { own = λ own. no_decide_makes rows event.kind (none own); others = λ others. refl }

  none_handed : handed_out stripe (event ∷ []) ≡ []
  none_handed = by (event.seat == stripe_seat stripe) refl
    where
      by : (t : Bool) → (event.seat == stripe_seat stripe) ≡ t → handed_out stripe (event ∷ []) ≡ []
      by true e =
          ap (λ (u : Bool). all_told granted_block (cond u (event ∷ []) [])) e
          ∙ ap (λ (o : Option Block). cons_option o []) (no_decide_grants event.kind (none (eqb-true event.seat (stripe_seat stripe) e)))
      by false e = ap (λ (u : Bool). all_told granted_block (cond u (event ∷ []) [])) e

  module _ (opening : Opening) (before : List Event) (legal : IsLegal opening (before ++ event ∷ [])) where
    same_share : share_of stripe (namespace_of opening before) ≡ share_of stripe (namespace_of opening (before ++ event ∷ []))
    same_share = by (event.seat == stripe_seat stripe) refl
      where
        by : (t : Bool) → (event.seat == stripe_seat stripe) ≡ t
            → share_of stripe (namespace_of opening before) ≡ share_of stripe (namespace_of opening (before ++ event ∷ []))
        by true e = ap (share_of stripe) (sym (others_next opening before event (none (eqb-true event.seat (stripe_seat stripe) e))))
        by false e = share_without opening stripe before (event ∷ []) legal (ap (λ (u : Bool). cond u (event ∷ []) []) e)

    pub stand_at_still : (loaded rows : Rows) → StandAt opening loaded stripe before rows → StandAt opening loaded stripe (before ++ event ∷ []) rows
    stand_at_still loaded rows at = stand_on opening loaded rows stripe before (event ∷ []) same_share
        (handed_append stripe before (event ∷ []) ∙ ap (λ (l : List Block). handed_out stripe before ++ l) none_handed ∙ append-nil (handed_out stripe before)) at

    pub tables_still : (loaded : Rows) (most : ℕ) (tables : Rows) → TablesStand opening loaded stripe before most tables
        → TablesStand opening loaded stripe (before ++ event ∷ []) most tables
    tables_still loaded most tables it =
        stand_still (StandAt opening loaded stripe) opening loaded stripe before event most tables legal (makes_nothing tables)
        (λ stood. stand_at_still loaded tables (stood_last (StandAt opening loaded stripe) stripe [] (only stripe loaded) before tables stood)) it

-- ---- what was brought

-- an empty batch of the stripe's own Decide
pub tables_quiet : (opening : Opening) (loaded tables : Rows) (stripe most index : ℕ) (story : List Event) (id : AskId) (reply : Reply)
    → IsLegal opening (story ++ record { seat = stripe_seat stripe; kind = Decide id index reply [] } ∷ [])
    → (HaveStood (StandAt opening loaded stripe) loaded stripe story tables
    → StandAt opening loaded stripe (story ++ record { seat = stripe_seat stripe; kind = Decide id index reply [] } ∷ []) tables)
    → TablesStand opening loaded stripe story most tables
    → TablesStand opening loaded stripe (story ++ record { seat = stripe_seat stripe; kind = Decide id index reply [] } ∷ []) most tables
tables_quiet opening loaded tables stripe most index story id reply legal at it =
    let event : Event = record { seat = stripe_seat stripe; kind = Decide id index reply [] } in
    stand_still (StandAt opening loaded stripe) opening loaded stripe story event most tables legal
    (record { own = λ own. decided_nothing stripe tables index; others = λ others. absurd (others refl) }) at it

module _ (opening : Opening) (loaded : Rows) (stripe : ℕ) (story : List Event) (newest : Rows)
    (listed : List RowEntry) (are : AreRows listed (only stripe loaded))
    (stood : HaveStood (StandAt opening loaded stripe) loaded stripe story newest) where
  based : AreBased (only stripe loaded)
  based =
      let first = stood_first (StandAt opening loaded stripe) stripe [] (only stripe loaded) story newest stood in
      standing_based (only stripe loaded) (share_of stripe (namespace_of opening [])) first.stand.stands listed are first.stand.fit

  -- so there are only so many rows at each place
  pub newest_based : AreBased newest
  newest_based = stood_based (StandAt opening loaded stripe) stripe [] (only stripe loaded) story newest based stood

  pub stands_once : (other : Rows) → HaveStood (StandAt opening loaded stripe) loaded stripe story other → newest ≡ other
  stands_once other another = stood_one (StandAt opening loaded stripe) stripe [] (only stripe loaded) story newest other based stood another

  module _ (legal : IsLegal opening story) where
    pub brought_all : (most : ℕ) (tables : Rows) → opening.last_index ≤ most
        → AreWritten (only stripe loaded) (batches_of (λ index. nat_le index most) stripe story) tables → TablesStand opening loaded stripe story most tables
    brought_all most tables low written = replayed (StandAt opening loaded stripe) opening loaded stripe story newest legal stood based most tables low written

    pub brought_more : (most later : ℕ) (tables next : Rows) → opening.last_index ≤ most → most ≤ later → TablesStand opening loaded stripe story most tables
        → AreWritten tables (batches_of (λ index. nat_lt most index && nat_le index later) stripe story) next
        → TablesStand opening loaded stripe story later next
    brought_more most later tables next low le it written =
        brought (StandAt opening loaded stripe) opening loaded stripe story newest legal stood based most later tables next low le it written

    pub brought_one : (most later : ℕ) (tables next : Rows) (batch : List ℕ) → opening.last_index ≤ most → most ≤ later
        → TablesStand opening loaded stripe story most tables
        → batches_of (λ index. nat_lt most index && nat_le index later) stripe story ≡ batch ∷ [] → IsWritten tables batch next
        → TablesStand opening loaded stripe story later next
    unfolding AreWritten
    brought_one most later tables next batch low le it only_one written =
        brought_more most later tables next low le it (subst (λ (l : List (List ℕ)). AreWritten tables l next) (sym only_one) (next, written, refl))

-- ---- what the tables stand for

pub handed_kept : (opening : Opening) (loaded tables : Rows) (stripe most : ℕ) (story : List Event) (block : Block)
    (it : TablesStand opening loaded stripe story most tables) → Contains (handed_out stripe it.front) block
    → Contains (all_told (kept_block most) story) block
handed_kept opening loaded tables stripe most story block it handed =
    let told = told_event granted_block (mine (stripe_seat stripe) it.front) block handed in
    let own = of_filtered (λ (event : Event). event.seat == stripe_seat stripe) it.front told.event told.there in
    subst (λ (l : List Block). Contains l block) (sym it.is_front.granted) (told_among granted_block it.front told.event block own.0 told.told)

module _ (opening : Opening) (bytes : OpeningBytes) (loaded : Rows) (story : List Event) (stripe most : ℕ) (tables : Rows) (block : Block)
    (store : IsStore loaded opening bytes) (legal : IsLegal opening story) (it : TablesStand opening loaded stripe story most tables)
    (own : IsOwn loaded stripe story block) (unreached : (namespace : Namespace) → StandsFor tables namespace → IsReached namespace block → ⊥) where
  pub unreached_front : IsReached (namespace_of opening it.front) block → ⊥
  unreached_front reached =
      let at = front_stood (StandAt opening loaded stripe) opening loaded stripe story most tables it in
      let front = ap (λ (l : List Event). take (length it.front) l) it.is_front.parts ∙ take-append_seam it.front it.is_front.behind in
      let shared = (own_in_share opening bytes loaded store story legal stripe (length it.front) block own).0
      (subst (λ (l : List Event). IsReached (namespace_of opening l) block) (sym front) reached) in
      unreached (share_of stripe (namespace_of opening it.front)) at.stand.stands
      (subst (λ (l : List Event). IsReached (share_of stripe (namespace_of opening l)) block) front shared)

  pub unreached_kept : IsReached (kept_up_to opening most story) block → ⊥
  unreached_kept reached = unreached_front (subst (λ (n : Namespace). IsReached n block) it.is_front.namespace reached)

-- ---- used blocks

module _ (opening : Opening) (bytes : OpeningBytes) (loaded : Rows) (story front more : List Event) (last : ℕ → Rows) (block : Block)
    (store : IsStore loaded opening bytes) (legal : IsLegal opening story) (parts : story ≡ front ++ more)
    (stood : (stripe : ℕ) → stripe < STRIPES → HasStood opening loaded stripe story (last stripe)) where
  pub used_is_kept_there : IsUsed opening front block
      → ((stripe : ℕ) × (rows : Rows) × HasStood opening loaded stripe front rows × HasHome rows block) ⊎ (is_logged opening front block ≡ true)
  used_is_kept_there used = ⊎_elim
      (λ own.
      let its = StandAt opening loaded own.stripe in
      let there = stood_parted its own.stripe [] (only own.stripe loaded) front more (last own.stripe)
      (subst (λ (l : List Event). HasStood opening loaded own.stripe l (last own.stripe)) parts (stood own.stripe own.there)) in
      let at = stood_last its own.stripe [] (only own.stripe loaded) front there.middle there.first in
      ⊎_elim (λ home. inl (own.stripe, there.middle, there.first, home)) (λ is. inr is) (at.kept_or_logged block own.own))
      (λ is. inr (logged_still opening [] front block is))
      (used_is_own opening bytes loaded store front (legal_to opening [] front more (subst (IsLegal opening) parts legal)) block used)
