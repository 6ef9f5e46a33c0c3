-- What a stripe reaches and names is its own, and a block is the own of one stripe.
use Rattle.std.proofs.Common.{◌≡◌, ◌≢◌, ◌⊎◌, ◌↔◌, ⊎_elim, ℕ, suc, true, false, ◌==◌, List, [], ◌∷◌, ◌++◌, take}
use Rattle.std.proofs.Common.{drop, Option, Some, Contains, inl, inr, refl, sym, ◌∙◌, ap, subst, append-nil, arith}
use Rattle.std.proofs.lemmas.Bool.{eq-eqb, eqb-true, cases_Bool}
use Rattle.std.proofs.lemmas.List.{take-append-drop}
use Rattle.std.proofs.lemmas.List.Elements.{Contains-append_left, Contains-append_right, filter-append, filter_map-append}
use Rattle.std.proofs.lemmas.Option.{none-some, same_Some}
use Rattle.std.specs.FinMap.{get}
use Rattle.std.specs.Option.{option_and_then}
use Rattle.oz_fields.specs.declared.block.Block.{Block}
use Rattle.oz_names.specs.Names.{stripe_of}
use Rattle.oz_namespace.specs.declared.namespace.Bucket.{Bucket}
use Rattle.oz_namespace.specs.declared.namespace.Namespace.{Namespace}
use Rattle.oz_namespace.specs.Namespace.{ByName}
use Rattle.oz_requests.specs.declared.reply.Reply.{Reply}
use Rattle.oz_requests.specs.declared.reply.Reply.TheVariants as replies
use Rattle.oz_requests.specs.declared.request.AskId.{AskId}
use Rattle.oz_requests.specs.declared.request.Request.{Request}
use Rattle.oz_requests.specs.Names.{volume_in}
use Rattle.oz_rows.specs.declared.key.RowKey.{RowKey}
use Rattle.oz_rows.specs.declared.key.RowKey.TheVariants as keys
use Rattle.oz_rows.specs.RowMaps.{Rows}
use Rattle.oz_sound.specs.Kept.{HasHome}
use Rattle.oz_sound.specs.Sound.{IsHome, StandsIn}
use Rattle.oz_sound.specs.stripes.Stripes.{only, stripe_of_key}
use Rattle.oz_model.specs.Answers.{after}
use Rattle.oz_model.specs.Buckets.{granted_by}
use Rattle.oz_model.specs.Reach.{IsReached}
use Rattle.oz_model.specs.laws.Members.{filtered}
use Rattle.oz_model.specs.laws.Reaches.{reach_grows}
use Rattle.oz_core.specs.declared.event.Event.{Event}
use Rattle.oz_core.specs.declared.event.EventKind.{EventKind}
use Rattle.oz_core.specs.declared.event.EventKind.TheVariants.{Decide}
use Rattle.oz_core.specs.declared.opening.Opening.{Opening}
use Rattle.oz_core.specs.Contents.{OpeningBytes}
use Rattle.oz_core.specs.Law.{IsLegal, IsLegalFrom, KindIsEnabled, DecideIsEnabled}
use Rattle.oz_core.specs.Manager.{IsUsed, block_of_reply, granted_block, kept_up_to, named_by, namespace_after}
use Rattle.oz_core.specs.Manager.{namespace_from, namespace_of, namespace_step}
use Rattle.oz_core.specs.Scm.{is_logged_at_opening}
use Rattle.oz_core.specs.Seats.{stripe_seat}
use Rattle.oz_core.specs.Stories.{all_told, mine}
use Rattle.oz_kept.specs.laws.Places.{legal_first, legal_rest, moved_over, namespace_next}
use Rattle.oz_kept.specs.laws.Reached.{in_none, in_one}
use Rattle.oz_kept.specs.laws.Deleted.{enabled_at, found_at, front_legal, split_at}
use Rattle.oz_kept.specs.laws.Granted.{told_among}
use Rattle.oz_kept.specs.reopened.laws.Named.{told_event}
use Rattle.oz_store.specs.Store.{IsStore}
use Rattle.oz_store.specs.granted.Granted.{handed_out}
use Rattle.oz_store.specs.granted.laws.Grants.{local_from, one_stripe}
use Rattle.oz_store.specs.granted.laws.Handed.{handed_granted}
use Rattle.oz_store.specs.striped.Shares.{share_of}
use Rattle.oz_store.specs.striped.laws.Requests.{share_after, share_answers, share_elsewhere}
use Rattle.oz_store.specs.striped.laws.Rows.{standing_has_all}
use Rattle.oz_store.specs.striped.laws.Shares.{its_buckets, no_buckets, one_of_sixteen, one_share, share_is_there}
use Rattle.oz_store.specs.striped.laws.Stories.{story_has_all}
use Rattle.oz_owned.specs.Own.{IsOfItsStripe, IsOfSomeStripe, IsOwn}
use Rattle.oz_owned.specs.laws.Found.{home_of_volume, homes_of_one_stripe, reached_at_home, stands_in_all, stands_in_only}
use Rattle.oz_owned.specs.laws.Named.{named_reached}

-- ---- what was handed out stays so

pub handed_append : (stripe : ℕ) (before more : List Event) → handed_out stripe (before ++ more) ≡ handed_out stripe before ++ handed_out stripe more
handed_append stripe before more =
    ap (all_told granted_block) (filter-append (λ (event : Event). event.seat == stripe_seat stripe) before more)
    ∙ filter_map-append (λ (event : Event). granted_block event.kind) (mine (stripe_seat stripe) before) (mine (stripe_seat stripe) more)

pub own_still : (loaded : Rows) (stripe : ℕ) (before more : List Event) (block : Block) → IsOwn loaded stripe before block
    → IsOwn loaded stripe (before ++ more) block
own_still loaded stripe before more block (inl row) = inl row
own_still loaded stripe before more block (inr handed) =
    inr (subst (λ (l : List Block). Contains l block) (sym (handed_append stripe before more))
    (Contains-append_left (handed_out stripe before) (handed_out stripe more) block handed))

pub own_later : (loaded : Rows) (stripe : ℕ) (story : List Event) (place : ℕ) (block : Block) → IsOwn loaded stripe (take place story) block
    → IsOwn loaded stripe story block
own_later loaded stripe story place block own =
    subst (λ (l : List Event). IsOwn loaded stripe l block) (take-append-drop place story)
    (own_still loaded stripe (take place story) (drop place story) block own)

-- what the stripe's own Decide grants is handed out
handed_now : (loaded : Rows) (stripe seat index pipeline : ℕ) (before : List Event) (id : AskId) (batch : List ℕ) (block : Block) → seat ≡ stripe_seat stripe
    → IsOwn loaded stripe (before ++ record { seat = seat; kind = Decide id index (replies.Granted block pipeline) batch } ∷ []) block
handed_now loaded stripe seat index pipeline before id batch block its =
    let event : Event = record { seat = seat; kind = Decide id index (replies.Granted block pipeline) batch } in
    let story = before ++ event ∷ [] in
    let among = Contains-append_right before (event ∷ []) event (0, omega arith, refl) in
    let own = filtered (λ (event : Event). event.seat == stripe_seat stripe) story event among (eq-eqb seat (stripe_seat stripe) its) in
    inr (told_among granted_block (mine (stripe_seat stripe) story) event block own refl)

granted_now : (loaded : Rows) (stripe seat index : ℕ) (before : List Event) (id : AskId) (reply : Reply) (batch : List ℕ) (block : Block)
    → seat ≡ stripe_seat stripe
    → Contains (granted_by reply) block → IsOwn loaded stripe (before ++ record { seat = seat; kind = Decide id index reply batch } ∷ []) block
granted_now loaded stripe seat index before id (replies.Granted given pipeline) batch block its granted =
    subst (λ (b : Block). IsOwn loaded stripe (before ++ record { seat = seat; kind = Decide id index (replies.Granted given pipeline) batch } ∷ []) b)
    (in_one given block granted) (handed_now loaded stripe seat index pipeline before id batch given its)
granted_now loaded stripe seat index before id reply batch block its granted = absurd (in_none block granted)

-- ---- the share of a stripe reaches what the whole reaches in the stripe's volumes

pub share_reached : (stripe : ℕ) (namespace : Namespace) (block : Block) → IsReached (share_of stripe namespace) block
    → (it : IsReached namespace block) × (stripe_of it.volume ≡ stripe)
share_reached stripe namespace block it = by (cases_Bool (stripe_of it.volume == stripe))
  where
    by : ((stripe_of it.volume == stripe) ≡ true) ⊎ ((stripe_of it.volume == stripe) ≡ false)
        → (found : IsReached namespace block) × (stripe_of found.volume ≡ stripe)
    by (inl is) =
        let there = ap (option_and_then (λ (m : ByName Bucket). get m it.name))
        (sym (its_buckets stripe namespace (share_of stripe namespace) (share_is_there stripe namespace) it.volume is)) ∙ it.is_there in
        (record { volume = it.volume; name = it.name; bucket = it.bucket; is_there = there; has = it.has }, eqb-true (stripe_of it.volume) stripe is)
    by (inr not) =
        let none = ap (option_and_then (λ (m : ByName Bucket). get m it.name))
        (no_buckets stripe namespace (share_of stripe namespace) (share_is_there stripe namespace) it.volume not) in
        absurd (none-some it.bucket (sym none ∙ it.is_there))

pub reached_share : (stripe : ℕ) (namespace : Namespace) (block : Block) → (it : IsReached namespace block) → stripe_of it.volume ≡ stripe
    → IsReached (share_of stripe namespace) block
reached_share stripe namespace block it its =
    let is = eq-eqb (stripe_of it.volume) stripe its in
    let there = ap (option_and_then (λ (m : ByName Bucket). get m it.name))
    (its_buckets stripe namespace (share_of stripe namespace) (share_is_there stripe namespace) it.volume is) ∙ it.is_there in
    record { volume = it.volume; name = it.name; bucket = it.bucket; is_there = there; has = it.has }

-- ---- the laws

module _ (opening : Opening) (bytes : OpeningBytes) (loaded : Rows) (store : IsStore loaded opening bytes) where
  module _ (stripe : ℕ) (block : Block) where
    -- what the loaded rows reach
    loaded_own : IsReached (share_of stripe opening.namespace) block → IsOwn loaded stripe [] block
    loaded_own reached =
        let found = share_reached stripe opening.namespace block reached in
        let home = reached_at_home loaded opening.namespace block store.stands store.sound.blocks found.0 in
        let its = home_of_volume home.key found.0.volume found.0.name home.home home.same_bucket ∙ found.1 in
        inl (record { key = home.key; home = home.home; here = stands_in_only stripe loaded block home.key its home.here })

    -- what is reached of it after one event more was so before, or is granted
    next_own : (before : List Event) (seat : ℕ) (kind : EventKind) → KindIsEnabled opening before seat kind
        → (IsReached (share_of stripe (namespace_of opening before)) block → IsOwn loaded stripe before block)
        → IsReached (share_of stripe (namespace_step (λ index. true) before (namespace_of opening before) kind)) block
        → IsOwn loaded stripe (before ++ record { seat = seat; kind = kind } ∷ []) block
    next_own before seat (Decide id index reply batch) enabled own reached = by (cases_Bool (stripe_of (volume_in enabled.request) == stripe))
      where
        event : Event
        event = record { seat = seat; kind = Decide id index reply batch }

        whole : Namespace
        whole = namespace_of opening before

        made : IsReached (share_of stripe (after (namespace_of opening before) enabled.request reply)) block
        made = subst (λ (o : Option Request). IsReached (share_of stripe (namespace_after o (namespace_of opening before) reply)) block)
            enabled.undecided reached

        by : ((stripe_of (volume_in enabled.request) == stripe) ≡ true) ⊎ ((stripe_of (volume_in enabled.request) == stripe) ≡ false)
            → IsOwn loaded stripe (before ++ event ∷ []) block
        by (inl is) =
            let its = eqb-true (stripe_of (volume_in enabled.request)) stripe is in
            let part = share_of stripe (namespace_of opening before) in
            let there = share_is_there stripe (namespace_of opening before) in
            let all = story_has_all opening before (standing_has_all loaded opening.namespace store.stands) in
            let same : share_of stripe (after (namespace_of opening before) enabled.request reply) ≡ after part enabled.request reply =
            one_share stripe (after (namespace_of opening before) enabled.request reply) _ _
            (share_is_there stripe (after (namespace_of opening before) enabled.request reply))
            (share_after stripe (namespace_of opening before) part enabled.request reply its there all) in
            let answers = (share_answers stripe (namespace_of opening before) part enabled.request reply its there).0 enabled.one_thread in
            ⊎_elim
            (λ was. own_still loaded stripe before (event ∷ []) block (own was))
            (λ granted. granted_now loaded stripe seat index before id reply batch block (enabled.of_stripe ∙ ap stripe_seat its) granted)
            (reach_grows block part enabled.request reply answers (subst (λ (n : Namespace). IsReached n block) same made))
        by (inr not) =
            let apart : stripe ≢ stripe_of (volume_in enabled.request) = λ same. absurd (let wrong : false ≡ true = sym not
            ∙ eq-eqb (stripe_of (volume_in enabled.request)) stripe (sym same) in cc) in
            let same : share_of stripe (after (namespace_of opening before) enabled.request reply) ≡ share_of stripe (namespace_of opening before) =
            one_share stripe (after (namespace_of opening before) enabled.request reply) _ _
            (share_is_there stripe (after (namespace_of opening before) enabled.request reply))
            (share_elsewhere stripe (namespace_of opening before) (share_of stripe (namespace_of opening before)) enabled.request reply apart
            (share_is_there stripe (namespace_of opening before))) in
            own_still loaded stripe before (event ∷ []) block (own (subst (λ (n : Namespace). IsReached n block) same made))
    next_own before seat kind enabled own reached = own_still loaded stripe before (record { seat = seat; kind = kind } ∷ []) block (own reached)

    own_from : (rest before : List Event) → IsLegalFrom opening before rest
        → (IsReached (share_of stripe (namespace_of opening before)) block → IsOwn loaded stripe before block)
        → IsReached (share_of stripe (namespace_of opening (before ++ rest))) block → IsOwn loaded stripe (before ++ rest) block
    own_from [] before legal own = subst (λ (l : List Event). IsReached (share_of stripe (namespace_of opening l)) block
        → IsOwn loaded stripe l block) (sym (append-nil before)) own
    own_from (event ∷ rest) before legal own =
        subst (λ (l : List Event). IsReached (share_of stripe (namespace_of opening l)) block → IsOwn loaded stripe l block) (moved_over before rest event)
        (own_from rest (before ++ event ∷ []) (legal_rest opening before event rest legal)
        (λ reached. next_own before event.seat event.kind (legal_first opening before event rest legal) own
        (subst (λ (n : Namespace). IsReached (share_of stripe n) block) (namespace_next opening before event) reached)))

  -- what a stripe's share reaches is the stripe's own
  pub share_is_own : (story : List Event) (stripe : ℕ) (block : Block) → IsLegal opening story
      → IsReached (share_of stripe (namespace_of opening story)) block → IsOwn loaded stripe story block
  unfolding namespace_from
  share_is_own story stripe block legal reached = own_from stripe block story [] legal (loaded_own stripe block) reached

  module _ (story : List Event) (legal : IsLegal opening story) (block : Block) where
    -- a block that was loaded has no id of one that was handed out
    not_both : (stripe other : ℕ) → HasHome (only stripe loaded) block → Contains (handed_out other story) block → ⊥
    not_both stripe other home handed =
        let of = handed_granted opening story legal other block handed in
        let from = local_from opening story legal other block of.0 of.1 in
        let below = store.rows.fresh block (home.key, (stands_in_all stripe loaded block home.key home.here).1) in
        absurd (omega (arith, from, below))

    -- a block is the own of one stripe
    pub own_once : (stripe other : ℕ) → IsOwn loaded stripe story block → IsOwn loaded other story block → stripe ≡ other
    own_once stripe other (inl home) (inl beside) =
        let here = stands_in_all stripe loaded block home.key home.here in
        let there = stands_in_all other loaded block beside.key beside.here in
        sym here.0 ∙ homes_of_one_stripe home.key beside.key home.home beside.home
        (store.sound.blocks.one_bucket block home.key beside.key here.1 there.1) ∙ there.0
    own_once stripe other (inl home) (inr handed) = absurd (not_both stripe other home handed)
    own_once stripe other (inr handed) (inl home) = absurd (not_both other stripe home handed)
    own_once stripe other (inr handed) (inr beside) =
        let here = handed_granted opening story legal stripe block handed in
        let there = handed_granted opening story legal other block beside in
        one_stripe opening story legal stripe here.0 other there.0 block block here.1 there.1 refl

  -- what a Decide names was reached in its stripe's share, or is granted: it is the own of its stripe
  pub named_is_own : (story : List Event) → IsLegal opening story → (seat : ℕ) (id : AskId) (index : ℕ) (reply : Reply) (batch : List ℕ) (block : Block)
      → Contains story (record { seat = seat; kind = Decide id index reply batch }) → Contains (named_by reply) block → IsOfItsStripe loaded seat story block
  named_is_own story legal seat id index reply batch block there named = record {
    stripe = stripe_of (volume_in enabled.request);
    there = one_of_sixteen (volume_in enabled.request);
    its = enabled.of_stripe;
    own = ⊎_elim
        (λ reached.
        own_later loaded stripe story there.0 block
        (share_is_own (take there.0 story) stripe block (front_legal opening story legal there.0)
        (reached_share stripe (namespace_of opening (take there.0 story)) block reached.reached (ap stripe_of reached.its))))
        (λ granted.
        subst (λ (l : List Event). IsOwn loaded stripe l block) (sym grown)
        (own_still loaded stripe (take there.0 story ++ event ∷ []) (drop (suc there.0) story) block
        (granted_now loaded stripe seat index (take there.0 story) id reply batch block enabled.of_stripe granted)))
        (named_reached (namespace_of opening (take there.0 story)) enabled.request reply block enabled.one_thread named);
  }
    where
      event : Event
      event = record { seat = seat; kind = Decide id index reply batch }

      enabled : DecideIsEnabled opening (take there.0 story) seat id index reply batch
      enabled = enabled_at opening story legal there.0 (record { seat = seat; kind = Decide id index reply batch })
          (found_at story (record { seat = seat; kind = Decide id index reply batch }) there)

      stripe : ℕ
      stripe = stripe_of (volume_in enabled.request)

      grown : story ≡ (take there.0 story ++ event ∷ []) ++ drop (suc there.0) story
      grown = split_at story there.0 event (found_at story event there) ∙ sym (moved_over (take there.0 story) (drop (suc there.0) story) event)

  -- whatever a namespace of the story reaches of a stripe's own it reaches in that stripe's share
  own_is_shared : (story : List Event) → IsLegal opening story → (stripe place : ℕ) (block : Block) → IsOwn loaded stripe story block
      → IsReached (namespace_of opening (take place story)) block → IsReached (share_of stripe (namespace_of opening (take place story))) block
  own_is_shared story legal stripe place block own reached =
      let other = stripe_of reached.volume in
      let there = reached_share other (namespace_of opening (take place story)) block reached refl in
      let beside = own_later loaded other story place block (share_is_own (take place story) other block (front_legal opening story legal place) there) in
      reached_share stripe (namespace_of opening (take place story)) block reached (own_once story legal block other stripe beside own)

  pub own_in_share : (story : List Event) → IsLegal opening story → (stripe place : ℕ) (block : Block) → IsOwn loaded stripe story block
      → (IsReached (namespace_of opening (take place story)) block ↔ IsReached (share_of stripe (namespace_of opening (take place story))) block)
  own_in_share story legal stripe place block own = (
    λ reached. own_is_shared story legal stripe place block own reached,
    λ reached. (share_reached stripe (namespace_of opening (take place story)) block reached).0,
  )

  -- what a stop would leave, at an index, reaches of a stripe's own what its share reaches at the front that is kept
  pub kept_is_share : (story : List Event) → IsLegal opening story → (stripe place most : ℕ) (block : Block) → IsOwn loaded stripe story block
      → kept_up_to opening most story ≡ namespace_of opening (take place story)
      → (IsReached (kept_up_to opening most story) block ↔ IsReached (share_of stripe (namespace_of opening (take place story))) block)
  kept_is_share story legal stripe place most block own kept =
      subst (λ (n : Namespace). IsReached n block ↔ IsReached (share_of stripe (namespace_of opening (take place story))) block) (sym kept)
      (own_in_share story legal stripe place block own)

  -- ---- a used block is some stripe's own, or was logged as the run began

  home_own : (stripe : ℕ) (story : List Event) (block : Block) (key : RowKey) → IsHome key → StandsIn loaded block key → stripe_of_key key ≡ stripe
      → IsOwn loaded stripe story block
  home_own stripe story block key home here its = inl (record { key = key; home = home; here = stands_in_only stripe loaded block key its here })

  pub used_is_own : (story : List Event) → IsLegal opening story → (block : Block) → IsUsed opening story block
      → IsOfSomeStripe loaded story block ⊎ (is_logged_at_opening opening block ≡ true)
  used_is_own story legal block (inl reached) =
      let home = reached_at_home loaded opening.namespace block store.stands store.sound.blocks reached in
      let its = home_of_volume home.key reached.volume reached.name home.home home.same_bucket in
      inl (record {
        stripe = stripe_of reached.volume;
        there = one_of_sixteen reached.volume;
        own = home_own (stripe_of reached.volume) story block
            home.key home.home home.here its;
      })
  used_is_own story legal block (inr (inl left)) =
      let row = (store.left block).0 left in
      inl (record {
        stripe = stripe_of row.volume;
        there = one_of_sixteen row.volume;
        own = home_own (stripe_of row.volume) story block (keys.Deleted row.volume row.bucket row.owner row.key row.local) tt row.has refl;
      })
  used_is_own story legal block (inr (inr (inl logged))) = inr logged
  used_is_own story legal block (inr (inr (inr granted))) = inl (granted_own story legal block granted)
    where
      granted_own : (story : List Event) → IsLegal opening story → (block : Block) → Contains (all_told granted_block story) block
          → IsOfSomeStripe loaded story block
      granted_own story legal block granted =
          let told = told_event granted_block story block granted in
          let named = granter story legal told.event block told.there told.told in
          record { stripe = named.stripe; there = named.there; own = named.own }
        where
          granter : (story : List Event) → IsLegal opening story → (event : Event) (block : Block) → Contains story event
              → granted_block event.kind ≡ Some block → IsOfItsStripe loaded event.seat story block
          granter story legal event block there granted = by event.kind refl granted
            where
              named : (reply : Reply) → block_of_reply reply ≡ Some block → Contains (named_by reply) block
              named (replies.Granted given pipeline) is = (0, omega arith, same_Some given block is)
              named reply is = absurd (none-some block is)

              by : (kind : EventKind) → event.kind ≡ kind → granted_block kind ≡ Some block → IsOfItsStripe loaded event.seat story block
              by (Decide id index reply batch) e is =
                  named_is_own story legal event.seat id index reply batch block
                  (subst (λ (k : EventKind). Contains story (record { seat = event.seat; kind = k })) e there) (named reply is)
              by kind e is = absurd (none-some block is)
