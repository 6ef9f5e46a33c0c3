-- A Put for a line that wasn't told when the datanode gave its last event is of no block that it deleted.
use Rattle.std.proofs.Common.{◌≡◌, ◌≢◌, ⊎_elim, ℕ, zero, suc, ◌-◌, ◌<◌, ◌≤◌, Bool, true, false, ◌||◌, ◌==◌, cond, List, []}
use Rattle.std.proofs.Common.{◌∷◌, ◌++◌, length, length-append, take, drop, map, None, Some, Contains, inl, inr, refl}
use Rattle.std.proofs.Common.{sym, ◌∙◌, ap, subst, append-nil, append_assoc, arith}
use Rattle.std.proofs.lemmas.Bool.{and_parts, cases_lt, eqb-true, or_left}
use Rattle.std.proofs.lemmas.List.{take-append-drop, take-append-le}
use Rattle.std.proofs.lemmas.List.Elements.{All-contains, Contains-append_cases, Contains-append_left, Contains-append_right, Contains-push_cases}
use Rattle.std.proofs.lemmas.List.Folds.{list_any-append}
use Rattle.std.proofs.lemmas.Option.{none-some, slice_get_within}
use Rattle.std.specs.Prelude.{All, is_some, nat_le}
use Rattle.std.specs.List.{list_any, slice_get}
use Rattle.oz_dellog.specs.declared.txn.Txn.{Txn}
use Rattle.oz_fields.specs.declared.block.Block.{Block}
use Rattle.oz_model.specs.laws.Members.{joins}
use Rattle.oz_requests.specs.declared.reply.Reply.TheVariants as replies
use Rattle.oz_requests.specs.declared.request.AskId.{AskId}
use Rattle.oz_core.specs.declared.event.Event.{Event}
use Rattle.oz_core.specs.declared.event.EventKind.{EventKind}
use Rattle.oz_core.specs.declared.event.EventKind.TheVariants.{Ask, Decide, Delete, Log, PurgeAsk, Put}
use Rattle.oz_core.specs.declared.opening.Opening.{Opening}
use Rattle.oz_core.specs.declared.opening.Unretired.{Unretired}
use Rattle.oz_core.specs.Asks.{answer_to, is_told}
use Rattle.oz_core.specs.Law.{DecideIsEnabled, DeleteIsEnabled, IsEnabled, IsLegal, KindIsEnabled, PurgeAskIsEnabled, PutIsEnabled}
use Rattle.oz_core.specs.Manager.{IsUsed, IsUsedAndKept, WasUsed, block_of_reply, durable_index, granted_block, kept_block, namespace_of, pinned, pinned_by}
use Rattle.oz_core.specs.Scm.{is_logged_at_opening, logged, logs, names_block}
use Rattle.oz_core.specs.Seats.{datanode_seat}
use Rattle.oz_core.specs.Stories.{all_told}
use Rattle.oz_kept.specs.Purges.{IsPurgeAt}
use Rattle.oz_kept.specs.laws.Deleted.{enabled_at, found_at, legal_to, logged_purged, one_passes, taken_length}
use Rattle.oz_kept.specs.laws.Granted.{IsGrantedTo, told_among}
use Rattle.oz_kept.specs.laws.Places.{later_front, legal_behind, legal_first}
use Rattle.oz_kept.specs.laws.Reached.{granted_anew, used_still}
use Rattle.oz_kept.specs.reopened.laws.Named.{told_event}
use Rattle.oz_repl.specs.views.Away.{IsUntoldSince, NumbersAreOld, StaysAway}
use Rattle.oz_repl.specs.views.laws.Numbers.{IsLoggedAt, logged_at, of_number}

-- ---- places

got_front : {A : Type 0} (a b : List A) (k : ℕ) (x : A) → slice_get a k ≡ Some x → slice_get (a ++ b) k ≡ Some x
got_front [] b k x e = absurd (none-some x e)
got_front (y ∷ a) b zero x e = e
got_front (y ∷ a) b (suc k) x e = got_front a b k x e

taken_has : {A : Type 0} (l : List A) (k n : ℕ) (x : A) → k < n → slice_get l k ≡ Some x → Contains (take n l) x
taken_has [] k n x lt e = absurd (none-some x e)
taken_has (y ∷ l) k zero x lt e = absurd (omega (arith, lt))
taken_has (y ∷ l) zero (suc n) x lt e = let same : y ≡ x = cc in (0, omega arith, same)
taken_has (y ∷ l) (suc k) (suc n) x lt e = let later = taken_has l k n x (omega (arith, lt)) e in (suc later.0, omega (arith, later.1), later.2)

-- where a list that ends in an event falls into two, of which the second has something, the second ends in it
pub record EndsIn (before behind story : List Event) (event : Event) : Type 0 where
  pub rest : List Event
  pub its : behind ≡ rest ++ event ∷ []
  pub parts : story ≡ before ++ rest

ends_in : (before behind story : List Event) (event some : Event) → story ++ event ∷ [] ≡ before ++ behind → Contains behind some
    → EndsIn before behind story event
ends_in [] behind story event some parts there = record { rest = story; its = sym parts; parts = refl }
ends_in (first ∷ before) behind [] event some parts there =
    let one = ap length parts in
    let two = length-append before behind in
    absurd (omega (arith, one, two, there.1))
ends_in (first ∷ before) behind (other ∷ story) event some parts there =
    let same : other ≡ first = cc in
    let others : story ++ event ∷ [] ≡ before ++ behind = cc in
    let end = ends_in before behind story event some others there in
    record { rest = end.rest; its = end.its; parts = λ i. same i ∷ end.parts i }

told_front : (client line place : ℕ) (story : List Event) → is_told client line (take place story) ≡ true → is_told client line story ≡ true
told_front client line place story told =
    let answers = λ (event : Event). is_some (answer_to client line event.kind) in
    ap (is_told client line) (sym (take-append-drop place story))
    ∙ (list_any-append answers (take place story) (drop place story)
    ∙ or_left (list_any answers (take place story)) (list_any answers (drop place story)) told)

-- ---- a block that is purged was granted before, and its line was told

kept_tells : (most : ℕ) (kind : EventKind) (block : Block) → kept_block most kind ≡ Some block → granted_block kind ≡ Some block
kept_tells most (Decide id index reply batch) block e = by (nat_le index most) e
  where
    by : (t : Bool) → cond t (block_of_reply reply) None ≡ Some block → block_of_reply reply ≡ Some block
    by true e = e
    by false e = absurd (none-some block e)
kept_tells most kind block e = absurd (none-some block e)

was_used : (opening : Opening) (most : ℕ) (story : List Event) (block : Block) → WasUsed opening (all_told (kept_block most) story) block
    → IsUsed opening story block
was_used opening most story block (inl reached) = inl reached
was_used opening most story block (inr (inl left)) = inr (inl left)
was_used opening most story block (inr (inr (inl logged))) = inr (inr (inl logged))
was_used opening most story block (inr (inr (inr granted))) =
    let told = told_event (kept_block most) story block granted in
    inr (inr (inr (told_among granted_block story told.event block told.there (kept_tells most told.event.kind block told.told))))

module _ (opening : Opening) (story : List Event) (legal : IsLegal opening story) (block : Block) (id : AskId)
    (grant : IsGrantedTo opening story legal block id) where
  abbrev granting : Event
  granting = record { seat = grant.seat; kind = Decide id grant.index (replies.Granted block grant.pipeline) grant.batch }

  may_grant : DecideIsEnabled opening (take grant.there.0 story) grant.seat id grant.index (replies.Granted block grant.pipeline) grant.batch
  may_grant = enabled_at opening story legal grant.there.0 granting (found_at story granting grant.there)

  -- it wasn't used before
  unused : IsUsed opening (take grant.there.0 story) block → ⊥
  unused used =
      granted_anew opening (take grant.there.0 story) (namespace_of opening (take grant.there.0 story)) may_grant.request
      (replies.Granted block grant.pipeline) block may_grant.one_thread may_grant.granted used (0, omega arith, refl)

  module _ (place : ℕ) (purge : IsPurgeAt story block place) where
    may_purge : PurgeAskIsEnabled opening (take place story) purge.seat purge.blocks
    may_purge = enabled_at opening story legal place (record { seat = purge.seat; kind = PurgeAsk purge.blocks }) purge.there

    used_there : IsUsed opening (take place story) block
    used_there =
        was_used opening (durable_index opening (take place story)) (take place story) block
        (All-contains (IsUsedAndKept opening (take place story)) purge.blocks block may_purge.used purge.among)

    granted_first : grant.there.0 < place
    granted_first =
        ⊎_elim
        (λ lt. lt)
        (λ le. absurd (unused (subst (λ (l : List Event). IsUsed opening l block) (sym (later_front story place grant.there.0 le))
        (used_still opening (take place story) (take (grant.there.0 - place) (drop place story)) block used_there))))
        (cases_lt grant.there.0 place)

    told_there : is_told id.client id.line (take place story) ≡ true
    told_there = by (is_told id.client id.line (take place story)) refl
      where
        by : (t : Bool) → is_told id.client id.line (take place story) ≡ t → is_told id.client id.line (take place story) ≡ true
        by true told = told
        by false untold =
            absurd (All-contains (λ block. Contains (pinned (take place story)) block → ⊥) purge.blocks block may_purge.unpinned purge.among
            (joins (λ (event : Event). pinned_by (take place story) event.kind) (take place story) granting block
            (taken_has story grant.there.0 place granting granted_first (found_at story granting grant.there))
            (subst (λ (t : Bool). Contains (cond t [] (block ∷ [])) block) (sym untold) (0, omega arith, refl))))

-- ---- a Delete, and then a Put

module _ (opening : Opening) (place since : List Event) (legal : IsLegal opening (place ++ since)) (numbered : NumbersAreOld opening) (dn : ℕ)
    (none : All (λ (event : Event). event.seat ≢ datanode_seat dn) since) (block : Block) (id : AskId)
    (untold : is_told id.client id.line place ≡ false) (grant : IsGrantedTo opening (place ++ since) legal block id) where
  abbrev joined : List Event
  joined = place ++ since

  -- a transaction of the opening names none that is granted
  not_at_opening : is_logged_at_opening opening block ≡ true → ⊥
  not_at_opening is = unused opening joined legal block id grant (inr (inr (inl is)))

  module _ (seat : ℕ) (locals : List ℕ) (txn : Txn) (names : names_block block txn ≡ true) where
    abbrev delete : Event
    delete = record { seat = seat; kind = Delete dn txn.number locals }

    -- nor does one that was logged, and then applied at the place
    not_logged : (logged_place : ℕ) → IsLoggedAt joined logged_place txn → Contains place delete → ⊥
    not_logged logged_place at there =
        let deleted = there.0 in
        let found : slice_get joined deleted ≡ Some delete = got_front place since deleted delete (found_at place delete there) in
        let may : DeleteIsEnabled opening (take deleted joined) seat dn txn.number locals = enabled_at opening joined legal deleted delete found in
        let its = (of_number opening joined legal numbered logged_place deleted txn may.txn at may.logged may.of_number).1 in
        let logging : Event = record { seat = its.seat; kind = Log txn.number txn.container txn.locals } in
        let within = slice_get_within (take deleted joined) logged_place logging its.there in
        let both = and_parts (txn.container == block.container) (list_any (λ local. local == block.local) txn.locals) names in
        let purged = logged_purged opening joined logged_place at.seat txn.number txn.container block.local txn.locals legal at.there
        (local_in txn.locals both.1) in
        let its_block : record { container = txn.container; local = block.local } ≡ block =
        λ i. record { container = eqb-true txn.container block.container both.0 i; local = block.local } in
        let told = told_there opening joined legal block id grant purged.0 (subst (λ (b : Block). IsPurgeAt joined b purged.0) its_block purged.2) in
        let short = taken_length joined deleted in
        let less : purged.0 ≤ length place = omega (arith, purged.1, within, short, there.1) in
        false_true (sym untold ∙ told_front id.client id.line purged.0 place
        (subst (λ (l : List Event). is_told id.client id.line l ≡ true) (take-append-le purged.0 place since less) told))
      where
        false_true : false ≡ true → ⊥
        false_true e = cc

        local_in : (locals : List ℕ) → list_any (λ local. local == block.local) locals ≡ true → Contains locals block.local
        local_in [] e = absurd (false_true e)
        local_in (local ∷ locals) e = by (local == block.local) refl (local_in locals)
          where
            by : (t : Bool) → (local == block.local) ≡ t → (list_any (λ local. local == block.local) locals ≡ true → Contains locals block.local)
                → Contains (local ∷ locals) block.local
            by true is rest = (0, omega arith, eqb-true local block.local is)
            by false is rest =
                let later = rest (sym (ap (λ (t : Bool). t || list_any (λ local. local == block.local) locals) is) ∙ e) in
                (suc later.0, omega (arith, later.1), later.2)

    -- so it isn't behind a Delete
    pub not_deleted : (before rest : List Event) → joined ≡ before ++ rest → Contains before delete → Contains (logs opening before) txn → ⊥
    not_deleted before rest parts deleted had =
        ⊎_elim
        (λ old. not_at_opening
        (ap (list_any (names_block block)) (append-nil (map (λ (unretired : Unretired). unretired.txn) opening.unretired))
        ∙ one_passes (names_block block) (map (λ (unretired : Unretired). unretired.txn) opening.unretired) txn old names))
        (λ new.
        let at = logged_at before txn new in
        let event : Event = record { seat = at.1.seat; kind = Log txn.number txn.container txn.locals } in
        not_logged at.0
        (record { seat = at.1.seat; there = ap (λ (l : List Event). slice_get l at.0) parts ∙ got_front before rest at.0 event at.1.there })
        (at_the_place (subst (λ (l : List Event). Contains l delete) (sym parts) (Contains-append_left before rest delete deleted))))
        (Contains-append_cases (map (λ (unretired : Unretired). unretired.txn) opening.unretired) (all_told logged before) txn had)
      where
        at_the_place : Contains joined delete → Contains place delete
        at_the_place there =
            let may : DeleteIsEnabled opening (take there.0 joined) seat dn txn.number locals =
            enabled_at opening joined legal there.0 delete (found_at joined delete there) in
            ⊎_elim
            (λ here. here)
            (λ later. absurd (All-contains (λ (event : Event). event.seat ≢ datanode_seat dn) since delete none later may.of_datanode.its))
            (Contains-append_cases place since delete there)

-- ---- one event more

pub away_first : (opening : Opening) (dn : ℕ) → StaysAway opening dn []
away_first opening dn = record {
  none = λ before behind seat number first count locals block id txn parts deleted logged same names put. none before behind deleted parts;
}
  where
    none : (before behind : List Event) {event : Event} → Contains before event → [] ≡ before ++ behind → ⊥
    none before behind deleted parts =
        let one = ap length parts in
        let two = length-append before behind in
        omega (arith, one, two, deleted.1)

pub away_behind : (opening : Opening) (dn : ℕ) (story : List Event) (event : Event) → IsLegal opening (story ++ event ∷ []) → NumbersAreOld opening
    → StaysAway opening dn story
    → ((block : Block) (id : AskId) (first count : ℕ) → event.kind ≡ Put dn block id first count → IsUntoldSince dn id.client id.line story)
    → StaysAway opening dn (story ++ event ∷ [])
away_behind opening dn story event legal numbered away for_untold = record {
  none = λ before behind seat number first count locals block id txn parts deleted logged same names put.
      let end = ends_in before behind story event (record { seat = datanode_seat dn; kind = Put dn block id first count }) parts put in
      ⊎_elim
      (λ was. away.none before end.rest seat number first count locals block id txn end.parts deleted logged same names was)
      (λ now. put_now before end.rest end.parts seat locals block id first count txn
      (subst (λ (n : ℕ). Contains before (record { seat = seat; kind = Delete dn n locals })) (sym same) deleted) logged names now)
      (Contains-push_cases end.rest event (record { seat = datanode_seat dn; kind = Put dn block id first count })
      (subst (λ (l : List Event). Contains l (record { seat = datanode_seat dn; kind = Put dn block id first count })) end.its put));
}
  where
    put_now : (before rest : List Event) → story ≡ before ++ rest → (seat : ℕ) (locals : List ℕ) (block : Block) (id : AskId) (first count : ℕ) (txn : Txn)
        → Contains before (record { seat = seat; kind = Delete dn txn.number locals }) → Contains (logs opening before) txn → names_block block txn ≡ true
        → event ≡ record { seat = datanode_seat dn; kind = Put dn block id first count } → ⊥
    put_now before rest parts seat locals block id first count txn deleted logged names is =
        let since = for_untold block id first count (ap (λ (e : Event). e.kind) is) in
        let front : IsLegal opening story = legal_to opening [] story (event ∷ []) legal in
        let may : PutIsEnabled opening story (datanode_seat dn) dn block id first count =
        subst (IsEnabled opening story) is (legal_first opening story event [] (legal_behind opening [] story (event ∷ []) legal)) in
        let of = may.granted in
        let decide : Event = record { seat = of.stripe; kind = Decide id of.index (replies.Granted block of.pipeline) of.batch } in
        let there : Contains story decide =
        subst (λ (l : List Event). Contains l decide) (sym of.asked)
        (Contains-append_right may.before (record { seat = of.asker; kind = Ask id of.request } ∷ of.behind) decide
        (Contains-append_right (record { seat = of.asker; kind = Ask id of.request } ∷ []) of.behind decide of.decided)) in
        let at_place : IsLegal opening (since.place ++ since.since) = subst (IsLegal opening) since.parts front in
        not_deleted opening since.place since.since at_place numbered dn since.none block id since.untold
        (record {
          seat = of.stripe;
          index = of.index;
          pipeline = of.pipeline;
          batch = of.batch;
          there = subst (λ (l : List Event). Contains l decide) since.parts there;
        }) seat locals txn names before rest (sym since.parts ∙ parts) deleted logged

-- ---- a part of a story, and one that goes on without a Put

pub away_front : (opening : Opening) (dn : ℕ) (story more : List Event) → StaysAway opening dn (story ++ more) → StaysAway opening dn story
away_front opening dn story more away = record {
  none = λ before behind seat number first count locals block id txn parts deleted logged same names put.
      away.none before (behind ++ more) seat number first count locals block id txn (ap (λ (l : List Event). l ++ more) parts ∙ append_assoc before behind more)
      deleted logged same names (Contains-append_left behind more (record { seat = datanode_seat dn; kind = Put dn block id first count }) put);
}

pub away_unput : (opening : Opening) (dn : ℕ) (more story : List Event) → IsLegal opening (story ++ more) → NumbersAreOld opening
    → StaysAway opening dn story
    → ((block : Block) (id : AskId) (first count : ℕ) → Contains more (record { seat = datanode_seat dn; kind = Put dn block id first count }) → ⊥)
    → StaysAway opening dn (story ++ more)
away_unput opening dn [] story legal numbered away none = subst (StaysAway opening dn) (sym (append-nil story)) away
away_unput opening dn (event ∷ more) story legal numbered away none =
    let parts = append_assoc story (event ∷ []) more in
    let whole : IsLegal opening ((story ++ event ∷ []) ++ more) = subst (IsLegal opening) (sym parts) legal in
    let one : IsLegal opening (story ++ event ∷ []) = legal_to opening [] (story ++ event ∷ []) more whole in
    let may : IsEnabled opening story event = legal_first opening story event [] (legal_behind opening [] story (event ∷ []) one) in
    subst (StaysAway opening dn) parts
    (away_unput opening dn more (story ++ event ∷ []) whole numbered
    (away_behind opening dn story event one numbered away (λ block id first count is.
    let put : PutIsEnabled opening story event.seat dn block id first count = subst (KindIsEnabled opening story event.seat) is may in
    let same : event ≡ record { seat = datanode_seat dn; kind = Put dn block id first count } =
    λ i. record { seat = put.of_datanode.its i; kind = is i } in
    absurd (none block id first count (0, omega arith, same))))
    (λ block id first count there. none block id first count (suc there.0, omega (arith, there.1), there.2)))
