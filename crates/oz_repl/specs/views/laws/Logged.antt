-- A logged block that a datanode still holds is of an unretired transaction, or was logged as the run began.
use Rattle.std.proofs.Common.{◌≡◌, ⊎_elim, ◌⊎◌, ℕ, suc, ◌≤◌, Bool, true, false, ◌&&◌, ◌||◌, ◌==◌, cond, List, []}
use Rattle.std.proofs.Common.{◌∷◌, ◌++◌, length, take, drop, map, filter, None, Some, Contains, inl, inr, refl}
use Rattle.std.proofs.Common.{sym, ◌∙◌, ap, subst, append-nil, append_assoc, arith}
use Rattle.std.proofs.lemmas.Bool.{and_from, and_parts, eq-eqb, eqb-true, or_left}
use Rattle.std.proofs.lemmas.List.{take-append-drop}
use Rattle.std.proofs.lemmas.List.Elements.{Contains-append_cases, Contains-append_left, Contains-append_right, filter_map-append}
use Rattle.std.proofs.lemmas.List.Folds.{list_any-append}
use Rattle.std.proofs.lemmas.List.Sums.{fold-append}
use Rattle.std.specs.List.{list_any, slice_get}
use Rattle.oz_dellog.specs.declared.txn.Txn.{Txn}
use Rattle.oz_fields.specs.declared.block.Block.{Block}
use Rattle.oz_requests.specs.declared.request.AskId.{AskId}
use Rattle.oz_core.specs.declared.event.Event.{Event}
use Rattle.oz_core.specs.declared.event.EventKind.{EventKind}
use Rattle.oz_core.specs.declared.event.EventKind.TheVariants.{Copy, Delete, Put, Retire, Wipe}
use Rattle.oz_core.specs.declared.opening.Opening.{Opening}
use Rattle.oz_core.specs.declared.opening.Unretired.{Unretired}
use Rattle.oz_core.specs.Coherent.{IsCoherent}
use Rattle.oz_core.specs.Contents.{OpeningBytes}
use Rattle.oz_core.specs.Law.{DeleteIsEnabled, IsLegal, IsLegalFrom, KindIsEnabled, RetireIsEnabled}
use Rattle.oz_core.specs.Nodes.{deletes, held_after, holds, is_block, was_held}
use Rattle.oz_core.specs.Scm.{acknowledged_at_opening, acknowledger, is_in_logs, is_logged}
use Rattle.oz_core.specs.Scm.{is_logged_at_opening, is_retired, logged, logs, members, names_block, retires}
use Rattle.oz_core.specs.Seats.{datanode_seat}
use Rattle.oz_core.specs.Stories.{all_told, last_told, newer}
use Rattle.oz_kept.specs.reopened.Left.{IsUnretired}
use Rattle.oz_kept.specs.laws.Places.{legal_first, legal_rest}
use Rattle.oz_kept.specs.laws.Deleted.{enabled_at, first_or_later, found_at, front_legal, got_of_taken, legal_parts, one_passes}
use Rattle.oz_kept.specs.laws.Contents.{front_grows, one_block}
use Rattle.oz_kept.specs.laws.Reached.{in_none}
use Rattle.oz_kept.specs.reopened.laws.Placed.{event_there, held_by_member}
use Rattle.oz_kept.specs.reopened.laws.Rising.{member_on, member_stays, members_on}
use Rattle.oz_repl.specs.views.Away.{NumbersAreOld, StaysAway}
use Rattle.oz_repl.specs.views.laws.Numbers.{IsLoggedAt, above_opening, logged_at, of_number}
use Rattle.oz_repl.specs.views.laws.Acknowledged.{IsAppliedAt, ack_applied, acks_apart, all_of_three, none_at_opening}

-- ---- who names a block

pub record IsNamedBy (txns : List Txn) (block : Block) : Type 0 where
  pub txn : Txn
  pub there : Contains txns txn
  pub names : names_block block txn ≡ true

pub named_by : (txns : List Txn) (block : Block) → is_in_logs txns block ≡ true → IsNamedBy txns block
named_by [] block e = absurd cc
named_by (txn ∷ txns) block e = by (names_block block txn) refl (named_by txns block)
  where
    by : (t : Bool) → names_block block txn ≡ t → (is_in_logs txns block ≡ true → IsNamedBy txns block) → IsNamedBy (txn ∷ txns) block
    by true is rest = record { txn = txn; there = (0, omega arith, refl); names = is }
    by false is rest =
        let later = rest (sym (ap (λ (t : Bool). t || is_in_logs txns block) is) ∙ e) in
        record { txn = later.txn; there = (suc later.there.0, omega (arith, later.there.1), later.there.2); names = later.names }

-- ---- what is held with a longer log is held with a shorter

abbrev opening_txns : Opening → List Txn
opening_txns opening = map (λ (unretired : Unretired). unretired.txn) opening.unretired

logs_append : (opening : Opening) (front rest : List Event) → logs opening (front ++ rest) ≡ logs opening front ++ all_told logged rest
logs_append opening front rest =
    ap (λ (l : List Txn). opening_txns opening ++ l) (filter_map-append (λ (event : Event). logged event.kind) front rest)
    ∙ sym (append_assoc (opening_txns opening) (all_told logged front) (all_told logged rest))

more_deletes : (txns more : List Txn) (number : ℕ) (locals : List ℕ) (block : Block)
    → deletes txns number locals block ≡ true → deletes (txns ++ more) number locals block ≡ true
more_deletes txns more number locals block e =
    let both = and_parts (list_any (λ (txn : Txn). txn.number == number && txn.container == block.container) txns)
    (list_any (λ local. local == block.local) locals) e in
    and_from (list_any (λ (txn : Txn). txn.number == number && txn.container == block.container) (txns ++ more))
    (list_any (λ local. local == block.local) locals)
    (list_any-append (λ (txn : Txn). txn.number == number && txn.container == block.container) txns more
    ∙ or_left (list_any (λ (txn : Txn). txn.number == number && txn.container == block.container) txns)
    (list_any (λ (txn : Txn). txn.number == number && txn.container == block.container) more) both.0)
    both.1

module _ (txns more : List Txn) (dn : ℕ) (block : Block) where
  -- after one event, from what was held with the longer log and with the shorter
  fewer_after : (kind : EventKind) (longer shorter : Bool) → (longer ≡ true → shorter ≡ true)
      → newer (held_after (txns ++ more) dn block kind) longer ≡ true → newer (held_after txns dn block kind) shorter ≡ true
  fewer_after (Put other put id first count) longer shorter follows = by (other == dn && is_block block put)
    where
      by : (t : Bool) → newer (cond t (Some true) None) longer ≡ true → newer (cond t (Some true) None) shorter ≡ true
      by true e = refl
      by false e = follows e
  fewer_after (Copy source target copied) longer shorter follows = by (target == dn && is_block block copied)
    where
      by : (t : Bool) → newer (cond t (Some true) None) longer ≡ true → newer (cond t (Some true) None) shorter ≡ true
      by true e = refl
      by false e = follows e
  fewer_after (Delete other number locals) longer shorter follows = by (other == dn)
      (deletes (txns ++ more) number locals block) refl (deletes txns number locals block) refl
    where
      by : (t d : Bool) → deletes (txns ++ more) number locals block ≡ d → (s : Bool) → deletes txns number locals block ≡ s
          → newer (cond (t && d) (Some false) None) longer ≡ true → newer (cond (t && s) (Some false) None) shorter ≡ true
      by false d is s was e = follows e
      by true true is s was e = absurd cc
      by true false is false was e = follows e
      by true false is true was e = absurd (let wrong : false ≡ true = sym is ∙ more_deletes txns more number locals block was in cc)
  fewer_after (Wipe other) longer shorter follows = by (other == dn)
    where
      by : (t : Bool) → newer (cond t (Some false) None) longer ≡ true → newer (cond t (Some false) None) shorter ≡ true
      by true e = absurd cc
      by false e = follows e
  fewer_after kind longer shorter follows = follows

  pub fewer_held : (story : List Event) (longer shorter : Bool) → (longer ≡ true → shorter ≡ true)
      → last_told (held_after (txns ++ more) dn block) longer story ≡ true → last_told (held_after txns dn block) shorter story ≡ true
  fewer_held [] longer shorter follows = follows
  fewer_held (event ∷ story) longer shorter follows =
      fewer_held story (newer (held_after (txns ++ more) dn block event.kind) longer)
      (newer (held_after txns dn block event.kind) shorter) (fewer_after event.kind longer shorter follows)

-- ---- once it is gone

-- an event that doesn't give the block to the datanode leaves it without
gone_after : (txns : List Txn) (dn : ℕ) (block : Block) (kind : EventKind)
    → ((source : ℕ) (copied : Block) → kind ≡ Copy source dn copied → is_block block copied ≡ true → ⊥)
    → ((put : Block) (id : AskId) (first count : ℕ) → kind ≡ Put dn put id first count → is_block block put ≡ true
    → ⊥) → newer (held_after txns dn block kind) false ≡ false
gone_after txns dn block (Put other put id first count) no_copy no_put = by (other == dn && is_block block put) refl
  where
    by : (t : Bool) → (other == dn && is_block block put) ≡ t → newer (cond t (Some true) None) false ≡ false
    by false e = refl
    by true e =
        let both = and_parts (other == dn) (is_block block put) e in
        absurd (no_put put id first count (ap (λ (n : ℕ). Put n put id first count) (eqb-true other dn both.0)) both.1)
gone_after txns dn block (Copy source target copied) no_copy no_put = by (target == dn && is_block block copied) refl
  where
    by : (t : Bool) → (target == dn && is_block block copied) ≡ t → newer (cond t (Some true) None) false ≡ false
    by false e = refl
    by true e =
        let both = and_parts (target == dn) (is_block block copied) e in
        absurd (no_copy source copied (ap (λ (n : ℕ). Copy source n copied) (eqb-true target dn both.0)) both.1)
gone_after txns dn block (Delete other number locals) no_copy no_put = by (other == dn && deletes txns number locals block)
  where
    by : (t : Bool) → newer (cond t (Some false) None) false ≡ false
    by true = refl
    by false = refl
gone_after txns dn block (Wipe other) no_copy no_put = by (other == dn)
  where
    by : (t : Bool) → newer (cond t (Some false) None) false ≡ false
    by true = refl
    by false = refl
gone_after txns dn block kind no_copy no_put = refl

logged_still : (opening : Opening) (before rest : List Event) (block : Block) → is_logged opening before block ≡ true
    → is_logged opening (before ++ rest) block ≡ true
logged_still opening before rest block is =
    ap (λ (l : List Txn). list_any (names_block block) l) (logs_append opening before rest)
    ∙ list_any-append (names_block block) (logs opening before) (all_told logged rest)
    ∙ or_left (list_any (names_block block) (logs opening before)) (list_any (names_block block) (all_told logged rest)) is

stays_gone : (opening : Opening) (txns : List Txn) (dn : ℕ) (block : Block) (rest before : List Event)
    → IsLegalFrom opening before rest → is_logged opening before block ≡ true
    → ((id : AskId) (first count : ℕ)
    → Contains rest (record { seat = datanode_seat dn; kind = Put dn block id first count }) → ⊥)
    → last_told (held_after txns dn block) false rest ≡ false
stays_gone opening txns dn block [] before legal is no_put = refl
stays_gone opening txns dn block (event ∷ rest) before legal is no_put =
    ap (λ (t : Bool). last_told (held_after txns dn block) t rest) (gone_after txns dn block event.kind no_copy not_put)
    ∙ stays_gone opening txns dn block rest (before ++ event ∷ []) (legal_rest opening before event rest legal)
    (logged_still opening before (event ∷ []) block is)
    (λ id first count (k, lt, at). no_put id first count (suc k, omega (arith, lt), at))
  where
    enabled : (kind : EventKind) → event.kind ≡ kind → KindIsEnabled opening before event.seat kind
    enabled kind e = subst (KindIsEnabled opening before event.seat) e (legal_first opening before event rest legal)

    no_copy : (source : ℕ) (copied : Block) → event.kind ≡ Copy source dn copied → is_block block copied ≡ true → ⊥
    no_copy source copied e same =
        let may = enabled (Copy source dn copied) e in
        let none : is_logged opening before block ≡ false = subst (λ (b : Block). is_logged opening before b ≡ false)
        (sym (one_block block copied same)) may.unlogged in
        let wrong : false ≡ true = sym none ∙ is in
        absurd cc

    not_put : (put : Block) (id : AskId) (first count : ℕ) → event.kind ≡ Put dn put id first count → is_block block put ≡ true → ⊥
    not_put put id first count e same =
        let may = enabled (Put dn put id first count) e in
        let kind : event.kind ≡ Put dn block id first count = e ∙ ap (λ (b : Block). Put dn b id first count) (sym (one_block block put same)) in
        let is : event ≡ record { seat = datanode_seat dn; kind = Put dn block id first count } = λ i. record { seat = may.of_datanode.its i; kind = kind i } in
        no_put id first count (0, omega arith, is)

-- ---- right behind a Delete it is gone

not_passed : (p : ℕ → Bool) (l : List ℕ) (x : ℕ) → Contains l x → list_any (λ y. y == x) (filter p l) ≡ false → p x ≡ false
not_passed p [] x there e = absurd (in_none x there)
not_passed p (y ∷ l) x there e = by (p y) refl (not_passed p l x) e
  where
    by : (t : Bool) → p y ≡ t → (Contains l x → list_any (λ y. y == x) (filter p l) ≡ false → p x ≡ false)
        → list_any (λ y. y == x) (cond t (y ∷ filter p l) (filter p l)) ≡ false → p x ≡ false
    by true so rest e = ⊎_elim
        (λ same. absurd (let found : list_any (λ y. y == x) (y ∷ filter p l)
        ≡ true = or_left (y == x) (list_any (λ y. y == x) (filter p l)) (eq-eqb y x same) in
        let wrong : false ≡ true = sym e ∙ found in cc))
        (λ later. rest later (or_rest (y == x) (list_any (λ y. y == x) (filter p l)) e))
        (first_or_later y x l there)
      where
        or_rest : (a b : Bool) → a || b ≡ false → b ≡ false
        or_rest true b e = absurd cc
        or_rest false b e = e
    by false so rest e = ⊎_elim (λ same. sym (ap p same) ∙ so) (λ later. rest later e) (first_or_later y x l there)

module _ (opening : Opening) (story : List Event) (legal : IsLegal opening story) (numbered : NumbersAreOld opening)
    (dn : ℕ) (block : Block) (txn : Txn) (names : names_block block txn ≡ true)
    (logged_place : ℕ) (at : IsLoggedAt story logged_place txn) (place : ℕ) (applied : IsAppliedAt story dn txn.number place) where
  delete : Event
  delete = record { seat = applied.seat; kind = Delete dn txn.number applied.locals }

  named_parts : ((txn.container == block.container) ≡ true) × (list_any (λ local. local == block.local) txn.locals ≡ true)
  named_parts = and_parts (txn.container == block.container) (list_any (λ local. local == block.local) txn.locals) names

  may_delete : DeleteIsEnabled opening (take place story) applied.seat dn txn.number applied.locals
  may_delete = enabled_at opening story legal place (record { seat = applied.seat; kind = Delete dn txn.number applied.locals }) applied.there

  -- it is of this transaction, which was logged before
  its_txn : (may_delete.txn ≡ txn) × (IsLoggedAt (take place story) logged_place txn)
  its_txn = of_number opening story legal numbered logged_place place txn may_delete.txn at may_delete.logged may_delete.of_number

  pub is_member : Contains (members opening (take place story) txn.container) dn
  is_member = subst (λ (t : Txn). Contains (members opening (take place story) t.container) dn) its_txn.0 may_delete.member

  was_logged : is_logged opening (take place story) block ≡ true
  was_logged =
      subst (λ (t : Txn). names_block block t ≡ true → is_logged opening (take place story) block ≡ true) its_txn.0
      (λ is. one_passes (names_block block) (logs opening (take place story)) may_delete.txn may_delete.logged is) names

  logged_behind : is_logged opening (take (suc place) story) block ≡ true
  logged_behind =
      subst (λ (l : List Event). is_logged opening l block ≡ true)
      (sym (front_grows story place (record { seat = applied.seat; kind = Delete dn txn.number applied.locals }) applied.there))
      (logged_still opening (take place story) (record { seat = applied.seat; kind = Delete dn txn.number applied.locals } ∷ []) block was_logged)

  abbrev all : List Txn
  all = logs opening story

  -- the log of the whole story is that of a front, and more
  all_parts : all ≡ logs opening (take place story) ++ all_told logged (drop place story)
  all_parts = ap (logs opening) (sym (take-append-drop place story)) ∙ logs_append opening (take place story) (drop place story)

  local_there : Contains txn.locals block.local
  local_there = local_in txn.locals block.local named_parts.1
    where
      local_in : (locals : List ℕ) (x : ℕ) → list_any (λ local. local == x) locals ≡ true → Contains locals x
      local_in [] x e = absurd cc
      local_in (local ∷ locals) x e = by (local == x) refl (local_in locals x)
        where
          by : (t : Bool) → (local == x) ≡ t → (list_any (λ local. local == x) locals ≡ true → Contains locals x) → Contains (local ∷ locals) x
          by true is rest = (0, omega arith, eqb-true local x is)
          by false is rest =
              let later = rest (sym (ap (λ (t : Bool). t || list_any (λ local. local == x) locals) is) ∙ e) in
              (suc later.0, omega (arith, later.1), later.2)

  its_block : ◌≡◌ {A = Block} (record { container = txn.container; local = block.local }) block
  its_block = λ i. record { container = eqb-true txn.container block.container named_parts.0 i; local = block.local }

  -- what wasn't among what the Delete took wasn't held
  unheld_before : list_any (λ local. local == block.local) applied.locals ≡ false
      → last_told (held_after (logs opening story) dn block) (was_held opening dn block) (take place story) ≡ false
  unheld_before none = false_of (last_told (held_after (logs opening story) dn block) (was_held opening dn block) (take place story)) (λ held.
      let here : holds opening (take place story) dn block ≡ true =
      fewer_held (logs opening (take place story)) (all_told logged (drop place story)) dn block (take place story)
      (was_held opening dn block) (was_held opening dn block) (λ e. e)
      (subst (λ (l : List Txn). last_told (held_after l dn block) (was_held opening dn block) (take place story) ≡ true) all_parts held) in
      let took : applied.locals ≡ filter (λ local. holds opening (take place story) dn (record { container = txn.container; local = local })) txn.locals =
      subst (λ (t : Txn). applied.locals ≡ filter (λ local. holds opening (take place story) dn
      (record { container = t.container; local = local })) t.locals) its_txn.0 may_delete.held in
      let out = not_passed (λ local. holds opening (take place story) dn
      (record { container = txn.container; local = local })) txn.locals block.local local_there
      (sym (ap (list_any (λ local. local == block.local)) took) ∙ none) in
      let wrong : false ≡ true = sym out ∙ ap (holds opening (take place story) dn) its_block ∙ here in
      cc)
    where
      false_of : (t : Bool) → (t ≡ true → ⊥) → t ≡ false
      false_of true none = absurd (none refl)
      false_of false none = refl

  gone_behind : last_told (held_after (logs opening story) dn block) (was_held opening dn block) (take (suc place) story) ≡ false
  gone_behind =
      let event : Event = record { seat = applied.seat; kind = Delete dn txn.number applied.locals } in
      let before = last_told (held_after (logs opening story) dn block) (was_held opening dn block) (take place story) in
      ap (last_told (held_after (logs opening story) dn block) (was_held opening dn block)) (front_grows story place event applied.there)
      ∙ fold-append (λ told (event : Event). newer (held_after (logs opening story) dn block event.kind) told)
      (was_held opening dn block) (take place story) (event ∷ [])
      ∙ by (list_any (λ local. local == block.local) applied.locals) refl
    where
      in_all : list_any (λ (t : Txn). t.number == txn.number && t.container == block.container) (logs opening story) ≡ true
      in_all =
          ap (list_any (λ (t : Txn). t.number == txn.number && t.container == block.container)) all_parts
          ∙ list_any-append (λ (t : Txn). t.number == txn.number && t.container == block.container)
          (logs opening (take place story)) (all_told logged (drop place story))
          ∙ or_left (list_any (λ (t : Txn). t.number == txn.number && t.container == block.container)
          (logs opening (take place story)))
          (list_any (λ (t : Txn). t.number == txn.number && t.container == block.container) (all_told logged (drop place story)))
          (one_passes (λ (t : Txn). t.number == txn.number && t.container == block.container) (logs opening (take place story)) may_delete.txn may_delete.logged
          (and_from (may_delete.txn.number == txn.number) (may_delete.txn.container == block.container)
          (eq-eqb may_delete.txn.number txn.number may_delete.of_number)
          (ap (λ (t : Txn). t.container == block.container) its_txn.0 ∙ named_parts.0)))

      by : (t : Bool) → list_any (λ local. local == block.local) applied.locals ≡ t
          → newer (cond (dn == dn && (list_any (λ (t : Txn). t.number == txn.number && t.container == block.container)
          (logs opening story) && list_any (λ local. local == block.local) applied.locals)) (Some false) None)
          (last_told (held_after (logs opening story) dn block) (was_held opening dn block) (take place story)) ≡ false
      by true e =
          let took : (dn == dn && (list_any (λ (t : Txn). t.number == txn.number && t.container == block.container)
          (logs opening story) && list_any (λ local. local == block.local) applied.locals)) ≡ true =
          and_from (dn == dn) _ (eq-eqb dn dn refl) (and_from _ _ in_all e) in
          ap (λ (t : Bool). newer (cond t (Some false) None) (last_told (held_after (logs opening story) dn block)
          (was_held opening dn block) (take place story))) took
      by false e = either (dn == dn &&
          (list_any (λ (t : Txn). t.number == txn.number && t.container == block.container) (logs opening story) &&
          list_any (λ local. local == block.local) applied.locals)) (unheld_before e)
        where
          either : (t : Bool) → last_told (held_after (logs opening story) dn block) (was_held opening dn block) (take place story) ≡ false
              → newer (cond t (Some false) None) (last_told (held_after (logs opening story) dn block) (was_held opening dn block) (take place story)) ≡ false
          either true e = refl
          either false e = e

  -- and it doesn't come back
  pub gone : StaysAway opening dn story → holds opening story dn block ≡ false
  gone away =
      let event : Event = record { seat = applied.seat; kind = Delete dn txn.number applied.locals } in
      ap (last_told (held_after (logs opening story) dn block) (was_held opening dn block)) (sym (take-append-drop (suc place) story))
      ∙ fold-append (λ told (event : Event). newer (held_after (logs opening story) dn block event.kind) told)
      (was_held opening dn block) (take (suc place) story) (drop (suc place) story)
      ∙ ap (λ (t : Bool). last_told (held_after (logs opening story) dn block) t (drop (suc place) story)) gone_behind
      ∙ stays_gone opening (logs opening story) dn block (drop (suc place) story) (take (suc place) story)
      (legal_parts opening story (suc place) legal) logged_behind
      (λ id first count put.
      away.none (take (suc place) story) (drop (suc place) story) applied.seat txn.number first count applied.locals
      block id txn (sym (take-append-drop (suc place) story))
      (subst (λ (l : List Event). Contains l event) (sym (front_grows story place event applied.there))
      (Contains-append_right (take place story) (event ∷ []) event (0, omega arith, refl)))
      (subst (λ (l : List Event). Contains (logs opening l) txn) (sym (front_grows story place event applied.there))
      (subst (λ (l : List Txn). Contains l txn) (sym (logs_append opening (take place story) (event ∷ [])))
      (Contains-append_left (logs opening (take place story)) (all_told logged (event ∷ [])) txn
      (subst (Contains (logs opening (take place story))) its_txn.0 may_delete.logged))))
      refl names put)

-- ---- so a retired one is held by none of its members

retired_kind : (number : ℕ) (kind : EventKind) → retires number kind ≡ true → kind ≡ Retire number
retired_kind number (Retire txn) e = ap Retire (eqb-true txn number e)
retired_kind number kind e = absurd cc

module _ (opening : Opening) (bytes : OpeningBytes) (story : List Event) (dn : ℕ) (block : Block)
    (legal : IsLegal opening story) (coherent : IsCoherent opening bytes) (numbered : NumbersAreOld opening)
    (away : StaysAway opening dn story) (held : holds opening story dn block ≡ true) (txn : Txn)
    (names : names_block block txn ≡ true) (logged_place : ℕ) (at : IsLoggedAt story logged_place txn) where
  its_container : txn.container ≡ block.container
  its_container = eqb-true txn.container block.container (and_parts (txn.container == block.container)
      (list_any (λ local. local == block.local) txn.locals) names).0

  member : Contains (members opening story txn.container) dn
  member = subst (λ (c : ℕ). Contains (members opening story c) dn) (sym its_container) (held_by_member opening bytes story block dn legal coherent.blocks held)

  not_at_opening : acknowledged_at_opening opening txn.number ≡ []
  not_at_opening = none_at_opening opening txn.number numbered (above_opening opening story legal logged_place txn at)

  -- where it is retired at a place, it isn't held
  module _ (place seat : ℕ) (there : slice_get story place ≡ Some (record { seat = seat; kind = Retire txn.number })) where
    front_is : IsLegal opening (take place story)
    front_is = front_legal opening story legal place

    enough : 3 ≤ length (all_told (acknowledger txn.number) (take place story))
    enough =
        let may : RetireIsEnabled opening (take place story) seat txn.number = enabled_at opening story legal place
        (record { seat = seat; kind = Retire txn.number }) there in
        subst (λ (l : List ℕ). 3 ≤ length l) (ap (λ (l : List ℕ). l ++ all_told (acknowledger txn.number) (take place story)) not_at_opening) may.acknowledged

    applied : (other : ℕ) → Contains (all_told (acknowledger txn.number) (take place story)) other → (deleted : ℕ) × IsAppliedAt story other txn.number deleted
    applied other acked =
        let was = ack_applied opening (take place story) (front_legal opening story legal place) other txn.number acked in
        let event : Event = record { seat = was.1.seat; kind = Delete other txn.number was.1.locals } in
        (was.0, record { seat = was.1.seat; locals = was.1.locals; there = got_of_taken story place was.0 event was.1.there })

    is_acked_by_member : (other : ℕ) → Contains (all_told (acknowledger txn.number) (take place story)) other
        → Contains (members opening story txn.container) other
    is_acked_by_member other acked =
        let was = applied other acked in
        subst (λ (l : List Event). Contains (members opening l txn.container) other) (take-append-drop was.0 story)
        (member_stays opening (take was.0 story) (drop was.0 story) txn.container other
        (is_member opening story legal numbered other block txn names logged_place at was.0 was.1))

    three_members : length (members opening story txn.container) ≡ 3
    three_members =
        let on = member_on opening story txn.container dn member in
        ap length (members_on opening story txn.container on.0 on.1)

    pub retired_away : ⊥
    retired_away =
        let found = all_told (acknowledger txn.number) (take place story) in
        let acked = all_of_three found (members opening story txn.container)
        (acks_apart opening txn.number (take place story) front_is not_at_opening) enough three_members is_acked_by_member dn member in
        let was = applied dn acked in
        let out = gone opening story legal numbered dn block txn names logged_place at was.0 was.1 away in
        let wrong : false ≡ true = sym out ∙ held in
        cc

  pub is_unretired : is_retired txn.number story ≡ false
  is_unretired = by (is_retired txn.number story) refl
    where
      by : (t : Bool) → is_retired txn.number story ≡ t → is_retired txn.number story ≡ false
      by false e = e
      by true e =
          let it = event_there (retires txn.number) story e in
          let kind = retired_kind txn.number it.event.kind it.so in
          let there : slice_get story it.there.0 ≡ Some (record { seat = it.event.seat; kind = Retire txn.number }) =
          found_at story it.event it.there ∙ ap (λ (kind : EventKind). Some (record { seat = it.event.seat; kind = kind })) kind in
          absurd (retired_away it.there.0 it.event.seat there)

pub logged_and_held : (opening : Opening) (bytes : OpeningBytes) (story : List Event) (dn : ℕ) (block : Block)
    → IsLegal opening story → IsCoherent opening bytes → NumbersAreOld opening → StaysAway opening dn story
    → is_logged opening story block ≡ true → holds opening story dn block ≡ true
    → ((txn : Txn) × (names_block block txn ≡ true) × IsUnretired opening story txn) ⊎ (is_logged_at_opening opening block ≡ true)
logged_and_held opening bytes story dn block legal coherent numbered away is held =
    let named = named_by (logs opening story) block is in
    ⊎_elim
    (λ old. inr (ap (list_any (names_block block)) (append-nil (opening_txns opening))
    ∙ one_passes (names_block block) (opening_txns opening) named.txn old named.names))
    (λ new.
    let at = logged_at story named.txn new in
    inl (named.txn, named.names, (named.there, is_unretired opening bytes story dn block legal coherent numbered away held named.txn named.names at.0 at.1)))
    (Contains-append_cases (opening_txns opening) (all_told logged story) named.txn named.there)
