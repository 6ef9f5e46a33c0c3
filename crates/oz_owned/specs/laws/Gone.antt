-- Behind a Delete by a datanode that puts none of them again, the blocks of its transaction are gone from it.
use Rattle.std.proofs.Common.{◌≡◌, ⊎_elim, ℕ, suc, Bool, true, false, ◌&&◌, ◌||◌, ◌==◌, cond, List, []}
use Rattle.std.proofs.Common.{◌∷◌, ◌++◌, take, drop, filter, None, Some, Contains, refl}
use Rattle.std.proofs.Common.{sym, ◌∙◌, ap, subst, arith}
use Rattle.std.proofs.lemmas.Bool.{and_from, and_parts, eq-eqb, eqb-true, or_left}
use Rattle.std.proofs.lemmas.List.{take-append-drop}
use Rattle.std.proofs.lemmas.List.Elements.{Contains-append_left, Contains-append_right}
use Rattle.std.proofs.lemmas.List.Folds.{list_any-append}
use Rattle.std.proofs.lemmas.List.Sums.{fold-append}
use Rattle.std.specs.List.{list_any}
use Rattle.oz_dellog.specs.declared.txn.Txn.{Txn}
use Rattle.oz_fields.specs.declared.block.Block.{Block}
use Rattle.oz_requests.specs.declared.request.AskId.{AskId}
use Rattle.oz_core.specs.declared.event.Event.{Event}
use Rattle.oz_core.specs.declared.event.EventKind.{EventKind}
use Rattle.oz_core.specs.declared.event.EventKind.TheVariants.{Copy, Delete, Put, Wipe}
use Rattle.oz_core.specs.declared.opening.Opening.{Opening}
use Rattle.oz_core.specs.Law.{DeleteIsEnabled, IsLegal, IsLegalFrom, KindIsEnabled}
use Rattle.oz_core.specs.Nodes.{deletes, held_after, holds, is_block, was_held}
use Rattle.oz_core.specs.Scm.{is_logged, logged, logs, names_block}
use Rattle.oz_core.specs.Seats.{datanode_seat}
use Rattle.oz_core.specs.Stories.{all_told, last_told, newer}
use Rattle.oz_kept.specs.laws.Places.{legal_first, legal_rest}
use Rattle.oz_kept.specs.laws.Deleted.{first_or_later, legal_parts, one_passes}
use Rattle.oz_kept.specs.laws.Contents.{front_grows, one_block}
use Rattle.oz_kept.specs.laws.Reached.{in_none}
use Rattle.oz_repl.specs.views.Away.{StaysAway}
use Rattle.oz_repl.specs.views.laws.Acknowledged.{IsAppliedAt}
use Rattle.oz_repl.specs.views.laws.Logged.{fewer_held}
use Rattle.oz_owned.specs.Ordered.{LogIsOrdered}
use Rattle.oz_owned.specs.laws.Numbered.{its_txn, logs_append, may_delete}
use Rattle.oz_owned.specs.laws.Swept.{logged_still}

-- ---- once it is gone

-- an event that doesn't give the block to the datanode leaves it without
gone_after : (txns : List Txn) (dn : ℕ) (block : Block) (kind : EventKind)
    → ((source : ℕ) (copied : Block) → kind ≡ Copy source dn copied → is_block block copied ≡ true → ⊥)
    → ((put : Block) (id : AskId) (first count : ℕ) → kind ≡ Put dn put id first count → is_block block put ≡ true
    → ⊥) → newer (held_after txns dn block kind) false ≡ false
gone_after txns dn block (Put other put id first count) no_copy no_put = by (other == dn && is_block block put) refl
  where
    by : (t : Bool) → (other == dn && is_block block put) ≡ t → newer (cond t (Some true) None) false ≡ false
    by false e = refl
    by true e =
        let both = and_parts (other == dn) (is_block block put) e in
        absurd (no_put put id first count (ap (λ (n : ℕ). Put n put id first count) (eqb-true other dn both.0)) both.1)
gone_after txns dn block (Copy source target copied) no_copy no_put = by (target == dn && is_block block copied) refl
  where
    by : (t : Bool) → (target == dn && is_block block copied) ≡ t → newer (cond t (Some true) None) false ≡ false
    by false e = refl
    by true e =
        let both = and_parts (target == dn) (is_block block copied) e in
        absurd (no_copy source copied (ap (λ (n : ℕ). Copy source n copied) (eqb-true target dn both.0)) both.1)
gone_after txns dn block (Delete other number locals) no_copy no_put = by (other == dn && deletes txns number locals block)
  where
    by : (t : Bool) → newer (cond t (Some false) None) false ≡ false
    by true = refl
    by false = refl
gone_after txns dn block (Wipe other) no_copy no_put = by (other == dn)
  where
    by : (t : Bool) → newer (cond t (Some false) None) false ≡ false
    by true = refl
    by false = refl
gone_after txns dn block kind no_copy no_put = refl

stays_gone : (opening : Opening) (txns : List Txn) (dn : ℕ) (block : Block) (rest before : List Event)
    → IsLegalFrom opening before rest → is_logged opening before block ≡ true
    → ((id : AskId) (first count : ℕ)
    → Contains rest (record { seat = datanode_seat dn; kind = Put dn block id first count }) → ⊥)
    → last_told (held_after txns dn block) false rest ≡ false
stays_gone opening txns dn block [] before legal is no_put = refl
stays_gone opening txns dn block (event ∷ rest) before legal is no_put =
    ap (λ (t : Bool). last_told (held_after txns dn block) t rest) (gone_after txns dn block event.kind no_copy not_put)
    ∙ stays_gone opening txns dn block rest (before ++ event ∷ []) (legal_rest opening before event rest legal)
    (logged_still opening before (event ∷ []) block is)
    (λ id first count (k, lt, at). no_put id first count (suc k, omega (arith, lt), at))
  where
    enabled : (kind : EventKind) → event.kind ≡ kind → KindIsEnabled opening before event.seat kind
    enabled kind e = subst (KindIsEnabled opening before event.seat) e (legal_first opening before event rest legal)

    no_copy : (source : ℕ) (copied : Block) → event.kind ≡ Copy source dn copied → is_block block copied ≡ true → ⊥
    no_copy source copied e same =
        let may = enabled (Copy source dn copied) e in
        let none : is_logged opening before block ≡ false = subst (λ (b : Block). is_logged opening before b ≡ false)
        (sym (one_block block copied same)) may.unlogged in
        let wrong : false ≡ true = sym none ∙ is in
        absurd cc

    not_put : (put : Block) (id : AskId) (first count : ℕ) → event.kind ≡ Put dn put id first count → is_block block put ≡ true → ⊥
    not_put put id first count e same =
        let may = enabled (Put dn put id first count) e in
        let kind : event.kind ≡ Put dn block id first count = e ∙ ap (λ (b : Block). Put dn b id first count) (sym (one_block block put same)) in
        let is : event ≡ record { seat = datanode_seat dn; kind = Put dn block id first count } = λ i. record { seat = may.of_datanode.its i; kind = kind i } in
        no_put id first count (0, omega arith, is)

-- ---- right behind a Delete it is gone

not_passed : (p : ℕ → Bool) (l : List ℕ) (x : ℕ) → Contains l x → list_any (λ y. y == x) (filter p l) ≡ false → p x ≡ false
not_passed p [] x there e = absurd (in_none x there)
not_passed p (y ∷ l) x there e = by (p y) refl (not_passed p l x) e
  where
    by : (t : Bool) → p y ≡ t → (Contains l x → list_any (λ y. y == x) (filter p l) ≡ false → p x ≡ false)
        → list_any (λ y. y == x) (cond t (y ∷ filter p l) (filter p l)) ≡ false → p x ≡ false
    by true so rest e = ⊎_elim
        (λ same. absurd (let found : list_any (λ y. y == x) (y ∷ filter p l) ≡ true = or_left (y == x) (list_any (λ y. y == x) (filter p l))
        (eq-eqb y x same) in
        let wrong : false ≡ true = sym e ∙ found in cc))
        (λ later. rest later (or_rest (y == x) (list_any (λ y. y == x) (filter p l)) e))
        (first_or_later y x l there)
      where
        or_rest : (a b : Bool) → a || b ≡ false → b ≡ false
        or_rest true b e = absurd cc
        or_rest false b e = e
    by false so rest e = ⊎_elim (λ same. sym (ap p same) ∙ so) (λ later. rest later e) (first_or_later y x l there)

module _ (opening : Opening) (story : List Event) (legal : IsLegal opening story) (ordered : LogIsOrdered opening)
    (dn : ℕ) (block : Block) (txn : Txn) (there : Contains (logs opening story) txn) (names : names_block block txn ≡ true)
    (place : ℕ) (applied : IsAppliedAt story dn txn.number place) where
  named_parts : ((txn.container == block.container) ≡ true) × (list_any (λ local. local == block.local) txn.locals ≡ true)
  named_parts = and_parts (txn.container == block.container) (list_any (λ local. local == block.local) txn.locals) names

  abbrev may : DeleteIsEnabled opening (take place story) applied.seat dn txn.number applied.locals
  may = may_delete opening story legal ordered dn txn.number place applied

  same_txn : may.txn ≡ txn
  same_txn = its_txn opening story legal ordered dn txn.number place applied txn there refl

  was_logged : is_logged opening (take place story) block ≡ true
  was_logged =
      subst (λ (t : Txn). names_block block t ≡ true → is_logged opening (take place story) block ≡ true) same_txn
      (λ is. one_passes (names_block block) (logs opening (take place story)) may.txn may.logged is) names

  logged_behind : is_logged opening (take (suc place) story) block ≡ true
  logged_behind =
      subst (λ (l : List Event). is_logged opening l block ≡ true)
      (sym (front_grows story place (record { seat = applied.seat; kind = Delete dn txn.number applied.locals }) applied.there))
      (logged_still opening (take place story) (record { seat = applied.seat; kind = Delete dn txn.number applied.locals } ∷ []) block was_logged)

  abbrev all : List Txn
  all = logs opening story

  -- the log of the whole story is that of a front, and more
  all_parts : all ≡ logs opening (take place story) ++ all_told logged (drop place story)
  all_parts = ap (logs opening) (sym (take-append-drop place story)) ∙ logs_append opening (take place story) (drop place story)

  local_there : Contains txn.locals block.local
  local_there = local_in txn.locals block.local named_parts.1
    where
      local_in : (locals : List ℕ) (x : ℕ) → list_any (λ local. local == x) locals ≡ true → Contains locals x
      local_in [] x e = absurd cc
      local_in (local ∷ locals) x e = by (local == x) refl (local_in locals x)
        where
          by : (t : Bool) → (local == x) ≡ t → (list_any (λ local. local == x) locals ≡ true → Contains locals x) → Contains (local ∷ locals) x
          by true is rest = (0, omega arith, eqb-true local x is)
          by false is rest =
              let later = rest (sym (ap (λ (t : Bool). t || list_any (λ local. local == x) locals) is) ∙ e) in
              (suc later.0, omega (arith, later.1), later.2)

  its_block : ◌≡◌ {A = Block} (record { container = txn.container; local = block.local }) block
  its_block = λ i. record { container = eqb-true txn.container block.container named_parts.0 i; local = block.local }

  -- what wasn't among what the Delete took wasn't held
  unheld_before : list_any (λ local. local == block.local) applied.locals ≡ false
      → last_told (held_after (logs opening story) dn block) (was_held opening dn block) (take place story) ≡ false
  unheld_before none = false_of (last_told (held_after (logs opening story) dn block) (was_held opening dn block) (take place story)) (λ held.
      let here : holds opening (take place story) dn block ≡ true =
      fewer_held (logs opening (take place story)) (all_told logged (drop place story)) dn block (take place story)
      (was_held opening dn block) (was_held opening dn block) (λ e. e)
      (subst (λ (l : List Txn). last_told (held_after l dn block) (was_held opening dn block) (take place story) ≡ true) all_parts held) in
      let took : applied.locals ≡ filter (λ local. holds opening (take place story) dn (record { container = txn.container; local = local })) txn.locals =
      subst (λ (t : Txn). applied.locals ≡ filter (λ local. holds opening (take place story) dn
      (record { container = t.container; local = local })) t.locals) same_txn may.held in
      let out = not_passed (λ local. holds opening (take place story) dn
      (record { container = txn.container; local = local })) txn.locals block.local local_there
      (sym (ap (list_any (λ local. local == block.local)) took) ∙ none) in
      let wrong : false ≡ true = sym out ∙ ap (holds opening (take place story) dn) its_block ∙ here in
      cc)
    where
      false_of : (t : Bool) → (t ≡ true → ⊥) → t ≡ false
      false_of true none = absurd (none refl)
      false_of false none = refl

  gone_behind : last_told (held_after (logs opening story) dn block) (was_held opening dn block) (take (suc place) story) ≡ false
  gone_behind =
      let event : Event = record { seat = applied.seat; kind = Delete dn txn.number applied.locals } in
      let before = last_told (held_after (logs opening story) dn block) (was_held opening dn block) (take place story) in
      ap (last_told (held_after (logs opening story) dn block) (was_held opening dn block)) (front_grows story place event applied.there)
      ∙ fold-append (λ told (event : Event). newer (held_after (logs opening story) dn block event.kind) told)
      (was_held opening dn block) (take place story) (event ∷ [])
      ∙ by (list_any (λ local. local == block.local) applied.locals) refl
    where
      in_all : list_any (λ (t : Txn). t.number == txn.number && t.container == block.container) (logs opening story) ≡ true
      in_all =
          ap (list_any (λ (t : Txn). t.number == txn.number && t.container == block.container)) all_parts
          ∙ list_any-append (λ (t : Txn). t.number == txn.number && t.container == block.container)
          (logs opening (take place story)) (all_told logged (drop place story))
          ∙ or_left (list_any (λ (t : Txn). t.number == txn.number && t.container == block.container)
          (logs opening (take place story)))
          (list_any (λ (t : Txn). t.number == txn.number && t.container == block.container) (all_told logged (drop place story)))
          (one_passes (λ (t : Txn). t.number == txn.number && t.container == block.container) (logs opening (take place story)) may.txn may.logged
          (and_from (may.txn.number == txn.number) (may.txn.container == block.container)
          (eq-eqb may.txn.number txn.number may.of_number)
          (ap (λ (t : Txn). t.container == block.container) same_txn ∙ named_parts.0)))

      by : (t : Bool) → list_any (λ local. local == block.local) applied.locals ≡ t
          → newer (cond (dn == dn && (list_any (λ (t : Txn). t.number == txn.number && t.container == block.container)
          (logs opening story) && list_any (λ local. local == block.local) applied.locals)) (Some false) None)
          (last_told (held_after (logs opening story) dn block) (was_held opening dn block) (take place story)) ≡ false
      by true e =
          let took : (dn == dn && (list_any (λ (t : Txn). t.number == txn.number && t.container == block.container)
          (logs opening story) && list_any (λ local. local == block.local) applied.locals)) ≡ true =
          and_from (dn == dn) _ (eq-eqb dn dn refl) (and_from _ _ in_all e) in
          ap (λ (t : Bool). newer (cond t (Some false) None) (last_told (held_after (logs opening story) dn block)
          (was_held opening dn block) (take place story))) took
      by false e = either (dn == dn &&
          (list_any (λ (t : Txn). t.number == txn.number && t.container == block.container) (logs opening story) &&
          list_any (λ local. local == block.local) applied.locals)) (unheld_before e)
        where
          either : (t : Bool) → last_told (held_after (logs opening story) dn block) (was_held opening dn block) (take place story) ≡ false
              → newer (cond t (Some false) None) (last_told (held_after (logs opening story) dn block) (was_held opening dn block) (take place story)) ≡ false
          either true e = refl
          either false e = e

  -- and it doesn't come back
  pub gone : StaysAway opening dn story → holds opening story dn block ≡ false
  gone away =
      let event : Event = record { seat = applied.seat; kind = Delete dn txn.number applied.locals } in
      ap (last_told (held_after (logs opening story) dn block) (was_held opening dn block)) (sym (take-append-drop (suc place) story))
      ∙ fold-append (λ told (event : Event). newer (held_after (logs opening story) dn block event.kind) told)
      (was_held opening dn block) (take (suc place) story) (drop (suc place) story)
      ∙ ap (λ (t : Bool). last_told (held_after (logs opening story) dn block) t (drop (suc place) story)) gone_behind
      ∙ stays_gone opening (logs opening story) dn block (drop (suc place) story) (take (suc place) story)
      (legal_parts opening story (suc place) legal) logged_behind
      (λ id first count put.
      away.none (take (suc place) story) (drop (suc place) story) applied.seat txn.number first count applied.locals
      block id txn (sym (take-append-drop (suc place) story))
      (subst (λ (l : List Event). Contains l event) (sym (front_grows story place event applied.there))
      (Contains-append_right (take place story) (event ∷ []) event (0, omega arith, refl)))
      (subst (λ (l : List Event). Contains (logs opening l) txn) (sym (front_grows story place event applied.there))
      (subst (λ (l : List Txn). Contains l txn) (sym (logs_append opening (take place story) (event ∷ [])))
      (Contains-append_left (logs opening (take place story)) (all_told logged (event ∷ [])) txn
      (subst (Contains (logs opening (take place story))) same_txn may.logged))))
      refl names put)
