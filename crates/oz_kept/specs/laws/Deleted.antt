-- Blocks that are being deleted.
use Rattle.std.proofs.Common.{
  ◌≡◌,
  ⊎_elim,
  ◌⊎◌,
  ℕ,
  zero,
  suc,
  ◌<◌,
  ◌≤◌,
  Bool,
  true,
  false,
  ◌&&◌,
  ◌||◌,
  ◌==◌,
  List,
  [],
  ◌∷◌,
  ◌++◌,
  length,
  take,
  drop,
  map,
  Option,
  None,
  Some,
  Contains,
  cond,
  inl,
  inr,
  refl,
  sym,
  ◌∙◌,
  ap,
  subst,
  append-nil,
  arith,
}
use Rattle.std.proofs.lemmas.Bool.{eq-eqb}
use Rattle.std.proofs.lemmas.List.{take-append-drop}
use Rattle.std.proofs.lemmas.List.Sums.{fold_push}
use Rattle.std.proofs.lemmas.List.Elements.{All-contains, Contains-append_cases}
use Rattle.std.proofs.lemmas.Option.{slice_get_within}
use Rattle.std.specs.List.{slice_get, filter, list_any, cons_option}
use Rattle.oz_dellog.specs.declared.txn.Txn.{Txn}
use Rattle.oz_fields.specs.declared.block.Block.{Block}
use Rattle.oz_namespace.specs.declared.namespace.Namespace.{Namespace}
use Rattle.oz_model.specs.Reach.{IsReached}
use Rattle.oz_core.specs.declared.event.Event.{Event}
use Rattle.oz_core.specs.declared.event.EventKind.{EventKind}
use Rattle.oz_core.specs.declared.event.EventKind.TheVariants.{PurgeAsk, Log, Delete, Flushed}
use Rattle.oz_core.specs.declared.opening.Opening.{Opening}
use Rattle.oz_core.specs.declared.opening.Unretired.{Unretired}
use Rattle.oz_core.specs.Coherent.{LogIsCoherent}
use Rattle.oz_core.specs.Law.{IsLegal, IsLegalFrom, IsEnabled, KindIsEnabled, PurgeAskIsEnabled, LogIsEnabled, DeleteIsEnabled, IsPurged}
use Rattle.oz_core.specs.Manager.{
  IsUsed,
  IsUsedAndKept,
  WasUsed,
  kept_block,
  durable_index,
  last_index,
  stable_index,
  kept_namespace,
  kept_up_to,
  namespace_from,
  namespace_of,
  namespace_at,
}
use Rattle.oz_core.specs.Nodes.{holds}
use Rattle.oz_core.specs.Scm.{logged, is_logged_at_opening, names_block}
use Rattle.oz_core.specs.Stories.{all_told, newer}
use Rattle.oz_kept.specs.Purges.{IsPurgeAt, WasLetGo}
use Rattle.oz_kept.specs.laws.Places.{legal_behind, legal_first, legal_rest, moved_over}
use Rattle.oz_kept.specs.laws.Reached.{never_back, stays_away}
use Rattle.oz_kept.specs.laws.Kept.{Front, front, front_behind}

module _ {A : Type 0} where
  pub split_at : (l : List A) (k : ℕ) (x : A) → slice_get l k ≡ Some x → l ≡ take k l ++ x ∷ drop (suc k) l
  split_at [] k x e = absurd cc
  split_at (y ∷ l) zero x e = let same : y ≡ x = cc in ap (λ z. z ∷ l) same
  split_at (y ∷ l) (suc k) x e = ap (λ rest. y ∷ rest) (split_at l k x e)

  pub found_at : (l : List A) (x : A) → (among : Contains l x) → slice_get l among.0 ≡ Some x
  found_at [] x among = absurd (omega (arith, among.1))
  found_at (y ∷ l) x (zero, lt, is) = ap Some is
  found_at (y ∷ l) x (suc k, lt, is) = found_at l x (k, omega (arith, lt), is)

  taken_twice : (l : List A) (n p : ℕ) → n ≤ length (take p l) → take n (take p l) ≡ take n l
  taken_twice l zero p le = refl
  taken_twice [] (suc n) zero le = refl
  taken_twice [] (suc n) (suc p) le = refl
  taken_twice (x ∷ l) (suc n) zero le = absurd (omega (arith, le))
  taken_twice (x ∷ l) (suc n) (suc p) le = ap (λ rest. x ∷ rest) (taken_twice l n p (omega (arith, le)))

  pub taken_length : (l : List A) (p : ℕ) → length (take p l) ≤ p
  taken_length l zero = omega arith
  taken_length [] (suc p) = omega arith
  taken_length (x ∷ l) (suc p) = omega (arith, taken_length l p)

  pub got_of_taken : (l : List A) (p k : ℕ) (x : A) → slice_get (take p l) k ≡ Some x → slice_get l k ≡ Some x
  got_of_taken l zero k x e = absurd cc
  got_of_taken [] (suc p) k x e = absurd cc
  got_of_taken (y ∷ l) (suc p) zero x e = e
  got_of_taken (y ∷ l) (suc p) (suc k) x e = got_of_taken l p k x e

pub legal_to : (opening : Opening) (before a b : List Event) → IsLegalFrom opening before (a ++ b) → IsLegalFrom opening before a
unfolding IsLegalFrom
legal_to opening before [] b legal = tt
legal_to opening before (event ∷ a) b legal = (legal.0, legal_to opening (before ++ event ∷ []) a b legal.1)

-- the event at a place may follow those before it, which are legal
module _ (opening : Opening) (story : List Event) (legal : IsLegal opening story) (place : ℕ) where
  pub front_legal : IsLegal opening (take place story)
  front_legal = legal_to opening [] (take place story) (drop place story) (subst (IsLegalFrom opening []) (sym (take-append-drop place story)) legal)

  pub enabled_at : (event : Event) → slice_get story place ≡ Some event → IsEnabled opening (take place story) event
  enabled_at event is =
      legal_first opening (take place story) event (drop (suc place) story)
      (legal_behind opening [] (take place story) (event ∷ drop (suc place) story) (subst (IsLegalFrom opening []) (split_at story place event is) legal))

-- what was used and kept was used at the front that is kept
used_at_front : (opening : Opening) (most : ℕ) (story : List Event) (block : Block) (kept : Front opening most [] story)
    → WasUsed opening (all_told (kept_block most) story) block → IsUsed opening (take kept.size story) block
used_at_front opening most story block kept (inl reached) = inl reached
used_at_front opening most story block kept (inr (inl left)) = inr (inl left)
used_at_front opening most story block kept (inr (inr (inl logged))) = inr (inr (inl logged))
used_at_front opening most story block kept (inr (inr (inr granted))) = inr (inr (inr (subst (λ (l : List Block). Contains l block) kept.blocks granted)))

pub purged_away : (opening : Opening) (story : List Event) (block : Block) (place later : ℕ) → IsLegal opening story → IsPurgeAt story block place
    → place ≤ later
    → IsReached (namespace_at opening story later) block → ⊥
unfolding namespace_from
purged_away opening story block place later legal purge le reached =
    let event : Event = record { seat = purge.seat; kind = PurgeAsk purge.blocks } in
    let enabled : PurgeAskIsEnabled opening (take place story) purge.seat purge.blocks = enabled_at opening story legal place event purge.there in
    let most = durable_index opening (take place story) in
    let kept = front opening (durable_index opening (take place story)) (take place story) [] (front_legal opening story legal place) in
    let used = used_at_front opening most (take place story) block kept
    (All-contains (IsUsedAndKept opening (take place story)) purge.blocks block enabled.used purge.among) in
    let away = All-contains (λ block. IsReached (kept_namespace opening (take place story)) block → ⊥) purge.blocks block enabled.unreached purge.among in
    let same = taken_twice story kept.size place kept.within in
    never_back opening story block kept.size later legal (omega (arith, kept.within, taken_length story place, le))
    (subst (λ (l : List Event). IsUsed opening l block) same used)
    (λ there. away (subst (λ (n : Namespace). IsReached n block) (sym kept.namespace)
    (subst (λ (l : List Event). IsReached (namespace_of opening l) block) (sym same) there)))
    reached

durable_next : (opening : Opening) (before : List Event) (event : Event)
    → durable_index opening (before ++ event ∷ []) ≡ newer (stable_index event.kind) (durable_index opening before)
durable_next opening before event = fold_push (λ told (event : Event). newer (stable_index event.kind) told) opening.last_index before event

kind_durable : (opening : Opening) (before : List Event) (seat : ℕ) (kind : EventKind) → KindIsEnabled opening before seat kind
    → durable_index opening before ≤ newer (stable_index kind) (durable_index opening before)
kind_durable opening before seat (Flushed index moment) enabled = omega (arith, enabled.unstable)
kind_durable opening before seat kind enabled = omega arith

-- what is stable stays so
pub durable_rises : (opening : Opening) (rest before : List Event) → IsLegalFrom opening before rest
    → durable_index opening before ≤ durable_index opening (before ++ rest)
durable_rises opening [] before legal =
    subst (λ (l : List Event). durable_index opening before ≤ durable_index opening l) (sym (append-nil before)) (omega arith)
durable_rises opening (event ∷ rest) before legal =
    let first = kind_durable opening before event.seat event.kind (legal_first opening before event rest legal) in
    let later = durable_rises opening rest (before ++ event ∷ []) (legal_rest opening before event rest legal) in
    subst (λ (l : List Event). durable_index opening before ≤ durable_index opening l) (moved_over before rest event)
    (omega (arith, first, later, durable_next opening before event))

pub legal_parts : (opening : Opening) (story : List Event) (n : ℕ) → IsLegal opening story → IsLegalFrom opening (take n story) (drop n story)
legal_parts opening story n legal =
    legal_behind opening [] (take n story) (drop n story) (subst (IsLegalFrom opening []) (sym (take-append-drop n story)) legal)

pub durable_within : (opening : Opening) (story : List Event) (place : ℕ) → IsLegal opening story
    → durable_index opening (take place story) ≤ durable_index opening story
durable_within opening story place legal =
    subst (λ (l : List Event). durable_index opening (take place story) ≤ durable_index opening l) (take-append-drop place story)
    (durable_rises opening (drop place story) (take place story) (legal_parts opening story place legal))

-- nor does what a stop would leave at any index from the stable one on
pub kept_away : (opening : Opening) (story : List Event) (block : Block) (place most : ℕ) → IsLegal opening story → IsPurgeAt story block place
    → durable_index opening story ≤ most
    → IsReached (kept_up_to opening most story) block → ⊥
unfolding namespace_from
kept_away opening story block place most legal purge le reached =
    let event : Event = record { seat = purge.seat; kind = PurgeAsk purge.blocks } in
    let enabled : PurgeAskIsEnabled opening (take place story) purge.seat purge.blocks = enabled_at opening story legal place event purge.there in
    let stable = durable_index opening (take place story) in
    let kept = front opening (durable_index opening (take place story)) (take place story) [] (front_legal opening story legal place) in
    let used = used_at_front opening stable (take place story) block kept
    (All-contains (IsUsedAndKept opening (take place story)) purge.blocks block enabled.used purge.among) in
    let away = All-contains (λ block. IsReached (kept_namespace opening (take place story)) block → ⊥) purge.blocks block enabled.unreached purge.among in
    let same = taken_twice story kept.size place kept.within in
    let first = durable_rises opening (take place story) [] (front_legal opening story legal place) in
    let index = subst (λ (l : List Event). last_index opening l ≤ stable) same (kept.index first) in
    let behind = legal_parts opening story kept.size legal in
    let within = durable_within opening story place legal in
    let longer = front_behind opening most (take kept.size story) (drop kept.size story) behind (omega (arith, index, within, le))
    (front_legal opening story legal kept.size) in
    stays_away opening block (drop kept.size story) (take kept.size story) (front opening most (drop kept.size story) (take kept.size story) behind).size behind
    (subst (λ (l : List Event). IsUsed opening l block) same used)
    (λ there. away (subst (λ (n : Namespace). IsReached n block) (sym kept.namespace)
    (subst (λ (l : List Event). IsReached (namespace_of opening l) block) (sym same) there)))
    (subst (λ (n : Namespace). IsReached n block) longer
    (subst (λ (l : List Event). IsReached (kept_up_to opening most l) block) (sym (take-append-drop kept.size story)) reached))

-- a purged block of a front has its place in the story
purge_of : (story : List Event) (place : ℕ) (block : Block) → IsPurged (take place story) block → (before : ℕ) × (before < place) × IsPurgeAt story block before
purge_of story place block purged =
    let event : Event = record { seat = purged.seat; kind = PurgeAsk purged.blocks } in
    let found = found_at (take place story) event purged.there in (
      purged.there.0,
      omega (arith, purged.there.1, taken_length story place),
      record { seat = purged.seat; blocks = purged.blocks; there = got_of_taken story place purged.there.0 event found; among = purged.among },
    )

pub logged_purged : (opening : Opening) (story : List Event) (place seat number container local : ℕ) (locals : List ℕ) → IsLegal opening story
    → slice_get story place ≡ Some (record { seat = seat; kind = Log number container locals }) → Contains locals local
    → (before : ℕ) × (before < place) × IsPurgeAt story (record { container = container; local = local }) before
logged_purged opening story place seat number container local locals legal is among =
    let enabled : LogIsEnabled opening (take place story) seat number container locals =
    enabled_at opening story legal place (record { seat = seat; kind = Log number container locals }) is in
    purge_of story place (record { container = container; local = local })
    (All-contains (λ local. IsPurged (take place story) (record { container = container; local = local })) locals local enabled.purged among)

-- ---- transactions

pub first_or_later : {A : Type 0} (x y : A) (l : List A) → Contains (x ∷ l) y → (x ≡ y) ⊎ Contains l y
first_or_later x y l (zero, lt, is) = inl is
first_or_later x y l (suc k, lt, is) = inr (k, omega (arith, lt), is)

-- what the events tell of the log stands in one of them
record IsLogAt (story : List Event) (txn : Txn) (place : ℕ) : Type 0 where
  event : Event
  there : slice_get story place ≡ Some event
  tells : logged event.kind ≡ Some txn

told_at : (story : List Event) (txn : Txn) → Contains (all_told logged story) txn → (place : ℕ) × IsLogAt story txn place
told_at [] txn among = absurd (omega (arith, among.1))
told_at (event ∷ story) txn among = by (logged event.kind) refl (told_at story txn)
  where
    behind : ((place : ℕ) × IsLogAt story txn place) → (place : ℕ) × IsLogAt (event ∷ story) txn place
    behind later = (suc later.0, record { event = later.1.event; there = later.1.there; tells = later.1.tells })

    by : (o : Option Txn) → logged event.kind ≡ o → (Contains (all_told logged story) txn → (place : ℕ) × IsLogAt story txn place) → (place : ℕ)
        × IsLogAt (event ∷ story) txn place
    by None e rest = behind (rest (subst (λ (o : Option Txn). Contains (cons_option o (all_told logged story)) txn) e among))
    by (Some first) e rest = ⊎_elim
        (λ same. (0, record { event = event; there = refl; tells = e ∙ ap Some same }))
        (λ later. behind (rest later))
        (first_or_later first txn (all_told logged story) (subst (λ (o : Option Txn). Contains (cons_option o (all_told logged story)) txn) e among))

some_txn : (a b : Txn) → Some a ≡ Some b → a ≡ b
some_txn a b e = cc

-- the PurgeAsk before a Log
log_purged : (opening : Opening) (story : List Event) (txn : Txn) (place local : ℕ) → IsLegal opening story → IsLogAt story txn place
    → Contains txn.locals local
    → (before : ℕ) × (before < place) × IsPurgeAt story (record { container = txn.container; local = local }) before
log_purged opening story txn place local legal at among = by at.event.kind refl
  where
    by : (kind : EventKind) → at.event.kind ≡ kind → (before : ℕ) × (before < place)
        × IsPurgeAt story (record { container = txn.container; local = local }) before
    by (Log number container locals) e =
        let same : record { number = number; container = container; locals = locals } ≡ txn = some_txn _ txn (sym (ap logged e) ∙ at.tells) in
        let event : Event = record { seat = at.event.seat; kind = Log number container locals } in
        let is : slice_get story place ≡ Some event = at.there ∙ ap (λ (kind : EventKind). Some (record { seat = at.event.seat; kind = kind })) e in
        let found = logged_purged opening story place at.event.seat number container local locals legal is
        (subst (λ (t : Txn). Contains t.locals local) (sym same) among) in
        (found.0, found.1, subst (λ (t : Txn). IsPurgeAt story (record { container = t.container; local = local }) found.0) same found.2)
    by kind e = let none = sym (ap logged e) ∙ at.tells in absurd cc

-- ---- deletions

passed : (p : ℕ → Bool) (l : List ℕ) (x : ℕ) → Contains (filter p l) x → Contains l x
passed p [] x among = among
passed p (y ∷ l) x among = by (p y) refl (passed p l x)
  where
    later : Contains l x → Contains (y ∷ l) x
    later (k, lt, is) = (suc k, omega (arith, lt), is)

    by : (t : Bool) → p y ≡ t → (Contains (filter p l) x → Contains l x) → Contains (y ∷ l) x
    by true e rest = ⊎_elim
        (λ same. (0, omega arith, same))
        (λ among. later (rest among))
        (first_or_later y x (filter p l) (subst (λ (t : Bool). Contains (cond t (y ∷ filter p l) (filter p l)) x) e among))
    by false e rest = later (rest (subst (λ (t : Bool). Contains (cond t (y ∷ filter p l) (filter p l)) x) e among))

pub one_passes : {A : Type 0} (p : A → Bool) (l : List A) (x : A) → Contains l x → p x ≡ true → list_any p l ≡ true
one_passes p [] x among is = absurd (omega (arith, among.1))
one_passes p (y ∷ l) x among is = ⊎_elim
    (λ same. ap (λ (t : Bool). t || list_any p l) (ap p same ∙ is))
    (λ later. by (p y) (one_passes p l x later is))
    (first_or_later y x l among)
  where
    by : (t : Bool) → list_any p l ≡ true → t || list_any p l ≡ true
    by true e = refl
    by false e = e

-- a transaction names its blocks
names_own : (txn : Txn) (local : ℕ) → Contains txn.locals local → names_block (record { container = txn.container; local = local }) txn ≡ true
names_own txn local among =
    ap (λ (t : Bool). t && list_any (λ l. l == local) txn.locals) (eq-eqb txn.container txn.container refl)
    ∙ one_passes (λ l. l == local) txn.locals local among (eq-eqb local local refl)

opening_txns : Opening → List Txn
opening_txns opening = map (λ (unretired : Unretired). unretired.txn) opening.unretired

named_at_opening : (opening : Opening) (txn : Txn) (local : ℕ) → Contains (opening_txns opening) txn → Contains txn.locals local
    → is_logged_at_opening opening (record { container = txn.container; local = local }) ≡ true
unfolding opening_txns
named_at_opening opening txn local there among =
    let block : Block = record { container = txn.container; local = local } in
    ap (list_any (names_block block)) (append-nil (opening_txns opening))
    ∙ one_passes (names_block block) (opening_txns opening) txn there (names_own txn local among)

earlier_purge : (story : List Event) (place later : ℕ) (block : Block) → place < later
    → ((before : ℕ) × (before < place) × IsPurgeAt story block before) → (before : ℕ) × (before < later) × IsPurgeAt story block before
earlier_purge story place later block lt found = (found.0, omega (arith, lt, found.1), found.2)

pub deleted_let_go : (opening : Opening) (story : List Event) (place seat dn number local : ℕ) (locals : List ℕ) → IsLegal opening story
    → slice_get story place ≡ Some (record { seat = seat; kind = Delete dn number locals }) → Contains locals local
    → WasLetGo opening story place number local
unfolding opening_txns
deleted_let_go opening story place seat dn number local locals legal is among =
    let enabled : DeleteIsEnabled opening (take place story) seat dn number locals =
    enabled_at opening story legal place (record { seat = seat; kind = Delete dn number locals }) is in
    let txn = enabled.txn in
    let block : Block = record { container = txn.container; local = local } in
    let inside = passed (λ local. holds opening (take place story) dn (record { container = txn.container; local = local })) txn.locals local
    (subst (λ (l : List ℕ). Contains l local) enabled.held among) in
    record {
      txn = txn;
      there = enabled.logged;
      of_number = enabled.of_number;
      let_go = ⊎_elim
          (λ at_opening. inl (named_at_opening opening txn local at_opening inside))
          (λ told.
          let log = told_at (take place story) txn told in
          let there = got_of_taken story place log.0 log.1.event log.1.there in
          let lt = slice_get_within (take place story) log.0 log.1.event log.1.there in
          inr (earlier_purge story log.0 place block (omega (arith, lt, taken_length story place))
          (log_purged opening story txn log.0 local legal (record { event = log.1.event; there = there; tells = log.1.tells }) inside)))
          (Contains-append_cases (opening_txns opening) (all_told logged (take place story)) txn enabled.logged);
    }

pub opening_away : (opening : Opening) (story : List Event) (block : Block) (later : ℕ) → LogIsCoherent opening → IsLegal opening story
    → is_logged_at_opening opening block ≡ true
    → IsReached (namespace_at opening story later) block → ⊥
unfolding namespace_from
opening_away opening story block later coherent legal is reached =
    never_back opening story block 0 later legal (omega arith) (inr (inr (inl is))) (coherent.unreached block is) reached
