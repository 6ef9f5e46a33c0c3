-- Nothing reaches what is being deleted after a stop, and its ids were granted.
use Rattle.std.proofs.Common.{
  ◌≡◌,
  ⊎_elim,
  ◌⊎◌,
  ℕ,
  suc,
  ◌<◌,
  ◌≤◌,
  ◌==◌,
  Bool,
  true,
  false,
  ◌||◌,
  List,
  [],
  ◌∷◌,
  take,
  map,
  Some,
  Contains,
  inl,
  inr,
  refl,
  sym,
  ◌∙◌,
  ap,
  subst,
  append-nil,
  arith,
}
use mathlib.Core.Bool.{false≢true}
use Rattle.std.proofs.lemmas.Bool.{eqb-true, and_parts}
use Rattle.std.proofs.lemmas.List.Elements.{All-contains, Contains-append_cases}
use Rattle.std.specs.List.{slice_get, list_any}
use Rattle.oz_dellog.specs.declared.txn.Txn.{Txn}
use Rattle.oz_fields.specs.declared.block.Block.{Block}
use Rattle.oz_namespace.specs.declared.namespace.Namespace.{Namespace}
use Rattle.oz_model.specs.Reach.{IsReached}
use Rattle.oz_core.specs.declared.event.Event.{Event}
use Rattle.oz_core.specs.declared.event.EventKind.{EventKind}
use Rattle.oz_core.specs.declared.event.EventKind.TheVariants.{Log, PurgeAsk}
use Rattle.oz_core.specs.declared.opening.Opening.{Opening}
use Rattle.oz_core.specs.declared.opening.Unretired.{Unretired}
use Rattle.oz_core.specs.Coherent.{IdsAreFresh, LogIsCoherent}
use Rattle.oz_core.specs.Law.{IsLegal, PurgeAskIsEnabled}
use Rattle.oz_core.specs.Manager.{IsUsedAndKept, WasUsed, kept_block, durable_index, namespace_from}
use Rattle.oz_core.specs.Scm.{logs, logged, is_logged_at_opening, is_in_logs, names_block, next_id}
use Rattle.oz_core.specs.Stories.{all_told}
use Rattle.oz_kept.specs.Purges.{IsPurgeAt}
use Rattle.oz_kept.specs.laws.Kept.{front}
use Rattle.oz_kept.specs.laws.Deleted.{found_at, first_or_later, enabled_at, front_legal, logged_purged, kept_away, opening_away, one_passes}
use Rattle.oz_kept.specs.laws.Reached.{in_none}
use Rattle.oz_kept.specs.reopened.Left.{IsLeftByManager, IsLeftByScm}
use Rattle.oz_kept.specs.reopened.laws.Named.{IsTold, told_event, kept_grant, granted_below, at_opening_below}
use Rattle.oz_kept.specs.reopened.laws.Rising.{ids_within}

-- ---- who names a block

record NamedIn (txns : List Txn) (block : Block) : Type 0 where
  txn : Txn
  there : Contains txns txn
  names : names_block block txn ≡ true

named_in : (txns : List Txn) (block : Block) → is_in_logs txns block ≡ true → NamedIn txns block
named_in [] block e = absurd (false≢true e)
named_in (txn ∷ txns) block e = by (names_block block txn) refl (named_in txns block)
  where
    by : (t : Bool) → names_block block txn ≡ t → (is_in_logs txns block ≡ true → NamedIn txns block) → NamedIn (txn ∷ txns) block
    by true is rest = record { txn = txn; there = (0, omega arith, refl); names = is }
    by false is rest =
        let later = rest (sym (ap (λ (t : Bool). t || is_in_logs txns block) is) ∙ e) in
        record { txn = later.txn; there = (suc later.there.0, omega (arith, later.there.1), later.there.2); names = later.names }

pub record IsTxnOf (all : List Unretired) (txn : Txn) : Type 0 where
  pub unretired : Unretired
  pub there : Contains all unretired
  pub same : unretired.txn ≡ txn

pub txn_of : (all : List Unretired) (txn : Txn) → Contains (map (λ (unretired : Unretired). unretired.txn) all) txn → IsTxnOf all txn
txn_of [] txn among = absurd (in_none txn among)
txn_of (first ∷ all) txn among = ⊎_elim
    (λ same. record { unretired = first; there = (0, omega arith, refl); same = same })
    (λ later.
    let it = txn_of all txn later in
    record { unretired = it.unretired; there = (suc it.there.0, omega (arith, it.there.1), it.there.2); same = it.same })
    (first_or_later first.txn txn (map (λ (unretired : Unretired). unretired.txn) all) among)

local_in : (locals : List ℕ) (x : ℕ) → list_any (λ local. local == x) locals ≡ true → Contains locals x
local_in [] x e = absurd (false≢true e)
local_in (local ∷ locals) x e = by (local == x) refl (local_in locals x)
  where
    by : (t : Bool) → (local == x) ≡ t → (list_any (λ local. local == x) locals ≡ true → Contains locals x) → Contains (local ∷ locals) x
    by true is rest = (0, omega arith, eqb-true local x is)
    by false is rest =
        let later = rest (sym (ap (λ (t : Bool). t || list_any (λ local. local == x) locals) is) ∙ e) in
        (suc later.0, omega (arith, later.1), later.2)

-- ---- it was logged at the opening, or purged since

unfoldable pub IsGoing : Opening → List Event → Block → Type 0
IsGoing opening story block = (is_logged_at_opening opening block ≡ true) ⊎ ((place : ℕ) × IsPurgeAt story block place)

at_opening : (opening : Opening) (txn : Txn) (block : Block) → Contains (map (λ (unretired : Unretired). unretired.txn) opening.unretired) txn
    → names_block block txn ≡ true → is_logged_at_opening opening block ≡ true
at_opening opening txn block there names =
    let all = map (λ (unretired : Unretired). unretired.txn) opening.unretired in
    ap (list_any (names_block block)) (append-nil all) ∙ one_passes (names_block block) all txn there names

some_txn : (a b : Txn) → Some a ≡ Some b → a ≡ b
some_txn a b e = cc

in_log : (opening : Opening) (story : List Event) (txn : Txn) (block : Block) → IsLegal opening story → IsTold logged story txn
    → names_block block txn ≡ true → (place : ℕ) × IsPurgeAt story block place
in_log opening story txn block legal told names = by told.event.kind refl
  where
    by : (kind : EventKind) → told.event.kind ≡ kind → (place : ℕ) × IsPurgeAt story block place
    by (Log number container locals) e =
        let same : record { number = number; container = container; locals = locals } ≡ txn = some_txn _ txn (sym (ap logged e) ∙ told.told) in
        let here = subst (λ (t : Txn). names_block block t ≡ true) (sym same) names in
        let parts = and_parts (container == block.container) (list_any (λ local. local == block.local) locals) here in
        let event : Event = record { seat = told.event.seat; kind = Log number container locals } in
        let is : slice_get story told.there.0 ≡ Some event = found_at story told.event told.there
        ∙ ap (λ (kind : EventKind). Some (record { seat = told.event.seat; kind = kind })) e in
        let found = logged_purged opening story told.there.0 told.event.seat number container block.local locals legal is
        (local_in locals block.local parts.1) in (
          found.0,
          subst (λ (c : ℕ). IsPurgeAt story (record { container = c; local = block.local }) found.0)
              (eqb-true container block.container parts.0) found.2,
        )
    by kind e = let none = sym (ap logged e) ∙ told.told in absurd cc

-- each block that the log has is going
pub is_going : (opening : Opening) (story : List Event) (block : Block) → IsLegal opening story → is_in_logs (logs opening story) block ≡ true
    → IsGoing opening story block
unfolding IsGoing
is_going opening story block legal is =
    let named = named_in (logs opening story) block is in
    ⊎_elim
    (λ there. inl (at_opening opening named.txn block there named.names))
    (λ there. inr (in_log opening story named.txn block legal (told_event logged story named.txn there) named.names))
    (Contains-append_cases (map (λ (unretired : Unretired). unretired.txn) opening.unretired) (all_told logged story) named.txn named.there)

-- and what a stop leaves of the log is of it
pub left_going : (opening : Opening) (story : List Event) (left : Opening) (block : Block) → IsLegal opening story → IsLeftByScm opening story left
    → is_logged_at_opening left block ≡ true → IsGoing opening story block
left_going opening story left block legal scm is =
    let all = map (λ (unretired : Unretired). unretired.txn) left.unretired in
    let named = named_in all block (sym (ap (list_any (names_block block)) (append-nil all)) ∙ is) in
    let of = txn_of left.unretired named.txn named.there in
    let there = subst (λ (t : Txn). Contains (logs opening story) t) of.same (scm.unretired of.unretired of.there).0 in
    is_going opening story block legal (one_passes (names_block block) (logs opening story) named.txn there named.names)

-- ---- nothing reaches it

pub going_away : (opening : Opening) (story : List Event) (most : ℕ) (left : Opening) (block : Block) → IsLegal opening story → LogIsCoherent opening
    → IsLeftByManager opening story most left
    → durable_index opening story ≤ most → IsGoing opening story block → IsReached left.namespace block → ⊥
unfolding IsGoing namespace_from
going_away opening story most left block legal coherent manager stable (inl logged) reached =
    let kept = front opening most story [] legal in
    opening_away opening story block kept.size coherent legal logged (subst (λ (n : Namespace). IsReached n block) (manager.namespace ∙ kept.namespace) reached)
going_away opening story most left block legal coherent manager stable (inr purged) reached =
    kept_away opening story block purged.0 most legal purged.1 stable (subst (λ (n : Namespace). IsReached n block) manager.namespace reached)

-- ---- its id was granted

used_below : (opening : Opening) (story : List Event) (most : ℕ) (block : Block) → IsLegal opening story → IdsAreFresh opening → LogIsCoherent opening
    → WasUsed opening (all_told (kept_block most) story) block → block.local < next_id opening story
used_below opening story most block legal fresh coherent (inl reached) = at_opening_below opening story block legal (fresh block (inl reached))
used_below opening story most block legal fresh coherent (inr (inl left)) = at_opening_below opening story block legal (fresh block (inr (inl left)))
used_below opening story most block legal fresh coherent (inr (inr (inl logged))) = at_opening_below opening story block legal (coherent.granted block logged)
used_below opening story most block legal fresh coherent (inr (inr (inr granted))) =
    granted_below opening story legal block (kept_grant opening story legal most block granted)

pub going_below : (opening : Opening) (story : List Event) (block : Block) → IsLegal opening story → IdsAreFresh opening → LogIsCoherent opening
    → IsGoing opening story block → block.local < next_id opening story
unfolding IsGoing
going_below opening story block legal fresh coherent (inl logged) = at_opening_below opening story block legal (coherent.granted block logged)
going_below opening story block legal fresh coherent (inr purged) =
    let purge = purged.1 in
    let front = take purged.0 story in
    let enabled : PurgeAskIsEnabled opening (take purged.0 story) purge.seat purge.blocks =
    enabled_at opening story legal purged.0 (record { seat = purge.seat; kind = PurgeAsk purge.blocks }) purge.there in
    let used = All-contains (IsUsedAndKept opening (take purged.0 story)) purge.blocks block enabled.used purge.among in
    let below = used_below opening front (durable_index opening (take purged.0 story)) block (front_legal opening story legal purged.0) fresh coherent used in
    omega (arith, below, ids_within opening story purged.0 legal)
