-- What the storage container manager may be left with: ids no lower, containers on their pipelines, and what is going.
use Rattle.std.proofs.Common.{◌≡◌, ⊎_elim, ◌⊎◌, ℕ, zero, suc, ◌≤◌, Bool, true, false, ◌||◌, List, [], ◌∷◌, ◌++◌, length, map, Some, Contains, inl, inr, refl, sym, ◌∙◌, ap, subst, append-nil, arith}
use mathlib.Core.Bool.{false≢true}
use Rattle.std.proofs.lemmas.List.Elements.{filter_map-append}
use Rattle.std.proofs.lemmas.List.Sums.{fold-append}
use Rattle.std.specs.List.{list_any, cons_option, slice_get}
use Rattle.oz_dellog.specs.declared.txn.Txn.{Txn}
use Rattle.oz_fields.specs.declared.block.Block.{Block}
use Rattle.oz_script.specs.declared.lines.script.Script.{Script}
use Rattle.oz_core.specs.declared.event.Event.{Event}
use Rattle.oz_core.specs.declared.event.EventKind.TheVariants.{Halt, PurgeAsk}
use Rattle.oz_core.specs.declared.event.Node.TheVariants.{Scm}
use Rattle.oz_core.specs.declared.opening.Opening.{Opening}
use Rattle.oz_core.specs.declared.opening.Unretired.{Unretired}
use Rattle.oz_core.specs.Contents.{OpeningBytes}
use Rattle.oz_core.specs.Law.{IsLegal, IsEnabled, HaltIsEnabled, PurgeAskIsEnabled}
use Rattle.oz_core.specs.Scm.{Containers, containers, containers_after, next_id, id_after, logs, logged, is_logged_at_opening, names_block}
use Rattle.oz_core.specs.Stories.{all_told, newer}
use Rattle.oz_kept.specs.laws.Places.{legal_behind, legal_first, legal_rest}
use Rattle.oz_kept.specs.laws.Deleted.{legal_to, one_passes}
use Rattle.oz_kept.specs.reopened.Left.{IsLeftByScm}
use Rattle.oz_kept.specs.reopened.laws.Logged.{IsGoing, is_going, left_going, txn_of}
use Rattle.oz_kept.specs.reopened.laws.Rising.{IsOn, stays_on, ids_rise}
use Rattle.oz_halted.specs.Further.{HasOneMore, MayBeLeftByScm}
use Rattle.oz_halted.specs.laws.Resting.{legal_on, halted_by, ScmRests, scm_rests}

-- what is so of its disk, by the story
pub record ScmIsWell (opening : Opening) (story : List Event) (left : Opening) : Type 0 where
  pub count : length left.nodes ≡ length opening.nodes
  pub ids : next_id opening story ≤ left.next_id
  pub made : (number pipeline : ℕ) → IsOn (containers opening story) number pipeline → IsOn left.containers number pipeline
  pub going : (block : Block) → is_logged_at_opening left block ≡ true → IsGoing opening story block

scm_as_told : (opening : Opening) (story : List Event) (left : Opening) → IsLegal opening story → IsLeftByScm opening story left → ScmIsWell opening story left
scm_as_told opening story left legal scm = record {
  count = scm.count;
  ids = omega (arith, scm.next_id);
  made = λ number pipeline on. subst (λ (all : Containers). IsOn all number pipeline) (sym scm.containers) on;
  going = λ block is. left_going opening story left block legal scm is;
}

-- ---- lists

pub record Passes {A : Type 0} (p : A → Bool) (l : List A) : Type 0 where
  pub item : A
  pub there : Contains l item
  pub so : p item ≡ true

pub passing : {A : Type 0} (p : A → Bool) (l : List A) → list_any p l ≡ true → Passes p l
passing p [] e = absurd (false≢true e)
passing p (first ∷ l) e = by (p first) refl (passing p l)
  where
    by : (t : Bool) → p first ≡ t → (list_any p l ≡ true → Passes p l) → Passes p (first ∷ l)
    by true is rest = record { item = first; there = (0, omega arith, refl); so = is }
    by false is rest =
        let later = rest (sym (ap (λ (t : Bool). t || list_any p l) is) ∙ e) in
        record { item = later.item; there = (suc later.there.0, omega (arith, later.there.1), later.there.2); so = later.so }

got_first : {A : Type 0} (l rest : List A) (k : ℕ) (x : A) → slice_get l k ≡ Some x → slice_get (l ++ rest) k ≡ Some x
got_first [] rest k x e = absurd cc
got_first (y ∷ l) rest zero x e = e
got_first (y ∷ l) rest (suc k) x e = got_first l rest k x e

first_or_last : {A : Type 0} (l : List A) (last : A) (k : ℕ) (x : A) → slice_get (l ++ last ∷ []) k ≡ Some x → (slice_get l k ≡ Some x) ⊎ (last ≡ x)
first_or_last [] last zero x e = let same : last ≡ x = cc in inr same
first_or_last [] last (suc k) x e = absurd cc
first_or_last (y ∷ l) last zero x e = inl e
first_or_last (y ∷ l) last (suc k) x e = first_or_last l last k x e

-- ---- one event more

module _ (opening : Opening) (bytes : OpeningBytes) (script : Script) (story : List Event) (left : Opening) (legal : IsLegal opening story) (longer : List Event) (more : HasOneMore opening bytes script Scm story longer) where
  abbrev halt : Event
  halt = record { seat = more.seat; kind = Halt Scm more.count }

  abbrev event : Event
  event = record { seat = more.seat; kind = more.further }

  parts_legal : IsLegal opening (more.before ++ halt ∷ more.behind)
  parts_legal = subst (IsLegal opening) more.halted legal

  before_legal : IsLegal opening more.before
  before_legal = legal_to opening [] more.before (halt ∷ more.behind) parts_legal

  behind_legal : IsEnabled opening more.before halt
  behind_legal = legal_first opening more.before halt more.behind (legal_behind opening [] more.before (halt ∷ more.behind) parts_legal)

  further_legal : IsLegal opening (more.before ++ event ∷ [])
  further_legal = legal_on opening [] more.before event before_legal more.enabled

  -- behind its Halt nothing changes
  rests : ScmRests more.behind
  rests =
      scm_rests opening more.behind (more.before ++ halt ∷ [])
      (legal_rest opening more.before halt more.behind (legal_behind opening [] more.before (halt ∷ more.behind) parts_legal))
      (halted_by Scm more.before more.seat more.count)

  -- ---- ids

  abbrev id_step : ℕ → Event → ℕ
  id_step next event = newer (id_after event.kind) next

  ids_of_story : next_id opening story ≡ next_id opening more.before
  ids_of_story =
      ap (next_id opening) more.halted ∙ fold-append id_step opening.next_id more.before (halt ∷ more.behind)
      ∙ rests.ids (next_id opening more.before)

  ids_of_longer : next_id opening longer ≡ next_id opening (more.before ++ event ∷ [])
  ids_of_longer =
      ap (next_id opening) more.more ∙ fold-append id_step opening.next_id more.before (event ∷ halt ∷ more.behind)
      ∙ rests.ids (newer (id_after more.further) (next_id opening more.before))
      ∙ sym (fold-append id_step opening.next_id more.before (event ∷ []))

  ids_grow : next_id opening story ≤ next_id opening longer
  ids_grow =
      let rise = ids_rise opening (event ∷ []) more.before (legal_behind opening [] more.before (event ∷ []) further_legal) in
      omega (arith, rise, ids_of_story, ids_of_longer)

  -- ---- containers

  abbrev container_step : Containers → Event → Containers
  container_step all event = containers_after all event.kind

  containers_of_story : containers opening story ≡ containers opening more.before
  containers_of_story =
      ap (containers opening) more.halted ∙ fold-append container_step opening.containers more.before (halt ∷ more.behind)
      ∙ rests.containers (containers opening more.before)

  containers_of_longer : containers opening longer ≡ containers opening (more.before ++ event ∷ [])
  containers_of_longer =
      ap (containers opening) more.more ∙ fold-append container_step opening.containers more.before (event ∷ halt ∷ more.behind)
      ∙ rests.containers (containers_after (containers opening more.before) more.further)
      ∙ sym (fold-append container_step opening.containers more.before (event ∷ []))

  stay_made : (number pipeline : ℕ) → IsOn (containers opening story) number pipeline → IsOn (containers opening longer) number pipeline
  stay_made number pipeline on =
      subst (λ (all : Containers). IsOn all number pipeline) (sym containers_of_longer)
      (stays_on opening (event ∷ []) more.before number pipeline (subst (λ (all : Containers). IsOn all number pipeline) containers_of_story on))

  -- ---- the log

  logs_of_longer : logs opening longer ≡ logs opening (more.before ++ event ∷ [])
  logs_of_longer = ap (λ (l : List Txn). map (λ (unretired : Unretired). unretired.txn) opening.unretired ++ l) told
    where
      told : all_told logged longer ≡ all_told logged (more.before ++ event ∷ [])
      told =
          ap (all_told logged) more.more ∙ filter_map-append (λ (event : Event). logged event.kind) more.before (event ∷ halt ∷ more.behind)
          ∙ ap (λ (l : List Txn). all_told logged more.before ++ cons_option (logged more.further) l) rests.logs
          ∙ sym (filter_map-append (λ (event : Event). logged event.kind) more.before (event ∷ []))

  -- what it asks to delete was asked in the story
  is_no_purge : (seat : ℕ) (blocks : List Block) → event ≡ record { seat = seat; kind = PurgeAsk blocks } → ⊥
  is_no_purge seat blocks is =
      let enabled : PurgeAskIsEnabled opening more.before seat blocks = subst (IsEnabled opening more.before) is more.enabled in
      let its : HaltIsEnabled opening more.before more.seat Scm more.count = behind_legal in
      let same : more.seat ≡ seat = ap (λ (e : Event). e.seat) is in
      let stripe = enabled.of_stripe in
      absurd (omega (arith, its.of_node, same, stripe.its))

  going_still : (block : Block) → IsGoing opening (more.before ++ event ∷ []) block → IsGoing opening story block
  unfolding IsGoing
  going_still block (inl logged) = inl logged
  going_still block (inr (place, purge)) = ⊎_elim
      (λ there. inr (
        place,
        record {
          seat = purge.seat;
          blocks = purge.blocks;
          there = ap (λ (l : List Event). slice_get l place) more.halted ∙ got_first more.before (halt ∷ more.behind) place (record { seat = purge.seat; kind = PurgeAsk purge.blocks }) there;
          among = purge.among;
        },
      ))
      (λ last. absurd (is_no_purge purge.seat purge.blocks last))
      (first_or_last more.before event place (record { seat = purge.seat; kind = PurgeAsk purge.blocks }) purge.there)

  stay_going : IsLeftByScm opening longer left → (block : Block) → is_logged_at_opening left block ≡ true → IsGoing opening story block
  stay_going scm block is =
      let all = map (λ (unretired : Unretired). unretired.txn) left.unretired in
      let named = passing (names_block block) all (sym (ap (list_any (names_block block)) (append-nil all)) ∙ is) in
      let of = txn_of left.unretired named.item named.there in
      let there = subst (λ (t : Txn). Contains (logs opening longer) t) of.same (scm.unretired of.unretired of.there).0 in
      let here = subst (λ (l : List Txn). Contains l named.item) logs_of_longer there in
      going_still block (is_going opening (more.before ++ event ∷ []) block further_legal (one_passes (names_block block) (logs opening (more.before ++ event ∷ [])) named.item here named.so))

  scm_with_more : IsLeftByScm opening longer left → ScmIsWell opening story left
  scm_with_more scm = record {
    count = scm.count;
    ids = omega (arith, ids_grow, scm.next_id);
    made = λ number pipeline on. subst (λ (all : Containers). IsOn all number pipeline) (sym scm.containers) (stay_made number pipeline on);
    going = λ block is. stay_going scm block is;
  }

pub scm_well : (opening : Opening) (bytes : OpeningBytes) (script : Script) (story : List Event) (left : Opening) → IsLegal opening story → MayBeLeftByScm opening bytes script story left → ScmIsWell opening story left
scm_well opening bytes script story left legal scm = by scm.one_more
  where
    by : (scm.longer ≡ story) ⊎ HasOneMore opening bytes script Scm story scm.longer → ScmIsWell opening story left
    by (inl same) = scm_as_told opening story left legal (subst (λ (l : List Event). IsLeftByScm opening l left) same scm.is)
    by (inr more) = scm_with_more opening bytes script story left legal scm.longer more scm.is
