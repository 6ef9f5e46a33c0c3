-- After a Decide each block of a stripe's own has a home or is logged, and what the rows name is the stripe's own.
use Rattle.std.proofs.Common.{◌≡◌, ◌⊎◌, ⊎_elim, inl, inr, ℕ, zero, suc, ◌<◌, Bool, true, false, List, [], ◌∷◌, ◌++◌, Option, None, Some, IsSome, Contains, is_some}
use Rattle.std.proofs.Common.{cond, arith, refl, sym, ap, ◌∙◌, subst}
use mathlib.Core.Bool.{false≢true}
use Rattle.std.proofs.lemmas.List.Elements.{Contains-append_cases}
use Rattle.std.specs.List.{cons_option}
use Rattle.std.specs.Prelude.{slice_index_or}
use Rattle.oz_core.specs.declared.event.Event.{Event}
use Rattle.oz_core.specs.declared.event.EventKind.TheVariants.{Decide}
use Rattle.oz_core.specs.declared.opening.Opening.{Opening}
use Rattle.oz_core.specs.Manager.{block_of_reply}
use Rattle.oz_core.specs.Scm.{is_logged}
use Rattle.oz_core.specs.Seats.{stripe_seat}
use Rattle.oz_decision.specs.Meets.{AreInGrammar, MayGo, granted_in}
use Rattle.oz_decision.specs.Sessions.{blocks_at}
use Rattle.oz_decision.specs.laws.Shown.{key_itself}
use Rattle.oz_fields.specs.declared.block.Block.{Block}
use Rattle.oz_model.specs.Answers.{Answers}
use Rattle.oz_model.specs.Buckets.{granted_by}
use Rattle.oz_model.specs.Refusals.{refusal}
use Rattle.oz_model.specs.Scope.{scope_of}
use Rattle.oz_model.specs.laws.Grants.{grants_none}
use Rattle.oz_namespace.specs.declared.namespace.Namespace.{Namespace}
use Rattle.oz_owned.specs.Own.{IsOwn, IsOwnLocal, NamesLocal}
use Rattle.oz_owned.specs.Stood.{StandAt}
use Rattle.oz_owned.specs.Swept.{HomesAreKept}
use Rattle.oz_owned.specs.laws.Found.{among}
use Rattle.oz_owned.specs.laws.Owned.{own_still}
use Rattle.oz_owned.specs.laws.Swept.{logged_still}
use Rattle.oz_reclaim.specs.Origins.{RowsComeFrom}
use Rattle.oz_requests.specs.declared.reply.Reply.{Reply}
use Rattle.oz_requests.specs.declared.reply.Reply.TheVariants as replies
use Rattle.oz_requests.specs.declared.request.AskId.{AskId}
use Rattle.oz_requests.specs.declared.request.Request.{Request}
use Rattle.oz_requests.specs.declared.request.Request.TheVariants.{AllocateBlock}
use Rattle.oz_requests.specs.Names.{volume_in}
use Rattle.oz_rows.specs.declared.key.RowKey.{RowKey}
use Rattle.oz_rows.specs.declared.key.RowKey.TheVariants as keys
use Rattle.oz_rows.specs.declared.operation.Change.{Change}
use Rattle.oz_rows.specs.declared.row.Row.{Row}
use Rattle.oz_rows.specs.declared.row.Row.TheVariants as rows
use Rattle.oz_rows.specs.Rows.{ValueFits}
use Rattle.oz_rows.specs.RowMaps.{Rows, after_changes, is_block}
use Rattle.oz_sound.specs.Kept.{HasHome, KeepsBlocks}
use Rattle.oz_sound.specs.Sound.{StandsIn}
use Rattle.oz_sound.specs.stripes.Stripes.{only}
use Rattle.oz_store.specs.Store.{IsInARow, local_in}
use Rattle.oz_store.specs.granted.Granted.{AreOld, handed_out}
use Rattle.oz_om.specs.decider.Records.{AreRecorded}
use Rattle.oz_om.proofs.Old.{contains_at, handed_with, same_granted}

-- ---- a block that is granted has a home

grants_nothing : (reply : Reply) (block : Block) → granted_by reply ≡ [] → granted_in reply ≡ Some block → ⊥
grants_nothing (replies.Granted given pipeline) block none is = absurd cc
grants_nothing reply block none is = absurd cc

some_block : (a b : Block) → Some a ≡ Some b → a ≡ b
some_block a b e = cc

pub granted_home : (all : Rows) (namespace : Namespace) (request : Request) (reply : Reply) (bytes : List ℕ) (changes : List Change)
    → Answers namespace request reply → AreRecorded all request reply bytes changes → (block : Block) → granted_in reply ≡ Some block
    → HasHome (after_changes changes all) block
unfolding Answers
granted_home all namespace (AllocateBlock volume bucket key session exclude) (replies.Granted given pipeline) bytes changes answers recorded block is =
    let place = keys.Open volume bucket key session in
    let blocks = blocks_at (all place) ++ given ∷ [] in
    let there : after_changes changes all place ≡ Some (rows.Open blocks) =
    ap (λ (l : List Change). after_changes l all place) recorded
    ∙ ap (λ (t : Bool). cond t (Some (rows.Open blocks)) (all place)) (key_itself place) in
    let has = among given blocks (contains_at (blocks_at (all place)) [] given) in
    subst (HasHome (after_changes changes all)) (some_block given block is)
    (record { key = place; home = tt; here = record { row = rows.Open blocks; there = there; has = has } })
granted_home all namespace (AllocateBlock volume bucket key session exclude) reply bytes changes answers recorded block is = absurd cc
granted_home all namespace request reply bytes changes answers recorded block is =
    let none = grants_none (refusal (scope_of namespace (volume_in request)) request) (scope_of namespace (volume_in request)) request reply
    (λ e. absurd cc) answers in
    absurd (grants_nothing reply block none is)

-- ---- behind the Decide

some_row : (row : Option Row) → IsSome row → (value : Row) × (row ≡ Some value)
some_row None some = absurd (false≢true some)
some_row (Some value) some = (value, refl)

is_there : (row : Option Row) (value : Row) → row ≡ Some value → IsSome row
is_there row value is = ap is_some is

same_local : (a b : ℕ) → Some a ≡ Some b → a ≡ b
same_local a b e = cc

module _ (opening : Opening) (loaded : Rows) (stripe : ℕ) (story : List Event) (all : Rows) (at : StandAt opening loaded stripe story all)
    (id : AskId) (index : ℕ) (reply : Reply) (batch : List ℕ) (changes : List Change) (IsGone : Block → Type 0)
    (keeps : KeepsBlocks all (after_changes changes all) (granted_in reply) IsGone) where
  abbrev now : Rows
  now = after_changes changes all

  abbrev event : Event
  event = record { seat = stripe_seat stripe; kind = Decide id index reply batch }

  abbrev next : List Event
  next = story ++ event ∷ []

  handed_now : (block : Block) → granted_in reply ≡ Some block → Contains (handed_out stripe next) block
  handed_now block is = subst (λ (l : List Block). Contains l block) (sym (handed_with stripe story id index reply batch))
      (subst (λ (o : Option Block). Contains (handed_out stripe story ++ cons_option o []) block) (sym (sym (same_granted reply) ∙ is))
      (contains_at (handed_out stripe story) [] block))

  pub homes_after : (block : Block) → HasHome now block → IsOwn loaded stripe next block
  homes_after block home = ⊎_elim
      (λ had. own_still loaded stripe story (event ∷ []) block (at.homes_old block had))
      (λ granted. inr (handed_now block granted))
      (keeps.none_made block home)

  -- what was handed out by then was handed out before, or is granted
  handed_before : (o : Option Block) (block : Block) → Contains (handed_out stripe story ++ cons_option o []) block
      → Contains (handed_out stripe story) block ⊎ (o ≡ Some block)
  handed_before o block there = ⊎_elim (λ before. inl before) (λ anew. inr (only_one o anew))
      (Contains-append_cases (handed_out stripe story) (cons_option o []) block there)
    where
      only_one : (o : Option Block) → Contains (cons_option o []) block → o ≡ Some block
      only_one None among = absurd (let within = among.1 in omega (arith, within))
      only_one (Some given) among = first among.0 among.1 among.2
        where
          first : (k : ℕ) → k < 1 → slice_index_or (given ∷ []) k block ≡ block → Some given ≡ Some block
          first zero within same = ap Some same
          first (suc k) within same = absurd (omega (arith, within))

  own_before : (block : Block) → IsOwn loaded stripe next block → IsOwn loaded stripe story block ⊎ (granted_in reply ≡ Some block)
  own_before block (inl home) = inl (inl home)
  own_before block (inr handed) = ⊎_elim (λ before. inl (inr before)) (λ is. inr (same_granted reply ∙ is))
      (handed_before (block_of_reply reply) block (subst (λ (l : List Block). Contains l block) (handed_with stripe story id index reply batch) handed))

  pub kept_after : ((block : Block) → IsGone block → is_logged opening story block ≡ true)
      → ((block : Block) → granted_in reply ≡ Some block → HasHome now block) → HomesAreKept opening loaded stripe next now
  kept_after logged housed block own = ⊎_elim
      (λ before. ⊎_elim
      (λ home. ⊎_elim (λ still. inl still) (λ gone. inr (logged_still opening story (event ∷ []) block (logged block gone))) (keeps.none_lost block home))
      (λ is. inr (logged_still opening story (event ∷ []) block is))
      (at.kept_or_logged block before))
      (λ granted. inl (housed block granted))
      (own_before block own)

  -- ---- local ids

  own_local_still : (local : ℕ) → IsOwnLocal loaded stripe story local → IsOwnLocal loaded stripe next local
  own_local_still local (inl names) = inl names
  own_local_still local (inr (block, there, same)) = ⊎_elim
      (λ home. inl (inl (block, (home.key, home.here), same)))
      (λ handed. inr (block, handed, same))
      (own_still loaded stripe story (event ∷ []) block (inr there))

  module _ (old : AreOld (only stripe loaded) (handed_out stripe next) now) (fit : AreInGrammar now)
      (come : RowsComeFrom all now (granted_in reply)) where
    of_block : (block : Block) (local : ℕ) → block.local ≡ local → IsInARow (only stripe loaded) block ⊎ Contains (handed_out stripe next) block
        → IsOwnLocal loaded stripe next local
    of_block block local same named = ⊎_elim (λ row. inl (inl (block, row, same))) (λ handed. inr (block, handed, same)) named

    -- the first block of a deleted row has the id of its key
    of_deleted : (volume bucket key : List ℕ) (owner local : ℕ) (row : Row) → now (keys.Deleted volume bucket owner key local) ≡ Some row
        → ValueFits (keys.Deleted volume bucket owner key local) row → IsOwnLocal loaded stripe next local
    of_deleted volume bucket key owner local (rows.Deleted []) there fits = absurd fits.1
    of_deleted volume bucket key owner local (rows.Deleted (first ∷ others)) there fits =
        of_block first local fits.1 (old first (keys.Deleted volume bucket owner key local) (record {
          row = rows.Deleted (first ∷ others);
          there = there;
          has = among first (first ∷ others) (0, omega arith, refl);
        }))
    of_deleted volume bucket key owner local row there fits = absurd fits

    of_renamed : (volume bucket : List ℕ) (owner local : ℕ) (row : Row) → now (keys.Renamed volume bucket owner local) ≡ Some row
        → IsOwnLocal loaded stripe next local
    of_renamed volume bucket owner local row there = ⊎_elim
        (λ was. own_local_still local (at.keys_old local
        (inr (keys.Renamed volume bucket was.0 local, is_there (all (keys.Renamed volume bucket was.0 local)) row was.1, refl))))
        (λ of_key. own_local_still local (subst (IsOwnLocal loaded stripe story) of_key.2
        (at.keys_old of_key.0.local (inl (of_key.0, (keys.Key volume bucket of_key.1, of_key.3), refl)))))
        (come.renamed volume bucket owner local row there)

    of_row_key : (key : RowKey) (row : Row) (local : ℕ) → now key ≡ Some row → local_in key ≡ Some local → IsOwnLocal loaded stripe next local
    of_row_key (keys.Deleted volume bucket owner key its) row local there is =
        subst (IsOwnLocal loaded stripe next) (same_local its local is)
        (of_deleted volume bucket key owner its row there (fit (keys.Deleted volume bucket owner key its) row there).1)
    of_row_key (keys.Renamed volume bucket owner its) row local there is =
        subst (IsOwnLocal loaded stripe next) (same_local its local is) (of_renamed volume bucket owner its row there)
    of_row_key key row local there is = absurd cc

    pub locals_after : (local : ℕ) → NamesLocal now local → IsOwnLocal loaded stripe next local
    locals_after local (inl (block, (key, stands), same)) = of_block block local same (old block key stands)
    locals_after local (inr (key, some, is)) = let row = some_row (now key) some in of_row_key key row.0 local row.1 is
