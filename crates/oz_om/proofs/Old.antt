-- After a Decide each block in a stripe's rows was loaded, or a Decide of the stripe handed it out.
use Rattle.std.proofs.Common.{◌≡◌, ◌<◌, ◌⊎◌, ⊎_elim, inl, inr, length, arith, ℕ, zero, suc, Bool, true, false, ◌==◌, List, [], ◌∷◌, ◌++◌, Option, None, Some, cond, refl, sym, ap, ◌∙◌, subst, eq-eqb}
use mathlib.Core.Bool.{false≢true}
use Rattle.std.proofs.lemmas.Option.{none-some}
use Rattle.std.proofs.lemmas.List.Elements.{filter_map-append, filter-append}
use Rattle.std.specs.Prelude.{Contains, slice_index_or}
use Rattle.std.specs.List.{cons_option, list_any}
use Rattle.oz_core.specs.declared.event.Event.{Event}
use Rattle.oz_core.specs.declared.event.EventKind.TheVariants.{Decide}
use Rattle.oz_core.specs.Manager.{block_of_reply, granted_block}
use Rattle.oz_core.specs.Seats.{stripe_seat}
use Rattle.oz_core.specs.Stories.{all_told, mine}
use Rattle.oz_decision.specs.Meets.{AreInGrammar, granted_in}
use Rattle.oz_fields.specs.declared.block.Block.{Block}
use Rattle.oz_store.specs.granted.Granted.{AreOld, handed_out}
use Rattle.oz_requests.specs.declared.reply.Reply.{Reply}
use Rattle.oz_requests.specs.declared.reply.Reply.TheVariants as replies
use Rattle.oz_requests.specs.declared.request.AskId.{AskId}
use Rattle.oz_rows.specs.declared.key.RowKey.{RowKey}
use Rattle.oz_rows.specs.declared.key.RowKey.TheVariants as keys
use Rattle.oz_rows.specs.declared.operation.Change.{Change}
use Rattle.oz_rows.specs.declared.row.Row.{Row}
use Rattle.oz_rows.specs.declared.row.Row.TheVariants as rows
use Rattle.oz_rows.specs.Rows.{ValueFits}
use Rattle.oz_rows.specs.RowMaps.{Rows, after_changes, is_block}
use Rattle.oz_sound.specs.Kept.{HasHome, KeepsBlocks}
use Rattle.oz_sound.specs.Sound.{IsHome, StandsIn, blocks_of}
use Rattle.oz_store.specs.Store.{IsInARow}
use Rattle.oz_sound.specs.stripes.Stripes.{is_own, only}
use Rattle.oz_reclaim.specs.laws.Origins.{was_or_given}
use Rattle.oz_om.proofs.Recorded.{is_snapshot_key}
use Rattle.oz_om.proofs.decider_lemmas.Copies.{AreCopies, IsCopied, copied_in}

-- a row with blocks is that of a key, of an open key, of a deleted key or of a snapshot's key
home : (key : RowKey) (row : Row) (block : Block) → ValueFits key row → list_any (is_block block) (blocks_of row) ≡ true → IsHome key ⊎ (is_snapshot_key key ≡ true)
home (keys.Volume volume) rows.Volume block fits has = absurd (false≢true has)
home (keys.Bucket volume bucket) rows.Bucket block fits has = absurd (false≢true has)
home (keys.Key volume bucket key) row block fits has = inl tt
home (keys.Open volume bucket key number) row block fits has = inl tt
home (keys.Deleted volume bucket owner key local) row block fits has = inl tt
home (keys.Snapshot volume bucket number) (rows.Snapshot name previous state) block fits has = absurd (false≢true has)
home (keys.SnapshotKey volume bucket number key) row block fits has = inr refl
home (keys.Renamed volume bucket owner local) (rows.Renamed name) block fits has = absurd (false≢true has)
home (keys.Stripe stripe) (rows.Stripe number) block fits has = absurd (false≢true has)
home key row block fits has = absurd fits

pub only_of : (stripe : ℕ) (all : Rows) (key : RowKey) (row : Row) → only stripe all key ≡ Some row → all key ≡ Some row
only_of stripe all key row is = by (is_own stripe key) is
  where
    by : (t : Bool) → cond t (all key) None ≡ Some row → all key ≡ Some row
    by true e = e
    by false e = absurd (none-some row e)

-- what is old by the stripe's own loaded rows is so by all of them
pub old_whole : (stripe : ℕ) (loaded : Rows) (handed : List Block) (now : Rows) → AreOld (only stripe loaded) handed now → AreOld loaded handed now
old_whole stripe loaded handed now old block key it = ⊎_elim
    (λ was. inl (was.0, record { row = was.1.row; there = only_of stripe loaded was.0 was.1.row was.1.there; has = was.1.has }))
    inr
    (old block key it)

contains_left : {A : Type 0} (a b : List A) (x : A) → Contains a x → Contains (a ++ b) x
contains_left [] b x among = let less = among.1 in absurd (omega arith)
contains_left {A} (y ∷ a) b x among = by among.0 among.1 among.2 (λ later. contains_left a b x later)
  where
    by : (k : ℕ) → k < length (y ∷ a) → slice_index_or (y ∷ a) k x ≡ x → (Contains a x → Contains (a ++ b) x) → Contains ((y ∷ a) ++ b) x
    by zero less same further = (0, omega arith, same)
    by (suc k) less same further = let r = further (k, omega (arith, less), same) in let more = r.1 in (suc r.0, omega arith, r.2)

pub contains_at : {A : Type 0} (before behind : List A) (x : A) → Contains (before ++ x ∷ behind) x
contains_at [] behind x = (0, omega arith, refl)
contains_at (y ∷ before) behind x = let r = contains_at before behind x in let less = r.1 in (suc r.0, omega arith, r.2)

pub handed_with : (stripe : ℕ) (story : List Event) (id : AskId) (index : ℕ) (reply : Reply) (batch : List ℕ)
    → handed_out stripe (story ++ record { seat = stripe_seat stripe; kind = Decide id index reply batch } ∷ []) ≡ handed_out stripe story ++ cons_option (block_of_reply reply) []
handed_with stripe story id index reply batch =
    let event : Event = record { seat = stripe_seat stripe; kind = Decide id index reply batch } in
    ap (all_told granted_block) (filter-append (λ (e : Event). e.seat == stripe_seat stripe) story (event ∷ [])
    ∙ ap (λ (t : Bool). mine (stripe_seat stripe) story ++ cond t (event ∷ []) []) (eq-eqb (stripe_seat stripe) (stripe_seat stripe) refl))
    ∙ filter_map-append (λ (e : Event). granted_block e.kind) (mine (stripe_seat stripe) story) (event ∷ [])

pub same_granted : (reply : Reply) → granted_in reply ≡ block_of_reply reply
same_granted (replies.Granted block pipeline) = refl
same_granted reply = refl

module _ (loaded before : Rows) (handed : List Block) (old : AreOld loaded handed before) (changes : List Change)
    (fit : AreInGrammar (after_changes changes before)) (copies : AreCopies before changes) (reply : Reply) (Gone : Block → Type 0)
    (keeps : KeepsBlocks before (after_changes changes before) (granted_in reply) Gone) where
  abbrev more : List Block
  more = handed ++ cons_option (block_of_reply reply) []

  from_before : (block : Block) (key : RowKey) → StandsIn before block key → IsInARow loaded block ⊎ Contains more block
  from_before block key stands = ⊎_elim inl (λ among. inr (contains_left handed (cons_option (block_of_reply reply) []) block among)) (old block key stands)

  of_granted : (block : Block) → granted_in reply ≡ Some block → Contains more block
  of_granted block is = subst (λ (o : Option Block). Contains (handed ++ cons_option o []) block) (sym (sym (same_granted reply) ∙ is)) (contains_at handed [] block)

  pub old_after : AreOld loaded (handed ++ cons_option (block_of_reply reply) []) (after_changes changes before)
  old_after block key stands = ⊎_elim
      (λ is_home. ⊎_elim
      (λ (had : HasHome before block). from_before block had.key had.here)
      (λ granted. inr (of_granted block granted))
      (keeps.none_made block (record { key = key; home = is_home; here = stands })))
      (λ of_snapshot. ⊎_elim
      (λ was. from_before block key (record { row = stands.row; there = was; has = stands.has }))
      (λ copied. let stood = copied_in before key stands.row of_snapshot copied block stands.has in from_before block stood.0 stood.1)
      (was_or_given (IsCopied before) changes copies key (before key) stands.row stands.there))
      (home key stands.row block (fit key stands.row stands.there).1 stands.has)
