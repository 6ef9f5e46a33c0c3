-- What is decided of the manager's own requests keeps all that a decision owes.
use Rattle.std.proofs.Common.{◌≡◌, ◌≢◌, ◌↔◌, ◌==◌, ◌&&◌, false, inl, inr, ⊎_elim, ℕ, ◌≤◌, true, List, [], ◌∷◌, ◌++◌, length, map, Option, None, Some, IsSome, is_some, refl, sym, ◌∙◌, ap, subst, arith, append-nil, length-append}
use mathlib.Core.Bool.{false≢true}
use Rattle.std.specs.List.{AllByRecursion}
use Rattle.oz_cache.specs.Cache.{CacheView, batched_changes, newest}
use Rattle.oz_decision.specs.declared.decision.Decision.{Decision}
use Rattle.oz_decision.specs.Meets.{AreInGrammar, IsSafe, MayGo, Meets, Stand, granted_in}
use Rattle.oz_decision.specs.laws.OneRow.{has_bytes, meets_in_all, nothing_is_safe, stand_but_renames}
use Rattle.oz_effects.specs.Batches.{IsBatchOf}
use Rattle.oz_effects.specs.Build.{base_of}
use Rattle.oz_effects.specs.Effects.{operation_changes}
use Rattle.oz_effects.specs.laws.Joined.{batches_are_one, wide_is_batch}
use Rattle.oz_effects.specs.laws.Steps.{nothing_is_batch, removal_is_batch}
use Rattle.oz_namespace.specs.declared.namespace.Namespace.{Namespace}
use Rattle.oz_reclaim.specs.Decisions.{IsServed}
use Rattle.oz_reclaim.specs.Service.{IsPurge, ArePurged, AreServed, IsWorkedOff, MayMove, NamesFew, operations_for}
use Rattle.oz_reclaim.specs.Work.{is_marked}
use Rattle.oz_reclaim.specs.laws.Moving.{keeps, renames_stay, sound_now, stands_on}
use Rattle.oz_reclaim.proofs.Dropped.{changes as dropped_changes, deleted_stays, fit_now as dropped_fit, live_still as dropped_live, moves as dropped_moves, renamed_stays, still_there}
use Rattle.oz_reclaim.proofs.MovedOn.{differ, goes_whole, no_zero, fit_now as moved_fit, live_still as moved_live, moves as moved_moves, renames_move_on, still as moved_still}
use Rattle.oz_reclaim.proofs.Purged.{all_deleted, batch as purged_batch, fit_now as purged_fit, moves as purged_moves, renamed_same, other as purged_other, short as purged_short, stay_or_go}
use Rattle.oz_reclaim.proofs.Origins.{IsFine, are_tidy, come_from, dropping_fine, gone_all_fine, moving_fine, none_fine}
use Rattle.oz_reclaim.proofs.Served.{meets as served_meets, passed_over}
use Rattle.oz_requests.specs.declared.reply.Reply.{Reply}
use Rattle.oz_requests.specs.declared.reply.Reply.TheVariants as replies
use Rattle.oz_requests.specs.declared.request.Family.TheVariants.{Service}
use Rattle.oz_requests.specs.declared.request.PurgeRow.{PurgeRow}
use Rattle.oz_requests.specs.declared.request.Request.{Request}
use Rattle.oz_requests.specs.declared.request.Request.TheVariants.{MoveDeleted, Purge, PurgeSnapshot}
use Rattle.oz_requests.specs.Families.{family_of}
use Rattle.oz_rows.specs.declared.entry.RowEntry.{RowEntry}
use Rattle.oz_rows.specs.declared.key.RowKey.{RowKey}
use Rattle.oz_rows.specs.declared.key.RowKey.TheVariants as keys
use Rattle.oz_rows.specs.declared.operation.Change.{Change}
use Rattle.oz_rows.specs.declared.operation.Operation.TheVariants as operations
use Rattle.oz_rows.specs.declared.row.Row.{Row}
use Rattle.oz_rows.specs.declared.row.Row.TheVariants as rows
use Rattle.oz_rows.specs.declared.row.SnapshotState.TheVariants.{Live}
use Rattle.oz_rows.specs.Operations.{batch_bytes, operation_bytes}
use Rattle.oz_rows.specs.RowMaps.{Rows, AreRows, KeysRise, gone, row_of, after_changes}
use Rattle.oz_rows.specs.laws.Changes.{become}
use Rattle.oz_rows.specs.laws.Sizes.{operation_size}
use Rattle.oz_sound.specs.Sound.{IsSound, IsSoundButRenames, RenamesAreSound}
use Rattle.oz_sound.specs.stripes.laws.Lists.{each_found, one_list}

abbrev pub bytes_for : Request → List Change → List ℕ
bytes_for request changes = batch_bytes (operations_for request changes)

abbrev MeetsBut : Rows → Namespace → Request → List ℕ → List Change → Type 0
MeetsBut all namespace request bytes changes = Meets IsSoundButRenames all namespace request replies.Done bytes changes

-- ---- a Purge

module _ (all : Rows) (v : List ℕ) (named : List PurgeRow) (changes : List Change) (purged : ArePurged all v named changes) where
  purge_safe : length named ≤ 1024 → AreInGrammar all → IsSafe all (bytes_for (Purge v named) changes) changes
  purge_safe few fit = record {
    batch = purged_batch all v named changes purged;
    size = (let short = purged_short all v named changes purged few in omega (arith, short));
    fit = purged_fit all v named changes purged fit;
  }

  purge_meets : (namespace : Namespace) → Stand IsSoundButRenames all namespace → MeetsBut all namespace (Purge v named) (bytes_for (Purge v named) changes) changes
  purge_meets namespace stand =
      let moved = purged_moves all v named changes purged stand.sound in
      let fit = purged_fit all v named changes purged stand.fit in
      served_meets IsSoundButRenames all namespace (Purge v named) refl (bytes_for (Purge v named) changes) changes
      (purged_batch all v named changes purged) fit
      (stands_on all (after_changes changes all) moved (λ w c n live. (live.0, live.1, purged_other all v named changes purged (keys.Snapshot w c n) (λ e. omega (arith, e)) ∙ live.2)) namespace stand.stands)
      (sound_now all (after_changes changes all) moved fit stand.sound)
      (keeps all (after_changes changes all) moved None (MayGo all (Purge v named)) (λ w c k o l row block there has. ⊎_elim (λ same. inl (o, same)) inr (stay_or_go all v named changes purged w c k o l row block there has)))

  purge_renames : IsSoundButRenames all → RenamesAreSound all → RenamesAreSound (after_changes changes all)
  purge_renames sound = renames_stay all (after_changes changes all) (purged_moves all v named changes purged sound) (renamed_same all v named changes purged)

-- ---- what a marked snapshot owns

module _ (v b : List ℕ) (n to : ℕ) where
  abbrev move : Request
  move = MoveDeleted v b n to

  move_batch : (all : Rows) (changes : List Change) → MayMove all v b n to → ((entries : List RowEntry) → AreRows entries all → changes ≡ operation_changes entries (operations.MoveDeleted v b n to)) → IsBatchOf all (bytes_for move changes) changes
  move_batch all [] may are = nothing_is_batch all
  move_batch all (change ∷ changes) may are =
      subst (λ (l : List ℕ). IsBatchOf all l (change ∷ changes)) (sym (append-nil (operation_bytes (operations.MoveDeleted v b n to)))) (wide_is_batch all (operations.MoveDeleted v b n to) (change ∷ changes) may.fits tt are)

  move_short : (all : Rows) (changes : List Change) → MayMove all v b n to → length (bytes_for move changes) ≤ 67108864
  move_short all [] may = omega arith
  move_short all (change ∷ changes) may =
      let short = operation_size (operations.MoveDeleted v b n to) may.fits in
      omega (arith, ap length (append-nil (operation_bytes (operations.MoveDeleted v b n to))), short)

  module _ (entries : List RowEntry) (rise : KeysRise entries) (may : MayMove (row_of entries) v b n to) where
    abbrev listed : Rows
    listed = row_of entries

    abbrev moved_changes : List Change
    moved_changes = operation_changes entries (operations.MoveDeleted v b n to)

    module _ (fit : AreInGrammar listed) where
      abbrev apart : n ≢ to
      apart = differ listed v b n to fit may.marked may.next

      abbrev goes_all : (l : ℕ) → n == 0 && is_some (listed (keys.Renamed v b to l)) ≡ false
      goes_all l = goes_whole n (no_zero listed v b n to fit may.marked may.next) (is_some (listed (keys.Renamed v b to l)))

      move_fit : AreInGrammar (after_changes moved_changes listed)
      move_fit = moved_fit v b n to entries rise apart goes_all fit may.fits.3

      move_renames : IsSoundButRenames listed → RenamesAreSound listed → RenamesAreSound (after_changes moved_changes listed)
      move_renames sound renames = renames_move_on v b n to entries rise apart goes_all fit may.marked may.next sound renames

    move_meets : (bytes : List ℕ) → IsBatchOf listed bytes moved_changes → (namespace : Namespace) → Stand IsSoundButRenames listed namespace → MeetsBut listed namespace move bytes moved_changes
    move_meets bytes batch namespace stand =
        let fit = stand.fit in
        let moved = moved_moves v b n to entries rise (apart fit) (goes_all fit) fit may.marked may.next stand.sound in
        served_meets IsSoundButRenames listed namespace move refl bytes moved_changes batch (move_fit fit)
        (stands_on listed (after_changes moved_changes listed) moved (moved_live v b n to entries rise (apart fit) (goes_all fit) fit may.marked may.next stand.sound) namespace stand.stands)
        (sound_now listed (after_changes moved_changes listed) moved (move_fit fit) stand.sound)
        (keeps listed (after_changes moved_changes listed) moved None (MayGo listed move) (λ w c k o l row block there has. inl (moved_still v b n to entries rise (apart fit) (goes_all fit) fit may.marked may.next stand.sound w c k o l row there)))

-- ---- a marked snapshot itself

not_based : (other : RowKey) (row : Row) (v b : List ℕ) (n : ℕ) → base_of other row ≡ Some (keys.Snapshot v b n) → ⊥
not_based (keys.Bucket w c) row v b n e = absurd (cc)
not_based (keys.Key w c q) row v b n e = absurd (cc)
not_based (keys.Open w c q m) row v b n e = absurd (cc)
not_based (keys.Snapshot w c m) (rows.Snapshot name previous Live) v b n e = absurd (cc)
not_based other row v b n e = absurd (false≢true (ap is_some e))

marked_there : (o : Option Row) → is_marked o ≡ true → IsSome o
marked_there (Some row) e = refl
marked_there None e = absurd (false≢true e)

module _ (v b : List ℕ) (n : ℕ) where
  abbrev drop : Request
  drop = PurgeSnapshot v b n

  with_last : (changes : List Change) (last : Change) → operations_for drop (changes ++ last ∷ []) ≡ operations.DropKeys v b n ∷ operations.Remove (keys.Snapshot v b n) ∷ []
  with_last [] last = refl
  with_last (change ∷ changes) last = refl

  module _ (entries : List RowEntry) (rise : KeysRise entries) (may : IsWorkedOff (row_of entries) v b n) where
    abbrev kept : Rows
    kept = row_of entries

    abbrev drops : List Change
    drops = dropped_changes v b n entries rise

    abbrev keys_dropped : List Change
    keys_dropped = operation_changes entries (operations.DropKeys v b n)

    drop_bytes : bytes_for drop drops ≡ operation_bytes (operations.DropKeys v b n) ++ operation_bytes (operations.Remove (keys.Snapshot v b n))
    drop_bytes = ap batch_bytes (with_last keys_dropped (gone (keys.Snapshot v b n))) ∙ ap (λ (l : List ℕ). operation_bytes (operations.DropKeys v b n) ++ l) (append-nil (operation_bytes (operations.Remove (keys.Snapshot v b n))))

    drop_batch : IsBatchOf kept (bytes_for drop drops) drops
    drop_batch = subst (λ (l : List ℕ). IsBatchOf kept l drops) (sym drop_bytes)
        (batches_are_one kept (operation_bytes (operations.DropKeys v b n)) (operation_bytes (operations.Remove (keys.Snapshot v b n))) keys_dropped (gone (keys.Snapshot v b n) ∷ [])
        (wide_is_batch kept (operations.DropKeys v b n) keys_dropped may.fits tt (λ l are. ap (λ (x : List RowEntry). operation_changes x (operations.DropKeys v b n)) (one_list entries l rise are.in_order (λ key. sym (are.rows_are key)))))
        (removal_is_batch (after_changes keys_dropped kept) (keys.Snapshot v b n) may.fits (subst IsSome (sym (still_there v b n entries rise)) (marked_there (kept (keys.Snapshot v b n)) may.marked)) (λ other row there e. not_based other row v b n e)))

    drop_short : length (bytes_for drop drops) ≤ 67108864
    drop_short =
        let one = operation_size (operations.DropKeys v b n) may.fits in
        let two = operation_size (operations.Remove (keys.Snapshot v b n)) may.fits in
        omega (arith, ap length drop_bytes, length-append (operation_bytes (operations.DropKeys v b n)) (operation_bytes (operations.Remove (keys.Snapshot v b n))), one, two)

    drop_safe : AreInGrammar kept → IsSafe kept (bytes_for drop drops) drops
    drop_safe fit = record { batch = drop_batch; size = drop_short; fit = dropped_fit v b n entries rise fit }

    drop_meets : (namespace : Namespace) → Stand IsSoundButRenames kept namespace → MeetsBut kept namespace drop (bytes_for drop drops) drops
    drop_meets namespace stand =
        let moved = dropped_moves v b n entries rise stand.sound may.marked may.owns_nothing in
        let fit = dropped_fit v b n entries rise stand.fit in
        served_meets IsSoundButRenames kept namespace drop refl (bytes_for drop drops) drops drop_batch fit
        (stands_on kept (after_changes drops kept) moved (dropped_live v b n entries rise stand.sound may.marked may.owns_nothing) namespace stand.stands)
        (sound_now kept (after_changes drops kept) moved fit stand.sound)
        (keeps kept (after_changes drops kept) moved None (MayGo kept drop) (λ w c k o l row block there has. inl (o, deleted_stays v b n entries rise stand.sound may.marked may.owns_nothing w c k o l ∙ there)))

    drop_renames : IsSoundButRenames kept → RenamesAreSound kept → RenamesAreSound (after_changes drops kept)
    drop_renames sound = renames_stay kept (after_changes drops kept) (dropped_moves v b n entries rise sound may.marked may.owns_nothing) (renamed_stays v b n entries rise sound may.marked may.owns_nothing)

-- ---- each of them

module _ (all : Rows) (entries : List RowEntry) (are : AreRows entries all) where
  listed_is : row_of entries ≡ all
  listed_is = λ i key. are.rows_are key i

  -- what holds over a list, of what it makes, holds over the rows that it lists
  pub by_list : (P : Rows → List Change → Type 0) (changes own : List Change) → changes ≡ own → P (row_of entries) own → P all changes
  by_list P changes own is holds = subst (λ (x : Rows). P x changes) listed_is (subst (λ (c : List Change). P (row_of entries) c) (sym is) holds)

  nothing_for : (request : Request) → family_of request ≡ Service → bytes_for request [] ≡ []
  nothing_for (Purge v named) family = refl
  nothing_for (MoveDeleted v b n to) family = refl
  nothing_for (PurgeSnapshot v b n) family = refl
  nothing_for request family = absurd cc

  none_safe : (request : Request) (changes : List Change) → family_of request ≡ Service → changes ≡ [] → AreInGrammar all → IsSafe all (bytes_for request changes) changes
  none_safe request changes family none fit =
      subst (λ (c : List Change). IsSafe all (bytes_for request c) c) (sym none) (subst (λ (l : List ℕ). IsSafe all l []) (sym (nothing_for request family)) (nothing_is_safe all fit))

  none_meets : (request : Request) (changes : List Change) → family_of request ≡ Service → changes ≡ [] → (namespace : Namespace) → Stand IsSoundButRenames all namespace → MeetsBut all namespace request (bytes_for request changes) changes
  none_meets request changes family none namespace stand =
      subst (λ (c : List Change). MeetsBut all namespace request (bytes_for request c) c) (sym none)
      (subst (λ (l : List ℕ). MeetsBut all namespace request l []) (sym (nothing_for request family)) (passed_over IsSoundButRenames all namespace request family stand))

  none_renames : (changes : List Change) → changes ≡ [] → RenamesAreSound all → RenamesAreSound (after_changes changes all)
  none_renames changes none renames = subst (λ (c : List Change). RenamesAreSound (after_changes c all)) (sym none) renames

  pub safe : (request : Request) (changes : List Change) → family_of request ≡ Service → NamesFew request → AreServed all request changes → AreInGrammar all → IsSafe all (bytes_for request changes) changes
  safe (Purge v named) changes family few served fit = purge_safe all v named changes served few fit
  safe (MoveDeleted v b n to) changes family few (inl (may, made)) fit = record {
    batch = move_batch v b n to all changes may made;
    size = move_short v b n to all changes may;
    fit = by_list (λ x c. MayMove x v b n to → AreInGrammar x → AreInGrammar (after_changes c x)) changes (operation_changes entries (operations.MoveDeleted v b n to)) (made entries are) (λ may fit. move_fit v b n to entries are.in_order may fit) may fit;
  }
  safe (MoveDeleted v b n to) changes family few (inr (not, none)) fit = none_safe (MoveDeleted v b n to) changes family none fit
  safe (PurgeSnapshot v b n) changes family few (inl (may, made)) fit =
      by_list (λ x c. IsWorkedOff x v b n → AreInGrammar x → IsSafe x (bytes_for (PurgeSnapshot v b n) c) c) changes (dropped_changes v b n entries are.in_order) (made entries are) (λ may fit. drop_safe v b n entries are.in_order may fit) may fit
  safe (PurgeSnapshot v b n) changes family few (inr (not, none)) fit = none_safe (PurgeSnapshot v b n) changes family none fit
  safe request changes family few served fit = absurd served

  pub but_renames : (request : Request) (changes : List Change) → family_of request ≡ Service → AreServed all request changes → (namespace : Namespace) → Stand IsSoundButRenames all namespace → MeetsBut all namespace request (bytes_for request changes) changes
  but_renames (Purge v named) changes family served namespace stand = purge_meets all v named changes served namespace stand
  but_renames (MoveDeleted v b n to) changes family (inl (may, made)) namespace stand =
      let batch = move_batch v b n to all changes may made in
      by_list (λ x c. MayMove x v b n to → IsBatchOf x (bytes_for (MoveDeleted v b n to) changes) c → Stand IsSoundButRenames x namespace → MeetsBut x namespace (MoveDeleted v b n to) (bytes_for (MoveDeleted v b n to) changes) c)
      changes (operation_changes entries (operations.MoveDeleted v b n to)) (made entries are)
      (λ may batch stand. move_meets v b n to entries are.in_order may (bytes_for (MoveDeleted v b n to) changes) batch namespace stand) may batch stand
  but_renames (MoveDeleted v b n to) changes family (inr (not, none)) namespace stand = none_meets (MoveDeleted v b n to) changes family none namespace stand
  but_renames (PurgeSnapshot v b n) changes family (inl (may, made)) namespace stand =
      by_list (λ x c. IsWorkedOff x v b n → Stand IsSoundButRenames x namespace → MeetsBut x namespace (PurgeSnapshot v b n) (bytes_for (PurgeSnapshot v b n) c) c)
      changes (dropped_changes v b n entries are.in_order) (made entries are) (λ may stand. drop_meets v b n entries are.in_order may namespace stand) may stand
  but_renames (PurgeSnapshot v b n) changes family (inr (not, none)) namespace stand = none_meets (PurgeSnapshot v b n) changes family none namespace stand
  but_renames request changes family served namespace stand = absurd served

  renames : (request : Request) (changes : List Change) → family_of request ≡ Service → AreServed all request changes → AreInGrammar all → IsSoundButRenames all → RenamesAreSound all → RenamesAreSound (after_changes changes all)
  renames (Purge v named) changes family served fit sound before = purge_renames all v named changes served sound before
  renames (MoveDeleted v b n to) changes family (inl (may, made)) fit sound before =
      by_list (λ x c. MayMove x v b n to → AreInGrammar x → IsSoundButRenames x → RenamesAreSound x → RenamesAreSound (after_changes c x)) changes (operation_changes entries (operations.MoveDeleted v b n to)) (made entries are)
      (λ may fit sound before. move_renames v b n to entries are.in_order may fit sound before) may fit sound before
  renames (MoveDeleted v b n to) changes family (inr (not, none)) fit sound before = none_renames changes none before
  renames (PurgeSnapshot v b n) changes family (inl (may, made)) fit sound before =
      by_list (λ x c. IsWorkedOff x v b n → IsSoundButRenames x → RenamesAreSound x → RenamesAreSound (after_changes c x)) changes (dropped_changes v b n entries are.in_order) (made entries are)
      (λ may sound before. drop_renames v b n entries are.in_order may sound before) may sound before
  renames (PurgeSnapshot v b n) changes family (inr (not, none)) fit sound before = none_renames changes none before
  renames request changes family served fit sound before = absurd served

  pub meets_all : (request : Request) (changes : List Change) → family_of request ≡ Service → AreServed all request changes → (namespace : Namespace) → Stand IsSound all namespace → Meets IsSound all namespace request replies.Done (bytes_for request changes) changes
  meets_all request changes family served namespace stand =
      let most = stand_but_renames all namespace stand in
      meets_in_all all namespace request replies.Done (bytes_for request changes) changes (but_renames request changes family served namespace most) (renames request changes family served stand.fit most.sound stand.sound.renames)

  -- where rows come from, and that keys of snapshots stay
  pub all_fine : (request : Request) (changes : List Change) → AreServed all request changes → AllByRecursion (IsFine all changes) changes
  all_fine (Purge v named) changes purged = subst (λ (c : List Change). AllByRecursion (IsFine all c) c) (sym purged.are) (gone_all_fine all (map gone purged.rows_gone) purged.rows_gone (all_deleted all v named changes purged))
  all_fine (MoveDeleted v b n to) changes (inl (may, made)) =
      by_list (λ x c. AllByRecursion (IsFine x c) c) changes (operation_changes entries (operations.MoveDeleted v b n to)) (made entries are) (moving_fine (row_of entries) entries (each_found entries are.in_order) v b n to)
  all_fine (MoveDeleted v b n to) changes (inr (not, none)) = none_fine all changes none
  all_fine (PurgeSnapshot v b n) changes (inl (may, made)) =
      by_list (λ x c. AllByRecursion (IsFine x c) c) changes (dropped_changes v b n entries are.in_order) (made entries are) (dropping_fine (row_of entries) entries (each_found entries are.in_order) v b n)
  all_fine (PurgeSnapshot v b n) changes (inr (not, none)) = none_fine all changes none
  all_fine request changes served = absurd served

-- changes have bytes
pub have_bytes : (request : Request) (changes : List Change) → family_of request ≡ Service → (bytes_for request changes ≡ []) ↔ (changes ≡ [])
have_bytes (Purge v named) changes family = has_bytes changes
have_bytes (MoveDeleted v b n to) [] family = ((λ e. refl), λ e. refl)
have_bytes (MoveDeleted v b n to) (change ∷ changes) family = ((λ e. absurd (cc)), λ e. absurd (cc))
have_bytes (PurgeSnapshot v b n) [] family = ((λ e. refl), λ e. refl)
have_bytes (PurgeSnapshot v b n) (change ∷ changes) family = ((λ e. absurd (cc)), λ e. absurd (cc))
have_bytes request changes family = absurd cc

-- ---- the decision

-- the newest rows of a cache as a list
pub listed_rows : (cache : CacheView) → KeysRise cache.durable.rows → (entries : List RowEntry) × AreRows entries (newest cache)
listed_rows cache rise =
    let made = become (batched_changes cache.entered) cache.durable.rows rise in
    (made.0, record { in_order = made.1.in_order; rows_are = λ key. made.1.rows key })

pub served : (cache : CacheView) → KeysRise cache.durable.rows → (request : Request) → family_of request ≡ Service → NamesFew request → (d : Decision) → d.reply ≡ replies.Done → AreServed (newest cache) request d.changes → d.bytes ≡ bytes_for request d.changes → IsServed (newest cache) request d
served cache rise request family few d done exact bytes =
    let all = newest cache in
    let list = listed_rows cache rise in
    record {
      done = done;
      kept = record {
        meets = λ namespace stand.
            subst (λ (reply : Reply). Meets IsSound all namespace request reply d.bytes d.changes) (sym done)
            (subst (λ (l : List ℕ). Meets IsSound all namespace request replies.Done l d.changes) (sym bytes) (meets_all all list.0 list.1 request d.changes family exact namespace stand));
        but_renames = λ namespace stand.
            subst (λ (reply : Reply). Meets IsSoundButRenames all namespace request reply d.bytes d.changes) (sym done)
            (subst (λ (l : List ℕ). MeetsBut all namespace request l d.changes) (sym bytes) (but_renames all list.0 list.1 request d.changes family exact namespace stand));
        safe = λ fit. subst (λ (l : List ℕ). IsSafe all l d.changes) (sym bytes) (safe all list.0 list.1 request d.changes family few exact fit);
        recorded = subst (λ (l : List ℕ). (l ≡ []) ↔ (d.changes ≡ [])) (sym bytes) (have_bytes request d.changes family);
        origins = come_from all d.changes (all_fine all list.0 list.1 request d.changes exact) (granted_in d.reply);
        tidy = are_tidy all d.changes (all_fine all list.0 list.1 request d.changes exact);
      };
      exact = exact;
      operations = bytes;
    }

pub is_service : (request : Request) → IsPurge request → family_of request ≡ Service
is_service (Purge v named) purge = refl
is_service request purge = absurd purge
