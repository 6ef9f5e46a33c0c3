-- Rows read as they are spelled.
use Rattle.std.proofs.Common.{◌≡◌, ℕ, suc, ◌-◌, eqb, List, [], ◌∷◌, ◌++◌, length, Ok, refl, sym, ap, subst, ◌∙◌}
use Rattle.std.proofs.Common.{append_assoc, arith}
use Rattle.std.proofs.lemmas.Bool.{eqb-true}
use Rattle.std.proofs.lemmas.List.{append-nil}
use Rattle.std.proofs.lemmas.List.Concat.{flat_map-cons}
use Rattle.std.specs.List.{flat_map}
use Rattle.oz_fields.specs.declared.block.Block.{Block}
use Rattle.oz_fields.specs.Field.{AreBytes}
use Rattle.oz_fields.specs.Number.{u8_bytes, u16_bytes, u64_bytes}
use Rattle.oz_fields.specs.Text.{text_bytes}
use Rattle.oz_fields.specs.laws.Bytes.{AreBytes-behind}
use Rattle.oz_rows.specs.declared.key.RowKey.{RowKey}
use Rattle.oz_rows.specs.declared.key.RowKey.TheVariants as keys
use Rattle.oz_rows.specs.declared.row.Row.{Row}
use Rattle.oz_rows.specs.declared.row.Row.TheVariants as rows
use Rattle.oz_rows.specs.Rows.{IsBlock, AreItems, BeginsWith, KeyFits, ValueFits, RowFits, list_bytes, block_bytes}
use Rattle.oz_rows.specs.Rows.{key_bytes, value_bytes, row_bytes}
use Rattle.oz_rows.specs.Reading.{deleted_blocks_at, done, volume_key_at, bucket_key_at, key_key_at, open_key_at}
use Rattle.oz_rows.specs.Reading.{deleted_key_at, snapshot_at, snapshot_key_at, renamed_key_at, stripe_key_at}
use Rattle.oz_rows.specs.Reading.{key_of_kind_at, key_at, key_value_at, open_value_at, deleted_value_at}
use Rattle.oz_rows.specs.Reading.{snapshot_value_at, snapshot_key_value_at, renamed_value_at, stripe_value_at, value_at}
use Rattle.oz_rows.specs.Reading.{row_at}
use Rattle.oz_rows.specs.laws.Grammar.{IsRead, Finds, Backs, finds_done, finds_then, finds_either, finds_none}
use Rattle.oz_rows.specs.laws.Grammar.{backs_done, backs_then, backs_as, is_read}
use Rattle.oz_rows.specs.laws.FieldReads.{volume_name_reads, key_name_reads, owner_reads, number_reads}
use Rattle.oz_rows.specs.laws.FieldReads.{block_number_reads, same_local_reads, drawn_reads, stripe_reads, state_reads}
use Rattle.oz_rows.specs.laws.FieldReads.{count_reads, block_reads, piece_reads, items_reads, list_reads}

-- the blocks of a deleted row
deleted_finds : (local : ℕ) → Finds (λ blocks. AreItems IsBlock blocks × BeginsWith local blocks) (list_bytes block_bytes) [] (deleted_blocks_at local)
unfolding deleted_blocks_at
deleted_finds local =
    finds_then (count_reads 1)
    (λ count few. finds_then block_number_reads
    (λ container container-fits. finds_then (same_local_reads local) (λ own own-fits. finds_then (items_reads block_reads (count - 1)) (λ others fits.
    finds_done ((omega (arith, few.0, few.1, fits.0), ((container-fits, own-fits.0), fits.1)), own-fits.1)
    (spelled count container own others (omega (arith, few.0, fits.0))))))) where
      spelled : (count container own : ℕ) (others : List Block) → suc (length others) ≡ count
          → u16_bytes count ++ u64_bytes container ++ u64_bytes own ++ flat_map block_bytes others
          ≡ list_bytes block_bytes (record { container = container; local = own } ∷ others)
      spelled count container own others is =
          let first : Block = record { container = container; local = own } in
          let items : flat_map block_bytes (first ∷ others) ≡ block_bytes first ++ flat_map block_bytes others = flat_map-cons block_bytes first others in
          let regrouped : u16_bytes count ++ u64_bytes container ++ u64_bytes own ++ flat_map block_bytes others ≡ u16_bytes count
          ++ (block_bytes first ++ flat_map block_bytes others) = simp append_assoc in
          regrouped ∙ ap (λ (text : List ℕ). u16_bytes count ++ text) (sym items)
          ∙ ap (λ (n : ℕ). u16_bytes n ++ flat_map block_bytes (first ∷ others)) (sym is)

deleted_backs : (local : ℕ) (blocks : List Block) → AreItems IsBlock blocks × BeginsWith local blocks
    → Backs (deleted_blocks_at local) (list_bytes block_bytes blocks) blocks
unfolding deleted_blocks_at
deleted_backs local [] fits = absurd fits.1
deleted_backs local (first ∷ others) fits =
    backs_as (spelled first others)
    (backs_then _ (suc (length others)) (count_reads 1) (omega arith, fits.0.0)
    (backs_then _ first.container block_number_reads fits.0.1.0.0
    (backs_then _ first.local (same_local_reads local) (fits.0.1.0.1, fits.1)
    (backs_then _ others (items_reads block_reads (suc (length others) - 1)) (omega arith, fits.0.1.1) backs_done)))) where
      spelled : (first : Block) (others : List Block)
          → u16_bytes (suc (length others)) ++ (u64_bytes first.container ++ (u64_bytes first.local ++ (flat_map block_bytes others ++ [])))
          ≡ list_bytes block_bytes (first ∷ others)
      spelled first others =
          let items : flat_map block_bytes (first ∷ others) ≡ block_bytes first ++ flat_map block_bytes others = flat_map-cons block_bytes first others in
          let regrouped : u16_bytes (suc (length others)) ++ (u64_bytes first.container ++ (u64_bytes first.local ++ (flat_map block_bytes others ++ [])))
          ≡ u16_bytes (suc (length others)) ++ (block_bytes first ++ flat_map block_bytes others) = simp (append_assoc, append-nil) in
          regrouped ∙ ap (λ (text : List ℕ). u16_bytes (suc (length others)) ++ text) (sym items)

deleted_blocks_reads : (local : ℕ) → IsRead (λ blocks. AreItems IsBlock blocks × BeginsWith local blocks) (list_bytes block_bytes) (deleted_blocks_at local)
deleted_blocks_reads local = is_read (deleted_finds local) (deleted_backs local)

-- the key fields of each kind, behind the kind and again
volume_key_finds : Finds KeyFits key_bytes (1 ∷ []) volume_key_at
unfolding volume_key_at
volume_key_finds = finds_then volume_name_reads (λ volume volume-fits. finds_done volume-fits refl)

volume_key_backs : (volume : List ℕ) → KeyFits (keys.Volume volume) → Backs volume_key_at (text_bytes volume) (keys.Volume volume)
unfolding volume_key_at
volume_key_backs volume fits = backs_as (simp append-nil) (backs_then _ volume volume_name_reads fits backs_done)

bucket_key_finds : Finds KeyFits key_bytes (2 ∷ []) bucket_key_at
unfolding bucket_key_at
bucket_key_finds = finds_then volume_name_reads
    (λ volume volume-fits. finds_then volume_name_reads (λ bucket bucket-fits. finds_done (volume-fits, bucket-fits) refl))

bucket_key_backs : (volume : List ℕ) (bucket : List ℕ) → KeyFits (keys.Bucket volume bucket)
    → Backs bucket_key_at (text_bytes volume ++ text_bytes bucket) (keys.Bucket volume bucket)
unfolding bucket_key_at
bucket_key_backs volume bucket fits =
    backs_as (simp append-nil) (backs_then _ volume volume_name_reads fits.0 (backs_then _ bucket volume_name_reads fits.1 backs_done))

key_key_finds : Finds KeyFits key_bytes (3 ∷ []) key_key_at
unfolding key_key_at
key_key_finds = finds_then volume_name_reads
    (λ volume volume-fits. finds_then volume_name_reads
    (λ bucket bucket-fits. finds_then key_name_reads (λ key key-fits. finds_done (volume-fits, bucket-fits, key-fits) refl)))

key_key_backs : (volume : List ℕ) (bucket : List ℕ) (key : List ℕ) → KeyFits (keys.Key volume bucket key)
    → Backs key_key_at (text_bytes volume ++ text_bytes bucket ++ text_bytes key) (keys.Key volume bucket key)
unfolding key_key_at
key_key_backs volume bucket key fits =
    backs_as (simp (append_assoc, append-nil))
    (backs_then _ volume volume_name_reads fits.0 (backs_then _ bucket volume_name_reads fits.1 (backs_then _ key key_name_reads fits.2 backs_done)))

open_key_finds : Finds KeyFits key_bytes (4 ∷ []) open_key_at
unfolding open_key_at
open_key_finds = finds_then volume_name_reads
    (λ volume volume-fits. finds_then volume_name_reads
    (λ bucket bucket-fits. finds_then key_name_reads
    (λ key key-fits. finds_then number_reads (λ number number-fits. finds_done (volume-fits, bucket-fits, key-fits, number-fits) refl))))

open_key_backs : (volume : List ℕ) (bucket : List ℕ) (key : List ℕ) (number : ℕ) → KeyFits (keys.Open volume bucket key number)
    → Backs open_key_at (text_bytes volume ++ text_bytes bucket ++ text_bytes key ++ u64_bytes number) (keys.Open volume bucket key number)
unfolding open_key_at
open_key_backs volume bucket key number fits =
    backs_as (simp (append_assoc, append-nil))
    (backs_then _ volume volume_name_reads fits.0
    (backs_then _ bucket volume_name_reads fits.1 (backs_then _ key key_name_reads fits.2 (backs_then _ number number_reads fits.3 backs_done))))

deleted_key_finds : Finds KeyFits key_bytes (5 ∷ []) deleted_key_at
unfolding deleted_key_at
deleted_key_finds = finds_then volume_name_reads
    (λ volume volume-fits. finds_then volume_name_reads
    (λ bucket bucket-fits. finds_then owner_reads
    (λ owner owner-fits. finds_then key_name_reads
    (λ key key-fits. finds_then block_number_reads (λ local local-fits. finds_done (volume-fits, bucket-fits, owner-fits, key-fits, local-fits) refl)))))

deleted_key_backs : (volume : List ℕ) (bucket : List ℕ) (owner : ℕ) (key : List ℕ) (local : ℕ) → KeyFits (keys.Deleted volume bucket owner key local)
    → Backs deleted_key_at (text_bytes volume ++ text_bytes bucket ++ u64_bytes owner ++ text_bytes key ++ u64_bytes local)
    (keys.Deleted volume bucket owner key local)
unfolding deleted_key_at
deleted_key_backs volume bucket owner key local fits =
    backs_as (simp (append_assoc, append-nil))
    (backs_then _ volume volume_name_reads fits.0
    (backs_then _ bucket volume_name_reads fits.1
    (backs_then _ owner owner_reads fits.2 (backs_then _ key key_name_reads fits.3 (backs_then _ local block_number_reads fits.4 backs_done)))))

snapshot_finds : Finds KeyFits key_bytes (6 ∷ []) snapshot_at
unfolding snapshot_at
snapshot_finds = finds_then volume_name_reads
    (λ volume volume-fits. finds_then volume_name_reads
    (λ bucket bucket-fits. finds_then number_reads (λ number number-fits. finds_done (volume-fits, bucket-fits, number-fits) refl)))

snapshot_backs : (volume : List ℕ) (bucket : List ℕ) (number : ℕ) → KeyFits (keys.Snapshot volume bucket number)
    → Backs snapshot_at (text_bytes volume ++ text_bytes bucket ++ u64_bytes number) (keys.Snapshot volume bucket number)
unfolding snapshot_at
snapshot_backs volume bucket number fits =
    backs_as (simp (append_assoc, append-nil))
    (backs_then _ volume volume_name_reads fits.0 (backs_then _ bucket volume_name_reads fits.1 (backs_then _ number number_reads fits.2 backs_done)))

snapshot_key_finds : Finds KeyFits key_bytes (7 ∷ []) snapshot_key_at
unfolding snapshot_key_at
snapshot_key_finds =
    finds_then volume_name_reads
    (λ volume volume-fits. finds_then volume_name_reads
    (λ bucket bucket-fits. finds_then number_reads
    (λ snapshot snapshot-fits. finds_then key_name_reads (λ key key-fits. finds_done (volume-fits, bucket-fits, snapshot-fits, key-fits) refl))))

snapshot_key_backs : (volume : List ℕ) (bucket : List ℕ) (snapshot : ℕ) (key : List ℕ) → KeyFits (keys.SnapshotKey volume bucket snapshot key)
    → Backs snapshot_key_at (text_bytes volume ++ text_bytes bucket ++ u64_bytes snapshot ++ text_bytes key) (keys.SnapshotKey volume bucket snapshot key)
unfolding snapshot_key_at
snapshot_key_backs volume bucket snapshot key fits =
    backs_as (simp (append_assoc, append-nil))
    (backs_then _ volume volume_name_reads fits.0
    (backs_then _ bucket volume_name_reads fits.1 (backs_then _ snapshot number_reads fits.2 (backs_then _ key key_name_reads fits.3 backs_done))))

renamed_key_finds : Finds KeyFits key_bytes (8 ∷ []) renamed_key_at
unfolding renamed_key_at
renamed_key_finds = finds_then volume_name_reads
    (λ volume volume-fits. finds_then volume_name_reads
    (λ bucket bucket-fits. finds_then owner_reads
    (λ owner owner-fits. finds_then block_number_reads (λ local local-fits. finds_done (volume-fits, bucket-fits, owner-fits, local-fits) refl))))

renamed_key_backs : (volume : List ℕ) (bucket : List ℕ) (owner : ℕ) (local : ℕ) → KeyFits (keys.Renamed volume bucket owner local)
    → Backs renamed_key_at (text_bytes volume ++ text_bytes bucket ++ u64_bytes owner ++ u64_bytes local) (keys.Renamed volume bucket owner local)
unfolding renamed_key_at
renamed_key_backs volume bucket owner local fits =
    backs_as (simp (append_assoc, append-nil))
    (backs_then _ volume volume_name_reads fits.0
    (backs_then _ bucket volume_name_reads fits.1 (backs_then _ owner owner_reads fits.2 (backs_then _ local block_number_reads fits.3 backs_done))))

stripe_key_finds : Finds KeyFits key_bytes (9 ∷ []) stripe_key_at
unfolding stripe_key_at
stripe_key_finds = finds_then stripe_reads (λ stripe stripe-fits. finds_done stripe-fits refl)

stripe_key_backs : (stripe : ℕ) → KeyFits (keys.Stripe stripe) → Backs stripe_key_at (u8_bytes stripe) (keys.Stripe stripe)
unfolding stripe_key_at
stripe_key_backs stripe fits = backs_as (simp append-nil) (backs_then _ stripe stripe_reads fits backs_done)

key_of_kind_finds : (left kind : ℕ) → Finds KeyFits key_bytes (kind ∷ []) (key_of_kind_at left kind)
key_of_kind_finds left kind =
    finds_either (eqb kind 1) (λ is. subst (λ (k : ℕ). Finds KeyFits key_bytes (k ∷ []) volume_key_at) (sym (eqb-true kind 1 is)) volume_key_finds)
    (λ _. finds_either (eqb kind 2) (λ is. subst (λ (k : ℕ). Finds KeyFits key_bytes (k ∷ []) bucket_key_at)
    (sym (eqb-true kind 2 is)) bucket_key_finds)
    (λ _. finds_either (eqb kind 3) (λ is. subst (λ (k : ℕ). Finds KeyFits key_bytes (k ∷ []) key_key_at) (sym (eqb-true kind 3 is)) key_key_finds)
    (λ _. finds_either (eqb kind 4) (λ is. subst (λ (k : ℕ). Finds KeyFits key_bytes (k ∷ []) open_key_at) (sym (eqb-true kind 4 is)) open_key_finds)
    (λ _. finds_either (eqb kind 5) (λ is. subst (λ (k : ℕ). Finds KeyFits key_bytes (k ∷ []) deleted_key_at)
    (sym (eqb-true kind 5 is)) deleted_key_finds)
    (λ _. finds_either (eqb kind 6) (λ is. subst (λ (k : ℕ). Finds KeyFits key_bytes (k ∷ []) snapshot_at) (sym (eqb-true kind 6 is)) snapshot_finds)
    (λ _. finds_either (eqb kind 7) (λ is. subst (λ (k : ℕ). Finds KeyFits key_bytes (k ∷ []) snapshot_key_at)
    (sym (eqb-true kind 7 is)) snapshot_key_finds)
    (λ _. finds_either (eqb kind 8) (λ is. subst (λ (k : ℕ). Finds KeyFits key_bytes (k ∷ []) renamed_key_at)
    (sym (eqb-true kind 8 is)) renamed_key_finds)
    (λ _. finds_either (eqb kind 9) (λ is. subst (λ (k : ℕ). Finds KeyFits key_bytes (k ∷ []) stripe_key_at)
    (sym (eqb-true kind 9 is)) stripe_key_finds) (λ _. finds_none)))))))))

key_found : (bytes : List ℕ) (key : RowKey) (rest : List ℕ) → AreBytes bytes → key_at bytes ≡ Ok (key, rest) → KeyFits key × (bytes ≡ key_bytes key ++ rest)
unfolding key_at
key_found [] key rest fit e = absurd cc
key_found (kind ∷ bytes) key rest fit e =
    (key_of_kind_finds (suc (length bytes)) kind).found bytes key rest (AreBytes-behind (kind ∷ bytes) (kind ∷ []) bytes fit refl) e

key_back : (key : RowKey) (rest : List ℕ) → KeyFits key → key_at (key_bytes key ++ rest) ≡ Ok (key, rest)
unfolding key_at
key_back (keys.Volume volume) rest fits = (volume_key_backs volume fits).back rest
key_back (keys.Bucket volume bucket) rest fits = (bucket_key_backs volume bucket fits).back rest
key_back (keys.Key volume bucket key) rest fits = (key_key_backs volume bucket key fits).back rest
key_back (keys.Open volume bucket key number) rest fits = (open_key_backs volume bucket key number fits).back rest
key_back (keys.Deleted volume bucket owner key local) rest fits = (deleted_key_backs volume bucket owner key local fits).back rest
key_back (keys.Snapshot volume bucket number) rest fits = (snapshot_backs volume bucket number fits).back rest
key_back (keys.SnapshotKey volume bucket snapshot key) rest fits = (snapshot_key_backs volume bucket snapshot key fits).back rest
key_back (keys.Renamed volume bucket owner local) rest fits = (renamed_key_backs volume bucket owner local fits).back rest
key_back (keys.Stripe stripe) rest fits = (stripe_key_backs stripe fits).back rest

pub key_reads : IsRead KeyFits key_bytes key_at
key_reads = record { reads_back = key_back; one_spelling = key_found }

-- the value fields of each kind
volume_value_back : (key_volume : List ℕ) (row : Row) → ValueFits (keys.Volume key_volume) row → Backs (done rows.Volume) (value_bytes row) row
volume_value_back key_volume rows.Volume fits = backs_done
volume_value_back key_volume row fits = absurd fits

volume_value_reads : (key_volume : List ℕ) → IsRead (ValueFits (keys.Volume key_volume)) value_bytes (done rows.Volume)
volume_value_reads key_volume = is_read (finds_done tt refl) (volume_value_back key_volume)

bucket_value_back : (key_volume : List ℕ) (key_bucket : List ℕ) (row : Row) → ValueFits (keys.Bucket key_volume key_bucket) row
    → Backs (done rows.Bucket) (value_bytes row) row
bucket_value_back key_volume key_bucket rows.Bucket fits = backs_done
bucket_value_back key_volume key_bucket row fits = absurd fits

bucket_value_reads : (key_volume : List ℕ) (key_bucket : List ℕ) → IsRead (ValueFits (keys.Bucket key_volume key_bucket)) value_bytes (done rows.Bucket)
bucket_value_reads key_volume key_bucket = is_read (finds_done tt refl) (bucket_value_back key_volume key_bucket)

key_value_back : (key_volume : List ℕ) (key_bucket : List ℕ) (key_key : List ℕ) (row : Row) → ValueFits (keys.Key key_volume key_bucket key_key) row
    → Backs (key_value_at) (value_bytes row) row
unfolding key_value_at
key_value_back key_volume key_bucket key_key (rows.Key number pieces) fits =
    backs_as (simp (append_assoc, append-nil)) (backs_then _ number number_reads fits.0 (backs_then _ pieces (list_reads piece_reads) fits.1 backs_done))
key_value_back key_volume key_bucket key_key row fits = absurd fits

key_value_reads : (key_volume : List ℕ) (key_bucket : List ℕ) (key_key : List ℕ)
    → IsRead (ValueFits (keys.Key key_volume key_bucket key_key)) value_bytes (key_value_at)
unfolding key_value_at
key_value_reads key_volume key_bucket key_key =
    is_read (finds_then number_reads (λ number number-fits. finds_then (list_reads piece_reads)
    (λ pieces pieces-fits. finds_done (number-fits, pieces-fits) refl))) (key_value_back key_volume key_bucket key_key)

open_value_back : (key_volume : List ℕ) (key_bucket : List ℕ) (key_key : List ℕ) (key_number : ℕ) (row : Row)
    → ValueFits (keys.Open key_volume key_bucket key_key key_number) row → Backs (open_value_at) (value_bytes row) row
unfolding open_value_at
open_value_back key_volume key_bucket key_key key_number (rows.Open blocks) fits =
    backs_as (simp (append_assoc, append-nil)) (backs_then _ blocks (list_reads block_reads) fits backs_done)
open_value_back key_volume key_bucket key_key key_number row fits = absurd fits

open_value_reads : (key_volume : List ℕ) (key_bucket : List ℕ) (key_key : List ℕ) (key_number : ℕ)
    → IsRead (ValueFits (keys.Open key_volume key_bucket key_key key_number)) value_bytes (open_value_at)
unfolding open_value_at
open_value_reads key_volume key_bucket key_key key_number =
    is_read (finds_then (list_reads block_reads) (λ blocks blocks-fits. finds_done blocks-fits refl))
    (open_value_back key_volume key_bucket key_key key_number)

deleted_value_back : (key_volume : List ℕ) (key_bucket : List ℕ) (key_owner : ℕ) (key_key : List ℕ) (key_local : ℕ) (row : Row)
    → ValueFits (keys.Deleted key_volume key_bucket key_owner key_key key_local) row → Backs (deleted_value_at key_local) (value_bytes row) row
unfolding deleted_value_at
deleted_value_back key_volume key_bucket key_owner key_key key_local (rows.Deleted blocks) fits =
    backs_as (simp (append_assoc, append-nil)) (backs_then _ blocks (deleted_blocks_reads key_local) fits backs_done)
deleted_value_back key_volume key_bucket key_owner key_key key_local row fits = absurd fits

deleted_value_reads : (key_volume : List ℕ) (key_bucket : List ℕ) (key_owner : ℕ) (key_key : List ℕ) (key_local : ℕ)
    → IsRead (ValueFits (keys.Deleted key_volume key_bucket key_owner key_key key_local)) value_bytes (deleted_value_at key_local)
unfolding deleted_value_at
deleted_value_reads key_volume key_bucket key_owner key_key key_local =
    is_read (finds_then (deleted_blocks_reads key_local) (λ blocks blocks-fits. finds_done blocks-fits refl))
    (deleted_value_back key_volume key_bucket key_owner key_key key_local)

snapshot_value_back : (key_volume : List ℕ) (key_bucket : List ℕ) (key_number : ℕ) (row : Row)
    → ValueFits (keys.Snapshot key_volume key_bucket key_number) row → Backs (snapshot_value_at) (value_bytes row) row
unfolding snapshot_value_at
snapshot_value_back key_volume key_bucket key_number (rows.Snapshot name previous state) fits =
    backs_as (simp (append_assoc, append-nil))
    (backs_then _ name volume_name_reads fits.0 (backs_then _ previous owner_reads fits.1 (backs_then _ state state_reads tt backs_done)))
snapshot_value_back key_volume key_bucket key_number row fits = absurd fits

snapshot_value_reads : (key_volume : List ℕ) (key_bucket : List ℕ) (key_number : ℕ)
    → IsRead (ValueFits (keys.Snapshot key_volume key_bucket key_number)) value_bytes (snapshot_value_at)
unfolding snapshot_value_at
snapshot_value_reads key_volume key_bucket key_number =
    is_read (finds_then volume_name_reads (λ name name-fits. finds_then owner_reads
    (λ previous previous-fits. finds_then state_reads (λ state state-fits. finds_done (name-fits, previous-fits) refl))))
    (snapshot_value_back key_volume key_bucket key_number)

snapshot_key_value_back : (key_volume : List ℕ) (key_bucket : List ℕ) (key_snapshot : ℕ) (key_key : List ℕ) (row : Row)
    → ValueFits (keys.SnapshotKey key_volume key_bucket key_snapshot key_key) row → Backs (snapshot_key_value_at) (value_bytes row) row
unfolding snapshot_key_value_at
snapshot_key_value_back key_volume key_bucket key_snapshot key_key (rows.SnapshotKey number pieces) fits =
    backs_as (simp (append_assoc, append-nil)) (backs_then _ number number_reads fits.0 (backs_then _ pieces (list_reads piece_reads) fits.1 backs_done))
snapshot_key_value_back key_volume key_bucket key_snapshot key_key row fits = absurd fits

snapshot_key_value_reads : (key_volume : List ℕ) (key_bucket : List ℕ) (key_snapshot : ℕ) (key_key : List ℕ)
    → IsRead (ValueFits (keys.SnapshotKey key_volume key_bucket key_snapshot key_key)) value_bytes (snapshot_key_value_at)
unfolding snapshot_key_value_at
snapshot_key_value_reads key_volume key_bucket key_snapshot key_key =
    is_read (finds_then number_reads (λ number number-fits. finds_then (list_reads piece_reads)
    (λ pieces pieces-fits. finds_done (number-fits, pieces-fits) refl))) (snapshot_key_value_back key_volume key_bucket key_snapshot key_key)

renamed_value_back : (key_volume : List ℕ) (key_bucket : List ℕ) (key_owner : ℕ) (key_local : ℕ) (row : Row)
    → ValueFits (keys.Renamed key_volume key_bucket key_owner key_local) row → Backs (renamed_value_at) (value_bytes row) row
unfolding renamed_value_at
renamed_value_back key_volume key_bucket key_owner key_local (rows.Renamed key_name) fits =
    backs_as (simp append-nil) (backs_then _ key_name key_name_reads fits backs_done)
renamed_value_back key_volume key_bucket key_owner key_local row fits = absurd fits

renamed_value_reads : (key_volume : List ℕ) (key_bucket : List ℕ) (key_owner : ℕ) (key_local : ℕ)
    → IsRead (ValueFits (keys.Renamed key_volume key_bucket key_owner key_local)) value_bytes (renamed_value_at)
unfolding renamed_value_at
renamed_value_reads key_volume key_bucket key_owner key_local =
    is_read (finds_then key_name_reads (λ key_name key_name-fits. finds_done key_name-fits refl))
    (renamed_value_back key_volume key_bucket key_owner key_local)

stripe_value_back : (key_stripe : ℕ) (row : Row) → ValueFits (keys.Stripe key_stripe) row → Backs (stripe_value_at) (value_bytes row) row
unfolding stripe_value_at
stripe_value_back key_stripe (rows.Stripe number) fits = backs_as (simp append-nil) (backs_then _ number drawn_reads fits backs_done)
stripe_value_back key_stripe row fits = absurd fits

stripe_value_reads : (key_stripe : ℕ) → IsRead (ValueFits (keys.Stripe key_stripe)) value_bytes (stripe_value_at)
unfolding stripe_value_at
stripe_value_reads key_stripe = is_read (finds_then drawn_reads (λ number number-fits. finds_done number-fits refl)) (stripe_value_back key_stripe)

pub value_reads : (key : RowKey) → IsRead (ValueFits key) value_bytes (value_at key)
unfolding value_at
value_reads (keys.Volume volume) = volume_value_reads volume
value_reads (keys.Bucket volume bucket) = bucket_value_reads volume bucket
value_reads (keys.Key volume bucket key) = key_value_reads volume bucket key
value_reads (keys.Open volume bucket key number) = open_value_reads volume bucket key number
value_reads (keys.Deleted volume bucket owner key local) = deleted_value_reads volume bucket owner key local
value_reads (keys.Snapshot volume bucket number) = snapshot_value_reads volume bucket number
value_reads (keys.SnapshotKey volume bucket snapshot key) = snapshot_key_value_reads volume bucket snapshot key
value_reads (keys.Renamed volume bucket owner local) = renamed_value_reads volume bucket owner local
value_reads (keys.Stripe stripe) = stripe_value_reads stripe

pub row_reads : IsRead (λ row. RowFits row.0 row.1) (λ row. row_bytes row.0 row.1) row_at
unfolding row_at
row_reads = is_read
    (finds_then key_reads (λ key key-fits. finds_then (value_reads key) (λ row row-fits. finds_done (key-fits, row-fits) refl)))
    (λ row fits. backs_as (simp append-nil) (backs_then _ row.0 key_reads fits.0 (backs_then _ row.1 (value_reads row.0) fits.1 backs_done)))
