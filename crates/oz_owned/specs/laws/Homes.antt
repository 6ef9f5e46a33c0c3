-- A block that has a home in rows which stand for a namespace is reached, or is left over.
use Rattle.std.proofs.Common.{◌≡◌, ◌⊎◌, ⊎_elim, ℕ, true, List, map, Some, Contains, inl, inr, sym, ◌∙◌, ap, subst}
use Rattle.std.specs.FinMap.{get}
use Rattle.std.specs.List.{list_any}
use Rattle.oz_fields.specs.declared.block.Block.{Block}
use Rattle.oz_fields.specs.declared.block.Piece.{Piece}
use Rattle.oz_namespace.specs.declared.namespace.Bucket.{Bucket}
use Rattle.oz_namespace.specs.declared.namespace.Namespace.{Namespace}
use Rattle.oz_namespace.specs.declared.namespace.Session.{Session}
use Rattle.oz_namespace.specs.Namespace.{bucket_of}
use Rattle.oz_rows.specs.declared.key.RowKey.{RowKey}
use Rattle.oz_rows.specs.declared.key.RowKey.TheVariants as keys
use Rattle.oz_rows.specs.declared.row.Row.{Row}
use Rattle.oz_rows.specs.declared.row.Row.TheVariants as rows
use Rattle.oz_rows.specs.Rows.{RowFits}
use Rattle.oz_rows.specs.RowMaps.{Rows, is_block}
use Rattle.oz_sound.specs.Kept.{HasHome}
use Rattle.oz_sound.specs.Sound.{IsHome, StandsIn, blocks_of}
use Rattle.oz_sound.specs.StandsFor.{StandsFor, pieces_in}
use Rattle.oz_model.specs.Reach.{IsReached}
use Rattle.oz_model.specs.laws.Members.{both, passing}
use Rattle.oz_core.specs.declared.event.Event.{Event}
use Rattle.oz_core.specs.declared.opening.Opening.{Opening}
use Rattle.oz_core.specs.Contents.{OpeningBytes}
use Rattle.oz_core.specs.Manager.{WasUsed}
use Rattle.oz_kept.specs.laws.Contents.{one_block}
use Rattle.oz_store.specs.Store.{IsStore}
use Rattle.oz_store.specs.granted.Granted.{handed_out}
use Rattle.oz_owned.specs.Own.{IsLeftOver, IsOwn}
use Rattle.oz_owned.specs.laws.Found.{stands_in_all}

-- a block that a row's list has
pub listed : (block : Block) (blocks : List Block) → list_any (is_block block) blocks ≡ true → Contains blocks block
listed block blocks has =
    let found = passing (is_block block) blocks has in
    subst (Contains blocks) (sym (one_block block found.item found.so)) found.there

module _ (all : Rows) (namespace : Namespace) (block : Block) (stands : StandsFor all namespace)
    (fit : (key : RowKey) (row : Row) → all key ≡ Some row → RowFits key row) where
  in_key : (volume bucket key : List ℕ) (row : Row) → all (keys.Key volume bucket key) ≡ Some row → RowFits (keys.Key volume bucket key) row
      → list_any (is_block block) (blocks_of row) ≡ true → IsReached namespace block
  in_key volume bucket key (rows.Key number pieces) there fits has =
      let found = both (λ (b : Bucket). get b.keys key) (bucket_of namespace volume bucket) pieces (stands.pieces volume bucket key ∙ ap pieces_in there) in
      record {
        volume = volume;
        name = bucket;
        bucket = found.between;
        is_there = found.first;
        has = inl (record { key = key; pieces = pieces; is_there = found.then; has = listed block (map (λ (piece : Piece). piece.block) pieces) has });
      }
  in_key volume bucket key row there fits has = absurd fits.1

  in_session : (volume bucket key : List ℕ) (number : ℕ) (row : Row) → all (keys.Open volume bucket key number) ≡ Some row
      → RowFits (keys.Open volume bucket key number) row
      → list_any (is_block block) (blocks_of row) ≡ true → IsReached namespace block
  in_session volume bucket key number (rows.Open blocks) there fits has =
      let session : Session = record { key = key; blocks = blocks } in
      let found = both (λ (b : Bucket). get b.sessions number) (bucket_of namespace volume bucket) session
      ((stands.sessions volume bucket number session).1 there) in
      record {
        volume = volume;
        name = bucket;
        bucket = found.between;
        is_there = found.first;
        has = inr (inl (record { number = number; session = session; is_there = found.then; has = listed block blocks has }));
      }
  in_session volume bucket key number row there fits has = absurd fits.1

  pub home_is_used : HasHome all block → IsReached namespace block ⊎ IsLeftOver all block
  home_is_used home = by home.key home.home home.here
    where
      by : (key : RowKey) → IsHome key → StandsIn all block key → IsReached namespace block ⊎ IsLeftOver all block
      by (keys.Key volume bucket key) home here =
          inl (in_key volume bucket key here.row here.there (fit (keys.Key volume bucket key) here.row here.there) here.has)
      by (keys.Open volume bucket key number) home here =
          inl (in_session volume bucket key number here.row here.there (fit (keys.Open volume bucket key number) here.row here.there) here.has)
      by (keys.Deleted volume bucket owner key local) home here =
          inr (record { volume = volume; bucket = bucket; owner = owner; key = key; local = local; has = here })
      by (keys.Volume volume) home here = absurd home
      by (keys.Bucket volume bucket) home here = absurd home
      by (keys.Snapshot volume bucket number) home here = absurd home
      by (keys.SnapshotKey volume bucket snapshot key) home here = absurd home
      by (keys.Renamed volume bucket owner local) home here = absurd home
      by (keys.Stripe stripe) home here = absurd home

-- So a stripe's own was used: it was there as the run began, or was handed out.
pub own_is_used : (opening : Opening) (bytes : OpeningBytes) (loaded : Rows) (stripe : ℕ) (front : List Event) (granted : List Block) (block : Block)
    → IsStore loaded opening bytes
    → ((key : RowKey) (row : Row) → loaded key ≡ Some row → RowFits key row)
    → (Contains (handed_out stripe front) block → Contains granted block) → IsOwn loaded stripe front block → WasUsed opening granted block
own_is_used opening bytes loaded stripe front granted block store fit handed (inl home) = ⊎_elim
    (λ reached. inl reached)
    (λ left. inr (inl ((store.left block).1 left)))
    (home_is_used loaded opening.namespace block store.stands fit (record
    { key = home.key; home = home.home; here = (stands_in_all stripe loaded block home.key home.here).1 }))
own_is_used opening bytes loaded stripe front granted block store fit handed (inr there) = inr (inr (inr (handed there)))
