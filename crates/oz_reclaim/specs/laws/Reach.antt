-- What rows show is what the namespace reaches for which they stand.
use Rattle.std.proofs.Common.{
  ◌≡◌,
  ⊎_elim,
  inl,
  inr,
  ℕ,
  zero,
  suc,
  ◌<◌,
  ◌==◌,
  ◌||◌,
  Bool,
  true,
  false,
  List,
  [],
  ◌∷◌,
  length,
  map,
  Option,
  None,
  Some,
  is_some,
  Contains,
  refl,
  sym,
  ◌∙◌,
  ap,
  subst,
  arith,
}
use mathlib.Core.Bool.{false≢true}
use Rattle.std.proofs.lemmas.Bool.{eqb-true}
use Rattle.std.proofs.lemmas.List.Folds.{list_any-from_Any, Any-from_list_any}
use Rattle.std.proofs.lemmas.Option.{same_Some}
use Rattle.std.specs.FinMap.{get}
use Rattle.std.specs.List.{Any, list_any, slice_index_or}
use Rattle.std.specs.Option.{option_and_then}
use Rattle.oz_decision.specs.Meets.{AreInGrammar}
use Rattle.oz_decision.specs.Walking.{is_live}
use Rattle.oz_decision.specs.laws.Versions.{block_itself, one_block}
use Rattle.oz_fields.specs.declared.block.Block.{Block}
use Rattle.oz_fields.specs.declared.block.Piece.{Piece}
use Rattle.oz_model.specs.Reach.{IsReached, InKeys, InSessions, InSnapshots}
use Rattle.oz_namespace.specs.declared.namespace.Bucket.{Bucket}
use Rattle.oz_namespace.specs.declared.namespace.Namespace.{Namespace}
use Rattle.oz_namespace.specs.declared.namespace.Session.{Session}
use Rattle.oz_namespace.specs.declared.namespace.Snapshot.{Snapshot}
use Rattle.oz_namespace.specs.Namespace.{bucket_of, snapshots_in, snapshots_of}
use Rattle.oz_reclaim.specs.Reach.{is_shown, IsShown}
use Rattle.oz_rows.specs.declared.key.RowKey.{RowKey}
use Rattle.oz_rows.specs.declared.key.RowKey.TheVariants as keys
use Rattle.oz_rows.specs.declared.row.Row.{Row}
use Rattle.oz_rows.specs.declared.row.Row.TheVariants as rows
use Rattle.oz_rows.specs.declared.row.SnapshotState.TheVariants.{Live}
use Rattle.oz_rows.specs.RowMaps.{Rows, is_block}
use Rattle.oz_rows.specs.Rows.{ValueFits}
use Rattle.oz_sound.specs.Sound.{StandsIn, blocks_of}
use Rattle.oz_sound.specs.StandsFor.{StandsFor, AreSnapshots, IsSnapshot, is_among, pieces_in}

-- ---- blocks of lists

pub among : (block : Block) (blocks : List Block) → Contains blocks block → list_any (is_block block) blocks ≡ true
among block blocks there = list_any-from_Any (is_block block) blocks (there.0, block, there.1, there.2, block_itself block)

pub contains : (block : Block) (blocks : List Block) → list_any (is_block block) blocks ≡ true → Contains blocks block
contains block blocks has =
    let found : Any (λ (other : Block). is_block block other ≡ true) blocks = Any-from_list_any (is_block block) blocks has in
    subst (Contains blocks) (sym (one_block block found.1 found.4)) (found.0, found.2, found.3)

-- ---- rows with pieces

-- the row that has pieces has their blocks
with_pieces : (row : Option Row) (pieces : List Piece) → pieces_in row ≡ Some pieces → (block : Block)
    → Contains (map (λ (piece : Piece). piece.block) pieces) block
    → (found : Row) × (row ≡ Some found) × (list_any (is_block block) (blocks_of found) ≡ true)
with_pieces None pieces is block has = absurd (false≢true (ap is_some is))
with_pieces (Some (rows.Key number own)) pieces is block has = (
  rows.Key number own,
  refl,
  among block (blocks_of (rows.Key number own))
      (subst (λ (l : List Piece). Contains (map (λ (piece : Piece). piece.block) l) block) (sym (same_Some own pieces is)) has),
)
with_pieces (Some (rows.SnapshotKey number own)) pieces is block has = (
  rows.SnapshotKey number own,
  refl,
  among block (blocks_of (rows.SnapshotKey number own))
      (subst (λ (l : List Piece). Contains (map (λ (piece : Piece). piece.block) l) block) (sym (same_Some own pieces is)) has),
)
with_pieces (Some row) pieces is block has = absurd (false≢true (ap is_some is))

pieces_stand : (all : Rows) (key : RowKey) (pieces : List Piece) → pieces_in (all key) ≡ Some pieces → (block : Block)
    → Contains (map (λ (piece : Piece). piece.block) pieces) block → StandsIn all block key
pieces_stand all key pieces is block has = let found = with_pieces (all key) pieces is block has in record { row = found.0; there = found.1; has = found.2 }

-- what a row of a key has, whether it is the bucket's or a snapshot's
pub record Pieces (row : Row) (block : Block) : Type 0 where
  pub pieces : List Piece
  pub are : pieces_in (Some row) ≡ Some pieces
  pub has : Contains (map (λ (piece : Piece). piece.block) pieces) block

key_pieces : (v b k : List ℕ) (row : Row) (block : Block) → ValueFits (keys.Key v b k) row → list_any (is_block block) (blocks_of row) ≡ true → Pieces row block
key_pieces v b k (rows.Key number pieces) block fits has = record { pieces = pieces; are = refl; has = contains block (blocks_of (rows.Key number pieces)) has }
key_pieces v b k row block fits has = absurd fits

snapshot_pieces : (v b k : List ℕ) (n : ℕ) (row : Row) (block : Block) → ValueFits (keys.SnapshotKey v b n k) row
    → list_any (is_block block) (blocks_of row) ≡ true → Pieces row block
snapshot_pieces v b k n (rows.SnapshotKey number pieces) block fits has =
    record { pieces = pieces; are = refl; has = contains block (blocks_of (rows.SnapshotKey number pieces)) has }
snapshot_pieces v b k n row block fits has = absurd fits

session_blocks : (v b k : List ℕ) (n : ℕ) (row : Row) → ValueFits (keys.Open v b k n) row → row ≡ rows.Open (blocks_of row)
session_blocks v b k n (rows.Open blocks) fits = refl
session_blocks v b k n row fits = absurd fits

-- ---- snapshots

pub live_row : (row : Option Row) → is_live row ≡ true → (name : List ℕ) × (previous : ℕ) × (row ≡ Some (rows.Snapshot name previous Live))
live_row (Some (rows.Snapshot name previous Live)) e = (name, previous, refl)
live_row row e = absurd (false≢true e)

-- one of the snapshots in order has a number
its_number : (all : Rows) (v b numbers : List ℕ) (snapshots : List Snapshot) → AreSnapshots all v b numbers snapshots → (snapshot : Snapshot) (k : ℕ)
    → k < length snapshots → slice_index_or snapshots k snapshot ≡ snapshot → (number : ℕ) × IsSnapshot all v b number snapshot
its_number all v b [] [] are snapshot k within is = absurd (omega (arith, within))
its_number all v b (n ∷ numbers) [] are snapshot k within is = absurd are
its_number all v b [] (s ∷ snapshots) are snapshot k within is = absurd are
its_number all v b (n ∷ numbers) (s ∷ snapshots) are snapshot zero within is = (n, subst (IsSnapshot all v b n) is are.0)
its_number all v b (n ∷ numbers) (s ∷ snapshots) are snapshot (suc k) within is =
    its_number all v b numbers snapshots are.1 snapshot k (omega (arith, within)) is

-- and the number of one is that of a snapshot among them
its_snapshot : (all : Rows) (v b numbers : List ℕ) (snapshots : List Snapshot) → AreSnapshots all v b numbers snapshots → (number : ℕ)
    → is_among number numbers ≡ true → (snapshot : Snapshot) × Contains snapshots snapshot × IsSnapshot all v b number snapshot
its_snapshot all v b [] [] are number e = absurd (false≢true e)
its_snapshot all v b (n ∷ numbers) [] are number e = absurd are
its_snapshot all v b [] (s ∷ snapshots) are number e = absurd are
its_snapshot all v b (n ∷ numbers) (s ∷ snapshots) are number e = by (n == number) refl (its_snapshot all v b numbers snapshots are.1 number)
  where
    by : (t : Bool) → (n == number) ≡ t
        → (is_among number numbers ≡ true → (snapshot : Snapshot) × Contains snapshots snapshot × IsSnapshot all v b number snapshot)
        → (snapshot : Snapshot) × Contains (s ∷ snapshots) snapshot × IsSnapshot all v b number snapshot
    by true same later = (s, (zero, omega arith, refl), subst (λ m. IsSnapshot all v b m s) (eqb-true n number same) are.0)
    by false same later =
        let rest = later (subst (λ (t : Bool). t || is_among number numbers ≡ true) same e) in
        (rest.0, (suc rest.1.0, omega (arith, rest.1.1), rest.1.2), rest.2)

-- ---- the namespace

some_is : {A B : Type 0} (f : A → Option B) (o : Option A) (y : B) → option_and_then f o ≡ Some y → (x : A) × (o ≡ Some x) × (f x ≡ Some y)
some_is f None y e = absurd (false≢true (ap is_some e))
some_is f (Some x) y e = (x, refl, e)

module _ (all : Rows) (namespace : Namespace) (stands : StandsFor all namespace) (block : Block) where
  module _ (v b : List ℕ) (bucket : Bucket) (there : bucket_of namespace v b ≡ Some bucket) where
    in_keys : InKeys bucket.keys block → IsShown all block
    in_keys it = record {
      key = keys.Key v b it.key;
      shown = refl;
      stands = pieces_stand all (keys.Key v b it.key) it.pieces
          (sym (stands.pieces v b it.key) ∙ ap (option_and_then (λ (x : Bucket). get x.keys it.key)) there ∙ it.is_there) block it.has;
    }

    in_sessions : InSessions bucket block → IsShown all block
    in_sessions it = record {
      key = keys.Open v b it.session.key it.number;
      shown = refl;
      stands = record {
        row = rows.Open it.session.blocks;
        there = (stands.sessions v b it.number it.session).0 (ap (option_and_then (λ (x : Bucket). get x.sessions it.number)) there ∙ it.is_there);
        has = among block it.session.blocks it.has;
      };
    }

    in_snapshots : InSnapshots bucket block → IsShown all block
    in_snapshots it =
        let of_bucket = stands.snapshots v b in
        let found : Contains (snapshots_of namespace v b) it.snapshot =
        subst (λ (o : Option Bucket). Contains (snapshots_in o) it.snapshot) (sym there) it.is_there in
        let own = its_number all v b of_bucket.numbers (snapshots_of namespace v b) of_bucket.each it.snapshot found.0 found.1 found.2 in
        record {
          key = keys.SnapshotKey v b own.0 it.in_keys.key;
          shown = ap is_live own.1.row;
          stands = pieces_stand all (keys.SnapshotKey v b own.0 it.in_keys.key) it.in_keys.pieces
              (sym (own.1.pieces it.in_keys.key) ∙ it.in_keys.is_there) block it.in_keys.has;
        }

  pub reached_is_shown : IsReached namespace block → IsShown all block
  reached_is_shown it = ⊎_elim
      (in_keys it.volume it.name it.bucket it.is_there)
      (λ others. ⊎_elim (in_sessions it.volume it.name it.bucket it.is_there) (in_snapshots it.volume it.name it.bucket it.is_there) others)
      it.has

  module _ (fit : AreInGrammar all) where
    of_key : (v b k : List ℕ) → StandsIn all block (keys.Key v b k) → IsReached namespace block
    of_key v b k it =
        let row = key_pieces v b k it.row block (fit (keys.Key v b k) it.row it.there).1 it.has in
        let found = some_is (λ (x : Bucket). get x.keys k) (bucket_of namespace v b) row.pieces (stands.pieces v b k ∙ ap pieces_in it.there ∙ row.are) in
        record {
          volume = v;
          name = b;
          bucket = found.0;
          is_there = found.1;
          has = inl (record { key = k; pieces = row.pieces; is_there = found.2; has = row.has });
        }

    of_session : (v b k : List ℕ) (n : ℕ) → StandsIn all block (keys.Open v b k n) → IsReached namespace block
    of_session v b k n it =
        let session : Session = record { key = k; blocks = blocks_of it.row } in
        let row : all (keys.Open v b k n) ≡ Some (rows.Open (blocks_of it.row)) = it.there
        ∙ ap Some (session_blocks v b k n it.row (fit (keys.Open v b k n) it.row it.there).1) in
        let found = some_is (λ (x : Bucket). get x.sessions n) (bucket_of namespace v b) session ((stands.sessions v b n session).1 row) in
        record {
          volume = v;
          name = b;
          bucket = found.0;
          is_there = found.1;
          has = inr (inl (record { number = n; session = session; is_there = found.2; has = contains block (blocks_of it.row) it.has }));
        }

    of_snapshot : (v b k : List ℕ) (n : ℕ) → is_live (all (keys.Snapshot v b n)) ≡ true → StandsIn all block (keys.SnapshotKey v b n k)
        → IsReached namespace block
    of_snapshot v b k n live it =
        let of_bucket = stands.snapshots v b in
        let own = its_snapshot all v b of_bucket.numbers (snapshots_of namespace v b) of_bucket.each n
        (of_bucket.every n (live_row (all (keys.Snapshot v b n)) live)) in
        let row = snapshot_pieces v b k n it.row block (fit (keys.SnapshotKey v b n k) it.row it.there).1 it.has in
        by (bucket_of namespace v b) refl own.1
        (record { key = k; pieces = row.pieces; is_there = own.2.pieces k ∙ ap pieces_in it.there ∙ row.are; has = row.has })
      where
        by : (o : Option Bucket) → bucket_of namespace v b ≡ o → {snapshot : Snapshot} → Contains (snapshots_in o) snapshot → InKeys snapshot.keys block
            → IsReached namespace block
        by None e there has = absurd (omega (arith, there.1))
        by (Some bucket) e {snapshot} there has =
            record {
              volume = v;
              name = b;
              bucket = bucket;
              is_there = e;
              has = inr (inr (record { snapshot = snapshot; is_there = there; in_keys = has }));
            }

    pub shown_is_reached : IsShown all block → IsReached namespace block
    shown_is_reached it = by_key it.key it.shown it.stands
      where
        by_key : (key : RowKey) → is_shown all key ≡ true → StandsIn all block key → IsReached namespace block
        by_key (keys.Key v b k) shown stands = of_key v b k stands
        by_key (keys.Open v b k n) shown stands = of_session v b k n stands
        by_key (keys.SnapshotKey v b n k) shown stands = of_snapshot v b k n shown stands
        by_key key shown stands = absurd (false≢true shown)
