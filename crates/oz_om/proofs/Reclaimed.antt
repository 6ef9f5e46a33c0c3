-- What a sweep finds over a stripe's tables may go, and may be asked to be deleted.
use Rattle.std.proofs.Common.{◌≡◌, ◌↔◌, ℕ, ◌≤◌, List, [], ◌∷◌, ◌++◌, length, length-append, map, take, Some, Contains, All, arith, refl, sym, ap, ◌∙◌, subst}
use Rattle.std.proofs.lemmas.List.Elements.{All-contains, All-contains_itself, All-from_recursion, All-weaker}
use Rattle.std.proofs.Math.Seq.{take-append_seam}
use Rattle.std.specs.List.{AllByRecursion}
use Rattle.oz_core.specs.declared.event.Event.{Event}
use Rattle.oz_core.specs.declared.opening.Opening.{Opening}
use Rattle.oz_core.specs.Contents.{OpeningBytes}
use Rattle.oz_core.specs.Law.{IsLegal}
use Rattle.oz_core.specs.Manager.{IsUsed, durable_index, granted_block, kept_namespace, namespace_of, pinned}
use Rattle.oz_core.specs.Stories.{all_told}
use Rattle.oz_decision.specs.Meets.{AreInGrammar}
use Rattle.oz_fields.specs.declared.block.Block.{Block}
use Rattle.oz_kept.specs.laws.Deleted.{durable_rises}
use Rattle.oz_locks.specs.Purges.{HaveWholeRows}
use Rattle.oz_locks.specs.Reclaims.{AreFound}
use Rattle.oz_model.specs.Reach.{IsReached}
use Rattle.oz_model.specs.laws.Members.{comes, joins}
use Rattle.oz_namespace.specs.declared.namespace.Namespace.{Namespace}
use Rattle.oz_owned.specs.Own.{IsOwn}
use Rattle.oz_owned.specs.Stood.{StandAt}
use Rattle.oz_owned.specs.laws.Found.{among}
use Rattle.oz_owned.specs.laws.Homes.{own_is_used}
use Rattle.oz_owned.specs.laws.Owned.{kept_is_share, own_still}
use Rattle.oz_owned.specs.laws.Standing.{handed_kept}
use Rattle.oz_owned.specs.laws.Tables.{front_stood}
use Rattle.oz_reclaim.specs.Reclaimable.{IsAmongFirst, IsReclaimable}
use Rattle.oz_reclaim.specs.declared.finding.TheConstants.{MOST_PURGED}
use Rattle.oz_reclaim.specs.declared.sweep.found.Found.{Found}
use Rattle.oz_reclaim.specs.sweep.Found.{IsBacked, IsPartlyPinned, keyed}
use Rattle.oz_rows.specs.declared.key.RowKey.{RowKey}
use Rattle.oz_rows.specs.declared.key.RowKey.TheVariants as keys
use Rattle.oz_rows.specs.declared.row.Row.TheVariants as rows
use Rattle.oz_rows.specs.Rows.{ValueFits}
use Rattle.oz_rows.specs.RowMaps.{Rows}
use Rattle.oz_sound.specs.Sound.{IsHome, StandsIn}
use Rattle.oz_store.specs.Store.{IsStore}
use Rattle.oz_store.specs.striped.Shares.{share_of}
use Rattle.oz_om.specs.declared.purging.Purged.{Purged}
use Rattle.oz_om.specs.Keeps.{AreOutOfReach, StayWhole}
use Rattle.oz_om.specs.Purging.{AreFlushed, DeletedRow, MayBeAsked, MayGo, WereFound, blocks_in, blocks_of_all, deleted_blocks, key_of, with_blocks}

-- ---- lists of rows

all_mapped : {A B : Type 0} (P : A → Type 0) (Q : B → Type 0) (f : A → B) → ((x : A) → P x → Q (f x)) → (l : List A) → AllByRecursion P l
    → AllByRecursion Q (map f l)
all_mapped P Q f each [] all = tt
all_mapped P Q f each (x ∷ l) all = (each x all.0, all_mapped P Q f each l all.1)

pub keys_same : (all : Rows) (l : List (RowKey × ℕ)) → map key_of (map (with_blocks all) l) ≡ map keyed l
keys_same all [] = refl
keys_same all ((key, since) ∷ l) = ap (λ (others : List RowKey). key ∷ others) (keys_same all l)

in_all : {A : Type 0} (P : A → Type 0) (l : List A) (x : A) → AllByRecursion P l → Contains l x → P x
in_all P l x all there = All-contains P l x (All-from_recursion P l all) there

module _ (opening : Opening) (bytes : OpeningBytes) (loaded : Rows) (store : IsStore loaded opening bytes) (stripe : ℕ) (story : List Event)
    (legal : IsLegal opening story) (tables : Rows) (it : AreFlushed opening loaded stripe story tables) where
  at : StandAt opening loaded stripe it.front tables
  at = front_stood (StandAt opening loaded stripe) opening loaded stripe story (durable_index opening story) tables it

  abbrev part : Namespace
  part = share_of stripe (namespace_of opening it.front)

  pub backed : IsBacked tables part
  backed = record { fit = at.stand.fit; blocks = at.stand.sound.blocks; stand = at.stand.stands }

  -- ---- a deleted row's blocks

  deleted_home : (key : RowKey) (blocks : List Block) → ValueFits key (rows.Deleted blocks) → IsHome key
  deleted_home (keys.Deleted volume bucket owner key local) blocks fits = tt
  deleted_home key blocks fits = absurd fits

  module _ (key : RowKey) (blocks : List Block) (row : tables key ≡ Some (rows.Deleted blocks)) where
    home : IsHome key
    home = deleted_home key blocks (at.stand.fit key (rows.Deleted blocks) row).1

    stands : (block : Block) → Contains blocks block → StandsIn tables block key
    stands block there = record { row = rows.Deleted blocks; there = row; has = among block blocks there }

    own_at_front : (block : Block) → Contains blocks block → IsOwn loaded stripe it.front block
    own_at_front block there = at.homes_old block (record { key = key; home = home; here = stands block there })

    own_now : (block : Block) → Contains blocks block → IsOwn loaded stripe story block
    own_now block there = subst (λ (l : List Event). IsOwn loaded stripe l block) (sym it.is_front.parts)
        (own_still loaded stripe it.front it.is_front.behind block (own_at_front block there))

  reached_same : (block : Block) → IsOwn loaded stripe story block → IsReached (kept_namespace opening story) block ↔ IsReached part block
  reached_same block own =
      let front = ap (λ (l : List Event). take (length it.front) l) it.is_front.parts ∙ take-append_seam it.front it.is_front.behind in
      subst (λ (l : List Event). IsReached (kept_namespace opening story) block ↔ IsReached (share_of stripe (namespace_of opening l)) block) front
      (kept_is_share opening bytes loaded store story legal stripe (length it.front) (durable_index opening story) block own
      (it.is_front.namespace ∙ ap (namespace_of opening) (sym front)))

  module _ (pins : List Block) (same : (block : Block) → IsOwn loaded stripe story block → Contains pins block ↔ Contains (pinned story) block) where
    pub may_go : (key : RowKey) → IsReclaimable tables part pins key → MayGo opening story tables key
    may_go key may = record {
      blocks = may.blocks;
      row = may.row;
      unreached = λ block there reached. may.unreached block there ((reached_same block (own_now key may.blocks may.row block there)).0 reached);
      unpinned = λ block there works. may.unpinned block there ((same block (own_now key may.blocks may.row block there)).1 works);
    }

    pub may_be_found : (key : RowKey) → MayGo opening story tables key → IsReclaimable tables part pins key
    may_be_found key may = record {
      blocks = may.blocks;
      row = may.row;
      unreached = λ block there reached. may.unreached block there ((reached_same block (own_now key may.blocks may.row block there)).1 reached);
      unpinned = λ block there pinned. may.unpinned block there ((same block (own_now key may.blocks may.row block there)).0 pinned);
    }

    partly_works : IsPartlyPinned tables part pins → IsPartlyPinned tables (kept_namespace opening story) (pinned story)
    partly_works partly =
        let own = own_now partly.key partly.blocks partly.row in record {
          key = partly.key;
          blocks = partly.blocks;
          row = partly.row;
          unreached = λ block there reached. partly.unreached block there ((reached_same block (own block there)).0 reached);
          one = partly.one;
          pinned_one = (partly.pinned_one.0, (same partly.one (own partly.one partly.pinned_one.0)).0 partly.pinned_one.1);
          other = partly.other;
          free_one = (partly.free_one.0, λ works. partly.free_one.1 ((same partly.other (own partly.other partly.free_one.0)).1 works));
        }

    partly_found : IsPartlyPinned tables (kept_namespace opening story) (pinned story) → IsPartlyPinned tables part pins
    partly_found partly =
        let own = own_now partly.key partly.blocks partly.row in record {
          key = partly.key;
          blocks = partly.blocks;
          row = partly.row;
          unreached = λ block there reached. partly.unreached block there ((reached_same block (own block there)).1 reached);
          one = partly.one;
          pinned_one = (partly.pinned_one.0, (same partly.one (own partly.one partly.pinned_one.0)).1 partly.pinned_one.1);
          other = partly.other;
          free_one = (partly.free_one.0, λ pinned. partly.free_one.1 ((same partly.other (own partly.other partly.free_one.0)).0 pinned));
        }

    whole_row : (row : RowKey × ℕ) → IsReclaimable tables part pins row.0
        → tables (key_of (with_blocks tables row)) ≡ Some (rows.Deleted (blocks_in (with_blocks tables row)))
    whole_row (key, since) may = may.row ∙ ap (λ (l : List Block). Some (rows.Deleted l)) (sym (ap deleted_blocks may.row))

    key_goes : (row : RowKey × ℕ) → IsReclaimable tables part pins row.0 → MayGo opening story tables (key_of (with_blocks tables row))
    key_goes (key, since) may = may_go key may

    pub were_found : (found : Found) (purged : Purged) → AreFound tables pins MOST_PURGED found → purged.rows.items ≡ map (with_blocks tables) found.rows.items
        → purged.is_partly_pinned ≡ found.is_partly_pinned → WereFound opening loaded stripe story purged
    were_found found purged are its partly = record {
      tables = tables;
      flushed = it;
      whole = subst (AllByRecursion (λ (row : DeletedRow). tables (key_of row) ≡ Some (rows.Deleted (blocks_in row)))) (sym its)
          (all_mapped (λ (row : RowKey × ℕ). IsReclaimable tables part pins row.0) (λ (row : DeletedRow). tables (key_of row) ≡ Some (rows.Deleted (blocks_in row)))
          (with_blocks tables) whole_row found.rows.items (are.only part backed));
      only = subst (AllByRecursion (λ (row : DeletedRow). MayGo opening story tables (key_of row))) (sym its)
          (all_mapped (λ (row : RowKey × ℕ). IsReclaimable tables part pins row.0) (λ (row : DeletedRow). MayGo opening story tables (key_of row))
          (with_blocks tables) key_goes found.rows.items (are.only part backed));
      first = λ key may. subst (λ (l : List RowKey). IsAmongFirst MOST_PURGED l key) (sym (ap (map key_of) its ∙ keys_same tables found.rows.items))
          (are.first part backed key (may_be_found key may));
      partly = (
        λ is. partly_works ((are.partly part backed).0 (sym partly ∙ is)),
        λ is. partly ∙ (are.partly part backed).1 (partly_found is),
      );
    }

  -- ---- they may be asked for

  module _ (fit : AreInGrammar loaded) where
    used_at_front : (block : Block) → IsOwn loaded stripe it.front block → IsUsed opening it.front block
    used_at_front block own = own_is_used opening bytes loaded stripe it.front (all_told granted_block it.front) block store fit
        (λ handed. subst (λ (l : List Block). Contains l block) it.is_front.granted
        (handed_kept opening loaded tables stripe (durable_index opening story) story block it handed)) own

    own_blocks : (blocks : List Block) → ((block : Block) → Contains blocks block → IsOwn loaded stripe story block) → All (IsOwn loaded stripe story) blocks
    own_blocks blocks each k d within = All-weaker (Contains blocks) (IsOwn loaded stripe story) each blocks (All-contains_itself blocks) k d within

some_deleted : (one other : List Block) → Some (rows.Deleted one) ≡ Some (rows.Deleted other) → one ≡ other
some_deleted one other e = cc

module _ (opening : Opening) (bytes : OpeningBytes) (loaded : Rows) (store : IsStore loaded opening bytes) (fit : AreInGrammar loaded) (stripe : ℕ)
    (story : List Event) (legal : IsLegal opening story) (purged : Purged) (found : WereFound opening loaded stripe story purged) (newest : Rows)
    (stay : StayWhole opening loaded stripe story newest) where
  abbrev tables : Rows
  tables = found.tables

  abbrev all : List DeletedRow
  all = purged.rows.items

  stood_at : StandAt opening loaded stripe found.flushed.front tables
  stood_at = at opening bytes loaded store stripe story legal tables found.flushed

  -- the row that a block is of
  record ItsRow (block : Block) : Type 0 where
    row : DeletedRow
    listed : Contains all row
    has : Contains (blocks_in row) block
    there : tables (key_of row) ≡ Some (rows.Deleted (blocks_in row))
    unreached : IsReached (kept_namespace opening story) block → ⊥
    unpinned : Contains (pinned story) block → ⊥

  row_with : (block : Block) → Contains (blocks_of_all all) block → ItsRow block
  row_with block among =
      let from = comes blocks_in all block among in
      let there = in_all (λ (row : DeletedRow). tables (key_of row) ≡ Some (rows.Deleted (blocks_in row))) all from.item found.whole from.there in
      let may = in_all (λ (row : DeletedRow). MayGo opening story tables (key_of row)) all from.item found.only from.there in
      let its = subst (λ (l : List Block). Contains l block) (some_deleted (blocks_in from.item) may.blocks (sym there ∙ may.row)) from.has in
      record {
        row = from.item;
        listed = from.there;
        has = from.has;
        there = there;
        unreached = may.unreached block its;
        unpinned = may.unpinned block its;
      }

  out : AreOutOfReach opening found.flushed.front (blocks_of_all all)
  out block among =
      let of = row_with block among in (
        used_at_front opening bytes loaded store stripe story legal tables found.flushed fit block
            (own_at_front opening bytes loaded store stripe story legal tables found.flushed (key_of of.row) (blocks_in of.row) of.there block of.has),
        λ reached. of.unreached (subst (λ (n : Namespace). IsReached n block) (sym found.flushed.is_front.namespace) reached),
      )

  in_whole_rows : HaveWholeRows tables (blocks_of_all all)
  in_whole_rows volume bucket key owner local of_row block other there has among beside =
      let place = keys.Deleted volume bucket owner key local in
      let of = row_with block among in
      let its_home = home opening bytes loaded store stripe story legal tables found.flushed (key_of of.row) (blocks_in of.row) of.there in
      let here = stands opening bytes loaded store stripe story legal tables found.flushed (key_of of.row) (blocks_in of.row) of.there block of.has in
      let beside_it = stands opening bytes loaded store stripe story legal tables found.flushed place of_row there block has in
      let same = stood_at.stand.sound.blocks.one_home block (key_of of.row) place its_home tt here beside_it in
      let row = some_deleted of_row (blocks_in of.row) (sym there ∙ (ap tables (sym same) ∙ of.there)) in
      joins blocks_in all of.row other of.listed (subst (λ (l : List Block). Contains l other) row beside)

  some_block : (blocks : List Block) (key : RowKey) → ValueFits key (rows.Deleted blocks) → 1 ≤ length blocks
  some_block [] (keys.Deleted volume bucket owner key local) fits = absurd fits.1
  some_block (block ∷ blocks) (keys.Deleted volume bucket owner key local) fits = omega arith
  some_block blocks key fits = absurd fits

  some_of : (l : List DeletedRow) → AllByRecursion (λ (row : DeletedRow). tables (key_of row) ≡ Some (rows.Deleted (blocks_in row))) l → 1 ≤ length l
      → 1 ≤ length (blocks_of_all l)
  some_of [] whole few = absurd (omega (arith, few))
  some_of (row ∷ more) whole few =
      let one = some_block (blocks_in row) (key_of row) (stood_at.stand.fit (key_of row) (rows.Deleted (blocks_in row)) whole.0).1 in
      omega (arith, one, length-append (blocks_in row) (blocks_of_all more))

  pub may_be_asked : 1 ≤ length all → MayBeAsked opening loaded stripe story newest (blocks_of_all all)
  may_be_asked some =
      let it = found.flushed in
      let first : opening.last_index ≤ durable_index opening story = durable_rises opening story [] legal in
      record {
        some = some_of all found.whole some;
        own = own_blocks opening bytes loaded store stripe story legal tables it fit (blocks_of_all all) (λ block among. let of = row_with block among in
            own_now opening bytes loaded store stripe story legal tables it (key_of of.row) (blocks_in of.row) of.there block of.has);
        front = it.front;
        begins = (it.is_front.behind, it.is_front.parts);
        flushed = it.is_front.within first;
        out = out;
        unpinned = λ block among. (row_with block among).unpinned;
        whole = stay it.front tables (blocks_of_all all) (it.is_front.behind, it.is_front.parts) it.stood out in_whole_rows;
      }
