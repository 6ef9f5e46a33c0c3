-- Once a look found all deleted rows of a stripe that may go, and their blocks were let go, each block of the stripe that was garbage at
-- the front of the look was let go. So, where what it found is logged, the stripe is swept behind each start that comes before that front.
use Rattle.std.proofs.Common.{◌≡◌, ⊎_elim, ℕ, ◌≤◌, ◌==◌, Bool, true, false, not, List, [], ◌++◌, cond}
use Rattle.std.proofs.Common.{Some, Contains, refl, sym, ◌∙◌, ap, subst, arith, append_assoc}
use mathlib.Core.Bool.{false≢true}
use Rattle.std.proofs.lemmas.List.{length-map}
use Rattle.std.proofs.lemmas.Option.{same_Some}
use Rattle.std.specs.List.{list_any}
use Rattle.oz_decision.specs.Walking.{is_live}
use Rattle.oz_fields.specs.declared.block.Block.{Block}
use Rattle.oz_locks.specs.Pins.{AreNamed, pinned_blocks, pins_in, untold}
use Rattle.oz_locks.specs.declared.pins.Pin.{Pin}
use Rattle.oz_model.specs.Reach.{IsReached}
use Rattle.oz_model.specs.laws.Members.{comes, joins, of_filtered, of_mapped, passing}
use Rattle.oz_namespace.specs.declared.namespace.Namespace.{Namespace}
use Rattle.oz_reclaim.specs.Origins.{HasSource}
use Rattle.oz_reclaim.specs.Reach.{is_shown}
use Rattle.oz_reclaim.specs.Reclaimable.{IsReclaimable}
use Rattle.oz_reclaim.specs.declared.sweep.found.Found.{Found}
use Rattle.oz_reclaim.specs.laws.Homes.{source_is_reached}
use Rattle.oz_reclaim.specs.laws.Reach.{among, contains, live_row, reached_is_shown, shown_is_reached}
use Rattle.oz_reclaim.specs.sweep.Found.{IsBacked, IsPartlyPinned, keyed}
use Rattle.oz_rows.specs.declared.key.RowKey.{RowKey}
use Rattle.oz_rows.specs.declared.key.RowKey.TheVariants as keys
use Rattle.oz_rows.specs.declared.row.Row.{Row}
use Rattle.oz_rows.specs.declared.row.Row.TheVariants as rows
use Rattle.oz_rows.specs.RowMaps.{Rows, is_block}
use Rattle.oz_rows.specs.Rows.{ValueFits, kind_of}
use Rattle.oz_sound.specs.Kept.{HasHome}
use Rattle.oz_sound.specs.Sound.{IsHome, SnapshotHas, StandsIn, blocks_of}
use Rattle.oz_core.specs.declared.event.Event.{Event}
use Rattle.oz_core.specs.declared.event.EventKind.{EventKind}
use Rattle.oz_core.specs.declared.event.EventKind.TheVariants.{Decide}
use Rattle.oz_core.specs.declared.opening.Opening.{Opening}
use Rattle.oz_core.specs.Asks.{is_told}
use Rattle.oz_core.specs.Law.{IsLegal}
use Rattle.oz_core.specs.Manager.{IsGarbage, last_index, named_by, namespace_of, pinned, pinned_by}
use Rattle.oz_core.specs.Scm.{is_logged}
use Rattle.oz_core.specs.Seats.{stripe_seat}
use Rattle.oz_core.specs.Stories.{mine}
use Rattle.oz_kept.specs.laws.Deleted.{legal_to, one_passes}
use Rattle.oz_kept.specs.laws.Reached.{in_none}
use Rattle.oz_store.specs.striped.Shares.{share_of}
use Rattle.oz_owned.specs.Own.{IsOwn}
use Rattle.oz_owned.specs.Stood.{StandAt, TablesStand}
use Rattle.oz_owned.specs.laws.Owned.{share_reached}
use Rattle.oz_owned.specs.laws.Staying.{garbage_still}
use Rattle.oz_owned.specs.laws.Swept.{logged_still}
use Rattle.oz_owned.specs.laws.Tables.{front_stood}
use Rattle.oz_service.specs.Looks.{AreLetGo, HasFoundAll, IsSweptBehind}

-- ---- a deleted row of which a block is out of reach

module _ (all : Rows) (namespace : Namespace) (backed : IsBacked all namespace) (v b k : List ℕ) (o l : ℕ) (blocks : List Block)
    (row : all (keys.Deleted v b o k l) ≡ Some (rows.Deleted blocks)) (block : Block) (has : Contains blocks block)
    (unreached : IsReached namespace block → ⊥) where
  stands : (one : Block) → Contains blocks one → StandsIn all one (keys.Deleted v b o k l)
  stands one there = record { row = rows.Deleted blocks; there = row; has = among one blocks there }

  -- its blocks stand in the same live snapshots
  in_snapshot : (other : Block) → Contains blocks other → (n : ℕ) (name : List ℕ) → SnapshotHas all v b n other name → ⊥
  in_snapshot other there n name it =
      let together = backed.blocks.deleted_together v b k o l other block (stands other there) (stands block has) n name it in
      unreached (shown_is_reached all namespace backed.stand block backed.fit
      (record { key = keys.SnapshotKey v b n together.0; shown = ap is_live together.1.live.2; stands = together.1.stands }))

  not_shown : (other : Block) → Contains blocks other → (key : RowKey) → is_shown all key ≡ true → StandsIn all other key → ⊥
  not_shown other there (keys.Key w c m) shown it =
      let same = backed.blocks.one_home other (keys.Deleted v b o k l) (keys.Key w c m) tt tt (stands other there) it in
      absurd (omega (arith, ap kind_of same))
  not_shown other there (keys.Open w c m n) shown it =
      let same = backed.blocks.one_home other (keys.Deleted v b o k l) (keys.Open w c m n) tt tt (stands other there) it in
      absurd (omega (arith, ap kind_of same))
  not_shown other there (keys.SnapshotKey w c n name) shown it =
      let same = same_Some (v, b) (w, c)
      (backed.blocks.one_bucket other (keys.Deleted v b o k l) (keys.SnapshotKey w c n name) (stands other there) it) in
      let has_it : SnapshotHas all w c n other name = record { live = live_row (all (keys.Snapshot w c n)) shown; stands = it } in
      in_snapshot other there n name
      (subst (λ (of : List ℕ × List ℕ). SnapshotHas all of.0 of.1 n other name) (sym same) has_it)
  not_shown other there key shown it = absurd (false≢true shown)

  -- so none of them is in reach
  row_away : (other : Block) → Contains blocks other → IsReached namespace other → ⊥
  row_away other there reached =
      let it = reached_is_shown all namespace backed.stand other reached in
      not_shown other there it.key it.shown it.stands

-- ---- what the look found

module _ (all : Rows) (namespace : Namespace) (backed : IsBacked all namespace) (pins : List Block) (found : Found)
    (it : HasFoundAll all pins found) (IsLet : Block → Type 0) (let_go : AreLetGo all found IsLet) (block : Block)
    (unreached : IsReached namespace block → ⊥) (unpinned : Contains pins block → ⊥) where
  module _ (v b k : List ℕ) (o l : ℕ) (blocks : List Block) (row : all (keys.Deleted v b o k l) ≡ Some (rows.Deleted blocks))
      (has : Contains blocks block) where
    away : (other : Block) → Contains blocks other → IsReached namespace other → ⊥
    away other there reached = row_away all namespace backed v b k o l blocks row block has unreached other there reached

    -- a row that may go was found
    if_free : ((other : Block) → Contains blocks other → Contains pins other → ⊥) → IsLet block
    if_free free =
        let may : IsReclaimable all namespace pins (keys.Deleted v b o k l) = record
        { blocks = blocks; row = row; unreached = λ other there. away other there; unpinned = λ other there. free other there } in
        ⊎_elim
        (λ there.
        let of = of_mapped keyed found.rows.items (keys.Deleted v b o k l) there in
        let_go of.0 blocks block of.1 (subst (λ (key : RowKey). all key ≡ Some (rows.Deleted blocks)) (sym of.2) row) has)
        (λ most.
        let long = length-map found.rows.items keyed in
        absurd (omega (arith, it.fewer, most.0, long)))
        (it.are.first namespace backed (keys.Deleted v b o k l) may)

    abbrev is_pinned : Block → Bool
    is_pinned other = list_any (is_block other) pins

    -- one that has a pinned block has no others
    if_pinned : (one : Block) → Contains blocks one → Contains pins one → ⊥
    if_pinned one there pinned_one =
        let partly : IsPartlyPinned all namespace pins = record {
          key = keys.Deleted v b o k l;
          blocks = blocks;
          row = row;
          unreached = λ other among_them. away other among_them;
          one = one;
          pinned_one = (there, pinned_one);
          other = block;
          free_one = (has, unpinned);
        } in
        false≢true (sym it.whole ∙ (it.are.partly namespace backed).1 partly)

    of_row : IsLet block
    of_row = by (list_any is_pinned blocks) refl
      where
        by : (t : Bool) → list_any is_pinned blocks ≡ t → IsLet block
        by true e =
            let one = passing is_pinned blocks e in
            absurd (if_pinned one.item one.there (contains one.item pins one.so))
        by false e = if_free (λ other there pinned_one.
            false≢true (sym e ∙ one_passes is_pinned blocks other there (among other pins pinned_one)))

  -- a block that has a home was let go
  home_let_go : HasHome all block → IsLet block
  home_let_go home = by home.key home.home home.here
    where
      deleted : (v b k : List ℕ) (o l : ℕ) (row : Row) → all (keys.Deleted v b o k l) ≡ Some row → ValueFits (keys.Deleted v b o k l) row
          → list_any (is_block block) (blocks_of row) ≡ true → IsLet block
      deleted v b k o l (rows.Deleted blocks) there fits here = of_row v b k o l blocks there (contains block blocks here)
      deleted v b k o l row there fits here = absurd fits

      source : HasSource all block → IsLet block
      source of = absurd (unreached (source_is_reached all backed.fit namespace backed.stand block of))

      by : (key : RowKey) → IsHome key → StandsIn all block key → IsLet block
      by (keys.Key w c m) is here = source (keys.Key w c m, tt, here)
      by (keys.Open w c m n) is here = source (keys.Open w c m n, tt, here)
      by (keys.Deleted w c n m i) is here =
          deleted w c m n i here.row here.there (backed.fit (keys.Deleted w c n m i) here.row here.there).1 here.has
      by key is here = absurd is

-- So it is of what was garbage at a front of the story at which the rows stood. What was logged there counts as let go too.
pub what_a_look_found_is_let_go : (opening : Opening) (loaded all : Rows) (stripe : ℕ) (front more : List Event) (pins : List Block)
    (found : Found) (IsLet : Block → Type 0) → IsLegal opening (front ++ more) → StandAt opening loaded stripe front all
    → ((block : Block) → Contains pins block → Contains (pinned (front ++ more)) block)
    → HasFoundAll all pins found → AreLetGo all found IsLet
    → ((block : Block) → is_logged opening front block ≡ true → IsLet block)
    → (block : Block) → IsOwn loaded stripe front block → IsGarbage opening front block → IsLet block
what_a_look_found_is_let_go opening loaded all stripe front more pins found IsLet legal stand pinned_there it let_go logged block own garbage =
    ⊎_elim
    (λ home. home_let_go all namespace backed pins found it IsLet let_go block
    (λ reached. garbage.unreached (share_reached stripe (namespace_of opening front) block reached).0)
    (λ has. (garbage_still opening front more block legal garbage).unpinned (pinned_there block has))
    home)
    (λ is. logged block is)
    (stand.kept_or_logged block own)
  where
    namespace : Namespace
    namespace = share_of stripe (namespace_of opening front)

    backed : IsBacked all namespace
    backed = record { fit = stand.stand.fit; blocks = stand.stand.sound.blocks; stand = stand.stand.stands }

-- So it is logged, where what the look found is.
pub what_a_look_found_is_logged : (opening : Opening) (loaded all : Rows) (stripe : ℕ) (front more later : List Event) (pins : List Block)
    (found : Found) → IsLegal opening ((front ++ more) ++ later) → StandAt opening loaded stripe front all
    → ((block : Block) → Contains pins block → Contains (pinned (front ++ more)) block)
    → HasFoundAll all pins found → AreLetGo all found (λ block. is_logged opening ((front ++ more) ++ later) block ≡ true)
    → (block : Block) → IsOwn loaded stripe front block → IsGarbage opening front block
    → is_logged opening ((front ++ more) ++ later) block ≡ true
what_a_look_found_is_logged opening loaded all stripe front more later pins found legal stand pinned_there it let_go =
    what_a_look_found_is_let_go opening loaded all stripe front more pins found (λ block. is_logged opening ((front ++ more) ++ later) block ≡ true)
    (legal_to opening [] (front ++ more) later legal) stand pinned_there it let_go
    (λ block is. logged_still opening (front ++ more) later block (logged_still opening front more block is))

-- ---- the pins of a stripe

-- what a stripe has pinned for lines that aren't told is pinned in the story
pub stripe_pins : (stripe : ℕ) (seen : List Event) (pins : List Pin) → AreNamed (mine (stripe_seat stripe) seen) pins
    → (block : Block) → Contains (pinned_blocks (untold seen pins)) block → Contains (pinned seen) block
stripe_pins stripe seen pins named block has =
    let of = of_mapped (λ (pin : Pin). pin.block) (untold seen pins) block has in
    let pin = of.0 in
    let kept = of_filtered (λ (pin : Pin). not (is_told pin.client pin.line seen)) pins pin of.1 in
    let from = comes (λ (event : Event). pins_in event.kind) (mine (stripe_seat stripe) seen) pin (named pin kept.0) in
    let event = from.item in
    let there = (of_filtered (λ (event : Event). event.seat == stripe_seat stripe) seen event from.there).0 in
    joins (λ (event : Event). pinned_by seen event.kind) seen event block there
    (subst (Contains (pinned_by seen event.kind)) of.2 (by event.kind pin from.has kept.1))
  where
    by : (kind : EventKind) (pin : Pin) → Contains (pins_in kind) pin → not (is_told pin.client pin.line seen) ≡ true
        → Contains (pinned_by seen kind) pin.block
    by (Decide id index reply batch) pin there untold_pin =
        let of = of_mapped (λ (block : Block). record { block = block; client = id.client; line = id.line }) (named_by reply) pin there in
        test (is_told id.client id.line seen) refl pin of.0 of.1 of.2 untold_pin
      where
        test : (t : Bool) → is_told id.client id.line seen ≡ t → (pin : Pin) (block : Block) → Contains (named_by reply) block
            → record { block = block; client = id.client; line = id.line } ≡ pin → not (is_told pin.client pin.line seen) ≡ true
            → Contains (cond t [] (named_by reply)) pin.block
        test true e pin block there same none =
            let told = subst (λ (pin : Pin). not (is_told pin.client pin.line seen) ≡ true) (sym same) none in
            absurd (false≢true (sym (ap not e) ∙ told))
        test false e pin block there same none = subst (λ (pin : Pin). Contains (named_by reply) pin.block) same there
    by kind pin there untold_pin = absurd (in_none pin there)

-- ---- a swept stripe

-- The look had the tables to which the stripe was brought up to an index, no lower than the last at the start.
pub a_look_sweeps_its_stripe : (opening : Opening) (loaded tables : Rows) (stripe most : ℕ) (start rest later : List Event)
    (pins : List Block) (found : Found) → IsLegal opening ((start ++ rest) ++ later) → last_index opening start ≤ most
    → TablesStand opening loaded stripe (start ++ rest) most tables
    → ((block : Block) → Contains pins block → Contains (pinned (start ++ rest)) block) → HasFoundAll tables pins found
    → AreLetGo tables found (λ block. is_logged opening ((start ++ rest) ++ later) block ≡ true)
    → IsSweptBehind opening loaded stripe start ((start ++ rest) ++ later)
a_look_sweeps_its_stripe opening loaded tables stripe most start rest later pins found legal le stood pinned_there it let_go = record {
  between = between;
  behind = more ++ later;
  parts = ap (λ (l : List Event). l ++ later) split ∙ append_assoc (start ++ between) more later;
  logged = λ block own garbage.
      subst (λ (l : List Event). is_logged opening (l ++ later) block ≡ true) (sym split)
      (what_a_look_found_is_logged opening loaded tables stripe (start ++ between) more later pins found
      (subst (λ (l : List Event). IsLegal opening (l ++ later)) split legal)
      (subst (λ (l : List Event). StandAt opening loaded stripe l tables) longer.1
      (front_stood (StandAt opening loaded stripe) opening loaded stripe (start ++ rest) most tables stood))
      (λ one has. subst (λ (l : List Event). Contains (pinned l) one) split (pinned_there one has)) it
      (λ row blocks one among_them is has.
      subst (λ (l : List Event). is_logged opening (l ++ later) one ≡ true) split (let_go row blocks one among_them is has))
      block own garbage);
}
  where
    longer : (between : List Event) × (stood.front ≡ start ++ between)
    longer = stood.is_front.longest start rest refl le

    between : List Event
    between = longer.0

    more : List Event
    more = stood.is_front.behind

    split : start ++ rest ≡ (start ++ between) ++ more
    split = stood.is_front.parts ∙ ap (λ (l : List Event). l ++ more) longer.1

-- A stripe that was swept behind a start stays so as the story goes on.
pub swept_still : (opening : Opening) (loaded : Rows) (stripe : ℕ) (start story more : List Event) → IsSweptBehind opening loaded stripe start story
    → IsSweptBehind opening loaded stripe start (story ++ more)
swept_still opening loaded stripe start story more swept = record {
  between = swept.between;
  behind = swept.behind ++ more;
  parts = ap (λ (l : List Event). l ++ more) swept.parts ∙ append_assoc (start ++ swept.between) swept.behind more;
  logged = λ block own garbage. logged_still opening story more block (swept.logged block own garbage);
}
