-- The rows of all stripes together stand for the namespace, and a batch of one stripe is one of them.
use Rattle.std.proofs.Common.{◌≡◌, ℕ, ◌<◌, ◌≤◌, Bool, true, false, List, [], ◌∷◌, map, None, IsSome, cond, refl, sym, ◌∙◌, ap, subst}
use mathlib.Core.Bool.{false≢true}
use Rattle.std.proofs.lemmas.Bool.{eq-eqb, eqb-true, le-ltb, lt-ltb, ltb-true}
use Rattle.std.specs.Prelude.{nat_lt, ◌||◌}
use Rattle.std.specs.List.{list_any}
use Rattle.oz_core.specs.declared.event.Event.{Event}
use Rattle.oz_core.specs.declared.opening.Opening.{Opening}
use Rattle.oz_core.specs.Contents.{OpeningBytes}
use Rattle.oz_core.specs.Law.{IsLegal}
use Rattle.oz_core.specs.Manager.{namespace_of}
use Rattle.oz_decision.specs.Meets.{AreInGrammar}
use Rattle.oz_effects.specs.Batches.{IsBatchOf}
use Rattle.oz_effects.specs.Effects.{Leads, has_block}
use Rattle.oz_fields.specs.declared.block.Block.{Block}
use Rattle.oz_fields.specs.declared.block.Piece.{Piece}
use Rattle.oz_names.specs.declared.limits.TheConstants.{STRIPES}
use Rattle.oz_owned.specs.Stood.{DropsFirst, IsBatchOfStripe, StandAt}
use Rattle.oz_rows.specs.declared.entry.RowEntry.{RowEntry}
use Rattle.oz_rows.specs.declared.key.RowKey.{RowKey}
use Rattle.oz_rows.specs.declared.key.RowKey.TheVariants as keys
use Rattle.oz_rows.specs.declared.row.Row.{Row}
use Rattle.oz_rows.specs.declared.row.Row.TheVariants as values
use Rattle.oz_rows.specs.declared.operation.Change.{Change}
use Rattle.oz_rows.specs.declared.operation.Operation.{Operation}
use Rattle.oz_rows.specs.RowMaps.{AreRows, Rows, is_block, row_of}
use Rattle.oz_sound.specs.Sound.{IsSound, StandsIn, blocks_of}
use Rattle.oz_sound.specs.StandsFor.{StandsFor}
use Rattle.oz_store.specs.Store.{IsStore}
use Rattle.oz_sound.specs.stripes.Parts.{IsApart}
use Rattle.oz_sound.specs.stripes.Stripes.{AllApart, is_own, only, stripe_of_key}
use Rattle.oz_sound.specs.stripes.laws.Leading.{batch_of_all}
use Rattle.oz_store.specs.striped.Shares.{share_of}
use Rattle.oz_store.specs.striped.laws.Rows.{standing_has_all}
use Rattle.oz_store.specs.striped.laws.Stories.{story_has_all}
use Rattle.oz_headline.specs.restored.Together.{StandTogether, together}
use Rattle.oz_headline.specs.restored.laws.Apart.{stripes_apart}
use Rattle.oz_headline.specs.restored.laws.Sound.{its_own, parts_are_sound, stands_from}
use Rattle.oz_headline.specs.restored.laws.Stand.{parts_stand}

-- ---- the union

pub one_of_few : (rows : ℕ → Rows) (key : RowKey) → stripe_of_key key < STRIPES → together rows key ≡ rows (stripe_of_key key) key
one_of_few rows key few = ap (λ (t : Bool). cond t (rows (stripe_of_key key) key) None) (lt-ltb (stripe_of_key key) STRIPES few)

pub none_of_more : (rows : ℕ → Rows) (key : RowKey) → STRIPES ≤ stripe_of_key key → together rows key ≡ None
none_of_more rows key more = ap (λ (t : Bool). cond t (rows (stripe_of_key key) key) None) (le-ltb (stripe_of_key key) STRIPES more)

is_of_few : (rows : ℕ → Rows) (key : RowKey) → IsSome (together rows key) → stripe_of_key key < STRIPES
is_of_few rows key has = by (nat_lt (stripe_of_key key) STRIPES) refl has
  where
    by : (t : Bool) → nat_lt (stripe_of_key key) STRIPES ≡ t → IsSome (cond t (rows (stripe_of_key key) key) None) → stripe_of_key key < STRIPES
    by true e some = ltb-true (stripe_of_key key) STRIPES e
    by false e some = absurd (false≢true some)

pub same_together : (rows next : ℕ → Rows) → ((stripe : ℕ) → stripe < STRIPES → next stripe ≡ rows stripe) → together next ≡ together rows
same_together rows next same = λ i key. each key (nat_lt (stripe_of_key key) STRIPES) refl i
  where
    each : (key : RowKey) (t : Bool) → nat_lt (stripe_of_key key) STRIPES ≡ t
        → cond t (next (stripe_of_key key) key) None ≡ cond t (rows (stripe_of_key key) key) None
    each key true e = ap (λ (r : Rows). r key) (same (stripe_of_key key) (ltb-true (stripe_of_key key) STRIPES e))
    each key false e = refl

-- ---- a block of a key row

any_in : (block : Block) (pieces : List Piece)
    → list_any (λ (piece : Piece). is_block block piece.block) pieces ≡ list_any (is_block block) (map (λ (piece : Piece). piece.block) pieces)
any_in block [] = refl
any_in block (piece ∷ pieces) = ap (λ (t : Bool). is_block block piece.block || t) (any_in block pieces)

names_it : (block : Block) (key : RowKey) (row : Row) → has_block block key row ≡ true → list_any (is_block block) (blocks_of row) ≡ true
names_it block (keys.Key volume bucket key) (values.Key made pieces) has = sym (any_in block pieces) ∙ has
names_it block key row has = absurd (false≢true has)

-- ---- rows that are each of its own stripe

module _ (rows : ℕ → Rows) (own : (stripe : ℕ) → stripe < STRIPES → (key : RowKey) → is_own stripe key ≡ false → rows stripe key ≡ None) where
  pub only_is : (stripe : ℕ) → stripe < STRIPES → only stripe (together rows) ≡ rows stripe
  only_is stripe few = λ i key. each key (is_own stripe key) refl i
    where
      each : (key : RowKey) (t : Bool) → is_own stripe key ≡ t → cond t (together rows key) None ≡ rows stripe key
      each key true e =
          let its = eqb-true (stripe_of_key key) stripe e in
          one_of_few rows key (subst (λ (n : ℕ). n < STRIPES) (sym its) few) ∙ ap (λ (n : ℕ). rows n key) its
      each key false e = sym (own stripe few key e)

  module _ (opening : Opening) (bytes : OpeningBytes) (loaded : Rows) (store : IsStore loaded opening bytes) (fit : AreInGrammar loaded)
      (story : List Event) (legal : IsLegal opening story)
      (stand : (stripe : ℕ) → stripe < STRIPES → StandAt opening loaded stripe story (rows stripe)) where
    abbrev all : Rows
    all = together rows

    in_its : (block : Block) (key : RowKey) → StandsIn all block key → StandsIn (rows (stripe_of_key key)) block key
    in_its block key it =
        let few = is_of_few rows key (subst IsSome (sym it.there) refl) in
        record { row = it.row; there = sym (one_of_few rows key few) ∙ it.there; has = it.has }

    apart : (block twin : Block) (key other : RowKey) → StandsIn all block key → StandsIn all twin other → block.local ≡ twin.local
        → stripe_of_key key ≡ stripe_of_key other
    apart block twin key other one two same =
        let few = is_of_few rows key (subst IsSome (sym one.there) refl) in
        let also = is_of_few rows other (subst IsSome (sym two.there) refl) in
        stripes_apart opening loaded fit store.sound store.rows story legal (stripe_of_key key) (stripe_of_key other) (rows (stripe_of_key key))
        (rows (stripe_of_key other))
        (stand (stripe_of_key key) few).old (stand (stripe_of_key other) also).old block twin key other (in_its block key one) (in_its twin other two) same

    all_fit : AreInGrammar all
    all_fit key row is =
        let few = is_of_few rows key (subst IsSome (sym is) refl) in
        (stand (stripe_of_key key) few).stand.fit key row (sym (one_of_few rows key few) ∙ is)

    sound_part : (stripe : ℕ) → stripe < STRIPES → IsSound (only stripe all)
    sound_part stripe few = subst IsSound (sym (only_is stripe few)) (stand stripe few).stand.sound

    stand_part : (stripe : ℕ) → stripe < STRIPES → StandsFor (only stripe all) (share_of stripe (namespace_of opening story))
    stand_part stripe few =
        subst (λ (r : Rows). StandsFor r (share_of stripe (namespace_of opening story))) (sym (only_is stripe few)) (stand stripe few).stand.stands

    few_rows : (key : RowKey) → IsSome (all key) → stripe_of_key key < STRIPES
    few_rows key has = is_of_few rows key has

    pub union_stands : StandTogether opening loaded story (together rows)
    union_stands = record {
      whole = record {
        fit = all_fit;
        stands = parts_stand all (namespace_of opening story) (story_has_all opening story (standing_has_all loaded opening.namespace store.stands)) stand_part;
        sound = parts_are_sound all few_rows sound_part apart;
      };
      parts = λ stripe few. subst (λ (r : Rows). StandAt opening loaded stripe story r) (sym (only_is stripe few)) (stand stripe few);
    }

    -- ---- a batch of one stripe

    keys_apart : (stripe : ℕ) → (before : List RowEntry) → AreRows before (only stripe all) → (volume bucket : List ℕ)
        → IsApart (is_own stripe) (row_of before) all volume bucket
    keys_apart stripe before are volume bucket key number blocks block other row opened has outside is = by (has_block block other row) refl
      where
        there : StandsIn (only stripe all) block (keys.Open volume bucket key number)
        there = record { row = values.Open blocks; there = sym (are.rows_are (keys.Open volume bucket key number)) ∙ opened; has = has }

        clash : has_block block other row ≡ true → ⊥
        clash so =
            let beside : StandsIn all block other = record { row = row; there = is; has = names_it block other row so } in
            let same = apart block block (keys.Open volume bucket key number) other
            (stands_from all stripe block (keys.Open volume bucket key number) there) beside refl in
            let its = its_own all stripe (keys.Open volume bucket key number) (subst IsSome (sym there.there) refl) in
            false≢true (sym outside ∙ eq-eqb (stripe_of_key other) stripe (sym same ∙ its))

        by : (t : Bool) → has_block block other row ≡ t → has_block block other row ≡ false
        by true e = absurd (clash e)
        by false e = e

    items_apart : (stripe : ℕ) (items : List Operation) → DropsFirst items → AllApart stripe all items
    unfolding Leads
    items_apart stripe items first earlier later volume bucket before between is are leads =
        let none = first earlier later volume bucket is in
        let same : between ≡ before = subst (λ (l : List Operation). Leads before l between) none leads in
        subst (λ (l : List RowEntry). IsApart (is_own stripe) (row_of l) all volume bucket) (sym same) (keys_apart stripe before are volume bucket)

    of_all : (stripe : ℕ) (batch : List ℕ) (changes : List Change) → IsBatchOfStripe stripe (only stripe all) batch changes → IsBatchOf all batch changes
    of_all stripe batch changes it =
        batch_of_all stripe all batch changes it.batch it.operations_own it.changes_own (items_apart stripe it.batch.items it.drops_first)

    pub union_batch : (stripe : ℕ) → stripe < STRIPES → (batch : List ℕ) (changes : List Change) → IsBatchOfStripe stripe (rows stripe) batch changes
        → IsBatchOf (together rows) batch changes
    union_batch stripe few batch changes it =
        of_all stripe batch changes (subst (λ (r : Rows). IsBatchOfStripe stripe r batch changes) (sym (only_is stripe few)) it)
