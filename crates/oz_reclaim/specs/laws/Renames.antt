-- What renamed rows say stays so as a key gets another name.
use Rattle.std.proofs.Common.{
  ◌≡◌,
  ◌≢◌,
  ◌⊎◌,
  inl,
  inr,
  ⊎_elim,
  ℕ,
  zero,
  suc,
  ◌+◌,
  ◌<◌,
  ◌≤◌,
  Bool,
  true,
  false,
  List,
  Option,
  None,
  Some,
  IsSome,
  is_some,
  refl,
  sym,
  ◌∙◌,
  ap,
  subst,
  arith,
}
use mathlib.Core.Bool.{false≢true}
use Rattle.std.proofs.lemmas.Bool.{cases_lt}
use Rattle.std.specs.Cmp.Lexicographic.{same_text, other_text}
use Rattle.oz_decision.specs.Meets.{AreInGrammar}
use Rattle.oz_fields.specs.declared.block.Block.{Block}
use Rattle.oz_model.specs.Buckets.{is_same_name}
use Rattle.oz_names.specs.Names.{stripe_of}
use Rattle.oz_reclaim.specs.Moves.{DeletedMove, IsSteady}
use Rattle.oz_reclaim.specs.Origins.{HasSource, IsSource, RowsComeFrom}
use Rattle.oz_reclaim.specs.Renames.{KeyRenamed, NamesNoted, NotesName}
use Rattle.oz_rows.specs.declared.key.RowKey.{RowKey}
use Rattle.oz_rows.specs.declared.key.RowKey.TheVariants as keys
use Rattle.oz_rows.specs.declared.row.Row.{Row}
use Rattle.oz_rows.specs.declared.row.Row.TheVariants as rows
use Rattle.oz_rows.specs.Rows.{ValueFits}
use Rattle.oz_rows.specs.RowMaps.{Rows, is_same}
use Rattle.oz_rows.specs.laws.Same.{same_is_one}
use Rattle.oz_sound.specs.Sound.{BlocksAreSound, ComesBehind, IsNamedAnew, IsRename, IsSoundButRenames, NumbersAreSound, RenamesAreSound, SnapshotHas, StandsIn}
use Rattle.oz_sound.specs.StandsFor.{drawn_in}

-- ---- the first of numbers that pass a test

abbrev IsFirstAbove : (ℕ → Bool) → ℕ → ℕ → Type 0
IsFirstAbove test n m = (n < m) × (test m ≡ true) × ((other : ℕ) → n < other → test other ≡ true → m ≤ other)

first_above : (test : ℕ → Bool) (room n : ℕ) → ((m : ℕ) × IsFirstAbove test n m) ⊎ ((other : ℕ) → n < other → other ≤ n + room → test other ≡ true → ⊥)
first_above test zero n = inr (λ other above most is. omega (arith, above, most))
first_above test (suc room) n = by (test (suc n)) refl (first_above test room (suc n))
  where
    apart : (other : ℕ) → n < other → (other ≡ suc n) ⊎ (suc n < other)
    apart other above = ⊎_elim (λ lt. inr lt) (λ le. inl (omega (arith, above, le))) (cases_lt (suc n) other)

    by : (t : Bool) → test (suc n) ≡ t → ((m : ℕ) × IsFirstAbove test (suc n) m) ⊎ ((other : ℕ) → suc n < other → other ≤ suc n + room → test other ≡ true → ⊥)
        → ((m : ℕ) × IsFirstAbove test n m) ⊎ ((other : ℕ) → n < other → other ≤ n + suc room → test other ≡ true → ⊥)
    by true e later = inl (suc n, (omega arith, e, λ other above is. omega (arith, above)))
    by false e (inl (m, (above, is, least))) =
        inl (
          m,
          (
            omega (arith, above),
            is,
            λ other lt passes. ⊎_elim (λ same. absurd (false≢true (sym e ∙ ap test (sym same) ∙ passes)))
                (λ gt. least other gt passes) (apart other lt),
          ),
        )
    by false e (inr none) =
        inr (λ other lt most passes. ⊎_elim (λ same. absurd (false≢true (sym e ∙ ap test (sym same) ∙ passes)))
        (λ gt. none other gt (omega (arith, most)) passes) (apart other lt))

-- ---- where a renamed row is behind a snapshot, there is a first one

name_of : (v b : List ℕ) (o l : ℕ) (row : Row) → ValueFits (keys.Renamed v b o l) row → (name : List ℕ) × (row ≡ rows.Renamed name)
name_of v b o l (rows.Renamed name) fits = (name, refl)
name_of v b o l row fits = absurd fits

module _ (all : Rows) (fit : AreInGrammar all) (v b : List ℕ) (n l most : ℕ)
    (under : (owner : ℕ) → IsSome (all (keys.Renamed v b owner l)) → owner ≤ most) where
  abbrev has : ℕ → Bool
  has owner = is_some (all (keys.Renamed v b owner l))

  named : (owner : ℕ) (o : Option Row) → all (keys.Renamed v b owner l) ≡ o → is_some o ≡ true → (name : List ℕ)
      × (all (keys.Renamed v b owner l) ≡ Some (rows.Renamed name))
  named owner None e some = absurd (false≢true some)
  named owner (Some row) e some = let its = name_of v b owner l row (fit (keys.Renamed v b owner l) row e).1 in (its.0, e ∙ ap Some its.1)

  pub first_rename : (owner : ℕ) → ComesBehind n owner → IsSome (all (keys.Renamed v b owner l)) → (first : ℕ) × (name : List ℕ)
      × IsRename all v b n l first name
  first_rename owner behind some = ⊎_elim later last (first_above has most n)
    where
      later : ((m : ℕ) × IsFirstAbove has n m) → (first : ℕ) × (name : List ℕ) × IsRename all v b n l first name
      later (m, (above, is, least)) =
          let its = named m (all (keys.Renamed v b m l)) refl is in (
            m,
            its.0,
            record {
              row = its.1;
              behind = inr above;
              first = λ other behind_too there apart. (
                (λ none. omega (arith, above, none)),
                ⊎_elim (λ none. inl none)
                    (λ gt. inr (⊎_elim (λ lt. lt) (λ le. absurd (apart (let no_less = least other gt there in omega (arith, no_less, le))))
                    (cases_lt m other))) behind_too,
              );
            },
          )

      last : ((other : ℕ) → n < other → other ≤ n + most → has other ≡ true → ⊥) → (first : ℕ) × (name : List ℕ) × IsRename all v b n l first name
      last none = ⊎_elim
          (λ none_left.
          let its = named 0 (all (keys.Renamed v b 0 l)) refl (ap has (sym none_left) ∙ some) in (
            0,
            its.0,
            record {
              row = its.1;
              behind = inl refl;
              first = λ other behind_too there apart. ⊎_elim
                  (λ same. absurd (apart same))
                  (λ gt. absurd (none other gt (let low = under other there in omega (arith, low)) there))
                  behind_too;
            },
          ))
          (λ gt. absurd (none owner gt (let low = under owner some in omega (arith, low)) some))
          behind

-- each owner of a renamed row was drawn
pub under_drawn : (all : Rows) → NumbersAreSound all → (v b : List ℕ) (l owner : ℕ) → IsSome (all (keys.Renamed v b owner l))
    → owner ≤ drawn_in (all (keys.Stripe (stripe_of v)))
under_drawn all numbers v b l zero some = omega arith
under_drawn all numbers v b l (suc owner) some = numbers.snapshots v b (suc owner) (numbers.renamed v b (suc owner) l some (λ e. omega (arith, e)))

-- ---- a key gets another name

module _ (all now : Rows) (v b k to : List ℕ) (is : KeyRenamed all now v b k to) (fit : AreInGrammar now) (blocks : BlocksAreSound all)
    (numbers : NumbersAreSound all) where
  has_before : (w c name : List ℕ) (n : ℕ) (block : Block) → SnapshotHas now w c n block name → SnapshotHas all w c n block name
  has_before w c name n block has = record {
    live = (has.live.0, has.live.1, sym (is.beside (keys.Snapshot w c n) tt) ∙ has.live.2);
    stands = record { row = has.stands.row; there = sym (is.beside (keys.SnapshotKey w c n name) tt) ∙ has.stands.there; has = has.stands.has };
  }

  none_some : {P : Type 0} {o : Option Row} → o ≡ None → IsSome o → P
  none_some none some = absurd (false≢true (sym (ap is_some none) ∙ some))

  still : (w c : List ℕ) (o l : ℕ) → IsSome (all (keys.Renamed w c o l)) → IsSome (now (keys.Renamed w c o l))
  still w c o l some = ⊎_elim (λ same. subst IsSome (sym same) some) (λ notes. none_some notes.none_before some) (is.renamed w c o l)

  under : (w c : List ℕ) (l o : ℕ) → IsSome (now (keys.Renamed w c o l)) → o ≤ drawn_in (all (keys.Stripe (stripe_of w)))
  under w c l o some = ⊎_elim
      (λ same. under_drawn all numbers w c l o (subst IsSome same some))
      (λ notes. let place = notes.its_place in let owner : o ≡ 0 = cc in omega (arith, owner))
      (is.renamed w c o l)

  first_now : (w c : List ℕ) (n l owner : ℕ) → ComesBehind n owner → IsSome (now (keys.Renamed w c owner l)) → (first : ℕ) × (name : List ℕ)
      × IsRename now w c n l first name
  first_now w c n l owner behind some =
      first_rename now fit w c n l (drawn_in (all (keys.Stripe (stripe_of w)))) (λ o there. under w c l o there) owner behind some

  module _ (renames : RenamesAreSound all) where
    renamed_now : (w c name another : List ℕ) (n owner : ℕ) (block : Block) → SnapshotHas now w c n block name
        → IsRename now w c n block.local owner another → another ≡ name
    renamed_now w c name another n owner block has rename = ⊎_elim as_before as_noted (is.renamed w c owner block.local)
      where
        its : SnapshotHas all w c n block name
        its = has_before w c name n block has

        as_before : now (keys.Renamed w c owner block.local) ≡ all (keys.Renamed w c owner block.local) → another ≡ name
        as_before same = renames.renamed w c name another n owner block its (record {
          row = sym same ∙ rename.row;
          behind = rename.behind;
          first = λ other behind some apart. rename.first other behind (still w c other block.local some) apart;
        })

        as_noted : NotesName all now v b k (keys.Renamed w c owner block.local) → another ≡ name
        as_noted notes = by (is_same_name k name) refl
          where
            at : keys.Renamed w c owner block.local ≡ keys.Renamed v b 0 notes.block.local
            at = notes.its_place

            volume : w ≡ v
            volume = let e = at in cc

            bucket : c ≡ b
            bucket = let e = at in cc

            no_owner : owner ≡ 0
            no_owner = let e = at in cc

            local : block.local ≡ notes.block.local
            local = let e = at in cc

            same_block : block ≡ notes.block
            same_block = blocks.one_local block notes.block (keys.SnapshotKey w c n name) (keys.Key v b k) its.stands notes.stands local

            in_key : StandsIn all block (keys.Key w c k)
            in_key = subst (λ x. StandsIn all x (keys.Key w c k)) (sym same_block)
                (subst (λ (x : List ℕ × List ℕ). StandsIn all notes.block (keys.Key x.0 x.1 k)) (λ i. (sym volume i, sym bucket i)) notes.stands)

            old_name : another ≡ k
            old_name = let rows_are = sym rename.row ∙ notes.row in cc

            none : (other : ℕ) → ComesBehind n other → IsSome (all (keys.Renamed w c other block.local)) → ⊥
            none other behind some = by_test (cases other)
              where
                cases : (other : ℕ) → (other ≡ 0) ⊎ (other ≢ 0)
                cases zero = inl refl
                cases (suc m) = inr (λ e. omega (arith, e))

                by_test : ((other ≡ 0) ⊎ (other ≢ 0)) → ⊥
                by_test (inl e) = none_some (ap (λ x. all (keys.Renamed w c x block.local)) (e ∙ sym no_owner) ∙ notes.none_before) some
                by_test (inr e) = (rename.first other behind (still w c other block.local some) (λ same. e (same ∙ no_owner))).0 no_owner

            by : (t : Bool) → is_same_name k name ≡ t → another ≡ name
            by true e = old_name ∙ same_text k name (sym e)
            by false e =
                let found = renames.noted w c name n block its (inr (k, in_key, other_text k name (sym e))) in
                absurd (none found.0 found.2.behind (ap is_some found.2.row))

    -- a rename that was behind a snapshot is, or one before it
    still_noted : (w c : List ℕ) (n l : ℕ) → ((owner : ℕ) × (another : List ℕ) × IsRename all w c n l owner another) → (owner : ℕ) × (another : List ℕ)
        × IsRename now w c n l owner another
    still_noted w c n l (owner, another, rename) = first_now w c n l owner rename.behind (still w c owner l (ap is_some rename.row))

    noted_now : (w c name : List ℕ) (n : ℕ) (block : Block) → SnapshotHas now w c n block name → IsNamedAnew now w c n block name → (owner : ℕ)
        × (another : List ℕ) × IsRename now w c n block.local owner another
    noted_now w c name n block has (inl (later, another, above, has_later, apart)) =
        still_noted w c n block.local
        (renames.noted w c name n block (has_before w c name n block has)
        (inl (later, another, above, has_before w c another later block has_later, apart)))
    noted_now w c name n block has (inr (another, stands, apart)) =
        by (is_same (keys.Key v b k) (keys.Key w c another)) refl (is_same (keys.Key v b to) (keys.Key w c another)) refl
      where
        by : (s : Bool) → is_same (keys.Key v b k) (keys.Key w c another) ≡ s → (t : Bool) → is_same (keys.Key v b to) (keys.Key w c another) ≡ t
            → (owner : ℕ) × (name : List ℕ) × IsRename now w c n block.local owner name
        by true e t f = none_some (ap now (sym (same_is_one (keys.Key v b k) (keys.Key w c another) e)) ∙ is.gone) (ap is_some stands.there)
        by false e true f =
            let same = same_is_one (keys.Key v b to) (keys.Key w c another) f in
            let volume : v ≡ w = cc in
            let bucket : b ≡ c = cc in
            let in_key : StandsIn all block (keys.Key v b k) =
            record { row = stands.row; there = sym is.moved ∙ ap now same ∙ stands.there; has = stands.has } in
            let its : SnapshotHas all v b n block name =
            subst (λ (x : List ℕ × List ℕ). SnapshotHas all x.0 x.1 n block name) (λ i. (sym volume i, sym bucket i))
            (has_before w c name n block has) in
            first_now w c n block.local 0 (inl refl)
            (subst (λ (x : List ℕ × List ℕ). IsSome (now (keys.Renamed x.0 x.1 0 block.local))) (λ i. (volume i, bucket i))
            (is.noted block n name in_key its))
        by false e false f =
            still_noted w c n block.local
            (renames.noted w c name n block (has_before w c name n block has)
            (inr (another, record { row = stands.row; there = sym (is.others w c another e f) ∙ stands.there; has = stands.has }, apart)))

    pub rename_keeps : RenamesAreSound now
    rename_keeps = record { renamed = renamed_now; noted = noted_now }

  -- where rows come from as a key gets another name
  pub rename_comes : RowsComeFrom all now None
  rename_comes = record {
    deleted = λ w c q o l row there. inl (o, sym (is.beside (keys.Deleted w c o q l) tt) ∙ there);
    renamed = λ w c o l row there. ⊎_elim (λ same. inl (o, sym same ∙ there)) (λ notes. inr (noted_block w c o l notes)) (is.renamed w c o l);
    sources = λ block has. inl (source block has.0 has.1 has.2);
  }
    where
      noted_block : (w c : List ℕ) (o l : ℕ) → NotesName all now v b k (keys.Renamed w c o l) → (block : Block) × (key : List ℕ) × (block.local ≡ l)
          × StandsIn all block (keys.Key w c key)
      noted_block w c o l notes =
          let place = notes.its_place in
          let volume : w ≡ v = cc in
          let bucket : c ≡ b = cc in
          let local : l ≡ notes.block.local = cc in (
            notes.block,
            k,
            sym local,
            subst (λ (x : List ℕ × List ℕ). StandsIn all notes.block (keys.Key x.0 x.1 k))
                (λ i. (sym volume i, sym bucket i)) notes.stands,
          )

      of_key : (block : Block) (w c q : List ℕ) → StandsIn now block (keys.Key w c q) → (s : Bool) → is_same (keys.Key v b k) (keys.Key w c q) ≡ s
          → (t : Bool) → is_same (keys.Key v b to) (keys.Key w c q) ≡ t → HasSource all block
      of_key block w c q stands true e t f = none_some (ap now (sym (same_is_one (keys.Key v b k) (keys.Key w c q) e)) ∙ is.gone) (ap is_some stands.there)
      of_key block w c q stands false e true f = (
        keys.Key v b k,
        tt,
        record {
          row = stands.row;
          there = sym is.moved ∙ ap now (same_is_one (keys.Key v b to) (keys.Key w c q) f) ∙ stands.there;
          has = stands.has;
        },
      )
      of_key block w c q stands false e false f =
          (keys.Key w c q, tt, record { row = stands.row; there = sym (is.others w c q e f) ∙ stands.there; has = stands.has })

      source : (block : Block) (key : RowKey) → IsSource key → StandsIn now block key → HasSource all block
      source block (keys.Key w c q) of stands =
          of_key block w c q stands (is_same (keys.Key v b k) (keys.Key w c q)) refl (is_same (keys.Key v b to) (keys.Key w c q)) refl
      source block (keys.Open w c q n) of stands =
          (keys.Open w c q n, tt, record { row = stands.row; there = sym (is.beside (keys.Open w c q n) tt) ∙ stands.there; has = stands.has })
      source block key of stands = absurd of

-- ---- names are noted

-- No block moves as names are noted: what holds of deleted rows that move holds then.
pub noting_moves : (all now : Rows) → NamesNoted all now → IsSoundButRenames all → DeletedMove all now
noting_moves all now noted sound = record {
  steady = steady;
  snapshots = λ w c n there. subst IsSome (noted.others (keys.Snapshot w c n) (λ e. omega (arith, e))) there;
  live = λ w c n live. noted.others (keys.Snapshot w c n) (λ e. omega (arith, e));
  live_keys = λ w c k n live. noted.others (keys.SnapshotKey w c n k) (λ e. omega (arith, e));
  snapshot_keys = λ w c k n row there.
      let was = sym (noted.others (keys.SnapshotKey w c n k) (λ e. omega (arith, e))) ∙ there in
      (was, snapshot_there w c n (sound.numbers.snapshot_keys w c k n (ap is_some was)));
  owner_now = λ w c owner. owner;
  came = λ w c k o l row there. (o, refl, sym (noted.others (keys.Deleted w c o k l) (λ e. omega (arith, e))) ∙ there);
  stays = λ w c k o l row there. inl (noted.others (keys.Deleted w c o k l) (λ e. omega (arith, e)) ∙ there);
  deleted_owners = λ w c k o l some apart. snapshot_there w c o
      (sound.numbers.deleted w c k o l (subst IsSome (noted.others (keys.Deleted w c o k l) (λ e. omega (arith, e))) some) apart);
  renamed_owners = λ w c o l some apart. ⊎_elim (λ had. snapshot_there w c o (sound.numbers.renamed w c o l had apart)) (λ none. absurd (apart none))
      (noted.owners w c o l some);
}
  where
    snapshot_there : (w c : List ℕ) (n : ℕ) → IsSome (all (keys.Snapshot w c n)) → IsSome (now (keys.Snapshot w c n))
    snapshot_there w c n there = subst IsSome (sym (noted.others (keys.Snapshot w c n) (λ e. omega (arith, e)))) there

    steady : (place : RowKey) → IsSteady place → now place ≡ all place
    steady (keys.Volume w) is = noted.others (keys.Volume w) (λ e. omega (arith, e))
    steady (keys.Bucket w c) is = noted.others (keys.Bucket w c) (λ e. omega (arith, e))
    steady (keys.Key w c k) is = noted.others (keys.Key w c k) (λ e. omega (arith, e))
    steady (keys.Open w c k n) is = noted.others (keys.Open w c k n) (λ e. omega (arith, e))
    steady (keys.Stripe s) is = noted.others (keys.Stripe s) (λ e. omega (arith, e))
    steady place is = absurd is
