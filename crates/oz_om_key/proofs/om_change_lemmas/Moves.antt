-- The blocks of a deleted key move to a deleted row.
use Rattle.std.proofs.Common.{◌≡◌, ℕ, Bool, true, false, ◌||◌, List, [], ◌∷◌, Option, None, Some, IsSome, is_some, cond, refl, sym, ◌∙◌, ap, subst, arith, inl, inr}
use mathlib.Core.Bool.{false≢true}
use Rattle.std.proofs.lemmas.Option.{same_Some}
use Rattle.std.specs.List.{AllByRecursion, list_any}
use Rattle.oz_fields.specs.declared.block.Block.{Block}
use Rattle.oz_fields.specs.declared.block.Piece.{Piece}
use Rattle.oz_requests.specs.declared.request.Request.TheVariants.{DeleteKey}
use Rattle.oz_requests.specs.Names.{name_fault}
use Rattle.oz_rows.specs.declared.key.RowKey.{RowKey}
use Rattle.oz_rows.specs.declared.key.RowKey.TheVariants as keys
use Rattle.oz_rows.specs.declared.operation.Change.{Change}
use Rattle.oz_rows.specs.declared.row.Row.{Row}
use Rattle.oz_rows.specs.declared.row.Row.TheVariants as rows
use Rattle.oz_rows.specs.RowMaps.{Rows, is_same, is_block, put, gone, after_changes}
use Rattle.oz_rows.specs.Rows.{IsBlock, AreItems, RowFits, ValueFits}
use Rattle.oz_rows.specs.laws.Same.{same_is_one}
use Rattle.oz_sound.specs.Kept.{HasHome}
use Rattle.oz_sound.specs.Sound.{StandsIn, blocks_of, IsHome, IsUsing, IsSoundButRenames, RenamesAreSound, IsKeeper}
use Rattle.oz_sound.specs.StandsFor.{drawn_in}
use Rattle.oz_sound.specs.laws.BucketChanges.{replaced}
use Rattle.oz_decision.specs.Meets.{AreInGrammar}
use Rattle.oz_decision.specs.Versions.{deleted, version_at}
use Rattle.oz_decision.specs.laws.OneRow.{fit_replaced, it_fits, none_fits}
use Rattle.oz_decision.specs.laws.SessionRows.{deleted_fits}
use Rattle.oz_decision.specs.laws.Versions.{block_itself}
use Rattle.oz_sound.specs.frames.Moves.{BlocksMove, NamesStay}
use Rattle.oz_sound.specs.frames.Parts.{parted}
use Rattle.oz_sound.specs.frames.Sessions.{MayBeDeleted}
use Rattle.oz_sound.specs.frames.laws.Bare.{bare_stripes}
use Rattle.oz_sound.specs.frames.laws.Deleting.{becomes as key_becomes, keeps as key_keeps, names_stay as key_names}
use Rattle.oz_sound.specs.frames.laws.Moving.{at_most, sound_moved, blocks_kept, renames_moved}
use Rattle.oz_sound.specs.frames.laws.Parting.{parted_moves}

some_apart : {A : Type 0} {a : A} → Some a ≡ None → ⊥
some_apart e = false≢true (sym (ap is_some e))

-- what stands as blocks move
pub record Goes (all now : Rows) : Type 0 where
  pub sound : IsSoundButRenames now
  pub lost : (block : Block) → HasHome all block → HasHome now block
  pub made : (block : Block) → HasHome now block → HasHome all block
  pub fit : AreInGrammar now

pub moves : (all now : Rows) → BlocksMove all now None → IsSoundButRenames all → AreInGrammar now → Goes all now
moves all now moved sound fit =
    let kept = blocks_kept all now None moved in
    record {
      sound = sound_moved all now None moved sound;
      lost = λ block had. elim (kept.none_lost block had) [ inl home ↦ home | inr never ↦ absurd never ];
      made = λ block has. elim (kept.none_made block has) [ inl home ↦ home | inr e ↦ absurd (false≢true (ap is_some e)) ];
      fit = fit;
    }

-- changes of rows that fit keep rows in the grammar
abbrev pub ChangeFits : Change → Type 0
ChangeFits change = (row : Row) → change.row ≡ Some row → RowFits change.key row

pub changes_fit : (changes : List Change) (all : Rows) → AllByRecursion ChangeFits changes → AreInGrammar all → AreInGrammar (after_changes changes all)
changes_fit [] all fits fit = fit
changes_fit (change ∷ changes) all fits fit = changes_fit changes (replaced all change.key change.row) fits.1 (fit_replaced all change.key change.row fits.0 fit)

-- what stands as blocks move and none gets another name
record GoesOn (all now : Rows) : Type 0 where
  goes : Goes all now
  renames : RenamesAreSound all → RenamesAreSound now

moves_on : (all now : Rows) → BlocksMove all now None → NamesStay all now → IsSoundButRenames all → AreInGrammar now → GoesOn all now
moves_on all now moved names sound fit = record { goes = moves all now moved sound fit; renames = renames_moved all now None moved sound names }

-- no deleted row begins with a block that stands in a key
module _ (all : Rows) (sound : IsSoundButRenames all) (fit : AreInGrammar all) (v b k : List ℕ) (block : Block) (stands : StandsIn all block (keys.Key v b k)) where
  abbrev place : RowKey
  place = keys.Deleted v b 0 k block.local

  no_row : (row : Row) → all place ≡ Some row → ValueFits place row → ⊥
  no_row (rows.Deleted []) e fits = fits.1
  no_row (rows.Deleted (x ∷ others)) e fits =
      let there : StandsIn all x place = record { row = rows.Deleted (x ∷ others); there = e; has = ap (λ (t : Bool). t || list_any (is_block x) others) (block_itself x) } in
      let same = sound.blocks.one_local x block place (keys.Key v b k) there stands fits.1 in
      let one = sound.blocks.one_home block (keys.Key v b k) place tt tt stands (subst (λ y. StandsIn all y place) same there) in
      cc
  no_row row e fits = fits

  free : all place ≡ None
  free = by_row (all place) refl
    where
      by_row : (o : Option Row) → all place ≡ o → all place ≡ None
      by_row None e = e
      by_row (Some row) e = absurd (no_row row e (fit place row e).1)

-- a key's row goes that has no blocks
module _ (all : Rows) (v b k : List ℕ) (sound : IsSoundButRenames all) (fit : AreInGrammar all) (bare : (block : Block) → StandsIn all block (keys.Key v b k) → ⊥) where
  abbrev from : RowKey
  from = keys.Key v b k

  abbrev now : Rows
  now = after_changes (gone from ∷ []) all

  before : (block : Block) (q : RowKey) → StandsIn now block q → StandsIn all block q
  before block q stands = by_test (is_same from q) stands.there
    where
      by_test : (t : Bool) → cond t None (all q) ≡ Some stands.row → StandsIn all block q
      by_test true there = absurd (some_apart (sym there))
      by_test false there = record { row = stands.row; there = there; has = stands.has }

  later : (block : Block) (q : RowKey) → StandsIn all block q → StandsIn now block q
  later block q stands = by_test (is_same from q) refl
    where
      by_test : (t : Bool) → is_same from q ≡ t → StandsIn now block q
      by_test true e = absurd (bare block (subst (StandsIn all block) (sym (same_is_one from q e)) stands))
      by_test false e = record { row = stands.row; there = ap (λ (t : Bool). cond t None (all q)) e ∙ stands.there; has = stands.has }

  others : (q : RowKey) → (IsHome q → ⊥) → now q ≡ all q
  others q no_home = by_test (is_same from q) refl
    where
      by_test : (t : Bool) → is_same from q ≡ t → cond t None (all q) ≡ all q
      by_test true e = absurd (no_home (subst IsHome (same_is_one from q e) tt))
      by_test false e = refl

  keeper_home : (q : RowKey) → IsKeeper q → IsHome q
  keeper_home (keys.Key w c r) keeper = tt
  keeper_home (keys.Deleted w c o r l) keeper = tt
  keeper_home q keeper = absurd keeper

  there_before : (t : Bool) (row : Option Row) → IsSome (cond t None row) → IsSome row
  there_before true row some = absurd (false≢true some)
  there_before false row some = some

  using_before : (w c : List ℕ) (one : List ℕ × Option ℕ) → IsUsing now w c one → IsUsing all w c one
  using_before w c (q, None) some = there_before (is_same from (keys.Key w c q)) (all (keys.Key w c q)) some
  using_before w c (q, Some m) some = some

  bare_moves : BlocksMove all now None
  bare_moves = record {
    others = λ q no_home kind. others q no_home;
    bare = λ s block stands. bare_stripes all fit s block (before block (keys.Stripe s) stands);
    came = λ block q home stands. inl (record { key = q; home = home; here = before block q stands; same_bucket = refl });
    none_lost = λ block had. record { key = had.key; home = had.home; here = later block had.key had.here };
    stays = λ block q keeper stands. (q, keeper, later block q stands);
    one_home = λ block q r home home' here there. sound.blocks.one_home block q r home home' (before block q here) (before block r there);
    together = λ block other q keeper here there. record { key = q; home = keeper_home q keeper; here = before block q here; there = before other q there; same_bucket = refl };
    open_key = λ w c q m block stands. inl (m, before block (keys.Open w c q m) stands);
    drawn = λ s. let m = drawn_in (all (keys.Stripe s)) in omega arith;
    sessions = λ w c q m some. sound.numbers.sessions w c q m some;
    owners = λ w c q o l some apart. some;
    few = λ w c. at_most _ _ 4096 (using_before w c) (sound.counts.keys_and_sessions w c);
  }

  bare_goes : GoesOn all now
  bare_goes = moves_on all now bare_moves (λ w c q block stands. inl (before block (keys.Key w c q) stands)) sound (changes_fit (gone from ∷ []) all (none_fits from, tt) fit)

-- a deleted key goes, with or without blocks
module _ (all : Rows) (v b k : List ℕ) (named : name_fault (DeleteKey v b k) ≡ None) (sound : IsSoundButRenames all) (fit : AreInGrammar all) (number : ℕ) (fits : AreItems IsBlock (version_at (all (keys.Key v b k)))) where
  abbrev of_key : RowKey
  of_key = keys.Key v b k

  abbrev going : List Piece → Rows
  going pieces = after_changes (gone of_key ∷ deleted v b k (version_at (Some (rows.Key number pieces)))) all

  no_blocks : all of_key ≡ Some (rows.Key number []) → (block : Block) → StandsIn all block of_key → ⊥
  no_blocks e block stands =
      let same = same_Some (rows.Key number []) stands.row (sym e ∙ stands.there) in
      false≢true (ap (λ (r : Row). list_any (is_block block) (blocks_of r)) same ∙ stands.has)

  version_goes : (pieces : List Piece) → all of_key ≡ Some (rows.Key number pieces) → GoesOn all (going pieces)
  version_goes [] e = bare_goes all v b k sound fit (no_blocks e)
  version_goes (p ∷ ps) e =
      let stands : StandsIn all p.block of_key = record { row = rows.Key number (p ∷ ps); there = e; has = ap (λ (t : Bool). t || list_any (is_block p.block) (blocks_of (rows.Key number ps))) (block_itself p.block) } in
      let may : MayBeDeleted all v b k number p.block.local (p ∷ ps) = record { row = e; free = free all sound fit v b k p.block stands; bare = bare_stripes all fit } in
      let place = keys.Deleted v b 0 k p.block.local in
      let row = rows.Deleted (blocks_of (rows.Key number (p ∷ ps))) in
      moves_on all (after_changes (parted of_key None place (Some row)) all)
      (parted_moves all of_key None place (Some row) (key_becomes all v b k number p.block.local (p ∷ ps) may) sound (key_keeps all v b k number p.block.local (p ∷ ps) may sound))
      (key_names all v b k number p.block.local (p ∷ ps) may) sound
      (changes_fit (gone of_key ∷ put place row ∷ []) all (none_fits of_key, (it_fits place row (deleted_fits v b k named p.block (blocks_of (rows.Key number ps)) (subst (λ o. AreItems IsBlock (version_at o)) e fits)), tt)) fit)

  module _ (pieces : List Piece) (e : all of_key ≡ Some (rows.Key number pieces)) where
    whole : GoesOn all (after_changes (gone of_key ∷ deleted v b k (version_at (all of_key))) all)
    whole = subst (λ o. GoesOn all (after_changes (gone of_key ∷ deleted v b k (version_at o)) all)) (sym e) (version_goes pieces e)

    pub deletion_goes : Goes all (after_changes (gone of_key ∷ deleted v b k (version_at (all of_key))) all)
    deletion_goes = whole.goes

    pub deletion_keeps_renames : RenamesAreSound all → RenamesAreSound (after_changes (gone of_key ∷ deleted v b k (version_at (all of_key))) all)
    deletion_keeps_renames = whole.renames
