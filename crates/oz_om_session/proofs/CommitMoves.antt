-- The blocks of a commit move: the older version and the unused ones to deleted rows, and the others to the key.
use Rattle.std.proofs.Common.{◌≡◌, ℕ, Bool, true, false, ◌||◌, List, [], ◌∷◌, Option, None, Some, IsSome, is_some, cond, refl, sym, ◌∙◌, ap, subst, arith, inl, inr}
use mathlib.Core.Bool.{false≢true}
use Rattle.std.proofs.lemmas.Option.{same_Some}
use Rattle.std.specs.List.{AllByRecursion, list_any}
use Rattle.oz_fields.specs.declared.block.Block.{Block}
use Rattle.oz_fields.specs.declared.block.Piece.{Piece}
use Rattle.oz_requests.specs.declared.request.Request.TheVariants.{CommitKey}
use Rattle.oz_requests.specs.Names.{name_fault}
use Rattle.oz_rows.specs.declared.key.RowKey.{RowKey}
use Rattle.oz_rows.specs.declared.key.RowKey.TheVariants as keys
use Rattle.oz_rows.specs.declared.operation.Change.{Change}
use Rattle.oz_rows.specs.declared.row.Row.{Row}
use Rattle.oz_rows.specs.declared.row.Row.TheVariants as rows
use Rattle.oz_rows.specs.RowMaps.{Rows, is_same, is_block, put, gone, after_changes}
use Rattle.oz_rows.specs.Rows.{IsBlock, AreItems, RowFits, ValueFits}
use Rattle.oz_rows.specs.laws.Same.{same_is_one}
use Rattle.oz_sound.specs.Kept.{HasHome}
use Rattle.oz_sound.specs.Sound.{StandsIn, blocks_of, IsHome, IsUsing, IsSoundButRenames, RenamesAreSound, IsKeeper}
use Rattle.oz_sound.specs.StandsFor.{drawn_in}
use Rattle.oz_sound.specs.laws.BucketChanges.{replaced}
use Rattle.oz_decision.specs.Meets.{AreInGrammar}
use Rattle.oz_decision.specs.laws.OneRow.{fit_replaced, it_fits, none_fits}
use Rattle.oz_sound.specs.frames.Moves.{BlocksMove, NamesStay}
use Rattle.oz_sound.specs.frames.Parts.{parted}
use Rattle.oz_sound.specs.frames.Sessions.{MayBeDeleted}
use Rattle.oz_sound.specs.frames.laws.Bare.{bare_stripes}
use Rattle.oz_sound.specs.frames.laws.Deleting.{becomes as key_becomes, keeps as key_keeps, names_stay as key_names}
use Rattle.oz_sound.specs.frames.laws.Moving.{at_most, sound_moved, blocks_kept, renames_moved}
use Rattle.oz_sound.specs.frames.laws.Parting.{parted_moves}
use Rattle.oz_decision.specs.Versions.{version_at, deleted}
use Rattle.oz_decision.specs.laws.SessionRows.{deleted_fits}
use Rattle.oz_decision.specs.laws.Versions.{block_itself}

some_apart : {A : Type 0} {a : A} → Some a ≡ None → ⊥
some_apart e = false≢true (sym (ap is_some e))

-- what stands as blocks move
pub record Goes (all now : Rows) : Type 0 where
  pub sound : IsSoundButRenames now
  pub lost : (block : Block) → HasHome all block → HasHome now block
  pub made : (block : Block) → HasHome now block → HasHome all block
  pub renames : RenamesAreSound all → RenamesAreSound now
  pub fit : AreInGrammar now

pub goes_on : (all mid now : Rows) → Goes all mid → Goes mid now → Goes all now
goes_on all mid now first second = record {
  sound = second.sound;
  lost = λ block had. second.lost block (first.lost block had);
  made = λ block has. first.made block (second.made block has);
  renames = λ sound. second.renames (first.renames sound);
  fit = second.fit;
}

pub goes_same : (all now : Rows) → IsSoundButRenames all → AreInGrammar all → ((q : RowKey) → all q ≡ now q) → Goes all now
goes_same all now sound fit same = subst (Goes all) (λ i q. same q i) (record { sound = sound; lost = λ block had. had; made = λ block has. has; renames = λ sound. sound; fit = fit })

pub moves : (all now : Rows) → BlocksMove all now None → NamesStay all now → IsSoundButRenames all → AreInGrammar now → Goes all now
moves all now moved names sound fit =
    let kept = blocks_kept all now None moved in
    record {
      sound = sound_moved all now None moved sound;
      lost = λ block had. elim (kept.none_lost block had) [ inl home ↦ home | inr never ↦ absurd never ];
      made = λ block has. elim (kept.none_made block has) [ inl home ↦ home | inr e ↦ absurd (false≢true (ap is_some e)) ];
      renames = renames_moved all now None moved sound names;
      fit = fit;
    }

-- changes of rows that fit keep rows in the grammar
abbrev pub ChangeFits : Change → Type 0
ChangeFits change = (row : Row) → change.row ≡ Some row → RowFits change.key row

pub changes_fit : (changes : List Change) (all : Rows) → AllByRecursion ChangeFits changes → AreInGrammar all → AreInGrammar (after_changes changes all)
changes_fit [] all fits fit = fit
changes_fit (change ∷ changes) all fits fit = changes_fit changes (replaced all change.key change.row) fits.1 (fit_replaced all change.key change.row fits.0 fit)

-- no deleted row begins with a block that stands in a key or a session
module _ (all : Rows) (sound : IsSoundButRenames all) (fit : AreInGrammar all) (v b k : List ℕ) (block : Block) (home : RowKey) (is_home : IsHome home) (stands : StandsIn all block home) (apart : home ≡ keys.Deleted v b 0 k block.local → ⊥) where
  abbrev place : RowKey
  place = keys.Deleted v b 0 k block.local

  no_row : (row : Row) → all place ≡ Some row → ValueFits place row → ⊥
  no_row (rows.Deleted []) e fits = fits.1
  no_row (rows.Deleted (x ∷ others)) e fits =
      let there : StandsIn all x place = record { row = rows.Deleted (x ∷ others); there = e; has = ap (λ (t : Bool). t || list_any (is_block x) others) (block_itself x) } in
      let same = sound.blocks.one_local x block place home there stands fits.1 in
      apart (sound.blocks.one_home block home place is_home tt stands (subst (λ y. StandsIn all y place) same there))
  no_row row e fits = fits

  pub free : all place ≡ None
  free = by_row (all place) refl
    where
      by_row : (o : Option Row) → all place ≡ o → all place ≡ None
      by_row None e = e
      by_row (Some row) e = absurd (no_row row e (fit place row e).1)

-- a key's row goes that has no blocks
module _ (all : Rows) (v b k : List ℕ) (sound : IsSoundButRenames all) (fit : AreInGrammar all) (bare : (block : Block) → StandsIn all block (keys.Key v b k) → ⊥) where
  abbrev from : RowKey
  from = keys.Key v b k

  abbrev now : Rows
  now = after_changes (gone from ∷ []) all

  before : (block : Block) (q : RowKey) → StandsIn now block q → StandsIn all block q
  before block q stands = by_test (is_same from q) stands.there
    where
      by_test : (t : Bool) → cond t None (all q) ≡ Some stands.row → StandsIn all block q
      by_test true there = absurd (some_apart (sym there))
      by_test false there = record { row = stands.row; there = there; has = stands.has }

  later : (block : Block) (q : RowKey) → StandsIn all block q → StandsIn now block q
  later block q stands = by_test (is_same from q) refl
    where
      by_test : (t : Bool) → is_same from q ≡ t → StandsIn now block q
      by_test true e = absurd (bare block (subst (StandsIn all block) (sym (same_is_one from q e)) stands))
      by_test false e = record { row = stands.row; there = ap (λ (t : Bool). cond t None (all q)) e ∙ stands.there; has = stands.has }

  others : (q : RowKey) → (IsHome q → ⊥) → now q ≡ all q
  others q no_home = by_test (is_same from q) refl
    where
      by_test : (t : Bool) → is_same from q ≡ t → cond t None (all q) ≡ all q
      by_test true e = absurd (no_home (subst IsHome (same_is_one from q e) tt))
      by_test false e = refl

  keeper_home : (q : RowKey) → IsKeeper q → IsHome q
  keeper_home (keys.Key w c r) keeper = tt
  keeper_home (keys.Deleted w c o r l) keeper = tt
  keeper_home q keeper = absurd keeper

  there_before : (t : Bool) (row : Option Row) → IsSome (cond t None row) → IsSome row
  there_before true row some = absurd (false≢true some)
  there_before false row some = some

  using_before : (w c : List ℕ) (one : List ℕ × Option ℕ) → IsUsing now w c one → IsUsing all w c one
  using_before w c (q, None) some = there_before (is_same from (keys.Key w c q)) (all (keys.Key w c q)) some
  using_before w c (q, Some m) some = some

  bare_moves : BlocksMove all now None
  bare_moves = record {
    others = λ q no_home kind. others q no_home;
    bare = λ s block stands. bare_stripes all fit s block (before block (keys.Stripe s) stands);
    came = λ block q home stands. inl (record { key = q; home = home; here = before block q stands; same_bucket = refl });
    none_lost = λ block had. record { key = had.key; home = had.home; here = later block had.key had.here };
    stays = λ block q keeper stands. (q, keeper, later block q stands);
    one_home = λ block q r home home' here there. sound.blocks.one_home block q r home home' (before block q here) (before block r there);
    together = λ block other q keeper here there. record { key = q; home = keeper_home q keeper; here = before block q here; there = before other q there; same_bucket = refl };
    open_key = λ w c q m block stands. inl (m, before block (keys.Open w c q m) stands);
    drawn = λ s. let m = drawn_in (all (keys.Stripe s)) in omega arith;
    sessions = λ w c q m some. sound.numbers.sessions w c q m some;
    owners = λ w c q o l some apart. some;
    few = λ w c. at_most _ _ 4096 (using_before w c) (sound.counts.keys_and_sessions w c);
  }

  pub bare_goes : Goes all now
  bare_goes = moves all now bare_moves (λ w c q block stands. inl (before block (keys.Key w c q) stands)) sound (changes_fit (gone from ∷ []) all (none_fits from, tt) fit)

-- the older version goes to a deleted row
module _ (all : Rows) (v b k : List ℕ) (n : ℕ) (pieces : List Piece) (named : name_fault (CommitKey v b k n pieces) ≡ None) (sound : IsSoundButRenames all) (fit : AreInGrammar all) where
  no_blocks : (m : ℕ) → all (keys.Key v b k) ≡ Some (rows.Key m []) → (block : Block) → StandsIn all block (keys.Key v b k) → ⊥
  no_blocks m e block stands =
      let same = same_Some (rows.Key m []) stands.row (sym e ∙ stands.there) in
      false≢true (ap (λ (r : Row). list_any (is_block block) (blocks_of r)) same ∙ stands.has)

  abbrev goes_with : Option Row → Type 0
  goes_with o = Goes all (after_changes (gone (keys.Key v b k) ∷ deleted v b k (version_at o)) all)

  version_some : (row : Row) → all (keys.Key v b k) ≡ Some row → ValueFits (keys.Key v b k) row → AreItems IsBlock (version_at (Some row)) → goes_with (Some row)
  version_some (rows.Key m []) e fits blocks = bare_goes all v b k sound fit (no_blocks m e)
  version_some (rows.Key m (p ∷ ps)) e fits blocks =
      let stands : StandsIn all p.block (keys.Key v b k) = record { row = rows.Key m (p ∷ ps); there = e; has = ap (λ (t : Bool). t || list_any (is_block p.block) (blocks_of (rows.Key m ps))) (block_itself p.block) } in
      let may : MayBeDeleted all v b k m p.block.local (p ∷ ps) = record { row = e; free = free all sound fit v b k p.block (keys.Key v b k) tt stands (λ same. cc); bare = bare_stripes all fit } in
      let place = keys.Deleted v b 0 k p.block.local in
      let row = rows.Deleted (blocks_of (rows.Key m (p ∷ ps))) in
      moves all (after_changes (parted (keys.Key v b k) None place (Some row)) all)
      (parted_moves all (keys.Key v b k) None place (Some row) (key_becomes all v b k m p.block.local (p ∷ ps) may) sound (key_keeps all v b k m p.block.local (p ∷ ps) may sound))
      (key_names all v b k m p.block.local (p ∷ ps) may) sound
      (changes_fit (gone (keys.Key v b k) ∷ put place row ∷ []) all (none_fits (keys.Key v b k), (it_fits place row (deleted_fits v b k named p.block (blocks_of (rows.Key m ps)) blocks), tt)) fit)
  version_some row e fits blocks = absurd fits

  pub version_goes : AreItems IsBlock (version_at (all (keys.Key v b k))) → goes_with (all (keys.Key v b k))
  version_goes blocks = by_row (all (keys.Key v b k)) refl blocks
    where
      by_row : (o : Option Row) → all (keys.Key v b k) ≡ o → AreItems IsBlock (version_at o) → goes_with o
      by_row None e blocks = bare_goes all v b k sound fit (λ block stands. some_apart (sym stands.there ∙ e))
      by_row (Some row) e blocks = version_some row e (fit (keys.Key v b k) row e).1 blocks
