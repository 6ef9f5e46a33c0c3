-- The unused blocks of a session go to a deleted row, and the session becomes the key.
use Rattle.std.proofs.Common.{◌≡◌, ◌≢◌, ℕ, Bool, true, false, ◌||◌, List, [], ◌∷◌, Option, None, Some, IsSome, is_some, cond, refl, sym, ◌∙◌, ap, subst, inl, inr}
use mathlib.Core.Bool.{false≢true}
use Rattle.std.proofs.lemmas.Option.{same_Some}
use Rattle.std.specs.List.{list_any}
use Rattle.oz_fields.specs.declared.block.Block.{Block}
use Rattle.oz_fields.specs.declared.block.Piece.{Piece}
use Rattle.oz_model.specs.Buckets.{are_pieces_of, has_block}
use Rattle.oz_model.specs.Reach.{blocks_of as blocks_in_pieces}
use Rattle.oz_requests.specs.declared.request.Request.TheVariants.{CommitKey}
use Rattle.oz_requests.specs.Names.{name_fault}
use Rattle.oz_rows.specs.declared.key.RowKey.{RowKey}
use Rattle.oz_rows.specs.declared.key.RowKey.TheVariants as keys
use Rattle.oz_rows.specs.declared.row.Row.{Row}
use Rattle.oz_rows.specs.declared.row.Row.TheVariants as rows
use Rattle.oz_rows.specs.RowMaps.{Rows, is_same, is_block, put, gone, after_changes}
use Rattle.oz_rows.specs.Rows.{IsBlock, AreItems, RowFits, KeyFits}
use Rattle.oz_rows.specs.laws.Same.{same_is_one}
use Rattle.oz_sound.specs.Sound.{StandsIn, blocks_of, IsUsing, IsSoundButRenames}
use Rattle.oz_decision.specs.Meets.{AreInGrammar}
use Rattle.oz_decision.specs.laws.OneRow.{it_fits, none_fits}
use Rattle.oz_sound.specs.frames.Parts.{parted, Has, IsParted, KeepsNumbers}
use Rattle.oz_sound.specs.frames.Sessions.{MayBecome}
use Rattle.oz_sound.specs.frames.laws.Bare.{bare_stripes}
use Rattle.oz_sound.specs.frames.laws.Committing.{becomes as session_becomes, keeps as session_keeps, key_stood}
use Rattle.oz_sound.specs.frames.laws.Moving.{at_most}
use Rattle.oz_sound.specs.frames.laws.Parting.{parted_moves}
use Rattle.oz_decision.specs.Versions.{deleted}
use Rattle.oz_om_session.specs.Records.{unused}
use Rattle.oz_decision.specs.laws.SessionRows.{deleted_fits}
use Rattle.oz_decision.specs.laws.Versions.{block_itself}
use Rattle.oz_om_session.proofs.Blocks.{in_kept, used, same_used, used_or_left, not_both, all_used, kept_fit, left_fit}
use Rattle.oz_om_session.proofs.CommitMoves.{Goes, goes_same, moves, changes_fit, free}

some_apart : {A : Type 0} {a : A} → Some a ≡ None → ⊥
some_apart e = false≢true (sym (ap is_some e))

module _ (all : Rows) (v b k : List ℕ) (n : ℕ) (pieces : List Piece) (named : name_fault (CommitKey v b k n pieces) ≡ None) (sound : IsSoundButRenames all) (fit : AreInGrammar all)
    (blocks : List Block) (there : all (keys.Open v b k n) ≡ Some (rows.Open blocks)) (key_fits : KeyFits (keys.Open v b k n)) (blocks_fit : AreItems IsBlock blocks) where
  abbrev from : RowKey
  from = keys.Open v b k n

  abbrev kept : Row
  kept = rows.Open (used blocks pieces)

  abbrev after_left : List Block → Rows
  after_left l = after_changes (put from kept ∷ deleted v b k l) all

  its_blocks : (block : Block) → StandsIn all block from → list_any (is_block block) blocks ≡ true
  its_blocks block stands = ap (λ (r : Row). list_any (is_block block) (blocks_of r)) (same_Some (rows.Open blocks) stands.row (sym there ∙ stands.there)) ∙ stands.has

  stands_here : (block : Block) → list_any (is_block block) blocks ≡ true → StandsIn all block from
  stands_here block has = record { row = rows.Open blocks; there = there; has = has }

  in_used : (block : Block) → Has (Some kept) block → list_any (is_block block) (used blocks pieces) ≡ true
  in_used block has = ap (λ (r : Row). list_any (is_block block) (blocks_of r)) (same_Some kept has.0 has.1) ∙ has.2

  -- where none is left nothing changes
  none_left : unused blocks pieces ≡ [] → Goes all (after_left [])
  none_left e = goes_same all (after_left []) sound fit (λ q. by_test q (is_same from q) refl)
    where
      by_test : (q : RowKey) (t : Bool) → is_same from q ≡ t → all q ≡ cond t (Some kept) (all q)
      by_test q false f = refl
      by_test q true f = ap all (sym (same_is_one from q f)) ∙ there ∙ ap (λ l. Some (rows.Open l)) (sym (all_used blocks pieces e))

  module _ (first : Block) (others : List Block) (left : unused blocks pieces ≡ first ∷ others) where
    abbrev to : RowKey
    to = keys.Deleted v b 0 k first.local

    abbrev gone_blocks : Row
    gone_blocks = rows.Deleted (first ∷ others)

    abbrev now : Rows
    now = after_left (first ∷ others)

    in_left : (block : Block) → Has (Some gone_blocks) block → list_any (is_block block) (unused blocks pieces) ≡ true
    in_left block has = ap (list_any (is_block block)) left ∙ ap (λ (r : Row). list_any (is_block block) (blocks_of r)) (same_Some gone_blocks has.0 has.1) ∙ has.2

    of_left : (block : Block) → list_any (is_block block) (unused blocks pieces) ≡ true → Has (Some gone_blocks) block
    of_left block has = (gone_blocks, refl, sym (ap (list_any (is_block block)) left) ∙ has)

    left_stood : (block : Block) → list_any (is_block block) (unused blocks pieces) ≡ true → StandsIn all block from
    left_stood block has = stands_here block (in_kept _ block blocks has).1

    first_stood : StandsIn all first from
    first_stood = left_stood first (ap (list_any (is_block first)) left ∙ ap (λ (t : Bool). t || list_any (is_block first) others) (block_itself first))

    no_place : all to ≡ None
    no_place = free all sound fit v b k first from tt first_stood (λ same. cc)

    parts : IsParted all from (Some kept) to (Some gone_blocks)
    parts = record {
      home = tt;
      new_home = tt;
      keeper = λ keeper. absurd keeper;
      same_bucket = refl;
      apart = refl;
      left_from = λ block has. stands_here block (in_kept _ block blocks (in_used block has)).1;
      moved_from = λ block has. left_stood block (in_left block has);
      all_there = λ block stands. elim (used_or_left blocks pieces block (its_blocks block stands)) [
        | inl has ↦ inl (kept, refl, has)
        | inr has ↦ inr (of_left block has)
      ];
      not_both = λ block one two. not_both blocks pieces block (in_used block one) (in_left block two);
      was_empty = λ block stands. some_apart (sym stands.there ∙ no_place);
    }

    open_before : (w c q : List ℕ) (m : ℕ) (block : Block) → StandsIn now block (keys.Open w c q m) → StandsIn all block (keys.Open w c q m)
    open_before w c q m block stands = by_test (is_same from (keys.Open w c q m)) refl stands.there
      where
        by_test : (t : Bool) → is_same from (keys.Open w c q m) ≡ t → cond t (Some kept) (all (keys.Open w c q m)) ≡ Some stands.row → StandsIn all block (keys.Open w c q m)
        by_test false e at = record { row = stands.row; there = at; has = stands.has }
        by_test true e at = subst (StandsIn all block) (same_is_one from (keys.Open w c q m) e) (stands_here block (in_kept _ block blocks (in_used block (stands.row, at, stands.has))).1)

    session_before : (w c q : List ℕ) (m : ℕ) → IsSome (now (keys.Open w c q m)) → IsSome (all (keys.Open w c q m))
    session_before w c q m some = by_test (is_same from (keys.Open w c q m)) refl some
      where
        by_test : (t : Bool) → is_same from (keys.Open w c q m) ≡ t → IsSome (cond t (Some kept) (all (keys.Open w c q m))) → IsSome (all (keys.Open w c q m))
        by_test false e some = some
        by_test true e some = subst (λ r. IsSome (all r)) (same_is_one from (keys.Open w c q m) e) (ap is_some there)

    owner_before : (w c q : List ℕ) (o l : ℕ) → IsSome (now (keys.Deleted w c o q l)) → o ≢ 0 → IsSome (all (keys.Deleted w c o q l))
    owner_before w c q o l some other = by_test (is_same to (keys.Deleted w c o q l)) refl some
      where
        by_test : (t : Bool) → is_same to (keys.Deleted w c o q l) ≡ t → IsSome (cond t (Some gone_blocks) (all (keys.Deleted w c o q l))) → IsSome (all (keys.Deleted w c o q l))
        by_test true e some = let same = same_is_one to (keys.Deleted w c o q l) e in absurd (other (let zero : o ≡ 0 = cc in zero))
        by_test false e some = some

    using_before : (w c : List ℕ) (one : List ℕ × Option ℕ) → IsUsing now w c one → IsUsing all w c one
    using_before w c (q, None) some = some
    using_before w c (q, Some m) some = session_before w c q m some

    keeps : KeepsNumbers all now
    keeps = record {
      bare = bare_stripes all fit;
      open_key = λ w c q m block stands. (m, open_before w c q m block stands);
      sessions = session_before;
      owners = owner_before;
      few = λ w c. at_most _ _ 4096 (using_before w c) (sound.counts.keys_and_sessions w c);
    }

    some_left : Goes all now
    some_left = moves all now (parted_moves all from (Some kept) to (Some gone_blocks) parts sound keeps) (λ w c q block stands. inl (record { row = stands.row; there = stands.there; has = stands.has })) sound
        (changes_fit (put from kept ∷ put to gone_blocks ∷ []) all
        (it_fits from kept (key_fits, kept_fit (has_block (blocks_in_pieces pieces)) blocks blocks_fit), (it_fits to gone_blocks (deleted_fits v b k named first others (subst (AreItems IsBlock) left (left_fit blocks pieces blocks_fit))), tt)) fit)

  pub unused_goes : Goes all (after_left (unused blocks pieces))
  unused_goes = by_list (unused blocks pieces) refl
    where
      by_list : (l : List Block) → unused blocks pieces ≡ l → Goes all (after_left l)
      by_list [] e = none_left e
      by_list (first ∷ others) e = some_left first others e

-- the session becomes the key
module _ (all : Rows) (v b k : List ℕ) (n : ℕ) (pieces : List Piece) (sound : IsSoundButRenames all) (fit : AreInGrammar all) (blocks : List Block) (there : all (keys.Open v b k n) ≡ Some (rows.Open (used blocks pieces))) (free_key : all (keys.Key v b k) ≡ None)
    (are : are_pieces_of blocks pieces ≡ true) (row_fits : RowFits (keys.Key v b k) (rows.Key n pieces)) where
  pub session_goes : Goes all (after_changes (gone (keys.Open v b k n) ∷ put (keys.Key v b k) (rows.Key n pieces) ∷ []) all)
  session_goes =
      let may : MayBecome all v b k n (used blocks pieces) pieces = record { session = there; free = free_key; used = same_used blocks pieces are; bare = bare_stripes all fit } in
      let from = keys.Open v b k n in
      let to = keys.Key v b k in
      let row = rows.Key n pieces in
      moves all (after_changes (parted from None to (Some row)) all)
      (parted_moves all from None to (Some row) (session_becomes all v b k n (used blocks pieces) pieces may) sound (session_keeps all v b k n (used blocks pieces) pieces may sound))
      (key_stood all v b k n (used blocks pieces) pieces may) sound
      (changes_fit (gone from ∷ put to row ∷ []) all (none_fits from, (it_fits to row row_fits, tt)) fit)
