-- The blocks of pieces and of sessions, as a commit parts them.
use Rattle.std.proofs.Common.{◌≡◌, ◌≢◌, ◌≤◌, ◌==◌, ℕ, Bool, true, false, not, ◌||◌, nat_le, nat_lt, List, [], ◌∷◌, filter, length, Option, Some, cond, refl, sym, ◌∙◌, ap, subst, arith, inl, inr, ◌⊎◌}
use mathlib.Core.Bool.{false≢true}
use Rattle.std.proofs.lemmas.Bool.Decides.{nat_tests}
use Rattle.std.specs.List.{AllByRecursion, list_any, list_all}
use Rattle.oz_fields.specs.declared.block.Block.{Block}
use Rattle.oz_fields.specs.declared.block.Piece.{Piece}
use Rattle.oz_model.specs.Buckets.{has_block, is_piece_of, are_pieces_of}
use Rattle.oz_model.specs.Reach.{blocks_of}
use Rattle.oz_rows.specs.declared.row.Row.{Row}
use Rattle.oz_rows.specs.declared.row.Row.TheVariants as rows
use Rattle.oz_rows.specs.Counts.{AllDiffer}
use Rattle.oz_rows.specs.Rows.{IsBlock, IsPiece, AreItems}
use Rattle.oz_rows.specs.RowMaps.{is_block}
use Rattle.oz_rows.specs.laws.Lengths.{no_longer}
use Rattle.oz_decision.specs.Sessions.{blocks_at, is_good}
use Rattle.oz_decision.specs.Versions.{version_at, is_version}
use Rattle.oz_om_session.specs.Records.{unused}
use Rattle.oz_om_session.specs.Sessions.{are_committed}
use Rattle.oz_decision.specs.laws.Versions.{one_block, block_itself, as_many, good_version}
use Rattle.oz_decision.specs.laws.SessionRows.{front, back, both, at_most, under, good_block}

-- the two tests of a block among others are one
pub as_any : (blocks : List Block) (block : Block) → has_block blocks block ≡ list_any (is_block block) blocks
as_any blocks block = refl

-- what is kept of a list by a test
pub in_kept : (test : Block → Bool) (a : Block) (l : List Block) → list_any (is_block a) (filter test l) ≡ true → (test a ≡ true) × (list_any (is_block a) l ≡ true)
in_kept test a [] e = absurd (false≢true e)
in_kept test a (x ∷ l) e = by_test (test x) refl (is_block a x) refl (in_kept test a l) e
  where
    by_test : (t : Bool) → test x ≡ t → (s : Bool) → is_block a x ≡ s → (list_any (is_block a) (filter test l) ≡ true → (test a ≡ true) × (list_any (is_block a) l ≡ true)) → list_any (is_block a) (cond t (x ∷ filter test l) (filter test l)) ≡ true → (test a ≡ true) × (s || list_any (is_block a) l ≡ true)
    by_test true is true same later e = (ap test (one_block a x same) ∙ is, refl)
    by_test true is false same later e = later (subst (λ (s : Bool). s || list_any (is_block a) (filter test l) ≡ true) same e)
    by_test false is true same later e = ((later e).0, refl)
    by_test false is false same later e = later e

pub to_kept : (test : Block → Bool) (a : Block) (l : List Block) → test a ≡ true → list_any (is_block a) l ≡ true → list_any (is_block a) (filter test l) ≡ true
to_kept test a [] holds e = absurd (false≢true e)
to_kept test a (x ∷ l) holds e = by_test (is_block a x) refl (test x) refl (to_kept test a l holds) e
  where
    by_test : (s : Bool) → is_block a x ≡ s → (t : Bool) → test x ≡ t → (list_any (is_block a) l ≡ true → list_any (is_block a) (filter test l) ≡ true) → s || list_any (is_block a) l ≡ true → list_any (is_block a) (cond t (x ∷ filter test l) (filter test l)) ≡ true
    by_test true same true is later e = ap (λ (s : Bool). s || list_any (is_block a) (filter test l)) same
    by_test true same false is later e = absurd (false≢true (sym is ∙ ap test (sym (one_block a x same)) ∙ holds))
    by_test false same true is later e = ap (λ (s : Bool). s || list_any (is_block a) (filter test l)) same ∙ later e
    by_test false same false is later e = later e

-- a part of a list is no longer, and has what holds of each
pub kept_size : (test : Block → Bool) (l : List Block) → length (filter test l) ≤ length l
kept_size test [] = omega arith
kept_size test (x ∷ l) = by_test (test x) (kept_size test l)
  where
    by_test : (t : Bool) → length (filter test l) ≤ length l → length (cond t (x ∷ filter test l) (filter test l)) ≤ length (x ∷ l)
    by_test true few = omega (arith, few)
    by_test false few = omega (arith, few)

pub kept_all : (P : Block → Type 0) (test : Block → Bool) (l : List Block) → AllByRecursion P l → AllByRecursion P (filter test l)
kept_all P test [] all = tt
kept_all P test (x ∷ l) all = by_test (test x) (kept_all P test l all.1)
  where
    by_test : (t : Bool) → AllByRecursion P (filter test l) → AllByRecursion P (cond t (x ∷ filter test l) (filter test l))
    by_test true later = (all.0, later)
    by_test false later = later

pub kept_fit : (test : Block → Bool) (l : List Block) → AreItems IsBlock l → AreItems IsBlock (filter test l)
kept_fit test l fit = let few = kept_size test l in ((let most = fit.0 in omega (arith, few, most)), kept_all IsBlock test l fit.1)

pub left_fit : (blocks : List Block) (pieces : List Piece) → AreItems IsBlock blocks → AreItems IsBlock (unused blocks pieces)
left_fit blocks pieces fit = kept_fit (λ block. not (has_block (blocks_of pieces) block)) blocks fit

pub version_fits : (session version : Option Row) (pieces : List Piece) → are_committed session version pieces ≡ true → AreItems IsBlock (version_at version)
version_fits session version pieces e = good_version version (back (are_pieces_of (blocks_at session) pieces) _ e)

-- what the test of pieces tells of the first
piece_parts : (blocks : List Block) (piece : Piece) (others : List Piece) → is_piece_of blocks piece others ≡ true → record { has : has_block blocks piece.block ≡ true; alone : not (has_block (blocks_of others) piece.block) ≡ true; some : nat_lt 0 piece.length ≡ true; few : nat_le piece.length 65536 ≡ true }
piece_parts blocks piece others e =
    let three = front _ (nat_le piece.length 65536) e in
    let two = front _ (nat_lt 0 piece.length) three in
    record { has = front (has_block blocks piece.block) _ two; alone = back (has_block blocks piece.block) _ two; some = back _ (nat_lt 0 piece.length) three; few = back _ (nat_le piece.length 65536) e }

fits_among : (block : Block) (blocks : List Block) → AllByRecursion IsBlock blocks → list_any (is_block block) blocks ≡ true → IsBlock block
fits_among block [] all e = absurd (false≢true e)
fits_among block (x ∷ blocks) all e = by_test (is_block block x) refl (fits_among block blocks all.1) e
  where
    by_test : (t : Bool) → is_block block x ≡ t → (list_any (is_block block) blocks ≡ true → IsBlock block) → t || list_any (is_block block) blocks ≡ true → IsBlock block
    by_test true is later e = subst IsBlock (sym (one_block block x is)) all.0
    by_test false is later e = later e

pieces_fit : (blocks : List Block) (pieces : List Piece) → AllByRecursion IsBlock blocks → are_pieces_of blocks pieces ≡ true → AllByRecursion IsPiece pieces
pieces_fit blocks [] all e = tt
pieces_fit blocks (piece ∷ pieces) all e =
    let parts = piece_parts blocks piece pieces (front (is_piece_of blocks piece pieces) _ e) in
    let some = under 0 piece.length parts.some in (
      (fits_among piece.block blocks all parts.has, (omega (arith, some)), at_most piece.length 65536 parts.few),
      pieces_fit blocks pieces all (back (is_piece_of blocks piece pieces) _ e),
    )

-- each block of a piece is one of the session's
each_among : (blocks : List Block) (pieces : List Piece) → are_pieces_of blocks pieces ≡ true → AllByRecursion (λ (x : Block). list_any (is_block x) blocks ≡ true) (blocks_of pieces)
each_among blocks [] e = tt
each_among blocks (piece ∷ pieces) e =
    ((piece_parts blocks piece pieces (front (is_piece_of blocks piece pieces) _ e)).has, each_among blocks pieces (back (is_piece_of blocks piece pieces) _ e))

all_apart : (block : Block) (l : List Block) → list_any (is_block block) l ≡ false → AllByRecursion (λ (other : Block). block ≢ other) l
all_apart block [] e = tt
all_apart block (x ∷ l) e = by_test (is_block block x) refl (all_apart block l) e
  where
    by_test : (t : Bool) → is_block block x ≡ t → (list_any (is_block block) l ≡ false → AllByRecursion (λ (other : Block). block ≢ other) l) → t || list_any (is_block block) l ≡ false → (block ≢ x) × AllByRecursion (λ (other : Block). block ≢ other) l
    by_test true is later e = absurd (false≢true (sym e))
    by_test false is later e = ((λ same. false≢true (sym is ∙ ap (is_block block) (sym same) ∙ block_itself block)), later e)

not_true : (t : Bool) → not t ≡ true → t ≡ false
not_true false e = refl
not_true true e = absurd (false≢true e)

all_differ : (blocks : List Block) (pieces : List Piece) → are_pieces_of blocks pieces ≡ true → AllDiffer (blocks_of pieces)
all_differ blocks [] e = tt
all_differ blocks (piece ∷ pieces) e =
    let parts = piece_parts blocks piece pieces (front (is_piece_of blocks piece pieces) _ e) in
    (all_apart piece.block (blocks_of pieces) (not_true _ parts.alone), all_differ blocks pieces (back (is_piece_of blocks piece pieces) _ e))

-- pieces of a session's blocks are such as a key's row may have
pub pieces_are_fit : (blocks : List Block) (pieces : List Piece) → AreItems IsBlock blocks → are_pieces_of blocks pieces ≡ true → AreItems IsPiece pieces
pieces_are_fit blocks pieces fit e =
    let few = no_longer is_block one_block (blocks_of pieces) blocks (all_differ blocks pieces e) (each_among blocks pieces e) in
    let most = fit.0 in
    let same = as_many pieces in
    ((omega (arith, few, most, same)), pieces_fit blocks pieces fit.1 e)

any_among : (block : Block) (l blocks : List Block) → AllByRecursion (λ (x : Block). list_any (is_block x) blocks ≡ true) l → list_any (is_block block) l ≡ true → list_any (is_block block) blocks ≡ true
any_among block [] blocks all e = absurd (false≢true e)
any_among block (x ∷ l) blocks all e = by_test (is_block block x) refl (any_among block l blocks all.1) e
  where
    by_test : (t : Bool) → is_block block x ≡ t → (list_any (is_block block) l ≡ true → list_any (is_block block) blocks ≡ true) → t || list_any (is_block block) l ≡ true → list_any (is_block block) blocks ≡ true
    by_test true is later e = ap (λ y. list_any (is_block y) blocks) (one_block block x is) ∙ all.0
    by_test false is later e = later e

-- the blocks that pieces use are those of the session in which pieces stand
abbrev pub used : List Block → List Piece → List Block
used blocks pieces = filter (has_block (blocks_of pieces)) blocks

pub same_used : (blocks : List Block) (pieces : List Piece) → are_pieces_of blocks pieces ≡ true → (block : Block) → list_any (is_block block) (blocks_of pieces) ≡ list_any (is_block block) (used blocks pieces)
same_used blocks pieces e block = by_tests (list_any (is_block block) (blocks_of pieces)) refl (list_any (is_block block) (used blocks pieces)) refl
  where
    by_tests : (s : Bool) → list_any (is_block block) (blocks_of pieces) ≡ s → (t : Bool) → list_any (is_block block) (used blocks pieces) ≡ t → s ≡ t
    by_tests true is true is' = refl
    by_tests false is false is' = refl
    by_tests true is false is' = absurd (false≢true (sym is' ∙ to_kept (has_block (blocks_of pieces)) block blocks is (any_among block (blocks_of pieces) blocks (each_among blocks pieces e) is)))
    by_tests false is true is' = absurd (false≢true (sym is ∙ (in_kept (has_block (blocks_of pieces)) block blocks is').0))

-- a block of the session is used or left
pub used_or_left : (blocks : List Block) (pieces : List Piece) (block : Block) → list_any (is_block block) blocks ≡ true → (list_any (is_block block) (used blocks pieces) ≡ true) ⊎ (list_any (is_block block) (unused blocks pieces) ≡ true)
used_or_left blocks pieces block e = by_test (has_block (blocks_of pieces) block) refl
  where
    by_test : (t : Bool) → has_block (blocks_of pieces) block ≡ t → (list_any (is_block block) (used blocks pieces) ≡ true) ⊎ (list_any (is_block block) (unused blocks pieces) ≡ true)
    by_test true is = inl (to_kept (has_block (blocks_of pieces)) block blocks is e)
    by_test false is = inr (to_kept (λ x. not (has_block (blocks_of pieces) x)) block blocks (ap not is) e)

pub not_both : (blocks : List Block) (pieces : List Piece) (block : Block) → list_any (is_block block) (used blocks pieces) ≡ true → list_any (is_block block) (unused blocks pieces) ≡ true → ⊥
not_both blocks pieces block one two =
    let is = (in_kept (has_block (blocks_of pieces)) block blocks one).0 in
    let is_not = (in_kept (λ x. not (has_block (blocks_of pieces) x)) block blocks two).0 in
    false≢true (sym (ap not is) ∙ is_not)

-- where none is left all are used
pub all_used : (blocks : List Block) (pieces : List Piece) → unused blocks pieces ≡ [] → used blocks pieces ≡ blocks
all_used [] pieces e = refl
all_used (x ∷ blocks) pieces e = by_test (has_block (blocks_of pieces) x) refl e (all_used blocks pieces)
  where
    by_test : (t : Bool) → has_block (blocks_of pieces) x ≡ t → cond (not t) (x ∷ unused blocks pieces) (unused blocks pieces) ≡ [] → (unused blocks pieces ≡ [] → used blocks pieces ≡ blocks) → cond t (x ∷ used blocks pieces) (used blocks pieces) ≡ x ∷ blocks
    by_test true is e later = ap (λ l. x ∷ l) (later e)
    by_test false is e later = absurd (cc)
