-- Lines and words of bytes, one after the other.
use Rattle.std.proofs.Common.{◌≡◌, ℕ, suc, ◌+◌, ◌<◌, ◌≤◌, Bool, true, false, cond, List, [], ◌∷◌, length, take, drop, refl, sym, ap, ◌∙◌, arith}
use Rattle.std.specs.Prelude.{not, nat_lt, filter, Option, None, Some, unwrap_or, ◌==◌}
use Rattle.std.specs.List.{slice_split, position, position_or_len}
use Rattle.std.specs.Str.Lines.{lines, lines_of_parts, strip_carriage_return}
use Rattle.std.proofs.lemmas.Bool.{ltb-true, ltb-false, lt-ltb}
use Rattle.std.proofs.lemmas.List.{drop_all, take_all, length-take}
use Rattle.std.proofs.lemmas.List.Splits.{slice_split_first}
use Rattle.std.proofs.lemmas.List.Sums.{prefix_len-le-length}
use Rattle.oz_command.specs.Words.{is_blank, words}

abbrev pub kept : List (List ℕ) → List (List ℕ)
kept parts = filter (λ word. nat_lt 0 (length word)) parts

-- the parts of a list: what stands before the first cut, and then others
pub record Parts (cuts : ℕ → Bool) (xs : List ℕ) : Type 0 where
  pub others : List (List ℕ)
  pub parts : slice_split cuts xs ≡ take (position_or_len cuts xs) xs ∷ others
  pub rest : kept others ≡ kept (slice_split cuts (drop (position_or_len cuts xs) xs))

-- one element more
abbrev cut_at : (cuts : ℕ → Bool) (x : ℕ) (xs : List ℕ) → Bool → ℕ
cut_at cuts x xs cut = cond (not cut) (1 + position_or_len cuts xs) 0

parts-cons : (cuts : ℕ → Bool) (x : ℕ) (xs : List ℕ) (cut : Bool) → cuts x ≡ cut → Parts cuts xs → Parts cuts (x ∷ xs)
parts-cons cuts x xs true e p = record { others = slice_split cuts xs; parts = simp e; rest = simp e }
parts-cons cuts x xs false e p =
    let one : 1 + position_or_len cuts xs ≡ suc (position_or_len cuts xs) = omega arith in
    record {
      others = p.others;
      parts = simp (e, one, p.parts);
      rest = simp (e, one) p.rest;
    }

pub parts_of : (cuts : ℕ → Bool) (xs : List ℕ) → Parts cuts xs
parts_of cuts [] = record { others = []; parts = refl; rest = refl }
parts_of cuts (x ∷ xs) = parts-cons cuts x xs (cuts x) refl (parts_of cuts xs)

-- no cut, one part
one_part-cons : (cuts : ℕ → Bool) (x : ℕ) (xs : List ℕ) (cut : Bool) → cuts x ≡ cut → (position_or_len cuts xs ≡ length xs → slice_split cuts xs ≡ xs ∷ []) → position_or_len cuts (x ∷ xs) ≡ length (x ∷ xs) → slice_split cuts (x ∷ xs) ≡ (x ∷ xs) ∷ []
one_part-cons cuts x xs true e so_far h = let bad : 0 ≡ suc (length xs) = simp e at h in absurd (omega arith)
one_part-cons cuts x xs false e so_far h =
    let more : 1 + position_or_len cuts xs ≡ suc (length xs) = simp e at h in
    let below : position_or_len cuts xs ≡ length xs = omega arith in
    simp (e, so_far below)

pub one_part : (cuts : ℕ → Bool) (xs : List ℕ) → position_or_len cuts xs ≡ length xs → slice_split cuts xs ≡ xs ∷ []
one_part cuts [] h = refl
one_part cuts (x ∷ xs) h = one_part-cons cuts x xs (cuts x) refl (one_part cuts xs) h

-- the place of the first element that passes
abbrev place : ℕ → Bool → Option ℕ
place a below = cond below (Some a) None

position_some-at : (a l n : ℕ) (below : Bool) → nat_lt a l ≡ below → place a below ≡ Some n → (n ≡ a) × (a < l)
position_some-at a l n true e h = (cc, ltb-true a l e)
position_some-at a l n false e h = absurd cc

pub position_some : (test : ℕ → Bool) (xs : List ℕ) (n : ℕ) → position test xs ≡ Some n → (n ≡ position_or_len test xs) × (n < length xs)
position_some test xs n h =
    let p = position_some-at (position_or_len test xs) (length xs) n (nat_lt (position_or_len test xs) (length xs)) refl h in
    (p.0, omega (arith, p.0, p.1))

position_none-at : (a l : ℕ) (below : Bool) → nat_lt a l ≡ below → place a below ≡ None → l ≤ a
position_none-at a l true e h = absurd cc
position_none-at a l false e h = ltb-false a l e

pub position_none : (test : ℕ → Bool) (xs : List ℕ) → position test xs ≡ None → position_or_len test xs ≡ length xs
position_none test xs h =
    let past : length xs ≤ position_or_len test xs = position_none-at (position_or_len test xs) (length xs) (nat_lt (position_or_len test xs) (length xs)) refl h in
    omega (arith, prefix_len-le-length (λ x. not (test x)) xs)

pub position_else : (test : ℕ → Bool) (xs : List ℕ) (found : Option ℕ) → found ≡ position test xs → unwrap_or found (length xs) ≡ position_or_len test xs
position_else test xs None h = sym (position_none test xs (sym h))
position_else test xs (Some n) h = (position_some test xs n (sym h)).0

-- the first byte of a word
abbrev pub start_of : List ℕ → ℕ
start_of line = position_or_len (λ byte. not (is_blank byte)) line

record Start (line : List ℕ) : Type 0 where
  same : words (drop (start_of line) line) ≡ words line
  word : start_of line < length line → 0 < position_or_len is_blank (drop (start_of line) line)

start-cons : (x : ℕ) (xs : List ℕ) (blank : Bool) → is_blank x ≡ blank → Start xs → Start (x ∷ xs)
unfolding words
start-cons x xs true e s =
    let one : 1 + start_of xs ≡ suc (start_of xs) = omega arith in
    record { same = simp (e, one) s.same; word = simp (e, one) (λ h. s.word (omega arith)) }
start-cons x xs false e s = record { same = simp e; word = simp e (λ h. omega arith) }

start : (line : List ℕ) → Start line
unfolding words
start [] = record { same = refl; word = λ h. absurd (omega arith) }
start (x ∷ xs) = start-cons x xs (is_blank x) refl (start xs)

-- a word, and what stands behind it
word_at : (rest : List ℕ) → 0 < position_or_len is_blank rest → words rest ≡ take (position_or_len is_blank rest) rest ∷ words (drop (position_or_len is_blank rest) rest)
unfolding words
word_at rest some =
    let p = parts_of is_blank rest in
    let full : nat_lt 0 (length (take (position_or_len is_blank rest) rest)) ≡ true =
    lt-ltb _ _ (omega (arith, length-take (position_or_len is_blank rest) rest, prefix_len-le-length (λ byte. not (is_blank byte)) rest)) in
    ap kept p.parts ∙ simp (full, p.rest)

pub first_word : (line : List ℕ) (from : ℕ) (rest : List ℕ) (to : ℕ) → position (λ byte. not (is_blank byte)) line ≡ Some from → rest ≡ drop from line → to ≡ position_or_len is_blank rest
    → words line ≡ take to rest ∷ words (drop to rest)
first_word line from rest to h r e =
    let p = position_some (λ byte. not (is_blank byte)) line from h in
    let s = start line in
    let begins : rest ≡ drop (start_of line) line = r ∙ ap (λ (n : ℕ). drop n line) p.0 in
    let some : 0 < position_or_len is_blank rest = rw begins (s.word (omega (arith, p.0, p.1))) in
    let same : words line ≡ words rest = rw begins (sym s.same) in
    same ∙ rw e (word_at rest some)

pub no_word : (line : List ℕ) → position (λ byte. not (is_blank byte)) line ≡ None → words line ≡ []
unfolding words
no_word line h =
    let past : drop (start_of line) line ≡ [] = drop_all (start_of line) line (omega (arith, position_none (λ byte. not (is_blank byte)) line h)) in
    sym (start line).same ∙ ap words past

-- a line that ends, and what stands behind it
abbrev feeds : ℕ → Bool
feeds byte = byte == 10

pub first_line : (bytes : List ℕ) (end : ℕ) → position (λ byte. byte == 10) bytes ≡ Some end → lines bytes ≡ strip_carriage_return (take end bytes) ∷ lines (drop (end + 1) bytes)
first_line bytes end h =
    let p = position_some feeds bytes end h in
    let q = parts_of feeds (drop (end + 1) bytes) in
    let cut : slice_split feeds bytes ≡ take end bytes ∷ slice_split feeds (drop (end + 1) bytes) = rw p.0 (slice_split_first feeds bytes 0 (omega (arith, p.0, p.1))) in
    ap lines_of_parts cut ∙ rw q.parts

-- a last line that doesn't end
pub last_line : (bytes : List ℕ) → (length bytes == 0) ≡ false → position (λ byte. byte == 10) bytes ≡ None → lines bytes ≡ take (length bytes) bytes ∷ lines (drop (length bytes) bytes)
last_line bytes some h =
    let past : drop (length bytes) bytes ≡ [] = drop_all (length bytes) bytes (omega arith) in
    let whole : take (length bytes) bytes ≡ bytes = take_all (length bytes) bytes (omega arith) in
    ap lines_of_parts (one_part feeds bytes (position_none feeds bytes h)) ∙ simp (some, past, whole)
