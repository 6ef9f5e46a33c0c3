-- How far the chunks of a block were read without a look at their digests, and what they are where each has its own.
use Rattle.std.proofs.Common.{◌≡◌, ℕ, ◌+◌, ◌-◌, ◌<◌, ◌≤◌, List, [], ◌∷◌, ◌++◌, length, min, drop, get_or, slice_range, Option, None, Some, IfSome, refl, sym, ap, subst, ◌∙◌, add-one, drop-cons, append_assoc}
use Rattle.std.proofs.lemmas.List.{append-nil}
use Rattle.std.proofs.lemmas.List.Elements.{All-head, All-tail}
use Rattle.std.proofs.Math.ListN.{drop_of_length-le}
use Rattle.oz_chunk.specs.Slots.{start_of}
use Rattle.oz_entries.specs.declared.row.Chunk.{Chunk}
use Rattle.oz_fields.specs.declared.block.Block.{Block}
use Rattle.sha2.specs.Sha256.{sha256}
use Rattle.oz_datanode.specs.Datanode.{State}
use Rattle.oz_datanode.specs.Pairs.{part_of, parts_of, HaveDigests}
use Rattle.oz_datanode.specs.Reading.{IsRead}
use Rattle.oz_datanode.specs.Unverified.{AreAsKept, AreUnverified, HasItsDigest, IsUnverified, joined}
use Rattle.oz_datanode.specs.declared.unverified.Unverified.{Unverified}

-- the chunks before the rest were read
abbrev pub CopiedSoFar : Option (List ℕ) → ℕ → ℕ → List Chunk → List Chunk → List Unverified → Type 0
CopiedSoFar told size left chunks rest read =
    (slots : List ℕ) → told ≡ Some slots → (more : List Unverified) → AreUnverified left rest slots more → AreUnverified size chunks slots (read ++ more)

pub copied_none : (told : Option (List ℕ)) (size : ℕ) (chunks : List Chunk) (read : List Unverified) → read ≡ [] → CopiedSoFar told size size chunks (drop 0 chunks) read
copied_none told size chunks read none = λ slots is more are. subst (λ (l : List Unverified). AreUnverified size chunks slots (l ++ more)) (sym none) are

module _ (told : Option (List ℕ)) (size left : ℕ) (chunks : List Chunk) (i : ℕ) (d : Chunk) (read : List Unverified) (less : i < length chunks) where
  abbrev chunk : Chunk
  chunk = get_or chunks i d

  rest_is : drop i chunks ≡ chunk ∷ drop (i + 1) chunks
  rest_is = rw (add-one) (drop-cons chunks i d less)

  one_more : (slots : List ℕ) (one : Unverified) (more : List Unverified) → one.bytes.items ≡ part_of left chunk slots → one.digest ≡ chunk.digest → AreUnverified (left - 16384) (drop (i + 1) chunks) slots more → AreUnverified left (chunk ∷ drop (i + 1) chunks) slots (one ∷ more)
  unfolding AreUnverified
  one_more slots one more is digest are = (is, digest, are)

  pub copied_more : (now : Option (List ℕ)) (after count : ℕ) (one : Unverified) (all : List Unverified) → CopiedSoFar told size left chunks (drop i chunks) read → now ≡ told → ((slots : List ℕ) → now ≡ Some slots → one.bytes.items ≡ slice_range slots (start_of chunk.slot) (start_of chunk.slot + count)) → count ≡ min left 16384 → one.digest ≡ chunk.digest → after ≡ left - 16384 → all ≡ read ++ one ∷ []
      → CopiedSoFar told size after chunks (drop (i + 1) chunks) all
  copied_more now after count one all so_far same is least digest fewer behind = λ slots tells more are.
      subst (λ (l : List Unverified). AreUnverified size chunks slots l) (sym (ap (λ (l : List Unverified). l ++ more) behind ∙ append_assoc read (one ∷ []) more))
      (so_far slots tells (one ∷ more) (subst (λ (l : List Chunk). AreUnverified left l slots (one ∷ more)) (sym rest_is)
      (one_more slots one more (is slots (same ∙ tells) ∙ ap (λ (n : ℕ). slice_range slots (start_of chunk.slot) (start_of chunk.slot + n)) least) digest (subst (λ (n : ℕ). AreUnverified n (drop (i + 1) chunks) slots more) fewer are))))

none_left : (left : ℕ) (rest : List Chunk) (slots : List ℕ) → rest ≡ [] → AreUnverified left rest slots []
unfolding AreUnverified
none_left left rest slots none = subst (λ (l : List Chunk). AreUnverified left l slots []) (sym none) refl

pub copied_all : (told : Option (List ℕ)) (size left : ℕ) (chunks : List Chunk) (i : ℕ) (read : List Unverified) → CopiedSoFar told size left chunks (drop i chunks) read → length chunks ≤ i → (slots : List ℕ) → told ≡ Some slots → AreUnverified size chunks slots read
copied_all told size left chunks i read so_far past slots tells =
    subst (λ (l : List Unverified). AreUnverified size chunks slots l) (append-nil read) (so_far slots tells [] (none_left left (drop i chunks) slots (drop_of_length-le chunks past)))

-- together they have the bytes of the block
are_parts : (size : ℕ) (chunks : List Chunk) (slots : List ℕ) (read : List Unverified) → AreUnverified size chunks slots read → joined read ≡ parts_of size chunks slots
unfolding AreUnverified joined parts_of
are_parts size [] slots read are = ap joined are
are_parts size (c ∷ cs) slots [] are = absurd are
are_parts size (c ∷ cs) slots (first ∷ rest) are =
    ap (λ (l : List ℕ). l ++ joined rest) are.0 ∙ ap (λ (l : List ℕ). part_of size c slots ++ l) (are_parts (size - 16384) cs slots rest are.2)

have_digests : (size : ℕ) (chunks : List Chunk) (slots : List ℕ) (read : List Unverified) → AreUnverified size chunks slots read → AreAsKept read → HaveDigests size chunks slots
unfolding AreUnverified HaveDigests
have_digests size [] slots read are kept = tt
have_digests size (c ∷ cs) slots [] are kept = absurd are
have_digests size (c ∷ cs) slots (first ∷ rest) are kept = (sym are.1 ∙ (All-head HasItsDigest first rest kept ∙ ap sha256 are.0), have_digests (size - 16384) cs slots rest are.2 (All-tail HasItsDigest first rest kept))

told_too : (P Q : List ℕ → Type 0) (told : Option (List ℕ)) → ((slots : List ℕ) → P slots → Q slots) → IfSome told P → IfSome told Q
told_too P Q None all is = tt
told_too P Q (Some slots) all is = all slots is

-- where each has the digest that is kept of it, the block is read
pub read_as_kept : {D : Type 0} (told : D → Option (List ℕ)) (faults : D → ℕ) (block : Block) (read : List Unverified) (old new : State D) → IsUnverified told faults block read old new → AreAsKept read → IsRead told faults block (joined read) old new
read_as_kept told faults block read old new is kept = record {
  ran = is.ran;
  runs = is.runs;
  row = is.row;
  held = is.held;
  is = told_too _ _ _ (λ slots are. are_parts is.row.length is.row.chunks slots read are) is.are;
  digests = told_too _ _ _ (λ slots are. have_digests is.row.length is.row.chunks slots read are kept) is.are;
}

-- ---- their bytes, one behind the other

pub join_more : (chunks : List Unverified) (i : ℕ) (d : Unverified) (bytes all : List ℕ) → i < length chunks → bytes ++ joined (drop i chunks) ≡ joined chunks → all ≡ bytes ++ (get_or chunks i d).bytes.items → all ++ joined (drop (i + 1) chunks) ≡ joined chunks
unfolding joined
join_more chunks i d bytes all less so_far more =
    let rest_is : drop i chunks ≡ get_or chunks i d ∷ drop (i + 1) chunks = rw (add-one) (drop-cons chunks i d less) in
    ap (λ (l : List ℕ). l ++ joined (drop (i + 1) chunks)) more
    ∙ (append_assoc bytes (get_or chunks i d).bytes.items (joined (drop (i + 1) chunks))
    ∙ (ap (λ (l : List Unverified). bytes ++ joined l) (sym rest_is) ∙ so_far))

pub join_all : (chunks : List Unverified) (i : ℕ) (bytes : List ℕ) → bytes ++ joined (drop i chunks) ≡ joined chunks → length chunks ≤ i → bytes ≡ joined chunks
unfolding joined
join_all chunks i bytes so_far past =
    sym (append-nil bytes) ∙ (ap (λ (l : List Unverified). bytes ++ joined l) (sym (drop_of_length-le chunks past)) ∙ so_far)
