-- The test of digests is the relation.
use Rattle.std.proofs.Common.{◌≡◌, ◌↔◌, ℕ, ◌-◌, Bool, true, false, cond, List, [], ◌∷◌, None, Some, refl, ◌∙◌, ap}
use Rattle.std.proofs.lemmas.Bool.{and_parts, and_from}
use Rattle.std.proofs.lemmas.Slice.Eq.{bytes_eq-Decides}
use Rattle.std.specs.Str.{bytes_eq}
use Rattle.oz_chunk.specs.declared.table.TheConstants.{SLOT_SIZE}
use Rattle.oz_datanode.specs.Pairs.{HaveDigests, bytes_of, part_of}
use Rattle.oz_entries.specs.declared.row.BlockRow.{BlockRow}
use Rattle.oz_entries.specs.declared.row.Chunk.{Chunk}
use Rattle.sha2.specs.Sha256.{sha256}
use Rattle.oz_nodes_loaded.specs.store_opening.Openings.{have_digests, intact_bytes}

pub tested_have : (size : ℕ) (chunks : List Chunk) (slots : List ℕ) → have_digests size chunks slots ≡ true → HaveDigests size chunks slots
unfolding HaveDigests
tested_have size [] slots is = tt
tested_have size (chunk ∷ chunks) slots is =
    let both = and_parts (bytes_eq chunk.digest (sha256 (part_of size chunk slots))) (have_digests (size - SLOT_SIZE) chunks slots) is in
    ((bytes_eq-Decides chunk.digest (sha256 (part_of size chunk slots))).0 both.0, tested_have (size - SLOT_SIZE) chunks slots both.1)

pub have_tested : (size : ℕ) (chunks : List Chunk) (slots : List ℕ) → HaveDigests size chunks slots → have_digests size chunks slots ≡ true
unfolding HaveDigests
have_tested size [] slots have = refl
have_tested size (chunk ∷ chunks) slots have =
    and_from (bytes_eq chunk.digest (sha256 (part_of size chunk slots))) (have_digests (size - SLOT_SIZE) chunks slots)
    ((bytes_eq-Decides chunk.digest (sha256 (part_of size chunk slots))).1 have.0) (have_tested (size - SLOT_SIZE) chunks slots have.1)

pub intact_are : (row : BlockRow) (slots content : List ℕ)
    → (intact_bytes row slots ≡ Some content) ↔ ((bytes_of row slots ≡ content) × HaveDigests row.length row.chunks slots)
intact_are row slots content = (
  by (have_digests row.length row.chunks slots) refl,
  λ both. ap (λ (t : Bool). cond t (Some (bytes_of row slots)) None) (have_tested row.length row.chunks slots both.1)
      ∙ ap (λ (b : List ℕ). Some b) both.0,
)
  where
    by : (t : Bool) → have_digests row.length row.chunks slots ≡ t → cond t (Some (bytes_of row slots)) None ≡ Some content → (bytes_of row slots ≡ content)
        × HaveDigests row.length row.chunks slots
    by true tested is = (cc, tested_have row.length row.chunks slots tested)
    by false tested is = absurd cc
