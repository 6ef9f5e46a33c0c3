-- Which rows come where names are noted.
use Rattle.std.proofs.Common.{◌≡◌, ◌⊎◌, inl, inr, ℕ, ◌&&◌, ◌||◌, not, Bool, true, false, List, [], ◌∷◌, ◌++◌, Option, Some, IsSome, is_some, cond, refl, sym, ◌∙◌, ap, subst, append_assoc, suc, ◌+◌, ◌<◌, length, drop, drop-cons, get_or, arith}
use mathlib.Core.Bool.{false≢true}
use Rattle.std.specs.List.{AllByRecursion, list_any}
use Rattle.std.specs.Ordering.{is_eq}
use Rattle.oz_decision.specs.laws.Versions.{block_itself, one_block}
use Rattle.oz_fields.specs.declared.block.Block.{Block}
use Rattle.oz_fields.specs.declared.block.Piece.{Piece}
use Rattle.oz_om_key.specs.om_change.Noting.{is_wanted, note, noted}
use Rattle.oz_rows.specs.declared.key.RowKey.{RowKey}
use Rattle.oz_rows.specs.declared.key.RowKey.TheVariants as keys
use Rattle.oz_rows.specs.declared.operation.Change.{Change}
use Rattle.oz_rows.specs.declared.row.Row.{Row}
use Rattle.oz_rows.specs.declared.row.Row.TheVariants as rows
use Rattle.oz_rows.specs.RowMaps.{Rows, is_block, is_same, row_after}
use Rattle.oz_rows.specs.laws.Order.{itself}
use Rattle.oz_rows.specs.laws.Same.{same_is_one}
use Rattle.oz_om_key.proofs.om_change_lemmas.Batches.{bytes_of, bytes_join}

module _ (all : Rows) (v b k numbers : List ℕ) where
  abbrev wanted : Block → Bool
  wanted block = is_wanted all v b k numbers block

  abbrev pub notes : List Block → List Change
  notes blocks = noted all v b k numbers blocks

  -- what is noted begins with the row of the first block, where that is wanted
  abbrev first_notes : Bool → Block → List Change → List Change
  first_notes t block more = cond t (note v b k block ∷ more) more

  pub begins : (block : Block) (blocks : List Block) → notes (block ∷ blocks) ≡ first_notes (wanted block) block (notes blocks)
  begins block blocks = by (wanted block) refl
    where
      by : (t : Bool) → wanted block ≡ t → notes (block ∷ blocks) ≡ first_notes t block (notes blocks)
      by true e = simp e refl
      by false e = simp e refl

  pub notes_all : (P : Change → Type 0) → ((local : ℕ) (row : Row) → P (record { key = keys.Renamed v b 0 local; row = Some row })) → (blocks : List Block) → AllByRecursion P (notes blocks)
  notes_all P holds [] = tt
  notes_all P holds (block ∷ blocks) = subst (AllByRecursion P) (sym (begins block blocks)) (by (wanted block) (notes_all P holds blocks))
    where
      by : (t : Bool) → AllByRecursion P (notes blocks) → AllByRecursion P (first_notes t block (notes blocks))
      by true others = (holds block.local (rows.Renamed k), others)
      by false others = others

  -- the row is that of a block of these that is wanted
  pub record IsNoted (place : RowKey) (blocks : List Block) : Type 0 where
    pub block : Block
    pub among : list_any (is_block block) blocks ≡ true
    pub is : wanted block ≡ true
    pub its_place : place ≡ keys.Renamed v b 0 block.local

  later : (place : RowKey) (first : Block) (blocks : List Block) → IsNoted place blocks → IsNoted place (first ∷ blocks)
  later place first blocks it = record { block = it.block; among = by (is_block it.block first); is = it.is; its_place = it.its_place }
    where
      by : (t : Bool) → t || list_any (is_block it.block) blocks ≡ true
      by true = refl
      by false = it.among

  -- the row of a place stays, or is that of the old name
  abbrev Noting : RowKey → List Block → Option Row → List Change → Type 0
  Noting place blocks row made = (row_after made place row ≡ row) ⊎ (IsNoted place blocks × (row_after made place row ≡ Some (rows.Renamed k)))

  pub noting : (blocks : List Block) (place : RowKey) (row : Option Row) → Noting place blocks row (notes blocks)
  noting [] place row = inl refl
  noting (block ∷ blocks) place row = subst (Noting place (block ∷ blocks) row) (sym (begins block blocks)) (by (wanted block) refl (λ o. more o (noting blocks place o)))
    where
      more : (o : Option Row) → Noting place blocks o (notes blocks) → Noting place (block ∷ blocks) o (notes blocks)
      more o (inl same) = inl same
      more o (inr found) = inr (later place block blocks found.0, found.1)

      here : wanted block ≡ true → is_same (keys.Renamed v b 0 block.local) place ≡ true → IsNoted place (block ∷ blocks)
      here e f = record {
        block = block;
        among = ap (λ (t : Bool). t || list_any (is_block block) blocks) (block_itself block);
        is = e;
        its_place = sym (same_is_one (keys.Renamed v b 0 block.local) place f);
      }

      at : ((o : Option Row) → Noting place (block ∷ blocks) o (notes blocks)) → wanted block ≡ true → (t : Bool) → is_same (keys.Renamed v b 0 block.local) place ≡ t
          → (row_after (notes blocks) place (cond t (Some (rows.Renamed k)) row) ≡ row) ⊎ (IsNoted place (block ∷ blocks) × (row_after (notes blocks) place (cond t (Some (rows.Renamed k)) row) ≡ Some (rows.Renamed k)))
      at rest e false f = rest row
      at rest e true f = elim (rest (Some (rows.Renamed k))) [ inl same ↦ inr (here e f, same) | inr found ↦ inr found ]

      by : (t : Bool) → wanted block ≡ t → ((o : Option Row) → Noting place (block ∷ blocks) o (notes blocks)) → Noting place (block ∷ blocks) row (first_notes t block (notes blocks))
      by true e rest = at rest e (is_same (keys.Renamed v b 0 block.local) place) refl
      by false e rest = rest row

  pub still_there : (blocks : List Block) (place : RowKey) (row : Option Row) → IsSome row → IsSome (row_after (notes blocks) place row)
  still_there blocks place row some = elim (noting blocks place row) [ inl same ↦ subst IsSome (sym same) some | inr found ↦ ap is_some found.1 ]

  -- where it is wanted, it comes
  pub comes : (block : Block) → wanted block ≡ true → (blocks : List Block) → list_any (is_block block) blocks ≡ true → (row : Option Row) → IsSome (row_after (notes blocks) (keys.Renamed v b 0 block.local) row)
  comes block is [] among row = absurd (false≢true among)
  comes block is (first ∷ blocks) among row =
      subst (λ (l : List Change). IsSome (row_after l (keys.Renamed v b 0 block.local) row)) (sym (begins first blocks)) (by (wanted first) refl (is_block block first) refl among (comes block is blocks))
    where
      itself_key : (q : RowKey) → is_same q q ≡ true
      itself_key q = ap is_eq (itself q)

      by : (t : Bool) → wanted first ≡ t → (s : Bool) → is_block block first ≡ s → s || list_any (is_block block) blocks ≡ true
          → (list_any (is_block block) blocks ≡ true → (o : Option Row) → IsSome (row_after (notes blocks) (keys.Renamed v b 0 block.local) o))
          → IsSome (row_after (first_notes t first (notes blocks)) (keys.Renamed v b 0 block.local) row)
      by true e false f among later_on = later_on among (cond (is_same (keys.Renamed v b 0 first.local) (keys.Renamed v b 0 block.local)) (Some (rows.Renamed k)) row)
      by false e false f among later_on = later_on among row
      by false e true f among later_on = absurd (false≢true (sym e ∙ ap wanted (sym (one_block block first f)) ∙ is))
      by true e true f among later_on =
          let same : is_same (keys.Renamed v b 0 first.local) (keys.Renamed v b 0 block.local) ≡ true =
          ap (λ (x : Block). is_same (keys.Renamed v b 0 x.local) (keys.Renamed v b 0 block.local)) (sym (one_block block first f)) ∙ itself_key (keys.Renamed v b 0 block.local) in
          still_there blocks (keys.Renamed v b 0 block.local) (cond (is_same (keys.Renamed v b 0 first.local) (keys.Renamed v b 0 block.local)) (Some (rows.Renamed k)) row)
          (ap (λ (t : Bool). is_some (cond t (Some (rows.Renamed k)) row)) same)

  -- ---- one block after another

  pub one_then : (block : Block) (blocks : List Block) → notes (block ∷ blocks) ≡ notes (block ∷ []) ++ notes blocks
  one_then block blocks = begins block blocks ∙ by (wanted block) ∙ ap (λ (l : List Change). l ++ notes blocks) (sym (begins block []))
    where
      by : (t : Bool) → first_notes t block (notes blocks) ≡ first_notes t block [] ++ notes blocks
      by true = refl
      by false = refl

  pub changes_on : (before more whole : List Change) (block : Block) (blocks : List Block) → more ≡ before ++ notes (block ∷ []) → before ++ notes (block ∷ blocks) ≡ whole → more ++ notes blocks ≡ whole
  changes_on before more whole block blocks is so_far =
      ap (λ (l : List Change). l ++ notes blocks) is ∙ append_assoc before (notes (block ∷ [])) (notes blocks) ∙ ap (λ (l : List Change). before ++ l) (sym (one_then block blocks)) ∙ so_far

  pub bytes_on : (before more whole : List ℕ) (block : Block) (blocks : List Block) → more ≡ before ++ bytes_of (notes (block ∷ [])) → before ++ bytes_of (notes (block ∷ blocks)) ≡ whole → more ++ bytes_of (notes blocks) ≡ whole
  bytes_on before more whole block blocks is so_far =
      ap (λ (l : List ℕ). l ++ bytes_of (notes blocks)) is ∙ append_assoc before (bytes_of (notes (block ∷ []))) (bytes_of (notes blocks))
      ∙ ap (λ (l : List ℕ). before ++ l) (sym (bytes_join (notes (block ∷ [])) (notes blocks)) ∙ ap bytes_of (sym (one_then block blocks)))
      ∙ so_far

-- the pieces from a place on
pub pieces_at : (l : List Piece) (i : ℕ) (d : Piece) → i < length l → drop i l ≡ get_or l i d ∷ drop (i + 1) l
pieces_at l i d lt = let next : suc i ≡ i + 1 = omega arith in drop-cons l i d lt ∙ ap (λ n. get_or l i d ∷ drop n l) next

unheld : (t : Bool) → t && false ≡ false
unheld true = refl
unheld false = refl

-- a bucket without snapshots has nothing noted
pub nothing_noted : (all : Rows) (v b k : List ℕ) (blocks : List Block) → noted all v b k [] blocks ≡ []
nothing_noted all v b k [] = refl
nothing_noted all v b k (block ∷ blocks) =
    begins all v b k [] block blocks
    ∙ ap (λ (t : Bool). cond t (note v b k block ∷ noted all v b k [] blocks) (noted all v b k [] blocks)) (unheld (not (is_some (all (keys.Renamed v b 0 block.local)))))
    ∙ nothing_noted all v b k blocks
