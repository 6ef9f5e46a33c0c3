-- What edits of maps leave of what they stand for.
use Rattle.std.proofs.Common.{◌≡◌, ℕ, Bool, true, false, cond, not, List, Option, None, Some, refl, sym, ap, ◌∙◌, eqb-true}
use Rattle.std.specs.Option.{option_map_or}
use Rattle.std.specs.Ordering.{nat_cmp, is_eq}
use Rattle.std.specs.List.{filter}
use Rattle.std.proofs.lemmas.Map.Entries.{lookup-filter-keys}
use Rattle.oz_fields.specs.declared.block.Block.{Block}
use Rattle.oz_entries.specs.declared.row.BlockRow.{BlockRow}
use Rattle.oz_entries.specs.declared.replica.Replica.{Replica}
use Rattle.oz_entries.specs.Node.{is_in}
use Rattle.oz_entries.specs.Held.{place_of, row_of, replica_of, block_order}
use Rattle.oz_entries.specs.laws.Blocks.{eq_number, eq_block, same_block}

pub named_same : {X : Type 0} (f : Replica → X) (d : X) (old new : List (ℕ × Replica)) (container : ℕ) (replica : Replica) → f replica ≡ d → replica_of old container ≡ None
    → ((other : ℕ) → replica_of new other ≡ cond (is_eq (nat_cmp container other)) (Some replica) (replica_of old other))
    → (other : ℕ) → option_map_or f (replica_of new other) d ≡ option_map_or f (replica_of old other) d
named_same f d old new container replica default none updates other =
    ap (λ (o : Option Replica). option_map_or f o d) (updates other) ∙ by (is_eq (nat_cmp container other)) refl
  where
    by : (b : Bool) → b ≡ is_eq (nat_cmp container other) → option_map_or f (cond b (Some replica) (replica_of old other)) d ≡ option_map_or f (replica_of old other) d
    by false is = refl
    by true is =
        let same : container ≡ other = eqb-true container other (sym (eq_number container other) ∙ sym is) in
        default ∙ sym (ap (λ (o : Option Replica). option_map_or f o d) (ap (replica_of old) (sym same) ∙ none))

turned : (b : Bool) (x : Option (Option BlockRow)) → cond (not b) x None ≡ cond b None x
turned true x = refl
turned false x = refl

-- what there is behind a place
abbrev behind : Option (Option BlockRow) → Option BlockRow
behind place = option_map_or (λ (row : Option BlockRow). row) place None

behind_none : (b : Bool) (x : Option (Option BlockRow)) → behind (cond b None x) ≡ cond b None (behind x)
behind_none true x = refl
behind_none false x = refl

-- a place without a row changes nothing
pub room_same : (old new : List (Block × Option BlockRow)) (block : Block) → place_of old block ≡ None → ((other : Block) → place_of new other ≡ cond (is_eq (block_order block other)) (Some None) (place_of old other))
    → (other : Block) → row_of new other ≡ row_of old other
room_same old new block none updates other = ap behind (updates other) ∙ by (is_eq (block_order block other)) refl
  where
    by : (b : Bool) → b ≡ is_eq (block_order block other) → behind (cond b (Some None) (place_of old other)) ≡ behind (place_of old other)
    by false is = refl
    by true is =
        let same : block ≡ other = same_block block other (sym (eq_block block other) ∙ sym is) in
        sym (ap behind (ap (place_of old) (sym same) ∙ none))

pub rows_outside : (container : ℕ) (rows kept : List (Block × Option BlockRow)) → kept ≡ filter (λ e. not (is_in container e.0)) rows → (other : Block) → row_of kept other ≡ cond (is_in container other) None (row_of rows other)
rows_outside container rows kept is other =
    ap (λ (l : List (Block × Option BlockRow)). row_of l other) is
    ∙ (ap behind (lookup-filter-keys (λ k. is_eq (block_order other k)) (λ k. not (is_in container k)) (not (is_in container other)) (λ k same. ap (λ (b : Block). not (is_in container b)) (sym (same_block other k (sym (eq_block other k) ∙ same)))) rows
    ∙ turned (is_in container other) (place_of rows other))
    ∙ behind_none (is_in container other) (place_of rows other))
