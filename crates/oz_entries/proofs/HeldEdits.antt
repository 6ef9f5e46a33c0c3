-- What edits of what is held come to.
use Rattle.std.proofs.Common.{◌≡◌, inl, inr, ℕ, ◌<◌, ◌≤◌, eqb, ◌||◌, max, Bool, true, false, cond, List, [], ◌∷◌, length, Option, None, Some, is_some, refl, sym, ap, subst, ◌∙◌, arith, eqb-true}
use Rattle.std.proofs.lemmas.Bool.{cases_lt, false≢true}
use Rattle.std.proofs.lemmas.List.{get_or_past}
use Rattle.std.specs.Option.{option_map_or}
use Rattle.oz_fields.specs.declared.block.Block.{Block}
use Rattle.oz_entries.specs.declared.row.Chunk.{Chunk}
use Rattle.oz_entries.specs.declared.row.BlockRow.{BlockRow}
use Rattle.oz_entries.specs.declared.replica.Replica.{Replica}
use Rattle.oz_entries.specs.Node.{is_same_block, is_used, is_in, unless_gone, without, with_row, HaveFreeSlots, or_slot}
use Rattle.oz_entries.specs.Held.{HeldView, node_of, row_of, replica_of, user_of, any_in, row_has, AreSame, IsSound}
use Rattle.oz_entries.specs.laws.Sound.{released}

-- each slot of a row is one of those that there are
slots_below : (used : ℕ → Bool) (chunks : List Chunk) → HaveFreeSlots used chunks → (slot : ℕ) → any_in chunks slot ≡ true → slot < 16384
slots_below used [] free slot has = absurd (false≢true has)
slots_below used (chunk ∷ chunks) free slot has = by (eqb chunk.slot slot) refl (slots_below (or_slot used chunk.slot) chunks free.3 slot)
  where
    by : (b : Bool) → b ≡ eqb chunk.slot slot → (any_in chunks slot ≡ true → slot < 16384) → slot < 16384
    by true is others = subst (λ (n : ℕ). n < 16384) (eqb-true chunk.slot slot (sym is)) free.0
    by false is others = others (ap (λ (b : Bool). b || any_in chunks slot) is ∙ has)

pub none_of : {X : Type 0} (o : Option X) → is_some o ≡ false → o ≡ None
none_of None is = refl
none_of (Some x) is = absurd (false≢true (sym is))

pub put_same : (held : HeldView) (block : Block) (row : BlockRow) (rows : List (Block × Option BlockRow)) (users : List (Option Block)) → length held.users ≡ 16384 → HaveFreeSlots (is_used (node_of held)) row.chunks
    → ((other : Block) → row_of rows other ≡ cond (is_same_block block other) (Some row) (row_of held.rows other)) → length users ≡ length held.users
    → ((slot : ℕ) → slot < length held.users → user_of users slot ≡ cond (any_in row.chunks slot) (Some block) (user_of held.users slot))
    → AreSame (with_row block row (node_of held)) (node_of (record { rows = rows; replicas = held.replicas; users = users }))
put_same held block row rows users size free rows_are count taken = record {
  rows = rows_are;
  states = λ container. refl;
  greatest = λ container. refl;
  users = λ slot. elim (cases_lt slot (length held.users)) [
    | inl within ↦ taken slot within
    | inr beyond ↦
        let after : user_of users slot ≡ None = get_or_past users slot None (omega (arith, beyond, count)) in
        let before : user_of held.users slot ≡ None = get_or_past held.users slot None beyond in
        after ∙ sym (by slot (omega (arith, beyond, size)) before (any_in row.chunks slot) refl)
  ];
} where
  by : (slot : ℕ) → 16384 ≤ slot → user_of held.users slot ≡ None → (b : Bool) → b ≡ any_in row.chunks slot → cond b (Some block) (user_of held.users slot) ≡ None
  by slot beyond none true is = absurd (omega (arith, beyond, slots_below (is_used (node_of held)) row.chunks free slot (sym is)))
  by slot beyond none false is = none

pub forget_same : (held : HeldView) (block : Block) (row : Option BlockRow) (rows : List (Block × Option BlockRow)) (users : List (Option Block)) → IsSound (node_of held) → row ≡ row_of held.rows block
    → ((other : Block) → row_of rows other ≡ cond (is_same_block block other) None (row_of held.rows other))
    → ((slot : ℕ) → user_of users slot ≡ cond (row_has row slot) None (user_of held.users slot))
    → AreSame (without (is_same_block block) (node_of held)) (node_of (record { rows = rows; replicas = held.replicas; users = users }))
forget_same held block row rows users sound is rows_are free = record {
  rows = rows_are;
  states = λ container. refl;
  greatest = λ container. refl;
  users = λ slot. free slot ∙ (ap (λ (o : Option BlockRow). cond (row_has o slot) None (user_of held.users slot)) is ∙ released block (node_of held) sound slot);
}

pub outside_same : (held : HeldView) (container : ℕ) (rows : List (Block × Option BlockRow)) (users : List (Option Block))
    → ((other : Block) → row_of rows other ≡ cond (is_in container other) None (row_of held.rows other))
    → ((slot : ℕ) → user_of users slot ≡ unless_gone (is_in container) (user_of held.users slot))
    → AreSame (without (is_in container) (node_of held)) (node_of (record { rows = rows; replicas = held.replicas; users = users }))
outside_same held container rows users rows_are free = record { rows = rows_are; states = λ c. refl; greatest = λ c. refl; users = free }

-- a replica is changed
pub changed : {X : Type 0} (f : Replica → X) (d : X) (old new : List (ℕ × Replica)) (container : ℕ) (replica : Replica) → ((other : ℕ) → replica_of new other ≡ cond (eqb container other) (Some replica) (replica_of old other))
    → (other : ℕ) → option_map_or f (replica_of new other) d ≡ cond (eqb container other) (f replica) (option_map_or f (replica_of old other) d)
changed f d old new container replica updates other = ap (λ (o : Option Replica). option_map_or f o d) (updates other) ∙ by (eqb container other)
  where
    by : (b : Bool) → option_map_or f (cond b (Some replica) (replica_of old other)) d ≡ cond b (f replica) (option_map_or f (replica_of old other) d)
    by true = refl
    by false = refl

-- the value that stays
pub stays : {X : Type 0} (f : ℕ → X) (container : ℕ) (value : X) → value ≡ f container → (other : ℕ) → cond (eqb container other) value (f other) ≡ f other
stays {X} f container value is other = by (eqb container other) refl
  where
    by : (b : Bool) → b ≡ eqb container other → cond b value (f other) ≡ f other
    by true same = is ∙ ap f (eqb-true container other (sym same))
    by false same = refl

-- the greatest of the two, at the replica that is changed
pub risen : (f : ℕ → ℕ) (container value number : ℕ) → value ≡ max (f container) number → (other : ℕ) → cond (eqb container other) value (f other) ≡ cond (eqb container other) (max (f other) number) (f other)
risen f container value number is other = by (eqb container other) refl
  where
    by : (b : Bool) → b ≡ eqb container other → cond b value (f other) ≡ cond b (max (f other) number) (f other)
    by true same = is ∙ ap (λ (n : ℕ). max (f n) number) (eqb-true container other (sym same))
    by false same = refl
