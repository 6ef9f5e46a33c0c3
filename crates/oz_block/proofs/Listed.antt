-- What lists of rows and of replicas have.
use Rattle.std.proofs.Common.{◌≡◌, inl, inr, ◌⊎◌, ◌↔◌, ℕ, ◌+◌, ◌<◌, ◌≤◌, max, eqb, ltb, Bool, true, false, cond, ◌&&◌, List, [], ◌∷◌, ◌++◌, length, map, filter_map, Option, None, Some, is_some, IsSomeAnd, IsTrue, Contains, refl, sym, ap, subst, ◌∙◌, arith, eqb-true, eq-eqb}
use Rattle.std.proofs.lemmas.Bool.{false≢true, and_parts, and_from, cases_lt}
use Rattle.std.proofs.lemmas.Bool.Decides.{nat_tests}
use Rattle.std.proofs.lemmas.List.Elements.{Contains-append_left, Contains-append_right, Contains-append_cases, Contains-push, Contains-push_cases}
use Rattle.std.proofs.lemmas.Map.Keys.{sorted_head, sorted_tail, IsStrictlyIncreasing-from_sorted}
use Rattle.std.specs.List.{AllByRecursion, cons_option}
use Rattle.std.specs.List.Sorted.{IsStrictlySortedBy, IsStrictlyIncreasing}
use Rattle.std.specs.Map.{keys_of}
use Rattle.std.specs.Option.{option_map_or}
use Rattle.std.specs.Ordering.{nat_cmp, ordering_then, is_eq}
use Rattle.std.specs.declared.cmp.Ordering.{Ordering}
use Rattle.std.specs.declared.cmp.Ordering.TheVariants.{Less, Equal, Greater}
use Rattle.oz_block.specs.Lists.{Place, piece_of, local_of, greatest_local, replica_state, AreHeld, AreHeldIn, IsGreatestHeld, AreReplicas}
use Rattle.oz_container.specs.declared.state.State.{State}
use Rattle.oz_container.specs.declared.state.State.TheVariants as states
use Rattle.oz_entries.specs.declared.replica.Replica.{Replica}
use Rattle.oz_entries.specs.declared.row.BlockRow.{BlockRow}
use Rattle.oz_entries.specs.Held.{HeldView, node_of, IsNamed, row_of, place_of, replica_of, block_order}
use Rattle.oz_entries.specs.Node.{Node, is_in, is_held, is_same_block}
use Rattle.oz_entries.specs.laws.Blocks.{eq_block, eq_number, same_block, itself}
use Rattle.oz_fields.specs.declared.block.Block.{Block}
use Rattle.oz_fields.specs.declared.block.Piece.{Piece}

-- one item and the others
none_in : {X : Type 0} (x : X) → Contains [] x → ⊥
none_in x has = absurd (omega (arith, has.1))

at_head : {X : Type 0} (x : X) (xs : List X) → Contains (x ∷ xs) x
at_head x xs = Contains-append_left (x ∷ []) xs x (Contains-push [] x)

behind_head : {X : Type 0} (x : X) (xs : List X) (y : X) → Contains xs y → Contains (x ∷ xs) y
behind_head x xs y has = Contains-append_right (x ∷ []) xs y has

head_cases : {X : Type 0} (x : X) (xs : List X) (y : X) → Contains (x ∷ xs) y → (x ≡ y) ⊎ Contains xs y
head_cases x xs y has = elim (Contains-append_cases (x ∷ []) xs y has) [
  | inl one ↦ elim (Contains-push_cases [] x y one) [
    | inl none ↦ absurd (none_in y none)
    | inr same ↦ inl same
  ]
  | inr rest ↦ inr rest
]

row_step : (k : Block) (row : Option BlockRow) (es : List Place) (b : Block) → row_of ((k, row) ∷ es) b ≡ cond (is_eq (block_order b k)) row (row_of es b)
row_step k row es b = by (is_eq (block_order b k)) refl
  where
    by : (t : Bool) → t ≡ is_eq (block_order b k) → row_of ((k, row) ∷ es) b ≡ cond t row (row_of es b)
    by true is = rw (← is) refl
    by false is = rw (← is) refl

-- no later key is the first one
past_head : (k : Block) (es : List Place) → AllByRecursion (λ y. block_order k y ≡ Less) (keys_of es) → row_of es k ≡ None
past_head k [] above = refl
past_head k ((other, row) ∷ es) (less, above) =
    row_step other row es k ∙ (ap (λ (t : Bool). cond t row (row_of es k)) (ap is_eq less) ∙ past_head k es above)

is_this : (b k : Block) → true ≡ is_eq (block_order b k) → b ≡ k
is_this b k is = same_block b k (sym (eq_block b k) ∙ sym is)

module _ (Q : BlockRow → Type 0) (k : Block) (row : Option BlockRow) (es : List Place) (b : Block) where
  later : AllByRecursion (λ y. block_order k y ≡ Less) (keys_of es) → IsSomeAnd (row_of es b) Q → IsSomeAnd (row_of ((k, row) ∷ es) b) Q
  later above has = subst (λ (o : Option BlockRow). IsSomeAnd o Q) (sym (row_step k row es b)) (by (is_eq (block_order b k)) refl)
    where
      by : (t : Bool) → t ≡ is_eq (block_order b k) → IsSomeAnd (cond t row (row_of es b)) Q
      by true is =
          let none : row_of es b ≡ None = subst (λ (other : Block). row_of es other ≡ None) (sym (is_this b k is)) (past_head k es above) in
          absurd (subst (λ (o : Option BlockRow). IsSomeAnd o Q) none has)
      by false is = has

  here : b ≡ k → IsSomeAnd row Q → IsSomeAnd (row_of ((k, row) ∷ es) b) Q
  here same has =
      let is : is_eq (block_order b k) ≡ true = eq_block b k ∙ (ap (λ (other : Block). is_same_block other k) same ∙ itself k) in
      subst (λ (o : Option BlockRow). IsSomeAnd o Q) (sym (row_step k row es b ∙ ap (λ (t : Bool). cond t row (row_of es b)) is)) has

  back : IsSomeAnd (row_of ((k, row) ∷ es) b) Q → ((b ≡ k) × IsSomeAnd row Q) ⊎ IsSomeAnd (row_of es b) Q
  back has = by (is_eq (block_order b k)) refl (subst (λ (o : Option BlockRow). IsSomeAnd o Q) (row_step k row es b) has)
    where
      by : (t : Bool) → t ≡ is_eq (block_order b k) → IsSomeAnd (cond t row (row_of es b)) Q → ((b ≡ k) × IsSomeAnd row Q) ⊎ IsSomeAnd (row_of es b) Q
      by true is one = inl (is_this b k is, one)
      by false is one = inr one

-- pieces
module _ (p : Piece) where
  abbrev Has : BlockRow → Type 0
  Has row = p.length ≡ row.length

  pieces_only : (es : List Place) → IsStrictlySortedBy block_order (keys_of es) → Contains (filter_map piece_of es) p → IsSomeAnd (row_of es p.block) Has
  pieces_only [] sorted has = absurd (none_in p has)
  pieces_only ((k, None) ∷ es) sorted has =
      later Has k None es p.block (sorted_head block_order k (keys_of es) sorted) (pieces_only es (sorted_tail block_order k (keys_of es) sorted) has)
  pieces_only ((k, Some row) ∷ es) sorted has = elim (head_cases (record { block = k; length = row.length }) (filter_map piece_of es) p has) [
    | inl same ↦ here Has k (Some row) es p.block (sym (ap (λ (q : Piece). q.block) same)) (sym (ap (λ (q : Piece). q.length) same))
    | inr rest ↦ later Has k (Some row) es p.block (sorted_head block_order k (keys_of es) sorted) (pieces_only es (sorted_tail block_order k (keys_of es) sorted) rest)
  ]

  pieces_each : (es : List Place) → IsSomeAnd (row_of es p.block) Has → Contains (filter_map piece_of es) p
  pieces_each [] has = absurd has
  pieces_each ((k, None) ∷ es) has = elim (back Has k None es p.block has) [
    | inl one ↦ absurd one.1
    | inr rest ↦ pieces_each es rest
  ]
  pieces_each ((k, Some row) ∷ es) has = elim (back Has k (Some row) es p.block has) [
    | inl one ↦
        let made : Block → ℕ → Piece = λ b l. record { block = b; length = l } in
        let same : made k row.length ≡ p = ap (λ (b : Block). made b row.length) (sym one.0) ∙ ap (λ (l : ℕ). made p.block l) (sym one.1) in
        subst (λ (q : Piece). Contains (made k row.length ∷ filter_map piece_of es) q) same (at_head (made k row.length) (filter_map piece_of es))
    | inr rest ↦ behind_head (record { block = k; length = row.length }) (filter_map piece_of es) p (pieces_each es rest)
  ]

abbrev blocks_in : List Piece → List Block
blocks_in pieces = map (λ (piece : Piece). piece.block) pieces

above_pieces : (k : Block) (es : List Place) → AllByRecursion (λ y. block_order k y ≡ Less) (keys_of es) → AllByRecursion (λ y. block_order k y ≡ Less) (blocks_in (filter_map piece_of es))
above_pieces k [] above = tt
above_pieces k ((other, None) ∷ es) (less, above) = above_pieces k es above
above_pieces k ((other, Some row) ∷ es) (less, above) = (less, above_pieces k es above)

pieces_rising : (es : List Place) → IsStrictlySortedBy block_order (keys_of es) → IsStrictlySortedBy block_order (blocks_in (filter_map piece_of es))
unfolding IsStrictlySortedBy
pieces_rising [] sorted = tt
pieces_rising ((k, None) ∷ es) sorted = pieces_rising es sorted.1
pieces_rising ((k, Some row) ∷ es) sorted = (above_pieces k es sorted.0, pieces_rising es sorted.1)

pub held_pieces : (held : HeldView) (es : List Place) (pieces : List Piece) → es ≡ held.rows → pieces ≡ filter_map piece_of es → IsStrictlySortedBy block_order (keys_of es) → AreHeld (node_of held) pieces
held_pieces held es pieces there is sorted = subst (λ (l : List Piece). AreHeld (node_of held) l) (sym is) (record {
  each = λ p. (
    λ has. subst (λ (l : List Place). IsSomeAnd (row_of l p.block) (Has p)) there (pieces_only p es sorted has),
    λ has. pieces_each p es (subst (λ (l : List Place). IsSomeAnd (row_of l p.block) (Has p)) (sym there) has),
  );
  rising = pieces_rising es sorted;
})

-- own numbers
some_and : {X : Type 0} (o : Option X) → is_some o ≡ true → IsSomeAnd o (λ x. Unit {0})
some_and None is = absurd (false≢true is)
some_and (Some x) is = tt

and_some_any : {X : Type 0} (o : Option X) → IsSomeAnd o (λ x. Unit {0}) → is_some o ≡ true
and_some_any None has = absurd has
and_some_any (Some x) has = refl

abbrev Any : BlockRow → Type 0
Any row = Unit {0}

module _ (container : ℕ) where
  abbrev in_it : ℕ → Block
  in_it local = record { container = container; local = local }

  this_block : (k : Block) (local : ℕ) → is_in container k ≡ true → k.local ≡ local → in_it local ≡ k
  this_block k local inside same =
      let made : ℕ → ℕ → Block = λ c l. record { container = c; local = l } in
      ap (λ (c : ℕ). made c local) (eqb-true container k.container inside) ∙ ap (λ (l : ℕ). made k.container l) (sym same)

  locals_only : (es : List Place) → IsStrictlySortedBy block_order (keys_of es) → (local : ℕ) → Contains (filter_map (local_of container) es) local → IsSomeAnd (row_of es (in_it local)) Any
  locals_only [] sorted local has = absurd (none_in local has)
  locals_only ((k, row) ∷ es) sorted local has =
      by (is_in container k && is_some row) refl (λ more. later Any k row es (in_it local) (sorted_head block_order k (keys_of es) sorted) (locals_only es (sorted_tail block_order k (keys_of es) sorted) local more)) has
    where
      by : (t : Bool) → t ≡ (is_in container k && is_some row) → (Contains (filter_map (local_of container) es) local → IsSomeAnd (row_of ((k, row) ∷ es) (in_it local)) Any) → Contains (cons_option (cond t (Some k.local) None) (filter_map (local_of container) es)) local
          → IsSomeAnd (row_of ((k, row) ∷ es) (in_it local)) Any
      by false is rest has = rest has
      by true is rest has = let parts = and_parts (is_in container k) (is_some row) (sym is) in elim (head_cases k.local (filter_map (local_of container) es) local has) [
        | inl same ↦ here Any k row es (in_it local) (this_block k local parts.0 same) (some_and row parts.1)
        | inr more ↦ rest more
      ]

  locals_each : (es : List Place) → (local : ℕ) → IsSomeAnd (row_of es (in_it local)) Any → Contains (filter_map (local_of container) es) local
  locals_each [] local has = absurd has
  locals_each ((k, row) ∷ es) local has = elim (back Any k row es (in_it local) has) [
    | inl one ↦
        let inside : is_in container k ≡ true = eq-eqb container k.container (ap (λ (b : Block). b.container) one.0) in
        let both : (is_in container k && is_some row) ≡ true = and_from (is_in container k) (is_some row) inside (and_some_any row one.1) in
        subst (λ (t : Bool). Contains (cons_option (cond t (Some k.local) None) (filter_map (local_of container) es)) local) (sym both)
        (subst (λ (l : ℕ). Contains (k.local ∷ filter_map (local_of container) es) l) (sym (ap (λ (b : Block). b.local) one.0)) (at_head k.local (filter_map (local_of container) es)))
    | inr rest ↦ by (is_in container k && is_some row) (locals_each es local rest)
  ]
    where
      by : (t : Bool) → Contains (filter_map (local_of container) es) local → Contains (cons_option (cond t (Some k.local) None) (filter_map (local_of container) es)) local
      by true more = behind_head k.local (filter_map (local_of container) es) local more
      by false more = more

  -- in one container blocks are in the order of their own numbers
  above_local : (k other : Block) → is_in container k ≡ true → is_in container other ≡ true → block_order k other ≡ Less → nat_cmp k.local other.local ≡ Less
  above_local k other inside too less =
      let same : k.container ≡ other.container = sym (eqb-true container k.container inside) ∙ eqb-true container other.container too in
      sym (ap (λ (o : Ordering). ordering_then o (nat_cmp k.local other.local)) (ap (nat_cmp k.container) (sym same) ∙ equal k.container)) ∙ less
    where
      equal : (n : ℕ) → nat_cmp n n ≡ Equal
      equal n = grind (arith, nat_tests)

  above_locals : (k : Block) → is_in container k ≡ true → (es : List Place) → AllByRecursion (λ y. block_order k y ≡ Less) (keys_of es) → AllByRecursion (λ y. nat_cmp k.local y ≡ Less) (filter_map (local_of container) es)
  above_locals k inside [] above = tt
  above_locals k inside ((other, row) ∷ es) (less, above) = by (is_in container other && is_some row) refl (above_locals k inside es above)
    where
      by : (t : Bool) → t ≡ (is_in container other && is_some row) → AllByRecursion (λ y. nat_cmp k.local y ≡ Less) (filter_map (local_of container) es) → AllByRecursion (λ y. nat_cmp k.local y ≡ Less) (cons_option (cond t (Some other.local) None) (filter_map (local_of container) es))
      by true is rest = (above_local k other inside (and_parts (is_in container other) (is_some row) (sym is)).0 less, rest)
      by false is rest = rest

  rising_more : (k : Block) (row : Option BlockRow) (es : List Place) → AllByRecursion (λ y. block_order k y ≡ Less) (keys_of es) → (t : Bool) → t ≡ (is_in container k && is_some row) → IsStrictlySortedBy nat_cmp (filter_map (local_of container) es)
      → IsStrictlySortedBy nat_cmp (cons_option (cond t (Some k.local) None) (filter_map (local_of container) es))
  unfolding IsStrictlySortedBy
  rising_more k row es above true is rest = (above_locals k (and_parts (is_in container k) (is_some row) (sym is)).0 es above, rest)
  rising_more k row es above false is rest = rest

  locals_rising : (es : List Place) → IsStrictlySortedBy block_order (keys_of es) → IsStrictlySortedBy nat_cmp (filter_map (local_of container) es)
  unfolding IsStrictlySortedBy
  locals_rising [] sorted = tt
  locals_rising ((k, row) ∷ es) sorted = rising_more k row es sorted.0 (is_in container k && is_some row) refl (locals_rising es sorted.1)

pub held_locals : (held : HeldView) (es : List Place) (container : ℕ) (locals : List ℕ) → es ≡ held.rows → locals ≡ filter_map (local_of container) es → IsStrictlySortedBy block_order (keys_of es) → AreHeldIn (node_of held) container locals
held_locals held es container locals there is sorted = subst (λ (l : List ℕ). AreHeldIn (node_of held) container l) (sym is) (record {
  each = λ local. (
    λ has. and_some_any (row_of held.rows (in_it container local)) (subst (λ (l : List Place). IsSomeAnd (row_of l (in_it container local)) Any) there (locals_only container es sorted local has)),
    λ has. locals_each container es local (subst (λ (l : List Place). IsSomeAnd (row_of l (in_it container local)) Any) (sym there) (some_and (row_of held.rows (in_it container local)) has)),
  );
  rising = IsStrictlyIncreasing-from_sorted (filter_map (local_of container) es) (locals_rising container es sorted);
})

-- the greatest of them
abbrev weight : Option BlockRow → Block → ℕ
weight row k = cond (is_some row) k.local 0

none_above : (es : List Place) (b : Block) → IsSomeAnd (row_of es b) Any → b.local ≤ greatest_local es
none_above [] b has = absurd has
none_above ((k, row) ∷ es) b has = elim (back Any k row es b has) [
  | inl one ↦
      let same : b.local ≡ k.local = ap (λ (x : Block). x.local) one.0 in
      let own : weight row k ≡ k.local = ap (λ (t : Bool). cond t k.local 0) (and_some_any row one.1) in
      omega (arith, same, own)
  | inr rest ↦ let most = none_above es b rest in omega (arith, most)
]

one_is : (es : List Place) → IsStrictlySortedBy block_order (keys_of es) → 1 ≤ greatest_local es → (b : Block) × IsSomeAnd (row_of es b) Any × (greatest_local es ≡ b.local)
one_is [] sorted some = absurd (omega (arith, some))
one_is ((k, row) ∷ es) sorted some = elim (cases_lt (greatest_local es) (weight row k)) [
  | inl more ↦ own (is_some row) refl more
  | inr less ↦
      let found = one_is es (sorted_tail block_order k (keys_of es) sorted) (omega (arith, less, some)) in
      (found.0, later Any k row es found.0 (sorted_head block_order k (keys_of es) sorted) found.1, omega (arith, less, found.2))
]
  where
    own : (t : Bool) → t ≡ is_some row → greatest_local es < weight row k → (b : Block) × IsSomeAnd (row_of ((k, row) ∷ es) b) Any × (greatest_local ((k, row) ∷ es) ≡ b.local)
    own true is more =
        let own : weight row k ≡ k.local = ap (λ (t : Bool). cond t k.local 0) (sym is) in
        (k, here Any k row es k refl (some_and row (sym is)), omega (arith, more, own))
    own false is more =
        let none : weight row k ≡ 0 = ap (λ (t : Bool). cond t k.local 0) (sym is) in
        absurd (omega (arith, more, none))

pub held_greatest : (held : HeldView) (es : List Place) (local : ℕ) → es ≡ held.rows → local ≡ greatest_local es → IsStrictlySortedBy block_order (keys_of es) → IsGreatestHeld (node_of held) local
held_greatest held es local there is sorted = subst (λ (n : ℕ). IsGreatestHeld (node_of held) n) (sym is) (record {
  none_above = λ b has. none_above es b (subst (λ (l : List Place). IsSomeAnd (row_of l b) Any) (sym there) (some_and (row_of held.rows b) has));
  is_held = λ some.
      let found = one_is es sorted some in
      (found.0, and_some_any (row_of held.rows found.0) (subst (λ (l : List Place). IsSomeAnd (row_of l found.0) Any) there found.1), found.2);
})

-- replicas
abbrev Entry : Type 0
Entry = ℕ × Replica

replica_step : (k : ℕ) (replica : Replica) (es : List Entry) (c : ℕ) → replica_of ((k, replica) ∷ es) c ≡ cond (eqb c k) (Some replica) (replica_of es c)
replica_step k replica es c = ap (λ (t : Bool). cond t (Some replica) (replica_of es c)) (eq_number c k)

past_number : (k : ℕ) (es : List Entry) → AllByRecursion (λ y. nat_cmp k y ≡ Less) (keys_of es) → replica_of es k ≡ None
past_number k [] above = refl
past_number k ((other, replica) ∷ es) (less, above) =
    ap (λ (t : Bool). cond t (Some replica) (replica_of es k)) (ap is_eq less) ∙ past_number k es above

abbrev Is : ℕ × State × ℕ → Replica → Type 0
Is r replica = (r.1 ≡ replica.state) × (r.2 ≡ replica.greatest)

module _ (r : ℕ × State × ℕ) where
  replicas_only : (es : List Entry) → IsStrictlySortedBy nat_cmp (keys_of es) → Contains (map replica_state es) r → IsSomeAnd (replica_of es r.0) (Is r)
  replicas_only [] sorted has = absurd (none_in r has)
  replicas_only ((k, replica) ∷ es) sorted has = subst (λ (o : Option Replica). IsSomeAnd o (Is r)) (sym (replica_step k replica es r.0)) (elim (head_cases (replica_state (k, replica)) (map replica_state es) r has) [
    | inl same ↦
        let number : k ≡ r.0 = ap (λ (x : ℕ × State × ℕ). x.0) same in
        subst (λ (t : Bool). IsSomeAnd (cond t (Some replica) (replica_of es r.0)) (Is r)) (sym (eq-eqb r.0 k (sym number))) (sym (ap (λ (x : ℕ × State × ℕ). x.1) same), sym (ap (λ (x : ℕ × State × ℕ). x.2) same))
    | inr rest ↦ by (eqb r.0 k) refl (replicas_only es (sorted_tail nat_cmp k (keys_of es) sorted) rest)
  ])
    where
      by : (t : Bool) → t ≡ eqb r.0 k → IsSomeAnd (replica_of es r.0) (Is r) → IsSomeAnd (cond t (Some replica) (replica_of es r.0)) (Is r)
      by true is has =
          let same : r.0 ≡ k = eqb-true r.0 k (sym is) in
          let none : replica_of es r.0 ≡ None = ap (replica_of es) same ∙ past_number k es (sorted_head nat_cmp k (keys_of es) sorted) in
          absurd (subst (λ (o : Option Replica). IsSomeAnd o (Is r)) none has)
      by false is has = has

  replicas_each : (es : List Entry) → IsSomeAnd (replica_of es r.0) (Is r) → Contains (map replica_state es) r
  replicas_each [] has = absurd has
  replicas_each ((k, replica) ∷ es) has = by (eqb r.0 k) refl (λ rest. replicas_each es rest) (subst (λ (o : Option Replica). IsSomeAnd o (Is r)) (replica_step k replica es r.0) has)
    where
      by : (t : Bool) → t ≡ eqb r.0 k → (IsSomeAnd (replica_of es r.0) (Is r) → Contains (map replica_state es) r) → IsSomeAnd (cond t (Some replica) (replica_of es r.0)) (Is r) → Contains (map replica_state ((k, replica) ∷ es)) r
      by true is later one =
          let made : ℕ → State → ℕ → ℕ × State × ℕ = λ c s g. (c, s, g) in
          let same : replica_state (k, replica) ≡ r =
          ap (λ (c : ℕ). made c replica.state replica.greatest) (sym (eqb-true r.0 k (sym is))) ∙ (ap (λ (s : State). made r.0 s replica.greatest) (sym one.0) ∙ ap (λ (g : ℕ). made r.0 r.1 g) (sym one.1)) in
          subst (λ (x : ℕ × State × ℕ). Contains (replica_state (k, replica) ∷ map replica_state es) x) same (at_head (replica_state (k, replica)) (map replica_state es))
      by false is later rest = behind_head (replica_state (k, replica)) (map replica_state es) r (later rest)

numbers_same : (es : List Entry) → map (λ (r : ℕ × State × ℕ). r.0) (map replica_state es) ≡ keys_of es
numbers_same [] = refl
numbers_same ((k, replica) ∷ es) = ap (λ (l : List ℕ). k ∷ l) (numbers_same es)

-- a replica that was named, by what it stands for
module _ (held : HeldView) (r : ℕ × State × ℕ) where
  abbrev Stands : Type 0
  Stands = IsNamed held r.0 × (r.1 ≡ (node_of held).states r.0) × (r.2 ≡ (node_of held).greatest r.0)

  stands : (o : Option Replica) → o ≡ replica_of held.replicas r.0 → IsSomeAnd o (Is r) → Stands
  stands None is has = absurd has
  stands (Some replica) is has = (ap is_some (sym is), has.0 ∙ ap (λ (o : Option Replica). option_map_or (λ (x : Replica). x.state) o states.Open) is, has.1 ∙ ap (λ (o : Option Replica). option_map_or (λ (x : Replica). x.greatest) o 0) is)

  named : (o : Option Replica) → o ≡ replica_of held.replicas r.0 → Stands → IsSomeAnd o (Is r)
  named None is has = absurd (false≢true (ap is_some is ∙ has.0))
  named (Some replica) is has = (has.1 ∙ ap (λ (o : Option Replica). option_map_or (λ (x : Replica). x.state) o states.Open) (sym is), has.2 ∙ ap (λ (o : Option Replica). option_map_or (λ (x : Replica). x.greatest) o 0) (sym is))

pub held_replicas : (held : HeldView) (es : List Entry) (replicas : List (ℕ × State × ℕ)) → es ≡ held.replicas → replicas ≡ map replica_state es → IsStrictlySortedBy nat_cmp (keys_of es) → AreReplicas held replicas
held_replicas held es replicas there is sorted = subst (λ (l : List (ℕ × State × ℕ)). AreReplicas held l) (sym is) (record {
  each = λ r. (
    λ has. stands held r (replica_of held.replicas r.0) refl (subst (λ (l : List Entry). IsSomeAnd (replica_of l r.0) (Is r)) there (replicas_only r es sorted has)),
    λ has. replicas_each r es (subst (λ (l : List Entry). IsSomeAnd (replica_of l r.0) (Is r)) (sym there) (named held r (replica_of held.replicas r.0) refl has)),
  );
  rising = subst IsStrictlyIncreasing (sym (numbers_same es)) (IsStrictlyIncreasing-from_sorted (keys_of es) sorted);
})
