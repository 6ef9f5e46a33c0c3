-- The pieces that a datanode's disks are left with.
use Rattle.std.proofs.Common.{◌≡◌, ⊎_elim, ℕ, zero, suc, ◌≤◌, ◌==◌, Bool, true, false, ◌&&◌, ◌||◌, List, [], ◌∷◌, ◌++◌, length, filter, take, Option, None, Some, Contains, cond, inl, inr, refl, sym, ◌∙◌, ap, subst, take_all, arith}
use mathlib.Core.Bool.{false≢true}
use Rattle.std.proofs.lemmas.Bool.{eq-eqb, and_parts}
use Rattle.std.proofs.lemmas.List.Elements.{Contains-append_cases, Contains-append_left, Contains-append_right}
use Rattle.std.proofs.lemmas.List.Folds.{list_any-append}
use Rattle.std.specs.List.{cons_option, filter_map, flat_map, list_any, slice_get}
use Rattle.std.specs.Option.{option_map_or}
use Rattle.oz_dellog.specs.declared.txn.Txn.{Txn}
use Rattle.oz_fields.specs.declared.block.Block.{Block}
use Rattle.oz_fields.specs.declared.block.Piece.{Piece}
use Rattle.oz_core.specs.declared.event.Event.{Event}
use Rattle.oz_core.specs.declared.event.EventKind.{EventKind}
use Rattle.oz_core.specs.declared.event.EventKind.TheVariants.{Put, Copy, Delete, Wipe}
use Rattle.oz_core.specs.declared.opening.NodeOpening.{NodeOpening}
use Rattle.oz_core.specs.declared.opening.Opening.{Opening}
use Rattle.oz_core.specs.Law.{IsLegal, KindIsEnabled, puts_or_copies}
use Rattle.oz_core.specs.Nodes.{is_block, has_piece, was_held, holds, held_after, deletes, length_in, put_length}
use Rattle.oz_core.specs.Scm.{logs}
use Rattle.oz_core.specs.Stories.{all_told, has_event, newer}
use Rattle.oz_kept.specs.laws.Deleted.{enabled_at, first_or_later}
use Rattle.oz_kept.specs.laws.Granted.{told_among}
use Rattle.oz_kept.specs.laws.Contents.{GotIt, one_block, holder_got, front_ends, front_grows}
use Rattle.oz_kept.specs.laws.Reached.{in_none}
use Rattle.oz_kept.specs.reopened.Left.{lengths_of}
use Rattle.oz_kept.specs.reopened.laws.Named.{told_event}
use Rattle.oz_model.specs.laws.Members.{joins, comes, filtered, of_filtered, passing, same_test}
use Rattle.oz_halted.specs.halting.laws.Unchanged.{changes}
use Rattle.oz_halted.proofs.leaving_lemmas.Absent.{none_changes, stays_false, beyond}

-- a Put's piece
abbrev pub put_piece : EventKind → Option Piece
put_piece (Put dn put id first count) = Some (record { block = put; length = count })
put_piece _ = None

some_piece : (a b : Piece) → Some a ≡ Some b → a ≡ b
some_piece a b e = cc

itself : (block : Block) → is_block block block ≡ true
itself block = ap (λ (t : Bool). t && block.local == block.local) (eq-eqb block.container block.container refl) ∙ eq-eqb block.local block.local refl

pub found_get : {A : Type 0} (l : List A) (k : ℕ) (x : A) → slice_get l k ≡ Some x → Contains l x
found_get [] k x e = absurd cc
found_get (y ∷ l) zero x e = let same : y ≡ x = cc in (0, omega arith, same)
found_get (y ∷ l) (suc k) x e = let later = found_get l k x e in (suc later.0, omega (arith, later.1), later.2)

pub passes_some : {A : Type 0} (p : A → Bool) (l : List A) (x : A) → Contains l x → p x ≡ true → list_any p l ≡ true
passes_some p [] x there pass = absurd (in_none x there)
passes_some {A} p (first ∷ l) x there pass = ⊎_elim
    (λ same. ap (λ (t : Bool). t || list_any p l) (ap p same ∙ pass))
    (λ later. or_true (p first) (passes_some p l x later pass))
    (first_or_later first x l there)
  where
    or_true : (t : Bool) → list_any p l ≡ true → t || list_any p l ≡ true
    or_true true e = refl
    or_true false e = e

module _ (opening : Opening) (story : List Event) where
  -- those that disks had, and those that were put
  abbrev pub pieces_known : List Piece
  pieces_known = flat_map (λ (node : NodeOpening). node.held) opening.nodes ++ all_told put_piece story

  abbrev pub pieces_left : ℕ → List Piece
  pieces_left dn = filter (λ (piece : Piece). holds opening story dn piece.block) pieces_known

  pub record IsKnown (block : Block) : Type 0 where
    pub piece : Piece
    pub there : Contains pieces_known piece
    pub its : piece.block ≡ block

  -- ---- whoever got a block got one that is known

  known_at_opening : (block : Block) (dn : ℕ) → was_held opening dn block ≡ true → IsKnown block
  known_at_opening block dn held = by (slice_get opening.nodes dn) refl held
    where
      by : (o : Option NodeOpening) → slice_get opening.nodes dn ≡ o → option_map_or (has_piece block) o false ≡ true → IsKnown block
      by None e held = absurd (false≢true held)
      by (Some node) e held =
          let found = passing (λ (piece : Piece). is_block block piece.block) node.held held in
          record {
            piece = found.item;
            there = Contains-append_left (flat_map (λ (node : NodeOpening). node.held) opening.nodes) (all_told put_piece story) found.item
                (joins (λ (node : NodeOpening). node.held) opening.nodes node found.item (found_get opening.nodes dn node e) found.there);
            its = sym (one_block block found.item.block found.so);
          }

  known_by_put : (event : Event) (other : ℕ) (put : Block) → Contains story event → put_piece event.kind ≡ Some (record { block = put; length = other }) → IsKnown put
  known_by_put event count put there is = record {
    piece = record { block = put; length = count };
    there = Contains-append_right (flat_map (λ (node : NodeOpening). node.held) opening.nodes) (all_told put_piece story) (record { block = put; length = count })
        (told_among put_piece story event (record { block = put; length = count }) there is);
    its = refl;
  }

  known_by : (before : List Event) (event : Event) (seat : ℕ) (kind : EventKind) → event.kind ≡ kind → Contains story event → KindIsEnabled opening before seat kind → (block : Block) (dn : ℕ) → puts_or_copies dn block kind ≡ true
      → ((dn : ℕ) → GotIt opening before block dn → IsKnown block) → IsKnown block
  known_by before event seat (Put other put id first count) is there enabled block dn test old =
      subst IsKnown (sym (one_block block put (and_parts (other == dn) (is_block block put) test).1))
      (known_by_put event count put there (ap put_piece is))
  known_by before event seat (Copy source target copied) is there enabled block dn test old =
      let same = one_block block copied (and_parts (target == dn) (is_block block copied) test).1 in
      old source (subst (λ (b : Block). GotIt opening before b source) (sym same) enabled.had)
  known_by before event seat kind is there enabled block dn test old = absurd (false≢true test)

  module _ (legal : IsLegal opening story) (block : Block) where
    known_at : (n dn : ℕ) → GotIt opening (take n story) block dn → IsKnown block
    known_at zero dn (inl got) = absurd (false≢true got)
    known_at zero dn (inr held) = known_at_opening block dn held
    known_at (suc n) dn (inr held) = known_at_opening block dn held
    known_at (suc n) dn (inl got) = by (slice_get story n) refl (known_at n)
      where
        by : (o : Option Event) → slice_get story n ≡ o → ((dn : ℕ) → GotIt opening (take n story) block dn → IsKnown block) → IsKnown block
        by None e old = old dn (inl (subst (λ (l : List Event). has_event (puts_or_copies dn block) l ≡ true) (front_ends story n e) got))
        by (Some event) e old = by_test (has_event (puts_or_copies dn block) (take n story)) refl (puts_or_copies dn block event.kind) refl
          where
            parts : has_event (puts_or_copies dn block) (take n story) || (puts_or_copies dn block event.kind || false) ≡ true
            parts =
                sym (list_any-append (λ (event : Event). puts_or_copies dn block event.kind) (take n story) (event ∷ []))
                ∙ ap (has_event (puts_or_copies dn block)) (sym (front_grows story n event e)) ∙ got

            by_test : (t : Bool) → has_event (puts_or_copies dn block) (take n story) ≡ t → (s : Bool) → puts_or_copies dn block event.kind ≡ s → IsKnown block
            by_test true earlier s here = old dn (inl earlier)
            by_test false earlier true here = known_by (take n story) event event.seat event.kind refl (found_get story n event e) (enabled_at opening story legal n event e) block dn here old
            by_test false earlier false here =
                absurd (false≢true (sym (ap (λ (t : Bool). t || (puts_or_copies dn block event.kind || false)) earlier ∙ ap (λ (t : Bool). t || false) here) ∙ parts))

    pub known : (dn : ℕ) → holds opening story dn block ≡ true → IsKnown block
    known dn held =
        known_at (length story) dn (subst (λ (l : List Event). GotIt opening l block dn) (sym (take_all (length story) story (omega arith))) (holder_got opening story block dn held))

    -- ---- so they are those that it holds

    pub held_same : (dn : ℕ) → list_any (λ (piece : Piece). is_block block piece.block) (pieces_left dn) ≡ holds opening story dn block
    held_same dn = same_test (list_any (λ (piece : Piece). is_block block piece.block) (pieces_left dn)) (holds opening story dn block)
        (λ some.
        let found = passing (λ (piece : Piece). is_block block piece.block) (pieces_left dn) some in
        let same = one_block block found.item.block found.so in
        let its = of_filtered (λ (piece : Piece). holds opening story dn piece.block) pieces_known found.item found.there in
        subst (λ (b : Block). holds opening story dn b ≡ true) (sym same) its.1)
        (λ held.
        let it = known dn held in
        passes_some (λ (piece : Piece). is_block block piece.block) (pieces_left dn) it.piece
        (filtered (λ (piece : Piece). holds opening story dn piece.block) pieces_known it.piece it.there (subst (λ (b : Block). holds opening story dn b ≡ true) (sym it.its) held))
        (subst (λ (b : Block). is_block block b ≡ true) (sym it.its) (itself block)))

  -- ---- each with a length that was told of it

  own_length : (held : List Piece) (piece : Piece) → Contains held piece → Contains (filter_map (λ (other : Piece). cond (is_block piece.block other.block) (Some other.length) None) held) piece.length
  own_length [] piece among = absurd (in_none piece among)
  own_length (first ∷ held) piece among = ⊎_elim
      (λ same.
      let told : cond (is_block piece.block first.block) (Some first.length) None ≡ Some piece.length =
      ap (λ (p : Piece). cond (is_block piece.block p.block) (Some p.length) None) same ∙ ap (λ (t : Bool). cond t (Some piece.length) None) (itself piece.block) in
      subst (λ (o : Option ℕ). Contains (cons_option o (filter_map (λ (other : Piece). cond (is_block piece.block other.block) (Some other.length) None) held)) piece.length) (sym told) (0, omega arith, refl))
      (λ later. by (cond (is_block piece.block first.block) (Some first.length) None) (own_length held piece later))
      (first_or_later first piece held among)
    where
      by : (o : Option ℕ) → Contains (filter_map (λ (other : Piece). cond (is_block piece.block other.block) (Some other.length) None) held) piece.length
          → Contains (cons_option o (filter_map (λ (other : Piece). cond (is_block piece.block other.block) (Some other.length) None) held)) piece.length
      by None later = later
      by (Some n) later = (suc later.0, omega (arith, later.1), later.2)

  put_is : (kind : EventKind) (piece : Piece) → put_piece kind ≡ Some piece → put_length piece.block kind ≡ Some piece.length
  put_is (Put dn put id first count) piece is =
      let same = some_piece (record { block = put; length = count }) piece is in
      subst (λ (p : Piece). cond (is_block p.block put) (Some count) None ≡ Some p.length) same (ap (λ (t : Bool). cond t (Some count) None) (itself put))
  put_is kind piece is = absurd cc

  pub length_told : (dn : ℕ) (piece : Piece) → Contains (pieces_left dn) piece → Contains (lengths_of opening story piece.block) piece.length
  length_told dn piece there = ⊎_elim
      (λ old.
      let of = comes (λ (node : NodeOpening). node.held) opening.nodes piece old in
      Contains-append_left (flat_map (length_in piece.block) opening.nodes) (all_told (put_length piece.block) story) piece.length
      (joins (length_in piece.block) opening.nodes of.item piece.length of.there (own_length of.item.held piece of.has)))
      (λ new.
      let told = told_event put_piece story piece new in
      Contains-append_right (flat_map (length_in piece.block) opening.nodes) (all_told (put_length piece.block) story) piece.length
      (told_among (put_length piece.block) story told.event piece.length told.there (put_is told.event.kind piece told.told)))
      (Contains-append_cases (flat_map (λ (node : NodeOpening). node.held) opening.nodes) (all_told put_piece story) piece
      (of_filtered (λ (piece : Piece). holds opening story dn piece.block) pieces_known piece there).0)

  -- ---- a datanode that isn't there holds nothing

  module _ (legal : IsLegal opening story) (dn : ℕ) (le : length opening.nodes ≤ dn) (block : Block) where
    kind_gives_none : (txns : List Txn) (kind : EventKind) → changes dn kind ≡ false → (before : Bool) → before ≡ false → newer (held_after txns dn block kind) before ≡ false
    kind_gives_none txns (Put other put id first count) none before is = ap (λ (t : Bool). newer (cond (t && is_block block put) (Some true) None) before) none ∙ is
    kind_gives_none txns (Copy source target copied) none before is = ap (λ (t : Bool). newer (cond (t && is_block block copied) (Some true) None) before) none ∙ is
    kind_gives_none txns (Delete other number locals) none before is = ap (λ (t : Bool). newer (cond (t && deletes txns number locals block) (Some false) None) before) none ∙ is
    kind_gives_none txns (Wipe other) none before is = ap (λ (t : Bool). newer (cond t (Some false) None) before) none ∙ is
    kind_gives_none txns kind none before is = is

    pub absent_holds : holds opening story dn block ≡ false
    absent_holds =
        stays_false (held_after (logs opening story) dn block) story (was_held opening dn block) (ap (λ (o : Option NodeOpening). option_map_or (has_piece block) o false) (beyond opening.nodes dn le))
        (λ event there before is. kind_gives_none (logs opening story) event.kind (none_changes opening story legal dn le event there) before is)
