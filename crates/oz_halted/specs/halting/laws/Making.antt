-- What each event makes of a datanode is what its entry makes of the node.
use Rattle.std.proofs.Common.{◌≡◌, ℕ, ◌==◌, Bool, true, false, not, ◌&&◌, ◌||◌, List, [], ◌∷◌, ◌++◌, Option, None}
use Rattle.std.proofs.Common.{Some, is_some, Contains, cond, max, refl, sym, ◌∙◌, ap, subst}
use mathlib.Core.Bool.{false≢true}
use Rattle.std.proofs.lemmas.Bool.{eqb-true, eq-eqb, ne_eqb, and_parts}
use Rattle.std.proofs.lemmas.List.Elements.{Contains-append_right, Contains-push}
use Rattle.std.specs.List.{flat_map, list_any}
use Rattle.oz_container.specs.declared.state.State.{State}
use Rattle.oz_container.specs.declared.state.State.TheVariants as states
use Rattle.oz_dellog.specs.declared.txn.Txn.{Txn}
use Rattle.oz_fields.specs.declared.block.Block.{Block}
use Rattle.oz_requests.specs.declared.request.AskId.{AskId}
use Rattle.oz_model.specs.laws.Members.{filtered, of_filtered, passing, same_test}
use Rattle.oz_entries.specs.declared.entry.Entry.TheVariants as entries
use Rattle.oz_entries.specs.declared.row.BlockRow.{BlockRow}
use Rattle.oz_entries.specs.Node.{Node, empty_node, after_entry, is_same_block, is_held, is_in, names}
use Rattle.oz_entries.specs.laws.Blocks.{same_block}
use Rattle.oz_core.specs.declared.event.Event.{Event}
use Rattle.oz_core.specs.declared.event.EventKind.{EventKind}
use Rattle.oz_core.specs.declared.event.EventKind.TheVariants.{Put, Copy, Delete, CloseCommand, Wipe}
use Rattle.oz_core.specs.declared.opening.Opening.{Opening}
use Rattle.oz_core.specs.Law.{IsLegal, KindIsEnabled, PutIsEnabled, CopyIsEnabled, DeleteIsEnabled}
use Rattle.oz_core.specs.Nodes.{is_open, is_closed, is_block, holds, deletes, length_in, put_length}
use Rattle.oz_core.specs.Scm.{logs}
use Rattle.oz_core.specs.Stories.{all_told, newer}
use Rattle.oz_kept.specs.reopened.Left.{lengths_of, greatest_of, is_txn_of}
use Rattle.oz_kept.specs.laws.Deleted.{one_passes}
use Rattle.oz_kept.specs.laws.Granted.{told_among}
use Rattle.oz_halted.specs.Missing.{LogIsNumbered}
use Rattle.oz_halted.specs.halting.Story.{IsOfStory, AreSameButForAState, HoldsNoneOf}
use Rattle.oz_halted.specs.halting.laws.Unchanged.{changes}
use Rattle.oz_halted.specs.halting.laws.OneLog.{AreApart, log_grows, lengths_grow, holds_then, greatest_then, closed_then, of_story_still}
use Rattle.oz_halted.specs.laws.Numbered.{are_numbered}
use Rattle.oz_halted.specs.laws.Resting.{legal_on}

-- ---- tests

both_true : (a b : Bool) → a ≡ true → b ≡ true → (a && b) ≡ true
both_true a b is also = ap (λ (t : Bool). t && b) is ∙ also

-- a row comes
comes : (row : BlockRow) (t : Bool) (o : Option BlockRow) (h : Bool) → is_some o ≡ h
    → is_some (cond t (Some row) o) ≡ newer (cond t (Some true) None) h
comes row true o h is = refl
comes row false o h is = is

-- a row goes, where the tests agree on a block that is held
goes : (t s : Bool) (o : Option BlockRow) (h : Bool) → is_some o ≡ h → (h ≡ true → t ≡ s)
    → is_some (cond t None o) ≡ newer (cond s (Some false) None) h
goes true true o h is same = refl
goes false false o h is same = is
goes true false o true is same = absurd (false≢true (sym (same refl)))
goes true false o false is same = refl
goes false true o true is same = absurd (false≢true (same refl))
goes false true o false is same = is

was_there : (t : Bool) (o : Option BlockRow) (row : BlockRow) → cond t None o ≡ Some row → o ≡ Some row
was_there true o row is = absurd cc
was_there false o row is = is

one_row : (a b : BlockRow) → Some a ≡ Some b → a ≡ b
one_row a b e = cc

-- ---- one event more

module _ (opening : Opening) (numbered : LogIsNumbered opening) (before : List Event) (legal : IsLegal opening before) (dn seat : ℕ)
  where
    abbrev pub then : EventKind → List Event
    then kind = before ++ record { seat = seat; kind = kind } ∷ []

    log_apart : (kind : EventKind) → KindIsEnabled opening before seat kind → AreApart (logs opening (then kind))
    log_apart kind enabled =
        (are_numbered opening (then kind) numbered (legal_on opening [] before (record { seat = seat; kind = kind }) legal enabled)).apart

    -- an event that changes nothing keeps what the story makes
    pub of_unchanged : (kind : EventKind) → KindIsEnabled opening before seat kind → changes dn kind ≡ false → (node : Node)
        → IsOfStory opening before dn node → IsOfStory opening (then kind) dn node
    of_unchanged kind enabled none node is =
        of_story_still opening before (record { seat = seat; kind = kind } ∷ []) legal (log_apart kind enabled) dn
        (ap (λ (t : Bool). t || false) none) node is

    module _ (node : Node) (is : IsOfStory opening before dn node) where
      -- ---- a block comes

      row_lengths : (kind : EventKind) (block : Block) (row : BlockRow) → Contains (lengths_of opening (then kind) block) row.length
          → (other : Block) (found : BlockRow) → (after_entry (entries.Put block row) node).rows other ≡ Some found
          → Contains (lengths_of opening (then kind) other) found.length
      row_lengths kind block row told other found there = by (is_same_block block other) refl there
        where
          by : (t : Bool) → is_same_block block other ≡ t → cond t (Some row) (node.rows other) ≡ Some found
              → Contains (lengths_of opening (then kind) other) found.length
          by true e there =
              let one = one_row row found there in
              subst (λ (b : Block). Contains (lengths_of opening (then kind) b) found.length) (same_block block other e)
              (subst (λ (r : BlockRow). Contains (lengths_of opening (then kind) block) r.length) one told)
          by false e there =
              lengths_grow opening before (record { seat = seat; kind = kind } ∷ []) other found.length (is.lengths other found there)

      pub of_put : (block : Block) (id : AskId) (first : ℕ) (row : BlockRow) → PutIsEnabled opening before seat dn block id first row.length
          → IsOfStory opening (then (Put dn block id first row.length)) dn (after_entry (entries.Put block row) node)
      of_put block id first row enabled = record {
        held = λ other. comes row (is_same_block block other) (node.rows other) (holds opening before dn other) (is.held other)
            ∙ sym (holds_then opening before behind legal apart dn other
            ∙ ap (λ (t : Bool). newer (cond (t && is_block other block) (Some true) None) (holds opening before dn other)) (eq-eqb dn dn refl));
        lengths = row_lengths kind block row told;
        closed = λ container. is.closed container ∙ sym (closed_then opening before behind legal apart dn container);
        greatest = λ container. is.greatest container ∙ sym (greatest_then opening before behind legal apart dn container);
      }
        where
          kind : EventKind
          kind = Put dn block id first row.length

          behind : List Event
          behind = record { seat = seat; kind = kind } ∷ []

          apart : AreApart (logs opening (then kind))
          apart = log_apart kind enabled

          itself : is_block block block ≡ true
          itself = both_true (block.container == block.container) (block.local == block.local) (eq-eqb block.container block.container refl)
              (eq-eqb block.local block.local refl)

          told : Contains (lengths_of opening (then kind) block) row.length
          told =
              let old = flat_map (length_in block) opening.nodes in
              Contains-append_right old (all_told (put_length block) (then kind)) row.length
              (told_among (put_length block) (then kind) (record { seat = seat; kind = kind }) row.length
              (Contains-push before (record { seat = seat; kind = kind }))
              (ap (λ (t : Bool). cond t (Some row.length) None) itself))

      pub of_copy : (source : ℕ) (block : Block) (row : BlockRow) → CopyIsEnabled opening before seat source dn block
          → Contains (lengths_of opening before block) row.length
          → IsOfStory opening (then (Copy source dn block)) dn (after_entry (entries.Put block row) node)
      of_copy source block row enabled told = record {
        held = λ other. comes row (is_same_block block other) (node.rows other) (holds opening before dn other) (is.held other)
            ∙ sym (holds_then opening before behind legal apart dn other
            ∙ ap (λ (t : Bool). newer (cond (t && is_block other block) (Some true) None) (holds opening before dn other)) (eq-eqb dn dn refl));
        lengths = row_lengths kind block row (lengths_grow opening before behind block row.length told);
        closed = λ container. is.closed container ∙ sym (closed_then opening before behind legal apart dn container);
        greatest = λ container. is.greatest container ∙ sym (greatest_then opening before behind legal apart dn container);
      }
        where
          kind : EventKind
          kind = Copy source dn block

          behind : List Event
          behind = record { seat = seat; kind = kind } ∷ []

          apart : AreApart (logs opening (then kind))
          apart = log_apart kind enabled

      -- ---- blocks go

      module _ (number : ℕ) (locals : List ℕ) (enabled : DeleteIsEnabled opening before seat dn number locals) where
        abbrev kind : EventKind
        kind = Delete dn number locals

        abbrev behind : List Event
        behind = record { seat = seat; kind = kind } ∷ []

        abbrev txns : List Txn
        txns = logs opening (then kind)

        there : Contains txns enabled.txn
        there = log_grows opening before behind enabled.txn enabled.logged

        -- it is the one with this number
        is_the_one : (txn : Txn) → Contains txns txn → txn.number ≡ number → enabled.txn ≡ txn
        is_the_one txn among its = log_apart kind enabled enabled.txn txn there among (enabled.of_number ∙ sym its)

        abbrev is_kept : ℕ → Bool
        is_kept local = holds opening before dn (record { container = enabled.txn.container; local = local })

        named_alike : (block : Block) → holds opening before dn block ≡ true → names enabled.txn block ≡ deletes txns number locals block
        named_alike block held = same_test (names enabled.txn block) (deletes txns number locals block)
            (λ named.
            let parts = and_parts (enabled.txn.container == block.container) (list_any (λ local. local == block.local) enabled.txn.locals) named in
            let found = passing (λ local. local == block.local) enabled.txn.locals parts.1 in
            let of_container = eqb-true enabled.txn.container block.container parts.0 in
            let of_local = eqb-true found.item block.local found.so in
            let kept : is_kept found.item ≡ true = subst (λ (b : Block). holds opening before dn b ≡ true)
            (sym (one_of enabled.txn.container found.item of_container of_local)) held in
            let among : Contains locals found.item = subst (λ (l : List ℕ). Contains l found.item) (sym enabled.held)
            (filtered is_kept enabled.txn.locals found.item found.there kept) in
            both_true (list_any (λ (txn : Txn). txn.number == number && txn.container == block.container) txns)
            (list_any (λ local. local == block.local) locals)
            (one_passes (λ (txn : Txn). txn.number == number && txn.container == block.container) txns enabled.txn there
            (both_true (enabled.txn.number == number) (enabled.txn.container == block.container) (eq-eqb enabled.txn.number number enabled.of_number) parts.0))
            (one_passes (λ local. local == block.local) locals found.item among found.so))
            (λ deleted.
            let parts = and_parts (list_any (λ (txn : Txn). txn.number == number && txn.container == block.container) txns)
            (list_any (λ local. local == block.local) locals) deleted in
            let found = passing (λ (txn : Txn). txn.number == number && txn.container == block.container) txns parts.0 in
            let both = and_parts (found.item.number == number) (found.item.container == block.container) found.so in
            let one = is_the_one found.item found.there (eqb-true found.item.number number both.0) in
            let local = passing (λ local. local == block.local) locals parts.1 in
            let among = of_filtered is_kept enabled.txn.locals local.item (subst (λ (l : List ℕ). Contains l local.item) enabled.held local.there) in
            both_true (enabled.txn.container == block.container) (list_any (λ local. local == block.local) enabled.txn.locals)
            (ap (λ (t : Txn). t.container == block.container) one ∙ both.1)
            (one_passes (λ local. local == block.local) enabled.txn.locals local.item among.0 local.so))
          where
            one_of : (container local : ℕ) → container ≡ block.container → local ≡ block.local → record { container = container; local = local } ≡ block
            one_of container local same also = λ i. record { container = same i; local = also i }

        of_container_alike : (container : ℕ) → (enabled.txn.container == container) ≡ list_any (is_txn_of number container) txns
        of_container_alike container = same_test (enabled.txn.container == container) (list_any (is_txn_of number container) txns)
            (λ same. one_passes (is_txn_of number container) txns enabled.txn there
            (both_true (enabled.txn.number == number) (enabled.txn.container == container) (eq-eqb enabled.txn.number number enabled.of_number) same))
            (λ some.
            let found = passing (is_txn_of number container) txns some in
            let both = and_parts (found.item.number == number) (found.item.container == container) found.so in
            ap (λ (t : Txn). t.container == container) (is_the_one found.item found.there (eqb-true found.item.number number both.0)) ∙ both.1)

        pub of_delete : IsOfStory opening (then kind) dn (after_entry (entries.Apply enabled.txn) node)
        of_delete = record {
          held = λ block.
              goes (names enabled.txn block) (deletes txns number locals block) (node.rows block) (holds opening before dn block) (is.held block)
              (named_alike block)
              ∙ sym (holds_then opening before behind legal (log_apart kind enabled) dn block
              ∙ ap (λ (t : Bool). newer (cond (t && deletes txns number locals block) (Some false) None) (holds opening before dn block)) (eq-eqb dn dn refl));
          lengths = λ block row found.
              lengths_grow opening before behind block row.length (is.lengths block row (was_there (names enabled.txn block) (node.rows block) row found));
          closed = λ container. is.closed container ∙ sym (closed_then opening before behind legal (log_apart kind enabled) dn container);
          greatest = λ container.
              ap (λ (n : ℕ). cond (enabled.txn.container == container) (max n enabled.txn.number) n) (is.greatest container)
              ∙ ap (λ (t : Bool). cond t (max (greatest_of opening before dn container) enabled.txn.number) (greatest_of opening before dn container))
              (of_container_alike container)
              ∙ ap (λ (n : ℕ). cond (list_any (is_txn_of number container) txns) (max (greatest_of opening before dn container) n)
              (greatest_of opening before dn container)) enabled.of_number
              ∙ sym (greatest_then opening before behind legal (log_apart kind enabled) dn container
              ∙ ap (λ (t : Bool). cond (t && list_any (is_txn_of number container) txns) (max (greatest_of opening before dn container) number)
              (greatest_of opening before dn container)) (eq-eqb dn dn refl));
        }

      -- ---- a replica is closed

      pub of_close : (container : ℕ) (state : State) → is_open state ≡ false → KindIsEnabled opening before seat (CloseCommand dn container)
          → IsOfStory opening (then (CloseCommand dn container)) dn (after_entry (entries.SetState container state) node)
      of_close container state shut enabled = record {
        held = λ block. is.held block ∙ sym (holds_then opening before behind legal apart dn block);
        lengths = λ block row found. lengths_grow opening before behind block row.length (is.lengths block row found);
        closed = λ other. comes_to (container == other) other
            ∙ sym (closed_then opening before behind legal apart dn other
            ∙ ap (λ (t : Bool). newer (cond (t && container == other) (Some true) None) (is_closed opening before dn other)) (eq-eqb dn dn refl));
        greatest = λ other. is.greatest other ∙ sym (greatest_then opening before behind legal apart dn other);
      }
        where
          kind : EventKind
          kind = CloseCommand dn container

          behind : List Event
          behind = record { seat = seat; kind = kind } ∷ []

          apart : AreApart (logs opening (then kind))
          apart = log_apart kind enabled

          comes_to : (t : Bool) (other : ℕ)
              → not (is_open (cond t state (node.states other))) ≡ newer (cond t (Some true) None) (is_closed opening before dn other)
          comes_to true other = ap not shut
          comes_to false other = is.closed other

      -- ---- all goes

      pub of_wipe : KindIsEnabled opening before seat (Wipe dn) → IsOfStory opening (then (Wipe dn)) dn empty_node
      of_wipe enabled = record {
        held = λ block. sym (holds_then opening before behind legal apart dn block
            ∙ ap (λ (t : Bool). newer (cond t (Some false) None) (holds opening before dn block)) (eq-eqb dn dn refl));
        lengths = λ block row found. absurd cc;
        closed = λ container. sym (closed_then opening before behind legal apart dn container
            ∙ ap (λ (t : Bool). newer (cond t (Some false) None) (is_closed opening before dn container)) (eq-eqb dn dn refl));
        greatest = λ container. sym (greatest_then opening before behind legal apart dn container
            ∙ ap (λ (t : Bool). cond t 0 (greatest_of opening before dn container)) (eq-eqb dn dn refl));
      }
        where
          behind : List Event
          behind = record { seat = seat; kind = Wipe dn } ∷ []

          apart : AreApart (logs opening (then (Wipe dn)))
          apart = log_apart (Wipe dn) enabled

-- ---- entries of which no event tells

pub same_but_for_a_state : (container : ℕ) (state : State) (node : Node)
    → AreSameButForAState container node (after_entry (entries.SetState container state) node)
same_but_for_a_state container state node = record {
  rows = λ block. refl;
  states = λ number apart. ap (λ (t : Bool). cond t state (node.states number)) (ne_eqb container number (λ same. apart (sym same)));
  greatest = λ number. refl;
}

pub dropped_is_the_same : (container : ℕ) (node : Node) → HoldsNoneOf container node
    → AreSameButForAState container node (after_entry (entries.Drop container) node)
dropped_is_the_same container node none = record {
  rows = λ block. by block (is_in container block) refl;
  states = λ number apart. ap (λ (t : Bool). cond t states.Deleted (node.states number)) (ne_eqb container number (λ same. apart (sym same)));
  greatest = λ number. refl;
}
  where
    nothing : (o : Option BlockRow) → is_some o ≡ false → None ≡ o
    nothing None e = refl
    nothing (Some row) e = absurd (false≢true (sym e))

    by : (block : Block) (t : Bool) → is_in container block ≡ t → cond t None (node.rows block) ≡ node.rows block
    by block true e =
        let same : record { container = container; local = block.local } ≡ block =
        λ i. record { container = eqb-true container block.container e i; local = block.local } in
        nothing (node.rows block) (subst (λ (b : Block). is_held node b ≡ false) same (none block.local))
    by block false e = refl

-- it is what the story makes of it, where the replica is as closed as the story has it
pub of_state : (opening : Opening) (story : List Event) (dn container : ℕ) (was node : Node) → IsOfStory opening story dn was
    → AreSameButForAState container was node → is_closed opening story dn container ≡ not (is_open (node.states container))
    → IsOfStory opening story dn node
of_state opening story dn container was node is same shut = record {
  held = λ block. ap (λ (o : Option BlockRow). is_some o) (same.rows block) ∙ is.held block;
  lengths = λ block row there. is.lengths block row (sym (same.rows block) ∙ there);
  closed = λ other. by other (other == container) refl;
  greatest = λ other. same.greatest other ∙ is.greatest other;
}
  where
    by : (other : ℕ) (t : Bool) → (other == container) ≡ t → not (is_open (node.states other)) ≡ is_closed opening story dn other
    by other true e =
        subst (λ (n : ℕ). not (is_open (node.states n)) ≡ is_closed opening story dn n) (sym (eqb-true other container e)) (sym shut)
    by other false e =
        ap (λ (s : State). not (is_open s)) (same.states other (λ is_it. false≢true (sym e ∙ eq-eqb other container is_it)))
        ∙ is.closed other

pub of_set_state : (opening : Opening) (story : List Event) (dn container : ℕ) (state : State) (was : Node) → IsOfStory opening story dn was
    → is_closed opening story dn container ≡ not (is_open state)
    → IsOfStory opening story dn (after_entry (entries.SetState container state) was)
of_set_state opening story dn container state was is shut =
    of_state opening story dn container was (after_entry (entries.SetState container state) was) is (same_but_for_a_state container state was)
    (shut ∙ sym (ap (λ (t : Bool). not (is_open (cond t state (was.states container)))) (eq-eqb container container refl)))

pub of_drop : (opening : Opening) (story : List Event) (dn container : ℕ) (was : Node) → IsOfStory opening story dn was
    → HoldsNoneOf container was → is_closed opening story dn container ≡ true
    → IsOfStory opening story dn (after_entry (entries.Drop container) was)
of_drop opening story dn container was is none shut =
    of_state opening story dn container was (after_entry (entries.Drop container) was) is (dropped_is_the_same container was none)
    (shut ∙ sym (ap (λ (t : Bool). not (is_open (cond t states.Deleted (was.states container)))) (eq-eqb container container refl)))
