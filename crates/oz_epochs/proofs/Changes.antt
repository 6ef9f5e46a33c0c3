-- A list stays linked after an entry was put at its end, after one was taken out, and after it grew.
use Rattle.std.proofs.Common.{◌≡◌, ◌≢◌, ℕ, ◌+◌, ◌-◌, ◌≤◌, ◌<◌, ◌^◌, cond, List, [], ◌∷◌, ◌++◌, length, set, refl, sym, ap, ◌∙◌, subst, Option, Some, None, is_some, arith, length-append}
use Rattle.std.proofs.lemmas.Option.{slice_get_within}
use Rattle.std.proofs.lemmas.List.{length-set}
use Rattle.std.specs.List.{slice_get}
use Rattle.std.specs.Prelude.{IsSome, IfSome}
use Rattle.oz_epochs.specs.declared.node.Node.{Node}
use Rattle.oz_epochs.specs.declared.node.Node.TheVariants.{Used, Spare}
use Rattle.oz_epochs.specs.declared.node.Linked.{Linked}
use Rattle.oz_epochs.specs.Epochs.{AreInOrder, EpochEntry, entry, found, without, IsAway, NoSlotTwice, EndsBy, EpochsRise}
use Rattle.oz_epochs.specs.Links.{node, IsChain, IsNoneOf, entries_from, with_next, with_prev, IsUsed}
use Rattle.oz_epochs.specs.Nodes.{HasSpare, IsLinked, entries_of, Keeps}
use Rattle.oz_epochs.proofs.Lists.{slice_get-set_same, slice_get-set_other}
use Rattle.oz_epochs.proofs.Chains.{chain_same, chain_kept, spare_is_away, chain_split, chain_join, entries_from_chain, last_used, first_used, with_next_other, with_prev_other, length-with_next, length-with_prev, chain_next, chain_prev}
use Rattle.oz_epochs.proofs.Spares.{Taken, taken, spare_same, used_is_none}
use Rattle.oz_epochs.proofs.Orders.{Apart, apart, once_behind, rise_behind, rise_without, without_one, found_one, found_between}

module _ {K : Type 0} where
  if_used : (o : Option ℕ) (nodes : List (Node K)) → ((t : ℕ) → o ≡ Some t → IsUsed nodes t) → IfSome o (IsUsed nodes)
  if_used None nodes each = tt
  if_used (Some t) nodes each = each t refl

  -- the entries are those that the links lead through
  pub entries_are : (nodes : List (Node K)) (front back spare_front : Option ℕ) (spare : ℕ) (es : List (EpochEntry K))
      → IsLinked nodes front back spare_front spare es → entries_of nodes front spare ≡ es
  entries_are nodes front back spare_front spare es s =
      let all = s.all in let count : length nodes - spare ≡ length es = omega arith in
      ap (λ n. entries_from nodes n front) count ∙ entries_from_chain nodes None front es back None s.chain

  pub linked_here : (nodes : List (Node K)) (front back spare_front : Option ℕ) (spare : ℕ) (es : List (EpochEntry K))
      → IsLinked nodes front back spare_front spare es → IsLinked nodes front back spare_front spare (entries_of nodes front spare)
  linked_here nodes front back spare_front spare es s = subst (IsLinked nodes front back spare_front spare) (sym (entries_are nodes front back spare_front spare es s)) s

  pub order_here : (nodes : List (Node K)) (front back spare_front : Option ℕ) (spare : ℕ) (es : List (EpochEntry K))
      → IsLinked nodes front back spare_front spare es → AreInOrder (entries_of nodes front spare)
  order_here nodes front back spare_front spare es s = (linked_here nodes front back spare_front spare es s).order

  module _ (nodes : List (Node K)) (front back here : Option ℕ) (spare : ℕ) (es : List (EpochEntry K)) (s : IsLinked nodes front back here spare es) where
    module _ (slot epoch : ℕ) (key : K) (next : Option ℕ) (is : here ≡ Some slot) (at : slice_get nodes slot ≡ Some (Spare next)) where
      abbrev put : List (Node K)
      put = set nodes slot (node back None epoch key)

      abbrev grown : List (Node K)
      grown = with_next put back (Some slot)

      own : IsAway slot es
      own = spare_is_away nodes None front es back None slot next s.chain at

      other_back : back ≡ Some slot → ⊥
      other_back same = (last_used nodes front es back None slot s.chain same).1 own

      put_other : (t : ℕ) → slot ≢ t → slice_get put t ≡ slice_get nodes t
      put_other t other = slice_get-set_other nodes slot t _ other

      pub put_back_used : IfSome back (IsUsed put)
      put_back_used = if_used back put (λ k same. let used = (last_used nodes front es back None k s.chain same).0 in
          (used.0, put_other k (λ is. other_back (same ∙ ap Some (sym is))) ∙ used.1))

      pub put_slot_away : IsAway slot es
      put_slot_away = own

      pub pushed : EndsBy epoch es → (left : ℕ) → left + 1 ≡ spare → IsLinked grown (cond (is_some back) front (Some slot)) (Some slot) next left (es ++ entry slot epoch key ∷ [])
      pushed ends left count =
          let t : Taken nodes slot next spare = taken nodes here spare slot next s.spares is at in
          let within = slice_get_within nodes slot _ at in
          let first : IsChain put None front es back None = chain_same nodes put None front es back None (λ k among. put_other k (λ same. among (subst (λ j. IsAway j es) same own))) s.chain in
          let led : IsChain grown None (cond (is_some back) front (Some slot)) es back (Some slot) = chain_next put front es back None (Some slot) first s.order.slots in
          let new : slice_get grown slot ≡ Some (node back None epoch key) = with_next_other put back (Some slot) slot other_back ∙ slice_get-set_same nodes slot _ within in
          let kept : (k : ℕ) → (IsNoneOf k t.slots → ⊥) → slice_get grown k ≡ slice_get nodes k = λ k among.
          with_next_other put back (Some slot) k (λ same. among (used_is_none nodes next t.slots k t.linked (last_used nodes front es back None k s.chain same).0))
          ∙ put_other k (λ same. among (subst (λ j. IsNoneOf j t.slots) same t.apart)) in
          let count_of = t.count in
          let all = s.all in
          let long = length-append es (entry slot epoch key ∷ []) in
          let same_length : length grown ≡ length nodes = length-with_next put back (Some slot) ∙ length-set nodes slot _ in
          let fits = s.fits in
          record {
            chain = chain_join grown None (cond (is_some back) front (Some slot)) es (entry slot epoch key ∷ []) back (Some slot) (Some slot) None led (refl, (None, new, (refl, refl)));
            spares = record { slots = t.slots; linked = spare_same nodes grown next t.slots kept t.linked; once = t.once; count = omega arith };
            all = omega arith;
            fits = omega arith;
            order = record { slots = once_behind es (entry slot epoch key) s.order.slots own; epochs = rise_behind es (entry slot epoch key) s.order.epochs ends };
          }

      pub pushed_to : EndsBy epoch es → (left : ℕ) → left + 1 ≡ spare → (placed after : List (Node K)) (first : Option ℕ)
          → placed ≡ put → after ≡ with_next placed back (Some slot) → first ≡ cond (is_some back) front (Some slot)
          → IsLinked after first (Some slot) next left (es ++ entry slot epoch key ∷ [])
      pushed_to ends left count placed after first placed_is after_is first_is =
          subst (λ k. IsLinked after k (Some slot) next left (es ++ entry slot epoch key ∷ [])) (sym first_is)
          (subst (λ k. IsLinked k (cond (is_some back) front (Some slot)) (Some slot) next left (es ++ entry slot epoch key ∷ [])) (sym (after_is ∙ ap (λ k. with_next k back (Some slot)) placed_is))
          (pushed ends left count))

    pub grown_to : (wider after : List (Node K)) (first : Option ℕ) (capacity total : ℕ)
        → wider ≡ nodes → capacity < 2 ^ 64 → length wider ≤ capacity → length after ≡ capacity → Keeps wider after
        → ((n : ℕ) → HasSpare wider here n → HasSpare after first (n + (capacity - length wider))) → total ≡ spare + (capacity - length wider)
        → IsLinked after front back first total es
    grown_to wider after first capacity total wider_is small within full keeps more total_is =
        let all = s.all in let same : length wider ≡ length nodes = ap length wider_is in
        record {
          chain = chain_kept wider after None front es back None keeps (subst (λ k. IsChain k None front es back None) (sym wider_is) s.chain);
          spares = subst (HasSpare after first) (sym total_is) (more spare (subst (λ k. HasSpare k here spare) (sym wider_is) s.spares));
          all = omega arith;
          fits = omega arith;
          order = s.order;
        }

    -- the slot of an entry names a node in use
    pub found_used : (slot : ℕ) → IsSome (found slot es) → IsUsed nodes slot
    found_used slot some =
        let split = found_between slot es some in
        let two = chain_split nodes None front split.0 (split.1 ∷ split.2) back None (subst (λ l. IsChain nodes None front l back None) split.3 s.chain) in
        (_, ap (slice_get nodes) (sym split.4) ∙ two.3.1.1)

    module _ (slot : ℕ) (n : Linked K) (at : slice_get nodes slot ≡ Some (Used n)) (some : IsSome (found slot es)) where
      abbrev freed : List (Node K)
      freed = set nodes slot (Spare here)

      abbrev led : List (Node K)
      led = with_next freed n.prev n.next

      abbrev left : List (Node K)
      left = with_prev led n.next n.prev

      -- the entries before and behind the one that is taken out
      record Cut : Type 0 where
        xs : List (EpochEntry K)
        e : EpochEntry K
        ys : List (EpochEntry K)
        whole : es ≡ xs ++ e ∷ ys
        slot_is : e.slot ≡ slot
        same : n ≡ record { prev = n.prev; next = n.next; epoch = e.epoch; key = e.key }
        front_chain : IsChain nodes None front xs n.prev (Some slot)
        back_chain : IsChain nodes (Some slot) n.next ys back None
        parts : Apart xs e ys

      cut : Cut
      cut =
          let split = found_between slot es some in
          let xs = split.0 in let e = split.1 in let ys = split.2 in
          let chain : IsChain nodes None front (xs ++ e ∷ ys) back None = subst (λ l. IsChain nodes None front l back None) split.3 s.chain in
          let two = chain_split nodes None front xs (e ∷ ys) back None chain in
          let here_is : two.1 ≡ Some slot = two.3.0 ∙ ap Some split.4 in
          let node_at : slice_get nodes slot ≡ Some (node two.0 two.3.1.0 e.epoch e.key) = ap (slice_get nodes) (sym split.4) ∙ two.3.1.1 in
          let same : n ≡ record { prev = two.0; next = two.3.1.0; epoch = e.epoch; key = e.key } = cc in
          let prev_is : two.0 ≡ n.prev = sym (ap (λ (k : Linked K). k.prev) same) in
          let next_is : two.3.1.0 ≡ n.next = sym (ap (λ (k : Linked K). k.next) same) in
          record {
            xs = xs;
            e = e;
            ys = ys;
            whole = split.3;
            slot_is = split.4;
            same = same ∙ ap (λ (p : Option ℕ). record { prev = p; next = two.3.1.0; epoch = e.epoch; key = e.key }) prev_is ∙ ap (λ (p : Option ℕ). record { prev = n.prev; next = p; epoch = e.epoch; key = e.key }) next_is;
            front_chain = subst (λ k. IsChain nodes None front xs k (Some slot)) prev_is (subst (λ k. IsChain nodes None front xs two.0 k) here_is two.2);
            back_chain = subst (λ k. IsChain nodes (Some slot) k ys back None) next_is (subst (λ k. IsChain nodes k two.3.1.0 ys back None) (ap Some split.4) two.3.1.2);
            parts = apart xs e ys (subst NoSlotTwice split.3 s.order.slots);
          }

      freed_other : (t : ℕ) → slot ≢ t → slice_get freed t ≡ slice_get nodes t
      freed_other t other = slice_get-set_other nodes slot t _ other

      prev_used : (t : ℕ) → n.prev ≡ Some t → IsUsed nodes t × (IsAway t cut.xs → ⊥)
      prev_used t is = last_used nodes front cut.xs n.prev (Some slot) t cut.front_chain is

      next_used : (t : ℕ) → n.next ≡ Some t → IsUsed nodes t × (IsAway t cut.ys → ⊥)
      next_used t is = first_used nodes (Some slot) n.next cut.ys back t cut.back_chain is

      slot_front : IsAway slot cut.xs
      slot_front = subst (λ k. IsAway k cut.xs) cut.slot_is cut.parts.front_away

      slot_back : IsAway slot cut.ys
      slot_back = subst (λ k. IsAway k cut.ys) cut.slot_is cut.parts.back_away

      prev_other : n.prev ≡ Some slot → ⊥
      prev_other is = (prev_used slot is).1 slot_front

      next_other : n.next ≡ Some slot → ⊥
      next_other is = (next_used slot is).1 slot_back

      pub freed_prev_used : IfSome n.prev (IsUsed freed)
      freed_prev_used = if_used n.prev freed (λ t is. let used = (prev_used t is).0 in
          (used.0, freed_other t (λ same. prev_other (is ∙ ap Some (sym same))) ∙ used.1))

      pub led_next_used : IfSome n.next (IsUsed led)
      led_next_used = if_used n.next led (λ t is. let used = next_used t is in (
        used.0.0,
        with_next_other freed n.prev n.next t (λ prev_is. (prev_used t prev_is).1 (cut.parts.among_back t used.1))
            ∙ freed_other t (λ same. next_other (is ∙ ap Some (sym same))) ∙ used.0.1,
      ))

      -- all but the three nodes stay
      left_other : (t : ℕ) → (n.next ≡ Some t → ⊥) → (n.prev ≡ Some t → ⊥) → slot ≢ t → slice_get left t ≡ slice_get nodes t
      left_other t not_next not_prev other = with_prev_other led n.next n.prev t not_next ∙ with_next_other freed n.prev n.next t not_prev ∙ freed_other t other

      pub removed : IsLinked left (cond (is_some n.prev) front n.next) (cond (is_some n.next) back n.prev) (Some slot) (spare + 1) (without slot es)
      removed =
          let xs = cut.xs in let e = cut.e in let ys = cut.ys in let parts = cut.parts in
          let front_freed : IsChain freed None front xs n.prev (Some slot) =
          chain_same nodes freed None front xs n.prev (Some slot) (λ t among. freed_other t (λ same. among (subst (λ k. IsAway k xs) same slot_front))) cut.front_chain in
          let front_led : IsChain led None (cond (is_some n.prev) front n.next) xs n.prev n.next = chain_next freed front xs n.prev (Some slot) n.next front_freed parts.front_once in
          let front_left : IsChain left None (cond (is_some n.prev) front n.next) xs n.prev n.next =
          chain_same led left None (cond (is_some n.prev) front n.next) xs n.prev n.next
          (λ t among. with_prev_other led n.next n.prev t (λ is. (next_used t is).1 (parts.among_front t among))) front_led in
          let back_led : IsChain led (Some slot) n.next ys back None =
          chain_same nodes led (Some slot) n.next ys back None
          (λ t among. with_next_other freed n.prev n.next t (λ is. (prev_used t is).1 (parts.among_back t among)) ∙ freed_other t (λ same. among (subst (λ k. IsAway k ys) same slot_back))) cut.back_chain in
          let back_left : IsChain left n.prev n.next ys (cond (is_some n.next) back n.prev) None = chain_prev led (Some slot) n.next ys back n.prev back_led parts.back_once in
          let rest : without slot es ≡ xs ++ ys =
          ap (λ l. without slot l) cut.whole ∙ ap (λ k. without k (xs ++ e ∷ ys)) (sym cut.slot_is) ∙ without_one xs e ys parts.front_away parts.back_away in
          let here_used : IsUsed nodes slot = (n, at) in
          let kept : (t : ℕ) → (IsNoneOf t s.spares.slots → ⊥) → slice_get left t ≡ slice_get nodes t = λ t among.
          left_other t
          (λ is. among (used_is_none nodes here s.spares.slots t s.spares.linked (next_used t is).0))
          (λ is. among (used_is_none nodes here s.spares.slots t s.spares.linked (prev_used t is).0))
          (λ same. among (subst (λ k. IsNoneOf k s.spares.slots) same (used_is_none nodes here s.spares.slots slot s.spares.linked here_used))) in
          let freed_at : slice_get left slot ≡ Some (Spare here) =
          with_prev_other led n.next n.prev slot next_other ∙ with_next_other freed n.prev n.next slot prev_other ∙ slice_get-set_same nodes slot _ (slice_get_within nodes slot _ at) in
          let same_length : length left ≡ length nodes = length-with_prev led n.next n.prev ∙ length-with_next freed n.prev n.next ∙ length-set nodes slot _ in
          let all = s.all in let fits = s.fits in let count = s.spares.count in
          let long_before : length es ≡ length (xs ++ e ∷ ys) = ap length cut.whole in
          let long_parts = length-append xs (e ∷ ys) in let long_after = length-append xs ys in
          subst (IsLinked left (cond (is_some n.prev) front n.next) (cond (is_some n.next) back n.prev) (Some slot) (spare + 1)) (sym rest) (record {
            chain = chain_join left None (cond (is_some n.prev) front n.next) xs ys n.prev n.next (cond (is_some n.next) back n.prev) None front_left back_left;
            spares = record {
              slots = slot ∷ s.spares.slots;
              linked = (refl, (here, freed_at, spare_same nodes left here s.spares.slots kept s.spares.linked));
              once = (used_is_none nodes here s.spares.slots slot s.spares.linked here_used, s.spares.once);
              count = omega arith;
            };
            all = omega arith;
            fits = omega arith;
            order = record { slots = parts.joined; epochs = rise_without xs e ys (subst EpochsRise cut.whole s.order.epochs) };
          })

      pub removed_to : (placed linked after : List (Node K)) (first last : Option ℕ)
          → placed ≡ freed → linked ≡ with_next placed n.prev n.next → after ≡ with_prev linked n.next n.prev
          → first ≡ cond (is_some n.prev) front n.next → last ≡ cond (is_some n.next) back n.prev
          → IsLinked after first last (Some slot) (spare + 1) (without slot es)
      removed_to placed linked after first last placed_is linked_is after_is first_is last_is =
          let is : left ≡ after = sym (after_is ∙ ap (λ k. with_prev k n.next n.prev) (linked_is ∙ ap (λ k. with_next k n.prev n.next) placed_is)) in
          subst (λ k. IsLinked after first k (Some slot) (spare + 1) (without slot es)) (sym last_is)
          (subst (λ k. IsLinked after k (cond (is_some n.next) back n.prev) (Some slot) (spare + 1) (without slot es)) (sym first_is)
          (subst (λ k. IsLinked k (cond (is_some n.prev) front n.next) (cond (is_some n.next) back n.prev) (Some slot) (spare + 1) (without slot es)) is removed))

      pub removed_entry : found slot es ≡ Some (n.epoch, n.key)
      removed_entry =
          let e = cut.e in
          ap (λ l. found slot l) cut.whole ∙ ap (λ k. found k (cut.xs ++ e ∷ cut.ys)) (sym cut.slot_is) ∙ found_one cut.xs e cut.ys cut.parts.front_away
          ∙ ap (λ (k : Linked K). Some (k.epoch, k.key)) (sym cut.same)

      pub room_for_one : spare + 1 < 2 ^ 64
      room_for_one =
          let all = s.all in let fits = s.fits in
          let long_before : length es ≡ length (cut.xs ++ cut.e ∷ cut.ys) = ap length cut.whole in
          let long_parts = length-append cut.xs (cut.e ∷ cut.ys) in omega arith
