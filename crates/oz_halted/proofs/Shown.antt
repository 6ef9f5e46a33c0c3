-- The example meets the premises, and it isn't what its events alone leave.
use Rattle.std.proofs.Common.{◌≡◌, ⊎_elim, ℕ, zero, suc, ◌<◌, ◌==◌, max, Bool, true, false, ◌&&◌, ◌||◌, List, [], ◌∷◌, filter, Option, None, Some, IsSome, Contains, cond, inl, inr, refl, sym, ◌∙◌, ap, subst, arith}
use mathlib.Core.Bool.{false≢true}
use Rattle.std.proofs.lemmas.Bool.{eqb-true}
use Rattle.std.proofs.lemmas.Cmp.{nat_cmp_total}
use Rattle.std.specs.FinMap.{get, get-empty, get-from_entries}
use Rattle.std.specs.List.{list_any, slice_get}
use Rattle.std.specs.Option.{option_map_or, option_and_then}
use Rattle.oz_dellog.specs.declared.txn.Txn.{Txn}
use Rattle.oz_fields.specs.declared.block.Block.{Block}
use Rattle.oz_fields.specs.declared.block.Piece.{Piece}
use Rattle.oz_model.specs.Reach.{IsReached}
use Rattle.oz_namespace.specs.declared.namespace.Bucket.{Bucket}
use Rattle.oz_namespace.specs.Namespace.{ByName, bucket_of, nothing}
use Rattle.oz_nodes.specs.Pipelines.{members_of}
use Rattle.oz_core.specs.declared.event.Event.{Event}
use Rattle.oz_core.specs.declared.event.EventKind.TheVariants.{Halt, Delete, AckDel}
use Rattle.oz_core.specs.declared.event.Node.TheVariants.{Scm, Datanode}
use Rattle.oz_core.specs.declared.opening.Container.{Container}
use Rattle.oz_core.specs.declared.opening.NodeOpening.{NodeOpening}
use Rattle.oz_core.specs.declared.opening.Unretired.{Unretired}
use Rattle.oz_core.specs.Coherent.{IsCoherent, IsOnDisk}
use Rattle.oz_core.specs.Fits.{Fits, FitsFrom}
use Rattle.oz_core.specs.Law.{IsLegal, IsLegalFrom, DeleteIsEnabled}
use Rattle.oz_core.specs.Manager.{namespace_from}
use Rattle.oz_core.specs.Nodes.{is_block, has_piece, was_held, holds, deletes, is_running, is_closed, was_closed}
use Rattle.oz_core.specs.Scm.{is_logged_at_opening, logs, members}
use Rattle.oz_core.specs.Seats.{scm_seat, datanode_seat}
use Rattle.oz_core.specs.Stories.{newer}
use Rattle.oz_kept.specs.Held.{LinesAreApart, HavingFrom}
use Rattle.oz_kept.specs.laws.Contents.{one_block}
use Rattle.oz_kept.specs.laws.Reached.{in_none, in_one}
use Rattle.oz_kept.specs.reopened.Left.{IsLeft, IsLeftByManager, IsLeftByScm, IsLeftByNode, IsUnretired, AreAcknowledgers, lengths_of, is_txn_of, was_greatest, greatest_of}
use Rattle.oz_halted.specs.Example.{block, txn, closed_container, containers_made, holding, opening, bytes, script, story, emptied, left}
use Rattle.oz_halted.specs.Further.{HasOneMore, MayBeLeftByAll, MayBeLeftByNode}

-- ---- the opening

container_is : get containers_made 1 ≡ Some closed_container
container_is = get-from_entries nat_cmp_total ((1, closed_container) ∷ []) 1

some_there : (o : Option Container) (container : Container) → o ≡ Some container → IsSome o
some_there o container e = subst IsSome (sym e) refl

-- its members, whatever an opening with these datanodes and containers may be
pub members_are : members opening [] 1 ≡ 0 ∷ 1 ∷ 2 ∷ []
members_are = ap (λ (o : Option Container). option_map_or (λ (container : Container). members_of 3 container.pipeline) o []) container_is

no_bucket : (volume name : List ℕ) → bucket_of nothing volume name ≡ None
no_bucket volume name = ap (option_and_then (λ (buckets : ByName Bucket). get buckets name)) (get-empty _ volume)

reaches_nothing : (of : Block) → IsReached nothing of → ⊥
reaches_nothing of reached = let none = sym (no_bucket reached.volume reached.name) ∙ reached.is_there in absurd cc

-- what is held is the block
held_is : (dn : ℕ) (of : Block) → was_held opening dn of ≡ true → of ≡ block
held_is zero of e = one_block of block (by (is_block of block) e)
  where
    by : (t : Bool) → t || false ≡ true → t ≡ true
    by true e = refl
    by false e = e
held_is (suc zero) of e = held_is zero of e
held_is (suc (suc zero)) of e = held_is zero of e
held_is (suc (suc (suc dn))) of e = absurd (false≢true e)

on_disk_is : (of : Block) → IsOnDisk opening of → of ≡ block
on_disk_is of (inl reached) = absurd (reaches_nothing of reached)
on_disk_is of (inr (inl deleted)) = absurd (in_none of deleted)
on_disk_is of (inr (inr there)) = held_is there.0 of there.1

logged_is : (of : Block) → is_logged_at_opening opening of ≡ true → of.local ≡ 5
logged_is of e = by (1 == of.container) (5 == of.local) refl e
  where
    by : (t s : Bool) → (5 == of.local) ≡ s → (t && (s || false)) || false ≡ true → of.local ≡ 5
    by true true is e = sym (eqb-true 5 of.local is)
    by true false is e = absurd (false≢true e)
    by false s is e = absurd (false≢true e)

is_member : (dn : ℕ) (of : Block) → was_held opening dn of ≡ true → Contains (members opening [] 1) dn
is_member zero of e = subst (λ (l : List ℕ). Contains l 0) (sym members_are) (0, omega arith, refl)
is_member (suc zero) of e = subst (λ (l : List ℕ). Contains l 1) (sym members_are) (1, omega arith, refl)
is_member (suc (suc zero)) of e = subst (λ (l : List ℕ). Contains l 2) (sym members_are) (2, omega arith, refl)
is_member (suc (suc (suc dn))) of e = absurd (false≢true e)

pub coherent : IsCoherent opening bytes
coherent = record {
  log = record {
    unreached = λ of logged reached. reaches_nothing of reached;
    granted = λ of logged. omega (arith, logged_is of logged);
  };
  blocks = record {
    made = λ of on. some_there (get containers_made of.container) closed_container (ap (λ (b : Block). get containers_made b.container) (on_disk_is of on) ∙ container_is);
    placed = λ of dn held. subst (λ (b : Block). Contains (members opening [] b.container) dn) (sym (held_is dn of held)) (is_member dn of held);
    digests_match = λ of dn held. refl;
    alike = λ of dn other held also. refl;
    whole = λ piece dn content has held gives. let none = sym (no_bucket has.volume has.name) ∙ has.is_there in absurd cc;
  };
  fresh = λ of on. omega (arith, ap (λ (b : Block). b.local) (on_disk_is of on));
}

-- ---- the story

-- a datanode may delete the block, behind events that make no container
may_delete : (before : List Event) (dn : ℕ) → dn < 3 → is_running dn before ≡ true → Contains (logs opening before) txn → members opening before 1 ≡ members opening [] 1 → holds opening [] dn block ≡ true
    → 5 ∷ [] ≡ filter (λ (local : ℕ). holds opening before dn (record { container = 1; local = local })) (5 ∷ []) → DeleteIsEnabled opening before (datanode_seat dn) dn 1 (5 ∷ [])
may_delete before dn lt runs logged same was held = record {
  of_datanode = record { there = lt; its = refl };
  runs = runs;
  txn = txn;
  logged = logged;
  of_number = refl;
  member = subst (λ (l : List ℕ). Contains l dn) (sym same) (is_member dn block was);
  held = held;
}

pub legal : IsLegal opening story
unfolding IsLegalFrom
legal = (
  may_delete [] 1 (omega arith) refl (0, omega arith, refl) refl refl refl,
  (
    record { of_node = record { there = omega arith; its = refl }; unhalted = refl; counted = omega arith },
    (record { of_node = refl; unhalted = refl; counted = omega arith }, tt),
  ),
)

pub fits : Fits opening bytes script story
unfolding FitsFrom
fits = record { steps = (tt, (tt, (tt, tt))); in_order = λ client. ([], refl) }

pub apart : LinesAreApart script
apart = λ one other there also. absurd (in_none one there)

-- ---- one event more

abbrev of_node : List Event
of_node =
    record { seat = datanode_seat 1; kind = Delete 1 1 (5 ∷ []) }
    ∷ record { seat = datanode_seat 0; kind = Delete 0 1 (5 ∷ []) }
    ∷ record { seat = datanode_seat 0; kind = Halt (Datanode 0) 1 }
    ∷ record { seat = scm_seat; kind = Halt Scm 1 } ∷ []

node_more : HasOneMore opening bytes script (Datanode 0) story of_node
node_more = record {
  before = record { seat = datanode_seat 1; kind = Delete 1 1 (5 ∷ []) } ∷ [];
  behind = record { seat = scm_seat; kind = Halt Scm 1 } ∷ [];
  seat = datanode_seat 0;
  count = 1;
  halted = refl;
  further = Delete 0 1 (5 ∷ []);
  enabled = may_delete (record { seat = datanode_seat 1; kind = Delete 1 1 (5 ∷ []) } ∷ []) 0 (omega arith) refl (0, omega arith, refl) refl refl refl;
  content = tt;
  more = refl;
}

abbrev of_scm : List Event
of_scm =
    record { seat = datanode_seat 1; kind = Delete 1 1 (5 ∷ []) }
    ∷ record { seat = datanode_seat 0; kind = Halt (Datanode 0) 1 }
    ∷ record { seat = scm_seat; kind = AckDel 1 1 }
    ∷ record { seat = scm_seat; kind = Halt Scm 1 } ∷ []

scm_more : HasOneMore opening bytes script Scm story of_scm
scm_more = record {
  before = record { seat = datanode_seat 1; kind = Delete 1 1 (5 ∷ []) } ∷ record { seat = datanode_seat 0; kind = Halt (Datanode 0) 1 } ∷ [];
  behind = [];
  seat = scm_seat;
  count = 1;
  halted = refl;
  further = AckDel 1 1;
  enabled = record { of_scm = refl; unhalted = refl; applied = refl; new = λ there. in_none 1 there };
  content = tt;
  more = refl;
}

-- ---- what is left

by_manager : IsLeftByManager opening story 0 left
unfolding namespace_from
by_manager = record {
  namespace = refl;
  last_index = refl;
  deleted = λ of among. absurd (in_none of among);
  kept = λ of its. ⊎_elim (λ reached. inl reached) (λ rest. ⊎_elim (λ among. inr (inl among)) (λ among. absurd (in_none of among)) rest) its;
}

by_scm : IsLeftByScm opening of_scm left
by_scm = record {
  count = refl;
  next_id = refl;
  containers = refl;
  last_txn = refl;
  logged = λ other of. record { acknowledged = 1 ∷ []; there = subst (λ (t : Txn). Contains left.unretired (record { txn = t; acknowledgers = 1 ∷ [] })) (in_one txn other of.0) (0, omega arith, refl) };
  unretired = λ unretired there. subst (λ (u : Unretired). IsUnretired opening of_scm u.txn) (in_one one unretired there) ((0, omega arith, refl), refl);
  acknowledged = λ unretired there. subst (λ (u : Unretired). AreAcknowledgers opening of_scm u.txn.number u.acknowledgers) (in_one one unretired there) (λ dn. ((λ is. is), (λ is. is)));
}
  where
    one : Unretired
    one = record { txn = txn; acknowledgers = 1 ∷ [] }

-- a datanode that deleted the block
no_more : (t s : Bool) → false ≡ newer (cond ((t || false) && (s || false)) (Some false) None) ((t && s) || false)
no_more true true = refl
no_more true false = refl
no_more false true = refl
no_more false false = refl

one_applied : (t : Bool) → cond t 1 0 ≡ cond (t || false) (max (cond t 0 0) 1) (cond t 0 0)
one_applied true = refl
one_applied false = refl

emptied_by : (dn : ℕ) (longer : List Event) → slice_get left.nodes dn ≡ Some emptied → ((of : Block) → holds opening longer dn of ≡ false) → ((container : ℕ) → is_closed opening longer dn container ≡ was_closed left dn container)
    → ((container : ℕ) → greatest_of opening longer dn container ≡ was_greatest left dn container) → IsLeftByNode opening bytes script longer dn left bytes
emptied_by dn longer is holds_none closed greatest = record {
  held = λ of. ap (λ (o : Option NodeOpening). option_map_or (has_piece of) o false) is ∙ sym (holds_none of);
  lengths = λ node piece there among. let same = some_node emptied node (sym is ∙ there) in absurd (in_none piece (subst (λ (n : NodeOpening). Contains n.held piece) (sym same) among));
  has = λ of held. absurd (false≢true (sym (holds_none of) ∙ held));
  closed = λ container. sym (closed container);
  greatest = λ container. sym (greatest container);
}
  where
    some_node : (a b : NodeOpening) → Some a ≡ Some b → a ≡ b
    some_node a b e = cc

first_node : IsLeftByNode opening bytes script of_node 0 left bytes
first_node = emptied_by 0 of_node refl (λ of. sym (no_more (1 == of.container) (5 == of.local))) (λ container. refl) (λ container. sym (one_applied (1 == container)))

second_node : IsLeftByNode opening bytes script story 1 left bytes
second_node = emptied_by 1 story refl (λ of. sym (no_more (1 == of.container) (5 == of.local))) (λ container. refl) (λ container. sym (one_applied (1 == container)))

third_node : IsLeftByNode opening bytes script story 2 left bytes
unfolding HavingFrom
third_node = record {
  held = λ of. refl;
  lengths = λ node piece there among.
      let same = some_node holding node there in
      let its = in_one (record { block = block; length = 3 }) piece (subst (λ (n : NodeOpening). Contains n.held piece) (sym same) among) in
      subst (λ (p : Piece). Contains (lengths_of opening story p.block) p.length) its (0, omega arith, refl);
  has = λ of held. record { content = 7 ∷ 8 ∷ 9 ∷ []; has = record { held = held; are = refl }; gives = refl };
  closed = λ container. refl;
  greatest = λ container. refl;
}
  where
    some_node : (a b : NodeOpening) → Some a ≡ Some b → a ≡ b
    some_node a b e = cc

no_node : (dn : ℕ) → IsLeftByNode opening bytes script story (suc (suc (suc dn))) left bytes
no_node dn = record {
  held = λ of. sym (holds_none of);
  lengths = λ node piece there among. absurd cc;
  has = λ of held. absurd (false≢true (sym (holds_none of) ∙ held));
  closed = λ container. refl;
  greatest = λ container. sym (ap (λ (t : Bool). cond (t && list_any (is_txn_of 1 container) (logs opening story)) (max 0 1) 0) far);
}
  where
    far : (1 == suc (suc (suc dn))) ≡ false
    far = by (1 == suc (suc (suc dn))) refl
      where
        by : (t : Bool) → (1 == suc (suc (suc dn))) ≡ t → t ≡ false
        by true e = let same = eqb-true 1 (suc (suc (suc dn))) e in absurd (omega (arith, same))
        by false e = refl

    holds_none : (of : Block) → holds opening story (suc (suc (suc dn))) of ≡ false
    holds_none of = ap (λ (t : Bool). newer (cond (t && deletes (logs opening story) 1 (5 ∷ []) of) (Some false) None) false) far

each_node : (dn : ℕ) → MayBeLeftByNode opening bytes script story dn left bytes
each_node zero = inl (record { longer = of_node; one_more = inr node_more; is = first_node })
each_node (suc zero) = inl (record { longer = story; one_more = inl refl; is = second_node })
each_node (suc (suc zero)) = inl (record { longer = story; one_more = inl refl; is = third_node })
each_node (suc (suc (suc dn))) = inl (record { longer = story; one_more = inl refl; is = no_node dn })

pub may_be_left : MayBeLeftByAll opening bytes script story 0 left bytes
may_be_left = record {
  within = record { stable = omega arith; decided = omega arith };
  manager = by_manager;
  scm = record { longer = of_scm; one_more = inr scm_more; is = by_scm };
  node = each_node;
}

-- and the events alone leave another opening
pub not_as_told : IsLeft opening bytes script story 0 left bytes → ⊥
not_as_told is = absurd (false≢true ((is.node 0).held block))
