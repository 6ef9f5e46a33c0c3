-- Transactions name blocks that were asked for, and where all of them were logged, all these blocks are.
use Rattle.std.proofs.Common.{◌≡◌, ◌⊎◌, ⊎_elim, inl, inr, ◌==◌, ◌&&◌, Bool, true, false, cond, ℕ, zero, suc}
use Rattle.std.proofs.Common.{List, [], ◌∷◌, Option, None, Some, All, Contains, eq-eqb, refl, sym, ap, ◌∙◌, subst, arith}
use Rattle.std.proofs.lemmas.Bool.{eqb-true}
use Rattle.std.proofs.lemmas.List.Elements.{All-contains, All-contains_itself, All-weaker}
use Rattle.std.proofs.lemmas.List.Folds.{list_any-from_Any}
use Rattle.std.specs.List.{cons_option, list_any}
use Rattle.std.specs.Prelude.{Result, Ok, Err, OnOk}
use Rattle.oz_core.specs.declared.event.Event.{Event}
use Rattle.oz_core.specs.Law.{IsPurged}
use Rattle.oz_core.specs.Scm.{is_in_logs, logged, names_block}
use Rattle.oz_core.specs.Seats.{scm_seat}
use Rattle.oz_core.specs.Stories.{all_told}
use Rattle.oz_dellog.specs.declared.txn.Txn.{Txn}
use Rattle.oz_fields.specs.declared.block.Block.{Block}
use Rattle.oz_kept.specs.laws.Granted.{told_among}
use Rattle.oz_model.specs.laws.Members.{comes, joins}
use Rattle.oz_scm_events.specs.declared.acking.AckFault.{AckFault}
use Rattle.oz_scm_events.specs.Logged.{log_event}
use Rattle.oz_service.specs.Purges.{AreLogged, ArePurgedOf, IsInLog}
use Rattle.oz_service.specs.Splitting.{local_in, locals_in, named_by, named_in}

pub each_of : {A : Type 0} (P : A → Type 0) (l : List A) → ((x : A) → Contains l x → P x) → All P l
each_of P l each k d within = All-weaker (Contains l) P each l (All-contains_itself l) k d within

first_or_later : {A : Type 0} (y x : A) (l : List A) → Contains (y ∷ l) x → (y ≡ x) ⊎ Contains l x
first_or_later y x l (zero, within, is) = inl is
first_or_later y x l (suc k, within, is) = inr (k, omega (arith, within), is)

-- ---- a block, and its local id among those of its container

module _ (container local : ℕ) where
  abbrev its_block : Block
  its_block = record { container = container; local = local }

  among_blocks : (blocks : List Block) → Contains (locals_in container blocks) local → Contains blocks its_block
  among_blocks [] there = absurd (omega (arith, there.1))
  among_blocks (block ∷ blocks) there = by (container == block.container) refl (among_blocks blocks)
    where
      behind : Contains blocks its_block → Contains (block ∷ blocks) its_block
      behind later = (suc later.0, omega (arith, later.1), later.2)

      kept : (t : Bool) → (container == block.container) ≡ t → Contains (cons_option (cond t (Some block.local) None) (locals_in container blocks)) local
      kept t e = subst (λ (b : Bool). Contains (cons_option (cond b (Some block.local) None) (locals_in container blocks)) local) e there

      by : (t : Bool) → (container == block.container) ≡ t → (Contains (locals_in container blocks) local → Contains blocks its_block)
          → Contains (block ∷ blocks) its_block
      by true e rest = ⊎_elim
          (λ (same : block.local ≡ local).
          let of : block.container ≡ container = sym (eqb-true container block.container e) in
          let is : block ≡ its_block = (λ i. record { container = of i; local = same i }) in (0, omega arith, is))
          (λ later. behind (rest later))
          (first_or_later block.local local (locals_in container blocks) (kept true e))
      by false e rest = behind (rest (kept false e))

among_locals : (blocks : List Block) (block : Block) → Contains blocks block → Contains (locals_in block.container blocks) block.local
among_locals [] block there = absurd (omega (arith, there.1))
among_locals (first ∷ blocks) block (zero, within, is) =
    subst (λ (o : Option ℕ). Contains (cons_option o (locals_in block.container blocks)) block.local)
    (sym (ap (λ (t : Bool). cond t (Some first.local) None) (eq-eqb block.container first.container (ap (λ (b : Block). b.container) (sym is)))
    ∙ ap (λ (b : Block). Some b.local) is))
    (0, omega arith, refl)
among_locals (first ∷ blocks) block (suc k, within, is) =
    behind (local_in block.container first) (among_locals blocks block (k, omega (arith, within), is))
  where
    behind : (o : Option ℕ) → Contains (locals_in block.container blocks) block.local → Contains (cons_option o (locals_in block.container blocks)) block.local
    behind None later = later
    behind (Some y) later = (suc later.0, omega (arith, later.1), later.2)

-- ---- transactions

module _ (blocks : List Block) (txns : List Txn) (whole : (container : ℕ) → named_in container txns ≡ locals_in container blocks) (story : List Event) where
  -- each names blocks that were asked for
  pub names_purged : All (IsPurged story) blocks → (txn : Txn) → Contains txns txn → ArePurgedOf story txn
  names_purged purged txn there = each_of (λ local. IsPurged story (record { container = txn.container; local = local })) txn.locals (λ local has.
      let named : Contains (named_in txn.container txns) local = joins (named_by txn.container) txns txn local there
      (subst (λ (t : Bool). Contains (cond t txn.locals []) local) (sym (eq-eqb txn.container txn.container refl)) has) in
      All-contains (IsPurged story) blocks (record { container = txn.container; local = local }) purged
      (among_blocks txn.container local blocks (subst (λ (l : List ℕ). Contains l local) (whole txn.container) named)))

  in_one : (block : Block) (txn : Txn) → Contains story (record { seat = scm_seat; kind = log_event txn }) → (t : Bool) → (block.container == txn.container) ≡ t
      → Contains (cond t txn.locals []) block.local → is_in_logs (all_told logged story) block ≡ true
  in_one block txn told true e has =
      let among : Contains (all_told logged story) txn = told_among logged story (record { seat = scm_seat; kind = log_event txn }) txn told refl in
      let names : names_block block txn ≡ true =
      ap (λ (t : Bool). t && list_any (λ local. local == block.local) txn.locals)
      (eq-eqb txn.container block.container (sym (eqb-true block.container txn.container e)))
      ∙ list_any-from_Any (λ (local : ℕ). local == block.local) txn.locals (has.0, block.local, has.1, has.2, eq-eqb block.local block.local refl) in
      list_any-from_Any (names_block block) (all_told logged story) (among.0, txn, among.1, among.2, names)
  in_one block txn told false e has = absurd (omega (arith, has.1))

  -- once all are in the log, all blocks are
  pub all_logged : ((txn : Txn) → Contains txns txn → Contains story (record { seat = scm_seat; kind = log_event txn })) → AreLogged story blocks
  all_logged told = each_of (λ (block : Block). is_in_logs (all_told logged story) block ≡ true) blocks (λ block there.
      let from = comes (named_by block.container) txns block.local
      (subst (λ (l : List ℕ). Contains l block.local) (sym (whole block.container)) (among_locals blocks block there)) in
      in_one block from.item (told from.item from.there) (block.container == from.item.container) refl from.has)

pub logged_if : (result : Result (Unit {0}) AckFault) (blocks : List Block) (txns : List Txn)
    → ((container : ℕ) → named_in container txns ≡ locals_in container blocks) → (story : List Event) → OnOk result (All (IsInLog story) txns)
    → OnOk result (AreLogged story blocks)
logged_if (Ok done) blocks txns whole story told = all_logged blocks txns whole story (λ txn there. All-contains (IsInLog story) txns txn told there)
logged_if (Err fault) blocks txns whole story told = tt
