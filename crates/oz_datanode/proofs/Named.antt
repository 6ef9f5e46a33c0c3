-- The blocks that a transaction names: how many are held, and that none is once they are gone.
use Rattle.std.proofs.Common.{◌≡◌, inl, inr, ◌↔◌, ℕ, suc, ◌+◌, ◌<◌, ◌≤◌, eqb, ltb, Bool, true, false, not, cond, ◌||◌, ◌&&◌, List, [], ◌∷◌, length, drop, get_or, Option, None, Some, is_some, IsTrue, Contains, Ok, Err, refl, sym, ap, subst, ◌∙◌, arith, eqb-true, eq-eqb, add-one, drop-cons}
use Rattle.std.specs.List.{AllByRecursion, list_any}
use Rattle.std.proofs.lemmas.Bool.{false≢true, lt-ltb}
use Rattle.std.proofs.lemmas.List.Elements.{Contains-append_left, Contains-append_right, Contains-append_cases, Contains-push, Contains-push_cases}
use Rattle.oz_block.specs.Blocks.{State as Blocks}
use Rattle.oz_block.specs.Changes.{Changes}
use Rattle.oz_block.specs.declared.fault.BlockFault.{BlockFault}
use Rattle.oz_block.specs.declared.fault.BlockFault.TheVariants as faults
use Rattle.oz_dellog.specs.declared.txn.Txn.{Txn}
use Rattle.oz_entries.specs.declared.entry.Entry.{Entry}
use Rattle.oz_entries.specs.Held.{is_freed}
use Rattle.oz_entries.specs.Node.{Node, is_used, is_held, names, names_held, with_number, without}
use Rattle.oz_entries.specs.Reading.{is_due}
use Rattle.oz_fields.specs.declared.block.Block.{Block}
use Rattle.oz_block.specs.shelf.Release.{is_one_of}
use Rattle.oz_world.specs.Disk.{Seen}
use Rattle.oz_datanode.specs.Changing.{held_count}
use Rattle.oz_datanode.specs.Steps.{is_in_use}
use Rattle.oz_datanode.proofs.Ranges.{in_use}

or_left : (a b : Bool) → a ≡ true → (a || b) ≡ true
or_left true b e = refl
or_left false b e = absurd (false≢true e)

or_right : (a b : Bool) → b ≡ true → (a || b) ≡ true
or_right true b e = refl
or_right false b e = e

-- each item of a list is below what each place of it is
pub all_below : (bound : ℕ) (items : List ℕ) → ((i : ℕ) → get_or items i 0 < bound) → AllByRecursion (λ item. item < bound) items
all_below bound [] below = tt
all_below bound (item ∷ items) below = (below 0, all_below bound items (λ i. below (suc i)))

-- ---- how many are held

module _ (node : Node) (container : ℕ) where
  abbrev here : ℕ → Bool
  here local = is_held node (record { container = container; local = local })

  abbrev pub one : ℕ → List ℕ → ℕ
  one local later = cond (here local && not (list_any (λ other. eqb other local) later)) 1 0

  pub count_start : (locals : List ℕ) → 0 + held_count node container (drop 0 locals) ≡ held_count node container locals
  count_start locals = omega arith

  pub count_more : (locals : List ℕ) (i count local more : ℕ) → i < length locals → local ≡ get_or locals i 0 → more ≡ one local (drop (i + 1) locals) → count + held_count node container (drop i locals) ≡ held_count node container locals
      → count + more + held_count node container (drop (i + 1) locals) ≡ held_count node container locals
  count_more locals i count local more less is counted so_far =
      let rest : drop i locals ≡ get_or locals i 0 ∷ drop (i + 1) locals = rw (add-one) (drop-cons locals i 0 less) in
      let first : held_count node container (drop i locals) ≡ one (get_or locals i 0) (drop (i + 1) locals) + held_count node container (drop (i + 1) locals) = ap (held_count node container) rest in
      let same : more ≡ one (get_or locals i 0) (drop (i + 1) locals) = counted ∙ ap (λ (n : ℕ). one n (drop (i + 1) locals)) is in
      omega (arith, first, same, so_far)

  pub few : (local : ℕ) (later : List ℕ) → one local later ≤ 1
  few local later = by (here local && not (list_any (λ other. eqb other local) later))
    where
      by : (b : Bool) → cond b 1 0 ≤ 1
      by true = omega arith
      by false = omega arith

  held_again : (local : ℕ) (locals : List ℕ) → here local ≡ true → list_any (λ other. eqb other local) locals ≡ true → list_any here locals ≡ true
  held_again local [] is has = absurd (false≢true has)
  held_again local (first ∷ locals) is has = by (eqb first local) refl has (held_again local locals is)
    where
      by : (t : Bool) → t ≡ eqb first local → (t || list_any (λ other. eqb other local) locals) ≡ true → (list_any (λ other. eqb other local) locals ≡ true → list_any here locals ≡ true) → list_any here (first ∷ locals) ≡ true
      by true same e later = or_left (here first) (list_any here locals) (ap here (eqb-true first local (sym same)) ∙ is)
      by false same e later = or_right (here first) (list_any here locals) (later e)

  pub some_counted : (locals : List ℕ) → list_any here locals ≡ true → 1 ≤ held_count node container locals
  some_counted [] has = absurd (false≢true has)
  some_counted (local ∷ locals) has = by (here local) refl (list_any (λ other. eqb other local) locals) refl has (some_counted locals)
    where
      by : (h : Bool) → h ≡ here local → (again : Bool) → again ≡ list_any (λ other. eqb other local) locals → (h || list_any here locals) ≡ true → (list_any here locals ≡ true → 1 ≤ held_count node container locals) → 1 ≤ cond (h && not again) 1 0 + held_count node container locals
      by true is true again e later = let rest = later (held_again local locals (sym is) (sym again)) in omega (arith, rest)
      by true is false again e later = omega arith
      by false is again too e later = let rest = later e in omega (arith, rest)

  pub none_counted : (locals : List ℕ) → list_any here locals ≡ false → held_count node container locals ≡ 0
  none_counted [] none = refl
  none_counted (local ∷ locals) none = by (here local) (not (list_any (λ other. eqb other local) locals)) none (none_counted locals)
    where
      by : (h again : Bool) → (h || list_any here locals) ≡ false → (list_any here locals ≡ false → held_count node container locals ≡ 0) → cond (h && again) 1 0 + held_count node container locals ≡ 0
      by true again e later = absurd (false≢true (sym e))
      by false again e later = let rest = later e in omega (arith, rest)

or_false : (l : Bool) → (l || false) ≡ l
or_false true = refl
or_false false = refl

-- whether a transaction is due
pub due_is : (node : Node) (txn : Txn) (count : ℕ) → count ≡ held_count node txn.container txn.locals → (ltb (node.greatest txn.container) txn.number || ltb 0 count) ≡ is_due node txn
due_is node txn count is = ap (λ (b : Bool). ltb (node.greatest txn.container) txn.number || b) (by (names_held node txn) refl)
  where
    by : (h : Bool) → h ≡ names_held node txn → ltb 0 count ≡ h
    by true has = let some = some_counted node txn.container txn.locals (sym has) in lt-ltb 0 count (omega (arith, some, is))
    by false has = let none : count ≡ 0 = is ∙ none_counted node txn.container txn.locals (sym has) in ap (λ (n : ℕ). ltb 0 n) none

either_false : (a b : Bool) → (a || b) ≡ false → b ≡ false
either_false true b none = absurd (false≢true (sym none))
either_false false b none = none

pub none_held : (node : Node) (txn : Txn) → is_due node txn ≡ false → names_held node txn ≡ false
none_held node txn none = either_false (ltb (node.greatest txn.container) txn.number) (names_held node txn) none

pub none_count : (node : Node) (txn : Txn) → is_due node txn ≡ false → 0 ≡ held_count node txn.container txn.locals
none_count node txn none = sym (none_counted node txn.container txn.locals (none_held node txn none))

-- the change that a journal made, whatever the call answers that hands it on
pub handed : {D A B : Type 0} (entry : Entry) (old new : Blocks D) (before after : Seen) (x : A) (y : B) → Changes {D = D} {T = A} entry old new before after (Ok x) → Changes {D = D} {T = B} entry old new before after (Ok y)
handed entry old new before after x y changes = record {
  made = changes.made;
  tells = changes.tells;
  acknowledged = changes.acknowledged;
  moments = changes.moments;
  same = tt;
  untouched = λ is. absurd cc;
  leaves = changes.leaves;
  stands = changes.stands;
  telling = changes.telling;
  time = changes.time;
  stops = changes.stops;
  still = changes.still;
  count = λ count is. absurd cc;
  cause = changes.cause;
  never_falls = changes.never_falls;
}

pub refused : {D A B : Type 0} (entry : Entry) (old new : Blocks D) (before after : Seen) (fault : BlockFault) → Changes {D = D} {T = A} entry old new before after (Err fault) → Changes {D = D} {T = B} entry old new before after (Err fault)
refused {D} {A} {B} entry old new before after (faults.Stopped own) changes = record {
  made = tt;
  tells = λ bodies tells. tt;
  acknowledged = λ bodies tells. tt;
  moments = tt;
  same = changes.same;
  untouched = λ is. absurd cc;
  leaves = changes.leaves;
  stands = changes.stands;
  telling = changes.telling;
  time = changes.time;
  stops = changes.stops;
  still = changes.still;
  count = λ count is. let same : own ≡ count = cc in changes.count count (ap (λ (n : ℕ). Err (faults.Stopped n)) same);
  cause = changes.cause;
  never_falls = changes.never_falls;
}
refused {D} {A} {B} entry old new before after faults.OutOfMemory changes = record {
  made = tt;
  tells = λ bodies tells. tt;
  acknowledged = λ bodies tells. tt;
  moments = tt;
  same = changes.same;
  untouched = λ is. changes.untouched refl;
  leaves = changes.leaves;
  stands = changes.stands;
  telling = changes.telling;
  time = changes.time;
  stops = changes.stops;
  still = changes.still;
  count = λ count is. absurd cc;
  cause = changes.cause;
  never_falls = changes.never_falls;
}

-- ---- what is left

same_bools : (a b : Bool) → (a ≡ true → b ≡ true) → (b ≡ true → a ≡ true) → a ≡ b
same_bools true b there back = sym (there refl)
same_bools false true there back = back refl
same_bools false false there back = refl

one_of_contained : (slots : List ℕ) (slot : ℕ) → Contains slots slot → is_one_of slots slot ≡ true
one_of_contained [] slot has = absurd (omega (arith, has.1))
one_of_contained (first ∷ slots) slot has = elim (Contains-append_cases (first ∷ []) slots slot has) [
  | inl own ↦ elim (Contains-push_cases [] first slot own) [
    | inl none ↦ absurd (omega (arith, none.1))
    | inr same ↦ ap (λ (b : Bool). b || is_one_of slots slot) (eq-eqb first slot same)
  ]
  | inr rest ↦ or_right (eqb first slot) (is_one_of slots slot) (one_of_contained slots slot rest)
]

contained_one_of : (slots : List ℕ) (slot : ℕ) → is_one_of slots slot ≡ true → Contains slots slot
contained_one_of [] slot is = absurd (false≢true is)
contained_one_of (first ∷ slots) slot is = by (eqb first slot) refl is (contained_one_of slots slot)
  where
    by : (t : Bool) → t ≡ eqb first slot → (t || is_one_of slots slot) ≡ true → (is_one_of slots slot ≡ true → Contains slots slot) → Contains (first ∷ slots) slot
    by true same e later = subst (Contains (first ∷ slots)) (eqb-true first slot (sym same)) (Contains-append_left (first ∷ []) slots first (Contains-push [] first))
    by false same e later = Contains-append_right (first ∷ []) slots slot (later e)

pub released : (slots : List ℕ) (is_gone : Block → Bool) (node : Node) → ((slot : ℕ) → Contains slots slot ↔ IsTrue (is_freed is_gone (node.users slot))) → (slot : ℕ) → is_one_of slots slot ≡ is_freed is_gone (node.users slot)
released slots is_gone node freed slot = same_bools (is_one_of slots slot) (is_freed is_gone (node.users slot)) (λ is. (freed slot).0 (contained_one_of slots slot is)) (λ is. one_of_contained slots slot ((freed slot).1 is))

pub freed_in_use : (is_gone : Block → Bool) (node : Node) → ((slot : ℕ) → is_used node slot ≡ true → slot < 16384) → (slot : ℕ) → is_freed is_gone (node.users slot) ≡ true → is_in_use node slot ≡ true
freed_in_use is_gone node small slot is = let used = some (node.users slot) is in in_use node slot used (small slot used)
  where
    some : (user : Option Block) → is_freed is_gone user ≡ true → is_some user ≡ true
    some None is = absurd (false≢true is)
    some (Some block) is = refl

both_false : (a : Bool) → a ≡ false → {b : Bool} → b ≡ false → (a || b) ≡ false
both_false true one other = absurd (false≢true (sym one))
both_false false one other = other

-- none of the blocks of a transaction is held once they are gone
pub none_named : (node : Node) (txn : Txn) → names_held (with_number txn.container txn.number (without (names txn) node)) txn ≡ false
none_named node txn = go txn.locals (λ local has. has)
  where
    gone : (local : ℕ) (b : Bool) → b ≡ true → is_some (cond b None (node.rows (record { container = txn.container; local = local }))) ≡ false
    gone local true is = refl
    gone local false is = absurd (false≢true is)

    go : (locals : List ℕ) → ((local : ℕ) → list_any (λ other. eqb other local) locals ≡ true → list_any (λ other. eqb other local) txn.locals ≡ true) → list_any (λ local. is_held (with_number txn.container txn.number (without (names txn) node)) (record { container = txn.container; local = local })) locals ≡ false
    go [] inside = refl
    go (local ∷ locals) inside =
        let own : list_any (λ other. eqb other local) (local ∷ locals) ≡ true = ap (λ (b : Bool). b || list_any (λ other. eqb other local) locals) (eq-eqb local local refl) in
        let named : names txn (record { container = txn.container; local = local }) ≡ true = ap (λ (b : Bool). b && list_any (λ other. eqb other local) txn.locals) (eq-eqb txn.container txn.container refl) ∙ inside local own in
        both_false (is_some (cond (names txn (record { container = txn.container; local = local })) None (node.rows (record { container = txn.container; local = local })))) (gone local (names txn (record { container = txn.container; local = local })) named)
        (go locals (λ other has. inside other (or_right (eqb local other) (list_any (λ x. eqb x other) locals) has)))
