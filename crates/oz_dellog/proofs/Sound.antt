-- Each change of the log keeps its index in step with its transactions.
use Rattle.std.proofs.Common.{◌≡◌, ℕ, ◌+◌, ◌<◌, ◌≤◌, ◌==◌, Bool, true, false, cond, List, [], ◌∷◌, ◌++◌, filter, filter_map, map as list_map, suc, Option, None, Some, Contains, IsSomeAnd, Any, refl, sym, ap, subst, ◌∙◌, arith}
use Rattle.std.specs.Global.{Vec}
use Rattle.std.specs.declared.cmp.Ordering.TheVariants.{Less, Equal, Greater}
use Rattle.std.specs.Cmp.{ranked}
use Rattle.std.specs.List.{AllByRecursion}
use Rattle.std.specs.Option.{option_map_or, option_and_then}
use Rattle.std.specs.Ordering.{nat_cmp, is_eq}
use Rattle.std.specs.BTreeMap.{BTreeMap, get, insert_entry, is_at, IsOrdered}
use Rattle.std.specs.Map.{lookup, remove_entry, set_value}
use Rattle.std.specs.FinMap as map
use Rattle.std.proofs.lemmas.Bool.{eq-eqb, eqb-true}
use Rattle.std.proofs.lemmas.List.Elements.{All-from_recursion}
use Rattle.std.proofs.lemmas.Map.Steps.{set_value_same}
use Rattle.oz_fields.specs.declared.block.Block.{Block}
use Rattle.oz_dellog.specs.declared.logged.Logged.{Logged}
use Rattle.oz_dellog.specs.Logged.{pending_txn, txn_of, new_logged, with_acknowledgement}
use Rattle.oz_dellog.specs.Log.{Log, pending, is_pending, IsLogged, with_txn, acknowledged, without_txn}
use Rattle.oz_dellog.specs.Index.{IsIndexed, Lists, Unlists, Names, listed, numbers_in, without, pending_at}
use Rattle.oz_dellog.proofs.Rising.{rises, found_all, put_at_end, all_set, looks, has_entries, is_put, is_taken, put_there, unput}
use Rattle.oz_dellog.proofs.Numbers.{numbers_all, numbers_push, below_push, below_next, undone, numbers_set, numbers_remove, below_remove, below_taken, tells_all}

pub is_added : (last number : ℕ) (m n : BTreeMap ℕ Logged) (i j : BTreeMap ℕ (Vec ℕ)) (v : Logged) → IsIndexed last m i → number ≡ last + 1
    → n.entries ≡ insert_entry nat_cmp m.entries number v → IsOrdered nat_cmp n → Lists i j v.container number → IsIndexed number n j
is_added last number m n i j v sound next put ordered lists =
    let ended : insert_entry nat_cmp m.entries number v ≡ m.entries ++ (number, v) ∷ [] =
    put_at_end m.entries number v (subst (λ x. AllByRecursion (λ (e : ℕ × Logged). e.0 < x) m.entries) (sym next) (below_next last m.entries sound.below)) in
    let all : AllByRecursion (λ (e : ℕ × Logged). e.0 ≤ number) (m.entries ++ (number, v) ∷ []) =
    subst (λ x. AllByRecursion (λ (e : ℕ × Logged). e.0 ≤ x) (m.entries ++ (x, v) ∷ [])) (sym next) (below_push last m.entries v sound.below) in
    record {
      ordered = ordered;
      below = subst (λ (es : List (ℕ × Logged)). AllByRecursion (λ e. e.0 ≤ number) es) (sym (put ∙ ended)) all;
      listed_well = λ c. lists c ∙ ap (λ l. cond (c == v.container) (l ++ number ∷ []) l) (sound.listed_well c)
          ∙ sym (ap (λ es. numbers_in es c) (put ∙ ended) ∙ numbers_push m.entries (number, v) c);
    }

pub is_undone : (last number container : ℕ) (m n : BTreeMap ℕ Logged) (i j k : BTreeMap ℕ (Vec ℕ)) → IsIndexed last m i → number ≡ last + 1
    → n.entries ≡ m.entries → IsOrdered nat_cmp n → Lists i j container number → Unlists j k container number → IsIndexed last n k
is_undone last number container m n i j k sound next stay ordered lists unlists =
    let fresh : (c : ℕ) → AllByRecursion (λ x. x < number) (listed i c) = λ c. subst (AllByRecursion (λ x. x < number)) (sym (sound.listed_well c))
    (numbers_all (λ x. x < number) m.entries c (subst (λ x. AllByRecursion (λ (e : ℕ × Logged). e.0 < x) m.entries) (sym next) (below_next last m.entries sound.below))) in
    record {
      ordered = ordered;
      below = subst (λ (es : List (ℕ × Logged)). AllByRecursion (λ e. e.0 ≤ last) es) (sym stay) sound.below;
      listed_well = λ c. unlists c ∙ ap (λ l. cond (c == container) (without number l) l) (lists c) ∙ undone (c == container) number (listed i c) (fresh c)
          ∙ sound.listed_well c ∙ ap (λ es. numbers_in es c) (sym stay);
    }

pub is_changed : (last number : ℕ) (m n : BTreeMap ℕ Logged) (i : BTreeMap ℕ (Vec ℕ)) (v w : Logged) → IsIndexed last m i → get nat_cmp m number ≡ Some v
    → n.entries ≡ set_value (is_at (nat_cmp number)) m.entries w → IsOrdered nat_cmp n → w.container ≡ v.container → IsIndexed last n i
is_changed last number m n i v w sound there set ordered same = record {
  ordered = ordered;
  below = subst (λ (es : List (ℕ × Logged)). AllByRecursion (λ e. e.0 ≤ last) es) (sym set) (all_set (λ x. x ≤ last) (is_at (nat_cmp number)) m.entries w sound.below);
  listed_well = λ c. sound.listed_well c ∙ sym (ap (λ es. numbers_in es c) set ∙ numbers_set (is_at (nat_cmp number)) m.entries v w c there same);
}

pub is_removed : (last number : ℕ) (m n : BTreeMap ℕ Logged) (i j : BTreeMap ℕ (Vec ℕ)) (v : Logged) → IsIndexed last m i → get nat_cmp m number ≡ Some v
    → n.entries ≡ remove_entry (is_at (nat_cmp number)) m.entries → IsOrdered nat_cmp n → Unlists i j v.container number → IsIndexed last n j
is_removed last number m n i j v sound there taken ordered unlists = record {
  ordered = ordered;
  below = subst (λ (es : List (ℕ × Logged)). AllByRecursion (λ e. e.0 ≤ last) es) (sym taken) (below_remove (λ x. x ≤ last) (is_at (nat_cmp number)) m.entries sound.below);
  listed_well = λ c. unlists c ∙ ap (λ l. cond (c == v.container) (without number l) l) (sound.listed_well c)
      ∙ numbers_remove number m.entries v c (rises m.entries sound.ordered) there ∙ ap (λ es. numbers_in es c) (sym taken);
}

found_here : (dn : ℕ) (whole es : List (ℕ × Logged)) → AllByRecursion (λ e. lookup (λ k. is_eq (nat_cmp e.0 k)) whole ≡ Some e.1) es
    → AllByRecursion (λ e. option_and_then (λ (logged : Logged). pending_txn e.0 logged dn) (lookup (λ k. is_eq (nat_cmp e.0 k)) whole) ≡ pending_txn e.0 e.1 dn) es
found_here dn whole [] all = tt
found_here dn whole (e ∷ es) all = (ap (option_and_then (λ (logged : Logged). pending_txn e.0 logged dn)) all.0, found_here dn whole es all.1)

-- what the index finds is what is pending
pub is_told : (last container dn : ℕ) (m : BTreeMap ℕ Logged) (i : BTreeMap ℕ (Vec ℕ)) → IsIndexed last m i
    → filter_map (pending_at m dn) (listed i container) ≡ pending (record { last = last; unretired = map.from_entries m.entries }) container dn
is_told last container dn m i sound =
    ap (filter_map (pending_at m dn)) (sound.listed_well container)
    ∙ tells_all (pending_at m dn) m.entries container dn (found_here dn m.entries m.entries (found_all m.entries (rises m.entries sound.ordered)))
    ∙ ap (λ es. list_map (λ e. txn_of e.0 e.1) (filter (is_pending container dn) es)) (sym (has_entries m.entries sound.ordered))

-- each number that the index has for a container is that of a transaction there
listed_there : (whole es : List (ℕ × Logged)) (container : ℕ) → AllByRecursion (λ e. lookup (λ k. is_eq (nat_cmp e.0 k)) whole ≡ Some e.1) es
    → AllByRecursion (λ n. (v : Logged) × (lookup (λ k. is_eq (nat_cmp n k)) whole ≡ Some v) × (v.container ≡ container)) (numbers_in es container)
listed_there whole [] container all = tt
listed_there whole (e ∷ es) container all =
    let P : ℕ → Type 0 = λ n. (v : Logged) × (lookup (λ k. is_eq (nat_cmp n k)) whole ≡ Some v) × (v.container ≡ container) in
    elim (container == e.1.container) as (λ b. (container == e.1.container) ≡ b → AllByRecursion P (cond b (e.0 ∷ numbers_in es container) (numbers_in es container))) [
      | true ↦ λ same. ((e.1, all.0, sym (eqb-true container e.1.container same)), listed_there whole es container all.1)
      | false ↦ λ other. listed_there whole es container all.1
    ] refl

first_of : (n : ℕ) (ns : List ℕ) → Contains (n ∷ ns) n
first_of n ns = (0, omega arith, refl)

later_of : (n m : ℕ) (ns : List ℕ) → Contains ns n → Contains (m ∷ ns) n
later_of n m ns among = (suc among.0, omega (arith, among.1), among.2)

-- the number of a transaction is among those of its container
listed_here : (n : ℕ) (es : List (ℕ × Logged)) (v : Logged) (c : ℕ) → lookup (λ k. is_eq (nat_cmp n k)) es ≡ Some v → v.container ≡ c → Contains (numbers_in es c) n
listed_here n [] v c there inside = absurd (cc)
listed_here n (e ∷ es) v c there inside =
    let kept : lookup (λ k. is_eq (nat_cmp n k)) es ≡ Some v → Contains (numbers_in (e ∷ es) c) n
    = λ h. elim (c == e.1.container) as (λ b. Contains (cond b (e.0 ∷ numbers_in es c) (numbers_in es c)) n) [
      | true ↦ later_of n e.0 (numbers_in es c) (listed_here n es v c h inside)
      | false ↦ listed_here n es v c h inside
    ] in
    elim (nat_cmp n e.0) as (λ r. nat_cmp n e.0 ≡ r → cond (is_eq r) (Some e.1) (lookup (λ k. is_eq (nat_cmp n k)) es) ≡ Some v → Contains (numbers_in (e ∷ es) c) n) [
      | Less ↦ λ is h. kept h
      | Equal ↦ λ is h.
          let same : c ≡ e.1.container = sym inside ∙ ap (λ o. option_map_or (λ (l : Logged). l.container) o 0) (sym h) in
          subst (λ b. Contains (cond b (e.0 ∷ numbers_in es c) (numbers_in es c)) n) (sym (eq-eqb c e.1.container same))
          (subst (Contains (e.0 ∷ numbers_in es c)) (sym (ranked n e.0 Equal (sym is))) (first_of e.0 (numbers_in es c)))
      | Greater ↦ λ is h. kept h
    ] refl there

abbrev seen : ℕ → BTreeMap ℕ Logged → Log
seen last m = record { last = last; unretired = map.from_entries m.entries }

-- a look-up by the index finds exactly the blocks that are logged
pub is_logged : (log : Log) (last : ℕ) (m : BTreeMap ℕ Logged) (i : BTreeMap ℕ (Vec ℕ)) (block : Block) → IsIndexed last m i → seen last m ≡ log
    → Any (λ number. Names m number block.local) (listed i block.container) → IsLogged log block
is_logged log last m i block sound view any =
    let here : Any (λ number. Names m number block.local) (numbers_in m.entries block.container) = subst (Any (λ number. Names m number block.local)) (sound.listed_well block.container) any in
    let P : ℕ → Type 0 = λ n. (v : Logged) × (lookup (λ k. is_eq (nat_cmp n k)) m.entries ≡ Some v) × (v.container ≡ block.container) in
    let there : P here.1 = subst P here.3 (All-from_recursion P (numbers_in m.entries block.container) (listed_there m.entries m.entries block.container (found_all m.entries (rises m.entries sound.ordered))) here.0 here.1 here.2) in
    subst (λ l. IsLogged l block) view (record {
      number = here.1;
      logged = there.0;
      there = sym (looks here.1 m.entries) ∙ there.1;
      container = there.2;
      local = subst (λ o. IsSomeAnd o (λ (logged : Logged). Contains logged.locals block.local)) there.1 here.4;
    })

pub is_found : (log : Log) (last : ℕ) (m : BTreeMap ℕ Logged) (i : BTreeMap ℕ (Vec ℕ)) (block : Block) → IsIndexed last m i → seen last m ≡ log
    → IsLogged log block → Any (λ number. Names m number block.local) (listed i block.container)
is_found log last m i block sound view named =
    let here : IsLogged (seen last m) block = subst (λ l. IsLogged l block) (sym view) named in
    let there : get nat_cmp m here.number ≡ Some here.logged = looks here.number m.entries ∙ here.there in
    let among : Contains (numbers_in m.entries block.container) here.number = listed_here here.number m.entries here.logged block.container there here.container in
    subst (Any (λ number. Names m number block.local)) (sym (sound.listed_well block.container))
    (among.0, here.number, among.1, among.2, subst (λ o. IsSomeAnd o (λ (logged : Logged). Contains logged.locals block.local)) (sym there) here.local)

-- what the changed entries are seen as
pub logs : (log : Log) (last number container : ℕ) (locals : List ℕ) (m n : BTreeMap ℕ Logged) (v : Logged) → seen last m ≡ log → number ≡ last + 1 → v ≡ new_logged container locals
    → ((q : ℕ) → get nat_cmp n q ≡ cond (is_at (nat_cmp number) q) (Some v) (get nat_cmp m q)) → seen number n ≡ with_txn log container locals
logs log last number container locals m n v view next fresh updates =
    let before : map.FinMap nat_cmp Logged = map.from_entries m.entries in
    let put : map.from_entries {R = nat_cmp} n.entries ≡ map.insert before number v = is_put m.entries n.entries number v updates in
    let whole : seen number n ≡ with_txn (seen last m) container locals = λ i. record {
      last = next i;
      unretired = (put ∙ (λ j. map.insert before (next j) (fresh j))) i;
    } in
    whole ∙ ap (λ l. with_txn l container locals) view

pub acks : (log : Log) (last number dn : ℕ) (m n : BTreeMap ℕ Logged) (v w : Logged) → seen last m ≡ log → Some v ≡ get nat_cmp m number → w ≡ with_acknowledgement v dn
    → ((q : ℕ) → get nat_cmp n q ≡ cond (is_at (nat_cmp number) q) (Some w) (get nat_cmp m q)) → seen last n ≡ acknowledged log number dn
acks log last number dn m n v w view there changed updates =
    let before : map.FinMap nat_cmp Logged = map.from_entries m.entries in
    let found : Some v ≡ map.get before number = there ∙ looks number m.entries in
    let put : map.from_entries {R = nat_cmp} n.entries ≡ map.insert before number w = is_put m.entries n.entries number w updates in
    let after : Option Logged → Log = λ o. option_map_or (λ logged. record { last = last; unretired = map.insert before number (with_acknowledgement logged dn) }) o (seen last m) in
    let whole : seen last n ≡ after (Some v) = λ i. record { last = last; unretired = (put ∙ ap (map.insert before number) changed) i } in
    whole ∙ ap after found ∙ ap (λ l. acknowledged l number dn) view

pub stays : (log : Log) (last number : ℕ) (m n : BTreeMap ℕ Logged) (v w : Logged) → seen last m ≡ log → Some v ≡ get nat_cmp m number → w ≡ v
    → n.entries ≡ set_value (is_at (nat_cmp number)) m.entries w → seen last n ≡ log
stays log last number m n v w view there same set =
    let entries : n.entries ≡ m.entries = set ∙ ap (set_value (is_at (nat_cmp number)) m.entries) same ∙ set_value_same (is_at (nat_cmp number)) m.entries v (sym there) in
    let whole : seen last n ≡ seen last m = λ i. record { last = last; unretired = map.from_entries (entries i) } in
    whole ∙ view

pub retires : (log : Log) (last number : ℕ) (m n : BTreeMap ℕ Logged) → seen last m ≡ log
    → ((q : ℕ) → get nat_cmp n q ≡ cond (is_at (nat_cmp number) q) None (get nat_cmp m q)) → seen last n ≡ without_txn log number
retires log last number m n view updates =
    let whole : seen last n ≡ without_txn (seen last m) number = λ i. record { last = last; unretired = is_taken m.entries n.entries number updates i } in
    whole ∙ ap (λ l. without_txn l number) view

-- what is asked of the transaction with a number
pub asked : (f : Logged → Bool) (log : Log) (last number : ℕ) (m : BTreeMap ℕ Logged) (o : Option Logged) → seen last m ≡ log → o ≡ get nat_cmp m number
    → option_map_or f o false ≡ option_map_or f (map.get log.unretired number) false
asked f log last number m o view there = ap (λ o. option_map_or f o false) (there ∙ looks number m.entries) ∙ ap (λ l. option_map_or f (map.get l.unretired number) false) view

-- the last transaction is taken away again
pub is_shorter : (last before : ℕ) (m n : BTreeMap ℕ Logged) (i j : BTreeMap ℕ (Vec ℕ)) (v : Logged) → IsIndexed last m i → before + 1 ≡ last → get nat_cmp m last ≡ Some v
    → n.entries ≡ remove_entry (is_at (nat_cmp last)) m.entries → IsOrdered nat_cmp n → Unlists i j v.container last → IsIndexed before n j
is_shorter last before m n i j v sound next there taken ordered unlists =
    let it = is_removed last last m n i j v sound there taken ordered unlists in
    record {
      ordered = it.ordered;
      below = subst (λ (es : List (ℕ × Logged)). AllByRecursion (λ e. e.0 ≤ before) es) (sym taken)
          (below_taken last before m.entries next (rises m.entries sound.ordered) sound.below);
      listed_well = it.listed_well;
    }

-- what was logged last is gone, as if it never had been
pub takes_back : (log : Log) (last before container : ℕ) (locals : List ℕ) (m n : BTreeMap ℕ Logged) → seen last m ≡ with_txn log container locals → before + 1 ≡ last
    → map.get log.unretired (log.last + 1) ≡ None → ((q : ℕ) → get nat_cmp n q ≡ cond (is_at (nat_cmp last) q) None (get nat_cmp m q)) → seen before n ≡ log
takes_back log last before container locals m n view next free updates =
    let is_last : last ≡ log.last + 1 = ap (λ (l : Log). l.last) view in
    let was : before ≡ log.last = omega (arith, next, is_last) in
    let added : map.from_entries {R = nat_cmp} m.entries ≡ map.insert log.unretired (log.last + 1) (new_logged container locals) = ap (λ (l : Log). l.unretired) view in
    let gone : map.from_entries {R = nat_cmp} n.entries ≡ map.remove (map.from_entries m.entries) last = is_taken m.entries n.entries last updates in
    let same : map.from_entries {R = nat_cmp} n.entries ≡ log.unretired =
    gone ∙ (λ i. map.remove (added i) (is_last i)) ∙ unput log.unretired (log.last + 1) (new_logged container locals) free in
    λ i. record { last = was i; unretired = same i }

-- a transaction that was logged is there
pub has_last : (log : Log) (last container : ℕ) (locals : List ℕ) (m : BTreeMap ℕ Logged) → seen last m ≡ with_txn log container locals
    → get nat_cmp m last ≡ Some (new_logged container locals)
has_last log last container locals m view =
    looks last m.entries
    ∙ (λ i. map.get (ap (λ (l : Log). l.unretired) view i) (ap (λ (l : Log). l.last) view i))
    ∙ put_there log.unretired (log.last + 1) (new_logged container locals)
