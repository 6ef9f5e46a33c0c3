-- The numbers of a container's transactions, through each change of the log.
use Rattle.std.proofs.Common.{◌≡◌, ℕ, ◌+◌, ◌<◌, ◌≤◌, ◌==◌, Bool, true, false, cond, not, List, [], ◌∷◌, ◌++◌, filter, filter_map, map, Option, None, Some, refl, sym, ap, subst, ◌∙◌, arith}
use Rattle.std.proofs.Math.Bool.{◌&&◌}
use Rattle.std.specs.declared.cmp.Ordering.TheVariants.{Less, Equal, Greater}
use Rattle.std.specs.List.{AllByRecursion, cons_option}
use Rattle.std.specs.Option.{option_map_or}
use Rattle.std.specs.Ordering.{nat_cmp, is_eq}
use Rattle.std.specs.Cmp.{ranked}
use Rattle.std.specs.Map.{lookup, remove_entry, set_value}
use Rattle.std.proofs.lemmas.Bool.{eq-eqb, eqb-true}
use Rattle.std.proofs.lemmas.List.{append-nil}
use Rattle.std.proofs.lemmas.List.Elements.{filter-append}
use Rattle.oz_dellog.specs.declared.txn.Txn.{Txn}
use Rattle.oz_dellog.specs.declared.logged.Logged.{Logged}
use Rattle.oz_dellog.specs.Logged.{is_acknowledged_by, pending_txn, txn_of}
use Rattle.oz_dellog.specs.Log.{is_pending}
use Rattle.oz_dellog.specs.Index.{numbers_in, without}
use Rattle.oz_dellog.proofs.Rising.{Rises}

-- what holds of all numbers holds of a container's
pub numbers_all : (P : ℕ → Type 0) (es : List (ℕ × Logged)) (c : ℕ) → AllByRecursion (λ e. P e.0) es → AllByRecursion P (numbers_in es c)
numbers_all P [] c all = tt
numbers_all P (e ∷ es) c all =
    elim (c == e.1.container) as (λ b. AllByRecursion P (cond b (e.0 ∷ numbers_in es c) (numbers_in es c))) [
      | true ↦ (all.0, numbers_all P es c all.1)
      | false ↦ numbers_all P es c all.1
    ]

all_map : (P Q : ℕ → Type 0) (ns : List ℕ) → ((n : ℕ) → P n → Q n) → AllByRecursion P ns → AllByRecursion Q ns
all_map P Q [] f all = tt
all_map P Q (n ∷ ns) f all = (f n all.0, all_map P Q ns f all.1)

apart : (m n : ℕ) → (m ≡ n → ⊥) → not (m == n) ≡ true
apart m n differ = elim (m == n) as (λ b. (m == n) ≡ b → not b ≡ true) [ true ↦ λ h. absurd (differ (eqb-true m n h)) | false ↦ λ h. refl ] refl

pub without_none : (n : ℕ) (ns : List ℕ) → AllByRecursion (λ m. not (m == n) ≡ true) ns → without n ns ≡ ns
without_none n [] all = refl
without_none n (m ∷ ns) all = ap (λ b. cond b (m ∷ without n ns) (without n ns)) all.0 ∙ ap (λ l. m ∷ l) (without_none n ns all.1)

step : (b d : Bool) (n m : ℕ) (ns : List ℕ) → cond b (n ∷ cond d (ns ++ m ∷ []) ns) (cond d (ns ++ m ∷ []) ns) ≡ cond d (cond b (n ∷ ns) ns ++ m ∷ []) (cond b (n ∷ ns) ns)
step true true n m ns = refl
step true false n m ns = refl
step false true n m ns = refl
step false false n m ns = refl

-- an entry behind all others is the last of its container's
pub numbers_push : (es : List (ℕ × Logged)) (e : ℕ × Logged) (c : ℕ) → numbers_in (es ++ e ∷ []) c ≡ cond (c == e.1.container) (numbers_in es c ++ e.0 ∷ []) (numbers_in es c)
numbers_push [] e c = refl
numbers_push (x ∷ es) e c =
    ap (λ l. cond (c == x.1.container) (x.0 ∷ l) l) (numbers_push es e c) ∙ step (c == x.1.container) (c == e.1.container) x.0 e.0 (numbers_in es c)

pub below_push : (last : ℕ) (es : List (ℕ × Logged)) (v : Logged) → AllByRecursion (λ e. e.0 ≤ last) es → AllByRecursion (λ e. e.0 ≤ last + 1) (es ++ (last + 1, v) ∷ [])
below_push last [] v all = (omega arith, tt)
below_push last (e ∷ es) v all = (omega (arith, all.0), below_push last es v all.1)

pub below_next : (last : ℕ) (es : List (ℕ × Logged)) → AllByRecursion (λ e. e.0 ≤ last) es → AllByRecursion (λ e. e.0 < last + 1) es
below_next last [] all = tt
below_next last (e ∷ es) all = (omega (arith, all.0), below_next last es all.1)

-- a number that was listed and taken away again
pub undone : (b : Bool) (n : ℕ) (ns : List ℕ) → AllByRecursion (λ m. m < n) ns → cond b (without n (cond b (ns ++ n ∷ []) ns)) (cond b (ns ++ n ∷ []) ns) ≡ ns
undone false n ns all = refl
undone true n ns all =
    filter-append (λ m. not (m == n)) ns (n ∷ [])
    ∙ ap (λ l. l ++ cond (not (n == n)) (n ∷ []) []) (without_none n ns (all_map (λ m. m < n) (λ m. not (m == n) ≡ true) ns (λ m lt. apart m n (λ e. omega arith)) all))
    ∙ ap (λ b. ns ++ cond (not b) (n ∷ []) []) (eq-eqb n n refl) ∙ append-nil ns

-- another value in the same container
pub numbers_set : (test : ℕ → Bool) (es : List (ℕ × Logged)) (v w : Logged) (c : ℕ) → lookup test es ≡ Some v → w.container ≡ v.container → numbers_in (set_value test es w) c ≡ numbers_in es c
numbers_set test [] v w c there same = refl
numbers_set test (e ∷ es) v w c there same =
    elim (test e.0) as (λ b. cond b (Some e.1) (lookup test es) ≡ Some v → numbers_in (cond b ((e.0, w) ∷ es) (e ∷ set_value test es w)) c ≡ numbers_in (e ∷ es) c) [
      | true ↦ λ h. ap (λ x. cond (c == x) (e.0 ∷ numbers_in es c) (numbers_in es c)) (same ∙ ap (λ o. option_map_or (λ (l : Logged). l.container) o 0) (sym h))
      | false ↦ λ h. ap (λ l. cond (c == e.1.container) (e.0 ∷ l) l) (numbers_set test es v w c h same)
    ] there

skips : (b d : Bool) (n k : ℕ) (ns : List ℕ) → not (k == n) ≡ true → cond d (without n (cond b (k ∷ ns) ns)) (cond b (k ∷ ns) ns) ≡ cond b (k ∷ cond d (without n ns) ns) (cond d (without n ns) ns)
skips true true n k ns h = ap (λ p. cond p (k ∷ without n ns) (without n ns)) h
skips true false n k ns h = refl
skips false true n k ns h = refl
skips false false n k ns h = refl

takes : (b : Bool) (n k : ℕ) (ns : List ℕ) → n ≡ k → AllByRecursion (λ m. k < m) ns → cond b (without n (cond b (k ∷ ns) ns)) (cond b (k ∷ ns) ns) ≡ ns
takes false n k ns same all = refl
takes true n k ns same all =
    ap (λ p. cond (not p) (k ∷ without n ns) (without n ns)) (eq-eqb k n (sym same))
    ∙ without_none n ns (all_map (λ m. k < m) (λ m. not (m == n) ≡ true) ns (λ m lt. apart m n (λ e. omega arith)) all)

-- a number that was found, taken away
pub numbers_remove : (n : ℕ) (es : List (ℕ × Logged)) (v : Logged) (c : ℕ) → Rises es → lookup (λ k. is_eq (nat_cmp n k)) es ≡ Some v
    → cond (c == v.container) (without n (numbers_in es c)) (numbers_in es c) ≡ numbers_in (remove_entry (λ k. is_eq (nat_cmp n k)) es) c
numbers_remove n [] v c rise there = absurd (cc)
numbers_remove n (e ∷ es) v c rise there =
    let on : (e.0 ≡ n → ⊥) → lookup (λ k. is_eq (nat_cmp n k)) es ≡ Some v → cond (c == v.container) (without n (numbers_in (e ∷ es) c)) (numbers_in (e ∷ es) c) ≡ numbers_in (e ∷ remove_entry (λ k. is_eq (nat_cmp n k)) es) c
    = λ differ h. skips (c == e.1.container) (c == v.container) n e.0 (numbers_in es c) (apart e.0 n differ) ∙ ap (λ l. cond (c == e.1.container) (e.0 ∷ l) l) (numbers_remove n es v c rise.1 h) in
    elim (nat_cmp n e.0) as (λ r. nat_cmp n e.0 ≡ r → cond (is_eq r) (Some e.1) (lookup (λ k. is_eq (nat_cmp n k)) es) ≡ Some v → cond (c == v.container) (without n (numbers_in (e ∷ es) c)) (numbers_in (e ∷ es) c) ≡ numbers_in (cond (is_eq r) es (e ∷ remove_entry (λ k. is_eq (nat_cmp n k)) es)) c) [
      | Less ↦ λ is h. let lt : n < e.0 = ranked n e.0 Less (sym is) in on (λ same. omega arith) h
      | Equal ↦ λ is h. ap (λ x. cond (c == x) (without n (numbers_in (e ∷ es) c)) (numbers_in (e ∷ es) c)) (ap (λ o. option_map_or (λ (l : Logged). l.container) o 0) (sym h))
          ∙ takes (c == e.1.container) n e.0 (numbers_in es c) (ranked n e.0 Equal (sym is)) (numbers_all (λ m. e.0 < m) es c rise.0)
      | Greater ↦ λ is h. let lt : e.0 < n = ranked n e.0 Greater (sym is) in on (λ same. omega arith) h
    ] refl there

pub below_remove : (P : ℕ → Type 0) (test : ℕ → Bool) (es : List (ℕ × Logged)) → AllByRecursion (λ e. P e.0) es → AllByRecursion (λ e. P e.0) (remove_entry test es)
below_remove P test [] all = tt
below_remove P test (e ∷ es) all =
    elim (test e.0) as (λ b. AllByRecursion (λ e. P e.0) (cond b es (e ∷ remove_entry test es))) [ true ↦ all.1 | false ↦ (all.0, below_remove P test es all.1) ]

none_above : (last before : ℕ) (es : List (ℕ × Logged)) → AllByRecursion (λ x. last < x.0) es → AllByRecursion (λ x. x.0 ≤ last) es
    → AllByRecursion (λ x. x.0 ≤ before) es
none_above last before [] above all = tt
none_above last before (e ∷ es) above all = absurd (omega (arith, above.0, all.0))

-- where the last number is taken away all others are below it
pub below_taken : (last before : ℕ) (es : List (ℕ × Logged)) → before + 1 ≡ last → Rises es → AllByRecursion (λ e. e.0 ≤ last) es
    → AllByRecursion (λ e. e.0 ≤ before) (remove_entry (λ k. is_eq (nat_cmp last k)) es)
below_taken last before [] next rise all = tt
below_taken last before (e ∷ es) next rise all =
    elim (nat_cmp last e.0) as (λ r. nat_cmp last e.0 ≡ r
    → AllByRecursion (λ e. e.0 ≤ before) (cond (is_eq r) es (e ∷ remove_entry (λ k. is_eq (nat_cmp last k)) es))) [
      | Less ↦ λ is. let over : last < e.0 = ranked last e.0 Less (sym is) in absurd (omega (arith, over, all.0))
      | Equal ↦ λ is. none_above last before es (subst (λ n. AllByRecursion (λ x. n < x.0) es) (sym (ranked last e.0 Equal (sym is))) rise.0) all.1
      | Greater ↦ λ is. let under : e.0 < last = ranked last e.0 Greater (sym is) in (omega (arith, under, next), below_taken last before es next rise.1 all.1)
    ] refl

tells : (b a : Bool) (h : ℕ → Option Txn) (e : ℕ × Logged) (ns : List ℕ) (rest : List (ℕ × Logged)) → h e.0 ≡ cond a None (Some (txn_of e.0 e.1)) → filter_map h ns ≡ map (λ x. txn_of x.0 x.1) rest
    → filter_map h (cond b (e.0 ∷ ns) ns) ≡ map (λ x. txn_of x.0 x.1) (cond (b && not a) (e ∷ rest) rest)
tells true true h e ns rest here others = ap (λ o. cons_option o (filter_map h ns)) here ∙ others
tells true false h e ns rest here others = ap (λ o. cons_option o (filter_map h ns)) here ∙ ap (λ l. txn_of e.0 e.1 ∷ l) others
tells false a h e ns rest here others = others

-- what the index finds for a datanode is what the entries have for it
pub tells_all : (h : ℕ → Option Txn) (es : List (ℕ × Logged)) (c dn : ℕ) → AllByRecursion (λ e. h e.0 ≡ pending_txn e.0 e.1 dn) es → filter_map h (numbers_in es c) ≡ map (λ e. txn_of e.0 e.1) (filter (is_pending c dn) es)
tells_all h [] c dn all = refl
tells_all h (e ∷ es) c dn all =
    tells (c == e.1.container) (is_acknowledged_by e.1 dn) h e (numbers_in es c) (filter (is_pending c dn) es) all.0 (tells_all h es c dn all.1)
