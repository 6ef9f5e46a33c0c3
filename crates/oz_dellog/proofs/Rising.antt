-- Entries whose numbers rise, and the finite map that they make.
use Rattle.std.proofs.Common.{◌≡◌, ℕ, ◌<◌, Bool, true, false, cond, T, List, [], ◌∷◌, ◌++◌, Option, None, Some, refl, sym, ap, subst, ◌∙◌}
use Rattle.std.proofs.Math.Bool.{◌&&◌}
use Rattle.std.specs.declared.cmp.Ordering.TheVariants.{Less, Equal, Greater}
use Rattle.std.specs.List.{AllByRecursion}
use Rattle.std.specs.List.Sorted.{IsStrictlySortedBy}
use Rattle.std.specs.Ordering.{nat_cmp, is_eq, is_lt, match_ordering}
use Rattle.std.specs.Cmp.{ranked, nat_cmp_is, nat_cmp_total, eq_by_cmp_equiv}
use Rattle.std.specs.BTreeMap.{insert_entry}
use Rattle.std.specs.Map.{lookup, keys_of, set_value}
use Rattle.std.specs.FinMap.{FinMap, nat_cmp-IsAntisymmetric, entries, get, insert, remove, from_entries, from_sorted, find, is_sorted, same_map, get-from_entries, get-insert, get-remove, get-from_sorted, entries-from_sorted}
use Rattle.std.specs.FinMap.Entries.{below_all}

both : (a b : Bool) → T a → T b → T (a && b)
both true b p q = q
both false b p q = p

pub less : (n k : ℕ) → n < k → nat_cmp n k ≡ Less
less n k h = sym (nat_cmp_is n k Less h)

pub greater : (n k : ℕ) → k < n → nat_cmp n k ≡ Greater
greater n k h = sym (nat_cmp_is n k Greater h)

module _ {X : Type 0} where
  -- each number is below those behind it
  abbrev pub Rises : List (ℕ × X) → Type 0
  Rises [] = Unit {0}
  Rises (e ∷ es) = AllByRecursion (λ x. e.0 < x.0) es × Rises es

  above : (k : ℕ) (es : List (ℕ × X)) → AllByRecursion (λ y. nat_cmp k y ≡ Less) (keys_of es) → AllByRecursion (λ x. k < x.0) es
  above k [] all = tt
  above k (e ∷ es) all = (ranked k e.0 Less (sym all.0), above k es all.1)

  pub rises : (es : List (ℕ × X)) → IsStrictlySortedBy nat_cmp (keys_of es) → Rises es
  unfolding IsStrictlySortedBy
  rises [] sorted = tt
  rises (e ∷ es) sorted = (above e.0 es sorted.0, rises es sorted.1)

  -- an entry above all others goes to the end
  pub put_at_end : (es : List (ℕ × X)) (k : ℕ) (v : X) → AllByRecursion (λ e. e.0 < k) es → insert_entry nat_cmp es k v ≡ es ++ (k, v) ∷ []
  put_at_end [] k v all = refl
  put_at_end (e ∷ es) k v all =
      ap (λ r. match_ordering r ((k, v) ∷ e ∷ es) ((e.0, v) ∷ es) (e ∷ insert_entry nat_cmp es k v)) (greater k e.0 all.0)
      ∙ ap (λ l. e ∷ l) (put_at_end es k v all.1)

  found_later : (e : ℕ × X) (whole es : List (ℕ × X)) → AllByRecursion (λ x. e.0 < x.0) es → AllByRecursion (λ x. lookup (λ k. is_eq (nat_cmp x.0 k)) whole ≡ Some x.1) es → AllByRecursion (λ x. lookup (λ k. is_eq (nat_cmp x.0 k)) (e ∷ whole) ≡ Some x.1) es
  found_later e whole [] above found = tt
  found_later e whole (x ∷ es) above found =
      (ap (λ r. cond (is_eq r) (Some e.1) (lookup (λ k. is_eq (nat_cmp x.0 k)) whole)) (greater x.0 e.0 above.0) ∙ found.0, found_later e whole es above.1 found.1)

  -- each entry is found by its number
  pub found_all : (es : List (ℕ × X)) → Rises es → AllByRecursion (λ x. lookup (λ k. is_eq (nat_cmp x.0 k)) es ≡ Some x.1) es
  found_all [] rise = tt
  found_all (e ∷ es) rise =
      (ap (λ r. cond (is_eq r) (Some e.1) (lookup (λ k. is_eq (nat_cmp e.0 k)) es)) (sym (nat_cmp_is e.0 e.0 Equal refl)), found_later e es es rise.0 (found_all es rise.1))

  -- another value at a number leaves what is said of the numbers
  pub all_set : (P : ℕ → Type 0) (test : ℕ → Bool) (es : List (ℕ × X)) (w : X) → AllByRecursion (λ e. P e.0) es → AllByRecursion (λ e. P e.0) (set_value test es w)
  all_set P test [] w all = tt
  all_set P test (e ∷ es) w all =
      elim (test e.0) as (λ b. AllByRecursion (λ e. P e.0) (cond b ((e.0, w) ∷ es) (e ∷ set_value test es w))) [
        | true ↦ (all.0, all.1)
        | false ↦ (all.0, all_set P test es w all.1)
      ]

  looked_up : (q : ℕ) (es : List (ℕ × X)) → lookup (λ k. is_eq (nat_cmp q k)) es ≡ find nat_cmp q es
  looked_up q [] = refl
  looked_up q (e ∷ es) = ap (cond (is_eq (nat_cmp q e.0)) (Some e.1)) (looked_up q es)

  below : (x : ℕ) (es : List (ℕ × X)) → AllByRecursion (λ y. nat_cmp x y ≡ Less) (keys_of es) → T (below_all nat_cmp x es)
  below x [] all = tt
  below x (e ∷ es) all = both _ _ (subst (λ o. T (is_lt o)) (sym all.0) tt) (below x es all.1)

  in_order : (es : List (ℕ × X)) → IsStrictlySortedBy nat_cmp (keys_of es) → T (is_sorted nat_cmp es)
  unfolding IsStrictlySortedBy
  in_order [] sorted = tt
  in_order (e ∷ es) sorted = both _ _ (below e.0 es sorted.0) (in_order es sorted.1)

  -- what the map that the entries make has at a number
  pub looks : (q : ℕ) (es : List (ℕ × X)) → lookup (λ k. is_eq (nat_cmp q k)) es ≡ get (from_entries {R = nat_cmp} es) q
  looks q es = looked_up q es ∙ sym (get-from_entries nat_cmp_total es q)

  pub has_entries : (es : List (ℕ × X)) → IsStrictlySortedBy nat_cmp (keys_of es) → entries (from_entries {R = nat_cmp} es) ≡ es
  has_entries es sorted =
      let h = in_order es sorted in
      ap entries (same_map nat_cmp_total nat_cmp-IsAntisymmetric (from_entries es) (from_sorted es) (λ q. get-from_entries nat_cmp_total es q ∙ sym (get-from_sorted nat_cmp es q h))) ∙ entries-from_sorted nat_cmp es h

  turned : (k q : ℕ) (x y : Option X) → cond (is_eq (nat_cmp k q)) x y ≡ cond (is_eq (nat_cmp q k)) x y
  turned k q x y = ap (λ b. cond b x y) ((eq_by_cmp_equiv nat_cmp_total).symm k q)

  -- one number has another value, or none any more
  pub is_put : (before after : List (ℕ × X)) (k : ℕ) (v : X) → ((q : ℕ) → lookup (λ x. is_eq (nat_cmp q x)) after ≡ cond (is_eq (nat_cmp k q)) (Some v) (lookup (λ x. is_eq (nat_cmp q x)) before)) → from_entries {R = nat_cmp} after ≡ insert (from_entries before) k v
  is_put before after k v is = same_map nat_cmp_total nat_cmp-IsAntisymmetric _ _ (λ q.
      sym (looks q after) ∙ is q ∙ ap (cond (is_eq (nat_cmp k q)) (Some v)) (looks q before) ∙ turned k q _ _ ∙ sym (get-insert nat_cmp_total (from_entries before) k v q))

  pub is_taken : (before after : List (ℕ × X)) (k : ℕ) → ((q : ℕ) → lookup (λ x. is_eq (nat_cmp q x)) after ≡ cond (is_eq (nat_cmp k q)) None (lookup (λ x. is_eq (nat_cmp q x)) before)) → from_entries {R = nat_cmp} after ≡ remove (from_entries before) k
  is_taken before after k is = same_map nat_cmp_total nat_cmp-IsAntisymmetric _ _ (λ q.
      sym (looks q after) ∙ is q ∙ ap (cond (is_eq (nat_cmp k q)) None) (looks q before) ∙ turned k q _ _ ∙ sym (get-remove nat_cmp_total (from_entries before) k q))

  -- a value that was put is there
  pub put_there : (m : FinMap nat_cmp X) (k : ℕ) (v : X) → get (insert m k v) k ≡ Some v
  put_there m k v = get-insert nat_cmp_total m k v k ∙ ap (λ r. cond (is_eq r) (Some v) (get m k)) (sym (nat_cmp_is k k Equal refl))

  untaken : (q k : ℕ) (v : X) (o : Option X) → (q ≡ k → o ≡ None) → cond (is_eq (nat_cmp q k)) None (cond (is_eq (nat_cmp q k)) (Some v) o) ≡ o
  untaken q k v o free = elim (nat_cmp q k) as (λ r. nat_cmp q k ≡ r → cond (is_eq r) None (cond (is_eq r) (Some v) o) ≡ o) [
    | Less ↦ λ is. refl
    | Equal ↦ λ is. sym (free (ranked q k Equal (sym is)))
    | Greater ↦ λ is. refl
  ] refl

  -- and taken away again leaves the map as it was
  pub unput : (m : FinMap nat_cmp X) (k : ℕ) (v : X) → get m k ≡ None → remove (insert m k v) k ≡ m
  unput m k v free = same_map nat_cmp_total nat_cmp-IsAntisymmetric _ _ (λ q.
      get-remove nat_cmp_total (insert m k v) k q ∙ ap (λ o. cond (is_eq (nat_cmp q k)) None o) (get-insert nat_cmp_total m k v q)
      ∙ untaken q k v (get m q) (λ same. ap (get m) same ∙ free))
