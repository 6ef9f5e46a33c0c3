-- A namespace has one share of each stripe, and agrees with it on the stripe.
use Rattle.std.proofs.Common.{
  ◌≡◌,
  ◌==◌,
  ⊎_elim,
  ℕ,
  ◌+◌,
  ◌<◌,
  ◌≤◌,
  Bool,
  true,
  false,
  List,
  [],
  ◌∷◌,
  length,
  map,
  Option,
  None,
  Some,
  cond,
  get_or,
  sum,
  refl,
  sym,
  ◌∙◌,
  ap,
  subst,
  arith,
}
use Rattle.std.proofs.lemmas.Bool.{cases_lt, eq-eqb, eqb-true}
use Rattle.std.proofs.lemmas.Bool.Decides.{nat_tests}
use Rattle.std.proofs.lemmas.List.{ext_get_or}
use Rattle.std.proofs.lemmas.Nat.{mod_below}
use Rattle.std.proofs.lemmas.Option.{slice_get-get_or, slice_get_past, unwrap_or-slice_get}
use Rattle.std.specs.List.{AllByRecursion}
use Rattle.std.specs.Option.{unwrap_or}
use Rattle.std.specs.Cmp.Lexicographic.{nat_list_cmp_total}
use Rattle.std.specs.FinMap.{get-retain_keys, same_map, slice_cmp-IsAntisymmetric, nat_cmp-IsAntisymmetric}
use Rattle.oz_names.specs.Names.{stripe_of}
use Rattle.oz_namespace.specs.declared.namespace.Namespace.{Namespace}
use Rattle.oz_namespace.specs.Namespace.{buckets_of, sixteen}
use Rattle.oz_model.specs.Stripes.{AgreeOn}
use Rattle.oz_store.specs.striped.Shares.{IsOfStripe, share_of, HasAllStripes}

-- ---- the sixteen numbers

abbrev Counts : ℕ → List ℕ → Type 0
Counts from [] = Unit {0}
Counts from (x ∷ l) = (x ≡ from) × Counts (from + 1) l

another : (i s : ℕ) → (i == s) ≡ false → i ≤ s → i + 1 ≤ s
another i s e low = grind (arith, nat_tests, e, low)

each_from : (P : ℕ → Type 0) (i : ℕ) (l : List ℕ) → Counts i l → AllByRecursion P l → (s : ℕ) → i ≤ s → s < i + length l → P s
each_from P i [] counts all s low high = absurd (omega (arith, low, high))
each_from P i (x ∷ l) counts all s low high = by_test (i == s) refl (each_from P (i + 1) l counts.1 all.1 s)
  where
    by_test : (t : Bool) → (i == s) ≡ t → (i + 1 ≤ s → s < i + 1 + length l → P s) → P s
    by_test true e later = subst P (counts.0 ∙ eqb-true i s e) all.0
    by_test false e later = later (another i s e low) (omega (arith, high))

of_sixteen : (P : ℕ → Type 0) → AllByRecursion P sixteen → (s : ℕ) → s < 16 → P s
of_sixteen P all s few =
    each_from P 0 sixteen
    (refl, (refl, (refl, (refl, (refl, (refl, (refl, (refl, (refl, (refl, (refl, (refl, (refl, (refl, (refl, (refl, tt)))))))))))))))) all s (omega arith)
    (omega (arith, few))

at_each : (f : ℕ → ℕ) (s : ℕ) → s < 16 → get_or (map f sixteen) s 0 ≡ f s
at_each f = of_sixteen (λ s. get_or (map f sixteen) s 0 ≡ f s)
    (refl, (refl, (refl, (refl, (refl, (refl, (refl, (refl, (refl, (refl, (refl, (refl, (refl, (refl, (refl, (refl, tt))))))))))))))))

-- sixteen numbers are known by each of them
pub are_numbers : (numbers : List ℕ) (f : ℕ → ℕ) → length numbers ≡ 16 → ((s : ℕ) → s < 16 → get_or numbers s 0 ≡ f s) → numbers ≡ map f sixteen
are_numbers numbers f many each =
    ext_get_or 0 numbers (map f sixteen) many (λ s lt. each s (omega (arith, lt, many)) ∙ sym (at_each f s (omega (arith, lt, many))))

pub one_of_sixteen : (volume : List ℕ) → stripe_of volume < 16
one_of_sixteen volume = mod_below (sum volume) 16 (omega arith)

-- ---- the share

module _ (stripe : ℕ) (namespace part : Namespace) (of : IsOfStripe stripe namespace part) where
  pub its_buckets : (volume : List ℕ) → (stripe_of volume == stripe) ≡ true → buckets_of part volume ≡ buckets_of namespace volume
  its_buckets volume e = of.volumes volume ∙ ap (λ (t : Bool). cond t (buckets_of namespace volume) None) e

  pub no_buckets : (volume : List ℕ) → (stripe_of volume == stripe) ≡ false → buckets_of part volume ≡ None
  no_buckets volume e = of.volumes volume ∙ ap (λ (t : Bool). cond t (buckets_of namespace volume) None) e

  number_at : (s : ℕ) → s < 16 → get_or part.stripes s 0 ≡ cond (s == stripe) (get_or namespace.stripes s 0) 0
  number_at s few = ap (λ l. get_or l s 0) of.stripes ∙ at_each (λ (number : ℕ). cond (number == stripe) (get_or namespace.stripes number 0) 0) s few

  pub same_drawn : stripe < 16 → get_or part.stripes stripe 0 ≡ get_or namespace.stripes stripe 0
  same_drawn few = number_at stripe few ∙ ap (λ (t : Bool). cond t (get_or namespace.stripes stripe 0) 0) (eq-eqb stripe stripe refl)

  pub none_drawn : (s : ℕ) → s < 16 → (s == stripe) ≡ false → get_or part.stripes s 0 ≡ 0
  none_drawn s few e = number_at s few ∙ ap (λ (t : Bool). cond t (get_or namespace.stripes s 0) 0) e

  pub share_has_all : HasAllStripes part
  share_has_all = ap (λ (l : List ℕ). length l) of.stripes

  pub share_agrees : HasAllStripes namespace → AgreeOn stripe namespace part
  share_agrees all = record {
    volumes = λ volume is. sym (its_buckets volume (eq-eqb (stripe_of volume) stripe is));
    drawn = ⊎_elim
        (λ few. slice_get-get_or namespace.stripes stripe 0 (omega (arith, few, all)) ∙ ap Some (sym (same_drawn few))
        ∙ sym (slice_get-get_or part.stripes stripe 0 (omega (arith, few, share_has_all))))
        (λ past. slice_get_past namespace.stripes stripe (omega (arith, past, all))
        ∙ sym (slice_get_past part.stripes stripe (omega (arith, past, share_has_all))))
        (cases_lt stripe 16);
  }

pub share_is_there : (stripe : ℕ) (namespace : Namespace) → IsOfStripe stripe namespace (share_of stripe namespace)
share_is_there stripe namespace = record {
  volumes = λ volume. get-retain_keys namespace.volumes (λ name. stripe_of name == stripe) volume
      (λ other tied. ap (λ name. stripe_of name == stripe) (sym (slice_cmp-IsAntisymmetric nat_cmp-IsAntisymmetric volume other tied)));
  stripes = refl;
}

pub one_share : (stripe : ℕ) (namespace one other : Namespace) → IsOfStripe stripe namespace one → IsOfStripe stripe namespace other → one ≡ other
one_share stripe namespace one other this that = λ i. record {
  volumes = same_map nat_list_cmp_total (slice_cmp-IsAntisymmetric nat_cmp-IsAntisymmetric) one.volumes other.volumes
      (λ volume. this.volumes volume ∙ sym (that.volumes volume)) i;
  stripes = (this.stripes ∙ sym that.stripes) i;
}

-- namespaces that agree on a stripe have the same share of it
pub agreeing_share : (stripe : ℕ) (one other part : Namespace) → AgreeOn stripe one other → IsOfStripe stripe one part → IsOfStripe stripe other part
agreeing_share stripe one other part agree of = record {
  volumes = λ volume. of.volumes volume ∙ found volume (stripe_of volume == stripe) refl;
  stripes = of.stripes ∙ (λ i. map (λ (number : ℕ). drawn number (number == stripe) refl i) sixteen);
}
  where
    found : (volume : List ℕ) (t : Bool) → (stripe_of volume == stripe) ≡ t → cond t (buckets_of one volume) None ≡ cond t (buckets_of other volume) None
    found volume true e = agree.volumes volume (eqb-true (stripe_of volume) stripe e)
    found volume false e = refl

    drawn : (number : ℕ) (t : Bool) → (number == stripe) ≡ t → cond t (get_or one.stripes number 0) 0 ≡ cond t (get_or other.stripes number 0) 0
    drawn number true e = subst (λ n. get_or one.stripes n 0 ≡ get_or other.stripes n 0) (sym (eqb-true number stripe e))
        (sym (unwrap_or-slice_get one.stripes stripe 0) ∙ ap (λ (o : Option ℕ). unwrap_or o 0) agree.drawn ∙ unwrap_or-slice_get other.stripes stripe 0)
    drawn number false e = refl
