-- Rows at a front, as a Purge names them.
use Rattle.std.proofs.Common.{◌≡◌, ℕ, zero, suc, ◌≤◌, List, [], ◌∷◌, length, map, take, Some, refl, sym, ap, ◌∙◌, subst, arith}
use Rattle.std.proofs.lemmas.List.{length-map}
use Rattle.std.specs.List.{slice_get}
use Rattle.oz_om.specs.Purging.{DeletedRow, key_of}
use Rattle.oz_reclaim.specs.Service.{key_named}
use Rattle.oz_requests.specs.declared.request.PurgeRow.{PurgeRow}
use Rattle.oz_requests.specs.declared.request.Request.TheVariants.{Purge}
use Rattle.oz_service.specs.Purges.{IsFirstOf, IsOfVolume, NamesFront}

long_enough : {A : Type 0} (l : List A) (n : ℕ) → length (take n l) ≡ n → n ≤ length l
long_enough l zero e = omega arith
long_enough [] (suc n) e = absurd (omega (arith, e))
long_enough (x ∷ l) (suc n) e = let rest = long_enough l n (omega (arith, e)) in omega (arith, rest)

module _ (rows : List DeletedRow) (volume : List ℕ) (first : IsFirstOf volume rows) where
  some_named : (found : List DeletedRow) (n : ℕ) → IsFirstOf volume found
      → ((row : DeletedRow) → slice_get found n ≡ Some row → IsOfVolume volume (key_of row) → ⊥) → 1 ≤ n
  some_named [] n is whole = absurd is
  some_named (row ∷ found) zero is whole = absurd (whole row refl is)
  some_named (row ∷ found) (suc n) is whole = omega arith

  pub front_named : (copy : List ℕ) (named items : List PurgeRow) (count : ℕ) → copy ≡ volume → items ≡ named → count ≡ length named
      → map (key_named volume) named ≡ map key_of (take (length named) rows)
      → ((row : DeletedRow) → slice_get rows (length named) ≡ Some row → IsOfVolume volume (key_of row) → ⊥)
      → NamesFront rows (record { request = Purge copy items; count = count })
  front_named copy named items count copied listed counted names whole =
      let as_many : length (take (length named) rows) ≡ length named =
      sym (sym (length-map named (key_named volume)) ∙ ap length names ∙ length-map (take (length named) rows) key_of) in
      let some = some_named rows (length named) first whole in
      let within = long_enough rows (length named) as_many in
      record {
        volume = volume;
        named = named;
        is = λ i. Purge (copied i) (listed i);
        some = omega (arith, counted, some);
        within = omega (arith, counted, within);
        names = names ∙ ap (λ (n : ℕ). map key_of (take n rows)) (sym counted);
        whole = subst (λ (n : ℕ). (row : DeletedRow) → slice_get rows n ≡ Some row → IsOfVolume volume (key_of row) → ⊥) (sym counted) whole;
      }
