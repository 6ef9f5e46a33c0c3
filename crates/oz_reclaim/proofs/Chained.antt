-- The first rename of a block behind a live snapshot, where the rows of a marked one go to the next owner.
use Rattle.std.proofs.Common.{◌≡◌, ◌≢◌, ◌⊎◌, inl, inr, ⊎_elim, ℕ, ◌<◌, ◌≤◌, List, Option, None, Some, IsSome, is_some, refl, sym, ◌∙◌, ap, subst, arith}
use mathlib.Core.Bool.{false≢true}
use Rattle.std.proofs.lemmas.Bool.{cases_lt}
use Rattle.oz_rows.specs.declared.row.Row.{Row}
use Rattle.oz_rows.specs.declared.row.Row.TheVariants as rows
use Rattle.oz_sound.specs.Sound.{ComesBehind}

-- of the owners behind a number, the first that has a row, and the name that it has
pub record First (row_at : ℕ → Option Row) (n owner : ℕ) (name : List ℕ) : Type 0 where
  pub row : row_at owner ≡ Some (rows.Renamed name)
  pub behind : ComesBehind n owner
  pub first : (other : ℕ) → ComesBehind n other → IsSome (row_at other) → other ≢ owner → (owner ≢ 0) × ComesBehind owner other

pub same_or_not : (a b : ℕ) → (a ≡ b) ⊎ (a ≢ b)
same_or_not a b = ⊎_elim
    (λ lt. inr (λ e. omega (arith, lt, e)))
    (λ le. ⊎_elim (λ lt. inr (λ e. omega (arith, lt, e))) (λ ge. inl (omega (arith, le, ge))) (cases_lt b a))
    (cases_lt a b)

none_some : {P : Type 0} {o : Option Row} → o ≡ None → IsSome o → P
none_some e some = absurd (false≢true (sym (ap is_some e) ∙ some))

module _ (There : ℕ → Type 0) (before now : ℕ → Option Row) (from to : ℕ) (no_zero : from ≢ 0)
    (next : ((to ≡ 0) × ((m : ℕ) → from < m → There m → ⊥)) ⊎ ((from < to) × ((m : ℕ) → from < m → There m → to ≤ m)))
    (none : now from ≡ None) (moved : IsSome (before from) → now to ≡ before from) (kept : before from ≡ None → now to ≡ before to) (others : (o : ℕ) → o ≢ from → o ≢ to → now o ≡ before o)
    (owners : (o : ℕ) → IsSome (before o) → o ≢ 0 → There o) where
  -- the next owner comes behind the snapshot
  to_behind : ComesBehind from to
  to_behind = ⊎_elim (λ last. inl last.0) (λ later. inr later.0) next

  apart : to ≢ from
  apart e = ⊎_elim (λ last. no_zero (sym e ∙ last.0)) (λ later. let lt = later.0 in omega (arith, lt, e)) next

  -- what is behind the snapshot and isn't the next owner comes behind that one
  past : (o : ℕ) → (o ≢ 0 → There o) → ComesBehind from o → o ≢ to → (to ≢ 0) × ComesBehind to o
  past o there (inl zero) differ = ((λ e. differ (zero ∙ sym e)), inl zero)
  past o there (inr above) differ = ⊎_elim
      (λ last. absurd (last.1 o above (there (λ e. omega (arith, above, e)))))
      (λ later.
      let least = later.1 o above (there (λ e. omega (arith, above, e))) in
      let lt = later.0 in
      ((λ e. omega (arith, lt, e)), inr (strictly least)))
      next
    where
      strictly : to ≤ o → to < o
      strictly le = ⊎_elim (λ lt. lt) (λ ge. absurd (differ (omega (arith, le, ge)))) (cases_lt to o)

  some_or : (o : Option Row) → IsSome o ⊎ (o ≡ None)
  some_or None = inr refl
  some_or (Some row) = inl refl

  -- each row behind is still there, under the owner that it has now
  still : (o : ℕ) → IsSome (before o) → o ≢ from → IsSome (now o)
  still o some differ = ⊎_elim
      (λ same. subst (λ x. IsSome (now x)) (sym same) (⊎_elim
      (λ has. subst IsSome (sym (moved has)) has)
      (λ has_none. subst IsSome (sym (kept has_none)) (subst (λ x. IsSome (before x)) same some))
      (some_or (before from))))
      (λ other. subst IsSome (sym (others o differ other)) some)
      (same_or_not o to)

  was : (o : ℕ) → IsSome (now o) → o ≢ to → (o ≢ from) × IsSome (before o)
  was o some differ = ⊎_elim
      (λ same. none_some (ap now same ∙ none) some)
      (λ other. (other, subst IsSome (others o other differ) some))
      (same_or_not o from)

  was_there : (o : ℕ) → IsSome (now o) → o ≢ to → o ≢ 0 → There o
  was_there o some differ nonzero = owners o (was o some differ).1 nonzero

  module _ (n : ℕ) (there : There n) (other_one : n ≢ from) where
    -- the marked snapshot is behind, or the next owner isn't
    below : ComesBehind n to → n < from
    below behind = ⊎_elim (λ lt. lt) (λ le. absurd (above (strictly le) behind)) (cases_lt n from)
      where
        strictly : from ≤ n → from < n
        strictly le = ⊎_elim (λ lt. lt) (λ ge. absurd (other_one (omega (arith, le, ge)))) (cases_lt from n)

        above : from < n → ComesBehind n to → ⊥
        above over (inl zero) = ⊎_elim (λ last. last.1 n over there) (λ later. let lt = later.0 in omega (arith, lt, zero)) next
        above over (inr lt) = ⊎_elim (λ last. let zero = last.0 in omega (arith, lt, zero)) (λ later. let least = later.1 n over there in omega (arith, least, lt)) next

    behind_too : n < from → ComesBehind n to
    behind_too lt = ⊎_elim (λ zero. inl zero) (λ above. inr (omega (arith, lt, above))) to_behind

    pub first_now : (o : ℕ) (name : List ℕ) → First before n o name → (owner : ℕ) × First now n owner name
    first_now o name it = ⊎_elim of_from (λ differ. ⊎_elim (of_to differ) (of_other differ) (same_or_not o to)) (same_or_not o from)
      where
        of_from : o ≡ from → (owner : ℕ) × First now n owner name
        of_from same =
            let has : before from ≡ Some (rows.Renamed name) = ap before (sym same) ∙ it.row in
            let lt : n < from = ⊎_elim (λ zero. absurd (no_zero (sym same ∙ zero))) (λ lt. omega (arith, lt, same)) it.behind in (
              to,
              record {
                row = moved (ap is_some has) ∙ has;
                behind = behind_too lt;
                first = λ other behind some differ.
                    let old = was other some differ in
                    let behind_from : ComesBehind from other = subst (λ x. ComesBehind x other) same (it.first other behind old.1 (λ e. old.0 (e ∙ same))).1 in
                    past other (λ nonzero. owners other old.1 nonzero) behind_from differ;
              },
            )

        of_to : o ≢ from → o ≡ to → (owner : ℕ) × First now n owner name
        of_to differ same = (
          to,
          record {
            row = kept has_none ∙ ap before (sym same) ∙ it.row;
            behind = subst (ComesBehind n) same it.behind;
            first = λ other behind some apart_too.
                let old = was other some apart_too in
                subst (λ x. (x ≢ 0) × ComesBehind x other) same (it.first other behind old.1 (λ e. apart_too (e ∙ same)));
          },
        )
          where
            clash : IsSome (before from) → ⊥
            clash has =
                let lt = below (subst (ComesBehind n) same it.behind) in
                let it_first = it.first from (inr lt) has (λ e. differ (sym e)) in
                ⊎_elim
                (λ zero. no_zero zero)
                (λ above. ⊎_elim (λ last. it_first.0 (same ∙ last.0)) (λ later. let over = later.0 in omega (arith, above, over, same)) next)
                it_first.1

            has_none : before from ≡ None
            has_none = ⊎_elim (λ has. absurd (clash has)) (λ e. e) (some_or (before from))

        of_other : o ≢ from → o ≢ to → (owner : ℕ) × First now n owner name
        of_other differ differ_too = (
          o,
          record {
            row = others o differ differ_too ∙ it.row;
            behind = it.behind;
            first = λ other behind some apart_too. ⊎_elim
                (λ same. subst (λ x. (o ≢ 0) × ComesBehind o x) (sym same) (before_to (subst (ComesBehind n) same behind) (subst (λ x. IsSome (now x)) same some) (λ e. apart_too (same ∙ e))))
                (λ else. it.first other behind (was other some else).1 apart_too)
                (same_or_not other to);
          },
        )
          where
            before_to : ComesBehind n to → IsSome (now to) → to ≢ o → (o ≢ 0) × ComesBehind o to
            before_to behind some apart_too = ⊎_elim
                (λ has.
                let it_first = it.first from (inr (below behind)) has (λ e. differ (sym e)) in (
                  it_first.0,
                  ⊎_elim
                      (λ zero. absurd (no_zero zero))
                      (λ lt. ⊎_elim (λ zero. inl zero) (λ above. inr (omega (arith, lt, above))) to_behind)
                      it_first.1,
                ))
                (λ has_none. it.first to behind (subst IsSome (kept has_none) some) apart_too)
                (some_or (before from))

    pub first_before : (o : ℕ) (name : List ℕ) → First now n o name → (owner : ℕ) × First before n owner name
    first_before o name it = ⊎_elim of_to of_other (same_or_not o to)
      where
        of_to : o ≡ to → (owner : ℕ) × First before n owner name
        of_to same = ⊎_elim has_its has_none (some_or (before from))
          where
            behind_to : ComesBehind n to
            behind_to = subst (ComesBehind n) same it.behind

            behind_from : (other : ℕ) → ComesBehind n other → IsSome (before other) → other ≢ from → ComesBehind from other
            behind_from other behind some apart_too = ⊎_elim
                (λ is_to. subst (ComesBehind from) (sym is_to) to_behind)
                (λ else. beyond other (it.first other behind (still other some apart_too) (λ e. else (e ∙ same))))
                (same_or_not other to)
              where
                beyond : (other : ℕ) → (o ≢ 0) × ComesBehind o other → ComesBehind from other
                beyond other (nonzero, inl zero) = inl zero
                beyond other (nonzero, inr above) = ⊎_elim (λ zero. absurd (nonzero (same ∙ zero))) (λ lt. inr (omega (arith, lt, above, same))) to_behind

            has_its : IsSome (before from) → (owner : ℕ) × First before n owner name
            has_its has = (
              from,
              record {
                row = sym (moved has) ∙ ap now (sym same) ∙ it.row;
                behind = inr (below behind_to);
                first = λ other behind some apart_too. (no_zero, behind_from other behind some apart_too);
              },
            )

            has_none : before from ≡ None → (owner : ℕ) × First before n owner name
            has_none empty = (
              to,
              record {
                row = sym (kept empty) ∙ ap now (sym same) ∙ it.row;
                behind = behind_to;
                first = λ other behind some apart_too.
                    subst (λ x. (x ≢ 0) × ComesBehind x other) same (it.first other behind (still other some (λ e. none_some (ap before e ∙ empty) some)) (λ e. apart_too (e ∙ same)));
              },
            )

        of_other : o ≢ to → (owner : ℕ) × First before n owner name
        of_other differ = (
          o,
          record {
            row = sym (others o not_from differ) ∙ it.row;
            behind = it.behind;
            first = λ other behind some apart_too. ⊎_elim
                (λ is_from. subst (λ x. (o ≢ 0) × ComesBehind o x) (sym is_from) (before_from (subst (ComesBehind n) is_from behind) (subst (λ x. IsSome (before x)) is_from some)))
                (λ else. it.first other behind (still other some else) apart_too)
                (same_or_not other from);
          },
        )
          where
            not_from : o ≢ from
            not_from e = none_some (ap now e ∙ none) (ap is_some it.row)

            before_from : ComesBehind n from → IsSome (before from) → (o ≢ 0) × ComesBehind o from
            before_from behind has =
                let lt : n < from = ⊎_elim (λ zero. absurd (no_zero zero)) (λ lt. lt) behind in
                let some_to : IsSome (now to) = subst IsSome (sym (moved has)) has in
                let it_first = it.first to (behind_too lt) some_to (λ e. differ (sym e)) in
                (it_first.0, inr (⊎_elim (λ under. under) (λ over. absurd (beyond (strictly over) it_first)) (cases_lt o from)))
              where
                strictly : from ≤ o → from < o
                strictly le = ⊎_elim (λ lt. lt) (λ ge. absurd (not_from (omega (arith, le, ge)))) (cases_lt from o)

                beyond : from < o → (o ≢ 0) × ComesBehind o to → ⊥
                beyond over (nonzero, behind_o) =
                    let its_past = past o (λ nonzero. was_there o (ap is_some it.row) differ nonzero) (inr over) differ in
                    ⊎_elim
                    (λ zero. its_past.0 zero)
                    (λ lt. ⊎_elim (λ zero. nonzero zero) (λ above. omega (arith, lt, above)) its_past.1)
                    behind_o
