use Rattle.std.proofs.Common.{List, ℕ, inl, inr, refl, sym, ◌∙◌, ap, subst}
use mathlib.Core.Bool.{false≢true}
use Rattle.oz_reclaim.specs.Owners.{HasOwned, IsFirstOwned}
use Rattle.oz_reclaim.proofs.Owned.{first_deleted, first_renamed, owns_deleted, owns_renamed, owned_by}
use Rattle.oz_rows.specs.declared.key.RowKey.TheVariants as keys
use Rattle.oz_rows.specs.Rows.{kind_of}
use Rattle.oz_reclaim.proofs.owning.owns_row.Goals as goal

pub stands_from-requires : goal.stands_from-requires
stands_from-requires g c =
    let v = c.args.volume.now in
    let b = c.args.bucket.now in
    let o = c.args.owner in
    subst (IsFirstOwned v b o) (sym (c.in_ok-first_deleted.ensures ∙ ap (λ (k : List ℕ). keys.Deleted v b o k 0) c.in_ok-none.ensures)) (first_deleted v b o)

pub stands_from-requires-2 : goal.stands_from-requires-2
stands_from-requires-2 g c =
    let v = c.args.volume.now in
    let b = c.args.bucket.now in
    let o = c.args.owner in
    subst (IsFirstOwned v b o) (sym c.in_ok-first_renamed.ensures) (first_renamed v b o)

pub returns-then-stands_from : goal.returns-then-stands_from
returns-then-stands_from g c =
    let all = g.M.RowMap.rows c.args.rows.now in
    let v = c.args.volume.now in
    let b = c.args.bucket.now in
    let o = c.args.owner in
    let has : HasOwned all 5 v b o = subst (λ kind. HasOwned all kind v b o) (ap kind_of c.in_ok-first_deleted.ensures) (c.stands_from.ensures.0 c.if-stands_from.true) in
    ((λ is. owns_deleted v b o all has), λ owns. refl)

pub returns : goal.returns
returns g c =
    let all = g.M.RowMap.rows c.args.rows.now in
    let v = c.args.volume.now in
    let b = c.args.bucket.now in
    let o = c.args.owner in
    let deleted = c.stands_from.ensures in
    let renamed = c.stands_from-2.ensures in
    let not = c.if-stands_from.false in (
      (λ is. owns_renamed v b o all (subst (λ kind. HasOwned all kind v b o) (ap kind_of c.in_ok-first_renamed.ensures) (renamed.0 is))),
      λ owns. elim (owned_by v b o all owns) [
        | inl has ↦ absurd (false≢true (sym not ∙ deleted.1 (subst (λ kind. HasOwned all kind v b o) (sym (ap kind_of c.in_ok-first_deleted.ensures)) has)))
        | inr has ↦ renamed.1 (subst (λ kind. HasOwned all kind v b o) (sym (ap kind_of c.in_ok-first_renamed.ensures)) has)
      ],
    )
