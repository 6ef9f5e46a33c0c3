use Rattle.std.proofs.Common.{Bool, true, false, ◌≡◌, is_some, refl, sym, ◌∙◌, rules}
use mathlib.Core.Bool.{false≢true}
use Rattle.oz_reclaim.specs.Owners.{HasOwned, is_owned}
use Rattle.oz_reclaim.proofs.Owned.{none_behind, other_behind}
use Rattle.oz_rows.specs.Rows.{kind_of}
use Rattle.oz_reclaim.proofs.owning.stands_from.Goals as goal

pub returns-in-Some : goal.returns-in-Some
returns-in-Some g c =
    let all = g.M.RowMap.rows c.args.rows.now in
    let v = c.args.volume.now in
    let b = c.args.bucket.now in
    let o = c.args.owner in
    let start = c.args.start.now in
    let key = c.in-Some.key.now in
    let next = c.in-Some.ensures in
    let absent : is_some (all start) ≡ false = search rules in
    let by : (t : Bool) → is_owned v b o key ≡ t → HasOwned all (kind_of start) v b o → t ≡ true = (λ t. elim t as (λ t. is_owned v b o key ≡ t → HasOwned all (kind_of start) v b o → t ≡ true) [
      | true ↦ λ e has. refl
      | false ↦ λ e has. absurd (other_behind v b o all start c.requires absent key c.in-Some._row.now next e has)
    ]) in
    ((λ is. (key, next.is_above.same_kind, sym c.is_owned.ensures ∙ is, next.is_above.has_row)), λ has. c.is_owned.ensures ∙ by (is_owned v b o key) refl has)

pub returns-in-None : goal.returns-in-None
returns-in-None g c =
    let all = g.M.RowMap.rows c.args.rows.now in
    let absent : is_some (all c.args.start.now) ≡ false = search rules in
    ((λ is. absurd (false≢true is)), λ has. absurd (none_behind c.args.volume.now c.args.bucket.now c.args.owner all c.args.start.now c.requires absent c.in-None.ensures has))
