-- What is loaded of the manager and of the storage container manager is one thing.
use Rattle.std.proofs.Common.{◌≡◌, ⊎_elim, ℕ, ◌≤◌, List, Option, None, Some, IfSome, sym, ◌∙◌, ap, subst, arith}
use Rattle.std.proofs.lemmas.Bool.{false≢true}
use Rattle.std.specs.Prelude.{IsSome}
use Rattle.oz_scm.specs.grants.Made.{Made}
use Rattle.oz_loaded.specs.Counted.{IsGreatestId, left_in}
use Rattle.oz_loaded.specs.Loads.{IsLoaded}
use Rattle.oz_loaded.specs.Unseated.{UnseatedView}
use Rattle.oz_nodes_loaded.specs.Loads.{IsScmFrom}
use Rattle.oz_rows.specs.declared.entry.RowEntry.{RowEntry}
use Rattle.oz_rows.specs.RowMaps.{Rows, row_of}
use Rattle.oz_scm.specs.Scm.{State as Scm, StandsFor}
use Rattle.oz_world.specs.Disk.{Seen}

at_most : (all : Rows) (id other : ℕ) → IsGreatestId all id → IsGreatestId all other → id ≤ other
at_most all id other is also = ⊎_elim (λ (none : id ≡ 0). omega (arith, none)) (λ there. also.none_above there.0 there.1 id there.2 there.3) is.reached

one_greatest : (all : Rows) (id other : ℕ) → IsGreatestId all id → IsGreatestId all other → id ≡ other
one_greatest all id other is also =
    let one = at_most all id other is also in
    let two = at_most all other id also is in
    omega (arith, one, two)

pub one_manager : (bodies others : List (List ℕ)) (unseated other : UnseatedView) (this : IsLoaded bodies unseated) (that : IsLoaded others other)
    → this.all ≡ that.all → unseated.last_index ≡ other.last_index → (unseated.last_index ≡ other.last_index) × (unseated.greatest_id ≡ other.greatest_id)
    × (unseated.left ≡ other.left)
one_manager bodies others unseated other this that rows index = (
  index,
  one_greatest (row_of that.all) unseated.greatest_id other.greatest_id
      (subst (λ (all : List RowEntry). IsGreatestId (row_of all) unseated.greatest_id) rows this.greatest_id) that.greatest_id,
  this.left ∙ (ap left_in rows ∙ sym that.left),
)

one_told : (given : ℕ) (told : Option (List ℕ)) (made other : Made)
    → ((bytes : List ℕ) → StandsFor given bytes made → StandsFor given bytes other → made ≡ other) → IsSome told
    → IfSome told (λ bytes. StandsFor given bytes made) → IfSome told (λ bytes. StandsFor given bytes other) → made ≡ other
one_told given None made other one some is also = absurd (false≢true some)
one_told given (Some bytes) made other one some is also = one bytes is also

pub one_scm : {D : Type 0} (see : D → Seen)
    → ((given : ℕ) (bytes : List ℕ) (made other : Made) → StandsFor given bytes made → StandsFor given bytes other → made ≡ other)
    → (given : ℕ) (disk : D) (scm other : Scm D) → IsSome (see disk).told → IsScmFrom see given disk scm → IsScmFrom see given disk other
    → scm.made ≡ other.made
one_scm see one given disk scm other some from also =
    one_told given (see disk).told scm.made other.made (λ bytes. one given bytes scm.made other.made) some from.stands also.stands
