use Rattle.std.proofs.Common.{◌≡◌, ℕ, List, ◌∙◌, ap, sym, subst}
use Rattle.std.specs.Prelude.{Result, Ok, Err, IfOk}
use Rattle.oz_cache.specs.Cache.{CacheView}
use Rattle.oz_loaded.specs.Parts.{AreParts}
use Rattle.oz_loaded.specs.Unseated.{UnseatedView}
use Rattle.oz_rows.specs.declared.entry.RowEntry.{RowEntry}
use Rattle.oz_rows.specs.RowMaps.{row_of}
use Rattle.oz_loaded.specs.standing.Standing.{AreStripesOf}
use Rattle.oz_loaded.proofs.unseated.Unseated.namespace.Goals as goal

if_ok : {A E : Type 0} (r : Result A E) (P Q : A → Type 0) → IfOk r P → ((a : A) → P a → Q a) → IfOk r Q
if_ok (Ok a) P Q is so = so a is
if_ok (Err e) P Q is so = tt

are_stripes : (all : List RowEntry) (last_index : ℕ) (parts : List CacheView) → AreParts all last_index parts → AreStripesOf (row_of all) parts
are_stripes all last_index parts are = record { sixteen = are.sixteen; each = λ stripe part at. (are.each stripe part at).rows }

pub returns : goal.returns
returns c =
    let same : c.deref.result.now ≡ c.args.self.now.parts = c.deref.ensures.value ∙ ap (λ (unseated : UnseatedView). unseated.parts) c.self.view_is in
    if_ok c.namespace_of.result _ _ c.namespace_of.ensures (λ made is all namespace are stands.
    is (row_of all) namespace (subst (AreStripesOf (row_of all)) (sym same) (are_stripes all c.args.self.now.last_index c.args.self.now.parts are)) stands)
