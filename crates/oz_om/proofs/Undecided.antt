-- The rows of a stripe that has decided nothing: those that were loaded of it.
use Rattle.std.proofs.Common.{◌≡◌, ⊎_elim, inl, ℕ, List, [], ◌∷◌, ◌++◌, refl, sym, ap, ◌∙◌, subst}
use Rattle.oz_cache.specs.Cache.{CacheView, batched_changes, newest}
use Rattle.oz_cache.specs.declared.batch.Batch.{Batch}
use Rattle.oz_core.specs.declared.event.Event.{Event}
use Rattle.oz_core.specs.declared.opening.Opening.{Opening}
use Rattle.oz_core.specs.Contents.{OpeningBytes}
use Rattle.oz_core.specs.Manager.{namespace_from, namespace_of}
use Rattle.oz_decision.specs.Meets.{AreInGrammar, Stand}
use Rattle.oz_namespace.specs.declared.namespace.Namespace.{Namespace}
use Rattle.oz_kept.specs.laws.Reached.{in_none}
use Rattle.oz_locks.specs.Purges.{HaveWholeRows}
use Rattle.oz_owned.specs.Stood.{HasStood, HaveStoodFrom, StandAt}
use Rattle.oz_rows.specs.declared.key.RowKey.{RowKey}
use Rattle.oz_rows.specs.RowMaps.{KeysRise, Rows, row_after, row_of}
use Rattle.oz_sound.specs.Sound.{IsSound}
use Rattle.oz_sound.specs.StandsFor.{StandsFor}
use Rattle.oz_store.specs.striped.Shares.{IsOfStripe, share_of}
use Rattle.oz_store.specs.striped.laws.Shares.{share_is_there}
use Rattle.oz_sound.specs.stripes.Stripes.{only}
use Rattle.oz_tables.specs.Tables.{TableView}
use Rattle.oz_om.proofs.Old.{only_of}
use Rattle.oz_om.specs.Keeps.{StayWhole}
use Rattle.oz_om.specs.Opens.{Opens}
use Rattle.oz_om.specs.Seated.{ArePartsOf, IsPartOf, ArePlaced}

abbrev pub SoundLaw : Type 0
SoundLaw = (stripe : ℕ) (all : Rows) → IsSound all → IsSound (only stripe all)

abbrev pub StandLaw : Type 0
StandLaw = (stripe : ℕ) (all : Rows) (namespace part : Namespace) → StandsFor all namespace → IsOfStripe stripe namespace part → StandsFor (only stripe all) part

at_first : (opening : Opening) → opening.namespace ≡ namespace_of opening []
unfolding namespace_from
at_first opening = refl

module _ (Coherent Agrees : Type 0) (opening : Opening) (bytes : OpeningBytes) (loaded : Rows) (last : ℕ)
    (Keeps : ℕ → List Event → List Event → Rows → Type 0) (opens : Opens Coherent opening bytes loaded last Agrees Keeps)
    (sound_law : SoundLaw) (stand_law : StandLaw) where
  fit_only : (stripe : ℕ) → AreInGrammar (only stripe loaded)
  fit_only stripe key row is = opens.fit key row (only_of stripe loaded key row is)

  sound_whole : Coherent → IsSound loaded
  sound_whole coherent =
      let sound = (opens.store coherent).sound in record {
        blocks = sound.blocks;
        names = sound.names;
        renames = opens.renames coherent;
        numbers = sound.numbers;
        counts = sound.counts;
      }

  stand_only : (stripe : ℕ) → Coherent → StandAt opening loaded stripe [] (only stripe loaded)
  stand_only stripe coherent =
      let store = opens.store coherent in
      record {
        stand = subst (λ (namespace : Namespace). Stand IsSound (only stripe loaded) (share_of stripe namespace)) (at_first opening) (record {
          fit = fit_only stripe;
          stands = stand_law stripe loaded opening.namespace (share_of stripe opening.namespace) store.stands (share_is_there stripe opening.namespace);
          sound = sound_law stripe loaded (sound_whole coherent);
        });
        old = λ block key it. inl (key, it);
        homes_old = λ block home. inl home;
        keys_old = λ local names. inl names;
        kept_or_logged = λ block own. ⊎_elim (λ home. inl home) (λ handed. absurd (in_none block handed)) own;
      }

  stood_loaded : (stripe : ℕ) (rows : Rows) → rows ≡ only stripe loaded → Coherent → HasStood opening loaded stripe [] rows
  unfolding HaveStoodFrom
  stood_loaded stripe rows same coherent = (stand_only stripe coherent, same)

  none_left : (before more : List Event) → [] ≡ before ++ more → before ≡ []
  none_left [] more e = refl
  none_left (event ∷ before) more e = absurd cc

  stays_loaded : (stripe : ℕ) (rows : Rows) → rows ≡ only stripe loaded → StayWhole opening loaded stripe [] rows
  unfolding HaveStoodFrom
  stays_loaded stripe rows same before was blocks begins was_stood out whole =
      let first : HasStood opening loaded stripe [] was =
      subst (λ (l : List Event). HasStood opening loaded stripe l was) (none_left before begins.0 begins.1) was_stood in
      subst (λ (r : Rows). HaveWholeRows r blocks) (first.1 ∙ sym same) whole

  pub keeps_part : (stripe : ℕ) (cache : CacheView) (tables : TableView) → IsPartOf loaded last stripe cache → tables ≡ cache.durable → KeysRise tables.rows
      → Keeps stripe [] [] (newest cache)
  keeps_part stripe cache tables part its rise = (opens.keeps stripe [] [] (newest cache)).1 (record {
    own = refl;
    fit = subst AreInGrammar (sym same) (fit_only stripe);
    listed = record { all = cache.durable.rows; are = record { in_order = subst (λ (t : TableView). KeysRise t.rows) its rise; rows_are = λ key. part.rows key } };
    stands = λ coherent. subst (StandAt opening loaded stripe []) (sym same) (stand_only stripe coherent);
    stood = λ coherent. stood_loaded stripe (newest cache) same coherent;
    asked = λ coherent. record { own = λ blocks there. absurd (in_none blocks there); whole = λ blocks there. absurd (in_none blocks there) };
    whole = λ coherent. stays_loaded stripe (newest cache) same;
  })
    where
      newest_is : (key : RowKey) → newest cache key ≡ row_of cache.durable.rows key
      newest_is key = ap (λ (batches : List Batch). row_after (batched_changes batches) key (row_of cache.durable.rows key)) part.entered

      same : newest cache ≡ only stripe loaded
      same i key = (newest_is key ∙ part.rows key) i

-- each part of what was loaded is that of its stripe
pub parts_placed : (loaded : Rows) (last : ℕ) (parts : List CacheView) → ArePartsOf loaded last parts → ArePlaced (IsPartOf loaded last) parts
parts_placed loaded last parts are stripe part at =
    let is = are.are.each stripe part at in
    let same : row_of are.all ≡ loaded = λ i key. are.rows_are key i in
    record {
      rows = λ key. is.rows key ∙ ap (λ (all : Rows). only stripe all key) same;
      last_index_is = is.last_index_is;
      entered = is.entered;
    }
