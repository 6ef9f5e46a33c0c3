-- The rows of one stripe stand for the volumes of that stripe.
use Rattle.std.proofs.Common.{◌≡◌, ◌↔◌, ◌==◌, ℕ, Bool, true, false, List, [], ◌∷◌, Option, None, Some, is_some, cond, get_or, map, refl, sym, ◌∙◌, ap, subst}
use Rattle.std.specs.Option.{option_and_then}
use Rattle.std.specs.FinMap.{get}
use Rattle.oz_names.specs.Names.{stripe_of}
use Rattle.oz_namespace.specs.declared.namespace.Bucket.{Bucket}
use Rattle.oz_namespace.specs.declared.namespace.Namespace.{Namespace}
use Rattle.oz_namespace.specs.declared.namespace.Session.{Session}
use Rattle.oz_namespace.specs.declared.namespace.Snapshot.{Snapshot}
use Rattle.oz_namespace.specs.Namespace.{ByName, buckets_of, bucket_of, pieces_of, session_of, sixteen, snapshots_in, snapshots_of}
use Rattle.oz_rows.specs.declared.key.RowKey.{RowKey}
use Rattle.oz_rows.specs.declared.key.RowKey.TheVariants as keys
use Rattle.oz_rows.specs.declared.row.Row.TheVariants as rows
use Rattle.oz_rows.specs.RowMaps.{Rows}
use Rattle.oz_sound.specs.StandsFor.{AreSnapshots, SessionStands, SnapshotsStand, StandsFor, drawn_in, pieces_in}
use Rattle.oz_sound.specs.stripes.Stripes.{is_own, only}
use Rattle.oz_store.specs.striped.Shares.{IsOfStripe}

module _ (stripe : ℕ) (all : Rows) (namespace part : Namespace) (it : StandsFor all namespace) (of : IsOfStripe stripe namespace part) where
  kept : (key : RowKey) → is_own stripe key ≡ true → only stripe all key ≡ all key
  kept key e = ap (λ (t : Bool). cond t (all key) None) e

  gone : (key : RowKey) → is_own stripe key ≡ false → only stripe all key ≡ None
  gone key e = ap (λ (t : Bool). cond t (all key) None) e

  its_buckets : (volume : List ℕ) → (stripe_of volume == stripe) ≡ true → buckets_of part volume ≡ buckets_of namespace volume
  its_buckets volume e = of.volumes volume ∙ ap (λ (t : Bool). cond t (buckets_of namespace volume) None) e

  no_buckets : (volume : List ℕ) → (stripe_of volume == stripe) ≡ false → buckets_of part volume ≡ None
  no_buckets volume e = of.volumes volume ∙ ap (λ (t : Bool). cond t (buckets_of namespace volume) None) e

  its_bucket : (volume bucket : List ℕ) → (stripe_of volume == stripe) ≡ true → bucket_of part volume bucket ≡ bucket_of namespace volume bucket
  its_bucket volume bucket e = ap (λ (buckets : Option (ByName Bucket)). option_and_then (λ (named : ByName Bucket). get named bucket) buckets) (its_buckets volume e)

  no_bucket : (volume bucket : List ℕ) → (stripe_of volume == stripe) ≡ false → bucket_of part volume bucket ≡ None
  no_bucket volume bucket e = ap (λ (buckets : Option (ByName Bucket)). option_and_then (λ (named : ByName Bucket). get named bucket) buckets) (no_buckets volume e)

  volumes_stand : (volume : List ℕ) (t : Bool) → (stripe_of volume == stripe) ≡ t → is_some (buckets_of part volume) ≡ is_some (only stripe all (keys.Volume volume))
  volumes_stand volume true e = ap is_some (its_buckets volume e) ∙ it.volumes volume ∙ sym (ap is_some (kept (keys.Volume volume) e))
  volumes_stand volume false e = ap is_some (no_buckets volume e) ∙ sym (ap is_some (gone (keys.Volume volume) e))

  buckets_stand : (volume bucket : List ℕ) (t : Bool) → (stripe_of volume == stripe) ≡ t → is_some (bucket_of part volume bucket) ≡ is_some (only stripe all (keys.Bucket volume bucket))
  buckets_stand volume bucket true e = ap is_some (its_bucket volume bucket e) ∙ it.buckets volume bucket ∙ sym (ap is_some (kept (keys.Bucket volume bucket) e))
  buckets_stand volume bucket false e = ap is_some (no_bucket volume bucket e) ∙ sym (ap is_some (gone (keys.Bucket volume bucket) e))

  pieces_stand : (volume bucket key : List ℕ) (t : Bool) → (stripe_of volume == stripe) ≡ t → pieces_of part volume bucket key ≡ pieces_in (only stripe all (keys.Key volume bucket key))
  pieces_stand volume bucket key true e =
      ap (λ (found : Option Bucket). option_and_then (λ (b : Bucket). get b.keys key) found) (its_bucket volume bucket e) ∙ it.pieces volume bucket key
      ∙ sym (ap pieces_in (kept (keys.Key volume bucket key) e))
  pieces_stand volume bucket key false e =
      ap (λ (found : Option Bucket). option_and_then (λ (b : Bucket). get b.keys key) found) (no_bucket volume bucket e)
      ∙ sym (ap pieces_in (gone (keys.Key volume bucket key) e))

  same_way : {A B : Type 0} (a b : Option A) (c d : Option B) (x : A) (y : B) → a ≡ b → c ≡ d → ((b ≡ Some x) ↔ (d ≡ Some y)) → ((a ≡ Some x) ↔ (c ≡ Some y))
  same_way {A} {B} a b c d x y p q both = (λ e. q ∙ both.0 (sym p ∙ e), λ e. p ∙ both.1 (sym q ∙ e))

  no_way : {A B : Type 0} (a : Option A) (c : Option B) (x : A) (y : B) → a ≡ None → c ≡ None → ((a ≡ Some x) ↔ (c ≡ Some y))
  no_way {A} {B} a c x y p q = (λ e. absurd (cc (sym p ∙ e)), λ e. absurd (cc (sym q ∙ e)))

  sessions_stand : (volume bucket : List ℕ) (number : ℕ) (session : Session) (t : Bool) → (stripe_of volume == stripe) ≡ t → SessionStands (only stripe all) part volume bucket number session
  sessions_stand volume bucket number session true e =
      same_way (session_of part volume bucket number) (session_of namespace volume bucket number) (only stripe all (keys.Open volume bucket session.key number)) (all (keys.Open volume bucket session.key number)) session (rows.Open session.blocks)
      (ap (λ (found : Option Bucket). option_and_then (λ (b : Bucket). get b.sessions number) found) (its_bucket volume bucket e)) (kept (keys.Open volume bucket session.key number) e) (it.sessions volume bucket number session)
  sessions_stand volume bucket number session false e =
      no_way (session_of part volume bucket number) (only stripe all (keys.Open volume bucket session.key number)) session (rows.Open session.blocks)
      (ap (λ (found : Option Bucket). option_and_then (λ (b : Bucket). get b.sessions number) found) (no_bucket volume bucket e)) (gone (keys.Open volume bucket session.key number) e)

  snapshots_same : (volume bucket : List ℕ) → (stripe_of volume == stripe) ≡ true → (numbers : List ℕ) (snapshots : List Snapshot) → AreSnapshots all volume bucket numbers snapshots → AreSnapshots (only stripe all) volume bucket numbers snapshots
  snapshots_same volume bucket e [] [] are = tt
  snapshots_same volume bucket e [] (snapshot ∷ snapshots) are = absurd are
  snapshots_same volume bucket e (number ∷ numbers) [] are = absurd are
  snapshots_same volume bucket e (number ∷ numbers) (snapshot ∷ snapshots) are = (
    record {
      previous = are.0.previous;
      row = kept (keys.Snapshot volume bucket number) e ∙ are.0.row;
      pieces = λ key. are.0.pieces key ∙ sym (ap pieces_in (kept (keys.SnapshotKey volume bucket number key) e));
    },
    snapshots_same volume bucket e numbers snapshots are.1,
  )

  snapshots_stand : (volume bucket : List ℕ) (t : Bool) → (stripe_of volume == stripe) ≡ t → SnapshotsStand (only stripe all) volume bucket (snapshots_of part volume bucket)
  snapshots_stand volume bucket true e =
      let stand = it.snapshots volume bucket in
      subst (SnapshotsStand (only stripe all) volume bucket) (sym (ap snapshots_in (its_bucket volume bucket e))) (record {
        numbers = stand.numbers;
        rise = stand.rise;
        every = λ number live. stand.every number (live.0, live.1, sym (kept (keys.Snapshot volume bucket number) e) ∙ live.2);
        each = snapshots_same volume bucket e stand.numbers (snapshots_of namespace volume bucket) stand.each;
      })
  snapshots_stand volume bucket false e =
      subst (SnapshotsStand (only stripe all) volume bucket) (sym (ap snapshots_in (no_bucket volume bucket e))) (record {
        numbers = [];
        rise = tt;
        every = λ number live. absurd (cc (sym (gone (keys.Snapshot volume bucket number) e) ∙ live.2));
        each = tt;
      })

  drawn : ℕ → ℕ
  drawn number = drawn_in (all (keys.Stripe number))

  one : (number : ℕ) (t : Bool) → cond t (drawn number) 0 ≡ drawn_in (cond t (all (keys.Stripe number)) None)
  unfolding drawn
  one number true = refl
  one number false = refl

  each_one : map (λ (number : ℕ). cond (number == stripe) (drawn number) 0) sixteen ≡ map (λ (number : ℕ). drawn_in (only stripe all (keys.Stripe number))) sixteen
  unfolding drawn
  each_one = λ i. map (λ (number : ℕ). one number (number == stripe) i) sixteen

  of_stripes : (stripes : List ℕ) → stripes ≡ map drawn sixteen → map (λ (number : ℕ). cond (number == stripe) (get_or stripes number 0) 0) sixteen ≡ map (λ (number : ℕ). cond (number == stripe) (drawn number) 0) sixteen
  of_stripes stripes is = ap (λ (l : List ℕ). map (λ (number : ℕ). cond (number == stripe) (get_or l number 0) 0) sixteen) is

  pub stands : StandsFor (only stripe all) part
  unfolding drawn
  stands = record {
    volumes = λ volume. volumes_stand volume _ refl;
    buckets = λ volume bucket. buckets_stand volume bucket _ refl;
    pieces = λ volume bucket key. pieces_stand volume bucket key _ refl;
    sessions = λ volume bucket number session. sessions_stand volume bucket number session _ refl;
    snapshots = λ volume bucket. snapshots_stand volume bucket _ refl;
    stripes = of.stripes ∙ of_stripes namespace.stripes it.stripes ∙ each_one;
  }
