-- Rows stand for a namespace where those of each stripe stand for its share.
use Rattle.std.proofs.Common.{◌≡◌, ◌↔◌, ℕ, zero, suc, ◌+◌, ◌<◌, List, [], ◌∷◌, length, Option, Some, is_some, get_or, map, refl, sym, ◌∙◌, ap, subst, arith}
use Rattle.std.proofs.lemmas.Bool.{eq-eqb}
use Rattle.std.specs.Option.{option_and_then}
use Rattle.std.specs.FinMap.{get}
use Rattle.oz_names.specs.Names.{stripe_of}
use Rattle.oz_names.specs.declared.limits.TheConstants.{STRIPES}
use Rattle.oz_namespace.specs.declared.namespace.Bucket.{Bucket}
use Rattle.oz_namespace.specs.declared.namespace.Namespace.{Namespace}
use Rattle.oz_namespace.specs.declared.namespace.Session.{Session}
use Rattle.oz_namespace.specs.declared.namespace.Snapshot.{Snapshot}
use Rattle.oz_namespace.specs.Namespace.{ByName, bucket_of, buckets_of, session_of, sixteen, snapshots_in, snapshots_of}
use Rattle.oz_rows.specs.declared.key.RowKey.{RowKey}
use Rattle.oz_rows.specs.declared.key.RowKey.TheVariants as keys
use Rattle.oz_rows.specs.declared.row.Row.{Row}
use Rattle.oz_rows.specs.declared.row.Row.TheVariants as rows
use Rattle.oz_rows.specs.RowMaps.{Rows}
use Rattle.oz_sound.specs.StandsFor.{AreSnapshots, IsLive, SessionStands, SnapshotsStand, StandsFor, drawn_in, pieces_in}
use Rattle.oz_sound.specs.stripes.Stripes.{only, stripe_of_key}
use Rattle.oz_store.specs.striped.Shares.{HasAllStripes, share_of}
use Rattle.oz_store.specs.striped.laws.Shares.{are_numbers, its_buckets, one_of_sixteen, same_drawn, share_is_there}
use Rattle.oz_headline.specs.restored.laws.Sound.{own_row}

-- what a map of the sixteen has at each of them
abbrev Counts : ℕ → List ℕ → Type 0
Counts from [] = Unit {0}
Counts from (x ∷ l) = (x ≡ from) × Counts (from + 1) l

at_place : (f : ℕ → ℕ) (from : ℕ) (l : List ℕ) → Counts from l → (place : ℕ) → place < length l → get_or (map f l) place 0 ≡ f (from + place)
at_place f from [] counts place lt = absurd (omega (arith, lt))
at_place f from (x ∷ l) counts zero lt = ap f (let same : x ≡ from + 0 = omega (arith, counts.0) in same)
at_place f from (x ∷ l) counts (suc place) lt =
    at_place f (from + 1) l counts.1 place (omega (arith, lt)) ∙ ap f (let same : from + 1 + place ≡ from + suc place = omega arith in same)

at_each : (f : ℕ → ℕ) (stripe : ℕ) → stripe < 16 → get_or (map f sixteen) stripe 0 ≡ f stripe
at_each f stripe few =
    at_place f 0 sixteen
    (refl, (refl, (refl, (refl, (refl, (refl, (refl, (refl, (refl, (refl, (refl, (refl, (refl, (refl, (refl, (refl, tt)))))))))))))))) stripe few
    ∙ ap f (let same : 0 + stripe ≡ stripe = omega arith in same)

module _ (all : Rows) (namespace : Namespace) (many : HasAllStripes namespace)
    (parts : (stripe : ℕ) → stripe < STRIPES → StandsFor (only stripe all) (share_of stripe namespace)) where
  module _ (volume : List ℕ) where
    abbrev part : Namespace
    part = share_of (stripe_of volume) namespace

    abbrev own : Rows
    own = only (stripe_of volume) all

    stand : StandsFor own part
    stand = parts (stripe_of volume) (one_of_sixteen volume)

    same_buckets : buckets_of part volume ≡ buckets_of namespace volume
    same_buckets = its_buckets (stripe_of volume) namespace (share_of (stripe_of volume) namespace) (share_is_there (stripe_of volume) namespace) volume
        (eq-eqb (stripe_of volume) (stripe_of volume) refl)

    same_bucket : (bucket : List ℕ) → bucket_of part volume bucket ≡ bucket_of namespace volume bucket
    same_bucket bucket = ap (λ (o : Option (ByName Bucket)). option_and_then (λ (buckets : ByName Bucket). get buckets bucket) o) same_buckets

    same_row : (key : RowKey) → stripe_of_key key ≡ stripe_of volume → own key ≡ all key
    same_row key its = own_row all (stripe_of volume) key its

    session_stands : (bucket : List ℕ) (number : ℕ) (session : Session) → SessionStands own part volume bucket number session
        → SessionStands all namespace volume bucket number session
    session_stands bucket number session is =
        subst (λ (row : Option Row). (session_of namespace volume bucket number ≡ Some session) ↔ (row ≡ Some (rows.Open session.blocks)))
        (same_row (keys.Open volume bucket session.key number) refl)
        (subst (λ (o : Option Bucket). (option_and_then (λ (b : Bucket). get b.sessions number) o ≡ Some session)
        ↔ (own (keys.Open volume bucket session.key number) ≡ Some (rows.Open session.blocks))) (same_bucket bucket) is)

    snapshots_stand_in : (bucket : List ℕ) (numbers : List ℕ) (snapshots : List Snapshot) → AreSnapshots own volume bucket numbers snapshots
        → AreSnapshots all volume bucket numbers snapshots
    snapshots_stand_in bucket [] [] are = tt
    snapshots_stand_in bucket (number ∷ numbers) (snapshot ∷ snapshots) are = (
      record {
        previous = are.0.previous;
        row = sym (same_row (keys.Snapshot volume bucket number) refl) ∙ are.0.row;
        pieces = λ key. are.0.pieces key ∙ ap pieces_in (same_row (keys.SnapshotKey volume bucket number key) refl);
      },
      snapshots_stand_in bucket numbers snapshots are.1,
    )
    snapshots_stand_in bucket [] (snapshot ∷ snapshots) are = absurd are
    snapshots_stand_in bucket (number ∷ numbers) [] are = absurd are

    live_in : (bucket : List ℕ) (number : ℕ) → IsLive all volume bucket number → IsLive own volume bucket number
    live_in bucket number live = (live.0, live.1, same_row (keys.Snapshot volume bucket number) refl ∙ live.2)

    snapshots_stand : (bucket : List ℕ) → SnapshotsStand own volume bucket (snapshots_of part volume bucket)
        → SnapshotsStand all volume bucket (snapshots_of namespace volume bucket)
    snapshots_stand bucket it = subst (λ (o : Option Bucket). SnapshotsStand all volume bucket (snapshots_in o)) (same_bucket bucket) (record {
      numbers = it.numbers;
      rise = it.rise;
      every = λ number live. it.every number (live_in bucket number live);
      each = snapshots_stand_in bucket it.numbers (snapshots_of part volume bucket) it.each;
    })

  abbrev drawn : ℕ → ℕ
  drawn stripe = drawn_in (all (keys.Stripe stripe))

  one_drawn : (stripe : ℕ) → stripe < 16 → get_or namespace.stripes stripe 0 ≡ drawn stripe
  one_drawn stripe few =
      sym (same_drawn stripe namespace (share_of stripe namespace) (share_is_there stripe namespace) few)
      ∙ ap (λ (l : List ℕ). get_or l stripe 0) (parts stripe few).stripes
      ∙ at_each (λ (number : ℕ). drawn_in (only stripe all (keys.Stripe number))) stripe few
      ∙ ap drawn_in (own_row all stripe (keys.Stripe stripe) refl)

  pub parts_stand : StandsFor all namespace
  parts_stand = record {
    volumes = λ volume. ap is_some (sym (same_buckets volume)) ∙ (stand volume).volumes volume ∙ ap is_some (same_row volume (keys.Volume volume) refl);
    buckets = λ volume bucket. ap is_some (sym (same_bucket volume bucket)) ∙ (stand volume).buckets volume bucket
        ∙ ap is_some (same_row volume (keys.Bucket volume bucket) refl);
    pieces = λ volume bucket key. ap (λ (o : Option Bucket). option_and_then (λ (b : Bucket). get b.keys key) o) (sym (same_bucket volume bucket))
        ∙ (stand volume).pieces volume bucket key ∙ ap pieces_in (same_row volume (keys.Key volume bucket key) refl);
    sessions = λ volume bucket number session. session_stands volume bucket number session ((stand volume).sessions volume bucket number session);
    snapshots = λ volume bucket. snapshots_stand volume bucket ((stand volume).snapshots volume bucket);
    stripes = are_numbers namespace.stripes drawn many one_drawn;
  }
