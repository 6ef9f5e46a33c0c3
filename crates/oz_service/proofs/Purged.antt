-- What the service job purges, as its seat sees more of the story.
use Rattle.std.proofs.Common.{◌≡◌, Bool, true, false, cond, max, ℕ, zero, suc, ◌+◌, ◌≤◌, List, [], ◌∷◌}
use Rattle.std.proofs.Common.{◌++◌, length, length-append, take, drop, map, Some, All, Contains, refl, sym, ap, ◌∙◌, subst, arith}
use Rattle.std.proofs.lemmas.List.{take-append-le}
use Rattle.std.proofs.lemmas.List.Elements.{All-append, All-contains, All-take, All-weaker}
use Rattle.std.proofs.lemmas.Bool.Decides.{nat_tests}
use Rattle.std.proofs.lemmas.Option.{slice_get_within}
use Rattle.std.specs.List.{slice_get}
use Rattle.std.specs.Prelude.{IfSome}
use Rattle.oz_core.specs.declared.event.Event.{Event}
use Rattle.oz_core.specs.declared.opening.Opening.{Opening}
use Rattle.oz_core.specs.Asks.{pending}
use Rattle.oz_core.specs.Law.{MayGo, PurgesLogged}
use Rattle.oz_core.specs.Manager.{namespace_of}
use Rattle.oz_model.specs.Answers.{Answers}
use Rattle.oz_model.specs.laws.Members.{mapped, of_mapped}
use Rattle.oz_names.specs.Names.{stripe_of}
use Rattle.oz_om.specs.Purging.{DeletedRow, key_of}
use Rattle.oz_om.specs.Served.{IsServed, service_id}
use Rattle.oz_reclaim.specs.Service.{key_named}
use Rattle.oz_requests.specs.declared.request.PurgeRow.{PurgeRow}
use Rattle.oz_requests.specs.declared.request.Request.{Request}
use Rattle.oz_requests.specs.declared.request.Request.TheVariants.{Purge}
use Rattle.oz_rows.specs.declared.key.RowKey.{RowKey}
use Rattle.oz_rows.specs.declared.key.RowKey.TheVariants as keys
use Rattle.oz_turn.specs.Told.{BeginsWith}
use Rattle.oz_service.specs.declared.pass.naming.Front.{Front}
use Rattle.oz_service.specs.Pass.{GoesOn, ServiceView}
use Rattle.oz_service.specs.Purges.{MayBeNamed, NamesFront, WasPurged, purged_with}
use Rattle.oz_service.proofs.Going.{begins_same}
use Rattle.oz_service.proofs.Logs.{each_of}
use Rattle.oz_service.proofs.Waits.{go_still}

-- ---- what may be named

pub may_on : (seen story : List Event) → BeginsWith story seen → (row : DeletedRow) → MayBeNamed seen row → MayBeNamed story row
may_on seen story begins (keys.Deleted volume bucket owner key local, blocks) may =
    subst (λ (l : List Event). MayGo l (stripe_of volume) local) (sym begins.1) (go_still seen begins.0 (stripe_of volume) local may)
may_on seen story begins (key, blocks) may = absurd may

pub all_may_on : (seen story : List Event) → BeginsWith story seen → (found : List DeletedRow) → All (MayBeNamed seen) found → All (MayBeNamed story) found
all_may_on seen story begins found may k d within = All-weaker (MayBeNamed seen) (MayBeNamed story) (may_on seen story begins) found may k d within

module _ (seen : List Event) (volume : List ℕ) where
  goes : (row : PurgeRow) (one : DeletedRow) → key_of one ≡ key_named volume row → MayBeNamed seen one → MayGo seen (stripe_of volume) row.local
  goes row (key, blocks) same may = subst (λ (k : RowKey). MayBeNamed seen (k, blocks)) same may

  -- a Purge that names some of such rows may be asked
  pub purges_logged : (named : List PurgeRow) (found : List DeletedRow) → map (key_named volume) named ≡ map key_of found → All (MayBeNamed seen) found
      → PurgesLogged seen (Purge volume named)
  purges_logged named found same may = each_of (λ (row : PurgeRow). MayGo seen (stripe_of volume) row.local) named (λ row there.
      let from = of_mapped key_of found (key_named volume row)
      (subst (λ (l : List RowKey). Contains l (key_named volume row)) same (mapped (key_named volume) named row there)) in
      goes row from.0 from.2 (All-contains (MayBeNamed seen) found from.0 may from.1))

-- ---- what was purged

-- all rows that a Purge names, once it is decided
pub all_served : (opening : Opening) (before after : List Event) (most index : ℕ) (volume : List ℕ) (named : List PurgeRow) (found : List DeletedRow)
    → map (key_named volume) named ≡ map key_of found → IsServed opening before after (Purge volume named) index → index ≤ most
    → All (WasPurged opening before after most) found
all_served opening before after most index volume named found same served within =
    each_of (WasPurged opening before after most) found (λ row there. record {
      volume = volume;
      named = named;
      among = subst (λ (l : List RowKey). Contains l (key_of row)) (sym same) (mapped key_of found row there);
      index = index;
      served = served;
      within = within;
    })

got_further : {A : Type 0} (l more : List A) (k : ℕ) (x : A) → slice_get l k ≡ Some x → slice_get (l ++ more) k ≡ Some x
got_further [] more k x is = absurd cc
got_further (y ∷ l) more zero x is = is
got_further (y ∷ l) more (suc k) x is = got_further l more k x is

module _ (opening : Opening) (request : Request) (index : ℕ) where
  served_further : (first before after more : List Event) → BeginsWith before first → IsServed opening before after request index
      → IsServed opening first (after ++ more) request index
  served_further first before after more earlier (reply, decided, same) =
      let within = slice_get_within after decided.place _ decided.there in
      let taken : take decided.place (after ++ more) ≡ take decided.place after = take-append-le decided.place after more (omega (arith, within)) in
      let longer = ap length earlier.1 ∙ length-append first earlier.0 in
      let behind = decided.behind in (
        reply,
        record {
          place = decided.place;
          behind = omega (arith, longer, behind);
          index = decided.index;
          batch = decided.batch;
          there = got_further after more decided.place _ decided.there;
          asked = ap (pending service_id) taken ∙ decided.asked;
          one_thread = subst (λ (l : List Event). Answers (namespace_of opening l) request reply) (sym taken) decided.one_thread;
        },
        same,
      )

  pub served_on : (first before after later : List Event) → BeginsWith before first → BeginsWith later after → IsServed opening before after request index
      → IsServed opening first later request index
  served_on first before after later earlier goes served =
      subst (λ (l : List Event). IsServed opening first l request index) (sym goes.1) (served_further first before after goes.0 earlier served)

module _ (opening : Opening) (first before after later : List Event) (most more : ℕ) (earlier : BeginsWith before first) (goes_on : BeginsWith later after)
    (risen : most ≤ more) where
  purged_on : (row : DeletedRow) → WasPurged opening before after most row → WasPurged opening first later more row
  purged_on row was = let within = was.within in record {
    volume = was.volume;
    named = was.named;
    among = was.among;
    index = was.index;
    served = served_on opening (Purge was.volume was.named) was.index first before after later earlier goes_on was.served;
    within = omega (arith, within, risen);
  }

  pub all_purged_on : (found : List DeletedRow) → All (WasPurged opening before after most) found → All (WasPurged opening first later more) found
  all_purged_on found was k d within = All-weaker (WasPurged opening before after most) (WasPurged opening first later more) purged_on found was k d within

-- ---- front by front

nothing : {A : Type 0} (n : ℕ) → take {A = A} n [] ≡ []
nothing zero = refl
nothing (suc n) = refl

taken_more : {A : Type 0} (l : List A) (i n : ℕ) → take (i + n) l ≡ take i l ++ take n (drop i l)
taken_more l zero n = let e : 0 + n ≡ n = omega arith in ap (λ k. take k l) e
taken_more [] (suc i) n = nothing (suc i + n) ∙ sym (nothing n)
taken_more (x ∷ l) (suc i) n =
    let e : suc i + n ≡ suc (i + n) = omega arith in
    ap (λ k. take k (x ∷ l)) e ∙ ap (λ r. x ∷ r) (taken_more l i n)

pub all_taken : {A : Type 0} (P : A → Type 0) (l : List A) (i n : ℕ) → All P (take i l) → All P (take n (drop i l)) → All P (take (i + n) l)
all_taken P l i n front next = subst (All P) (sym (taken_more l i n)) (All-append P (take i l) (take n (drop i l)) front next)

-- ---- a request that was taken up

most_of : (before index : ℕ) → index ≤ max before index
most_of before index = grind (arith, nat_tests)

not_less : (before index : ℕ) → before ≤ max before index
not_less before index = grind (arith, nat_tests)

pub taken_up : (t : Bool) (old mid : ServiceView) (request : Request) → mid ≡ cond t (record old { waiting = Some request }) old → t ≡ true
    → mid ≡ record old { waiting = Some request }
taken_up true old mid request is e = is
taken_up false old mid request is e = absurd cc

module _ (opening : Opening) (rows : List DeletedRow) (front : Front) (names : NamesFront rows front) (old mid new : ServiceView)
    (up : mid ≡ record old { waiting = Some front.request }) where
  -- what it names was purged once it is decided
  pub front_purged : (index : ℕ) → IfSome mid.waiting (λ request. IsServed opening mid.seen new.seen request index)
      → IfSome mid.waiting (λ request. new.purged_to ≡ purged_with request index mid.purged_to)
      → All (WasPurged opening old.seen new.seen new.purged_to) (take front.count rows)
  front_purged index served to =
      let its : IsServed opening old.seen new.seen front.request index =
      subst (λ (v : ServiceView). IfSome v.waiting (λ request. IsServed opening v.seen new.seen request index)) up served in
      let most : new.purged_to ≡ purged_with front.request index old.purged_to =
      subst (λ (v : ServiceView). IfSome v.waiting (λ request. new.purged_to ≡ purged_with request index v.purged_to)) up to in
      let is : new.purged_to ≡ max old.purged_to index = most ∙ ap (λ (r : Request). purged_with r index old.purged_to) names.is in
      let within = most_of old.purged_to index in
      all_served opening old.seen new.seen new.purged_to index names.volume names.named (take front.count rows) names.names
      (subst (λ (r : Request). IsServed opening old.seen new.seen r index) names.is its) (omega (arith, is, within))

-- and may be asked
pub front_logged : (rows : List DeletedRow) (front : Front) → NamesFront rows front → (seen : List Event) → All (MayBeNamed seen) rows
    → PurgesLogged seen front.request
front_logged rows front names seen may = subst (PurgesLogged seen) (sym names.is)
    (purges_logged seen names.volume names.named (take front.count rows) names.names (All-take (MayBeNamed seen) front.count rows may))

-- ---- the rows of one volume more

pub none_yet : {A : Type 0} (P : A → Type 0) (l : List A) → All P (take 0 l)
none_yet P l = each_of P (take 0 l) (λ x there. absurd (omega (arith, there.1)))

pub front_then : (opening : Opening) (first before after : ServiceView) (found rest : List DeletedRow) (place count : ℕ) → GoesOn first before
    → GoesOn before after
    → before.purged_to ≤ after.purged_to → rest ≡ drop place found
    → All (WasPurged opening first.seen before.seen before.purged_to) (take place found)
    → All (WasPurged opening before.seen after.seen after.purged_to) (take count rest)
    → All (WasPurged opening first.seen after.seen after.purged_to) (take (place + count) found)
front_then opening first before after found rest place count one two risen is was now =
    all_taken (WasPurged opening first.seen after.seen after.purged_to) found place count
    (all_purged_on opening first.seen first.seen before.seen after.seen before.purged_to after.purged_to (begins_same first.seen) two.seen risen
    (take place found) was)
    (subst (λ (l : List DeletedRow). All (WasPurged opening first.seen after.seen after.purged_to) (take count l)) is
    (all_purged_on opening first.seen before.seen after.seen after.seen after.purged_to after.purged_to one.seen (begins_same after.seen)
    (omega arith) (take count rest) now))
