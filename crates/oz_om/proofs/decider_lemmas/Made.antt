-- What a crate promises of its decision is what is promised of any.
use Rattle.std.proofs.Common.{◌≡◌, ◌≤◌, ◌*◌, ◌↔◌, ℕ, true, false, List, [], length, Option, None, Result, Ok, Err, IfOk, refl, sym, ◌∙◌, ap, subst, arith}
use Rattle.oz_om.specs.decider.Deciders.{decider_of, decides_alone}
use Rattle.oz_om.specs.decider.Promises.{IsDecision}
use Rattle.oz_om.specs.decider.Records.{AreRecordedBy, AreRecorded, operations_by, operations_for, operations_of_snapshots}
use Rattle.oz_om.specs.decider.Sizes.{most_bytes, most_operations}
use Rattle.oz_om.specs.declared.decider.decider.Decider.{Decider}
use Rattle.oz_om.specs.declared.decider.decider.Decider.TheVariants as deciders
use Rattle.oz_decision.specs.declared.decision.Decision.{Decision}
use Rattle.oz_decision.specs.Drafts.{row_by_row}
use Rattle.oz_decision.specs.Meets.{AreInGrammar, IsSafe, Stand, Meets, granted_in}
use Rattle.oz_fields.specs.declared.block.Block.{Block}
use Rattle.oz_model.specs.Grants.{IsPicked}
use Rattle.oz_names.specs.Names.{stripe_of}
use Rattle.oz_namespace.specs.declared.namespace.Namespace.{Namespace}
use Rattle.oz_om_bucket.specs.Records.{recorded_changes}
use Rattle.oz_om_key.specs.om_change.Records.{AreRecorded as AreChanged}
use Rattle.oz_om_session.specs.om_open.Records.{operations_for as operations_of_opening, AreRecorded as AreOpened}
use Rattle.oz_om_session.specs.Picks.{IsNew}
use Rattle.oz_om_session.specs.Records.{recorded_grant, recorded_commit}
use Rattle.oz_reclaim.specs.Decisions.{IsServed}
use Rattle.oz_reclaim.specs.Origins.{RowsComeFrom, SnapshotKeysStay}
use Rattle.oz_reclaim.specs.Service.{operations_for as operations_of_service}
use Rattle.oz_reclaim.specs.Snapshots.{IsSnapshotDecision}
use Rattle.oz_requests.specs.declared.request.Request.{Request}
use Rattle.oz_requests.specs.Names.{name_fault, volume_in}
use Rattle.oz_rows.specs.declared.entry.RowEntry.{RowEntry}
use Rattle.oz_rows.specs.declared.operation.Change.{Change}
use Rattle.oz_rows.specs.Operations.{AreOperations, batch_bytes}
use Rattle.oz_rows.specs.RowMaps.{Rows, AreRows, after_changes}
use Rattle.oz_sound.specs.Sound.{IsSound, IsSoundButRenames}
use Rattle.oz_sound.specs.stripes.Stripes.{ChangeOnly}
use Rattle.oz_om.proofs.Recorded.{recorded_spares, spares_opened, tidy}
use Rattle.oz_om.proofs.decider_lemmas.Choice.{no_grant, is_by_rows, is_new, is_on_snapshots, four, many, names_few, rows_are, same_by_rows, same_opening}
use Rattle.oz_om.proofs.decider_lemmas.Comes.{AllCome, come_from, grant_comes, opened_come, recorded_comes}
use Rattle.oz_om.proofs.decider_lemmas.Fits.{is_code, good_names, none_fit, buckets_fit, change_fit}
use Rattle.oz_om.proofs.decider_lemmas.FitSessions.{grant_fit, commit_fit, opened_fit}
use Rattle.oz_om.proofs.decider_lemmas.OnSnapshots.{few_operations, snapshot_changes_own, snapshot_fit, snapshot_operations, snapshot_size}
use Rattle.oz_om.proofs.decider_lemmas.Own.{recorded_own, opened_own}
use Rattle.oz_om.proofs.decider_lemmas.Reclaims.{service_changes_own, service_few, service_fit}
use Rattle.oz_om.proofs.decider_lemmas.Sizes.{batch_size}
use Rattle.oz_om.proofs.decider_lemmas.Stripes.{batch_of_operations, batch_of_stripe, service_drops_first, service_own, snapshots_drop_first, snapshots_own}

abbrev pub MeetsIn : (Rows → Type 0) → Rows → Request → Decision → Type 0
MeetsIn Sound rows request d = (namespace : Namespace) → Stand Sound rows namespace → Meets Sound rows namespace request d.reply d.bytes d.changes

abbrev pub IsSafeIn : Rows → Decision → Type 0
IsSafeIn rows d = AreInGrammar rows → IsSafe rows d.bytes d.changes

abbrev pub IsByRows : Decision → Type 0
IsByRows d = d.bytes ≡ batch_bytes (row_by_row d.changes)

abbrev pub HasBoth : Decision → Type 0
HasBoth d = (d.bytes ≡ []) ↔ (d.changes ≡ [])

abbrev pub IsShort : ℕ → Decision → Type 0
IsShort most d = length d.bytes ≤ most

-- so many bytes at most, where there are so many operations at most
no_more : (size bytes items most : ℕ) → size ≡ bytes → bytes ≤ items * 6304 → items ≤ most → size ≤ most * 6304
no_more size bytes items most is short few = omega (arith, is, short, few)

module _ (rows : Rows) (request : Request) where
  -- the operations keep the rules of the grammar, where the names were tested and the rows do so before and afterwards
  abbrev HasFit : Decision → Type 0
  HasFit d = AreInGrammar rows → (is_code d.reply ≡ false → name_fault request ≡ None) → AreInGrammar (after_changes d.changes rows) → AreOperations (operations_of_opening request d.changes)

  abbrev ComeFrom : Decision → Type 0
  ComeFrom d = (namespace : Namespace) → Stand IsSoundButRenames rows namespace → RowsComeFrom rows (after_changes d.changes rows) (granted_in d.reply)

  -- what is known of a decision beside what it meets
  record IsKnown (d : Decision) : Type 0 where
    safe : IsSafeIn rows d
    own : ChangeOnly (stripe_of (volume_in request)) d.changes
    fits : HasFit d
    exact : AreRecorded rows request d.reply d.bytes d.changes
    written : d.bytes ≡ batch_bytes (operations_of_opening request d.changes)
    operations : d.bytes ≡ batch_bytes (operations_for request d.changes)
    recorded : HasBoth d
    size : IsShort (most_bytes request) d
    origins : ComeFrom d
    tidy : SnapshotKeysStay d.changes

  short : (d : Decision) → IsShort 25216 d → IsShort (most_bytes request) d
  short d size = let most = four request in omega (arith, size, most)

  made : (d : Decision) → IsKnown d → decides_alone (decider_of request) ≡ true → MeetsIn IsSound rows request d → MeetsIn IsSoundButRenames rows request d → (pick : Option (Block × ℕ)) → IsDecision rows request pick d
  made d is alone meets but pick = record {
    meets = λ new. meets;
    but_renames = λ new. but;
    safe = is.safe;
    own = is.own;
    own_batch = λ namespace stand.
        let safely = is.safe stand.fit in
        batch_of_stripe rows request d.bytes d.changes safely.batch is.written (is.fits stand.fit (good_names namespace request d.reply (but namespace stand).answers) safely.fit) is.own;
    picked = λ family. absurd (no_grant request alone family);
    exact = is.exact;
    operations = is.operations;
    recorded = is.recorded;
    size = λ fit. is.size;
    origins = is.origins;
    tidy = is.tidy;
  }

  -- where the rows come from
  comes : (decider : Decider) (d : Decision) → is_by_rows decider ≡ true → AreRecordedBy decider rows request d.reply d.bytes d.changes → MeetsIn IsSoundButRenames rows request d → ComeFrom d
  comes decider d by exact but namespace stand =
      come_from rows (granted_in d.reply) d.changes (recorded_comes rows namespace stand decider request d.reply d.bytes d.changes by (but namespace stand).answers exact)

  -- of changes that are written row by row
  known : (decider : Decider) (d : Decision) → decider_of request ≡ decider → is_by_rows decider ≡ true → IsSafeIn rows d → AreRecordedBy decider rows request d.reply d.bytes d.changes → HasFit d → IsByRows d → HasBoth d → IsShort (most_bytes request) d
      → ComeFrom d → IsKnown d
  known decider d is by safe exact fits operations recorded size come =
      let here : is_by_rows (decider_of request) ≡ true = ap is_by_rows is ∙ by in
      let to_rows = rows_are (decider_of request) request d.changes here in
      let all_written : d.bytes ≡ batch_bytes (operations_for request d.changes) = operations ∙ ap batch_bytes (sym to_rows) in
      record {
        safe = safe;
        own = recorded_own rows request decider d.reply d.bytes d.changes by exact;
        fits = fits;
        exact = subst (λ (w : Decider). AreRecordedBy w rows request d.reply d.bytes d.changes) (sym is) exact;
        written = all_written ∙ ap batch_bytes (sym (same_by_rows request d.changes here));
        operations = all_written;
        recorded = recorded;
        size = size;
        origins = come;
        tidy = tidy d.changes (recorded_spares rows decider request d.reply d.bytes d.changes by exact);
      }

  -- the operations fit where those do that are recorded
  as_recorded : (d : Decision) (changes : List Change) → d.changes ≡ changes → (AreInGrammar rows → (is_code d.reply ≡ false → name_fault request ≡ None) → AreInGrammar (after_changes changes rows) → AreOperations (operations_of_opening request changes)) → HasFit d
  as_recorded d changes e fits fit named after =
      subst (λ (c : List Change). AreOperations (operations_of_opening request c)) (sym e) (fits fit named (subst (λ (c : List Change). AreInGrammar (after_changes c rows)) e after))

  abbrev IsAny : Decision → Type 0
  IsAny d = (pick : Option (Block × ℕ)) → IsDecision rows request pick d

  module _ {E : Type 0} where
    pub of_buckets : (result : Result Decision E) → decider_of request ≡ deciders.Buckets → IfOk result (MeetsIn IsSound rows request) → IfOk result (MeetsIn IsSoundButRenames rows request) → IfOk result (IsSafeIn rows) → IfOk result (λ d. d.changes ≡ recorded_changes request d.reply) → IfOk result IsByRows → IfOk result HasBoth → IfOk result (IsShort 6304) → IfOk result IsAny
    of_buckets (Ok d) is meets but safe exact operations recorded size =
        let fits = as_recorded d (recorded_changes request d.reply) exact (λ fit. buckets_fit rows request d.reply) in
        made d (known deciders.Buckets d is refl safe exact fits operations recorded (short d (omega (arith, size))) (comes deciders.Buckets d refl exact but)) (ap decides_alone is) meets but
    of_buckets (Err e) is meets but safe exact operations recorded size = tt

    pub of_keys : (result : Result Decision E) → decider_of request ≡ deciders.Reading → IfOk result (MeetsIn IsSound rows request) → IfOk result (MeetsIn IsSoundButRenames rows request) → IfOk result (IsSafeIn rows) → IfOk result (λ d. d.changes ≡ []) → IfOk result IsByRows → IfOk result HasBoth → IfOk result (IsShort 6304) → IfOk result IsAny
    of_keys (Ok d) is meets but safe exact operations recorded size =
        let fits = as_recorded d [] exact (λ fit named after. none_fit request) in
        made d (known deciders.Reading d is refl safe exact fits operations recorded (short d (omega (arith, size))) (comes deciders.Reading d refl exact but)) (ap decides_alone is) meets but
    of_keys (Err e) is meets but safe exact operations recorded size = tt

    pub of_change : (result : Result Decision E) → decider_of request ≡ deciders.Changing → IfOk result (MeetsIn IsSound rows request) → IfOk result (MeetsIn IsSoundButRenames rows request) → IfOk result (IsSafeIn rows) → IfOk result (λ d. AreChanged rows request d.reply d.changes) → IfOk result IsByRows → IfOk result HasBoth → IfOk result (IsShort 1626432) → IfOk result IsAny
    of_change (Ok d) is meets but safe exact operations recorded size =
        let most = many request is in
        let fits : HasFit d = λ fit. change_fit rows fit request d.reply d.changes exact in
        made d (known deciders.Changing d is refl safe exact fits operations recorded (omega (arith, size, most)) (comes deciders.Changing d refl exact but)) (ap decides_alone is) meets but
    of_change (Err e) is meets but safe exact operations recorded size = tt

    pub of_commit : (result : Result Decision E) → decider_of request ≡ deciders.Committing → IfOk result (MeetsIn IsSound rows request) → IfOk result (MeetsIn IsSoundButRenames rows request) → IfOk result (IsSafeIn rows) → IfOk result (λ d. d.changes ≡ recorded_commit rows request d.reply) → IfOk result IsByRows → IfOk result HasBoth → IfOk result (IsShort 25216) → IfOk result IsAny
    of_commit (Ok d) is meets but safe exact operations recorded size =
        let fits = as_recorded d (recorded_commit rows request d.reply) exact (λ fit. commit_fit rows fit request d.reply) in
        made d (known deciders.Committing d is refl safe exact fits operations recorded (short d size) (comes deciders.Committing d refl exact but)) (ap decides_alone is) meets but
    of_commit (Err e) is meets but safe exact operations recorded size = tt

    pub of_opening : (entries : List RowEntry) → AreRows entries rows → (result : Result Decision E) → decider_of request ≡ deciders.Opening → IfOk result (MeetsIn IsSound rows request) → IfOk result (MeetsIn IsSoundButRenames rows request) → IfOk result (IsSafeIn rows) → IfOk result (λ d. AreOpened rows request d.reply d.changes) → IfOk result (λ d. d.bytes ≡ batch_bytes (operations_of_opening request d.changes)) → IfOk result HasBoth → IfOk result (IsShort 12608) → IfOk result IsAny
    of_opening entries are (Ok d) is meets but safe exact operations recorded size =
        let it : IsKnown d = record {
          safe = safe;
          own = opened_own rows entries are request d.reply d.changes exact;
          fits = λ fit. opened_fit rows request d.reply d.changes exact;
          exact = subst (λ (w : Decider). AreRecordedBy w rows request d.reply d.bytes d.changes) (sym is) exact;
          written = operations;
          operations = operations ∙ ap batch_bytes (same_opening request d.changes is);
          recorded = recorded;
          size = short d (omega (arith, size));
          origins = λ namespace stand. come_from rows (granted_in d.reply) d.changes (opened_come rows (granted_in d.reply) entries are request d.reply d.changes exact);
          tidy = tidy d.changes (spares_opened rows entries are request d.reply d.changes exact);
        } in
        made d it (ap decides_alone is) meets but
    of_opening entries are (Err e) is meets but safe exact operations recorded size = tt

  -- a grant needs a picked block that is new
  pub of_grant : (d : Decision) (pick : Option (Block × ℕ)) → decider_of request ≡ deciders.Granting → (IsNew rows pick → MeetsIn IsSound rows request d) → (IsNew rows pick → MeetsIn IsSoundButRenames rows request d) → IsPicked pick d.reply → IsSafeIn rows d → d.changes ≡ recorded_grant rows request d.reply → IsByRows d → HasBoth d → IsShort 6304 d → IsDecision rows request pick d
  of_grant d pick is meets but picked safe exact operations recorded size =
      let fits = as_recorded d (recorded_grant rows request d.reply) exact (λ fit named. grant_fit rows request d.reply) in
      let come : ComeFrom d = λ namespace stand. come_from rows (granted_in d.reply) d.changes (subst (AllCome rows (granted_in d.reply)) (sym exact) (grant_comes rows request d.reply)) in
      let it = known deciders.Granting d is refl safe exact fits operations recorded (short d (omega (arith, size))) come in
      record {
        meets = λ new. meets (is_new rows request pick is new);
        but_renames = λ new. but (is_new rows request pick is new);
        safe = safe;
        own = it.own;
        own_batch = λ namespace stand.
            let safely = safe stand.fit in
            let after = subst (λ (c : List Change). AreInGrammar (after_changes c rows)) exact safely.fit in
            batch_of_stripe rows request d.bytes d.changes safely.batch it.written
            (subst (λ (c : List Change). AreOperations (operations_of_opening request c)) (sym exact) (grant_fit rows request d.reply after)) it.own;
        picked = λ family. picked;
        exact = it.exact;
        operations = it.operations;
        recorded = recorded;
        size = λ fit. it.size;
        origins = it.origins;
        tidy = it.tidy;
      }

  -- of snapshots
  pub of_snapshots : (entries : List RowEntry) → AreRows entries rows → (d : Decision) → decider_of request ≡ deciders.Snapshots → IsSnapshotDecision rows request d → IsAny d
  of_snapshots entries are d is it pick =
      let on = is_on_snapshots request is in
      let items = operations_of_snapshots request d.changes in
      let few = few_operations rows entries are request on d.reply d.bytes d.changes it.exact in
      let written = snapshot_operations rows entries are request on d.reply d.bytes d.changes it.exact in
      let own = snapshot_changes_own rows entries are request on d.reply d.bytes d.changes it.exact in
      let fits = λ (fit : AreInGrammar rows). snapshot_fit rows entries are fit request on d.reply d.bytes d.changes (it.kept.safe fit).fit it.exact in
      record {
        meets = λ new. it.kept.meets;
        but_renames = λ new. it.kept.but_renames;
        safe = it.kept.safe;
        own = own;
        own_batch = λ namespace stand.
            batch_of_operations (stripe_of (volume_in request)) rows items d.bytes d.changes (it.kept.safe stand.fit).batch written (fits stand.fit)
            (snapshots_own request d.changes own) (snapshots_drop_first request d.changes) own;
        picked = λ family. absurd (no_grant request (ap decides_alone is) family);
        exact = subst (λ (w : Decider). AreRecordedBy w rows request d.reply d.bytes d.changes) (sym is) it.exact;
        operations = written ∙ ap (λ (w : Decider). batch_bytes (operations_by w request d.changes)) (sym is);
        recorded = it.kept.recorded;
        size = λ in_grammar. snapshot_size rows entries are request on in_grammar d.reply d.bytes d.changes it.exact
            (λ fit. no_more (length d.bytes) (length (batch_bytes items)) (length items) 4 (ap length written) (batch_size items (fits fit)) few);
        origins = λ namespace stand. it.kept.origins;
        tidy = it.kept.tidy;
      }

  -- of the manager's own requests
  pub of_service : (entries : List RowEntry) → AreRows entries rows → (d : Decision) → decider_of request ≡ deciders.Reclaiming → IsServed rows request d → IsAny d
  of_service entries are d is it pick =
      let own = service_changes_own rows entries are request d.changes it.exact in
      let items = operations_of_service request d.changes in
      let fits = service_fit rows request d.changes it.exact in
      let many = service_few rows request (names_few request is) d.changes it.exact in
      let size = batch_size items fits in
      record {
        meets = λ new. it.kept.meets;
        but_renames = λ new. it.kept.but_renames;
        safe = it.kept.safe;
        own = own;
        own_batch = λ namespace stand.
            batch_of_operations (stripe_of (volume_in request)) rows items d.bytes d.changes (it.kept.safe stand.fit).batch it.operations fits
            (service_own request d.changes own) (service_drops_first request d.changes) own;
        picked = λ family. absurd (no_grant request (ap decides_alone is) family);
        exact = subst (λ (w : Decider). AreRecordedBy w rows request d.reply d.bytes d.changes) (sym is) it.exact;
        operations = it.operations ∙ ap (λ (w : Decider). batch_bytes (operations_by w request d.changes)) (sym is);
        recorded = it.kept.recorded;
        size = λ in_grammar. no_more (length d.bytes) (length (batch_bytes items)) (length items) (most_operations request) (ap length it.operations) size many;
        origins = λ namespace stand. it.kept.origins;
        tidy = it.kept.tidy;
      }
