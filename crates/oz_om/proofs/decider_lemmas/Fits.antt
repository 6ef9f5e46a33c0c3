-- The operations of a decision keep the rules of the grammar: those of buckets and of keys that are there.
use Rattle.std.proofs.Common.{◌≡◌, ℕ, Bool, true, false, List, [], ◌∷◌, ◌++◌, Option, None, Some, cond, refl, sym, ◌∙◌, ap, subst, arith}
use mathlib.Core.Bool.{false≢true}
use Rattle.std.specs.List.{AllByRecursion}
use Rattle.oz_decision.specs.Drafts.{operation_for, row_by_row}
use Rattle.oz_decision.specs.Meets.{AreInGrammar}
use Rattle.oz_decision.specs.Versions.{version_at, deleted}
use Rattle.oz_decision.specs.laws.Refusing.{volume_fits, bucket_fits}
use Rattle.oz_decision.specs.laws.SessionRows.{all_append, volume_is, bucket_is, key_is, deleted_fits}
use Rattle.oz_decision.specs.laws.Shown.{key_itself}
use Rattle.oz_decision.specs.laws.Versions.{good_version, version_is_good}
use Rattle.oz_fields.specs.declared.block.Block.{Block}
use Rattle.oz_names.specs.declared.code.Code.{Code}
use Rattle.oz_model.specs.Answers.{Answers}
use Rattle.oz_model.specs.Scope.{scope_of}
use Rattle.oz_model.specs.laws.Codes.{code_alone}
use Rattle.oz_model.specs.laws.Order.{refused_by_name}
use Rattle.oz_namespace.specs.declared.namespace.Namespace.{Namespace}
use Rattle.oz_om_bucket.specs.Records.{changes_for, recorded_changes}
use Rattle.oz_om_key.specs.om_change.Noting.{noted}
use Rattle.oz_om_key.specs.om_change.Records.{AreChangesOf, moved}
use Rattle.oz_om_key.specs.om_change.Records.{AreRecorded as AreChanged}
use Rattle.oz_om_session.specs.om_open.Records.{operations_for}
use Rattle.oz_requests.specs.declared.reply.Reply.{Reply}
use Rattle.oz_requests.specs.declared.reply.Reply.TheVariants as replies
use Rattle.oz_requests.specs.declared.request.Request.{Request}
use Rattle.oz_requests.specs.declared.request.Request.TheVariants.{CreateVolume, DeleteVolume, CreateBucket, DeleteBucket}
use Rattle.oz_requests.specs.declared.request.Request.TheVariants.{DeleteKey, RenameKey, ExpireOpen}
use Rattle.oz_requests.specs.Names.{bucket_named, key_named, name_fault, volume_in}
use Rattle.oz_rows.specs.declared.key.RowKey.{RowKey}
use Rattle.oz_rows.specs.declared.key.RowKey.TheVariants as keys
use Rattle.oz_rows.specs.declared.operation.Change.{Change}
use Rattle.oz_rows.specs.declared.row.Row.{Row}
use Rattle.oz_rows.specs.declared.row.Row.TheVariants as values
use Rattle.oz_rows.specs.Operations.{AreOperations, OperationFits}
use Rattle.oz_rows.specs.RowMaps.{Rows, put, gone, is_same, row_after, after_changes}
use Rattle.oz_rows.specs.laws.Same.{same_is_one}
use Rattle.oz_rows.specs.Rows.{AreItems, IsBlock, KeyFits, RowFits}
use Rattle.oz_om.proofs.decider_lemmas.Noted.{among, noted_each}

unfoldable pub is_code : Reply → Bool
is_code (replies.Code code) = true
is_code reply = false

-- a request has good names whose reply is no code
pub good_names : (namespace : Namespace) (request : Request) (reply : Reply) → Answers namespace request reply → is_code reply ≡ false → name_fault request ≡ None
unfolding Answers is_code
good_names namespace request reply answers other = by_fault (name_fault request) refl
  where
    by_fault : (o : Option Code) → name_fault request ≡ o → name_fault request ≡ None
    by_fault None e = e
    by_fault (Some code) e =
        let scope = scope_of namespace (volume_in request) in
        absurd (false≢true (sym other ∙ ap is_code (code_alone scope request reply code (refused_by_name scope request code e) answers)))

-- where nothing changes there are no operations
pub none_fit : (request : Request) → AreOperations (operations_for request [])
none_fit (ExpireOpen v b) = tt
none_fit request = tt

abbrev IsFit : Change → Type 0
IsFit change = OperationFits (operation_for change.key change.row)

pub each_fits : (changes : List Change) → AllByRecursion IsFit changes → AreOperations (row_by_row changes)
each_fits [] fit = tt
each_fits (change ∷ changes) fit = (fit.0, each_fits changes fit.1)

pub rows_join : (a c : List Change) (key : RowKey) (row : Option Row) → row_after (a ++ c) key row ≡ row_after c key (row_after a key row)
rows_join [] c key row = refl
rows_join (change ∷ a) c key row = rows_join a c key _

-- a key's row stays where no change is of a key
abbrev is_key : RowKey → Bool
is_key (keys.Key v b k) = true
is_key key = false

keeps : (changes : List Change) → AllByRecursion (λ (change : Change). is_key change.key ≡ false) changes → (key : RowKey) → is_key key ≡ true → (row : Option Row) → row_after changes key row ≡ row
keeps [] pass key is row = refl
keeps (change ∷ changes) pass key is row = keeps changes pass.1 key is (cond (is_same change.key key) change.row row) ∙ by (is_same change.key key) refl
  where
    by : (t : Bool) → is_same change.key key ≡ t → cond t change.row row ≡ row
    by true e = absurd (false≢true (sym pass.0 ∙ ap is_key (same_is_one change.key key e) ∙ is))
    by false e = refl

module _ (rows : Rows) where
  -- a row that is put last is in the grammar where all rows are so afterwards
  pub only_fits : (key : RowKey) (row : Row) → AreInGrammar (after_changes (put key row ∷ []) rows) → RowFits key row
  only_fits key row after = after key row (ap (λ (t : Bool). cond t (Some row) (rows key)) (key_itself key))

  pub last_fits : (a : List Change) (x : Change) (key : RowKey) (row : Row) → AreInGrammar (after_changes (a ++ x ∷ put key row ∷ []) rows) → RowFits key row
  last_fits a x key row after = after key row (rows_join a (x ∷ put key row ∷ []) key (rows key) ∙ ap (λ (t : Bool). cond t (Some row) (row_after (x ∷ []) key (row_after a key (rows key)))) (key_itself key))

  of_buckets : (request : Request) → name_fault request ≡ None → AreInGrammar (after_changes (changes_for request) rows) → AreOperations (operations_for request (changes_for request))
  of_buckets (CreateVolume v) named after = (only_fits (keys.Volume v) values.Volume after, tt)
  of_buckets (DeleteVolume v) named after = (volume_fits v [] named, tt)
  of_buckets (CreateBucket v b) named after = (only_fits (keys.Bucket v b) values.Bucket after, tt)
  of_buckets (DeleteBucket v b) named after = ((volume_fits v (bucket_named b ∷ []) named, bucket_fits v b [] named), tt)
  of_buckets request named after = tt

  pub buckets_fit : (request : Request) (reply : Reply) → (is_code reply ≡ false → name_fault request ≡ None) → AreInGrammar (after_changes (recorded_changes request reply) rows) → AreOperations (operations_for request (recorded_changes request reply))
  unfolding is_code
  buckets_fit request (replies.Code code) named after = none_fit request
  buckets_fit request reply named after = of_buckets request (named refl) after

  module _ (fit : AreInGrammar rows) (v b k : List ℕ) (named : name_fault (DeleteKey v b k) ≡ None) where
    pub key_fits : KeyFits (keys.Key v b k)
    key_fits = (volume_is v b k [] named, bucket_is v b k [] named, key_is v b k [] named)

    pub version_fits : (row : Option Row) → rows (keys.Key v b k) ≡ row → AreItems IsBlock (version_at row)
    version_fits None e = ((omega arith), tt)
    version_fits (Some row) e = good_version (Some row) (version_is_good v b k row (fit (keys.Key v b k) row e))

    pub left_fit : (blocks : List Block) → AreItems IsBlock blocks → AllByRecursion IsFit (deleted v b k blocks)
    left_fit [] fits = tt
    left_fit (first ∷ others) fits = (deleted_fits v b k named first others fits, tt)

  blocks_fit : AreInGrammar rows → (v b k : List ℕ) (row : Option Row) → rows (keys.Key v b k) ≡ row → AreItems IsBlock (version_at row)
  blocks_fit fit v b k None e = ((omega arith), tt)
  blocks_fit fit v b k (Some row) e = good_version (Some row) (version_is_good v b k row (fit (keys.Key v b k) row e))

  -- the row under the new name stays as names are noted
  moved_fit : (from : Change) (to : RowKey) (row : Option Row) (notes : List Change) → is_key to ≡ true → AllByRecursion (λ (change : Change). is_key change.key ≡ false) notes
      → AreInGrammar (after_changes (from ∷ moved to row ++ notes) rows) → AllByRecursion IsFit (moved to row)
  moved_fit from to None notes is pass after = tt
  moved_fit from to (Some row) notes is pass after = (
    after to row (keeps notes pass to is (cond (is_same to to) (Some row) (row_after (from ∷ []) to (rows to)))
        ∙ ap (λ (t : Bool). cond t (Some row) (row_after (from ∷ []) to (rows to))) (key_itself to)),
    tt,
  )

  of_change : AreInGrammar rows → (request : Request) → name_fault request ≡ None → (changes : List Change) → AreChangesOf rows request changes → AreInGrammar (after_changes changes rows) → AreOperations (operations_for request changes)
  of_change fit (DeleteKey v b k) named changes is after =
      let version = rows (keys.Key v b k) in
      subst (λ (c : List Change). AreOperations (row_by_row c)) (sym is)
      (key_fits fit v b k named, each_fits (deleted v b k (version_at version)) (left_fit fit v b k named (version_at version) (version_fits fit v b k named version refl)))
  of_change fit (RenameKey v b k to) named changes (numbers, are, is) after =
      let row = rows (keys.Key v b k) in
      let notes = noted rows v b k numbers (version_at row) in
      let volume = volume_is v b k (key_named to ∷ []) named in
      let bucket = bucket_is v b k (key_named to ∷ []) named in
      let key = key_is v b k (key_named to ∷ []) named in
      let blocks = blocks_fit fit v b k row refl in
      subst (λ (c : List Change). AreOperations (row_by_row c)) (sym is)
      (each_fits (gone (keys.Key v b k) ∷ moved (keys.Key v b to) row ++ notes) (
        (volume, bucket, key),
        all_append IsFit (moved (keys.Key v b to) row) notes
            (moved_fit (gone (keys.Key v b k)) (keys.Key v b to) row notes refl (noted_each (λ (change : Change). is_key change.key ≡ false) rows v b k numbers (version_at row) (λ block has. refl))
            (subst (λ (c : List Change). AreInGrammar (after_changes c rows)) is after))
            (noted_each IsFit rows v b k numbers (version_at row) (λ block has. ((volume, bucket, (omega arith), (among IsBlock (version_at row) blocks.1 block has).1), key))),
      ))
  of_change fit request named changes is after = subst (λ (c : List Change). AreOperations (operations_for request c)) (sym is) (none_fit request)

  pub change_fit : AreInGrammar rows → (request : Request) (reply : Reply) (changes : List Change) → AreChanged rows request reply changes → (is_code reply ≡ false → name_fault request ≡ None) → AreInGrammar (after_changes changes rows) → AreOperations (operations_for request changes)
  unfolding is_code
  change_fit fit request replies.Done changes recorded named after = of_change fit request (named refl) changes recorded after
  change_fit fit request reply changes recorded named after = subst (λ (c : List Change). AreOperations (operations_for request c)) (sym recorded) (none_fit request)
