-- A session gets a block: what is refused, and what the grant does to the rows and to the namespace.
use Rattle.std.proofs.Common.{◌≡◌, ℕ, Bool, true, nat_le, List, [], ◌∷◌, ◌++◌, length, ◌≤◌, Option, None, Some, IsSome, is_some, cond, sym, ◌∙◌, ap, subst, arith}
use mathlib.Core.Bool.{false≢true}
use Rattle.std.proofs.lemmas.Option.{same_Some}
use Rattle.oz_fields.specs.declared.block.Block.{Block}
use Rattle.oz_rows.specs.declared.key.RowKey.{RowKey}
use Rattle.oz_rows.specs.declared.operation.Change.{Change}
use Rattle.oz_rows.specs.declared.operation.Operation.TheVariants.{Put}
use Rattle.oz_rows.specs.declared.row.Row.TheVariants as rows
use Rattle.oz_rows.specs.Operations.{batch_bytes}
use Rattle.oz_rows.specs.RowMaps.{put}
use Rattle.oz_rows.specs.Rows.{IsBlock, AreItems, RowFits}
use Rattle.oz_decision.specs.Drafts.{row_by_row}
use Rattle.oz_decision.specs.Meets.{AreInGrammar, IsSafe}
use Rattle.oz_decision.specs.laws.OneRow.{put_is_safe, alone_is_short}
use Rattle.oz_om_session.specs.Sessions.{HasRoom}
use Rattle.oz_decision.specs.laws.SessionRows.{OpenRow, open_row, volume_is, bucket_is, key_is, all_append, size_with_one}
use Rattle.oz_names.specs.declared.code.Code.{Code}
use Rattle.oz_names.specs.declared.code.Code.TheVariants.{SessionFull}
use Rattle.oz_namespace.specs.declared.namespace.Namespace.{Namespace}
use Rattle.oz_model.specs.Buckets.{bucket_at, has_all_blocks}
use Rattle.oz_model.specs.Refusals.{Refusal, where_so, first_of, no_volume, no_bucket, no_session, refusal}
use Rattle.oz_model.specs.Scope.{scope_of}
use Rattle.oz_model.specs.declared.scope.Scope.{Scope}
use Rattle.oz_requests.specs.declared.request.Exclude.{Exclude}
use Rattle.oz_requests.specs.declared.request.Request.{Request}
use Rattle.oz_requests.specs.declared.request.Request.TheVariants.{AllocateBlock}
use Rattle.oz_requests.specs.Names.{name_fault}
use Rattle.oz_rows.specs.declared.key.RowKey.TheVariants as keys
use Rattle.oz_rows.specs.RowMaps.{Rows}
use Rattle.oz_sound.specs.Sound.{IsSoundButRenames}
use Rattle.oz_decision.specs.Meets.{Stand}
use Rattle.oz_decision.specs.Sessions.{blocks_at, is_open}
use Rattle.oz_decision.specs.laws.Sessions.{own_refusals, first_found, none_found, blocks_are}

module _ (all : Rows) (v b : List ℕ) (namespace : Namespace) (stand : Stand IsSoundButRenames all namespace) (k : List ℕ) (n : ℕ) (exclude : Exclude) (named : name_fault (AllocateBlock v b k n exclude) ≡ None) where
  abbrev scope : Scope
  scope = scope_of namespace v

  abbrev not_there : List Refusal
  not_there = no_volume scope ∷ no_bucket scope b ∷ no_session (bucket_at namespace v b) k n ∷ []

  abbrev full : Refusal
  full = where_so (has_all_blocks (bucket_at namespace v b) n) SessionFull

  -- a session that isn't there gets no block
  pub refused_missing : (code : Option Code) (c : Code) → code ≡ Some c → code ≡ first_of not_there → Some c ≡ refusal scope (AllocateBlock v b k n exclude)
  refused_missing code c is e = first_found not_there (full ∷ []) code c is e ∙ sym (own_refusals scope (AllocateBlock v b k n exclude) named)

  -- nor does one that has as many blocks as it may
  pub refused_full : (code : Option Code) (t : Bool) → code ≡ None → code ≡ first_of not_there → is_open n (all (keys.Open v b k n)) ≡ true → t ≡ nat_le 256 (length (blocks_at (all (keys.Open v b k n)))) → cond t (Some SessionFull) None ≡ refusal scope (AllocateBlock v b k n exclude)
  refused_full code t none e opened is =
      ap (λ (u : Bool). cond u (Some SessionFull) None) (is ∙ ap (λ blocks. nat_le 256 (length blocks)) (sym (blocks_are all v b namespace stand k n opened)))
      ∙ none_found not_there (full ∷ []) code none e ∙ sym (own_refusals scope (AllocateBlock v b k n exclude) named)

some_apart : {A : Type 0} {a : A} → Some a ≡ None → ⊥
some_apart e = false≢true (sym (ap is_some e))

module _ (all : Rows) (v b k : List ℕ) (n : ℕ) (exclude : Exclude) (named : name_fault (AllocateBlock v b k n exclude) ≡ None) (room : HasRoom all v b k n) (block : Block) (fits : IsBlock block) where
  abbrev request : Request
  request = AllocateBlock v b k n exclude

  abbrev session : RowKey
  session = keys.Open v b k n

  abbrev blocks : List Block
  blocks = blocks_at (all session)

  abbrev more : List Block
  more = blocks ++ block ∷ []

  abbrev changes : List Change
  changes = put session (rows.Open more) ∷ []

  pub opened : OpenRow n (all session)
  opened = open_row n (all session) room.is.session_there

  more_fit : AreItems IsBlock more
  more_fit = (
    (let size = size_with_one blocks block in let few = room.room in omega (arith, size, few)),
    all_append IsBlock blocks (block ∷ []) opened.blocks_fit.1 (fits, tt),
  )

  pub row_fits : RowFits session (rows.Open more)
  row_fits = ((volume_is v b k [] named, bucket_is v b k [] named, key_is v b k [] named, (opened.number_fits, room.is.small)), more_fit)

  pub is_safe : AreInGrammar all → IsSafe all (batch_bytes (row_by_row changes)) changes
  is_safe fit = put_is_safe all fit session (rows.Open more) row_fits (λ base e. subst (λ q. IsSome (all q)) (same_Some (keys.Bucket v b) base e) room.is.bucket_there)

  pub is_short : length (batch_bytes (row_by_row changes)) ≤ 6304
  is_short = alone_is_short (Put session (rows.Open more)) row_fits
