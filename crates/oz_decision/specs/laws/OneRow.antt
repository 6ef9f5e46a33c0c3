-- What a decision owes that changes one row, or none.
use Rattle.std.proofs.Common.{
  ◌≡◌,
  ◌≤◌,
  ◌↔◌,
  ℕ,
  Bool,
  true,
  false,
  List,
  [],
  ◌∷◌,
  ◌++◌,
  length,
  Option,
  None,
  Some,
  IsSome,
  is_some,
  cond,
  refl,
  sym,
  ◌∙◌,
  ap,
  subst,
  arith,
  inl,
  append-nil,
}
use mathlib.Core.Bool.{false≢true}
use Rattle.std.proofs.lemmas.Option.{same_Some}
use Rattle.oz_fields.specs.declared.block.Block.{Block}
use Rattle.oz_model.specs.Answers.{Answers, after}
use Rattle.oz_namespace.specs.declared.namespace.Namespace.{Namespace}
use Rattle.oz_requests.specs.declared.reply.Reply.{Reply}
use Rattle.oz_requests.specs.declared.request.Request.{Request}
use Rattle.oz_rows.specs.declared.key.RowKey.{RowKey}
use Rattle.oz_rows.specs.declared.row.Row.{Row}
use Rattle.oz_rows.specs.declared.operation.Change.{Change}
use Rattle.oz_rows.specs.declared.operation.Operation.{Operation}
use Rattle.oz_rows.specs.declared.operation.Operation.TheVariants.{Put, Remove}
use Rattle.oz_rows.specs.Operations.{OperationFits, batch_bytes, operation_bytes}
use Rattle.oz_rows.specs.Rows.{RowFits, KeyFits}
use Rattle.oz_rows.specs.RowMaps.{after_changes, put, gone, Rows, is_same}
use Rattle.oz_rows.specs.laws.Same.{same_is_one}
use Rattle.oz_rows.specs.laws.Sizes.{operation_size}
use Rattle.oz_effects.specs.Batches.{IsBatchOf}
use Rattle.oz_effects.specs.Build.{base_of}
use Rattle.oz_effects.specs.laws.Steps.{put_is_batch, removal_is_batch, nothing_is_batch}
use Rattle.oz_sound.specs.Kept.{KeepsBlocks}
use Rattle.oz_sound.specs.Sound.{IsHome, IsSound, IsSoundButRenames, RenamesAreSound}
use Rattle.oz_sound.specs.laws.BucketChanges.{replaced}
use Rattle.oz_decision.specs.Drafts.{operation_for, row_by_row}
use Rattle.oz_decision.specs.Meets.{AreInGrammar, IsSafe, Stand, Meets, granted_in, MayGo}

some_apart : {A : Type 0} {a : A} → Some a ≡ None → ⊥
some_apart e = false≢true (sym (ap is_some e))

-- rows in the grammar stay so where one that fits takes the place of another
pub fit_replaced : (all : Rows) (key : RowKey) (row : Option Row) → ((r : Row) → row ≡ Some r → RowFits key r) → AreInGrammar all
    → AreInGrammar (replaced all key row)
fit_replaced all key row fits fit q r e = by_test (is_same key q) refl
  where
    by_test : (t : Bool) → is_same key q ≡ t → RowFits q r
    by_test true is = subst (λ k. RowFits k r) (same_is_one key q is) (fits r (sym (ap (λ (t : Bool). cond t row (all q)) is) ∙ e))
    by_test false is = fit q r (sym (ap (λ (t : Bool). cond t row (all q)) is) ∙ e)

pub it_fits : (key : RowKey) (row : Row) → RowFits key row → (r : Row) → Some row ≡ Some r → RowFits key r
it_fits key row fits r e = subst (RowFits key) (same_Some row r e) fits

pub none_fits : (key : RowKey) (r : Row) → None ≡ Some r → RowFits key r
none_fits key r e = absurd (some_apart (sym e))

-- the batch of one operation is no longer than an operation
pub alone_is_short : (operation : Operation) → OperationFits operation → length (batch_bytes (operation ∷ [])) ≤ 6304
alone_is_short operation fits = subst (λ (b : List ℕ). length b ≤ 6304) (sym (append-nil (operation_bytes operation))) (operation_size operation fits)

-- each change that is made row by row has bytes
some_bytes : (key : RowKey) (row : Option Row) (rest : List ℕ) → operation_bytes (operation_for key row) ++ rest ≡ [] → ⊥
some_bytes key (Some row) rest e = absurd (cc)
some_bytes key None rest e = absurd (cc)

pub has_bytes : (changes : List Change) → (batch_bytes (row_by_row changes) ≡ []) ↔ (changes ≡ [])
has_bytes [] = (λ e. refl, λ e. refl)
has_bytes (change ∷ changes) = ((λ e. absurd (some_bytes change.key change.row (batch_bytes (row_by_row changes)) e)), λ e. absurd (cc))

module _ (all : Rows) (fit : AreInGrammar all) where
  pub nothing_is_safe : IsSafe all [] []
  nothing_is_safe = record { batch = nothing_is_batch all; size = omega arith; fit = fit }

  -- a row whose base is there may be put
  pub put_is_safe : (key : RowKey) (row : Row) → RowFits key row → ((base : RowKey) → base_of key row ≡ Some base → IsSome (all base))
      → IsSafe all (batch_bytes (Put key row ∷ [])) (put key row ∷ [])
  put_is_safe key row fits based =
      let bytes = append-nil (operation_bytes (Put key row)) in
      record {
        batch = subst (λ (b : List ℕ). IsBatchOf all b (put key row ∷ [])) (sym bytes) (put_is_batch all key row fits based);
        size = subst (λ (b : List ℕ). length b ≤ 67108864) (sym bytes) (let few = operation_size (Put key row) fits in omega (arith, few));
        fit = fit_replaced all key (Some row) (it_fits key row fits) fit;
      }

  -- a row that is there may go where none stands on it
  pub removal_is_safe : (key : RowKey) → KeyFits key → IsSome (all key)
      → ((other : RowKey) (row : Row) → all other ≡ Some row → base_of other row ≡ Some key → ⊥)
      → IsSafe all (batch_bytes (Remove key ∷ [])) (gone key ∷ [])
  removal_is_safe key fits there unneeded =
      let bytes = append-nil (operation_bytes (Remove key)) in
      record {
        batch = subst (λ (b : List ℕ). IsBatchOf all b (gone key ∷ [])) (sym bytes) (removal_is_batch all key fits there unneeded);
        size = subst (λ (b : List ℕ). length b ≤ 67108864) (sym bytes) (let few = operation_size (Remove key) fits in omega (arith, few));
        fit = fit_replaced all key None (none_fits key) fit;
      }

-- no block moves where the rows of keys, open keys and deleted keys are as they were
pub homes_kept : (all now : Rows) (granted : Option Block) (Gone : Block → Type 0) → ((key : RowKey) → IsHome key → now key ≡ all key)
    → KeepsBlocks all now granted Gone
homes_kept all now granted Gone same = record {
  none_lost = λ block had. inl (record {
    key = had.key;
    home = had.home;
    here = record { row = had.here.row; there = same had.key had.home ∙ had.here.there; has = had.here.has };
  });
  none_made = λ block has. inl (record {
    key = has.key;
    home = has.home;
    here = record { row = has.here.row; there = sym (same has.key has.home) ∙ has.here.there; has = has.here.has };
  });
}

-- the row of a key that is no home leaves blocks where they are
pub no_home_kept : (all : Rows) (key : RowKey) (row : Option Row) → (IsHome key → ⊥) → (q : RowKey) → IsHome q → replaced all key row q ≡ all q
no_home_kept all key row no_home q home = by_test (is_same key q) refl
  where
    by_test : (t : Bool) → is_same key q ≡ t → cond t row (all q) ≡ all q
    by_test true e = absurd (no_home (subst IsHome (sym (same_is_one key q e)) home))
    by_test false e = refl

-- a decision that changes nothing
pub nothing_changes : (Sound : Rows → Type 0) (all : Rows) (namespace : Namespace) (request : Request) (reply : Reply) → Stand Sound all namespace
    → Answers namespace request reply → after namespace request reply ≡ namespace → Meets Sound all namespace request reply [] []
nothing_changes Sound all namespace request reply stand answers same = record {
  answers = answers;
  batch = nothing_is_batch all;
  leads = subst (Stand Sound all) (sym same) stand;
  blocks = homes_kept all all (granted_in reply) (MayGo all request) (λ key home. refl);
  keeps = λ e. refl;
}

-- rows that are sound in all are so but for renamed rows
pub most : (all : Rows) → IsSound all → IsSoundButRenames all
most all sound = record { blocks = sound.blocks; names = sound.names; numbers = sound.numbers; counts = sound.counts }

pub stand_but_renames : (all : Rows) (namespace : Namespace) → Stand IsSound all namespace → Stand IsSoundButRenames all namespace
stand_but_renames all namespace stand = record { fit = stand.fit; stands = stand.stands; sound = most all stand.sound }

-- a decision that keeps what renamed rows say keeps rows sound in all
pub meets_in_all : (all : Rows) (namespace : Namespace) (request : Request) (reply : Reply) (bytes : List ℕ) (changes : List Change)
    → Meets IsSoundButRenames all namespace request reply bytes changes → RenamesAreSound (after_changes changes all)
    → Meets IsSound all namespace request reply bytes changes
meets_in_all all namespace request reply bytes changes meets renames = record {
  answers = meets.answers;
  batch = meets.batch;
  leads = record {
    fit = meets.leads.fit;
    stands = meets.leads.stands;
    sound = record {
      blocks = meets.leads.sound.blocks;
      names = meets.leads.sound.names;
      renames = renames;
      numbers = meets.leads.sound.numbers;
      counts = meets.leads.sound.counts;
    };
  };
  blocks = meets.blocks;
  keeps = meets.keeps;
}
