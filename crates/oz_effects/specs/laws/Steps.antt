-- What one operation leads to, and what a body adds to those before it.
use Rattle.std.proofs.Common.{◌≡◌, ◌<◌, ◌≤◌, ℕ, Bool, true, false, List, [], ◌∷◌, ◌++◌, Option, None, Some, IsSome, is_some}
use Rattle.std.proofs.Common.{cond, refl, sym, ◌∙◌, ap, subst, append-nil, arith}
use mathlib.Core.Bool.{false≢true}
use Rattle.oz_rows.specs.declared.key.RowKey.{RowKey}
use Rattle.oz_rows.specs.declared.row.Row.{Row}
use Rattle.oz_rows.specs.declared.operation.Change.{Change}
use Rattle.oz_rows.specs.declared.operation.Operation.{Operation}
use Rattle.oz_rows.specs.declared.operation.Operation.TheVariants.{Put, Remove}
use Rattle.oz_rows.specs.declared.operation.Head.{Head}
use Rattle.oz_rows.specs.declared.operation.Operations.{Operations}
use Rattle.oz_rows.specs.Rows.{RowFits, KeyFits, row_bytes, key_bytes}
use Rattle.oz_rows.specs.Operations.{IsIndex, head_bytes, head_in, new_head}
use Rattle.oz_rows.specs.declared.entry.RowEntry.{RowEntry}
use Rattle.oz_rows.specs.RowMaps.{Rows, row_of, is_same, KeysRise, put, gone, AreRows, after_changes}
use Rattle.oz_effects.specs.Effects.{Leads}
use Rattle.oz_effects.specs.Build.{base_of, AllAreBased, Builds, BuildsFrom, IsNextBody, Rises, no_head}
use Rattle.oz_effects.specs.Batches.{IsBatchOf}
use Rattle.oz_rows.specs.laws.Same.{same_is_one}
use Rattle.oz_rows.specs.laws.Changes.{become}

pub some_apart : {A : Type 0} {a : A} → Some a ≡ None → ⊥
some_apart e = false≢true (sym (ap is_some e))

pub some_inside : {A : Type 0} (d a b : A) → Some a ≡ Some b → a ≡ b
some_inside {A} d a b e = ap inside e
  where
    inside : Option A → A
    inside None = d
    inside (Some x) = x

-- a row that is put goes on needing what it needs, and takes from no other what that needs
module _ (l after : List RowEntry) (key : RowKey) (row : Row) (rows : (q : RowKey) → row_of after q ≡ cond (is_same key q) (Some row) (row_of l q)) where
  stays : (q : RowKey) → row_of after q ≡ None → row_of l q ≡ None
  stays q absent = by_test (is_same key q) refl
    where
      by_test : (t : Bool) → is_same key q ≡ t → row_of l q ≡ None
      by_test true e = absurd (some_apart (sym (rows q ∙ ap (λ (t : Bool). cond t (Some row) (row_of l q)) e) ∙ absent))
      by_test false e = sym (rows q ∙ ap (λ (t : Bool). cond t (Some row) (row_of l q)) e) ∙ absent

  pub put_based : AllAreBased l → ((base : RowKey) → base_of key row ≡ Some base → IsSome (row_of l base)) → AllAreBased after
  put_based based needed q base orphan = by_test (is_same key q) refl
    where
      by_test : (t : Bool) → is_same key q ≡ t → ⊥
      by_test true e =
          let here = sym (rows q ∙ ap (λ (t : Bool). cond t (Some row) (row_of l q)) e) ∙ orphan.stands in
          let needs = ap (λ k. base_of k row) (same_is_one key q e) ∙ ap (base_of q) (some_inside row row orphan.row here) ∙ orphan.needs in
          false≢true (sym (ap is_some (stays base orphan.absent)) ∙ needed base needs)
      by_test false e = based q base
          (record {
            row = orphan.row;
            stands = sym (rows q ∙ ap (λ (t : Bool). cond t (Some row) (row_of l q)) e) ∙ orphan.stands;
            needs = orphan.needs;
            absent = stays base orphan.absent;
          })

-- a row that no other needs may go
module _ (l after : List RowEntry) (key : RowKey) (rows : (q : RowKey) → row_of after q ≡ cond (is_same key q) None (row_of l q)) where
  pub gone_based : AllAreBased l → ((q : RowKey) (row : Row) → row_of l q ≡ Some row → base_of q row ≡ Some key → ⊥) → AllAreBased after
  gone_based based unneeded q base orphan = by_test (is_same key q) refl (is_same key base) refl
    where
      by_test : (t : Bool) → is_same key q ≡ t → (s : Bool) → is_same key base ≡ s → ⊥
      by_test true e s f = some_apart (sym orphan.stands ∙ rows q ∙ ap (λ (t : Bool). cond t None (row_of l q)) e)
      by_test false e true f =
          unneeded q orphan.row (sym (rows q ∙ ap (λ (t : Bool). cond t None (row_of l q)) e) ∙ orphan.stands)
          (orphan.needs ∙ ap Some (sym (same_is_one key base f)))
      by_test false e false f = based q base (record {
        row = orphan.row;
        stands = sym (rows q ∙ ap (λ (t : Bool). cond t None (row_of l q)) e) ∙ orphan.stands;
        needs = orphan.needs;
        absent = sym (rows base ∙ ap (λ (t : Bool). cond t None (row_of l base)) f) ∙ orphan.absent;
      })

pub put_is_batch : (rows : Rows) (key : RowKey) (row : Row) → RowFits key row → ((base : RowKey) → base_of key row ≡ Some base → IsSome (rows base))
    → IsBatchOf rows (1 ∷ row_bytes key row) (put key row ∷ [])
unfolding Leads
put_is_batch rows key row fits needed = record {
  items = Put key row ∷ [];
  fit = (fits, tt);
  bytes_are = sym (append-nil (1 ∷ row_bytes key row));
  comes = λ all are based.
      let made = become (put key row ∷ []) all are.in_order in
      record {
        after = made.0;
        leads = (made.0, tt, made.1, refl);
        based = put_based all made.0 key row made.1.rows based (λ base needs. subst IsSome (sym (are.rows_are base)) (needed base needs));
        rows_are = made.1.rows;
      };
}

pub removal_is_batch : (rows : Rows) (key : RowKey) → KeyFits key → IsSome (rows key)
    → ((other : RowKey) (row : Row) → rows other ≡ Some row → base_of other row ≡ Some key → ⊥) → IsBatchOf rows (2 ∷ key_bytes key) (gone key ∷ [])
unfolding Leads
removal_is_batch rows key fits there unneeded = record {
  items = Remove key ∷ [];
  fit = (fits, tt);
  bytes_are = sym (append-nil (2 ∷ key_bytes key));
  comes = λ all are based.
      let made = become (gone key ∷ []) all are.in_order in
      record {
        after = made.0;
        leads = (made.0, subst IsSome (sym (are.rows_are key)) there, made.1, refl);
        based = gone_based all made.0 key made.1.rows based (λ q row stands. unneeded q row (sym (are.rows_are q) ∙ stands));
        rows_are = made.1.rows;
      };
}

-- a batch without operations
pub nothing_is_batch : (rows : Rows) → IsBatchOf rows [] []
unfolding Leads
nothing_is_batch rows =
    record { items = []; fit = tt; bytes_are = refl; comes = λ all are based. record { after = all; leads = refl; based = based; rows_are = λ q. refl } }

pub one_more : (before : List RowEntry) (last : Head) (bodies : List (List ℕ)) (all : List RowEntry) (head : Head) → BuildsFrom before last bodies all head
    → (bytes : List ℕ) (body : Operations) (after : List RowEntry) → IsNextBody head all bytes body after
    → BuildsFrom before last (bodies ++ bytes ∷ []) after (head_in body)
unfolding BuildsFrom
one_more before last [] all head builds bytes body after next = (
  body,
  after,
  subst (λ l. IsNextBody l before bytes body after) builds.1 (subst (λ rows. IsNextBody head rows bytes body after) builds.0 next),
  (refl, refl),
)
one_more before last (first ∷ bodies) all head builds bytes body after next =
    (builds.0, builds.1, builds.2, one_more builds.1 (head_in builds.0) bodies all head builds.3 bytes body after next)

-- what holds of the rows of bodies
based_from : (before : List RowEntry) (last : Head) (bodies : List (List ℕ)) (all : List RowEntry) (head : Head) → BuildsFrom before last bodies all head
    → AllAreBased before → AllAreBased all
unfolding BuildsFrom
based_from before last [] all head builds based = subst AllAreBased (sym builds.0) based
based_from before last (first ∷ bodies) all head builds based = based_from builds.1 (head_in builds.0) bodies all head builds.3 builds.2.based

pub bodies_based : (bodies : List (List ℕ)) (all : List RowEntry) (last : ℕ) → Builds bodies all last → AllAreBased all
bodies_based bodies all last builds = based_from [] no_head bodies all builds.0 builds.1 (λ key base orphan. some_apart (sym orphan.stands))

pub leads_rise : (before : List RowEntry) (items : List Operation) (after : List RowEntry) → Leads before items after → KeysRise before → KeysRise after
unfolding Leads
leads_rise before [] after leads rise = subst KeysRise (sym leads) rise
leads_rise before (item ∷ items) after leads rise = leads_rise leads.0 items after leads.3 leads.2.in_order

rise_from : (before : List RowEntry) (last : Head) (bodies : List (List ℕ)) (all : List RowEntry) (head : Head) → BuildsFrom before last bodies all head
    → KeysRise before → KeysRise all
unfolding BuildsFrom
rise_from before last [] all head builds rise = subst KeysRise (sym builds.0) rise
rise_from before last (first ∷ bodies) all head builds rise =
    rise_from builds.1 (head_in builds.0) bodies all head builds.3 (leads_rise before builds.0.items builds.1 builds.2.leads rise)

-- there is one layout so far
layout_from : (before : List RowEntry) (last : Head) (bodies : List (List ℕ)) (all : List RowEntry) (head : Head) → BuildsFrom before last bodies all head
    → last.layout ≡ 1 → head.layout ≡ 1
unfolding BuildsFrom
layout_from before last [] all head builds e = ap (λ (h : Head). h.layout) builds.1 ∙ e
layout_from before last (first ∷ bodies) all head builds e = layout_from builds.1 (head_in builds.0) bodies all head builds.3 builds.2.body_is.0.0

pub body_follows : (bodies : List (List ℕ)) (all : List RowEntry) (last index : ℕ) (batch : List ℕ) (changes : List Change) → Builds bodies all last
    → IsIndex index → last < index → IsBatchOf (row_of all) batch changes → (after : List RowEntry)
    × Builds (bodies ++ (head_bytes (new_head index) ++ batch) ∷ []) after index × AreRows after (after_changes changes (row_of all))
body_follows bodies all last index batch changes builds fits rises is =
    let rise = rise_from [] no_head bodies all builds.0 builds.1 tt in
    let comes = is.comes all (record { in_order = rise; rows_are = λ q. refl }) (bodies_based bodies all last builds) in
    let body : Operations = record { layout = 1; index = index; items = is.items } in (
      comes.after,
      (
        head_in body,
        one_more [] no_head bodies all builds.0 builds.1 (head_bytes (new_head index) ++ batch) body comes.after (record {
          body_is = ((refl, fits), is.fit, ap (λ l. head_bytes (new_head index) ++ l) is.bytes_are);
          rises = record { layout = omega (arith, layout_from [] no_head bodies all builds.0 builds.1 refl); index = omega (arith, rises, builds.2) };
          leads = comes.leads;
          based = comes.based;
        }),
        refl,
      ),
      record { in_order = leads_rise all is.items comes.after comes.leads rise; rows_are = comes.rows_are },
    )
