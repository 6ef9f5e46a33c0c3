-- Bodies one after another.
use Rattle.std.proofs.Common.{◌≡◌, ℕ, zero, suc, ◌<◌, ◌≤◌, ◌-◌, List, [], ◌∷◌, ◌++◌, length, take, drop, get_or, None, Some, refl, sym, ◌∙◌, ap, subst, arith}
use Rattle.oz_journal.specs.declared.body.Body.{Body}
use Rattle.oz_journal.specs.Body.{bodies_in}
use Rattle.oz_rows.specs.declared.fault.ReadFault.{ReadFault}
use Rattle.oz_rows.specs.declared.fault.ReadFault.TheVariants as reads
use Rattle.oz_rows.specs.declared.operation.Head.{Head}
use Rattle.oz_rows.specs.declared.operation.Operations.{Operations}
use Rattle.oz_rows.specs.Operations.{head_in}
use Rattle.oz_tables.specs.declared.built.fault.BuildFault.TheVariants as faults
use Rattle.oz_rows.specs.declared.entry.RowEntry.{RowEntry}
use Rattle.oz_tables.specs.Tables.{TableView}
use Rattle.oz_rows.specs.RowMaps.{row_of}
use Rattle.oz_effects.specs.Build.{AllAreBased, IsNextBody, BuildsFrom, no_head, IsDamagedBody, FailsFrom, FailsAt}
use Rattle.oz_rows.specs.declared.operation.TheConstants.{END_OF_INDEXES}
use Rattle.oz_tables.specs.built.Steps.{Follows, IfLeft, fault_in}
use Rattle.oz_rows.specs.laws.Splits.{parts_at}

-- one body more
pub builds_push : (before : List RowEntry) (last : Head) (bodies : List (List ℕ)) (between : List RowEntry) (middle : Head) (bytes : List ℕ) (body : Operations) (after : List RowEntry)
    → BuildsFrom before last bodies between middle → IsNextBody middle between bytes body after → BuildsFrom before last (bodies ++ bytes ∷ []) after (head_in body)
unfolding BuildsFrom
builds_push before last [] between middle bytes body after builds next =
    (body, after, subst (λ (last : Head). IsNextBody last before bytes body after) builds.1 (subst (λ (rows : List RowEntry). IsNextBody middle rows bytes body after) builds.0 next), (refl, refl))
builds_push before last (first ∷ bodies) between middle bytes body after (one, rows, is, builds) next = (one, rows, is, builds_push rows (head_in one) bodies between middle bytes body after builds next)

-- behind so many good bodies stands one that is damaged
fails_push : (before : List RowEntry) (last : Head) (bodies : List (List ℕ)) (between : List RowEntry) (middle : Head) (bytes : List ℕ) (later : List (List ℕ)) (place : ℕ)
    → BuildsFrom before last bodies between middle → IsDamagedBody middle between bytes place → FailsFrom before last (bodies ++ bytes ∷ later) (length bodies) place
unfolding BuildsFrom FailsFrom
fails_push before last [] between middle bytes later place builds damaged = subst (λ (last : Head). IsDamagedBody last before bytes place) builds.1 (subst (λ (rows : List RowEntry). IsDamagedBody middle rows bytes place) builds.0 damaged)
fails_push before last (first ∷ bodies) between middle bytes later place (one, rows, is, builds) damaged = (one, rows, is, fails_push rows (head_in one) bodies between middle bytes later place builds damaged)

none_built : (rows : List RowEntry) → rows ≡ [] → BuildsFrom [] no_head [] rows no_head
unfolding BuildsFrom
none_built rows no_rows = (no_rows, refl)

pub none_based : (rows : List RowEntry) → rows ≡ [] → AllAreBased rows
none_based rows none key base orphan = let clash : None ≡ Some orphan.row = sym (ap (λ (rows : List RowEntry). row_of rows key) none) ∙ orphan.stands in absurd cc

bodies_more : (bodies : List Body) (k : ℕ) (body : Body) → k < length bodies → body ≡ get_or bodies k body → bodies_in (take (suc k) bodies) ≡ bodies_in (take k bodies) ++ body.bytes ∷ []
bodies_more [] k body lt it = absurd (omega arith)
bodies_more (first ∷ bodies) zero body lt it = ap (λ (body : Body). body.bytes ∷ []) (sym it)
bodies_more (first ∷ bodies) (suc k) body lt it = ap (λ (texts : List (List ℕ)). first.bytes ∷ texts) (bodies_more bodies k body (omega arith) it)

-- what has been built of the first bodies, and the head of the last
pub record BuiltSoFar (bodies : List Body) (k : ℕ) (tables : TableView) (head : Head) : Type 0 where
  pub builds : BuildsFrom [] no_head (bodies_in (take k bodies)) tables.rows head
  pub index : head.index ≡ tables.last_index
  pub based : AllAreBased tables.rows
  pub small : tables.last_index < END_OF_INDEXES

pub one_more_built : (bodies : List Body) (k : ℕ) (body : Body) (before after : TableView) (last head : Head) → k < length bodies → body ≡ get_or bodies k body → BuiltSoFar bodies k before last → Follows last before body.bytes after head → BuiltSoFar bodies (suc k) after head
one_more_built bodies k body before after last head lt it so_far follows = record {
  builds = subst (λ (texts : List (List ℕ)). BuildsFrom [] no_head texts after.rows head) (sym (bodies_more bodies k body lt it))
      (subst (λ (h : Head). BuildsFrom [] no_head (bodies_in (take k bodies) ++ body.bytes ∷ []) after.rows h) follows.head_is
      (builds_push [] no_head (bodies_in (take k bodies)) before.rows last body.bytes follows.body after.rows so_far.builds follows.next));
  index = sym (ap (λ (h : Head). h.index) follows.head_is) ∙ follows.index;
  based = follows.next.based;
  small = subst (λ (index : ℕ). index < END_OF_INDEXES) follows.index follows.next.body_is.0.1.1;
}

bodies_split : (a : List Body) (body : Body) (b : List Body) → bodies_in (a ++ body ∷ b) ≡ bodies_in a ++ body.bytes ∷ bodies_in b
bodies_split [] body b = refl
bodies_split (first ∷ a) body b = ap (λ (texts : List (List ℕ)). first.bytes ∷ texts) (bodies_split a body b)

so_many : (bodies : List Body) (k : ℕ) → k ≤ length bodies → length (bodies_in (take k bodies)) ≡ k
so_many bodies zero le = refl
so_many [] (suc k) le = absurd (omega arith)
so_many (first ∷ bodies) (suc k) le = let rest = so_many bodies k (omega arith) in omega (arith, rest)

fails_here : (bodies : List Body) (k : ℕ) (body : Body) (before : TableView) (last : Head) (place : ℕ) → k < length bodies → body ≡ get_or bodies k body → BuiltSoFar bodies k before last → IsDamagedBody last before.rows body.bytes place → FailsAt (bodies_in bodies) k place
fails_here bodies k body before last place lt it so_far damaged =
    let parts = parts_at bodies k body lt ∙ ap (λ (other : Body). take k bodies ++ other ∷ drop (suc k) bodies) (sym it) in
    subst (λ (texts : List (List ℕ)). FailsFrom [] no_head texts k place) (sym (ap bodies_in parts ∙ bodies_split (take k bodies) body (drop (suc k) bodies)))
    (subst (λ (n : ℕ). FailsFrom [] no_head (bodies_in (take k bodies) ++ body.bytes ∷ bodies_in (drop (suc k) bodies)) n place) (so_many bodies k (omega arith))
    (fails_push [] no_head (bodies_in (take k bodies)) before.rows last body.bytes (bodies_in (drop (suc k) bodies)) place so_far.builds damaged))

pub damaged_here : (bodies : List Body) (k : ℕ) (body : Body) (before : TableView) (last : Head) (fault : ReadFault) → k < length bodies → body ≡ get_or bodies k body → BuiltSoFar bodies k before last
    → IfLeft (λ left. IsDamagedBody last before.rows body.bytes (length body.bytes - left)) fault → (count place : ℕ) → fault_in k body.bytes fault ≡ faults.Damaged count place → FailsAt (bodies_in bodies) count place
damaged_here bodies k body before last (reads.Left left) lt it so_far damaged count place is =
    let same_count : k ≡ count = cc in
    let same_place : length body.bytes - left ≡ place = cc in
    subst (λ (count : ℕ). FailsAt (bodies_in bodies) count place) same_count (subst (λ (place : ℕ). FailsAt (bodies_in bodies) k place) same_place (fails_here bodies k body before last (length body.bytes - left) lt it so_far damaged))
damaged_here bodies k body before last reads.OutOfMemory lt it so_far damaged count place is = absurd cc

pub none_so_far : (bodies : List Body) (tables : TableView) → tables.rows ≡ [] → tables.last_index ≡ 0 → BuiltSoFar bodies 0 tables no_head
none_so_far bodies tables no_rows no_index = record {
  builds = none_built tables.rows no_rows;
  index = sym no_index;
  based = none_based tables.rows no_rows;
  small = omega (arith, no_index);
}
