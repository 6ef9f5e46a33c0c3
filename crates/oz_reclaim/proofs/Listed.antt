-- The names of a bucket's snapshots are gathered from row to row.
use Rattle.std.proofs.Common.{◌≡◌, ◌≢◌, inl, inr, ℕ, ◌<◌, ◌≤◌, nat_le, Bool, true, false, ◌||◌, ◌==◌, List, [], ◌∷◌, ◌++◌, Option, None, Some, is_some, cond, refl, sym, ◌∙◌, ap, subst, arith, append-nil, append_assoc}
use mathlib.Core.Bool.{false≢true}
use Rattle.std.proofs.lemmas.Bool.Decides.{nat_tests}
use Rattle.std.specs.List.{AllByRecursion}
use Rattle.oz_decision.specs.Meets.{AreInGrammar}
use Rattle.oz_decision.specs.Replies.{IsReply, ShowsThat}
use Rattle.oz_decision.specs.laws.Shown.{snapshots_of_bucket}
use Rattle.oz_model.specs.Answers.{Replies}
use Rattle.oz_model.specs.Refusals.{first_of, no_bucket, no_volume, refusal}
use Rattle.oz_model.specs.Scope.{scope_of}
use Rattle.oz_model.specs.laws.Order.{refused_by_row}
use Rattle.oz_names.specs.declared.code.Code.{Code}
use Rattle.oz_namespace.specs.declared.namespace.Snapshot.{Snapshot}
use Rattle.oz_namespace.specs.Namespace.{bucket_of, snapshots_of}
use Rattle.oz_reclaim.specs.Numbered.{AreListed, AreNamesUpTo, ListsAll, behind, name_in, names_of}
use Rattle.oz_reclaim.specs.Work.{IsNextOwner}
use Rattle.oz_requests.specs.declared.reply.Reply.TheVariants as replies
use Rattle.oz_requests.specs.declared.request.Request.{Request}
use Rattle.oz_requests.specs.declared.request.Request.TheVariants.{ListSnapshots}
use Rattle.oz_requests.specs.Names.{name_fault}
use Rattle.oz_rows.specs.declared.key.RowKey.TheVariants as keys
use Rattle.oz_rows.specs.declared.row.Row.{Row}
use Rattle.oz_rows.specs.declared.row.Row.TheVariants as rows
use Rattle.oz_rows.specs.declared.row.SnapshotState.TheVariants.{Live}
use Rattle.oz_rows.specs.RowMaps.{Rows}
use Rattle.oz_sound.specs.StandsFor.{AreSnapshots, IsLive, NumbersRise, is_among}

not_above : (n m : ℕ) → n ≤ m → nat_le n m ≡ true
not_above n m e = grind (arith, nat_tests, e)

above : (n m : ℕ) → m < n → nat_le n m ≡ false
above n m e = grind (arith, nat_tests, e)

is_above : (n m : ℕ) → nat_le n m ≡ false → m < n
is_above n m e = grind (arith, nat_tests, e)

not_over : (n m : ℕ) → nat_le n m ≡ true → n ≤ m
not_over n m e = grind (arith, nat_tests, e)

same_number : (n m : ℕ) → (m == n) ≡ true → m ≡ n
same_number n m e = grind (arith, nat_tests, e)

other_number : (n m : ℕ) → m < n → (m == n) ≡ false
other_number n m e = grind (arith, nat_tests, e)

further : (n m : ℕ) → n ≤ m → (m == n) ≡ false → n < m
further n m e f = grind (arith, nat_tests, e, f)

-- a number below all others is none of them
not_among : (n : ℕ) (l : List ℕ) → AllByRecursion (λ other. n < other) l → is_among n l ≡ true → ⊥
not_among n [] over e = false≢true e
not_among n (m ∷ l) over e = by_test (m == n) refl e (not_among n l over.1)
  where
    by_test : (t : Bool) → (m == n) ≡ t → t || is_among n l ≡ true → (is_among n l ≡ true → ⊥) → ⊥
    by_test true same e later =
        let is = same_number n m same in
        let under = over.0 in
        absurd (omega (arith, is, under))
    by_test false same e later = later e

all_over : (n m : ℕ) (l : List ℕ) → n ≤ m → AllByRecursion (λ other. m < other) l → AllByRecursion (λ other. n < other) l
all_over n m [] under over = tt
all_over n m (x ∷ l) under over = ((let more = over.0 in omega (arith, under, more)), all_over n m l under over.1)

module _ (all : Rows) (v b : List ℕ) where
  -- what no live snapshot has is no name
  no_name : (o : Option Row) → ((name : List ℕ) (previous : ℕ) → o ≡ Some (rows.Snapshot name previous Live) → ⊥) → name_in o ≡ []
  no_name (Some (rows.Snapshot name previous Live)) not = absurd (not name previous refl)
  no_name o not = refl

  -- greater numbers stay
  all_behind : (last : ℕ) (numbers : List ℕ) (l : List Snapshot) → AreSnapshots all v b numbers l → AllByRecursion (λ other. last < other) numbers → behind last numbers l ≡ l
  all_behind last [] [] are over = refl
  all_behind last [] (s ∷ l) are over = absurd are
  all_behind last (m ∷ numbers) [] are over = absurd are
  all_behind last (m ∷ numbers) (s ∷ l) are over = ap (λ (t : Bool). cond t (behind last numbers l) (s ∷ l)) (above m last over.0)

  pub names_at_first : AreNamesUpTo all v b 0 []
  names_at_first numbers l lists = ap names_of (all_behind 0 numbers l lists.each lists.least)

  module _ (last : ℕ) (names : List (List ℕ)) (upto : AreNamesUpTo all v b last names) where
    none_behind : ((later : ℕ) → last < later → is_some (all (keys.Snapshot v b later)) ≡ true → ⊥) → (numbers : List ℕ) (l : List Snapshot) → AreSnapshots all v b numbers l → behind last numbers l ≡ []
    none_behind none [] [] are = refl
    none_behind none [] (s ∷ l) are = absurd are
    none_behind none (m ∷ numbers) [] are = absurd are
    none_behind none (m ∷ numbers) (s ∷ l) are = by_test (nat_le m last) refl (none_behind none numbers l are.1)
      where
        by_test : (t : Bool) → nat_le m last ≡ t → behind last numbers l ≡ [] → cond t (behind last numbers l) (s ∷ l) ≡ []
        by_test true e later = later
        by_test false e later = absurd (none m (is_above m last e) (ap is_some are.0.row))

    pub all_named : IsNextOwner all v b last 0 → AreListed all v b names
    all_named (inl (is, none)) numbers l lists =
        sym (append-nil names) ∙ ap (λ (x : List Snapshot). names ++ names_of x) (sym (none_behind (λ later over some. none later (over, some)) numbers l lists.each)) ∙ upto numbers l lists
    all_named (inr (later, least)) numbers l lists = absurd (let over = later.0 in omega (arith, over))

    module _ (number : ℕ) (over : last < number) (least : (later : ℕ) → last < later → is_some (all (keys.Snapshot v b later)) ≡ true → number ≤ later) where
      abbrev own : List (List ℕ)
      own = name_in (all (keys.Snapshot v b number))

      step : (numbers : List ℕ) (l : List Snapshot) → AreSnapshots all v b numbers l → NumbersRise numbers → (IsLive all v b number → is_among number numbers ≡ true) → own ++ names_of (behind number numbers l) ≡ names_of (behind last numbers l)
      step [] [] are rise every = ap (λ (x : List (List ℕ)). x ++ []) (no_name (all (keys.Snapshot v b number)) (λ name previous is. false≢true (every (name, previous, is))))
      step [] (s ∷ l) are rise every = absurd are
      step (m ∷ numbers) [] are rise every = absurd are
      step (m ∷ numbers) (s ∷ l) are rise every = by_test (nat_le m last) refl (m == number) refl (step numbers l are.1 rise.1)
        where
          by_test : (t : Bool) → nat_le m last ≡ t → (u : Bool) → (m == number) ≡ u
              → ((IsLive all v b number → is_among number numbers ≡ true) → own ++ names_of (behind number numbers l) ≡ names_of (behind last numbers l))
              → own ++ names_of (behind number (m ∷ numbers) (s ∷ l)) ≡ names_of (cond t (behind last numbers l) (s ∷ l))
          by_test true e u f later =
              let under = not_over m last e in
              let less : m < number = omega (arith, under, over) in
              ap (λ (t : Bool). own ++ names_of (cond t (behind number numbers l) (s ∷ l))) (not_above m number (omega (arith, less)))
              ∙ later (λ live. sym (ap (λ (t : Bool). t || is_among number numbers) (other_number number m less)) ∙ every live)
          by_test false e true f later =
              let same = same_number number m f in
              ap (λ (t : Bool). own ++ names_of (cond t (behind number numbers l) (s ∷ l))) (not_above m number (omega (arith, same)))
              ∙ ap (λ (x : List Snapshot). own ++ names_of x) (all_behind number numbers l are.1 (all_over number m numbers (omega (arith, same)) rise.0))
              ∙ ap (λ (o : Option Row). name_in o ++ names_of l) (ap (λ n. all (keys.Snapshot v b n)) (sym same) ∙ are.0.row)
          by_test false e false f later =
              let no_less = least m (is_above m last e) (ap is_some are.0.row) in
              let more = further number m no_less f in
              let among_none = not_among number (m ∷ numbers) (more, all_over number m numbers no_less rise.0) in
              ap (λ (t : Bool). own ++ names_of (cond t (behind number numbers l) (s ∷ l))) (above m number more)
              ∙ ap (λ (x : List (List ℕ)). x ++ names_of (s ∷ l)) (no_name (all (keys.Snapshot v b number)) (λ name previous is. among_none (every (name, previous, is))))

    pub one_more : (number : ℕ) → number ≢ 0 → IsNextOwner all v b last number → AreNamesUpTo all v b number (names ++ name_in (all (keys.Snapshot v b number)))
    one_more number some (inl (is, none)) numbers l lists = absurd (some is)
    one_more number some (inr (later, least)) numbers l lists =
        append_assoc names (name_in (all (keys.Snapshot v b number))) (names_of (behind number numbers l))
        ∙ ap (λ (x : List (List ℕ)). names ++ x) (step number later.0 (λ n over there. least n (over, there)) numbers l lists.each lists.rise (lists.every number))
        ∙ upto numbers l lists

  -- ---- the reply

  all_least : AreInGrammar all → (numbers : List ℕ) (l : List Snapshot) → AreSnapshots all v b numbers l → AllByRecursion (λ number. 0 < number) numbers
  all_least fit [] [] are = tt
  all_least fit [] (s ∷ l) are = tt
  all_least fit (m ∷ numbers) [] are = absurd are
  all_least fit (m ∷ numbers) (s ∷ l) are =
      let least = (fit (keys.Snapshot v b m) (rows.Snapshot s.name are.0.previous Live) are.0.row).0.2.0 in
      (omega (arith, least), all_least fit numbers l are.1)

  module _ (named : name_fault (ListSnapshots v b) ≡ None) where
    abbrev asked : Request
    asked = ListSnapshots v b

    pub by_names : ShowsThat all (λ namespace. None ≡ first_of (no_volume (scope_of namespace v) ∷ no_bucket (scope_of namespace v) b ∷ [])) → (names : List (List ℕ)) → AreListed all v b names → IsReply all asked (replies.Names names)
    by_names found names listed = λ namespace stand.
        let snapshots = stand.stands.snapshots v b in
        let none : refusal (scope_of namespace v) asked ≡ None = refused_by_row (scope_of namespace v) asked named (sym (found namespace stand)) in
        let lists : ListsAll all v b snapshots.numbers (snapshots_of namespace v b) = record { rise = snapshots.rise; least = all_least stand.fit snapshots.numbers _ snapshots.each; every = snapshots.every; each = snapshots.each } in
        subst (λ (o : Option Code). Replies o (scope_of namespace v) asked (replies.Names names)) (sym none)
        (ap replies.Names (listed snapshots.numbers (snapshots_of namespace v b) lists ∙ ap names_of (sym (snapshots_of_bucket (bucket_of namespace v b)))))
