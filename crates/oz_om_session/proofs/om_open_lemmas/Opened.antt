-- What an opened session does to the rows, and to the namespace for which they stand.
use Rattle.std.proofs.Common.{◌≡◌, ◌≢◌, ◌↔◌, ◌≤◌, ◌<◌, ◌+◌, ℕ, Bool, true, false, ◌&&◌, nat_le, List, [], Option, None, Some, IsSome, is_some, cond, refl, sym, ◌∙◌, ap, subst, arith, inl}
use mathlib.Core.Bool.{false≢true}
use Rattle.std.proofs.lemmas.Bool.Decides.{nat_tests}
use Rattle.std.proofs.lemmas.Cmp.{nat_cmp_total}
use Rattle.std.proofs.lemmas.Option.{same_Some}
use Rattle.std.specs.Prelude.{slice_index, slice_set}
use Rattle.std.specs.FinMap.{len, get, get-insert, len-insert}
use Rattle.std.specs.List.{list_any}
use Rattle.oz_fields.specs.declared.block.Block.{Block}
use Rattle.oz_names.specs.Names.{stripe_of}
use Rattle.oz_namespace.specs.declared.namespace.Bucket.{Bucket}
use Rattle.oz_namespace.specs.declared.namespace.Namespace.{Namespace}
use Rattle.oz_namespace.specs.declared.namespace.Session.{Session}
use Rattle.oz_namespace.specs.Namespace.{bucket_of, buckets_of, snapshots_of}
use Rattle.oz_model.specs.Answers.{Answers, after}
use Rattle.oz_model.specs.Buckets.{buckets_at, bucket_at, with_session}
use Rattle.oz_model.specs.Refusals.{refusal, refusals}
use Rattle.oz_model.specs.Scope.{scope_of}
use Rattle.oz_requests.specs.declared.reply.Reply.TheVariants as replies
use Rattle.oz_requests.specs.declared.request.Request.{Request}
use Rattle.oz_requests.specs.declared.request.Request.TheVariants.{CreateKey}
use Rattle.oz_requests.specs.Names.{name_fault}
use Rattle.oz_rows.specs.declared.key.RowKey.{RowKey}
use Rattle.oz_rows.specs.declared.key.RowKey.TheVariants as keys
use Rattle.oz_rows.specs.declared.operation.Change.{Change}
use Rattle.oz_rows.specs.declared.row.Row.{Row}
use Rattle.oz_rows.specs.declared.row.Row.TheVariants as rows
use Rattle.oz_rows.specs.Operations.{batch_bytes}
use Rattle.oz_rows.specs.Rows.{kind_of}
use Rattle.oz_rows.specs.RowMaps.{Rows, is_same, is_block, after_changes}
use Rattle.oz_rows.specs.laws.Same.{same_is_one}
use Rattle.oz_sound.specs.Sound.{StandsIn, blocks_of, bucket_of_row, IsHome, IsKeeper, IsUsing, AtMost, IsSoundButRenames, RenamesAreSound}
use Rattle.oz_sound.specs.StandsFor.{StandsFor, SnapshotsStand, drawn_in, pieces_in}
use Rattle.oz_sound.specs.laws.BucketChanges.{is_name, one_name, itself}
use Rattle.oz_decision.specs.Drafts.{row_by_row}
use Rattle.oz_decision.specs.Meets.{Stand, Meets}
use Rattle.oz_decision.specs.Sessions.{blocks_at}
use Rattle.oz_decision.specs.laws.Lookups.{absent_from, there_are}
use Rattle.oz_decision.specs.laws.Refusing.{passed, not_refused}
use Rattle.oz_decision.specs.laws.Sessions.{session_stands}
use Rattle.oz_decision.specs.laws.Shown.{is_number, one_number, number_itself, key_itself, pieces_at, volume_there, snapshots_again, snapshots_of_bucket}
use Rattle.oz_sound.specs.frames.Buckets.{IsOutside, BucketBecomes, with_bucket}
use Rattle.oz_sound.specs.frames.Moves.{BlocksMove, NamesStay}
use Rattle.oz_sound.specs.frames.laws.Bare.{bare_stripes}
use Rattle.oz_sound.specs.frames.laws.Becoming.{bucket_becomes}
use Rattle.oz_sound.specs.frames.laws.Moving.{at_most, sound_moved, blocks_kept, renames_moved}
use Rattle.oz_om_session.specs.om_open.Allowed.{MayCreate}
use Rattle.oz_om_session.specs.om_open.Records.{changes_of_create}
use Rattle.oz_om_session.proofs.om_open_lemmas.Numbers.{stripe_is, drawn_shown, numbers_after}
use Rattle.oz_om_session.proofs.om_open_lemmas.Using.{uses_counted}
use Rattle.oz_om_session.proofs.om_open_lemmas.Opening.{is_safe}

some_apart : {A : Type 0} {a : A} → Some a ≡ None → ⊥
some_apart e = false≢true (sym (ap is_some e))

keeper_home : (q : RowKey) → IsKeeper q → IsHome q
keeper_home (keys.Key w c r) keeper = tt
keeper_home (keys.Deleted w c o r l) keeper = tt
keeper_home q keeper = absurd keeper

its_number : RowKey → ℕ
its_number (keys.Stripe s) = s
its_number key = 0

abbrev session_of : List ℕ → List Block → Session
session_of key blocks = record { key = key; blocks = blocks }

one_stripe : (s t : ℕ) → is_same (keys.Stripe s) (keys.Stripe t) ≡ true → s ≡ t
unfolding its_number
one_stripe s t e = ap its_number (same_is_one (keys.Stripe s) (keys.Stripe t) e)

module _ (all : Rows) (v b k : List ℕ) (n : ℕ) (named : name_fault (CreateKey v b k) ≡ None) (may : MayCreate all v b n) where
  abbrev request : Request
  request = CreateKey v b k

  abbrev session : RowKey
  session = keys.Open v b k n

  abbrev stripe : RowKey
  stripe = keys.Stripe (stripe_of v)

  abbrev changes : List Change
  changes = changes_of_create request n

  abbrev now : Rows
  now = after_changes changes all

  pub least : 1 ≤ n
  least = let next = may.next in omega (arith, next)

  -- the number was drawn for no session before
  free : IsSoundButRenames all → (q : List ℕ) → all (keys.Open v b q n) ≡ None
  free sound q = absent_from (all (keys.Open v b q n)) (λ some. let drawn = sound.numbers.sessions v b q n some in let next = may.next in omega (arith, drawn, next))

  -- no block stands in the two rows
  before : (block : Block) (q : RowKey) → StandsIn now block q → StandsIn all block q
  before block q stands = by_tests (is_same stripe q) (is_same session q) stands.there
    where
      by_tests : (s t : Bool) → cond s (Some (rows.Stripe n)) (cond t (Some (rows.Open [])) (all q)) ≡ Some stands.row → StandsIn all block q
      by_tests true t there = absurd (false≢true (ap (λ (r : Row). list_any (is_block block) (blocks_of r)) (same_Some (rows.Stripe n) stands.row there) ∙ stands.has))
      by_tests false true there = absurd (false≢true (ap (λ (r : Row). list_any (is_block block) (blocks_of r)) (same_Some (rows.Open []) stands.row there) ∙ stands.has))
      by_tests false false there = record { row = stands.row; there = there; has = stands.has }

  module _ (namespace : Namespace) (stand : Stand IsSoundButRenames all namespace) where
    later : (block : Block) (q : RowKey) → StandsIn all block q → StandsIn now block q
    later block q stands = by_tests (is_same stripe q) refl (is_same session q) refl
      where
        by_tests : (s : Bool) → is_same stripe q ≡ s → (t : Bool) → is_same session q ≡ t → StandsIn now block q
        by_tests true e t f = absurd (bare_stripes all stand.fit (stripe_of v) block (subst (StandsIn all block) (sym (same_is_one stripe q e)) stands))
        by_tests false e true f = absurd (some_apart (sym stands.there ∙ ap all (sym (same_is_one session q f)) ∙ free stand.sound k))
        by_tests false e false f = record { row = stands.row; there = (λ i. cond (e i) (Some (rows.Stripe n)) (cond (f i) (Some (rows.Open [])) (all q))) ∙ stands.there; has = stands.has }

    others : (q : RowKey) → (IsHome q → ⊥) → kind_of q ≢ 9 → now q ≡ all q
    others q no_home kind = by_tests (is_same stripe q) refl (is_same session q) refl
      where
        by_tests : (s : Bool) → is_same stripe q ≡ s → (t : Bool) → is_same session q ≡ t → cond s (Some (rows.Stripe n)) (cond t (Some (rows.Open [])) (all q)) ≡ all q
        by_tests true e t f = absurd (kind (ap kind_of (sym (same_is_one stripe q e))))
        by_tests false e true f = absurd (no_home (subst IsHome (same_is_one session q f) tt))
        by_tests false e false f = refl

    abbrev drawn_row : ℕ → Bool → Option Row
    drawn_row s t = cond t (Some (rows.Stripe n)) (all (keys.Stripe s))

    drawn : (s : ℕ) → drawn_in (all (keys.Stripe s)) ≤ drawn_in (now (keys.Stripe s))
    drawn s = by_test (is_same stripe (keys.Stripe s)) refl
      where
        by_test : (t : Bool) → is_same stripe (keys.Stripe s) ≡ t → drawn_in (all (keys.Stripe s)) ≤ drawn_in (drawn_row s t)
        by_test true e =
            let next = may.next in
            let same = ap (λ s. drawn_in (all (keys.Stripe s))) (one_stripe (stripe_of v) s e) in
            omega (arith, next, same)
        by_test false e = omega arith

    drawn_now : drawn_in (now stripe) ≡ n
    drawn_now = ap (λ (t : Bool). drawn_in (drawn_row (stripe_of v) t)) (key_itself stripe)

    numbers : (w c q : List ℕ) (m : ℕ) → IsSome (now (keys.Open w c q m)) → m ≤ drawn_in (now (keys.Stripe (stripe_of w)))
    numbers w c q m some = by_test (is_same session (keys.Open w c q m)) refl some
      where
        by_test : (t : Bool) → is_same session (keys.Open w c q m) ≡ t → IsSome (cond t (Some (rows.Open [])) (all (keys.Open w c q m))) → m ≤ drawn_in (now (keys.Stripe (stripe_of w)))
        by_test true e some =
            let same = same_is_one session (keys.Open w c q m) e in
            let number : n ≡ m = cc in
            let volume : v ≡ w = cc in
            let had = sym drawn_now ∙ ap (λ x. drawn_in (now (keys.Stripe (stripe_of x)))) volume in
            omega (arith, number, had)
        by_test false e some =
            let was = stand.sound.numbers.sessions w c q m some in
            let more = drawn (stripe_of w) in
            omega (arith, was, more)

    abbrev old : Bucket
    old = bucket_at namespace v b

    abbrev new : Bucket
    new = with_session old n k []

    no_session : get old.sessions n ≡ None
    no_session = by_case (get old.sessions n) refl
      where
        by_case : (o : Option Session) → get old.sessions n ≡ o → get old.sessions n ≡ None
        by_case None e = e
        by_case (Some s) e = absurd (some_apart (sym ((session_stands all v b namespace stand n s).0 e) ∙ free stand.sound s.key))

    pieces_now : (q : List ℕ) → get new.keys q ≡ pieces_in (now (keys.Key v b q))
    pieces_now q = sym (pieces_at (bucket_of namespace v b) q) ∙ stand.stands.pieces v b q

    abbrev made : Session
    made = record { key = k; blocks = [] }

    gets : (m : ℕ) → get new.sessions m ≡ cond (is_number m n) (Some made) (get old.sessions m)
    gets m = get-insert nat_cmp_total old.sessions n made m

    row_at : (m : ℕ) (s : Session) → is_number m n ≡ true → (t : Bool) → is_same session (keys.Open v b s.key m) ≡ t → (Some made ≡ Some s) ↔ (cond t (Some (rows.Open [])) (all (keys.Open v b s.key m)) ≡ Some (rows.Open s.blocks))
    row_at m s e true f =
        let same = same_is_one session (keys.Open v b s.key m) f in
        let key : k ≡ s.key = cc in
        (λ g. ap (λ (x : Session). Some (rows.Open x.blocks)) (same_Some made s g), λ g. λ i. Some (session_of (key i) (ap blocks_at g i)))
    row_at m s e false f =
        let apart : k ≡ s.key → ⊥ = λ key. false≢true (sym f ∙ (λ i. is_same session (keys.Open v b (sym key i) (one_number m n e i))) ∙ key_itself session) in
        (λ g. absurd (apart (ap (λ (x : Session). x.key) (same_Some made s g))), λ g. absurd (some_apart (sym g ∙ ap (λ x. all (keys.Open v b s.key x)) (one_number m n e) ∙ free stand.sound s.key)))

    sessions_now : (m : ℕ) (s : Session) → (get new.sessions m ≡ Some s) ↔ (now (keys.Open v b s.key m) ≡ Some (rows.Open s.blocks))
    sessions_now m s = by_number (is_number m n) refl
      where
        other : is_number m n ≡ false → (t : Bool) → is_same session (keys.Open v b s.key m) ≡ t → t ≡ false
        other e false f = refl
        other e true f =
            let same = same_is_one session (keys.Open v b s.key m) f in
            let number : n ≡ m = cc in
            absurd (false≢true (sym e ∙ ap (λ x. is_number x n) (sym number) ∙ number_itself n))

        by_number : (t : Bool) → is_number m n ≡ t → (get new.sessions m ≡ Some s) ↔ (now (keys.Open v b s.key m) ≡ Some (rows.Open s.blocks))
        by_number false e =
            let row : now (keys.Open v b s.key m) ≡ all (keys.Open v b s.key m) = ap (λ (t : Bool). cond t (Some (rows.Open [])) (all (keys.Open v b s.key m))) (other e (is_same session (keys.Open v b s.key m)) refl) in
            let found : get new.sessions m ≡ get old.sessions m = gets m ∙ ap (λ (t : Bool). cond t (Some made) (get old.sessions m)) e in
            let stood = session_stands all v b namespace stand m s in
            (λ g. row ∙ stood.0 (sym found ∙ g), λ g. found ∙ stood.1 (sym row ∙ g))
        by_number true e =
            let found : get new.sessions m ≡ Some made = gets m ∙ ap (λ (t : Bool). cond t (Some made) (get old.sessions m)) e in
            let both = row_at m s e (is_same session (keys.Open v b s.key m)) refl in
            (λ g. both.0 (sym found ∙ g), λ g. found ∙ both.1 g)

    module _ (room : len old.keys + len old.sessions < 4096) where
      few_here : AtMost 4096 (IsUsing now v b)
      few_here items differ using =
          let size = uses_counted now (is_safe v b k n named least may.few all may.bucket_there stand.fit).fit v b new pieces_now sessions_now items differ using in
          let more = len-insert nat_cmp_total old.sessions n made ∙ ap (λ (o : Option Session). cond (is_some o) (len old.sessions) (len old.sessions + 1)) no_session in
          omega (arith, size, more, room)

      other_open : (w c q : List ℕ) (m : ℕ) → is_name w v && is_name c b ≡ false → IsSome (now (keys.Open w c q m)) → IsSome (all (keys.Open w c q m))
      other_open w c q m apart some = by_test (is_same session (keys.Open w c q m)) refl some
        where
          by_test : (t : Bool) → is_same session (keys.Open w c q m) ≡ t → IsSome (cond t (Some (rows.Open [])) (all (keys.Open w c q m))) → IsSome (all (keys.Open w c q m))
          by_test false e some = some
          by_test true e some =
              let same = same_is_one session (keys.Open w c q m) e in
              let volume : v ≡ w = cc in
              let bucket : b ≡ c = cc in
              absurd (false≢true (sym apart ∙ (λ i. is_name (sym volume i) v && is_name (sym bucket i) b) ∙ both_itself))
            where
              both_itself : is_name v v && is_name b b ≡ true
              both_itself = ap (λ (t : Bool). t && is_name b b) (itself v) ∙ itself b

      using_before : (w c : List ℕ) → is_name w v && is_name c b ≡ false → (one : List ℕ × Option ℕ) → IsUsing now w c one → IsUsing all w c one
      using_before w c apart (q, None) some = some
      using_before w c apart (q, Some m) some = other_open w c q m apart some

      few : (w c : List ℕ) → AtMost 4096 (IsUsing now w c)
      few w c = by_test (is_name w v) refl (is_name c b) refl
        where
          by_test : (s : Bool) → is_name w v ≡ s → (t : Bool) → is_name c b ≡ t → AtMost 4096 (IsUsing now w c)
          by_test true e true f = subst (λ x. AtMost 4096 (IsUsing now x c)) (sym (one_name w v e)) (subst (λ x. AtMost 4096 (IsUsing now v x)) (sym (one_name c b f)) few_here)
          by_test true e false f = at_most _ _ 4096 (using_before w c (ap (λ (t : Bool). t && is_name c b) e ∙ f)) (stand.sound.counts.keys_and_sessions w c)
          by_test false e t f = at_most _ _ 4096 (using_before w c (ap (λ (t : Bool). t && is_name c b) e)) (stand.sound.counts.keys_and_sessions w c)

      moves : BlocksMove all now None
      moves = record {
        others = others;
        bare = λ s block stands. bare_stripes all stand.fit s block (before block (keys.Stripe s) stands);
        came = λ block q home stands. inl (record { key = q; home = home; here = before block q stands; same_bucket = refl });
        none_lost = λ block had. record { key = had.key; home = had.home; here = later block had.key had.here };
        stays = λ block q keeper stands. (q, keeper, later block q stands);
        one_home = λ block q r home home' here there. stand.sound.blocks.one_home block q r home home' (before block q here) (before block r there);
        together = λ block other q keeper here there. record { key = q; home = keeper_home q keeper; here = before block q here; there = before other q there; same_bucket = refl };
        open_key = λ w c q m block stands. inl (m, before block (keys.Open w c q m) stands);
        drawn = drawn;
        sessions = numbers;
        owners = λ w c q o l some apart. some;
        few = few;
      }

      outside : (q : RowKey) → IsOutside v b q → now q ≡ all q
      outside q is = by_tests (is_same stripe q) refl (is_same session q) refl
        where
          by_tests : (s : Bool) → is_same stripe q ≡ s → (t : Bool) → is_same session q ≡ t → cond s (Some (rows.Stripe n)) (cond t (Some (rows.Open [])) (all q)) ≡ all q
          by_tests true e t f = absurd (is.no_stripe (ap kind_of (sym (same_is_one stripe q e))))
          by_tests false e true f = absurd (is.other (ap bucket_of_row (sym (same_is_one session q f))))
          by_tests false e false f = refl

      becomes : BucketBecomes all now namespace v (buckets_at namespace v) b new (slice_set namespace.stripes (stripe_of v) n)
      becomes = record {
        volume_there = there_are (buckets_of namespace v) (volume_there (buckets_of namespace v) b (stand.stands.buckets v b ∙ may.bucket_there));
        outside = outside;
        there = may.bucket_there;
        pieces = pieces_now;
        sessions = sessions_now;
        snapshots = subst (SnapshotsStand now v b) (sym (snapshots_of_bucket (bucket_of namespace v b))) (snapshots_again all now (λ w c m. refl) (λ w c m q. refl) v b (snapshots_of namespace v b) (stand.stands.snapshots v b));
        numbers = ap (λ l. slice_set l (stripe_of v) n) stand.stands.stripes ∙ numbers_after all n (stripe_of v) (stripe_is v);
      }

      abbrev left : Namespace
      left = with_bucket namespace v (buckets_at namespace v) b new (slice_set namespace.stripes (stripe_of v) n)

      stands_now : StandsFor now left
      stands_now = bucket_becomes all now namespace v (buckets_at namespace v) b new (slice_set namespace.stripes (stripe_of v) n) becomes stand.stands

      -- one number more was drawn
      differs : left ≡ namespace → ⊥
      differs e =
          let same : drawn_in (now stripe) ≡ drawn_in (all stripe) = sym (drawn_shown now left stands_now.stripes (stripe_of v) (stripe_is v)) ∙ ap (λ (x : Namespace). slice_index x.stripes (stripe_of v)) e ∙ drawn_shown all namespace stand.stands.stripes (stripe_of v) (stripe_is v) in
          let next = may.next in
          let had = drawn_now in
          omega (arith, same, next, had)

      names_stay : NamesStay all now
      names_stay w c q x stands = inl (before x (keys.Key w c q) stands)

      renames : RenamesAreSound all → RenamesAreSound now
      renames = renames_moved all now None moves stand.sound names_stay

    under : (n m : ℕ) → nat_le n m ≡ false → m < n
    under n m e = grind (arith, nat_tests, e)

    has_room : Answers namespace request (replies.Session n) → len old.keys + len old.sessions < 4096
    unfolding Answers
    has_room answers =
        let none = not_refused (refusal (scope_of namespace v) request) (replies.Session n) _ (λ code e. absurd (cc)) answers in
        let tests = passed (refusals (scope_of namespace v) request) none in
        under _ _ tests.1.1.1.1.1.0

    -- the number that was answered is the next one
    drawn_next : (scope_of namespace v).drawn + 1 ≡ n
    drawn_next =
        let shown = drawn_shown all namespace stand.stands.stripes (stripe_of v) (stripe_is v) in
        let next = may.next in
        omega (arith, shown, next)

    pub meets : Answers namespace request (replies.Session n) → Meets IsSoundButRenames all namespace request (replies.Session n) (batch_bytes (row_by_row changes)) changes
    unfolding after
    meets answers =
        let room = has_room answers in
        let safe = is_safe v b k n named least may.few all may.bucket_there stand.fit in
        let effect : after namespace request (replies.Session n) ≡ left room = λ i. with_bucket namespace v (buckets_at namespace v) b (with_session old (drawn_next i) k []) (slice_set namespace.stripes (stripe_of v) (drawn_next i)) in
        record {
          answers = answers;
          batch = safe.batch;
          leads = record {
            fit = safe.fit;
            stands = subst (StandsFor now) (sym effect) (stands_now room);
            sound = sound_moved all now None (moves room) stand.sound;
          };
          blocks = blocks_kept all now None (moves room);
          keeps = λ nothing. absurd (differs room (sym effect ∙ nothing.0));
        }

    pub renames_stay : Answers namespace request (replies.Session n) → RenamesAreSound all → RenamesAreSound now
    renames_stay answers = renames (has_room answers)
