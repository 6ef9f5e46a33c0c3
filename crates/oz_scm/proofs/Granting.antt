-- What the steps of a grant come to, and what a disk stands for after it.
use Rattle.std.proofs.Common.{◌≡◌, inl, inr, IfSome, IsErrAnd, ℕ, zero, suc, ◌+◌, ◌<◌, ◌≤◌, ◌^◌, ◌&&◌, Bool, true, false, List, [], ◌∷◌, ◌++◌, Option, None, Some, Result, Ok, Err, refl, sym, ap, subst, ◌∙◌, arith, leb, eqb, length, slice_get}
use Rattle.std.proofs.lemmas.Bool.{false≢true, eq-eqb, le-leb, lt-ltb}
use Rattle.oz_scm.specs.declared.grants.container.Container.{Container}
use Rattle.oz_scm.specs.declared.grants.entry.Entry.TheVariants.{Granted}
use Rattle.oz_scm.specs.declared.grants.entry.Grant.{Grant}
use Rattle.oz_scm.specs.grants.Build.{Makes}
use Rattle.oz_scm.specs.grants.Entries.{entry_bytes}
use Rattle.oz_scm.specs.grants.Due.{IsChosen}
use Rattle.oz_scm.specs.grants.Made.{Made, MayGrant, after_grant, container_at, is_old_or_next, is_on}
use Rattle.oz_scm.specs.grants.laws.Journals.{grant_made}
use Rattle.oz_nodes.specs.Pipelines.{pipelines_of}
use Rattle.oz_journal.specs.Appends.{Appends}
use Rattle.oz_journal.specs.Grammar.{IsJournal, TellsBodies}
use Rattle.oz_journal.specs.Journal.{IsBeforeOrAfter}
use Rattle.oz_requests.specs.declared.request.Exclude.{Exclude}
use Rattle.oz_world.specs.Disk.{Images, Seen, seen, TellsAsBefore, IsStable}
use Rattle.oz_world.specs.Moments.{LeavesOnly}
use Rattle.oz_scm.specs.declared.fault.GrantFault.{GrantFault}
use Rattle.oz_scm.specs.declared.fault.GrantFault.TheVariants.{Stopped}
use Rattle.oz_scm.specs.Granting.{Grants, IsDue, IsRefusedFor, IsBeforeOrGranted, StandsOrGranted, says_stopped, with_grant}
use Rattle.oz_scm.specs.Scm.{State, StandsFor, Keeps}

-- what is stable stands for the bodies that are told
pub rests : (told : Option (List ℕ)) (now : ℕ) (image : Images) → ((bytes : List ℕ) → told ≡ Some bytes → IsStable image now bytes) → (bodies : List (List ℕ)) → TellsBodies told bodies → (left : List ℕ) → image now left → IsJournal left bodies
rests None now image stable bodies tells left there = absurd tells
rests (Some bytes) now image stable bodies tells left there = subst (λ (b : List ℕ). IsJournal b bodies) (sym (stable bytes refl left there)) tells

pub stands_made : (bytes : List ℕ) (bodies : List (List ℕ)) (made : Made) (given : ℕ) → IsJournal bytes bodies → Makes bodies (Some made) → made.nodes ≡ given → StandsFor given bytes made
stands_made bytes bodies made given journal makes agrees = record { bodies = bodies; journal = journal; found = Some made; makes = makes; is = refl; agrees = agrees }

-- what a disk keeps, it stands for
pub stands_kept : (told : Option (List ℕ)) (made : Made) → Keeps told made → (bytes : List ℕ) → told ≡ Some bytes → StandsFor made.nodes bytes made
stands_kept told made keeps bytes is = let there = keeps bytes is in stands_made bytes there.0 made made.nodes there.1 there.2 refl

-- a disk that tells told before
pub told_before : (before after : Option (List ℕ)) (bytes : List ℕ) → TellsAsBefore before after → after ≡ Some bytes → (old : List ℕ) × (before ≡ Some old)
told_before None after bytes as_before is = absurd (cc (sym (as_before.0 refl) ∙ is))
told_before (Some old) after bytes as_before is = (old, refl)

pub tells_of : (told : Option (List ℕ)) (bytes : List ℕ) (bodies : List (List ℕ)) → told ≡ Some bytes → IsJournal bytes bodies → TellsBodies told bodies
tells_of told bytes bodies is journal = subst (λ (o : Option (List ℕ)). TellsBodies o bodies) (sym is) journal

pub journal_of : (told : Option (List ℕ)) (bytes : List ℕ) (bodies : List (List ℕ)) → told ≡ Some bytes → TellsBodies told bodies → IsJournal bytes bodies
journal_of told bytes bodies is tells = subst (λ (o : Option (List ℕ)). TellsBodies o bodies) is tells

-- a grant that is one body more
abbrev pub Adds : Made → ℕ → Grant → Type 0
Adds made stripe grant = (bodies : List (List ℕ)) → Makes bodies (Some made) → Makes (with_grant bodies stripe grant) (Some (after_grant grant made))

-- what a stop leaves, told by bodies, is told by what they make
stands_by : (told : Option (List ℕ)) (made : Made) (up : List Bool) (stripe : ℕ) (exclude : Exclude) (grant : Grant) (first last : ℕ) (image : Images) → Keeps told made → IsDue made up stripe exclude grant → Adds made stripe grant
    → ((bodies : List (List ℕ)) → TellsBodies told bodies → LeavesOnly (IsBeforeOrAfter bodies (entry_bytes (Granted stripe grant))) first last image)
    → IfSome told (λ bytes. LeavesOnly (StandsOrGranted made up stripe exclude) first last image)
stands_by None made up stripe exclude grant first last image keeps due adds leaves = tt
stands_by (Some bytes) made up stripe exclude grant first last image keeps due adds leaves =
    let there = keeps bytes refl in
    λ t left from to has. elim (leaves there.0 there.1 t left from to has) [
      | inl same ↦ inl (stands_made left there.0 made made.nodes same there.2 refl)
      | inr one ↦ inr (grant, due, stands_made left (with_grant there.0 stripe grant) (after_grant grant made) made.nodes one (adds there.0 there.2) refl)
    ]

leaves_by : (made : Made) (up : List Bool) (stripe : ℕ) (exclude : Exclude) (grant : Grant) (first last : ℕ) (image : Images) (bodies : List (List ℕ)) → IsDue made up stripe exclude grant
    → LeavesOnly (IsBeforeOrAfter bodies (entry_bytes (Granted stripe grant))) first last image → LeavesOnly (IsBeforeOrGranted made up stripe exclude bodies) first last image
leaves_by made up stripe exclude grant first last image bodies due leaves t left from to has = elim (leaves t left from to has) [
  | inl same ↦ inl same
  | inr one ↦ inr (grant, due, one)
]

-- nothing was added
still_stands : (told : Option (List ℕ)) (made : Made) (up : List Bool) (stripe : ℕ) (exclude : Exclude) (clock : ℕ) (image : Images) → Keeps told made → ((bytes : List ℕ) → told ≡ Some bytes → IsStable image clock bytes)
    → IfSome told (λ bytes. LeavesOnly (StandsOrGranted made up stripe exclude) clock clock image)
still_stands None made up stripe exclude clock image keeps stable = tt
still_stands (Some bytes) made up stripe exclude clock image keeps stable =
    let there = keeps bytes refl in
    λ t left from to has.
    let only : t ≡ clock = omega (arith, from, to) in
    let same : left ≡ bytes = stable bytes refl left (subst (λ (n : ℕ). image n left) only has) in
    inl (subst (λ (b : List ℕ). StandsFor made.nodes b made) (sym same) (stands_made bytes there.0 made made.nodes there.1 there.2 refl))

-- a body more keeps what it makes
pub kept_after : {T E : Type 0} (stripe : ℕ) (grant : Grant) (body : List ℕ) (before after : Seen) (made later : Made) (x : T) → body ≡ entry_bytes (Granted stripe grant) → Keeps before.told made → Adds made stripe grant → Appends {T = T} {E = E} body before after (Ok x) → later ≡ after_grant grant made
    → Keeps after.told later
kept_after {T} {E} stripe grant body before after made later x spelled keeps adds appends made_so bytes is =
    let old = told_before before.told after.told bytes appends.settled.telling is in
    let there = keeps old.0 old.1 in
    let tells : TellsBodies after.told (there.0 ++ body ∷ []) = appends.tells there.0 (tells_of before.told old.0 there.0 old.1 there.1) in (
      with_grant there.0 stripe grant,
      journal_of after.told bytes (with_grant there.0 stripe grant) is (subst (λ (b : List ℕ). TellsBodies after.told (there.0 ++ b ∷ [])) spelled tells),
      subst (λ (m : Made). Makes (with_grant there.0 stripe grant) (Some m)) (sym made_so) (adds there.0 there.2),
    )

abbrev pub now : {D : Type 0} → D → Bool → Made → List Bool → State D
now disk stopped made up = record { disk = disk; stopped = stopped; made = made; up = up }

module _ {D : Type 0} (told : D → Option (List ℕ)) (clock : D → ℕ) (image : D → Images) (faults : D → ℕ) where
  abbrev at : D → Seen
  at disk = seen (told disk) (clock disk) (image disk) (faults disk)

  module _ (stripe : ℕ) (exclude : Exclude) (made : Made) (up : List Bool) where
    -- no grant is due, or there was no memory for it
    pub refused : (disk : D) (stopped : Bool) (later : Made) (x : GrantFault) (result : Result Grant GrantFault) → stopped ≡ false → IsErrAnd result (λ fault. fault ≡ x) → says_stopped {T = Grant} (Err x) ≡ false → IsRefusedFor made up exclude x → later ≡ made
        → ((bytes : List ℕ) → told disk ≡ Some bytes → IsStable (image disk) (clock disk) bytes) → Keeps (told disk) made
        → Grants {D = D} stripe exclude (now disk stopped made up) (now disk stopped later up) (at disk) (at disk) result
    refused disk stopped later x (Ok y) running is going why same stable keeps = absurd is
    refused disk stopped later x (Err fault) running is going why same stable keeps = subst (λ (f : GrantFault). Grants {D = D} stripe exclude (now disk stopped made up) (now disk stopped later up) (at disk) (at disk) (Err f)) (sym is) (record {
      due = tt;
      made = tt;
      tells = λ bodies tells. tt;
      acknowledged = λ bodies tells. tt;
      moments = tt;
      refused = why;
      same = same;
      untouched = λ goes. refl;
      ups = refl;
      leaves = λ runs. λ bodies tells t left from to has.
          let only : t ≡ clock disk = omega (arith, from, to) in
          inl (rests (told disk) (clock disk) (image disk) stable bodies tells left (subst (λ (n : ℕ). image disk n left) only has));
      stands = λ runs. still_stands (told disk) made up stripe exclude (clock disk) (image disk) keeps stable;
      telling = (λ e. e, λ e. e);
      time = record { later = omega arith; kept = λ t left le. (λ e. e, λ e. e) };
      stops = running ∙ sym going;
      still = λ was. absurd (false≢true (sym running ∙ was));
      count = λ count one. absurd (false≢true (sym going ∙ ap (says_stopped {T = Grant}) one));
      cause = λ runs was. absurd (false≢true (sym running ∙ was));
      never_falls = omega arith;
    })

    -- the disk failed
    pub halted : {U : Type 0} (grant : Grant) (body : List ℕ) (before after : D) (stopped stops : Bool) (later : Made) (x : GrantFault) (result : Result Grant GrantFault) → stopped ≡ false → stops ≡ true → x ≡ Stopped (faults after) → IsErrAnd result (λ fault. fault ≡ x)
        → body ≡ entry_bytes (Granted stripe grant) → Keeps (told before) made → IsDue made up stripe exclude grant → Adds made stripe grant → later ≡ made → Appends {T = U} {E = GrantFault} body (at before) (at after) (Err x)
        → Grants {D = D} stripe exclude (now before stopped made up) (now after stops later up) (at before) (at after) result
    halted {U} grant body before after stopped stops later x (Ok y) running stopping is told_so spelled keeps due adds same appends = absurd told_so
    halted {U} grant body before after stopped stops later x (Err fault) running stopping is told_so spelled keeps due adds same appends = subst (λ (f : GrantFault). Grants {D = D} stripe exclude (now before stopped made up) (now after stops later up) (at before) (at after) (Err f)) (sym (told_so ∙ is)) (record {
      due = tt;
      made = tt;
      tells = λ bodies tells. tt;
      acknowledged = λ bodies tells. tt;
      moments = tt;
      refused = tt;
      same = same;
      untouched = λ goes. absurd (false≢true (sym goes));
      ups = refl;
      leaves = λ runs. λ bodies tells. leaves_by made up stripe exclude grant (clock before) (clock after) (image after) bodies due (left_by bodies tells);
      stands = λ runs. stands_by (told before) made up stripe exclude grant (clock before) (clock after) (image after) keeps due adds left_by;
      telling = appends.settled.telling;
      time = appends.settled.time;
      stops = stopping;
      still = λ was. absurd (false≢true (sym running ∙ was));
      count = λ count one. cc (sym one);
      cause = λ runs was. appends.settled.cause.failed;
      never_falls = appends.settled.cause.never_falls;
    })
      where
        left_by : (bodies : List (List ℕ)) → TellsBodies (told before) bodies → LeavesOnly (IsBeforeOrAfter bodies (entry_bytes (Granted stripe grant))) (clock before) (clock after) (image after)
        left_by bodies tells = subst (λ (b : List ℕ). LeavesOnly (IsBeforeOrAfter bodies b) (clock before) (clock after) (image after)) spelled (appends.leaves bodies tells)

    -- it is granted
    pub granted : {U E : Type 0} (grant : Grant) (body : List ℕ) (before after : D) (stopped stops : Bool) (later : Made) (x : U) → stopped ≡ false → stops ≡ false
        → body ≡ entry_bytes (Granted stripe grant) → Keeps (told before) made → IsDue made up stripe exclude grant → Adds made stripe grant → later ≡ after_grant grant made → Appends {T = U} {E = E} body (at before) (at after) (Ok x)
        → Grants {D = D} stripe exclude (now before stopped made up) (now after stops later up) (at before) (at after) (Ok grant)
    granted {U} {E} grant body before after stopped stops later x running going spelled keeps due adds made_so appends = record {
      due = due;
      made = made_so;
      tells = λ bodies tells. subst (λ (b : List ℕ). TellsBodies (told after) (bodies ++ b ∷ [])) spelled (appends.tells bodies tells);
      acknowledged = λ bodies tells left has. subst (λ (b : List ℕ). IsJournal left (bodies ++ b ∷ [])) spelled (appends.acknowledged bodies tells left has);
      moments = appends.settled.moments;
      refused = tt;
      same = tt;
      untouched = tt;
      ups = refl;
      leaves = λ runs. λ bodies tells. leaves_by made up stripe exclude grant (clock before) (clock after) (image after) bodies due (left_by bodies tells);
      stands = λ runs. stands_by (told before) made up stripe exclude grant (clock before) (clock after) (image after) keeps due adds left_by;
      telling = appends.settled.telling;
      time = appends.settled.time;
      stops = going;
      still = λ was. absurd (false≢true (sym running ∙ was));
      count = λ count none. absurd (cc none);
      cause = λ runs was. absurd (false≢true (sym going ∙ was));
      never_falls = appends.settled.cause.never_falls;
    }
      where
        left_by : (bodies : List (List ℕ)) → TellsBodies (told before) bodies → LeavesOnly (IsBeforeOrAfter bodies (entry_bytes (Granted stripe grant))) (clock before) (clock after) (image after)
        left_by bodies tells = subst (λ (b : List ℕ). LeavesOnly (IsBeforeOrAfter bodies b) (clock before) (clock after) (image after)) spelled (appends.leaves bodies tells)

-- ---- what is due may follow

within : (l : List Container) (i : ℕ) (c : Container) → slice_get l i ≡ Some c → i < length l
within [] i c is = absurd (cc is)
within (x ∷ l) zero c is = omega arith
within (x ∷ l) (suc i) c is = let rest = within l i c is in omega (arith, rest)

at_number : (l : List Container) (number : ℕ) (c : Container) → container_at l number ≡ Some c → (1 ≤ number) × (number ≤ length l)
at_number l zero c is = absurd (cc is)
at_number l (suc place) c is = let lt = within l place c is in (omega arith, omega (arith, lt))

none_behind : (l : List Container) → slice_get l (length l) ≡ None
none_behind [] = refl
none_behind (x ∷ l) = none_behind l

none_next : (l : List Container) (number : ℕ) → number ≡ length l + 1 → container_at l number ≡ None
none_next l number is =
    let above : number ≡ suc (length l) = omega (arith, is) in
    ap (container_at l) above ∙ none_behind l

both_true : (a b : Bool) → a ≡ true → b ≡ true → (a && b) ≡ true
both_true true b one two = two
both_true false b one two = absurd (false≢true one)

in_range : (number most : ℕ) → 1 ≤ number → number ≤ most → (leb 1 number && leb number most) ≡ true
in_range number most least le = both_true (leb 1 number) (leb number most) (le-leb 1 number least) (le-leb number most le)

chosen_is : (l : List Container) (nodes pipeline : ℕ) (excluded : List ℕ) (number : ℕ) → pipeline < pipelines_of nodes → IsChosen l pipeline excluded number → (is_old_or_next l number ≡ true) × (is_on nodes (container_at l number) pipeline ≡ true)
chosen_is l nodes pipeline excluded number known (inl (take, lowest)) =
    let range = at_number l number take.room.container take.room.there in (
      in_range number (length l + 1) range.0 (omega (arith, range.1)),
      subst (λ (o : Option Container). is_on nodes o pipeline ≡ true) (sym take.room.there) (eq-eqb pipeline take.room.container.pipeline (sym take.on)),
    )
chosen_is l nodes pipeline excluded number known (inr (is, none)) = (
  in_range number (length l + 1) (omega (arith, is)) (omega (arith, is)),
  subst (λ (o : Option Container). is_on nodes o pipeline ≡ true) (sym (none_next l number is)) (lt-ltb pipeline (pipelines_of nodes) known),
)

pub due_follows : (made : Made) (up : List Bool) (stripe : ℕ) (exclude : Exclude) (grant : Grant) → IsDue made up stripe exclude grant → length up ≡ made.nodes → MayGrant made grant
due_follows made up stripe exclude grant due agrees =
    let known : grant.pipeline < pipelines_of made.nodes = subst (λ (n : ℕ). grant.pipeline < pipelines_of n) agrees due.on.free.known in
    let chosen = chosen_is made.containers made.nodes grant.pipeline exclude.containers grant.container known due.chosen in
    record {
      container_is = chosen.0;
      pipeline_is = chosen.1;
      first_is = both_true (eqb grant.first made.next_id) (leb (grant.first + 64) 4611686018427387904) (eq-eqb grant.first made.next_id due.next) (le-leb (grant.first + 64) 4611686018427387904 (omega (arith, due.whole, due.within)));
      count_is = eq-eqb grant.count 64 due.whole;
    }

-- a due grant is one body more
pub due_adds : (made : Made) (stripe : ℕ) (grant : Grant) → MayGrant made grant → stripe < 16 → grant.container < 2 ^ 64 → grant.pipeline < 2 ^ 8 → Adds made stripe grant
due_adds made stripe grant may below one two bodies makes = grant_made bodies made stripe grant makes (lt-ltb stripe 16 below) may one two
