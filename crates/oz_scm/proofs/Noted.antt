-- What the steps of a call that adds an entry come to, and what a disk stands for after it.
use Rattle.std.proofs.Common.{◌≡◌, inl, inr, IfSome, ℕ, ◌<◌, ◌^◌, Bool, true, false, List, [], ◌∷◌, ◌++◌, Option, None, Some, Result, Ok, Err, refl, sym, ap, subst, ◌∙◌, arith}
use Rattle.std.proofs.lemmas.Bool.{false≢true}
use Rattle.oz_scm.specs.declared.grants.entry.Entry.{Entry}
use Rattle.oz_scm.specs.grants.Build.{Makes}
use Rattle.oz_scm.specs.grants.Entries.{entry_bytes}
use Rattle.std.specs.List.{AllByRecursion}
use Rattle.oz_dellog.specs.declared.txn.Txn.{Txn}
use Rattle.oz_scm.specs.declared.grants.entry.Entry.TheVariants.{Logged, Acked, Retired}
use Rattle.oz_scm.specs.grants.Made.{Made, after_entry, MayLog, MayAck, MayRetire, after_log, after_ack, after_retirement}
use Rattle.oz_scm.specs.grants.laws.Journals.{log_made, ack_made, retirement_made}
use Rattle.oz_journal.specs.Appends.{Appends}
use Rattle.oz_journal.specs.Grammar.{IsJournal, TellsBodies}
use Rattle.oz_journal.specs.Journal.{IsBeforeOrAfter}
use Rattle.oz_world.specs.Disk.{Images, Seen, seen}
use Rattle.oz_world.specs.Moments.{LeavesOnly}
use Rattle.oz_scm.specs.Noting.{Notes, IsBeforeOrNoted, StandsOrNoted, with_entry}
use Rattle.oz_scm.specs.Scm.{Keeps, StandsFor}
use Rattle.oz_scm.proofs.Granting.{journal_of, now, stands_made, tells_of, told_before}

-- an entry that is one body more
pub record Adds (made : Made) (entry : Entry) (later : Made) : Type 0 where
  pub is : after_entry entry (Some made) ≡ Some later
  pub nodes : later.nodes ≡ made.nodes
  pub adds : (bodies : List (List ℕ)) → Makes bodies (Some made) → Makes (with_entry bodies entry) (Some later)

-- what a stop leaves, told by bodies, is told by what they make
stands_by : (told : Option (List ℕ)) (made later : Made) (entry : Entry) (first last : ℕ) (image : Images) → Keeps told made → Adds made entry later
    → ((bodies : List (List ℕ)) → TellsBodies told bodies → LeavesOnly (IsBeforeOrAfter bodies (entry_bytes entry)) first last image)
    → IfSome told (λ bytes. LeavesOnly (StandsOrNoted made entry) first last image)
stands_by None made later entry first last image keeps adds leaves = tt
stands_by (Some bytes) made later entry first last image keeps adds leaves =
    let there = keeps bytes refl in
    λ t left from to has. elim (leaves there.0 there.1 t left from to has) [
      | inl same ↦ inl (stands_made left there.0 made made.nodes same there.2 refl)
      | inr one ↦ inr (later, adds.is, stands_made left (with_entry there.0 entry) later made.nodes one (adds.adds there.0 there.2) adds.nodes)
    ]

-- a body more keeps what it makes
pub kept_after : {T E : Type 0} (entry : Entry) (body : List ℕ) (before after : Seen) (made later reached : Made) (x : T) → reached ≡ later → body ≡ entry_bytes entry → Keeps before.told made → Adds made entry later → Appends {T = T} {E = E} body before after (Ok x)
    → Keeps after.told reached
kept_after {T} {E} entry body before after made later reached x reached_is spelled keeps adds appends bytes is =
    let old = told_before before.told after.told bytes appends.settled.telling is in
    let there = keeps old.0 old.1 in
    let tells : TellsBodies after.told (there.0 ++ body ∷ []) = appends.tells there.0 (tells_of before.told old.0 there.0 old.1 there.1) in (
      with_entry there.0 entry,
      journal_of after.told bytes (with_entry there.0 entry) is (subst (λ (b : List ℕ). TellsBodies after.told (there.0 ++ b ∷ [])) spelled tells),
      subst (λ (m : Made). Makes (with_entry there.0 entry) (Some m)) (sym reached_is) (adds.adds there.0 there.2),
    )

module _ {D : Type 0} (told : D → Option (List ℕ)) (clock : D → ℕ) (image : D → Images) (faults : D → ℕ) where
  abbrev at : D → Seen
  at disk = seen (told disk) (clock disk) (image disk) (faults disk)

  module _ (entry : Entry) (made : Made) (up : List Bool) where
    -- it was stopped before
    pub was_stopped : {T : Type 0} (disk : D) (stopped : Bool) (count : ℕ) → stopped ≡ true → count ≡ faults disk
        → Notes {D = D} {T = T} entry (now disk stopped made up) (now disk stopped made up) (at disk) (at disk) (Err count)
    was_stopped {T} disk stopped count was is = record {
      made = tt;
      tells = λ bodies tells. tt;
      acknowledged = λ bodies tells. tt;
      moments = tt;
      same = refl;
      ups = refl;
      leaves = λ runs. absurd (false≢true (sym runs ∙ was));
      stands = λ runs. absurd (false≢true (sym runs ∙ was));
      telling = (λ e. e, λ e. e);
      time = record { later = omega arith; kept = λ t left le. (λ e. e, λ e. e) };
      stops = was;
      still = λ was. refl;
      count = is;
      cause = λ runs other. absurd (false≢true (sym runs ∙ was));
      never_falls = omega arith;
    }

    module _ (later : Made) (body : List ℕ) (before after : D) (stopped stops : Bool) (running : stopped ≡ false) (spelled : body ≡ entry_bytes entry) (keeps : Keeps (told before) made) (adds : Adds made entry later) where
      left_by : {T E : Type 0} (result : Result T E) → Appends {T = T} {E = E} body (at before) (at after) result → (bodies : List (List ℕ)) → TellsBodies (told before) bodies
          → LeavesOnly (IsBeforeOrAfter bodies (entry_bytes entry)) (clock before) (clock after) (image after)
      left_by result appends bodies tells = subst (λ (b : List ℕ). LeavesOnly (IsBeforeOrAfter bodies b) (clock before) (clock after) (image after)) spelled (appends.leaves bodies tells)

      -- the disk failed
      pub halted : {T U E : Type 0} (x : E) (count : ℕ) → stops ≡ true → count ≡ faults after → Appends {T = U} {E = E} body (at before) (at after) (Err x)
          → Notes {D = D} {T = T} entry (now before stopped made up) (now after stops made up) (at before) (at after) (Err count)
      halted {T} {U} {E} x count stopping is appends = record {
        made = tt;
        tells = λ bodies tells. tt;
        acknowledged = λ bodies tells. tt;
        moments = tt;
        same = refl;
        ups = refl;
        leaves = λ runs. left_by (Err x) appends;
        stands = λ runs. stands_by (told before) made later entry (clock before) (clock after) (image after) keeps adds (left_by (Err x) appends);
        telling = appends.settled.telling;
        time = appends.settled.time;
        stops = stopping;
        still = λ was. absurd (false≢true (sym running ∙ was));
        count = is;
        cause = λ runs was. appends.settled.cause.failed;
        never_falls = appends.settled.cause.never_falls;
      }

      -- the disk failed, and what was made in memory before is as it was
      pub halted_as : {T U E : Type 0} (reached : Made) → reached ≡ made → (x : E) (count : ℕ) → stops ≡ true → count ≡ faults after → Appends {T = U} {E = E} body (at before) (at after) (Err x)
          → Notes {D = D} {T = T} entry (now before stopped made up) (now after stops reached up) (at before) (at after) (Err count)
      halted_as {T} {U} {E} reached back x count stopping is appends =
          subst (λ (m : Made). Notes {D = D} {T = T} entry (now before stopped made up) (now after stops m up) (at before) (at after) (Err count)) (sym back)
          (halted {T = T} {U = U} {E = E} x count stopping is appends)

      -- it is added
      pub went : {T U E : Type 0} (reached : Made) (x : U) (answer : T) → reached ≡ later → stops ≡ false → Appends {T = U} {E = E} body (at before) (at after) (Ok x)
          → Notes {D = D} {T = T} entry (now before stopped made up) (now after stops reached up) (at before) (at after) (Ok answer)
      went {T} {U} {E} reached x answer reached_is going appends = record {
        made = adds.is ∙ ap (λ (m : Made). Some m) (sym reached_is);
        tells = λ bodies tells. subst (λ (b : List ℕ). TellsBodies (told after) (bodies ++ b ∷ [])) spelled (appends.tells bodies tells);
        acknowledged = λ bodies tells left has. subst (λ (b : List ℕ). IsJournal left (bodies ++ b ∷ [])) spelled (appends.acknowledged bodies tells left has);
        moments = appends.settled.moments;
        same = tt;
        ups = refl;
        leaves = λ runs. left_by (Ok x) appends;
        stands = λ runs. stands_by (told before) made later entry (clock before) (clock after) (image after) keeps adds (left_by (Ok x) appends);
        telling = appends.settled.telling;
        time = appends.settled.time;
        stops = going;
        still = λ was. absurd (false≢true (sym running ∙ was));
        count = tt;
        cause = λ runs was. absurd (false≢true (sym going ∙ was));
        never_falls = appends.settled.cause.never_falls;
      }

pub ack_adds : (made : Made) (number dn : ℕ) → MayAck made number dn → number < 2 ^ 64 → dn < 2 ^ 8 → Adds made (Acked number dn) (after_ack number dn made)
ack_adds made number dn may one two = record { is = refl; nodes = refl; adds = λ bodies makes. ack_made bodies made number dn makes may one two }

pub retirement_adds : (made : Made) (number : ℕ) → MayRetire made number → number < 2 ^ 64 → Adds made (Retired number) (after_retirement number made)
retirement_adds made number may fits = record { is = refl; nodes = refl; adds = λ bodies makes. retirement_made bodies made number makes may fits }

pub log_adds : (made : Made) (txn : Txn) → MayLog made txn → txn.number < 2 ^ 64 → txn.container < 2 ^ 64 → AllByRecursion (λ n. n < 2 ^ 64) txn.locals
    → Adds made (Logged txn) (after_log txn made)
log_adds made txn may one two fit = record { is = refl; nodes = refl; adds = λ bodies makes. log_made bodies made txn makes may one two fit }
