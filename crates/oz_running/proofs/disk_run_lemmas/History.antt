-- What a run over what was loaded leaves.
use Rattle.std.proofs.Common.{◌≡◌, inl, inr, ℕ, ◌<◌, ◌≤◌, Bool, true, false, List, [], ◌++◌, append-nil, Option, None, Some, IfSome, IsSome, IsSomeAnd, refl, sym, ◌∙◌, subst, arith}
use Rattle.std.specs.Prelude.{nat_lt}
use Rattle.std.proofs.lemmas.Bool.{cases_lt, false≢true, lt-ltb, ltb-true}
use Rattle.oz_core.specs.declared.event.Event.{Event}
use Rattle.oz_core.specs.declared.event.Node.{Node}
use Rattle.oz_core.specs.declared.opening.Opening.{Opening}
use Rattle.oz_core.specs.Contents.{OpeningBytes}
use Rattle.oz_core.specs.Law.{IsLegal}
use Rattle.oz_buffer.specs.Buffer.{buffer_of}
use Rattle.oz_core.specs.Manager.{durable_index, last_index}
use Rattle.oz_decision.specs.Meets.{AreInGrammar}
use Rattle.oz_running.specs.disk_run.Coherent.{IsCoherentStore}
use Rattle.oz_running.specs.disk_run.RunOver.{IsOneHistory, LoadingKeeps, OpensAs}
use Rattle.oz_running.specs.disk_run.Disks.{counts_loaded}
use Rattle.oz_running.specs.disk_run.Shown.{ShowStore, bodies_shown, opening_shown, rows_shown}
use Rattle.oz_running.specs.disk_run.Told.{IsTold, left_by}
use Rattle.oz_running.proofs.disk_run_lemmas.Bodies.{told_shows}
use Rattle.oz_running.proofs.disk_run_lemmas.Coming.{tells_still, told_still}
use Rattle.oz_flusher.specs.Stops.{IsPrefix}
use Rattle.oz_flusher.specs.Taken.{bodies_of}
use Rattle.oz_headline.specs.halts.Disks.{OtherDisks, OtherNodes}
use Rattle.oz_journal.specs.Grammar.{IsJournal}
use Rattle.oz_journal.specs.Load.{IsLeftAlone, IsLoadable, loaded_at}
use Rattle.oz_script.specs.declared.lines.script.Script.{Script}
use Rattle.oz_loaded.specs.Loads.{IsLoaded}
use Rattle.oz_loaded.specs.Unseated.{UnseatedView}
use Rattle.oz_namespace.specs.declared.namespace.Namespace.{Namespace}
use Rattle.oz_names.specs.declared.limits.TheConstants.{STRIPES}
use Rattle.oz_headline.specs.Loads.{AreNodesFrom}
use Rattle.oz_headline.specs.Keeps.{HasRun}
use Rattle.oz_headline.specs.restored.laws.Images.{front_opens, image_opens}
use Rattle.oz_headline.specs.restored.laws.Whole.{all_stood}
use Rattle.oz_headline.specs.restored.Opens.{StandUpTo}
use Rattle.oz_headline.specs.restored.Together.{AllStood, together}
use Rattle.oz_rows.specs.RowMaps.{Rows, row_of}
use Rattle.oz_running.specs.declared.ran.Ran.{Ran}
use Rattle.oz_sound.specs.Sound.{IsSound}
use Rattle.oz_sound.specs.StandsFor.{StandsFor}
use Rattle.oz_loaded.specs.standing.Shown.{namespace_shown}
use Rattle.oz_headline.specs.Store.{IsStore}
use Rattle.oz_headline.specs.store_opening.Agreeing.{BlocksAgree}
use Rattle.oz_headline.specs.store_opening.Openings.{opening_bytes, opening_of}
use Rattle.oz_world.specs.Disk.{Seen, TellsAsBefore}
use Rattle.oz_world.specs.Moments.{Elapses, Spans}

opens_told : (opening : Opening) (story : List Event) (most : ℕ) (bodies : List (List ℕ)) (told : Option (List ℕ)) → IsSome told
    → IfSome told (λ bytes. IsJournal bytes bodies) → StandUpTo opening story bodies most → IsSomeAnd told (λ left. OpensAs opening story left most)
opens_told opening story most bodies None some journal stand = absurd (false≢true some)
opens_told opening story most bodies (Some left) some journal stand = (bodies, journal, stand)

-- ---- while the disk was loaded

module _ (before mounted after : Seen) (time : Elapses mounted.clock after.clock mounted.image after.image) where
  keeps : (bytes : List ℕ) → mounted.clock ≡ loaded_at before.clock bytes → Spans IsLeftAlone before.clock mounted.clock before.image mounted.image
      → LoadingKeeps before bytes after.image
  keeps bytes ended spans moment left from by h =
      let within : moment ≤ mounted.clock = omega (arith, by, ended) in
      let was = (time.kept moment left within).0 h in
      elim (cases_lt before.clock moment) [
        | inl later ↦ spans.made moment left later within was
        | inr first ↦
            let same : moment ≡ before.clock = omega (arith, first, from) in
            let at_first = (spans.elapses.kept moment left (omega (arith, same))).0 was in
            (left, subst (λ (n : ℕ). before.image n left) same at_first, inl refl)
      ]

  pub loading_keeps : (told : Option (List ℕ)) → IfSome told (λ bytes. mounted.clock ≡ loaded_at before.clock bytes)
      → IfSome told (λ bytes. IsLoadable bytes (before.image before.clock) → Spans IsLeftAlone before.clock mounted.clock before.image mounted.image)
      → IfSome told (λ bytes. IsLoadable bytes (before.image before.clock) → LoadingKeeps before bytes after.image)
  loading_keeps None ended moments = tt
  loading_keeps (Some bytes) ended moments = λ loadable. keeps bytes ended (moments loadable)

-- ---- where the disks agree

module _ {D : Type 0} (see : D → Seen) (script : Script) (others : OtherDisks D) (nodes : OtherNodes D) (before mounted : D) (ran : Ran D)
    (bodies : List (List ℕ)) (unseated : UnseatedView) (this : IsLoaded bodies unseated) (rows_are : rows_shown unseated.parts ≡ row_of this.all)
    (journal : IfSome (see mounted).told (λ bytes. IsJournal bytes bodies)) (telling : TellsAsBefore (see before).told (see mounted).told) (seats : ℕ) where
  abbrev contents : OpeningBytes
  contents = opening_bytes see nodes.datanodes

  abbrev Agree : Type 0
  Agree = ShowStore see unseated nodes.scm.made nodes.datanodes

  abbrev counts : Node → ℕ
  counts = counts_loaded see (see mounted).faults nodes

  abbrev Told : Opening → Rows → Type 0
  Told opening loaded = IsTold see Agree opening contents (bodies_shown (see mounted).told) script counts (see mounted) loaded seats nodes ran

  abbrev story : List Event
  story = ran.story.items

  abbrev after : D
  after = ran.journal.disk

  abbrev stopped : Bool
  stopped = ran.journal.stopped

  -- a coherent store is one as it shows itself
  pub shows : (namespace : Namespace) → namespace_shown unseated.parts ≡ namespace → AreNodesFrom see 0 others.datanodes nodes.datanodes
      → IsCoherentStore see others.datanodes (row_of this.all) (opening_of unseated namespace nodes.scm.made nodes.datanodes) contents → Agree
  shows namespace shown are coherent = record {
    stands = subst (λ (rows : Rows). StandsFor rows (namespace_shown unseated.parts)) (sym rows_are) (subst (StandsFor (row_of this.all)) (sym shown) coherent.stands);
    sound = subst IsSound (sym rows_are) coherent.sound;
    agree = subst (λ (rows : Rows). BlocksAgree rows (opening_shown unseated nodes.scm.made nodes.datanodes) contents) (sym rows_are)
        (subst (λ (n : Namespace). BlocksAgree (row_of this.all) (opening_of unseated n nodes.scm.made nodes.datanodes) contents) (sym shown) coherent.agree);
    told = told_still see 0 others.datanodes nodes.datanodes are coherent.told;
  }

  module _ (namespace : Namespace) (shown : namespace_shown unseated.parts ≡ namespace) (are : AreNodesFrom see 0 others.datanodes nodes.datanodes)
      (coherent : IsCoherentStore see others.datanodes (row_of this.all) (opening_of unseated namespace nodes.scm.made nodes.datanodes) contents)
      (store : IsStore (row_of this.all) (opening_of unseated namespace nodes.scm.made nodes.datanodes) contents)
      (fit : AreInGrammar (row_of this.all)) (its : Told (opening_of unseated namespace nodes.scm.made nodes.datanodes) (row_of this.all)) where
    abbrev opening : Opening
    opening = opening_of unseated namespace nodes.scm.made nodes.datanodes

    agree : Agree
    agree = shows namespace shown are coherent

    legal : IsLegal opening story
    legal = (its.headline agree before others).one_history.0

    run_of : (stripe : ℕ) → (rows : Rows) × (stripe < STRIPES → HasRun opening (row_of this.all) story stripe rows)
    run_of stripe = by (nat_lt stripe STRIPES) refl
      where
        by : (t : Bool) → nat_lt stripe STRIPES ≡ t → (rows : Rows) × (stripe < STRIPES → HasRun opening (row_of this.all) story stripe rows)
        by true is = let run = its.run.stood agree stripe (ltb-true stripe STRIPES is) in (run.0, λ less. run.1)
        by false is = (λ key. None, λ less. absurd (false≢true (sym is ∙ lt-ltb stripe STRIPES less)))

    rows : ℕ → Rows
    rows stripe = (run_of stripe).0

    runs : (stripe : ℕ) → stripe < STRIPES → HasRun opening (row_of this.all) story stripe (rows stripe)
    unfolding rows
    runs stripe less = (run_of stripe).1 less

    stood : AllStood opening (row_of this.all) story (together rows)
    stood = all_stood opening contents (row_of this.all) store fit story rows legal runs

    some_mounted : IsSome (see before).told → IsSome (see mounted).told
    some_mounted some = tells_still (see before).told (see mounted).told telling some

    some_after : IsSome (see before).told → IsSome (see after).told
    some_after some = tells_still (see mounted).told (see after).told its.run.kept.telling (some_mounted some)

    shown_bodies : IsSome (see before).told → bodies_shown (see mounted).told ≡ bodies
    shown_bodies some = told_shows (see mounted).told bodies (some_mounted some) journal

    -- all that the story took opens as the store after all that is flushed
    whole : stopped ≡ false → StandUpTo opening story (bodies ++ bodies_of story) (durable_index opening story)
    whole running =
        subst (StandUpTo opening story (bodies ++ bodies_of story)) (its.all_flushed agree running)
        (front_opens opening (row_of this.all) bodies this.all this.builds refl story legal (together rows) stood story [] (sym (append-nil story)))

    stable : stopped ≡ false → buffer_of story ≡ [] → durable_index opening story ≡ last_index opening story
    stable running none = sym (its.all_flushed agree running) ∙ its.all_taken agree none

    pub one_history : IsOneHistory see script before after stopped others nodes (left_by ran) opening contents (see mounted).faults (see mounted).clock story
    one_history = record {
      headline = its.headline agree before others;
      all_stable = stable;
      stops = λ some moment left from by h.
          image_opens opening (row_of this.all) bodies this.all this.builds refl story legal (together rows) stood moment left
          (subst (λ (l : List (List ℕ)). IsPrefix l story moment left) (shown_bodies some) (its.run.kept.stops agree (some_after some) moment left from by h));
      reopens = λ running some.
          opens_told opening story (durable_index opening story) (bodies ++ bodies_of story) (see after).told (some_after some)
          (subst (λ (l : List (List ℕ)). IfSome (see after).told (λ bytes. IsJournal bytes (l ++ bodies_of story))) (shown_bodies some) (its.run.kept.journal agree running))
          (whole running);
    }

  -- what the rows and the namespace show is what they are
  pub told_of : (namespace : Namespace) → namespace_shown unseated.parts ≡ namespace → Told (opening_shown unseated nodes.scm.made nodes.datanodes) (rows_shown unseated.parts)
      → Told (opening_of unseated namespace nodes.scm.made nodes.datanodes) (row_of this.all)
  told_of namespace shown told =
      subst (λ (n : Namespace). Told (opening_of unseated n nodes.scm.made nodes.datanodes) (row_of this.all)) shown
      (subst (λ (loaded : Rows). Told (opening_shown unseated nodes.scm.made nodes.datanodes) loaded) rows_are told)
