-- What is kept stays where the story goes on by others' events.
use Rattle.std.specs.Prelude.{Bool, false}
use Rattle.std.specs.List.{AllByRecursion}
use Rattle.std.proofs.Common.{◌≡◌, ℕ, List, [], ◌∷◌, ◌++◌, IfSome, refl, sym, ap, ◌∙◌, subst, append_assoc}
use Rattle.std.proofs.lemmas.Bool.{false≢true}
use Rattle.oz_buffer.specs.Buffer.{AllFollow, Follows}
use Rattle.oz_core.specs.declared.event.Event.{Event}
use Rattle.oz_core.specs.declared.event.EventKind.{EventKind}
use Rattle.oz_core.specs.declared.event.EventKind.TheVariants.{Swap, Flushed}
use Rattle.oz_core.specs.declared.opening.Opening.{Opening}
use Rattle.oz_core.specs.Contents.{OpeningBytes}
use Rattle.oz_flusher.specs.Stops.{IsLater, IsPrefix}
use Rattle.oz_flusher.specs.Taken.{body_taken, bodies_from, bodies_of}
use Rattle.oz_flusher.specs.flushing.Kept.{IsKept}
use Rattle.oz_flusher.proofs.flushing_lemmas.Own.{is_ours, AreOurs, AreOthers, own, others_more}
use Rattle.oz_flusher.proofs.flushing_lemmas.Telling.{ours_all}
use Rattle.oz_journal.specs.Grammar.{IsJournal}
use Rattle.oz_script.specs.declared.lines.script.Script.{Script}
use Rattle.oz_turn.specs.Told.{BeginsWith}
use Rattle.oz_world.specs.Disk.{Seen}

later_other : (moment : ℕ) (kind : EventKind) → is_ours kind ≡ false → IsLater moment kind
later_other moment (Flushed index at) not = absurd (false≢true (sym not))
later_other moment kind not = tt

abbrev AreLater : ℕ → List Event → Type 0
AreLater moment story = AllByRecursion (λ (event : Event). IsLater moment event.kind) story

later_more : (moment : ℕ) (behind more : List Event) → AreLater moment behind → AreOthers more → AreLater moment (behind ++ more)
later_more moment [] [] later others = tt
later_more moment [] (event ∷ more) later others = (later_other moment event.kind others.0, later_more moment [] more tt others.1)
later_more moment (event ∷ behind) more later others = (later.0, later_more moment behind more later.1 others)

takes_no_body : (before : List Event) (kind : EventKind) → is_ours kind ≡ false → body_taken before kind ≡ []
takes_no_body before (Swap index) not = absurd (false≢true (sym not))
takes_no_body before kind not = refl

no_bodies : (before more : List Event) → AreOthers more → bodies_from before more ≡ []
unfolding bodies_from
no_bodies before [] others = refl
no_bodies before (event ∷ more) others =
    ap (λ l. l ++ bodies_from (before ++ event ∷ []) more) (takes_no_body before event.kind others.0) ∙ no_bodies (before ++ event ∷ []) more others.1

same_from : (before seen more : List Event) → AreOthers more → bodies_from before (seen ++ more) ≡ bodies_from before seen
unfolding bodies_from
same_from before [] more others = no_bodies before more others
same_from before (event ∷ seen) more others = ap (λ l. body_taken before event.kind ++ l) (same_from (before ++ event ∷ []) seen more others)

module _ (loaded : List (List ℕ)) (seen more story : List Event) (goes : story ≡ seen ++ more) (others : AreOthers more) where
  same_bodies : bodies_of story ≡ bodies_of seen
  same_bodies = ap bodies_of goes ∙ same_from [] seen more others

  prefix_longer : (moment : ℕ) (left : List ℕ) → IsPrefix loaded seen moment left → IsPrefix loaded story moment left
  prefix_longer moment left prefix = record {
    front = prefix.front;
    behind = prefix.behind ++ more;
    parts = goes ∙ (ap (λ l. l ++ more) prefix.parts ∙ append_assoc prefix.front prefix.behind more);
    journal = prefix.journal;
    later = later_more moment prefix.behind more prefix.later others;
  }

module _ (Coherent : Type 0) (opening : Opening) (bytes : OpeningBytes) (script : Script) (loaded : List (List ℕ)) (begun : Seen) (stopped : Bool) (seen mine story : List Event) (disk : Seen) where
  pub kept_longer : IsKept Coherent opening loaded begun stopped seen mine disk → BeginsWith story seen → own story ≡ mine
      → AllFollow (Follows Coherent opening bytes script) [] story → IsKept Coherent opening loaded begun stopped story mine disk
  kept_longer kept begins known all = record {
    own = known;
    halt = kept.halt;
    rose = kept.rose;
    no_fewer = kept.no_fewer;
    all_flushed = kept.all_flushed;
    by_now = kept.by_now;
    telling = kept.telling;
    time = kept.time;
    journal = λ coherent running. subst (λ (l : List (List ℕ)). IfSome disk.told (λ bytes. IsJournal bytes (loaded ++ l)))
        (sym (same_bodies loaded seen begins.0 story begins.1 (others coherent))) (kept.journal coherent running);
    stops = λ coherent told moment left from by h. prefix_longer loaded seen begins.0 story begins.1 (others coherent) moment left (kept.stops coherent told moment left from by h);
  }
    where
      others : Coherent → AreOthers begins.0
      others coherent =
          let ours = ours_all Coherent opening bytes script coherent story all in
          others_more seen begins.0 (subst AreOurs begins.1 ours) (ap own (sym begins.1) ∙ (known ∙ sym kept.own))

  pub kept_longer_as : (mine_after : List Event) → mine_after ≡ mine → IsKept Coherent opening loaded begun stopped seen mine disk → BeginsWith story seen → own story ≡ mine_after
      → AllFollow (Follows Coherent opening bytes script) [] story → IsKept Coherent opening loaded begun stopped story mine_after disk
  kept_longer_as mine_after same kept begins known all =
      subst (λ (l : List Event). IsKept Coherent opening loaded begun stopped story l disk) (sym same) (kept_longer kept begins (known ∙ same) all)
