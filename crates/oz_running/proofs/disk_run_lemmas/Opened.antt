-- What was loaded is what a run opens by it.
use Rattle.std.proofs.Common.{◌≡◌, ℕ, List, length, map, Option, None, Some, IfSome, IsSome, refl, sym, subst}
use Rattle.std.proofs.lemmas.Bool.{false≢true}
use Rattle.std.proofs.lemmas.List.{length-map}
use Rattle.oz_datanode.specs.Datanode.{State as Datanode}
use Rattle.oz_core.specs.declared.opening.Opening.{Opening}
use Rattle.oz_core.specs.Contents.{OpeningBytes}
use Rattle.oz_decision.specs.Meets.{AreInGrammar}
use Rattle.oz_running.specs.disk_run.laws.Sounds.{but_renames}
use Rattle.oz_running.specs.disk_run.Shown.{ShowStore, bodies_shown, opening_shown, rows_shown}
use Rattle.oz_running.proofs.disk_run_lemmas.Bodies.{told_shows}
use Rattle.oz_scm.specs.grants.Made.{Made}
use Rattle.oz_journal.specs.Grammar.{IsJournal, TellsBodies}
use Rattle.oz_loaded.specs.Loads.{IsLoaded}
use Rattle.oz_loaded.specs.Unseated.{UnseatedView}
use Rattle.oz_namespace.specs.declared.namespace.Namespace.{Namespace}
use Rattle.oz_headline.specs.Keeps.{KeepsRows}
use Rattle.oz_headline.specs.Opens.{Opens}
use Rattle.oz_rows.specs.RowMaps.{Rows, row_of}
use Rattle.oz_sound.specs.Sound.{IsSoundButRenames}
use Rattle.oz_sound.specs.StandsFor.{StandsFor}
use Rattle.oz_loaded.specs.standing.Shown.{namespace_shown}
use Rattle.oz_headline.specs.Store.{IsStore}
use Rattle.oz_headline.specs.store_opening.Agreeing.{BlocksAgree}
use Rattle.oz_headline.specs.store_opening.Openings.{opened_node, opening_bytes, opening_of}
use Rattle.oz_world.specs.Disk.{Seen, TellsAsBefore}

module _ {D : Type 0} (see : D → Seen) (bodies : List (List ℕ)) (unseated : UnseatedView) (this : IsLoaded bodies unseated) (made : Made) (nodes : List (Datanode D))
    (rows_are : rows_shown unseated.parts ≡ row_of this.all) (fit : AreInGrammar (row_of this.all))
    (store : (namespace : Namespace) → StandsFor (row_of this.all) namespace → IsSoundButRenames (row_of this.all)
    → BlocksAgree (row_of this.all) (opening_of unseated namespace made nodes) (opening_bytes see nodes)
    → IsStore (row_of this.all) (opening_of unseated namespace made nodes) (opening_bytes see nodes)) where
  abbrev opening : Opening
  opening = opening_shown unseated made nodes

  abbrev contents : OpeningBytes
  contents = opening_bytes see nodes

  abbrev Agree : Type 0
  Agree = ShowStore see unseated made nodes

  pub opens : Opens Agree opening contents (rows_shown unseated.parts) unseated.last_index Agree (KeepsRows Agree opening (rows_shown unseated.parts))
  opens = record {
    last = refl;
    fit = subst AreInGrammar (sym rows_are) fit;
    store = λ agree. subst (λ (rows : Rows). IsStore rows opening contents) (sym rows_are)
        (store (namespace_shown unseated.parts) (subst (λ (rows : Rows). StandsFor rows (namespace_shown unseated.parts)) rows_are agree.stands) (subst IsSoundButRenames rows_are (but_renames (rows_shown unseated.parts) agree.sound))
        (subst (λ (rows : Rows). BlocksAgree rows opening contents) rows_are agree.agree));
    renames = λ agree. agree.sound.renames;
    agrees = (λ agree. agree, λ agree. agree);
    keeps = λ stripe mine seen now. (λ kept. kept, λ kept. kept);
  }

-- the bytes are a journal of the bodies that they show
pub shows_journal : (told : Option (List ℕ)) (bodies : List (List ℕ)) → IfSome told (λ bytes. IsJournal bytes bodies)
    → IfSome told (λ bytes. IsJournal bytes (bodies_shown told))
shows_journal None bodies journal = tt
shows_journal (Some bytes) bodies journal = subst (λ (l : List (List ℕ)). IsJournal bytes l) (sym (told_shows (Some bytes) bodies refl journal)) journal

-- what a disk tells after it was loaded is a journal of the bodies
pub tells_journal : (before after : Option (List ℕ)) (bodies : List (List ℕ)) → TellsAsBefore before after
    → IfSome before (λ bytes. IsJournal bytes bodies × TellsBodies after bodies) → IfSome after (λ bytes. IsJournal bytes bodies)
tells_journal None after bodies alike both = subst (λ (o : Option (List ℕ)). IfSome o (λ bytes. IsJournal bytes bodies)) (sym (alike.0 refl)) tt
tells_journal (Some bytes) None bodies alike both = absurd both.1
tells_journal (Some bytes) (Some others) bodies alike both = both.1

pub first_journal : (before after : Option (List ℕ)) (bodies : List (List ℕ))
    → IfSome before (λ bytes. IsJournal bytes bodies × TellsBodies after bodies) → IfSome before (λ bytes. IsJournal bytes bodies)
first_journal None after bodies both = tt
first_journal (Some bytes) after bodies both = both.0

-- a disk that tells its bytes tells some
pub told_some : (told : Option (List ℕ)) → IsSome told → (bytes : List ℕ) × (told ≡ Some bytes)
told_some None some = absurd (false≢true some)
told_some (Some bytes) some = (bytes, refl)

pub journal_at : (told : Option (List ℕ)) (P : List ℕ → Type 0) (bytes : List ℕ) → told ≡ Some bytes → IfSome told P → P bytes
journal_at told P bytes is holds = subst (λ (o : Option (List ℕ)). IfSome o P) is holds

pub node_count : {D : Type 0} (nodes : List (Datanode D)) → length (map (λ (node : Datanode D). opened_node node.blocks.held) nodes) ≡ length nodes
node_count {D} nodes = length-map nodes (λ (node : Datanode D). opened_node node.blocks.held)
