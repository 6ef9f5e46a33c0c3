-- What stops leave of a journal while the story goes on.
use Rattle.std.specs.Prelude.{false}
use Rattle.std.specs.List.{AllByRecursion}
use Rattle.std.proofs.Common.{◌≡◌, ◌⊎◌, inl, inr, ℕ, ◌≤◌, List, [], ◌∷◌, ◌++◌, sym, ap, ◌∙◌, subst, ⊎_elim, arith, append_assoc}
use Rattle.std.proofs.lemmas.Bool.{cases_lt, false≢true}
use Rattle.std.proofs.lemmas.List.{append-nil}
use Rattle.oz_core.specs.declared.event.Event.{Event}
use Rattle.oz_core.specs.declared.event.EventKind.{EventKind}
use Rattle.oz_core.specs.declared.event.EventKind.TheVariants.{Flushed}
use Rattle.oz_flusher.specs.Stops.{IsLater, IsPrefix, StopsHold}
use Rattle.oz_flusher.specs.Steps.{by_flusher, swap_event}
use Rattle.oz_flusher.specs.Taken.{bodies_of}
use Rattle.oz_flusher.proofs.Own.{is_ours, AreOthers}
use Rattle.oz_journal.specs.Grammar.{IsJournal}
use Rattle.oz_journal.specs.Journal.{IsBeforeOrAfter}
use Rattle.oz_world.specs.Disk.{Images}
use Rattle.oz_world.specs.Moments.{Elapses, LeavesOnly}

abbrev pub AreLater : ℕ → List Event → Type 0
AreLater moment story = AllByRecursion (λ (event : Event). IsLater moment event.kind) story

later_other : (moment : ℕ) (kind : EventKind) → is_ours kind ≡ false → IsLater moment kind
later_other moment (Flushed index at) not = absurd (false≢true (sym not))
later_other moment kind not = tt

pub later_others : (moment : ℕ) (more : List Event) → AreOthers more → AreLater moment more
later_others moment [] others = tt
later_others moment (event ∷ more) others = (later_other moment event.kind others.0, later_others moment more others.1)

pub later_append : (moment : ℕ) (xs ys : List Event) → AreLater moment xs → AreLater moment ys → AreLater moment (xs ++ ys)
later_append moment [] ys one two = two
later_append moment (event ∷ xs) ys one two = (one.0, later_append moment xs ys one.1 two)

-- the story goes on by what is later
pub prefix_longer : (loaded : List (List ℕ)) (story more all : List Event) (moment : ℕ) (left : List ℕ) → all ≡ story ++ more → AreLater moment more
    → IsPrefix loaded story moment left → IsPrefix loaded all moment left
prefix_longer loaded story more all moment left is later prefix = record {
  front = prefix.front;
  behind = prefix.behind ++ more;
  parts = is ∙ (ap (λ l. l ++ more) prefix.parts ∙ append_assoc prefix.front prefix.behind more);
  journal = prefix.journal;
  later = later_append moment prefix.behind more prefix.later later;
}

-- others' events change nothing
pub stops_longer : (loaded : List (List ℕ)) (story more all : List Event) (first last : ℕ) (image : Images) → all ≡ story ++ more → AreOthers more
    → StopsHold loaded story first last image → StopsHold loaded all first last image
stops_longer loaded story more all first last image is others hold moment left from by h =
    prefix_longer loaded story more all moment left is (later_others moment more others) (hold moment left from by h)

module _ (loaded : List (List ℕ)) (seen before more0 more all : List Event) (index : ℕ) (kind : EventKind) (body : List ℕ) (first now later : ℕ) (old new : Images) where
  -- a flush, by what it leaves at each moment
  pub stops_flushed :
      before ≡ seen ++ more0 → AreOthers more0 → AreOthers more → all ≡ ((before ++ swap_event index ∷ []) ++ more) ++ by_flusher kind ∷ []
      → bodies_of before ≡ bodies_of seen → bodies_of all ≡ bodies_of seen ++ body ∷ []
      → Elapses now later old new → LeavesOnly (IsBeforeOrAfter (loaded ++ bodies_of seen) body) now later new
      → ((moment : ℕ) → moment ≤ now → IsLater moment kind)
      → ((moment : ℕ) (left : List ℕ) → moment ≤ later → new moment left → IsLater moment kind ⊎ IsJournal left ((loaded ++ bodies_of seen) ++ body ∷ []))
      → StopsHold loaded seen first now old → StopsHold loaded all first later new
  stops_flushed goes others0 others is same taken elapses leaves earlier at_end hold moment left from by h = elim (cases_lt now moment) [
    | inl after ↦ ⊎_elim
        (λ (none : IsJournal left (loaded ++ bodies_of seen)). ⊎_elim
        (λ (behind : IsLater moment kind). without none behind)
        (λ (whole : IsJournal left ((loaded ++ bodies_of seen) ++ body ∷ [])). with whole)
        (at_end moment left by h))
        (λ (one : IsJournal left ((loaded ++ bodies_of seen) ++ body ∷ [])). with one)
        (leaves moment left (omega (arith, after)) by h)
    | inr sooner ↦ prefix_longer loaded seen (more0 ++ rest) all moment left parts (later_append moment more0 rest (later_others moment more0 others0) (rest_later (earlier moment sooner))) (hold moment left from sooner ((elapses.kept moment left sooner).0 h))
  ]
    where
      rest : List Event
      rest = swap_event index ∷ (more ++ by_flusher kind ∷ [])

      behind_is : all ≡ before ++ rest
      behind_is = is ∙ (append_assoc (before ++ swap_event index ∷ []) more (by_flusher kind ∷ []) ∙ append_assoc before (swap_event index ∷ []) (more ++ by_flusher kind ∷ []))

      parts : all ≡ seen ++ (more0 ++ rest)
      parts = behind_is ∙ (ap (λ (l : List Event). l ++ rest) goes ∙ append_assoc seen more0 rest)

      rest_later : IsLater moment kind → AreLater moment rest
      rest_later ends = (tt, later_append moment more (by_flusher kind ∷ []) (later_others moment more others) (ends, tt))

      without : IsJournal left (loaded ++ bodies_of seen) → IsLater moment kind → IsPrefix loaded all moment left
      without none behind = record {
        front = before;
        behind = rest;
        parts = behind_is;
        journal = subst (λ (l : List (List ℕ)). IsJournal left (loaded ++ l)) (sym same) none;
        later = rest_later behind;
      }

      with : IsJournal left ((loaded ++ bodies_of seen) ++ body ∷ []) → IsPrefix loaded all moment left
      with one = record {
        front = all;
        behind = [];
        parts = sym (append-nil all);
        journal = subst (λ (l : List (List ℕ)). IsJournal left l) (append_assoc loaded (bodies_of seen) (body ∷ []) ∙ ap (λ (l : List (List ℕ)). loaded ++ l) (sym taken)) one;
        later = tt;
      }
