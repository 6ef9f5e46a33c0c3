-- The flusher's own events, one flush after another.
use Rattle.std.proofs.Common.{◌≡◌, ℕ, List, [], ◌∷◌, ◌++◌, Option, None, Some, sym, ap, ◌∙◌}
use Rattle.std.proofs.lemmas.List.{append-nil}
use Rattle.std.proofs.lemmas.List.Elements.{filter_map-append}
use Rattle.std.proofs.lemmas.List.Sums.{fold-append}
use Rattle.oz_buffer.specs.laws.Following.{told-push}
use Rattle.oz_core.specs.declared.event.Event.{Event}
use Rattle.oz_core.specs.declared.event.Node.TheVariants.{Manager}
use Rattle.oz_core.specs.declared.opening.Opening.{Opening}
use Rattle.oz_core.specs.Manager.{taken_index, stable_index, stable_moment, halt_count, swapped_index, durable_index, halt_of, flushed_moment}
use Rattle.oz_core.specs.Stories.{all_told, last_in}
use Rattle.oz_flusher.specs.Quiet.{IsSettled}
use Rattle.oz_flusher.specs.Steps.{swap_event, flushed_event}

-- what was told of moments, after one more
pub moment-push : (story : List Event) (index moment : ℕ) → flushed_moment (story ++ flushed_event index moment ∷ []) ≡ Some moment
moment-push story index moment =
    ap (λ (l : List ℕ). last_in l) (filter_map-append (λ (event : Event). stable_moment event.kind) story (flushed_event index moment ∷ []))
    ∙ fold-append (λ (before : Option ℕ) (x : ℕ). Some x) None (all_told stable_moment story) (moment ∷ [])

pub moment_kept : (story : List Event) (index : ℕ) → flushed_moment (story ++ swap_event index ∷ []) ≡ flushed_moment story
moment_kept story index =
    ap (λ (l : List ℕ). last_in l) (filter_map-append (λ (event : Event). stable_moment event.kind) story (swap_event index ∷ []) ∙ append-nil (all_told stable_moment story))

-- a Swap and the Flushed of it leave all flushed
pub settled_flushed : (opening : Opening) (mine : List Event) (index moment : ℕ) → IsSettled opening mine → IsSettled opening ((mine ++ swap_event index ∷ []) ++ flushed_event index moment ∷ [])
settled_flushed opening mine index moment was =
    let one = mine ++ swap_event index ∷ [] in record {
      all_flushed =
          told-push taken_index opening.last_index one (flushed_event index moment)
          ∙ (told-push taken_index opening.last_index mine (swap_event index) ∙ sym (told-push stable_index opening.last_index one (flushed_event index moment)));
      unhalted = told-push (halt_count Manager) None one (flushed_event index moment) ∙ (told-push (halt_count Manager) None mine (swap_event index) ∙ was.unhalted);
    }

pub unhalted_swapped : (mine : List Event) (index : ℕ) → halt_of Manager mine ≡ None → halt_of Manager (mine ++ swap_event index ∷ []) ≡ None
unhalted_swapped mine index was = told-push (halt_count Manager) None mine (swap_event index) ∙ was

pub swapped_last : (opening : Opening) (mine : List Event) (index : ℕ) → swapped_index opening (mine ++ swap_event index ∷ []) ≡ index
swapped_last opening mine index = told-push taken_index opening.last_index mine (swap_event index)

pub durable_kept : (opening : Opening) (mine : List Event) (index : ℕ) → durable_index opening (mine ++ swap_event index ∷ []) ≡ durable_index opening mine
durable_kept opening mine index = told-push stable_index opening.last_index mine (swap_event index)
