-- Who is up, in the order of numbers, and one of them anew.
use Rattle.std.specs.Prelude.{◌==◌, Bool, true, false, slice_set, replicate}
use Rattle.std.proofs.Common.{◌≡◌, ℕ, ◌<◌, List, [], ◌∷◌, ◌++◌, length, None, Some, get_or, refl, sym, ap, ◌∙◌, cond, arith}
use Rattle.std.proofs.lemmas.Bool.{eqb-true, eqb-false, eq-eqb}
use Rattle.std.proofs.lemmas.List.{length-set, length-replicate, get_or-replicate, get_or-set_same, get_or-set_other}
use Rattle.std.proofs.lemmas.List.FromFn.{length-map-range_with_len, get_or-map-range_with_len, fill_by_all}
use Rattle.oz_buffer.specs.laws.Following.{told-push}
use Rattle.oz_core.specs.declared.event.Event.{Event}
use Rattle.oz_core.specs.declared.opening.Opening.{Opening}
use Rattle.oz_core.specs.Scm.{is_up, up_or_down, ups}
use Rattle.oz_core.specs.Stories.{newer}
use Rattle.oz_nodes.specs.Pipelines.{is_node_up}
use Rattle.oz_scm_events.specs.Granted.{by_scm}
use Rattle.oz_scm_events.specs.Tracked.{up_event}

pub length_ups : (opening : Opening) (story : List Event) → length (ups opening story) ≡ length opening.nodes
length_ups opening story = length-map-range_with_len (λ dn. is_up dn story) 0 (length opening.nodes)

pub one_of_ups : (opening : Opening) (story : List Event) (dn : ℕ) → dn < length opening.nodes → is_node_up (ups opening story) dn ≡ is_up dn story
one_of_ups opening story dn there = get_or-map-range_with_len (λ dn. is_up dn story) 0 (length opening.nodes) dn dn false there (omega arith)

pub all_up : (opening : Opening) → replicate (length opening.nodes) true ≡ ups opening []
all_up opening =
    let n = length opening.nodes in
    fill_by_all (λ dn. is_up dn []) (replicate n true) n false (length-replicate n true) (λ k lt. get_or-replicate n k true false lt)

told_up : (dn : ℕ) (up : Bool) (k : ℕ) → up_or_down k (up_event dn up) ≡ cond (dn == k) (Some up) None
told_up dn true k = refl
told_up dn false k = refl

up_after : (story : List Event) (dn : ℕ) (up : Bool) (k : ℕ) → is_up k (story ++ by_scm (up_event dn up) ∷ []) ≡ cond (dn == k) up (is_up k story)
up_after story dn up k = told-push (up_or_down k) true story (by_scm (up_event dn up)) ∙ ap (λ o. newer o (is_up k story)) (told_up dn up k) ∙ by (dn == k)
  where
    by : (t : Bool) → newer (cond t (Some up) None) (is_up k story) ≡ cond t up (is_up k story)
    by true = refl
    by false = refl

pub is_so : (story : List Event) (dn : ℕ) (up : Bool) → is_up dn (story ++ by_scm (up_event dn up) ∷ []) ≡ up
is_so story dn up = up_after story dn up dn ∙ ap (λ t. cond t up (is_up dn story)) (eq-eqb dn dn refl)

pub ups_after : (opening : Opening) (story : List Event) (dn : ℕ) (up : Bool) → dn < length opening.nodes
    → slice_set (ups opening story) dn up ≡ ups opening (story ++ by_scm (up_event dn up) ∷ [])
ups_after opening story dn up there =
    let n = length opening.nodes in
    let old = ups opening story in
    fill_by_all (λ k. is_up k (story ++ by_scm (up_event dn up) ∷ [])) (slice_set old dn up) n false (length-set old dn up ∙ length_ups opening story)
    (λ k lt. by k lt (dn == k) refl)
  where
    by : (k : ℕ) → k < length opening.nodes → (t : Bool) → (dn == k) ≡ t → get_or (slice_set (ups opening story) dn up) k false ≡ is_up k (story ++ by_scm (up_event dn up) ∷ [])
    by k lt true is =
        let same = eqb-true dn k is in
        ap (λ j. get_or (slice_set (ups opening story) dn up) j false) (sym same)
        ∙ get_or-set_same (ups opening story) dn up false (omega (arith, there, length_ups opening story))
        ∙ sym (up_after story dn up k ∙ ap (λ t. cond t up (is_up k story)) is)
    by k lt false not =
        get_or-set_other (ups opening story) dn k up false (λ e. eqb-false dn k not (sym e))
        ∙ one_of_ups opening story k lt
        ∙ sym (up_after story dn up k ∙ ap (λ t. cond t up (is_up k story)) not)

-- where it was so already, nothing changes
pub set_again : (opening : Opening) (story : List Event) (dn : ℕ) (up : Bool) → dn < length opening.nodes → is_up dn story ≡ up
    → slice_set (ups opening story) dn up ≡ ups opening story
set_again opening story dn up there is =
    let n = length opening.nodes in
    let old = ups opening story in
    fill_by_all (λ k. is_up k story) (slice_set old dn up) n false (length-set old dn up ∙ length_ups opening story)
    (λ k lt. by k lt (dn == k) refl)
  where
    by : (k : ℕ) → k < length opening.nodes → (t : Bool) → (dn == k) ≡ t → get_or (slice_set (ups opening story) dn up) k false ≡ is_up k story
    by k lt true same =
        let e = eqb-true dn k same in
        ap (λ j. get_or (slice_set (ups opening story) dn up) j false) (sym e)
        ∙ get_or-set_same (ups opening story) dn up false (omega (arith, there, length_ups opening story))
        ∙ sym is ∙ ap (λ j. is_up j story) e
    by k lt false not =
        get_or-set_other (ups opening story) dn k up false (λ e. eqb-false dn k not (sym e))
        ∙ one_of_ups opening story k lt
